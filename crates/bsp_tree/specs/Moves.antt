-- The nodes of a solid, with their faces over another table.
use Rattle.std.specs.Prelude.{◌≡◌, ℕ, List}
use Rattle.plane_predicate.specs.Space.{Coefficients}
use Rattle.link_forest.specs.declared.link.Link.{Link}
use Rattle.link_forest.specs.declared.link.NodeId.{NodeId}
use Rattle.link_forest.specs.declared.forest.Entry.{Entry}
use Rattle.link_forest.specs.Forests.{IsNode}
use Rattle.plane_table.specs.declared.faces.Face.{Face}
use Rattle.plane_table.specs.Faces.{outline_of, IsFaceOver}
use Rattle.bsp_tree.specs.Shapes.{AreFacesOver}
use Rattle.bsp_tree.specs.Growths.{Sheet}
use Rattle.bsp_tree.specs.Copies.{AreFoundOver}

-- nodes over planes of their own, and the planes over which their faces are given
pub record MovedSheet : Type 0 where
  pub own : Sheet
  pub planes : List Coefficients

-- each node has a face over the own planes, and what its face names has numbers over the other ones
pub record AreMoved (planes : List Coefficients) (numbers : List ℕ) (from : List Coefficients) (nodes : List (Entry Face)) : Type 0 where
  pub faces : AreFacesOver from nodes
  pub found : AreFoundOver planes numbers from nodes

-- a node's links, and a face over the other planes that has the outline of the node's own
pub record IsMovedNode (moved : MovedSheet) (id : NodeId) (face : Face) (behind ahead : Link) : Type 0 where
  pub own : Face
  pub node : IsNode moved.own.nodes id own behind ahead
  pub outline : outline_of moved.planes face ≡ outline_of moved.own.planes own
  pub over : IsFaceOver moved.planes face
