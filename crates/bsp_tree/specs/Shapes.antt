-- The tree that a solid of the program stands for.
use Rattle.std.specs.Prelude.{◌≡◌, ℕ, Bool, true, false, Some, List, slice_get}
use Rattle.plane_predicate.specs.Space.{Coefficients}
use Rattle.link_forest.specs.declared.link.Link.{Link}
use Rattle.link_forest.specs.declared.forest.Entry.{Entry}
use Rattle.link_forest.specs.Forests.{Branch, end, fork, tree_at, IsLinkOf, AreReached}
use Rattle.plane_table.specs.declared.faces.Face.{Face}
use Rattle.plane_table.specs.Tables.{HasNoTwoAlike}
use Rattle.plane_table.specs.Faces.{outline_of, IsFaceOver}
use Rattle.bsp_tree.specs.Trees.{BspTree, inside, outside, node}

-- a leaf inside or outside a solid
abbrev pub leaf_of : Bool → BspTree
leaf_of true = inside
leaf_of false = outside

-- the tree of a branch of faces, with each number replaced by the plane that it names
abbrev pub tree_of_branch : List Coefficients → Branch Face → BspTree
tree_of_branch planes (end side) = leaf_of side
tree_of_branch planes (fork face behind ahead) =
    node (outline_of planes face) (tree_of_branch planes behind) (tree_of_branch planes ahead)

-- the tree at a link of a forest of faces
abbrev pub tree_at_link : List Coefficients → List (Entry Face) → Link → BspTree
tree_at_link planes nodes link = tree_of_branch planes (tree_at nodes link)

-- a solid as contracts see it: a table of planes, a forest of faces over it, and the link at which its tree begins
pub record SolidParts : Type 0 where
  pub planes : List Coefficients
  pub nodes : List (Entry Face)
  pub root : Link

-- the tree of a solid
unfoldable pub tree_of : SolidParts → BspTree
tree_of solid = tree_at_link solid.planes solid.nodes solid.root

-- each node has a face over the planes
pub record AreFacesOver (planes : List Coefficients) (nodes : List (Entry Face)) : Type 0 where
  pub each : (index : ℕ) (entry : Entry Face) → slice_get nodes index ≡ Some entry → IsFaceOver planes entry.payload

-- what a solid keeps: no two planes of its table are equal or opposite, each node has a face over them, and is reached
-- from the root
pub record IsWholeSolid (solid : SolidParts) : Type 0 where
  pub apart : HasNoTwoAlike solid.planes
  pub faces : AreFacesOver solid.planes solid.nodes
  pub root : IsLinkOf solid.nodes solid.root
  pub reached : AreReached solid.nodes solid.root
