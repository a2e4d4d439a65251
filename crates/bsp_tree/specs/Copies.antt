-- Nodes that stand over another table.
use Rattle.std.specs.Prelude.{◌≡◌, ℕ, ◌≤◌, ◌<◌, Bool, Some, List, length, slice_get}
use Rattle.plane_predicate.specs.Space.{Coefficients}
use Rattle.link_forest.specs.declared.link.Link.{Link}
use Rattle.link_forest.specs.declared.forest.Entry.{Entry}
use Rattle.link_forest.specs.Forests.{least_nodes}
use Rattle.plane_table.specs.declared.faces.Face.{Face}
use Rattle.plane_table.specs.Joins.{AreNumbersFound, AreMarkedUsed}
use Rattle.bsp_tree.specs.Shapes.{tree_at_link}
use Rattle.bsp_tree.specs.Growths.{Sheet, tree_on}

-- the node of a number has the links of this node
pub record HasLinksOf (nodes : List (Entry Face)) (index : ℕ) (node : Entry Face) : Type 0 where
  pub own : Entry Face
  pub there : slice_get nodes index ≡ Some own
  pub behind : own.behind ≡ node.behind
  pub ahead : own.ahead ≡ node.ahead

-- the first nodes of a forest over some planes stand on the sheet, under the same numbers, with the same links and trees
pub record AreCopied (planes : List Coefficients) (nodes : List (Entry Face)) (count : ℕ) (sheet : Sheet) : Type 0 where
  pub count_is : length sheet.nodes ≡ count
  pub links : (index : ℕ) (node : Entry Face) → index < count → slice_get nodes index ≡ Some node → HasLinksOf sheet.nodes index node
  pub trees : (link : Link) → least_nodes link ≤ count → tree_on sheet link ≡ tree_at_link planes nodes link

-- each plane that a node's face names is marked as used
pub record AreUsed (sheet : Sheet) (used : List Bool) : Type 0 where
  pub same : length used ≡ length sheet.planes
  pub marked : (index : ℕ) (entry : Entry Face) → slice_get sheet.nodes index ≡ Some entry → AreMarkedUsed used entry.payload

-- the planes that each node's face names have numbers over other planes
pub record AreFoundOver (planes : List Coefficients) (numbers : List ℕ) (from : List Coefficients) (nodes : List (Entry Face)) : Type 0 where
  pub count : length numbers ≡ length from
  pub each : (index : ℕ) (entry : Entry Face) → slice_get nodes index ≡ Some entry → AreNumbersFound planes numbers from entry.payload
