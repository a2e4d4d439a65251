-- Trees whose nodes are a range of a list of nodes, and what moves such a range.
use Rattle.std.specs.Prelude.{◌≡◌, ℕ, ◌+◌, ◌-◌, ◌≤◌, Bool, Some, List, length, slice_get}
use Rattle.link_forest.specs.declared.link.Link.{Link}
use Rattle.link_forest.specs.declared.link.Link.TheVariants.{End, To}
use Rattle.link_forest.specs.declared.link.NodeId.{NodeId}
use Rattle.link_forest.specs.declared.forest.Entry.{Entry}
use Rattle.link_forest.specs.Forests.{node_id, IsNode}
use Rattle.bsp_tree.specs.Growths.{SolidGrowth}

-- The nodes from the first number on and before the second are just those of the tree at the link, in post-order: those
-- behind, then those ahead, then its own. An end has none.
pub data Spans {A : Type 0} (nodes : List (Entry A)) : ℕ → Link → ℕ → Type 0 where
  none : (at : ℕ) (side : Bool) → Spans nodes at (End side) at
  all : (first middle : ℕ) (id : NodeId) (payload : A) (behind ahead : Link) → IsNode nodes id payload behind ahead →
      Spans nodes first behind middle → Spans nodes middle ahead id.index → Spans nodes first (To id) (id.index + 1)

-- a number for each of the first nodes, or for all: from that number on up to its node stand the nodes of that node's tree
pub record AreFirsts {A : Type 0} (nodes : List (Entry A)) (firsts : List ℕ) : Type 0 where
  pub each : (id : NodeId) (first : ℕ) → slice_get firsts id.index ≡ Some first → Spans nodes first (To id) (id.index + 1)

-- the link that reaches as far back from the second number as this one does from the first
abbrev pub link_shifted_by : Link → ℕ → ℕ → Link
link_shifted_by (End side) from to = End side
link_shifted_by (To id) from to = To (node_id (to - (from - id.index)))

-- a link can be shifted so: its node has at most the first number, and the second one is at least as large as the distance
-- between them
abbrev pub CanShift : Link → ℕ → ℕ → Type 0
CanShift (End side) from to = Unit {0}
CanShift (To id) from to = (id.index ≤ from) × (from ≤ to + id.index)

-- one node was added after the others, and the link leads to it
pub record HasOneNodeMore (old new : SolidGrowth) (link : Link) : Type 0 where
  pub planes : new.sheet.planes ≡ old.sheet.planes
  pub leads : link ≡ To (node_id (length old.sheet.nodes))
  pub count : length new.sheet.nodes ≡ length old.sheet.nodes + 1
