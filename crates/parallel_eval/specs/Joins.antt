-- The solid of a join, asked of a memo, and what is counted for joins.
use Rattle.std.specs.Prelude.{◌≡◌, ℕ, ◌+◌, ◌^◌, ◌≤◌, ◌<◌, List, Result, Ok, Err}
use Rattle.std.specs.Arc.{arc_value}
use Rattle.std.specs.declared.sync.Arc.{Arc}
use Rattle.csg_tree.specs.declared.op.Op.{Op}
use Rattle.csg_tree.specs.HalfSpaceTrees.{Tree, tree_join}
use Rattle.csg_tree.specs.Numberings.{HasNumber}
use Rattle.bsp_tree.specs.Shapes.{SolidParts, tree_of}
use Rattle.bsp_tree.specs.Trees.{BspTree, size}
use Rattle.bsp_boolean.specs.Solids.{solid_of}
use Rattle.bsp_boolean.specs.TreeSolids.{most_solid_size, one_if_join}
use Rattle.bsp_boolean.specs.declared.leaf_building.BuildStop.{BuildStop}
use Rattle.bsp_boolean.specs.declared.leaf_building.BuildStop.TheVariants.{TooBig, NoMemory}
use Rattle.subtree_memo.specs.Shares.{ShareView, probes_of, offers_of, dropped_max}

-- a tree is the join of two others, which have these solids
abbrev pub IsJoinOf : Op → BspTree → BspTree → Tree → Type 0
IsJoinOf op left right tree =
    (first : Tree) × (second : Tree) × (tree ≡ tree_join op first second)
    × (left ≡ solid_of first) × (right ≡ solid_of second)

-- a tree is a join that stands among some trees
abbrev pub IsJoinAmong : List Tree → Tree → Type 0
IsJoinAmong trees tree = (one_if_join tree ≡ 1) × ((n : ℕ) × HasNumber trees tree n)

-- each join among some trees may be asked for
pub record MayAskJoins (may_ask : Tree → Type 0) (trees : List Tree) : Type 0 where
  pub each : (tree : Tree) → IsJoinAmong trees tree → may_ask tree

-- What is given where a solid is wanted: the solid where its size is within the limit of one, and else that it
-- is too big. Memory may run out at any time.
module _ {Z : Type 0} where
  abbrev pub GivesSolid : BspTree → Result (Arc SolidParts Z) BuildStop → Type 0
  GivesSolid wanted (Ok solid) = (tree_of (arc_value solid) ≡ wanted) × (size wanted ≤ most_solid_size)
  GivesSolid wanted (Err TooBig) = most_solid_size < size wanted
  GivesSolid wanted (Err NoMemory) = Unit {0}

-- what is given where a solid is built for two holders
module _ {Z : Type 0} where
  abbrev pub AreBuilt : BspTree → Result (Arc SolidParts Z × Arc SolidParts Z) BuildStop → Type 0
  AreBuilt wanted (Ok made) =
      (tree_of (arc_value made.0) ≡ wanted) × (arc_value made.1 ≡ arc_value made.0) × (size wanted ≤ most_solid_size)
  AreBuilt wanted (Err TooBig) = most_solid_size < size wanted
  AreBuilt wanted (Err NoMemory) = Unit {0}

-- a share and a builder with this count may take up one join more
pub record MayTakeJoin (share : ShareView) (count : ℕ) : Type 0 where
  pub parts : 0 < share.parts
  pub dropped : share.dropped < dropped_max
  pub builds : count < 2 ^ 48

-- From one number of joins to another they were answered: each was one probe, and each miss was one build
-- and one fill that was offered.
pub record AreAnswered (before after : ℕ) (share share' : ShareView) (count count' : ℕ) : Type 0 where
  pub probes : probes_of share' + before ≡ probes_of share + after
  pub builds : count' + share.misses ≡ count + share'.misses
  pub offered : offers_of share' + share.misses ≡ offers_of share + share'.misses

-- From one number of joins to another they were begun, or some of them: each was at most one probe, and each
-- miss at most one build and one fill that was offered. No number of the share falls.
pub record AreBegun (before after : ℕ) (share share' : ShareView) (count count' : ℕ) : Type 0 where
  pub order : before ≤ after
  pub hits : share.hits ≤ share'.hits
  pub misses : share.misses ≤ share'.misses
  pub kept : share.kept ≤ share'.kept
  pub heavy : share.heavy ≤ share'.heavy
  pub dropped : share.dropped ≤ share'.dropped
  pub probes : probes_of share' + before ≤ probes_of share + after
  pub builds : count' + share.misses ≤ count + share'.misses
  pub offered : offers_of share' + share.misses ≤ offers_of share + share'.misses

-- What was there before and after joins were asked for, from one number of them to another: they were begun,
-- and where all is done, answered. The share is the same caller's, with as many parts.
pub record AreAsked (done : Type 0) (before after : ℕ) (share share' : ShareView) (count count' : ℕ) : Type 0 where
  pub caller : share'.caller ≡ share.caller
  pub parts : share'.parts ≡ share.parts
  pub begun : AreBegun before after share share' count count'
  pub answered : done → AreAnswered before after share share' count count'
