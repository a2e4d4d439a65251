-- The solids of the nodes of a store, made in runs by several builders.
use Rattle.std.specs.Prelude.{◌≡◌, ℕ, ◌+◌, ◌^◌, ◌≤◌, ◌<◌, List, [], ◌∷◌, map, take, length, All, Result, Ok, Err}
use Rattle.std.specs.Arc.{arc_value}
use Rattle.std.specs.declared.sync.Arc.{Arc}
use Rattle.plain_text.specs.declared.memory.NoMemory.{NoMemory}
use Rattle.csg_tree.specs.declared.node.CsgNode.{CsgNode}
use Rattle.csg_tree.specs.declared.node.CsgNode.TheVariants.{Leaf, Join}
use Rattle.csg_tree.specs.HalfSpaceTrees.{Tree}
use Rattle.csg_tree.specs.ProperTrees.{IsProper}
use Rattle.csg_tree.specs.Numberings.{tree_numbered}
use Rattle.csg_tree.specs.Nodes.{IsNodeOf}
use Rattle.bsp_tree.specs.Shapes.{SolidParts}
use Rattle.bsp_tree.specs.Shapes.{tree_of}
use Rattle.bsp_boolean.specs.Solids.{solid_of}
use Rattle.bsp_boolean.specs.TreeSolids.{most_solid_size, solid_size, total_size, join_count, AreWithinSizeLimits}
use Rattle.subtree_memo.specs.Shares.{ShareView, fresh_share, joined_share}
use Rattle.subtree_memo.specs.declared.ledgers.MemoLedger.{Ghosts}
use Rattle.parallel_eval.specs.Known.{shared_solids}
use Rattle.parallel_eval.specs.Joins.{AreAsked}
use Rattle.parallel_eval.specs.declared.growth.Growth.{Growth}
use Rattle.parallel_eval.specs.declared.growth.NodeOutcome.{NodeOutcome}
use Rattle.parallel_eval.specs.declared.growth.NodeOutcome.TheVariants.{Made, TooBig}
use Rattle.parallel_eval.specs.declared.lane.Lane.{Lane}

-- how many of the first n trees are joins
abbrev pub joins_to : List Tree → ℕ → ℕ
joins_to trees n = join_count (take n trees)

-- each builder's count is at most the given number
abbrev pub AreAtMost : {D : Type 0} → (D → ℕ) → ℕ → List D → Type 0
AreAtMost count most bs = All (λ b. count b ≤ most) bs

-- Builders and a share, behind the given number of joins: there are 1 to 64 builders and a part of the share for each and
-- one more, and what was counted so far leaves room for the other joins of a store.
pub record AreReady {D : Type 0} (count : D → ℕ) (done : ℕ) (share : ShareView) (builders : List D) : Type 0 where
  pub some : 1 ≤ length builders
  pub many : length builders ≤ 64
  pub parts : length builders < share.parts
  pub counts : AreAtMost count (2 ^ 46 + done) builders
  pub dropped : share.dropped ≤ 2 ^ 46 + done

-- the first n nodes have their solids, which are within the limits
pub record IsGrown (trees : List Tree) (n : ℕ) (growth : Growth) : Type 0 where
  pub solids : shared_solids growth.solids.items ≡ map solid_of (take n trees)
  pub sum : growth.sum ≡ total_size (take n trees)
  pub within : AreWithinSizeLimits (take n trees)

-- a growth over these trees has the given number of solids, which is at most the number of trees
pub record IsGrowing (trees : List Tree) (n : ℕ) (growth : Growth) : Type 0 where
  pub store : growth.store.now ≡ trees
  pub grown : IsGrown trees n growth
  pub within : n ≤ length trees

-- a node has no tree behind the first ones
abbrev pub IsBelow : ℕ → CsgNode → Type 0
IsBelow start (Leaf planes) = Unit {0}
IsBelow start (Join op left right) = (left ≤ start) × (right ≤ start)

-- what is said about the node of a number is true, and it has no tree behind the first ones
pub record IsRunNode (trees : List Tree) (start number : ℕ) (node : CsgNode) : Type 0 where
  pub told : IsNodeOf trees number node
  pub proper : IsProper (tree_numbered trees number)
  pub below : IsBelow start node

-- nodes that stand one after another behind a number, and none over another
abbrev pub AreRunNodes : List Tree → ℕ → ℕ → List CsgNode → Type 0
AreRunNodes trees start before [] = Unit {0}
AreRunNodes trees start before (node ∷ nodes) = IsRunNode trees start (before + 1) node × AreRunNodes trees start (before + 1) nodes

-- a run: nodes behind the first ones, which have their solids
pub record IsRunWork {Z : Type 0} (trees : List Tree) (start : ℕ)
    (solids : List (Arc SolidParts Z)) (nodes : List CsgNode) : Type 0 where
  pub over : shared_solids solids ≡ map solid_of (take start trees)
  pub many : length solids ≡ start
  pub some : 0 < length nodes
  pub run : AreRunNodes trees start start nodes
  pub within : start + length nodes ≤ length trees
  pub few : length trees < 2 ^ 32

-- what came of the node of a number
abbrev pub IsNodeOutcome : List Tree → ℕ → NodeOutcome → Type 0
IsNodeOutcome trees number (Made solid) = (tree_of (arc_value solid) ≡ solid_of (tree_numbered trees number))
    × (solid_size (tree_numbered trees number) ≤ most_solid_size)
IsNodeOutcome trees number TooBig = most_solid_size < solid_size (tree_numbered trees number)

-- what came of the nodes behind the first ones, in order of number
abbrev pub AreNodeOutcomes : List Tree → ℕ → List NodeOutcome → Type 0
AreNodeOutcomes trees before [] = Unit {0}
AreNodeOutcomes trees before (outcome ∷ outcomes) =
    IsNodeOutcome trees (before + 1) outcome × AreNodeOutcomes trees (before + 1) outcomes

-- a solid was made
abbrev pub IsMade : NodeOutcome → Type 0
IsMade (Made solid) = Unit {0}
IsMade TooBig = ⊥

-- an answer tells that a solid was made
abbrev pub HasMade : Result NodeOutcome NoMemory → Type 0
HasMade (Ok outcome) = IsMade outcome
HasMade (Err none) = ⊥

abbrev pub AreMade : List NodeOutcome → Type 0
AreMade [] = Unit {0}
AreMade (outcome ∷ outcomes) = IsMade outcome × AreMade outcomes

-- each node up to the last one has a solid
abbrev pub IsComplete : ℕ → ℕ → List NodeOutcome → Type 0
IsComplete before last outcomes = (before + length outcomes ≡ last) × AreMade outcomes

module _ {B S T H M K E : Type 0} {g : Ghosts H} where
  -- a lane may be worked on, by a builder with this count: its nodes are among the given number behind the first ones
  pub record IsLaneReady (start count built : ℕ) (lane : Lane B S T H M K E g) : Type 0 where
    pub parts : 0 < lane.share.share.parts
    pub dropped : lane.share.share.dropped ≤ 2 ^ 47
    pub few : built ≤ 2 ^ 47
    pub empty : lane.made.items ≡ []
    pub first : start ≤ lane.before
    pub last : lane.last ≤ start + count

  -- lanes of which nothing is done, with the nodes from one number to another
  abbrev pub AreFreshLanes : ℕ → ℕ → ℕ → List (Lane B S T H M K E g) → Type 0
  AreFreshLanes caller before last [] = before ≡ last
  AreFreshLanes caller before last (lane ∷ lanes) =
      (lane.share.share ≡ fresh_share caller 1) × (lane.before ≡ before) × (before ≤ lane.last)
      × (lane.made.items ≡ []) × AreFreshLanes caller lane.last last lanes

  -- no lane has two nodes more than another: each has the given number, or one more
  abbrev pub AreEven : List (Lane B S T H M K E g) → Type 0
  AreEven lanes = (least : ℕ) × All (λ lane. (lane.before + least ≤ lane.last) × (lane.last ≤ lane.before + least + 1)) lanes

  -- a lane was worked on: what came of its nodes, or of the first of them, and what was counted for it
  pub record IsLaneDone (trees : List Tree) (lane lane' : Lane B S T H M K E g) (count count' : ℕ) : Type 0 where
    pub before : lane'.before ≡ lane.before
    pub last : lane'.last ≡ lane.last
    pub outcomes : AreNodeOutcomes trees lane.before lane'.made.items
    pub asked : AreAsked (IsComplete lane.before lane.last lane'.made.items)
        (joins_to trees lane.before) (joins_to trees lane.last) lane.share.share lane'.share.share count count'

  -- a lane is worked on up to the number k, of which each node has an outcome
  pub record IsLaneAt (trees : List Tree) (k : ℕ) (lane lane' : Lane B S T H M K E g) (count count' : ℕ) : Type 0 where
    pub before : lane'.before ≡ lane.before
    pub last : lane'.last ≡ lane.last
    pub outcomes : AreNodeOutcomes trees lane.before lane'.made.items
    pub many : lane.before + length lane'.made.items ≡ k
    pub asked : AreAsked (AreMade lane'.made.items)
        (joins_to trees lane.before) (joins_to trees k) lane.share.share lane'.share.share count count'

  -- lanes with what came of their nodes, which are those from one number to another
  abbrev pub AreLanes : List Tree → ℕ → ℕ → List (Lane B S T H M K E g) → Type 0
  AreLanes trees before last [] = before ≡ last
  AreLanes trees before last (lane ∷ lanes) =
      (lane.before ≡ before) × AreNodeOutcomes trees before lane.made.items × AreLanes trees lane.last last lanes

  -- each node of each lane has a solid
  abbrev pub AreComplete : List (Lane B S T H M K E g) → Type 0
  AreComplete [] = Unit {0}
  AreComplete (lane ∷ lanes) = IsComplete lane.before lane.last lane.made.items × AreComplete lanes

  -- the shares of lanes are one caller's
  abbrev pub AreOfCaller : ℕ → List (Lane B S T H M K E g) → Type 0
  AreOfCaller caller [] = Unit {0}
  AreOfCaller caller (lane ∷ lanes) = (lane.share.share.caller ≡ caller) × AreOfCaller caller lanes

  -- a share with those of the lanes
  abbrev pub with_lanes : ShareView → List (Lane B S T H M K E g) → ShareView
  with_lanes share [] = share
  with_lanes share (lane ∷ lanes) = joined_share (with_lanes share lanes) lane.share.share
