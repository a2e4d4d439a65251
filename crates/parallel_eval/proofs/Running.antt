-- Nodes of a run, one by one.
use Rattle.std.proofs.Common.{◌≡◌, ℕ, zero, suc, ◌+◌, ◌-◌, ◌≤◌, ◌<◌, List, [], ◌∷◌, ◌++◌, length, map, take, get_or, All, Bor, ap, subst, ◌∙◌, arith}
use Rattle.std.proofs.lemmas.List.Elements.{All-weaker}
use Rattle.std.specs.Arc.{arc_value}
use Rattle.std.specs.declared.sync.Arc.{Arc}
use Rattle.plane_predicate.specs.Space.{Coefficients, ComesInReach}
use Rattle.csg_tree.specs.declared.node.CsgNode.{CsgNode}
use Rattle.csg_tree.specs.declared.node.CsgNode.TheVariants.{Leaf, Join}
use Rattle.csg_tree.specs.declared.op.Op.{Op}
use Rattle.csg_tree.specs.HalfSpaceTrees.{Tree, leaf, tree_join}
use Rattle.csg_tree.specs.Nodes.{IsNodeOf}
use Rattle.csg_tree.specs.Numberings.{tree_numbered}
use Rattle.csg_tree.specs.ProperTrees.{IsProper, IsLeafPlane}
use Rattle.bsp_tree.specs.Shapes.{SolidParts}
use Rattle.bsp_tree.specs.Trees.{outside}
use Rattle.bsp_tree.specs.Shapes.{tree_of}
use Rattle.bsp_boolean.specs.Solids.{solid_of}
use Rattle.parallel_eval.proofs.Shared.{get_or-read}
use Rattle.parallel_eval.specs.Runs.{IsBelow, IsRunNode, AreRunNodes, IsRunWork}

pub run_more : (trees : List Tree) (start before number : ℕ) (nodes : List CsgNode) (node : CsgNode) → AreRunNodes trees start before nodes →
    number ≡ before + length nodes + 1 → IsRunNode trees start number node → AreRunNodes trees start before (nodes ++ node ∷ [])
run_more trees start before number [] node all at one = (subst (λ n. IsRunNode trees start n node) (omega arith) one, tt)
run_more trees start before number (first ∷ nodes) node all at one = (all.0, run_more trees start (before + 1) number nodes node all.1 (omega arith) one)

pub run_at : (trees : List Tree) (start before k : ℕ) (nodes : List CsgNode) (d : CsgNode) → AreRunNodes trees start before nodes → k < length nodes →
    IsRunNode trees start (before + k + 1) (get_or nodes k d)
run_at trees start before k [] d all h = absurd (omega arith)
run_at trees start before zero (node ∷ nodes) d all h = subst (λ n. IsRunNode trees start n node) (omega arith) all.0
run_at trees start before (suc k) (node ∷ nodes) d all h =
    subst (λ n. IsRunNode trees start n (get_or nodes k d)) (omega arith) (run_at trees start (before + 1) k nodes d all.1 (omega arith))

pub in_reach : (planes : List Coefficients) → All IsLeafPlane planes → All ComesInReach planes
in_reach planes all = All-weaker IsLeafPlane ComesInReach (λ m plane. plane.reach) planes all

-- a leaf that is a node of a run
pub leaf_of_run : (trees : List Tree) (start number : ℕ) (node : CsgNode) (planes : Bor (List Coefficients)) → IsRunNode trees start number node → node ≡ Leaf planes →
    (tree_numbered trees number ≡ leaf planes.now) × (0 < length planes.now) × All IsLeafPlane planes.now
leaf_of_run trees start number node planes run is =
    let told : tree_numbered trees number ≡ leaf planes.now = subst (IsNodeOf trees number) is run.told in
    let proper : IsProper (leaf planes.now) = subst IsProper told run.proper in
    (told, proper.leaves.0, proper.leaves.1)

-- a join that is a node of a run
pub join_of_run : (trees : List Tree) (start number : ℕ) (node : CsgNode) (op : Op) (left right : ℕ) → IsRunNode trees start number node → node ≡ Join op left right →
    (1 ≤ left) × (left ≤ start) × (1 ≤ right) × (right ≤ start) × (tree_numbered trees number ≡ tree_join op (tree_numbered trees left) (tree_numbered trees right))
join_of_run trees start number node op left right run is =
    let told : IsNodeOf trees number (Join op left right) = subst (IsNodeOf trees number) is run.told in
    let below : IsBelow start (Join op left right) = subst (IsBelow start) is run.below in
    (told.0, below.0, told.2, below.1, told.4)

module _ {Z : Type 0} where
  -- the solid of a number that is there
  pub solid_at : (trees : List Tree) (start : ℕ) (solids : List (Arc SolidParts Z)) (nodes : List CsgNode) (m : ℕ) (d : Arc SolidParts Z) → IsRunWork trees start solids nodes →
      ((n m : ℕ) → 1 ≤ m → m ≤ n → get_or (map solid_of (take n trees)) (m - 1) outside ≡ solid_of (tree_numbered trees m)) →
      1 ≤ m → m ≤ start → tree_of (arc_value (get_or solids (m - 1) d)) ≡ solid_of (tree_numbered trees m)
  solid_at trees start solids nodes m d work numbered low high =
      let many : length solids ≡ start = work.many in
      get_or-read solids (m - 1) d (omega arith)
      ∙ ap (λ ts. get_or ts (m - 1) outside) work.over
      ∙ numbered start m low high
