use Rattle.std.proofs.Common.{◌≡◌, sym, subst}
use Rattle.std.proofs.lemmas.Result.{IfOk-weaker}
use Rattle.bsp_tree.specs.Shapes.{tree_of}
use Rattle.bsp_tree.specs.Partitions.{divide, AreOfHalves, HaveNoNewPlane, KeepWalks}
use Rattle.bsp_tree.proofs.lemmas.DividedWalks.{divide_keeps}
use Rattle.bsp_tree.proofs.lemmas.DividedHalves.{divide_halves}
use Rattle.bsp_tree.proofs.lemmas.DividedPlanes.{divide_planes}
use Rattle.bsp_partition.proofs.partition.Goals as goal

pub returns-clause-walks : goal.returns-clause-walks
returns-clause-walks c =
    let t = tree_of c.args.solid.now in
    let s = c.args.by.now in
    IfOk-weaker c.parts_of.result (λ r. (tree_of r.0, tree_of r.1) ≡ divide t s) (λ r. KeepWalks t s (tree_of r.0, tree_of r.1))
    (λ r e. subst (KeepWalks t s) (sym e) (divide_keeps t s)) c.parts_of.ensures

pub returns-clause-cells : goal.returns-clause-cells
returns-clause-cells c =
    let t = tree_of c.args.solid.now in
    let s = c.args.by.now in
    IfOk-weaker c.parts_of.result (λ r. (tree_of r.0, tree_of r.1) ≡ divide t s) (λ r. AreOfHalves t s (tree_of r.0, tree_of r.1))
    (λ r e. subst (AreOfHalves t s) (sym e) (divide_halves t s)) c.parts_of.ensures

pub returns-clause-planes : goal.returns-clause-planes
returns-clause-planes c =
    let t = tree_of c.args.solid.now in
    let s = c.args.by.now in
    IfOk-weaker c.parts_of.result (λ r. (tree_of r.0, tree_of r.1) ≡ divide t s) (λ r. HaveNoNewPlane t (tree_of r.0, tree_of r.1))
    (λ r e. subst (HaveNoNewPlane t) (sym e) (divide_planes t s)) c.parts_of.ensures
