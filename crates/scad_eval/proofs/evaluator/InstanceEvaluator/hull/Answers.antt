use Rattle.std.proofs.Common.{refl}
use Rattle.std.proofs.lemmas.Result.{err_from_is_err_and}
use Rattle.scad_func.specs.Meaning.{Gives}
use Rattle.scad_meaning.specs.Meaning.{with_leaf_of}
use Rattle.scad_instance_rules.specs.Seen.{instance_design_of}
use Rattle.scad_eval.proofs.Outcomes.{along, then_outcome}
use Rattle.scad_eval.proofs.Told.{stops}
use Rattle.scad_eval.proofs.Leaving.{hull_checked}
use Rattle.scad_eval.proofs.evaluator.InstanceEvaluator.hull.Goals as goal

pub returns-in_err-leaf-in-Ok : goal.returns-in_err-leaf-in-Ok
returns-in_err-leaf-in-Ok c =
    let p = err_from_is_err_and c.from_residual.result c.from_residual.ensures.1 in
    let m = c.args.self.now in
    let made = instance_design_of m.leaves c.args.made in
    rw (p.1, p.2) (λ position.
    let f = c.in_err-leaf-in-Ok.ensures position in
    stops (λ judge turns leaf. Gives turns (with_leaf_of made leaf)) f (λ judge right.
    let t = c.in-Ok.ensures judge right in
    hull_checked (judge.hull made.design) c.args.place made c.in-Ok.shape m.evaluation.turns c.is_nothing.result c.is_nothing.ensures c.if-is_nothing.false t.0 t.1) f.kept)

pub returns-in-Ok : goal.returns-in-Ok
returns-in-Ok c = λ position.
    let m = c.args.self.now in
    let made = instance_design_of m.leaves c.args.made in
    let f = c.in_ok-leaf-in-Ok.ensures position in
    record {
      equation = λ judge right.
          let t = c.in-Ok.ensures judge right in
          along (hull_checked (judge.hull made.design) c.args.place made c.in-Ok.shape m.evaluation.turns c.is_nothing.result c.is_nothing.ensures c.if-is_nothing.false t.0 t.1)
          (then_outcome (λ turns leaf. Gives turns (with_leaf_of made leaf)) (f.equation judge right) (record { is = refl }));
      kept = f.kept;
    }
