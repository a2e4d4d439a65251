use Rattle.std.proofs.Common.{refl}
use Rattle.scad_modules.specs.View.{solid_call_of}
use Rattle.scad_meaning.specs.Verdicts.{solid_mesh}
use Rattle.scad_eval.proofs.Told.{told_from}
use Rattle.scad_eval.proofs.Leaving.{shape_checked}
use Rattle.scad_eval.proofs.evaluator.InstanceEvaluator.solid.Goals as goal

pub returns-in-Ok : goal.returns-in-Ok
returns-in-Ok c = λ position.
    let m = c.args.self.now in
    let call = solid_call_of c.args.shape.now in
    let f = c.leaf.ensures position in
    told_from f (λ judge right.
    let t = c.in-Ok.ensures judge right in
    shape_checked (judge.solid m.unit call) c.args.place (solid_mesh m.unit call) c.in-Ok.shape m.evaluation.turns m.leaves t.0 t.1) refl refl f.kept
