use Rattle.std.proofs.Common.{refl, ap}
use Rattle.scad_modules.specs.View.{flat_call_of}
use Rattle.scad_meaning.specs.Meaning.{flat_design}
use Rattle.scad_eval.specs.Keeping.{evaluator_at}
use Rattle.scad_eval.proofs.Told.{told_from}
use Rattle.scad_eval.proofs.evaluator.InstanceEvaluator.flat.Goals as goal

pub returns-in-Some : goal.returns-in-Some
returns-in-Some c =
    let m = c.args.self.now in
    let f = c.flat_through.ensures c.args.position in
    told_from f (λ judge right. ap (λ o. flat_design (evaluator_at m judge) o c.args.place (flat_call_of c.args.shape.now) m.evaluation.turns m.leaves) c.in-Some.is)
    refl refl f.kept
