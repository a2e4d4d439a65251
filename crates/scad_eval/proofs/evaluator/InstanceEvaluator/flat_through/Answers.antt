use Rattle.std.proofs.Common.{refl, ap, ◌∙◌, rules, FitsSigned, w64, to_z-of_z}
use Rattle.primitives.specs.Prisms.{extrusion_of}
use Rattle.scad_modules.specs.View.{flat_call_of}
use Rattle.scad_meaning.specs.Verdicts.{extrusion_mesh}
use Rattle.scad_eval.proofs.Outcomes.{no_memory}
use Rattle.scad_eval.proofs.Told.{told_from}
use Rattle.scad_eval.proofs.Contexts.{stays_same}
use Rattle.scad_eval.proofs.Leaving.{shape_checked, height_stops}
use Rattle.scad_eval.proofs.evaluator.InstanceEvaluator.flat_through.Goals as goal

pub returns-in-Ok-extrude : goal.returns-in-Ok-extrude
returns-in-Ok-extrude c = λ position.
    let m = c.args.self.now in
    let call = flat_call_of c.args.shape.now in
    let fits : FitsSigned w64 c.args.through.height = search rules in
    let shape = simp to_z-of_z at c.in-Ok-extrude.ensures.shape in
    let f = c.leaf.ensures position in
    told_from f (λ judge right.
    let t = c.in-Ok.ensures judge right in
    shape_checked (judge.flat m.unit call) c.args.place (extrusion_mesh m.unit c.args.through call) c.in-Ok-extrude.shape m.evaluation.turns m.leaves t.0
    (shape ∙ ap (λ f. extrusion_of m.unit c.args.through.center f c.args.through.height) t.1)) refl refl f.kept

pub returns-in-Ok : goal.returns-in-Ok
returns-in-Ok c = λ position.
    let fits : FitsSigned w64 c.args.through.height = search rules in
    let stops = simp to_z-of_z at c.in-Err-extrude.ensures.stops in
    record {
      equation = λ judge right.
          no_memory (height_stops c.args.self.now.unit c.args.through c.args.place c.in-Err-extrude.stop c.stop_at.result c.requires.through stops c.stop_at.ensures);
      kept = stays_same c.args.self.now;
    }
