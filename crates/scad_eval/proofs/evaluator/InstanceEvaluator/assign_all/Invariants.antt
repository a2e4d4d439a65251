use Rattle.std.proofs.Common.{◌≡◌, map, drop}
use Rattle.scad_definitions.specs.TextView.{source_assignment_of}
use Rattle.scad_meaning.specs.Meaning.{each_assignment}
use Rattle.scad_instance_rules.specs.declared.position.Position.{Position}
use Rattle.scad_eval.specs.Keeping.{evaluations_left, context_at, Assigns}
use Rattle.scad_eval.proofs.evaluator.InstanceEvaluator.assign_all.Given as goal

abbrev pub invariant-each : goal.invariant-each
invariant-each l =
    let old = l.fn.self in
    record {
      assigns : Assigns old l.self;
      told : (position : Position) → each_assignment (evaluations_left old) (context_at old position) (map source_assignment_of l.assignments) old.evaluation.turns
          ≡ each_assignment (evaluations_left old) (context_at l.self position) (map source_assignment_of (drop l.assignment-index l.assignments)) l.self.evaluation.turns;
    }
