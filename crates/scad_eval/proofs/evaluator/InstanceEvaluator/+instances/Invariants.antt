-- The evaluations that are left count first; at one depth each step calls those of a lower rank.
use Rattle.std.proofs.Common.{◌≡◌, ◌+◌, ◌*◌, map, drop}
use Rattle.scad_ast.specs.StatementView.{binder_of}
use Rattle.scad_meaning.specs.Verdicts.{Judge, IsRightJudge}
use Rattle.scad_meaning.specs.Meaning.{each_member}
use Rattle.scad_instance_rules.specs.Positions.{term_of_numbered}
use Rattle.scad_instance_rules.specs.Seen.{member_designs_of, members_in_front}
use Rattle.scad_eval.specs.Keeping.{evaluator_at, context_at, Stays, outcome_at}
use Rattle.scad_eval.specs.Within.{body_seen}
use Rattle.scad_eval.proofs.Lasting.{loop_work}
use Rattle.scad_eval.proofs.Variables.{IsUnderWay}
use Rattle.scad_eval.proofs.Work.{work}
use Rattle.scad_eval.proofs.evaluator.InstanceEvaluator.+instances.Given as goal

abbrev pub decreases-instance : goal.decreases-instance
decreases-instance l = work l.self.now.evaluation.depth

abbrev pub decreases-members : goal.decreases-members
decreases-members l = work l.self.now.evaluation.depth + 1

abbrev pub decreases-members_in_scope : goal.decreases-members_in_scope
decreases-members_in_scope l = work l.self.now.evaluation.depth + 2

abbrev pub decreases-body : goal.decreases-body
decreases-body l = work l.self.now.evaluation.depth + 4

abbrev pub decreases-one_iteration : goal.decreases-one_iteration
decreases-one_iteration l = work l.self.now.evaluation.depth + 5

abbrev pub decreases-inside : goal.decreases-inside
decreases-inside l = work l.self.now.evaluation.depth + 6

abbrev pub decreases-next_step : goal.decreases-next_step
decreases-next_step l = work l.self.now.evaluation.depth + 7

abbrev pub decreases-iterations : goal.decreases-iterations
decreases-iterations l = work l.self.now.evaluation.depth + 8

abbrev pub decreases-looped : goal.decreases-looped
decreases-looped l = work l.self.now.evaluation.depth + 9

abbrev pub decreases-one_or_nothing : goal.decreases-one_or_nothing
decreases-one_or_nothing l = work l.self.now.evaluation.depth + 5

abbrev pub decreases-one_or_other : goal.decreases-one_or_other
decreases-one_or_other l = work l.self.now.evaluation.depth + 5

abbrev pub decreases-module_made : goal.decreases-module_made
decreases-module_made l = work l.self.now.evaluation.depth + 3

abbrev pub decreases-module_with_bindings : goal.decreases-module_with_bindings
decreases-module_with_bindings l = work l.self.now.evaluation.depth + 4

abbrev pub decreases-module_called : goal.decreases-module_called
decreases-module_called l = work l.self.now.evaluation.depth + 5

abbrev pub decreases-children_made : goal.decreases-children_made
decreases-children_made l = work l.self.now.evaluation.depth + 3

abbrev pub decreases-children_chosen : goal.decreases-children_chosen
decreases-children_chosen l = work l.self.now.evaluation.depth + 4

abbrev pub decreases-children_called : goal.decreases-children_called
decreases-children_called l = work l.self.now.evaluation.depth + 5

abbrev pub decreases-moved : goal.decreases-moved
decreases-moved l = work l.self.now.evaluation.depth + 5

abbrev pub decreases-extruded : goal.decreases-extruded
decreases-extruded l = work l.self.now.evaluation.depth + 5

abbrev pub decreases-effect_made : goal.decreases-effect_made
decreases-effect_made l = work l.self.now.evaluation.depth + 6

abbrev pub decreases-built_in_made : goal.decreases-built_in_made
decreases-built_in_made l = work l.self.now.evaluation.depth + 7

abbrev pub decreases-built_in_called : goal.decreases-built_in_called
decreases-built_in_called l = work l.self.now.evaluation.depth + 8

abbrev pub decreases-called : goal.decreases-called
decreases-called l = work l.self.now.evaluation.depth + 9

abbrev pub decreases-core : goal.decreases-core
decreases-core l = work l.self.now.evaluation.depth + 10

abbrev pub decreases-by_root_modifier : goal.decreases-by_root_modifier
decreases-by_root_modifier l = work l.self.now.evaluation.depth + 11

abbrev pub invariant-members-each : goal.invariant-members-each
invariant-members-each l =
    let old = l.fn.self in
    record {
      stays : Stays old l.self;
      told : (judge : Judge) → IsRightJudge judge →
          outcome_at old l.position judge (λ evaluator here. each_member evaluator here (map term_of_numbered l.instances))
          ≡ members_in_front (member_designs_of old.leaves l.members)
          (each_member (evaluator_at old judge) (context_at old l.position) (map term_of_numbered (drop l.instance-index l.instances)) l.self.evaluation.turns l.self.leaves);
    }

abbrev pub invariant-iterations-each : goal.invariant-iterations-each
invariant-iterations-each l =
    IsUnderWay l.fn.self l.position l.place (map binder_of l.binders) (body_seen l.body) l.outer.items l.inside l.self

abbrev pub decreases-iterations-each : goal.decreases-iterations-each
decreases-iterations-each l = loop_work l.outer.items l.inside
