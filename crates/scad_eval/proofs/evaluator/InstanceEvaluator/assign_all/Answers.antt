use Rattle.std.proofs.Common.{◌-◌, ◌<◌, length, map, sym, ap, arith}
use Rattle.std.proofs.lemmas.Result.{err_from_is_err_and}
use Rattle.scad_definitions.specs.TextView.{source_assignment_of}
use Rattle.scad_meaning.specs.Meaning.{each_assignment}
use Rattle.scad_eval.specs.Keeping.{evaluations_left, context_at}
use Rattle.scad_eval.proofs.Binding.{assigned_next, assigned_stops}
use Rattle.scad_eval.proofs.Outcomes.{along}
use Rattle.scad_meaning.proofs.lemmas.Judges.{some_judge}
use Rattle.scad_eval.proofs.Contexts.{assigns_then, some_position}
use Rattle.scad_eval.proofs.evaluator.InstanceEvaluator.assign_all.Goals as goal
use Rattle.scad_func.specs.Limits.{most_evaluations}

pub each-preserved : goal.each-preserved
each-preserved c =
    let old = c.args.self.now in
    let here = c.each.self in
    let xs = c.assignments-assignments.result.now in
    let i = c.each.assignment-index in
    let h : i < length xs = omega (arith, c.each-test.true) in
    let inv = c.each.invariant in
    let judge = some_judge in
    record {
      assigns = assigns_then inv.assigns (c.in_ok-assign.ensures (some_position old.evaluation.alloc)).kept;
      told = λ position. assigned_next (each_assignment (evaluations_left old) (context_at old position) (map source_assignment_of xs) old.evaluation.turns)
          (evaluations_left old) (evaluations_left here) (context_at here position) xs i c.assignment-item.result here.evaluation.turns
          (inv.told position) (ap (λ n. most_evaluations - n) inv.assigns.older.same.depth) h c.assignment-item.is
          c.assign.new.self.evaluation.turns c.assign.new.self.leaves ((c.in_ok-assign.ensures position).equation judge.0 judge.1);
    }

pub returns-in_err-assign : goal.returns-in_err-assign
returns-in_err-assign c = λ position.
    let p = err_from_is_err_and c.from_residual.result c.from_residual.ensures.1 in
    let old = c.args.self.now in
    let here = c.each.self in
    let xs = c.assignments-assignments.result.now in
    let i = c.each.assignment-index in
    let h : i < length xs = omega (arith, c.each-test.true) in
    let inv = c.each.invariant in
    rw (p.1, p.2) (record {
      equation = λ judge right.
          along (ap (λ l. each_assignment (evaluations_left old) (context_at old position) l old.evaluation.turns)
          (sym (c.assignments-assignments.ensures c.requires)))
          (assigned_stops (each_assignment (evaluations_left old) (context_at old position) (map source_assignment_of xs) old.evaluation.turns)
          (evaluations_left old) (evaluations_left here) (context_at here position) xs i c.assignment-item.result here.evaluation.turns
          (inv.told position) (ap (λ n. most_evaluations - n) inv.assigns.older.same.depth) h c.assignment-item.is _ _ _ _
          ((c.in_err-assign.ensures position).equation judge right));
      kept = tt;
    })
