use Rattle.std.proofs.Common.{◌≡◌, ◌+◌, ◌-◌, ◌<◌, ◌≤◌, ℕ, List, [], ◌∷◌, ◌++◌, length, map, drop, set, get_or, true, false, Some, None, Ok, Err, sym, ap, subst, ◌∙◌, arith}
use Rattle.std.specs.Prelude.{Option, Result, codes}
use Rattle.std.specs.declared.vec.Vec.{Vec}
use Rattle.std.specs.declared.alloc.Global.{Global}
use Rattle.std.proofs.lemmas.Result.{err_from_is_err_and}
use Rattle.std.proofs.lemmas.List.{length-map, length-append, length-set, drop-set-lt}
use Rattle.text_place.specs.declared.fault.Stop.{Stop}
use Rattle.text_place.specs.declared.fault.FaultKind.TheVariants.{TooDeep, UnknownName, BadArgument}
use Rattle.scad_ast.specs.declared.expression.Expr.{Expr}
use Rattle.scad_ast.specs.declared.expression.Arg.{Arg}
use Rattle.scad_ast.specs.declared.expression.Suffix.{Suffix}
use Rattle.scad_ast.specs.declared.statement.Param.{Param}
use Rattle.scad_value.specs.Values.{Val, ListVal}
use Rattle.scad_value.specs.Operators.{binary_of, unary_of, value_or_long_list}
use Rattle.scad_ast.specs.Terms.{terms_from, args_from, suffixes_from, links_from}
use Rattle.scad_ast.specs.ExprView.{term_of, terms_of, args_of, arg_of, suffix_of, suffixes_of, link_of, links_of}
use Rattle.scad_ast.specs.StatementView.{param_of}
use Rattle.scad_value.specs.View.{vals_in}
use Rattle.scad_value.specs.declared.bounded_value.BoundedValue.{BoundedValue}
use Rattle.scad_value.specs.BoundedView.{bounded_val}
use Rattle.scad_definitions.specs.Arguments.{parameter_name, parameter_names, no_arguments_of, destination_of, argument_place}
use Rattle.scad_definitions.specs.ArgumentsView.{call_arguments_of, names_in, destination_term, IsOneMoreGiven, IsFaultAt}
use Rattle.scad_scope.specs.Names.{find_in, variable_in}
use Rattle.scad_scope.specs.Table.{bindings_of}
use Rattle.scad_definitions.specs.TextView.{function_of}
use Rattle.scad_func.specs.Limits.{most_evaluations}
use Rattle.scad_func.specs.Meaning.{Outcome, Gives, Faults, value_at_next_depth, expression_with_calls_left, each_argument, each_parameter, parameter_value, function_value, value_here, each_value, each_suffix, each_link, call_value, outcome_of_answer, or_fault, or_zero, ExpressionContext, BoundArguments, Arguments, then_with}
use Rattle.scad_value.specs.Answers.{range_of}
use Rattle.scad_value.specs.AnswerView.{MeetsAnswerAt}
use Rattle.scad_func.specs.Steps.{all_values, suffix_value, link_value, with_parameters}
use Rattle.scad_func.specs.declared.values.BoundedValues.{BoundedValues}
use Rattle.scad_func.specs.View.{MeetsOutcome, IsNoMemory, IsOneMore, values_seen, bindings_in, table_in, bound_arguments_in, bound_argument_of, indexed_val, arguments_of}
use Rattle.scad_definitions.specs.declared.parameters.CallArguments.{CallArguments}
use Rattle.scad_definitions.specs.declared.parameters.Names.{Names}
use Rattle.scad_definitions.specs.declared.so_far.ArgumentsSoFar.{ArgumentsSoFar}
use Rattle.scad_definitions.specs.declared.parameters.Destination.{Destination}
use Rattle.scad_func.specs.Evaluations.{EvaluatesTo, OneCallDeeper, MoreBindings, numbered_env_here, expression_context_here, work_left}
use Rattle.scad_func.specs.Transitions.{IsRefusedCall}
use Rattle.scad_func.specs.declared.source.Source.{Source}
use Rattle.scad_func.proofs.lemmas.Outcomes.{meets_along, fault_goes, evaluated_deeper, evaluated_too_deep, value_counted, fault_counted, values_end, terms_here, terms_end, args_here, args_end, values_here, suffixes_here, suffix_step, links_here, step_more, step_fault, name_then, fault_at, link_wants}
use Rattle.scad_func.proofs.lemmas.Counting.{call_goes, call_refused}
use Rattle.scad_func.proofs.Environments.{variable_same}
use Rattle.scad_func.proofs.Steps.{deep_enough, param_deep, params_here, params_end, slots_here, filled_end, argument_none}
use Rattle.scad_func.proofs.Forms.{name_form, special_form, count_form, postfix_form, chain_form, choice_form, link_form, member_form, args_form}
use Rattle.scad_func.proofs.lemmas.Kept.{stops, goes, answers, keeps_from, keeps_same, keeps_trans, call_found, moved, work_falls, call_kept, call_setting, specials_kept, specials_setting}
use Rattle.scad_func.proofs.lemmas.GivenSeen.{taker_given, nothing_seen, held_seen}
use Rattle.scad_func.proofs.Holding.{argument_stops, item_told, item_stops, longer_length, argument_held, if_err_at, if_ok_at, on_ok_at, on_err_at, none_told}
use Rattle.scad_func.proofs.evaluator.+value.Goals as goal

pub evaluate-returns-in_err-value : goal.evaluate-returns-in_err-value
evaluate-returns-in_err-value t c =
    let p = err_from_is_err_and c.from_residual.result c.from_residual.ensures.1 in
    let here = expression_context_here c.args.evaluation.now in
    record {
      value = rw (p.1, p.2) (fault_counted c.in_err-value.field-0.0 (most_evaluations - c.args.evaluation.now.depth) _
          c.at_next_depth.new.evaluation.turns c.args.evaluation.now.turns here.calls_left here.env here.bindings (term_of c.args.expr.now)
          c.in_err-value.ensures.value);
      kept = c.in_err-value.ensures.kept;
    }

pub evaluate-returns : goal.evaluate-returns
evaluate-returns t c =
    let here = expression_context_here c.args.evaluation.now in
    record {
      value = value_counted c.count_elements.result (most_evaluations - c.args.evaluation.now.depth) c.count_elements.new.evaluation.turns
          c.args.evaluation.now.turns c.at_next_depth.new.evaluation.turns here.calls_left here.env here.bindings (term_of c.args.expr.now)
          (bounded_val c.in_ok-value.value) c.place.result c.place.ensures c.in_ok-value.ensures.value
          c.count_elements.ensures.value;
      kept = keeps_trans c.in_ok-value.ensures.kept c.count_elements.ensures.kept;
    }

pub at_next_depth-returns-then-evaluation-eq-EVALUATIONS : goal.at_next_depth-returns-then-evaluation-eq-EVALUATIONS
at_next_depth-returns-then-evaluation-eq-EVALUATIONS t c = record {
  value = rw (c.at.ensures) (evaluated_too_deep _ _ _ _ _ _ c.if-evaluation-eq-EVALUATIONS.true ∙ ap (λ p. Faults TooDeep p) (sym c.place.ensures));
  kept = keeps_same _;
}

pub at_next_depth-returns : goal.at_next_depth-returns
at_next_depth-returns t c =
    let k = c.operand-value.ensures.kept in
    record {
      value = meets_along c.operand-value.result _ _ _ (evaluated_deeper _ _ _ _ _ _ (omega arith))
          c.operand-value.ensures.value;
      kept = keeps_from _ _ k.source k.lent k.stands k.rows k.bindings k.calls (omega (arith, k.depth));
    }

pub operand-returns-in-ChildCount : goal.operand-returns-in-ChildCount
operand-returns-in-ChildCount t c =
    let e = c.args.evaluation.now in
    record {
      value = meets_along c.child_count.result e.turns _ _
          (ap (λ x. value_here (expression_context_here e) x e.turns)
          (ap term_of c.in-ChildCount.is ∙ count_form c.in-ChildCount.place)
          ∙ ap (λ o. Gives e.turns (or_zero o))
          (variable_same (table_in e.source.now) (numbered_env_here e) (codes "$children")))
          (c.child_count.ensures e.turns);
      kept = keeps_same _;
    }

pub operand-returns-in-Name : goal.operand-returns-in-Name
operand-returns-in-Name t c =
    let e = c.args.evaluation.now in
    record {
      value = meets_along c.variable_of.result e.turns _ _
          (ap (λ x. value_here (expression_context_here e) x e.turns)
          (ap term_of c.in-Name.is ∙ name_form c.in-Name.place c.in-Name.name)
          ∙ ap (λ o. or_fault o UnknownName c.in-Name.place (λ x. Gives e.turns x))
          (variable_same (table_in e.source.now) (numbered_env_here e) c.in-Name.name ∙ ap
          (λ n. variable_in (numbered_env_here e) n)
          (sym c.items.ensures)))
          (c.variable_of.ensures e.turns);
      kept = keeps_same _;
    }

pub operand-returns-in-Special : goal.operand-returns-in-Special
operand-returns-in-Special t c =
    let e = c.args.evaluation.now in
    record {
      value = meets_along c.special_of.result e.turns _ _
          (ap (λ x. value_here (expression_context_here e) x e.turns)
          (ap term_of c.in-Special.is ∙ special_form c.in-Special.place c.in-Special.name)
          ∙ ap (λ n. or_fault (find_in (bindings_of e.scopes.now) n) UnknownName c.in-Special.place (λ x. Gives e.turns x))
          (sym c.items-in-Special.ensures))
          (c.special_of.ensures e.turns);
      kept = keeps_same _;
    }

pub operand-returns-in-Postfix : goal.operand-returns-in-Postfix
operand-returns-in-Postfix t c =
    record {
      value = meets_along c.postfix.result c.postfix.new.evaluation.turns _ _
          (ap (λ e. value_here (expression_context_here c.args.evaluation.now) e c.args.evaluation.now.turns)
          (postfix_form c.args.expr.now c.in-Postfix.field-0 c.in-Postfix.parts c.deref-in-Postfix.result.now c.deref-in-Postfix-2.result.now
          c.in-Postfix.is c.deref-in-Postfix.ensures c.deref-in-Postfix-2.ensures)) c.postfix.ensures.value;
      kept = c.postfix.ensures.kept;
    }

pub operand-returns-in-Chain : goal.operand-returns-in-Chain
operand-returns-in-Chain t c =
    record {
      value = meets_along c.operators.result c.operators.new.evaluation.turns _ _
          (ap (λ e. value_here (expression_context_here c.args.evaluation.now) e c.args.evaluation.now.turns)
          (chain_form c.args.expr.now c.in-Chain.field-0 c.in-Chain.parts c.deref-in-Chain.result.now c.deref-in-Chain-2.result.now
          c.in-Chain.is c.deref-in-Chain.ensures c.deref-in-Chain-2.ensures)) c.operators.ensures.value;
      kept = c.operators.ensures.kept;
    }

pub operand-returns-in-Choice : goal.operand-returns-in-Choice
operand-returns-in-Choice t c =
    record {
      value = meets_along c.choice.result c.choice.new.evaluation.turns _ _
          (ap (λ e. value_here (expression_context_here c.args.evaluation.now) e c.args.evaluation.now.turns)
          (choice_form c.args.expr.now c.in-Choice.field-0 c.in-Choice.parts c.deref-in-Choice.result.now c.deref-in-Choice-2.result.now c.deref-in-Choice-3.result.now
          c.in-Choice.is c.deref-in-Choice.ensures c.deref-in-Choice-2.ensures c.deref-in-Choice-3.ensures)) c.choice.ensures.value;
      kept = c.choice.ensures.kept;
    }

pub list-returns-in_err-values : goal.list-returns-in_err-values
list-returns-in_err-values t c =
    let p = err_from_is_err_and c.from_residual.result c.from_residual.ensures.1 in
    rw (p.1, p.2) (stops values_seen bounded_val (λ here. each_value here (terms_from (terms_of c.args.items.now)))
    (λ here turns vs. outcome_of_answer (value_or_long_list (Ok (ListVal vs))) c.args.place turns) _ _ c.in_err-values.field-0.0 c.in_err-values.ensures)

pub list-returns : goal.list-returns
list-returns t c =
    goes values_seen bounded_val (λ here. each_value here (terms_from (terms_of c.args.items.now)))
    (λ here turns vs. outcome_of_answer (value_or_long_list (Ok (ListVal vs))) c.args.place turns) _ _ _ c.in_ok-values.values c.list_value.result c.in_ok-values.ensures
    (answers _ c.list_value.result (value_or_long_list (Ok (ListVal (values_seen c.in_ok-values.values)))) c.args.place c.list_value.ensures)

pub unary-returns-in_err-value : goal.unary-returns-in_err-value
unary-returns-in_err-value t c =
    let p = err_from_is_err_and c.from_residual.result c.from_residual.ensures.1 in
    rw (p.1, p.2) (stops bounded_val bounded_val (λ here. value_at_next_depth here false (term_of c.args.of.now))
    (λ here turns v. outcome_of_answer (unary_of c.args.op v) c.args.place turns) _ _ c.in_err-value.field-0.0 c.in_err-value.ensures)

pub unary-returns : goal.unary-returns
unary-returns t c =
    goes bounded_val bounded_val (λ here. value_at_next_depth here false (term_of c.args.of.now))
    (λ here turns v. outcome_of_answer (unary_of c.args.op v) c.args.place turns) _ _ _ c.in_ok-value.value c.unary_value.result c.in_ok-value.ensures
    (answers _ c.unary_value.result (unary_of c.args.op (bounded_val c.in_ok-value.value)) c.args.place c.unary_value.ensures)

pub operators-returns-in_err-left : goal.operators-returns-in_err-left
operators-returns-in_err-left t c =
    let p = err_from_is_err_and c.from_residual.result c.from_residual.ensures.1 in
    rw (p.1, p.2) (stops bounded_val bounded_val (λ here. value_here here (term_of c.args.first.now))
    (λ here turns v. each_link here v (links_from (links_of c.args.rest.now)) turns) _ _ c.in_err-left.field-0.0 c.in_err-left.ensures)

pub operators-returns : goal.operators-returns
operators-returns t c =
    goes bounded_val bounded_val (λ here. value_here here (term_of c.args.first.now))
    (λ here turns v. each_link here v (links_from (links_of c.args.rest.now)) turns) _ _ _ c.in_ok-left.left c.links.result
    c.in_ok-left.ensures c.links.ensures

pub range-returns-in_err-first : goal.range-returns-in_err-first
range-returns-in_err-first t c =
    let p = err_from_is_err_and c.from_residual.result c.from_residual.ensures.1 in
    rw (p.1, p.2) (stops bounded_val bounded_val (λ here. value_at_next_depth here true (term_of c.args.from.now))
    (λ here turns a. then_with (value_at_next_depth here true (term_of c.args.upto.now) turns) (λ turns b. outcome_of_answer (range_of a b) c.args.place turns))
    _ _ c.in_err-first.field-0.0 c.in_err-first.ensures)

pub range-returns-in_err-a : goal.range-returns-in_err-a
range-returns-in_err-a t c =
    let p = err_from_is_err_and c.from_residual-in_err-a.result c.from_residual-in_err-a.ensures.1 in
    let a = c.in_ok-first.first in
    let last = λ (here : ExpressionContext). value_at_next_depth here true (term_of c.args.upto.now) in
    rw (p.1, p.2) (goes bounded_val bounded_val (λ here. value_at_next_depth here true (term_of c.args.from.now))
    (λ here turns a. then_with (last here turns) (λ turns b. outcome_of_answer (range_of a b) c.args.place turns)) _ _ _ a (Err c.in_err-a.field-0.0)
    c.in_ok-first.ensures
    (stops bounded_val bounded_val last (λ here turns b. outcome_of_answer (range_of (bounded_val a) b) c.args.place turns) _ _ c.in_err-a.field-0.0
    (subst (λ (r : Result BoundedValue Stop). EvaluatesTo bounded_val c.evaluate.new.evaluation c.evaluate-next.new.evaluation r last)
    c.in_err-a.ensures.err c.evaluate-next.ensures)))

pub range-returns : goal.range-returns
range-returns t c =
    let a = c.in_ok-first.first in
    let b = c.in_ok-a.b in
    let w = c.in_ok-a.ensures.ok in
    let last = λ (here : ExpressionContext). value_at_next_depth here true (term_of c.args.upto.now) in
    goes bounded_val bounded_val (λ here. value_at_next_depth here true (term_of c.args.from.now))
    (λ here turns a. then_with (last here turns) (λ turns b. outcome_of_answer (range_of a b) c.args.place turns)) _ _ _ a c.range_value.result
    c.in_ok-first.ensures
    (goes bounded_val bounded_val last (λ here turns b. outcome_of_answer (range_of (bounded_val a) b) c.args.place turns) _ _ _ b c.range_value.result
    (subst (λ (r : Result BoundedValue Stop). EvaluatesTo bounded_val c.evaluate.new.evaluation c.evaluate-next.new.evaluation r last) w.1 c.evaluate-next.ensures)
    (answers _ c.range_value.result (range_of (bounded_val a) (bounded_val b)) c.args.place
    (subst (λ (x : BoundedValue). MeetsAnswerAt c.range_value.result (range_of (bounded_val x) (bounded_val b)) c.args.place) w.0 c.range_value.ensures)))

pub each_value-each-preserved : goal.each_value-each-preserved
each_value-each-preserved t c =
    let xs = c.args.exprs.now.items.items in
    let i = c.each.expr-index in
    let h : i < length xs = omega (arith, c.each-test.true, ap length c.deref-expr-items.ensures.value) in
    let x = c.expr-item.result in
    let is : x ≡ get_or xs i x = c.expr-item.is ∙ ap (λ (l : List Expr). get_or l i x)
    c.deref-expr-items.ensures.value in
    let inv = c.each.invariant in
    let g = c.evaluate-next.ensures in
    let here = expression_context_here c.args.evaluation.now in
    let rest = terms_from (map term_of (drop (i + 1) xs)) in
    record {
      told = item_told _ _ inv.kept c.each.values _
          (each_value here (terms_from (map term_of (drop i xs))) c.each.evaluation.turns)
          (λ here. value_at_next_depth here true (term_of x)) (each_value here rest) inv.told
          (ap (λ t. each_value here t c.each.evaluation.turns) (terms_here xs i x h is))
          _ c.evaluate-next.result c.in_ok-values.values c.in_ok-values.ensures g;
      kept = keeps_trans inv.kept g.kept;
    }

pub each_value-returns : goal.each_value-returns
each_value-returns t c =
    let xs = c.args.exprs.now.items.items in
    let i = c.each.expr-index in
    let le : length xs ≤ i = omega (arith, c.each-test.false, ap length c.deref-expr-items.ensures.value) in
    record {
      value = values_end (expression_context_here c.args.evaluation.now) _ (vals_in c.each.values.items.items) []
          (terms_from (map term_of (drop i xs))) c.each.evaluation.turns c.each.invariant.told (terms_end xs i le);
      kept = c.each.invariant.kept;
    }

pub each_value-returns-in_err-values : goal.each_value-returns-in_err-values
each_value-returns-in_err-values t c =
    let p = err_from_is_err_and c.from_residual.result c.from_residual.ensures.1 in
    let xs = c.args.exprs.now.items.items in
    let i = c.each.expr-index in
    let h : i < length xs = omega (arith, c.each-test.true, ap length c.deref-expr-items.ensures.value) in
    let x = c.expr-item.result in
    let is : x ≡ get_or xs i x = c.expr-item.is ∙ ap (λ (l : List Expr). get_or l i x)
    c.deref-expr-items.ensures.value in
    let inv = c.each.invariant in
    let g = c.evaluate-next.ensures in
    let here = expression_context_here c.args.evaluation.now in
    let rest = terms_from (map term_of (drop (i + 1) xs)) in
    record {
      value = rw (p.1, p.2) (item_stops _ _ inv.kept c.each.values _
          (each_value here (terms_from (map term_of (drop i xs))) c.each.evaluation.turns)
          (λ here. value_at_next_depth here true (term_of x)) (each_value here rest) inv.told
          (ap (λ t. each_value here t c.each.evaluation.turns) (terms_here xs i x h is))
          c.evaluate-next.new.evaluation c.evaluate-next.result c.in_err-values.field-0.0 c.evaluate-next.new.evaluation.turns c.in_err-values.ensures g);
      kept = keeps_trans inv.kept g.kept;
    }

pub each_positional-each-preserved : goal.each_positional-each-preserved
each_positional-each-preserved t c =
    let xs = c.args.args.now.items.items in
    let i = c.each.arg-index in
    let h : i < length xs = omega (arith, c.each-test.true, ap length c.deref-arg-items.ensures.value) in
    let x = c.arg-item.result in
    let is : x ≡ get_or xs i x = c.arg-item.is ∙ ap (λ (l : List Arg). get_or l i x)
    c.deref-arg-items.ensures.value in
    let inv = c.each.invariant in
    let g = c.evaluate-next.ensures in
    let here = expression_context_here c.args.evaluation.now in
    let rest = args_from (map arg_of (drop (i + 1) xs)) in
    record {
      told = item_told _ _ inv.kept c.each.values _
          (each_value here (all_values (args_from (map arg_of (drop i xs)))) c.each.evaluation.turns)
          (λ here. value_at_next_depth here true (term_of c.argument_value.result.now)) (each_value here (all_values rest)) inv.told
          (ap (λ t. each_value here t c.each.evaluation.turns) (values_here xs i x h is _ c.argument_value.ensures.value))
          _ c.evaluate-next.result c.in_ok-values.values c.in_ok-values.ensures g;
      kept = keeps_trans inv.kept g.kept;
    }

pub each_positional-returns : goal.each_positional-returns
each_positional-returns t c =
    let xs = c.args.args.now.items.items in
    let i = c.each.arg-index in
    let le : length xs ≤ i = omega (arith, c.each-test.false, ap length c.deref-arg-items.ensures.value) in
    record {
      value = values_end (expression_context_here c.args.evaluation.now) _ (vals_in c.each.values.items.items) []
          (all_values (args_from (map arg_of (drop i xs)))) c.each.evaluation.turns c.each.invariant.told
          (ap all_values (args_end xs i le));
      kept = c.each.invariant.kept;
    }

pub each_positional-returns-in_err-values : goal.each_positional-returns-in_err-values
each_positional-returns-in_err-values t c =
    let p = err_from_is_err_and c.from_residual.result c.from_residual.ensures.1 in
    let xs = c.args.args.now.items.items in
    let i = c.each.arg-index in
    let h : i < length xs = omega (arith, c.each-test.true, ap length c.deref-arg-items.ensures.value) in
    let x = c.arg-item.result in
    let is : x ≡ get_or xs i x = c.arg-item.is ∙ ap (λ (l : List Arg). get_or l i x)
    c.deref-arg-items.ensures.value in
    let inv = c.each.invariant in
    let g = c.evaluate-next.ensures in
    let here = expression_context_here c.args.evaluation.now in
    let rest = args_from (map arg_of (drop (i + 1) xs)) in
    record {
      value = rw (p.1, p.2) (item_stops _ _ inv.kept c.each.values _
          (each_value here (all_values (args_from (map arg_of (drop i xs)))) c.each.evaluation.turns)
          (λ here. value_at_next_depth here true (term_of c.argument_value.result.now)) (each_value here (all_values rest)) inv.told
          (ap (λ t. each_value here t c.each.evaluation.turns) (values_here xs i x h is _ c.argument_value.ensures.value))
          c.evaluate-next.new.evaluation c.evaluate-next.result c.in_err-values.field-0.0 c.evaluate-next.new.evaluation.turns c.in_err-values.ensures g);
      kept = keeps_trans inv.kept g.kept;
    }

pub postfix-returns-in_err-variable : goal.postfix-returns-in_err-variable
postfix-returns-in_err-variable t c =
    let p = err_from_is_err_and c.from_residual.result c.from_residual.ensures.1 in
    let e = c.args.evaluation.now in
    let here = expression_context_here e in
    let missing = c.in_err-variable.ensures.missing in
    let none = variable_same (table_in e.source.now) (numbered_env_here e) c.in-Name.name ∙ ap
    (λ n. variable_in (numbered_env_here e) n) (sym c.items.ensures)
    ∙ missing.0 in
    record {
      value = rw (p.1, p.2) (fault_at bounded_val c.in_err-variable.field-0.0 e.turns UnknownName c.in-Name.place _
          (name_then here (term_of c.args.of.now) c.in-Name.place c.in-Name.name e.turns None
          (λ turns v. each_suffix here v (suffixes_from (suffixes_of c.args.rest.now)) turns)
          (ap term_of c.in-Name.is ∙ name_form c.in-Name.place c.in-Name.name) none) missing.1);
      kept = keeps_same _;
    }

pub postfix-returns-in-Name : goal.postfix-returns-in-Name
postfix-returns-in-Name t c =
    let e = c.args.evaluation.now in
    let here = expression_context_here e in
    let found = variable_same (table_in e.source.now) (numbered_env_here e) c.in-Name.name ∙ ap
    (λ n. variable_in (numbered_env_here e) n) (sym c.items.ensures)
    ∙ c.in_ok-variable.ensures.found in
    record {
      value = meets_along c.suffixes.result c.suffixes.new.evaluation.turns _ _
          (name_then here (term_of c.args.of.now) c.in-Name.place c.in-Name.name e.turns _
          (λ turns v. each_suffix here v (suffixes_from (suffixes_of c.args.rest.now)) turns)
          (ap term_of c.in-Name.is ∙ name_form c.in-Name.place c.in-Name.name) found) c.suffixes.ensures.value;
      kept = c.suffixes.ensures.kept;
    }

pub suffixes-returns-in_err-so_far-2 : goal.suffixes-returns-in_err-so_far-2
suffixes-returns-in_err-so_far-2 t c =
    let p = err_from_is_err_and c.from_residual-in_err-so_far-2.result c.from_residual-in_err-so_far-2.ensures.1 in
    let xs = c.args.rest.now.more.items in
    let i = c.each.part-index in
    let h : i < length xs = omega (arith, c.each-test.true, ap length c.deref-part-items.ensures.value) in
    let x = c.part-item.result in
    let is : x ≡ get_or xs i x = c.part-item.is ∙ ap (λ (l : List Suffix). get_or l i x)
    c.deref-part-items.ensures.value in
    let next = suffixes_here xs i x h is in
    let inv = c.each.invariant in
    let v = bounded_val c.each.so_far in
    let here = expression_context_here c.args.evaluation.now in
    let rest = suffixes_from (map suffix_of (drop (i + 1) xs)) in
    let step = suffix_value here v (suffix_of x) c.each.evaluation.turns in
    let apart = ap (λ ss. each_suffix here v ss c.each.evaluation.turns) next ∙ suffix_step here v (suffix_of x) rest
    c.each.evaluation.turns in
    record {
      value = rw (p.1, p.2) (step_fault _ (λ turns y. each_suffix here y rest turns) _ step inv.told apart
          c.in_err-so_far-2.field-0.0 c.suffix-in-each.new.evaluation.turns c.suffix-in-each.new.evaluation.turns
          (meets_along (Err c.in_err-so_far-2.field-0.0) c.suffix-in-each.new.evaluation.turns _ _
          (moved (λ s. suffix_value s v (suffix_of x) c.each.evaluation.turns) inv.kept)
          c.in_err-so_far-2.ensures.value));
      kept = keeps_trans inv.kept c.in_err-so_far-2.ensures.kept;
    }

pub suffixes-each-preserved : goal.suffixes-each-preserved
suffixes-each-preserved t c =
    let xs = c.args.rest.now.more.items in
    let i = c.each.part-index in
    let h : i < length xs = omega (arith, c.each-test.true, ap length c.deref-part-items.ensures.value) in
    let x = c.part-item.result in
    let is : x ≡ get_or xs i x = c.part-item.is ∙ ap (λ (l : List Suffix). get_or l i x)
    c.deref-part-items.ensures.value in
    let next = suffixes_here xs i x h is in
    let inv = c.each.invariant in
    let v = bounded_val c.each.so_far in
    let here = expression_context_here c.args.evaluation.now in
    let rest = suffixes_from (map suffix_of (drop (i + 1) xs)) in
    let step = suffix_value here v (suffix_of x) c.each.evaluation.turns in
    let apart = ap (λ ss. each_suffix here v ss c.each.evaluation.turns) next ∙ suffix_step here v (suffix_of x) rest
    c.each.evaluation.turns in
    let g = c.in_ok-so_far-2.ensures in
    record {
      told = step_more _ (λ turns y. each_suffix here y rest turns) _ step inv.told apart
          c.suffix-in-each.new.evaluation.turns (bounded_val c.in_ok-so_far-2.so_far)
          (moved (λ s. suffix_value s v (suffix_of x) c.each.evaluation.turns) inv.kept ∙ g.value);
      kept = keeps_trans inv.kept g.kept;
    }

pub links-returns-in_err-so_far-2 : goal.links-returns-in_err-so_far-2
links-returns-in_err-so_far-2 t c =
    let p = err_from_is_err_and c.from_residual-in_err-so_far-2.result c.from_residual-in_err-so_far-2.ensures.1 in
    let xs = c.deref-part-items.result.now in
    let i = c.each.part-index in
    let h : i < length xs = omega (arith, c.each-test.true) in
    let x = c.part-item.result in
    let is : x ≡ get_or xs i x = c.part-item.is in
    let next = links_here xs i x h is in
    let inv = c.each.invariant in
    let v = bounded_val c.each.so_far in
    let here = expression_context_here c.args.evaluation.now in
    let rest = links_from (map link_of (drop (i + 1) xs)) in
    let step = link_value here v (link_of x) c.each.evaluation.turns in
    record {
      value = rw (p.1, p.2) (step_fault _ (λ turns y. each_link here y rest turns) _ step inv.told
          (ap (λ ls. each_link here v ls c.each.evaluation.turns) next)
          c.in_err-so_far-2.field-0.0 c.link-in-each.new.evaluation.turns c.link-in-each.new.evaluation.turns
          (meets_along (Err c.in_err-so_far-2.field-0.0) c.link-in-each.new.evaluation.turns _ _
          (moved (λ s. link_value s v (link_of x) c.each.evaluation.turns) inv.kept)
          c.in_err-so_far-2.ensures.value));
      kept = keeps_trans inv.kept c.in_err-so_far-2.ensures.kept;
    }

pub links-each-preserved : goal.links-each-preserved
links-each-preserved t c =
    let xs = c.deref-part-items.result.now in
    let i = c.each.part-index in
    let h : i < length xs = omega (arith, c.each-test.true) in
    let x = c.part-item.result in
    let is : x ≡ get_or xs i x = c.part-item.is in
    let next = links_here xs i x h is in
    let inv = c.each.invariant in
    let g = c.in_ok-so_far-2.ensures in
    let v = bounded_val c.each.so_far in
    let here = expression_context_here c.args.evaluation.now in
    let rest = links_from (map link_of (drop (i + 1) xs)) in
    record {
      told = step_more _ (λ turns y. each_link here y rest turns) _ (link_value here v (link_of x) c.each.evaluation.turns)
          inv.told (ap (λ ls. each_link here v ls c.each.evaluation.turns) next)
          c.link-in-each.new.evaluation.turns (bounded_val c.in_ok-so_far-2.so_far)
          (moved (λ s. link_value s v (link_of x) c.each.evaluation.turns) inv.kept ∙ g.value);
      kept = keeps_trans inv.kept g.kept;
    }

pub link-returns-in-Name : goal.link-returns-in-Name
link-returns-in-Name t c =
    let e = c.args.evaluation.now in
    let here = expression_context_here e in
    let part = c.args.part.now in
    record {
      value = meets_along c.binary_with_variable.result e.turns _ _
          (ap (λ l. link_value here (bounded_val c.args.left) l e.turns) (link_form part)
          ∙ link_wants here (bounded_val c.args.left) (record { op = part.op; at = part.place; right = term_of part.right })
          e.turns (sym c.if-not-wants_right.ensures)
          ∙ name_then here (term_of part.right) c.in-Name.at c.in-Name.name e.turns _
          (λ turns w. outcome_of_answer (binary_of part.op (bounded_val c.args.left) w) part.place turns)
          (ap term_of c.in-Name.is ∙ name_form c.in-Name.at c.in-Name.name)
          (variable_same (table_in e.source.now) (numbered_env_here e) c.in-Name.name))
          (c.binary_with_variable.ensures e.turns);
      kept = keeps_same _;
    }

pub call-returns-in_err-given-in-Some : goal.call-returns-in_err-given-in-Some
call-returns-in_err-given-in-Some t c =
    let p = err_from_is_err_and c.from_residual.result c.from_residual.ensures.1 in
    let e = c.args.evaluation.now in
    let args = args_from (args_of c.args.args.now) in
    let told = subst (λ (ns : List (List ℕ)). MeetsOutcome arguments_of (Err c.in_err-given-in-Some.field-0.0) c.arguments.new.evaluation.turns
    (each_argument (expression_context_here e) ns 0 args (no_arguments_of (length ns)) e.turns))
    c.in-Some.ensures.named c.in_err-given-in-Some.ensures.given.value in
    record {
      value = rw (p.1, p.2) (meets_along (Err c.in_err-given-in-Some.field-0.0) c.arguments.new.evaluation.turns _ _
          (call_found e c.in-Some.defining_scope (function_of c.in-Some.function) c.args.place c.args.name.now
          (args_from (args_of c.args.args.now)) e.turns c.in-Some.ensures.found)
          (fault_goes arguments_of bounded_val _ _ c.in_err-given-in-Some.field-0.0 c.arguments.new.evaluation.turns
          c.arguments.new.evaluation.turns told));
      kept = c.in_err-given-in-Some.ensures.given.kept;
    }

pub call-function_call-value-requires : goal.call-function_call-value-requires
call-function_call-value-requires t c =
    let g = c.in_ok-given-in-Some.ensures in
    let params = c.in-Some.function.params.now.items.items in (
      omega (arith, g.given.kept.work, c.decreases),
      (
        rw (g.given.kept.source) (deep_enough _ _ c.in-Some.ensures.among),
        g.count ∙ ap (λ (ns : List (List ℕ)). length ns) c.in-Some.ensures.named
            ∙ length-map (map param_of params) parameter_name ∙ length-map params param_of,
      ),
    )

pub call-returns-in_err-function-in-None : goal.call-returns-in_err-function-in-None
call-returns-in_err-function-in-None t c =
    let p = err_from_is_err_and c.from_residual-in_err-function-in-None.result
    c.from_residual-in_err-function-in-None.ensures.1 in
    let e = c.args.evaluation.now in
    let here = expression_context_here e in
    record {
      value = rw (p.1, p.2) (meets_along (Err c.in_err-function-in-None.field-0.0) e.turns _ _
          (ap (λ o. call_value here c.args.place c.args.name.now (args_from (args_of c.args.args.now)) e.turns o)
          c.in-None.ensures.found)
          (c.in_err-function-in-None.ensures.refused here e.turns e.turns));
      kept = keeps_same _;
    }

pub arguments-each-init : goal.arguments-each-init
arguments-each-init t c =
    let form = ap args_from (args_form c.args.args.now) in
    let names = names_in c.args.names in
    let so_far = c.in_ok-so_far.so_far in
    let none = nothing_seen so_far.given _ c.in_ok-so_far.ensures.given in
    let here = expression_context_here c.args.evaluation.now in
    record {
      told = ap (λ given. each_argument here names 0 (args_from (args_of c.args.args.now)) given
          c.args.evaluation.now.turns) (sym none)
          ∙ ap (λ l. each_argument here names 0 l (arguments_of so_far.given) c.args.evaluation.now.turns) form;
      names = c.in_ok-so_far.ensures.names;
      few = omega arith;
      kept = keeps_same _;
    }

pub arguments-each-preserved : goal.arguments-each-preserved
arguments-each-preserved t c =
    let xs = c.args.args.now.items.items in
    let i = c.each.arg-index in
    let h : i < length xs = omega (arith, c.each-test.true, ap length c.deref-arg-items.ensures.value) in
    let x = c.arg-item.result in
    let is : x ≡ get_or xs i x = c.arg-item.is ∙ ap (λ (l : List Arg). get_or l i x)
    c.deref-arg-items.ensures.value in
    let next = args_here xs i x h is in
    let inv = c.each.invariant in
    let g = c.evaluate-next.ensures in
    let a = arg_of x in
    let rest = args_from (map arg_of (drop (i + 1) xs)) in
    let here = expression_context_here c.args.evaluation.now in
    let names = names_in c.args.names in
    let before = c.each.so_far.given in
    let after = c.in_ok-so_far-2.so_far in
    let d = c.in_ok-held.destination in
    let w = c.in_ok-held.ensures.ok in
    let free = ap (λ (ns : Names). destination_of (names_in ns) c.each.positional (arguments_of before) a) (sym inv.names)
    ∙ taker_given (names_in c.each.so_far.names) c.each.positional before a
    ∙ if_ok_at (λ (d : Destination). destination_of (names_in c.each.so_far.names) c.each.positional (call_arguments_of before) a ≡ Some (destination_term d))
    c.destination_for-free.result d w.1 c.destination_for-free.ensures.free in
    let step = meets_along c.evaluate-next.result _ _ _ (ap (λ e. value_at_next_depth here true e c.each.evaluation.turns)
    (sym c.argument_value.ensures.value) ∙ moved (λ s. value_at_next_depth s true (term_of c.argument_value.result.now) c.each.evaluation.turns)
    inv.kept) g.value in
    let given = held_seen before d c.evaluate-next.result (Ok after.given)
    (subst (λ (v : ArgumentsSoFar BoundedValue). IsOneMoreGiven v.given d c.evaluate-next.result (Ok after.given)) w.0
    c.in_ok-so_far-2.ensures.given) in
    record {
      told = argument_held here names c.each.positional _ (args_from (map arg_of (drop i xs))) (arguments_of before) c.each.evaluation.turns
          inv.told a rest (destination_term d) c.evaluate-next.new.evaluation.turns c.positional_after-positional.result c.evaluate-next.result
          after.given next free step given c.positional_after-positional.ensures.value;
      names = c.in_ok-so_far-2.ensures.names ∙ ap (λ (v : ArgumentsSoFar BoundedValue). v.names) w.0 ∙ inv.names;
      few = omega (arith, c.positional_after-positional.ensures.within, inv.few);
      kept = keeps_trans inv.kept g.kept;
    }

pub arguments-returns-in_err-held-clause-given : goal.arguments-returns-in_err-held-clause-given
arguments-returns-in_err-held-clause-given t c =
    let p = err_from_is_err_and c.from_residual-in_err-held.result c.from_residual-in_err-held.ensures.1 in
    let xs = c.args.args.now.items.items in
    let i = c.each.arg-index in
    let h : i < length xs = omega (arith, c.each-test.true, ap length c.deref-arg-items.ensures.value) in
    let x = c.arg-item.result in
    let is : x ≡ get_or xs i x = c.arg-item.is ∙ ap (λ (l : List Arg). get_or l i x)
    c.deref-arg-items.ensures.value in
    let inv = c.each.invariant in
    let a = arg_of x in
    let rest = args_from (map arg_of (drop (i + 1) xs)) in
    let here = expression_context_here c.args.evaluation.now in
    let names = names_in c.args.names in
    let before = c.each.so_far.given in
    let stop = c.in_err-held.field-0.0 in
    let refused = if_err_at (λ (s : Stop). (destination_of (names_in c.each.so_far.names) c.each.positional (call_arguments_of before) a ≡ None) × IsFaultAt s BadArgument (argument_place a))
    c.destination_for-free.result stop c.in_err-held.ensures.err c.destination_for-free.ensures.none in
    record {
      value = rw (p.1, p.2) (fault_at arguments_of stop _ BadArgument (argument_place a) _
          (argument_none here names c.each.positional _ (args_from (map arg_of (drop i xs))) (arguments_of before) c.each.evaluation.turns
          inv.told a rest (args_here xs i x h is)
          (ap (λ (ns : Names). destination_of (names_in ns) c.each.positional (arguments_of before) a) (sym inv.names)
          ∙ taker_given (names_in c.each.so_far.names) c.each.positional before a ∙ refused.0)) refused.1);
      kept = inv.kept;
    }

pub arguments-returns-clause-given : goal.arguments-returns-clause-given
arguments-returns-clause-given t c =
    let xs = c.args.args.now.items.items in
    let i = c.each.arg-index in
    let le : length xs ≤ i = omega (arith, c.each-test.false, ap length c.deref-arg-items.ensures.value) in
    let inv = c.each.invariant in
    let here = expression_context_here c.args.evaluation.now in
    let given = c.each.so_far.given in
    record {
      value = inv.told ∙ ap (λ l. each_argument here (names_in c.args.names) c.each.positional l (arguments_of given) c.each.evaluation.turns)
          (args_end xs i le);
      kept = inv.kept;
    }

pub arguments-returns-in_err-so_far-2-clause-given : goal.arguments-returns-in_err-so_far-2-clause-given
arguments-returns-in_err-so_far-2-clause-given t c =
    let p = err_from_is_err_and c.from_residual-in_err-so_far-2.result c.from_residual-in_err-so_far-2.ensures.1 in
    let xs = c.args.args.now.items.items in
    let i = c.each.arg-index in
    let h : i < length xs = omega (arith, c.each-test.true, ap length c.deref-arg-items.ensures.value) in
    let x = c.arg-item.result in
    let is : x ≡ get_or xs i x = c.arg-item.is ∙ ap (λ (l : List Arg). get_or l i x)
    c.deref-arg-items.ensures.value in
    let inv = c.each.invariant in
    let a = arg_of x in
    let rest = args_from (map arg_of (drop (i + 1) xs)) in
    let here = expression_context_here c.args.evaluation.now in
    let names = names_in c.args.names in
    let g = c.evaluate-next.ensures in
    let before = c.each.so_far.given in
    let d = c.in_ok-held.destination in
    let w = c.in_ok-held.ensures.ok in
    let free = ap (λ (ns : Names). destination_of (names_in ns) c.each.positional (arguments_of before) a) (sym inv.names)
    ∙ taker_given (names_in c.each.so_far.names) c.each.positional before a
    ∙ if_ok_at (λ (d : Destination). destination_of (names_in c.each.so_far.names) c.each.positional (call_arguments_of before) a ≡ Some (destination_term d))
    c.destination_for-free.result d w.1 c.destination_for-free.ensures.free in
    let step = meets_along c.evaluate-next.result _ _ _ (ap (λ e. value_at_next_depth here true e c.each.evaluation.turns)
    (sym c.argument_value.ensures.value) ∙ moved (λ s. value_at_next_depth s true (term_of c.argument_value.result.now) c.each.evaluation.turns)
    inv.kept) g.value in
    let stop = c.in_err-so_far-2.field-0.0 in
    let held = held_seen before d c.evaluate-next.result (Err stop)
    (subst (λ (v : ArgumentsSoFar BoundedValue). IsOneMoreGiven v.given d c.evaluate-next.result (Err stop)) w.0 c.in_err-so_far-2.ensures.given) in
    record {
      value = rw (p.1, p.2) (argument_stops here names c.each.positional _ (args_from (map arg_of (drop i xs))) (arguments_of before) c.each.evaluation.turns
          inv.told a rest (destination_term d) c.evaluate-next.new.evaluation.turns c.evaluate-next.new.evaluation.turns c.evaluate-next.result stop
          (args_here xs i x h is) free step held);
      kept = keeps_trans inv.kept g.kept;
    }

pub parameters-parameter-next-requires : goal.parameters-parameter-next-requires
parameters-parameter-next-requires t c =
    let xs = c.args.params.now.items.items in
    let i = c.each.i in
    let h : i < length xs = omega (arith, c.each-test.true, ap length c.deref-param-items.ensures.value) in
    let x = c.param-item.result in
    let is : x ≡ get_or xs i x = c.param-item.is ∙ ap (λ (l : List Param). get_or l i x)
    c.deref-param-items.ensures.value in
    omega (arith, param_deep xs i x h is, c.each.invariant.kept.work, c.decreases)

pub parameters-each-preserved : goal.parameters-each-preserved
parameters-each-preserved t c =
    let xs = c.args.params.now.items.items in
    let i = c.each.i in
    let h : i < length xs = omega (arith, c.each-test.true, ap length c.deref-param-items.ensures.value) in
    let x = c.param-item.result in
    let is : x ≡ get_or xs i x = c.param-item.is ∙ ap (λ (l : List Param). get_or l i x)
    c.deref-param-items.ensures.value in
    let next = params_here xs i x h is in
    let inv = c.each.invariant in
    let still = c.each.open.items in
    let held : i < length still = omega (arith, h, inv.count) in
    let s = bound_argument_of c.replace-given.result in
    let dest = c.replace-given.new.dest in
    let bound_argument = slots_here still i c.index_mut.result.now held c.index_mut.ensures.value ∙ ap
    (λ o. bound_argument_of o ∷ bound_arguments_in (drop (i + 1) still)) (sym c.replace-given.ensures.value) in
    let w = c.in_ok-open.ensures.ok in
    let unfilled = c.in_ok-open.field-0-0 in
    let values = c.in_ok-open.field-0-1 in
    let same : unfilled.items ≡ set still i dest = ap (λ (v : Vec (Option BoundedValue) Global). v.items) w.0 in
    let bound = bound_argument ∙ ap (λ l. s ∷ bound_arguments_in l) (sym (drop-set-lt (i + 1) still i dest (omega arith)))
    ∙ ap (λ (l : List (Option BoundedValue)). s ∷ bound_arguments_in (drop (i + 1) l)) (sym same) in
    let g = c.parameter-next.ensures in
    let r = c.parameter-next.result in
    let longer = subst (λ (y : Result BoundedValues Stop). IsOneMore c.each.values r y) w.1
    c.with_next-longer.ensures in
    let here = expression_context_here c.args.evaluation.now in
    let ps = map param_of (drop (i + 1) xs) in
    record {
      told = item_told _ _ inv.kept c.each.values _
          (each_parameter here (map param_of (drop i xs)) (bound_arguments_in (drop i still)) c.each.evaluation.turns)
          (λ here. parameter_value here (param_of x) s) (each_parameter here ps (bound_arguments_in (drop (i + 1) unfilled.items))) inv.told
          (ap (λ l. each_parameter here l (bound_arguments_in (drop i still)) c.each.evaluation.turns) next
          ∙ ap (λ l. each_parameter here (param_of x ∷ ps) l c.each.evaluation.turns) bound)
          _ r values longer g;
      count = ap length same ∙ length-set still i dest ∙ inv.count;
      got = longer_length c.each.values r values longer ∙ ap (λ n. n + 1) inv.got;
      kept = keeps_trans inv.kept g.kept;
    }

pub parameters-returns : goal.parameters-returns
parameters-returns t c =
    let xs = c.args.params.now.items.items in
    let i = c.each.i in
    let le : length xs ≤ i = omega (arith, c.each-test.false, ap length c.deref-param-items.ensures.value) in
    record {
      value = filled_end (expression_context_here c.args.evaluation.now) _ (vals_in c.each.values.items.items)
          (map param_of (drop i xs)) (bound_arguments_in (drop i c.each.open.items)) c.each.evaluation.turns
          c.each.invariant.told (params_end xs i le);
      count = omega (arith, c.each.invariant.got, le, c.each.far-i, ap length c.deref-param-items.ensures.value);
      kept = c.each.invariant.kept;
    }

pub function_call-returns-in_err-given : goal.function_call-returns-in_err-given
function_call-returns-in_err-given t c =
    let p = err_from_is_err_and c.from_residual.result c.from_residual.ensures.1 in
    let e = c.args.evaluation.now in
    let begun = c.begin_counted_call-begun in
    let stop = c.in_err-given.field-0.0 in
    record {
      value = rw (p.1, p.2) (call_refused bounded_val e c.args.place stop _
          (λ calls turns. function_value (expression_with_calls_left (expression_context_here e) calls) (function_of c.args.function) (arguments_of c.args.given) turns)
          (if_err_at (IsRefusedCall e c.args.place) begun.result stop c.in_err-given.ensures.err begun.ensures.refused));
      kept = on_err_at _ begun.result stop c.in_err-given.ensures.err begun.ensures.kept;
    }

pub function_call-function_value-value-requires : goal.function_call-function_value-value-requires
function_call-function_value-value-requires t c =
    let e = c.args.evaluation.now in
    let begun = c.begin_counted_call-begun in
    let mid = begun.new.self in
    let w = c.in_ok-given.ensures.ok in
    let at_next_depth : OneCallDeeper e mid = on_ok_at _ begun.result _ w.1 begun.ensures.begun in (
      omega (
        arith,
        ap (λ (x : Source). work_left x mid.calls) at_next_depth.source,
        ap (work_left e.source.now) at_next_depth.calls,
        work_falls e.source.now e.calls at_next_depth.within,
        c.requires.within,
        c.decreases,
      ),
      subst (λ (given : CallArguments BoundedValue). length given.bound.items ≡ length c.args.function.params.now.items.items) (sym w.0) c.requires.count,
    )

pub function_call-end_call-requires : goal.function_call-end_call-requires
function_call-end_call-requires t c =
    let e = c.args.evaluation.now in
    let begun = c.begin_counted_call-begun in
    let at_next_depth : OneCallDeeper e begun.new.self = on_ok_at _ begun.result _ c.in_ok-given.ensures.ok.1 begun.ensures.begun in
    omega (arith, at_next_depth.calls, c.function_value-value.ensures.kept.calls)

pub function_call-returns : goal.function_call-returns
function_call-returns t c =
    let e = c.args.evaluation.now in
    let f = function_of c.args.function in
    let begun = c.begin_counted_call-begun in
    let mid = begun.new.self in
    let w = c.in_ok-given.ensures.ok in
    let at_next_depth : OneCallDeeper e mid = on_ok_at _ begun.result _ w.1 begun.ensures.begun in
    let count_elements = on_ok_at _ begun.result _ w.1 begun.ensures.counted in
    let g = c.function_value-value.ensures in
    let told : ExpressionContext → Arguments → ℕ → Outcome Val = λ here given turns. function_value here f given turns in
    record {
      value = rw (c.end_call.ensures.turns) (meets_along c.function_value-value.result _ _ _
          (call_goes c.args.place e.calls e.turns (λ calls turns. told (expression_with_calls_left (expression_context_here e) calls) (arguments_of c.args.given) turns) at_next_depth.within count_elements.0
          ∙ ap (λ s. told s (arguments_of c.args.given) (e.turns + 1)) (sym (call_setting e mid at_next_depth))
          ∙ ap (told (expression_context_here mid) (arguments_of c.args.given)) (sym count_elements.1)
          ∙ ap (λ (given : CallArguments BoundedValue). told (expression_context_here mid) (arguments_of given) mid.turns) (sym w.0)) g.value);
      kept = c.end_call.ensures.back e (call_kept e at_next_depth g.kept);
    }

pub suffix-returns-in-Member : goal.suffix-returns-in-Member
suffix-returns-in-Member t c =
    let e = c.args.evaluation.now in
    let v = indexed_val (numbered_env_here e) c.args.of in
    record {
      value = meets_along c.member_item.result e.turns _ _
          (ap (λ (x : Suffix). suffix_value (expression_context_here e) v (suffix_of x) e.turns) c.in-Member.is
          ∙ ap (λ x. suffix_value (expression_context_here e) v x e.turns) (member_form c.in-Member.place c.in-Member.name c.in-Member.name_place))
          (c.member_item.ensures e.turns);
      kept = keeps_same _;
    }

pub function_value-returns-in_err-bound : goal.function_value-returns-in_err-bound
function_value-returns-in_err-bound t c =
    let p = err_from_is_err_and c.from_residual.result c.from_residual.ensures.1 in
    let stop = c.in_err-bound.field-0.0 in
    record {
      value = rw (p.1, p.2) (none_told bounded_val stop _ _ (if_err_at IsNoMemory c.push_bindings-begun.result stop c.in_err-bound.ensures.err c.push_bindings-begun.ensures.stop));
      kept = on_err_at _ c.push_bindings-begun.result stop c.in_err-bound.ensures.err c.push_bindings-begun.ensures.begins.kept;
    }

pub function_value-with_defaults-value-requires : goal.function_value-with_defaults-value-requires
function_value-with_defaults-value-requires t c =
    let e = c.args.evaluation.now in
    let begun = c.push_bindings-begun.new.self in
    let w = c.in_ok-bound.ensures.ok in
    let begins : MoreBindings e begun c.in_ok-bound.before = if_ok_at (λ (n : ℕ). MoreBindings e begun n) c.push_bindings-begun.result _ w.1 c.push_bindings-begun.ensures.begins.begun in (
      omega (arith, ap (λ (x : Source). work_left x begun.calls) begins.source, ap (work_left e.source.now) begins.calls, c.decreases),
      ap (λ (v : Vec (Option BoundedValue) Global). length v.items) w.0 ∙ c.requires.count,
    )

pub function_value-pop_bindings-requires : goal.function_value-pop_bindings-requires
function_value-pop_bindings-requires t c =
    let e = c.args.evaluation.now in
    let begun = c.push_bindings-begun.new.self in
    let w = c.in_ok-bound.ensures.ok in
    let begins : MoreBindings e begun c.in_ok-bound.before = if_ok_at (λ (n : ℕ). MoreBindings e begun n) c.push_bindings-begun.result _ w.1 c.push_bindings-begun.ensures.begins.begun in
    let bindings = on_ok_at _ c.push_bindings-begun.result _ w.1 c.push_bindings-begun.ensures.begins.bindings in
    omega (
      arith,
      begins.number,
      ap length (c.with_defaults-value.ensures.kept.bindings ∙ bindings),
      length-append (bindings_in c.args.given.dynamic.items) (bindings_of e.scopes.now),
    )

pub function_value-returns : goal.function_value-returns
function_value-returns t c =
    let e = c.args.evaluation.now in
    let f = function_of c.args.function in
    let begun = c.push_bindings-begun.new.self in
    let w = c.in_ok-bound.ensures.ok in
    let before = c.in_ok-bound.before in
    let given = arguments_of c.args.given in
    let begins : MoreBindings e begun before = if_ok_at (λ (n : ℕ). MoreBindings e begun n) c.push_bindings-begun.result _ w.1 c.push_bindings-begun.ensures.begins.begun in
    let bindings : bindings_of begun.scopes.now ≡ given.dynamic ++ bindings_of e.scopes.now = on_ok_at _ c.push_bindings-begun.result _ w.1 c.push_bindings-begun.ensures.begins.bindings in
    let g = c.with_defaults-value.ensures in
    let told : ExpressionContext → BoundArguments → ℕ → Outcome Val = λ here bound turns. then_with (each_parameter here f.params bound turns) (λ turns vs. with_parameters here f vs turns) in
    record {
      value = rw (c.pop_bindings.ensures.turns) (meets_along c.with_defaults-value.result _ _ _
          (ap (λ s. told s given.bound e.turns) (sym (specials_setting e begun before given.dynamic begins bindings))
          ∙ ap (λ (v : Vec (Option BoundedValue) Global). told (expression_context_here begun) (bound_arguments_in v.items) e.turns) (sym w.0)
          ∙ ap (told (expression_context_here begun) (bound_arguments_in c.in_ok-bound.bound.items)) (sym c.push_bindings-begun.ensures.begins.turns)) g.value);
      kept = c.pop_bindings.ensures.back e (specials_kept e before begins g.kept);
    }
