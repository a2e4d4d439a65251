-- Work that is left counts for more than any body is deep; in one call the trees get smaller.
use Rattle.std.proofs.Common.{◌≡◌, ◌+◌, ◌*◌, ◌≤◌, max, drop, map, length}
use Rattle.scad_ast.specs.declared.expression.Expr.{size-Expr}
use Rattle.scad_ast.specs.declared.expression.Exprs.{size-Exprs}
use Rattle.scad_ast.specs.declared.expression.Link.{size-Link}
use Rattle.scad_ast.specs.declared.expression.Links.{size-Links}
use Rattle.scad_ast.specs.declared.expression.Suffix.{size-Suffix}
use Rattle.scad_ast.specs.declared.expression.Suffixes.{size-Suffixes}
use Rattle.scad_ast.specs.declared.expression.Args.{size-Args}
use Rattle.scad_ast.specs.Terms.{terms_from, args_from, suffixes_from, links_from}
use Rattle.scad_ast.specs.ExprView.{term_of, terms_of, args_of, arg_of, suffix_of, suffixes_of, link_of, links_of}
use Rattle.scad_ast.specs.StatementView.{param_of, params_of}
use Rattle.scad_value.specs.View.{vals_in}
use Rattle.scad_value.specs.BoundedView.{bounded_val}
use Rattle.scad_definitions.specs.Arguments.{no_arguments_of}
use Rattle.scad_definitions.specs.ArgumentsView.{names_in}
use Rattle.scad_func.specs.Meaning.{each_value, each_argument, each_parameter, each_suffix, each_link}
use Rattle.scad_func.specs.Steps.{all_values}
use Rattle.scad_func.specs.View.{indexed_val, bound_arguments_in, arguments_of, function_size, param_size, params_size}
use Rattle.scad_func.specs.Evaluations.{KeepsEvaluation, work_left, numbered_env_here, expression_context_here}
use Rattle.scad_func.proofs.Calls.{in_front}
use Rattle.scad_func.proofs.evaluator.+value.Given as goal

abbrev pub decreases-evaluate : goal.decreases-evaluate
decreases-evaluate l = work_left l.evaluation.now.source.now l.evaluation.now.calls + (4 * size-Expr l.expr.now + 2)

abbrev pub decreases-at_next_depth : goal.decreases-at_next_depth
decreases-at_next_depth l = work_left l.evaluation.now.source.now l.evaluation.now.calls + (4 * size-Expr l.expr.now + 1)

abbrev pub decreases-operand : goal.decreases-operand
decreases-operand l = work_left l.evaluation.now.source.now l.evaluation.now.calls + 4 * size-Expr l.expr.now

abbrev pub decreases-each_value : goal.decreases-each_value
decreases-each_value l = work_left l.evaluation.now.source.now l.evaluation.now.calls + (4 * size-Exprs l.exprs.now + 2)

abbrev pub decreases-list : goal.decreases-list
decreases-list l = work_left l.evaluation.now.source.now l.evaluation.now.calls + (4 * size-Exprs l.items.now + 3)

abbrev pub decreases-unary : goal.decreases-unary
decreases-unary l = work_left l.evaluation.now.source.now l.evaluation.now.calls + (4 * size-Expr l.of.now + 2)

abbrev pub decreases-range : goal.decreases-range
decreases-range l = work_left l.evaluation.now.source.now l.evaluation.now.calls +
    (4 * max (size-Expr l.from.now) (size-Expr l.upto.now) + 3)

abbrev pub decreases-stepped_range : goal.decreases-stepped_range
decreases-stepped_range l = work_left l.evaluation.now.source.now l.evaluation.now.calls +
    (4 * max (size-Expr l.from.now) (max (size-Expr l.by.now) (size-Expr l.upto.now)) + 3)

abbrev pub decreases-postfix : goal.decreases-postfix
decreases-postfix l = work_left l.evaluation.now.source.now l.evaluation.now.calls +
    (4 * max (size-Expr l.of.now) (size-Suffixes l.rest.now) + 3)

abbrev pub decreases-suffixes : goal.decreases-suffixes
decreases-suffixes l = work_left l.evaluation.now.source.now l.evaluation.now.calls + (4 * size-Suffixes l.rest.now + 2)

abbrev pub decreases-suffix : goal.decreases-suffix
decreases-suffix l = work_left l.evaluation.now.source.now l.evaluation.now.calls + (4 * size-Suffix l.part.now + 1)

abbrev pub decreases-operators : goal.decreases-operators
decreases-operators l = work_left l.evaluation.now.source.now l.evaluation.now.calls +
    (4 * max (size-Expr l.first.now) (size-Links l.rest.now) + 3)

abbrev pub decreases-links : goal.decreases-links
decreases-links l = work_left l.evaluation.now.source.now l.evaluation.now.calls + (4 * size-Links l.rest.now + 2)

abbrev pub decreases-link : goal.decreases-link
decreases-link l = work_left l.evaluation.now.source.now l.evaluation.now.calls + (4 * size-Link l.part.now + 1)

abbrev pub decreases-choice : goal.decreases-choice
decreases-choice l = work_left l.evaluation.now.source.now l.evaluation.now.calls +
    (4 * max (size-Expr l.test.now) (max (size-Expr l.yes.now) (size-Expr l.no.now)) + 3)

abbrev pub decreases-call : goal.decreases-call
decreases-call l = work_left l.evaluation.now.source.now l.evaluation.now.calls + (4 * size-Args l.args.now + 3)

abbrev pub decreases-arguments : goal.decreases-arguments
decreases-arguments l = work_left l.evaluation.now.source.now l.evaluation.now.calls + (4 * size-Args l.args.now + 2)

abbrev pub decreases-function_call : goal.decreases-function_call
decreases-function_call l = work_left l.evaluation.now.source.now l.evaluation.now.calls

abbrev pub decreases-function_value : goal.decreases-function_value
decreases-function_value l = work_left l.evaluation.now.source.now l.evaluation.now.calls + (4 * function_size l.function + 7)

abbrev pub decreases-with_defaults : goal.decreases-with_defaults
decreases-with_defaults l = work_left l.evaluation.now.source.now l.evaluation.now.calls + (4 * function_size l.function + 6)

abbrev pub decreases-in_new_scope : goal.decreases-in_new_scope
decreases-in_new_scope l = work_left l.evaluation.now.source.now l.evaluation.now.calls + (4 * function_size l.function + 5)

abbrev pub decreases-parameters : goal.decreases-parameters
decreases-parameters l = work_left l.evaluation.now.source.now l.evaluation.now.calls + (4 * params_size l.params.now.items.items + 4)

abbrev pub decreases-parameter : goal.decreases-parameter
decreases-parameter l = work_left l.evaluation.now.source.now l.evaluation.now.calls + (4 * param_size l.param.now + 3)

abbrev pub decreases-each_positional : goal.decreases-each_positional
decreases-each_positional l = work_left l.evaluation.now.source.now l.evaluation.now.calls + (4 * size-Args l.args.now + 1)

abbrev pub invariant-each_value-each : goal.invariant-each_value-each
invariant-each_value-each l =
    let here = expression_context_here l.fn.evaluation in
    record {
      told : each_value here (terms_from (terms_of l.exprs)) l.fn.evaluation.turns
          ≡ in_front (vals_in l.values.items.items) (each_value here
          (terms_from (map term_of (drop l.expr-index l.exprs.items.items))) l.evaluation.turns);
      kept : KeepsEvaluation l.fn.evaluation l.evaluation;
    }

abbrev pub invariant-each_positional-each : goal.invariant-each_positional-each
invariant-each_positional-each l =
    let here = expression_context_here l.fn.evaluation in
    record {
      told : each_value here (all_values (args_from (args_of l.args))) l.fn.evaluation.turns
          ≡ in_front (vals_in l.values.items.items) (each_value here
          (all_values (args_from (map arg_of (drop l.arg-index l.args.items.items)))) l.evaluation.turns);
      kept : KeepsEvaluation l.fn.evaluation l.evaluation;
    }

abbrev pub invariant-suffixes-each : goal.invariant-suffixes-each
invariant-suffixes-each l =
    let here = expression_context_here l.fn.evaluation in
    record {
      told : each_suffix here (indexed_val (numbered_env_here l.fn.evaluation) l.fn.of)
          (suffixes_from (suffixes_of l.rest)) l.fn.evaluation.turns
          ≡ each_suffix here (bounded_val l.so_far)
          (suffixes_from (map suffix_of (drop l.part-index l.rest.more.items))) l.evaluation.turns;
      kept : KeepsEvaluation l.fn.evaluation l.evaluation;
    }

abbrev pub invariant-links-each : goal.invariant-links-each
invariant-links-each l =
    let here = expression_context_here l.fn.evaluation in
    record {
      told : each_link here (bounded_val l.fn.left) (links_from (links_of l.rest)) l.fn.evaluation.turns
          ≡ each_link here (bounded_val l.so_far)
          (links_from (map link_of (drop l.part-index l.part-items))) l.evaluation.turns;
      kept : KeepsEvaluation l.fn.evaluation l.evaluation;
    }

abbrev pub invariant-arguments-each : goal.invariant-arguments-each
invariant-arguments-each l =
    let here = expression_context_here l.fn.evaluation in
    record {
      told : each_argument here (names_in l.names) 0 (args_from (args_of l.args))
          (no_arguments_of (length (names_in l.names))) l.fn.evaluation.turns
          ≡ each_argument here (names_in l.names) l.positional
          (args_from (map arg_of (drop l.arg-index l.args.items.items))) (arguments_of l.so_far.given) l.evaluation.turns;
      names : l.so_far.names ≡ l.names;
      few : l.positional ≤ l.arg-index;
      kept : KeepsEvaluation l.fn.evaluation l.evaluation;
    }

abbrev pub invariant-parameters-each : goal.invariant-parameters-each
invariant-parameters-each l =
    let here = expression_context_here l.fn.evaluation in
    record {
      told : each_parameter here (params_of l.params) (bound_arguments_in l.fn.bound.items) l.fn.evaluation.turns
          ≡ in_front (vals_in l.values.items.items) (each_parameter here
          (map param_of (drop l.i l.params.items.items)) (bound_arguments_in (drop l.i l.open.items)) l.evaluation.turns);
      count : length l.open.items ≡ length l.params.items.items;
      got : length l.values.items.items ≡ l.i;
      kept : KeepsEvaluation l.fn.evaluation l.evaluation;
    }
