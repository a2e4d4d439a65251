use Rattle.std.proofs.Common.{◌≡◌, map, drop}
use Rattle.scad_ast.specs.Terms.{args_from}
use Rattle.scad_ast.specs.ExprView.{arg_of, args_of}
use Rattle.scad_definitions.specs.Arguments.{no_arguments_of}
use Rattle.scad_func.specs.View.{arguments_of}
use Rattle.scad_func.specs.Evaluations.{KeepsEvaluation, expression_context_here}
use Rattle.scad_meaning.specs.Meaning.{each_echo_argument}
use Rattle.scad_instance_rules.proofs.arguments.echo_arguments.Given as goal

abbrev pub invariant-each : goal.invariant-each
invariant-each l =
    let old = l.fn.evaluation in
    let here = expression_context_here old in
    record {
      told : each_echo_argument here (args_from (args_of l.args)) (no_arguments_of 0) old.turns
          ≡ each_echo_argument here (args_from (map arg_of (drop l.arg-index l.args.items.items))) (arguments_of l.so_far.given) l.evaluation.turns;
      kept : KeepsEvaluation old l.evaluation;
    }
