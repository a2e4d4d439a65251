use Rattle.std.proofs.Common.{◌≡◌, drop, map}
use Rattle.scad_ast.specs.Terms.{args_from}
use Rattle.scad_ast.specs.ExprView.{args_of, arg_of}
use Rattle.scad_func.specs.Steps.{have_no_names}
use Rattle.scad_func.proofs.argument.have_no_names.Given as goal

abbrev pub invariant-loop-arg : goal.invariant-loop-arg
invariant-loop-arg l = have_no_names (args_from (args_of l.args)) ≡ have_no_names
    (args_from (map arg_of (drop l.arg-index l.args.items.items)))
