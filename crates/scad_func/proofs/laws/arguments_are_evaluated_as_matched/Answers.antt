use Rattle.std.proofs.Common.{◌≡◌, ◌+◌, length, sym, ap, ◌∙◌, arith}
use Rattle.scad_ast.specs.Terms.{args_from}
use Rattle.scad_definitions.specs.Arguments.{no_arguments_of}
use Rattle.scad_func.specs.Meaning.{Arguments, each_argument}
use Rattle.scad_value.specs.Operators.{item_at}
use Rattle.scad_func.proofs.Valued.{nothing_valued, all_matched, all_gave}
use Rattle.scad_func.proofs.laws.arguments_are_evaluated_as_matched.Goals as goal

pub returns-clause-values : goal.returns-clause-values
returns-clause-values c = λ here names args turns after given h.
    all_gave here names args 0 turns after (no_arguments_of (length names)) given h

pub returns-clause-matched : goal.returns-clause-matched
returns-clause-matched c = λ here names args turns after values h.
    ap (λ (given : Arguments). each_argument here names 0 (args_from args) given turns) (sym (nothing_valued values (length names)))
    ∙ all_matched here names values args 0 0 turns after values (no_arguments_of (length names))
    (λ k. let at_once : 0 + k ≡ k = omega arith in ap (item_at values) at_once) h
