use Rattle.std.proofs.Common.{refl}
use Rattle.std.proofs.lemmas.Result.{err_from_is_err_and}
use Rattle.scad_ast.specs.Terms.{statements_from}
use Rattle.scad_scope.specs.Names.{first_bindings}
use Rattle.scad_func.specs.View.{table_in}
use Rattle.scad_func.specs.Definitions.{statements_at}
use Rattle.scad_eval.proofs.Programs.{program_begins, program_members, program_statements, design_outcome, design_stops}
use Rattle.scad_eval.proofs.program.design_of.Goals as goal

pub returns-in_err-members : goal.returns-in_err-members
returns-in_err-members c = λ program table judge right.
    let p = err_from_is_err_and c.from_residual-in_err-members.result c.from_residual-in_err-members.ensures.1 in
    let entered = c.in_ok-enter_body.ensures in
    let new = c.enter_body.new.self in
    let after = c.members_in_scope.new.self in
    let here = program_begins entered.entered program c.requires.whole table c.requires.table.rows c.requires.table.bindings refl entered.inside in
    let told = program_members (statements_at (table_in new.source.now) 0) c.in_err-members.ensures program here
    (program_statements c.args.source.now new.source.now program entered.entered.source table) entered.entered.depth entered.turns refl judge right in (
      after.evaluation.turns,
      rw (p.1, p.2) (design_stops c.args.unit judge first_bindings (statements_from program) c.in_err-members.field-0.0
          after.evaluation.turns after.leaves after.evaluation.turns told),
    )

pub returns : goal.returns
returns c = λ program table judge right.
    let entered = c.in_ok-enter_body.ensures in
    let new = c.enter_body.new.self in
    let after = c.members_in_scope.new.self in
    let here = program_begins entered.entered program c.requires.whole table c.requires.table.rows c.requires.table.bindings refl entered.inside in
    let told = program_members (statements_at (table_in new.source.now) 0) c.in_ok-members.ensures program here
    (program_statements c.args.source.now new.source.now program entered.entered.source table) entered.entered.depth entered.turns refl judge right in (
      after.evaluation.turns,
      design_outcome c.args.unit judge first_bindings (statements_from program) c.in_ok-members.members c.in_ok-first_or_all.field-0
          after.evaluation.turns after.leaves told c.in_ok-first_or_all.ensures,
    )
