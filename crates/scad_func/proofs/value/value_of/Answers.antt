use Rattle.std.proofs.Common.{sym, subst}
use Rattle.scad_ast.specs.ExprView.{term_of}
use Rattle.scad_scope.specs.Names.{env_of}
use Rattle.scad_scope.specs.Table.{rows_of}
use Rattle.scad_definitions.specs.Blocks.{BlockTable}
use Rattle.scad_func.specs.Definitions.{env_in}
use Rattle.scad_func.specs.Metered.{GivesValue, IsScopeOf}
use Rattle.scad_func.proofs.value.value_of.Goals as goal

pub value_in-requires : goal.value_in-requires
value_in-requires c =
    subst (λ (table : BlockTable). IsScopeOf table (rows_of c.args.scopes.now) c.args.scope) (sym c.in_ok-source.ensures.table) c.requires

pub returns-clause-value : goal.returns-clause-value
returns-clause-value c =
    subst (λ (table : BlockTable). GivesValue c.args.scopes.now c.args.meter.now c.value_in.new.meter
    (env_in table (env_of (rows_of c.args.scopes.now) c.args.scope)) (term_of c.args.expr.now) c.value_in.result)
    c.in_ok-source.ensures.table c.value_in.ensures.value
