-- The value of an expression in a table of scopes, by a meter of calls, evaluations and turns.
use Rattle.std.specs.Prelude.{◌≡◌, ◌-◌, ◌<◌, ℕ, true, List, length, Result, IfOk, IsTrue}
use Rattle.text_place.specs.declared.fault.Stop.{Stop}
use Rattle.scad_ast.specs.Terms.{Term}
use Rattle.scad_value.specs.declared.value.Value.{Value}
use Rattle.scad_value.specs.Values.{is_bounded}
use Rattle.scad_value.specs.View.{val_of}
use Rattle.scad_scope.specs.Names.{ScopeRow}
use Rattle.scad_scope.specs.Numbered.{functions_below, modules_below}
use Rattle.scad_scope.specs.Table.{rows_of, bindings_of}
use Rattle.scad_scope.specs.declared.scopes.Scopes.{Scopes}
use Rattle.scad_definitions.specs.Blocks.{BlockTable}
use Rattle.scad_func.specs.Limits.{most_calls, most_evaluations}
use Rattle.scad_func.specs.Meaning.{Env, value_within}
use Rattle.scad_func.specs.View.{MeetsOutcome}
use Rattle.scad_func.specs.declared.meter.Meter.{Meter}

-- a scope of a table in which each number of a function or of a module is that of one of a text
pub record IsScopeOf (table : BlockTable) (rows : List ScopeRow) (scope : ℕ) : Type 0 where
  pub there : scope < length rows
  pub numbered : IsTrue (functions_below (length table.functions) rows)
  pub modules : IsTrue (modules_below (length table.modules) rows)

-- The value of an expression in a scope as it is defined, with the given number of calls and evaluations left as a meter says,
-- behind its turns, or the first fault, unless memory ran out; each value is bounded.
pub record GivesValue (scopes : Scopes) (before after : Meter) (env : Env) (expression : Term)
    (result : Result Value Stop) : Type 0 where
  pub value : MeetsOutcome val_of result after.turns
      (value_within (most_evaluations - before.depth) true (most_calls - before.calls) env
      (bindings_of scopes) expression before.turns)
  pub bounded : IfOk result (λ v. IsTrue (is_bounded (val_of v)))

-- the scopes, the dynamic bindings of special names, and of the meter all but the turns are as before
pub record KeepsAllButTurns (old new : Scopes) (before after : Meter) : Type 0 where
  pub rows : rows_of new ≡ rows_of old
  pub bindings : bindings_of new ≡ bindings_of old
  pub calls : after.calls ≡ before.calls
  pub depth : after.depth ≡ before.depth
