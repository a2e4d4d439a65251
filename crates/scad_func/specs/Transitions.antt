-- What the steps of an evaluation do to it: what begins and ends, is entered and left, and is given a value.
use Rattle.std.specs.Prelude.{◌≡◌, ◌<◌, ◌≤◌, ◌+◌, ◌++◌, ◌⊎◌, ℕ, List, length, take, Option, Result, OnOk, OnErr, IfOk, IfErr}
use Rattle.plain_text.specs.declared.place.Place.{Place}
use Rattle.text_place.specs.declared.fault.Stop.{Stop}
use Rattle.text_place.specs.declared.fault.FaultKind.TheVariants.{TooDeep, TooManyTurns}
use Rattle.scad_ast.specs.declared.statement.Params.{Params}
use Rattle.scad_ast.specs.StatementView.{params_of}
use Rattle.scad_value.specs.Values.{Val}
use Rattle.scad_value.specs.declared.bounded_value.BoundedValue.{BoundedValue}
use Rattle.scad_scope.specs.Names.{Pairs, env_of, oldest_pairs}
use Rattle.scad_scope.specs.Numbered.{StaysNumbered}
use Rattle.scad_scope.specs.Table.{rows_of, bindings_of}
use Rattle.scad_scope.specs.declared.scopes.Scopes.{Scopes}
use Rattle.scad_definitions.specs.ArgumentsView.{IsFaultAt}
use Rattle.scad_definitions.specs.Blocks.{BlockTable}
use Rattle.scad_func.specs.Limits.{most_calls, most_evaluations, most_turns}
use Rattle.scad_func.specs.Meaning.{Env, ExpressionContext, each_parameter}
use Rattle.scad_func.specs.Definitions.{env_in}
use Rattle.scad_func.specs.View.{MeetsOutcome, values_seen, bound_arguments_in}
use Rattle.scad_func.specs.Evaluations.{KeepsEvaluation, KeepsAllButScopes, OneCallDeeper, OneEvaluationDeeper, OneScopeMore, MoreBindings, scopes_there, env_here}
use Rattle.scad_func.specs.declared.values.BoundedValues.{BoundedValues}
use Rattle.scad_func.specs.declared.evaluation.Evaluation.{Evaluation}

-- what begins a call: one call deeper, or TooDeep at its place where as many are in one another as may be, and all is as before
pub record BeginsCall {A : Type 0} (old new : Evaluation) (result : Result A Stop)
    (place : Place) : Type 0 where
  pub begun : OnOk result (OneCallDeeper old new)
  pub refused : IfErr result (λ stop. (old.calls ≡ most_calls) × IsFaultAt stop TooDeep place)
  pub kept : OnErr result (KeepsEvaluation old new)
  pub turns : new.turns ≡ old.turns

-- why a call that is counted is refused: it is too deep, or else there are too many turns
abbrev pub IsRefusedCall : Evaluation → Place → Stop → Type 0
IsRefusedCall old place stop = ((old.calls ≡ most_calls) × IsFaultAt stop TooDeep place)
    ⊎ ((old.calls < most_calls) × (old.turns ≡ most_turns) × IsFaultAt stop TooManyTurns place)

-- what begins a call that is counted: one call deeper and one turn more, or a refusal, and all but the turns is as before
pub record BeginsCountedCall {A : Type 0} (old new : Evaluation) (result : Result A Stop)
    (place : Place) : Type 0 where
  pub begun : OnOk result (OneCallDeeper old new)
  pub counted : OnOk result ((old.turns < most_turns) × (new.turns ≡ old.turns + 1))
  pub refused : IfErr result (IsRefusedCall old place)
  pub kept : OnErr result (KeepsEvaluation old new)

-- what begins an evaluation: one deeper, or TooDeep at its place where as many are in one another as may be, and all is as
-- before
pub record BeginsEvaluation {A : Type 0} (old new : Evaluation) (result : Result A Stop)
    (place : Place) : Type 0 where
  pub begun : OnOk result (OneEvaluationDeeper old new)
  pub refused : IfErr result (λ stop. (old.depth ≡ most_evaluations) × IsFaultAt stop TooDeep place)
  pub kept : OnErr result (KeepsEvaluation old new)
  pub turns : new.turns ≡ old.turns

-- What enters a scope: one scope more, with what is said to be in it, and it answers the scope before; or memory ran out, and
-- all is as before.
pub record EntersScope {E : Type 0} (old new : Evaluation) (result : Result ℕ E)
    (env : Env) : Type 0 where
  pub entered : IfOk result (OneScopeMore old new)
  pub inside : OnOk result (env_here new ≡ env)
  pub kept : OnErr result (KeepsEvaluation old new)
  pub turns : new.turns ≡ old.turns

-- What puts special names among the dynamic bindings: these pairs are in front, and it answers how many were there;
-- or memory ran out, and all is as before.
pub record PushesBindings {E : Type 0} (old new : Evaluation) (result : Result ℕ E)
    (newer : Pairs Val) : Type 0 where
  pub begun : IfOk result (MoreBindings old new)
  pub bindings : OnOk result (bindings_of new.scopes.now ≡ newer ++ bindings_of old.scopes.now)
  pub kept : OnErr result (KeepsEvaluation old new)
  pub turns : new.turns ≡ old.turns

-- what ends something that was begun: all but the turns is as it was before that, and the turns are as they are
pub record GoesBack (IsBegun : Evaluation → Type 0) (old new : Evaluation) : Type 0 where
  pub back : (first : Evaluation) → IsBegun first → KeepsEvaluation first new
  pub turns : new.turns ≡ old.turns

-- What leaves the newest scope for one of those before it: they alone are left, and all but the turns is as it was
-- before the newest one was entered.
pub record LeavesScope (old new : Evaluation) (before : ℕ) : Type 0 where
  pub back : (first : Evaluation) → OneScopeMore first old before → KeepsEvaluation first new
  pub rows : rows_of new.scopes.now ≡ take old.scope (rows_of old.scopes.now)
  pub turns : new.turns ≡ old.turns

-- What takes special names from the dynamic bindings, to the given number: all else is as it is, and all but the turns is as
-- it was before they were put there.
pub record PopsBindings (old new : Evaluation) (to : ℕ) : Type 0 where
  pub back : (first : Evaluation) → MoreBindings first old to → KeepsEvaluation first new
  pub same : KeepsAllButScopes old new
  pub rows : rows_of new.scopes.now ≡ rows_of old.scopes.now
  pub bindings : bindings_of new.scopes.now ≡ oldest_pairs to (bindings_of old.scopes.now)
  pub turns : new.turns ≡ old.turns

-- What gives names values in the newest scope, which is then the one that is said, unless memory ran out: all else is as
-- before, and where the scope was entered it still is.
pub record BindsVariables {A E : Type 0} (old new : Evaluation) (result : Result A E)
    (env : Env) : Type 0 where
  pub bound : OnOk result (env_here new ≡ env)
  pub same : KeepsAllButScopes old new
  pub front : take old.scope (rows_of new.scopes.now) ≡ take old.scope (rows_of old.scopes.now)
  pub there : scopes_there new ≡ scopes_there old
  pub bindings : bindings_of new.scopes.now ≡ bindings_of old.scopes.now
  pub turns : new.turns ≡ old.turns
  pub entered : (first : Evaluation) (before : ℕ) → OneScopeMore first old before
      → OneScopeMore first new before

-- What evaluates parameters in an expression context: the values that their meaning gives, one for each, or its fault,
-- unless memory ran out; and all but the turns is as before, after a stop too.
pub record EvaluatesParameters (old new : Evaluation) (result : Result BoundedValues Stop)
    (here : ExpressionContext) (params : Params)
    (bound : List (Option BoundedValue)) : Type 0 where
  pub value : MeetsOutcome values_seen result new.turns
      (each_parameter here (params_of params) (bound_arguments_in bound) old.turns)
  pub count : IfOk result (λ values. length values.items.items ≡ length params.items.items)
  pub kept : KeepsEvaluation old new

-- What gives names values in the newest scope of a table: in any text it is then what is said, unless memory ran out. Older
-- scopes and the dynamic bindings are as before, and no definition is new.
pub record BindsNewest {A E : Type 0} (old new : Scopes) (scope : ℕ) (result : Result A E)
    (change : Env → Env) : Type 0 where
  pub bound : OnOk result ((table : BlockTable) → env_in table (env_of (rows_of new) scope)
      ≡ change (env_in table (env_of (rows_of old) scope)))
  pub front : take scope (rows_of new) ≡ take scope (rows_of old)
  pub count : length (rows_of new) ≡ length (rows_of old)
  pub bindings : bindings_of new ≡ bindings_of old
  pub numbered : StaysNumbered (rows_of old) (rows_of new)

-- What puts special names among the dynamic bindings of a table: these pairs are in front, unless memory ran out.
-- The older ones and the scopes are as before.
pub record PutsBindings {A E : Type 0} (old new : Scopes) (result : Result A E)
    (newer : Pairs Val) : Type 0 where
  pub bound : OnOk result (bindings_of new ≡ newer ++ bindings_of old)
  pub longer : length (bindings_of old) ≤ length (bindings_of new)
  pub older : oldest_pairs (length (bindings_of old)) (bindings_of new) ≡ bindings_of old
  pub rows : rows_of new ≡ rows_of old
