-- Where an evaluation stands, and what it keeps.
use Rattle.std.specs.Prelude.{◌≡◌, ℕ, ◌+◌, ◌-◌, ◌*◌, ◌<◌, length, take, Result}
use Rattle.scad_scope.specs.Names.{NumberedEnv, env_of, oldest_pairs}
use Rattle.scad_scope.specs.Table.{rows_of, bindings_of}
use Rattle.text_place.specs.declared.fault.Stop.{Stop}
use Rattle.scad_func.specs.Limits.{most_calls, most_evaluations}
use Rattle.scad_func.specs.Meaning.{Outcome, Env, ExpressionContext, value_within}
use Rattle.scad_func.specs.View.{MeetsOutcome, env_seen, greatest_depth}
use Rattle.scad_func.specs.declared.source.Source.{Source}
use Rattle.scad_func.specs.declared.evaluation.Evaluation.{Evaluation}

-- how many scopes there are
abbrev pub scopes_there : Evaluation → ℕ
scopes_there evaluation = length (rows_of evaluation.scopes.now)

-- where an expression of a scope stands
abbrev pub expression_context_in : Evaluation → ℕ → ExpressionContext
expression_context_in evaluation scope = record {
  at_next_depth = value_within (most_evaluations - evaluation.depth);
  calls_left = most_calls - evaluation.calls;
  env = env_seen evaluation.source.now (rows_of evaluation.scopes.now) scope;
  bindings = bindings_of evaluation.scopes.now;
}

-- the current scope, with all that it stands in
abbrev pub numbered_env_here : Evaluation → NumberedEnv
numbered_env_here evaluation = env_of (rows_of evaluation.scopes.now) evaluation.scope

-- the same scope, with what its numbers stand for
abbrev pub env_here : Evaluation → Env
env_here evaluation =
    env_seen evaluation.source.now (rows_of evaluation.scopes.now) evaluation.scope

-- where an expression of the current scope stands
abbrev pub expression_context_here : Evaluation → ExpressionContext
expression_context_here evaluation = expression_context_in evaluation evaluation.scope

-- the calls that are left, times more than any function is deep
unfoldable pub work_left : Source → ℕ → ℕ
work_left source calls = (most_calls - calls) * (4 * greatest_depth source.blocks.functions.items + 8)

-- what stays, after a fault too: all but the turns
pub record KeepsEvaluation (old new : Evaluation) : Type 0 where
  pub source : new.source.now ≡ old.source.now
  pub lent : new.scopes.ghost_name ≡ old.scopes.ghost_name
  pub stands : new.scope ≡ old.scope
  pub rows : rows_of new.scopes.now ≡ rows_of old.scopes.now
  pub bindings : bindings_of new.scopes.now ≡ bindings_of old.scopes.now
  pub calls : new.calls ≡ old.calls
  pub depth : new.depth ≡ old.depth
  pub work : work_left new.source.now new.calls ≡ work_left old.source.now old.calls
  pub count : scopes_there new ≡ scopes_there old
  pub same : (scope : ℕ) → expression_context_in new scope ≡ expression_context_in old scope
  pub here : expression_context_here new ≡ expression_context_here old

-- What a function of the evaluator does: it answers the value of its meaning, or its fault, unless memory ran out; and
-- all but the turns is as before, after a stop too.
pub record EvaluatesTo {A B : Type 0} (see : A → B) (old new : Evaluation) (result : Result A Stop)
    (meaning : ExpressionContext → ℕ → Outcome B) : Type 0 where
  pub value : MeetsOutcome see result new.turns (meaning (expression_context_here old) old.turns)
  pub kept : KeepsEvaluation old new

-- the source, the current scope, the calls and the depth are as before; the scopes, the
-- dynamic bindings and the turns may change
pub record KeepsAllButScopes (old new : Evaluation) : Type 0 where
  pub source : new.source.now ≡ old.source.now
  pub lent : new.scopes.ghost_name ≡ old.scopes.ghost_name
  pub stands : new.scope ≡ old.scope
  pub calls : new.calls ≡ old.calls
  pub depth : new.depth ≡ old.depth

-- one call deeper: all else but the turns is as before
pub record OneCallDeeper (old new : Evaluation) : Type 0 where
  pub source : new.source.now ≡ old.source.now
  pub lent : new.scopes.ghost_name ≡ old.scopes.ghost_name
  pub stands : new.scope ≡ old.scope
  pub rows : rows_of new.scopes.now ≡ rows_of old.scopes.now
  pub bindings : bindings_of new.scopes.now ≡ bindings_of old.scopes.now
  pub calls : new.calls ≡ old.calls + 1
  pub depth : new.depth ≡ old.depth
  pub within : old.calls < most_calls

-- one evaluation deeper: all else but the turns is as before
pub record OneEvaluationDeeper (old new : Evaluation) : Type 0 where
  pub source : new.source.now ≡ old.source.now
  pub lent : new.scopes.ghost_name ≡ old.scopes.ghost_name
  pub stands : new.scope ≡ old.scope
  pub rows : rows_of new.scopes.now ≡ rows_of old.scopes.now
  pub bindings : bindings_of new.scopes.now ≡ bindings_of old.scopes.now
  pub calls : new.calls ≡ old.calls
  pub depth : new.depth ≡ old.depth + 1
  pub within : old.depth < most_evaluations

-- one scope more, which is the newest and the one in which is evaluated, where it was another one: all else but the turns
-- is as before
pub record OneScopeMore (old new : Evaluation) (before : ℕ) : Type 0 where
  pub source : new.source.now ≡ old.source.now
  pub lent : new.scopes.ghost_name ≡ old.scopes.ghost_name
  pub from : before ≡ old.scope
  pub front : take new.scope (rows_of new.scopes.now) ≡ rows_of old.scopes.now
  pub number : new.scope ≡ scopes_there old
  pub there : scopes_there new ≡ new.scope + 1
  pub bindings : bindings_of new.scopes.now ≡ bindings_of old.scopes.now
  pub calls : new.calls ≡ old.calls
  pub depth : new.depth ≡ old.depth

-- more special names, in front of the given number: all else but the turns is as before
pub record MoreBindings (old new : Evaluation) (count : ℕ) : Type 0 where
  pub source : new.source.now ≡ old.source.now
  pub lent : new.scopes.ghost_name ≡ old.scopes.ghost_name
  pub stands : new.scope ≡ old.scope
  pub rows : rows_of new.scopes.now ≡ rows_of old.scopes.now
  pub older : oldest_pairs count (bindings_of new.scopes.now) ≡ bindings_of old.scopes.now
  pub number : count ≡ length (bindings_of old.scopes.now)
  pub calls : new.calls ≡ old.calls
  pub depth : new.depth ≡ old.depth
