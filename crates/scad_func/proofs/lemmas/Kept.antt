-- What evaluations keep, one after another.
use Rattle.std.proofs.Common.{◌≡◌, ℕ, ◌+◌, ◌-◌, ◌*◌, ◌<◌, ◌≤◌, List, ◌++◌, length, take, Some, Result, Ok, Err, refl, sym, ap, subst, ◌∙◌, arith}
use Rattle.plain_text.specs.declared.place.Place.{Place}
use Rattle.text_place.specs.declared.fault.Stop.{Stop}
use Rattle.scad_ast.specs.Terms.{ArgTerms}
use Rattle.scad_value.specs.Values.{Val}
use Rattle.scad_value.specs.declared.bounded_value.BoundedValue.{BoundedValue}
use Rattle.scad_value.specs.BoundedView.{bounded_val}
use Rattle.scad_value.specs.Operators.{AnswerOrFault}
use Rattle.scad_scope.specs.Names.{Pairs, ScopeRow, oldest_pairs}
use Rattle.scad_scope.specs.Table.{rows_of, bindings_of}
use Rattle.scad_definitions.specs.Arguments.{parameter_names, no_arguments_of}
use Rattle.scad_definitions.specs.Blocks.{SourceFunction}
use Rattle.scad_func.specs.Limits.{most_calls, most_evaluations}
use Rattle.scad_func.specs.Meaning.{Outcome, Env, ExpressionContext, in_scope, expression_with_calls_left, with_more_bindings, outcome_of_answer, value_within, each_argument, function_call_value, call_value, visible_function, then_with}
use Rattle.scad_func.specs.declared.source.Source.{Source}
use Rattle.scad_func.specs.declared.evaluation.Evaluation.{Evaluation}
use Rattle.scad_func.specs.View.{MeetsOutcome, greatest_depth, env_seen}
use Rattle.scad_value.specs.AnswerView.{MeetsAnswerAt}
use Rattle.scad_func.specs.Evaluations.{KeepsEvaluation, EvaluatesTo, OneCallDeeper, MoreBindings, OneScopeMore, expression_context_in, expression_context_here, env_here, work_left}
use Rattle.scad_func.proofs.lemmas.Outcomes.{fault_goes, value_goes, meets_answer}

-- where an expression stands, by what it depends on
setting_by : Source → List ScopeRow → ℕ → ℕ → ℕ → Pairs Val → ExpressionContext
setting_by source rows scope depth calls bindings = record {
  at_next_depth = value_within (most_evaluations - depth);
  calls_left = most_calls - calls;
  env = env_seen source rows scope;
  bindings = bindings;
}

-- where an expression of a scope stands, by what is as before, and by the calls and special names that there are
setting_from : (old new : Evaluation) (scope calls : ℕ) (bindings : Pairs Val) → new.source.now ≡ old.source.now
    → rows_of new.scopes.now ≡ rows_of old.scopes.now → new.depth ≡ old.depth → new.calls ≡ calls → bindings_of new.scopes.now ≡ bindings
    → expression_context_in new scope ≡ setting_by old.source.now (rows_of old.scopes.now) scope old.depth calls bindings
unfolding setting_by
setting_from old new scope calls bindings s r d k c =
    ap (λ (x : Source). setting_by x (rows_of new.scopes.now) scope new.depth new.calls (bindings_of new.scopes.now)) s
    ∙ ap (λ rows. setting_by old.source.now rows scope new.depth new.calls (bindings_of new.scopes.now)) r
    ∙ ap (λ n. setting_by old.source.now (rows_of old.scopes.now) scope n new.calls (bindings_of new.scopes.now)) d
    ∙ ap (λ n. setting_by old.source.now (rows_of old.scopes.now) scope old.depth n (bindings_of new.scopes.now)) k
    ∙ ap (setting_by old.source.now (rows_of old.scopes.now) scope old.depth calls) c

-- by what is as before
pub keeps_from : (old new : Evaluation) → new.source.now ≡ old.source.now
    → new.scopes.ghost_name ≡ old.scopes.ghost_name → new.scope ≡ old.scope
    → rows_of new.scopes.now ≡ rows_of old.scopes.now → bindings_of new.scopes.now ≡ bindings_of old.scopes.now
    → new.calls ≡ old.calls → new.depth ≡ old.depth
    → KeepsEvaluation old new
unfolding setting_by
keeps_from old new s l w r c k d =
    let same : (scope : ℕ) → expression_context_in new scope ≡ expression_context_in old scope =
    λ scope. setting_from old new scope old.calls (bindings_of old.scopes.now) s r d k c in
    record {
      source = s;
      lent = l;
      stands = w;
      rows = r;
      bindings = c;
      calls = k;
      depth = d;
      work = ap (λ (x : Source). work_left x new.calls) s ∙ ap (work_left old.source.now) k;
      count = ap length r;
      same = same;
      here = ap (λ (n : ℕ). expression_context_in new n) w ∙ same old.scope;
    }

pub keeps_same : (e : Evaluation) → KeepsEvaluation e e
keeps_same e = keeps_from e e refl refl refl refl refl refl refl

pub keeps_trans : {a b c : Evaluation} → KeepsEvaluation a b → KeepsEvaluation b c → KeepsEvaluation a c
keeps_trans f g = keeps_from _ _ (g.source ∙ f.source) (g.lent ∙ f.lent) (g.stands ∙ f.stands) (g.rows ∙ f.rows) (g.bindings ∙ f.bindings)
    (g.calls ∙ f.calls) (g.depth ∙ f.depth)

-- what is said of a setting stays
pub moved : {A : Type 0} (F : ExpressionContext → A) {old new : Evaluation} → KeepsEvaluation old new → F (expression_context_here old) ≡ F (expression_context_here new)
moved F k = ap F (sym k.here)

-- where a call was begun, special names were put among the dynamic bindings, or a scope was entered, behind evaluations that
-- keep all
pub call_kept : (old : Evaluation) {mid new : Evaluation} → OneCallDeeper old mid → KeepsEvaluation mid new → OneCallDeeper old new
call_kept old b k = record {
  source = k.source ∙ b.source;
  lent = k.lent ∙ b.lent;
  stands = k.stands ∙ b.stands;
  rows = k.rows ∙ b.rows;
  bindings = k.bindings ∙ b.bindings;
  calls = k.calls ∙ b.calls;
  depth = k.depth ∙ b.depth;
  within = b.within;
}

pub specials_kept : (old : Evaluation) (count : ℕ) {mid new : Evaluation} → MoreBindings old mid count → KeepsEvaluation mid new → MoreBindings old new count
specials_kept old count b k = record {
  source = k.source ∙ b.source;
  lent = k.lent ∙ b.lent;
  stands = k.stands ∙ b.stands;
  rows = k.rows ∙ b.rows;
  older = ap (oldest_pairs count) k.bindings ∙ b.older;
  number = b.number;
  calls = k.calls ∙ b.calls;
  depth = k.depth ∙ b.depth;
}

pub scope_kept : (old : Evaluation) (before : ℕ) {mid new : Evaluation} → OneScopeMore old mid before → KeepsEvaluation mid new → OneScopeMore old new before
scope_kept old before {mid = mid} {new = new} e k = record {
  source = k.source ∙ e.source;
  lent = k.lent ∙ e.lent;
  from = e.from;
  front = ap (λ n. take n (rows_of new.scopes.now)) k.stands ∙ ap (take mid.scope) k.rows ∙ e.front;
  number = k.stands ∙ e.number;
  there = k.count ∙ e.there ∙ ap (λ n. n + 1) (sym k.stands);
  bindings = k.bindings ∙ e.bindings;
  calls = k.calls ∙ e.calls;
  depth = k.depth ∙ e.depth;
}

-- where an expression stands with more special names, one call deeper, or in a scope that was entered
pub specials_setting : (old new : Evaluation) (count : ℕ) (dynamic : Pairs Val) → MoreBindings old new count
    → bindings_of new.scopes.now ≡ dynamic ++ bindings_of old.scopes.now → expression_context_here new ≡ with_more_bindings (expression_context_here old) dynamic
unfolding setting_by
specials_setting old new count dynamic b e =
    ap (λ (n : ℕ). expression_context_in new n) b.stands
    ∙ setting_from old new old.scope old.calls (dynamic ++ bindings_of old.scopes.now) b.source b.rows b.depth b.calls e

pub call_setting : (old new : Evaluation) → OneCallDeeper old new
    → expression_context_here new ≡ expression_with_calls_left (expression_context_here old) (most_calls - (old.calls + 1))
unfolding setting_by
call_setting old new b =
    ap (λ (n : ℕ). expression_context_in new n) b.stands
    ∙ setting_from old new old.scope (old.calls + 1) (bindings_of old.scopes.now) b.source b.rows b.depth b.calls b.bindings

setting_with : ℕ → ℕ → Env → Pairs Val → ExpressionContext
setting_with depth calls env bindings = record { at_next_depth = value_within (most_evaluations - depth); calls_left = most_calls - calls; env = env; bindings = bindings }

pub scope_setting : (old new : Evaluation) (before : ℕ) (env : Env) → OneScopeMore old new before → env_here new ≡ env
    → expression_context_here new ≡ in_scope (expression_context_here old) env
unfolding setting_with
scope_setting old new before env e h =
    ap (λ n. setting_with n new.calls (env_here new) (bindings_of new.scopes.now)) e.depth
    ∙ ap (λ n. setting_with old.depth n (env_here new) (bindings_of new.scopes.now)) e.calls
    ∙ ap (λ (x : Env). setting_with old.depth old.calls x (bindings_of new.scopes.now)) h
    ∙ ap (setting_with old.depth old.calls env) e.bindings

-- one call deeper
pub work_falls : (source : Source) (calls : ℕ) → calls < most_calls
    → work_left source (calls + 1) + (4 * greatest_depth source.blocks.functions.items + 8) ≤ work_left source calls
unfolding work_left
work_falls source calls h =
    let k : most_calls - calls ≡ (most_calls - (calls + 1)) + 1 = omega arith in
    rw k (omega arith)

-- a call of the function that a name stands for
pub call_found : (e : Evaluation) (defining_scope : ℕ) (f : SourceFunction) (at : Place) (name : List ℕ) (args : ArgTerms) (turns : ℕ)
    → visible_function (expression_context_here e).env name ≡ Some (f, env_seen e.source.now (rows_of e.scopes.now) defining_scope)
    → call_value (expression_context_here e) at name args turns (visible_function (expression_context_here e).env name)
    ≡ then_with (each_argument (expression_context_here e) (parameter_names f.params) 0 args (no_arguments_of (length (parameter_names f.params))) turns)
    (λ turns given. function_call_value (expression_context_in e defining_scope) at f given turns)
call_found e defining_scope f at name args turns h =
    ap (λ o. call_value (expression_context_here e) at name args turns o) h

-- one step of an evaluation behind another
module _ {A B C D : Type 0} (see : A → B) (all : C → D) (first : ExpressionContext → ℕ → Outcome B)
    (go : ExpressionContext → ℕ → B → Outcome D) where
  pub stops : (old new : Evaluation) (s : Stop) → EvaluatesTo see old new (Err s) first
      → EvaluatesTo all old new (Err s) (λ here turns. then_with (first here turns) (go here))
  stops old new s e = record {
    value = fault_goes see all (first (expression_context_here old) old.turns) (go (expression_context_here old)) s
        new.turns new.turns e.value;
    kept = e.kept;
  }

  pub goes : (old mid new : Evaluation) (x : A) (r : Result C Stop) → EvaluatesTo see old mid (Ok x) first
      → EvaluatesTo all mid new r (λ here turns. go here turns (see x))
      → EvaluatesTo all old new r (λ here turns. then_with (first here turns) (go here))
  goes old mid new x r e f = record {
    value = value_goes see all (first (expression_context_here old) old.turns) (go (expression_context_here old)) r
        new.turns mid.turns (see x) e.value
        (subst (λ here. MeetsOutcome all r new.turns (go here mid.turns (see x))) e.kept.here f.value);
    kept = keeps_trans e.kept f.kept;
  }

-- an operator's answer behind a step
pub answers : (e : Evaluation) (r : Result BoundedValue Stop) (answer : AnswerOrFault Val) (at : Place) → MeetsAnswerAt r answer at
    → EvaluatesTo bounded_val e e r (λ here turns. outcome_of_answer answer at turns)
answers e r answer at h = record { value = meets_answer r e.turns answer at h; kept = keeps_same e }
