-- Where instances stand, before and after steps.
use denote.RawPtr.{null_ptr}
use Rattle.std.proofs.Common.{Vec, Global, arith, ◌≡◌, ℕ, ◌-◌, List, [], ◌++◌, take, false, Option, None, Result, Ok, Err, refl, sym, ap, subst, ◌∙◌, append_assoc}
use Rattle.std.specs.Prelude.{OnOk}
use Rattle.plane_predicate.specs.declared.unit.Unit.{Unit as LengthUnit}
use Rattle.scad_value.specs.Values.{Val}
use Rattle.scad_scope.specs.Names.{Pairs, ScopeRow}
use Rattle.scad_scope.specs.Table.{rows_of, bindings_of}
use Rattle.scad_func.specs.Limits.{most_calls, most_evaluations}
use Rattle.scad_func.specs.Meaning.{Env, ExpressionContext}
use Rattle.scad_func.specs.View.{env_seen}
use Rattle.scad_func.specs.Evaluations.{KeepsEvaluation, KeepsAllButScopes, env_here}
use Rattle.scad_func.specs.declared.source.Source.{Source}
use Rattle.scad_meaning.specs.declared.extrusion.Extrusion.{Extrusion}
use Rattle.scad_instance_rules.specs.declared.position.Position.{Position}
use Rattle.scad_eval.specs.declared.evaluator.InstanceEvaluator.{InstanceEvaluator}
use Rattle.scad_meaning.specs.Verdicts.{Judge}
use Rattle.scad_meaning.specs.Meaning.{Context, evaluator_with, inside_scope}
use Rattle.scad_eval.specs.Keeping.{evaluations_left, evaluator_at, context_at, IsCheckedInside, Stays, Enters, KeepsOlder, Assigns, Equation, outcome_at}
use Rattle.scad_func.proofs.lemmas.Kept.{keeps_same, keeps_trans, scope_setting}

-- where an instance stands, by where an expression there stands
abbrev context_by : ExpressionContext → Position → Context
context_by here position = record { calls_left = here.calls_left; env = here.env; bindings = here.bindings; inside = position.inside; under_root = position.under_root }

-- where an instance stands, by what it depends on
abbrev context_of : ℕ → Source → List ScopeRow → ℕ → Pairs Val → Position → Context
context_of calls source rows scope bindings position = record {
  calls_left = calls;
  env = env_seen source rows scope;
  bindings = bindings;
  inside = position.inside;
  under_root = position.under_root;
}

-- where source and scopes stay
pub context_from : (old new : InstanceEvaluator) (position : Position) (calls : ℕ) (bindings : Pairs Val)
    → new.evaluation.source.now ≡ old.evaluation.source.now → rows_of new.evaluation.scopes.now ≡ rows_of old.evaluation.scopes.now
    → new.evaluation.scope ≡ old.evaluation.scope → most_calls - new.evaluation.calls ≡ calls → bindings_of new.evaluation.scopes.now ≡ bindings
    → context_at new position ≡ context_of calls old.evaluation.source.now (rows_of old.evaluation.scopes.now) old.evaluation.scope bindings position
context_from old new position calls bindings source rows stands left is =
    ap (λ n. context_of n new.evaluation.source.now (rows_of new.evaluation.scopes.now) new.evaluation.scope (bindings_of new.evaluation.scopes.now) position) left
    ∙ ap (λ (x : Source). context_of calls x (rows_of new.evaluation.scopes.now) new.evaluation.scope (bindings_of new.evaluation.scopes.now) position) source
    ∙ ap (λ l. context_of calls old.evaluation.source.now l new.evaluation.scope (bindings_of new.evaluation.scopes.now) position) rows
    ∙ ap (λ n. context_of calls old.evaluation.source.now (rows_of old.evaluation.scopes.now) n (bindings_of new.evaluation.scopes.now) position) stands
    ∙ ap (λ c. context_of calls old.evaluation.source.now (rows_of old.evaluation.scopes.now) old.evaluation.scope c position) is

pub same_context : (old new : InstanceEvaluator) (position : Position) → Stays old new → context_at new position ≡ context_at old position
same_context old new position k = ap (λ (here : ExpressionContext). context_by here position) k.evaluation.here

pub same_evaluations : (old new : InstanceEvaluator) → Stays old new → evaluations_left new ≡ evaluations_left old
same_evaluations old new k = ap (λ n. most_evaluations - n) k.evaluation.depth

-- all that stays, step by step
pub stays_same : (m : InstanceEvaluator) → Stays m m
stays_same m = record { unit = refl; evaluation = keeps_same m.evaluation }

pub stays_kept : (old new : InstanceEvaluator) → new.unit ≡ old.unit → KeepsEvaluation old.evaluation new.evaluation → Stays old new
stays_kept old new unit kept = record { unit = unit; evaluation = kept }

pub stays_then : {a b c : InstanceEvaluator} → Stays a b → Stays b c → Stays a c
stays_then f g = record { unit = g.unit ∙ f.unit; evaluation = keeps_trans f.evaluation g.evaluation }

pub stays_after : {A E : Type 0} (a b c : InstanceEvaluator) (r : Result A E) → Stays a b → OnOk r (Stays b c) → OnOk r (Stays a c)
stays_after a b c (Ok x) f g = stays_then f g
stays_after a b c (Err stop) f g = tt

pub stays_told : {A E : Type 0} {a b : InstanceEvaluator} (r : Result A E) → Stays a b → OnOk r (Stays a b)
stays_told (Ok x) k = k
stays_told (Err stop) k = tt

-- a position that is any other as well, for what is said of every position
no_items : {A : Type 0} → Global → Vec A Global
no_items alloc = record { ptr = null_ptr; len = 0; cap = 0; alloc = alloc; items = []; ok = (refl, omega arith); small = omega arith }

pub some_position : Global → Position
some_position alloc = record {
  instances = record { ref_ptr = (0, 0); now = record { blocks = no_items alloc } };
  inside = None;
  under_root = false;
}

-- an extrusion with nothing wrong still has nothing wrong
pub checked_still : (a b : LengthUnit) (through : Option Extrusion) → b ≡ a → IsCheckedInside a through → IsCheckedInside b through
checked_still a b through e h = subst (λ (u : LengthUnit). IsCheckedInside u through) (sym e) h

-- what is meant by the same evaluator in the same context
pub meant_by : {B : Type 0} (meaning : Equation B) (judge : Judge) (mid : InstanceEvaluator) (position : Position) (unit : LengthUnit) (evaluations : ℕ)
    (here : Context) → mid.unit ≡ unit → evaluations_left mid ≡ evaluations → context_at mid position ≡ here
    → meaning (evaluator_with unit judge evaluations) here mid.evaluation.turns mid.leaves ≡ outcome_at mid position judge meaning
meant_by meaning judge mid position unit evaluations here a b c =
    ap (λ (x : LengthUnit). meaning (evaluator_with x judge evaluations) here mid.evaluation.turns mid.leaves) (sym a)
    ∙ ap (λ n. meaning (evaluator_with mid.unit judge n) here mid.evaluation.turns mid.leaves) (sym b)
    ∙ ap (λ x. meaning (evaluator_at mid judge) x mid.evaluation.turns mid.leaves) (sym c)

-- what is meant behind steps that keep all but turns and leaves
pub meant_after : {B : Type 0} (meaning : Equation B) (judge : Judge) {old mid : InstanceEvaluator} (position : Position) → Stays old mid
    → meaning (evaluator_at old judge) (context_at old position) mid.evaluation.turns mid.leaves ≡ outcome_at mid position judge meaning
meant_after meaning judge {old = old} {mid = mid} position k =
    meant_by meaning judge mid position old.unit (evaluations_left old) (context_at old position) k.unit (same_evaluations old mid k) (same_context old mid position k)

-- a stand in a scope that was entered
pub entered_context : (old new : InstanceEvaluator) (position : Position) (before : ℕ) (env : Env) → Enters old new before
    → env_here new.evaluation ≡ env → context_at new position ≡ inside_scope (context_at old position) env
entered_context old new position before env e is = ap (λ (here : ExpressionContext). context_by here position) (scope_setting old.evaluation new.evaluation before env e.evaluation is)

-- assignments, one behind another
same_then : (a b c : InstanceEvaluator) → KeepsAllButScopes a.evaluation b.evaluation → KeepsAllButScopes b.evaluation c.evaluation → KeepsAllButScopes a.evaluation c.evaluation
same_then a b c f g = record {
  source = g.source ∙ f.source;
  lent = g.lent ∙ f.lent;
  stands = g.stands ∙ f.stands;
  calls = g.calls ∙ f.calls;
  depth = g.depth ∙ f.depth;
}

older_then : {a b c : InstanceEvaluator} → KeepsOlder a b → KeepsOlder b c → KeepsOlder a c
older_then {a = a} {b = b} {c = c} f g = record {
  unit = g.unit ∙ f.unit;
  same = same_then a b c f.same g.same;
  front = ap (λ n. take n (rows_of c.evaluation.scopes.now)) (sym f.same.stands) ∙ g.front ∙ ap (λ n. take n (rows_of b.evaluation.scopes.now)) f.same.stands ∙ f.front;
  there = g.there ∙ f.there;
}

pub assigns_same : (m : InstanceEvaluator) → Assigns m m
assigns_same m = record {
  older = record { unit = refl; same = record { source = refl; lent = refl; stands = refl; calls = refl; depth = refl }; front = refl; there = refl };
  leaves = refl;
  newer = [];
  bindings = refl;
}

pub assigns_then : {a b c : InstanceEvaluator} → Assigns a b → Assigns b c → Assigns a c
assigns_then {a = a} f g = record {
  older = older_then f.older g.older;
  leaves = g.leaves ∙ f.leaves;
  newer = g.newer ++ f.newer;
  bindings = g.bindings ∙ ap (λ l. g.newer ++ l) f.bindings ∙ sym (append_assoc g.newer f.newer (bindings_of a.evaluation.scopes.now));
}
