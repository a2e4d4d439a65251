-- Where the evaluation of instances stands, and what its steps keep.
use Rattle.std.specs.Prelude.{◌≡◌, ℕ, ◌-◌, [], ◌∷◌, ◌++◌, take, Option, Some, None, Result, IfOk, OnOk}
use Rattle.text_place.specs.declared.fault.Stop.{Stop}
use Rattle.plane_predicate.specs.declared.unit.Unit.{Unit as LengthUnit}
use Rattle.primitives.specs.Sizes.{AreSizes, IsSafe}
use Rattle.scad_value.specs.Values.{Val}
use Rattle.scad_scope.specs.Names.{Pairs}
use Rattle.scad_scope.specs.Table.{rows_of, bindings_of}
use Rattle.scad_func.specs.Limits.{most_calls, most_evaluations}
use Rattle.scad_func.specs.Meaning.{Outcome, Env}
use Rattle.scad_func.specs.View.{env_seen, table_in}
use Rattle.scad_func.specs.Definitions.{IsWholeTable}
use Rattle.scad_func.specs.Evaluations.{KeepsEvaluation, KeepsAllButScopes, scopes_there, env_here, OneScopeMore}
use Rattle.scad_meaning.specs.declared.extrusion.Extrusion.{Extrusion}
use Rattle.scad_instance_rules.specs.declared.position.Position.{Position}
use Rattle.scad_instance_rules.specs.Listing.{AreInstancesOf}
use Rattle.scad_eval.specs.declared.evaluator.InstanceEvaluator.{InstanceEvaluator}
use Rattle.scad_meaning.specs.Verdicts.{Judge, IsRightJudge}
use Rattle.scad_meaning.specs.Meaning.{Context, Evaluator, evaluator_with}
use Rattle.scad_instance_rules.specs.Seen.{HasOutcome}

-- how many evaluations in one another are left
abbrev pub evaluations_left : InstanceEvaluator → ℕ
evaluations_left evaluator = most_evaluations - evaluator.evaluation.depth

-- what evaluates instances at this depth, by a judge of shapes
abbrev pub evaluator_at : InstanceEvaluator → Judge → Evaluator
evaluator_at evaluator judge = evaluator_with evaluator.unit judge (evaluations_left evaluator)

-- a scope with what its numbers stand for
abbrev pub env_at : InstanceEvaluator → ℕ → Env
env_at evaluator scope = env_seen evaluator.evaluation.source.now (rows_of evaluator.evaluation.scopes.now) scope

-- the context of an instance of the current scope
abbrev pub context_at : InstanceEvaluator → Position → Context
context_at evaluator position = record {
  calls_left = most_calls - evaluator.evaluation.calls;
  env = env_here evaluator.evaluation;
  bindings = bindings_of evaluator.evaluation.scopes.now;
  inside = position.inside;
  under_root = position.under_root;
}

-- the height of an extrusion has nothing wrong with it
pub record IsCheckedExtrusion (unit : LengthUnit) (through : Extrusion) : Type 0 where
  pub safe : IsSafe through.height
  pub sizes : AreSizes unit through.center (through.height ∷ [])

-- an extrusion with nothing wrong, or none
abbrev pub IsCheckedInside : LengthUnit → Option Extrusion → Type 0
IsCheckedInside unit None = Unit {0}
IsCheckedInside unit (Some through) = IsCheckedExtrusion unit through

-- a position in a whole source with its instances, inside an extrusion with nothing wrong or inside none
pub record IsPosition (evaluator : InstanceEvaluator) (position : Position) : Type 0 where
  pub whole : IsWholeTable (table_in evaluator.evaluation.source.now)
  pub listed : AreInstancesOf (table_in evaluator.evaluation.source.now) position.instances.now
  pub inside : IsCheckedInside evaluator.unit position.inside

-- all but the turns and the leaves is as before
pub record Stays (old new : InstanceEvaluator) : Type 0 where
  pub unit : new.unit ≡ old.unit
  pub evaluation : KeepsEvaluation old.evaluation new.evaluation

-- one scope more, which is the newest and the one in which is evaluated, where it was another one: all else but the turns
-- is as before
pub record Enters (old new : InstanceEvaluator) (before : ℕ) : Type 0 where
  pub unit : new.unit ≡ old.unit
  pub leaves : new.leaves ≡ old.leaves
  pub evaluation : OneScopeMore old.evaluation new.evaluation before

-- What enters the scope of a module's body: one scope more, with what is said to be in it, and it answers the scope before; or
-- memory ran out. The turns are as before, after a stop too.
pub record EntersModule {E : Type 0} (old new : InstanceEvaluator) (result : Result ℕ E) (scope : Env) : Type 0 where
  pub entered : IfOk result (Enters old new)
  pub inside : OnOk result (env_here new.evaluation ≡ scope)
  pub turns : new.evaluation.turns ≡ old.evaluation.turns

-- the newest scope may have more variables, and the dynamic bindings be others: all else but the turns and the leaves is as
-- before
pub record KeepsOlder (old new : InstanceEvaluator) : Type 0 where
  pub unit : new.unit ≡ old.unit
  pub same : KeepsAllButScopes old.evaluation new.evaluation
  pub front : take old.evaluation.scope (rows_of new.evaluation.scopes.now) ≡ take old.evaluation.scope (rows_of old.evaluation.scopes.now)
  pub there : scopes_there new.evaluation ≡ scopes_there old.evaluation

-- the newest scope has more variables: all else but the turns and the leaves is as before
pub record Binds (old new : InstanceEvaluator) : Type 0 where
  pub older : KeepsOlder old new
  pub bindings : bindings_of new.evaluation.scopes.now ≡ bindings_of old.evaluation.scopes.now

-- the newest scope and the dynamic bindings have more variables: all else but the turns is as before
pub record Assigns (old new : InstanceEvaluator) : Type 0 where
  pub older : KeepsOlder old new
  pub leaves : new.leaves ≡ old.leaves
  pub newer : Pairs Val
  pub bindings : bindings_of new.evaluation.scopes.now ≡ newer ++ bindings_of old.evaluation.scopes.now

-- a meaning: what is given by an evaluator, where an instance stands, and by the turns and the leaves so far
abbrev pub Equation : Type 0 → Type 0
Equation B = Evaluator → Context → ℕ → ℕ → Outcome B

-- what a meaning gives where an instance stands, behind the turns and the leaves so far, by a judge of shapes
abbrev pub outcome_at : {B : Type 0} → InstanceEvaluator → Position → Judge → Equation B → Outcome B
outcome_at evaluator position judge meaning =
    meaning (evaluator_at evaluator judge) (context_at evaluator position) evaluator.evaluation.turns evaluator.leaves

-- What a function of the evaluator does: it answers the value of its meaning at a position, by any judge that is right, or its
-- fault, unless memory ran out; and so much is kept.
pub record EvaluatesKeeping {A B : Type 0} (see : ℕ → A → B) (old new : InstanceEvaluator) (position : Position)
    (result : Result A Stop) (Kept : Type 0) (meaning : Equation B) : Type 0 where
  pub equation : (judge : Judge) → IsRightJudge judge → HasOutcome see result new.evaluation.turns new.leaves (outcome_at old position judge meaning)
  pub kept : Kept

-- the same, where all but the turns and the leaves is as before, unless there was a stop
abbrev pub EvaluatesAt : {A B : Type 0} → (ℕ → A → B) → InstanceEvaluator → InstanceEvaluator → Position → Result A Stop → Equation B → Type 0
EvaluatesAt see old new position result meaning = EvaluatesKeeping see old new position result (OnOk result (Stays old new)) meaning

-- the same at every position, where all but the turns and the leaves is as before, after a stop too
abbrev pub EvaluatesAnywhere : {A B : Type 0} → (ℕ → A → B) → InstanceEvaluator → InstanceEvaluator → Result A Stop → Equation B → Type 0
EvaluatesAnywhere see old new result meaning = (position : Position) → EvaluatesKeeping see old new position result (Stays old new) meaning

-- the same of assignments, unless there was a stop; behind them each position has the context that they give
abbrev pub AssignsAnywhere : {A : Type 0} → InstanceEvaluator → InstanceEvaluator → Result A Stop → Equation Context → Type 0
AssignsAnywhere old new result meaning =
    (position : Position) → EvaluatesKeeping (λ leaves done. context_at new position) old new position result (OnOk result (Assigns old new)) meaning
