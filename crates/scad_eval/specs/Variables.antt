-- The variables of a loop that have values, and what is left of a loop.
use Rattle.std.specs.Prelude.{◌≡◌, ℕ, ◌+◌, ◌^◌, ◌≤◌, true, [], ◌∷◌, ◌++◌, List, length, map, Result, Ok, Err, OnOk, IfOk}
use Rattle.text_place.specs.declared.fault.Stop.{Stop}
use Rattle.text_place.specs.declared.fault.Stop.TheVariants.{Fault, NoMemory}
use Rattle.plain_text.specs.declared.place.Place.{Place}
use Rattle.text_place.specs.declared.fault.FaultKind.TheVariants.{TypeMismatch}
use Rattle.scad_ast.specs.declared.statement.Binder.{Binder}
use Rattle.scad_ast.specs.Terms.{BodyTerm, BinderTerm}
use Rattle.scad_ast.specs.ExprView.{term_of}
use Rattle.scad_ast.specs.StatementView.{binder_of}
use Rattle.scad_value.specs.Values.{Val, no_vals, and_val, count_of}
use Rattle.scad_func.specs.Meaning.{Outcome, Gives, Faults, InnerScope, no_activation, then_with, or_fault, value_at_next_depth}
use Rattle.scad_func.specs.Evaluations.{EvaluatesTo, KeepsEvaluation, OneScopeMore, env_here, scopes_there}
use Rattle.scad_func.specs.View.{MeetsOutcome}
use Rattle.scad_func.specs.declared.evaluation.Evaluation.{Evaluation}
use Rattle.scad_meaning.specs.Loops.{iterated_values}
use Rattle.scad_meaning.specs.Verdicts.{Judge, IsRightJudge}
use Rattle.scad_meaning.specs.Meaning.{Context, MemberDesigns, Evaluator, no_members, counted_step, each_step, each_iteration, in_loop}
use Rattle.scad_instance_rules.specs.declared.items.Items.{Items}
use Rattle.scad_instance_rules.specs.Items.{remaining_in}
use Rattle.scad_instance_rules.specs.Seen.{member_designs_of, members_in_front}
use Rattle.scad_instance_rules.specs.declared.position.MemberResults.{MemberResults}
use Rattle.scad_instance_rules.specs.declared.position.Position.{Position}
use Rattle.scad_eval.specs.declared.evaluator.InstanceEvaluator.{InstanceEvaluator}
use Rattle.scad_eval.specs.declared.open_variable.OpenVariable.{OpenVariable}
use Rattle.scad_eval.specs.declared.open_variable.Inside.{Inside}
use Rattle.scad_eval.specs.declared.open_variable.Inside.TheVariants.{Variable, Members}
use Rattle.scad_eval.specs.Keeping.{evaluator_at, context_at, Stays, Enters, outcome_at}

-- more values than any variable has: a list is bounded, and a range has two numbers of the profile as its ends
abbrev pub most_values : ℕ
most_values = 2 ^ 55

-- the variable that has all its values, evaluated in this scope
pub record IsBegun (scope : ℕ) (first : Binder) (others : List Binder) (variable : OpenVariable) : Type 0 where
  pub binder : variable.binder.now ≡ first
  pub rest : variable.rest.now ≡ others
  pub members : (leaves : ℕ) → member_designs_of leaves variable.members ≡ no_members leaves
  pub outside : variable.outside ≡ scope
  pub few : count_of (remaining_in variable.items.remaining) ≤ most_values

-- what evaluates the values of a variable: it answers the variable, or the fault, unless memory ran out
pub record OpensVariable (old new : Evaluation) (place : Place) (binder : Binder) (rest : List Binder) (result : Result OpenVariable Stop) : Type 0 where
  pub values : EvaluatesTo (λ variable. remaining_in variable.items.remaining) old new result (λ here turns.
      then_with (value_at_next_depth here true (term_of binder.values) turns) (λ turns value.
      or_fault (iterated_values value) TypeMismatch place (Gives turns)))
  pub begun : IfOk result (IsBegun old.scope binder rest)

-- What enters the scope in which a variable has a value, unless memory ran out. The current scope stays the newest.
pub record EntersVariable {A E : Type 0} (old new : Evaluation) (result : Result A E) (name : List ℕ) (value : Val) : Type 0 where
  pub entered : OnOk result (OneScopeMore old new old.scope)
  pub inside : OnOk result (env_here new ≡ InnerScope ((name, value) ∷ []) [] [] no_activation (env_here old))
  pub newest : old.scope + 1 ≡ scopes_there old → new.scope + 1 ≡ scopes_there new
  pub turns : new.turns ≡ old.turns

-- the same variable, whose steps gave other members
pub record IsSameVariable (old new : OpenVariable) : Type 0 where
  pub binder : new.binder.now ≡ old.binder.now
  pub rest : new.rest.now ≡ old.rest.now
  pub items : new.items ≡ old.items
  pub outside : new.outside ≡ old.outside

-- What ends a step of a variable: it leaves the step's scope, counts the turn of a step that gave nothing, and answers the
-- variable with what the step gave, or the fault, unless memory ran out.
pub record EndsStep (old new : Evaluation) (place : Place) (variable : OpenVariable) (members : MemberResults)
    (result : Result OpenVariable Stop) : Type 0 where
  pub back : (first : Evaluation) → OneScopeMore first old variable.outside → KeepsEvaluation first new
  pub value : (start leaves : ℕ) → MeetsOutcome (λ after. member_designs_of leaves after.members) result new.turns
      (members_in_front (member_designs_of start variable.members) (counted_step place (Gives old.turns (member_designs_of leaves members))))
  pub same : IfOk result (IsSameVariable variable)

-- what a variable's further steps give
abbrev pub steps_left : Evaluator → Context → Place → BodyTerm → OpenVariable → ℕ → ℕ → Outcome MemberDesigns
steps_left evaluator here at body variable = each_step at (λ item.
    each_iteration evaluator at (map binder_of variable.rest.now) body (in_loop here variable.binder.now.name item)) (remaining_in variable.items.remaining)

-- what is left of a loop: what a variable's steps gave with what its further steps give, or what was given
abbrev pub left_inside : Evaluator → Context → Place → BodyTerm → Inside → ℕ → ℕ → Outcome MemberDesigns
left_inside evaluator here at body (Variable variable) turns leaves =
    members_in_front (member_designs_of leaves variable.members) (steps_left evaluator here at body variable turns leaves)
left_inside evaluator here at body (Members members) turns leaves = Gives turns (member_designs_of leaves members)

-- a stop is the fault that is meant, unless memory ran out
abbrev pub IsStopOf : {B : Type 0} → Outcome B → Stop → Type 0
IsStopOf out (Fault fault) = out ≡ Faults fault.kind fault.place
IsStopOf out NoMemory = Unit {0}

-- an outcome is that of what is left, or the fault, unless memory ran out
abbrev pub MeetsLeft : {A B : Type 0} → (A → Outcome B) → Result A Stop → Outcome B → Type 0
MeetsLeft left (Ok x) out = out ≡ left x
MeetsLeft left (Err stop) out = IsStopOf out stop

-- the values of a variable were evaluated in the current scope
abbrev pub IsPaused : ℕ → Inside → Type 0
IsPaused scope (Variable variable) = variable.outside ≡ scope
IsPaused scope (Members members) = Unit {0}

-- what stands inside the given number of variables' values: one variable more, with no more values than there may be, or
-- members
abbrev pub IsNext : ℕ → Inside → Type 0
IsNext count (Variable variable) = (length variable.rest.now + 1 ≡ count) × (count_of (remaining_in variable.items.remaining) ≤ most_values)
IsNext count (Members members) = Unit {0}

-- What begins the variables of a loop, or those behind others: it answers what is left of them, or their fault, unless memory
-- ran out; and all but the turns and the leaves is as before, unless there was a stop.
pub record GoesInside (old new : InstanceEvaluator) (position : Position) (place : Place) (binders : List BinderTerm) (body : BodyTerm)
    (result : Result Inside Stop) : Type 0 where
  pub equation : (judge : Judge) → IsRightJudge judge → MeetsLeft
      (λ inside. left_inside (evaluator_at new judge) (context_at new position) place body inside new.evaluation.turns new.leaves) result
      (outcome_at old position judge (λ evaluator. each_iteration evaluator place binders body))
  pub kept : OnOk result (Stays old new)
  pub paused : IfOk result (IsPaused new.evaluation.scope)
  pub next : IfOk result (IsNext (length binders))

-- a step of a variable that begins: its next value is in the scope that was entered, and it waits while what stands inside is
-- evaluated
pub record BeginsStep (old new : InstanceEvaluator) (position : Position) (place : Place) (body : BodyTerm) (variable : OpenVariable)
    (before after : List OpenVariable) (result : Result Inside Stop) : Type 0 where
  pub items : Items
  pub value : Val
  pub entered : InstanceEvaluator
  pub remaining : remaining_in variable.items.remaining ≡ and_val value (remaining_in items.remaining)
  pub enters : Enters old entered old.evaluation.scope
  pub scope : env_here entered.evaluation ≡ InnerScope ((variable.binder.now.name, value) ∷ []) [] [] no_activation (env_here old.evaluation)
  pub turns : entered.evaluation.turns ≡ old.evaluation.turns
  pub waits : after ≡ before ++ (record variable { items = items } ∷ [])
  pub goes : GoesInside entered new position place (map binder_of variable.rest.now) body result

-- What takes the next step of a variable: there is none, and its members are given; or it begins, and gives what stands inside;
-- or memory ran out.
pub data TakesStep (old new : InstanceEvaluator) (position : Position) (place : Place) (body : BodyTerm) (variable : OpenVariable)
    (before after : List OpenVariable) (result : Result Inside Stop) : Type 0 where
  no_step : remaining_in variable.items.remaining ≡ no_vals → result ≡ Ok (Members variable.members) → after ≡ before → new ≡ old
      → TakesStep old new position place body variable before after result
  a_step : BeginsStep old new position place body variable before after result → TakesStep old new position place body variable before after result
  no_memory : result ≡ Err NoMemory → TakesStep old new position place body variable before after result
