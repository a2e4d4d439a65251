-- What a contract says about a step, said about where an earlier step began.
use Rattle.std.proofs.Common.{◌≡◌, ℕ, Result, Ok, Err, refl, sym, ap, ◌∙◌}
use Rattle.text_place.specs.declared.fault.Stop.{Stop}
use Rattle.csg_tree.specs.declared.op.Op.{Op}
use Rattle.scad_func.specs.Meaning.{Outcome, Gives, then_with, ExpressionContext}
use Rattle.scad_func.specs.Evaluations.{EvaluatesTo, expression_context_here}
use Rattle.scad_func.specs.declared.evaluation.Evaluation.{Evaluation}
use Rattle.scad_instance_rules.specs.declared.position.Position.{Position}
use Rattle.scad_instance_rules.specs.declared.position.InstanceResult.{InstanceResult}
use Rattle.scad_instance_rules.specs.declared.position.MemberResults.{MemberResults}
use Rattle.scad_eval.specs.declared.evaluator.InstanceEvaluator.{InstanceEvaluator}
use Rattle.scad_meaning.specs.Verdicts.{Judge, IsRightJudge}
use Rattle.scad_meaning.specs.Meaning.{InstanceDesign, MemberDesigns, joined_members}
use Rattle.scad_instance_rules.specs.Seen.{instance_design_of, member_designs_of}
use Rattle.scad_eval.specs.Keeping.{evaluator_at, context_at, Stays, Equation, outcome_at, EvaluatesKeeping, EvaluatesAt}
use Rattle.scad_eval.proofs.Outcomes.{along, then_outcome, stop_outcome, outcome_with, told_outcome}
use Rattle.scad_eval.proofs.Contexts.{stays_after, meant_after}

-- where a step began
abbrev pub begun_at : {A B : Type 0} {see : ℕ → A → B} {old new : InstanceEvaluator} {position : Position} {r : Result A Stop} {Kept : Type 0}
    {step : Equation B} → EvaluatesKeeping see old new position r Kept step → InstanceEvaluator
begun_at {old = old} f = old

-- where a step means the same, and what comes behind it leaves turns and leaves as they are
pub told_from : {A B : Type 0} {see : ℕ → A → B} {old mid new end : InstanceEvaluator} {position there : Position} {r : Result A Stop} {Kept Now : Type 0}
    {whole step : Equation B} → EvaluatesKeeping see mid new there r Kept step
    → ((judge : Judge) → IsRightJudge judge → outcome_at old position judge whole ≡ outcome_at mid there judge step)
    → end.evaluation.turns ≡ new.evaluation.turns → end.leaves ≡ new.leaves → Now → EvaluatesKeeping see old end position r Now whole
told_from f same turns leaves kept = record {
  equation = λ judge right. outcome_with turns leaves (along (same judge right) (f.equation judge right));
  kept = kept;
}

-- behind steps that keep all but turns and leaves
pub told_after : {A B : Type 0} {see : ℕ → A → B} {old mid new : InstanceEvaluator} {position : Position} {r : Result A Stop}
    {whole step : Equation B} → Stays old mid → EvaluatesAt see mid new position r step
    → ((judge : Judge) → IsRightJudge judge → outcome_at old position judge whole ≡ step (evaluator_at old judge) (context_at old position) mid.evaluation.turns mid.leaves)
    → EvaluatesAt see old new position r whole
told_after {old = old} {mid = mid} {new = new} {position = position} {r = r} {step = step} k f same =
    told_from f (λ judge right. same judge right ∙ meant_after step judge position k) refl refl (stays_after old mid new r k f.kept)

-- the same of what the step means by the turns and the leaves so far
pub told_there : {A B : Type 0} {see : ℕ → A → B} {old mid new : InstanceEvaluator} {position : Position} {r : Result A Stop} {step : Equation B}
    → Stays old mid → EvaluatesAt see mid new position r step
    → EvaluatesAt see old new position r (λ evaluator here turns leaves. step evaluator here mid.evaluation.turns mid.leaves)
told_there k f = told_after k f (λ judge right. refl)

-- a step that stops, and what would be behind it
pub stops : {A B C D : Type 0} {see : ℕ → A → B} {after : ℕ → C → D} {old mid new end : InstanceEvaluator} {position there : Position} {stop : Stop}
    {Kept Now : Type 0} {whole : Equation D} {step : Equation B} (go : Judge → ℕ → B → Outcome D) → EvaluatesKeeping see mid new there (Err stop) Kept step
    → ((judge : Judge) → IsRightJudge judge → outcome_at old position judge whole ≡ then_with (outcome_at mid there judge step) (go judge)) → Now
    → EvaluatesKeeping after old end position (Err stop) Now whole
stops go f same kept = record { equation = λ judge right. along (same judge right) (stop_outcome (go judge) (f.equation judge right)); kept = kept }

-- an evaluation that stops, and what would be behind it
pub evaluation_stops : {A B C D : Type 0} {see : A → B} {after : ℕ → C → D} {old end : InstanceEvaluator} {new : Evaluation} {position : Position} {stop : Stop}
    {Now : Type 0} {whole : Equation D} {step : ExpressionContext → ℕ → Outcome B} (go : Judge → ℕ → B → Outcome D) → EvaluatesTo see old.evaluation new (Err stop) step
    → ((judge : Judge) → IsRightJudge judge → outcome_at old position judge whole ≡ then_with (step (expression_context_here old.evaluation) old.evaluation.turns) (go judge)) → Now
    → EvaluatesKeeping after old end position (Err stop) Now whole
evaluation_stops {see = see} {old = old} {new = new} {stop = stop} {step = step} go f same kept = record {
  equation = λ judge right. along (same judge right)
      (stop_outcome (go judge) (told_outcome see (Err stop) new.turns old.leaves (step (expression_context_here old.evaluation) old.evaluation.turns) f.value));
  kept = kept;
}

-- members that are joined
pub joins : {old mid new end : InstanceEvaluator} {position there : Position} {Kept Now : Type 0} {whole : Equation InstanceDesign} {step : Equation MemberDesigns}
    {members : MemberResults} {made : InstanceResult} (op : Op) → EvaluatesKeeping member_designs_of mid new there (Ok members) Kept step
    → ((judge : Judge) → IsRightJudge judge → outcome_at old position judge whole
    ≡ then_with (outcome_at mid there judge step) (λ turns members. Gives turns (joined_members op members)))
    → ((leaves : ℕ) → instance_design_of leaves made ≡ joined_members op (member_designs_of leaves members))
    → end.evaluation.turns ≡ new.evaluation.turns → end.leaves ≡ new.leaves → Now
    → EvaluatesKeeping instance_design_of old end position (Ok made) Now whole
joins {new = new} op f same joined turns leaves kept = record {
  equation = λ judge right. outcome_with turns leaves (along (same judge right)
      (then_outcome (λ turns members. Gives turns (joined_members op members)) (f.equation judge right)
      (record { is = ap (λ (made : InstanceDesign). Gives new.evaluation.turns made) (sym (joined new.leaves)) })));
  kept = kept;
}

-- members of which one stops, so that they aren't joined
pub join_stops : {old mid new end : InstanceEvaluator} {position there : Position} {stop : Stop} {Kept Now : Type 0} {whole : Equation InstanceDesign}
    {step : Equation MemberDesigns} (op : Op) → EvaluatesKeeping member_designs_of mid new there (Err stop) Kept step
    → ((judge : Judge) → IsRightJudge judge → outcome_at old position judge whole
    ≡ then_with (outcome_at mid there judge step) (λ turns members. Gives turns (joined_members op members))) → Now
    → EvaluatesKeeping instance_design_of old end position (Err stop) Now whole
join_stops op f same kept = stops (λ judge turns members. Gives turns (joined_members op members)) f same kept
