-- Calls that are counted: what one goes on to, and the fault of one that is refused.
use Rattle.std.proofs.Common.{◌≡◌, inl, inr, ℕ, zero, suc, ◌+◌, ◌-◌, ◌<◌, true, false, nat_lt, Err, ap, ◌∙◌, arith, if◌then◌else◌}
use Rattle.std.proofs.lemmas.Bool.Decides.{nat_tests}
use Rattle.plain_text.specs.declared.place.Place.{Place}
use Rattle.text_place.specs.declared.fault.Stop.{Stop}
use Rattle.text_place.specs.declared.fault.FaultKind.TheVariants.{TooDeep, TooManyTurns}
use Rattle.scad_func.specs.Limits.{most_calls, most_turns}
use Rattle.scad_func.specs.Meaning.{Outcome, Faults, one_call_fewer, turn}
use Rattle.scad_func.specs.View.{MeetsOutcome}
use Rattle.scad_func.specs.Transitions.{IsRefusedCall}
use Rattle.scad_func.specs.declared.evaluation.Evaluation.{Evaluation}
use Rattle.scad_func.proofs.lemmas.Outcomes.{fault_at}

turns_left : (turns : ℕ) → turns < most_turns → nat_lt turns most_turns ≡ true
turns_left turns h = grind (arith, nat_tests)

no_turns_left : (turns : ℕ) → turns ≡ most_turns → nat_lt turns most_turns ≡ false
no_turns_left turns h = grind (arith, nat_tests)

module _ {A : Type 0} (at : Place) (calls turns : ℕ) (go : ℕ → ℕ → Outcome A) where
  one_fewer : calls < most_calls
      → one_call_fewer (most_calls - calls) at (λ calls. turn at turns (go calls)) ≡ turn at turns (go (most_calls - (calls + 1)))
  one_fewer h =
      let left : most_calls - calls ≡ suc (most_calls - (calls + 1)) = omega arith in
      ap (λ n. one_call_fewer n at (λ calls. turn at turns (go calls))) left

  -- a call within both limits
  pub call_goes : calls < most_calls → turns < most_turns
      → one_call_fewer (most_calls - calls) at (λ calls. turn at turns (go calls)) ≡ go (most_calls - (calls + 1)) (turns + 1)
  call_goes h k = one_fewer h
      ∙ ap (λ t. if t then go (most_calls - (calls + 1)) (turns + 1) else Faults TooManyTurns at) (turns_left turns k)

  too_deep : calls ≡ most_calls → one_call_fewer (most_calls - calls) at (λ calls. turn at turns (go calls)) ≡ Faults TooDeep at
  too_deep h =
      let none : most_calls - calls ≡ zero = omega arith in
      ap (λ n. one_call_fewer n at (λ calls. turn at turns (go calls))) none

  too_many_turns : calls < most_calls → turns ≡ most_turns
      → one_call_fewer (most_calls - calls) at (λ calls. turn at turns (go calls)) ≡ Faults TooManyTurns at
  too_many_turns h k = one_fewer h
      ∙ ap (λ t. if t then go (most_calls - (calls + 1)) (turns + 1) else Faults TooManyTurns at) (no_turns_left turns k)

-- a call that is refused
pub call_refused : {A B : Type 0} (see : A → B) (e : Evaluation) (at : Place) (stop : Stop) (n : ℕ) (go : ℕ → ℕ → Outcome B) → IsRefusedCall e at stop
    → MeetsOutcome see (Err stop) n (one_call_fewer (most_calls - e.calls) at (λ calls. turn at e.turns (go calls)))
call_refused see e at stop n go (inl h) = fault_at see stop n TooDeep at _ (too_deep at e.calls e.turns go h.0) h.1
call_refused see e at stop n go (inr h) = fault_at see stop n TooManyTurns at _ (too_many_turns at e.calls e.turns go h.0 h.1) h.2
