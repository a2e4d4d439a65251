-- Evaluations, calls and turns, as they are counted.
use Rattle.std.proofs.Common.{◌≡◌, ℕ, zero, suc, ◌+◌, ◌-◌, ◌<◌, true, nat_lt, ap, arith, if◌then◌else◌}
use Rattle.std.proofs.lemmas.Bool.Decides.{nat_tests}
use Rattle.plain_text.specs.declared.place.Place.{Place}
use Rattle.text_place.specs.declared.fault.FaultKind.TheVariants.{TooDeep, TooManyTurns}
use Rattle.plane_predicate.specs.declared.unit.Unit.{Unit as LengthUnit}
use Rattle.scad_ast.specs.Terms.{InstanceTerm, place_of_instance}
use Rattle.scad_func.specs.Limits.{most_calls, most_evaluations, most_turns}
use Rattle.scad_func.specs.Meaning.{Outcome, Faults, one_call_fewer, turn}
use Rattle.scad_meaning.specs.Verdicts.{Judge}
use Rattle.scad_meaning.specs.Meaning.{Context, design_within, evaluator_with, instance_design}

one_less : (d : ℕ) → d < most_evaluations → most_evaluations - d ≡ suc (most_evaluations - (d + 1))
one_less d h = omega arith

pub design_deeper : (unit : LengthUnit) (judge : Judge) (d : ℕ) (here : Context) (i : InstanceTerm) (turns leaves : ℕ) → d < most_evaluations
    → design_within unit judge (most_evaluations - d) here i turns leaves
    ≡ instance_design (evaluator_with unit judge (most_evaluations - (d + 1))) here i turns leaves
unfolding design_within
design_deeper unit judge d here i turns leaves h = ap (λ n. design_within unit judge n here i turns leaves) (one_less d h)

pub design_too_deep : (unit : LengthUnit) (judge : Judge) (d : ℕ) (here : Context) (i : InstanceTerm) (turns leaves : ℕ) → d ≡ most_evaluations
    → design_within unit judge (most_evaluations - d) here i turns leaves ≡ Faults TooDeep (place_of_instance i)
unfolding design_within
design_too_deep unit judge d here i turns leaves h =
    let k : most_evaluations - d ≡ zero = omega arith in ap (λ n. design_within unit judge n here i turns leaves) k

pub call_counted : {A : Type 0} (calls : ℕ) (at : Place) (go : ℕ → Outcome A) → calls < most_calls
    → one_call_fewer (most_calls - calls) at go ≡ go (most_calls - (calls + 1))
call_counted calls at go h =
    let k : most_calls - calls ≡ suc (most_calls - (calls + 1)) = omega arith in ap (λ n. one_call_fewer n at go) k

pub call_too_deep : {A : Type 0} (calls : ℕ) (at : Place) (go : ℕ → Outcome A) → calls ≡ most_calls
    → one_call_fewer (most_calls - calls) at go ≡ Faults TooDeep at
call_too_deep calls at go h =
    let k : most_calls - calls ≡ zero = omega arith in ap (λ n. one_call_fewer n at go) k

below : (n m : ℕ) → n < m → nat_lt n m ≡ true
below n m h = grind (arith, nat_tests)

pub turn_counted : {A : Type 0} (at : Place) (turns : ℕ) (go : ℕ → Outcome A) → turns < most_turns → turn at turns go ≡ go (turns + 1)
turn_counted at turns go h = ap (λ b. if b then go (turns + 1) else Faults TooManyTurns at) (below turns most_turns h)
