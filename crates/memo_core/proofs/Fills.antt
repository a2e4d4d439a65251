-- What a fill is answered, case by case.
use Rattle.std.proofs.Common.{◌≡◌, ℕ, Bool, true, false, List, [], ◌∷◌, ◌++◌, refl, sym, subst, cond, Some, None}
use Rattle.std.specs.Prelude.{Option, is_some, IfNone}
use Rattle.std.specs.Option.{unwrap_or}
use Rattle.memo_core.specs.Memo.{JournalRecord, journal_record, FillAnswer}
use Rattle.memo_core.specs.Fills.{IsFilled}
use Rattle.memo_core.specs.declared.memo.Fill.{Fill}
use Rattle.memo_core.specs.declared.memo.Fill.TheVariants.{Kept, TooHeavy}
use Rattle.memo_core.proofs.Hits.{never}

-- an answer that says whether it is kept, in both cases
pub fill_cases : (P : Fill → Type 0) (kept : Bool) (answer : Fill) → answer ≡ cond kept Kept TooHeavy → (kept ≡ true → P Kept) → (kept ≡ false → P TooHeavy) → P answer
fill_cases P true answer is k h = subst P (sym is) (k refl)
fill_cases P false answer is k h = subst P (sym is) (h refl)

-- what stays where an offer was not kept
pub stays_if : {X : Type 0} (answer : Option ℕ) (a b : X) → IfNone answer (a ≡ b) → is_some answer ≡ false → a ≡ b
stays_if None a b same h = same
stays_if (Some n) a b same h = absurd (never (sym h))

-- a journal with the item of an offer is one with that of its answer
pub filled_by : {K : Type 0} (offered : Option ℕ) (answer : Fill) (caller : ℕ) (key : K) (weight : ℕ) (old new : List (JournalRecord K))
    → answer ≡ cond (is_some offered) Kept TooHeavy → new ≡ old ++ journal_record caller key (FillAnswer weight (is_some offered) (unwrap_or offered 0)) ∷ [] → IsFilled caller key weight answer old new
filled_by None answer caller key weight old new is more = subst (λ r. IsFilled caller key weight r old new) (sym is) more
filled_by (Some n) answer caller key weight old new is more = subst (λ r. IsFilled caller key weight r old new) (sym is) (n, more)
