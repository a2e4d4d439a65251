-- Memos that are equal but for what is no part of the state.
use Rattle.std.proofs.Common.{◌≡◌, ◌≢◌, Bool, List, refl, ap, ◌∙◌, ℕ}
use Rattle.memo_core.specs.Memo.{Entry, JournalRecord}
use Rattle.memo_core.specs.Views.{MemoView, after_fill}
use Rattle.memo_core.specs.Fills.{FillsBy}
use Rattle.memo_core.specs.declared.memo.Fill.{Fill}
use Rattle.memo_core.specs.declared.memo.Fill.TheVariants.{Kept, TooHeavy, NoMemory}
use Rattle.share_core.specs.Views.{settled_memo}

pub settled_is : {K V : Type 0} (a b : MemoView K V) → a.entries ≡ b.entries → a.budget ≡ b.budget → a.share ≡ b.share → a.journal ≡ b.journal → settled_memo a ≡ settled_memo b
settled_is {K} {V} a b e u h j =
    ap (λ (x : List (Entry K V)). settled_memo (record a { entries = x })) e
    ∙ ap (λ (x : ℕ). settled_memo (record a { entries = b.entries; budget = x })) u
    ∙ ap (λ (x : ℕ). settled_memo (record a { entries = b.entries; budget = b.budget; share = x })) h
    ∙ ap (λ (x : List (JournalRecord K)). settled_memo (record a { entries = b.entries; budget = b.budget; share = b.share; journal = x })) j

-- a fill that found memory changes a memo as a fill does, but for what it dropped
pub filled_found : {K V : Type 0} (same : K → K → Bool) (name_of : K → List ℕ) (caller : ℕ) (key : K) (value : V) (weight : ℕ) (core core' : MemoView K V) (answer : Fill) → answer ≢ NoMemory
    → FillsBy same name_of caller key value weight answer core core' → core' ≡ record (after_fill same name_of caller key value weight core) { dropped = core'.dropped }
filled_found same name_of caller key value weight core core' Kept found f = f.filled
filled_found same name_of caller key value weight core core' TooHeavy found f = f.filled
filled_found same name_of caller key value weight core core' NoMemory found f = absurd (found refl)
