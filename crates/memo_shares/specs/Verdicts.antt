-- What is said of a journal.
use Rattle.std.specs.Prelude.{◌≡◌, ◌≢◌, ℕ, Bool, List, [], take, slice_get, Some}
use Rattle.memo_core.specs.Memo.{JournalRecord, Answer, ProbeAnswer, FillAnswer, memo_answer, replay, IsLegal}
use Rattle.memo_shares.specs.declared.verdict.JournalVerdict.{JournalVerdict}
use Rattle.memo_shares.specs.declared.verdict.JournalVerdict.TheVariants.{Legal, Differs}

-- every number fits every key, and weighs itself
abbrev pub AreWeights : {K : Type 0} → (K → ℕ → Type 0) → (ℕ → ℕ) → Type 0
AreWeights {K} fits weighs = (key : K) (weight : ℕ) → fits key weight × (weighs weight ≡ weight)

-- whether two calls of one caller and one key asked the same: both probed, or both offered this weight
abbrev pub IsSameCall : Answer → Answer → Type 0
IsSameCall (ProbeAnswer hit) (ProbeAnswer hit') = Unit {0}
IsSameCall (ProbeAnswer hit) (FillAnswer weight kept evicted) = ⊥
IsSameCall (FillAnswer weight kept evicted) (ProbeAnswer hit) = ⊥
IsSameCall (FillAnswer weight kept evicted) (FillAnswer weight' kept' evicted') = weight ≡ weight'

module _ {K : Type 0} (same : K → K → Bool) (name_of : K → List ℕ) (budget share : ℕ) where
  -- the item of this number is the first that says something else than the sequential memo
  pub record DiffersFirst (items : List (JournalRecord K)) (n : ℕ) : Type 0 where
    pub legal : IsLegal same name_of budget share [] (take n items)
    pub other : JournalRecord K
    pub here : slice_get items n ≡ Some other
    pub differs : other.answer ≢
        memo_answer same name_of budget share other.caller other.key other.answer (replay same name_of budget share [] (take n items))

module _ {K : Type 0} (same : K → K → Bool) (name_of : K → List ℕ) (budget share : ℕ) (items : List (JournalRecord K)) where
  -- what each verdict says
  abbrev pub IsVerdict : JournalVerdict → Type 0
  IsVerdict Legal = IsLegal same name_of budget share [] items
  IsVerdict (Differs n) = DiffersFirst same name_of budget share items n
