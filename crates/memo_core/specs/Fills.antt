-- What a fill does, by its answer.
use Rattle.std.specs.Prelude.{◌≡◌, ℕ, Bool, true, false, List, [], ◌∷◌, ◌++◌}
use Rattle.memo_core.specs.Memo.{JournalRecord, journal_record, FillAnswer}
use Rattle.memo_core.specs.Views.{MemoView, is_fill_kept, after_fill, DropsTheRest}
use Rattle.memo_core.specs.declared.memo.Fill.{Fill}
use Rattle.memo_core.specs.declared.memo.Fill.TheVariants.{Kept, TooHeavy, NoMemory}

module _ {K : Type 0} where
  -- A fill for a caller that was answered so: one item more, of this caller, key and weight, which says
  -- whether the fill was kept. A fill for which memory ran out stands in no journal.
  abbrev pub IsFilled : ℕ → K → ℕ → Fill → List (JournalRecord K) → List (JournalRecord K) → Type 0
  IsFilled caller key weight Kept old new = (evicted : ℕ) × (new ≡ old ++ journal_record caller key (FillAnswer weight true evicted) ∷ [])
  IsFilled caller key weight TooHeavy old new = new ≡ old ++ journal_record caller key (FillAnswer weight false 0) ∷ []
  IsFilled caller key weight NoMemory old new = new ≡ old

module _ {K V : Type 0} (same : K → K → Bool) (name_of : K → List ℕ) (caller : ℕ) (key : K) (value : V) (weight : ℕ) where
  -- The answer of a fill says whether it is kept. One that is not kept changes no entry.
  abbrev pub TellsIfKept : Fill → MemoView K V → MemoView K V → Type 0
  TellsIfKept Kept core core' = is_fill_kept same name_of caller key value weight core ≡ true
  TellsIfKept TooHeavy core core' = (is_fill_kept same name_of caller key value weight core ≡ false) × (core'.entries ≡ core.entries)
  TellsIfKept NoMemory core core' = Unit {0}

  -- one memo is the other after a fill that found memory, and this one dropped exactly what it found no place for
  pub record IsAfterFill (core core' : MemoView K V) : Type 0 where
    pub filled : core' ≡ record (after_fill same name_of caller key value weight core) { dropped = core'.dropped }
    pub drops : DropsTheRest same name_of caller key value weight core core'

  -- what a fill that is answered so changes: nothing where memory ran out
  abbrev pub FillsBy : Fill → MemoView K V → MemoView K V → Type 0
  FillsBy Kept core core' = IsAfterFill core core'
  FillsBy TooHeavy core core' = IsAfterFill core core'
  FillsBy NoMemory core core' = core' ≡ core
