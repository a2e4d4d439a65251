-- What contracts see of a memo, and its steps.
use Rattle.std.specs.Prelude.{◌≡◌, ℕ, ◌-◌, ◌≤◌, Bool, List, [], ◌∷◌, ◌++◌, map, length, sum_by, is_some}
use Rattle.std.specs.List.{AllByRecursion, IsDistinct}
use Rattle.memo_core.specs.Memo.{Entry, JournalRecord, EntryHeader, Answer, journal_record, same_name, ProbeAnswer, FillAnswer, brought_to_front, has_entry_with, has_key, entries_after_offer, entries_to_place, DropsFrom, entries_after_fill, fill_answer, replay, IsLegal, most_entries, header_of_fill}

-- what contracts see of a memo
pub record MemoView (K V : Type 0) : Type 0 where
  pub entries : List (Entry K V)
  -- the entries that fills dropped and that nobody has taken yet
  pub dropped : List (Entry K V)
  pub budget : ℕ
  -- what each owner's entries may weigh together and be safe from other callers, or 0
  pub share : ℕ
  pub journal : List (JournalRecord K)
  -- for how many more items the journal has room
  pub spare : ℕ

module _ {K V : Type 0} where
  -- an entry without its value
  abbrev pub header_in : Entry K V → EntryHeader K
  header_in e = e.header

  -- the entries without their values
  abbrev pub headers_in : List (Entry K V) → List (EntryHeader K)
  headers_in es = map header_in es

  -- the entry that a fill offers
  abbrev pub new_entry : (K → List ℕ) → ℕ → K → V → ℕ → Entry K V
  new_entry name_of caller key value weight = record { header = header_of_fill name_of caller key weight; value = value }

  -- what a call may say of a key: a fill offers the weight of some value that fits the key
  abbrev pub MaySay : (K → V → Type 0) → (V → ℕ) → K → Answer → Type 0
  MaySay fits weighs key (ProbeAnswer hit) = Unit {0}
  MaySay fits weighs key (FillAnswer weight kept evicted) = (value : V) × fits key value × (weight ≡ weighs value)

  module _ (same : K → K → Bool) (name_of : K → List ℕ) where
    -- what every memo keeps: entries fit their headers, with distinct names and within the limits; the journal is legal,
    -- and its replay is the list of entries; each fill offered the weight of some value that fits the key
    pub record IsSound (fits : K → V → Type 0) (weighs : V → ℕ) (core : MemoView K V) : Type 0 where
      pub fit : AllByRecursion (λ e. fits e.header.key e.value) core.entries
      pub weighed : AllByRecursion (λ e. e.header.weight ≡ weighs e.value) core.entries
      pub named : AllByRecursion (λ e. e.header.name ≡ name_of e.header.key) core.entries
      pub distinct : IsDistinct same_name (map (λ e. e.header.name) core.entries)
      pub within : sum_by (λ e. e.header.weight) core.entries ≤ core.budget
      pub few : length core.entries ≤ most_entries
      pub legal : IsLegal same name_of core.budget core.share [] core.journal
      pub replayed : headers_in core.entries ≡ replay same name_of core.budget core.share [] core.journal
      pub offers : AllByRecursion (λ i. MaySay fits weighs i.key i.answer) core.journal

    -- whether a fill is kept
    abbrev pub is_fill_kept : ℕ → K → V → ℕ → MemoView K V → Bool
    is_fill_kept caller key value weight core =
        is_some (entries_after_offer same header_in core.budget core.share (new_entry name_of caller key value weight) core.entries)

    -- A fill drops exactly what it finds no place for: what it has to place are, in some order, the
    -- entries that stand there after it and those that it dropped.
    abbrev pub DropsTheRest : ℕ → K → V → ℕ → MemoView K V → MemoView K V → Type 0
    DropsTheRest caller key value weight core core' =
        DropsFrom
        (entries_to_place same header_in core.budget core.share (new_entry name_of caller key value weight) core.entries)
        core.dropped core'.dropped core'.entries

    -- the memo after a fill that found memory, but for the entries that it dropped
    abbrev pub after_fill : ℕ → K → V → ℕ → MemoView K V → MemoView K V
    after_fill caller key value weight core = record {
      entries = entries_after_fill same header_in core.budget core.share (new_entry name_of caller key value weight) core.entries;
      dropped = core.dropped;
      budget = core.budget;
      share = core.share;
      journal = core.journal ++ journal_record caller key
          (fill_answer same header_in core.budget core.share (new_entry name_of caller key value weight) core.entries) ∷ [];
      spare = core.spare - 1;
    }

  module _ (same : K → K → Bool) where
    -- the memo after a probe that found memory
    abbrev pub after_probe : ℕ → K → MemoView K V → MemoView K V
    after_probe caller key core = record {
      entries = brought_to_front (has_key same header_in key) core.entries;
      dropped = core.dropped;
      budget = core.budget;
      share = core.share;
      journal = core.journal ++ journal_record caller key (ProbeAnswer (has_entry_with same header_in key core.entries)) ∷ [];
      spare = core.spare - 1;
    }
