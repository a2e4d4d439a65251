-- A journal with one item more.
use Rattle.std.proofs.Common.{◌≡◌, ℕ, ◌+◌, Bool, List, [], ◌∷◌, ◌++◌, refl}
use Rattle.memo_core.specs.Memo.{EntryHeader, JournalRecord, entries_after_call, memo_answer, replay, IsLegal, Answer, count_in, evicted_count_of, evicted_count}
use Rattle.std.specs.List.{AllByRecursion}
use Rattle.std.proofs.lemmas.List.Sums.{sum_by_push}

-- every count adds what the item counts
pub count_more : {K : Type 0} (by : Answer → ℕ) (is : List (JournalRecord K)) (i : JournalRecord K) → count_in by (is ++ i ∷ []) ≡ count_in by is + by i.answer
count_more by is i = sum_by_push (λ x. by x.answer) is i

pub evicted_more : {K : Type 0} (is : List (JournalRecord K)) (i : JournalRecord K) → evicted_count (is ++ i ∷ []) ≡ evicted_count is + evicted_count_of i.answer
evicted_more is i = count_more evicted_count_of is i

module _ {K : Type 0} (same : K → K → Bool) (name_of : K → List ℕ) (budget share : ℕ) where
  pub replay_more : (es : List (EntryHeader K)) (is : List (JournalRecord K)) (i : JournalRecord K) → replay same name_of budget share es (is ++ i ∷ []) ≡ entries_after_call same name_of budget share i.caller i.key i.answer (replay same name_of budget share es is)
  replay_more es [] i = refl
  replay_more es (x ∷ xs) i = replay_more (entries_after_call same name_of budget share x.caller x.key x.answer es) xs i

  pub legal_more : (es : List (EntryHeader K)) (is : List (JournalRecord K)) (i : JournalRecord K) → IsLegal same name_of budget share es is → i.answer ≡ memo_answer same name_of budget share i.caller i.key i.answer (replay same name_of budget share es is) → IsLegal same name_of budget share es (is ++ i ∷ [])
  legal_more es [] i l h = (h, tt)
  legal_more es (x ∷ xs) i l h = (l.0, legal_more (entries_after_call same name_of budget share x.caller x.key x.answer es) xs i l.1 h)

-- what is true of each item of a journal, and of one item more
pub all_more : {K : Type 0} (P : JournalRecord K → Type 0) (is : List (JournalRecord K)) (i : JournalRecord K) → AllByRecursion P is → P i → AllByRecursion P (is ++ i ∷ [])
all_more P [] i all p = (p, tt)
all_more P (x ∷ xs) i all p = (all.0, all_more P xs i all.1 p)
