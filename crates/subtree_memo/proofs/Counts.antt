-- A journal with one item more.
use Rattle.std.proofs.Common.{◌≡◌, ℕ, ◌+◌, ◌<◌, ◌∙◌, ap, sym, subst, List, [], ◌∷◌, ◌++◌, All, length, take, get_or}
use Rattle.std.specs.Arc.{arc_value}
use Rattle.std.proofs.Math.Logic.{∥∥₁_map}
use Rattle.std.proofs.lemmas.List.{map-append, take_more}
use Rattle.std.proofs.lemmas.List.Elements.{All-nil, All-push}
use Rattle.std.proofs.lemmas.List.Sums.{sum_by_push}
use Rattle.memo_core.specs.Memo.{JournalRecord, Answer, journal_record, count_in, hit_count_of, miss_count_of, kept_count_of, not_kept_count_of}
use Rattle.memo_core.specs.Fields.{record_of_item, records_of, answer_of}
use Rattle.memo_core.specs.declared.journal.JournalItem.{JournalItem}
use Rattle.subtree_memo.specs.Allowed.{AreAllowed}

module _ {K : Type 0} where
  count_more : (by : Answer → ℕ) (is : List (JournalRecord K)) (caller : ℕ) (key : K) (said : Answer) → count_in by (is ++ journal_record caller key said ∷ []) ≡ count_in by is + by said
  count_more by is caller key said = sum_by_push (λ x. by x.answer) is (journal_record caller key said)

  pub hits_more : (is : List (JournalRecord K)) (caller : ℕ) (key : K) (said : Answer) → count_in hit_count_of (is ++ journal_record caller key said ∷ []) ≡ count_in hit_count_of is + hit_count_of said
  hits_more is caller key said = count_more hit_count_of is caller key said

  pub misses_more : (is : List (JournalRecord K)) (caller : ℕ) (key : K) (said : Answer) → count_in miss_count_of (is ++ journal_record caller key said ∷ []) ≡ count_in miss_count_of is + miss_count_of said
  misses_more is caller key said = count_more miss_count_of is caller key said

  pub kept_more : (is : List (JournalRecord K)) (caller : ℕ) (key : K) (said : Answer) → count_in kept_count_of (is ++ journal_record caller key said ∷ []) ≡ count_in kept_count_of is + kept_count_of said
  kept_more is caller key said = count_more kept_count_of is caller key said

  pub heavy_more : (is : List (JournalRecord K)) (caller : ℕ) (key : K) (said : Answer) → count_in not_kept_count_of (is ++ journal_record caller key said ∷ []) ≡ count_in not_kept_count_of is + not_kept_count_of said
  heavy_more is caller key said = count_more not_kept_count_of is caller key said

  -- the callers of a journal with one item more
  pub callers_more : (is : List (JournalRecord K)) (caller : ℕ) (key : K) (said : Answer) (most : ℕ) → All (λ i. i.caller < most) is → caller < most → All (λ i. i.caller < most) (is ++ journal_record caller key said ∷ [])
  callers_more is caller key said most all here = All-push (λ i. i.caller < most) is (journal_record caller key said) all here

  -- an empty journal is allowed, and stays so with one item more of a caller who may ask for its key
  pub none_allowed : (may_ask : ℕ → K → Type 0) (is : List (JournalRecord K)) → is ≡ [] → ∥ AreAllowed may_ask is ∥₁
  none_allowed may_ask is none = subst (λ xs. ∥ AreAllowed may_ask xs ∥₁) (sym none) ∣ record { each = All-nil (λ i. may_ask i.caller i.key) } ∣₁

  pub allowed_more : (may_ask : ℕ → K → Type 0) (is : List (JournalRecord K)) (caller : ℕ) (key : K) (said : Answer) → ∥ AreAllowed may_ask is ∥₁ → may_ask caller key →
      ∥ AreAllowed may_ask (is ++ journal_record caller key said ∷ []) ∥₁
  allowed_more may_ask is caller key said all here =
      ∥∥₁_map all (λ a. record { each = All-push (λ i. may_ask i.caller i.key) is (journal_record caller key said) a.each here })

  -- the items up to a place and the one there
  pub count_take : (by : Answer → ℕ) (xs : List (JournalItem K)) (i : ℕ) (x : JournalItem K) → i < length xs → x ≡ get_or xs i x → count_in by (records_of (take (i + 1) xs)) ≡ count_in by (records_of (take i xs)) + by (answer_of x.did)
  count_take by xs i x lt is =
      ap (λ l. count_in by (records_of l)) (take_more xs i x lt)
      ∙ ap (count_in by) (map-append record_of_item (take i xs) (get_or xs i x ∷ []))
      ∙ count_more by (records_of (take i xs)) (get_or xs i x).caller (arc_value (get_or xs i x).key) (answer_of (get_or xs i x).did)
      ∙ ap (λ (y : JournalItem K). count_in by (records_of (take i xs)) + by (answer_of y.did)) (sym is)
