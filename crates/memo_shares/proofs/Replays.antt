-- Journals with one item more.
use Rattle.std.proofs.Common.{◌≡◌, ◌≢◌, ℕ, ◌-◌, Bool, List, [], ◌∷◌, ◌++◌, refl, ap, sym, subst, ◌∙◌, Some, take, length, option_map, arith}
use Rattle.std.specs.Prelude.{slice_get}
use Rattle.std.specs.Arc.{arc_value}
use Rattle.std.proofs.lemmas.List.{length-map, length-append, take-map}
use Rattle.std.proofs.lemmas.Option.{same_Some, slice_get-map}
use Rattle.memo_core.specs.Memo.{EntryHeader, JournalRecord, Answer, ProbeAnswer, FillAnswer, journal_record, entries_after_call, memo_answer, replay, IsLegal}
use Rattle.memo_core.specs.Fields.{answer_of, record_of_item, records_of}
use Rattle.memo_core.specs.declared.journal.JournalItem.{JournalItem}
use Rattle.memo_shares.specs.Verdicts.{IsSameCall, DiffersFirst}

module _ {K : Type 0} (same : K → K → Bool) (name_of : K → List ℕ) (budget share : ℕ) where
  -- the last item of a legal journal says what the sequential memo says there
  pub legal_last : (es : List (EntryHeader K)) (is : List (JournalRecord K)) (i : JournalRecord K) → IsLegal same name_of budget share es (is ++ i ∷ [])
      → i.answer ≡ memo_answer same name_of budget share i.caller i.key i.answer (replay same name_of budget share es is)
  legal_last es [] i l = l.0
  legal_last es (x ∷ xs) i l = legal_last (entries_after_call same name_of budget share x.caller x.key x.answer es) xs i l.1

  -- calls that ask the same are answered the same
  pub same_says : (caller : ℕ) (key : K) (a b : Answer) (es : List (EntryHeader K)) → IsSameCall a b → memo_answer same name_of budget share caller key a es ≡ memo_answer same name_of budget share caller key b es
  same_says caller key (ProbeAnswer hit) (ProbeAnswer hit') es s = refl
  same_says caller key (ProbeAnswer hit) (FillAnswer weight kept evicted) es s = absurd s
  same_says caller key (FillAnswer weight kept evicted) (ProbeAnswer hit) es s = absurd s
  same_says caller key (FillAnswer weight kept evicted) (FillAnswer weight' kept' evicted') es s = ap (λ w. memo_answer same name_of budget share caller key (FillAnswer w kept evicted) es) s

  -- an item that says something else than its call is no item of the sequential memo
  pub no_item : (is js : List (JournalRecord K)) (caller : ℕ) (key : K) (said other : Answer) → js ≡ is ++ journal_record caller key said ∷ [] → IsLegal same name_of budget share [] js → IsSameCall said other → said ≢ other
      → other ≢ memo_answer same name_of budget share caller key other (replay same name_of budget share [] is)
  no_item is js caller key said other e l s d h =
      d (legal_last [] is (journal_record caller key said) (subst (IsLegal same name_of budget share []) e l) ∙ same_says caller key said other (replay same name_of budget share [] is) s ∙ sym h)

last_of : {X : Type 0} (xs : List X) (x : X) → slice_get (xs ++ x ∷ []) (length xs) ≡ Some x
last_of [] x = refl
last_of (y ∷ ys) x = last_of ys x

-- the last item of a journal
pub last_item : {K : Type 0} (js : List (JournalItem K)) (is : List (JournalRecord K)) (i : JournalRecord K) (x : JournalItem K) → records_of js ≡ is ++ i ∷ [] → slice_get js (length js - 1) ≡ Some x → record_of_item x ≡ i
last_item js is i x e h =
    let n : length js - 1 ≡ length is = let a = ap length e in omega (arith, a, length-map js record_of_item, length-append is (i ∷ [])) in
    same_Some _ _ (ap (option_map record_of_item) (sym h) ∙ sym (slice_get-map record_of_item js (length js - 1)) ∙ ap (λ ys. slice_get ys (length js - 1)) e ∙ ap (slice_get (is ++ i ∷ [])) n ∙ last_of is i)

module _ {K : Type 0} (same : K → K → Bool) (name_of : K → List ℕ) where
  pub differs_first : (b h b' h' n : ℕ) (items : List (JournalItem K)) (x : JournalItem K) (js : List (JournalRecord K)) → js ≡ records_of (take n items) → b' ≡ b → h' ≡ h
      → IsLegal same name_of b' h' [] js → slice_get items n ≡ Some x
      → answer_of x.did ≢ memo_answer same name_of b' h' x.caller (arc_value x.key) (answer_of x.did) (replay same name_of b' h' [] js)
      → DiffersFirst same name_of b h (records_of items) n
  differs_first b h b' h' n items x js e p q l g d =
      let t : js ≡ take n (records_of items) = e ∙ sym (take-map record_of_item n items) in
      let l' = subst (λ k. IsLegal same name_of b k [] js) q (subst (λ k. IsLegal same name_of k h' [] js) p l) in record {
        legal = subst (IsLegal same name_of b h []) t l';
        other = record_of_item x;
        here = slice_get-map record_of_item items n ∙ ap (option_map record_of_item) g;
        differs = λ r.
            d (r ∙ ap (λ k. memo_answer same name_of k h x.caller (arc_value x.key) (answer_of x.did) (replay same name_of k h [] (take n (records_of items)))) (sym p)
            ∙ ap (λ k. memo_answer same name_of b' k x.caller (arc_value x.key) (answer_of x.did) (replay same name_of b' k [] (take n (records_of items)))) (sym q)
            ∙ ap (λ ys. memo_answer same name_of b' h' x.caller (arc_value x.key) (answer_of x.did) (replay same name_of b' h' [] ys)) (sym t));
      }
