-- A log with one event more.
use Rattle.std.proofs.Common.{◌≡◌, ℕ, suc, ◌+◌, ◌<◌, ◌≤◌, Bool, true, false, not, cond, if◌then◌else◌, ◌&&◌, ◌||◌, List, [], ◌∷◌, ◌++◌, length, filter, nat_eq, get_or, refl, ap, sym, subst, ◌∙◌, arith, append_assoc, append-nil}
use Rattle.std.specs.List.{AllPairs}
use Rattle.std.proofs.lemmas.Bool.{eqb-true, ne_eqb, eq-eqb}
use Rattle.std.proofs.lemmas.List.Elements.{filter-append, filter_agree}
use Rattle.std.proofs.lemmas.List.Folds.{list_any-append}
use Rattle.std.proofs.lemmas.List.Sums.{sum_by_push, sum_by-cons}
use Rattle.flight_memo.specs.Claims.{ClaimsView, IsSingle, AreClosedClaims, Claim, Event, Begun, Ended, MayFollow, IsLegalAfter, IsLegalLog, live_claims, claims_in, claim_of, has_ended, is_end_of, first_number, number_to_end, is_live, has_not_ended, begin_count, end_count, begin_count_of, end_count_of, has_other_claim_number}

-- ---- truth values
or_none : (a : Bool) → (a || false) ≡ a
or_none true = refl
or_none false = refl

neither : (a b : Bool) → not (a || b) ≡ (not a && not b)
neither true b = refl
neither false b = refl

-- what passes both of two tests
module _ {X : Type 0} (p q : X → Bool) where
  step : (x : X) (rest rest' : List X) (b : Bool) → rest ≡ filter q rest' → cond (b && q x) (x ∷ rest) rest ≡ filter q (cond b (x ∷ rest') rest')
  step x rest rest' true e = ap (λ l. cond (q x) (x ∷ l) l) e
  step x rest rest' false e = e

  filter_both : (xs : List X) → filter (λ x. p x && q x) xs ≡ filter q (filter p xs)
  filter_both [] = refl
  filter_both (x ∷ xs) = step x (filter (λ y. p y && q y) xs) (filter p xs) (p x) (filter_both xs)

module _ {K : Type 0} where
  -- a legal log and an event that may follow it
  legal_behind : (before log : List (Event K)) (event : Event K) → IsLegalAfter before log → MayFollow (before ++ log) event → IsLegalAfter before (log ++ event ∷ [])
  legal_behind before [] event legal may = (subst (λ l. MayFollow l event) (append-nil before) may, tt)
  legal_behind before (first ∷ log) event legal may = (
    legal.0,
    legal_behind (before ++ first ∷ []) log event legal.1 (subst (λ l. MayFollow l event) (sym (append_assoc before (first ∷ []) log)) may),
  )

  pub legal_more : (log : List (Event K)) (event : Event K) → IsLegalLog log → MayFollow log event → IsLegalLog (log ++ event ∷ [])
  legal_more log event legal may = legal_behind [] log event legal may

  pub begun_more : (log : List (Event K)) (event : Event K) → begin_count (log ++ event ∷ []) ≡ begin_count log + begin_count_of event
  begun_more log event = sum_by_push begin_count_of log event

  -- no more claims have begun than there are events
  pub begun_few : (log : List (Event K)) → begin_count log ≤ length log
  begun_few [] = omega arith
  begun_few (Begun claim ∷ log) = let rest = begun_few log in omega (arith, rest, sum_by-cons begin_count_of (Begun claim) log)
  begun_few (Ended number filled ∷ log) = let rest = begun_few log in omega (arith, rest, sum_by-cons begin_count_of (Ended number filled) log)

  pub ended_more : (log : List (Event K)) (event : Event K) → end_count (log ++ event ∷ []) ≡ end_count log + end_count_of event
  ended_more log event = sum_by_push end_count_of log event

  -- who has ended by one event more
  pub has_ended_more : (number : ℕ) (log : List (Event K)) (event : Event K) → has_ended number (log ++ event ∷ []) ≡ (has_ended number log || is_end_of number event)
  has_ended_more number log event =
      list_any-append (is_end_of number) log (event ∷ []) ∙ ap (λ b. has_ended number log || b) (or_none (is_end_of number event))

  claims_more : (log : List (Event K)) (event : Event K) → claims_in (log ++ event ∷ []) ≡ claims_in log ++ claim_of event
  claims_more [] event = append-nil (claim_of event)
  claims_more (first ∷ log) event =
      ap (λ l. claim_of first ++ l) (claims_more log event) ∙ sym (append_assoc (claim_of first) (claims_in log) (claim_of event))

  -- a claim that begins is live, where none of its number has ended
  pub live_more : (log : List (Event K)) (claim : Claim K) → has_ended claim.number log ≡ false → live_claims (log ++ Begun claim ∷ []) ≡ live_claims log ++ claim ∷ []
  live_more log claim fresh =
      let more = log ++ Begun claim ∷ [] in
      let same : (c : Claim K) → has_not_ended more c ≡ has_not_ended log c = λ c. ap not (has_ended_more c.number log (Begun claim) ∙ or_none (has_ended c.number log)) in
      let own : has_not_ended log claim ≡ true = ap not fresh in
      ap (filter (has_not_ended more)) (claims_more log (Begun claim))
      ∙ filter_agree (has_not_ended more) (has_not_ended log) same (claims_in log ++ claim ∷ [])
      ∙ filter-append (has_not_ended log) (claims_in log) (claim ∷ [])
      ∙ ap (λ b. live_claims log ++ cond b (claim ∷ []) []) own

  -- the claim of a number is live no more once it ended
  pub live_less : (log : List (Event K)) (number : ℕ) (filled : Bool) → live_claims (log ++ Ended number filled ∷ []) ≡ filter (has_other_claim_number number) (live_claims log)
  live_less log number filled =
      let more = log ++ Ended number filled ∷ [] in
      let same : (c : Claim K) → has_not_ended more c ≡ (has_not_ended log c && has_other_claim_number number c) =
      λ c. ap not (has_ended_more c.number log (Ended number filled)) ∙ neither (has_ended c.number log) (nat_eq number c.number) in
      ap (filter (has_not_ended more)) (claims_more log (Ended number filled) ∙ append-nil (claims_in log))
      ∙ filter_agree (has_not_ended more) (λ c. has_not_ended log c && has_other_claim_number number c) same (claims_in log)
      ∙ filter_both (has_not_ended log) (has_other_claim_number number) (claims_in log)

  -- ---- a live claim less
  kept_first : (b : Bool) (claim : Claim K) (others live : List (Claim K)) → b ≡ false → length others ≡ length live → length (cond (not b) (claim ∷ others) others) ≡ length (claim ∷ live)
  kept_first true claim others live is all = absurd (cc is)
  kept_first false claim others live is all = omega (arith, all)

  -- where no claim has the number, none is left out
  kept_all : (number : ℕ) (live : List (Claim K)) → ((k : ℕ) (d : Claim K) → k < length live → number ≡ (get_or live k d).number → ⊥) → length (filter (has_other_claim_number number) live) ≡ length live
  kept_all number [] other = refl
  kept_all number (claim ∷ live) other =
      kept_first (nat_eq number claim.number) claim (filter (has_other_claim_number number) live) live (ne_eqb number claim.number (other 0 claim (omega arith)))
      (kept_all number live (λ k d lt. other (suc k) d (omega (arith, lt))))

  without : (b : Bool) (number : ℕ) (claim : Claim K) (live : List (Claim K)) → (b ≡ true → length (filter (has_other_claim_number number) live) ≡ length live) →
      (b ≡ false → length (filter (has_other_claim_number number) live) + 1 ≡ length live) →
      length (cond (not b) (claim ∷ filter (has_other_claim_number number) live) (filter (has_other_claim_number number) live)) + 1 ≡ length (claim ∷ live)
  without true number claim live all less = omega (arith, all refl)
  without false number claim live all less = omega (arith, less refl)

  pub one_less : (number : ℕ) (live : List (Claim K)) → AllPairs (λ a b. a.number ≡ b.number → ⊥) live → is_live number live ≡ true → length (filter (has_other_claim_number number) live) + 1 ≡ length live
  one_less number [] apart is = absurd (cc is)
  one_less number (claim ∷ live) apart is =
      without (nat_eq number claim.number) number claim live
      (λ e. kept_all number live (λ k d lt same. apart 0 (suc k) d (omega arith) (omega (arith, lt)) (sym (eqb-true number claim.number e) ∙ same)))
      (λ e. one_less number live (λ i j d lt few. apart (suc i) (suc j) d (omega (arith, lt)) (omega (arith, few))) (ap (λ b. b || is_live number live) (sym e) ∙ is))

  -- ---- the claim that an end ends is live
  live_by_test : (number : ℕ) (live : List (Claim K)) → 0 < length live → (b : Bool) → is_live number live ≡ b → is_live (if b then number else first_number live) live ≡ true
  live_by_test number live some true is = is
  live_by_test number [] some false is = absurd (omega (arith, some))
  live_by_test number (claim ∷ live) some false is = ap (λ b. b || is_live claim.number live) (eq-eqb claim.number claim.number refl)

  pub to_end_is_live : (number : ℕ) (live : List (Claim K)) → 0 < length live → is_live (number_to_end number live) live ≡ true
  to_end_is_live number live some = live_by_test number live some (is_live number live) refl

-- claims of a legal log none of which is live: as many ended as began
module _ {K : Type 0} where
  none_left : (live : List (Claim K)) → length live ≡ 0 → live ≡ []
  none_left [] none = refl
  none_left (claim ∷ live) none = absurd (omega (arith, none))

  pub closed_of : (misses : ℕ) (view : ClaimsView K) → IsLegalLog view.log → view.live ≡ live_claims view.log → IsSingle view.log → length view.live + end_count view.log ≡ begin_count view.log →
      begin_count view.log ≡ misses → length view.live ≡ 0 → AreClosedClaims misses view
  closed_of misses view legal live single all begun held =
      let none = none_left view.live held in record {
        legal = legal;
        single = single;
        begun = begun;
        ended = omega (arith, all, begun, held);
        live = none;
        none_live = sym live ∙ none;
      }
