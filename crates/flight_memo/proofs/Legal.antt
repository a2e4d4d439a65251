-- What a legal log says of its claims.
use Rattle.std.proofs.Common.{◌≡◌, ℕ, zero, suc, ◌+◌, ◌<◌, ◌≤◌, Bool, true, false, ◌||◌, List, [], ◌∷◌, ◌++◌, length, filter, take, All, nat_eq, refl, ap, sym, subst, ◌∙◌, arith, append_assoc, append-nil}
use Rattle.std.specs.List.{AllPairs}
use Rattle.std.proofs.lemmas.Bool.{eqb-true, ne_eqb}
use Rattle.std.proofs.lemmas.List.Elements.{All-nil, All-push, All-head, All-tail, All-filter, All-weaker}
use Rattle.std.proofs.lemmas.List.Kept.{AllPairs-filter}
use Rattle.std.proofs.lemmas.List.Quantifiers.{all_pairs_push}
use Rattle.flight_memo.specs.Claims.{Claim, Event, Begun, Ended, MayFollow, IsLegalAfter, IsLegalLog, NoKeyTwice, IsSingle, live_claims, has_ended, is_live, has_other_claim_number, begin_count}
use Rattle.flight_memo.proofs.Logs.{begun_more, has_ended_more, live_more, live_less, one_less}

either : {P : Type 0} (a b : Bool) → (a || b) ≡ true → (a ≡ true → P) → (b ≡ true → P) → P
either true b is first second = first refl
either false b is first second = second is

module _ {K : Type 0} where
  -- a claim of a number is live, so the number is below those that are to come
  live_below : (number most : ℕ) (live : List (Claim K)) → is_live number live ≡ true → All (λ claim. claim.number < most) live → number < most
  live_below number most [] is all = absurd (cc is)
  live_below number most (claim ∷ live) is all =
      let head : claim.number < most = All-head (λ c. c.number < most) claim live all in
      either (nat_eq number claim.number) (is_live number live) is
      (λ e. omega (arith, head, eqb-true number claim.number e))
      (λ e. live_below number most live e (All-tail (λ c. c.number < most) claim live all))

  -- what is known behind a legal log
  pub record Known (log : List (Event K)) : Type 0 where
    -- no claim of a later number has ended
    pub ahead : (number : ℕ) → begin_count log ≤ number → has_ended number log ≡ false
    -- live claims have earlier numbers
    pub below : All (λ claim. claim.number < begin_count log) (live_claims log)
    pub single : NoKeyTwice (live_claims log)
    -- no two live claims have one number
    pub apart : AllPairs (λ a b. a.number ≡ b.number → ⊥) (live_claims log)

  known_more : (log : List (Event K)) (event : Event K) → Known log → MayFollow log event → Known (log ++ event ∷ [])
  known_more log (Begun claim) known may =
      let more = begun_more log (Begun claim) in
      let fresh : has_ended claim.number log ≡ false = known.ahead claim.number (omega (arith, may.0)) in
      let live = live_more log claim fresh in
      record {
        ahead = λ number far. has_ended_more number log (Begun claim) ∙ ap (λ b. b || false) (known.ahead number (omega (arith, far, more)));
        below = subst (All (λ c. c.number < begin_count (log ++ Begun claim ∷ []))) (sym live) (All-push (λ c. c.number < begin_count (log ++ Begun claim ∷ [])) (live_claims log) claim (All-weaker (λ c. c.number < begin_count log) (λ c. c.number < begin_count (log ++ Begun claim ∷ [])) (λ c lt. omega (arith, lt, more)) (live_claims log) known.below) (omega (arith, may.0, more)));
        single = subst NoKeyTwice (sym live) (all_pairs_push (λ a b. a.key ≡ b.key → ⊥) (live_claims log) claim known.single may.1);
        apart = subst (AllPairs (λ a b. a.number ≡ b.number → ⊥)) (sym live)
            (all_pairs_push (λ a b. a.number ≡ b.number → ⊥) (live_claims log) claim known.apart
            (All-weaker (λ c. c.number < begin_count log) (λ c. c.number ≡ claim.number → ⊥) (λ c lt e. omega (arith, lt, e, may.0)) (live_claims log) known.below));
      }
  known_more log (Ended number filled) known may =
      let more = begun_more log (Ended number filled) in
      let below : number < begin_count log = live_below number (begin_count log) (live_claims log) may known.below in
      let live = live_less log number filled in
      record {
        ahead = λ other far.
            has_ended_more other log (Ended number filled)
            ∙ ap (λ b. b || nat_eq number other) (known.ahead other (omega (arith, far, more)))
            ∙ ne_eqb number other (λ e. omega (arith, e, below, far, more));
        below = subst (All (λ c. c.number < begin_count (log ++ Ended number filled ∷ []))) (sym live) (All-filter (has_other_claim_number number) (λ c. c.number < begin_count (log ++ Ended number filled ∷ [])) (live_claims log) (All-weaker (λ c. c.number < begin_count log) (λ c. c.number < begin_count (log ++ Ended number filled ∷ [])) (λ c lt. omega (arith, lt, more)) (live_claims log) known.below));
        single = subst NoKeyTwice (sym live) (AllPairs-filter (λ a b. a.key ≡ b.key → ⊥) (has_other_claim_number number) (live_claims log) known.single);
        apart = subst (AllPairs (λ a b. a.number ≡ b.number → ⊥)) (sym live)
            (AllPairs-filter (λ a b. a.number ≡ b.number → ⊥) (has_other_claim_number number) (live_claims log) known.apart);
      }

  known_behind : (before log : List (Event K)) → Known before → IsLegalAfter before log → Known (before ++ log)
  known_behind before [] known legal = subst Known (sym (append-nil before)) known
  known_behind before (event ∷ log) known legal =
      subst Known (append_assoc before (event ∷ []) log) (known_behind (before ++ event ∷ []) log (known_more before event known legal.0) legal.1)

  pub known_of_legal : (log : List (Event K)) → IsLegalLog log → Known log
  known_of_legal log legal = known_behind [] log (record { ahead = λ number far. refl; below = All-nil (λ c. c.number < 0); single = λ i j d lt few. absurd (omega (arith, few)); apart = λ i j d lt few. absurd (omega (arith, few)) }) legal

  -- a prefix of a legal log is legal
  legal_take : (n : ℕ) (before log : List (Event K)) → IsLegalAfter before log → IsLegalAfter before (take n log)
  legal_take zero before log legal = tt
  legal_take (suc n) before [] legal = tt
  legal_take (suc n) before (event ∷ log) legal = (legal.0, legal_take n (before ++ event ∷ []) log legal.1)

  pub single_of_legal : (log : List (Event K)) → IsLegalLog log → IsSingle log
  single_of_legal log legal = λ n. (known_of_legal (take n log) (legal_take n [] log legal)).single

  -- an end leaves one live claim less
  pub end_leaves_one_less : (log : List (Event K)) (live : List (Claim K)) (number : ℕ) → IsLegalLog log → live ≡ live_claims log → is_live number live ≡ true →
      length (filter (has_other_claim_number number) live) + 1 ≡ length live
  end_leaves_one_less log live number legal is among =
      one_less number live (subst (AllPairs (λ a b. a.number ≡ b.number → ⊥)) (sym is) (known_of_legal log legal).apart) among
