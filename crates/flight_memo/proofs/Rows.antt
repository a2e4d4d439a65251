-- Logs by hand: two callers, and one key or two.
use Rattle.std.proofs.Common.{◌≡◌, ℕ, true, false, List, [], ◌∷◌, refl, arith}
use Rattle.std.proofs.lemmas.List.Elements.{All-nil, All-push}
use Rattle.flight_memo.specs.Claims.{Claim, Event, ClaimsView, Begun, Ended, IsLegalLog, AreClosedClaims, live_claims, begin_count, end_count}
use Rattle.flight_memo.proofs.Legal.{single_of_legal}

-- the claim of a number, of the one key
abbrev claim : ℕ → ℕ → Claim ℕ
claim number caller = record { number = number; caller = caller; key = 7 }

-- the first caller's claim is live until it ends
begun_is_live : live_claims (Begun (claim 0 0) ∷ []) ≡ claim 0 0 ∷ []
begun_is_live = refl

-- the first caller claims the key and finishes, and the second one finds the value
abbrev finished : List (Event ℕ)
finished = Begun (claim 0 0) ∷ Ended 0 true ∷ []

finished_is_legal : IsLegalLog finished
finished_is_legal = ((refl, All-nil _), (refl, tt))

-- what claims with no live one say, with a log
abbrev ended_all : List (Event ℕ) → ClaimsView ℕ
ended_all log = record { live = []; log = log; places = 0; spare = 0 }

finished_is_closed : AreClosedClaims 1 (ended_all finished)
finished_is_closed = record {
  legal = finished_is_legal;
  single = single_of_legal finished finished_is_legal;
  begun = refl;
  ended = refl;
  live = refl;
  none_live = refl;
}

-- the first caller gives the claim back, and then the second one claims the key and gives it back
abbrev given_back : List (Event ℕ)
given_back = Begun (claim 0 0) ∷ Ended 0 false ∷ Begun (claim 1 1) ∷ Ended 1 false ∷ []

given_back_is_legal : IsLegalLog given_back
given_back_is_legal = ((refl, All-nil _), (refl, ((refl, All-nil _), (refl, tt))))

given_back_is_closed : AreClosedClaims 2 (ended_all given_back)
given_back_is_closed = record {
  legal = given_back_is_legal;
  single = single_of_legal given_back given_back_is_legal;
  begun = refl;
  ended = refl;
  live = refl;
  none_live = refl;
}

-- a log that has fewer beginnings than there were misses is not that of a closed memo
misses_more : AreClosedClaims 2 (ended_all finished) → ⊥
misses_more closed = absurd (omega (arith, closed.begun))

-- a log that lacks an end is not, and nor are claims of which one is live
ends_less : AreClosedClaims 1 (ended_all (Begun (claim 0 0) ∷ [])) → ⊥
ends_less closed = absurd (omega (arith, closed.ended))

one_is_left : AreClosedClaims 1 (record { live = claim 0 0 ∷ []; log = finished; places = 0; spare = 0 }) → ⊥
one_is_left closed = absurd (cc closed.live)

-- the second caller's claim of another key
abbrev other : Claim ℕ
other = record { number = 1; caller = 1; key = 8 }

-- keys that differ are claimed side by side, and both are live until one ends
two_keys_are_legal : IsLegalLog (Begun (claim 0 0) ∷ Begun other ∷ Ended 1 true ∷ Ended 0 true ∷ [])
two_keys_are_legal = ((refl, All-nil _), ((refl, All-push (λ (c : Claim ℕ). c.key ≡ 8 → ⊥) [] (claim 0 0) (All-nil _) (λ e. absurd (omega (arith, e)))), (refl, (refl, tt))))

two_are_live : live_claims (Begun (claim 0 0) ∷ Begun other ∷ []) ≡ claim 0 0 ∷ other ∷ []
two_are_live = refl

first_stays : live_claims (Begun (claim 0 0) ∷ Begun other ∷ Ended 1 true ∷ []) ≡ claim 0 0 ∷ []
first_stays = refl

-- a key that is claimed can't be claimed once more
claimed_twice : IsLegalLog (Begun (claim 0 0) ∷ Begun (claim 1 1) ∷ []) → ⊥
claimed_twice (first, ((number, free), end)) = free 0 (claim 0 0) (omega arith) refl

-- a claim can't end twice, nor one that has not begun
ended_twice : IsLegalLog (Begun (claim 0 0) ∷ Ended 0 true ∷ Ended 0 false ∷ []) → ⊥
ended_twice (first, (once, (twice, end))) = absurd (cc twice)

ended_unbegun : IsLegalLog (Begun (claim 0 0) ∷ Ended 1 true ∷ []) → ⊥
ended_unbegun (first, (other, end)) = absurd (cc other)

-- numbers are given in order, each once
numbered_twice : IsLegalLog (Begun (claim 0 0) ∷ Begun (record { number = 0; caller = 1; key = 8 }) ∷ []) → ⊥
numbered_twice (first, ((number, free), end)) = absurd (omega (arith, number))

numbered_late : IsLegalLog (Begun (claim 1 0) ∷ []) → ⊥
numbered_late ((number, free), end) = absurd (omega (arith, number))
