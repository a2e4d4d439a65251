-- Shares of a memo on which nothing is booked.
use Rattle.std.proofs.Common.{◌≡◌, ℕ, zero, suc, [], ◌∷◌, All, length, length-append, refl, arith}
use Rattle.std.proofs.lemmas.List.Elements.{All-nil, All-push}
use Rattle.subtree_memo.specs.Shares.{ShareView, opened_shares, fresh_share, parts_each}

-- a share of a memo with the parts of one caller and no misses
abbrev pub IsFreshShare : ShareView → Type 0
IsFreshShare s = (s.parts ≡ parts_each) × (s.misses ≡ 0)

pub opened_fresh : (callers : ℕ) → All IsFreshShare (opened_shares callers)
opened_fresh zero = All-nil IsFreshShare
opened_fresh (suc n) = All-push IsFreshShare (opened_shares n) (fresh_share n parts_each) (opened_fresh n) (refl, refl)

pub opened_length : (callers : ℕ) → length (opened_shares callers) ≡ callers
opened_length zero = refl
opened_length (suc n) = let rest = opened_length n in omega (arith, rest, length-append (opened_shares n) (fresh_share n parts_each ∷ []))
