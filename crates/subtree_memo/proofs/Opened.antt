-- The shares of one caller more.
use Rattle.std.proofs.Common.{◌≡◌, ℕ, ◌+◌, [], ◌∷◌, ◌++◌, refl, add-one}
use Rattle.subtree_memo.specs.Shares.{opened_shares, fresh_share, parts_each}

pub opened_more : (n : ℕ) → opened_shares (n + 1) ≡ opened_shares n ++ fresh_share n parts_each ∷ []
opened_more n = rw add-one refl
