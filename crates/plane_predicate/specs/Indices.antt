-- Indices of a list, from 0 on, and round it.
use Rattle.std.specs.Prelude.{ℕ, zero, suc, cond, eqb, List, [], ◌∷◌, ◌++◌}

-- 0, 1, .. below n
abbrev pub indices_below : ℕ → List ℕ
indices_below zero = []
indices_below (suc n) = indices_below n ++ n ∷ []

-- the index that follows i round a list of length k
abbrev pub index_after : ℕ → ℕ → ℕ
index_after k i = cond (eqb (suc i) k) 0 (suc i)
