-- Sums over lists, and how often an item stands in one.
use Rattle.std.specs.Prelude.{ℕ, ◌+◌, Bool, cond, List, [], ◌∷◌}

-- how often an item stands in a list, by a test of sameness
abbrev pub times_in : {A : Type 0} → (A → A → Bool) → List A → A → ℕ
times_in e [] x = 0
times_in e (y ∷ ys) x = cond (e y x) 1 0 + times_in e ys x
