-- Sums over lists.
use Rattle.std.specs.Prelude.{ℤ, pos, ◌+ℤ◌, List, [], ◌∷◌}

-- a sum over a list
abbrev pub sum_over : {A : Type 0} → (A → ℤ) → List A → ℤ
sum_over f [] = pos 0
sum_over f (x ∷ xs) = f x +ℤ sum_over f xs
