-- Lists of another number of rows than a matrix has.
use Rattle.std.proofs.Common.{◌≡◌, ℕ, ℤ, List, [], ◌∷◌, length, Option, Some, None, refl, sym}
use Rattle.scad_value.specs.declared.value.Value.{Value}
use Rattle.scad_value.specs.Values.{Val, vals_from}
use Rattle.scad_value.specs.View.{vals_in}
use Rattle.scad_modules.specs.Reading.{each_in}
use Rattle.scad_modules.proofs.Lengths.{IsAsLong, as_long}
use Rattle.scad_modules.specs.Transforms.{three_rows_from}

none_of_rows : (m : ℕ) (xs : Option (List (List ℤ))) → IsAsLong m xs → (m ≡ 3 → ⊥) → (m ≡ 4 → ⊥)
    → None ≡ three_rows_from xs
none_of_rows m None a h k = refl
none_of_rows m (Some []) a h k = refl
none_of_rows m (Some (x ∷ [])) a h k = refl
none_of_rows m (Some (x ∷ y ∷ [])) a h k = refl
none_of_rows m (Some (x ∷ y ∷ z ∷ [])) a h k = absurd (h (sym a))
none_of_rows m (Some (x ∷ y ∷ z ∷ w ∷ [])) a h k = absurd (k (sym a))
none_of_rows m (Some (x ∷ y ∷ z ∷ w ∷ v ∷ xs)) a h k = refl

pub no_rows : (read : Val → Option (List ℤ)) (vs : List Value) → (length vs ≡ 3 → ⊥) → (length vs ≡ 4 → ⊥)
    → None ≡ three_rows_from (each_in read (vals_from (vals_in vs)))
no_rows read vs h k = none_of_rows (length vs) _ (as_long read vs) h k
