-- The linear part of a matrix tells whether the whole is singular.
use Rattle.std.proofs.Common.{◌≡◌, ℤ, pos, Bool, true, false, not, List, [], ◌∷◌, Option, Some, None, refl, sym, ◌∙◌, ap}
use Rattle.std.specs.Prelude.{is_some, IsNone, ◌↔◌}
use Rattle.std.proofs.lemmas.Bool.Decides.{Decides-int_eq}
use Rattle.int_transform.specs.Maps.{affine_of, determinant_of}
use Rattle.scad_modules.specs.Transforms.{component, row_numbered, is_zero}

not_zero : (d : ℤ) → (d ≡ pos 0 → ⊥) → false ≡ is_zero d
not_zero d h = by_test (is_zero d) refl
  where
    by_test : (b : Bool) → is_zero d ≡ b → false ≡ b
    by_test true e = absurd (h ((Decides-int_eq d (pos 0)).0 e))
    by_test false e = refl

by_answer : {A : Type 0} (r : Option A) (b : Bool) (d : ℤ) → is_some r ≡ not b → (IsNone r ↔ (d ≡ pos 0)) → b ≡ is_zero d
by_answer None true d e h = sym (ap is_zero (h.0 refl))
by_answer None false d e h = cc
by_answer (Some x) true d e h = cc
by_answer (Some x) false d e h = not_zero d (λ z. let t : true ≡ false = h.1 z in cc)

abbrev linear_part : List ℤ → List ℤ
linear_part row = component row 0 ∷ component row 1 ∷ component row 2 ∷ pos 0 ∷ []

same_determinant : (rows : List (List ℤ)) (x y z : List ℤ) → x ≡ linear_part (row_numbered rows 0) → y ≡ linear_part (row_numbered rows 1)
    → z ≡ linear_part (row_numbered rows 2) → determinant_of (affine_of (x ∷ y ∷ z ∷ [])) ≡ determinant_of (affine_of rows)
same_determinant rows x y z ex ey ez = rw (ex, ey, ez) refl

pub singular_is : {A : Type 0} (r : Option A) (b : Bool) (rows : List (List ℤ)) (x y z : List ℤ) → is_some r ≡ not b
    → (IsNone r ↔ (determinant_of (affine_of (x ∷ y ∷ z ∷ [])) ≡ pos 0)) → x ≡ linear_part (row_numbered rows 0)
    → y ≡ linear_part (row_numbered rows 1) → z ≡ linear_part (row_numbered rows 2) → b ≡ is_zero (determinant_of (affine_of rows))
singular_is r b rows x y z e h ex ey ez =
    by_answer r b _ e h ∙ ap is_zero (same_determinant rows x y z ex ey ez)
