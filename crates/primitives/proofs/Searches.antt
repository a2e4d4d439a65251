-- Searches through lists.
use Rattle.std.specs.Bool.{OnTrue, OnFalse}
use Rattle.std.proofs.Common.{ℕ, Bool, true, false, List, subst, All, Any, arith, ℤ, pos, ◌<ℤ◌, ◌≤ℤ◌}
use Rattle.plane_predicate.proofs.lemmas.IntegerRing.{sums}

pub above_most : (x : ℤ) → pos 0 <ℤ x → x ≤ℤ pos 0 → ⊥
above_most x h k = omega (arith, sums, h, k)

-- some item has what all items rule out
pub some_and_none : {X : Type 0} (P Q : X → Type 0) → ((x : X) → P x → Q x → ⊥) → (xs : List X) → Any P xs → All Q xs → ⊥
some_and_none P Q f xs a h = f a.1 a.4 (subst Q a.3 (h a.0 a.1 a.2))

pub some_above : (f : ℕ → ℤ) (faces : List (List ℕ)) → Any (λ (g : List ℕ). Any (λ (i : ℕ). pos 0 <ℤ f i) g) faces → All (λ (g : List ℕ). All (λ (i : ℕ). f i ≤ℤ pos 0) g) faces → ⊥
some_above f faces =
    some_and_none (λ (g : List ℕ). Any (λ (i : ℕ). pos 0 <ℤ f i) g) (λ (g : List ℕ). All (λ (i : ℕ). f i ≤ℤ pos 0) g)
    (λ g a h. some_and_none (λ (i : ℕ). pos 0 <ℤ f i) (λ (i : ℕ). f i ≤ℤ pos 0) (λ i. above_most (f i)) g a h) faces

-- what a test says
pub on_true : {P Q : Type 0} (b : Bool) → (P → Q) → OnTrue b P → OnTrue b Q
on_true true f h = f h
on_true false f h = h

pub on_false : {P Q : Type 0} (b : Bool) → (P → Q) → OnFalse b P → OnFalse b Q
on_false true f h = h
on_false false f h = f h
