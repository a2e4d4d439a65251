-- The order of corners is a strict one, in which two corners are one or one comes before the other.
use Rattle.std.proofs.Common.{◌≡◌, Bool, true, false, ◌&&◌, ◌||◌, refl, arith, ℤ, int_lt}
use Rattle.std.specs.Ordering.{int_eq}
use Rattle.std.proofs.lemmas.Int.{ints}
use Rattle.std.proofs.lemmas.Bool.{false≢true}
use Rattle.plane_predicate.specs.Space.{Coordinates}
use Rattle.off_text.specs.Texts.{comes_before}

-- one number, then the rest
abbrev first : ℤ → ℤ → Bool → Bool
first x y rest = int_lt x y || int_eq x y && rest

first-itself : (x : ℤ) (r : Bool) → r ≡ false → first x x r ≡ false
first-itself x r h = grind (arith, ints, h)

first-chain : (x y z : ℤ) (r s t : Bool) → (r ≡ true → s ≡ true → t ≡ true) → first x y r ≡ true → first y z s ≡ true → first x z t ≡ true
first-chain x y z r s true h e f = grind (arith, ints, e, f)
first-chain x y z r false false h e f = grind (arith, ints, e, f)
first-chain x y z false true false h e f = grind (arith, ints, e, f)
first-chain x y z true true false h e f = absurd (false≢true (h refl refl))

first-before : (x y z : ℤ) (r s t : Bool) → (r ≡ true → s ≡ false → t ≡ true) → first x y r ≡ true → first z y s ≡ false → first x z t ≡ true
first-before x y z r s true h e f = grind (arith, ints, e, f)
first-before x y z r true false h e f = grind (arith, ints, e, f)
first-before x y z false false false h e f = grind (arith, ints, e, f)
first-before x y z true false false h e f = absurd (false≢true (h refl refl))

pub before-itself : (p : Coordinates) → comes_before p p ≡ false
before-itself p = first-itself p.x _ (first-itself p.y _ (first-itself p.z _ (last-itself p.w)))
  where
    last-itself : (x : ℤ) → int_lt x x ≡ false
    last-itself x = grind (arith, ints)

last-chain : (x y z : ℤ) → int_lt x y ≡ true → int_lt y z ≡ true → int_lt x z ≡ true
last-chain x y z e f = grind (arith, ints, e, f)

pub before-chain : (p q r : Coordinates) → comes_before p q ≡ true → comes_before q r ≡ true → comes_before p r ≡ true
before-chain p q r =
    first-chain p.x q.x r.x _ _ _ (first-chain p.y q.y r.y _ _ _ (first-chain p.z q.z r.z _ _ _ (last-chain p.w q.w r.w)))

last-before : (x y z : ℤ) → int_lt x y ≡ true → int_lt z y ≡ false → int_lt x z ≡ true
last-before x y z e f = grind (arith, ints, e, f)

-- what comes before q comes before all that does not come before q
pub before-others : (p q r : Coordinates) → comes_before p q ≡ true → comes_before r q ≡ false → comes_before p r ≡ true
before-others p q r =
    first-before p.x q.x r.x _ _ _ (first-before p.y q.y r.y _ _ _ (first-before p.z q.z r.z _ _ _ (last-before p.w q.w r.w)))
