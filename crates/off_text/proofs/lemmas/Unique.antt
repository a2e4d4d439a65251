-- Polygons have one text.
use Rattle.std.proofs.Common.{◌≡◌, ℕ, zero, suc, ◌*◌, List, [], ◌∷◌, refl, sym, ap, ap₂, ◌∙◌, arith, ℤ, pos, negsuc, ◌*ℤ◌, ◌-ℤ◌, ◌<ℤ◌, unsigned_abs}
use Rattle.std.proofs.lemmas.Int.{unsigned_abs-mul}
use Prim.Native.Nat.{◌∣◌}
use Rattle.plane_predicate.specs.declared.unit.Unit.{Unit as LengthUnit}
use Rattle.plane_predicate.specs.Space.{Coordinates, IsPointTimes, HasNoCommonFactor}
use Rattle.plane_predicate.proofs.lemmas.IntegerRing.{sums}
use Rattle.plane_predicate.proofs.lemmas.Polynomials.{var, times, minus, ring}
use Rattle.plane_predicate.proofs.lemmas.Opposites.{same_point}
use Rattle.plane_predicate.proofs.lemmas.Signs.{zero_cancel}
use Rattle.plane_predicate.proofs.lemmas.Coprime.{same_numbers}
use Rattle.plane_polygon.specs.Polygons.{Outline, AreReducedFrom}
use Rattle.off_text.proofs.lemmas.Factors.{size_above}
use Rattle.off_text.specs.Texts.{corners_in_units, AreCornersOf, IsTextOf, text_of_faces}

abbrev size_at : Coordinates → ℕ → ℕ
size_at p zero = unsigned_abs p.x
size_at p (suc zero) = unsigned_abs p.y
size_at p (suc (suc zero)) = unsigned_abs p.z
size_at p (suc (suc (suc i))) = unsigned_abs p.w

no_factor : (p : Coordinates) → HasNoCommonFactor p → (k : ℕ) → ((i : ℕ) → k ∣ size_at p i) → k ≡ 1
no_factor p h k d = h.reduced k (d 0) (d 1) (d 2) (d 3)

sizes : (u x v y : ℤ) → u *ℤ x ≡ v *ℤ y → unsigned_abs u * unsigned_abs x ≡ unsigned_abs v * unsigned_abs y
sizes u x v y e = let h = ap unsigned_abs e in omega (arith, h, unsigned_abs-mul u x, unsigned_abs-mul v y)

all_sizes : (p q r : Coordinates) (t : IsPointTimes p q) (u : IsPointTimes p r) (i : ℕ) → unsigned_abs t.by * size_at q i ≡ unsigned_abs u.by * size_at r i
all_sizes p q r t u zero = sizes t.by q.x u.by r.x (sym t.x ∙ u.x)
all_sizes p q r t u (suc zero) = sizes t.by q.y u.by r.y (sym t.y ∙ u.y)
all_sizes p q r t u (suc (suc zero)) = sizes t.by q.z u.by r.z (sym t.z ∙ u.z)
all_sizes p q r t u (suc (suc (suc i))) = sizes t.by q.w u.by r.w (sym t.w ∙ u.w)

same_above : (u v : ℤ) → pos 0 <ℤ u → pos 0 <ℤ v → unsigned_abs u ≡ unsigned_abs v → u ≡ v
same_above (pos n) (pos k) h l e = ap pos e
same_above (pos n) (negsuc k) h l e = absurd (omega (arith, sums))
same_above (negsuc n) v h l e = absurd (omega (arith, sums))

dropped : (k x y : ℤ) → pos 0 <ℤ k → k *ℤ x ≡ k *ℤ y → x ≡ y
dropped k x y h e =
    let z = zero_cancel k (x -ℤ y) h (ring (k ∷ x ∷ y ∷ []) (times (var 0) (minus (var 1) (var 2))) (minus (times (var 0) (var 1)) (times (var 0) (var 2))) refl ∙ (let s : k *ℤ x -ℤ k *ℤ y ≡ pos 0 = omega (arith, sums) in s)) in
    omega (arith, sums)

one_number : (a k l x y : ℤ) → pos 0 <ℤ k → k ≡ l → a ≡ k *ℤ x → a ≡ l *ℤ y → x ≡ y
one_number a k l x y h s e f = dropped k x y h (sym e ∙ f ∙ ap (λ (m : ℤ). m *ℤ y) (sym s))

-- a point has one list of numbers without a common factor
pub one_point : (p q r : Coordinates) → IsPointTimes p q → HasNoCommonFactor q → IsPointTimes p r → HasNoCommonFactor r → q ≡ r
one_point p q r t hq u hr =
    let same = same_above t.by u.by t.above u.above
    (same_numbers (size_at r) (size_at q) (no_factor r hr) (no_factor q hq) (unsigned_abs t.by) (unsigned_abs u.by) (size_above t.by t.above) (size_above u.by u.above) (all_sizes p q r t u)) in
    same_point q.x q.y q.z q.w r.x r.y r.z r.w
    (one_number p.x t.by u.by q.x r.x t.above same t.x u.x) (one_number p.y t.by u.by q.y r.y t.above same t.y u.y)
    (one_number p.z t.by u.by q.z r.z t.above same t.z u.z) (one_number p.w t.by u.by q.w r.w t.above same t.w u.w)

one_list : (ps qs rs : List Coordinates) → AreReducedFrom ps qs → AreReducedFrom ps rs → qs ≡ rs
one_list [] [] [] h k = refl
one_list [] [] (r ∷ rs) h k = absurd k
one_list [] (q ∷ qs) rs h k = absurd h
one_list (p ∷ ps) [] rs h k = absurd h
one_list (p ∷ ps) (q ∷ qs) [] h k = absurd k
one_list (p ∷ ps) (q ∷ qs) (r ∷ rs) h k = ap₂ (λ (x : Coordinates) (l : List Coordinates). x ∷ l) (one_point p q r h.0 h.1 k.0 k.1) (one_list ps qs rs h.2 k.2)

pub one_corners : (unit : LengthUnit) (polygons : List Outline) (faces others : List (List Coordinates)) → AreCornersOf unit polygons faces → AreCornersOf unit polygons others → faces ≡ others
one_corners unit [] [] [] h k = refl
one_corners unit [] [] (o ∷ others) h k = absurd k
one_corners unit [] (f ∷ faces) others h k = absurd h
one_corners unit (s ∷ polygons) [] others h k = absurd h
one_corners unit (s ∷ polygons) (f ∷ faces) [] h k = absurd k
one_corners unit (s ∷ polygons) (f ∷ faces) (o ∷ others) h k =
    ap₂ (λ (x : List Coordinates) (l : List (List Coordinates)). x ∷ l) (one_list (corners_in_units unit s) f o h.0 k.0) (one_corners unit polygons faces others h.1 k.1)

pub one_text : (unit : LengthUnit) (polygons : List Outline) (bytes others : List ℕ) → IsTextOf unit polygons bytes → IsTextOf unit polygons others → bytes ≡ others
one_text unit polygons bytes others h k = h.spelled ∙ ap text_of_faces (one_corners unit polygons h.faces k.faces h.corners k.corners) ∙ sym k.spelled
