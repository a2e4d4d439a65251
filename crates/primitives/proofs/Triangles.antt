-- Corners of a face that are all on one line with the first of them.
use Rattle.std.proofs.Common.{◌≡◌, ℕ, List, [], ◌∷◌, get_or, refl, subst, sym, arith, ℤ, pos, ◌-ℤ◌, All, Option, Some, None}
use Rattle.std.specs.Option.{IsSome, IsNone}
use Rattle.plane_predicate.specs.Space.{Coefficients, Coordinates, minor, plane_of_points, AreCollinear}
use Rattle.plane_predicate.proofs.lemmas.IntegerRing.{sums}
use Rattle.plane_predicate.proofs.lemmas.Polynomials.{var, minus, ring}
use Rattle.plane_predicate.proofs.lemmas.Vectors.{minorP}
use Rattle.primitives.specs.Shapes.{mesh_point, HasTriangle}
use Rattle.primitives.specs.Spanning.{HasNoDirection}

-- one part of a cross product, from any fourth point
part_from : (x y p q s t u v : ℤ) → minor (s -ℤ p) (t -ℤ q) (u -ℤ p) (v -ℤ q) ≡ minor (s -ℤ x) (t -ℤ y) (u -ℤ x) (v -ℤ y) -ℤ minor (s -ℤ x) (t -ℤ y) (p -ℤ x) (q -ℤ y) -ℤ minor (p -ℤ x) (q -ℤ y) (u -ℤ x) (v -ℤ y)
part_from x y p q s t u v =
    let X = var 0 in let Y = var 1 in let P = var 2 in let Q = var 3 in let S = var 4 in let T = var 5 in let U = var 6 in let V = var 7 in
    ring (x ∷ y ∷ p ∷ q ∷ s ∷ t ∷ u ∷ v ∷ [])
    (minorP (minus S P) (minus T Q) (minus U P) (minus V Q))
    (minus (minus (minorP (minus S X) (minus T Y) (minus U X) (minus V Y)) (minorP (minus S X) (minus T Y) (minus P X) (minus Q Y))) (minorP (minus P X) (minus Q Y) (minus U X) (minus V Y)))
    refl

no_parts : (r a b c : ℤ) → r ≡ a -ℤ b -ℤ c → a ≡ pos 0 → b ≡ pos 0 → c ≡ pos 0 → r ≡ pos 0
no_parts r a b c e ha hb hc = omega (arith, sums, e, ha, hb, hc)

-- three points are on one line where each two are with a fourth
collinear_from : (o p q r : Coordinates) → AreCollinear o q r → AreCollinear o q p → AreCollinear o p r → AreCollinear p q r
collinear_from o p q r h g k = record {
  a = no_parts _ _ _ _ (part_from o.y o.z p.y p.z q.y q.z r.y r.z) h.a g.a k.a;
  b = no_parts _ _ _ _ (part_from o.z o.x p.z p.x q.z q.x r.z r.x) h.b g.b k.b;
  c = no_parts _ _ _ _ (part_from o.x o.y p.x p.y q.x q.y r.x r.y) h.c g.c k.c;
}

-- a face with a triangle has one with any corner of space
pub no_lines : (points : List (List ℤ)) (face : List ℕ) (first : ℕ) → HasTriangle points face → All (λ (j : ℕ). All (λ (k : ℕ). AreCollinear (mesh_point points first) (mesh_point points j) (mesh_point points k)) face) face → ⊥
no_lines points face first t h =
    t.apart (collinear_from (mesh_point points first) (mesh_point points (get_or face t.first 0)) (mesh_point points (get_or face t.second 0)) (mesh_point points (get_or face t.third 0))
    (h t.second 0 t.second_in t.third 0 t.third_in) (h t.second 0 t.second_in t.first 0 t.first_in) (h t.first 0 t.first_in t.third 0 t.third_in))

pub some_found : {A : Type 0} (o : Option A) → (IsNone o → ⊥) → IsSome o
some_found None h = absurd (h refl)
some_found (Some x) h = refl

pub collinear_by : (m : Coefficients) (p q r : Coordinates) → m ≡ plane_of_points p q r → HasNoDirection m → AreCollinear p q r
collinear_by m p q r e h =
    let n : HasNoDirection (plane_of_points p q r) = subst HasNoDirection e h in
    record { a = n.a; b = n.b; c = n.c }

pub apart_by : (m : Coefficients) (p q r : Coordinates) → m ≡ plane_of_points p q r → (HasNoDirection m → ⊥) → AreCollinear p q r → ⊥
apart_by m p q r e h l = h (subst HasNoDirection (sym e) (record { a = l.a; b = l.b; c = l.c }))
