-- In each unit polygons have reduced corners.
use Rattle.std.proofs.Common.{◌≡◌, ℕ, zero, suc, ◌/◌, ◌<◌, List, [], ◌∷◌, ◌++◌, map, sym, subst, arith, add-one, All, ℤ, pos, negsuc, ◌*ℤ◌, ◌<ℤ◌, neg_ℤ, unsigned_abs}
use Rattle.std.specs.Int.{IsGcd}
use Rattle.std.proofs.lemmas.Simd.{map-map}
use Rattle.std.proofs.lemmas.List.Elements.{All-head, All-tail}
use Prim.Native.Nat.{◌∣◌}
use Rattle.plane_predicate.specs.declared.unit.Unit.{Unit as LengthUnit}
use Rattle.plane_predicate.specs.Space.{Coordinates, IsCommonFactor, IsPointTimes, HasNoCommonFactor}
use Rattle.plane_predicate.specs.InUnits.{in_units}
use Rattle.plane_predicate.specs.Units.{grid_steps_per_unit}
use Rattle.plane_predicate.proofs.lemmas.InUnits.{steps_above}
use Rattle.plane_predicate.proofs.lemmas.IntegerRing.{sums}
use Rattle.plane_predicate.proofs.lemmas.Signs.{pos_pos}
use Rattle.plane_predicate.proofs.lemmas.Coprime.{euclid}
use Rattle.plane_predicate.proofs.lemmas.Divisions.{common_of, quotient, quotient_negative, quotients_of, reduced_is_same}
use Rattle.plane_polygon.specs.Polygons.{Outline, edge_count, corner, IsPolygon, AreReducedFrom}
use Rattle.plane_predicate.specs.Indices.{indices_below}
use Rattle.plane_polygon.proofs.lemmas.CornerSides.{reduced_step}
use Rattle.off_text.specs.Texts.{corners_in_units, AreCornersOf}
use Rattle.off_text.proofs.lemmas.Factors.{size_above}

-- two numbers have a greatest common divisor, and so have four
two_factor : (a b : ℕ) → (g : ℕ) × IsGcd a b g
two_factor a b = let r = euclid (λ n. Unit {0}) (λ m n p q. tt) (suc b) a b (omega arith) tt tt in (r.0, r.2)

four_factor : (x y z w : ℕ) → (g : ℕ) × IsCommonFactor x y z w g
four_factor x y z w =
    let front = two_factor x y in
    let back = two_factor z w in
    let all = two_factor front.0 back.0 in
    (all.0, common_of x y z w front.0 back.0 all.0 front.1 back.1 all.1)

-- a number is a multiple of what divides its size
divided : (x : ℤ) (by : ℕ) → by ∣ unsigned_abs x → (q : ℤ) × (x ≡ pos by *ℤ q)
divided (pos n) by d = (pos (n / by), quotient (pos n) by d (omega (arith, sums)))
divided (negsuc n) by d = (neg_ℤ (pos (suc n / by)), quotient_negative (negsuc n) by d (omega (arith, sums)))

-- a point has numbers without a common factor, and so has each of n points
some_reduced : (p : Coordinates) → pos 0 <ℤ p.w → (q : Coordinates) × IsPointTimes p q × HasNoCommonFactor q
some_reduced p weight =
    let by = four_factor (unsigned_abs p.x) (unsigned_abs p.y) (unsigned_abs p.z) (unsigned_abs p.w) in
    let x = divided p.x by.0 by.1.divides_x in
    let y = divided p.y by.0 by.1.divides_y in
    let z = divided p.z by.0 by.1.divides_z in
    let w = divided p.w by.0 by.1.divides_w in
    let q : Coordinates = record { x = x.0; y = y.0; z = z.0; w = w.0 } in
    let quotients = quotients_of p.x p.y p.z p.w x.0 y.0 z.0 w.0 by.0 (omega (arith, size_above p.w weight)) by.1 x.1 y.1 z.1 w.1 in
    (q, reduced_is_same p q quotients, record { reduced = quotients.no_factor })

all_reduced : (f : ℕ → Coordinates) (n : ℕ) → ((i : ℕ) → i < n → pos 0 <ℤ (f i).w) → (qs : List Coordinates) × AreReducedFrom (map f (indices_below n)) qs
all_reduced f zero weight = ([], tt)
all_reduced f (suc n) weight =
    let before = all_reduced f n (λ i l. weight i (omega arith)) in
    let q = some_reduced (f n) (weight n (omega arith)) in
    let qs = before.0 ++ q.0 ∷ [] in
    (qs, subst (λ (k : ℕ). AreReducedFrom (map f (indices_below k)) qs) (add-one n) (reduced_step f n before.0 q.0 before.1 q.1 q.2))

-- so have the corners of a polygon in units, and those of each of some polygons
polygon_corners : (unit : LengthUnit) (s : Outline) → IsPolygon s → (found : List Coordinates) × AreReducedFrom (corners_in_units unit s) found
polygon_corners unit s polygon =
    let point = λ (i : ℕ). in_units unit (corner s i) in
    let all = all_reduced point (edge_count s) (λ i l. pos_pos (grid_steps_per_unit unit) (corner s i).w (steps_above unit) (polygon.turns_left i l)) in
    (all.0, subst (λ (ps : List Coordinates). AreReducedFrom ps all.0) (sym (map-map (in_units unit) (corner s) (indices_below (edge_count s)))) all.1)

pub some_corners : (unit : LengthUnit) (polygons : List Outline) → All IsPolygon polygons → (faces : List (List Coordinates)) × AreCornersOf unit polygons faces
some_corners unit [] h = ([], tt)
some_corners unit (s ∷ polygons) h =
    let first = polygon_corners unit s (All-head IsPolygon s polygons h) in
    let rest = some_corners unit polygons (All-tail IsPolygon s polygons h) in
    (first.0 ∷ rest.0, (first.1, rest.1))
