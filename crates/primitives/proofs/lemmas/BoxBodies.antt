-- A box of sides above 0 is a shape.
use Rattle.std.proofs.Common.{◌≡◌, ℕ, ◌<◌, ◌≤◌, Bool, List, [], ◌∷◌, get_or, length, ap, ◌∙◌, refl, arith, ℤ, pos, negsuc, ◌-ℤ◌, ◌<ℤ◌, ◌≤ℤ◌, All}
use Rattle.std.proofs.lemmas.List.Elements.{All-from_recursion}
use Rattle.plane_predicate.specs.declared.unit.Unit.{Unit as LengthUnit}
use Rattle.plane_predicate.specs.Space.{Coefficients, Coordinates, point_at, value, minor}
use Rattle.plane_predicate.proofs.lemmas.IntegerRing.{sums}
use Rattle.plane_predicate.proofs.lemmas.Polynomials.{Poly, var, num, times, minus, ring}
use Rattle.plane_predicate.proofs.lemmas.Signs.{pos_pos}
use Rattle.plane_predicate.proofs.lemmas.Vectors.{Form, valueP, minorP}
use Rattle.int_transform.specs.Maps.{HasSafeCoordinates}
use Rattle.primitives.specs.Shapes.{mesh_point, value_at_point, IsFaceOfShape, IsShape}
use Rattle.primitives.proofs.lemmas.Moves.{whole, wholeP}
use Rattle.primitives.specs.Boxes.{box_of, box_points, box_faces, cube_of}
use Rattle.primitives.specs.Sizes.{AreSizes}
use Rattle.primitives.proofs.lemmas.Bodies.{IsOutside, outside_is_face}
use Rattle.primitives.proofs.lemmas.EndFaces.{ends_of_side}

-- ---- the planes of a box
abbrev plane : ℤ → ℤ → ℤ → ℤ → Coefficients
plane a b c d = record { a = a; b = b; c = c; d = d }

abbrev planeP : ℤ → ℤ → ℤ → Poly → Form
planeP a b c d = record { a = num a; b = num b; c = num c; d = d }

low_x : (a x y z : ℤ) → value (plane (negsuc 0) (pos 0) (pos 0) (pos 0 -ℤ a)) (whole x y z) ≡ a -ℤ x
low_x a x y z = ring (x ∷ y ∷ z ∷ a ∷ []) (valueP (planeP (negsuc 0) (pos 0) (pos 0) (minus (num (pos 0)) (var 3))) (wholeP 0)) (minus (var 3) (var 0)) refl

high_x : (a x y z : ℤ) → value (plane (pos 1) (pos 0) (pos 0) a) (whole x y z) ≡ x -ℤ a
high_x a x y z = ring (x ∷ y ∷ z ∷ a ∷ []) (valueP (planeP (pos 1) (pos 0) (pos 0) (var 3)) (wholeP 0)) (minus (var 0) (var 3)) refl

low_y : (a x y z : ℤ) → value (plane (pos 0) (negsuc 0) (pos 0) (pos 0 -ℤ a)) (whole x y z) ≡ a -ℤ y
low_y a x y z = ring (x ∷ y ∷ z ∷ a ∷ []) (valueP (planeP (pos 0) (negsuc 0) (pos 0) (minus (num (pos 0)) (var 3))) (wholeP 0)) (minus (var 3) (var 1)) refl

high_y : (a x y z : ℤ) → value (plane (pos 0) (pos 1) (pos 0) a) (whole x y z) ≡ y -ℤ a
high_y a x y z = ring (x ∷ y ∷ z ∷ a ∷ []) (valueP (planeP (pos 0) (pos 1) (pos 0) (var 3)) (wholeP 0)) (minus (var 1) (var 3)) refl

pub low_z : (a x y z : ℤ) → value (plane (pos 0) (pos 0) (negsuc 0) (pos 0 -ℤ a)) (whole x y z) ≡ a -ℤ z
low_z a x y z = ring (x ∷ y ∷ z ∷ a ∷ []) (valueP (planeP (pos 0) (pos 0) (negsuc 0) (minus (num (pos 0)) (var 3))) (wholeP 0)) (minus (var 3) (var 2)) refl

pub high_z : (a x y z : ℤ) → value (plane (pos 0) (pos 0) (pos 1) a) (whole x y z) ≡ z -ℤ a
high_z a x y z = ring (x ∷ y ∷ z ∷ a ∷ []) (valueP (planeP (pos 0) (pos 0) (pos 1) (var 3)) (wholeP 0)) (minus (var 2) (var 3)) refl

-- ---- signs
pub same_on : (v a : ℤ) → v ≡ a -ℤ a → v ≡ pos 0
same_on v a e = omega (arith, sums, e)

pub most_within : (v a b : ℤ) → v ≡ a -ℤ b → a ≤ℤ b → v ≤ℤ pos 0
most_within v a b e h = omega (arith, sums, e, h)

pub less_behind : (v a b : ℤ) → v ≡ a -ℤ b → a <ℤ b → v <ℤ pos 0
less_behind v a b e h = omega (arith, sums, e, h)

-- p, q and r with a right angle at q
right_angle : (a b c d : ℤ) → a <ℤ b → c <ℤ d → minor (b -ℤ a) (c -ℤ c) (b -ℤ a) (d -ℤ c) ≡ pos 0 → ⊥
right_angle a b c d h g e =
    let product = ring (a ∷ b ∷ c ∷ d ∷ []) (minorP (minus (var 1) (var 0)) (minus (var 2) (var 2)) (minus (var 1) (var 0)) (minus (var 3) (var 2))) (times (minus (var 1) (var 0)) (minus (var 3) (var 2))) refl in
    let first : pos 0 <ℤ (b -ℤ a) = omega (arith, sums, h) in
    let second : pos 0 <ℤ (d -ℤ c) = omega (arith, sums, g) in
    omega (arith, sums, product, e, pos_pos (b -ℤ a) (d -ℤ c) first second)

-- ---- the corners
-- a number from a to b
abbrev IsBetween : ℤ → ℤ → ℤ → Type 0
IsBetween a b x = (a ≤ℤ x) × (x ≤ℤ b)

at_low : (a b : ℤ) → a <ℤ b → IsBetween a b a
at_low a b h = (omega (arith, sums), omega (arith, sums, h))

at_high : (a b : ℤ) → a <ℤ b → IsBetween a b b
at_high a b h = (omega (arith, sums, h), omega (arith, sums))

pub record IsCorner (a b c d e f : ℤ) (p : Coordinates) : Type 0 where
  pub x : ℤ
  pub y : ℤ
  pub z : ℤ
  pub is : p ≡ whole x y z
  pub x_in : (a ≤ℤ x) × (x ≤ℤ b)
  pub y_in : (c ≤ℤ y) × (y ≤ℤ d)
  pub z_in : (e ≤ℤ z) × (z ≤ℤ f)

box_corners : (a b c d e f : ℤ) → a <ℤ b → c <ℤ d → e <ℤ f → All (λ (p : List ℤ). IsCorner a b c d e f (point_at p)) (box_points a b c d e f)
box_corners a b c d e f hx hy hz =
    let xl = at_low a b hx in let xh = at_high a b hx in let yl = at_low c d hy in let yh = at_high c d hy in let zl = at_low e f hz in let zh = at_high e f hz in
    All-from_recursion (λ (p : List ℤ). IsCorner a b c d e f (point_at p)) (box_points a b c d e f) (
      record { x = a; y = c; z = e; is = refl; x_in = xl; y_in = yl; z_in = zl },
      (
        record { x = b; y = c; z = e; is = refl; x_in = xh; y_in = yl; z_in = zl },
        (
          record { x = a; y = d; z = e; is = refl; x_in = xl; y_in = yh; z_in = zl },
          (
            record { x = b; y = d; z = e; is = refl; x_in = xh; y_in = yh; z_in = zl },
            (
              record { x = a; y = c; z = f; is = refl; x_in = xl; y_in = yl; z_in = zh },
              (
                record { x = b; y = c; z = f; is = refl; x_in = xh; y_in = yl; z_in = zh },
                (
                  record { x = a; y = d; z = f; is = refl; x_in = xl; y_in = yh; z_in = zh },
                  (
                    record { x = b; y = d; z = f; is = refl; x_in = xh; y_in = yh; z_in = zh },
                    tt,
                  ),
                ),
              ),
            ),
          ),
        ),
      ),
    )

-- the corners of the faces are there
box_there : All (λ (g : List ℕ). All (λ (i : ℕ). i < 8) g) box_faces
box_there =
    let P : ℕ → Type 0 = λ i. i < 8 in
    All-from_recursion (λ (g : List ℕ). All P g) box_faces (
      All-from_recursion P (0 ∷ 2 ∷ 6 ∷ 4 ∷ []) (omega arith, (omega arith, (omega arith, (omega arith, tt)))),
      (
        All-from_recursion P (1 ∷ 3 ∷ 7 ∷ 5 ∷ []) (omega arith, (omega arith, (omega arith, (omega arith, tt)))),
        (
          All-from_recursion P (0 ∷ 4 ∷ 5 ∷ 1 ∷ []) (omega arith, (omega arith, (omega arith, (omega arith, tt)))),
          (
            All-from_recursion P (2 ∷ 6 ∷ 7 ∷ 3 ∷ []) (omega arith, (omega arith, (omega arith, (omega arith, tt)))),
            (
              All-from_recursion P (0 ∷ 1 ∷ 3 ∷ 2 ∷ []) (omega arith, (omega arith, (omega arith, (omega arith, tt)))),
              (
                All-from_recursion P (4 ∷ 5 ∷ 7 ∷ 6 ∷ []) (omega arith, (omega arith, (omega arith, (omega arith, tt)))),
                tt,
              ),
            ),
          ),
        ),
      ),
    )

on_face : (a b c d e f : ℤ) (m : Coefficients) (i j k l : ℕ) → value_at_point (box_points a b c d e f) m i ≡ pos 0 → value_at_point (box_points a b c d e f) m j ≡ pos 0 → value_at_point (box_points a b c d e f) m k ≡ pos 0 → value_at_point (box_points a b c d e f) m l ≡ pos 0 →
    All (λ (n : ℕ). value_at_point (box_points a b c d e f) m n ≡ pos 0) (i ∷ j ∷ k ∷ l ∷ [])
on_face a b c d e f m i j k l hi hj hk hl = All-from_recursion (λ (n : ℕ). value_at_point (box_points a b c d e f) m n ≡ pos 0) (i ∷ j ∷ k ∷ l ∷ []) (hi, (hj, (hk, (hl, tt))))

-- ---- the six faces
box_side : (a b c d e f : ℤ) → a <ℤ b → c <ℤ d → e <ℤ f → (face : List ℕ) → IsOutside (box_of a b c d e f) face → IsFaceOfShape (box_of a b c d e f) face
box_side a b c d e f hx hy hz face h = outside_is_face (box_of a b c d e f) box_there face h

at_corner : (a b c d e f : ℤ) → a <ℤ b → c <ℤ d → e <ℤ f → (i : ℕ) → i < 8 → IsCorner a b c d e f (mesh_point (box_points a b c d e f) i)
at_corner a b c d e f hx hy hz i lt = box_corners a b c d e f hx hy hz i [] lt

side_low_x : (a b c d e f : ℤ) → a <ℤ b → c <ℤ d → e <ℤ f → IsOutside (box_of a b c d e f) (0 ∷ 2 ∷ 6 ∷ 4 ∷ [])
side_low_x a b c d e f hx hy hz =
    let m = plane (negsuc 0) (pos 0) (pos 0) (pos 0 -ℤ a) in
    record {
      there = All-from_recursion (λ (i : ℕ). i < 8) (0 ∷ 2 ∷ 6 ∷ 4 ∷ []) (omega arith, (omega arith, (omega arith, (omega arith, tt))));
      triangle = record { first = 0; second = 1; third = 2; first_in = omega arith; second_in = omega arith; third_in = omega arith; apart = λ k. right_angle c d e f hy hz k.a };
      plane = m;
      directed = omega arith;
      on = on_face a b c d e f m 0 2 6 4 (same_on _ a (low_x a a c e)) (same_on _ a (low_x a a d e)) (same_on _ a (low_x a a d f)) (same_on _ a (low_x a a c f));
      within = λ i lt. (let p = at_corner a b c d e f hx hy hz i lt in most_within _ a p.x (ap (value m) p.is ∙ low_x a p.x p.y p.z) p.x_in.0);
      far = record { at_face = 1; at = 0; at_face_in = omega arith; at_in = omega arith; behind = less_behind _ a b (low_x a b c e) hx };
    }

side_high_x : (a b c d e f : ℤ) → a <ℤ b → c <ℤ d → e <ℤ f → IsOutside (box_of a b c d e f) (1 ∷ 3 ∷ 7 ∷ 5 ∷ [])
side_high_x a b c d e f hx hy hz =
    let m = plane (pos 1) (pos 0) (pos 0) b in
    record {
      there = All-from_recursion (λ (i : ℕ). i < 8) (1 ∷ 3 ∷ 7 ∷ 5 ∷ []) (omega arith, (omega arith, (omega arith, (omega arith, tt))));
      triangle = record { first = 0; second = 1; third = 2; first_in = omega arith; second_in = omega arith; third_in = omega arith; apart = λ k. right_angle c d e f hy hz k.a };
      plane = m;
      directed = omega arith;
      on = on_face a b c d e f m 1 3 7 5 (same_on _ b (high_x b b c e)) (same_on _ b (high_x b b d e)) (same_on _ b (high_x b b d f)) (same_on _ b (high_x b b c f));
      within = λ i lt. (let p = at_corner a b c d e f hx hy hz i lt in most_within _ p.x b (ap (value m) p.is ∙ high_x b p.x p.y p.z) p.x_in.1);
      far = record { at_face = 0; at = 0; at_face_in = omega arith; at_in = omega arith; behind = less_behind _ a b (high_x b a c e) hx };
    }

side_low_y : (a b c d e f : ℤ) → a <ℤ b → c <ℤ d → e <ℤ f → IsOutside (box_of a b c d e f) (0 ∷ 4 ∷ 5 ∷ 1 ∷ [])
side_low_y a b c d e f hx hy hz =
    let m = plane (pos 0) (negsuc 0) (pos 0) (pos 0 -ℤ c) in
    record {
      there = All-from_recursion (λ (i : ℕ). i < 8) (0 ∷ 4 ∷ 5 ∷ 1 ∷ []) (omega arith, (omega arith, (omega arith, (omega arith, tt))));
      triangle = record { first = 0; second = 1; third = 2; first_in = omega arith; second_in = omega arith; third_in = omega arith; apart = λ k. right_angle e f a b hz hx k.b };
      plane = m;
      directed = omega arith;
      on = on_face a b c d e f m 0 4 5 1 (same_on _ c (low_y c a c e)) (same_on _ c (low_y c a c f)) (same_on _ c (low_y c b c f)) (same_on _ c (low_y c b c e));
      within = λ i lt. (let p = at_corner a b c d e f hx hy hz i lt in most_within _ c p.y (ap (value m) p.is ∙ low_y c p.x p.y p.z) p.y_in.0);
      far = record { at_face = 3; at = 0; at_face_in = omega arith; at_in = omega arith; behind = less_behind _ c d (low_y c a d e) hy };
    }

side_high_y : (a b c d e f : ℤ) → a <ℤ b → c <ℤ d → e <ℤ f → IsOutside (box_of a b c d e f) (2 ∷ 6 ∷ 7 ∷ 3 ∷ [])
side_high_y a b c d e f hx hy hz =
    let m = plane (pos 0) (pos 1) (pos 0) d in
    record {
      there = All-from_recursion (λ (i : ℕ). i < 8) (2 ∷ 6 ∷ 7 ∷ 3 ∷ []) (omega arith, (omega arith, (omega arith, (omega arith, tt))));
      triangle = record { first = 0; second = 1; third = 2; first_in = omega arith; second_in = omega arith; third_in = omega arith; apart = λ k. right_angle e f a b hz hx k.b };
      plane = m;
      directed = omega arith;
      on = on_face a b c d e f m 2 6 7 3 (same_on _ d (high_y d a d e)) (same_on _ d (high_y d a d f)) (same_on _ d (high_y d b d f)) (same_on _ d (high_y d b d e));
      within = λ i lt. (let p = at_corner a b c d e f hx hy hz i lt in most_within _ p.y d (ap (value m) p.is ∙ high_y d p.x p.y p.z) p.y_in.1);
      far = record { at_face = 2; at = 0; at_face_in = omega arith; at_in = omega arith; behind = less_behind _ c d (high_y d a c e) hy };
    }

side_low_z : (a b c d e f : ℤ) → a <ℤ b → c <ℤ d → e <ℤ f → IsOutside (box_of a b c d e f) (0 ∷ 1 ∷ 3 ∷ 2 ∷ [])
side_low_z a b c d e f hx hy hz =
    let m = plane (pos 0) (pos 0) (negsuc 0) (pos 0 -ℤ e) in
    record {
      there = All-from_recursion (λ (i : ℕ). i < 8) (0 ∷ 1 ∷ 3 ∷ 2 ∷ []) (omega arith, (omega arith, (omega arith, (omega arith, tt))));
      triangle = record { first = 0; second = 1; third = 2; first_in = omega arith; second_in = omega arith; third_in = omega arith; apart = λ k. right_angle a b c d hx hy k.c };
      plane = m;
      directed = omega arith;
      on = on_face a b c d e f m 0 1 3 2 (same_on _ e (low_z e a c e)) (same_on _ e (low_z e b c e)) (same_on _ e (low_z e b d e)) (same_on _ e (low_z e a d e));
      within = λ i lt. (let p = at_corner a b c d e f hx hy hz i lt in most_within _ e p.z (ap (value m) p.is ∙ low_z e p.x p.y p.z) p.z_in.0);
      far = record { at_face = 5; at = 0; at_face_in = omega arith; at_in = omega arith; behind = less_behind _ e f (low_z e a c f) hz };
    }

side_high_z : (a b c d e f : ℤ) → a <ℤ b → c <ℤ d → e <ℤ f → IsOutside (box_of a b c d e f) (4 ∷ 5 ∷ 7 ∷ 6 ∷ [])
side_high_z a b c d e f hx hy hz =
    let m = plane (pos 0) (pos 0) (pos 1) f in
    record {
      there = All-from_recursion (λ (i : ℕ). i < 8) (4 ∷ 5 ∷ 7 ∷ 6 ∷ []) (omega arith, (omega arith, (omega arith, (omega arith, tt))));
      triangle = record { first = 0; second = 1; third = 2; first_in = omega arith; second_in = omega arith; third_in = omega arith; apart = λ k. right_angle a b c d hx hy k.c };
      plane = m;
      directed = omega arith;
      on = on_face a b c d e f m 4 5 7 6 (same_on _ f (high_z f a c f)) (same_on _ f (high_z f b c f)) (same_on _ f (high_z f b d f)) (same_on _ f (high_z f a d f));
      within = λ i lt. (let p = at_corner a b c d e f hx hy hz i lt in most_within _ p.z f (ap (value m) p.is ∙ high_z f p.x p.y p.z) p.z_in.1);
      far = record { at_face = 4; at = 0; at_face_in = omega arith; at_in = omega arith; behind = less_behind _ e f (high_z f a c e) hz };
    }

box_sides : (a b c d e f : ℤ) → a <ℤ b → c <ℤ d → e <ℤ f → All (IsFaceOfShape (box_of a b c d e f)) box_faces
box_sides a b c d e f hx hy hz =
    let face = box_side a b c d e f hx hy hz in
    All-from_recursion (IsFaceOfShape (box_of a b c d e f)) box_faces (
      face (0 ∷ 2 ∷ 6 ∷ 4 ∷ []) (side_low_x a b c d e f hx hy hz),
      (
        face (1 ∷ 3 ∷ 7 ∷ 5 ∷ []) (side_high_x a b c d e f hx hy hz),
        (
          face (0 ∷ 4 ∷ 5 ∷ 1 ∷ []) (side_low_y a b c d e f hx hy hz),
          (
            face (2 ∷ 6 ∷ 7 ∷ 3 ∷ []) (side_high_y a b c d e f hx hy hz),
            (
              face (0 ∷ 1 ∷ 3 ∷ 2 ∷ []) (side_low_z a b c d e f hx hy hz),
              (
                face (4 ∷ 5 ∷ 7 ∷ 6 ∷ []) (side_high_z a b c d e f hx hy hz),
                tt,
              ),
            ),
          ),
        ),
      ),
    )

-- coordinates taken from those of the lowest and the highest corner
box_safe : (a b c d e f : ℤ) → HasSafeCoordinates (whole a c e) → HasSafeCoordinates (whole b d f) → All (λ (p : List ℤ). HasSafeCoordinates (point_at p)) (box_points a b c d e f)
box_safe a b c d e f l h =
    All-from_recursion (λ (p : List ℤ). HasSafeCoordinates (point_at p)) (box_points a b c d e f) (
      record { x_size = l.x_size; y_size = l.y_size; z_size = l.z_size },
      (
        record { x_size = h.x_size; y_size = l.y_size; z_size = l.z_size },
        (
          record { x_size = l.x_size; y_size = h.y_size; z_size = l.z_size },
          (
            record { x_size = h.x_size; y_size = h.y_size; z_size = l.z_size },
            (
              record { x_size = l.x_size; y_size = l.y_size; z_size = h.z_size },
              (
                record { x_size = h.x_size; y_size = l.y_size; z_size = h.z_size },
                (
                  record { x_size = l.x_size; y_size = h.y_size; z_size = h.z_size },
                  (
                    record { x_size = h.x_size; y_size = h.y_size; z_size = h.z_size },
                    tt,
                  ),
                ),
              ),
            ),
          ),
        ),
      ),
    )

pub box_is_shape : (a b c d e f : ℤ) → a <ℤ b → c <ℤ d → e <ℤ f → HasSafeCoordinates (whole a c e) → HasSafeCoordinates (whole b d f) → IsShape (box_of a b c d e f)
box_is_shape a b c d e f hx hy hz l h = record {
  some = omega arith;
  faces = box_sides a b c d e f hx hy hz;
  safe = box_safe a b c d e f l h;
}

-- ---- the box of sides with nothing wrong
pub same_points : (a b c d e f g h i j k l : ℤ) → a ≡ g → b ≡ h → c ≡ i → d ≡ j → e ≡ k → f ≡ l → box_points a b c d e f ≡ box_points g h i j k l
same_points a b c d e f g h i j k l ha hb hc hd he hf = λ n. box_points (ha n) (hb n) (hc n) (hd n) (he n) (hf n)

pub cube_is_shape : (unit : LengthUnit) (center : Bool) (size : List ℤ) → 3 ≤ length size → AreSizes unit center size → IsShape (cube_of unit center size)
cube_is_shape unit center size three h =
    let x = ends_of_side unit center (get_or size 0 (pos 0)) (h.long 0 (pos 0) (omega (arith, three))) (h.safe 0 (pos 0) (omega (arith, three))) in
    let y = ends_of_side unit center (get_or size 1 (pos 0)) (h.long 1 (pos 0) (omega (arith, three))) (h.safe 1 (pos 0) (omega (arith, three))) in
    let z = ends_of_side unit center (get_or size 2 (pos 0)) (h.long 2 (pos 0) (omega (arith, three))) (h.safe 2 (pos 0) (omega (arith, three))) in
    box_is_shape _ _ _ _ _ _ x.apart y.apart z.apart
    (record { x_size = x.low_safe.size; y_size = y.low_safe.size; z_size = z.low_safe.size })
    (record { x_size = x.high_safe.size; y_size = y.high_safe.size; z_size = z.high_safe.size })
