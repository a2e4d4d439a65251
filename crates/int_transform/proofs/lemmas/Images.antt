-- The images of points under maps that are done one after another.
use Rattle.std.proofs.Common.{◌≡◌, List, [], ◌∷◌, ◌++◌, refl, sym, ap, ◌∙◌, ℤ, pos, ◌+ℤ◌, ◌*ℤ◌}
use Rattle.plane_predicate.specs.Space.{Coordinates}
use Rattle.plane_predicate.proofs.lemmas.Opposites.{same_point}
use Rattle.plane_predicate.proofs.lemmas.Polynomials.{Poly, var, num, plus, times, ring}
use Rattle.plane_predicate.proofs.lemmas.Vectors.{Form, Place, form, place, of_point, determinantP}
use Rattle.int_transform.specs.declared.affine.Row.{Row}
use Rattle.int_transform.specs.declared.affine.Affine.{Affine}
use Rattle.int_transform.specs.Maps.{row_at, row_after, image, composition, identity, map_of, determinant_of}

abbrev pub of_row : Row → List ℤ → List ℤ
of_row r rest = r.a ∷ r.b ∷ r.c ∷ r.d ∷ rest

abbrev pub of_map : Affine → List ℤ → List ℤ
of_map m rest = of_row m.x (of_row m.y (of_row m.z rest))

abbrev pub row_atP : Form → Place → Poly
row_atP r p = plus (plus (plus (times r.a p.x) (times r.b p.y)) (times r.c p.z)) (times r.d p.w)

abbrev pub row_afterP : Form → Form → Form → Form → Form
row_afterP r x y z = record {
  a = plus (plus (times r.a x.a) (times r.b y.a)) (times r.c z.a);
  b = plus (plus (times r.a x.b) (times r.b y.b)) (times r.c z.b);
  c = plus (plus (times r.a x.c) (times r.b y.c)) (times r.c z.c);
  d = plus (plus (plus (times r.a x.d) (times r.b y.d)) (times r.c z.d)) r.d;
}

-- the image under maps x, y, z of the rows
abbrev pub imageP : Form → Form → Form → Place → Place
imageP x y z p = record { x = row_atP x p; y = row_atP y p; z = row_atP z p; w = p.w }

pub row_at-after : (r : Row) (m : Affine) (p : Coordinates) → row_at (row_after r m) p ≡ row_at r (image m p)
row_at-after r m p =
    let R = form 0 in let X = form 4 in let Y = form 8 in let Z = form 12 in let P = place 16 in
    ring (of_row r (of_map m (of_point p []))) (row_atP (row_afterP R X Y Z) P) (row_atP R (imageP X Y Z P)) refl

pub image-composition : (n m : Affine) (p : Coordinates) → image (composition n m) p ≡ image n (image m p)
image-composition n m p = same_point _ _ _ _ _ _ _ _ (row_at-after n.x m p) (row_at-after n.y m p) (row_at-after n.z m p) refl

first : (x y z w : ℤ) → pos 1 *ℤ x +ℤ pos 0 *ℤ y +ℤ pos 0 *ℤ z +ℤ pos 0 *ℤ w ≡ x
first x y z w = ring (x ∷ y ∷ z ∷ w ∷ []) (plus (plus (plus (times (num (pos 1)) (var 0)) (times (num (pos 0)) (var 1))) (times (num (pos 0)) (var 2))) (times (num (pos 0)) (var 3))) (var 0) refl

second : (x y z w : ℤ) → pos 0 *ℤ x +ℤ pos 1 *ℤ y +ℤ pos 0 *ℤ z +ℤ pos 0 *ℤ w ≡ y
second x y z w = ring (x ∷ y ∷ z ∷ w ∷ []) (plus (plus (plus (times (num (pos 0)) (var 0)) (times (num (pos 1)) (var 1))) (times (num (pos 0)) (var 2))) (times (num (pos 0)) (var 3))) (var 1) refl

third : (x y z w : ℤ) → pos 0 *ℤ x +ℤ pos 0 *ℤ y +ℤ pos 1 *ℤ z +ℤ pos 0 *ℤ w ≡ z
third x y z w = ring (x ∷ y ∷ z ∷ w ∷ []) (plus (plus (plus (times (num (pos 0)) (var 0)) (times (num (pos 0)) (var 1))) (times (num (pos 1)) (var 2))) (times (num (pos 0)) (var 3))) (var 2) refl

pub image-identity : (p : Coordinates) → image identity p ≡ p
image-identity p = same_point _ _ _ _ p.x p.y p.z p.w (first p.x p.y p.z p.w) (second p.x p.y p.z p.w) (third p.x p.y p.z p.w) refl

-- one more step, done last
pub image-step : (steps : List Affine) (s : Affine) (p : Coordinates) → image (map_of (steps ++ s ∷ [])) p ≡ image s (image (map_of steps) p)
image-step [] s p = image-composition identity s p ∙ image-identity (image s p) ∙ ap (image s) (sym (image-identity p))
image-step (x ∷ steps) s p =
    image-composition (map_of (steps ++ s ∷ [])) x p
    ∙ image-step steps s (image x p)
    ∙ ap (image s) (sym (image-composition (map_of steps) x p))

-- the determinant of a product
pub determinant-composition : (n m : Affine) → determinant_of (composition n m) ≡ determinant_of n *ℤ determinant_of m
determinant-composition n m =
    let A = form 0 in let B = form 4 in let C = form 8 in let X = form 12 in let Y = form 16 in let Z = form 20 in
    let P = row_afterP A X Y Z in let Q = row_afterP B X Y Z in let R = row_afterP C X Y Z in
    ring (of_map n (of_map m [])) (determinantP P.a P.b P.c Q.a Q.b Q.c R.a R.b R.c) (times (determinantP A.a A.b A.c B.a B.b B.c C.a C.b C.c) (determinantP X.a X.b X.c Y.a Y.b Y.c Z.a Z.b Z.c)) refl
