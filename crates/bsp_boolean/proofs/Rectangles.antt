-- Polygons of four edges against a plane that two of them, or their own plane, are parallel to.
use Rattle.std.proofs.Common.{◌≡◌, false, ◌||◌, [], ◌++◌, sym, ap, subst, ◌∙◌, arith}
use Rattle.plane_predicate.specs.Space.{Coefficients, Coordinates, meeting_by_cramers_rule, value}
use Rattle.plane_predicate.specs.Sides.{side_of, is_side_behind, is_side_ahead}
use Rattle.plane_predicate.specs.declared.sides.Side.{Side}
use Rattle.plane_predicate.specs.declared.sides.Side.TheVariants as lying
use Rattle.plane_predicate.proofs.lemmas.Identities.{cramer_on_first, cramer_on_second, cramer_on_third}
use Rattle.plane_polygon.specs.declared.classes.Class.TheVariants.{Behind, Across}
use Rattle.plane_polygon.specs.Parallels.{HasAllOn}
use Rattle.plane_polygon.specs.Polygons.{Outline, IsPolygon}
use Rattle.plane_polygon.specs.Parts.{is_behind, is_ahead, class_by_sides, class_of, edges_kept_by, part_behind}
use Rattle.plane_polygon.proofs.lemmas.BoxStarts.{four}
use Rattle.plane_polygon.proofs.lemmas.Parts.{behind_polygon}
use Rattle.plane_table.proofs.lemmas.Corners.{side_behind, side_ahead}

-- the sides of m on which the four corners lie
record FourSigns (n e f g h m : Coefficients) (a b c d : Side) : Type 0 where
  pub first : a ≡ side_of (value m (meeting_by_cramers_rule n e f))
  pub second : b ≡ side_of (value m (meeting_by_cramers_rule n f g))
  pub third : c ≡ side_of (value m (meeting_by_cramers_rule n g h))
  pub fourth : d ≡ side_of (value m (meeting_by_cramers_rule n h e))

behind_is : (m : Coefficients) (p : Coordinates) (s : Side) → s ≡ side_of (value m p) → is_behind m p ≡ is_side_behind s
behind_is m p s e = sym (ap is_side_behind e ∙ side_behind (value m p))

ahead_is : (m : Coefficients) (p : Coordinates) (s : Side) → s ≡ side_of (value m p) → is_ahead m p ≡ is_side_ahead s
ahead_is m p s e = sym (ap is_side_ahead e ∙ side_ahead (value m p))

-- the class by these sides, and the part behind the plane
four_class : (n e f g h m : Coefficients) (a b c d : Side) → FourSigns n e f g h m a b c d →
    class_of (four n e f g h) m ≡ class_by_sides (is_side_behind a || (is_side_behind b || (is_side_behind c || (is_side_behind d || false))))
    (is_side_ahead a || (is_side_ahead b || (is_side_ahead c || (is_side_ahead d || false))))
four_class n e f g h m a b c d s =
    let b0 = behind_is m (meeting_by_cramers_rule n e f) a s.first in
    let b1 = behind_is m (meeting_by_cramers_rule n f g) b s.second in
    let b2 = behind_is m (meeting_by_cramers_rule n g h) c s.third in
    let b3 = behind_is m (meeting_by_cramers_rule n h e) d s.fourth in
    let a0 = ahead_is m (meeting_by_cramers_rule n e f) a s.first in
    let a1 = ahead_is m (meeting_by_cramers_rule n f g) b s.second in
    let a2 = ahead_is m (meeting_by_cramers_rule n g h) c s.third in
    let a3 = ahead_is m (meeting_by_cramers_rule n h e) d s.fourth in
    λ i. class_by_sides (b0 i || (b1 i || (b2 i || (b3 i || false)))) (a0 i || (a1 i || (a2 i || (a3 i || false))))

four_part : (n e f g h m : Coefficients) (a b c d : Side) → FourSigns n e f g h m a b c d →
    part_behind (four n e f g h) m ≡ record {
      plane = n;
      edges = edges_kept_by (is_side_behind d) (is_side_behind a) e m ++ (edges_kept_by (is_side_behind a) (is_side_behind b) f m
          ++ (edges_kept_by (is_side_behind b) (is_side_behind c) g m ++ (edges_kept_by (is_side_behind c) (is_side_behind d) h m ++ [])));
    }
four_part n e f g h m a b c d s =
    let b0 = behind_is m (meeting_by_cramers_rule n e f) a s.first in
    let b1 = behind_is m (meeting_by_cramers_rule n f g) b s.second in
    let b2 = behind_is m (meeting_by_cramers_rule n g h) c s.third in
    let b3 = behind_is m (meeting_by_cramers_rule n h e) d s.fourth in
    λ i. record {
      plane = n;
      edges = edges_kept_by (b3 i) (b0 i) e m ++ (edges_kept_by (b0 i) (b1 i) f m ++ (edges_kept_by (b1 i) (b2 i) g m ++ (edges_kept_by (b2 i) (b3 i) h m ++ [])));
    }

-- ---- by planes that have all their points on one side
by_plane : (n e f g h m : Coefficients) (a : Side) → IsPolygon (four n e f g h) → HasAllOn n m a → FourSigns n e f g h m a a a a
by_plane n e f g h m a p k = record {
  first = k (meeting_by_cramers_rule n e f) (p.turns_left 0 (omega arith)) (cramer_on_first n e f);
  second = k (meeting_by_cramers_rule n f g) (p.turns_left 1 (omega arith)) (cramer_on_first n f g);
  third = k (meeting_by_cramers_rule n g h) (p.turns_left 2 (omega arith)) (cramer_on_first n g h);
  fourth = k (meeting_by_cramers_rule n h e) (p.turns_left 3 (omega arith)) (cramer_on_first n h e);
}

by_first_third : (n e f g h m : Coefficients) (a b : Side) → IsPolygon (four n e f g h) → HasAllOn e m a → HasAllOn g m b → FourSigns n e f g h m a b b a
by_first_third n e f g h m a b p k l = record {
  first = k (meeting_by_cramers_rule n e f) (p.turns_left 0 (omega arith)) (cramer_on_second n e f);
  second = l (meeting_by_cramers_rule n f g) (p.turns_left 1 (omega arith)) (cramer_on_third n f g);
  third = l (meeting_by_cramers_rule n g h) (p.turns_left 2 (omega arith)) (cramer_on_second n g h);
  fourth = k (meeting_by_cramers_rule n h e) (p.turns_left 3 (omega arith)) (cramer_on_third n h e);
}

by_second_fourth : (n e f g h m : Coefficients) (a b : Side) → IsPolygon (four n e f g h) → HasAllOn f m a → HasAllOn h m b → FourSigns n e f g h m a a b b
by_second_fourth n e f g h m a b p k l = record {
  first = k (meeting_by_cramers_rule n e f) (p.turns_left 0 (omega arith)) (cramer_on_third n e f);
  second = k (meeting_by_cramers_rule n f g) (p.turns_left 1 (omega arith)) (cramer_on_second n f g);
  third = l (meeting_by_cramers_rule n g h) (p.turns_left 2 (omega arith)) (cramer_on_third n g h);
  fourth = l (meeting_by_cramers_rule n h e) (p.turns_left 3 (omega arith)) (cramer_on_second n h e);
}

-- ---- the parts
-- the plane m is across the polygon s, and t is what s has behind it
pub record CutsTo (s : Outline) (m : Coefficients) (t : Outline) : Type 0 where
  pub across : class_of s m ≡ Across
  pub part : part_behind s m ≡ t
  pub polygon : IsPolygon t

cut_to : (s t : Outline) (m : Coefficients) → IsPolygon s → class_of s m ≡ Across → part_behind s m ≡ t → CutsTo s m t
cut_to s t m p c e = record { across = c; part = e; polygon = subst IsPolygon e (behind_polygon s m p c) }

-- the edge that lies ahead of m goes, and m takes its place; behind the others, where it was the first one
pub cut_first : (n e f g h m : Coefficients) → IsPolygon (four n e f g h) → HasAllOn e m lying.Ahead → HasAllOn g m lying.Behind → CutsTo (four n e f g h) m (four n f g h m)
cut_first n e f g h m p k l =
    let s = by_first_third n e f g h m lying.Ahead lying.Behind p k l in
    cut_to (four n e f g h) (four n f g h m) m p (four_class n e f g h m lying.Ahead lying.Behind lying.Behind lying.Ahead s) (four_part n e f g h m lying.Ahead lying.Behind lying.Behind lying.Ahead s)

pub cut_second : (n e f g h m : Coefficients) → IsPolygon (four n e f g h) → HasAllOn f m lying.Ahead → HasAllOn h m lying.Behind → CutsTo (four n e f g h) m (four n e m g h)
cut_second n e f g h m p k l =
    let s = by_second_fourth n e f g h m lying.Ahead lying.Behind p k l in
    cut_to (four n e f g h) (four n e m g h) m p (four_class n e f g h m lying.Ahead lying.Ahead lying.Behind lying.Behind s) (four_part n e f g h m lying.Ahead lying.Ahead lying.Behind lying.Behind s)

pub cut_third : (n e f g h m : Coefficients) → IsPolygon (four n e f g h) → HasAllOn e m lying.Behind → HasAllOn g m lying.Ahead → CutsTo (four n e f g h) m (four n e f m h)
cut_third n e f g h m p k l =
    let s = by_first_third n e f g h m lying.Behind lying.Ahead p k l in
    cut_to (four n e f g h) (four n e f m h) m p (four_class n e f g h m lying.Behind lying.Ahead lying.Ahead lying.Behind s) (four_part n e f g h m lying.Behind lying.Ahead lying.Ahead lying.Behind s)

pub cut_fourth : (n e f g h m : Coefficients) → IsPolygon (four n e f g h) → HasAllOn f m lying.Behind → HasAllOn h m lying.Ahead → CutsTo (four n e f g h) m (four n e f g m)
cut_fourth n e f g h m p k l =
    let s = by_second_fourth n e f g h m lying.Behind lying.Ahead p k l in
    cut_to (four n e f g h) (four n e f g m) m p (four_class n e f g h m lying.Behind lying.Behind lying.Ahead lying.Ahead s) (four_part n e f g h m lying.Behind lying.Behind lying.Ahead lying.Ahead s)

-- all of it lies behind m
pub lies_behind : (n e f g h m : Coefficients) → IsPolygon (four n e f g h) → HasAllOn n m lying.Behind → class_of (four n e f g h) m ≡ Behind
lies_behind n e f g h m p k = four_class n e f g h m lying.Behind lying.Behind lying.Behind lying.Behind (by_plane n e f g h m lying.Behind p k)
