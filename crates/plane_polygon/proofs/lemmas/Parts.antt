-- Both parts of a polygon that a plane is across, and their points.
use Rattle.std.proofs.Common.{◌≡◌, ◌↔◌, arith, ℤ, pos, neg_ℤ, ◌≤ℤ◌}
use Rattle.plane_predicate.specs.Space.{Coefficients, Coordinates, value, opposite_of}
use Rattle.plane_predicate.proofs.lemmas.IntegerRing.{sums}
use Rattle.plane_predicate.proofs.lemmas.Vectors.{value-opposite}
use Rattle.plane_polygon.specs.Polygons.{Outline, IsPolygon, Covers}
use Rattle.plane_polygon.specs.Parts.{class_of, part_behind, part_ahead}
use Rattle.plane_polygon.specs.declared.classes.Class.TheVariants.{Across}
use Rattle.plane_polygon.proofs.lemmas.CornerSides.{across_opposite}
use Rattle.plane_polygon.proofs.lemmas.PartPolygons.{part_polygon}
use Rattle.plane_polygon.proofs.lemmas.PartPoints.{cut_of}
use Rattle.plane_polygon.proofs.lemmas.PartCovers.{part_covers_out, part_covers_in}

pub behind_polygon : (s : Outline) (m : Coefficients) → IsPolygon s → class_of s m ≡ Across → IsPolygon (part_behind s m)
behind_polygon s m h e = let w = cut_of s m h e in part_polygon s m w.0 w.1 w.2

pub ahead_polygon : (s : Outline) (m : Coefficients) → IsPolygon s → class_of s m ≡ Across → IsPolygon (part_ahead s m)
ahead_polygon s m h e = behind_polygon s (opposite_of m) h (across_opposite s m e)

pub behind_points : (s : Outline) (m : Coefficients) → IsPolygon s → class_of s m ≡ Across → (p : Coordinates) → Covers (part_behind s m) p ↔ (Covers s p × (value m p ≤ℤ pos 0))
behind_points s m h e p = (part_covers_out s m h e p, λ (c, b). part_covers_in s m h e p c b)

not_above : (x y : ℤ) → y ≡ neg_ℤ x → pos 0 ≤ℤ x → y ≤ℤ pos 0
not_above x y e h = omega (arith, sums)

not_under : (x y : ℤ) → y ≡ neg_ℤ x → y ≤ℤ pos 0 → pos 0 ≤ℤ x
not_under x y e h = omega (arith, sums)

pub ahead_points : (s : Outline) (m : Coefficients) → IsPolygon s → class_of s m ≡ Across → (p : Coordinates) → Covers (part_ahead s m) p ↔ (Covers s p × (pos 0 ≤ℤ value m p))
ahead_points s m h e p =
    let b = behind_points s (opposite_of m) h (across_opposite s m e) p in (
      λ c. (let k = b.0 c in (k.0, not_under (value m p) (value (opposite_of m) p) (value-opposite m p) k.1)),
      λ (c, k). b.1 (c, not_above (value m p) (value (opposite_of m) p) (value-opposite m p) k),
    )
