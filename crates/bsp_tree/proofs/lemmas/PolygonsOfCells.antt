-- A polygon of a cell, and a plane that it is behind, or that is across it: a polygon of the half of the cell.
use Rattle.std.proofs.Common.{◌≡◌, ℕ, suc, ◌<◌, List, ◌∷◌, refl, sym, ◌∙◌, subst, arith, ℤ, pos, negsuc, ◌+ℤ◌, ◌*ℤ◌, ◌<ℤ◌, ◌≤ℤ◌, unsigned_abs}
use Rattle.std.proofs.Math.IntN.{*ℤ-zero}
use borrow.Author.Differences.{product_is}
use Rattle.plane_predicate.specs.Space.{Coefficients, Coordinates, value}
use Rattle.plane_predicate.proofs.lemmas.IntegerRing.{sums}
use Rattle.plane_predicate.proofs.lemmas.Identities.{combine, value_combine}
use Rattle.plane_predicate.proofs.lemmas.Sizes.{size_parts}
use Rattle.plane_polygon.specs.Polygons.{Outline, edge_count, corner, IsPolygon, Covers}
use Rattle.plane_polygon.specs.Parts.{class_of, part_behind}
use Rattle.plane_polygon.specs.declared.classes.Class.TheVariants.{Across}
use Rattle.plane_polygon.proofs.lemmas.Hull.{corner_on, hull}
use Rattle.plane_polygon.proofs.lemmas.Rounds.{no_edge_behind}
use Rattle.plane_polygon.proofs.lemmas.PartPolygons.{below, part_polygon}
use Rattle.plane_polygon.proofs.lemmas.PartPoints.{cut_of}
use Rattle.plane_polygon.proofs.lemmas.PartCovers.{part_covers_out, part_covers_in, between_within}
use Rattle.bsp_tree.specs.Cells.{IsInCell, IsPolygonOfCell}
use Rattle.bsp_tree.proofs.lemmas.Convexity.{in_combine}

-- a polygon has its corners
pub corner_covered : (s : Outline) → IsPolygon s → (i : ℕ) → i < edge_count s → Covers s (corner s i)
corner_covered s h i l = record {
  weight = h.turns_left i l;
  on = corner_on s i;
  within =
      λ j b. no_edge_behind s h i j l b;
}

-- x + (|x| + 1) w is below 0 where w is
pub pulled : (x w : ℤ) → w <ℤ pos 0 → (pos 1 *ℤ x +ℤ pos (suc (unsigned_abs x)) *ℤ w) <ℤ pos 0
pulled x (pos n) h = absurd (omega (arith, sums))
pulled x (negsuc n) h = omega (
  arith,
  sums,
  size_parts x,
  product_is (pos 1) x,
  product_is
      (pos (suc (unsigned_abs x))) (negsuc n),
)

on_both : (x y k : ℤ) → x ≡ pos 0 → y ≡ pos 0 → pos 1 *ℤ x +ℤ k *ℤ y ≡ pos 0
on_both x y k hx hy = rw (hx, hy, *ℤ-zero (pos 1), *ℤ-zero k) refl

-- a point of the open cell on the polygon, strictly behind q, from a corner strictly behind q
pub inner_point : (cell : List Coefficients) (s : Outline) (q : Coefficients) → IsPolygonOfCell cell s → (i : ℕ) →
    i < edge_count s →
    value q (corner s i) <ℤ pos 0 → (y : Coordinates) × IsInCell cell y × (value s.plane y ≡ pos 0) ×
    (value q y <ℤ pos 0)
inner_point cell s q h i l b =
    let v = corner s i in
    let k = pos (suc (unsigned_abs (value q h.point))) in
    let c = (h.covers v).0 (corner_covered s h.polygon i l) in (
      combine (pos 1) h.point k v,
      in_combine cell (pos 1) h.point k v (omega (arith, sums)) (omega (arith, sums)) h.point_in c.0,
      value_combine s.plane (pos 1) h.point k v ∙ on_both (value s.plane h.point) (value s.plane v) k
          h.point_on (corner_on s i),
      subst (λ (x : ℤ). x <ℤ pos 0) (sym (value_combine q (pos 1) h.point k v)) (pulled (value q h.point)
          (value q v) b),
    )

-- the part of a polygon of a cell is a polygon of the half of the cell
pub across_part : (cell : List Coefficients) (s : Outline) (q : Coefficients) → IsPolygonOfCell cell s →
    class_of s q ≡ Across → IsPolygonOfCell (q ∷ cell) (part_behind s q)
across_part cell s q h e =
    let w = cut_of s q h.polygon e in
    let y = inner_point cell s q h w.0 w.2.arc.start (below (value q (corner s w.0))
    (w.2.arc.behind 0 (omega arith))) in
    record {
      polygon = part_polygon s q w.0 w.1 w.2;
      plane = h.plane;
      covers = λ p. (
        λ c. (let o = part_covers_out s q h.polygon e p c in let k = (h.covers p).0 o.0 in
            (record { weight = k.0.weight; below = (o.1, k.0.below) }, k.1)),
        λ k. part_covers_in s q h.polygon e p ((h.covers p).1 (
          record {
            weight = k.0.weight;
            below =
                k.0.below.1;
          },
          k.1,
        )) k.0.below.0,
      );
      point = y.0;
      point_in = record { weight = y.1.weight; below = (y.3, y.1.below) };
      point_on = y.2;
    }

-- a polygon of a cell that has no corner ahead of q, and one strictly behind q, is a polygon of the half of the cell
pub across_behind : (cell : List Coefficients) (s : Outline) (q : Coefficients) → IsPolygonOfCell cell s → (i : ℕ) →
    i < edge_count s →
    value q (corner s i) <ℤ pos 0 → ((j : ℕ) → j < edge_count s → value q (corner s j) ≤ℤ pos 0) →
    IsPolygonOfCell (q ∷ cell) s
across_behind cell s q h i l b all =
    let y = inner_point cell s q h i l b in
    record {
      polygon = h.polygon;
      plane = h.plane;
      covers = λ p. (
        λ c. (let k = (h.covers p).0 c in let o = hull s h.polygon p c in (
          record {
            weight = k.0.weight;
            below = (
              between_within (corner s 0) (corner s o.0) (corner s (suc o.0)) p q o.2
                  (all 0 (omega (arith, o.1))) (all o.0 (omega (arith, o.1))) (all (suc o.0) o.1),
              k.0.below,
            );
          },
          k.1,
        )),
        λ k. (h.covers p).1 (record { weight = k.0.weight; below = k.0.below.1 }, k.1),
      );
      point = y.0;
      point_in = record { weight = y.1.weight; below = (y.3, y.1.below) };
      point_on = y.2;
    }
