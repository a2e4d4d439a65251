-- The parts of a solid of a cell are of the halves of the cell.
use Rattle.std.proofs.Common.{◌≡◌, Bool, true, false, if◌then◌else◌, List, ◌∷◌, refl, sym, ap, ◌∙◌, subst, true≢false, pos, ◌<ℤ◌}
use Rattle.plane_predicate.specs.Space.{Coefficients, Coordinates, value, opposite_of, is_same}
use Rattle.plane_polygon.specs.Polygons.{Outline}
use Rattle.plane_polygon.specs.declared.classes.Class.{Class}
use Rattle.plane_polygon.specs.declared.classes.Class.TheVariants.{Behind, Ahead, On, Across}
use Rattle.plane_polygon.specs.Parts.{class_of, part_behind, part_ahead}
use Rattle.plane_polygon.proofs.lemmas.CornerSides.{across_opposite}
use Rattle.bsp_tree.specs.Trees.{BspTree, inside, outside, node, node_or_leaf}
use Rattle.bsp_tree.specs.Cells.{IsInCell, IsPolygonOfCell, IsOfCell}
use Rattle.bsp_tree.proofs.lemmas.Opposites.{opposite_zero, opposite_back, opposite_above, behind_opposite_above, opposite_twice}
use Rattle.bsp_tree.proofs.lemmas.SameNumbers.{same_equal}
use Rattle.bsp_tree.proofs.SamePoints.{same_of_cell, same_exchanged, same_implied}
use Rattle.bsp_tree.proofs.lemmas.PolygonsOfCells.{across_part}
use Rattle.bsp_tree.proofs.lemmas.Halves.{lying}
use Rattle.bsp_tree.proofs.lemmas.Sides.{LiesBehind, lies_behind, lies_ahead}
use Rattle.bsp_tree.specs.Partitions.{divide, parts_by_class, AreOfHalves}
use Rattle.bsp_tree.proofs.Apart.{apart}
use Rattle.bsp_tree.proofs.Ways.{is_way, way_of}

-- ---- cells with one plane more or less
with_sides_exchanged : (t : BspTree) (m n : Coefficients) (cell : List Coefficients) → IsOfCell (m ∷ n ∷ cell) t →
    IsOfCell (n ∷ m ∷ cell) t
with_sides_exchanged t m n cell h = same_of_cell t (m ∷ n ∷ cell) (n ∷ m ∷ cell) (same_exchanged m n cell) h

with_plane : (t : BspTree) (m n : Coefficients) (cell : List Coefficients) → ((p : Coordinates) → IsInCell cell p →
    value n p <ℤ pos 0 → value m p <ℤ pos 0) → IsOfCell (n ∷ cell) t → IsOfCell (n ∷ m ∷ cell) t
with_plane t m n cell f h = same_of_cell t (n ∷ cell) (n ∷ m ∷ cell) (same_implied m n cell f) h

without_plane : (t : BspTree) (m n : Coefficients) (cell : List Coefficients) → ((p : Coordinates) →
    IsInCell cell p → value n p <ℤ pos 0 → value m p <ℤ pos 0) → IsOfCell (n ∷ m ∷ cell) t → IsOfCell (n ∷ cell) t
without_plane t m n cell f h = same_of_cell t (n ∷ m ∷ cell) (n ∷ cell)
    (λ p. (let e = same_implied m n cell f p in (e.1, e.0))) h

-- folding equal leaves keeps the cell
make_cell : (cell : List Coefficients) (t : Outline) (b a : BspTree) → IsPolygonOfCell cell t →
    IsOfCell (t.plane ∷ cell) b → IsOfCell (opposite_of t.plane ∷ cell) a → IsOfCell cell (node_or_leaf t b a)
make_cell cell t inside inside h hb ha = tt
make_cell cell t outside outside h hb ha = tt
make_cell cell t inside outside h hb ha = (h, hb, ha)
make_cell cell t outside inside h hb ha = (h, hb, ha)
make_cell cell t inside (node s c d) h hb ha = (h, hb, ha)
make_cell cell t outside (node s c d) h hb ha = (h, hb, ha)
make_cell cell t (node s c d) a h hb ha = (h, hb, ha)

-- ---- the rows
-- both parts are of the two halves by m
abbrev OfHalves : List Coefficients → Coefficients → BspTree × BspTree → Type 0
OfHalves cell m parts = IsOfCell (m ∷ cell) parts.0 × IsOfCell (opposite_of m ∷ cell) parts.1

row_cells : (cell : List Coefficients) (s t : Outline) (b a : BspTree) (low high low_part high_part : BspTree ×
    BspTree) (x y : Class) →
    class_of s t.plane ≡ x → class_of t s.plane ≡ y → is_way x y ≡ true → IsPolygonOfCell cell s → IsPolygonOfCell cell t →
    IsOfCell (t.plane ∷ cell) b → IsOfCell (opposite_of t.plane ∷ cell) a →
    (LiesBehind s t.plane → OfHalves (t.plane ∷ cell) s.plane low) → (LiesBehind s (opposite_of t.plane) →
    OfHalves (opposite_of t.plane ∷ cell) s.plane high) →
    (x ≡ Across → OfHalves (t.plane ∷ cell) s.plane low_part) →
    (x ≡ Across → OfHalves (opposite_of t.plane ∷ cell) s.plane high_part) →
    OfHalves cell s.plane (parts_by_class x y s t b a low high low_part high_part)
row_cells cell s t b a low high low_part high_part Across Across ex ey r hs ht hb ha kb ka kbp kap =
    let m = s.plane in let n = opposite_of s.plane in let q = t.plane in let o = opposite_of t.plane in
    let l = kbp refl in let h = kap refl in (
      make_cell (m ∷ cell) (part_behind t m) low_part.0 high_part.0 (across_part cell t m ht ey)
          (with_sides_exchanged low_part.0 m q cell l.0) (with_sides_exchanged high_part.0 m o cell h.0),
      make_cell (n ∷ cell) (part_ahead t m) low_part.1 high_part.1 (across_part cell t n ht
          (across_opposite t m ey)) (with_sides_exchanged low_part.1 n q cell l.1) (with_sides_exchanged high_part.1 n o cell h.1),
    )
row_cells cell s t b a low high low_part high_part Behind Behind ex ey r hs ht hb ha kb ka kbp kap =
    let m = s.plane in let n = opposite_of s.plane in let q = t.plane in let o = opposite_of t.plane in
    let bs = lies_behind s q ex in let bt = lies_behind t m ey in let l = kb bs in (
      make_cell (m ∷ cell) t low.0 a (lying cell t m ht bt) (with_sides_exchanged low.0 m q cell l.0)
          (with_plane a m o cell (λ p hp k. apart cell t s m q ht hs bt bs (λ z e. e) (λ z e. e) p hp
          (behind_opposite_above q p k)) ha),
      without_plane low.1 q n cell (λ p hp k. apart cell s t q m hs ht bs bt (λ z e. e) (λ z e. e) p hp
          (behind_opposite_above m p k)) l.1,
    )
row_cells cell s t b a low high low_part high_part Behind Ahead ex ey r hs ht hb ha kb ka kbp kap =
    let m = s.plane in let n = opposite_of s.plane in let q = t.plane in let o = opposite_of t.plane in
    let bs = lies_behind s q ex in let bt = lies_ahead t m ey in let l = kb bs in (
      without_plane low.0 q m cell (λ p hp k. apart cell s t q n hs ht bs bt (λ z e. e) (opposite_zero m) p hp
          (opposite_above m p k)) l.0,
      make_cell (n ∷ cell) t low.1 a (lying cell t n ht bt) (with_sides_exchanged low.1 n q cell l.1)
          (with_plane a n o cell (λ p hp k. apart cell t s n q ht hs bt bs (opposite_back m) (λ z e. e) p hp
          (behind_opposite_above q p k)) ha),
    )
row_cells cell s t b a low high low_part high_part Ahead Behind ex ey r hs ht hb ha kb ka kbp kap =
    let m = s.plane in let n = opposite_of s.plane in let q = t.plane in let o = opposite_of t.plane in
    let bs = lies_ahead s q ex in let bt = lies_behind t m ey in let h = ka bs in (
      make_cell (m ∷ cell) t b high.0 (lying cell t m ht bt)
          (with_plane b m q cell (λ p hp k. apart cell t s m o ht hs bt bs (λ z e. e) (opposite_zero q) p hp
          (opposite_above q p k)) hb)
          (with_sides_exchanged high.0 m o cell h.0),
      without_plane high.1 o n cell (λ p hp k. apart cell s t o m hs ht bs bt (opposite_back q) (λ z e. e) p
          hp (behind_opposite_above m p k)) h.1,
    )
row_cells cell s t b a low high low_part high_part Ahead Ahead ex ey r hs ht hb ha kb ka kbp kap =
    let m = s.plane in let n = opposite_of s.plane in let q = t.plane in let o = opposite_of t.plane in
    let bs = lies_ahead s q ex in let bt = lies_ahead t m ey in let h = ka bs in (
      without_plane high.0 o m cell (λ p hp k. apart cell s t o n hs ht bs bt (opposite_back q)
          (opposite_zero m) p hp (opposite_above m p k)) h.0,
      make_cell (n ∷ cell) t b high.1 (lying cell t n ht bt)
          (with_plane b n q cell (λ p hp k. apart cell t s n o ht hs bt bs (opposite_back m) (opposite_zero q)
          p hp (opposite_above q p k)) hb)
          (with_sides_exchanged high.1 n o cell h.1),
    )
row_cells cell s t b a low high low_part high_part Across Behind ex ey r hs ht hb ha kb ka kbp kap =
    absurd (true≢false (sym r))
row_cells cell s t b a low high low_part high_part Across Ahead ex ey r hs ht hb ha kb ka kbp kap =
    absurd (true≢false (sym r))
row_cells cell s t b a low high low_part high_part Across On ex ey r hs ht hb ha kb ka kbp kap =
    absurd (true≢false (sym r))
row_cells cell s t b a low high low_part high_part Behind Across ex ey r hs ht hb ha kb ka kbp kap =
    absurd (true≢false (sym r))
row_cells cell s t b a low high low_part high_part Behind On ex ey r hs ht hb ha kb ka kbp kap =
    absurd (true≢false (sym r))
row_cells cell s t b a low high low_part high_part Ahead Across ex ey r hs ht hb ha kb ka kbp kap =
    absurd (true≢false (sym r))
row_cells cell s t b a low high low_part high_part Ahead On ex ey r hs ht hb ha kb ka kbp kap =
    absurd (true≢false (sym r))
row_cells cell s t b a low high low_part high_part On Behind ex ey r hs ht hb ha kb ka kbp kap =
    absurd (true≢false (sym r))
row_cells cell s t b a low high low_part high_part On Ahead ex ey r hs ht hb ha kb ka kbp kap =
    absurd (true≢false (sym r))
row_cells cell s t b a low high low_part high_part On On ex ey r hs ht hb ha kb ka kbp kap =
    absurd (true≢false (sym r))
row_cells cell s t b a low high low_part high_part On Across ex ey r hs ht hb ha kb ka kbp kap =
    absurd (true≢false (sym r))

-- ---- a node on the same plane, or on the opposite
node_cells : (cell : List Coefficients) (s t : Outline) (b a : BspTree) (parts : BspTree × BspTree) (x y : Bool) →
    is_same t.plane s.plane ≡ x → is_same t.plane (opposite_of s.plane) ≡ y →
    IsOfCell (t.plane ∷ cell) b → IsOfCell (opposite_of t.plane ∷ cell) a → (x ≡ false → y ≡ false →
    OfHalves cell s.plane parts) → OfHalves cell s.plane (if x then (b, a) else if y then (a, b) else
    parts)
node_cells cell s t b a parts true y ex ey hb ha k =
    let e = same_equal t.plane s.plane ex in (
      subst (λ (n : Coefficients). IsOfCell (n ∷ cell) b) e hb,
      subst (λ (n : Coefficients). IsOfCell
          (opposite_of n ∷ cell) a) e ha,
    )
node_cells cell s t b a parts false true ex ey hb ha k =
    let e = same_equal t.plane (opposite_of s.plane) ey in (
      subst (λ (n : Coefficients). IsOfCell (n ∷ cell) a) (ap opposite_of e ∙ opposite_twice s.plane) ha,
      subst (λ (n : Coefficients). IsOfCell (n ∷ cell) b) e hb,
    )
node_cells cell s t b a parts false false ex ey hb ha k = k refl refl

halves : (t : BspTree) (cell : List Coefficients) (s : Outline) → IsOfCell cell t → IsPolygonOfCell cell s →
    OfHalves cell s.plane (divide t s)
halves inside cell s h hs = (tt, tt)
halves outside cell s h hs = (tt, tt)
halves (node t b a) cell s h hs =
    let q = t.plane in let o = opposite_of t.plane in
    node_cells cell s t b a (parts_by_class (class_of s q) (class_of t s.plane) s t b a (divide b s) (divide a s)
    (divide b (part_behind s q)) (divide a (part_ahead s q))) (is_same q s.plane)
    (is_same q (opposite_of s.plane)) refl refl h.1 h.2
    (λ ex ey. row_cells cell s t b a (divide b s) (divide a s) (divide b (part_behind s q))
    (divide a (part_ahead s q)) (class_of s q) (class_of t s.plane) refl refl (way_of cell s t hs h.0 ex
    ey) hs h.0 h.1 h.2
    (λ l. halves b (q ∷ cell) s h.1 (lying cell s q hs l))
    (λ l. halves a (o ∷ cell) s h.2 (lying cell s o hs l))
    (λ e. halves b (q ∷ cell) (part_behind s q) h.1 (across_part cell s q hs e))
    (λ e. halves a (o ∷ cell) (part_ahead s q) h.2 (across_part cell s o hs (across_opposite s q e))))

pub divide_halves : (t : BspTree) (s : Outline) → AreOfHalves t s (divide t s)
divide_halves t s cell h = halves t cell s h.solid h.polygon
