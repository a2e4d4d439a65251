-- The parts of a solid keep its walks.
use Rattle.std.proofs.Common.{◌≡◌, inl, inr, Bool, true, false, if◌then◌else◌, List, ◌∷◌, refl, sym, ◌∙◌, subst, true≢false, pos, ◌<ℤ◌}
use Rattle.plane_predicate.specs.Space.{Coefficients, Coordinates, value, opposite_of, is_same}
use Rattle.plane_predicate.proofs.lemmas.Signs.{signs}
use Rattle.plane_polygon.specs.Polygons.{Outline}
use Rattle.plane_polygon.specs.declared.classes.Class.{Class}
use Rattle.plane_polygon.specs.declared.classes.Class.TheVariants.{Behind, Ahead, On, Across}
use Rattle.plane_polygon.specs.Parts.{class_of, part_behind, part_ahead}
use Rattle.plane_polygon.proofs.lemmas.CornerSides.{across_opposite}
use Rattle.bsp_tree.specs.Trees.{BspTree, inside, outside, node}
use Rattle.bsp_tree.specs.Cells.{IsInCell, IsPolygonOfCell, IsOfCell, IsOffPlanesOf}
use Rattle.bsp_tree.proofs.lemmas.Opposites.{opposite_zero, opposite_back, opposite_above, opposite_below}
use Rattle.bsp_tree.proofs.lemmas.SameNumbers.{same_equal}
use Rattle.bsp_tree.proofs.lemmas.PolygonsOfCells.{across_part}
use Rattle.bsp_tree.proofs.lemmas.Halves.{lying}
use Rattle.bsp_tree.proofs.lemmas.Sides.{LiesBehind, lies_behind, lies_ahead}
use Rattle.bsp_tree.proofs.lemmas.Walks.{make_walk, walk_behind, walk_ahead}
use Rattle.bsp_tree.specs.Partitions.{divide, parts_by_class, KeepsWalkAt, KeepWalks}
use Rattle.bsp_tree.proofs.Apart.{excluded}
use Rattle.bsp_tree.proofs.Ways.{is_way, way_of}

on_never : {P : Type 0} (y : Class) → is_way On y ≡ true → P
on_never Behind r = absurd (true≢false (sym r))
on_never Ahead r = absurd (true≢false (sym r))
on_never On r = absurd (true≢false (sym r))
on_never Across r = absurd (true≢false (sym r))

-- a point behind t's plane walks on in b, whose parts keep its walk
row_behind : (cell : List Coefficients) (s t : Outline) (b a : BspTree) (low high low_part high_part : BspTree ×
    BspTree) (p : Coordinates) (x y : Class) →
    class_of s t.plane ≡ x → class_of t s.plane ≡ y → is_way x y ≡ true → IsPolygonOfCell cell s → IsPolygonOfCell cell t →
    IsInCell cell p → value t.plane p <ℤ pos 0 →
    (LiesBehind s t.plane → KeepsWalkAt b s.plane low p) → (x ≡ Across → KeepsWalkAt b s.plane low_part p) →
    KeepsWalkAt (node t b a) s.plane (parts_by_class x y s t b a low high low_part high_part) p
row_behind cell s t b a low high low_part high_part p Across Across ex ey r hs ht hp q k kp =
    let i = kp refl in record {
      low = λ m. make_walk (part_behind t s.plane) low_part.0 high_part.0 p ∙
          walk_behind (part_behind t s.plane) low_part.0 high_part.0 p q ∙ i.low m ∙
          sym (walk_behind t b a p q);
      high = λ m. make_walk (part_ahead t s.plane) low_part.1 high_part.1 p ∙
          walk_behind (part_ahead t s.plane) low_part.1 high_part.1 p q ∙ i.high m ∙
          sym (walk_behind t b a p q);
    }
row_behind cell s t b a low high low_part high_part p Behind Behind ex ey r hs ht hp q k kp =
    let i = k (lies_behind s t.plane ex) in record {
      low = λ m. make_walk t low.0 a p ∙ walk_behind t low.0 a p q ∙ i.low m ∙ sym (walk_behind t b a p q);
      high = λ m. i.high m ∙ sym (walk_behind t b a p q);
    }
row_behind cell s t b a low high low_part high_part p Behind Ahead ex ey r hs ht hp q k kp =
    let i = k (lies_behind s t.plane ex) in record {
      low = λ m. i.low m ∙ sym (walk_behind t b a p q);
      high = λ m. make_walk t low.1 a p ∙ walk_behind t low.1 a p q ∙ i.high m ∙ sym (walk_behind t b a p q);
    }
row_behind cell s t b a low high low_part high_part p Ahead Behind ex ey r hs ht hp q k kp = record {
  low = λ m. make_walk t b high.0 p ∙ walk_behind t b high.0 p q ∙ sym (walk_behind t b a p q);
  high = λ m. absurd (excluded cell s t (opposite_of t.plane) s.plane hs ht (lies_ahead s t.plane ex)
      (lies_behind t s.plane ey) (λ z e. opposite_back t.plane z e) (λ z e. e) p hp m (opposite_above t.plane
      p q));
}
row_behind cell s t b a low high low_part high_part p Ahead Ahead ex ey r hs ht hp q k kp = record {
  low = λ m. absurd (excluded cell s t (opposite_of t.plane) (opposite_of s.plane) hs ht (lies_ahead s t.plane
      ex) (lies_ahead t s.plane ey) (λ z e. opposite_back t.plane z e) (λ z e. opposite_zero s.plane z e) p hp
      (opposite_above s.plane p m) (opposite_above t.plane p q));
  high = λ m. make_walk t b high.1 p ∙ walk_behind t b high.1 p q ∙ sym (walk_behind t b a p q);
}
row_behind cell s t b a low high low_part high_part p Across Behind ex ey r hs ht hp q k kp =
    absurd (true≢false (sym r))
row_behind cell s t b a low high low_part high_part p Across Ahead ex ey r hs ht hp q k kp =
    absurd (true≢false (sym r))
row_behind cell s t b a low high low_part high_part p Across On ex ey r hs ht hp q k kp =
    absurd (true≢false (sym r))
row_behind cell s t b a low high low_part high_part p Behind Across ex ey r hs ht hp q k kp =
    absurd (true≢false (sym r))
row_behind cell s t b a low high low_part high_part p Behind On ex ey r hs ht hp q k kp =
    absurd (true≢false (sym r))
row_behind cell s t b a low high low_part high_part p Ahead Across ex ey r hs ht hp q k kp =
    absurd (true≢false (sym r))
row_behind cell s t b a low high low_part high_part p Ahead On ex ey r hs ht hp q k kp =
    absurd (true≢false (sym r))
row_behind cell s t b a low high low_part high_part p On y ex ey r hs ht hp q k kp = on_never y r

-- a point ahead of t's plane walks on in a
row_ahead : (cell : List Coefficients) (s t : Outline) (b a : BspTree) (low high low_part high_part : BspTree ×
    BspTree) (p : Coordinates) (x y : Class) →
    class_of s t.plane ≡ x → class_of t s.plane ≡ y → is_way x y ≡ true → IsPolygonOfCell cell s → IsPolygonOfCell cell t →
    IsInCell cell p → pos 0 <ℤ value t.plane p →
    (LiesBehind s (opposite_of t.plane) → KeepsWalkAt a s.plane high p) →
    (x ≡ Across → KeepsWalkAt a s.plane high_part p) →
    KeepsWalkAt (node t b a) s.plane (parts_by_class x y s t b a low high low_part high_part) p
row_ahead cell s t b a low high low_part high_part p Across Across ex ey r hs ht hp q k kp =
    let i = kp refl in record {
      low = λ m. make_walk (part_behind t s.plane) low_part.0 high_part.0 p ∙
          walk_ahead (part_behind t s.plane) low_part.0 high_part.0 p q ∙ i.low m ∙
          sym (walk_ahead t b a p q);
      high = λ m. make_walk (part_ahead t s.plane) low_part.1 high_part.1 p ∙
          walk_ahead (part_ahead t s.plane) low_part.1 high_part.1 p q ∙ i.high m ∙
          sym (walk_ahead t b a p q);
    }
row_ahead cell s t b a low high low_part high_part p Behind Behind ex ey r hs ht hp q k kp = record {
  low = λ m. make_walk t low.0 a p ∙ walk_ahead t low.0 a p q ∙ sym (walk_ahead t b a p q);
  high = λ m. absurd (excluded cell s t t.plane s.plane hs ht (lies_behind s t.plane ex)
      (lies_behind t s.plane ey) (λ z e. e) (λ z e. e) p hp m q);
}
row_ahead cell s t b a low high low_part high_part p Behind Ahead ex ey r hs ht hp q k kp = record {
  low = λ m. absurd (excluded cell s t t.plane (opposite_of s.plane) hs ht (lies_behind s t.plane ex)
      (lies_ahead t s.plane ey) (λ z e. e) (λ z e. opposite_zero s.plane z e) p hp (opposite_above s.plane p
      m) q);
  high = λ m. make_walk t low.1 a p ∙ walk_ahead t low.1 a p q ∙ sym (walk_ahead t b a p q);
}
row_ahead cell s t b a low high low_part high_part p Ahead Behind ex ey r hs ht hp q k kp =
    let i = k (lies_ahead s t.plane ex) in record {
      low = λ m. make_walk t b high.0 p ∙ walk_ahead t b high.0 p q ∙ i.low m ∙ sym (walk_ahead t b a p q);
      high = λ m. i.high m ∙ sym (walk_ahead t b a p q);
    }
row_ahead cell s t b a low high low_part high_part p Ahead Ahead ex ey r hs ht hp q k kp =
    let i = k (lies_ahead s t.plane ex) in record {
      low = λ m. i.low m ∙ sym (walk_ahead t b a p q);
      high = λ m. make_walk t b high.1 p ∙ walk_ahead t b high.1 p q ∙ i.high m ∙ sym (walk_ahead t b a p q);
    }
row_ahead cell s t b a low high low_part high_part p Across Behind ex ey r hs ht hp q k kp =
    absurd (true≢false (sym r))
row_ahead cell s t b a low high low_part high_part p Across Ahead ex ey r hs ht hp q k kp =
    absurd (true≢false (sym r))
row_ahead cell s t b a low high low_part high_part p Across On ex ey r hs ht hp q k kp =
    absurd (true≢false (sym r))
row_ahead cell s t b a low high low_part high_part p Behind Across ex ey r hs ht hp q k kp =
    absurd (true≢false (sym r))
row_ahead cell s t b a low high low_part high_part p Behind On ex ey r hs ht hp q k kp =
    absurd (true≢false (sym r))
row_ahead cell s t b a low high low_part high_part p Ahead Across ex ey r hs ht hp q k kp =
    absurd (true≢false (sym r))
row_ahead cell s t b a low high low_part high_part p Ahead On ex ey r hs ht hp q k kp =
    absurd (true≢false (sym r))
row_ahead cell s t b a low high low_part high_part p On y ex ey r hs ht hp q k kp = on_never y r

-- a node on the same plane, or on the opposite
node_keeps : (s t : Outline) (b a : BspTree) (p : Coordinates) (parts : BspTree × BspTree) (x y : Bool) →
    is_same t.plane s.plane ≡ x → is_same t.plane (opposite_of s.plane) ≡ y →
    (x ≡ false → y ≡ false → KeepsWalkAt (node t b a) s.plane parts p) → KeepsWalkAt (node t b a) s.plane
    (if x then (b, a) else if y then (a, b) else parts) p
node_keeps s t b a p parts true y ex ey k =
    let e = same_equal t.plane s.plane ex in record {
      low = λ m. sym (walk_behind t b a p (subst (λ (n : Coefficients). value n p <ℤ pos 0) (sym e) m));
      high = λ m. sym (walk_ahead t b a p (subst (λ (n : Coefficients). pos 0 <ℤ value n p) (sym e) m));
    }
node_keeps s t b a p parts false true ex ey k =
    let e = same_equal t.plane (opposite_of s.plane) ey in record {
      low = λ m. sym (walk_ahead t b a p (subst (λ (n : Coefficients). pos 0 <ℤ value n p) (sym e)
          (opposite_above s.plane p m)));
      high = λ m. sym (walk_behind t b a p (subst (λ (n : Coefficients). value n p <ℤ pos 0) (sym e)
          (opposite_below s.plane p m)));
    }
node_keeps s t b a p parts false false ex ey k = k refl refl

keeps : (t : BspTree) (cell : List Coefficients) (s : Outline) → IsOfCell cell t → IsPolygonOfCell cell s →
    (p : Coordinates) → IsInCell cell p → IsOffPlanesOf t p → KeepsWalkAt t s.plane (divide t s) p
keeps inside cell s h hs p hp off = record { low = λ _. refl; high = λ _. refl }
keeps outside cell s h hs p hp off = record { low = λ _. refl; high = λ _. refl }
keeps (node t b a) cell s h hs p hp off =
    let q = t.plane in
    node_keeps s t b a p (parts_by_class (class_of s q) (class_of t s.plane) s t b a (divide b s) (divide a s)
    (divide b (part_behind s q)) (divide a (part_ahead s q))) (is_same q s.plane)
    (is_same q (opposite_of s.plane)) refl refl
    (λ ex ey. elim (signs (value q p)) [
      | inl k ↦ (let inside_b : IsInCell (q ∷ cell) p = record { weight = hp.weight; below = (k, hp.below) } in
          row_behind cell s t b a (divide b s) (divide a s) (divide b (part_behind s q))
          (divide a (part_ahead s q)) p (class_of s q) (class_of t s.plane) refl refl
          (way_of cell s t hs h.0 ex ey) hs h.0 hp k
          (λ l. keeps b (q ∷ cell) s h.1 (lying cell s q hs l) p inside_b (λ m o. off m (inr (inl o))))
          (λ e. keeps b (q ∷ cell) (part_behind s q) h.1 (across_part cell s q hs e) p inside_b
          (λ m o. off m (inr (inl o)))))
      | inr (inl k) ↦ absurd (off q (inl refl) k)
      | inr (inr k) ↦ (let inside_a : IsInCell (opposite_of q ∷ cell) p = record {
        weight = hp.weight;
        below =
            (opposite_below q p k, hp.below);
      } in
          row_ahead cell s t b a (divide b s) (divide a s) (divide b (part_behind s q))
          (divide a (part_ahead s q)) p (class_of s q) (class_of t s.plane) refl refl
          (way_of cell s t hs h.0 ex ey) hs h.0 hp k
          (λ l. keeps a (opposite_of q ∷ cell) s h.2 (lying cell s (opposite_of q) hs l) p inside_a
          (λ m o. off m (inr (inr o))))
          (λ e. keeps a (opposite_of q ∷ cell) (part_ahead s q) h.2 (across_part cell s (opposite_of q) hs
          (across_opposite s q e)) p inside_a (λ m o. off m (inr (inr o)))))
    ])

pub divide_keeps : (t : BspTree) (s : Outline) → KeepWalks t s (divide t s)
divide_keeps t s cell h p hp off = keeps t cell s h.solid h.polygon p hp off
