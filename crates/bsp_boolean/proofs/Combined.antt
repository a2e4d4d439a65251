-- Two solids as one: the walks, the cells and the planes of what they give.
use Rattle.std.proofs.Common.{◌≡◌, ◌⊎◌, inl, inr, Bool, true, false, ◌&&◌, ◌||◌, if◌then◌else◌, List, ◌∷◌, refl, sym, ap, ◌∙◌, pos, ◌<ℤ◌}
use Rattle.plane_predicate.specs.Space.{Coefficients, Coordinates, value, opposite_of}
use Rattle.plane_predicate.proofs.lemmas.Signs.{signs}
use Rattle.plane_polygon.specs.Polygons.{Outline}
use Rattle.bsp_tree.specs.Trees.{BspTree, inside, outside, node, walk, node_or_leaf}
use Rattle.bsp_tree.specs.Cells.{IsInCell, IsOfCell, IsOffPlanesOf, IsNodePlaneOf}
use Rattle.bsp_tree.proofs.lemmas.Opposites.{opposite_below}
use Rattle.bsp_tree.proofs.lemmas.Walks.{make_walk, walk_behind, walk_ahead}
use Rattle.bsp_tree.specs.Partitions.{divide}
use Rattle.bsp_tree.proofs.lemmas.DividedHalves.{divide_halves}
use Rattle.bsp_tree.proofs.lemmas.DividedPlanes.{divide_planes}
use Rattle.bsp_tree.proofs.lemmas.DividedWalks.{divide_keeps}
use Rattle.bsp_boolean.specs.Combined.{combination}

-- one of two truths where the inside decides, and else both
abbrev pub either_or_both : Bool → Bool → Bool → Bool
either_or_both true x y = x || y
either_or_both false x y = x && y

inside_left : (d : Bool) (r : BspTree) (p : Coordinates) → walk (if d then inside else r) p
    ≡ either_or_both d true (walk r p)
inside_left true r p = refl
inside_left false r p = refl

outside_left : (d : Bool) (r : BspTree) (p : Coordinates) → walk (if d then r else outside) p
    ≡ either_or_both d false (walk r p)
outside_left true r p = refl
outside_left false r p = refl

always : (x : Bool) → true ≡ (x || true)
always true = refl
always false = refl

with_true : (x : Bool) → x ≡ (x && true)
with_true true = refl
with_true false = refl

with_false : (x : Bool) → x ≡ (x || false)
with_false true = refl
with_false false = refl

never : (x : Bool) → false ≡ (x && false)
never true = refl
never false = refl

inside_right : (d : Bool) (l : BspTree) (p : Coordinates) → walk (if d then inside else l) p
    ≡ either_or_both d (walk l p) true
inside_right true l p = always (walk l p)
inside_right false l p = with_true (walk l p)

outside_right : (d : Bool) (l : BspTree) (p : Coordinates) → walk (if d then l else outside) p
    ≡ either_or_both d (walk l p) false
outside_right true l p = with_false (walk l p)
outside_right false l p = never (walk l p)

-- the walk of a node goes on at the side of the point, in the node's solids and in those that are put
-- together from them
on_a_side : (d : Bool) (s : Outline) (b a x y : BspTree) (r : Bool) (p : Coordinates) →
    (value s.plane p ≡ pos 0 → ⊥) →
    (value s.plane p <ℤ pos 0 → walk x p ≡ either_or_both d (walk b p) r) →
    (pos 0 <ℤ value s.plane p → walk y p ≡ either_or_both d (walk a p) r) →
    walk (node_or_leaf s x y) p ≡ either_or_both d (walk (node s b a) p) r
on_a_side d s b a x y r p off low high = make_walk s x y p ∙ (elim (signs (value s.plane p)) [
  | inl h ↦ walk_behind s x y p h ∙ low h
      ∙ ap (λ (w : Bool). either_or_both d w r) (sym (walk_behind s b a p h))
  | inr (inl e) ↦ absurd (off e)
  | inr (inr h) ↦ walk_ahead s x y p h ∙ high h
      ∙ ap (λ (w : Bool). either_or_both d w r) (sym (walk_ahead s b a p h))
])

-- for a point of the cell off all planes of both, the walk is the operation on the two walks
pub combined_walks : (d : Bool) (l r : BspTree) (cell : List Coefficients) → IsOfCell cell l → IsOfCell cell r →
    (p : Coordinates) → IsInCell cell p → IsOffPlanesOf l p → IsOffPlanesOf r p →
    walk (combination d l r) p ≡ either_or_both d (walk l p) (walk r p)
combined_walks d inside r cell hl hr p hp ol or = inside_left d r p
combined_walks d outside r cell hl hr p hp ol or = outside_left d r p
combined_walks d (node s b a) inside cell hl hr p hp ol or = inside_right d (node s b a) p
combined_walks d (node s b a) outside cell hl hr p hp ol or = outside_right d (node s b a) p
combined_walks d (node s b a) (node t c e) cell hl hr p hp ol or =
    let r = node t c e in
    let parts = divide r s in
    let halves = divide_halves r s cell (record { solid = hr; polygon = hl.0 }) in
    let keeps = divide_keeps r s cell (record { solid = hr; polygon = hl.0 }) p hp or in
    let planes = divide_planes r s in
    on_a_side d s b a (combination d b parts.0) (combination d a parts.1) (walk r p) p (ol s.plane (inl refl))
    (λ h. combined_walks d b parts.0 (s.plane ∷ cell) hl.1 halves.0 p
    (record { weight = hp.weight; below = (h, hp.below) })
    (λ m k. ol m (inr (inl k))) (λ m k. or m (planes.0 m k))
    ∙ ap (either_or_both d (walk b p)) (keeps.low h))
    (λ h. combined_walks d a parts.1 (opposite_of s.plane ∷ cell) hl.2 halves.1 p
    (record { weight = hp.weight; below = (opposite_below s.plane p h, hp.below) })
    (λ m k. ol m (inr (inr k))) (λ m k. or m (planes.1 m k))
    ∙ ap (either_or_both d (walk a p)) (keeps.high h))

-- what holds of the leaves and of a node holds of what is made of the node
made : (P : BspTree → Type 0) (s : Outline) (b a : BspTree) → P inside → P outside → P (node s b a) → P (node_or_leaf s b a)
made P s inside inside hi ho hn = hi
made P s outside outside hi ho hn = ho
made P s inside outside hi ho hn = hn
made P s outside inside hi ho hn = hn
made P s inside (node t c d) hi ho hn = hn
made P s outside (node t c d) hi ho hn = hn
made P s (node t c d) a hi ho hn = hn

either_cell : (d : Bool) (x y : BspTree) (cell : List Coefficients) → IsOfCell cell x → IsOfCell cell y →
    IsOfCell cell (if d then x else y)
either_cell true x y cell hx hy = hx
either_cell false x y cell hx hy = hy

-- of each cell that both are of
pub combined_cells : (d : Bool) (l r : BspTree) (cell : List Coefficients) → IsOfCell cell l → IsOfCell cell r →
    IsOfCell cell (combination d l r)
combined_cells d inside r cell hl hr = either_cell d inside r cell tt hr
combined_cells d outside r cell hl hr = either_cell d r outside cell hr tt
combined_cells d (node s b a) inside cell hl hr = either_cell d inside (node s b a) cell tt hl
combined_cells d (node s b a) outside cell hl hr = either_cell d (node s b a) outside cell hl tt
combined_cells d (node s b a) (node t c e) cell hl hr =
    let parts = divide (node t c e) s in
    let halves = divide_halves (node t c e) s cell (record { solid = hr; polygon = hl.0 }) in
    made (IsOfCell cell) s (combination d b parts.0) (combination d a parts.1) tt tt (
      hl.0,
      combined_cells d b parts.0 (s.plane ∷ cell) hl.1 halves.0,
      combined_cells d a parts.1 (opposite_of s.plane ∷ cell) hl.2 halves.1,
    )

either_plane : (d : Bool) (x y : BspTree) (m : Coefficients) → IsNodePlaneOf m (if d then x else y) →
    IsNodePlaneOf m x ⊎ IsNodePlaneOf m y
either_plane true x y m h = inl h
either_plane false x y m h = inr h

exchanged : {P Q : Type 0} → P ⊎ Q → Q ⊎ P
exchanged (inl h) = inr h
exchanged (inr h) = inl h

-- no plane is new
pub combined_planes : (d : Bool) (l r : BspTree) (m : Coefficients) → IsNodePlaneOf m (combination d l r) →
    IsNodePlaneOf m l ⊎ IsNodePlaneOf m r
combined_planes d inside r m h = either_plane d inside r m h
combined_planes d outside r m h = exchanged (either_plane d r outside m h)
combined_planes d (node s b a) inside m h = exchanged (either_plane d inside (node s b a) m h)
combined_planes d (node s b a) outside m h = either_plane d (node s b a) outside m h
combined_planes d (node s b a) (node t c e) m h =
    let r = node t c e in
    let parts = divide r s in
    let planes = divide_planes r s in
    elim (made (λ t. IsNodePlaneOf m t → IsNodePlaneOf m (node s (combination d b parts.0) (combination d a parts.1))) s
    (combination d b parts.0) (combination d a parts.1)
    (λ k. absurd k) (λ k. absurd k) (λ k. k) h) [
      | inl e ↦ inl (inl e)
      | inr (inl k) ↦ elim (combined_planes d b parts.0 m k)
          [ inl i ↦ inl (inr (inl i)) | inr j ↦ inr (planes.0 m j) ]
      | inr (inr k) ↦ elim (combined_planes d a parts.1 m k)
          [ inl i ↦ inl (inr (inr i)) | inr j ↦ inr (planes.1 m j) ]
    ]
