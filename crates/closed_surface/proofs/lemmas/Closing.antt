-- The facets of a solid of the world box are closed.
use Rattle.std.proofs.Common.{◌≡◌, ◌≢◌, inl, inr, ℕ, zero, suc, ◌+◌, ◌≤◌, ◌<◌, Bool, true, false, ◌&&◌, ◌||◌, List, [], ◌∷◌, ◌++◌, map, flat_map, length, get_or, cond, refl, sym, ap, ap₂, ◌∙◌, subst, true≢false, arith, ℤ, pos, neg_ℤ, ◌+ℤ◌, ◌-ℤ◌, ◌<ℤ◌, unsigned_abs}
use Rattle.std.specs.Prelude.{count_by}
use Rattle.std.specs.List.{All, list_any}
use Rattle.std.proofs.lemmas.Bool.{and_parts}
use Rattle.std.proofs.lemmas.List.{map-append}
use Rattle.std.proofs.lemmas.List.Sums.{sum_by-append}
use Rattle.plane_predicate.specs.declared.unit.Unit.TheVariants.{Whole}
use Rattle.plane_predicate.specs.Space.{Coefficients, Coordinates, value, opposite_of, IsPlane, IsInWorld}
use Rattle.plane_predicate.proofs.lemmas.IntegerRing.{sums, mul_comm_ℤ}
use Rattle.plane_predicate.proofs.lemmas.InUnits.{whole_steps}
use Rattle.plane_predicate.proofs.lemmas.Signs.{signs}
use Rattle.plane_predicate.proofs.lemmas.SamePlanes.{directed_above}
use Rattle.plane_predicate.proofs.lemmas.Vectors.{value-opposite}
use Rattle.plane_polygon.specs.Polygons.{Outline, edge_count, edge_plane, corner, missing_plane}
use Rattle.plane_polygon.specs.Parts.{corners}
use Rattle.bsp_tree.specs.Trees.{BspTree}
use Rattle.bsp_tree.specs.Cells.{world_box, IsInCell, IsOfWorld}
use Rattle.bsp_tree.proofs.lemmas.NearPoints.{direction, value_direction}
use Rattle.bsp_tree.proofs.lemmas.Worlds.{open_world}
use Rattle.facet_cut.specs.Facets.{facets_of}
use Rattle.facet_cut.specs.Sides.{IsFacetOf, BoundSolid}
use Rattle.closed_surface.specs.Ways.{Direction, displacement, dot_product, slope, is_same_point_of_space, is_same_direction, is_opposite_direction}
use Rattle.plane_predicate.specs.Sums.{sum_over}
use Rattle.closed_surface.specs.Closed.{Edge, edges_of, runs_through, count_of_edges_along, count_of_edges_against, is_corner, AreClosed}
use Rattle.closed_surface.proofs.lemmas.Parallels.{dot_above, same_way_parts, opposite_way_parts}
use Rattle.closed_surface.proofs.lemmas.Numbers.{false_by, not_both, not_zero_below, not_zero_above}
use Rattle.closed_surface.specs.Near.{near_point, direction_beside, BoundsSlopes, IsNoCorner}
use Rattle.closed_surface.proofs.Edges.{same_or_not}
use Rattle.closed_surface.proofs.lemmas.Near.{near_on, zero_near}
use Rattle.closed_surface.proofs.Slides.{along_near, against_near}
use Rattle.closed_surface.proofs.lemmas.Each.{Each, each_weaker, each_both, each_from_all, total_same}
use Rattle.closed_surface.proofs.lemmas.Lines.{planes_of, each_plane}
use Rattle.closed_surface.proofs.lemmas.Balanced.{TreePlane, Enough, EnoughBeside, FacetAt, in_near, balanced}
use Rattle.plane_predicate.specs.Indices.{indices_below}

-- ---- numbers that are large enough
abbrev size_planes : List Coefficients → Direction → ℕ
size_planes [] u = 0
size_planes (m ∷ ms) u = unsigned_abs (slope m u) + size_planes ms u

abbrev size_facets : List Outline → Direction → ℕ
size_facets [] u = 0
size_facets (f ∷ fs) u = (unsigned_abs (slope f.plane u) + size_planes f.edges u) + size_facets fs u

abbrev size_all : BspTree → Direction → ℕ
size_all t u = (size_planes (planes_of t) u + size_planes world_box u) + size_facets (facets_of t) u

abbrev size_beside : BspTree → List Coefficients → Direction → ℕ
size_beside t [] v = 0
size_beside t (n ∷ ns) v = (size_all t (direction_beside n v) + size_all t (direction_beside (opposite_of n) v)) + size_beside t ns v

each_size : (ms : List Coefficients) (u : Direction) (number : ℕ) → size_planes ms u ≤ number → Each (λ m. unsigned_abs (slope m u) ≤ number) ms
each_size [] u number h = tt
each_size (m ∷ ms) u number h = (omega arith, each_size ms u number (omega arith))

edge_size : (ms : List Coefficients) (u : Direction) (number : ℕ) → size_planes ms u ≤ number → (l : ℕ) → l < length ms → unsigned_abs (slope (get_or ms l missing_plane) u) ≤ number
edge_size [] u number h l k = absurd (omega arith)
edge_size (m ∷ ms) u number h zero k = omega arith
edge_size (m ∷ ms) u number h (suc l) k = edge_size ms u number (omega arith) l (omega arith)

each_often : (fs : List Outline) (u : Direction) (number : ℕ) → size_facets fs u ≤ number → Each (λ f. BoundsSlopes number f u) fs
each_often [] u number h = tt
each_often (f ∷ fs) u number h = (record { plane = omega arith; edges = edge_size f.edges u number (omega arith) }, each_often fs u number (omega arith))

part_one : (a b c n : ℕ) → (a + b) + c ≤ n → a ≤ n
part_one a b c n h = omega arith

part_two : (a b c n : ℕ) → (a + b) + c ≤ n → b ≤ n
part_two a b c n h = omega arith

part_three : (a b c n : ℕ) → (a + b) + c ≤ n → c ≤ n
part_three a b c n h = omega arith

enough_by : (t : BspTree) (u : Direction) (number : ℕ) → size_all t u ≤ number → Enough t number u
enough_by t u number h = record {
  tree = each_size (planes_of t) u number (part_one (size_planes (planes_of t) u) (size_planes world_box u) (size_facets (facets_of t) u) number h);
  box = each_size world_box u number (part_two (size_planes (planes_of t) u) (size_planes world_box u) (size_facets (facets_of t) u) number h);
  facets = each_often (facets_of t) u number (part_three (size_planes (planes_of t) u) (size_planes world_box u) (size_facets (facets_of t) u) number h);
}

enough_beside : (t : BspTree) (ns : List Coefficients) (v : Direction) (number : ℕ) → size_beside t ns v ≤ number → Each (EnoughBeside t number v) ns
enough_beside t [] v number h = tt
enough_beside t (n ∷ ns) v number h = (
  record {
    first = enough_by t (direction_beside n v) number (part_one (size_all t (direction_beside n v)) (size_all t (direction_beside (opposite_of n) v)) (size_beside t ns v) number h);
    second = enough_by t (direction_beside (opposite_of n) v) number (part_two (size_all t (direction_beside n v)) (size_all t (direction_beside (opposite_of n) v)) (size_beside t ns v) number h);
  },
  enough_beside t ns v number (part_three (size_all t (direction_beside n v)) (size_all t (direction_beside (opposite_of n) v)) (size_beside t ns v) number h),
)

-- ---- a plane is not its opposite
own_negative : (x : ℤ) → pos 0 <ℤ x → x ≡ neg_ℤ x → ⊥
own_negative x h e = omega (arith, sums)

pub not_opposite : (m : Coefficients) → IsPlane m → m ≢ opposite_of m
not_opposite m h e =
    own_negative (value m (direction m)) (subst (λ (x : ℤ). pos 0 <ℤ x) (sym (value_direction m m)) (directed_above m h.directed))
    (ap (λ (k : Coefficients). value k (direction m)) e ∙ value-opposite m (direction m))

-- ---- the corners of the facets
or_parts : (b c : Bool) → (b || c) ≡ false → (b ≡ false) × (c ≡ false)
or_parts true c h = absurd (true≢false h)
or_parts false c h = (refl, h)

or_from : (b c : Bool) → b ≡ false → c ≡ false → (b || c) ≡ false
or_from b c h k = ap₂ (λ (x y : Bool). x || y) h k

any_none : {X : Type 0} (p : X → Bool) (xs ys : List X) → list_any p (xs ++ ys) ≡ false → (list_any p xs ≡ false) × (list_any p ys ≡ false)
any_none p [] ys h = (refl, h)
any_none p (x ∷ xs) ys h =
    let w = or_parts (p x) (list_any p (xs ++ ys)) h in let r = any_none p xs ys w.1 in (or_from (p x) (list_any p xs) w.0 r.0, r.1)

any_last : {X : Type 0} (p : X → Bool) (g : ℕ → X) (k : ℕ) → list_any p (map g (indices_below k)) ≡ false → (i : ℕ) → i < k → p (g i) ≡ false
any_last p g zero h i l = absurd (omega arith)
any_last p g (suc k) h i l =
    let w = any_none p (map g (indices_below k)) (g k ∷ []) (ap (list_any p) (sym (map-append g (indices_below k) (k ∷ []))) ∙ h) in
    elim (same_or_not i k) [
      | inl e ↦ ap (λ (n : ℕ). p (g n)) e ∙ (or_parts (p (g k)) false w.1).0
      | inr a ↦ any_last p g k w.0 i (omega arith)
    ]

no_corners : (fs : List Outline) (q : Coordinates) → is_corner (map corners fs) q ≡ false → Each (λ f. IsNoCorner f q) fs
no_corners [] q h = tt
no_corners (f ∷ fs) q h =
    let w = any_none (λ p. is_same_point_of_space p q) (corners f) (flat_map (λ c. c) (map corners fs)) h in
    (any_last (λ p. is_same_point_of_space p q) (corner f) (edge_count f) w.0, no_corners fs q w.1)

-- ---- the edges of all facets
abbrev difference_at : Coordinates → Direction → Outline → ℤ
difference_at q v f = pos (count_of_edges_along (edges_of (corners f)) q v) -ℤ pos (count_of_edges_against (edges_of (corners f)) q v)

more_apart : (a b c d : ℕ) (s : ℤ) → pos c -ℤ pos d ≡ s → pos (a + c) -ℤ pos (b + d) ≡ (pos a -ℤ pos b) +ℤ s
more_apart a b c d s e = omega (arith, sums)

all_edges : (fs : List Outline) (q : Coordinates) (v : Direction) → pos (count_of_edges_along (flat_map edges_of (map corners fs)) q v) -ℤ pos (count_of_edges_against (flat_map edges_of (map corners fs)) q v) ≡ sum_over (difference_at q v) fs
all_edges [] q v = refl
all_edges (f ∷ fs) q v =
    ap₂ (λ (m n : ℕ). pos m -ℤ pos n)
    (sum_by-append (λ e. cond (runs_through e q && is_same_direction (displacement e.0 e.1) v) 1 0) (edges_of (corners f)) (flat_map edges_of (map corners fs)))
    (sum_by-append (λ e. cond (runs_through e q && is_opposite_direction (displacement e.0 e.1) v) 1 0) (edges_of (corners f)) (flat_map edges_of (map corners fs)))
    ∙ more_apart (count_of_edges_along (edges_of (corners f)) q v) (count_of_edges_against (edges_of (corners f)) q v) (count_of_edges_along (flat_map edges_of (map corners fs)) q v) (count_of_edges_against (flat_map edges_of (map corners fs)) q v) (sum_over (difference_at q v) fs) (all_edges fs q v)

same_number : (m n : ℕ) → pos m -ℤ pos n ≡ pos 0 → m ≡ n
same_number m n e = omega (arith, sums)

-- ---- no direction
dot_exchanged : (u v : Direction) → dot_product u v ≡ dot_product v u
dot_exchanged u v = omega (arith, sums, mul_comm_ℤ u.x v.x, mul_comm_ℤ u.y v.y, mul_comm_ℤ u.z v.z)

least_itself : (n : ℕ) → n ≤ n
least_itself n = omega arith

count_none_by : {X : Type 0} (p : X → Bool) (xs : List X) → ((x : X) → p x ≡ false) → count_by p xs ≡ 0
count_none_by p [] h = refl
count_none_by p (x ∷ xs) h =
    sum_by-append (λ y. cond (p y) 1 0) (x ∷ []) xs ∙ ap₂ (λ (m n : ℕ). m + n) (ap (λ (b : Bool). 0 + cond b 1 0) (h x)) (count_none_by p xs h)

nothing_runs : (edges : List Edge) (q : Coordinates) (v : Direction) → (pos 0 <ℤ dot_product v v → ⊥) → count_of_edges_along edges q v ≡ count_of_edges_against edges q v
nothing_runs edges q v none =
    count_none_by (λ e. runs_through e q && is_same_direction (displacement e.0 e.1) v) edges
    (λ e. false_by _ (λ r. none (dot_above v (displacement e.0 e.1) (λ z. not_zero_above _ (same_way_parts (displacement e.0 e.1) v (and_parts (runs_through e q) (is_same_direction (displacement e.0 e.1) v) r).1).1 (dot_exchanged (displacement e.0 e.1) v ∙ z)))))
    ∙ sym (count_none_by (λ e. runs_through e q && is_opposite_direction (displacement e.0 e.1) v) edges
    (λ e. false_by _ (λ r. none (dot_above v (displacement e.0 e.1) (λ z. not_zero_below _ (opposite_way_parts (displacement e.0 e.1) v (and_parts (runs_through e q) (is_opposite_direction (displacement e.0 e.1) v) r).1).1 (dot_exchanged (displacement e.0 e.1) v ∙ z))))))

-- ---- from the point to one beside it on the line, which is on no plane that doesn't hold the line
module _ (t : BspTree) (h : IsOfWorld t) (bounded : BoundSolid world_box t (facets_of t)) (facets : All (IsFacetOf world_box t) (facets_of t))
    (q : Coordinates) (hq : IsInCell world_box q) (corner_free : Each (λ f. IsNoCorner f q) (facets_of t)) (v : Direction) (hv : pos 0 <ℤ dot_product v v) where
  abbrev steps : ℕ
  steps = size_all t v

  abbrev on_it : Coordinates
  on_it = near_point steps q v

  enough : Enough t steps v
  enough = enough_by t v steps (least_itself steps)

  clear_beside : (m : Coefficients) → unsigned_abs (slope m v) ≤ steps → value m on_it ≡ pos 0 → slope m v ≡ pos 0
  clear_beside m b e = sym (near_on m steps q v (zero_near m steps q v b e)) ∙ e

  planes : Each (TreePlane on_it v) (planes_of t)
  planes =
      each_weaker (λ m. IsPlane m × (unsigned_abs (slope m v) ≤ steps)) (TreePlane on_it v) (λ m k. record { plane = k.0; clear = clear_beside m k.1; proper = not_opposite m k.0 }) (planes_of t)
      (each_both IsPlane (λ m. unsigned_abs (slope m v) ≤ steps) (planes_of t) (each_plane t world_box h) enough.tree)

  facets_there : Each (FacetAt t on_it v) (facets_of t)
  facets_there =
      each_weaker (λ f. IsFacetOf world_box t f × BoundsSlopes steps f v) (FacetAt t on_it v)
      (λ f k. record { polygon = k.0.polygon; plane = k.0.plane; clear = record { plane = clear_beside f.plane k.1.plane; edges = λ l m. clear_beside (edge_plane f l) (k.1.edges l m) } })
      (facets_of t) (each_both (IsFacetOf world_box t) (λ f. BoundsSlopes steps f v) (facets_of t) (each_from_all (IsFacetOf world_box t) (facets_of t) facets) enough.facets)

  there : sum_over (difference_at on_it v) (facets_of t) ≡ pos 0
  there =
      balanced t bounded on_it (in_near world_box steps q v enough.box hq) v hv (size_beside t (planes_of t) v) planes
      (enough_beside t (planes_of t) v (size_beside t (planes_of t) v) (least_itself (size_beside t (planes_of t) v))) facets_there

  pub here : sum_over (difference_at q v) (facets_of t) ≡ pos 0
  here =
      total_same (λ f. IsFacetOf world_box t f × (BoundsSlopes steps f v × IsNoCorner f q)) (difference_at q v) (difference_at on_it v)
      (λ f k. sym (ap₂ (λ (m n : ℕ). pos m -ℤ pos n) (along_near f k.0.polygon steps q hq.weight k.1.1 v k.1.0) (against_near f k.0.polygon steps q hq.weight k.1.1 v k.1.0)))
      (facets_of t)
      (each_both (IsFacetOf world_box t) (λ f. BoundsSlopes steps f v × IsNoCorner f q) (facets_of t) (each_from_all (IsFacetOf world_box t) (facets_of t) facets)
      (each_both (λ f. BoundsSlopes steps f v) (λ f. IsNoCorner f q) (facets_of t) enough.facets corner_free))
      ∙ there

pub facets_closed : (t : BspTree) → IsOfWorld t → BoundSolid world_box t (facets_of t) → All (IsFacetOf world_box t) (facets_of t) → AreClosed Whole (map corners (facets_of t))
facets_closed t h bounded facets q v world free = elim (signs (dot_product v v)) [
  | inl x ↦ nothing_runs (flat_map edges_of (map corners (facets_of t))) q v (λ y. not_both _ y x)
  | inr (inl x) ↦ nothing_runs (flat_map edges_of (map corners (facets_of t))) q v (λ y. not_zero_above _ y x)
  | inr (inr x) ↦ same_number _ _ (all_edges (facets_of t) q v
      ∙ here t h bounded facets q ((open_world q).1 (subst IsInWorld (whole_steps q) world)) (no_corners (facets_of t) q free) v x)
]
