-- The part of a polygon behind a plane that is across it is a polygon.
use Rattle.std.proofs.Common.{◌≡◌, ◌≢◌, ◌⊎◌, inl, inr, ℕ, zero, suc, ◌-◌, ◌<◌, ◌≤◌, true, false, List, [], ◌∷◌, ◌++◌, length, map, get_or, length-append, refl, sym, ap, ap₂, ◌∙◌, subst, subst₂, arith, ℤ, pos, ◌<ℤ◌, ◌≤ℤ◌, int_lt, append-nil, eqb}
use Rattle.std.proofs.lemmas.List.{get_or_append_left, get_or-append_right, get_or-map}
use Rattle.std.proofs.lemmas.Int.{ints}
use Rattle.std.proofs.lemmas.Bool.Decides.{eqb_tells}
use Rattle.std.proofs.Math.ListN.{length-map}
use Rattle.plane_predicate.specs.Space.{Coefficients, Coordinates, value, meeting_by_cramers_rule}
use Rattle.plane_polygon.specs.Polygons.{Outline, edge_plane, edge_count, corner, IsPolygon, missing_plane}
use Rattle.plane_polygon.specs.Parts.{part_behind}
use Rattle.plane_polygon.proofs.lemmas.Hull.{after_inside, after_last, corner_on, corner_on_edge, corner_on_next, far_behind}
use Rattle.plane_polygon.proofs.lemmas.Rounds.{step, step_below, step_round, at_most, corner_from, edge_from, behind_from, not_ahead_from}
use Rattle.plane_polygon.proofs.lemmas.Cuts.{Crossing, crossing_turns, crossing_behind, crossing_turns_in, crossing_behind_in}
use Rattle.plane_polygon.proofs.Rotations.{turned_polygon, list_turns}
use Rattle.plane_polygon.proofs.lemmas.PartLists.{Arc, arc_edges, arc_listed}
use Rattle.plane_predicate.specs.Indices.{indices_below, index_after}

pub below : (x : ℤ) → int_lt x (pos 0) ≡ true → x <ℤ pos 0
below x h = omega (arith, ints)

pub not_below : (x : ℤ) → int_lt x (pos 0) ≡ false → pos 0 ≤ℤ x
not_below x h = omega (arith, ints)

length_up_to : (n : ℕ) → length (indices_below n) ≡ n
length_up_to zero = refl
length_up_to (suc n) = length-append (indices_below n) (n ∷ []) ∙ omega (arith, length_up_to n)

nothing_left : (n : ℕ) → n - n ≡ 0
nothing_left n = omega arith

get_up_to : (n t d : ℕ) → t < n → get_or (indices_below n) t d ≡ t
get_up_to zero t d h = absurd (omega arith)
get_up_to (suc n) t d h =
    elim (at_most t n (omega arith)) [
      | inl e ↦ get_or-append_right (indices_below n) (n ∷ []) n t d (length_up_to n) (omega arith) ∙ (let z : t - n ≡ 0 = omega arith in ap (λ (i : ℕ). get_or (n ∷ []) i d) z) ∙ sym e
      | inr b ↦ get_or_append_left (indices_below n) (n ∷ []) d t (omega (arith, length_up_to n)) ∙ get_up_to n t d b
    ]

pub at_most_or : (i v : ℕ) → (i ≤ v) ⊎ (suc v ≤ i)
at_most_or i v = grind arith

not_both : (x : ℤ) → pos 0 <ℤ x → x <ℤ pos 0 → ⊥
not_both x h k = omega (arith, ints)

-- an arc of corners behind m, and one corner that is ahead of it
pub record Cut (s : Outline) (m : Coefficients) (a v : ℕ) : Type 0 where
  pub polygon : IsPolygon s
  pub arc : Arc s m a (suc v)
  pub far : ℕ
  pub far_below : far < edge_count s
  pub ahead : pos 0 <ℤ value m (corner_from s a far)

abbrev pub arc_outline : Outline → Coefficients → ℕ → ℕ → Outline
arc_outline s m a v = record { plane = s.plane; edges = arc_edges s m a (suc v) }

pub arc_sides : (s : Outline) (m : Coefficients) (a v : ℕ) → edge_count (arc_outline s m a v) ≡ suc (suc (suc v))
arc_sides s m a v = length-append (map (edge_from s a) (indices_below (suc (suc v)))) (m ∷ []) ∙ omega (arith, length-map (indices_below (suc (suc v))) (edge_from s a), length_up_to (suc (suc v)))

pub arc_edge : (s : Outline) (m : Coefficients) (a v t : ℕ) → t < suc (suc v) → edge_plane (arc_outline s m a v) t ≡ edge_from s a t
arc_edge s m a v t h =
    let l = length-map (indices_below (suc (suc v))) (edge_from s a) ∙ length_up_to (suc (suc v)) in
    get_or_append_left (map (edge_from s a) (indices_below (suc (suc v)))) (m ∷ []) missing_plane t (omega arith)
    ∙ get_or-map (edge_from s a) (indices_below (suc (suc v))) t 0 missing_plane (omega (arith, length_up_to (suc (suc v))))
    ∙ ap (edge_from s a) (get_up_to (suc (suc v)) t 0 h)

pub arc_new : (s : Outline) (m : Coefficients) (a v : ℕ) → edge_plane (arc_outline s m a v) (suc (suc v)) ≡ m
arc_new s m a v =
    let l = length-map (indices_below (suc (suc v))) (edge_from s a) ∙ length_up_to (suc (suc v)) in
    get_or-append_right (map (edge_from s a) (indices_below (suc (suc v)))) (m ∷ []) (suc (suc v)) (suc (suc v)) missing_plane l (omega arith)
    ∙ ap (λ (i : ℕ). get_or (m ∷ []) i missing_plane) (nothing_left (suc (suc v)))

-- ---- the ends of the arc
pub leaving : (s : Outline) (m : Coefficients) (a v : ℕ) → Cut s m a v → Crossing s.plane (edge_from s a (suc v)) m (corner_from s a v) (corner_from s a (suc v))
leaving s m a v h = record {
  p_weight = h.polygon.turns_left (step (edge_count s) a v) (step_below (edge_count s) a v h.arc.start);
  q_weight = h.polygon.turns_left (step (edge_count s) a (suc v)) (step_below (edge_count s) a (suc v) h.arc.start);
  p_on = corner_on s (step (edge_count s) a v);
  q_on = corner_on s (step (edge_count s) a (suc v));
  p_edge = corner_on_next s (step (edge_count s) a v);
  q_edge = corner_on_edge s (step (edge_count s) a (suc v));
  before = below (value m (corner_from s a v)) (h.arc.behind v (omega arith));
  past = not_below (value m (corner_from s a (suc v))) (h.arc.past (suc v) (omega arith) h.arc.not_all);
}

last_round : (s : Outline) (a : ℕ) → a < edge_count s → index_after (edge_count s) (step (edge_count s) a (edge_count s - 1)) ≡ a
last_round s a h = step_round (edge_count s) a (edge_count s - 1) h (omega arith)

pub coming : (s : Outline) (m : Coefficients) (a v : ℕ) → Cut s m a v → Crossing s.plane (edge_from s a 0) m (corner_from s a 0) (corner_from s a (edge_count s - 1))
coming s m a v h =
    let high : edge_count s - 1 < edge_count s = omega (arith, h.arc.start) in
    let low : suc v ≤ edge_count s - 1 = omega (arith, h.arc.not_all) in record {
      p_weight = h.polygon.turns_left a h.arc.start;
      q_weight = h.polygon.turns_left (step (edge_count s) a (edge_count s - 1)) (step_below (edge_count s) a (edge_count s - 1) h.arc.start);
      p_on = corner_on s a;
      q_on = corner_on s (step (edge_count s) a (edge_count s - 1));
      p_edge = corner_on_edge s a;
      q_edge = subst (λ (i : ℕ). value (edge_plane s i) (corner_from s a (edge_count s - 1)) ≡ pos 0) (last_round s a h.arc.start) (corner_on_next s (step (edge_count s) a (edge_count s - 1)));
      before = below (value m (corner_from s a 0)) (h.arc.behind 0 (omega arith));
      past = not_below (value m (corner_from s a (edge_count s - 1))) (h.arc.past (edge_count s - 1) low high);
    }

-- ---- its corners
pub leaves : (s : Outline) (m : Coefficients) (a v : ℕ) → Cut s m a v → pos 0 <ℤ (meeting_by_cramers_rule s.plane (edge_from s a (suc v)) m).w
leaves s m a v h =
    crossing_turns s.plane (edge_from s a (suc v)) (edge_plane s (index_after (edge_count s) (step (edge_count s) a (suc v)))) m (corner_from s a v) (corner_from s a (suc v)) (leaving s m a v h)
    (h.polygon.turns_left (step (edge_count s) a (suc v)) (step_below (edge_count s) a (suc v) h.arc.start))
    (far_behind s h.polygon (step (edge_count s) a v) (step_below (edge_count s) a v h.arc.start))
    (corner_on_next s (step (edge_count s) a (suc v)))

pub comes : (s : Outline) (m : Coefficients) (a v : ℕ) → Cut s m a v → pos 0 <ℤ (meeting_by_cramers_rule s.plane m (edge_from s a 0)).w
comes s m a v h =
    let three = h.polygon.three in
    crossing_turns_in s.plane (edge_from s a 0) (edge_from s a (edge_count s - 1)) m (corner_from s a 0) (corner_from s a (edge_count s - 1)) (coming s m a v h)
    (subst (λ (i : ℕ). pos 0 <ℤ (meeting_by_cramers_rule s.plane (edge_from s a (edge_count s - 1)) (edge_plane s i)).w) (last_round s a h.arc.start) (h.polygon.turns_left (step (edge_count s) a (edge_count s - 1)) (step_below (edge_count s) a (edge_count s - 1) h.arc.start)))
    (behind_from s h.polygon a 0 (edge_count s - 1) h.arc.start (omega arith) (omega arith) (omega arith) (omega arith) (λ _. omega arith))
    (corner_on_edge s (step (edge_count s) a (edge_count s - 1)))

-- a corner that is ahead of m isn't one of those behind it
far_past : (s : Outline) (m : Coefficients) (a v : ℕ) (h : Cut s m a v) → suc v ≤ h.far
far_past s m a v h = elim (at_most_or h.far v) [ inl b ↦ absurd (not_both (value m (corner_from s a h.far)) h.ahead (below (value m (corner_from s a h.far)) (h.arc.behind h.far (omega arith)))) | inr b ↦ b ]

far_is : (s : Outline) (m : Coefficients) (a v : ℕ) (h : Cut s m a v) → suc (suc v) ≡ edge_count s → (i : ℕ) → suc i ≡ edge_count s → h.far ≡ i
far_is s m a v h e i f = let b = far_past s m a v h in let c = h.far_below in omega arith

-- where one corner alone isn't behind m, it is ahead of it
alone_ahead : (s : Outline) (m : Coefficients) (a v : ℕ) → Cut s m a v → suc (suc v) ≡ edge_count s → (i : ℕ) → suc i ≡ edge_count s → pos 0 <ℤ value m (corner_from s a i)
alone_ahead s m a v h e i f = let w : h.far ≡ i = far_is s m a v h e i f in subst (λ (n : ℕ). pos 0 <ℤ value m (corner_from s a n)) w h.ahead

leaving_case : (s : Outline) (m : Coefficients) (a v j : ℕ) → Cut s m a v → j ≤ v → (suc (suc v) ≡ edge_count s) ⊎ (suc (suc v) < edge_count s) → ((eqb j 0 ≡ true) × (j ≡ 0)) ⊎ ((eqb j 0 ≡ false) × (j ≢ 0)) →
    (value (edge_from s a j) (corner_from s a (suc v)) <ℤ pos 0) ⊎ ((value (edge_from s a j) (corner_from s a v) <ℤ pos 0) × (pos 0 <ℤ value m (corner_from s a (suc v))))
leaving_case s m a v j h l (inr b) z = inl (behind_from s h.polygon a (suc v) j h.arc.start h.arc.not_all (omega (arith, h.arc.not_all)) (omega arith) (omega arith) (λ e. absurd (omega arith)))
leaving_case s m a v j h l (inl e) (inr z) = inl (behind_from s h.polygon a (suc v) j h.arc.start h.arc.not_all (omega (arith, h.arc.not_all)) (omega arith) (omega arith) (λ _. z.1))
leaving_case s m a v j h l (inl e) (inl z) =
    let three = h.polygon.three in
    inr (behind_from s h.polygon a v j h.arc.start (omega arith) (omega arith) (omega arith) (omega arith) (λ f. absurd (omega arith)), alone_ahead s m a v h e (suc v) e)

coming_case : (s : Outline) (m : Coefficients) (a v j : ℕ) → Cut s m a v → 1 ≤ j → j ≤ suc v → ((eqb j (edge_count s - 1) ≡ true) × (j ≡ edge_count s - 1)) ⊎ ((eqb j (edge_count s - 1) ≡ false) × (j ≢ edge_count s - 1)) →
    (value (edge_from s a j) (corner_from s a (edge_count s - 1)) <ℤ pos 0) ⊎ ((value (edge_from s a j) (corner_from s a 0) <ℤ pos 0) × (pos 0 <ℤ value m (corner_from s a (edge_count s - 1))))
coming_case s m a v j h l b (inr z) = let some = h.arc.not_all in inl (behind_from s h.polygon a (edge_count s - 1) j h.arc.start (omega arith) (omega arith) z.1 (omega arith) (λ _. omega arith))
coming_case s m a v j h l b (inl z) =
    let three = h.polygon.three in let some = h.arc.not_all in let e = z.1 in
    inr (behind_from s h.polygon a 0 j h.arc.start (omega arith) (omega arith) (omega arith) (omega arith) (λ f. absurd (omega arith)), alone_ahead s m a v h (omega arith) (edge_count s - 1) (omega arith))

leaving_behind : (s : Outline) (m : Coefficients) (a v j : ℕ) → Cut s m a v → j ≤ v → value (edge_from s a j) (meeting_by_cramers_rule s.plane (edge_from s a (suc v)) m) <ℤ pos 0
leaving_behind s m a v j h l =
    let three = h.polygon.three in let some = h.arc.not_all in
    crossing_behind s.plane (edge_from s a (suc v)) m (edge_from s a j) (corner_from s a v) (corner_from s a (suc v)) (leaving s m a v h) (leaves s m a v h)
    (not_ahead_from s h.polygon a v j h.arc.start (omega arith) (omega arith))
    (not_ahead_from s h.polygon a (suc v) j h.arc.start some (omega arith))
    (leaving_case s m a v j h l (at_most (suc (suc v)) (edge_count s) some) (eqb_tells j 0))

coming_behind : (s : Outline) (m : Coefficients) (a v j : ℕ) → Cut s m a v → 1 ≤ j → j ≤ suc v → value (edge_from s a j) (meeting_by_cramers_rule s.plane m (edge_from s a 0)) <ℤ pos 0
coming_behind s m a v j h l b =
    let three = h.polygon.three in let some = h.arc.not_all in
    crossing_behind_in s.plane (edge_from s a 0) m (edge_from s a j) (corner_from s a 0) (corner_from s a (edge_count s - 1)) (coming s m a v h) (comes s m a v h)
    (not_ahead_from s h.polygon a 0 j h.arc.start (omega arith) (omega arith))
    (not_ahead_from s h.polygon a (edge_count s - 1) j h.arc.start (omega arith) (omega arith))
    (coming_case s m a v j h l b (eqb_tells j (edge_count s - 1)))

-- which of the arc's corners corner i is
pub data Which (v i : ℕ) : Type 0 where
  old : i ≤ v → Which v i
  out : i ≡ suc v → Which v i
  into : i ≡ suc (suc v) → Which v i

pub which : (v i : ℕ) → i < suc (suc (suc v)) → Which v i
which v i h = elim (at_most_or i v) [ inl b ↦ old b | inr b ↦ elim (at_most_or i (suc v)) [ inl c ↦ out (omega arith) | inr c ↦ into (omega arith) ] ]

pub arc_corner : (s : Outline) (m : Coefficients) (a v i : ℕ) → i ≤ v → corner (arc_outline s m a v) i ≡ corner_from s a i
arc_corner s m a v i l =
    let k = arc_sides s m a v in
    let e : index_after (edge_count (arc_outline s m a v)) i ≡ suc i = ap (λ (k : ℕ). index_after k i) k ∙ after_inside (suc (suc (suc v))) i (omega arith) in
    ap₂ (meeting_by_cramers_rule s.plane) (arc_edge s m a v i (omega arith)) (ap (edge_plane (arc_outline s m a v)) e ∙ arc_edge s m a v (suc i) (omega arith))

pub arc_out : (s : Outline) (m : Coefficients) (a v : ℕ) → corner (arc_outline s m a v) (suc v) ≡ meeting_by_cramers_rule s.plane (edge_from s a (suc v)) m
arc_out s m a v =
    let k = arc_sides s m a v in
    let e : index_after (edge_count (arc_outline s m a v)) (suc v) ≡ suc (suc v) = ap (λ (k : ℕ). index_after k (suc v)) k ∙ after_inside (suc (suc (suc v))) (suc v) (omega arith) in
    ap₂ (meeting_by_cramers_rule s.plane) (arc_edge s m a v (suc v) (omega arith)) (ap (edge_plane (arc_outline s m a v)) e ∙ arc_new s m a v)

pub arc_into : (s : Outline) (m : Coefficients) (a v : ℕ) → corner (arc_outline s m a v) (suc (suc v)) ≡ meeting_by_cramers_rule s.plane m (edge_from s a 0)
arc_into s m a v =
    let k = arc_sides s m a v in
    let e : index_after (edge_count (arc_outline s m a v)) (suc (suc v)) ≡ 0 = ap (λ (k : ℕ). index_after k (suc (suc v))) k ∙ after_last (suc (suc (suc v))) (suc (suc v)) refl in
    ap₂ (meeting_by_cramers_rule s.plane) (arc_new s m a v) (ap (edge_plane (arc_outline s m a v)) e ∙ arc_edge s m a v 0 (omega arith))

arc_turns : (s : Outline) (m : Coefficients) (a v i : ℕ) → Cut s m a v → Which v i → pos 0 <ℤ (corner (arc_outline s m a v) i).w
arc_turns s m a v i h (old l) = subst (λ (c : Coordinates). pos 0 <ℤ c.w) (sym (arc_corner s m a v i l)) (h.polygon.turns_left (step (edge_count s) a i) (step_below (edge_count s) a i h.arc.start))
arc_turns s m a v i h (out e) = subst (λ (j : ℕ). pos 0 <ℤ (corner (arc_outline s m a v) j).w) (sym e) (subst (λ (c : Coordinates). pos 0 <ℤ c.w) (sym (arc_out s m a v)) (leaves s m a v h))
arc_turns s m a v i h (into e) = subst (λ (j : ℕ). pos 0 <ℤ (corner (arc_outline s m a v) j).w) (sym e) (subst (λ (c : Coordinates). pos 0 <ℤ c.w) (sym (arc_into s m a v)) (comes s m a v h))

-- edge j is strictly behind corner i
abbrev Behind : Outline → ℕ → ℕ → Type 0
Behind r i j = value (edge_plane r j) (corner r i) <ℤ pos 0

by_parts : (e f : Coefficients) (p q : Coordinates) → e ≡ f → p ≡ q → value f q <ℤ pos 0 → value e p <ℤ pos 0
by_parts e f p q x y h = subst₂ (λ (e : Coefficients) (p : Coordinates). value e p <ℤ pos 0) (sym x) (sym y) h

old_behind : (s : Outline) (m : Coefficients) (a v i j : ℕ) → Cut s m a v → i ≤ v → j < suc (suc v) → j ≢ i → j ≢ index_after (suc (suc (suc v))) i → Behind (arc_outline s m a v) i j
old_behind s m a v i j h l b n o =
    let some = h.arc.not_all in
    let e = after_inside (suc (suc (suc v))) i (omega arith) in
    by_parts (edge_plane (arc_outline s m a v) j) (edge_from s a j) (corner (arc_outline s m a v) i) (corner_from s a i) (arc_edge s m a v j b) (arc_corner s m a v i l)
    (behind_from s h.polygon a i j h.arc.start (omega arith) (omega arith) n (λ w. o (w ∙ sym e)) (λ w. absurd (omega arith)))

into_behind : (s : Outline) (m : Coefficients) (a v i j : ℕ) → Cut s m a v → i ≡ suc (suc v) → j ≤ suc v → j ≢ index_after (suc (suc (suc v))) i → Behind (arc_outline s m a v) i j
into_behind s m a v i j h e b o =
    let z : index_after (suc (suc (suc v))) i ≡ 0 = after_last (suc (suc (suc v))) i (ap suc e) in
    let nonzero : j ≢ 0 = λ w. o (w ∙ sym z) in
    by_parts (edge_plane (arc_outline s m a v) j) (edge_from s a j) (corner (arc_outline s m a v) i) (meeting_by_cramers_rule s.plane m (edge_from s a 0)) (arc_edge s m a v j (omega arith)) (ap (corner (arc_outline s m a v)) e ∙ arc_into s m a v) (coming_behind s m a v j h (omega arith) b)

arc_behind : (s : Outline) (m : Coefficients) (a v i j : ℕ) → Cut s m a v → Which v i → Which v j → j ≢ i → j ≢ index_after (suc (suc (suc v))) i → Behind (arc_outline s m a v) i j
arc_behind s m a v i j h (old l) (into e) n o =
    by_parts (edge_plane (arc_outline s m a v) j) m (corner (arc_outline s m a v) i) (corner_from s a i) (ap (edge_plane (arc_outline s m a v)) e ∙ arc_new s m a v) (arc_corner s m a v i l)
    (below (value m (corner_from s a i)) (h.arc.behind i (omega arith)))
arc_behind s m a v i j h (old l) (old b) n o = old_behind s m a v i j h l (omega arith) n o
arc_behind s m a v i j h (old l) (out e) n o = old_behind s m a v i j h l (omega arith) n o
arc_behind s m a v i j h (out e) (old b) n o =
    by_parts (edge_plane (arc_outline s m a v) j) (edge_from s a j) (corner (arc_outline s m a v) i) (meeting_by_cramers_rule s.plane (edge_from s a (suc v)) m) (arc_edge s m a v j (omega arith)) (ap (corner (arc_outline s m a v)) e ∙ arc_out s m a v) (leaving_behind s m a v j h b)
arc_behind s m a v i j h (out e) (out f) n o = absurd (n (omega arith))
arc_behind s m a v i j h (out e) (into f) n o = absurd (o (f ∙ sym (ap (index_after (suc (suc (suc v)))) e ∙ after_inside (suc (suc (suc v))) (suc v) (omega arith))))
arc_behind s m a v i j h (into e) (into f) n o = absurd (n (omega arith))
arc_behind s m a v i j h (into e) (old b) n o = into_behind s m a v i j h e (omega arith) o
arc_behind s m a v i j h (into e) (out f) n o = into_behind s m a v i j h e (omega arith) o

pub arc_polygon : (s : Outline) (m : Coefficients) (a v : ℕ) → Cut s m a v → IsPolygon (arc_outline s m a v)
arc_polygon s m a v h =
    let k = arc_sides s m a v in
    record {
      three = omega arith;
      turns_left = λ i l. arc_turns s m a v i h (which v i (omega arith));
      behind = λ i j l b n o. arc_behind s m a v i j h (which v i (omega arith)) (which v j (omega arith)) n (subst (λ (k : ℕ). j ≢ index_after k i) k o);
    }

listed_either : (m : Coefficients) (xs ys : List Coefficients) → IsPolygon (record { plane = m; edges = xs ++ ys }) → IsPolygon (record { plane = m; edges = ys ++ xs })
listed_either m xs [] p = subst (λ (es : List Coefficients). IsPolygon (record { plane = m; edges = es })) (append-nil xs) p
listed_either m xs (y ∷ ys) p = turned_polygon (record { plane = m; edges = xs ++ y ∷ ys }) (record { plane = m; edges = (y ∷ ys) ++ xs }) (length xs) (list_turns m xs (y ∷ ys) (omega arith)) p

-- the part behind m is a polygon
pub part_polygon : (s : Outline) (m : Coefficients) (a v : ℕ) → Cut s m a v → IsPolygon (part_behind s m)
part_polygon s m a v h =
    let r = arc_listed s m a v h.arc in
    let p : IsPolygon (record { plane = s.plane; edges = r.1 ++ r.0 }) = subst (λ (es : List Coefficients). IsPolygon (record { plane = s.plane; edges = es })) r.3 (arc_polygon s m a v h) in
    let q = listed_either s.plane r.1 r.0 p in
    subst (λ (es : List Coefficients). IsPolygon (record { plane = s.plane; edges = es })) (sym r.2) q
