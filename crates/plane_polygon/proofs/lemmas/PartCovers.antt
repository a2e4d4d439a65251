-- The points of the part behind a plane are those of the polygon that are not ahead of the plane.
use Rattle.std.proofs.Common.{◌≡◌, ℕ, suc, ◌-◌, ◌<◌, List, [], ◌∷◌, ◌++◌, length, sym, ap, ◌∙◌, subst, arith, ℤ, pos, ◌+ℤ◌, ◌*ℤ◌, ◌<ℤ◌, ◌≤ℤ◌, neg_ℤ, append-nil}
use Rattle.plane_predicate.specs.Space.{Coefficients, Coordinates, value, meeting_by_cramers_rule}
use Rattle.plane_predicate.proofs.lemmas.IntegerRing.{sums}
use Rattle.plane_predicate.proofs.lemmas.Identities.{value_swapped, weight_swapped}
use Rattle.plane_polygon.specs.Polygons.{Outline, edge_plane, edge_count, corner, IsPolygon, Covers, IsBetween}
use Rattle.plane_polygon.specs.declared.classes.Class.TheVariants.{Across}
use Rattle.plane_polygon.specs.Parts.{class_of, part_behind}
use Rattle.plane_predicate.proofs.lemmas.Signs.{least_most, least_least, most_cancel, least_cancel, pos_pos, most_most}
use Rattle.plane_polygon.proofs.lemmas.Hull.{hull}
use Rattle.plane_polygon.proofs.lemmas.Rounds.{step, step_below, corner_from, edge_from, no_edge_behind}
use Rattle.plane_polygon.proofs.lemmas.Cuts.{Crossing, meeting_value, weight_above, turned, lt_le, neg_of_positive}
use Rattle.plane_polygon.proofs.Rotations.{Turns, list_turns}
use Rattle.plane_polygon.proofs.lemmas.PartLists.{arc_listed}
use Rattle.plane_polygon.proofs.lemmas.PartPolygons.{Cut, arc_outline, arc_polygon, arc_sides, arc_edge, arc_new, Which, old, out, into, which, arc_corner, arc_out, arc_into, leaving, coming, leaves, comes}
use Rattle.plane_polygon.proofs.lemmas.PartPoints.{cut_of}

-- ---- the arc's corners are corners of the polygon, or lie between two of them
two_most : (x y : ℤ) → x ≤ℤ pos 0 → y ≤ℤ pos 0 → (x +ℤ y) ≤ℤ pos 0
two_most x y h k = omega (arith, sums)

lt_most : (x : ℤ) → x <ℤ pos 0 → x ≤ℤ pos 0
lt_most x h = omega (arith, sums)

most_of_neg : (x y : ℤ) → y ≡ neg_ℤ x → pos 0 ≤ℤ x → y ≤ℤ pos 0
most_of_neg x y e h = omega (arith, sums)

not_above_sum : (u v x y : ℤ) → pos 0 ≤ℤ u → pos 0 ≤ℤ v → x ≤ℤ pos 0 → y ≤ℤ pos 0 → (u *ℤ x +ℤ v *ℤ y) ≤ℤ pos 0
not_above_sum u v x y hu hv hx hy = two_most (u *ℤ x) (v *ℤ y) (least_most u x hu hx) (least_most v y hv hy)

meeting_not_ahead : (n e r m : Coefficients) (p q : Coordinates) → Crossing n e r p q → pos 0 <ℤ (meeting_by_cramers_rule n e r).w → value m p ≤ℤ pos 0 → value m q ≤ℤ pos 0 → value m (meeting_by_cramers_rule n e r) ≤ℤ pos 0
meeting_not_ahead n e r m p q c t mp mq =
    most_cancel (value r q *ℤ p.w +ℤ neg_ℤ (value r p) *ℤ q.w) (value m (meeting_by_cramers_rule n e r))
    (weight_above (value r q *ℤ p.w) (neg_ℤ (value r p) *ℤ q.w) (least_least (value r q) p.w c.past (lt_le p.w c.p_weight)) (pos_pos (neg_ℤ (value r p)) q.w (turned (value r p) c.before) c.q_weight))
    (subst (λ (x : ℤ). x ≤ℤ pos 0) (meeting_value n e r m p q c)
    (least_most (meeting_by_cramers_rule n e r).w (value r q *ℤ value m p +ℤ neg_ℤ (value r p) *ℤ value m q) (lt_le (meeting_by_cramers_rule n e r).w t)
    (not_above_sum (value r q) (neg_ℤ (value r p)) (value m p) (value m q) c.past (lt_le (neg_ℤ (value r p)) (turned (value r p) c.before)) mp mq)))

meeting_not_ahead_in : (n e r m : Coefficients) (p q : Coordinates) → Crossing n e r p q → pos 0 <ℤ (meeting_by_cramers_rule n r e).w → value m p ≤ℤ pos 0 → value m q ≤ℤ pos 0 → value m (meeting_by_cramers_rule n r e) ≤ℤ pos 0
meeting_not_ahead_in n e r m p q c t mp mq =
    most_of_neg (value m (meeting_by_cramers_rule n e r)) (value m (meeting_by_cramers_rule n r e)) (value_swapped m n e r)
    (least_cancel (value r q *ℤ p.w +ℤ neg_ℤ (value r p) *ℤ q.w) (value m (meeting_by_cramers_rule n e r))
    (weight_above (value r q *ℤ p.w) (neg_ℤ (value r p) *ℤ q.w) (least_least (value r q) p.w c.past (lt_le p.w c.p_weight)) (pos_pos (neg_ℤ (value r p)) q.w (turned (value r p) c.before) c.q_weight))
    (subst (λ (x : ℤ). pos 0 ≤ℤ x) (meeting_value n e r m p q c)
    (most_most (meeting_by_cramers_rule n e r).w (value r q *ℤ value m p +ℤ neg_ℤ (value r p) *ℤ value m q) (lt_most (meeting_by_cramers_rule n e r).w (neg_of_positive (meeting_by_cramers_rule n e r).w (meeting_by_cramers_rule n r e).w (weight_swapped n e r) t))
    (not_above_sum (value r q) (neg_ℤ (value r p)) (value m p) (value m q) c.past (lt_le (neg_ℤ (value r p)) (turned (value r p) c.before)) mp mq))))

arc_corner_within : (s : Outline) (m : Coefficients) (a v i j : ℕ) → Cut s m a v → Which v i → j < edge_count s → value (edge_plane s j) (corner (arc_outline s m a v) i) ≤ℤ pos 0
arc_corner_within s m a v i j h (old l) b =
    subst (λ (c : Coordinates). value (edge_plane s j) c ≤ℤ pos 0) (sym (arc_corner s m a v i l)) (no_edge_behind s h.polygon (step (edge_count s) a i) j (step_below (edge_count s) a i h.arc.start) b)
arc_corner_within s m a v i j h (out e) b =
    subst (λ (c : Coordinates). value (edge_plane s j) c ≤ℤ pos 0) (sym (ap (corner (arc_outline s m a v)) e ∙ arc_out s m a v))
    (meeting_not_ahead s.plane (edge_from s a (suc v)) m (edge_plane s j) (corner_from s a v) (corner_from s a (suc v)) (leaving s m a v h) (leaves s m a v h)
    (no_edge_behind s h.polygon (step (edge_count s) a v) j (step_below (edge_count s) a v h.arc.start) b) (no_edge_behind s h.polygon (step (edge_count s) a (suc v)) j (step_below (edge_count s) a (suc v) h.arc.start) b))
arc_corner_within s m a v i j h (into e) b =
    subst (λ (c : Coordinates). value (edge_plane s j) c ≤ℤ pos 0) (sym (ap (corner (arc_outline s m a v)) e ∙ arc_into s m a v))
    (meeting_not_ahead_in s.plane (edge_from s a 0) m (edge_plane s j) (corner_from s a 0) (corner_from s a (edge_count s - 1)) (coming s m a v h) (comes s m a v h)
    (no_edge_behind s h.polygon a j h.arc.start b) (no_edge_behind s h.polygon (step (edge_count s) a (edge_count s - 1)) j (step_below (edge_count s) a (edge_count s - 1) h.arc.start) b))

-- ---- points
pub between_within : (a b c p : Coordinates) (e : Coefficients) → IsBetween a b c p → value e a ≤ℤ pos 0 → value e b ≤ℤ pos 0 → value e c ≤ℤ pos 0 → value e p ≤ℤ pos 0
between_within a b c p e h ha hb hc =
    most_cancel h.k (value e p) h.whole
    (subst (λ (x : ℤ). x ≤ℤ pos 0) (sym (h.sum e)) (two_most (h.u *ℤ value e a +ℤ h.v *ℤ value e b) (h.t *ℤ value e c) (not_above_sum h.u h.v (value e a) (value e b) h.first h.second ha hb) (least_most h.t (value e c) h.third hc)))

-- a point of the arc is one of the polygon, and not ahead of m: the edges that were dropped are implied
arc_covers_out : (s : Outline) (m : Coefficients) (a v : ℕ) → Cut s m a v → (p : Coordinates) → Covers (arc_outline s m a v) p → Covers s p × (value m p ≤ℤ pos 0)
arc_covers_out s m a v h p c =
    let r = arc_outline s m a v in
    let k = arc_sides s m a v in
    let w = hull r (arc_polygon s m a v h) p c in (
      record {
        weight = c.weight;
        on = c.on;
        within = λ j b. between_within (corner r 0) (corner r w.0) (corner r (suc w.0)) p (edge_plane s j) w.2
            (arc_corner_within s m a v 0 j h (which v 0 (omega arith)) b)
            (arc_corner_within s m a v w.0 j h (which v w.0 (omega arith)) b)
            (arc_corner_within s m a v (suc w.0) j h (which v (suc w.0) (omega arith)) b);
      },
      subst (λ (e : Coefficients). value e p ≤ℤ pos 0) (arc_new s m a v) (c.within (suc (suc v)) (omega arith)),
    )

arc_edge_within : (s : Outline) (m : Coefficients) (a v j : ℕ) → Cut s m a v → (p : Coordinates) → Covers s p → value m p ≤ℤ pos 0 → Which v j → value (edge_plane (arc_outline s m a v) j) p ≤ℤ pos 0
arc_edge_within s m a v j h p c b (old l) = subst (λ (e : Coefficients). value e p ≤ℤ pos 0) (sym (arc_edge s m a v j (omega arith))) (c.within (step (edge_count s) a j) (step_below (edge_count s) a j h.arc.start))
arc_edge_within s m a v j h p c b (out e) = subst (λ (e : Coefficients). value e p ≤ℤ pos 0) (sym (arc_edge s m a v j (omega arith))) (c.within (step (edge_count s) a j) (step_below (edge_count s) a j h.arc.start))
arc_edge_within s m a v j h p c b (into e) = subst (λ (e : Coefficients). value e p ≤ℤ pos 0) (sym (ap (edge_plane (arc_outline s m a v)) e ∙ arc_new s m a v)) b

arc_covers_in : (s : Outline) (m : Coefficients) (a v : ℕ) → Cut s m a v → (p : Coordinates) → Covers s p → value m p ≤ℤ pos 0 → Covers (arc_outline s m a v) p
arc_covers_in s m a v h p c b =
    let k = arc_sides s m a v in record {
      weight = c.weight;
      on = c.on;
      within = λ j l. arc_edge_within s m a v j h p c b (which v j (omega arith));
    }

-- ---- the same for the part as it is listed
turned_covers : (s r : Outline) (a : ℕ) → Turns s r a → (p : Coordinates) → Covers s p → Covers r p
turned_covers s r a h p c = record {
  weight = c.weight;
  on = subst (λ (n : Coefficients). value n p ≡ pos 0) (sym h.plane) c.on;
  within = λ j l. (let b : j < edge_count s = subst (λ (k : ℕ). j < k) h.sides l in subst (λ (e : Coefficients). value e p ≤ℤ pos 0) (sym (h.edges j b)) (c.within (step (edge_count s) a j) (step_below (edge_count s) a j h.start)));
}

listed_covers : (m : Coefficients) (xs ys : List Coefficients) (p : Coordinates) → Covers (record { plane = m; edges = xs ++ ys }) p → Covers (record { plane = m; edges = ys ++ xs }) p
listed_covers m xs [] p c = subst (λ (es : List Coefficients). Covers (record { plane = m; edges = es }) p) (append-nil xs) c
listed_covers m xs (y ∷ ys) p c = turned_covers (record { plane = m; edges = xs ++ y ∷ ys }) (record { plane = m; edges = (y ∷ ys) ++ xs }) (length xs) (list_turns m xs (y ∷ ys) (omega arith)) p c

pub part_covers_out : (s : Outline) (m : Coefficients) → IsPolygon s → class_of s m ≡ Across → (p : Coordinates) → Covers (part_behind s m) p → Covers s p × (value m p ≤ℤ pos 0)
part_covers_out s m h e p c =
    let w = cut_of s m h e in
    let r = arc_listed s m w.0 w.1 w.2.arc in
    let P : List Coefficients → Type 0 = λ es. Covers (record { plane = s.plane; edges = es }) p in
    arc_covers_out s m w.0 w.1 w.2 p (subst P (sym r.3) (listed_covers s.plane r.0 r.1 p (subst P r.2 c)))

pub part_covers_in : (s : Outline) (m : Coefficients) → IsPolygon s → class_of s m ≡ Across → (p : Coordinates) → Covers s p → value m p ≤ℤ pos 0 → Covers (part_behind s m) p
part_covers_in s m h e p c b =
    let w = cut_of s m h e in
    let r = arc_listed s m w.0 w.1 w.2.arc in
    let P : List Coefficients → Type 0 = λ es. Covers (record { plane = s.plane; edges = es }) p in
    subst P (sym r.2) (listed_covers s.plane r.1 r.0 p (subst P r.3 (arc_covers_in s m w.0 w.1 w.2 p c b)))
