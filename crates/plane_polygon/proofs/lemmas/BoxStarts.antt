-- Four box planes as the edges of a polygon.
use Rattle.std.proofs.Common.{◌≡◌, ◌≢◌, ℕ, zero, suc, ◌<◌, Bool, true, ◌&&◌, List, [], ◌∷◌, refl, subst, arith, ℤ, pos, negsuc, neg_ℤ, ◌-ℤ◌, ◌<ℤ◌, ◌≤ℤ◌}
use Rattle.std.proofs.lemmas.Bool.{and_parts}
use Rattle.plane_predicate.specs.Space.{Coefficients, Coordinates, value, meeting_by_cramers_rule}
use Rattle.plane_predicate.proofs.lemmas.IntegerRing.{sums}
use Rattle.plane_predicate.proofs.lemmas.Polynomials.{Poly, var, num, minus, expand}
use Rattle.plane_predicate.proofs.lemmas.PolynomialSigns.{is_above, AreAbove, above_by_form}
use Rattle.plane_predicate.proofs.lemmas.Vectors.{Form, plane_of, valueP, cramerP}
use Rattle.plane_polygon.specs.Polygons.{Outline, edge_plane, corner, IsPolygon, Covers}
use Rattle.plane_polygon.specs.Boxes.{high_x, low_x, high_y, low_y, high_z, low_z}
use Rattle.plane_predicate.specs.Indices.{index_after}

-- ---- four edges
pub record FourTurns (n e f g h : Coefficients) : Type 0 where
  pub first : pos 0 <ℤ (meeting_by_cramers_rule n e f).w
  pub second : pos 0 <ℤ (meeting_by_cramers_rule n f g).w
  pub third : pos 0 <ℤ (meeting_by_cramers_rule n g h).w
  pub fourth : pos 0 <ℤ (meeting_by_cramers_rule n h e).w
  pub first_g : value g (meeting_by_cramers_rule n e f) <ℤ pos 0
  pub first_h : value h (meeting_by_cramers_rule n e f) <ℤ pos 0
  pub second_h : value h (meeting_by_cramers_rule n f g) <ℤ pos 0
  pub second_e : value e (meeting_by_cramers_rule n f g) <ℤ pos 0
  pub third_e : value e (meeting_by_cramers_rule n g h) <ℤ pos 0
  pub third_f : value f (meeting_by_cramers_rule n g h) <ℤ pos 0
  pub fourth_f : value f (meeting_by_cramers_rule n h e) <ℤ pos 0
  pub fourth_g : value g (meeting_by_cramers_rule n h e) <ℤ pos 0

abbrev pub four : Coefficients → Coefficients → Coefficients → Coefficients → Coefficients → Outline
four n e f g h = record { plane = n; edges = e ∷ f ∷ g ∷ h ∷ [] }

pub data Quarter : ℕ → Type 0 where
  q0 : Quarter 0
  q1 : Quarter 1
  q2 : Quarter 2
  q3 : Quarter 3

pub quarter : (i : ℕ) → i < 4 → Quarter i
quarter zero l = q0
quarter (suc zero) l = q1
quarter (suc (suc zero)) l = q2
quarter (suc (suc (suc zero))) l = q3
quarter (suc (suc (suc (suc i)))) l = absurd (omega arith)

four_turns : (n e f g h : Coefficients) → FourTurns n e f g h → (i : ℕ) → Quarter i → pos 0 <ℤ (corner (four n e f g h) i).w
four_turns n e f g h t i q0 = t.first
four_turns n e f g h t i q1 = t.second
four_turns n e f g h t i q2 = t.third
four_turns n e f g h t i q3 = t.fourth

four_behind : (n e f g h : Coefficients) → FourTurns n e f g h → (i j : ℕ) → Quarter i → Quarter j → j ≢ i → j ≢ index_after 4 i → value (edge_plane (four n e f g h) j) (corner (four n e f g h) i) <ℤ pos 0
four_behind n e f g h t i j q0 q0 a b = absurd (a refl)
four_behind n e f g h t i j q0 q1 a b = absurd (b refl)
four_behind n e f g h t i j q0 q2 a b = t.first_g
four_behind n e f g h t i j q0 q3 a b = t.first_h
four_behind n e f g h t i j q1 q0 a b = t.second_e
four_behind n e f g h t i j q1 q1 a b = absurd (a refl)
four_behind n e f g h t i j q1 q2 a b = absurd (b refl)
four_behind n e f g h t i j q1 q3 a b = t.second_h
four_behind n e f g h t i j q2 q0 a b = t.third_e
four_behind n e f g h t i j q2 q1 a b = t.third_f
four_behind n e f g h t i j q2 q2 a b = absurd (a refl)
four_behind n e f g h t i j q2 q3 a b = absurd (b refl)
four_behind n e f g h t i j q3 q0 a b = absurd (b refl)
four_behind n e f g h t i j q3 q1 a b = t.fourth_f
four_behind n e f g h t i j q3 q2 a b = t.fourth_g
four_behind n e f g h t i j q3 q3 a b = absurd (a refl)

pub four_polygon : (n e f g h : Coefficients) → FourTurns n e f g h → IsPolygon (four n e f g h)
four_polygon n e f g h t = record {
  three = omega arith;
  turns_left = λ i l. four_turns n e f g h t i (quarter i l);
  behind = λ i j l k a b. four_behind n e f g h t i j (quarter i l) (quarter j k) a b;
}

four_within : (n e f g h : Coefficients) (p : Coordinates) → value e p ≤ℤ pos 0 → value f p ≤ℤ pos 0 → value g p ≤ℤ pos 0 → value h p ≤ℤ pos 0 → (j : ℕ) → Quarter j → value (edge_plane (four n e f g h) j) p ≤ℤ pos 0
four_within n e f g h p a b c d j q0 = a
four_within n e f g h p a b c d j q1 = b
four_within n e f g h p a b c d j q2 = c
four_within n e f g h p a b c d j q3 = d

-- the points of four edges
pub four_covers : (n e f g h : Coefficients) (p : Coordinates) → pos 0 <ℤ p.w → value n p ≡ pos 0 → value e p ≤ℤ pos 0 → value f p ≤ℤ pos 0 → value g p ≤ℤ pos 0 → value h p ≤ℤ pos 0 → Covers (four n e f g h) p
four_covers n e f g h p w on a b c d = record { weight = w; on = on; within = λ j l. four_within n e f g h p a b c d j (quarter j l) }

-- ---- by computing
abbrev behindP : Form → Form → Form → Form → Poly
behindP g n e f = minus (num (pos 0)) (valueP g (cramerP n e f))

-- the twelve signs show in the forms of the polynomials, whose first variable is above 0
abbrev pub has_four_turns : Form → Form → Form → Form → Form → Bool
has_four_turns n e f g h =
    ((is_above 1 (expand (cramerP n e f).w) && is_above 1 (expand (cramerP n f g).w)) && (is_above 1 (expand (cramerP n g h).w) && is_above 1 (expand (cramerP n h e).w)))
    && (((is_above 1 (expand (behindP g n e f)) && is_above 1 (expand (behindP h n e f))) && (is_above 1 (expand (behindP h n f g)) && is_above 1 (expand (behindP e n f g))))
    && ((is_above 1 (expand (behindP e n g h)) && is_above 1 (expand (behindP f n g h))) && (is_above 1 (expand (behindP f n h e)) && is_above 1 (expand (behindP g n h e)))))

under : (x : ℤ) → pos 0 <ℤ (pos 0 -ℤ x) → x <ℤ pos 0
under x h = omega (arith, sums)

pub turns_by_form : (xs : List ℤ) → AreAbove 1 xs → (n e f g h : Form) → has_four_turns n e f g h ≡ true → FourTurns (plane_of xs n) (plane_of xs e) (plane_of xs f) (plane_of xs g) (plane_of xs h)
turns_by_form xs above n e f g h t =
    let halves = and_parts _ _ t in
    let w = and_parts _ _ halves.0 in
    let w1 = and_parts _ _ w.0 in
    let w2 = and_parts _ _ w.1 in
    let b = and_parts _ _ halves.1 in
    let b1 = and_parts _ _ b.0 in
    let b2 = and_parts _ _ b.1 in
    let c1 = and_parts _ _ b1.0 in
    let c2 = and_parts _ _ b1.1 in
    let c3 = and_parts _ _ b2.0 in
    let c4 = and_parts _ _ b2.1 in record {
      first = above_by_form 1 xs above (cramerP n e f).w w1.0;
      second = above_by_form 1 xs above (cramerP n f g).w w1.1;
      third = above_by_form 1 xs above (cramerP n g h).w w2.0;
      fourth = above_by_form 1 xs above (cramerP n h e).w w2.1;
      first_g = under _ (above_by_form 1 xs above (behindP g n e f) c1.0);
      first_h = under _ (above_by_form 1 xs above (behindP h n e f) c1.1);
      second_h = under _ (above_by_form 1 xs above (behindP h n f g) c2.0);
      second_e = under _ (above_by_form 1 xs above (behindP e n f g) c2.1);
      third_e = under _ (above_by_form 1 xs above (behindP e n g h) c3.0);
      third_f = under _ (above_by_form 1 xs above (behindP f n g h) c3.1);
      fourth_f = under _ (above_by_form 1 xs above (behindP f n h e) c4.0);
      fourth_g = under _ (above_by_form 1 xs above (behindP g n h e) c4.1);
    }

abbrev pub boxP : ℤ → ℤ → ℤ → Form
boxP a b c = record { a = num a; b = num b; c = num c; d = num (pos 4096) }

first_above : (x : ℤ) (xs : List ℤ) → pos 0 <ℤ x → AreAbove 1 (x ∷ xs)
first_above x xs h zero l = h
first_above x xs h (suc i) l = absurd (omega arith)

abbrev pub HX : Form
HX = boxP (pos 1) (pos 0) (pos 0)

abbrev pub LX : Form
LX = boxP (negsuc 0) (pos 0) (pos 0)

abbrev pub HY : Form
HY = boxP (pos 0) (pos 1) (pos 0)

abbrev pub LY : Form
LY = boxP (pos 0) (negsuc 0) (pos 0)

abbrev pub HZ : Form
HZ = boxP (pos 0) (pos 0) (pos 1)

abbrev pub LZ : Form
LZ = boxP (pos 0) (pos 0) (negsuc 0)

-- the part that decides is above 0, or is the negative of a number above 0
abbrev zP : Form
zP = record { a = var 1; b = var 2; c = var 0; d = var 3 }

abbrev yP : Form
yP = record { a = var 1; b = var 0; c = var 2; d = var 3 }

abbrev xP : Form
xP = record { a = var 0; b = var 1; c = var 2; d = var 3 }

abbrev belowP : Poly
belowP = minus (num (pos 0)) (var 0)

turn_back : (x : ℤ) → pos 0 -ℤ neg_ℤ x ≡ x
turn_back x = omega (arith, sums)

negative_above : (x : ℤ) → x <ℤ pos 0 → pos 0 <ℤ neg_ℤ x
negative_above x h = omega (arith, sums)

pub over_z_above : (m : Coefficients) → pos 0 <ℤ m.c → FourTurns m low_x low_y high_x high_y
over_z_above m h = turns_by_form (m.c ∷ m.a ∷ m.b ∷ m.d ∷ []) (first_above m.c (m.a ∷ m.b ∷ m.d ∷ []) h) zP LX LY HX HY refl

pub over_z_below : (m : Coefficients) → m.c <ℤ pos 0 → FourTurns m low_x high_y high_x low_y
over_z_below m h =
    subst (λ (c : ℤ). FourTurns (record { a = m.a; b = m.b; c = c; d = m.d }) low_x high_y high_x low_y) (turn_back m.c)
    (turns_by_form (neg_ℤ m.c ∷ m.a ∷ m.b ∷ m.d ∷ []) (first_above (neg_ℤ m.c) (m.a ∷ m.b ∷ m.d ∷ []) (negative_above m.c h)) (record { a = var 1; b = var 2; c = belowP; d = var 3 }) LX HY HX LY refl)

pub over_y_above : (m : Coefficients) → pos 0 <ℤ m.b → FourTurns m low_x high_z high_x low_z
over_y_above m h = turns_by_form (m.b ∷ m.a ∷ m.c ∷ m.d ∷ []) (first_above m.b (m.a ∷ m.c ∷ m.d ∷ []) h) yP LX HZ HX LZ refl

pub over_y_below : (m : Coefficients) → m.b <ℤ pos 0 → FourTurns m low_x low_z high_x high_z
over_y_below m h =
    subst (λ (b : ℤ). FourTurns (record { a = m.a; b = b; c = m.c; d = m.d }) low_x low_z high_x high_z) (turn_back m.b)
    (turns_by_form (neg_ℤ m.b ∷ m.a ∷ m.c ∷ m.d ∷ []) (first_above (neg_ℤ m.b) (m.a ∷ m.c ∷ m.d ∷ []) (negative_above m.b h)) (record { a = var 1; b = belowP; c = var 2; d = var 3 }) LX LZ HX HZ refl)

pub over_x_above : (m : Coefficients) → pos 0 <ℤ m.a → FourTurns m low_y low_z high_y high_z
over_x_above m h = turns_by_form (m.a ∷ m.b ∷ m.c ∷ m.d ∷ []) (first_above m.a (m.b ∷ m.c ∷ m.d ∷ []) h) xP LY LZ HY HZ refl

pub over_x_below : (m : Coefficients) → m.a <ℤ pos 0 → FourTurns m low_y high_z high_y low_z
over_x_below m h =
    subst (λ (a : ℤ). FourTurns (record { a = a; b = m.b; c = m.c; d = m.d }) low_y high_z high_y low_z) (turn_back m.a)
    (turns_by_form (neg_ℤ m.a ∷ m.b ∷ m.c ∷ m.d ∷ []) (first_above (neg_ℤ m.a) (m.b ∷ m.c ∷ m.d ∷ []) (negative_above m.a h)) (record { a = belowP; b = var 1; c = var 2; d = var 3 }) LY HZ HY LZ refl)
