-- The box polygon of a plane has exactly the plane's points in the closed world box.
use Rattle.std.proofs.Common.{◌≡◌, ◌≢◌, ◌↔◌, inl, inr, ◌*◌, ◌≤◌, Bool, true, false, not, if◌then◌else◌, List, [], ◌∷◌, refl, sym, ap, ◌∙◌, subst, arith, ℤ, pos, negsuc, ◌-ℤ◌, ◌*ℤ◌, ◌<ℤ◌, ◌≤ℤ◌, unsigned_abs, Result, Ok, Err, IfOk}
use Rattle.std.proofs.lemmas.Int.{ints}
use Rattle.std.specs.Ordering.{int_eq}
use Rattle.plane_predicate.specs.Space.{Coefficients, Coordinates, value, IsPlane, IsInReach, IsInClosedWorld, ComesInReach}
use Rattle.plane_predicate.proofs.lemmas.IntegerRing.{sums}
use Rattle.plane_predicate.proofs.lemmas.Polynomials.{var, num, times, minus, ring}
use Rattle.plane_predicate.proofs.lemmas.Vectors.{place, of_point, valueP}
use Rattle.plane_predicate.proofs.lemmas.Signs.{signs}
use Rattle.plane_polygon.specs.Polygons.{Outline, IsPolygon, Covers}
use Rattle.plane_polygon.specs.Boxes.{high_x, low_x, high_y, low_y, high_z, low_z, trimmed_outline, counterclockwise_edges, box_over_x, box_over_y, box_over_z, box_outline}
use Rattle.plane_polygon.proofs.lemmas.BoxStarts.{FourTurns, four, four_polygon, four_covers, over_x_above, over_x_below, over_y_above, over_y_below, over_z_above, over_z_below, HX, LX, HY, LY, HZ, LZ}
use Rattle.plane_polygon.proofs.Trims.{trims}

-- ---- the world box as six planes
pub record IsNotAheadOfBox (p : Coordinates) : Type 0 where
  pub high_x_side : value high_x p ≤ℤ pos 0
  pub low_x_side : value low_x p ≤ℤ pos 0
  pub high_y_side : value high_y p ≤ℤ pos 0
  pub low_y_side : value low_y p ≤ℤ pos 0
  pub high_z_side : value high_z p ≤ℤ pos 0
  pub low_z_side : value low_z p ≤ℤ pos 0

pub record IsBehindBox (p : Coordinates) : Type 0 where
  pub high_x_side : value high_x p <ℤ pos 0
  pub low_x_side : value low_x p <ℤ pos 0
  pub high_y_side : value high_y p <ℤ pos 0
  pub low_y_side : value low_y p <ℤ pos 0
  pub high_z_side : value high_z p <ℤ pos 0
  pub low_z_side : value low_z p <ℤ pos 0

pub value_high_x : (p : Coordinates) → value high_x p ≡ p.x -ℤ pos 4096 *ℤ p.w
value_high_x p = ring (of_point p []) (valueP HX (place 0)) (minus (var 0) (times (num (pos 4096)) (var 3))) refl

pub value_low_x : (p : Coordinates) → value low_x p ≡ (pos 0 -ℤ p.x) -ℤ pos 4096 *ℤ p.w
value_low_x p = ring (of_point p []) (valueP LX (place 0)) (minus (minus (num (pos 0)) (var 0)) (times (num (pos 4096)) (var 3))) refl

pub value_high_y : (p : Coordinates) → value high_y p ≡ p.y -ℤ pos 4096 *ℤ p.w
value_high_y p = ring (of_point p []) (valueP HY (place 0)) (minus (var 1) (times (num (pos 4096)) (var 3))) refl

pub value_low_y : (p : Coordinates) → value low_y p ≡ (pos 0 -ℤ p.y) -ℤ pos 4096 *ℤ p.w
value_low_y p = ring (of_point p []) (valueP LY (place 0)) (minus (minus (num (pos 0)) (var 1)) (times (num (pos 4096)) (var 3))) refl

pub value_high_z : (p : Coordinates) → value high_z p ≡ p.z -ℤ pos 4096 *ℤ p.w
value_high_z p = ring (of_point p []) (valueP HZ (place 0)) (minus (var 2) (times (num (pos 4096)) (var 3))) refl

pub value_low_z : (p : Coordinates) → value low_z p ≡ (pos 0 -ℤ p.z) -ℤ pos 4096 *ℤ p.w
value_low_z p = ring (of_point p []) (valueP LZ (place 0)) (minus (minus (num (pos 0)) (var 2)) (times (num (pos 4096)) (var 3))) refl

-- a number against 4096 w, w above 0
size_of_sides : (x w h l : ℤ) → pos 0 <ℤ w → h ≡ x -ℤ pos 4096 *ℤ w → l ≡ (pos 0 -ℤ x) -ℤ pos 4096 *ℤ w → h ≤ℤ pos 0 → l ≤ℤ pos 0 → unsigned_abs x ≤ 4096 * unsigned_abs w
size_of_sides (pos n) (pos k) h l above eh el hh hl = omega (arith, sums)
size_of_sides (negsuc n) (pos k) h l above eh el hh hl = omega (arith, sums)
size_of_sides x (negsuc k) h l above eh el hh hl = absurd (omega (arith, sums))

sides_of_size : (x w h l : ℤ) → pos 0 <ℤ w → h ≡ x -ℤ pos 4096 *ℤ w → l ≡ (pos 0 -ℤ x) -ℤ pos 4096 *ℤ w → unsigned_abs x ≤ 4096 * unsigned_abs w → (h ≤ℤ pos 0) × (l ≤ℤ pos 0)
sides_of_size (pos n) (pos k) h l above eh el s = (omega (arith, sums), omega (arith, sums))
sides_of_size (negsuc n) (pos k) h l above eh el s = (omega (arith, sums), omega (arith, sums))
sides_of_size x (negsuc k) h l above eh el s = absurd (omega (arith, sums))

sides_in_reach : (x w h l : ℤ) → pos 0 <ℤ w → h ≡ x -ℤ pos 4096 *ℤ w → l ≡ (pos 0 -ℤ x) -ℤ pos 4096 *ℤ w → unsigned_abs x ≤ 4095 * unsigned_abs w → (h <ℤ pos 0) × (l <ℤ pos 0)
sides_in_reach (pos n) (pos k) h l above eh el s = (omega (arith, sums), omega (arith, sums))
sides_in_reach (negsuc n) (pos k) h l above eh el s = (omega (arith, sums), omega (arith, sums))
sides_in_reach x (negsuc k) h l above eh el s = absurd (omega (arith, sums))

pub in_world : (p : Coordinates) → pos 0 <ℤ p.w → IsNotAheadOfBox p → IsInClosedWorld p
in_world p w h = record {
  weight = w;
  x_size = size_of_sides p.x p.w _ _ w (value_high_x p) (value_low_x p) h.high_x_side h.low_x_side;
  y_size = size_of_sides p.y p.w _ _ w (value_high_y p) (value_low_y p) h.high_y_side h.low_y_side;
  z_size = size_of_sides p.z p.w _ _ w (value_high_z p) (value_low_z p) h.high_z_side h.low_z_side;
}

pub world_in : (p : Coordinates) → IsInClosedWorld p → IsNotAheadOfBox p
world_in p h =
    let x = sides_of_size p.x p.w _ _ h.weight (value_high_x p) (value_low_x p) h.x_size in
    let y = sides_of_size p.y p.w _ _ h.weight (value_high_y p) (value_low_y p) h.y_size in
    let z = sides_of_size p.z p.w _ _ h.weight (value_high_z p) (value_low_z p) h.z_size in
    record { high_x_side = x.0; low_x_side = x.1; high_y_side = y.0; low_y_side = y.1; high_z_side = z.0; low_z_side = z.1 }

pub reach_in : (p : Coordinates) → IsInReach p → IsBehindBox p
reach_in p h =
    let x = sides_in_reach p.x p.w _ _ h.weight (value_high_x p) (value_low_x p) h.x_size in
    let y = sides_in_reach p.y p.w _ _ h.weight (value_high_y p) (value_low_y p) h.y_size in
    let z = sides_in_reach p.z p.w _ _ h.weight (value_high_z p) (value_low_z p) h.z_size in
    record { high_x_side = x.0; low_x_side = x.1; high_y_side = y.0; low_y_side = y.1; high_z_side = z.0; low_z_side = z.1 }

-- ---- four edges, trimmed by two planes
pub record SixSides (n e f g h hi lo : Coefficients) (p : Coordinates) : Type 0 where
  pub weight : pos 0 <ℤ p.w
  pub on : value n p ≡ pos 0
  pub first : value e p ≤ℤ pos 0
  pub second : value f p ≤ℤ pos 0
  pub third : value g p ≤ℤ pos 0
  pub fourth : value h p ≤ℤ pos 0
  pub high : value hi p ≤ℤ pos 0
  pub low : value lo p ≤ℤ pos 0

pub record IsBoxed (n e f g h hi lo : Coefficients) : Type 0 where
  pub polygon : IsPolygon (trimmed_outline (trimmed_outline (four n e f g h) hi) lo)
  pub points : (p : Coordinates) → Covers (trimmed_outline (trimmed_outline (four n e f g h) hi) lo) p ↔ SixSides n e f g h hi lo p

most : (x : ℤ) → x <ℤ pos 0 → x ≤ℤ pos 0
most x h = omega (arith, sums)

boxed : (n e f g h hi lo : Coefficients) → FourTurns n e f g h → (q : Coordinates) → pos 0 <ℤ q.w → value n q ≡ pos 0 → value e q <ℤ pos 0 → value f q <ℤ pos 0 → value g q <ℤ pos 0 → value h q <ℤ pos 0 → value hi q <ℤ pos 0 → value lo q <ℤ pos 0 → IsBoxed n e f g h hi lo
boxed n e f g h hi lo t q w on qe qf qg qh qhi qlo =
    let s : Outline = four n e f g h in
    let c = four_covers n e f g h q w on (most _ qe) (most _ qf) (most _ qg) (most _ qh) in
    let first = trims s hi (four_polygon n e f g h t) q c qhi in
    let second = trims (trimmed_outline s hi) lo first.polygon q ((first.points q).1 (c, most _ qhi)) qlo in record {
      polygon = second.polygon;
      points = λ p. (
        λ k. (
            let a = (second.points p).0 k in
            let b = (first.points p).0 a.0 in
            record { weight = b.0.weight; on = b.0.on; first = b.0.within 0 (omega arith); second = b.0.within 1 (omega arith); third = b.0.within 2 (omega arith); fourth = b.0.within 3 (omega arith); high = b.1; low = a.1 }),
        λ k. (second.points p).1 ((first.points p).1 (four_covers n e f g h p k.weight k.on k.first k.second k.third k.fourth, k.high), k.low),
      );
    }

-- ---- the six kinds of box polygons
pub record IsBoxPolygon (m : Coefficients) (s : Outline) : Type 0 where
  pub polygon : IsPolygon s
  pub points : (p : Coordinates) → Covers s p ↔ ((value m p ≡ pos 0) × IsInClosedWorld p)

z_above : (m : Coefficients) → pos 0 <ℤ m.c → ComesInReach m → IsBoxPolygon m (trimmed_outline (trimmed_outline (four m low_x low_y high_x high_y) high_z) low_z)
z_above m h r =
    let q = reach_in r.point r.reach in
    let b = boxed m low_x low_y high_x high_y high_z low_z (over_z_above m h) r.point r.reach.weight r.on q.low_x_side q.low_y_side q.high_x_side q.high_y_side q.high_z_side q.low_z_side in record {
      polygon = b.polygon;
      points = λ p. (
        λ k. (let c = (b.points p).0 k in (c.on, in_world p c.weight (record { high_x_side = c.third; low_x_side = c.first; high_y_side = c.fourth; low_y_side = c.second; high_z_side = c.high; low_z_side = c.low }))),
        λ (on, k). (let c = world_in p k in (b.points p).1 (record { weight = k.weight; on = on; first = c.low_x_side; second = c.low_y_side; third = c.high_x_side; fourth = c.high_y_side; high = c.high_z_side; low = c.low_z_side })),
      );
    }

z_below : (m : Coefficients) → m.c <ℤ pos 0 → ComesInReach m → IsBoxPolygon m (trimmed_outline (trimmed_outline (four m low_x high_y high_x low_y) high_z) low_z)
z_below m h r =
    let q = reach_in r.point r.reach in
    let b = boxed m low_x high_y high_x low_y high_z low_z (over_z_below m h) r.point r.reach.weight r.on q.low_x_side q.high_y_side q.high_x_side q.low_y_side q.high_z_side q.low_z_side in record {
      polygon = b.polygon;
      points = λ p. (
        λ k. (let c = (b.points p).0 k in (c.on, in_world p c.weight (record { high_x_side = c.third; low_x_side = c.first; high_y_side = c.second; low_y_side = c.fourth; high_z_side = c.high; low_z_side = c.low }))),
        λ (on, k). (let c = world_in p k in (b.points p).1 (record { weight = k.weight; on = on; first = c.low_x_side; second = c.high_y_side; third = c.high_x_side; fourth = c.low_y_side; high = c.high_z_side; low = c.low_z_side })),
      );
    }

y_above : (m : Coefficients) → pos 0 <ℤ m.b → ComesInReach m → IsBoxPolygon m (trimmed_outline (trimmed_outline (four m low_x high_z high_x low_z) high_y) low_y)
y_above m h r =
    let q = reach_in r.point r.reach in
    let b = boxed m low_x high_z high_x low_z high_y low_y (over_y_above m h) r.point r.reach.weight r.on q.low_x_side q.high_z_side q.high_x_side q.low_z_side q.high_y_side q.low_y_side in record {
      polygon = b.polygon;
      points = λ p. (
        λ k. (let c = (b.points p).0 k in (c.on, in_world p c.weight (record { high_x_side = c.third; low_x_side = c.first; high_z_side = c.second; low_z_side = c.fourth; high_y_side = c.high; low_y_side = c.low }))),
        λ (on, k). (let c = world_in p k in (b.points p).1 (record { weight = k.weight; on = on; first = c.low_x_side; second = c.high_z_side; third = c.high_x_side; fourth = c.low_z_side; high = c.high_y_side; low = c.low_y_side })),
      );
    }

y_below : (m : Coefficients) → m.b <ℤ pos 0 → ComesInReach m → IsBoxPolygon m (trimmed_outline (trimmed_outline (four m low_x low_z high_x high_z) high_y) low_y)
y_below m h r =
    let q = reach_in r.point r.reach in
    let b = boxed m low_x low_z high_x high_z high_y low_y (over_y_below m h) r.point r.reach.weight r.on q.low_x_side q.low_z_side q.high_x_side q.high_z_side q.high_y_side q.low_y_side in record {
      polygon = b.polygon;
      points = λ p. (
        λ k. (let c = (b.points p).0 k in (c.on, in_world p c.weight (record { high_x_side = c.third; low_x_side = c.first; high_z_side = c.fourth; low_z_side = c.second; high_y_side = c.high; low_y_side = c.low }))),
        λ (on, k). (let c = world_in p k in (b.points p).1 (record { weight = k.weight; on = on; first = c.low_x_side; second = c.low_z_side; third = c.high_x_side; fourth = c.high_z_side; high = c.high_y_side; low = c.low_y_side })),
      );
    }

x_above : (m : Coefficients) → pos 0 <ℤ m.a → ComesInReach m → IsBoxPolygon m (trimmed_outline (trimmed_outline (four m low_y low_z high_y high_z) high_x) low_x)
x_above m h r =
    let q = reach_in r.point r.reach in
    let b = boxed m low_y low_z high_y high_z high_x low_x (over_x_above m h) r.point r.reach.weight r.on q.low_y_side q.low_z_side q.high_y_side q.high_z_side q.high_x_side q.low_x_side in record {
      polygon = b.polygon;
      points = λ p. (
        λ k. (let c = (b.points p).0 k in (c.on, in_world p c.weight (record { high_y_side = c.third; low_y_side = c.first; high_z_side = c.fourth; low_z_side = c.second; high_x_side = c.high; low_x_side = c.low }))),
        λ (on, k). (let c = world_in p k in (b.points p).1 (record { weight = k.weight; on = on; first = c.low_y_side; second = c.low_z_side; third = c.high_y_side; fourth = c.high_z_side; high = c.high_x_side; low = c.low_x_side })),
      );
    }

x_below : (m : Coefficients) → m.a <ℤ pos 0 → ComesInReach m → IsBoxPolygon m (trimmed_outline (trimmed_outline (four m low_y high_z high_y low_z) high_x) low_x)
x_below m h r =
    let q = reach_in r.point r.reach in
    let b = boxed m low_y high_z high_y low_z high_x low_x (over_x_below m h) r.point r.reach.weight r.on q.low_y_side q.high_z_side q.high_y_side q.low_z_side q.high_x_side q.low_x_side in record {
      polygon = b.polygon;
      points = λ p. (
        λ k. (let c = (b.points p).0 k in (c.on, in_world p c.weight (record { high_y_side = c.third; low_y_side = c.first; high_z_side = c.second; low_z_side = c.fourth; high_x_side = c.high; low_x_side = c.low }))),
        λ (on, k). (let c = world_in p k in (b.points p).1 (record { weight = k.weight; on = on; first = c.low_y_side; second = c.high_z_side; third = c.high_y_side; fourth = c.low_z_side; high = c.high_x_side; low = c.low_x_side })),
      );
    }

-- ---- with the sign of the part that decides
turned_above : (v : ℤ) (p q r s : Coefficients) → pos 0 <ℤ v → counterclockwise_edges v p q r s ≡ p ∷ q ∷ r ∷ s ∷ []
turned_above (pos n) p q r s h = refl
turned_above (negsuc n) p q r s h = absurd (omega (arith, sums))

turned_below : (v : ℤ) (p q r s : Coefficients) → v <ℤ pos 0 → counterclockwise_edges v p q r s ≡ p ∷ s ∷ r ∷ q ∷ []
turned_below (pos n) p q r s h = absurd (omega (arith, sums))
turned_below (negsuc n) p q r s h = refl

-- the box polygon before it is trimmed
pub start_z : (m : Coefficients) → m.c ≢ pos 0 → IsPolygon (record { plane = m; edges = counterclockwise_edges m.c low_x low_y high_x high_y })
start_z m h = elim (signs m.c) [
  | inl k ↦ subst (λ (es : List Coefficients). IsPolygon (record { plane = m; edges = es })) (sym (turned_below m.c low_x low_y high_x high_y k)) (four_polygon m low_x high_y high_x low_y (over_z_below m k))
  | inr (inl k) ↦ absurd (h k)
  | inr (inr k) ↦ subst (λ (es : List Coefficients). IsPolygon (record { plane = m; edges = es })) (sym (turned_above m.c low_x low_y high_x high_y k)) (four_polygon m low_x low_y high_x high_y (over_z_above m k))
]

pub start_y : (m : Coefficients) → m.b ≢ pos 0 → IsPolygon (record { plane = m; edges = counterclockwise_edges m.b low_x high_z high_x low_z })
start_y m h = elim (signs m.b) [
  | inl k ↦ subst (λ (es : List Coefficients). IsPolygon (record { plane = m; edges = es })) (sym (turned_below m.b low_x high_z high_x low_z k)) (four_polygon m low_x low_z high_x high_z (over_y_below m k))
  | inr (inl k) ↦ absurd (h k)
  | inr (inr k) ↦ subst (λ (es : List Coefficients). IsPolygon (record { plane = m; edges = es })) (sym (turned_above m.b low_x high_z high_x low_z k)) (four_polygon m low_x high_z high_x low_z (over_y_above m k))
]

pub start_x : (m : Coefficients) → m.a ≢ pos 0 → IsPolygon (record { plane = m; edges = counterclockwise_edges m.a low_y low_z high_y high_z })
start_x m h = elim (signs m.a) [
  | inl k ↦ subst (λ (es : List Coefficients). IsPolygon (record { plane = m; edges = es })) (sym (turned_below m.a low_y low_z high_y high_z k)) (four_polygon m low_y high_z high_y low_z (over_x_below m k))
  | inr (inl k) ↦ absurd (h k)
  | inr (inr k) ↦ subst (λ (es : List Coefficients). IsPolygon (record { plane = m; edges = es })) (sym (turned_above m.a low_y low_z high_y high_z k)) (four_polygon m low_y low_z high_y high_z (over_x_above m k))
]

pub box_z : (m : Coefficients) → m.c ≢ pos 0 → ComesInReach m → IsBoxPolygon m (box_over_z m)
box_z m h r = elim (signs m.c) [
  | inl k ↦ subst (λ (es : List Coefficients). IsBoxPolygon m (trimmed_outline (trimmed_outline (record { plane = m; edges = es }) high_z) low_z)) (sym (turned_below m.c low_x low_y high_x high_y k)) (z_below m k r)
  | inr (inl k) ↦ absurd (h k)
  | inr (inr k) ↦ subst (λ (es : List Coefficients). IsBoxPolygon m (trimmed_outline (trimmed_outline (record { plane = m; edges = es }) high_z) low_z)) (sym (turned_above m.c low_x low_y high_x high_y k)) (z_above m k r)
]

pub box_y : (m : Coefficients) → m.b ≢ pos 0 → ComesInReach m → IsBoxPolygon m (box_over_y m)
box_y m h r = elim (signs m.b) [
  | inl k ↦ subst (λ (es : List Coefficients). IsBoxPolygon m (trimmed_outline (trimmed_outline (record { plane = m; edges = es }) high_y) low_y)) (sym (turned_below m.b low_x high_z high_x low_z k)) (y_below m k r)
  | inr (inl k) ↦ absurd (h k)
  | inr (inr k) ↦ subst (λ (es : List Coefficients). IsBoxPolygon m (trimmed_outline (trimmed_outline (record { plane = m; edges = es }) high_y) low_y)) (sym (turned_above m.b low_x high_z high_x low_z k)) (y_above m k r)
]

pub box_x : (m : Coefficients) → m.a ≢ pos 0 → ComesInReach m → IsBoxPolygon m (box_over_x m)
box_x m h r = elim (signs m.a) [
  | inl k ↦ subst (λ (es : List Coefficients). IsBoxPolygon m (trimmed_outline (trimmed_outline (record { plane = m; edges = es }) high_x) low_x)) (sym (turned_below m.a low_y low_z high_y high_z k)) (x_below m k r)
  | inr (inl k) ↦ absurd (h k)
  | inr (inr k) ↦ subst (λ (es : List Coefficients). IsBoxPolygon m (trimmed_outline (trimmed_outline (record { plane = m; edges = es }) high_x) low_x)) (sym (turned_above m.a low_y low_z high_y high_z k)) (x_above m k r)
]

-- ---- which of the three it is
no_zero : (x : ℤ) → x ≢ pos 0 → int_eq x (pos 0) ≡ false
no_zero x h = elim (int_eq x (pos 0)) as (λ b. int_eq x (pos 0) ≡ b → b ≡ false) [ true ↦ λ e. absurd (h (grind (arith, ints))) | false ↦ λ e. refl ] refl

zero_is : (x : ℤ) → x ≡ pos 0 → int_eq x (pos 0) ≡ true
zero_is x e = ap (λ (y : ℤ). int_eq y (pos 0)) e

pub box_is_z : (m : Coefficients) → m.c ≢ pos 0 → box_outline m ≡ box_over_z m
box_is_z m h = ap (λ (b : Bool). if not b then box_over_z m else (if not (int_eq m.b (pos 0)) then box_over_y m else box_over_x m)) (no_zero m.c h)

pub box_is_y : (m : Coefficients) → m.c ≡ pos 0 → m.b ≢ pos 0 → box_outline m ≡ box_over_y m
box_is_y m e h =
    ap (λ (b : Bool). if not b then box_over_z m else (if not (int_eq m.b (pos 0)) then box_over_y m else box_over_x m)) (zero_is m.c e)
    ∙ ap (λ (b : Bool). if not b then box_over_y m else box_over_x m) (no_zero m.b h)

pub box_is_x : (m : Coefficients) → m.c ≡ pos 0 → m.b ≡ pos 0 → box_outline m ≡ box_over_x m
box_is_x m e f =
    ap (λ (b : Bool). if not b then box_over_z m else (if not (int_eq m.b (pos 0)) then box_over_y m else box_over_x m)) (zero_is m.c e)
    ∙ ap (λ (b : Bool). if not b then box_over_y m else box_over_x m) (zero_is m.b f)

size_of_zero : (x : ℤ) → x ≡ pos 0 → unsigned_abs x ≡ 0
size_of_zero x e = ap unsigned_abs e

pub x_is_left : (m : Coefficients) → IsPlane m → m.c ≡ pos 0 → m.b ≡ pos 0 → m.a ≢ pos 0
x_is_left m h e f k = omega (arith, h.directed, size_of_zero m.a k, size_of_zero m.b f, size_of_zero m.c e)

below_apart : (x : ℤ) → x <ℤ pos 0 → x ≢ pos 0
below_apart x h e = omega (arith, sums)

above_apart : (x : ℤ) → pos 0 <ℤ x → x ≢ pos 0
above_apart x h e = omega (arith, sums)

pub box_polygon_is : (m : Coefficients) → IsPlane m → ComesInReach m → IsBoxPolygon m (box_outline m)
box_polygon_is m h r = elim (signs m.c) [
  | inl k ↦ (let n : m.c ≢ pos 0 = λ e. below_apart m.c k e in subst (IsBoxPolygon m) (sym (box_is_z m n)) (box_z m n r))
  | inr (inr k) ↦ (let n : m.c ≢ pos 0 = λ e. above_apart m.c k e in subst (IsBoxPolygon m) (sym (box_is_z m n)) (box_z m n r))
  | inr (inl e) ↦ elim (signs m.b) [
    | inl k ↦ (let n : m.b ≢ pos 0 = λ f. below_apart m.b k f in subst (IsBoxPolygon m) (sym (box_is_y m e n)) (box_y m n r))
    | inr (inr k) ↦ (let n : m.b ≢ pos 0 = λ f. above_apart m.b k f in subst (IsBoxPolygon m) (sym (box_is_y m e n)) (box_y m n r))
    | inr (inl f) ↦ subst (IsBoxPolygon m) (sym (box_is_x m e f)) (box_x m (x_is_left m h e f) r)
  ]
]

pub if_ok : {A E : Type 0} (r : Result A E) (P Q : A → Type 0) → ((a : A) → P a → Q a) → IfOk r P → IfOk r Q
if_ok (Ok a) P Q f h = f a h
if_ok (Err e) P Q f h = h
