-- Points and planes of space in whole numbers, without a bound.
use Rattle.std.specs.Prelude.{◌≡◌, ℕ, ◌+◌, ◌*◌, ◌<◌, ◌≤◌, Bool, ◌&&◌, ℤ, pos, negsuc, ◌+ℤ◌, ◌-ℤ◌, ◌*ℤ◌, ◌<ℤ◌, neg_ℤ, unsigned_abs, List, get_or, ◌↔◌}
use Rattle.std.specs.Ordering.{int_eq}
use Prim.Native.Nat.{◌∣◌}

-- homogeneous coordinates: with w above 0, the point (x/w, y/w, z/w)
pub record Coordinates : Type 0 where
  pub x : ℤ
  pub y : ℤ
  pub z : ℤ
  pub w : ℤ

-- a plane's numbers: the points with a x + b y + c z = d. Its direction is (a, b, c)
pub record Coefficients : Type 0 where
  pub a : ℤ
  pub b : ℤ
  pub c : ℤ
  pub d : ℤ

-- the value of a plane at a point: below 0 behind the plane, 0 on it, above 0 ahead of it
abbrev pub value : Coefficients → Coordinates → ℤ
value m p = m.a *ℤ p.x +ℤ m.b *ℤ p.y +ℤ m.c *ℤ p.z -ℤ m.d *ℤ p.w

-- the same points, seen from the other side
abbrev pub opposite_of : Coefficients → Coefficients
opposite_of m = record { a = neg_ℤ m.a; b = neg_ℤ m.b; c = neg_ℤ m.c; d = neg_ℤ m.d }

-- the same four numbers
abbrev pub is_same : Coefficients → Coefficients → Bool
is_same m n = int_eq m.a n.a && (int_eq m.b n.b && (int_eq m.c n.c && int_eq m.d n.d))

-- n (p x q): the product of a direction with the cross product of the first three parts of two points
abbrev pub product_with : Coefficients → Coordinates → Coordinates → ℤ
product_with n p q = n.a *ℤ (p.y *ℤ q.z -ℤ p.z *ℤ q.y) +ℤ n.b *ℤ (p.z *ℤ q.x -ℤ p.x *ℤ q.z) +ℤ n.c *ℤ (p.x *ℤ q.y -ℤ p.y *ℤ q.x)

-- the orientation of the way from p by q to r, seen from ahead of n: above 0 where it bends to the left
abbrev pub orientation_seen_from : Coefficients → Coordinates → Coordinates → Coordinates → ℤ
orientation_seen_from n p q r = p.w *ℤ product_with n q r +ℤ q.w *ℤ product_with n r p +ℤ r.w *ℤ product_with n p q

-- the scalar product of the directions of two planes
abbrev pub inner_product : Coefficients → Coefficients → ℤ
inner_product m n = m.a *ℤ n.a +ℤ m.b *ℤ n.b +ℤ m.c *ℤ n.c

-- a d - b c
abbrev pub minor : ℤ → ℤ → ℤ → ℤ → ℤ
minor a b c d = a *ℤ d -ℤ b *ℤ c

-- the determinant with the rows (a, b, c), (d, e, f) and (g, h, i)
abbrev pub determinant : ℤ → ℤ → ℤ → ℤ → ℤ → ℤ → ℤ → ℤ → ℤ → ℤ
determinant a b c d e f g h i = a *ℤ minor e f h i +ℤ b *ℤ minor f d i g +ℤ c *ℤ minor d e g h

-- Cramer's rule for the common point of three planes. Its w is the determinant of the three directions: 0 exactly
-- where they are dependent, and else of either sign
abbrev pub meeting_by_cramers_rule : Coefficients → Coefficients → Coefficients → Coordinates
meeting_by_cramers_rule p q r = record {
  x = determinant p.d p.b p.c q.d q.b q.c r.d r.b r.c;
  y = determinant p.a p.d p.c q.a q.d q.c r.a r.d r.c;
  z = determinant p.a p.b p.d q.a q.b q.d r.a r.b r.d;
  w = determinant p.a p.b p.c q.a q.b q.c r.a r.b r.c;
}

-- all signs changed
abbrev pub negated_point : Coordinates → Coordinates
negated_point p = record { x = neg_ℤ p.x; y = neg_ℤ p.y; z = neg_ℤ p.z; w = neg_ℤ p.w }

-- the same point with its w above 0, by the sign of its w
abbrev pub with_weight_above_zero : ℤ → Coordinates → Coordinates
with_weight_above_zero (pos n) p = p
with_weight_above_zero (negsuc n) p = negated_point p

-- the common point of three planes whose directions are independent, with its w above 0
abbrev pub meeting : Coefficients → Coefficients → Coefficients → Coordinates
meeting p q r = with_weight_above_zero (meeting_by_cramers_rule p q r).w (meeting_by_cramers_rule p q r)

-- the point with these three coordinates
abbrev pub point_at : List ℤ → Coordinates
point_at p = record { x = get_or p 0 (pos 0); y = get_or p 1 (pos 0); z = get_or p 2 (pos 0); w = pos 1 }

-- the plane through three points whose w is 1, with the direction (q - p) x (r - p). Its direction is 0 exactly where
-- the points are collinear
abbrev pub plane_of_points : Coordinates → Coordinates → Coordinates → Coefficients
plane_of_points p q r =
    let a = minor (q.y -ℤ p.y) (q.z -ℤ p.z) (r.y -ℤ p.y) (r.z -ℤ p.z) in
    let b = minor (q.z -ℤ p.z) (q.x -ℤ p.x) (r.z -ℤ p.z) (r.x -ℤ p.x) in
    let c = minor (q.x -ℤ p.x) (q.y -ℤ p.y) (r.x -ℤ p.x) (r.y -ℤ p.y) in
    record { a = a; b = b; c = c; d = a *ℤ p.x +ℤ b *ℤ p.y +ℤ c *ℤ p.z }

-- three points whose w is 1 lie on one line
pub record AreCollinear (p q r : Coordinates) : Type 0 where
  pub a : (plane_of_points p q r).a ≡ pos 0
  pub b : (plane_of_points p q r).b ≡ pos 0
  pub c : (plane_of_points p q r).c ≡ pos 0

-- the coordinates of shapes and of whatever a plane goes through: at most 4095 w in size
pub record IsInReach (p : Coordinates) : Type 0 where
  pub weight : pos 0 <ℤ p.w
  pub x_size : unsigned_abs p.x ≤ 4095 * unsigned_abs p.w
  pub y_size : unsigned_abs p.y ≤ 4095 * unsigned_abs p.w
  pub z_size : unsigned_abs p.z ≤ 4095 * unsigned_abs p.w

-- the plane has a point whose coordinates are at most 4095 in size
pub record ComesInReach (m : Coefficients) : Type 0 where
  pub point : Coordinates
  pub reach : IsInReach point
  pub on : value m point ≡ pos 0

-- a point strictly inside the world box: x, y and z are below 4096 w in size
pub record IsInWorld (p : Coordinates) : Type 0 where
  pub weight : pos 0 <ℤ p.w
  pub x_size : unsigned_abs p.x < 4096 * unsigned_abs p.w
  pub y_size : unsigned_abs p.y < 4096 * unsigned_abs p.w
  pub z_size : unsigned_abs p.z < 4096 * unsigned_abs p.w

-- a point in the closed world box
pub record IsInClosedWorld (p : Coordinates) : Type 0 where
  pub weight : pos 0 <ℤ p.w
  pub x_size : unsigned_abs p.x ≤ 4096 * unsigned_abs p.w
  pub y_size : unsigned_abs p.y ≤ 4096 * unsigned_abs p.w
  pub z_size : unsigned_abs p.z ≤ 4096 * unsigned_abs p.w

-- the greatest size of a part of a plane's direction: two differences of coordinates up to 8190, multiplied, twice
abbrev pub most_direction : ℕ
most_direction = 134152200

-- the greatest size of a plane's offset d: three parts of a direction, each times a coordinate up to 4095
abbrev pub most_offset : ℕ
most_offset = 1648059777000

-- the numbers that a plane of the program keeps: its sizes, a direction, and no common factor above 1
pub record IsPlane (m : Coefficients) : Type 0 where
  pub a_size : unsigned_abs m.a ≤ most_direction
  pub b_size : unsigned_abs m.b ≤ most_direction
  pub c_size : unsigned_abs m.c ≤ most_direction
  pub d_size : unsigned_abs m.d ≤ most_offset
  pub directed : 0 < unsigned_abs m.a + unsigned_abs m.b + unsigned_abs m.c
  pub reduced : (k : ℕ) → k ∣ unsigned_abs m.a → k ∣ unsigned_abs m.b → k ∣ unsigned_abs m.c → k ∣ unsigned_abs m.d → k ≡ 1

-- the sizes of a meeting of three planes
pub record HasMeetingSizes (p : Coordinates) : Type 0 where
  pub x_size : unsigned_abs p.x ≤ 6 * (most_direction * (most_direction * most_offset))
  pub y_size : unsigned_abs p.y ≤ 6 * (most_direction * (most_direction * most_offset))
  pub z_size : unsigned_abs p.z ≤ 6 * (most_direction * (most_direction * most_offset))
  pub w_size : unsigned_abs p.w ≤ 6 * (most_direction * (most_direction * most_direction))

-- the numbers that a point of the program keeps: a w above 0, and the sizes of a meeting of three planes
pub record IsPoint (p : Coordinates) : Type 0 where
  pub weight : pos 0 <ℤ p.w
  pub sizes : HasMeetingSizes p

-- the plane m is n with all numbers multiplied by one above 0
pub record IsPlaneTimes (m n : Coefficients) : Type 0 where
  pub by : ℤ
  pub above : pos 0 <ℤ by
  pub a : m.a ≡ by *ℤ n.a
  pub b : m.b ≡ by *ℤ n.b
  pub c : m.c ≡ by *ℤ n.c
  pub d : m.d ≡ by *ℤ n.d

-- the point p is q with all numbers multiplied by one above 0: the same point
pub record IsPointTimes (p q : Coordinates) : Type 0 where
  pub by : ℤ
  pub above : pos 0 <ℤ by
  pub x : p.x ≡ by *ℤ q.x
  pub y : p.y ≡ by *ℤ q.y
  pub z : p.z ≡ by *ℤ q.z
  pub w : p.w ≡ by *ℤ q.w

-- the greatest common divisor of four numbers
pub record IsCommonFactor (x y z w by : ℕ) : Type 0 where
  pub divides_x : by ∣ x
  pub divides_y : by ∣ y
  pub divides_z : by ∣ z
  pub divides_w : by ∣ w
  pub greatest : (k : ℕ) → k ∣ x → k ∣ y → k ∣ z → k ∣ w → k ∣ by

-- a, b, c and d are the quotients of x, y, z and w by their greatest common divisor
pub record AreQuotients (x y z w a b c d : ℤ) : Type 0 where
  pub factor : ℕ
  pub above : 0 < factor
  pub x_is : x ≡ pos factor *ℤ a
  pub y_is : y ≡ pos factor *ℤ b
  pub z_is : z ≡ pos factor *ℤ c
  pub w_is : w ≡ pos factor *ℤ d
  pub no_factor : (k : ℕ) → k ∣ unsigned_abs a → k ∣ unsigned_abs b → k ∣ unsigned_abs c → k ∣ unsigned_abs d → k ≡ 1

-- the four numbers have no common factor above 1
pub record HasNoCommonFactor (p : Coordinates) : Type 0 where
  pub reduced : (k : ℕ) → k ∣ unsigned_abs p.x → k ∣ unsigned_abs p.y → k ∣ unsigned_abs p.z → k ∣ unsigned_abs p.w → k ≡ 1

-- all points of m are on n
pub record HasItsPointsOn (m n : Coefficients) : Type 0 where
  pub points : (p : Coordinates) → pos 0 <ℤ p.w → value m p ≡ pos 0 → value n p ≡ pos 0

-- the two planes are the same set of points
pub record HaveSamePoints (m n : Coefficients) : Type 0 where
  pub points : (p : Coordinates) → pos 0 <ℤ p.w → (value m p ≡ pos 0) ↔ (value n p ≡ pos 0)

-- the origin of space
abbrev pub origin : Coordinates
origin = record { x = pos 0; y = pos 0; z = pos 0; w = pos 1 }

-- whether two points have the same four numbers; one point of space may be written with others too
abbrev pub has_same_numbers : Coordinates → Coordinates → Bool
has_same_numbers p q = int_eq p.x q.x && (int_eq p.y q.y && (int_eq p.z q.z && int_eq p.w q.w))
