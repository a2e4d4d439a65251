-- Planes, meetings and sides that are written out.
use Rattle.std.proofs.Common.{◌≡◌, [], ◌∷◌, refl, arith, ℤ, pos, negsuc}
use Rattle.plane_predicate.specs.Space.{Coefficients, Coordinates, value, opposite_of, orientation_seen_from, meeting_by_cramers_rule, meeting, point_at, plane_of_points, AreCollinear, IsInReach, IsInWorld, IsInClosedWorld, IsPlaneTimes, IsPointTimes}
use Rattle.plane_predicate.specs.Sides.{side_of}
use Rattle.plane_predicate.specs.declared.sides.Side.TheVariants.{Behind, On, Ahead}
use Rattle.plane_predicate.proofs.lemmas.IntegerRing.{sums}

abbrev plane : ℤ → ℤ → ℤ → ℤ → Coefficients
plane a b c d = record { a = a; b = b; c = c; d = d }

abbrev point : ℤ → ℤ → ℤ → ℤ → Coordinates
point x y z w = record { x = x; y = y; z = z; w = w }

abbrev whole : ℤ → ℤ → ℤ → Coordinates
whole x y z = point_at (x ∷ y ∷ z ∷ [])

-- ---- through three points
ground_is : plane_of_points (whole (pos 0) (pos 0) (pos 0)) (whole (pos 1) (pos 0) (pos 0)) (whole (pos 0) (pos 1) (pos 0)) ≡ plane (pos 0) (pos 0) (pos 1) (pos 0)
ground_is = refl

turned_ground_is : plane_of_points (whole (pos 0) (pos 0) (pos 0)) (whole (pos 0) (pos 1) (pos 0)) (whole (pos 1) (pos 0) (pos 0)) ≡ plane (pos 0) (pos 0) (negsuc 0) (pos 0)
turned_ground_is = refl

-- across the whole range: the numbers are divided by 8189
steep_is : IsPlaneTimes (plane_of_points (whole (negsuc 4094) (negsuc 4094) (negsuc 4094)) (whole (pos 4095) (pos 4095) (negsuc 4093)) (whole (negsuc 4093) (pos 4095) (pos 4095))) (plane (pos 8190) (negsuc 8190) (pos 8190) (negsuc 33533954))
steep_is = record { by = pos 8189; above = omega (arith, sums); a = refl; b = refl; c = refl; d = refl }

on_a_line : AreCollinear (whole (pos 0) (pos 0) (pos 0)) (whole (pos 1) (pos 1) (pos 1)) (whole (pos 2) (pos 2) (pos 2))
on_a_line = record { a = refl; b = refl; c = refl }

-- ---- meetings
whole_meeting : meeting (plane (pos 1) (pos 0) (pos 0) (pos 1)) (plane (pos 0) (pos 1) (pos 0) (pos 2)) (plane (pos 0) (pos 0) (pos 1) (pos 3)) ≡ point (pos 1) (pos 2) (pos 3) (pos 1)
whole_meeting = refl

-- in another order, where the determinant is below 0
exchanged_meeting : meeting (plane (pos 0) (pos 1) (pos 0) (pos 2)) (plane (pos 1) (pos 0) (pos 0) (pos 1)) (plane (pos 0) (pos 0) (pos 1) (pos 3)) ≡ point (pos 1) (pos 2) (pos 3) (pos 1)
exchanged_meeting = refl

half_meeting : meeting (plane (pos 1) (pos 1) (pos 0) (pos 1)) (plane (pos 1) (negsuc 0) (pos 0) (pos 0)) (plane (pos 0) (pos 0) (pos 1) (pos 0)) ≡ point (pos 1) (pos 1) (pos 0) (pos 2)
half_meeting = refl

no_meeting : (meeting_by_cramers_rule (plane (pos 1) (pos 0) (pos 0) (pos 0)) (plane (pos 1) (pos 0) (pos 0) (pos 1)) (plane (pos 0) (pos 0) (pos 1) (pos 0))).w ≡ pos 0
no_meeting = refl

-- a meeting isn't reduced
least_meeting : IsPointTimes (meeting (plane (pos 2) (pos 0) (pos 0) (pos 1)) (plane (pos 0) (pos 2) (pos 0) (negsuc 2)) (plane (pos 0) (pos 0) (pos 2) (pos 5))) (point (pos 1) (negsuc 2) (pos 5) (pos 2))
least_meeting = record { by = pos 4; above = omega (arith, sums); x = refl; y = refl; z = refl; w = refl }

-- ---- sides
on_is : side_of (value (plane (pos 1) (pos 1) (pos 1) (pos 6)) (point (pos 1) (pos 2) (pos 3) (pos 1))) ≡ On
on_is = refl

behind_is : side_of (value (plane (pos 1) (pos 1) (pos 1) (pos 7)) (point (pos 1) (pos 2) (pos 3) (pos 1))) ≡ Behind
behind_is = refl

ahead_is : side_of (value (opposite_of (plane (pos 1) (pos 1) (pos 1) (pos 7))) (point (pos 1) (pos 2) (pos 3) (pos 1))) ≡ Ahead
ahead_is = refl

-- a half counts: 1/2 is behind the plane x = 1
half_is_behind : side_of (value (plane (pos 1) (pos 0) (pos 0) (pos 1)) (point (pos 1) (pos 1) (pos 0) (pos 2))) ≡ Behind
half_is_behind = refl

-- ---- turns, seen from above the ground
left_turn : orientation_seen_from (plane (pos 0) (pos 0) (pos 1) (pos 0)) (whole (pos 0) (pos 0) (pos 0)) (whole (pos 1) (pos 0) (pos 0)) (whole (pos 1) (pos 1) (pos 0)) ≡ pos 1
left_turn = refl

right_turn : orientation_seen_from (plane (pos 0) (pos 0) (pos 1) (pos 0)) (whole (pos 0) (pos 0) (pos 0)) (whole (pos 1) (pos 0) (pos 0)) (whole (pos 1) (negsuc 0) (pos 0)) ≡ negsuc 0
right_turn = refl

-- ---- the world box
last_in_reach : IsInReach (whole (pos 4095) (negsuc 4094) (pos 0))
last_in_reach = record { weight = omega (arith, sums); x_size = omega arith; y_size = omega arith; z_size = omega arith }

-- 4095 1/2 is inside the box and not in reach
half_in_world : IsInWorld (point (pos 8191) (pos 0) (negsuc 8190) (pos 2))
half_in_world = record { weight = omega (arith, sums); x_size = omega arith; y_size = omega arith; z_size = omega arith }

half_not_in_reach : IsInReach (point (pos 8191) (pos 0) (pos 0) (pos 2)) → ⊥
half_not_in_reach h = absurd (omega (arith, h.x_size))

wall_in_closed_world : IsInClosedWorld (whole (pos 4096) (pos 0) (negsuc 4095))
wall_in_closed_world = record { weight = omega (arith, sums); x_size = omega arith; y_size = omega arith; z_size = omega arith }

wall_not_in_world : IsInWorld (whole (pos 4096) (pos 0) (pos 0)) → ⊥
wall_not_in_world h = absurd (omega (arith, h.x_size))
