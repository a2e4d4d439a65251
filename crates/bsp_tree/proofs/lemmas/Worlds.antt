-- The world box as a cell, and half spaces of it.
use Rattle.std.proofs.Common.{arith, ℤ, ◌<ℤ◌, negsuc, ◌*◌, ◌<◌, ◌-ℤ◌, ◌*ℤ◌, unsigned_abs, ◌≡◌, ◌↔◌, Bool, true, false, not, if◌then◌else◌, refl, sym, subst, ◌∙◌, pos}
use Rattle.plane_predicate.proofs.lemmas.IntegerRing.{sums}
use Rattle.std.specs.Ordering.{int_eq}
use Rattle.plane_predicate.specs.Space.{Coefficients, Coordinates, value, IsPlane, IsInReach, IsInWorld, IsInClosedWorld, ComesInReach}
use Rattle.plane_polygon.specs.Polygons.{Outline}
use Rattle.plane_polygon.specs.declared.classes.Class.{Class}
use Rattle.plane_polygon.specs.declared.classes.Class.TheVariants.{Behind, Ahead, On, Across}
use Rattle.plane_polygon.specs.Parts.{class_of}
use Rattle.plane_polygon.specs.Boxes.{high_x, low_x, high_y, low_y, high_z, low_z, counterclockwise_edges, box_outline, box_over_x, box_over_y, box_over_z, trimmed_outline, outline_trimmed_to}
use Rattle.plane_polygon.proofs.lemmas.BoxPoints.{value_high_x, value_low_x, value_high_y, value_low_y, value_high_z, value_low_z, in_world, world_in, reach_in, box_polygon_is}
use Rattle.bsp_tree.specs.Trees.{half_space}
use Rattle.bsp_tree.specs.Cells.{IsInCell, IsInClosedCell, IsPolygonOfCell, IsOfWorld, world_box}

-- ---- the points of the world box
pub closed_world : (p : Coordinates) → IsInClosedCell world_box p ↔ IsInClosedWorld p
closed_world p = (
  λ h. in_world p h.weight (record {
    high_x_side = h.below.0;
    low_x_side = h.below.1.0;
    high_y_side = h.below.1.1.0;
    low_y_side = h.below.1.1.1.0;
    high_z_side = h.below.1.1.1.1.0;
    low_z_side = h.below.1.1.1.1.1.0;
  }),
  λ h. (let k = world_in p h in record {
    weight = h.weight;
    below =
        (k.high_x_side, (k.low_x_side, (k.high_y_side, (k.low_y_side, (k.high_z_side, (k.low_z_side, tt))))));
  }),
)

-- a number against 4096 w, w above 0
size_strict : (x w : ℤ) → pos 0 <ℤ w → (x -ℤ pos 4096 *ℤ w) <ℤ pos 0 → ((pos 0 -ℤ x) -ℤ pos 4096 *ℤ w) <ℤ pos
    0 → unsigned_abs x < 4096 * unsigned_abs w
size_strict (pos n) (pos k) above hh hl = omega (arith, sums)
size_strict (negsuc n) (pos k) above hh hl = omega (arith, sums)
size_strict x (negsuc k) above hh hl = absurd (omega (arith, sums))

strict_size : (x w : ℤ) → pos 0 <ℤ w → unsigned_abs x < 4096 * unsigned_abs w →
    ((x -ℤ pos 4096 *ℤ w) <ℤ pos 0) × (((pos 0 -ℤ x) -ℤ pos 4096 *ℤ w) <ℤ pos 0)
strict_size (pos n) (pos k) above s = (omega (arith, sums), omega (arith, sums))
strict_size (negsuc n) (pos k) above s = (omega (arith, sums), omega (arith, sums))
strict_size x (negsuc k) above s = absurd (omega (arith, sums))

below_by : (x y : ℤ) → x ≡ y → x <ℤ pos 0 → y <ℤ pos 0
below_by x y e h = subst (λ (z : ℤ). z <ℤ pos 0) e h

pub open_world : (p : Coordinates) → IsInCell world_box p ↔ IsInWorld p
open_world p = (
  λ h. (let b = h.below in record {
    weight = h.weight;
    x_size = size_strict p.x p.w h.weight (below_by _ _ (value_high_x p) b.0) (below_by _ _ (value_low_x p)
        b.1.0);
    y_size = size_strict p.y p.w h.weight (below_by _ _ (value_high_y p) b.1.1.0)
        (below_by _ _ (value_low_y p) b.1.1.1.0);
    z_size = size_strict p.z p.w h.weight (below_by _ _ (value_high_z p) b.1.1.1.1.0)
        (below_by _ _ (value_low_z p) b.1.1.1.1.1.0);
  }),
  λ h. (let x = strict_size p.x p.w h.weight h.x_size in let y = strict_size p.y p.w h.weight h.y_size in
      let z = strict_size p.z p.w h.weight h.z_size in record {
        weight = h.weight;
        below = (
          below_by _ _ (sym (value_high_x p)) x.0,
          (
            below_by _ _ (sym (value_low_x p)) x.1,
            (
              below_by _ _ (sym (value_high_y p)) y.0,
              (
                below_by _ _ (sym (value_low_y p)) y.1,
                (
                  below_by _ _ (sym (value_high_z p)) z.0,
                  (below_by _ _ (sym (value_low_z p)) z.1, tt),
                ),
              ),
            ),
          ),
        );
      }),
)

-- a point in reach is a point of the world box
pub reach_in_box : (p : Coordinates) → IsInReach p → IsInCell world_box p
reach_in_box p h = let k = reach_in p h in record {
  weight = h.weight;
  below =
      (k.high_x_side, (k.low_x_side, (k.high_y_side, (k.low_y_side, (k.high_z_side, (k.low_z_side, tt))))));
}

-- ---- the plane of a box polygon
trimmed_to_plane : (c : Class) (s : Outline) (m : Coefficients) → (outline_trimmed_to c s m).plane ≡ s.plane
trimmed_to_plane Across s m = refl
trimmed_to_plane Behind s m = refl
trimmed_to_plane Ahead s m = refl
trimmed_to_plane On s m = refl

trimmed_twice : (s : Outline) (m n : Coefficients) → (trimmed_outline (trimmed_outline s m) n).plane ≡ s.plane
trimmed_twice s m n = trimmed_to_plane (class_of (trimmed_outline s m) n) (trimmed_outline s m) n ∙
    trimmed_to_plane (class_of s m) s m

either_plane : (c d : Bool) (x y z : Outline) (m : Coefficients) → x.plane ≡ m → y.plane ≡ m → z.plane ≡ m →
    (if not c then z else if not d then y else x).plane ≡ m
either_plane true true x y z m hx hy hz = hx
either_plane true false x y z m hx hy hz = hy
either_plane false d x y z m hx hy hz = hz

pub box_plane : (m : Coefficients) → (box_outline m).plane ≡ m
box_plane m = either_plane (int_eq m.c (pos 0)) (int_eq m.b (pos 0)) (box_over_x m) (box_over_y m)
    (box_over_z m) m
    (trimmed_twice (record { plane = m; edges = counterclockwise_edges m.a low_y low_z high_y high_z }) high_x low_x)
    (trimmed_twice (record { plane = m; edges = counterclockwise_edges m.b low_x high_z high_x low_z }) high_y low_y)
    (trimmed_twice (record { plane = m; edges = counterclockwise_edges m.c low_x low_y high_x high_y }) high_z low_z)

-- ---- half spaces
-- the box polygon of a plane in reach is of the world box
pub box_across : (m : Coefficients) → IsPlane m → ComesInReach m → IsPolygonOfCell world_box (box_outline m)
box_across m h r =
    let b = box_polygon_is m h r in
    let e = box_plane m in record {
      polygon = b.polygon;
      plane = subst IsPlane (sym e) h;
      covers = λ p. (
        λ c. (let k = (b.points p).0 c in (
          (closed_world p).1 k.1,
          subst (λ (n : Coefficients). value n p ≡
              pos 0) (sym e) k.0,
        )),
        λ k. (b.points p).1 (subst (λ (n : Coefficients). value n p ≡ pos 0) e k.1, (closed_world p).0 k.0),
      );
      point = r.point;
      point_in = reach_in_box r.point r.reach;
      point_on = subst (λ (n : Coefficients). value n r.point ≡ pos 0) (sym e) r.on;
    }

-- a half space is of the world box
pub half_of_world : (m : Coefficients) → IsPlane m → ComesInReach m → IsOfWorld (half_space m)
half_of_world m h r = (box_across m h r, tt, tt)
