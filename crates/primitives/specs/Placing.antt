-- Placed shapes, and the planes of their faces.
use Rattle.std.specs.Prelude.{◌≡◌, ℕ, ℤ, pos, ◌<ℤ◌, Bool, not, ◌&&◌, List, [], ◌∷◌, map, filter, All, Any, ⊤}
use Rattle.std.specs.Ordering.{int_eq}
use Rattle.std.specs.List.{AllZip}
use Rattle.text_place.specs.declared.fault.FaultKind.TheVariants.{TooLarge, OutOfRange}
use Rattle.plane_predicate.specs.Space.{Coefficients, Coordinates, point_at, value, IsInReach}
use Rattle.int_transform.specs.declared.affine.Affine.{Affine}
use Rattle.int_transform.specs.Maps.{coordinate_list, image, map_of, LeavesSafeCoordinates, KeepsSafeCoordinates}
use Rattle.primitives.specs.declared.stop.ShapeStop.{ShapeStop}
use Rattle.primitives.specs.declared.stop.ShapeStop.TheVariants.{Kind, NoMemory}
use Rattle.primitives.specs.Shapes.{Mesh, IsPlaneOfFace}

-- the shape with its points moved
abbrev pub moved_mesh : Affine → Mesh → Mesh
moved_mesh m mesh = record { points = map (λ p. coordinate_list (image m (point_at p))) mesh.points; faces = mesh.faces }

-- the same four numbers
abbrev pub is_same_plane : Coefficients → Coefficients → Bool
is_same_plane m n = int_eq m.a n.a && int_eq m.b n.b && int_eq m.c n.c && int_eq m.d n.d

-- of equal planes the first stays
abbrev pub distinct_planes : List Coefficients → List Coefficients
distinct_planes [] = []
distinct_planes (m ∷ planes) = m ∷ filter (λ n. not (is_same_plane m n)) (distinct_planes planes)

-- the planes of some faces in order, of equal ones the first
pub record ArePlanesOf (mesh : Mesh) (faces : List (List ℕ)) (planes : List Coefficients) : Type 0 where
  pub all : List Coefficients
  pub each : AllZip (IsPlaneOfFace mesh) faces all
  pub first : planes ≡ distinct_planes all

-- a point that is strictly behind every plane
abbrev pub IsBehindAll : List Coefficients → Coordinates → Type 0
IsBehindAll planes p = All (λ m. value m p <ℤ pos 0) planes

-- why steps place points nowhere: a coordinate of one is past 2^53 - 1 in size after some step; or else one is past 4095
-- in size at the end; or memory ran out
abbrev pub IsPlacingStop : List Affine → List (List ℤ) → ShapeStop → Type 0
IsPlacingStop steps points (Kind TooLarge) = Any (λ p. LeavesSafeCoordinates steps (point_at p)) points
IsPlacingStop steps points (Kind OutOfRange) = All (λ p. KeepsSafeCoordinates steps (point_at p)) points
    × Any (λ p. IsInReach (image (map_of steps) (point_at p)) → ⊥) points
IsPlacingStop steps points (Kind kind) = ⊥
IsPlacingStop steps points NoMemory = ⊤
