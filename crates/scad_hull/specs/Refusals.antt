-- When points have no hull.
use Rattle.std.specs.Prelude.{◌<◌, ◌≤◌, ℤ, List, length, All, ⊤}
use Rattle.text_place.specs.declared.fault.FaultKind.TheVariants.{LongList, FewPoints, OutOfRange}
use Rattle.plane_predicate.specs.Space.{point_at}
use Rattle.primitives.specs.Shapes.{IsPointInRange}
use Rattle.primitives.specs.declared.stop.ShapeStop.{ShapeStop}
use Rattle.primitives.specs.declared.stop.ShapeStop.TheVariants.{Kind, NoMemory}
use Rattle.scad_hull.specs.Hulls.{points_in_order, AreOnOnePlane}

-- all coordinates are at most 65,535 in size
abbrev pub ArePointsInRange : List (List ℤ) → Type 0
ArePointsInRange given = All (λ p. IsPointInRange (point_at p)) given

-- points with a hull: in range, at most 128 different ones, and not all on one plane
pub record HaveHull (given : List (List ℤ)) : Type 0 where
  pub range : ArePointsInRange given
  pub few : length (points_in_order given) ≤ 128
  pub solid : AreOnOnePlane (points_in_order given) → ⊥

-- why points have no hull: the first of these conditions that fails. Memory may run out at any time
abbrev pub IsHullStop : List (List ℤ) → ShapeStop → Type 0
IsHullStop given (Kind OutOfRange) = ArePointsInRange given → ⊥
IsHullStop given (Kind LongList) = ArePointsInRange given × (128 < length (points_in_order given))
IsHullStop given (Kind FewPoints) = ArePointsInRange given × (length (points_in_order given) ≤ 128) × AreOnOnePlane (points_in_order given)
IsHullStop given (Kind kind) = ⊥
IsHullStop given NoMemory = ⊤

-- the stops of finding the different points
abbrev pub IsCountStop : List (List ℤ) → ShapeStop → Type 0
IsCountStop given (Kind LongList) = 128 < length (points_in_order given)
IsCountStop given (Kind kind) = ⊥
IsCountStop given NoMemory = ⊤
