-- The shape of a polyhedron, and the first fault of its points and faces.
use Rattle.std.specs.Prelude.{◌≡◌, ◌⊎◌, ℕ, zero, suc, ℤ, List, [], ◌∷◌, length, get_or, All, Result, Err, ⊤}
use Rattle.text_place.specs.declared.fault.FaultKind.{FaultKind}
use Rattle.text_place.specs.declared.fault.FaultKind.TheVariants.{LongList, FewPoints, BadPoint, OutOfRange, NotFlat, NotClosed, NotConvex}
use Rattle.plane_predicate.specs.declared.unit.Unit.{Unit as LengthUnit}
use Rattle.plane_predicate.specs.Space.{point_at}
use Rattle.primitives.specs.declared.stop.ShapeStop.{ShapeStop}
use Rattle.primitives.specs.declared.stop.ShapeStop.TheVariants.{Kind, NoMemory}
use Rattle.primitives.specs.Shapes.{Mesh, IsPointInRange}
use Rattle.primitives.specs.Checks.{grid_points_of, AreCornersThere, HasEnoughCorners, IsClosedMesh, IsConvexMesh, IsFlatFace, IsWithinLimits}

-- the points in grid steps, and the faces as they are listed
abbrev pub polyhedron_of : LengthUnit → List (List ℤ) → List (List ℕ) → Mesh
polyhedron_of unit points faces = record { points = grid_points_of unit points; faces = faces }

-- the checks of the arguments as they are written
pub record PassesWrittenChecks (points : List (List ℤ)) (faces : List (List ℕ)) : Type 0 where
  pub limits : IsWithinLimits points faces
  pub corners : HasEnoughCorners faces
  pub there : AreCornersThere (length points) faces
  pub range : All (λ p. IsPointInRange (point_at p)) points

-- the checks of the surface that the faces form: it is that of a convex solid
pub record IsSurface (mesh : Mesh) : Type 0 where
  pub flat : All (IsFlatFace mesh.points) mesh.faces
  pub closed : IsClosedMesh mesh.points mesh.faces
  pub convex : IsConvexMesh mesh

-- all checks pass
pub record IsPolyhedron (unit : LengthUnit) (points : List (List ℤ)) (faces : List (List ℕ)) : Type 0 where
  pub written : PassesWrittenChecks points faces
  pub surface : IsSurface (polyhedron_of unit points faces)

-- the checks of the arguments in their order, and more behind them
abbrev pub written_checks : List (List ℤ) → List (List ℕ) → List (Type 0) → List (Type 0)
written_checks points faces more = IsWithinLimits points faces ∷ HasEnoughCorners faces ∷ AreCornersThere (length points) faces ∷ All (λ p. IsPointInRange (point_at p)) points ∷ more

-- what the faces are tested for once all points are in range, in order
abbrev pub surface_checks : Mesh → List (Type 0)
surface_checks mesh = All (IsFlatFace mesh.points) mesh.faces ∷ IsClosedMesh mesh.points mesh.faces ∷ IsConvexMesh mesh ∷ []

-- all that a polyhedron is tested for, in order
abbrev pub polyhedron_checks : LengthUnit → List (List ℤ) → List (List ℕ) → List (Type 0)
polyhedron_checks unit points faces = written_checks points faces (surface_checks (polyhedron_of unit points faces))

-- the faults of the checks of the surface, in the same order
abbrev pub surface_faults : List FaultKind
surface_faults = NotFlat ∷ NotClosed ∷ NotConvex ∷ []

-- the faults of these tests, in order
abbrev pub polyhedron_faults : List FaultKind
polyhedron_faults = LongList ∷ FewPoints ∷ BadPoint ∷ OutOfRange ∷ surface_faults

-- of some checks in order, the one with this number fails, and all before it pass
abbrev pub IsFirstToFail : List (Type 0) → ℕ → Type 0
IsFirstToFail [] n = ⊥
IsFirstToFail (check ∷ more) zero = check → ⊥
IsFirstToFail (check ∷ more) (suc n) = check × IsFirstToFail more n

-- the fault is that of the first check that fails, where the faults stand in the order of the checks
pub record IsFaultOf (list : List (Type 0)) (names : List FaultKind) (kind : FaultKind) : Type 0 where
  pub number : ℕ
  pub is : kind ≡ get_or names number NotConvex
  pub fails : IsFirstToFail list number

-- the fault of the first check that fails. Memory may run out at any time
abbrev pub IsFirstPolyhedronFault : LengthUnit → List (List ℤ) → List (List ℕ) → ShapeStop → Type 0
IsFirstPolyhedronFault unit points faces (Kind kind) = IsFaultOf (polyhedron_checks unit points faces) polyhedron_faults kind
IsFirstPolyhedronFault unit points faces NoMemory = ⊤

-- the fault of the first test that points and faces fail as they are written, before points are counted in grid steps
abbrev pub IsWrittenFault : List (List ℤ) → List (List ℕ) → ShapeStop → Type 0
IsWrittenFault points faces (Kind kind) = IsFaultOf (written_checks points faces []) polyhedron_faults kind
IsWrittenFault points faces NoMemory = ⊥

-- the fault of the first test that a surface fails, its points in grid steps
abbrev pub IsSurfaceFault : Mesh → ShapeStop → Type 0
IsSurfaceFault mesh (Kind kind) = IsFaultOf (surface_checks mesh) surface_faults kind
IsSurfaceFault mesh NoMemory = ⊤

-- the answer is this fault exactly where this holds, unless memory ran out
pub record IsAnsweredWhere {A : Type 0} (answer : Result A ShapeStop) (kind : FaultKind) (P : Type 0) : Type 0 where
  pub only : answer ≡ Err (Kind kind) → P
  pub always : P → (answer ≡ Err (Kind kind)) ⊎ (answer ≡ Err NoMemory)

-- each fault is answered exactly where its check fails and all earlier ones pass
pub record AnswersFirstFault (unit : LengthUnit) (points : List (List ℤ)) (faces : List (List ℕ)) {A : Type 0} (answer : Result A ShapeStop) : Type 0 where
  pub long_list : IsAnsweredWhere answer LongList (IsWithinLimits points faces → ⊥)
  pub few_points : IsAnsweredWhere answer FewPoints (IsWithinLimits points faces × (HasEnoughCorners faces → ⊥))
  pub bad_point : IsAnsweredWhere answer BadPoint (IsWithinLimits points faces × HasEnoughCorners faces × (AreCornersThere (length points) faces → ⊥))
  pub out_of_range : IsAnsweredWhere answer OutOfRange (IsWithinLimits points faces × HasEnoughCorners faces × AreCornersThere (length points) faces × (All (λ p. IsPointInRange (point_at p)) points → ⊥))
  pub not_flat : IsAnsweredWhere answer NotFlat (PassesWrittenChecks points faces × (All (IsFlatFace (grid_points_of unit points)) faces → ⊥))
  pub not_closed : IsAnsweredWhere answer NotClosed (PassesWrittenChecks points faces × All (IsFlatFace (grid_points_of unit points)) faces × (IsClosedMesh (grid_points_of unit points) faces → ⊥))
  pub not_convex : IsAnsweredWhere answer NotConvex (PassesWrittenChecks points faces × All (IsFlatFace (grid_points_of unit points)) faces × IsClosedMesh (grid_points_of unit points) faces × (IsConvexMesh (polyhedron_of unit points faces) → ⊥))
