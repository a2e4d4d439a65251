-- The answers of the calls that make shapes, by a judge that is right.
use Rattle.std.proofs.Common.{◌≡◌, ℤ, ℕ, Bool, List, Some, None, Result, Ok, Err, IfOk, OnOk, IfErr}
use Rattle.plane_predicate.specs.declared.unit.Unit.{Unit as LengthUnit}
use Rattle.primitives.specs.declared.stop.ShapeStop.{ShapeStop}
use Rattle.primitives.specs.declared.stop.ShapeStop.TheVariants.{Kind, NoMemory}
use Rattle.primitives.specs.Shapes.{Mesh}
use Rattle.primitives.specs.Sizes.{AreSizes, IsSizeStop}
use Rattle.primitives.specs.Boxes.{cube_of}
use Rattle.primitives.specs.Polygons.{square_of, polygon_of, IsWrittenPolygon, IsPolygonStop}
use Rattle.round_four.specs.Circles.{circle_of, IsCircleSize, IsCircleStop}
use Rattle.round_four.specs.Cylinders.{cylinder_of, AreCylinderSizes, IsCylinderStop}
use Rattle.primitives.specs.Polyhedra.{polyhedron_of, IsPolyhedron, IsFirstPolyhedronFault}
use Rattle.scad_modules.specs.Effects.{SolidCall, cube_call, polyhedron_call, cylinder_call, FlatCall, square_call, polygon_call, circle_call}
use Rattle.scad_meaning.specs.Verdicts.{Verdict, Judge, IsRightJudge, IsSolidVerdict, IsFlatVerdict}
use Rattle.scad_instance_rules.specs.Answers.{MeetsShape, MeetsFlat}
use Rattle.scad_meaning.proofs.lemmas.Verdicts.{one_solid_verdict, one_flat_verdict}

-- what a right judge says of a solid, by any right verdict
judges_solid : (judge : Judge) → IsRightJudge judge → (unit : LengthUnit) (call : SolidCall) (v : Verdict) → IsSolidVerdict unit call v → judge.solid unit call ≡ v
judges_solid judge right unit call v h = one_solid_verdict unit call (judge.solid unit call) v (right.solid unit call) h

judges_flat : (judge : Judge) → IsRightJudge judge → (unit : LengthUnit) (call : FlatCall) (v : Verdict) → IsFlatVerdict unit call v → judge.flat unit call ≡ v
judges_flat judge right unit call v h = one_flat_verdict unit call (judge.flat unit call) v (right.flat unit call) h

pub cube_answer : (unit : LengthUnit) (center : Bool) (size : List ℤ) (r : Result Mesh ShapeStop) →
    IfOk r (λ s. s ≡ cube_of unit center size) → OnOk r (AreSizes unit center size) → IfErr r (IsSizeStop unit center size) →
    (judge : Judge) → IsRightJudge judge → MeetsShape r (judge.solid unit (cube_call center size)) (cube_of unit center size)
cube_answer unit center size (Ok s) shape sizes stops judge right = (judges_solid judge right unit (cube_call center size) None sizes, shape)
cube_answer unit center size (Err (Kind kind)) shape sizes stops judge right = judges_solid judge right unit (cube_call center size) (Some kind) stops
cube_answer unit center size (Err NoMemory) shape sizes stops judge right = tt

pub polyhedron_answer : (unit : LengthUnit) (points : List (List ℤ)) (faces : List (List ℕ)) (r : Result Mesh ShapeStop) →
    IfOk r (λ s. s ≡ polyhedron_of unit points faces) → OnOk r (IsPolyhedron unit points faces) → IfErr r (IsFirstPolyhedronFault unit points faces) →
    (judge : Judge) → IsRightJudge judge → MeetsShape r (judge.solid unit (polyhedron_call points faces)) (polyhedron_of unit points faces)
polyhedron_answer unit points faces (Ok s) shape is stops judge right = (judges_solid judge right unit (polyhedron_call points faces) None is, shape)
polyhedron_answer unit points faces (Err (Kind kind)) shape is stops judge right = judges_solid judge right unit (polyhedron_call points faces) (Some kind) stops
polyhedron_answer unit points faces (Err NoMemory) shape is stops judge right = tt

pub cylinder_answer : (unit : LengthUnit) (center : Bool) (height low high : ℤ) (r : Result Mesh ShapeStop) →
    IfOk r (λ s. s ≡ cylinder_of unit center height low high) → OnOk r (AreCylinderSizes unit center height low high) → IfErr r (IsCylinderStop unit center height low high) →
    (judge : Judge) → IsRightJudge judge → MeetsShape r (judge.solid unit (cylinder_call center height low high)) (cylinder_of unit center height low high)
cylinder_answer unit center height low high (Ok s) shape is stops judge right = (judges_solid judge right unit (cylinder_call center height low high) None is, shape)
cylinder_answer unit center height low high (Err (Kind kind)) shape is stops judge right = judges_solid judge right unit (cylinder_call center height low high) (Some kind) stops
cylinder_answer unit center height low high (Err NoMemory) shape is stops judge right = tt

pub square_answer : (unit : LengthUnit) (center : Bool) (size : List ℤ) (r : Result (List (List ℤ)) ShapeStop) →
    IfOk r (λ f. f ≡ square_of unit center size) → OnOk r (AreSizes unit center size) → IfErr r (IsSizeStop unit center size) →
    (judge : Judge) → IsRightJudge judge → MeetsFlat r (judge.flat unit (square_call center size)) (square_of unit center size)
square_answer unit center size (Ok f) flat sizes stops judge right = (judges_flat judge right unit (square_call center size) None sizes, flat)
square_answer unit center size (Err (Kind kind)) flat sizes stops judge right = judges_flat judge right unit (square_call center size) (Some kind) stops
square_answer unit center size (Err NoMemory) flat sizes stops judge right = tt

pub polygon_answer : (unit : LengthUnit) (points : List (List ℤ)) (r : Result (List (List ℤ)) ShapeStop) →
    IfOk r (λ f. f ≡ polygon_of unit points) → OnOk r (IsWrittenPolygon unit points) → IfErr r (IsPolygonStop unit points) →
    (judge : Judge) → IsRightJudge judge → MeetsFlat r (judge.flat unit (polygon_call points)) (polygon_of unit points)
polygon_answer unit points (Ok f) flat is stops judge right = (judges_flat judge right unit (polygon_call points) None is, flat)
polygon_answer unit points (Err (Kind kind)) flat is stops judge right = judges_flat judge right unit (polygon_call points) (Some kind) stops
polygon_answer unit points (Err NoMemory) flat is stops judge right = tt

pub circle_answer : (unit : LengthUnit) (radius : ℤ) (r : Result (List (List ℤ)) ShapeStop) →
    IfOk r (λ f. f ≡ circle_of unit radius) → OnOk r (IsCircleSize unit radius) → IfErr r (IsCircleStop unit radius) →
    (judge : Judge) → IsRightJudge judge → MeetsFlat r (judge.flat unit (circle_call radius)) (circle_of unit radius)
circle_answer unit radius (Ok f) flat is stops judge right = (judges_flat judge right unit (circle_call radius) None is, flat)
circle_answer unit radius (Err (Kind kind)) flat is stops judge right = judges_flat judge right unit (circle_call radius) (Some kind) stops
circle_answer unit radius (Err NoMemory) flat is stops judge right = tt
