-- What is wrong with the sizes and points of a shape or with a hull, and the shape where nothing is.
use Rattle.std.specs.Prelude.{ℤ, Bool, List, [], ◌∷◌, Option, Some, None}
use Rattle.text_place.specs.declared.fault.FaultKind.{FaultKind}
use Rattle.plane_predicate.specs.declared.unit.Unit.{Unit as LengthUnit}
use Rattle.primitives.specs.Shapes.{Mesh}
use Rattle.primitives.specs.Sizes.{AreSizes, IsSizeFault}
use Rattle.primitives.specs.Boxes.{cube_of}
use Rattle.primitives.specs.Polygons.{square_of, polygon_of, IsWrittenPolygon, IsPolygonFault}
use Rattle.primitives.specs.Prisms.{extrusion_of}
use Rattle.round_four.specs.Circles.{circle_of, IsCircleSize, IsCircleFault}
use Rattle.round_four.specs.Cylinders.{cylinder_of, AreCylinderSizes, IsCylinderFault}
use Rattle.primitives.specs.Polyhedra.{polyhedron_of, IsPolyhedron, IsFaultOf, polyhedron_checks, polyhedron_faults}
use Rattle.scad_design.specs.Designs.{DesignTree}
use Rattle.scad_meaning.specs.declared.extrusion.Extrusion.{Extrusion}
use Rattle.scad_meaning.specs.Hulls.{HasHull, IsHullFault}
use Rattle.scad_modules.specs.Effects.{SolidCall, cube_call, polyhedron_call, cylinder_call, FlatCall, square_call, polygon_call, circle_call}

-- the first check of shapes that fails, or none
abbrev pub Verdict : Type 0
Verdict = Option FaultKind

-- For each shape, height and hull what is wrong with it. Whether points make a convex polygon or polyhedron, or lie on one
-- plane, is told by relations, so a judge is any function that tells it rightly
pub record Judge : Type 0 where
  pub solid : LengthUnit → SolidCall → Verdict
  pub flat : LengthUnit → FlatCall → Verdict
  pub height : LengthUnit → Bool → ℤ → Verdict
  pub hull : DesignTree → Verdict

-- what is wrong with the call of a solid, or that nothing is
abbrev pub IsSolidVerdict : LengthUnit → SolidCall → Verdict → Type 0
IsSolidVerdict unit (cube_call center size) None = AreSizes unit center size
IsSolidVerdict unit (cube_call center size) (Some kind) = IsSizeFault unit center size kind
IsSolidVerdict unit (polyhedron_call points faces) None = IsPolyhedron unit points faces
IsSolidVerdict unit (polyhedron_call points faces) (Some kind) = IsFaultOf (polyhedron_checks unit points faces) polyhedron_faults kind
IsSolidVerdict unit (cylinder_call center height low high) None = AreCylinderSizes unit center height low high
IsSolidVerdict unit (cylinder_call center height low high) (Some kind) = IsCylinderFault unit center height low high kind

-- what is wrong with the call of a flat shape, or that nothing is
abbrev pub IsFlatVerdict : LengthUnit → FlatCall → Verdict → Type 0
IsFlatVerdict unit (square_call center size) None = AreSizes unit center size
IsFlatVerdict unit (square_call center size) (Some kind) = IsSizeFault unit center size kind
IsFlatVerdict unit (polygon_call points) None = IsWrittenPolygon unit points
IsFlatVerdict unit (polygon_call points) (Some kind) = IsPolygonFault unit points kind
IsFlatVerdict unit (circle_call radius) None = IsCircleSize unit radius
IsFlatVerdict unit (circle_call radius) (Some kind) = IsCircleFault unit radius kind

-- what is wrong with the height of an extrusion, or that nothing is
abbrev pub IsHeightVerdict : LengthUnit → Bool → ℤ → Verdict → Type 0
IsHeightVerdict unit center height None = AreSizes unit center (height ∷ [])
IsHeightVerdict unit center height (Some kind) = IsSizeFault unit center (height ∷ []) kind

-- why a design has no hull, or that it has one
abbrev pub IsHullVerdict : DesignTree → Verdict → Type 0
IsHullVerdict design None = HasHull design
IsHullVerdict design (Some kind) = IsHullFault design kind

-- a judge that is always right
pub record IsRightJudge (judge : Judge) : Type 0 where
  pub solid : (unit : LengthUnit) (call : SolidCall) → IsSolidVerdict unit call (judge.solid unit call)
  pub flat : (unit : LengthUnit) (call : FlatCall) → IsFlatVerdict unit call (judge.flat unit call)
  pub height : (unit : LengthUnit) (center : Bool) (height : ℤ) → IsHeightVerdict unit center height (judge.height unit center height)
  pub hull : (design : DesignTree) → IsHullVerdict design (judge.hull design)

-- the shape with nothing wrong, in grid steps
abbrev pub solid_mesh : LengthUnit → SolidCall → Mesh
solid_mesh unit (cube_call center size) = cube_of unit center size
solid_mesh unit (polyhedron_call points faces) = polyhedron_of unit points faces
solid_mesh unit (cylinder_call center height low high) = cylinder_of unit center height low high

-- the points of a flat shape with nothing wrong, in grid steps
abbrev pub flat_points : LengthUnit → FlatCall → List (List ℤ)
flat_points unit (square_call center size) = square_of unit center size
flat_points unit (polygon_call points) = polygon_of unit points
flat_points unit (circle_call radius) = circle_of unit radius

-- the extrusion of a flat shape, in grid steps
abbrev pub extrusion_mesh : LengthUnit → Extrusion → FlatCall → Mesh
extrusion_mesh unit through call = extrusion_of unit through.center (flat_points unit call) through.height
