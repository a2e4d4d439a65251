-- Designs whose shapes are the hulls of their points.
use Rattle.std.specs.Prelude.{◌⊎◌}
use Rattle.primitives.specs.Shapes.{Mesh, IsShape}
use Rattle.shape_hulls.specs.OwnHulls.{IsHullOfItsCorners, IsHullOfItsPoints}
use Rattle.scad_design.specs.Designs.{DesignTree, empty, a_leaf, joined_designs}

-- a shape that is the hull of its points, or of those that are corners of its faces, as a polyhedron is
abbrev pub IsHullShape : Mesh → Type 0
IsHullShape mesh = IsShape mesh × (IsHullOfItsPoints mesh ⊎ IsHullOfItsCorners mesh)

-- each shape of a design is a hull
abbrev pub AreHullShapes : DesignTree → Type 0
AreHullShapes empty = Unit {0}
AreHullShapes (a_leaf shape) = IsHullShape shape.mesh
AreHullShapes (joined_designs op left right) = AreHullShapes left × AreHullShapes right
