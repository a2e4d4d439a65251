-- Each shape that a right judge lets through is the hull of its points, or of its faces' points.
use Rattle.std.proofs.Common.{◌≡◌, ◌⊎◌, inl, inr, ℕ, ℤ, Bool, List, [], ◌∷◌, length, None, subst, ◌∙◌, arith}
use Rattle.plain_text.specs.declared.place.Place.{Place}
use Rattle.plane_predicate.specs.declared.unit.Unit.{Unit as LengthUnit}
use Rattle.primitives.specs.Boxes.{cube_of}
use Rattle.primitives.specs.Polygons.{IsFlatShape}
use Rattle.primitives.specs.Polyhedra.{polyhedron_of, IsPolyhedron}
use Rattle.primitives.specs.Prisms.{extrusion_of}
use Rattle.primitives.specs.Shapes.{Mesh, IsShape}
use Rattle.primitives.specs.Sizes.{AreSizes}
use Rattle.round_four.specs.Cylinders.{cylinder_of, AreCylinderSizes}
use Rattle.scad_hull.specs.Hulls.{hull_of}
use Rattle.scad_hull.specs.Refusals.{HaveHull}
use Rattle.shape_hulls.specs.OwnHulls.{IsHullOfItsCorners, IsHullOfItsPoints}
use Rattle.scad_ast.specs.Terms.{StatementTerm, statements_from}
use Rattle.scad_ast.specs.Places.{HoldsPlace}
use Rattle.scad_scope.specs.Names.{first_bindings}
use Rattle.scad_func.specs.Meaning.{Gives}
use Rattle.scad_modules.specs.Effects.{SolidCall, cube_call, polyhedron_call, cylinder_call, FlatCall}
use Rattle.scad_design.specs.Designs.{DesignTree, empty, a_leaf, joined_designs}
use Rattle.scad_meaning.specs.declared.extrusion.Extrusion.{Extrusion}
use Rattle.scad_meaning.specs.Hulls.{points_of, hull_mesh}
use Rattle.scad_meaning.specs.Verdicts.{Judge, IsRightJudge, IsSolidVerdict, IsFlatVerdict, IsHullVerdict, solid_mesh, flat_points, extrusion_mesh}
use Rattle.scad_meaning.specs.Meaning.{design_of}
use Rattle.scad_meaning.proofs.lemmas.HeldPlaces.{Keeps}
use Rattle.scad_meaning.proofs.lemmas.InstancePlaces.{LetsThrough, shapes_alone, DesignHeld}
use Rattle.scad_meaning.proofs.lemmas.ProgramPlaces.{shapes_keep}
use Rattle.scad_meaning.proofs.lemmas.SoundShapes.{HasSides, HasFlatSides, outline_is_flat}
use Rattle.source_laws.specs.SourceHulls.{IsHullShape, AreHullShapes}

design_hulls : (P : Place → Type 0) (design : DesignTree) → DesignHeld P IsHullShape design → AreHullShapes design
design_hulls P empty h = tt
design_hulls P (a_leaf part) h = h.1.0
design_hulls P (joined_designs op left right) h = (design_hulls P left h.0, design_hulls P right h.1)

module _ (cubes : (unit : LengthUnit) (center : Bool) (x y z : ℤ) → AreSizes unit center (x ∷ y ∷ z ∷ []) → IsHullOfItsPoints (cube_of unit center (x ∷ y ∷ z ∷ [])))
    (cylinders : (unit : LengthUnit) (center : Bool) (height low high : ℤ) → AreCylinderSizes unit center height low high → IsHullOfItsPoints (cylinder_of unit center height low high))
    (extrusions : (unit : LengthUnit) (center : Bool) (points : List (List ℤ)) (height : ℤ) → IsFlatShape points → AreSizes unit center (height ∷ []) → IsHullOfItsPoints (extrusion_of unit center points height))
    (hulls : (given : List (List ℤ)) → HaveHull given → IsHullOfItsPoints (hull_of given))
    (polyhedra : (unit : LengthUnit) (points : List (List ℤ)) (faces : List (List ℕ)) → IsPolyhedron unit points faces → IsHullOfItsCorners (polyhedron_of unit points faces)) where
  cube_hull : (unit : LengthUnit) (center : Bool) (size : List ℤ) → length size ≡ 3 → AreSizes unit center size → IsHullOfItsPoints (cube_of unit center size)
  cube_hull unit center [] e h = absurd (omega (arith, e))
  cube_hull unit center (x ∷ []) e h = absurd (omega (arith, e))
  cube_hull unit center (x ∷ y ∷ []) e h = absurd (omega (arith, e))
  cube_hull unit center (x ∷ y ∷ z ∷ []) e h = cubes unit center x y z h
  cube_hull unit center (x ∷ y ∷ z ∷ t ∷ more) e h = absurd (omega (arith, e))

  module _ (unit : LengthUnit) (judge : Judge) (right : IsRightJudge judge) where
    solid_hull : (call : SolidCall) → HasSides call → judge.solid unit call ≡ None → IsHullOfItsPoints (solid_mesh unit call) ⊎ IsHullOfItsCorners (solid_mesh unit call)
    solid_hull (cube_call center size) sides none =
        inl (cube_hull unit center size sides (subst (IsSolidVerdict unit (cube_call center size)) none (right.solid unit (cube_call center size))))
    solid_hull (polyhedron_call points faces) sides none =
        inr (polyhedra unit points faces (subst (IsSolidVerdict unit (polyhedron_call points faces)) none (right.solid unit (polyhedron_call points faces))))
    solid_hull (cylinder_call center height low high) sides none =
        inl (cylinders unit center height low high (subst (IsSolidVerdict unit (cylinder_call center height low high)) none (right.solid unit (cylinder_call center height low high))))

    extruded_hull : (through : Extrusion) (call : FlatCall) → AreSizes unit through.center (through.height ∷ []) → HasFlatSides call → judge.flat unit call ≡ None → IsHullOfItsPoints (extrusion_mesh unit through call)
    extruded_hull through call sizes sides none =
        extrusions unit through.center (flat_points unit call) through.height (outline_is_flat unit call sides (subst (IsFlatVerdict unit call) none (right.flat unit call))) sizes

    lets_hulls : LetsThrough unit IsHullShape judge
    lets_hulls =
        let shapes = shapes_alone unit judge right in record {
          solid = λ call sides none. (shapes.solid call sides none, solid_hull call sides none);
          flat = λ through call sizes sides none. (shapes.flat through call sizes sides none, inl (extruded_hull through call sizes sides none));
          height = shapes.height;
          hull = λ design none. (shapes.hull design none, inl (hulls (points_of design) (subst (IsHullVerdict design) none (right.hull design)).points));
        }

    pub designs_of_hulls : (program : List StatementTerm) (turns : ℕ) (design : DesignTree) → design_of unit judge first_bindings (statements_from program) ≡ Gives turns design → AreHullShapes design
    designs_of_hulls program turns design gives =
        let P : Place → Type 0 = λ at. HoldsPlace program at in
        design_hulls P design (subst (Keeps P (DesignHeld P IsHullShape)) gives (shapes_keep unit IsHullShape judge lets_hulls program))
