-- What the arguments of a built-in module's call mean, or the first fault that they have together.
use Rattle.std.specs.Prelude.{Bool, not, [], ◌∷◌, Option, Some, option_map, Ok}
use Rattle.text_place.specs.declared.fault.FaultKind.TheVariants.{AssertFailed, WrongDimension}
use Rattle.csg_tree.specs.declared.op.Op.TheVariants as ops
use Rattle.plane_predicate.specs.declared.unit.Unit.{Unit as LengthUnit}
use Rattle.scad_value.specs.Values.{Val, NumberVal, RangeVal, truth_of}
use Rattle.scad_value.specs.Operators.{AnswerOrFault}
use Rattle.scad_modules.specs.Reading.{BoundArguments, bound_argument, numbers_in, or_default, required_argument, of_type, refused_where}
use Rattle.scad_modules.specs.declared.table.BuiltinModule.{BuiltinModule}
use Rattle.scad_modules.specs.declared.table.BuiltinModule.TheVariants.{Cube, Polyhedron, Cylinder, Square, Polygon, Circle, LinearExtrude, Translate, Rotate, Mirror, Scale, Multmatrix, Union, Difference, Intersection, Hull, Color, Render, Echo, Assert, Children}
use Rattle.scad_modules.specs.Effects.{EffectCall, a_join, a_hull, no_geometry, some_children, ChosenCall, all_children, numbered_children, ranged_children}
use Rattle.scad_modules.specs.Transforms.{translate_effect, rotate_effect, mirror_effect, scale_effect, multmatrix_effect}
use Rattle.scad_modules.specs.Shapes.{cube_effect, polyhedron_effect, square_effect, polygon_effect, circle_effect, cylinder_effect, extrude_effect}

-- children by one number, by a range, or by a list of numbers
abbrev pub chosen_in : Val → Option ChosenCall
chosen_in (NumberVal n) = Some (numbered_children (n ∷ []))
chosen_in (RangeVal from by upto) = Some (ranged_children from by upto)
chosen_in v = option_map numbered_children (numbers_in v)

-- children(index): all children of the enclosing call, where it is missing
abbrev pub children_effect : BoundArguments → AnswerOrFault EffectCall
children_effect bound = of_type (or_default all_children chosen_in (bound_argument bound 0)) (λ chosen. Ok (some_children chosen))

-- assert(condition): nothing where the condition holds
abbrev pub assert_effect : BoundArguments → AnswerOrFault EffectCall
assert_effect bound = required_argument (bound_argument bound 0) (λ v. refused_where (not (truth_of v)) AssertFailed (Ok no_geometry))

-- a hull stands inside no extrusion
abbrev pub hull_effect : Bool → AnswerOrFault EffectCall
hull_effect inside = refused_where inside WrongDimension (Ok a_hull)

-- a call's effect, inside an extrusion or not, by `$fn` and its parameters. The first fault counts: a missing argument, one
-- left out, one of another type, the module's own, a wrong dimension, a move that is too large
abbrev pub effect_of : LengthUnit → Bool → Option Val → BuiltinModule → BoundArguments → AnswerOrFault EffectCall
effect_of unit inside fragments Cube bound = cube_effect inside bound
effect_of unit inside fragments Polyhedron bound = polyhedron_effect inside bound
effect_of unit inside fragments Cylinder bound = cylinder_effect inside fragments bound
effect_of unit inside fragments Square bound = square_effect inside bound
effect_of unit inside fragments Polygon bound = polygon_effect inside bound
effect_of unit inside fragments Circle bound = circle_effect inside fragments bound
effect_of unit inside fragments LinearExtrude bound = extrude_effect inside bound
effect_of unit inside fragments Translate bound = translate_effect unit inside bound
effect_of unit inside fragments Rotate bound = rotate_effect inside bound
effect_of unit inside fragments Mirror bound = mirror_effect inside bound
effect_of unit inside fragments Scale bound = scale_effect inside bound
effect_of unit inside fragments Multmatrix bound = multmatrix_effect unit inside bound
effect_of unit inside fragments Union bound = Ok (a_join ops.Union)
effect_of unit inside fragments Difference bound = Ok (a_join ops.Difference)
effect_of unit inside fragments Intersection bound = Ok (a_join ops.Intersection)
effect_of unit inside fragments Hull bound = hull_effect inside
effect_of unit inside fragments Color bound = Ok (a_join ops.Union)
effect_of unit inside fragments Render bound = Ok (a_join ops.Union)
effect_of unit inside fragments Echo bound = Ok no_geometry
effect_of unit inside fragments Assert bound = assert_effect bound
effect_of unit inside fragments Children bound = children_effect bound
