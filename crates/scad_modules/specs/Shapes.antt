-- Calls of shapes and of extrusion (OpenSCAD User Manual, "3D Primitives" and "2D Primitives"). Solid shapes stand outside
-- an extrusion, shapes in the plane inside one.
use Rattle.std.specs.Prelude.{ℤ, pos, Bool, false, not, ◌&&◌, ◌||◌, [], ◌∷◌, Option, Some, None, is_some, Ok}
use Rattle.std.specs.Ordering.{int_eq}
use Rattle.text_place.specs.declared.fault.FaultKind.TheVariants.{BadArgument, NotInProfile, WrongDimension}
use Rattle.scad_value.specs.Values.{Val}
use Rattle.scad_value.specs.Operators.{AnswerOrFault}
use Rattle.scad_modules.specs.Reading.{BoundArguments, bound_argument, number_in_value, truth_in, sides_in, points_in, faces_in, or_default, required_argument, unless_left_out, of_type, refused_where}
use Rattle.scad_modules.specs.Effects.{EffectCall, a_solid, a_flat, an_extrusion, cube_call, polyhedron_call, cylinder_call, square_call, polygon_call, circle_call}

-- cube(size = [1, 1, 1], center = false)
abbrev pub cube_effect : Bool → BoundArguments → AnswerOrFault EffectCall
cube_effect inside bound =
    of_type (or_default (pos 1 ∷ pos 1 ∷ pos 1 ∷ []) (sides_in 3) (bound_argument bound 0)) (λ size.
    of_type (or_default false truth_in (bound_argument bound 1)) (λ center.
    refused_where inside WrongDimension
    (Ok (a_solid (cube_call center size)))))

-- polyhedron(points, faces)
abbrev pub polyhedron_effect : Bool → BoundArguments → AnswerOrFault EffectCall
polyhedron_effect inside bound =
    required_argument (bound_argument bound 0) (λ v.
    required_argument (bound_argument bound 1) (λ w.
    of_type (points_in 3 v) (λ points.
    of_type (faces_in w) (λ faces.
    refused_where inside WrongDimension
    (Ok (a_solid (polyhedron_call points faces)))))))

-- square(size = [1, 1], center = false)
abbrev pub square_effect : Bool → BoundArguments → AnswerOrFault EffectCall
square_effect inside bound =
    of_type (or_default (pos 1 ∷ pos 1 ∷ []) (sides_in 2) (bound_argument bound 0)) (λ size.
    of_type (or_default false truth_in (bound_argument bound 1)) (λ center.
    refused_where (not inside) WrongDimension
    (Ok (a_flat (square_call center size)))))

-- polygon(points), without paths
abbrev pub polygon_effect : Bool → BoundArguments → AnswerOrFault EffectCall
polygon_effect inside bound =
    required_argument (bound_argument bound 0) (λ v.
    unless_left_out (bound_argument bound 1)
    (of_type (points_in 2 v) (λ points.
    refused_where (not inside) WrongDimension
    (Ok (a_flat (polygon_call points))))))

-- the number of fragments, which must be given
abbrev pub fragments_in : Option Val → Option ℤ
fragments_in None = None
fragments_in (Some v) = number_in_value v

-- goes on where there are four fragments, and else it is of another type or left out
abbrev pub with_four : Option Val → AnswerOrFault EffectCall → AnswerOrFault EffectCall
with_four fragments next =
    of_type (fragments_in fragments) (λ n. refused_where (not (int_eq n (pos 4))) NotInProfile next)

-- circle(r = 1), without d; its faults come in the order in which they stand here
abbrev pub circle_effect : Bool → Option Val → BoundArguments → AnswerOrFault EffectCall
circle_effect inside fragments bound =
    unless_left_out (bound_argument bound 1)
    (of_type (or_default (pos 1) number_in_value (bound_argument bound 0)) (λ radius.
    refused_where (not inside) WrongDimension
    (with_four fragments
    (Ok (a_flat (circle_call radius))))))

-- cylinder(h = 1, r1, r2, center = false, r), without d, d1 and d2; a missing r1 or r2 is r, or 1 where r is missing too; its
-- faults come in the order in which they stand here
abbrev pub cylinder_effect : Bool → Option Val → BoundArguments → AnswerOrFault EffectCall
cylinder_effect inside fragments bound =
    unless_left_out (bound_argument bound 5)
    (unless_left_out (bound_argument bound 6)
    (unless_left_out (bound_argument bound 7)
    (refused_where (is_some (bound_argument bound 4) && (is_some (bound_argument bound 1) || is_some (bound_argument bound 2))) BadArgument
    (of_type (or_default (pos 1) number_in_value (bound_argument bound 0)) (λ height.
    of_type (or_default (pos 1) number_in_value (bound_argument bound 4)) (λ radius.
    of_type (or_default radius number_in_value (bound_argument bound 1)) (λ low.
    of_type (or_default radius number_in_value (bound_argument bound 2)) (λ high.
    of_type (or_default false truth_in (bound_argument bound 3)) (λ center.
    refused_where inside WrongDimension
    (with_four fragments
    (Ok (a_solid (cylinder_call center height low high)))))))))))))

-- linear_extrude(height, center = false), without twist, scale and slices
abbrev pub extrude_effect : Bool → BoundArguments → AnswerOrFault EffectCall
extrude_effect inside bound =
    required_argument (bound_argument bound 0) (λ v.
    unless_left_out (bound_argument bound 3)
    (unless_left_out (bound_argument bound 4)
    (unless_left_out (bound_argument bound 5)
    (of_type (number_in_value v) (λ height.
    of_type (or_default false truth_in (bound_argument bound 1)) (λ center.
    refused_where inside WrongDimension
    (Ok (an_extrusion center height))))))))
