-- Worked rows of the table, which compute.
use Rattle.std.proofs.Common.{◌≡◌, ℕ, ℤ, pos, negsuc, true, false, List, [], ◌∷◌, map, Option, Some, None, refl, Ok, Err}
use Rattle.std.specs.Prelude.{codes}
use Rattle.text_place.specs.declared.fault.FaultKind.TheVariants.{BadArgument, TypeMismatch, NotInProfile, NotQuarter, Singular, WrongDimension, TooLarge, AssertFailed}
use Rattle.csg_tree.specs.declared.op.Op.TheVariants as ops
use Rattle.plane_predicate.specs.declared.unit.Unit.TheVariants.{Whole, Half}
use Rattle.plane_predicate.specs.Space.{point_at}
use Rattle.int_transform.specs.Maps.{identity, translation, scale_map, reflection, quarter_rotation, affine_of}
use Rattle.scad_value.specs.Values.{Val, NumberVal, TruthVal, TextVal, ListVal, RangeVal, UndefVal, vals_from}
use Rattle.scad_value.specs.Operators.{AnswerOrFault}
use Rattle.scad_modules.specs.declared.table.BuiltinModule.{BuiltinModule}
use Rattle.scad_modules.specs.declared.table.BuiltinModule.TheVariants.{Cube, Polyhedron, Cylinder, Square, Polygon, Circle, LinearExtrude, Translate, Rotate, Mirror, Scale, Multmatrix, Union, Hull, Color, Echo, Assert, Children}
use Rattle.scad_modules.specs.Effects.{EffectCall, a_solid, a_flat, a_move, a_join, a_hull, an_extrusion, no_geometry, some_children, cube_call, polyhedron_call, cylinder_call, square_call, polygon_call, circle_call, all_children, numbered_children, ranged_children}
use Rattle.scad_modules.specs.Table.{builtin_module_of, is_left_out_module}
use Rattle.scad_modules.specs.Calls.{effect_of}

abbrev given : ℕ → Option Val
given n = Some (NumberVal (pos n))

abbrev below : ℕ → Option Val
below n = Some (NumberVal (negsuc n))

abbrev vector : List ℤ → Val
vector ns = ListVal (vals_from (map (λ n. NumberVal n) ns))

abbrev listed : List Val → Option Val
listed vs = Some (ListVal (vals_from vs))

-- a call outside an extrusion and one inside it, with 4 fragments, in whole units
abbrev outside : BuiltinModule → List (Option Val) → AnswerOrFault EffectCall
outside = effect_of Whole false (given 4)

abbrev inside : BuiltinModule → List (Option Val) → AnswerOrFault EffectCall
inside = effect_of Whole true (given 4)

-- rotate([90,0,90]), rotate(90), rotate([0,0,-90]), rotate(45), rotate([360,0,0]) inside an extrusion
quarter_turns_about : outside Rotate (Some (vector (pos 90 ∷ pos 0 ∷ pos 90 ∷ [])) ∷ None ∷ [])
    ≡ Ok (a_move (quarter_rotation 0 ∷ identity ∷ quarter_rotation 2 ∷ []))
quarter_turns_about = refl

turned_about_z : inside Rotate (given 90 ∷ None ∷ []) ≡ Ok (a_move (identity ∷ identity ∷ quarter_rotation 2 ∷ []))
turned_about_z = refl

turned_back : outside Rotate (Some (vector (pos 0 ∷ pos 0 ∷ pos 270 ∷ [])) ∷ [])
    ≡ outside Rotate (Some (vector (pos 0 ∷ pos 360 ∷ negsuc 89 ∷ [])) ∷ [])
turned_back = refl

turned_skew : outside Rotate (given 45 ∷ None ∷ []) ≡ Err NotQuarter
turned_skew = refl

turned_round : inside Rotate (Some (vector (pos 360 ∷ pos 0 ∷ pos 0 ∷ [])) ∷ None ∷ []) ≡ Err WrongDimension
turned_round = refl

-- rotate([0,45,0]) inside an extrusion, rotate(a="", v=1), rotate(v=1)
turned_skew_inside : inside Rotate (Some (vector (pos 0 ∷ pos 45 ∷ pos 0 ∷ [])) ∷ None ∷ []) ≡ Err NotQuarter
turned_skew_inside = refl

turned_about_v : outside Rotate (Some (TextVal []) ∷ given 1 ∷ []) ≡ Err NotInProfile
turned_about_v = refl

turned_by_nothing : outside Rotate (None ∷ given 1 ∷ []) ≡ Err BadArgument
turned_by_nothing = refl

-- translate([1,-2]), translate([1,2,3]) inside an extrusion, translate(5), translate([2^52,0,1]) with half units
moved : inside Translate (Some (vector (pos 1 ∷ negsuc 1 ∷ [])) ∷ [])
    ≡ Ok (a_move (translation (point_at (pos 1 ∷ negsuc 1 ∷ pos 0 ∷ [])) ∷ []))
moved = refl

moved_up : inside Translate (Some (vector (pos 1 ∷ pos 2 ∷ pos 3 ∷ [])) ∷ []) ≡ Err WrongDimension
moved_up = refl

moved_by_a_number : outside Translate (given 5 ∷ []) ≡ Err TypeMismatch
moved_by_a_number = refl

moved_far : effect_of Half false None Translate (Some (vector (pos 4503599627370496 ∷ pos 0 ∷ pos 1 ∷ [])) ∷ [])
    ≡ Err TooLarge
moved_far = refl

moved_far_inside : effect_of Half true None Translate (Some (vector (pos 4503599627370496 ∷ pos 0 ∷ pos 1 ∷ [])) ∷ [])
    ≡ Err WrongDimension
moved_far_inside = refl

moved_halves : effect_of Half false None Translate (Some (vector (pos 1 ∷ pos 0 ∷ pos 3 ∷ [])) ∷ [])
    ≡ Ok (a_move (translation (point_at (pos 2 ∷ pos 0 ∷ pos 6 ∷ [])) ∷ []))
moved_halves = refl

-- scale([2,1]), scale(2) inside an extrusion, scale([1,0,1]), scale([1,1,0]) inside an extrusion
scaled : outside Scale (Some (vector (pos 2 ∷ pos 1 ∷ [])) ∷ [])
    ≡ Ok (a_move (scale_map (point_at (pos 2 ∷ pos 1 ∷ pos 1 ∷ [])) ∷ []))
scaled = refl

scaled_inside : inside Scale (given 2 ∷ []) ≡ Ok (a_move (scale_map (point_at (pos 2 ∷ pos 2 ∷ pos 1 ∷ [])) ∷ []))
scaled_inside = refl

scaled_flat : outside Scale (Some (vector (pos 1 ∷ pos 0 ∷ pos 1 ∷ [])) ∷ []) ≡ Err Singular
scaled_flat = refl

scaled_flat_inside : inside Scale (Some (vector (pos 1 ∷ pos 1 ∷ pos 0 ∷ [])) ∷ []) ≡ Err Singular
scaled_flat_inside = refl

-- mirror([0,5]), mirror([1,1,0]), mirror([0,0,0]), mirror([0,0,-2]) inside an extrusion
mirrored : inside Mirror (Some (vector (pos 0 ∷ pos 5 ∷ [])) ∷ []) ≡ Ok (a_move (reflection 1 ∷ []))
mirrored = refl

mirrored_along_two : outside Mirror (Some (vector (pos 1 ∷ pos 1 ∷ pos 0 ∷ [])) ∷ []) ≡ Err NotInProfile
mirrored_along_two = refl

mirrored_along_none : outside Mirror (Some (vector (pos 0 ∷ pos 0 ∷ pos 0 ∷ [])) ∷ []) ≡ Err NotInProfile
mirrored_along_none = refl

mirrored_down : inside Mirror (Some (vector (pos 0 ∷ pos 0 ∷ negsuc 1 ∷ [])) ∷ []) ≡ Err WrongDimension
mirrored_down = refl

-- multmatrix: three rows, with a fourth, with another fourth, singular, too large, out of the plane
abbrev x_row : Val
x_row = vector (pos 1 ∷ pos 1 ∷ pos 0 ∷ pos 5 ∷ [])

abbrev y_row : Val
y_row = vector (pos 0 ∷ pos 1 ∷ pos 0 ∷ pos 0 ∷ [])

abbrev z_row : ℤ → Val
z_row up = vector (pos 0 ∷ pos 0 ∷ pos 1 ∷ up ∷ [])

abbrev last_row : ℤ → Val
last_row w = vector (pos 0 ∷ pos 0 ∷ pos 0 ∷ w ∷ [])

sheared : outside Multmatrix (listed (x_row ∷ y_row ∷ z_row (pos 7) ∷ []) ∷ [])
    ≡ Ok (a_move (affine_of ((pos 1 ∷ pos 1 ∷ pos 0 ∷ pos 5 ∷ []) ∷ (pos 0 ∷ pos 1 ∷ pos 0 ∷ pos 0 ∷ []) ∷ (pos 0 ∷ pos 0 ∷ pos 1 ∷ pos 7 ∷ []) ∷ []) ∷ []))
sheared = refl

with_last : outside Multmatrix (listed (x_row ∷ y_row ∷ z_row (pos 7) ∷ last_row (pos 1) ∷ []) ∷ [])
    ≡ outside Multmatrix (listed (x_row ∷ y_row ∷ z_row (pos 7) ∷ []) ∷ [])
with_last = refl

with_other_last : outside Multmatrix (listed (x_row ∷ y_row ∷ z_row (pos 7) ∷ last_row (pos 2) ∷ []) ∷ []) ≡ Err TypeMismatch
with_other_last = refl

two_rows : outside Multmatrix (listed (x_row ∷ y_row ∷ []) ∷ []) ≡ Err TypeMismatch
two_rows = refl

singular : outside Multmatrix (listed (x_row ∷ x_row ∷ z_row (pos 0) ∷ []) ∷ []) ≡ Err Singular
singular = refl

steep : outside Multmatrix (listed (x_row ∷ y_row ∷ vector (pos 0 ∷ pos 0 ∷ negsuc 65535 ∷ pos 0 ∷ []) ∷ []) ∷ []) ≡ Err TooLarge
steep = refl

out_of_plane : inside Multmatrix (listed (x_row ∷ y_row ∷ z_row (pos 7) ∷ []) ∷ []) ≡ Err WrongDimension
out_of_plane = refl

in_plane : effect_of Half true None Multmatrix (listed (x_row ∷ y_row ∷ z_row (pos 0) ∷ []) ∷ [])
    ≡ Ok (a_move (affine_of ((pos 1 ∷ pos 1 ∷ pos 0 ∷ pos 10 ∷ []) ∷ (pos 0 ∷ pos 1 ∷ pos 0 ∷ pos 0 ∷ []) ∷ (pos 0 ∷ pos 0 ∷ pos 1 ∷ pos 0 ∷ []) ∷ []) ∷ []))
in_plane = refl

-- cube(), cube(1), cube([1,2,3]), cube(undef), cube([1,2]), cube(center=1), cube() inside an extrusion
least_cube : outside Cube (None ∷ None ∷ []) ≡ outside Cube (given 1 ∷ Some (TruthVal false) ∷ [])
least_cube = refl

even_cube : outside Cube (given 1 ∷ None ∷ []) ≡ Ok (a_solid (cube_call false (pos 1 ∷ pos 1 ∷ pos 1 ∷ [])))
even_cube = refl

long_cube : outside Cube (Some (vector (pos 1 ∷ pos 2 ∷ pos 3 ∷ [])) ∷ Some (TruthVal true) ∷ [])
    ≡ Ok (a_solid (cube_call true (pos 1 ∷ pos 2 ∷ pos 3 ∷ [])))
long_cube = refl

cube_of_undef : outside Cube (Some UndefVal ∷ None ∷ []) ≡ Err TypeMismatch
cube_of_undef = refl

cube_of_two : outside Cube (Some (vector (pos 1 ∷ pos 2 ∷ [])) ∷ None ∷ []) ≡ Err TypeMismatch
cube_of_two = refl

cube_at_one : inside Cube (None ∷ given 1 ∷ []) ≡ Err TypeMismatch
cube_at_one = refl

cube_inside : inside Cube (None ∷ None ∷ []) ≡ Err WrongDimension
cube_inside = refl

-- cylinder(r1=2), cylinder(h=2, r=1), cylinder(r=true, r1=1), cylinder(d=1, r=1, r1=1), cylinder(r2="")
default_radius : outside Cylinder (None ∷ given 2 ∷ None ∷ None ∷ None ∷ None ∷ None ∷ None ∷ [])
    ≡ Ok (a_solid (cylinder_call false (pos 1) (pos 2) (pos 1)))
default_radius = refl

both_radii : outside Cylinder (given 2 ∷ None ∷ None ∷ None ∷ given 3 ∷ None ∷ None ∷ None ∷ [])
    ≡ Ok (a_solid (cylinder_call false (pos 2) (pos 3) (pos 3)))
both_radii = refl

two_radii : outside Cylinder (None ∷ given 1 ∷ None ∷ None ∷ Some (TruthVal true) ∷ None ∷ None ∷ None ∷ []) ≡ Err BadArgument
two_radii = refl

diameter : outside Cylinder (None ∷ given 1 ∷ None ∷ None ∷ given 1 ∷ given 1 ∷ None ∷ None ∷ []) ≡ Err NotInProfile
diameter = refl

-- cylinder() with other numbers of fragments, also of another type, and inside an extrusion
round_cylinder : effect_of Whole false (given 0) Cylinder [] ≡ Err NotInProfile
round_cylinder = refl

undefined_cylinder : effect_of Whole false (Some UndefVal) Cylinder [] ≡ Err TypeMismatch
undefined_cylinder = refl

cylinder_inside : effect_of Whole true (given 0) Cylinder [] ≡ Err WrongDimension
cylinder_inside = refl

-- circle(2), circle(d=1, r=""), circle() outside an extrusion
circle_inside : inside Circle (given 2 ∷ None ∷ []) ≡ Ok (a_flat (circle_call (pos 2)))
circle_inside = refl

circle_by_diameter : inside Circle (Some (TextVal []) ∷ given 1 ∷ []) ≡ Err NotInProfile
circle_by_diameter = refl

circle_outside : effect_of Whole false (given 0) Circle [] ≡ Err WrongDimension
circle_outside = refl

-- polygon([[0,0],[1,0]]), polygon(paths=1), polygon(1, paths=1), polygon([[0,0,0]])
polygon_of_two : inside Polygon (listed (vector (pos 0 ∷ pos 0 ∷ []) ∷ vector (pos 1 ∷ pos 0 ∷ []) ∷ []) ∷ None ∷ None ∷ [])
    ≡ Ok (a_flat (polygon_call ((pos 0 ∷ pos 0 ∷ []) ∷ (pos 1 ∷ pos 0 ∷ []) ∷ [])))
polygon_of_two = refl

polygon_of_nothing : inside Polygon (None ∷ given 1 ∷ None ∷ []) ≡ Err BadArgument
polygon_of_nothing = refl

polygon_by_paths : inside Polygon (given 1 ∷ given 1 ∷ None ∷ []) ≡ Err NotInProfile
polygon_by_paths = refl

polygon_in_space : inside Polygon (listed (vector (pos 0 ∷ pos 0 ∷ pos 0 ∷ []) ∷ []) ∷ None ∷ None ∷ []) ≡ Err TypeMismatch
polygon_in_space = refl

-- polyhedron([[1,2,3]], [[0,-1,4294967296]]), polyhedron(faces=[]), polyhedron([], [0])
polyhedron_of_corners : outside Polyhedron (listed (vector (pos 1 ∷ pos 2 ∷ pos 3 ∷ []) ∷ []) ∷ listed (vector (pos 0 ∷ negsuc 0 ∷ pos 4294967296 ∷ []) ∷ []) ∷ None ∷ [])
    ≡ Ok (a_solid (polyhedron_call ((pos 1 ∷ pos 2 ∷ pos 3 ∷ []) ∷ []) ((0 ∷ 4294967295 ∷ 4294967295 ∷ []) ∷ [])))
polyhedron_of_corners = refl

polyhedron_of_faces : outside Polyhedron (None ∷ listed [] ∷ None ∷ []) ≡ Err BadArgument
polyhedron_of_faces = refl

polyhedron_of_numbers : outside Polyhedron (listed [] ∷ Some (vector (pos 0 ∷ [])) ∷ None ∷ []) ≡ Err TypeMismatch
polyhedron_of_numbers = refl

-- square([2,1], true), square(2) outside an extrusion
square_inside : inside Square (Some (vector (pos 2 ∷ pos 1 ∷ [])) ∷ Some (TruthVal true) ∷ [])
    ≡ Ok (a_flat (square_call true (pos 2 ∷ pos 1 ∷ [])))
square_inside = refl

square_outside : outside Square (given 2 ∷ None ∷ []) ≡ Err WrongDimension
square_outside = refl

-- linear_extrude(-2), linear_extrude(twist=0), linear_extrude("", slices=1), linear_extrude(1) in another one
extruded : outside LinearExtrude (below 1 ∷ None ∷ None ∷ None ∷ None ∷ None ∷ []) ≡ Ok (an_extrusion false (negsuc 1))
extruded = refl

extruded_by_nothing : outside LinearExtrude (None ∷ None ∷ None ∷ given 0 ∷ None ∷ None ∷ []) ≡ Err BadArgument
extruded_by_nothing = refl

extruded_in_slices : outside LinearExtrude (Some (TextVal []) ∷ None ∷ None ∷ None ∷ None ∷ given 1 ∷ []) ≡ Err NotInProfile
extruded_in_slices = refl

extruded_twice : inside LinearExtrude (given 1 ∷ None ∷ None ∷ None ∷ None ∷ None ∷ []) ≡ Err WrongDimension
extruded_twice = refl

-- union(), hull(), hull() inside an extrusion, color("red"), echo(), assert(0), assert(), assert(true, "")
joined : outside Union [] ≡ Ok (a_join ops.Union)
joined = refl

hulled : outside Hull [] ≡ Ok a_hull
hulled = refl

hulled_inside : inside Hull [] ≡ Err WrongDimension
hulled_inside = refl

colored : inside Color (Some (TextVal (codes "red")) ∷ None ∷ []) ≡ Ok (a_join ops.Union)
colored = refl

echoed : outside Echo [] ≡ Ok no_geometry
echoed = refl

asserted_zero : outside Assert (given 0 ∷ None ∷ []) ≡ Err AssertFailed
asserted_zero = refl

asserted_nothing : outside Assert (None ∷ Some UndefVal ∷ []) ≡ Err BadArgument
asserted_nothing = refl

asserted_true : outside Assert (Some (TruthVal true) ∷ Some (TextVal []) ∷ []) ≡ Ok no_geometry
asserted_true = refl

-- children(), children(2), children([1,0]), children([0:1:2]), children(undef)
all_of_them : outside Children (None ∷ []) ≡ Ok (some_children all_children)
all_of_them = refl

one_of_them : inside Children (given 2 ∷ []) ≡ Ok (some_children (numbered_children (pos 2 ∷ [])))
one_of_them = refl

two_of_them : outside Children (Some (vector (pos 1 ∷ pos 0 ∷ [])) ∷ []) ≡ Ok (some_children (numbered_children (pos 1 ∷ pos 0 ∷ [])))
two_of_them = refl

some_of_them : outside Children (Some (RangeVal (pos 0) (pos 1) (pos 2)) ∷ []) ≡ Ok (some_children (ranged_children (pos 0) (pos 1) (pos 2)))
some_of_them = refl

none_of_them : outside Children (Some UndefVal ∷ []) ≡ Err TypeMismatch
none_of_them = refl

-- names
scale_is_known : builtin_module_of (codes "scale") ≡ Some Scale
scale_is_known = refl

sphere_is_unknown : builtin_module_of (codes "sphere") ≡ None
sphere_is_unknown = refl

hull_is_known : builtin_module_of (codes "hull") ≡ Some Hull
hull_is_known = refl

hull_is_not_left_out : is_left_out_module (codes "hull") ≡ false
hull_is_not_left_out = refl

minkowski_is_left_out : is_left_out_module (codes "minkowski") ≡ true
minkowski_is_left_out = refl

cylinder_is_not_left_out : is_left_out_module (codes "cylinder") ≡ false
cylinder_is_not_left_out = refl
