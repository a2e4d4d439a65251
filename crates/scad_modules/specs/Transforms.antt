-- Calls of transforms (OpenSCAD User Manual, "Transformations"). Inside an extrusion a transform must keep the plane.
use Rattle.std.specs.Prelude.{ℕ, ◌-◌, ◌/◌, ◌%◌, ℤ, pos, unsigned_abs, Bool, not, ◌&&◌, ◌||◌, List, [], ◌∷◌, get_or, Option, Some, None, Ok, Err, nat_eq, nat_lt, int_lt, if◌then◌else◌}
use Rattle.std.specs.Ordering.{int_eq}
use Rattle.text_place.specs.declared.fault.FaultKind.TheVariants.{TooLarge, NotQuarter, NotInProfile, Singular, WrongDimension}
use Rattle.plane_predicate.specs.declared.unit.Unit.{Unit as LengthUnit}
use Rattle.plane_predicate.specs.Space.{point_at}
use Rattle.int_transform.specs.declared.affine.Affine.{Affine}
use Rattle.int_transform.specs.Maps.{translation, scale_map, reflection, quarter_rotation, power_of, affine_of, determinant_of}
use Rattle.scad_value.specs.Values.{Val, is_small}
use Rattle.scad_value.specs.Operators.{AnswerOrFault}
use Rattle.scad_modules.specs.Reading.{BoundArguments, bound_argument, coordinates_in, angles_in, factors_in, points_in, required_argument, unless_left_out, of_type, refused_where}
use Rattle.scad_modules.specs.Effects.{EffectCall, a_move}
use Rattle.primitives.specs.Sizes.{length_in_grid_steps}

-- a number of a vector or a row, by its place from 0
abbrev pub component : List ℤ → ℕ → ℤ
component numbers place = get_or numbers place (pos 0)

-- whether a number is 0
abbrev pub is_zero : ℤ → Bool
is_zero n = int_eq n (pos 0)

-- a number that is past 2^53 - 1 in size
abbrev pub is_past_safe_size : ℤ → Bool
is_past_safe_size n = not (is_small n)

-- a vector in units, in grid steps
abbrev pub vector_on_grid : LengthUnit → List ℤ → List ℤ
vector_on_grid unit by = length_in_grid_steps unit (component by 0) ∷ length_in_grid_steps unit (component by 1) ∷ length_in_grid_steps unit (component by 2) ∷ []

-- something is so of one of three numbers
abbrev pub some_component : (ℤ → Bool) → List ℤ → Bool
some_component test by = test (component by 0) || (test (component by 1) || test (component by 2))

-- inside an extrusion, a vector that leaves the plane
abbrev pub leaves_plane : Bool → List ℤ → Bool
leaves_plane inside by = inside && not (is_zero (component by 2))

-- translate(v): 2 or 3 numbers
abbrev pub translate_effect : LengthUnit → Bool → BoundArguments → AnswerOrFault EffectCall
translate_effect unit inside bound =
    required_argument (bound_argument bound 0) (λ v.
    of_type (coordinates_in (pos 0) v) (λ by.
    refused_where (leaves_plane inside by) WrongDimension
    (refused_where (some_component is_past_safe_size (vector_on_grid unit by)) TooLarge
    (Ok (a_move (translation (point_at (vector_on_grid unit by)) ∷ []))))))

-- an angle that is no number of quarter turns
abbrev pub is_skew : ℤ → Bool
is_skew angle = not (nat_eq (unsigned_abs angle % 90) 0)

-- how many quarter turns an angle is, from 0 to 3
abbrev pub quarters_of : ℤ → ℕ
quarters_of angle =
    let quarters = (unsigned_abs angle / 90) % 4 in
    if int_lt angle (pos 0) then (4 - quarters) % 4 else quarters

-- the rotation about an axis by the given number of quarter turns as an angle is
abbrev pub quarter_rotation_about : ℕ → ℤ → Affine
quarter_rotation_about axis angle = power_of (quarter_rotation axis) (quarters_of angle)

-- inside an extrusion, a rotation about x or y
abbrev pub tilts_plane : Bool → List ℤ → Bool
tilts_plane inside angles = inside && not (is_zero (component angles 0) && is_zero (component angles 1))

-- the rotations about x, y and z, the first done first
abbrev pub quarter_rotations : List ℤ → List Affine
quarter_rotations angles = quarter_rotation_about 0 (component angles 0) ∷ quarter_rotation_about 1 (component angles 1) ∷ quarter_rotation_about 2 (component angles 2) ∷ []

-- rotate(a): about x, then y, then z
abbrev pub rotate_effect : Bool → BoundArguments → AnswerOrFault EffectCall
rotate_effect inside bound =
    required_argument (bound_argument bound 0) (λ v.
    unless_left_out (bound_argument bound 1)
    (of_type (angles_in v) (λ angles.
    refused_where (some_component is_skew angles) NotQuarter
    (refused_where (tilts_plane inside angles) WrongDimension
    (Ok (a_move (quarter_rotations angles)))))))

-- a number that isn't 0, beside two that are
abbrev pub is_only_nonzero : ℤ → ℤ → ℤ → Bool
is_only_nonzero n m k = not (is_zero n) && (is_zero m && is_zero k)

-- the one axis along which a vector goes
abbrev pub axis_of : List ℤ → Option ℕ
axis_of by =
    if is_only_nonzero (component by 0) (component by 1) (component by 2) then Some 0
    else (if is_only_nonzero (component by 1) (component by 0) (component by 2) then Some 1
    else (if is_only_nonzero (component by 2) (component by 0) (component by 1) then Some 2 else None))

-- goes on with the axis, or leaves out a vector that has none
abbrev pub for_axis : Option ℕ → (ℕ → AnswerOrFault EffectCall) → AnswerOrFault EffectCall
for_axis None go = Err NotInProfile
for_axis (Some axis) go = go axis

-- mirror(v): 2 or 3 numbers, of which exactly one isn't 0
abbrev pub mirror_effect : Bool → BoundArguments → AnswerOrFault EffectCall
mirror_effect inside bound =
    required_argument (bound_argument bound 0) (λ v.
    of_type (coordinates_in (pos 0) v) (λ by.
    for_axis (axis_of by) (λ axis.
    refused_where (inside && nat_eq axis 2) WrongDimension
    (Ok (a_move (reflection axis ∷ []))))))

-- inside an extrusion a scaling has no effect along z
abbrev pub factors_for : Bool → List ℤ → List ℤ
factors_for inside by = if inside then component by 0 ∷ component by 1 ∷ pos 1 ∷ [] else by

-- scale(v)
abbrev pub scale_effect : Bool → BoundArguments → AnswerOrFault EffectCall
scale_effect inside bound =
    required_argument (bound_argument bound 0) (λ v.
    of_type (factors_in v) (λ by.
    refused_where (some_component is_zero by) Singular
    (Ok (a_move (scale_map (point_at (factors_for inside by)) ∷ [])))))

-- whether a row of 4 numbers is 0 0 0 1
abbrev pub is_last_row : List ℤ → Bool
is_last_row row =
    is_zero (component row 0) && (is_zero (component row 1) && (is_zero (component row 2) && int_eq (component row 3) (pos 1)))

-- three rows, or four of which the last is that of the identity
abbrev pub three_rows : List (List ℤ) → Option (List (List ℤ))
three_rows (x ∷ y ∷ z ∷ []) = Some (x ∷ y ∷ z ∷ [])
three_rows (x ∷ y ∷ z ∷ last ∷ []) = if is_last_row last then Some (x ∷ y ∷ z ∷ []) else None
three_rows rows = None

-- the same of rows that were read, if there are some
abbrev pub three_rows_from : Option (List (List ℤ)) → Option (List (List ℤ))
three_rows_from None = None
three_rows_from (Some rows) = three_rows rows

-- the rows of a matrix
abbrev pub matrix_rows : Val → Option (List (List ℤ))
matrix_rows v = three_rows_from (points_in 4 v)

-- a row by its place from 0
abbrev pub row_numbered : List (List ℤ) → ℕ → List ℤ
row_numbered rows place = get_or rows place []

-- something is so of one of three rows
abbrev pub some_row : (List ℤ → Bool) → List (List ℤ) → Bool
some_row test rows = test (row_numbered rows 0) || (test (row_numbered rows 1) || test (row_numbered rows 2))

-- the largest size of an entry of the linear part; a row's linear part is its first three numbers, and its move the fourth
abbrev pub most_linear : ℕ
most_linear = 65535

-- whether an entry of the linear part is larger
abbrev pub is_past_matrix : ℤ → Bool
is_past_matrix n = nat_lt most_linear (unsigned_abs n)

-- a matrix that leaves z as it is: its third row and its third column are those of the identity
abbrev pub keeps_plane : List (List ℤ) → Bool
keeps_plane rows =
    let x = row_numbered rows 0 in let y = row_numbered rows 1 in let z = row_numbered rows 2 in
    is_zero (component x 2) && (is_zero (component y 2) && (is_zero (component z 0) && (is_zero (component z 1)
    && (int_eq (component z 2) (pos 1) && is_zero (component z 3)))))

-- inside an extrusion, a matrix that leaves the plane
abbrev pub leaves_plane_by : Bool → List (List ℤ) → Bool
leaves_plane_by inside rows = inside && not (keeps_plane rows)

-- a row with its move in grid steps
abbrev pub row_on_grid : LengthUnit → List ℤ → List ℤ
row_on_grid unit row = component row 0 ∷ component row 1 ∷ component row 2 ∷ length_in_grid_steps unit (component row 3) ∷ []

-- the rows with their moves in grid steps
abbrev pub rows_on_grid : LengthUnit → List (List ℤ) → List (List ℤ)
rows_on_grid unit rows =
    row_on_grid unit (row_numbered rows 0) ∷ row_on_grid unit (row_numbered rows 1) ∷ row_on_grid unit (row_numbered rows 2) ∷ []

-- whether the move of a row is past 2^53 - 1 grid steps
abbrev pub moves_past : LengthUnit → List ℤ → Bool
moves_past unit row = is_past_safe_size (length_in_grid_steps unit (component row 3))

-- multmatrix(m)
abbrev pub multmatrix_effect : LengthUnit → Bool → BoundArguments → AnswerOrFault EffectCall
multmatrix_effect unit inside bound =
    required_argument (bound_argument bound 0) (λ v.
    of_type (matrix_rows v) (λ rows.
    refused_where (some_row (some_component is_past_matrix) rows) TooLarge
    (refused_where (is_zero (determinant_of (affine_of rows))) Singular
    (refused_where (leaves_plane_by inside rows) WrongDimension
    (refused_where (some_row (moves_past unit) rows) TooLarge
    (Ok (a_move (affine_of (rows_on_grid unit rows) ∷ []))))))))
