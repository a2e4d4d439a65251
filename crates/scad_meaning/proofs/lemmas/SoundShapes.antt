-- What a call of a built-in module makes is sound: its shapes are shapes where nothing is wrong with them, and its steps are
-- not singular.
use Rattle.std.proofs.Common.{◌≡◌, ℕ, zero, suc, Bool, true, false, cond, List, [], ◌∷◌, length, Option, Some, None, Ok, refl, sym, ◌∙◌, arith, ℤ, pos, negsuc, nat_eq}
use Rattle.std.specs.Prelude.{not, ◌&&◌, ◌||◌, is_some, IfOk, IfSome}
use Rattle.std.specs.Ordering.{int_eq}
use Rattle.std.proofs.lemmas.Bool.{eqb-true, false≢true}
use Rattle.std.proofs.lemmas.Bool.Decides.{Decides-int_eq}
use Rattle.std.proofs.lemmas.List.Elements.{All-cons, All-nil}
use Rattle.text_place.specs.declared.fault.FaultKind.{FaultKind}
use Rattle.text_place.specs.declared.fault.FaultKind.TheVariants.{AssertFailed, BadArgument, NotInProfile, NotQuarter, Singular, TooLarge, WrongDimension}
use Rattle.plane_predicate.specs.declared.unit.Unit.{Unit as LengthUnit}
use Rattle.plane_predicate.proofs.lemmas.IntegerRing.{sums}
use Rattle.int_transform.specs.declared.affine.Affine.{Affine}
use Rattle.int_transform.specs.Maps.{affine_of, determinant_of, reflection, translation, quarter_rotation, power_of, scale_map}
use Rattle.int_transform.proofs.lemmas.Images.{determinant-composition}
use Rattle.int_transform.proofs.lemmas.Ranges.{IsRegular}
use Rattle.int_transform.proofs.lemmas.Regular.{determinant-diagonal, no_product}
use Rattle.plane_predicate.specs.Space.{point_at}
use Rattle.primitives.specs.Shapes.{IsShape}
use Rattle.primitives.specs.Sizes.{AreSizes, low_end, high_end}
use Rattle.primitives.specs.Polygons.{IsFlatShape}
use Rattle.primitives.proofs.lemmas.BoxBodies.{cube_is_shape}
use Rattle.primitives.proofs.lemmas.EndFaces.{ends_of_side}
use Rattle.primitives.proofs.lemmas.Grids.{polygon_is_flat}
use Rattle.primitives.proofs.lemmas.PrismBodies.{prism_is_shape}
use Rattle.primitives.proofs.lemmas.Rectangles.{square_is_flat}
use Rattle.round_four.proofs.lemmas.Circles.{sized_circle_is_flat}
use Rattle.round_four.proofs.lemmas.Cylinders.{cylinder_is_shape}
use Rattle.primitives.proofs.lemmas.ConvexShapes.{polyhedron_is_shape}
use Rattle.scad_value.specs.Values.{Val, NumberVal, truth_of}
use Rattle.scad_value.specs.Operators.{AnswerOrFault}
use Rattle.scad_modules.specs.Reading.{BoundArguments, bound_argument, number_in_value, truth_in, numbers_in, of_length, sides_in, coordinates_in, angles_in, factors_in, points_in, faces_in, or_default, required_argument, refused_where, of_type}
use Rattle.scad_modules.specs.declared.table.BuiltinModule.{BuiltinModule}
use Rattle.scad_modules.specs.declared.table.BuiltinModule.TheVariants.{Cube, Polyhedron, Cylinder, Square, Polygon, Circle, LinearExtrude, Translate, Rotate, Mirror, Scale, Multmatrix, Union, Difference, Intersection, Hull, Color, Render, Echo, Assert, Children}
use Rattle.scad_modules.specs.Effects.{SolidCall, cube_call, polyhedron_call, cylinder_call, FlatCall, square_call, polygon_call, circle_call, EffectCall, a_solid, a_flat, a_move, a_join, a_hull, an_extrusion, no_geometry, some_children, ChosenCall, all_children}
use Rattle.scad_modules.specs.Transforms.{component, is_zero, is_past_safe_size, vector_on_grid, some_component, leaves_plane, is_skew, quarters_of, tilts_plane, quarter_rotations, axis_of, for_axis, factors_for, matrix_rows, some_row, is_past_matrix, leaves_plane_by, rows_on_grid, moves_past}
use Rattle.scad_modules.specs.Calls.{chosen_in, effect_of}
use Rattle.scad_modules.specs.Shapes.{fragments_in, with_four, cylinder_effect}
use Rattle.scad_design.specs.Trees.{AreRegular}
use Rattle.scad_meaning.specs.declared.extrusion.Extrusion.{Extrusion}
use Rattle.scad_meaning.specs.Verdicts.{IsSolidVerdict, IsFlatVerdict, solid_mesh, flat_points, extrusion_mesh}

-- ---- calls with as many sides as their shapes have, and steps that are not singular
abbrev pub HasSides : SolidCall → Type 0
HasSides (cube_call center size) = length size ≡ 3
HasSides (polyhedron_call points faces) = Unit {0}
HasSides (cylinder_call center height low high) = Unit {0}

abbrev pub HasFlatSides : FlatCall → Type 0
HasFlatSides (square_call center size) = length size ≡ 2
HasFlatSides (polygon_call points) = Unit {0}
HasFlatSides (circle_call radius) = Unit {0}

abbrev pub IsSoundCall : EffectCall → Type 0
IsSoundCall (a_solid call) = HasSides call
IsSoundCall (a_flat call) = HasFlatSides call
IsSoundCall (a_move steps) = AreRegular steps
IsSoundCall (a_join op) = Unit {0}
IsSoundCall a_hull = Unit {0}
IsSoundCall (an_extrusion center height) = Unit {0}
IsSoundCall no_geometry = Unit {0}
IsSoundCall (some_children chosen) = Unit {0}

-- ---- what stands behind a test
refused_sound : (b : Bool) (kind : FaultKind) (next : AnswerOrFault EffectCall) → (b ≡ false → IfOk next IsSoundCall) → IfOk (refused_where b kind next) IsSoundCall
refused_sound true kind next h = tt
refused_sound false kind next h = h refl

four_sound : (fragments : Option ℤ) (next : AnswerOrFault EffectCall) → IfOk next IsSoundCall → IfOk (of_type fragments (λ n. refused_where (not (int_eq n (pos 4))) NotInProfile next)) IsSoundCall
four_sound None next h = tt
four_sound (Some n) next h = refused_sound (not (int_eq n (pos 4))) NotInProfile next (λ _. h)

-- lists of a length
of_its_length : (n : ℕ) (read : Option (List ℤ)) → IfSome (of_length n read) (λ xs. length xs ≡ n)
of_its_length n None = tt
of_its_length n (Some xs) = by_test (nat_eq (length xs) n) refl
  where
    by_test : (b : Bool) → nat_eq (length xs) n ≡ b → IfSome (cond b (Some xs) None) (λ ys. length ys ≡ n)
    by_test true e = eqb-true (length xs) n e
    by_test false e = tt

three_sides : (v : Val) → IfSome (sides_in 3 v) (λ xs. length xs ≡ 3)
three_sides (NumberVal side) = refl
three_sides v = of_its_length 3 (numbers_in v)

two_sides : (v : Val) → IfSome (sides_in 2 v) (λ xs. length xs ≡ 2)
two_sides (NumberVal side) = refl
two_sides v = of_its_length 2 (numbers_in v)

sides_or_default : (Q : List ℤ → Type 0) (default : List ℤ) (read : Val → Option (List ℤ)) (given : Option Val) → Q default → ((v : Val) → IfSome (read v) Q) → IfSome (or_default default read given) Q
sides_or_default Q default read None d h = d
sides_or_default Q default read (Some v) d h = h v

-- ---- steps
one_step : (step : Affine) → IsRegular step → AreRegular (step ∷ [])
one_step step h = All-cons IsRegular step [] h (All-nil IsRegular)

one_is_some : pos 1 ≡ pos 0 → ⊥
one_is_some e = omega (arith, sums, e)

none_is_some : negsuc 0 ≡ pos 0 → ⊥
none_is_some e = omega (arith, sums, e)

repeated_regular : (step : Affine) → IsRegular step → (n : ℕ) → IsRegular (power_of step n)
repeated_regular step h zero e = one_is_some e
repeated_regular step h (suc n) e =
    no_product (determinant_of step) (determinant_of (power_of step n)) h (repeated_regular step h n) (sym (determinant-composition step (power_of step n)) ∙ e)

turns_regular : (x y z : ℕ) → AreRegular (power_of (quarter_rotation 0) x ∷ power_of (quarter_rotation 1) y ∷ power_of (quarter_rotation 2) z ∷ [])
turns_regular x y z =
    All-cons IsRegular (power_of (quarter_rotation 0) x) (power_of (quarter_rotation 1) y ∷ power_of (quarter_rotation 2) z ∷ []) (repeated_regular (quarter_rotation 0) one_is_some x)
    (All-cons IsRegular (power_of (quarter_rotation 1) y) (power_of (quarter_rotation 2) z ∷ []) (repeated_regular (quarter_rotation 1) one_is_some y)
    (one_step (power_of (quarter_rotation 2) z) (repeated_regular (quarter_rotation 2) one_is_some z)))

mirror_regular : (axis : ℕ) → IsRegular (reflection axis)
mirror_regular zero = none_is_some
mirror_regular (suc zero) = none_is_some
mirror_regular (suc (suc n)) = none_is_some

some_number : (n : ℤ) → is_zero n ≡ false → n ≡ pos 0 → ⊥
some_number n h e = false≢true (sym h ∙ (Decides-int_eq n (pos 0)).1 e)

first_not : (a b : Bool) → (a || b) ≡ false → a ≡ false
first_not true b h = h
first_not false b h = refl

later_not : (a b : Bool) → (a || b) ≡ false → b ≡ false
later_not true b h = absurd (false≢true (sym h))
later_not false b h = h

scale_regular : (x y z : ℤ) → (x ≡ pos 0 → ⊥) → (y ≡ pos 0 → ⊥) → (z ≡ pos 0 → ⊥) → IsRegular (scale_map (point_at (x ∷ y ∷ z ∷ [])))
scale_regular x y z hx hy hz e = no_product x _ hx (no_product y z hy hz) (sym (determinant-diagonal x y z) ∙ e)

factors_regular : (inside : Bool) (by : List ℤ) → some_component is_zero by ≡ false → IsRegular (scale_map (point_at (factors_for inside by)))
factors_regular inside by h =
    let x = some_number (component by 0) (first_not (is_zero (component by 0)) _ h) in
    let rest = later_not (is_zero (component by 0)) _ h in
    let y = some_number (component by 1) (first_not (is_zero (component by 1)) _ rest) in
    let z = some_number (component by 2) (later_not (is_zero (component by 1)) _ rest) in
    by_place inside x y z
  where
    by_place : (b : Bool) → (component by 0 ≡ pos 0 → ⊥) → (component by 1 ≡ pos 0 → ⊥) → (component by 2 ≡ pos 0 → ⊥) → IsRegular (scale_map (point_at (factors_for b by)))
    by_place true x y z = scale_regular (component by 0) (component by 1) (pos 1) x y one_is_some
    by_place false x y z = scale_regular (component by 0) (component by 1) (component by 2) x y z

-- ---- each module, by what is read of its arguments
cube_sound : (inside : Bool) (size : Option (List ℤ)) (center : Option Bool) → IfSome size (λ xs. length xs ≡ 3) →
    IfOk (of_type size (λ size. of_type center (λ center. refused_where inside WrongDimension (Ok (a_solid (cube_call center size)))))) IsSoundCall
cube_sound inside None center h = tt
cube_sound inside (Some size) None h = tt
cube_sound true (Some size) (Some center) h = tt
cube_sound false (Some size) (Some center) h = h

square_sound : (inside : Bool) (size : Option (List ℤ)) (center : Option Bool) → IfSome size (λ xs. length xs ≡ 2) →
    IfOk (of_type size (λ size. of_type center (λ center. refused_where (not inside) WrongDimension (Ok (a_flat (square_call center size)))))) IsSoundCall
square_sound inside None center h = tt
square_sound inside (Some size) None h = tt
square_sound false (Some size) (Some center) h = tt
square_sound true (Some size) (Some center) h = h

polyhedron_read : (inside : Bool) (points : Option (List (List ℤ))) (faces : Option (List (List ℕ))) →
    IfOk (of_type points (λ points. of_type faces (λ faces. refused_where inside WrongDimension (Ok (a_solid (polyhedron_call points faces)))))) IsSoundCall
polyhedron_read inside None faces = tt
polyhedron_read inside (Some points) None = tt
polyhedron_read true (Some points) (Some faces) = tt
polyhedron_read false (Some points) (Some faces) = tt

polyhedron_sound : (inside : Bool) (v w : Option Val) →
    IfOk (required_argument v (λ v. required_argument w (λ w. of_type (points_in 3 v) (λ points. of_type (faces_in w) (λ faces. refused_where inside WrongDimension (Ok (a_solid (polyhedron_call points faces)))))))) IsSoundCall
polyhedron_sound inside None w = tt
polyhedron_sound inside (Some v) None = tt
polyhedron_sound inside (Some v) (Some w) = polyhedron_read inside (points_in 3 v) (faces_in w)

polygon_read : (inside left : Bool) (points : Option (List (List ℤ))) →
    IfOk (refused_where left NotInProfile (of_type points (λ points. refused_where (not inside) WrongDimension (Ok (a_flat (polygon_call points)))))) IsSoundCall
polygon_read inside true points = tt
polygon_read inside false None = tt
polygon_read true false (Some points) = tt
polygon_read false false (Some points) = tt

polygon_sound : (inside left : Bool) (v : Option Val) →
    IfOk (required_argument v (λ v. refused_where left NotInProfile (of_type (points_in 2 v) (λ points. refused_where (not inside) WrongDimension (Ok (a_flat (polygon_call points))))))) IsSoundCall
polygon_sound inside left None = tt
polygon_sound inside left (Some v) = polygon_read inside left (points_in 2 v)

circle_sound : (inside left : Bool) (fragments : Option Val) (radius : Option ℤ) →
    IfOk (refused_where left NotInProfile (of_type radius (λ radius. refused_where (not inside) WrongDimension (with_four fragments (Ok (a_flat (circle_call radius))))))) IsSoundCall
circle_sound inside true fragments radius = tt
circle_sound inside false fragments None = tt
circle_sound false false fragments (Some radius) = tt
circle_sound true false fragments (Some radius) = four_sound (fragments_in fragments) (Ok (a_flat (circle_call radius))) tt

cylinder_sized : (inside : Bool) (fragments : Option Val) (height : ℤ) (low high : Option ℤ) (center : Option Bool) →
    IfOk (of_type low (λ low. of_type high (λ high. of_type center (λ center. refused_where inside WrongDimension (with_four fragments (Ok (a_solid (cylinder_call center height low high)))))))) IsSoundCall
cylinder_sized inside fragments height None high center = tt
cylinder_sized inside fragments height (Some low) None center = tt
cylinder_sized inside fragments height (Some low) (Some high) None = tt
cylinder_sized true fragments height (Some low) (Some high) (Some center) = tt
cylinder_sized false fragments height (Some low) (Some high) (Some center) = four_sound (fragments_in fragments) (Ok (a_solid (cylinder_call center height low high))) tt

cylinder_read : (inside : Bool) (fragments : Option Val) (height radius : Option ℤ) (low high : ℤ → Option ℤ) (center : Option Bool) →
    IfOk (of_type height (λ height. of_type radius (λ radius. of_type (low radius) (λ low. of_type (high radius) (λ high. of_type center (λ center.
    refused_where inside WrongDimension (with_four fragments (Ok (a_solid (cylinder_call center height low high)))))))))) IsSoundCall
cylinder_read inside fragments None radius low high center = tt
cylinder_read inside fragments (Some height) None low high center = tt
cylinder_read inside fragments (Some height) (Some radius) low high center = cylinder_sized inside fragments height (low radius) (high radius) center

four_refused : (a b c d : Bool) (next : AnswerOrFault EffectCall) → IfOk next IsSoundCall →
    IfOk (refused_where a NotInProfile (refused_where b NotInProfile (refused_where c NotInProfile (refused_where d BadArgument next)))) IsSoundCall
four_refused true b c d next h = tt
four_refused false true c d next h = tt
four_refused false false true d next h = tt
four_refused false false false true next h = tt
four_refused false false false false next h = h

cylinder_sound : (inside : Bool) (fragments : Option Val) (bound : BoundArguments) → IfOk (cylinder_effect inside fragments bound) IsSoundCall
cylinder_sound inside fragments bound =
    four_refused (is_some (bound_argument bound 5)) (is_some (bound_argument bound 6)) (is_some (bound_argument bound 7)) (is_some (bound_argument bound 4) && (is_some (bound_argument bound 1) || is_some (bound_argument bound 2)))
    (of_type (or_default (pos 1) number_in_value (bound_argument bound 0)) (λ height.
    of_type (or_default (pos 1) number_in_value (bound_argument bound 4)) (λ radius.
    of_type (or_default radius number_in_value (bound_argument bound 1)) (λ low.
    of_type (or_default radius number_in_value (bound_argument bound 2)) (λ high.
    of_type (or_default false truth_in (bound_argument bound 3)) (λ center.
    refused_where inside WrongDimension (with_four fragments (Ok (a_solid (cylinder_call center height low high))))))))))
    (cylinder_read inside fragments (or_default (pos 1) number_in_value (bound_argument bound 0)) (or_default (pos 1) number_in_value (bound_argument bound 4))
    (λ radius. or_default radius number_in_value (bound_argument bound 1)) (λ radius. or_default radius number_in_value (bound_argument bound 2)) (or_default false truth_in (bound_argument bound 3)))

extrusion_read : (inside : Bool) (height : Option ℤ) (center : Option Bool) →
    IfOk (of_type height (λ height. of_type center (λ center. refused_where inside WrongDimension (Ok (an_extrusion center height))))) IsSoundCall
extrusion_read inside None center = tt
extrusion_read inside (Some height) None = tt
extrusion_read true (Some height) (Some center) = tt
extrusion_read false (Some height) (Some center) = tt

extrusion_sound : (inside a b c : Bool) (v : Option Val) (center : Option Bool) →
    IfOk (required_argument v (λ v. refused_where a NotInProfile (refused_where b NotInProfile (refused_where c NotInProfile
    (of_type (number_in_value v) (λ height. of_type center (λ center. refused_where inside WrongDimension (Ok (an_extrusion center height))))))))) IsSoundCall
extrusion_sound inside a b c None center = tt
extrusion_sound inside true b c (Some v) center = tt
extrusion_sound inside false true c (Some v) center = tt
extrusion_sound inside false false true (Some v) center = tt
extrusion_sound inside false false false (Some v) center = extrusion_read inside (number_in_value v) center

translate_read : (unit : LengthUnit) (inside : Bool) (by : Option (List ℤ)) →
    IfOk (of_type by (λ by. refused_where (leaves_plane inside by) WrongDimension (refused_where (some_component is_past_safe_size (vector_on_grid unit by)) TooLarge (Ok (a_move (translation (point_at (vector_on_grid unit by)) ∷ [])))))) IsSoundCall
translate_read unit inside None = tt
translate_read unit inside (Some by) =
    refused_sound (leaves_plane inside by) WrongDimension (refused_where (some_component is_past_safe_size (vector_on_grid unit by)) TooLarge (Ok (a_move (translation (point_at (vector_on_grid unit by)) ∷ [])))) (λ _.
    refused_sound (some_component is_past_safe_size (vector_on_grid unit by)) TooLarge (Ok (a_move (translation (point_at (vector_on_grid unit by)) ∷ []))) (λ _.
    one_step (translation (point_at (vector_on_grid unit by))) one_is_some))

translate_sound : (unit : LengthUnit) (inside : Bool) (v : Option Val) →
    IfOk (required_argument v (λ v. of_type (coordinates_in (pos 0) v) (λ by. refused_where (leaves_plane inside by) WrongDimension
    (refused_where (some_component is_past_safe_size (vector_on_grid unit by)) TooLarge (Ok (a_move (translation (point_at (vector_on_grid unit by)) ∷ []))))))) IsSoundCall
translate_sound unit inside None = tt
translate_sound unit inside (Some v) = translate_read unit inside (coordinates_in (pos 0) v)

rotate_read : (inside left : Bool) (angles : Option (List ℤ)) →
    IfOk (refused_where left NotInProfile (of_type angles (λ angles. refused_where (some_component is_skew angles) NotQuarter (refused_where (tilts_plane inside angles) WrongDimension (Ok (a_move (quarter_rotations angles))))))) IsSoundCall
rotate_read inside true angles = tt
rotate_read inside false None = tt
rotate_read inside false (Some angles) =
    refused_sound (some_component is_skew angles) NotQuarter (refused_where (tilts_plane inside angles) WrongDimension (Ok (a_move (quarter_rotations angles)))) (λ _.
    refused_sound (tilts_plane inside angles) WrongDimension (Ok (a_move (quarter_rotations angles))) (λ _.
    turns_regular (quarters_of (component angles 0)) (quarters_of (component angles 1)) (quarters_of (component angles 2))))

rotate_sound : (inside left : Bool) (v : Option Val) →
    IfOk (required_argument v (λ v. refused_where left NotInProfile (of_type (angles_in v) (λ angles. refused_where (some_component is_skew angles) NotQuarter
    (refused_where (tilts_plane inside angles) WrongDimension (Ok (a_move (quarter_rotations angles)))))))) IsSoundCall
rotate_sound inside left None = tt
rotate_sound inside left (Some v) = rotate_read inside left (angles_in v)

mirror_along : (inside : Bool) (axis : Option ℕ) →
    IfOk (for_axis axis (λ axis. refused_where (inside && nat_eq axis 2) WrongDimension (Ok (a_move (reflection axis ∷ []))))) IsSoundCall
mirror_along inside None = tt
mirror_along inside (Some axis) =
    refused_sound (inside && nat_eq axis 2) WrongDimension (Ok (a_move (reflection axis ∷ []))) (λ _. one_step (reflection axis) (mirror_regular axis))

mirror_read : (inside : Bool) (by : Option (List ℤ)) →
    IfOk (of_type by (λ by. for_axis (axis_of by) (λ axis. refused_where (inside && nat_eq axis 2) WrongDimension (Ok (a_move (reflection axis ∷ [])))))) IsSoundCall
mirror_read inside None = tt
mirror_read inside (Some by) = mirror_along inside (axis_of by)

mirror_sound : (inside : Bool) (v : Option Val) →
    IfOk (required_argument v (λ v. of_type (coordinates_in (pos 0) v) (λ by. for_axis (axis_of by) (λ axis. refused_where (inside && nat_eq axis 2) WrongDimension (Ok (a_move (reflection axis ∷ []))))))) IsSoundCall
mirror_sound inside None = tt
mirror_sound inside (Some v) = mirror_read inside (coordinates_in (pos 0) v)

scale_read : (inside : Bool) (by : Option (List ℤ)) →
    IfOk (of_type by (λ by. refused_where (some_component is_zero by) Singular (Ok (a_move (scale_map (point_at (factors_for inside by)) ∷ []))))) IsSoundCall
scale_read inside None = tt
scale_read inside (Some by) =
    refused_sound (some_component is_zero by) Singular (Ok (a_move (scale_map (point_at (factors_for inside by)) ∷ []))) (λ some.
    one_step (scale_map (point_at (factors_for inside by))) (factors_regular inside by some))

scale_sound : (inside : Bool) (v : Option Val) →
    IfOk (required_argument v (λ v. of_type (factors_in v) (λ by. refused_where (some_component is_zero by) Singular (Ok (a_move (scale_map (point_at (factors_for inside by)) ∷ [])))))) IsSoundCall
scale_sound inside None = tt
scale_sound inside (Some v) = scale_read inside (factors_in v)

matrix_read : (unit : LengthUnit) (inside : Bool) (rows : Option (List (List ℤ))) →
    IfOk (of_type rows (λ rows. refused_where (some_row (some_component is_past_matrix) rows) TooLarge (refused_where (is_zero (determinant_of (affine_of rows))) Singular
    (refused_where (leaves_plane_by inside rows) WrongDimension (refused_where (some_row (moves_past unit) rows) TooLarge (Ok (a_move (affine_of (rows_on_grid unit rows) ∷ [])))))))) IsSoundCall
matrix_read unit inside None = tt
matrix_read unit inside (Some rows) =
    let moved : AnswerOrFault EffectCall = Ok (a_move (affine_of (rows_on_grid unit rows) ∷ [])) in
    let near : AnswerOrFault EffectCall = refused_where (some_row (moves_past unit) rows) TooLarge moved in
    let flat : AnswerOrFault EffectCall = refused_where (leaves_plane_by inside rows) WrongDimension near in
    refused_sound (some_row (some_component is_past_matrix) rows) TooLarge (refused_where (is_zero (determinant_of (affine_of rows))) Singular flat) (λ _.
    refused_sound (is_zero (determinant_of (affine_of rows))) Singular flat (λ regular.
    refused_sound (leaves_plane_by inside rows) WrongDimension near (λ _.
    refused_sound (some_row (moves_past unit) rows) TooLarge moved (λ _.
    one_step (affine_of (rows_on_grid unit rows)) (some_number (determinant_of (affine_of rows)) regular)))))

matrix_sound : (unit : LengthUnit) (inside : Bool) (v : Option Val) →
    IfOk (required_argument v (λ v. of_type (matrix_rows v) (λ rows. refused_where (some_row (some_component is_past_matrix) rows) TooLarge (refused_where (is_zero (determinant_of (affine_of rows))) Singular
    (refused_where (leaves_plane_by inside rows) WrongDimension (refused_where (some_row (moves_past unit) rows) TooLarge (Ok (a_move (affine_of (rows_on_grid unit rows) ∷ []))))))))) IsSoundCall
matrix_sound unit inside None = tt
matrix_sound unit inside (Some v) = matrix_read unit inside (matrix_rows v)

assert_sound : (v : Option Val) → IfOk (required_argument v (λ v. refused_where (not (truth_of v)) AssertFailed (Ok no_geometry))) IsSoundCall
assert_sound None = tt
assert_sound (Some v) = refused_sound (not (truth_of v)) AssertFailed (Ok no_geometry) (λ _. tt)

children_sound : (chosen : Option ChosenCall) → IfOk (of_type chosen (λ chosen. Ok (some_children chosen))) IsSoundCall
children_sound None = tt
children_sound (Some chosen) = tt

pub effect_sound : (unit : LengthUnit) (inside : Bool) (fragments : Option Val) (m : BuiltinModule) (bound : BoundArguments) → IfOk (effect_of unit inside fragments m bound) IsSoundCall
effect_sound unit inside fragments Cube bound =
    let one : List ℤ = pos 1 ∷ pos 1 ∷ pos 1 ∷ [] in
    cube_sound inside (or_default one (sides_in 3) (bound_argument bound 0)) (or_default false truth_in (bound_argument bound 1))
    (sides_or_default (λ xs. length xs ≡ 3) one (sides_in 3) (bound_argument bound 0) refl three_sides)
effect_sound unit inside fragments Polyhedron bound = polyhedron_sound inside (bound_argument bound 0) (bound_argument bound 1)
effect_sound unit inside fragments Cylinder bound = cylinder_sound inside fragments bound
effect_sound unit inside fragments Square bound =
    let one : List ℤ = pos 1 ∷ pos 1 ∷ [] in
    square_sound inside (or_default one (sides_in 2) (bound_argument bound 0)) (or_default false truth_in (bound_argument bound 1))
    (sides_or_default (λ xs. length xs ≡ 2) one (sides_in 2) (bound_argument bound 0) refl two_sides)
effect_sound unit inside fragments Polygon bound = polygon_sound inside (is_some (bound_argument bound 1)) (bound_argument bound 0)
effect_sound unit inside fragments Circle bound = circle_sound inside (is_some (bound_argument bound 1)) fragments (or_default (pos 1) number_in_value (bound_argument bound 0))
effect_sound unit inside fragments LinearExtrude bound =
    extrusion_sound inside (is_some (bound_argument bound 3)) (is_some (bound_argument bound 4)) (is_some (bound_argument bound 5)) (bound_argument bound 0) (or_default false truth_in (bound_argument bound 1))
effect_sound unit inside fragments Translate bound = translate_sound unit inside (bound_argument bound 0)
effect_sound unit inside fragments Rotate bound = rotate_sound inside (is_some (bound_argument bound 1)) (bound_argument bound 0)
effect_sound unit inside fragments Mirror bound = mirror_sound inside (bound_argument bound 0)
effect_sound unit inside fragments Scale bound = scale_sound inside (bound_argument bound 0)
effect_sound unit inside fragments Multmatrix bound = matrix_sound unit inside (bound_argument bound 0)
effect_sound unit inside fragments Union bound = tt
effect_sound unit inside fragments Difference bound = tt
effect_sound unit inside fragments Intersection bound = tt
effect_sound unit inside fragments Hull bound = refused_sound inside WrongDimension (Ok a_hull) (λ _. tt)
effect_sound unit inside fragments Color bound = tt
effect_sound unit inside fragments Render bound = tt
effect_sound unit inside fragments Echo bound = tt
effect_sound unit inside fragments Assert bound = assert_sound (bound_argument bound 0)
effect_sound unit inside fragments Children bound = children_sound (or_default all_children chosen_in (bound_argument bound 0))

-- ---- shapes with nothing wrong
pub solid_is_shape : (unit : LengthUnit) (call : SolidCall) → HasSides call → IsSolidVerdict unit call None → IsShape (solid_mesh unit call)
solid_is_shape unit (cube_call center size) sides h = cube_is_shape unit center size (omega (arith, sides)) h
solid_is_shape unit (polyhedron_call points faces) sides h = polyhedron_is_shape unit points faces h
solid_is_shape unit (cylinder_call center height low high) sides h = cylinder_is_shape unit center height low high h

pub outline_is_flat : (unit : LengthUnit) (call : FlatCall) → HasFlatSides call → IsFlatVerdict unit call None → IsFlatShape (flat_points unit call)
outline_is_flat unit (square_call center size) sides h = square_is_flat unit center size (omega (arith, sides)) h
outline_is_flat unit (polygon_call points) sides h = polygon_is_flat unit points h
outline_is_flat unit (circle_call radius) sides h = sized_circle_is_flat unit radius h

pub extruded_is_shape : (unit : LengthUnit) (through : Extrusion) (call : FlatCall) → AreSizes unit through.center (through.height ∷ []) → HasFlatSides call → IsFlatVerdict unit call None → IsShape (extrusion_mesh unit through call)
extruded_is_shape unit through call sizes sides h =
    prism_is_shape (flat_points unit call) (low_end unit through.center through.height) (high_end unit through.center through.height)
    (ends_of_side unit through.center through.height (sizes.long 0 (pos 0) (omega arith)) (sizes.safe 0 (pos 0) (omega arith)))
    (outline_is_flat unit call sides h)
