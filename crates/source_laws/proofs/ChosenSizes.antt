-- The children that a call of `children` chooses: all, one, those of a range, each once, or as many as its list has numbers,
-- whose elements were counted.
use Rattle.std.proofs.Common.{◌≤◌, ◌*◌, ℕ, suc, ◌+◌, Bool, true, false, not, ◌&&◌, ◌||◌, List, [], ◌∷◌, length, Option, Some, None, Ok, ℤ, pos, arith}
use Rattle.std.specs.Prelude.{IfOk, IfSome, option_map, is_some, nat_eq}
use Rattle.std.specs.Ordering.{int_eq}
use Rattle.text_place.specs.declared.fault.FaultKind.{FaultKind}
use Rattle.text_place.specs.declared.fault.FaultKind.TheVariants.{AssertFailed, WrongDimension, NotInProfile, BadArgument, TooLarge, NotQuarter, Singular}
use Rattle.plane_predicate.specs.declared.unit.Unit.{Unit as LengthUnit}
use Rattle.scad_ast.specs.Terms.{InstanceTerm}
use Rattle.scad_value.specs.Values.{Val, NumberVal, TruthVal, TextVal, ListVal, RangeVal, UndefVal, Vals, no_vals, and_val, element_count, element_count_in, truth_of}
use Rattle.scad_value.specs.Operators.{AnswerOrFault}
use Rattle.scad_modules.specs.Reading.{BoundArguments, bound_argument, number_in_value, truth_in, sides_in, points_in, faces_in, coordinates_in, angles_in, factors_in, with_first, each_in, or_default, required_argument, of_type, refused_where}
use Rattle.scad_modules.specs.declared.table.BuiltinModule.{BuiltinModule}
use Rattle.scad_modules.specs.declared.table.BuiltinModule.TheVariants.{Cube, Polyhedron, Cylinder, Square, Polygon, Circle, LinearExtrude, Translate, Rotate, Mirror, Scale, Multmatrix, Union, Difference, Intersection, Hull, Color, Render, Echo, Assert, Children}
use Rattle.scad_modules.specs.Effects.{EffectCall, a_solid, a_flat, a_move, a_join, a_hull, an_extrusion, no_geometry, some_children, ChosenCall, all_children, numbered_children, cube_call, polyhedron_call, cylinder_call, square_call, polygon_call, circle_call}
use Rattle.scad_modules.specs.Calls.{effect_of, chosen_in, assert_effect, hull_effect}
use Rattle.int_transform.specs.Maps.{affine_of, determinant_of}
use Rattle.scad_modules.specs.Transforms.{is_zero, is_past_safe_size, vector_on_grid, some_component, leaves_plane, is_skew, tilts_plane, axis_of, for_axis, matrix_rows, some_row, is_past_matrix, leaves_plane_by, moves_past, translate_effect, rotate_effect, mirror_effect, scale_effect, multmatrix_effect}
use Rattle.scad_modules.specs.Shapes.{with_four, fragments_in, cube_effect, polyhedron_effect, square_effect, polygon_effect, circle_effect, cylinder_effect, extrude_effect}
use Rattle.scad_meaning.specs.Loops.{chosen_among}
use Rattle.source_laws.proofs.Costs.{elements}
use Rattle.source_laws.proofs.TextSizes.{size_of_instances, items_size, ranged_size}

-- a choice is at most all children, and all once more for each of the given number
abbrev pub ChoosesUpTo : ℕ → ChosenCall → Type 0
ChoosesUpTo n chosen = (xs : List InstanceTerm) → size_of_instances (chosen_among xs chosen) ≤ size_of_instances xs * suc n

abbrev pub EffectFits : ℕ → EffectCall → Type 0
EffectFits n (a_solid call) = Unit {0}
EffectFits n (a_flat call) = Unit {0}
EffectFits n (a_move steps) = Unit {0}
EffectFits n (a_join op) = Unit {0}
EffectFits n a_hull = Unit {0}
EffectFits n (an_extrusion center height) = Unit {0}
EffectFits n no_geometry = Unit {0}
EffectFits n (some_children chosen) = ChoosesUpTo n chosen

abbrev pub elements_in : Option Val → ℕ
elements_in None = 0
elements_in (Some v) = elements v

-- numbers of a list are no more than its elements
first_fits : (n : ℕ) (o : Option ℤ) (rest : Option (List ℤ)) → IfSome rest (λ ns. length ns ≤ n)
    → IfSome (with_first o rest) (λ ns. length ns ≤ suc n)
first_fits n None rest h = tt
first_fits n (Some z) None h = tt
first_fits n (Some z) (Some ns) h = omega arith

some_element : (v : Val) → 1 ≤ element_count v
some_element (NumberVal n) = omega arith
some_element (TruthVal truth) = omega arith
some_element (TextVal bytes) = omega arith
some_element (ListVal items) = omega arith
some_element (RangeVal from step upto) = omega arith
some_element UndefVal = omega arith

fewer : (n m : ℕ) (o : Option (List ℤ)) → n ≤ m → IfSome o (λ ns. length ns ≤ n) → IfSome o (λ ns. length ns ≤ m)
fewer n m None k h = tt
fewer n m (Some ns) k h = omega arith

numbers_fit : (vs : Vals) → IfSome (each_in number_in_value vs) (λ ns. length ns ≤ element_count_in vs)
numbers_fit no_vals = omega arith
numbers_fit (and_val v vs) =
    let one = some_element v in
    fewer (suc (element_count_in vs)) (element_count v + element_count_in vs)
    (with_first (number_in_value v) (each_in number_in_value vs)) (omega arith)
    (first_fits (element_count_in vs) (number_in_value v) (each_in number_in_value vs) (numbers_fit vs))

product_fits : (a n m : ℕ) → n ≤ m → a * n ≤ a * m
product_fits a n m h = grind arith

list_fits : (n : ℕ) (o : Option (List ℤ)) → IfSome o (λ ns. length ns ≤ n)
    → IfSome (option_map numbered_children o) (ChoosesUpTo (suc n))
list_fits n None h = tt
list_fits n (Some ns) h = λ xs.
    let all = items_size xs ns in
    let more = product_fits (size_of_instances xs) (length ns) (suc (suc n)) (omega arith) in omega arith

chosen_fits : (v : Val) → IfSome (chosen_in v) (ChoosesUpTo (elements v))
chosen_fits (NumberVal n) = λ xs. let all = items_size xs (n ∷ []) in omega arith
chosen_fits (TruthVal truth) = tt
chosen_fits (TextVal bytes) = tt
chosen_fits (ListVal items) = list_fits (element_count_in items) (each_in number_in_value items) (numbers_fit items)
chosen_fits (RangeVal from by upto) = λ xs. let all = ranged_size xs from by upto in omega arith
chosen_fits UndefVal = tt

-- what is read of arguments
type_ok : {A : Type 0} (Q : EffectCall → Type 0) (P : A → Type 0) (o : Option A) (go : A → AnswerOrFault EffectCall) → IfSome o P
    → ((x : A) → P x → IfOk (go x) Q) → IfOk (of_type o go) Q
type_ok Q P None go h g = tt
type_ok Q P (Some x) go h g = g x h

children_fits : (o : Option Val) → IfOk (of_type (or_default all_children chosen_in o) (λ chosen. Ok (some_children chosen)))
    (EffectFits (elements_in o))
children_fits None = λ xs. omega arith
children_fits (Some v) = type_ok (EffectFits (elements v)) (ChoosesUpTo (elements v)) (chosen_in v)
    (λ chosen. Ok (some_children chosen)) (chosen_fits v) (λ chosen h. h)

module _ (n : ℕ) where
  abbrev Fits : AnswerOrFault EffectCall → Type 0
  Fits answer = IfOk answer (EffectFits n)

  required : (o : Option Val) (go : Val → AnswerOrFault EffectCall) → ((v : Val) → Fits (go v)) → Fits (required_argument o go)
  required None go h = tt
  required (Some v) go h = h v

  typed : {A : Type 0} (o : Option A) (go : A → AnswerOrFault EffectCall) → ((x : A) → Fits (go x)) → Fits (of_type o go)
  typed None go h = tt
  typed (Some x) go h = h x

  refused : (b : Bool) (kind : FaultKind) (next : AnswerOrFault EffectCall) → Fits next → Fits (refused_where b kind next)
  refused true kind next h = tt
  refused false kind next h = h

  on_axis : (o : Option ℕ) (go : ℕ → AnswerOrFault EffectCall) → ((x : ℕ) → Fits (go x)) → Fits (for_axis o go)
  on_axis None go h = tt
  on_axis (Some x) go h = h x

  with_four_fits : (fragments : Option Val) (next : AnswerOrFault EffectCall) → Fits next → Fits (with_four fragments next)
  with_four_fits fragments next h = typed (fragments_in fragments) _ (λ m. refused (not (int_eq m (pos 4))) NotInProfile next h)

  module _ (unit : LengthUnit) (inside : Bool) (fragments : Option Val) (bound : BoundArguments) where
    cube_fits : Fits (cube_effect inside bound)
    cube_fits = typed (or_default (pos 1 ∷ pos 1 ∷ pos 1 ∷ []) (sides_in 3) (bound_argument bound 0)) _ (λ size.
        typed (or_default false truth_in (bound_argument bound 1)) _
        (λ center. refused inside WrongDimension (Ok (a_solid (cube_call center size))) tt))

    polyhedron_fits : Fits (polyhedron_effect inside bound)
    polyhedron_fits = required (bound_argument bound 0) _ (λ v. required (bound_argument bound 1) _ (λ w.
        typed (points_in 3 v) _ (λ points. typed (faces_in w) _
        (λ faces. refused inside WrongDimension (Ok (a_solid (polyhedron_call points faces))) tt))))

    square_fits : Fits (square_effect inside bound)
    square_fits = typed (or_default (pos 1 ∷ pos 1 ∷ []) (sides_in 2) (bound_argument bound 0)) _ (λ size.
        typed (or_default false truth_in (bound_argument bound 1)) _
        (λ center. refused (not inside) WrongDimension (Ok (a_flat (square_call center size))) tt))

    polygon_fits : Fits (polygon_effect inside bound)
    polygon_fits = required (bound_argument bound 0) _ (λ v. refused (is_some (bound_argument bound 1)) NotInProfile _ (
        typed (points_in 2 v) _ (λ points. refused (not inside) WrongDimension (Ok (a_flat (polygon_call points))) tt)))

    circle_fits : Fits (circle_effect inside fragments bound)
    circle_fits = refused (is_some (bound_argument bound 1)) NotInProfile _ (
        typed (or_default (pos 1) number_in_value (bound_argument bound 0)) _ (λ radius.
        refused (not inside) WrongDimension _ (with_four_fits fragments (Ok (a_flat (circle_call radius))) tt)))

    cylinder_fits : Fits (cylinder_effect inside fragments bound)
    cylinder_fits =
        refused (is_some (bound_argument bound 5)) NotInProfile _ (
        refused (is_some (bound_argument bound 6)) NotInProfile _ (
        refused (is_some (bound_argument bound 7)) NotInProfile _ (
        refused (is_some (bound_argument bound 4) && (is_some (bound_argument bound 1) || is_some (bound_argument bound 2)))
        BadArgument _ (
        typed (or_default (pos 1) number_in_value (bound_argument bound 0)) _ (λ height.
        typed (or_default (pos 1) number_in_value (bound_argument bound 4)) _ (λ radius.
        typed (or_default radius number_in_value (bound_argument bound 1)) _ (λ low.
        typed (or_default radius number_in_value (bound_argument bound 2)) _ (λ high.
        typed (or_default false truth_in (bound_argument bound 3)) _ (λ center.
        refused inside WrongDimension _ (with_four_fits fragments (Ok (a_solid (cylinder_call center height low high))) tt))))))))))

    extrude_fits : Fits (extrude_effect inside bound)
    extrude_fits = required (bound_argument bound 0) _ (λ v.
        refused (is_some (bound_argument bound 3)) NotInProfile _ (
        refused (is_some (bound_argument bound 4)) NotInProfile _ (
        refused (is_some (bound_argument bound 5)) NotInProfile _ (
        typed (number_in_value v) _ (λ height.
        typed (or_default false truth_in (bound_argument bound 1)) _ (λ center.
        refused inside WrongDimension (Ok (an_extrusion center height)) tt))))))

    translate_fits : Fits (translate_effect unit inside bound)
    translate_fits = required (bound_argument bound 0) _ (λ v. typed (coordinates_in (pos 0) v) _ (λ by.
        refused (leaves_plane inside by) WrongDimension _ (refused
        (some_component is_past_safe_size (vector_on_grid unit by)) TooLarge _ tt)))

    rotate_fits : Fits (rotate_effect inside bound)
    rotate_fits = required (bound_argument bound 0) _ (λ v. refused (is_some (bound_argument bound 1)) NotInProfile _ (
        typed (angles_in v) _ (λ angles.
        refused (some_component is_skew angles) NotQuarter _ (refused (tilts_plane inside angles) WrongDimension _ tt))))

    mirror_fits : Fits (mirror_effect inside bound)
    mirror_fits = required (bound_argument bound 0) _ (λ v. typed (coordinates_in (pos 0) v) _ (λ by.
        on_axis (axis_of by) _ (λ axis. refused (inside && nat_eq axis 2) WrongDimension _ tt)))

    scale_fits : Fits (scale_effect inside bound)
    scale_fits = required (bound_argument bound 0) _ (λ v. typed (factors_in v) _ (λ by.
        refused (some_component is_zero by) Singular _ tt))

    multmatrix_fits : Fits (multmatrix_effect unit inside bound)
    multmatrix_fits = required (bound_argument bound 0) _ (λ v. typed (matrix_rows v) _ (λ rows.
        refused (some_row (some_component is_past_matrix) rows) TooLarge _ (
        refused (is_zero (determinant_of (affine_of rows))) Singular _ (
        refused (leaves_plane_by inside rows) WrongDimension _ (
        refused (some_row (moves_past unit) rows) TooLarge _ tt)))))

    assert_fits : Fits (assert_effect bound)
    assert_fits = required (bound_argument bound 0) _ (λ v. refused (not (truth_of v)) AssertFailed (Ok no_geometry) tt)

    hull_fits : Fits (hull_effect inside)
    hull_fits = refused inside WrongDimension (Ok a_hull) tt

-- what a call of a built-in module does fits the elements of its first argument
pub effect_fits : (unit : LengthUnit) (inside : Bool) (fragments : Option Val) (builtin : BuiltinModule) (bound : BoundArguments)
    → IfOk (effect_of unit inside fragments builtin bound) (EffectFits (elements_in (bound_argument bound 0)))
effect_fits unit inside fragments Cube bound = cube_fits (elements_in (bound_argument bound 0)) unit inside fragments bound
effect_fits unit inside fragments Polyhedron bound = polyhedron_fits
    (elements_in (bound_argument bound 0)) unit inside fragments bound
effect_fits unit inside fragments Cylinder bound = cylinder_fits (elements_in (bound_argument bound 0)) unit inside fragments bound
effect_fits unit inside fragments Square bound = square_fits (elements_in (bound_argument bound 0)) unit inside fragments bound
effect_fits unit inside fragments Polygon bound = polygon_fits (elements_in (bound_argument bound 0)) unit inside fragments bound
effect_fits unit inside fragments Circle bound = circle_fits (elements_in (bound_argument bound 0)) unit inside fragments bound
effect_fits unit inside fragments LinearExtrude bound = extrude_fits
    (elements_in (bound_argument bound 0)) unit inside fragments bound
effect_fits unit inside fragments Translate bound = translate_fits
    (elements_in (bound_argument bound 0)) unit inside fragments bound
effect_fits unit inside fragments Rotate bound = rotate_fits (elements_in (bound_argument bound 0)) unit inside fragments bound
effect_fits unit inside fragments Mirror bound = mirror_fits (elements_in (bound_argument bound 0)) unit inside fragments bound
effect_fits unit inside fragments Scale bound = scale_fits (elements_in (bound_argument bound 0)) unit inside fragments bound
effect_fits unit inside fragments Multmatrix bound = multmatrix_fits
    (elements_in (bound_argument bound 0)) unit inside fragments bound
effect_fits unit inside fragments Union bound = tt
effect_fits unit inside fragments Difference bound = tt
effect_fits unit inside fragments Intersection bound = tt
effect_fits unit inside fragments Hull bound = hull_fits (elements_in (bound_argument bound 0)) unit inside fragments bound
effect_fits unit inside fragments Color bound = tt
effect_fits unit inside fragments Render bound = tt
effect_fits unit inside fragments Echo bound = tt
effect_fits unit inside fragments Assert bound = assert_fits (elements_in (bound_argument bound 0)) unit inside fragments bound
effect_fits unit inside fragments Children bound = children_fits (bound_argument bound 0)
