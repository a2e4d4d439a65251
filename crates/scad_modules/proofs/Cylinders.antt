-- What a cylinder's call does once its sizes are read.
use Rattle.std.proofs.Common.{◌≡◌, ℤ, pos, Bool, true, false, ◌&&◌, ◌||◌, Option, Some, None, Ok, Err, refl}
use Rattle.std.specs.Prelude.{is_some}
use Rattle.text_place.specs.declared.fault.FaultKind.TheVariants.{WrongDimension}
use Rattle.scad_value.specs.Values.{Val}
use Rattle.scad_modules.specs.Reading.{BoundArguments, bound_argument, number_in_value, truth_in, or_default, of_type, refused_where}
use Rattle.scad_modules.specs.Effects.{a_solid, cylinder_call}
use Rattle.scad_modules.specs.Shapes.{cylinder_effect, with_four}

pub sizes_read : (inside : Bool) (fragments : Option Val) (bound : BoundArguments) (height radius low high : ℤ)
    → false ≡ is_some (bound_argument bound 5) → false ≡ is_some (bound_argument bound 6) → false ≡ is_some (bound_argument bound 7)
    → false ≡ (is_some (bound_argument bound 4) && (is_some (bound_argument bound 1) || is_some (bound_argument bound 2)))
    → or_default (pos 1) number_in_value (bound_argument bound 0) ≡ Some height → or_default (pos 1) number_in_value (bound_argument bound 4) ≡ Some radius
    → or_default radius number_in_value (bound_argument bound 1) ≡ Some low → or_default radius number_in_value (bound_argument bound 2) ≡ Some high
    → cylinder_effect inside fragments bound
    ≡ of_type (or_default false truth_in (bound_argument bound 3)) (λ center. refused_where inside WrongDimension
    (with_four fragments (Ok (a_solid (cylinder_call center height low high)))))
sizes_read inside fragments bound height radius low high d l h r a b e f = rw (← d, ← l, ← h, ← r, a, b, e, f) refl
