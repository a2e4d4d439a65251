-- The stop of points that steps place nowhere.
use Rattle.std.proofs.Common.{◌≡◌, ℤ, List, Any, refl}
use Rattle.plane_predicate.specs.Space.{point_at}
use Rattle.int_transform.specs.declared.affine.Affine.{Affine}
use Rattle.int_transform.specs.declared.fault.StepFault.{StepFault}
use Rattle.int_transform.specs.declared.fault.StepFault.TheVariants.{TooLarge, NoMemory}
use Rattle.int_transform.specs.Maps.{LeavesSafeCoordinates}
use Rattle.primitives.specs.Stops.{shape_stop_of}
use Rattle.primitives.specs.Placing.{IsPlacingStop}

pub placing_stop : (steps : List Affine) (points : List (List ℤ)) (fault : StepFault) →
    (fault ≡ TooLarge → Any (λ p. LeavesSafeCoordinates steps (point_at p)) points) → IsPlacingStop steps points (shape_stop_of fault)
placing_stop steps points TooLarge large = large refl
placing_stop steps points NoMemory large = tt
