-- The faults of a part.
use Rattle.std.proofs.Common.{◌≡◌, ◌<◌, ℤ, List, length, refl, subst, All, Any}
use Rattle.text_place.specs.declared.fault.FaultKind.{FaultKind}
use Rattle.text_place.specs.declared.fault.FaultKind.TheVariants.{BadCharacter, OpenComment, OpenText, NotWhole, TooLarge, TypeMismatch, ZeroDivisor, BadSize, NotOnGrid, OutOfRange, FewPoints, BadPoint, NotFlat, NotConvex, NotClosed, Expected, Nested, UnknownName, UnknownFunction, UnknownModule, BadArgument, TooDeep, TooManyTurns, RangeOrder, AssertFailed, NotInProfile, WrongDimension, NotQuarter, Singular, TooManyParts, TooManyPlanes, LongList}
use Rattle.plane_predicate.specs.Space.{Coefficients, point_at, IsInReach}
use Rattle.int_transform.specs.Maps.{image, map_of, LeavesSafeCoordinates, KeepsSafeCoordinates}
use Rattle.primitives.specs.declared.stop.ShapeStop.TheVariants.{Kind}
use Rattle.primitives.specs.Placing.{IsPlacingStop}
use Rattle.scad_design.specs.Designs.{MovedShape}
use Rattle.text_place.specs.declared.fault.Stop.{Stop}
use Rattle.text_place.specs.declared.fault.Stop.TheVariants.{Fault, NoMemory}
use Rattle.scad_design.specs.Designs.{a_leaf}
use Rattle.scad_design.specs.Placing.{with_new_planes, AreWorldPlanes, EndsInReach, IsPlacingFault, StaysSafe, most_planes}
use Rattle.scad_design.specs.Trees.{IsRangeStop, IsStopOf}

-- one that isn't so, where all are
some_not : {A : Type 0} (P : A → Type 0) (xs : List A) → Any (λ (x : A). P x → ⊥) xs → All P xs → ⊥
some_not P xs h all = h.4 (subst P h.3 (all h.0 h.1 h.2))

pub past : (part : MovedShape) → Any (λ (p : List ℤ). LeavesSafeCoordinates part.steps (point_at p)) part.mesh.points → StaysSafe part → ⊥
past part h safe =
    let stays : KeepsSafeCoordinates part.steps (point_at h.1) = subst (λ (p : List ℤ). KeepsSafeCoordinates part.steps (point_at p)) h.3 (safe h.0 h.1 h.2) in
    h.4.past (stays h.4.after h.4.within)

-- why a shape has no planes where its steps move it is the part's fault, whatever planes are known
pub range_fault : (part : MovedShape) (known : List Coefficients) (kind : FaultKind) → IsPlacingStop part.steps part.mesh.points (Kind kind) →
    IsPlacingFault part known kind
range_fault part known BadCharacter stop = absurd stop
range_fault part known OpenComment stop = absurd stop
range_fault part known OpenText stop = absurd stop
range_fault part known NotWhole stop = absurd stop
range_fault part known TooLarge stop = past part stop
range_fault part known TypeMismatch stop = absurd stop
range_fault part known ZeroDivisor stop = absurd stop
range_fault part known BadSize stop = absurd stop
range_fault part known NotOnGrid stop = absurd stop
range_fault part known OutOfRange stop =
    (stop.0, some_not (λ (p : List ℤ). IsInReach (image (map_of part.steps) (point_at p))) part.mesh.points stop.1)
range_fault part known FewPoints stop = absurd stop
range_fault part known BadPoint stop = absurd stop
range_fault part known NotFlat stop = absurd stop
range_fault part known NotConvex stop = absurd stop
range_fault part known NotClosed stop = absurd stop
range_fault part known Expected stop = absurd stop
range_fault part known Nested stop = absurd stop
range_fault part known UnknownName stop = absurd stop
range_fault part known UnknownFunction stop = absurd stop
range_fault part known UnknownModule stop = absurd stop
range_fault part known BadArgument stop = absurd stop
range_fault part known TooDeep stop = absurd stop
range_fault part known TooManyTurns stop = absurd stop
range_fault part known RangeOrder stop = absurd stop
range_fault part known AssertFailed stop = absurd stop
range_fault part known NotInProfile stop = absurd stop
range_fault part known WrongDimension stop = absurd stop
range_fault part known NotQuarter stop = absurd stop
range_fault part known Singular stop = absurd stop
range_fault part known TooManyParts stop = absurd stop
range_fault part known TooManyPlanes stop = absurd stop
range_fault part known LongList stop = absurd stop

-- a stop of a part by itself is one of the part behind other planes
pub range_stop : (part : MovedShape) (known : List Coefficients) (stop : Stop) → IsRangeStop part stop → IsStopOf (a_leaf part) known stop
range_stop part known (Fault fault) h = (h.0 known, h.1)
range_stop part known NoMemory h = tt

-- the three causes
pub data Cause (part : MovedShape) (known : List Coefficients) (kind : FaultKind) : Type 0 where
  large : (kind ≡ TooLarge) → (StaysSafe part → ⊥) → Cause part known kind
  far_off : (kind ≡ OutOfRange) → StaysSafe part → (EndsInReach part → ⊥) → Cause part known kind
  many : (kind ≡ TooManyPlanes) → StaysSafe part → EndsInReach part → (planes : List Coefficients) → AreWorldPlanes part planes
      → (most_planes < length (with_new_planes known planes)) → Cause part known kind

pub cause_of : (part : MovedShape) (known : List Coefficients) (kind : FaultKind) → IsPlacingFault part known kind → Cause part known kind
cause_of part known BadCharacter h = absurd h
cause_of part known OpenComment h = absurd h
cause_of part known OpenText h = absurd h
cause_of part known NotWhole h = absurd h
cause_of part known TooLarge h = large refl h
cause_of part known TypeMismatch h = absurd h
cause_of part known ZeroDivisor h = absurd h
cause_of part known BadSize h = absurd h
cause_of part known NotOnGrid h = absurd h
cause_of part known OutOfRange h = far_off refl h.0 h.1
cause_of part known FewPoints h = absurd h
cause_of part known BadPoint h = absurd h
cause_of part known NotFlat h = absurd h
cause_of part known NotConvex h = absurd h
cause_of part known NotClosed h = absurd h
cause_of part known Expected h = absurd h
cause_of part known Nested h = absurd h
cause_of part known UnknownName h = absurd h
cause_of part known UnknownFunction h = absurd h
cause_of part known UnknownModule h = absurd h
cause_of part known BadArgument h = absurd h
cause_of part known TooDeep h = absurd h
cause_of part known TooManyTurns h = absurd h
cause_of part known RangeOrder h = absurd h
cause_of part known AssertFailed h = absurd h
cause_of part known NotInProfile h = absurd h
cause_of part known WrongDimension h = absurd h
cause_of part known NotQuarter h = absurd h
cause_of part known Singular h = absurd h
cause_of part known TooManyParts h = absurd h
cause_of part known TooManyPlanes h = many refl h.0 h.1 h.2.0 h.2.1 h.2.2
cause_of part known LongList h = absurd h
