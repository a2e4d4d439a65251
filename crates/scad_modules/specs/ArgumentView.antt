-- The bound arguments of a call in memory, and what the code's readers answer.
use Rattle.std.specs.Prelude.{◌≡◌, List, map, Option, Some, None, Result, Ok, Err}
use Rattle.text_place.specs.declared.fault.FaultKind.{FaultKind}
use Rattle.text_place.specs.declared.fault.FaultKind.TheVariants.{TypeMismatch}
use Rattle.scad_value.specs.declared.bounded_value.BoundedValue.{BoundedValue}
use Rattle.scad_value.specs.declared.stop.ValueStop.{ValueStop}
use Rattle.scad_value.specs.declared.stop.ValueStop.TheVariants.{Kind, NoMemory}
use Rattle.scad_value.specs.Values.{Val}
use Rattle.scad_value.specs.BoundedView.{bounded_val}
pub use Rattle.scad_value.specs.BoundedView.{bound_argument_of, bound_arguments_in}

-- what was read, or TypeMismatch where there is none
abbrev pub ReadsArgument : {A : Type 0} → Result A FaultKind → Option A → Type 0
ReadsArgument (Ok x) read = read ≡ Some x
ReadsArgument (Err kind) read = (read ≡ None) × (kind ≡ TypeMismatch)

-- the same for what is seen in some way, unless memory ran out
abbrev pub ReadsArgumentAs : {A B : Type 0} → (A → B) → Result A ValueStop → Option B → Type 0
ReadsArgumentAs seen (Ok x) read = read ≡ Some (seen x)
ReadsArgumentAs seen (Err (Kind kind)) read = (read ≡ None) × (kind ≡ TypeMismatch)
ReadsArgumentAs seen (Err NoMemory) read = Unit {0}
