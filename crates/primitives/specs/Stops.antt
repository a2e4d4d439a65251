-- Why points have no images, as the stop of a shape.
use Rattle.text_place.specs.declared.fault.FaultKind.TheVariants.{TooLarge as TooLargeKind}
use Rattle.int_transform.specs.declared.fault.StepFault.{StepFault}
use Rattle.int_transform.specs.declared.fault.StepFault.TheVariants.{TooLarge, NoMemory}
use Rattle.primitives.specs.declared.stop.ShapeStop.{ShapeStop}
use Rattle.primitives.specs.declared.stop.ShapeStop.TheVariants.{Kind, NoMemory as NoMemoryStop}

-- what a shape is answered where placing its points stops
abbrev pub shape_stop_of : StepFault → ShapeStop
shape_stop_of TooLarge = Kind TooLargeKind
shape_stop_of NoMemory = NoMemoryStop
