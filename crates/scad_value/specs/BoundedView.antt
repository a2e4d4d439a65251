-- The plain values that bounded values in memory stand for, and those of a call's bound arguments.
use Rattle.std.specs.Prelude.{List, map, Option, Some, None}
use Rattle.scad_value.specs.declared.bounded_value.BoundedValue.{BoundedValue}
use Rattle.scad_value.specs.Values.{Val}
use Rattle.scad_value.specs.View.{val_of}

-- the plain value that is kept as bounded
abbrev pub bounded_val : BoundedValue → Val
bounded_val bounded = val_of bounded.value

-- for each parameter of a call the value that an argument gives it, or none
abbrev pub BoundArguments : Type 0
BoundArguments = List (Option Val)

-- the value of a bound argument, where there is one
abbrev pub bound_argument_of : Option BoundedValue → Option Val
bound_argument_of (Some value) = Some (bounded_val value)
bound_argument_of None = None

-- the values of a call's bound arguments
abbrev pub bound_arguments_in : List (Option BoundedValue) → BoundArguments
bound_arguments_in bound = map bound_argument_of bound
