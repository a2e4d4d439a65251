-- What is answered from values alone: ranges, members, and which operators want their right side (OpenSCAD User Manual,
-- "Values and data types" and "Operators").
use Rattle.std.specs.Prelude.{zero, ℤ, pos, ℕ, Bool, true, not, List, Option, Some, None, Ok, Err, int_lt, codes, if◌then◌else◌}
use Rattle.std.specs.Str.{bytes_eq}
use Rattle.text_place.specs.declared.fault.FaultKind.TheVariants.{TypeMismatch, RangeOrder}
use Rattle.scad_ast.specs.declared.operator.BinaryOp.{BinaryOp}
use Rattle.scad_ast.specs.declared.operator.BinaryOp.TheVariants.{Or, And}
use Rattle.scad_value.specs.Values.{Val, NumberVal, RangeVal, truth_of}
use Rattle.scad_value.specs.Operators.{AnswerOrFault}

-- the range of two values, by a step of 1
abbrev pub range_of : Val → Val → AnswerOrFault Val
range_of (NumberVal from) (NumberVal to) = if int_lt to from then Err RangeOrder else Ok (RangeVal from (pos 1) to)
range_of v w = Err TypeMismatch

-- a range by a step, which must not be 0
abbrev pub range_by_step : ℤ → ℤ → ℤ → AnswerOrFault Val
range_by_step from (pos zero) to = Err RangeOrder
range_by_step from step to = Ok (RangeVal from step to)

-- the range of three values, of which the second is the step
abbrev pub stepped_range_of : Val → Val → Val → AnswerOrFault Val
stepped_range_of (NumberVal from) (NumberVal step) (NumberVal to) = range_by_step from step to
stepped_range_of u v w = Err TypeMismatch

-- what a member's name counts as
abbrev pub member_of : List ℕ → Option ℤ
member_of name =
    if bytes_eq name (codes "x") then Some (pos 0) else (if bytes_eq name (codes "y") then Some (pos 1) else (if bytes_eq name (codes "z") then Some (pos 2) else None))

-- whether an operator with this left side wants its right side
abbrev pub wants_right : BinaryOp → Val → Bool
wants_right Or v = not (truth_of v)
wants_right And v = truth_of v
wants_right op v = true
