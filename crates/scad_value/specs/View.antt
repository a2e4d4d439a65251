-- The plain value that a value in memory stands for.
use Rattle.std.specs.Prelude.{◌≡◌, List, map, Result, Ok, Err, IsTrue}
use Rattle.text_place.specs.declared.fault.FaultKind.{FaultKind}
use Rattle.scad_value.specs.declared.value.Value.{Value}
use Rattle.scad_value.specs.declared.value.Values.{Values}
use Rattle.scad_value.specs.declared.value.Value.TheOpen.{Value-F, Values-F, Number, Truth, Text, List as ListIn, Range, Undef}
use Rattle.scad_value.specs.declared.value.Value.TheFolds.{fold-Value, fold-Values}
use Rattle.scad_value.specs.declared.stop.ValueStop.{ValueStop}
use Rattle.scad_value.specs.declared.stop.ValueStop.TheVariants.{Kind, NoMemory}
use Rattle.scad_value.specs.Values.{Val, NumberVal, TruthVal, TextVal, ListVal, RangeVal, UndefVal, vals_from, is_bounded}
use Rattle.scad_value.specs.Operators.{AnswerOrFault}

-- one layer, with its parts seen already
abbrev pub value_step : Value-F Val (List Val) → Val
value_step (Number n) = NumberVal n
value_step (Truth truth) = TruthVal truth
value_step (Text bytes) = TextVal bytes
value_step (ListIn items) = ListVal (vals_from items)
value_step (Range from step to) = RangeVal from step to
value_step Undef = UndefVal

-- the items of a list, seen already
abbrev pub values_step : Values-F Val (List Val) → List Val
values_step vs = vs.items.items

-- a value as a plain tree
abbrev pub val_of : Value → Val
val_of = fold-Value Val (List Val) value_step values_step

-- the items of a list of values
abbrev pub vals_of : Values → List Val
vals_of = fold-Values Val (List Val) value_step values_step

-- the values of a vector
abbrev pub vals_in : List Value → List Val
vals_in vs = map val_of vs

-- what was given is the answer
abbrev pub GivesAnswer : Result Value FaultKind → AnswerOrFault Val → Type 0
GivesAnswer (Ok v) answer = answer ≡ Ok (val_of v)
GivesAnswer (Err kind) answer = answer ≡ Err kind

-- what was given is the answer, unless memory ran out
abbrev pub MeetsAnswer : Result Value ValueStop → AnswerOrFault Val → Type 0
MeetsAnswer (Ok v) answer = answer ≡ Ok (val_of v)
MeetsAnswer (Err (Kind kind)) answer = answer ≡ Err kind
MeetsAnswer (Err NoMemory) answer = Unit {0}

-- the same for the items of a list
abbrev pub MeetsAnswers : Result Values ValueStop → AnswerOrFault (List Val) → Type 0
MeetsAnswers (Ok vs) answer = answer ≡ Ok (vals_of vs)
MeetsAnswers (Err (Kind kind)) answer = answer ≡ Err kind
MeetsAnswers (Err NoMemory) answer = Unit {0}

-- the value that was given is bounded
abbrev pub GivesBounded : Result Value ValueStop → Type 0
GivesBounded (Ok v) = IsTrue (is_bounded (val_of v))
GivesBounded (Err stop) = Unit {0}
