-- What an answer tells of values alone, and what is held meanwhile.
use Rattle.std.specs.Prelude.{◌≡◌, List, [], ◌∷◌, ◌++◌, Result, Ok, Err}
use Rattle.std.specs.declared.vec.Vec.{Vec}
use Rattle.std.specs.declared.alloc.Global.{Global}
use Rattle.text_place.specs.declared.fault.Stop.{Stop}
use Rattle.text_place.specs.declared.fault.Stop.TheVariants.{Fault, NoMemory}
use Rattle.plain_text.specs.declared.place.Place.{Place}
use Rattle.scad_value.specs.declared.value.Value.{Value}
use Rattle.scad_value.specs.declared.bounded_value.BoundedValue.{BoundedValue}
use Rattle.scad_value.specs.BoundedView.{bounded_val}
use Rattle.scad_value.specs.Values.{Val}
use Rattle.scad_value.specs.Operators.{AnswerOrFault}

-- an operator's answer, with its faults at a place
abbrev pub MeetsAnswerAt : Result BoundedValue Stop → AnswerOrFault Val → Place → Type 0
MeetsAnswerAt (Ok v) answer at = answer ≡ Ok (bounded_val v)
MeetsAnswerAt (Err (Fault fault)) answer at = (answer ≡ Err fault.kind) × (fault.place ≡ at)
MeetsAnswerAt (Err NoMemory) answer at = Unit {0}

-- the value without its bound, or the stop
abbrev pub IsUnboundedAnswer : Result BoundedValue Stop → Result Value Stop → Type 0
IsUnboundedAnswer (Ok bounded) (Ok v) = v ≡ bounded.value
IsUnboundedAnswer (Ok bounded) (Err stop) = ⊥
IsUnboundedAnswer (Err fault) (Ok v) = ⊥
IsUnboundedAnswer (Err fault) (Err stop) = stop ≡ fault

-- a list with one item more, unless memory ran out or there is none
abbrev pub IsOneItemLonger : {A : Type 0} → List A → Result A Stop → Result (Vec A Global) Stop → Type 0
IsOneItemLonger items (Ok x) (Ok longer) = longer.items ≡ items ++ x ∷ []
IsOneItemLonger items (Ok x) (Err stop) = stop ≡ NoMemory
IsOneItemLonger items (Err fault) (Ok longer) = ⊥
IsOneItemLonger items (Err fault) (Err stop) = stop ≡ fault
