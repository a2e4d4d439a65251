-- What the matching of arguments in memory stands for.
use Rattle.std.specs.Prelude.{◌≡◌, ℕ, ◌<◌, List, map, reverse, Option, Some, None, Result, Ok, Err}
use Rattle.std.specs.Borrow.{Bor}
use Rattle.text_place.specs.declared.fault.Stop.{Stop}
use Rattle.text_place.specs.declared.fault.Stop.TheVariants.{Fault, NoMemory}
use Rattle.text_place.specs.declared.fault.FaultKind.{FaultKind}
use Rattle.plain_text.specs.declared.place.Place.{Place}
use Rattle.scad_ast.specs.StatementView.{param_of}
use Rattle.scad_definitions.specs.declared.lookup.ParameterNames.{ParameterNames}
use Rattle.scad_definitions.specs.declared.parameters.Names.{Names}
use Rattle.scad_definitions.specs.declared.parameters.Names.TheVariants.{Params, Listed}
use Rattle.scad_definitions.specs.declared.parameters.SpecialArgument.{SpecialArgument}
use Rattle.scad_definitions.specs.declared.parameters.CallArguments.{CallArguments}
use Rattle.scad_definitions.specs.declared.parameters.Destination.{Destination}
use Rattle.scad_definitions.specs.declared.parameters.Destination.TheVariants.{Parameter, Special}
use Rattle.scad_definitions.specs.Newest.{Pairs}
use Rattle.scad_definitions.specs.Arguments.{ArgumentsOf, DestinationTerm, to_parameter, to_special, with_argument, parameter_names}

-- that a fault of a kind stands at a place
abbrev pub IsFaultAt : Stop → FaultKind → Place → Type 0
IsFaultAt (Fault fault) kind at = (fault.kind ≡ kind) × (fault.place ≡ at)
IsFaultAt NoMemory kind at = ⊥

-- names that are lent
abbrev pub names_seen : List (Bor (List ℕ)) → List (List ℕ)
names_seen = map (λ name. name.now)

-- the names of a definition's parameters
abbrev pub names_of_params : ParameterNames → List (List ℕ)
names_of_params names = parameter_names (map param_of names.params.now)

-- the names of parameters
abbrev pub names_in : Names → List (List ℕ)
names_in (Params names) = names_of_params names.now
names_in (Listed names) = names_seen names.now

-- a special argument with its name
abbrev pub special_pair : {T : Type 0} → SpecialArgument T → List ℕ × T
special_pair special = (special.name.now, special.value)

-- special arguments with their names, the newest first; in memory it is the last one
abbrev pub special_pairs : {T : Type 0} → List (SpecialArgument T) → Pairs T
special_pairs dynamic = reverse (map special_pair dynamic)

-- what arguments give
abbrev pub call_arguments_of : {T : Type 0} → CallArguments T → ArgumentsOf T
call_arguments_of given =
    record { bound = given.bound.items; dynamic = special_pairs given.dynamic.items }

-- what takes an argument
abbrev pub destination_term : Destination → DestinationTerm
destination_term (Parameter number) = to_parameter number
destination_term (Special name) = to_special name.now

-- what takes an argument, if something does
abbrev pub destination_term_of : Option Destination → Option DestinationTerm
destination_term_of None = None
destination_term_of (Some target) = Some (destination_term target)

-- a parameter's number is below the given one
abbrev pub IsDestinationThere : ℕ → Destination → Type 0
IsDestinationThere count (Parameter number) = number < count
IsDestinationThere count (Special name) = Unit {0}

-- arguments of which one more gave something, unless memory ran out or it gave nothing
abbrev pub IsOneMoreGiven : {T : Type 0} → CallArguments T → Destination → Result T Stop
    → Result (CallArguments T) Stop → Type 0
IsOneMoreGiven given destination (Ok x) (Ok after) =
    call_arguments_of after ≡ with_argument (call_arguments_of given)
    (destination_term destination) x
IsOneMoreGiven given destination (Ok x) (Err stop) = stop ≡ NoMemory
IsOneMoreGiven given destination (Err fault) (Ok after) = ⊥
IsOneMoreGiven given destination (Err fault) (Err stop) = stop ≡ fault
