-- Which argument each parameter of a call gets.
use Rattle.std.specs.Prelude.{◌≡◌, ℕ, zero, ◌+◌, List, [], ◌∷◌, length, map, replicate, Option, Some, None, is_some, Result, Ok, Err, nat_lt, if◌then◌else◌, slice_index_or, slice_set}
use Rattle.std.specs.Str.{bytes_eq}
use Rattle.plain_text.specs.declared.place.Place.{Place}
use Rattle.text_place.specs.declared.fault.Stop.{Stop}
use Rattle.text_place.specs.declared.fault.Stop.TheVariants.{Fault, NoMemory}
use Rattle.text_place.specs.declared.fault.FaultKind.TheVariants.{BadArgument}
use Rattle.scad_ast.specs.Terms.{place_of_term, ParamTerm, PlainTerm, DefaultTerm, ArgTerm, NamedTerm, SpecialArgTerm, PositionalTerm}
use Rattle.scad_definitions.specs.Newest.{Pairs, find_in, one_further}

-- the name of a parameter
abbrev pub parameter_name : ParamTerm → List ℕ
parameter_name (PlainTerm at name) = name
parameter_name (DefaultTerm at name value) = name

-- the names of parameters in order
abbrev pub parameter_names : List ParamTerm → List (List ℕ)
parameter_names = map parameter_name

-- the number of the first of these names
abbrev pub first_named : List (List ℕ) → List ℕ → Option ℕ
first_named [] name = None
first_named (known ∷ others) name =
    if bytes_eq known name then Some zero else one_further (first_named others name)

-- The number of the parameter that an argument takes after the given number of positional ones, among parameters of these
-- names. A special argument takes none.
abbrev pub parameter_taken_by : List (List ℕ) → ℕ → ArgTerm → Option ℕ
parameter_taken_by names positional (PositionalTerm value) =
    if nat_lt positional (length names) then Some positional
    else None
parameter_taken_by names positional (NamedTerm at name value) = first_named names name
parameter_taken_by names positional (SpecialArgTerm at name value) = None

-- how many positional arguments there are with this one
abbrev pub positional_after : ℕ → ArgTerm → ℕ
positional_after positional (PositionalTerm value) = positional + 1
positional_after positional (NamedTerm at name value) = positional
positional_after positional (SpecialArgTerm at name value) = positional

-- the place of an argument's first token
abbrev pub argument_place : ArgTerm → Place
argument_place (PositionalTerm value) = place_of_term value
argument_place (NamedTerm at name value) = at
argument_place (SpecialArgTerm at name value) = at

-- What the arguments of a call give: to each parameter something or nothing, and something to special names, the newest
-- first. In an evaluation that is a value, in a matching the argument's number.
pub record ArgumentsOf (A : Type 0) : Type 0 where
  pub bound : List (Option A)
  pub dynamic : Pairs A

-- before the first argument of the given number of parameters
abbrev pub no_arguments_of : {A : Type 0} → ℕ → ArgumentsOf A
no_arguments_of count = record { bound = replicate count None; dynamic = [] }

-- what takes an argument: a parameter by its number, or a special name
pub data DestinationTerm : Type 0 where
  to_parameter : (number : ℕ) → DestinationTerm
  to_special : (name : List ℕ) → DestinationTerm

-- a parameter that was given nothing yet
abbrev pub unless_bound : {A : Type 0} → List (Option A) → Option ℕ → Option DestinationTerm
unless_bound bound None = None
unless_bound bound (Some number) =
    if is_some (slice_index_or bound number None) then None else Some (to_parameter number)

-- where an argument goes after the given number of positional ones, among parameters of these names: a surplus one, one of an
-- unknown name and one whose destination has something already go nowhere
abbrev pub destination_of : {A : Type 0} → List (List ℕ) → ℕ → ArgumentsOf A → ArgTerm
    → Option DestinationTerm
destination_of names positional given (SpecialArgTerm at name value) =
    if is_some (find_in given.dynamic name) then None else Some (to_special name)
destination_of names positional given arg =
    unless_bound given.bound (parameter_taken_by names positional arg)

-- with one argument more
abbrev pub with_argument : {A : Type 0} → ArgumentsOf A → DestinationTerm → A → ArgumentsOf A
with_argument given (to_parameter number) x =
    record { bound = slice_set given.bound number (Some x); dynamic = given.dynamic }
with_argument given (to_special name) x =
    record { bound = given.bound; dynamic = (name, x) ∷ given.dynamic }

-- goes on, or stops at an argument's place
abbrev pub or_place : Option DestinationTerm → Place
    → (DestinationTerm → Result (ArgumentsOf ℕ) Place) → Result (ArgumentsOf ℕ) Place
or_place None place go = Err place
or_place (Some target) place go = go target

-- The numbers of the arguments from this number on, put to what takes them, or the place of the first that nothing takes.
abbrev pub match_arguments : List (List ℕ) → ℕ → ℕ → List ArgTerm → ArgumentsOf ℕ
    → Result (ArgumentsOf ℕ) Place
match_arguments names number positional [] given = Ok given
match_arguments names number positional (arg ∷ args) given =
    or_place (destination_of names positional given arg) (argument_place arg) (λ target.
    match_arguments names (number + 1) (positional_after positional arg) args
    (with_argument given target number))

-- for each parameter the number of its argument, or none
abbrev pub only_bound : Result (ArgumentsOf ℕ) Place → Result (List (Option ℕ)) Place
only_bound (Ok given) = Ok given.bound
only_bound (Err at) = Err at

-- a call's arguments, from the first on
abbrev pub matching_of : List (List ℕ) → List ArgTerm → Result (List (Option ℕ)) Place
matching_of names args =
    only_bound (match_arguments names 0 0 args (no_arguments_of (length names)))

-- the matching, or a fault at an argument's place, unless memory ran out
abbrev pub MeetsMatching : Result (List (Option ℕ)) Stop → Result (List (Option ℕ)) Place → Type 0
MeetsMatching (Ok bound) out = out ≡ Ok bound
MeetsMatching (Err (Fault fault)) out = (fault.kind ≡ BadArgument) × (out ≡ Err fault.place)
MeetsMatching (Err NoMemory) out = Unit {0}

-- a number after the given number of others
abbrev pub number_after : ℕ → Option ℕ → Option ℕ
number_after count (Some number) = Some (count + number)
number_after count None = None
