-- Values as sizes, vectors and lists of points, and the steps in which a call's arguments are read.
use Rattle.std.specs.Prelude.{ℕ, ℤ, pos, negsuc, Bool, true, false, List, [], ◌∷◌, length, replicate, Option, Some, None, option_map, Err, is_some, nat_eq, nat_lt, if◌then◌else◌, slice_index_or}
use Rattle.text_place.specs.declared.fault.FaultKind.{FaultKind}
use Rattle.text_place.specs.declared.fault.FaultKind.TheVariants.{BadArgument, NotInProfile, TypeMismatch}
use Rattle.scad_value.specs.Values.{Val, NumberVal, TruthVal, ListVal, Vals, no_vals, and_val}
use Rattle.scad_value.specs.Operators.{AnswerOrFault}
pub use Rattle.scad_value.specs.BoundedView.{BoundArguments}

-- the value that a call gives for a parameter, by its number from 0
abbrev pub bound_argument : BoundArguments → ℕ → Option Val
bound_argument bound number = slice_index_or bound number None

-- a number, where a value is one
abbrev pub number_in_value : Val → Option ℤ
number_in_value (NumberVal n) = Some n
number_in_value v = None

-- a truth, where a value is one
abbrev pub truth_in : Val → Option Bool
truth_in (TruthVal truth) = Some truth
truth_in v = None

-- the first item as it is read, and the others
abbrev pub with_first : {A : Type 0} → Option A → Option (List A) → Option (List A)
with_first None others = None
with_first (Some x) None = None
with_first (Some x) (Some xs) = Some (x ∷ xs)

-- each item as it is read, where all can be
abbrev pub each_in : {A : Type 0} → (Val → Option A) → Vals → Option (List A)
each_in read no_vals = Some []
each_in read (and_val v vs) = with_first (read v) (each_in read vs)

-- a list by its items
abbrev pub list_in : {A : Type 0} → (Val → Option A) → Val → Option (List A)
list_in read (ListVal items) = each_in read items
list_in read v = None

-- a list of the given number of items, or none
abbrev pub of_length : {A : Type 0} → ℕ → Option (List A) → Option (List A)
of_length n None = None
of_length n (Some xs) = if nat_eq (length xs) n then Some xs else None

-- a list of numbers
abbrev pub numbers_in : Val → Option (List ℤ)
numbers_in = list_in number_in_value

-- a list of the given number of numbers
abbrev pub vector_in : ℕ → Val → Option (List ℤ)
vector_in n v = of_length n (numbers_in v)

-- one number for each of the given number of sides, or a list of that many
abbrev pub sides_in : ℕ → Val → Option (List ℤ)
sides_in n (NumberVal side) = Some (replicate n side)
sides_in n v = vector_in n v

-- three numbers, or two with one that stands for the missing third
abbrev pub with_third : ℤ → List ℤ → Option (List ℤ)
with_third third (x ∷ y ∷ []) = Some (x ∷ y ∷ third ∷ [])
with_third third (x ∷ y ∷ z ∷ []) = Some (x ∷ y ∷ z ∷ [])
with_third third numbers = None

-- the same of numbers that were read, if there are some
abbrev pub with_third_from : ℤ → Option (List ℤ) → Option (List ℤ)
with_third_from third None = None
with_third_from third (Some numbers) = with_third third numbers

-- two or three numbers, as coordinates
abbrev pub coordinates_in : ℤ → Val → Option (List ℤ)
coordinates_in third v = with_third_from third (numbers_in v)

-- one angle about z, or three about x, y and z
abbrev pub angles_in : Val → Option (List ℤ)
angles_in (NumberVal angle) = Some (pos 0 ∷ pos 0 ∷ angle ∷ [])
angles_in v = vector_in 3 v

-- one factor for all axes, or 2 or 3 of them
abbrev pub factors_in : Val → Option (List ℤ)
factors_in (NumberVal factor) = Some (factor ∷ factor ∷ factor ∷ [])
factors_in v = coordinates_in (pos 1) v

-- points of the given number of numbers each
abbrev pub points_in : ℕ → Val → Option (List (List ℤ))
points_in n = list_in (vector_in n)

-- a number that no corner of a face can have
abbrev pub no_corner : ℕ
no_corner = 4294967295

-- the number of a face's corner; that which no corner can have stands for all that name none
abbrev pub corner_number : ℤ → ℕ
corner_number (pos n) = if nat_lt n no_corner then n else no_corner
corner_number (negsuc n) = no_corner

-- a value as the number of a corner
abbrev pub corner_in : Val → Option ℕ
corner_in v = option_map corner_number (number_in_value v)

-- the corners of a face
abbrev pub face_in : Val → Option (List ℕ)
face_in = list_in corner_in

-- the faces of a polyhedron
abbrev pub faces_in : Val → Option (List (List ℕ))
faces_in = list_in face_in

-- a missing argument has its default
abbrev pub or_default : {A : Type 0} → A → (Val → Option A) → Option Val → Option A
or_default default read None = Some default
or_default default read (Some v) = read v

-- an argument that must be given
abbrev pub required_argument : {A : Type 0} → Option Val → (Val → AnswerOrFault A) → AnswerOrFault A
required_argument None go = Err BadArgument
required_argument (Some v) go = go v

-- a fault where something is so
abbrev pub refused_where : {A : Type 0} → Bool → FaultKind → AnswerOrFault A → AnswerOrFault A
refused_where true kind next = Err kind
refused_where false kind next = next

-- an argument that the profile leaves out
abbrev pub unless_left_out : {A : Type 0} → Option Val → AnswerOrFault A → AnswerOrFault A
unless_left_out given next = refused_where (is_some given) NotInProfile next

-- an argument of the wanted type
abbrev pub of_type : {A B : Type 0} → Option A → (A → AnswerOrFault B) → AnswerOrFault B
of_type None go = Err TypeMismatch
of_type (Some x) go = go x
