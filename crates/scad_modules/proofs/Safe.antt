-- What is read of bounded values has numbers of at most 2^53 - 1 in size.
use Rattle.std.proofs.Common.{◌≡◌, ℕ, zero, suc, ◌≤◌, ◌^◌, Bool, true, false, IsTrue, List, [], ◌∷◌, Option, Some, None, option_map, Result, Ok, Err, sym, subst, arith, ℤ, pos, replicate, cond, nat_eq, length}
use Rattle.std.specs.Prelude.{unsigned_abs, All, IfOk}
use Rattle.std.proofs.lemmas.Bool.{and_parts, ltb-true}
use Rattle.std.proofs.lemmas.List.Elements.{All-nil, All-cons}
use Rattle.text_place.specs.declared.fault.FaultKind.{FaultKind}
use Rattle.plane_predicate.specs.Space.{point_at}
use Rattle.int_transform.specs.Maps.{HasSafeCoordinates}
use Rattle.primitives.specs.Sizes.{IsSafe}
use Rattle.scad_value.specs.declared.bounded_value.BoundedValue.{BoundedValue}
use Rattle.scad_value.specs.BoundedView.{bounded_val}
use Rattle.scad_value.specs.Values.{Val, NumberVal, ListVal, RangeVal, Vals, no_vals, and_val, is_small, has_small_numbers, have_small_numbers}
use Rattle.scad_modules.specs.Reading.{bound_argument, number_in_value, with_first, each_in, of_length, sides_in, with_third_from, factors_in, or_default}
use Rattle.scad_modules.specs.ArgumentView.{bound_arguments_in, ReadsArgument}
use Rattle.scad_modules.specs.Bounds.{IsSafeChoice}
use Rattle.scad_modules.specs.Effects.{ChosenCall, all_children, numbered_children}
use Rattle.scad_modules.specs.Transforms.{component, factors_for}
use Rattle.scad_modules.specs.Calls.{chosen_in}

-- what was read has a property
abbrev pub OnRead : {A : Type 0} → (A → Type 0) → Option A → Type 0
OnRead P None = Unit {0}
OnRead P (Some x) = P x

abbrev pub IsSmallVal : Val → Type 0
IsSmallVal v = IsTrue (has_small_numbers v)

abbrev pub AreSafe : List ℤ → Type 0
AreSafe ns = All IsSafe ns

safe_number : (n : ℤ) → IsTrue (is_small n) → IsSafe n
safe_number n h = record { size = omega (arith, ltb-true (unsigned_abs n) (2 ^ 53) h) }

-- a bounded value, and the value that a parameter has
small_val : (v : BoundedValue) → IsSmallVal (bounded_val v)
small_val v = (and_parts _ _ v.bounded).0

slot_small : (bound : List (Option BoundedValue)) (k : ℕ) → OnRead IsSmallVal (bound_argument (bound_arguments_in bound) k)
slot_small [] k = tt
slot_small (None ∷ bound) zero = tt
slot_small (Some v ∷ bound) zero = small_val v
slot_small (given ∷ bound) (suc k) = slot_small bound k

-- numbers and lists of numbers
number_safe : (v : Val) → IsSmallVal v → OnRead IsSafe (number_in_value v)
number_safe (NumberVal n) s = safe_number n s
number_safe v s = tt

first_safe : (x : Option ℤ) (xs : Option (List ℤ)) → OnRead IsSafe x → OnRead AreSafe xs
    → OnRead AreSafe (with_first x xs)
first_safe None xs p q = tt
first_safe (Some x) None p q = tt
first_safe (Some x) (Some xs) p q = All-cons IsSafe x xs p q

each_safe : (vs : Vals) → IsTrue (have_small_numbers vs) → OnRead AreSafe (each_in number_in_value vs)
each_safe no_vals s = All-nil IsSafe
each_safe (and_val v vs) s = let p = and_parts _ _ s in
    first_safe (number_in_value v) (each_in number_in_value vs) (number_safe v p.0) (each_safe vs p.1)

length_safe : (n : ℕ) (xs : Option (List ℤ)) → OnRead AreSafe xs → OnRead AreSafe (of_length n xs)
length_safe n None p = tt
length_safe n (Some xs) p = by_test (nat_eq (length xs) n)
  where
    by_test : (b : Bool) → OnRead AreSafe (cond b (Some xs) None)
    by_test true = p
    by_test false = tt

copies_safe : (n : ℕ) (x : ℤ) → IsSafe x → All IsSafe (replicate n x)
copies_safe zero x p = All-nil IsSafe
copies_safe (suc n) x p = All-cons IsSafe x (replicate n x) p (copies_safe n x p)

sides_safe : (n : ℕ) (v : Val) → IsSmallVal v → OnRead AreSafe (sides_in n v)
sides_safe n (NumberVal side) s = copies_safe n side (safe_number side s)
sides_safe n (ListVal items) s = length_safe n (each_in number_in_value items) (each_safe items s)
sides_safe n v s = tt

part_safe : (by : List ℤ) (k : ℕ) → All IsSafe by → unsigned_abs (component by k) ≤ 9007199254740991
part_safe [] k p = omega arith
part_safe (x ∷ xs) zero p = (p 0 x (omega arith)).size
part_safe (x ∷ xs) (suc k) p = part_safe xs k (λ j d h. p (suc j) d (omega arith))

filled_safe : (third : ℤ) (xs : Option (List ℤ)) → IsSafe third → OnRead AreSafe xs
    → OnRead AreSafe (with_third_from third xs)
filled_safe third None t p = tt
filled_safe third (Some []) t p = tt
filled_safe third (Some (x ∷ [])) t p = tt
filled_safe third (Some (x ∷ y ∷ [])) t p = All-cons IsSafe x (y ∷ third ∷ []) (p 0 x (omega arith))
    (All-cons IsSafe y (third ∷ []) (p 1 y (omega arith)) (All-cons IsSafe third [] t (All-nil IsSafe)))
filled_safe third (Some (x ∷ y ∷ z ∷ [])) t p = p
filled_safe third (Some (x ∷ y ∷ z ∷ w ∷ xs)) t p = tt

one_safe : IsSafe (pos 1)
one_safe = record { size = omega arith }

factors_safe : (v : Val) → IsSmallVal v → OnRead AreSafe (factors_in v)
factors_safe (NumberVal n) s = copies_safe 3 n (safe_number n s)
factors_safe (ListVal items) s = filled_safe (pos 1) (each_in number_in_value items) one_safe (each_safe items s)
factors_safe v s = tt

-- the factors of a scaling
pub scale_safe : (inside : Bool) (v : BoundedValue) (by factors : List ℤ) → factors_in (bounded_val v) ≡ Some by
    → factors ≡ factors_for inside by → HasSafeCoordinates (point_at factors)
scale_safe inside v by factors f g =
    let safe : All IsSafe by = subst (OnRead AreSafe) f (factors_safe (bounded_val v) (small_val v)) in
    subst (λ l. HasSafeCoordinates (point_at l)) (sym g) (by_side inside safe)
  where
    by_side : (inside : Bool) → All IsSafe by → HasSafeCoordinates (point_at (factors_for inside by))
    by_side true p = record { x_size = part_safe by 0 p; y_size = part_safe by 1 p; z_size = omega arith }
    by_side false p = record { x_size = part_safe by 0 p; y_size = part_safe by 1 p; z_size = part_safe by 2 p }

default_safe : {A : Type 0} (P : A → Type 0) (default : A) (read : Val → Option A) (given : Option Val) → P default
    → ((v : Val) → IsSmallVal v → OnRead P (read v)) → OnRead IsSmallVal given → OnRead P (or_default default read given)
default_safe P default read None p h s = p
default_safe P default read (Some v) p h s = h v s

pub number_or_safe : (bound : List (Option BoundedValue)) (k : ℕ) (default : ℤ) → IsSafe default
    → OnRead IsSafe (or_default default number_in_value (bound_argument (bound_arguments_in bound) k))
number_or_safe bound k default p =
    default_safe IsSafe default number_in_value (bound_argument (bound_arguments_in bound) k) p number_safe (slot_small bound k)

pub three_safe : (bound : List (Option BoundedValue))
    → OnRead AreSafe (or_default (pos 1 ∷ pos 1 ∷ pos 1 ∷ []) (sides_in 3) (bound_argument (bound_arguments_in bound) 0))
three_safe bound =
    default_safe AreSafe (pos 1 ∷ pos 1 ∷ pos 1 ∷ []) (sides_in 3) (bound_argument (bound_arguments_in bound) 0) (copies_safe 3 (pos 1) one_safe)
    (sides_safe 3) (slot_small bound 0)

pub two_safe : (bound : List (Option BoundedValue))
    → OnRead AreSafe (or_default (pos 1 ∷ pos 1 ∷ []) (sides_in 2) (bound_argument (bound_arguments_in bound) 0))
two_safe bound =
    default_safe AreSafe (pos 1 ∷ pos 1 ∷ []) (sides_in 2) (bound_argument (bound_arguments_in bound) 0) (copies_safe 2 (pos 1) one_safe)
    (sides_safe 2) (slot_small bound 0)

chosen_safe : (v : Val) → IsSmallVal v → OnRead IsSafeChoice (chosen_in v)
chosen_safe (NumberVal n) s = All-cons IsSafe n [] (safe_number n s) (All-nil IsSafe)
chosen_safe (RangeVal from by upto) s = let p = and_parts _ _ s in let q = and_parts _ _ p.1 in
    (safe_number from p.0, safe_number by q.0, safe_number upto q.1)
chosen_safe (ListVal items) s = some_numbered (each_in number_in_value items) (each_safe items s)
  where
    some_numbered : (ns : Option (List ℤ)) → OnRead AreSafe ns → OnRead IsSafeChoice (option_map numbered_children ns)
    some_numbered None p = tt
    some_numbered (Some ns) p = p
chosen_safe v s = tt

pub choice_safe : (bound : List (Option BoundedValue)) (choice : ChosenCall)
    → or_default all_children chosen_in (bound_argument (bound_arguments_in bound) 0) ≡ Some choice → IsSafeChoice choice
choice_safe bound choice e =
    subst (OnRead IsSafeChoice) e
    (default_safe IsSafeChoice all_children chosen_in (bound_argument (bound_arguments_in bound) 0) tt chosen_safe (slot_small bound 0))

-- what the code has read
pub reads_safe : {A : Type 0} (P : A → Type 0) (r : Result A FaultKind) (read : Option A) → ReadsArgument r read
    → OnRead P read → IfOk r P
reads_safe P (Ok x) read e p = subst (OnRead P) e p
reads_safe P (Err kind) read e p = tt
