-- Laws of the index of names.
use Rattle.std.proofs.Common.{◌≡◌, ℕ, zero, suc, ◌+◌, ◌<◌, List, [], ◌∷◌, length, map, drop, get_or, Bool, true, false, cond, Option, Some, None, is_some, refl, sym, ap, ◌∙◌, arith, add-one, drop-cons}
use Rattle.std.specs.Prelude.{IfSome}
use Rattle.std.specs.Str.{bytes_eq}
use Rattle.std.specs.Borrow.{Bor}
use Rattle.std.specs.Option.{option_copied}
use Rattle.scad_definitions.specs.Newest.{Pairs, find_in}
use Rattle.scad_ast.specs.declared.statement.Param.{Param}
use Rattle.scad_ast.specs.Names.{is_among}
use Rattle.scad_ast.specs.StatementView.{param_of}
use Rattle.scad_definitions.specs.Arguments.{first_named, number_after, parameter_name, parameter_names, ArgumentsOf, with_argument}
use Rattle.scad_definitions.specs.Newest.{one_further}
use Rattle.scad_definitions.specs.ArgumentsView.{destination_term}
use Rattle.scad_definitions.specs.declared.parameters.Destination.{Destination}
use Rattle.scad_definitions.specs.declared.parameters.Destination.TheVariants.{Parameter, Special}
use Rattle.std.proofs.lemmas.List.{length-set}
use Rattle.scad_definitions.specs.Lookup.{numbered_from, names_of_pairs, names_after}

-- a name is found where it is one of the names
pub told_found : {A : Type 0} (ps : Pairs A) (name : List ℕ) → is_some (find_in ps name) ≡ is_among (names_of_pairs ps) name
told_found [] name = refl
told_found (p ∷ ps) name = by_name (bytes_eq p.0 name) (told_found ps name)
  where
    by_name : (b : Bool) → is_some (find_in ps name) ≡ is_among (names_of_pairs ps) name
        → is_some (cond b (Some p.1) (find_in ps name)) ≡ cond b true (is_among (names_of_pairs ps) name)
    by_name true rest = refl
    by_name false rest = rest

later_next : (i : ℕ) (o : Option ℕ) → number_after (i + 1) o ≡ number_after i (one_further o)
later_next i None = refl
later_next i (Some k) = let e : i + 1 + k ≡ i + suc k = omega arith in ap (λ n. Some n) e

first_here : (i : ℕ) → i ≡ i + 0
first_here i = omega arith

-- the newest number of a name is that of the first
number_found : (names : List (List ℕ)) (i : ℕ) (name : List ℕ)
    → find_in (numbered_from i names) name ≡ number_after i (first_named names name)
number_found [] i name = refl
number_found (n ∷ ns) i name = by_name (bytes_eq n name)
    (number_found ns (i + 1) name ∙ later_next i (first_named ns name))
  where
    by_name : (b : Bool) → find_in (numbered_from (i + 1) ns) name ≡ number_after i (one_further (first_named ns name))
        → cond b (Some i) (find_in (numbered_from (i + 1) ns) name)
        ≡ number_after i (cond b (Some zero) (one_further (first_named ns name)))
    by_name true rest = ap (λ n. Some n) (first_here i)
    by_name false rest = rest

later_zero : (o : Option ℕ) → number_after 0 o ≡ o
later_zero None = refl
later_zero (Some k) = let e : 0 + k ≡ k = omega arith in ap (λ n. Some n) e

pub first_found : (names : List (List ℕ)) (name : List ℕ) → find_in (numbered_from 0 names) name ≡ first_named names name
first_found names name = number_found names 0 name ∙ later_zero (first_named names name)

within_next : (m : ℕ) (o : Option ℕ) → IfSome o (λ k. k < m) → IfSome (one_further o) (λ k. k < suc m)
within_next m None h = tt
within_next m (Some k) h = omega arith

none_before : (m : ℕ) → 0 < suc m
none_before m = omega arith

-- the first of a name is one of the names
pub first_within : (names : List (List ℕ)) (name : List ℕ) → IfSome (first_named names name) (λ k. k < length names)
first_within [] name = tt
first_within (n ∷ ns) name = by_name (bytes_eq n name)
    (within_next (length ns) (first_named ns name) (first_within ns name))
  where
    by_name : (b : Bool) → IfSome (one_further (first_named ns name)) (λ k. k < suc (length ns))
        → IfSome (cond b (Some zero) (one_further (first_named ns name))) (λ k. k < suc (length ns))
    by_name true rest = none_before (length ns)
    by_name false rest = rest

-- one name more in front
pub number_more : (names : List (List ℕ)) (i : ℕ) (name : List ℕ) → i < length names → name ≡ get_or names i []
    → (name, i) ∷ numbered_from (i + 1) (drop (i + 1) names) ≡ numbered_from i (drop i names)
number_more names i name h e =
    let rest : drop i names ≡ name ∷ drop (i + 1) names = rw (add-one, drop-cons names i [] h, ← e) refl in
    sym (ap (numbered_from i) rest)

-- behind the last name there is none
pub numbered_none : (names : List (List ℕ)) (n : ℕ) → n ≡ length names → numbered_from n (drop n names) ≡ []
numbered_none names n e = ap (λ k. numbered_from n (drop k names)) e ∙ ap (numbered_from n) (past names)
  where
    past : (xs : List (List ℕ)) → drop (length xs) xs ≡ []
    past [] = refl
    past (x ∷ xs) = past xs

-- the name of a parameter
pub name_of_param : (ps : List Param) (k : ℕ) (p : Param) → k < length ps → p ≡ get_or ps k p
    → parameter_name (param_of p) ≡ get_or (parameter_names (map param_of ps)) k []
name_of_param [] k p h e = absurd (omega arith)
name_of_param (q ∷ ps) zero p h e = ap (λ (x : Param). parameter_name (param_of x)) e
name_of_param (q ∷ ps) (suc k) p h e = name_of_param ps k p (omega arith) e

-- what is lent is there where it is
pub lent_found : {A : Type 0} (o : Option (Bor A)) → is_some o ≡ is_some (option_copied o)
lent_found None = refl
lent_found (Some x) = refl

-- an argument that something takes adds its special name alone, and fills a slot that is there
pub names_taken : {T : Type 0} (given : ArgumentsOf T) (d : Destination) (x : T)
    → names_of_pairs (with_argument given (destination_term d) x).dynamic ≡ names_after (names_of_pairs given.dynamic) d
names_taken given (Parameter number) x = refl
names_taken given (Special name) x = refl

pub slots_kept : {T : Type 0} (given : ArgumentsOf T) (d : Destination) (x : T)
    → length (with_argument given (destination_term d) x).bound ≡ length given.bound
slots_kept given (Parameter number) x = length-set given.bound number (Some x)
slots_kept given (Special name) x = refl
