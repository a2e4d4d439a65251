-- What is said of the arguments in memory, said of their values.
use Rattle.std.proofs.Common.{◌≡◌, ℕ, zero, suc, List, [], ◌∷◌, ◌++◌, map, set, reverse, replicate, true, false, Option, Some, None, is_some, Result, Ok, Err, refl, sym, ap, ◌∙◌}
use Rattle.std.proofs.lemmas.List.{map-append, reverse-append}
use Rattle.text_place.specs.declared.fault.Stop.{Stop}
use Rattle.text_place.specs.declared.fault.Stop.TheVariants.{NoMemory}
use Rattle.scad_ast.specs.Terms.{ArgTerm}
use Rattle.scad_value.specs.declared.bounded_value.BoundedValue.{BoundedValue}
use Rattle.scad_value.specs.Values.{Val}
use Rattle.scad_value.specs.BoundedView.{bounded_val}
use Rattle.scad_scope.specs.Names.{Pairs, find_in}
use Rattle.scad_definitions.specs.Arguments.{ArgumentsOf, DestinationTerm, to_parameter, to_special, no_arguments_of, destination_of, with_argument}
use Rattle.scad_definitions.specs.ArgumentsView.{special_pair, special_pairs, call_arguments_of, destination_term, IsOneMoreGiven}
use Rattle.scad_definitions.specs.Lookup.{names_of_pairs}
use Rattle.scad_definitions.specs.declared.parameters.SpecialArgument.{SpecialArgument}
use Rattle.scad_definitions.specs.declared.parameters.CallArguments.{CallArguments}
use Rattle.scad_definitions.specs.declared.parameters.Destination.{Destination}
use Rattle.scad_func.specs.Meaning.{Arguments}
use Rattle.scad_func.proofs.FilledAlike.{Alike, found_alike, taker_alike}
use Rattle.scad_func.specs.View.{special_binding_of, bindings_in, bound_argument_of, bound_arguments_in, arguments_of}

abbrev value_pair : List ℕ × BoundedValue → List ℕ × Val
value_pair p = (p.0, bounded_val p.1)

abbrev values_given : ArgumentsOf BoundedValue → Arguments
values_given given = record { bound = bound_arguments_in given.bound; dynamic = map value_pair given.dynamic }

specials_seen : (xs : List (SpecialArgument BoundedValue)) → bindings_in xs ≡ map value_pair (special_pairs xs)
specials_seen [] = refl
specials_seen (x ∷ xs) =
    reverse-append (special_binding_of x ∷ []) (map special_binding_of xs)
    ∙ ap (λ l. l ++ special_binding_of x ∷ []) (specials_seen xs)
    ∙ sym (map-append value_pair (reverse (map special_pair xs)) (special_pair x ∷ []))
    ∙ ap (map value_pair) (sym (reverse-append (special_pair x ∷ []) (map special_pair xs)))

seen_as : (g : CallArguments BoundedValue) → arguments_of g ≡ values_given (call_arguments_of g)
seen_as g = ap (λ (dynamic : Pairs Val). record { bound = bound_arguments_in g.bound.items; dynamic = dynamic }) (specials_seen g.dynamic.items)

filled_seen : (xs : List (Option BoundedValue)) → map is_some (bound_arguments_in xs) ≡ map is_some xs
filled_seen [] = refl
filled_seen (None ∷ xs) = ap (λ l. false ∷ l) (filled_seen xs)
filled_seen (Some v ∷ xs) = ap (λ l. true ∷ l) (filled_seen xs)

names_seen : (ps : Pairs BoundedValue) → names_of_pairs (map value_pair ps) ≡ names_of_pairs ps
names_seen [] = refl
names_seen (p ∷ ps) = ap (λ l. p.0 ∷ l) (names_seen ps)

seen_alike : (g : CallArguments BoundedValue) → Alike (arguments_of g) (call_arguments_of g)
seen_alike g = (filled_seen g.bound.items, ap names_of_pairs (specials_seen g.dynamic.items) ∙ names_seen (special_pairs g.dynamic.items))

-- the taker of an argument
pub taker_given : (names : List (List ℕ)) (positional : ℕ) (g : CallArguments BoundedValue) (a : ArgTerm)
    → destination_of names positional (arguments_of g) a ≡ destination_of names positional (call_arguments_of g) a
taker_given names positional g a = taker_alike (arguments_of g) (call_arguments_of g) (seen_alike g) names positional a

-- whether a special name was given
pub special_given : (xs : List (SpecialArgument BoundedValue)) (name : List ℕ) → is_some (find_in (bindings_in xs) name) ≡ is_some (find_in (special_pairs xs) name)
special_given xs name = found_alike (bindings_in xs) (special_pairs xs)
    (ap names_of_pairs (specials_seen xs) ∙ names_seen (special_pairs xs)) name

none_seen : (n : ℕ) → bound_arguments_in (replicate n None) ≡ replicate n None
none_seen zero = refl
none_seen (suc n) = ap (λ l. None ∷ l) (none_seen n)

-- before the first argument
pub nothing_seen : (g : CallArguments BoundedValue) (n : ℕ) → call_arguments_of g ≡ no_arguments_of n → arguments_of g ≡ no_arguments_of n
nothing_seen g n e = seen_as g ∙ ap values_given e ∙ ap (λ bound. record { bound = bound; dynamic = [] }) (none_seen n)

set_seen : (xs : List (Option BoundedValue)) (k : ℕ) (v : BoundedValue) → bound_arguments_in (set xs k (Some v)) ≡ set (bound_arguments_in xs) k (Some (bounded_val v))
set_seen [] k v = refl
set_seen (x ∷ xs) zero v = refl
set_seen (x ∷ xs) (suc k) v = ap (λ l. bound_argument_of x ∷ l) (set_seen xs k v)

more_seen : (g : ArgumentsOf BoundedValue) (target : DestinationTerm) (v : BoundedValue) → values_given (with_argument g target v) ≡ with_argument (values_given g) target (bounded_val v)
more_seen g (to_parameter k) v = ap (λ bound. record { bound = bound; dynamic = map value_pair g.dynamic }) (set_seen g.bound k v)
more_seen g (to_special name) v = refl

-- one argument more, unless memory ran out or there is none
abbrev pub IsHeld : Arguments → DestinationTerm → Result BoundedValue Stop → Result (CallArguments BoundedValue) Stop → Type 0
IsHeld given target (Ok v) (Ok after) = arguments_of after ≡ with_argument given target (bounded_val v)
IsHeld given target (Ok v) (Err stop) = stop ≡ NoMemory
IsHeld given target (Err fault) (Ok after) = ⊥
IsHeld given target (Err fault) (Err stop) = stop ≡ fault

pub held_seen : (g : CallArguments BoundedValue) (d : Destination) (r : Result BoundedValue Stop) (after : Result (CallArguments BoundedValue) Stop)
    → IsOneMoreGiven g d r after → IsHeld (arguments_of g) (destination_term d) r after
held_seen g d (Ok v) (Ok after) h =
    seen_as after ∙ ap values_given h ∙ more_seen (call_arguments_of g) (destination_term d) v
    ∙ ap (λ (x : Arguments). with_argument x (destination_term d) (bounded_val v)) (sym (seen_as g))
held_seen g d (Ok v) (Err stop) h = h
held_seen g d (Err fault) (Ok after) h = absurd h
held_seen g d (Err fault) (Err stop) h = h
