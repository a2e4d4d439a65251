-- Arguments that filled the same parameters and gave the same special names: the same takes the next argument of both.
use Rattle.std.proofs.Common.{◌≡◌, ℕ, zero, suc, List, [], ◌∷◌, map, get_or, Bool, true, false, cond, Option, Some, None, is_some, refl, sym, ap, ◌∙◌}
use Rattle.std.specs.Str.{bytes_eq}
use Rattle.scad_ast.specs.Terms.{ArgTerm, NamedTerm, SpecialArgTerm, PositionalTerm}
use Rattle.scad_scope.specs.Names.{Pairs, find_in}
use Rattle.scad_definitions.specs.Arguments.{ArgumentsOf, to_parameter, to_special, unless_bound, parameter_taken_by, destination_of}
use Rattle.scad_ast.specs.Names.{is_among}
use Rattle.scad_definitions.specs.Lookup.{names_of_pairs}

abbrev pub Alike : {A B : Type 0} → ArgumentsOf A → ArgumentsOf B → Type 0
Alike g h = (map is_some g.bound ≡ map is_some h.bound) × (names_of_pairs g.dynamic ≡ names_of_pairs h.dynamic)

filled_at : {A : Type 0} (xs : List (Option A)) (k : ℕ) → is_some (get_or xs k None) ≡ get_or (map is_some xs) k false
filled_at [] k = refl
filled_at (x ∷ xs) zero = refl
filled_at (x ∷ xs) (suc k) = filled_at xs k

found_among : {A : Type 0} (ps : Pairs A) (name : List ℕ) → is_some (find_in ps name) ≡ is_among (names_of_pairs ps) name
found_among [] name = refl
found_among (p ∷ ps) name = by_name (bytes_eq p.0 name) (found_among ps name)
  where
    by_name : (b : Bool) → is_some (find_in ps name) ≡ is_among (names_of_pairs ps) name
        → is_some (cond b (Some p.1) (find_in ps name)) ≡ cond b true (is_among (names_of_pairs ps) name)
    by_name true rest = refl
    by_name false rest = rest

pub found_alike : {A B : Type 0} (ps : Pairs A) (qs : Pairs B) → names_of_pairs ps ≡ names_of_pairs qs → (name : List ℕ)
    → is_some (find_in ps name) ≡ is_some (find_in qs name)
found_alike ps qs same name = found_among ps name ∙ ap (λ ns. is_among ns name) same ∙ sym (found_among qs name)

module _ {A B : Type 0} (g : ArgumentsOf A) (h : ArgumentsOf B) (alike : Alike g h) where
  filled_alike : (o : Option ℕ) → unless_bound g.bound o ≡ unless_bound h.bound o
  filled_alike None = refl
  filled_alike (Some k) = ap (λ b. cond b None (Some (to_parameter k)))
      (filled_at g.bound k ∙ ap (λ bs. get_or bs k false) alike.0 ∙ sym (filled_at h.bound k))

  pub taker_alike : (names : List (List ℕ)) (positional : ℕ) (a : ArgTerm) → destination_of names positional g a ≡ destination_of names positional h a
  taker_alike names positional (SpecialArgTerm at name value) = ap (λ b. cond b None (Some (to_special name)))
      (found_alike g.dynamic h.dynamic alike.1 name)
  taker_alike names positional (NamedTerm at name value) = filled_alike (parameter_taken_by names positional (NamedTerm at name value))
  taker_alike names positional (PositionalTerm value) = filled_alike (parameter_taken_by names positional (PositionalTerm value))
