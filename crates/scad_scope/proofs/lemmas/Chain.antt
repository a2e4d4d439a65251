-- Variables in memory and what they stand for, with the dynamic bindings of special ones cut to its oldest part.
use Rattle.std.proofs.Common.{◌≡◌, ℕ, zero, suc, ◌-◌, List, [], ◌∷◌, ◌++◌, Bool, true, false, cond, Option, Some, None, length, map, drop, refl, sym, ap, ◌∙◌, arith, length-append}
use Rattle.std.specs.Str.{bytes_eq}
use Rattle.std.specs.Borrow.{Bor}
use Rattle.std.specs.Option.{option_map, option_copied}
use Rattle.std.proofs.Math.Seq.{drop-append_seam}
use Rattle.scad_value.specs.Values.{Val}
use Rattle.scad_value.specs.View.{val_of}
use Rattle.scad_value.specs.declared.bounded_value.BoundedValue.{BoundedValue}
use Rattle.scad_scope.specs.Names.{Pairs, find_in, oldest_pairs}
use Rattle.scad_scope.specs.View.{variable_seen, IsValueFound}

-- the oldest part of dynamic bindings is as long as it is said to be
pub oldest_part : {A : Type 0} (n : ℕ) (newer older : List A) → length older ≡ n → oldest_pairs n (newer ++ older) ≡ older
oldest_part n newer older h =
    let len : length (newer ++ older) - n ≡ length newer = omega (arith, length-append newer older, h) in
    ap (λ k. drop k (newer ++ older)) len ∙ drop-append_seam newer older

mapped_length : {A B : Type 0} (f : A → B) (xs : List A) → length (map f xs) ≡ length xs
mapped_length f [] = refl
mapped_length f (x ∷ xs) = ap suc (mapped_length f xs)

mapped_rest : {A B : Type 0} (f : A → B) (n : ℕ) (xs : List A) → map f (drop n xs) ≡ drop n (map f xs)
mapped_rest f zero xs = refl
mapped_rest f (suc n) [] = refl
mapped_rest f (suc n) (x ∷ xs) = mapped_rest f n xs

-- what is left of the pairs is left of the variables
pub oldest_seen : (n : ℕ) (ps : Pairs BoundedValue) → map variable_seen (oldest_pairs n ps) ≡ oldest_pairs n (map variable_seen ps)
oldest_seen n ps = mapped_rest variable_seen (length ps - n) ps
    ∙ ap (λ k. drop (k - n) (map variable_seen ps)) (sym (mapped_length variable_seen ps))

-- what a bounded value is
abbrev held : BoundedValue → Val
held b = val_of b.value

-- what is found among the pairs is found among the variables
pub seen_found : (ps : Pairs BoundedValue) (name : List ℕ) → find_in (map variable_seen ps) name ≡ option_map held (find_in ps name)
seen_found [] name = refl
seen_found (p ∷ ps) name = by_test (bytes_eq p.0 name) (seen_found ps name)
  where
    by_test : (t : Bool) → find_in (map variable_seen ps) name ≡ option_map held (find_in ps name)
        → cond t (Some (held p.1)) (find_in (map variable_seen ps) name) ≡ option_map held (cond t (Some p.1) (find_in ps name))
    by_test true e = refl
    by_test false e = e

pub value_found : (ps : Pairs BoundedValue) (name : List ℕ) (found : Option (Bor BoundedValue)) → option_copied found ≡ find_in ps name
    → IsValueFound (find_in (map variable_seen ps) name) found
value_found ps name None e = seen_found ps name ∙ ap (option_map held) (sym e)
value_found ps name (Some value) e = seen_found ps name ∙ ap (option_map held) (sym e)
