-- Names in memory, and the places that an index has of the oldest of them.
use Rattle.std.proofs.Common.{◌≡◌, ℕ, zero, suc, ◌+◌, ◌-◌, ◌<◌, ◌≤◌, List, [], ◌∷◌, ◌++◌, length, map, take, drop, reverse, get_or, Bool, true, false, cond, Option, Some, None, Result, Ok, Err, refl, sym, ap, subst, ◌∙◌, arith, length-append}
use Rattle.std.specs.Prelude.{IsTrue, is_some, OnOk}
use Rattle.std.specs.Str.{bytes_eq}
use Rattle.std.specs.Cmp.Lexicographic.{bytes_decides}
use Rattle.std.proofs.lemmas.Bool.{cases_Bool, cond-true, cond-false}
use Rattle.std.proofs.lemmas.List.{map-append, reverse-append, reverse-reverse, take_more, take-append-drop, length-reverse, length-take-le}
use Rattle.std.proofs.Math.Seq.{drop-append_seam}
use mathlib.Core.Logic.{⊎_elim}
use Rattle.scad_definitions.specs.declared.list.Named.{Named}
use Rattle.scad_definitions.specs.Newest.{Pairs, find_in, oldest_pairs, place_of_newest, hidden_places}
use Rattle.scad_definitions.specs.View.{named_pair, pairs_in}

pub pairs_push : {T : Type 0} (xs : List (Named T)) (x : Named T) → pairs_in (xs ++ x ∷ []) ≡ named_pair x ∷ pairs_in xs
pairs_push xs x = ap reverse (map-append named_pair xs (x ∷ [])) ∙ reverse-append (map named_pair xs) (named_pair x ∷ [])

-- one name more, in the order of the text
pub oldest_pushed : {T A E : Type 0} (xs ys : List (Named T)) (p : List ℕ × T) (r : Result A E)
    → OnOk r (pairs_in ys ≡ p ∷ pairs_in xs) → OnOk r (map named_pair ys ≡ map named_pair xs ++ p ∷ [])
oldest_pushed xs ys p (Ok x) e =
    sym (reverse-reverse (map named_pair ys)) ∙ ap reverse e ∙ reverse-append (p ∷ []) (pairs_in xs)
    ∙ ap (λ l. l ++ p ∷ []) (reverse-reverse (map named_pair xs))
oldest_pushed xs ys p (Err x) e = tt

pub pairs_length : {T : Type 0} (xs : List (Named T)) → length (pairs_in xs) ≡ length xs
pairs_length xs = length-reverse (map named_pair xs) ∙ mapped xs
  where
    mapped : {T : Type 0} (xs : List (Named T)) → length (map named_pair xs) ≡ length xs
    mapped [] = refl
    mapped (x ∷ xs) = ap suc (mapped xs)

pub more : {T : Type 0} (xs : List (Named T)) (k : ℕ) (x : Named T) → k < length xs → x ≡ get_or xs k x
    → pairs_in (take (k + 1) xs) ≡ named_pair x ∷ pairs_in (take k xs)
more xs k x h e = ap pairs_in (take_more xs k x h) ∙ pairs_push (take k xs) (get_or xs k x)
    ∙ ap (λ (y : Named _). named_pair y ∷ pairs_in (take k xs)) (sym e)

-- in memory the oldest stand in front
pub cut : {T : Type 0} (xs : List (Named T)) (n : ℕ) → n ≤ length (pairs_in xs) → pairs_in (take n xs) ≡ oldest_pairs n (pairs_in xs)
cut xs n h =
    let few : n ≤ length xs = omega (arith, h, pairs_length xs) in
    let len : length (pairs_in (take n xs)) ≡ n = pairs_length (take n xs) ∙ length-take-le n xs few in
    let all : length (pairs_in (drop n xs) ++ pairs_in (take n xs)) - n ≡ length (pairs_in (drop n xs)) =
    omega (arith, length-append (pairs_in (drop n xs)) (pairs_in (take n xs)), len) in
    sym (ap (oldest_pairs n) (split xs n) ∙ ap (λ k. drop k (pairs_in (drop n xs) ++ pairs_in (take n xs))) all
    ∙ drop-append_seam (pairs_in (drop n xs)) (pairs_in (take n xs)))
  where
    split : {T : Type 0} (xs : List (Named T)) (n : ℕ) → pairs_in xs ≡ pairs_in (drop n xs) ++ pairs_in (take n xs)
    split xs n = ap pairs_in (sym (take-append-drop n xs)) ∙ ap reverse (map-append named_pair (take n xs) (drop n xs))
        ∙ reverse-append (map named_pair (take n xs)) (map named_pair (drop n xs))

none_some : {A : Type 0} (x : A) → None ≡ Some x → ⊥
none_some x e = cc

-- a name without a place has no pair
pub no_place : {A : Type 0} (ps : Pairs A) (name : List ℕ) → place_of_newest ps name ≡ None → find_in ps name ≡ None
no_place [] name e = refl
no_place (p ∷ ps) name e = by_test (bytes_eq p.0 name) (place_of_newest ps name) (no_place ps name) e
  where
    by_test : (t : Bool) (o : Option ℕ) → (o ≡ None → find_in ps name ≡ None) → cond t (Some (length ps)) o ≡ None
        → cond t (Some p.1) (find_in ps name) ≡ None
    by_test true o go e = absurd (none_some (length ps) (sym e))
    by_test false o go e = go e

-- a place is one of those of the pairs
pub place_within : {A : Type 0} (ps : Pairs A) (name : List ℕ) (place : ℕ) → place_of_newest ps name ≡ Some place → place < length ps
place_within [] name place e = absurd (none_some place e)
place_within (p ∷ ps) name place e = by_test (bytes_eq p.0 name) (place_of_newest ps name) (place_within ps name place) e
  where
    by_test : (t : Bool) (o : Option ℕ) → (o ≡ Some place → place < length ps) → cond t (Some (length ps)) o ≡ Some place
        → place < suc (length ps)
    by_test true o go e = let here : length ps ≡ place = cc in omega (arith, here)
    by_test false o go e = omega (arith, go e)

-- the pair at the place of a name
pub at_place : {T : Type 0} (xs : List (Named T)) (k : ℕ) (name : List ℕ) (place : ℕ) (d : Named T) → k ≤ length xs
    → place_of_newest (pairs_in (take k xs)) name ≡ Some place
    → find_in (pairs_in (take k xs)) name ≡ Some (get_or xs place d).item
at_place xs zero name place d h e = absurd (none_some place e)
at_place {T} xs (suc k) name place d h e =
    let next : suc k ≡ k + 1 = omega arith in
    let one : pairs_in (take (suc k) xs) ≡ named_pair (get_or xs k d) ∷ pairs_in (take k xs) =
    ap (λ n. pairs_in (take n xs)) next ∙ ap pairs_in (take_more xs k d (omega (arith, h))) ∙ pairs_push (take k xs) (get_or xs k d) in
    let len : length (pairs_in (take k xs)) ≡ k = pairs_length (take k xs) ∙ length-take-le k xs (omega (arith, h)) in
    ap (λ (ps : Pairs T). find_in ps name) one
    ∙ by_test (bytes_eq (get_or xs k d).name name) (place_of_newest (pairs_in (take k xs)) name)
    (at_place xs k name place d (omega (arith, h))) len (sym (ap (λ (ps : Pairs T). place_of_newest ps name) one) ∙ e)
  where
    by_test : (t : Bool) (o : Option ℕ) → (o ≡ Some place → find_in (pairs_in (take k xs)) name ≡ Some (get_or xs place d).item)
        → length (pairs_in (take k xs)) ≡ k → cond t (Some (length (pairs_in (take k xs)))) o ≡ Some place
        → cond t (Some (get_or xs k d).item) (find_in (pairs_in (take k xs)) name) ≡ Some (get_or xs place d).item
    by_test true o go len e =
        let here : length (pairs_in (take k xs)) ≡ place = cc in
        ap (λ n. Some (get_or xs n d).item) (sym len ∙ here)
    by_test false o go len e = go e

-- an index that covers one name less
module _ {T : Type 0} (xs : List (Named T)) (k : ℕ) (x : Named T) (h : k < length xs) (e : x ≡ get_or xs k x) where
  -- the last of them has a place
  pub has_place : IsTrue (is_some (place_of_newest (pairs_in (take (k + 1) xs)) x.name))
  has_place = subst (λ (ps : Pairs T). IsTrue (is_some (place_of_newest ps x.name))) (sym (more xs k x h e))
      (subst (λ t. IsTrue (is_some (cond t (Some (length (pairs_in (take k xs)))) (place_of_newest (pairs_in (take k xs)) x.name))))
      (sym ((bytes_decides x.name x.name).1 refl)) refl)

  pub uncovered : (before : Option ℕ) (hidden : List (Option ℕ)) → before ∷ hidden ≡ hidden_places (pairs_in (take (k + 1) xs))
      → (before ≡ place_of_newest (pairs_in (take k xs)) x.name) × (hidden ≡ hidden_places (pairs_in (take k xs)))
  uncovered before hidden all =
      let told : before ∷ hidden ≡ place_of_newest (pairs_in (take k xs)) x.name ∷ hidden_places (pairs_in (take k xs)) =
      all ∙ ap hidden_places (more xs k x h e) in
      (cc, cc)

  pub placed_back : (before : Option ℕ) (other : List ℕ) → before ≡ place_of_newest (pairs_in (take k xs)) x.name
      → cond (bytes_eq x.name other) before (place_of_newest (pairs_in (take (k + 1) xs)) other) ≡ place_of_newest (pairs_in (take k xs)) other
  placed_back before other told = ap (λ (ps : Pairs T). cond (bytes_eq x.name other) before (place_of_newest ps other)) (more xs k x h e)
      ∙ ⊎_elim
      (λ y. cond-true (bytes_eq x.name other) before _ y ∙ told ∙ ap (place_of_newest (pairs_in (take k xs))) ((bytes_decides x.name other).0 y))
      (λ n. cond-false (bytes_eq x.name other) before _ n ∙ cond-false (bytes_eq x.name other) (Some (length (pairs_in (take k xs)))) _ n)
      (cases_Bool (bytes_eq x.name other))
