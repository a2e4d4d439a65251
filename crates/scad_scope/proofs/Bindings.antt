-- Variables whose names stand in a table.
use Rattle.std.proofs.Common.{◌≡◌, ℕ, zero, suc, ◌+◌, ◌<◌, ◌≤◌, List, [], ◌∷◌, ◌++◌, length, map, take, reverse, get_or, Bool, true, false, cond, Option, Some, None, Result, Ok, Err, refl, sym, ap, subst, ◌∙◌, arith, length-append}
use Rattle.std.specs.Prelude.{OnOk, OnErr, IfSome, option_map}
use Rattle.std.specs.Str.{bytes_eq}
use Rattle.std.proofs.lemmas.List.{reverse-append, take_more, length-reverse, length-take-le}
use Rattle.std.proofs.Math.Seq.{take-length}
use Rattle.scad_value.specs.declared.bounded_value.BoundedValue.{BoundedValue}
use Rattle.scad_value.specs.Values.{Val}
use Rattle.scad_value.specs.View.{val_of}
use Rattle.scad_definitions.specs.Expected.{newest_place}
use Rattle.scad_scope.specs.Names.{Pairs, find_in, or_found_outside}
use Rattle.scad_scope.specs.Known.{with_names, IsNameAt, IsNextName}
use Rattle.scad_scope.specs.View.{variable_seen}

-- a list without items
pub none_left : {A : Type 0} (xs : List A) → length xs ≡ 0 → xs ≡ []
none_left [] e = refl
none_left (x ∷ xs) e = absurd (omega (arith, e))

named_more : (vs : List BoundedValue) (v : BoundedValue) (names : List (List ℕ)) (name : List ℕ) → IsNameAt names (length vs) name
    → with_names (vs ++ v ∷ []) names ≡ with_names vs names ++ (name, val_of v.value) ∷ []
named_more [] v [] name h = absurd (omega (arith, h.there))
named_more [] v (n ∷ ns) name h = ap (λ m. (m, val_of v.value) ∷ []) (sym h.same)
named_more (u ∷ us) v [] name h = absurd (omega (arith, h.there))
named_more (u ∷ us) v (n ∷ ns) name h = ap (λ l. (n, val_of u.value) ∷ l)
    (named_more us v ns name (record { there = omega (arith, h.there); same = h.same }))

-- the next name of a table gets a value
pub next_bound : (later earlier : Pairs Val) (vs ws : List BoundedValue) (v : BoundedValue) (names : List (List ℕ)) (name : List ℕ)
    → IsNextName later names (length vs) name → ws ≡ vs ++ v ∷ []
    → later ++ (reverse (with_names ws names) ++ earlier)
    ≡ (name, val_of v.value) ∷ (later ++ (reverse (with_names vs names) ++ earlier))
next_bound later earlier vs ws v names name h e =
    ap (λ (l : Pairs Val). l ++ (reverse (with_names ws names) ++ earlier)) h.newest
    ∙ ap (λ l. reverse (with_names l names) ++ earlier) e
    ∙ ap (λ (l : Pairs Val). reverse l ++ earlier) (named_more vs v names name h.at)
    ∙ ap (λ (l : Pairs Val). l ++ earlier) (reverse-append (with_names vs names) ((name, val_of v.value) ∷ []))
    ∙ ap (λ (l : Pairs Val). (name, val_of v.value) ∷ (l ++ (reverse (with_names vs names) ++ earlier))) (sym h.newest)

pub fits_more : (vs ws : List BoundedValue) (v : BoundedValue) (names : List (List ℕ)) (name : List ℕ)
    → IsNameAt names (length vs) name → ws ≡ vs ++ v ∷ [] → length ws ≤ length names
fits_more vs ws v names name h e = omega (arith, ap length e, length-append vs (v ∷ []), h.there)

-- another name gets a value, before the table's names or behind them
module _ {A E : Type 0} (ps qs : Pairs BoundedValue) (name : List ℕ) (v : BoundedValue) where
  pub earlier_bound : (later : Pairs Val) (vs : List BoundedValue) (names : List (List ℕ)) → later ≡ [] → vs ≡ []
      → (r : Result A E) → OnOk r (qs ≡ (name, v) ∷ ps)
      → OnOk r (later ++ (reverse (with_names vs names) ++ map variable_seen qs)
      ≡ (name, val_of v.value) ∷ (later ++ (reverse (with_names vs names) ++ map variable_seen ps)))
  earlier_bound later vs names l n (Ok x) e =
      ap (λ (l : Pairs Val). l ++ (reverse (with_names vs names) ++ map variable_seen qs)) l
      ∙ ap (λ us. reverse (with_names us names) ++ map variable_seen qs) n
      ∙ ap (map variable_seen) e
      ∙ sym (ap (λ (l : Pairs Val). (name, val_of v.value) ∷ (l ++ (reverse (with_names vs names) ++ map variable_seen ps))) l
      ∙ ap (λ us. (name, val_of v.value) ∷ (reverse (with_names us names) ++ map variable_seen ps)) n)
  earlier_bound later vs names l n (Err x) e = tt

  pub later_bound : (rest : Pairs Val) (r : Result A E) → OnOk r (qs ≡ (name, v) ∷ ps)
      → OnOk r (map variable_seen qs ++ rest ≡ (name, val_of v.value) ∷ (map variable_seen ps ++ rest))
  later_bound rest (Ok x) e = ap (λ us. map variable_seen us ++ rest) e
  later_bound rest (Err x) e = tt

  pub earlier_refused : (rest more : Pairs Val) (r : Result A E) → OnErr r (qs ≡ ps)
      → OnErr r (rest ++ (more ++ map variable_seen qs) ≡ rest ++ (more ++ map variable_seen ps))
  earlier_refused rest more (Ok x) e = tt
  earlier_refused rest more (Err x) e = ap (λ us. rest ++ (more ++ map variable_seen us)) e

  pub later_refused : (rest : Pairs Val) (r : Result A E) → OnErr r (qs ≡ ps)
      → OnErr r (map variable_seen qs ++ rest ≡ map variable_seen ps ++ rest)
  later_refused rest (Ok x) e = tt
  later_refused rest (Err x) e = ap (λ us. map variable_seen us ++ rest) e

-- what is found among pairs that stand one behind the other
joined_found : (ps qs : Pairs Val) (name : List ℕ) → find_in (ps ++ qs) name ≡ or_found_outside (find_in ps name) (find_in qs name)
joined_found [] qs name = refl
joined_found (p ∷ ps) qs name = by_test (bytes_eq p.0 name) (joined_found ps qs name)
  where
    by_test : (t : Bool) → find_in (ps ++ qs) name ≡ or_found_outside (find_in ps name) (find_in qs name)
        → cond t (Some p.1) (find_in (ps ++ qs) name) ≡ or_found_outside (cond t (Some p.1) (find_in ps name)) (find_in qs name)
    by_test true e = refl
    by_test false e = e

pub found_first : (ps qs : Pairs Val) (name : List ℕ) (v : Val) → find_in ps name ≡ Some v → find_in (ps ++ qs) name ≡ Some v
found_first ps qs name v e = joined_found ps qs name ∙ ap (λ o. or_found_outside o (find_in qs name)) e

pub found_behind : (ps qs : Pairs Val) (name : List ℕ) → find_in ps name ≡ None → find_in (ps ++ qs) name ≡ find_in qs name
found_behind ps qs name e = joined_found ps qs name ∙ ap (λ o. or_found_outside o (find_in qs name)) e

-- a name of the table has the value at its place
module _ (vs : List BoundedValue) (names : List (List ℕ)) (fit : length vs ≤ length names) (name : List ℕ) (d : BoundedValue) where
  value_at : ℕ → Val
  value_at k = val_of (get_or vs k d).value

  by_test : (k : ℕ) (t : Bool) (o : Option Val) (p : Option ℕ) (n : ℕ) → n ≡ k → o ≡ option_map value_at p
      → cond t (Some (val_of (get_or vs k d).value)) o ≡ option_map value_at (cond t (Some n) p)
  unfolding value_at
  by_test k true o p n e rest = ap (λ i. Some (val_of (get_or vs i d).value)) (sym e)
  by_test k false o p n e rest = rest

  first_found : (k : ℕ) → k ≤ length vs
      → find_in (reverse (with_names (take k vs) names)) name ≡ option_map value_at (newest_place (reverse (take k names)) name)
  first_found zero h = refl
  first_found (suc k) h =
      let next : suc k ≡ k + 1 = omega arith in
      let n = get_or names k [] in
      let v = get_or vs k d in
      let at : IsNameAt names (length (take k vs)) n = record {
        there = omega (arith, length-take-le k vs (omega (arith, h)), fit, h);
        same = ap (λ i. get_or names i []) (sym (length-take-le k vs (omega (arith, h))));
      } in
      let values : reverse (with_names (take (suc k) vs) names) ≡ (n, val_of v.value) ∷ reverse (with_names (take k vs) names) =
      ap (λ i. reverse (with_names (take i vs) names)) next
      ∙ ap (λ us. reverse (with_names us names)) (take_more vs k d (omega (arith, h)))
      ∙ ap reverse (named_more (take k vs) v names n at)
      ∙ reverse-append (with_names (take k vs) names) ((n, val_of v.value) ∷ []) in
      let known : reverse (take (suc k) names) ≡ n ∷ reverse (take k names) =
      ap (λ i. reverse (take i names)) next
      ∙ ap reverse (take_more names k [] (omega (arith, h, fit)))
      ∙ reverse-append (take k names) (n ∷ []) in
      let len : length (reverse (take k names)) ≡ k =
      length-reverse (take k names) ∙ length-take-le k names (omega (arith, h, fit)) in
      ap (λ (ps : Pairs Val). find_in ps name) values
      ∙ by_test k (bytes_eq n name) (find_in (reverse (with_names (take k vs) names)) name)
      (newest_place (reverse (take k names)) name) (length (reverse (take k names))) len (first_found k (omega (arith, h)))
      ∙ ap (λ (l : List (List ℕ)). option_map value_at (newest_place l name)) (sym known)

  pub known_found : find_in (reverse (with_names vs names)) name
      ≡ option_map (λ k. val_of (get_or vs k d).value) (newest_place (reverse (take (length vs) names)) name)
  unfolding value_at
  known_found = ap (λ us. find_in (reverse (with_names us names)) name) (sym (take-length vs))
      ∙ first_found (length vs) (omega arith)

-- no name has a place in no names
pub no_names : (n : ℕ) (name : List ℕ) → None ≡ newest_place (reverse (take n [])) name
no_names zero name = refl
no_names (suc n) name = refl

place_there : (names : List (List ℕ)) (name : List ℕ) → IfSome (newest_place names name) (λ k. k < length names)
place_there [] name = tt
place_there (n ∷ ns) name = by_name (bytes_eq n name) (newest_place ns name) (place_there ns name)
  where
    by_name : (t : Bool) (o : Option ℕ) → IfSome o (λ k. k < length ns)
        → IfSome (cond t (Some (length ns)) o) (λ k. k < suc (length ns))
    by_name true o h = omega arith
    by_name false None h = tt
    by_name false (Some k) h = omega (arith, h)

-- a name's place is below a given one
pub place_early : (names : List (List ℕ)) (name : List ℕ) (n : ℕ) (place : Option ℕ) → n ≤ length names
    → place ≡ newest_place (reverse (take n names)) name → IfSome place (λ k. k < n)
place_early names name n place h e = subst (λ o. IfSome o (λ k. k < n)) (sym e)
    (subst (λ m. IfSome (newest_place (reverse (take n names)) name) (λ k. k < m))
    (length-reverse (take n names) ∙ length-take-le n names h)
    (place_there (reverse (take n names)) name))

-- a name without a place in the table has no value there
pub known_none : (vs : List BoundedValue) (names : List (List ℕ)) → length vs ≤ length names → (name : List ℕ)
    → newest_place (reverse (take (length vs) names)) name ≡ None → find_in (reverse (with_names vs names)) name ≡ None
known_none [] names fit name e = refl
known_none (v ∷ vs) names fit name e = known_found (v ∷ vs) names fit name v
    ∙ ap (option_map (λ k. val_of (get_or (v ∷ vs) k v).value)) e
