-- What a look-up by name has to do with one by key.
use Rattle.std.proofs.Common.{◌≡◌, ℕ, Bool, true, false, List, [], ◌∷◌, refl, ap, sym, subst, ◌∙◌, cond, Some, None, option_map}
use Rattle.std.specs.Prelude.{is_some}
use Rattle.std.specs.List.{AllByRecursion, IsDistinct}
use Rattle.std.specs.Map.{lookup, keys_of}
use Rattle.std.specs.Arc.{arc_value}
use Rattle.std.proofs.lemmas.Cmp.{nat_list_eq_equiv}
use Rattle.std.proofs.lemmas.Map.Keys.{IsDistinct-head, IsDistinct-tail}
use Rattle.memo_core.specs.Memo.{first_with, same_name, has_key}
use Rattle.memo_core.specs.Views.{header_in}
use Rattle.memo_core.specs.Fields.{entry_of_slot, entries_of, value_with_key}
use Rattle.memo_core.specs.declared.slots.Slot.{Slot}

pub never : false ≡ true → ⊥
never p = subst (λ (b : Bool). cond b ⊥ (Unit {0})) p tt

pub none_some : {A : Type 0} {a : A} → None ≡ Some a → ⊥
none_some p = never (ap is_some p)

-- what is at most once called a, is not called so behind it
apart : (name k : List ℕ) (x : List ℕ) → same_name name k ≡ true → same_name k x ≡ false → same_name name x ≡ false
apart name k x h d = nat_list_eq_equiv.congr name k x h ∙ d

behind : {X : Type 0} (name k : List ℕ) (es : List (List ℕ × X)) → same_name name k ≡ true → AllByRecursion (λ x. same_name k x ≡ false) (keys_of es) → AllByRecursion (λ e. same_name name e.0 ≡ false) es
behind name k [] h d = tt
behind name k (e ∷ es) h d = (apart name k e.0 h d.0, behind name k es h d.1)

module _ {K V : Type 0} (same : K → K → Bool) (name_of : K → List ℕ) (same_is : (a b : K) → same a b ≡ true → a ≡ b) (key : K) where
  -- each slot is called by its key's name
  abbrev pub Named : List (List ℕ × Slot K V) → Type 0
  Named es = AllByRecursion (λ e. e.header.name ≡ name_of e.header.key) (entries_of es)

  abbrev by_key : List ℕ × Slot K V → Bool
  by_key e = has_key same header_in key (entry_of_slot e)

  -- another name is another key
  other : (e : List ℕ × Slot K V) → e.0 ≡ name_of (arc_value e.1.key) → same_name (name_of key) e.0 ≡ false → (s : Bool) → same (arc_value e.1.key) key ≡ s → s ≡ false
  other e n d true is =
      let here : name_of key ≡ e.0 = sym (n ∙ ap name_of (same_is (arc_value e.1.key) key is)) in
      let yes : same_name (name_of key) e.0 ≡ true = subst (λ x. same_name (name_of key) x ≡ true) here (nat_list_eq_equiv.refl (name_of key)) in sym yes ∙ d
  other e n d false is = refl

  others : (es : List (List ℕ × Slot K V)) → Named es → AllByRecursion (λ e. same_name (name_of key) e.0 ≡ false) es → AllByRecursion (λ e. by_key e ≡ same_name (name_of key) e.0) es
  others [] n d = tt
  others (e ∷ es) n d = (other e n.0 d.0 (by_key e) refl ∙ sym d.0, others es n.1 d.1)

  none_found : (es : List (List ℕ × Slot K V)) → Named es → AllByRecursion (λ e. same_name (name_of key) e.0 ≡ false) es → first_with (has_key same header_in key) (entries_of es) ≡ None
  none_found [] n d = refl
  none_found (e ∷ es) n d = ap (λ b. cond b (Some (entry_of_slot e)) (first_with (has_key same header_in key) (entries_of es))) (other e n.0 d.0 (by_key e) refl) ∙ none_found es n.1 d.1

  pub value_is : (es : List (List ℕ × Slot K V)) → Named es → IsDistinct same_name (keys_of es) → value_with_key same key (lookup (same_name (name_of key)) es) ≡ option_map (λ e. e.value) (first_with (has_key same header_in key) (entries_of es))
  value_is [] n d = refl
  value_is (e ∷ es) n d = go (value_is es n.1 (IsDistinct-tail same_name e.0 (keys_of es) d)) (same_name (name_of key) e.0) refl (by_key e) refl where
    go : value_with_key same key (lookup (same_name (name_of key)) es) ≡ option_map (λ x. x.value) (first_with (has_key same header_in key) (entries_of es)) → (t : Bool) → same_name (name_of key) e.0 ≡ t → (s : Bool) → by_key e ≡ s → value_with_key same key (cond t (Some e.1) (lookup (same_name (name_of key)) es)) ≡ option_map (λ x. x.value) (cond s (Some (entry_of_slot e)) (first_with (has_key same header_in key) (entries_of es)))
    go ih true ti true si = ap (λ b. cond b (Some (arc_value e.1.value)) None) si
    go ih true ti false si =
        ap (λ b. cond b (Some (arc_value e.1.value)) None) si
        ∙ sym (ap (option_map (λ x. x.value)) (none_found es n.1 (behind (name_of key) e.0 es ti (IsDistinct-head same_name e.0 (keys_of es) d))))
    go ih false ti true si = let no : false ≡ true = sym (other e n.0 ti (by_key e) refl) ∙ si in absurd (never no)
    go ih false ti false si = ih

  -- where the value is found, both look-ups pass at the same entry
  pub agree : (es : List (List ℕ × Slot K V)) (v : V) → Named es → IsDistinct same_name (keys_of es) → value_with_key same key (lookup (same_name (name_of key)) es) ≡ Some v → AllByRecursion (λ e. by_key e ≡ same_name (name_of key) e.0) es
  agree [] v n d found = tt
  agree (e ∷ es) v n d found = go (agree es v n.1 (IsDistinct-tail same_name e.0 (keys_of es) d)) (same_name (name_of key) e.0) refl (by_key e) refl found where
    go : (value_with_key same key (lookup (same_name (name_of key)) es) ≡ Some v → AllByRecursion (λ x. by_key x ≡ same_name (name_of key) x.0) es) → (t : Bool) → same_name (name_of key) e.0 ≡ t → (s : Bool) → by_key e ≡ s → value_with_key same key (cond t (Some e.1) (lookup (same_name (name_of key)) es)) ≡ Some v
        → AllByRecursion (λ x. by_key x ≡ same_name (name_of key) x.0) (e ∷ es)
    go ih true ti true si f = (si ∙ sym ti, others es n.1 (behind (name_of key) e.0 es ti (IsDistinct-head same_name e.0 (keys_of es) d)))
    go ih true ti false si f = absurd (none_some (sym (ap (λ b. cond b (Some (arc_value e.1.value)) None) si) ∙ f))
    go ih false ti true si f = absurd (never (sym (other e n.0 ti (by_key e) refl) ∙ si))
    go ih false ti false si f = (si ∙ sym ti, ih f)
