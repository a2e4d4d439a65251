-- The slot of a new one's name, which goes first.
use Rattle.std.proofs.Common.{◌≡◌, ℕ, ◌+◌, ◌≤◌, Bool, true, false, ◌||◌, not, List, [], ◌∷◌, refl, ap, sym, subst, ◌∙◌, cond, length, arith, Some, None, option_map, nat_eq}
use Rattle.std.specs.Prelude.{Option, sum_by, nat_lt}
use Rattle.std.specs.Option.{option_map_or}
use Rattle.std.specs.Map.{lookup, remove_entry}
use Rattle.std.proofs.lemmas.Option.{same_Some}
use Rattle.std.proofs.lemmas.Bool.Decides.{nat_tests}
use Rattle.memo_core.specs.Memo.{first_with, without_first, same_name, is_free, owner_weight}
use Rattle.memo_core.specs.Fields.{weight_at}
use Rattle.memo_core.specs.Plans.{slot_header, IsPlan, frees_by}
use Rattle.memo_core.specs.declared.plan.Plan.{Plan}
use Rattle.memo_core.specs.declared.slots.Slot.{Slot}
use Rattle.memo_core.proofs.Hits.{none_some}
use Rattle.memo_core.proofs.Lists.{sum_without, length_without}

module _ {X : Type 0} (test : List ℕ → Bool) where
  pub remove_without : (es : List (List ℕ × X)) → remove_entry test es ≡ without_first (λ e. test e.0) es
  remove_without [] = refl
  remove_without (e ∷ es) = ap (λ r. cond (test e.0) es (e ∷ r)) (remove_without es)

  pub lookup_first : (es : List (List ℕ × X)) → option_map (λ e. e.1) (first_with (λ e. test e.0) es) ≡ lookup test es
  lookup_first [] = refl
  lookup_first (e ∷ es) = go (test e.0) (lookup_first es) where
    go : (b : Bool) → option_map (λ x. x.1) (first_with (λ x. test x.0) es) ≡ lookup test es → option_map (λ x. x.1) (cond b (Some e) (first_with (λ x. test x.0) es)) ≡ cond b (Some e.1) (lookup test es)
    go true h = refl
    go false h = h

  pub none_named : (es : List (List ℕ × X)) → lookup test es ≡ None → first_with (λ e. test e.0) es ≡ None
  none_named es h = go (first_with (λ e. test e.0) es) (lookup_first es ∙ h) where
    go : (o : Option (List ℕ × X)) → option_map (λ e. e.1) o ≡ None → o ≡ None
    go None k = refl
    go (Some e) k = absurd (none_some (sym k))

  pub one_named : (es : List (List ℕ × X)) (x : X) → lookup test es ≡ Some x → (e : List ℕ × X) × (first_with (λ y. test y.0) es ≡ Some e) × (e.1 ≡ x)
  one_named es x h = go (first_with (λ e. test e.0) es) (lookup_first es ∙ h) where
    go : (o : Option (List ℕ × X)) → option_map (λ e. e.1) o ≡ Some x → (e : List ℕ × X) × (o ≡ Some e) × (e.1 ≡ x)
    go None k = absurd (none_some k)
    go (Some e) k = (e, refl, same_Some _ _ k)

not_not : (b : Bool) → b ≡ not (not b)
not_not true = refl
not_not false = refl

module _ {K V : Type 0} (name : List ℕ) (es : List (List ℕ × Slot K V)) where
  abbrev N : List ℕ × Slot K V → Bool
  N e = same_name name e.0

  -- whether there is none of this name that isn't free
  abbrev way : (share caller : ℕ) → Option (List ℕ × Slot K V) → Bool
  way share caller o = not (option_map_or (λ e. not (is_free slot_header share caller es e)) o false)

  pub way_none : (share caller : ℕ) → lookup (same_name name) es ≡ None → true ≡ way share caller (first_with N es)
  way_none share caller h = ap (way share caller) (sym (none_named (same_name name) es h))

  pub way_some : (share caller weight : ℕ) (slot : Slot K V) (plan : Plan) (b : Bool) → lookup (same_name name) es ≡ Some slot → IsPlan weight es plan → b ≡ frees_by caller share slot.owner plan → b ≡ way share caller (first_with N es)
  way_some share caller weight slot plan b h p f =
      let e = one_named (same_name name) es slot h in
      f ∙ ap (λ n. nat_eq slot.owner caller || (nat_eq share 0 || nat_lt share n)) (p.owned_weights slot.owner)
      ∙ ap (λ (s : Slot K V). nat_eq s.owner caller || (nat_eq share 0 || nat_lt share (owner_weight slot_header s.owner es))) (sym e.2)
      ∙ not_not (is_free slot_header share caller es e.0) ∙ ap (way share caller) (sym e.1)

  nat_refl : (n : ℕ) → nat_eq n n ≡ true
  nat_refl n = grind (arith, nat_tests)

  abbrev w : List ℕ × Slot K V → ℕ
  w e = (slot_header e).weight

  abbrev wo : ℕ → List ℕ × Slot K V → ℕ
  wo o e = cond (nat_eq (slot_header e).owner o) (slot_header e).weight 0

  abbrev rest : List (List ℕ × Slot K V)
  rest = without_first N es

  abbrev one : List ℕ × Slot K V → ℕ
  one e = 1

  pub way_counted : (weight : ℕ) (slot : Slot K V) (plan : Plan) → lookup (same_name name) es ≡ Some slot → IsPlan weight es plan
      → (slot.weight ≤ plan.total) × (slot.weight ≤ weight_at slot.owner plan.owners.items)
  way_counted weight slot plan h p =
      let e = one_named (same_name name) es slot h in
      let a = sum_without N w es ∙ ap (λ o. option_map_or w o 0 + sum_by w rest) e.1 ∙ ap (λ (s : Slot K V). s.weight + sum_by w rest) e.2 in
      let b = sum_without N (wo slot.owner) es ∙ ap (λ o. option_map_or (wo slot.owner) o 0 + sum_by (wo slot.owner) rest) e.1
      ∙ ap (λ (s : Slot K V). cond (nat_eq s.owner slot.owner) s.weight 0 + sum_by (wo slot.owner) rest) e.2 ∙ ap (λ t. cond t slot.weight 0 + sum_by (wo slot.owner) rest) (nat_refl slot.owner) in
      let c = p.owned_weights slot.owner in
      (omega (arith, p.total, a), omega (arith, c, b))

  pub without_none : (weight : ℕ) (plan : Plan) → lookup (same_name name) es ≡ None → IsPlan weight es plan → IsPlan weight (remove_entry (same_name name) es) plan
  without_none weight plan h p =
      let n = none_named (same_name name) es h in
      let a = sum_without N w es ∙ ap (λ o. option_map_or w o 0 + sum_by w rest) n in
      let l = length_without N es ∙ ap (λ o. option_map_or one o 0 + length rest) n in
      subst (λ x. IsPlan weight x plan) (sym (remove_without (same_name name) es)) (record {
        total = omega (arith, p.total, a);
        count = omega (arith, p.count, l);
        owned_weights = λ o. p.owned_weights o ∙ sum_without N (wo o) es ∙ ap (λ x. option_map_or (wo o) x 0 + sum_by (wo o) rest) n ∙ omega arith;
      })

  pub without_some : (weight : ℕ) (slot : Slot K V) (plan plan' : Plan) → lookup (same_name name) es ≡ Some slot → IsPlan weight es plan
      → plan'.total + slot.weight ≡ plan.total → plan'.count + 1 ≡ plan.count
      → ((o : ℕ) → weight_at o plan'.owners.items + cond (nat_eq slot.owner o) slot.weight 0 ≡ weight_at o plan.owners.items)
      → IsPlan weight (remove_entry (same_name name) es) plan'
  without_some weight slot plan plan' h p t c f =
      let e = one_named (same_name name) es slot h in
      let a = sum_without N w es ∙ ap (λ o. option_map_or w o 0 + sum_by w rest) e.1 ∙ ap (λ (s : Slot K V). s.weight + sum_by w rest) e.2 in
      let l = length_without N es ∙ ap (λ o. option_map_or one o 0 + length rest) e.1 in
      subst (λ x. IsPlan weight x plan') (sym (remove_without (same_name name) es)) (record {
        total = omega (arith, p.total, a, t);
        count = omega (arith, p.count, l, c);
        owned_weights = λ o.
            let b = sum_without N (wo o) es ∙ ap (λ x. option_map_or (wo o) x 0 + sum_by (wo o) rest) e.1 ∙ ap (λ (s : Slot K V). cond (nat_eq s.owner o) s.weight 0 + sum_by (wo o) rest) e.2 in
            let g = p.owned_weights o in
            let k = f o in
            omega (arith, b, g, k);
      })
