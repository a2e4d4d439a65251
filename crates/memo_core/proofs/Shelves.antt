-- A shelf on which a slot was put, or brought to the front.
use Rattle.std.proofs.Common.{◌≡◌, ℕ, ◌+◌, ◌-◌, ◌≤◌, ◌^◌, Bool, true, false, ◌&&◌, List, [], ◌∷◌, length, take, refl, ap, sym, subst, ◌∙◌, cond, arith, Some, None, nat_eq, IfSome}
use Rattle.std.specs.Prelude.{Option}
use Rattle.std.specs.Option.{option_map_or}
use Rattle.std.specs.Map.{lookup_entry, remove_entry}
use Rattle.std.proofs.lemmas.List.{take_all}
use Rattle.std.proofs.lemmas.Bool.{eqb-true}
use Rattle.lru.specs.LruCache.{promoted, put_entries}
use Rattle.lru.proofs.CallerLemmas.{Contains-lookup_entry}
use Rattle.memo_core.specs.Memo.{first_with, same_name, brought_to_front, owner_weight, entries_after_push}
use Rattle.memo_core.specs.Fields.{weight_at}
use Rattle.memo_core.specs.Plans.{pairs_without, slot_header, weight_of_slots, IsShelf, IsPlanFor, slots_left_by}
use Rattle.memo_core.specs.declared.plan.Plan.{Plan}
use Rattle.memo_core.specs.declared.slots.Slot.{Slot}
use Rattle.memo_core.specs.declared.slots.Shelf.{Shelf}
use Rattle.memo_core.proofs.Hits.{never, none_some}
use Rattle.memo_core.proofs.Lists.{sum_brought, length_brought}
use Rattle.memo_core.proofs.Shares.{pushed_shorter}
use Rattle.memo_core.proofs.Walks.{removed_behind}
use Rattle.memo_core.proofs.Ways.{remove_without}

both_true : (a b : Bool) → (a && b) ≡ true → (a ≡ true) × (b ≡ true)
both_true true b h = (refl, h)
both_true false b h = absurd (never h)

pub same_names : (a b : List ℕ) → same_name a b ≡ true → a ≡ b
same_names [] [] h = refl
same_names [] (y ∷ ys) h = absurd (never h)
same_names (x ∷ xs) [] h = absurd (never h)
same_names (x ∷ xs) (y ∷ ys) h =
    let p = both_true (nat_eq x y) (same_name xs ys) h in
    ap (λ z. z ∷ xs) (eqb-true x y p.0) ∙ ap (λ zs. y ∷ zs) (same_names xs ys p.1)

none_removed : {X : Type 0} (test : List ℕ → Bool) (es : List (List ℕ × X)) → lookup_entry test es ≡ None → remove_entry test es ≡ es
none_removed test [] h = refl
none_removed test (e ∷ es) h = go (test e.0) refl h (none_removed test es) where
  go : (b : Bool) → test e.0 ≡ b → cond b (Some e) (lookup_entry test es) ≡ None → (lookup_entry test es ≡ None → remove_entry test es ≡ es) → remove_entry test (e ∷ es) ≡ e ∷ es
  go true is h ih = absurd (none_some (sym h))
  go false is h ih = ap (λ b. cond b es (e ∷ remove_entry test es)) is ∙ ap (λ r. e ∷ r) (ih h)

-- a put into a cache that drops nothing by itself
pub put_is : {X : Type 0} (es : List (List ℕ × X)) (cap : ℕ) (name : List ℕ) (x : X) → cap ≡ 2 ^ 64 - 1 → length es ≤ 4096
    → put_entries same_name (record { entries = es; cap = cap }) name x ≡ (name, x) ∷ remove_entry (same_name name) es
put_is es cap name x full few = go (lookup_entry (same_name name) es) refl where
  go : (o : Option _) → lookup_entry (same_name name) es ≡ o → option_map_or (λ e. (e.0, x) ∷ remove_entry (same_name name) es) o ((name, x) ∷ take (cap - 1) es) ≡ (name, x) ∷ remove_entry (same_name name) es
  go None h = ap (λ r. (name, x) ∷ r) (take_all (cap - 1) es (omega (arith, full, few)) ∙ sym (none_removed (same_name name) es h))
  go (Some e) h = ap (λ k. (k, x) ∷ remove_entry (same_name name) es) (sym (same_names name e.0 (Contains-lookup_entry (same_name name) es e h).1))

module _ {X : Type 0} (test : List ℕ → Bool) where
  entry_first : (es : List (List ℕ × X)) → lookup_entry test es ≡ first_with (λ e. test e.0) es
  entry_first [] = refl
  entry_first (e ∷ es) = ap (cond (test e.0) (Some e)) (entry_first es)

  pub promoted_brought : (es : List (List ℕ × X)) → promoted test es ≡ brought_to_front (λ e. test e.0) es
  promoted_brought es =
      ap (λ o. option_map_or (λ e. e ∷ remove_entry test es) o es) (entry_first es)
      ∙ ap (λ r. option_map_or (λ e. e ∷ r) (first_with (λ e. test e.0) es) es) (remove_without test es)

module _ {K V : Type 0} (budget : ℕ) where
  -- a slot that is brought to the front
  pub shelf_promoted : (test : List ℕ → Bool) (shelf shelf' : Shelf K V) → IsShelf budget shelf → shelf'.cache.entries ≡ promoted test shelf.cache.entries → shelf'.cache.cap ≡ shelf.cache.cap
      → shelf'.weight ≡ shelf.weight → shelf'.owners ≡ shelf.owners → IsShelf budget shelf'
  shelf_promoted test shelf shelf' s e c w o =
      let b = e ∙ promoted_brought test shelf.cache.entries in
      let S : List ℕ × Slot K V → Bool = λ x. test x.0 in record {
        unbounded = c ∙ s.unbounded;
        kept_weight = w ∙ s.kept_weight ∙ sym (sum_brought S (λ x. (slot_header x).weight) shelf.cache.entries) ∙ ap weight_of_slots (sym b);
        owned_weights = λ n.
            ap (λ rs. weight_at n rs.items) o ∙ s.owned_weights n
            ∙ sym (sum_brought S (λ x. cond (nat_eq (slot_header x).owner n) (slot_header x).weight 0) shelf.cache.entries) ∙ ap (owner_weight slot_header n) (sym b);
        within = omega (arith, w, s.within);
        few = let l = ap length b ∙ length_brought S shelf.cache.entries in omega (arith, l, s.few);
      }

  -- the same, if it was hit
  pub shelf_touched : (test : List ℕ → Bool) (hit : Bool) (shelf shelf' : Shelf K V) → IsShelf budget shelf → shelf'.cache.entries ≡ cond hit (promoted test shelf.cache.entries) shelf.cache.entries → shelf'.cache.cap ≡ shelf.cache.cap
      → shelf'.weight ≡ shelf.weight → shelf'.owners ≡ shelf.owners → IsShelf budget shelf'
  shelf_touched test true shelf shelf' s e c w o = shelf_promoted test shelf shelf' s e c w o
  shelf_touched test false shelf shelf' s e c w o = record {
    unbounded = c ∙ s.unbounded;
    kept_weight = w ∙ s.kept_weight ∙ ap weight_of_slots (sym e);
    owned_weights = λ n. ap (λ rs. weight_at n rs.items) o ∙ s.owned_weights n ∙ ap (owner_weight slot_header n) (sym e);
    within = omega (arith, w, s.within);
    few = let l = ap length e in omega (arith, l, s.few);
  }

  module _ (share : ℕ) (name : List ℕ) (slot : Slot K V) (shelf : Shelf K V) (s : IsShelf budget shelf) (plan : Plan) (p : IsPlanFor budget share name slot shelf.cache.entries plan) where
    -- what is left where a plan is carried out
    pub carried : (fs gs : List (List ℕ × Slot K V)) → fs ≡ (name, slot) ∷ remove_entry (same_name name) shelf.cache.entries → gs ≡ pairs_without plan.names.items fs
        → gs ≡ (name, slot) ∷ slots_left_by budget share name slot shelf.cache.entries plan
    carried fs gs f g = g ∙ ap (pairs_without plan.names.items) f ∙ removed_behind plan.names.items (name, slot) (remove_entry (same_name name) shelf.cache.entries) p.others

    pub carried_pushed : (fs gs : List (List ℕ × Slot K V)) → fs ≡ (name, slot) ∷ remove_entry (same_name name) shelf.cache.entries → gs ≡ pairs_without plan.names.items fs
        → entries_after_push slot_header budget share (name, slot) shelf.cache.entries ≡ Some gs
    carried_pushed fs gs f g = p.pushes ∙ ap Some (sym (carried fs gs f g))

    pub carried_shorter : (fs gs : List (List ℕ × Slot K V)) → fs ≡ (name, slot) ∷ remove_entry (same_name name) shelf.cache.entries → gs ≡ pairs_without plan.names.items fs
        → length gs ≤ length shelf.cache.entries + 1
    carried_shorter fs gs f g =
        subst (λ o. IfSome o (λ kept. length kept ≤ length shelf.cache.entries + 1)) (carried_pushed fs gs f g) (pushed_shorter slot_header budget share (name, slot) shelf.cache.entries)

    pub shelf_carried : (fs : List (List ℕ × Slot K V)) (shelf' : Shelf K V) → fs ≡ (name, slot) ∷ remove_entry (same_name name) shelf.cache.entries → shelf'.cache.entries ≡ pairs_without plan.names.items fs
        → shelf'.cache.cap ≡ shelf.cache.cap → shelf'.weight ≡ plan.total → shelf'.owners ≡ plan.owners → IsShelf budget shelf'
    shelf_carried fs shelf' f g c w o =
        let l = carried fs shelf'.cache.entries f g in record {
          unbounded = c ∙ s.unbounded;
          kept_weight = w ∙ p.weighs ∙ ap weight_of_slots (sym l);
          owned_weights = λ n. ap (λ rs. weight_at n rs.items) o ∙ p.owned_weights n ∙ ap (owner_weight slot_header n) (sym l);
          within = omega (arith, w, p.within);
          few = let m = ap length l in omega (arith, m, p.few);
        }
