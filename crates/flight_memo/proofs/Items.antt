-- Claims as the fields have them.
use Rattle.std.proofs.Common.{◌≡◌, ℕ, ◌+◌, ◌<◌, Bool, true, false, not, cond, if◌then◌else◌, ◌||◌, List, [], ◌∷◌, length, take, filter, nat_eq, get_or, slice_index_or, refl, ap, sym, subst, ◌∙◌, arith}
use Rattle.std.specs.Arc.{arc_value}
use Rattle.std.specs.List.{list_any}
use Rattle.std.proofs.lemmas.List.{map-append, take_more, get_or-map, length-map}
use Rattle.std.proofs.lemmas.List.Elements.{All-push, All-get_or}
use Rattle.flight_memo.specs.declared.claims.LiveClaim.{LiveClaim}
use Rattle.flight_memo.specs.Claims.{Claim, IsFree, has_other_claim_number, is_live, first_number, number_to_end}
use Rattle.flight_memo.specs.Fields.{claim_in, claims_of, is_item, is_other_item}

module _ {K : Type 0} where
  pub is_live_items : (number : ℕ) (items : List (LiveClaim K)) → list_any (is_item number) items ≡ is_live number (claims_of items)
  is_live_items number [] = refl
  is_live_items number (item ∷ items) = ap (λ b. nat_eq number item.number || b) (is_live_items number items)

  -- the number of the claim that ends
  pub to_end_live : (number : ℕ) (items : List (LiveClaim K)) → list_any (is_item number) items ≡ true → number ≡ number_to_end number (claims_of items)
  to_end_live number items is = sym (ap (λ b. if b then number else first_number (claims_of items)) (sym (is_live_items number items) ∙ is))

  pub to_end_first : (number : ℕ) (items : List (LiveClaim K)) (d : LiveClaim K) → 0 < length items → list_any (is_item number) items ≡ false → (slice_index_or items 0 d).number ≡ number_to_end number (claims_of items)
  to_end_first number [] d some is = absurd (omega (arith, some))
  to_end_first number (item ∷ items) d some is =
      sym (ap (λ b. if b then number else item.number) (sym (is_live_items number (item ∷ items)) ∙ is))

  kept_or_not : (b : Bool) (item : LiveClaim K) (items : List (LiveClaim K)) (rest : List (Claim K)) → claims_of items ≡ rest → claims_of (cond b (item ∷ items) items) ≡ cond b (claim_in item ∷ rest) rest
  kept_or_not true item items rest e = ap (λ l. claim_in item ∷ l) e
  kept_or_not false item items rest e = e

  pub others_items : (number : ℕ) (items : List (LiveClaim K)) → claims_of (filter (is_other_item number) items) ≡ filter (has_other_claim_number number) (claims_of items)
  others_items number [] = refl
  others_items number (item ∷ items) =
      kept_or_not (not (nat_eq number item.number)) item (filter (is_other_item number) items) (filter (has_other_claim_number number) (claims_of items)) (others_items number items)

  -- no claim so far has the key, nor the next one
  pub free_more : (key : K) (items : List (LiveClaim K)) (i : ℕ) (item : LiveClaim K) → i < length items → item ≡ get_or items i item → (arc_value item.key ≡ key → ⊥) → IsFree key (claims_of (take i items)) → IsFree key (claims_of (take (i + 1) items))
  free_more key items i item lt is other free =
      subst (IsFree key)
      (sym (ap claims_of (take_more items i item lt) ∙ map-append claim_in (take i items) (get_or items i item ∷ [])))
      (All-push (λ claim. claim.key ≡ key → ⊥) (claims_of (take i items)) (claim_in (get_or items i item)) free (subst (λ (c : LiveClaim K). arc_value c.key ≡ key → ⊥) is other))

  -- a claim that has the key
  pub not_free : (key : K) (items : List (LiveClaim K)) (i : ℕ) (item : LiveClaim K) → i < length items → item ≡ get_or items i item → arc_value item.key ≡ key → IsFree key (claims_of items) → ⊥
  not_free key items i item lt is same free =
      let at : get_or (claims_of items) i (claim_in item) ≡ claim_in item = get_or-map claim_in items i item (claim_in item) lt ∙ ap claim_in (sym is) in
      All-get_or (λ claim. claim.key ≡ key → ⊥) (claims_of items) i (claim_in item) (omega (arith, lt, length-map items claim_in)) free (ap (λ claim. claim.key) at ∙ same)
