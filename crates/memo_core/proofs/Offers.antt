-- What an offer to a shelf did, by whether its key is held.
use Rattle.std.proofs.Common.{◌≡◌, ℕ, Bool, true, false, List, refl, ap, sym, subst, cond, Some, None, IfOk}
use Rattle.std.specs.Prelude.{Option, Result}
use Rattle.std.specs.List.{IsDistinct}
use Rattle.std.specs.Map.{keys_of}
use Rattle.memo_core.specs.Memo.{same_name, DropsFrom}
use Rattle.memo_core.specs.Plans.{IsOfferTaken}
use Rattle.memo_core.specs.declared.slots.Slot.{Slot}
use Rattle.memo_core.specs.declared.slots.Shelf.{Shelf}
use Rattle.memo_core.proofs.Drops.{drops_less}

module _ {K V : Type 0} where
  -- one whose key is held came to the front
  pub taken_held : (held heavy : Bool) → held ≡ true → heavy ≡ false → (front : List (List ℕ × Slot K V)) (pushed : Option (List (List ℕ × Slot K V))) (new : List ℕ × Slot K V) (shelf shelf' : Shelf K V)
      (gone : List (List ℕ × Slot K V)) → front ≡ shelf'.cache.entries → DropsFrom shelf.cache.entries gone gone shelf'.cache.entries → IsDistinct same_name (keys_of shelf'.cache.entries)
      → IsOfferTaken held (cond heavy None (cond held (Some front) pushed)) new shelf gone (Some 0) shelf' gone
  taken_held held heavy h w front pushed new shelf shelf' gone e d s =
      subst (λ b. IsOfferTaken b (cond heavy None (cond b (Some front) pushed)) new shelf gone (Some 0) shelf' gone) (sym h)
      (subst (λ b. IsOfferTaken true (cond b None (Some front)) new shelf gone (Some 0) shelf' gone) (sym w) record {
        slots = ap Some e;
        evicted = refl;
        dropped = drops_less true new shelf.cache.entries gone gone shelf'.cache.entries refl d;
        refused = tt;
        distinct = s;
      })

  -- one whose key is not held was pushed
  pub taken_pushed : {E : Type 0} (result : Result (Option ℕ) E) (held heavy : Bool) → held ≡ false → heavy ≡ false → (front : List (List ℕ × Slot K V)) (pushed : Option (List (List ℕ × Slot K V))) (new : List ℕ × Slot K V) (shelf shelf' : Shelf K V)
      (gone gone' : List (List ℕ × Slot K V)) → IfOk result (λ r. IsOfferTaken false pushed new shelf gone r shelf' gone')
      → IfOk result (λ r. IsOfferTaken held (cond heavy None (cond held (Some front) pushed)) new shelf gone r shelf' gone')
  taken_pushed result held heavy h w front pushed new shelf shelf' gone gone' t =
      subst (λ b. IfOk result (λ r. IsOfferTaken b (cond heavy None (cond b (Some front) pushed)) new shelf gone r shelf' gone')) (sym h)
      (subst (λ b. IfOk result (λ r. IsOfferTaken false (cond b None pushed) new shelf gone r shelf' gone')) (sym w) t)
