-- The least corner, found from the first to the last.
use Rattle.std.proofs.Common.{◌≡◌, ◌⊎◌, inl, inr, ⊎_elim, ℕ, suc, ◌<◌, ◌≤◌, true, false, not, List, [], ◌∷◌, length, get_or, refl, sym, ap, ◌∙◌, arith}
use Rattle.std.proofs.lemmas.Bool.{false≢true, false_from_ne_true}
use Rattle.std.proofs.lemmas.List.{get_or_default}
use Rattle.std.proofs.lemmas.List.Elements.{All-from_get_or}
use Rattle.std.proofs.lemmas.List.Folds.{list_any_at, list_any_none}
use Rattle.std.proofs.lemmas.List.Sums.{position_or_len_is}
use Rattle.plane_predicate.specs.Space.{Coordinates, origin}
use Rattle.plane_polygon.proofs.lemmas.Rounds.{at_most}
use Rattle.off_text.specs.Texts.{comes_before, is_least, place_of_least}
use Rattle.off_text.proofs.Order.{before-itself, before-chain, before-others}

-- among the first i corners, none comes before the one at the place, which comes before all that stand before it
pub record IsLeastOf (corners : List Coordinates) (i least : ℕ) : Type 0 where
  pub first : length corners ≡ 0 → least ≡ 0
  pub within : 0 < length corners → least < length corners
  pub seen : least < i
  pub none : (j : ℕ) → j < i → comes_before (get_or corners j origin) (get_or corners least origin) ≡ false
  pub others : (j : ℕ) → j < least → comes_before (get_or corners least origin) (get_or corners j origin) ≡ true

pub least_first : (corners : List Coordinates) → IsLeastOf corners 1 0
least_first corners = record {
  first = λ e. refl;
  within = λ h. h;
  seen = omega arith;
  none = λ j h. (let e : j ≡ 0 = omega arith in ap (λ (i : ℕ). comes_before (get_or corners i origin) (get_or corners 0 origin)) e ∙ before-itself (get_or corners 0 origin));
  others = λ j h. absurd (omega arith);
}

earlier_or_last : (i j : ℕ) → j < suc i → (j < i) ⊎ (j ≡ i)
earlier_or_last i j h = ⊎_elim (λ e. inr e) (λ l. inl l) (at_most j i (omega arith))

pub least_new : (corners : List Coordinates) (i least : ℕ) → IsLeastOf corners i least → i < length corners →
    comes_before (get_or corners i origin) (get_or corners least origin) ≡ true → IsLeastOf corners (suc i) i
least_new corners i least h l e = record {
  first = λ e. absurd (omega arith);
  within = λ _. l;
  seen = omega arith;
  none = λ j b. ⊎_elim
      (λ a. false_from_ne_true (comes_before (get_or corners j origin) (get_or corners i origin)) (λ t. false≢true (sym (h.none j a) ∙ before-chain (get_or corners j origin) (get_or corners i origin) (get_or corners least origin) t e)))
      (λ s. ap (λ (n : ℕ). comes_before (get_or corners n origin) (get_or corners i origin)) s ∙ before-itself (get_or corners i origin))
      (earlier_or_last i j b);
  others = λ j b. before-others (get_or corners i origin) (get_or corners least origin) (get_or corners j origin) e (h.none j b);
}

pub least_kept : (corners : List Coordinates) (i least : ℕ) → IsLeastOf corners i least →
    comes_before (get_or corners i origin) (get_or corners least origin) ≡ false → IsLeastOf corners (suc i) least
least_kept corners i least h e = record {
  first = h.first;
  within = h.within;
  seen = omega (arith, h.seen);
  none = λ j b. ⊎_elim (λ a. h.none j a) (λ s. ap (λ (n : ℕ). comes_before (get_or corners n origin) (get_or corners least origin)) s ∙ e) (earlier_or_last i j b);
  others = h.others;
}

pub least_found : (corners : List Coordinates) (i least : ℕ) → IsLeastOf corners i least → length corners ≤ i → least ≡ place_of_least corners
least_found [] i least h l = h.first refl
least_found (c ∷ corners) i least h l =
    sym (position_or_len_is (is_least (c ∷ corners)) (c ∷ corners) least origin (omega (arith, h.within (omega arith)))
    (λ k b. ap not (list_any_at (λ q. comes_before q (get_or (c ∷ corners) k origin)) (c ∷ corners) least origin (h.within (omega arith)) (h.others k b)))
    (λ b. ap not (list_any_none (λ q. comes_before q (get_or (c ∷ corners) least origin)) (c ∷ corners)
    (All-from_get_or (λ q. comes_before q (get_or (c ∷ corners) least origin) ≡ false) (c ∷ corners) origin (λ j d. h.none j (omega arith))))))

-- an element, whatever stands for what is past the end
pub item_is : (corners : List Coordinates) (i : ℕ) (p : Coordinates) → i < length corners → p ≡ get_or corners i p → p ≡ get_or corners i origin
item_is corners i p h e = e ∙ get_or_default corners i p origin h

pub within_of : (corners : List Coordinates) (i least : ℕ) → IsLeastOf corners i least → i < length corners → least < length corners
within_of corners i least h l = h.within (omega arith)
