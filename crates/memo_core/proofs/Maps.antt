-- The sequential memo over entries, over their marks and over what stands for them is the same.
use Rattle.std.proofs.Common.{◌≡◌, ℕ, zero, suc, ◌+◌, Bool, false, ◌&&◌, ◌||◌, not, List, [], ◌∷◌, map, refl, ap, sym, ◌∙◌, cond, length, Some, None, option_map, nat_eq}
use Rattle.std.specs.Prelude.{Option, sum_by, nat_le, nat_lt, is_some}
use Rattle.std.specs.Option.{option_map_or}
use Rattle.std.proofs.lemmas.List.{length-map}
use Rattle.std.proofs.lemmas.List.Sums.{sum_by-cons}
use mathlib.Core.Path.{fun_ext}
use Rattle.memo_core.specs.Memo.{EntryHeader, first_with, without_first, without_last, owner_weight, is_free, fits_in, others_left_within, others_left_beside, entries_after_push, entries_after_offer_where, has_name, most_entries}
use Rattle.memo_core.proofs.Lists.{cond_through, first_map, without_map}

pub some_map : {A B : Type 0} (f : A → B) (o : Option A) → is_some (option_map f o) ≡ is_some o
some_map f None = refl
some_map f (Some x) = refl

module _ {A B : Type 0} (f : A → B) where
  pub sum_by_map : (w : B → ℕ) (es : List A) → sum_by w (map f es) ≡ sum_by (λ e. w (f e)) es
  sum_by_map w [] = refl
  sum_by_map w (e ∷ es) = sum_by-cons w (f e) (map f es) ∙ ap (λ n. w (f e) + n) (sum_by_map w es) ∙ sym (sum_by-cons (λ x. w (f x)) e es)

  last_map : (t : B → Bool) (es : List A) → without_last t (map f es) ≡ map f (without_last (λ e. t (f e)) es)
  last_map t [] = refl
  last_map t (e ∷ es) =
      let found = is_some (first_with (λ x. t (f x)) es) in
      ap (λ o. cond (is_some o) (f e ∷ without_last t (map f es)) (cond (t (f e)) (map f es) (f e ∷ map f es))) (first_map f t es)
      ∙ ap (λ b. cond b (f e ∷ without_last t (map f es)) (cond (t (f e)) (map f es) (f e ∷ map f es))) (some_map f (first_with (λ x. t (f x)) es))
      ∙ ap (λ r. cond found (f e ∷ r) (cond (t (f e)) (map f es) (f e ∷ map f es))) (last_map t es)
      ∙ ap (cond found (f e ∷ map f (without_last (λ x. t (f x)) es))) (sym (cond_through (map f) (t (f e)) es (e ∷ es)))
      ∙ sym (cond_through (map f) found (e ∷ without_last (λ x. t (f x)) es) (cond (t (f e)) es (e ∷ es)))

module _ {K A B : Type 0} (f : A → B) (mark : B → EntryHeader K) where
  abbrev mark_at : A → EntryHeader K
  mark_at e = mark (f e)

  pub owned_map : (o : ℕ) (es : List A) → owner_weight mark o (map f es) ≡ owner_weight mark_at o es
  owned_map o es = sum_by_map f (λ e. cond (nat_eq (mark e).owner o) (mark e).weight 0) es

  free_at : (share caller : ℕ) (es : List A) (e : A) → is_free mark share caller (map f es) (f e) ≡ is_free mark_at share caller es e
  free_at share caller es e = ap (λ n. nat_eq (mark (f e)).owner caller || (nat_eq share 0 || nat_lt share n)) (owned_map (mark (f e)).owner es)

  free_map : (share caller : ℕ) (es : List A) → (λ e. is_free mark share caller (map f es) (f e)) ≡ is_free mark_at share caller es
  free_map share caller es = fun_ext (free_at share caller es)

  fits_map : (budget : ℕ) (es : List A) → fits_in mark budget (map f es) ≡ fits_in mark_at budget es
  fits_map budget es =
      ap (λ n. nat_le n budget && nat_le (length (map f es)) most_entries) (sum_by_map f (λ e. (mark e).weight) es)
      ∙ ap (λ n. nat_le (sum_by (λ e. (mark_at e).weight) es) budget && nat_le n most_entries) (length-map es f)

  module _ (budget share : ℕ) where
    pub room_map : (n : ℕ) (new : A) (es : List A) → others_left_within mark budget share n (f new) (map f es) ≡ option_map (map f) (others_left_within mark_at budget share n new es)
    room_map zero new es = refl
    room_map (suc n) new es =
        let caller = (mark_at new).owner in
        let T = is_free mark share caller (map f es) in
        let U = is_free mark_at share caller es in
        let fits = fits_in mark_at budget (new ∷ es) in
        ap (λ b. cond b (Some (map f es)) (cond (is_some (first_with T (map f es))) (others_left_within mark budget share n (f new) (without_last T (map f es))) None)) (fits_map budget (new ∷ es))
        ∙ ap (λ o. cond fits (Some (map f es)) (cond (is_some o) (others_left_within mark budget share n (f new) (without_last T (map f es))) None)) (first_map f T es)
        ∙ ap (λ b. cond fits (Some (map f es)) (cond b (others_left_within mark budget share n (f new) (without_last T (map f es))) None)) (some_map f (first_with (λ e. T (f e)) es))
        ∙ ap (λ r. cond fits (Some (map f es)) (cond (is_some (first_with (λ e. T (f e)) es)) (others_left_within mark budget share n (f new) r) None)) (last_map f T es)
        ∙ ap (λ g. cond fits (Some (map f es)) (cond (is_some (first_with g es)) (others_left_within mark budget share n (f new) (map f (without_last g es))) None)) (free_map share caller es)
        ∙ ap (λ r. cond fits (Some (map f es)) (cond (is_some (first_with U es)) r None)) (room_map n new (without_last U es))
        ∙ ap (cond fits (Some (map f es))) (sym (cond_through (option_map (map f)) (is_some (first_with U es)) (others_left_within mark_at budget share n new (without_last U es)) None))
        ∙ sym (cond_through (option_map (map f)) fits (Some es) (cond (is_some (first_with U es)) (others_left_within mark_at budget share n new (without_last U es)) None))

    beside_map : (new : A) (es : List A) → others_left_beside mark budget share (f new) (map f es) ≡ option_map (map f) (others_left_beside mark_at budget share new es)
    beside_map new es = ap (λ n. others_left_within mark budget share (suc n) (f new) (map f es)) (length-map es f) ∙ room_map (suc (length es)) new es

    in_front : (new : A) (o : Option (List A)) → option_map (λ rest. f new ∷ rest) (option_map (map f) o) ≡ option_map (map f) (option_map (λ rest. new ∷ rest) o)
    in_front new None = refl
    in_front new (Some x) = refl

    unfree_map : (share caller : ℕ) (es : List A) (o : Option A)
        → option_map_or (λ e. not (is_free mark share caller (map f es) e)) (option_map f o) false ≡ option_map_or (λ e. not (is_free mark_at share caller es e)) o false
    unfree_map share caller es None = refl
    unfree_map share caller es (Some e) = ap not (free_at share caller es e)

    pub pushed_map : (new : A) (es : List A) → entries_after_push mark budget share (f new) (map f es) ≡ option_map (map f) (entries_after_push mark_at budget share new es)
    pushed_map new es =
        let N = has_name mark (mark_at new).name in
        let M = has_name mark_at (mark_at new).name in
        let caller = (mark_at new).owner in
        let stays = option_map_or (λ e. not (is_free mark_at share caller es e)) (first_with M es) false in
        ap (λ o. cond (option_map_or (λ e. not (is_free mark share caller (map f es) e)) o false) None (option_map (λ rest. f new ∷ rest) (others_left_beside mark budget share (f new) (without_first N (map f es))))) (first_map f N es)
        ∙ ap (λ b. cond b None (option_map (λ rest. f new ∷ rest) (others_left_beside mark budget share (f new) (without_first N (map f es))))) (unfree_map share caller es (first_with M es))
        ∙ ap (λ r. cond stays None (option_map (λ rest. f new ∷ rest) (others_left_beside mark budget share (f new) r))) (without_map f N es)
        ∙ ap (λ r. cond stays None (option_map (λ rest. f new ∷ rest) r)) (beside_map new (without_first M es))
        ∙ ap (cond stays None) (in_front new (others_left_beside mark_at budget share new (without_first M es)))
        ∙ sym (cond_through (option_map (map f)) stays None (option_map (λ rest. new ∷ rest) (others_left_beside mark_at budget share new (without_first M es))))

    pub where_map : (held : Bool) (front : List A) (new : A) (es : List A)
        → entries_after_offer_where mark budget share held (map f front) (f new) (map f es) ≡ option_map (map f) (entries_after_offer_where mark_at budget share held front new es)
    where_map held front new es =
        let heavy = nat_lt budget (mark_at new).weight in
        ap (λ r. cond heavy None (cond held (Some (map f front)) r)) (pushed_map new es)
        ∙ ap (cond heavy None) (sym (cond_through (option_map (map f)) held (Some front) (entries_after_push mark_at budget share new es)))
        ∙ sym (cond_through (option_map (map f)) heavy None (cond held (Some front) (entries_after_push mark_at budget share new es)))
