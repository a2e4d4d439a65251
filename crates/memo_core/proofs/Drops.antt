-- What a fill drops, in some order, beside what stands.
use Rattle.std.proofs.Common.{◌≡◌, ℕ, Bool, true, false, List, [], ◌∷◌, ◌++◌, map, refl, ap, sym, subst, ◌∙◌, cond, not, ◌&&◌, Some, None, IsPermutation}
use Rattle.std.specs.Prelude.{Option, is_some}
use Rattle.std.specs.Option.{option_map_or}
use Rattle.std.specs.Map.{lookup, lookup_entry, remove_entry}
use Rattle.std.proofs.lemmas.List.{append-nil, append_assoc, map-append}
use Rattle.std.proofs.lemmas.List.Sorted.{IsPermutation-refl, IsPermutation-sym, IsPermutation-cons, IsPermutation-middle, IsPermutation-trans, IsPermutation-append_right, IsPermutation-map}
use Rattle.lru.specs.LruCache.{promoted}
use Rattle.memo_core.specs.Memo.{same_name, DropsFrom, entries_to_place_where}
use Rattle.memo_core.specs.Plans.{pair_if_there}
use Rattle.memo_core.proofs.Shelves.{same_names}

module _ {E : Type 0} where
  pub drops_nothing : (es fs gone : List E) → IsPermutation es fs → DropsFrom es gone gone fs
  drops_nothing es fs gone p = ([], sym (append-nil gone), p)

  pub drops_then : (placed left standing gone gone' gone'' : List E) → DropsFrom placed gone gone' left → DropsFrom left gone' gone'' standing → DropsFrom placed gone gone'' standing
  drops_then placed left standing gone gone' gone'' (first, e, p) (more, f, q) = (
    first ++ more,
    f ∙ ap (λ l. l ++ more) e ∙ append_assoc gone first more,
    subst (IsPermutation placed) (sym (append_assoc first more standing)) (IsPermutation-trans placed (first ++ left) (first ++ (more ++ standing)) p (IsPermutation-append_right first left (more ++ standing) q)),
  )

  pub drops_less : (held : Bool) (new : E) (es gone gone' fs : List E) → held ≡ true → DropsFrom es gone gone' fs → DropsFrom (entries_to_place_where held true new es) gone gone' fs
  drops_less held new es gone gone' fs h d = subst (λ b. DropsFrom (entries_to_place_where b true new es) gone gone' fs) (sym h) d

module _ {X : Type 0} where
  -- the pairs are that of a name, if there is one, and those without it
  taken : (name : List ℕ) (es : List (List ℕ × X)) → IsPermutation es (pair_if_there name (lookup (same_name name) es) ++ remove_entry (same_name name) es)
  taken name [] = IsPermutation-refl []
  taken name (e ∷ es) = go (same_name name e.0) refl (taken name es) where
    go : (b : Bool) → same_name name e.0 ≡ b → IsPermutation es (pair_if_there name (lookup (same_name name) es) ++ remove_entry (same_name name) es)
        → IsPermutation (e ∷ es) (pair_if_there name (cond b (Some e.1) (lookup (same_name name) es)) ++ cond b es (e ∷ remove_entry (same_name name) es))
    go true is p = subst (λ n. IsPermutation (e ∷ es) ((n, e.1) ∷ es)) (sym (same_names name e.0 is)) (IsPermutation-refl (e ∷ es))
    go false is p =
        IsPermutation-trans (e ∷ es) (e ∷ (pair_if_there name (lookup (same_name name) es) ++ remove_entry (same_name name) es)) _ (IsPermutation-cons e es _ p)
        (IsPermutation-sym _ _ (IsPermutation-middle (pair_if_there name (lookup (same_name name) es)) e (remove_entry (same_name name) es)))

  pub drops_taken : (name : List ℕ) (es gone gone' fs : List (List ℕ × X)) → gone' ≡ gone ++ pair_if_there name (lookup (same_name name) es) → fs ≡ remove_entry (same_name name) es → DropsFrom es gone gone' fs
  drops_taken name es gone gone' fs g f = (
    pair_if_there name (lookup (same_name name) es),
    g,
    subst (λ l. IsPermutation es (pair_if_there name (lookup (same_name name) es) ++ l)) (sym f) (taken name es),
  )

  pub drops_replaced : (name : List ℕ) (x : X) (es gone gone' fs : List (List ℕ × X)) → gone' ≡ gone ++ pair_if_there name (lookup (same_name name) es) → fs ≡ (name, x) ∷ remove_entry (same_name name) es
      → DropsFrom ((name, x) ∷ es) gone gone' fs
  drops_replaced name x es gone gone' fs g f =
      let old : List (List ℕ × X) = pair_if_there name (lookup (same_name name) es) in (
        old,
        g,
        subst (λ l. IsPermutation ((name, x) ∷ es) (old ++ l)) (sym f)
            (IsPermutation-trans ((name, x) ∷ es) ((name, x) ∷ (old ++ remove_entry (same_name name) es)) _ (IsPermutation-cons (name, x) es _ (taken name es))
            (IsPermutation-sym _ _ (IsPermutation-middle old (name, x) (remove_entry (same_name name) es)))),
      )

  pub permutes_promoted : (test : List ℕ → Bool) (es : List (List ℕ × X)) → IsPermutation es (promoted test es)
  permutes_promoted test es = go (lookup_entry test es) refl where
    found : (fs : List (List ℕ × X)) (e : List ℕ × X) → lookup_entry test fs ≡ Some e → IsPermutation fs (e ∷ remove_entry test fs)
    found [] e h = absurd (never h) where
      never : {A : Type 0} {a : A} → None ≡ Some a → ⊥
      never p = subst (λ o. cond (is_some o) ⊥ (Unit {0})) p tt
    found (f ∷ fs) e h = at (test f.0) h (found fs e) where
      at : (b : Bool) → cond b (Some f) (lookup_entry test fs) ≡ Some e → (lookup_entry test fs ≡ Some e → IsPermutation fs (e ∷ remove_entry test fs)) → IsPermutation (f ∷ fs) (e ∷ cond b fs (f ∷ remove_entry test fs))
      at true is more = subst (λ x. IsPermutation (f ∷ fs) (option_map_or (λ y. y) x f ∷ fs)) is (IsPermutation-refl (f ∷ fs))
      at false is more =
          IsPermutation-trans (f ∷ fs) (f ∷ (e ∷ remove_entry test fs)) _ (IsPermutation-cons f fs _ (more is))
          (IsPermutation-sym _ _ (IsPermutation-middle (e ∷ []) f (remove_entry test fs)))

    go : (o : Option (List ℕ × X)) → lookup_entry test es ≡ o → IsPermutation es (option_map_or (λ e. e ∷ remove_entry test es) o es)
    go None h = IsPermutation-refl es
    go (Some e) h = found es e h

module _ {P E : Type 0} (f : P → E) where
  -- what stands for them is dropped in the same way
  pub drops_map : (placed gone gone' standing : List P) → DropsFrom placed gone gone' standing → DropsFrom (map f placed) (map f gone) (map f gone') (map f standing)
  drops_map placed gone gone' standing (dropped, g, p) = (
    map f dropped,
    ap (map f) g ∙ map-append f gone dropped,
    subst (IsPermutation (map f placed)) (map-append f dropped standing) (IsPermutation-map f placed (dropped ++ standing) p),
  )

  pub placed_map : (held kept : Bool) (new : P) (es : List P) → map f (entries_to_place_where held kept new es) ≡ entries_to_place_where held kept (f new) (map f es)
  placed_map held kept new es = go (kept && not held) where
    go : (b : Bool) → map f (cond b (new ∷ es) es) ≡ cond b (f new ∷ map f es) (map f es)
    go true = refl
    go false = refl
