-- What is left beside a new entry.
use Rattle.std.proofs.Common.{◌≡◌, ℕ, zero, suc, ◌+◌, ◌≤◌, Bool, true, false, ◌||◌, List, [], ◌∷◌, ◌++◌, refl, ap, sym, subst, ◌∙◌, cond, length, arith, Some, None, nat_eq, IfSome, Contains}
use Rattle.std.specs.Prelude.{Option, sum_by, nat_lt, is_some}
use Rattle.std.specs.Option.{option_map_or}
use Rattle.std.specs.List.{AllByRecursion}
use Rattle.std.proofs.lemmas.List.{length-append}
use Rattle.std.proofs.lemmas.List.Sums.{sum_by-cons, sum_by-append}
use Rattle.std.proofs.lemmas.Bool.Decides.{nat_tests}
use Rattle.memo_core.specs.Memo.{EntryHeader, first_with, without_first, without_last, brought_to_front, owner_weight, is_free, StandIn, fits_in, others_left_within, others_left_beside}
use Rattle.memo_core.proofs.Hits.{never}

pub never_not : true ≡ false → ⊥
never_not p = never (sym p)

pub or_false : (a b : Bool) → (a || b) ≡ false → (a ≡ false) × (b ≡ false)
or_false true b h = absurd (never_not h)
or_false false b h = (refl, h)

pub none_is : {A : Type 0} {a : A} → None ≡ Some a → ⊥
none_is p = never (ap is_some p)

module _ {E : Type 0} (t : E → Bool) where
  -- none of them passes
  abbrev pub NonePass : List E → Type 0
  NonePass es = AllByRecursion (λ e. t e ≡ false) es

  pub none_first : (es : List E) → NonePass es → first_with t es ≡ None
  none_first [] n = refl
  none_first (e ∷ es) n = ap (λ b. cond b (Some e) (first_with t es)) n.0 ∙ none_first es n.1

  -- the last that passes is found, and is left out
  pub last_apart : (xs : List E) (e : E) (ys : List E) → t e ≡ true → NonePass ys → (is_some (first_with t (xs ++ e ∷ ys)) ≡ true) × (without_last t (xs ++ e ∷ ys) ≡ xs ++ ys)
  last_apart [] e ys p n = (
    ap (λ b. is_some (cond b (Some e) (first_with t ys))) p,
    ap (λ o. cond (is_some o) (e ∷ without_last t ys) (cond (t e) ys (e ∷ ys))) (none_first ys n) ∙ ap (λ b. cond b ys (e ∷ ys)) p,
  )
  last_apart (x ∷ xs) e ys p n =
      let h = last_apart xs e ys p n in (
        go (t x) h.0,
        ap (λ b. cond b (x ∷ without_last t (xs ++ e ∷ ys)) (cond (t x) (xs ++ e ∷ ys) (x ∷ (xs ++ e ∷ ys)))) h.0 ∙ ap (λ r. x ∷ r) h.1,
      ) where
        go : (b : Bool) → is_some (first_with t (xs ++ e ∷ ys)) ≡ true → is_some (cond b (Some x) (first_with t (xs ++ e ∷ ys))) ≡ true
        go true h = refl
        go false h = h

  module _ (P : E → Type 0) where
    pub all_last : (es : List E) → AllByRecursion P es → AllByRecursion P (without_last t es)
    all_last [] a = tt
    all_last (e ∷ es) a = go (is_some (first_with t es)) (t e) (all_last es a.1) where
      go : (b c : Bool) → AllByRecursion P (without_last t es) → AllByRecursion P (cond b (e ∷ without_last t es) (cond c es (e ∷ es)))
      go true c r = (a.0, r)
      go false true r = a.1
      go false false r = a

  pub last_shorter : (es : List E) → length (without_last t es) ≤ length es
  last_shorter [] = omega arith
  last_shorter (e ∷ es) = go (is_some (first_with t es)) (t e) (last_shorter es) where
    go : (b c : Bool) → length (without_last t es) ≤ length es → length (cond b (e ∷ without_last t es) (cond c es (e ∷ es))) ≤ length (e ∷ es)
    go true c r = omega (arith, r)
    go false true r = omega arith
    go false false r = omega arith

  pub last_lighter : (w : E → ℕ) (es : List E) → sum_by w (without_last t es) ≤ sum_by w es
  last_lighter w [] = omega arith
  last_lighter w (e ∷ es) = go (is_some (first_with t es)) (t e) (last_lighter w es) where
    go : (b c : Bool) → sum_by w (without_last t es) ≤ sum_by w es → sum_by w (cond b (e ∷ without_last t es) (cond c es (e ∷ es))) ≤ sum_by w (e ∷ es)
    go true c r = let l = sum_by-cons w e (without_last t es) in let m = sum_by-cons w e es in omega (arith, r, l, m)
    go false true r = let m = sum_by-cons w e es in omega (arith, m)
    go false false r = omega arith

-- what stands in a list
module _ {E : Type 0} where
  pub contains_behind : (e : E) (es : List E) (x : E) → Contains es x → Contains (e ∷ es) x
  contains_behind e es x c = (suc c.0, omega (arith, c.1), c.2)

  pub contains_head : (e : E) (es : List E) → Contains (e ∷ es) e
  contains_head e es = (zero, omega arith, refl)

  pub map_all : {P Q : E → Type 0} → ((x : E) → P x → Q x) → (es : List E) → AllByRecursion P es → AllByRecursion Q es
  map_all f [] a = tt
  map_all f (e ∷ es) a = (f e a.0, map_all f es a.1)

  pub all_in : (es : List E) → AllByRecursion (Contains es) es
  all_in [] = tt
  all_in (e ∷ es) = (contains_head e es, map_all (λ x c. contains_behind e es x c) es (all_in es))

  pub of_all : (P : E → Type 0) (es : List E) (x : E) → AllByRecursion P es → Contains es x → P x
  of_all P [] x a (k, l, p) = absurd (omega (arith, l))
  of_all P (e ∷ es) x a (zero, l, p) = subst P p a.0
  of_all P (e ∷ es) x a (suc k, l, p) = of_all P es x a.1 (k, omega (arith, l), p)

  -- those that don't pass stay where the last that passes goes
  stay_last : (t : E → Bool) (es : List E) → AllByRecursion (λ e. t e ≡ false → Contains (without_last t es) e) es
  stay_last t [] = tt
  stay_last t (e ∷ es) = go (is_some (first_with t es)) (t e) refl (stay_last t es) where
    go : (b c : Bool) → t e ≡ c → AllByRecursion (λ x. t x ≡ false → Contains (without_last t es) x) es
        → AllByRecursion (λ x. t x ≡ false → Contains (cond b (e ∷ without_last t es) (cond c es (e ∷ es))) x) (e ∷ es)
    go true c i r = (λ f. contains_head e (without_last t es), map_all (λ x k f. contains_behind e (without_last t es) x (k f)) es r)
    go false true i r = (λ f. absurd (never (sym f ∙ i)), map_all (λ x k f. k) es (all_in es))
    go false false i r = (λ f. contains_head e es, map_all (λ x k f. contains_behind e es x k) es (all_in es))

  stay_without : (t : E → Bool) (es : List E) → AllByRecursion (λ e. t e ≡ false → Contains (without_first t es) e) es
  stay_without t [] = tt
  stay_without t (e ∷ es) = go (t e) refl (stay_without t es) where
    go : (c : Bool) → t e ≡ c → AllByRecursion (λ x. t x ≡ false → Contains (without_first t es) x) es
        → AllByRecursion (λ x. t x ≡ false → Contains (cond c es (e ∷ without_first t es)) x) (e ∷ es)
    go true i r = (λ f. absurd (never (sym f ∙ i)), map_all (λ x k f. k) es (all_in es))
    go false i r = (λ f. contains_head e (without_first t es), map_all (λ x k f. contains_behind e (without_first t es) x (k f)) es r)

  between : (x e : E) (es : List E) (y : E) → Contains (x ∷ es) y → Contains (x ∷ (e ∷ es)) y
  between x e es y (zero, l, p) = (zero, omega arith, p)
  between x e es y (suc k, l, p) = (suc (suc k), omega (arith, l), p)

  some_is : {a b : E} → Some a ≡ Some b → a ≡ b
  some_is {a} {b} p = ap (λ o. option_map_or (λ y. y) o a) p

  found_stand : (t : E → Bool) (es : List E) (x : E) → first_with t es ≡ Some x → AllByRecursion (Contains (x ∷ without_first t es)) es
  found_stand t [] x h = tt
  found_stand t (e ∷ es) x h = step (t e) refl h (found_stand t es x) where
    step : (c : Bool) → t e ≡ c → cond c (Some e) (first_with t es) ≡ Some x → (first_with t es ≡ Some x → AllByRecursion (Contains (x ∷ without_first t es)) es) → AllByRecursion (Contains (x ∷ cond c es (e ∷ without_first t es))) (e ∷ es)
    step true i k ih = (subst (λ y. Contains (y ∷ es) e) (some_is k) (contains_head e es), map_all (λ y c. contains_behind x es y c) es (all_in es))
    step false i k ih = (contains_behind x (e ∷ without_first t es) e (contains_head e (without_first t es)), map_all (λ y c. between x e (without_first t es) y c) es (ih k))

  -- all stand where one is brought to the front
  pub stand_brought : (t : E → Bool) (es : List E) → AllByRecursion (Contains (brought_to_front t es)) es
  stand_brought t es = go (first_with t es) refl where
    go : (o : Option E) → first_with t es ≡ o → AllByRecursion (Contains (option_map_or (λ e. e ∷ without_first t es) o es)) es
    go None h = all_in es
    go (Some x) h = found_stand t es x h

module _ {K E : Type 0} (mark : E → EntryHeader K) where
  -- where nothing changed, all stand
  pub stand_same : (o : ℕ) (es fs : List E) → fs ≡ es → StandIn mark o es fs
  stand_same o es fs e = subst (StandIn mark o es) (sym e) (map_all (λ x k i. k) es (all_in es))

  pub stand_front : (t : E → Bool) (o : ℕ) (es fs : List E) → fs ≡ brought_to_front t es → StandIn mark o es fs
  stand_front t o es fs e = subst (StandIn mark o es) (sym e) (map_all (λ x k i. k) es (stand_brought t es))

  pub owned_apart : (o : ℕ) (xs : List E) (e : E) (ys : List E) → owner_weight mark o (xs ++ e ∷ ys) ≡ cond (nat_eq (mark e).owner o) (mark e).weight 0 + owner_weight mark o (xs ++ ys)
  owned_apart o xs e ys =
      let w : E → ℕ = λ x. cond (nat_eq (mark x).owner o) (mark x).weight 0 in
      let a = sum_by-append w xs (e ∷ ys) in
      let b = sum_by-cons w e ys in
      let c = sum_by-append w xs ys in
      omega (arith, a, b, c)

  lt_false : (a b : ℕ) → b ≤ a → nat_lt a b ≡ false
  lt_false a b l = grind (arith, nat_tests)

  le_of : (a b : ℕ) → nat_lt a b ≡ false → b ≤ a
  le_of a b l = grind (arith, nat_tests)

  pub unfree : (share caller : ℕ) (es : List E) (e : E) → nat_eq (mark e).owner caller ≡ false → nat_eq share 0 ≡ false → owner_weight mark (mark e).owner es ≤ share → is_free mark share caller es e ≡ false
  unfree share caller es e a b c =
      ap (λ x. x || (nat_eq share 0 || nat_lt share (owner_weight mark (mark e).owner es))) a
      ∙ ap (λ x. x || nat_lt share (owner_weight mark (mark e).owner es)) b
      ∙ lt_false share (owner_weight mark (mark e).owner es) c

  pub unfree_parts : (share caller : ℕ) (es : List E) (e : E) → is_free mark share caller es e ≡ false → (nat_eq (mark e).owner caller ≡ false) × (nat_eq share 0 ≡ false) × (owner_weight mark (mark e).owner es ≤ share)
  unfree_parts share caller es e h =
      let a = or_false (nat_eq (mark e).owner caller) _ h in
      let b = or_false (nat_eq share 0) _ a.1 in
      (a.0, b.0, le_of share (owner_weight mark (mark e).owner es) b.1)

  -- what isn't free stays so as others go
  pub still_unfree : (share caller : ℕ) (es fs : List E) (x : E) → ((o : ℕ) → owner_weight mark o fs ≤ owner_weight mark o es) → is_free mark share caller es x ≡ false → is_free mark share caller fs x ≡ false
  still_unfree share caller es fs x less h =
      let p = unfree_parts share caller es x h in
      unfree share caller fs x p.0 p.1 (let l = less (mark x).owner in omega (arith, l, p.2))

  module _ (budget share : ℕ) (new : E) where
    abbrev free : List E → E → Bool
    free es = is_free mark share (mark new).owner es

    -- where all fit, all stay
    pub room_full : (n : ℕ) (es : List E) → fits_in mark budget (new ∷ es) ≡ true → others_left_within mark budget share (suc n) new es ≡ Some es
    room_full n es f = ap (λ b. cond b (Some es) (cond (is_some (first_with (free es) es)) (others_left_within mark budget share n new (without_last (free es) es)) None)) f

    -- where they don't and none is free, there is no room
    pub room_none : (n : ℕ) (es : List E) → fits_in mark budget (new ∷ es) ≡ false → NonePass (free es) es → others_left_within mark budget share (suc n) new es ≡ None
    room_none n es f h =
        ap (λ b. cond b (Some es) (cond (is_some (first_with (free es) es)) (others_left_within mark budget share n new (without_last (free es) es)) None)) f
        ∙ ap (λ o. cond (is_some o) (others_left_within mark budget share n new (without_last (free es) es)) None) (none_first (free es) es h)

    -- where they don't, the last free one goes
    pub room_drop : (xs : List E) (e : E) (ys : List E) → fits_in mark budget (new ∷ (xs ++ e ∷ ys)) ≡ false → free (xs ++ e ∷ ys) e ≡ true → NonePass (free (xs ++ e ∷ ys)) ys
        → others_left_beside mark budget share new (xs ++ e ∷ ys) ≡ others_left_beside mark budget share new (xs ++ ys)
    room_drop xs e ys f p n =
        let h = last_apart (free (xs ++ e ∷ ys)) xs e ys p n in
        let l : length (xs ++ e ∷ ys) ≡ suc (length (xs ++ ys)) = omega (arith, length-append xs (e ∷ ys), length-append xs ys) in
        ap (λ b. cond b (Some (xs ++ e ∷ ys)) (cond (is_some (first_with (free (xs ++ e ∷ ys)) (xs ++ e ∷ ys))) (others_left_within mark budget share (length (xs ++ e ∷ ys)) new (without_last (free (xs ++ e ∷ ys)) (xs ++ e ∷ ys))) None)) f
        ∙ ap (λ b. cond b (others_left_within mark budget share (length (xs ++ e ∷ ys)) new (without_last (free (xs ++ e ∷ ys)) (xs ++ e ∷ ys))) None) h.0
        ∙ ap (others_left_within mark budget share (length (xs ++ e ∷ ys)) new) h.1
        ∙ ap (λ k. others_left_within mark budget share k new (xs ++ ys)) l

    -- what holds of all holds of those that are left
    pub all_room : (P : E → Type 0) (n : ℕ) (es : List E) → AllByRecursion P es → IfSome (others_left_within mark budget share n new es) (AllByRecursion P)
    all_room P zero es a = tt
    all_room P (suc n) es a = go (fits_in mark budget (new ∷ es)) (is_some (first_with (free es) es)) (all_room P n (without_last (free es) es) (all_last (free es) P es a)) where
      go : (b c : Bool) → IfSome (others_left_within mark budget share n new (without_last (free es) es)) (AllByRecursion P) → IfSome (cond b (Some es) (cond c (others_left_within mark budget share n new (without_last (free es) es)) None)) (AllByRecursion P)
      go true c r = a
      go false true r = r
      go false false r = tt

    pub room_shorter : (m n : ℕ) (es : List E) → length es ≤ m → IfSome (others_left_within mark budget share n new es) (λ r. length r ≤ m)
    room_shorter m zero es l = tt
    room_shorter m (suc n) es l = go (fits_in mark budget (new ∷ es)) (is_some (first_with (free es) es)) (room_shorter m n (without_last (free es) es) (omega (arith, l, last_shorter (free es) es))) where
      go : (b c : Bool) → IfSome (others_left_within mark budget share n new (without_last (free es) es)) (λ r. length r ≤ m) → IfSome (cond b (Some es) (cond c (others_left_within mark budget share n new (without_last (free es) es)) None)) (λ r. length r ≤ m)
      go true c r = l
      go false true r = r
      go false false r = tt

    -- the entries of another owner that weigh at most the share all stay
    pub stand_room : (o : ℕ) → nat_eq o (mark new).owner ≡ false → nat_eq share 0 ≡ false → (n : ℕ) (es : List E) → owner_weight mark o es ≤ share
        → IfSome (others_left_within mark budget share n new es) (StandIn mark o es)
    stand_room o other some zero es l = tt
    stand_room o other some (suc n) es l =
        go (fits_in mark budget (new ∷ es)) (is_some (first_with (free es) es)) (others_left_within mark budget share n new (without_last (free es) es))
        (stand_room o other some n (without_last (free es) es) (let less = last_lighter (free es) (λ x. cond (nat_eq (mark x).owner o) (mark x).weight 0) es in omega (arith, l, less))) where
          mine : (e : E) → (mark e).owner ≡ o → free es e ≡ false
          mine e i = unfree share (mark new).owner es e (ap (λ x. nat_eq x (mark new).owner) i ∙ other) some (subst (λ x. owner_weight mark x es ≤ share) (sym i) l)

          go : (b c : Bool) (r : Option (List E)) → IfSome r (StandIn mark o (without_last (free es) es)) → IfSome (cond b (Some es) (cond c r None)) (StandIn mark o es)
          go true c r s = map_all (λ x k i. k) es (all_in es)
          go false true None s = tt
          go false true (Some rest) s =
              map_all (λ x k i. of_all (λ e. (mark e).owner ≡ o → Contains rest e) (without_last (free es) es) x s (k (mine x i)) i) es (stay_last (free es) es)
          go false false r s = tt
