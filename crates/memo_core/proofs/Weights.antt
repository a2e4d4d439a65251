-- What rows say of owners.
use Rattle.std.proofs.Common.{◌≡◌, ℕ, suc, ◌+◌, ◌<◌, ◌≤◌, Bool, true, false, List, [], ◌∷◌, ◌++◌, refl, ap, sym, ◌∙◌, cond, length, arith, Some, None, option_map, nat_eq, set, get_or}
use Rattle.std.specs.Prelude.{Option}
use Rattle.std.proofs.lemmas.Option.{same_Some}
use Rattle.std.proofs.lemmas.Bool.Decides.{nat_tests}
use Rattle.memo_core.specs.Fields.{weight_at, place_at}
use Rattle.memo_core.specs.declared.owners.OwnerWeight.{OwnerWeight}
use Rattle.memo_core.proofs.Hits.{none_some}

-- a row by its parts
abbrev pub row : ℕ → ℕ → OwnerWeight
row owner weight = record { owner = owner; weight = weight }

abbrev shifted : ℕ → Option ℕ → Option ℕ
shifted n o = option_map (λ k. n + k) o

back : (o : Option ℕ) (n : ℕ) → option_map (λ k. suc k) o ≡ Some n → (m : ℕ) × (o ≡ Some m) × (n ≡ suc m)
back None n h = absurd (none_some h)
back (Some m) n h = (m, refl, sym (same_Some _ _ h))

eq_is : (a b : ℕ) → nat_eq a b ≡ true → a ≡ b
eq_is a b h = grind (arith, nat_tests, h)

-- a place is within the rows, and its row is the owner's
pub place_within : (owner : ℕ) (rs : List OwnerWeight) (n : ℕ) → place_at owner rs ≡ Some n → n < length rs
place_within owner [] n h = absurd (none_some h)
place_within owner (r ∷ rs) n h = go (nat_eq r.owner owner) h (place_within owner rs) where
  go : (b : Bool) → cond b (Some 0) (option_map (λ k. suc k) (place_at owner rs)) ≡ Some n → ((m : ℕ) → place_at owner rs ≡ Some m → m < length rs) → n < length (r ∷ rs)
  go true k ih = let z : 0 ≡ n = same_Some _ _ k in omega (arith, z)
  go false k ih = let m = back (place_at owner rs) n k in omega (arith, m.2, ih m.0 m.1)

pub place_weight : (owner : ℕ) (rs : List OwnerWeight) (n : ℕ) (d : OwnerWeight) → place_at owner rs ≡ Some n → weight_at owner rs ≡ (get_or rs n d).weight
place_weight owner [] n d h = absurd (none_some h)
place_weight owner (r ∷ rs) n d h = go (nat_eq r.owner owner) h (λ m. place_weight owner rs m d) where
  go : (b : Bool) → cond b (Some 0) (option_map (λ k. suc k) (place_at owner rs)) ≡ Some n → ((m : ℕ) → place_at owner rs ≡ Some m → weight_at owner rs ≡ (get_or rs m d).weight) → cond b r.weight (weight_at owner rs) ≡ (get_or (r ∷ rs) n d).weight
  go true k ih = ap (λ i. (get_or (r ∷ rs) i d).weight) (same_Some _ _ k)
  go false k ih = let m = back (place_at owner rs) n k in ih m.0 m.1 ∙ ap (λ i. (get_or (r ∷ rs) i d).weight) (sym m.2)

pub no_place : (owner : ℕ) (rs : List OwnerWeight) → place_at owner rs ≡ None → weight_at owner rs ≡ 0
no_place owner [] h = refl
no_place owner (r ∷ rs) h = go (nat_eq r.owner owner) h (no_place owner rs) where
  none_back : (o : Option ℕ) → option_map (λ k. suc k) o ≡ None → o ≡ None
  none_back None k = refl
  none_back (Some m) k = absurd (none_some (sym k))

  go : (b : Bool) → cond b (Some 0) (option_map (λ k. suc k) (place_at owner rs)) ≡ None → (place_at owner rs ≡ None → weight_at owner rs ≡ 0) → cond b r.weight (weight_at owner rs) ≡ 0
  go true k ih = absurd (none_some (sym k))
  go false k ih = ih (none_back (place_at owner rs) k)

-- another weight in the owner's row
pub set_weight : (owner weight : ℕ) (rs : List OwnerWeight) (n : ℕ) → place_at owner rs ≡ Some n → (other : ℕ) → weight_at other (set rs n (row owner weight)) ≡ cond (nat_eq owner other) weight (weight_at other rs)
set_weight owner weight [] n h other = absurd (none_some h)
set_weight owner weight (r ∷ rs) n h other = go (nat_eq r.owner owner) refl h (λ m i. set_weight owner weight rs m i other) where
  at_head : (b : Bool) → r.owner ≡ owner → nat_eq owner other ≡ b → cond b weight (weight_at other rs) ≡ cond b weight (cond (nat_eq r.owner other) r.weight (weight_at other rs))
  at_head true i k = refl
  at_head false i k = ap (λ b. cond b r.weight (weight_at other rs)) (sym (ap (λ o. nat_eq o other) i ∙ k))

  past : (b c : Bool) → nat_eq r.owner owner ≡ false → nat_eq r.owner other ≡ b → nat_eq owner other ≡ c → cond b r.weight (cond c weight (weight_at other rs)) ≡ cond c weight (cond b r.weight (weight_at other rs))
  past true true i j k = absurd (let p : r.owner ≡ owner = eq_is r.owner other j ∙ sym (eq_is owner other k) in grind (arith, nat_tests, i, p))
  past true false i j k = refl
  past false true i j k = refl
  past false false i j k = refl

  go : (b : Bool) → nat_eq r.owner owner ≡ b → cond b (Some 0) (option_map (λ k. suc k) (place_at owner rs)) ≡ Some n
      → ((m : ℕ) → place_at owner rs ≡ Some m → weight_at other (set rs m (row owner weight)) ≡ cond (nat_eq owner other) weight (weight_at other rs))
      → weight_at other (set (r ∷ rs) n (row owner weight)) ≡ cond (nat_eq owner other) weight (weight_at other (r ∷ rs))
  go true i k ih =
      ap (λ m. weight_at other (set (r ∷ rs) m (row owner weight))) (sym (same_Some _ _ k))
      ∙ at_head (nat_eq owner other) (eq_is r.owner owner i) refl
  go false i k ih =
      let m = back (place_at owner rs) n k in
      ap (λ j. weight_at other (set (r ∷ rs) j (row owner weight))) m.2
      ∙ ap (cond (nat_eq r.owner other) r.weight) (ih m.0 m.1)
      ∙ past (nat_eq r.owner other) (nat_eq owner other) i refl refl

-- one row more
pub push_weight : (owner weight : ℕ) (rs : List OwnerWeight) → place_at owner rs ≡ None → (other : ℕ) → weight_at other (rs ++ row owner weight ∷ []) ≡ weight_at other rs + cond (nat_eq owner other) weight 0
push_weight owner weight [] h other = go (nat_eq owner other) where
  go : (b : Bool) → cond b weight 0 ≡ 0 + cond b weight 0
  go true = omega arith
  go false = refl
push_weight owner weight (r ∷ rs) h other = go (nat_eq r.owner owner) refl h (λ i. push_weight owner weight rs i other) where
  none_back : (o : Option ℕ) → option_map (λ k. suc k) o ≡ None → o ≡ None
  none_back None k = refl
  none_back (Some m) k = absurd (none_some (sym k))

  past : (b c : Bool) → nat_eq r.owner owner ≡ false → nat_eq r.owner other ≡ b → nat_eq owner other ≡ c → cond b r.weight (weight_at other rs + cond c weight 0) ≡ cond b r.weight (weight_at other rs) + cond c weight 0
  past true true i j k = absurd (let p : r.owner ≡ owner = eq_is r.owner other j ∙ sym (eq_is owner other k) in grind (arith, nat_tests, i, p))
  past true false i j k = omega arith
  past false c i j k = refl

  go : (b : Bool) → nat_eq r.owner owner ≡ b → cond b (Some 0) (option_map (λ k. suc k) (place_at owner rs)) ≡ None
      → (place_at owner rs ≡ None → weight_at other (rs ++ row owner weight ∷ []) ≡ weight_at other rs + cond (nat_eq owner other) weight 0)
      → weight_at other ((r ∷ rs) ++ row owner weight ∷ []) ≡ weight_at other (r ∷ rs) + cond (nat_eq owner other) weight 0
  go true i k ih = absurd (none_some (sym k))
  go false i k ih = ap (cond (nat_eq r.owner other) r.weight) (ih (none_back (place_at owner rs) k)) ∙ past (nat_eq r.owner other) (nat_eq owner other) i refl refl

-- the weight of an owner, more or less
pub set_less : (owner weight rest : ℕ) (rs : List OwnerWeight) (n : ℕ) → place_at owner rs ≡ Some n → rest + weight ≡ weight_at owner rs → (other : ℕ) → weight_at other (set rs n (row owner rest)) + cond (nat_eq owner other) weight 0 ≡ weight_at other rs
set_less owner weight rest rs n h e other = ap (λ k. k + cond (nat_eq owner other) weight 0) (set_weight owner rest rs n h other) ∙ go (nat_eq owner other) refl where
  go : (b : Bool) → nat_eq owner other ≡ b → cond b rest (weight_at other rs) + cond b weight 0 ≡ weight_at other rs
  go true i = e ∙ ap (λ o. weight_at o rs) (eq_is owner other i)
  go false i = omega arith

pub set_more : (owner weight sum : ℕ) (rs : List OwnerWeight) (n : ℕ) → place_at owner rs ≡ Some n → sum ≡ weight_at owner rs + weight → (other : ℕ) → weight_at other (set rs n (row owner sum)) ≡ weight_at other rs + cond (nat_eq owner other) weight 0
set_more owner weight sum rs n h e other = set_weight owner sum rs n h other ∙ go (nat_eq owner other) refl where
  go : (b : Bool) → nat_eq owner other ≡ b → cond b sum (weight_at other rs) ≡ weight_at other rs + cond b weight 0
  go true i = e ∙ ap (λ o. weight_at o rs + weight) (eq_is owner other i)
  go false i = omega arith

pub take_none : (owner weight : ℕ) (rs : List OwnerWeight) → place_at owner rs ≡ None → weight ≤ weight_at owner rs → (other : ℕ) → weight_at other rs + cond (nat_eq owner other) weight 0 ≡ weight_at other rs
take_none owner weight rs h l other = go (nat_eq owner other) where
  z : weight ≡ 0
  z = omega (arith, l, no_place owner rs h)

  go : (b : Bool) → weight_at other rs + cond b weight 0 ≡ weight_at other rs
  go true = omega (arith, z)
  go false = omega arith

-- one place further
pub place_step : (owner n : ℕ) (r : OwnerWeight) (rs : List OwnerWeight) → nat_eq r.owner owner ≡ false → option_map (λ k. n + k) (place_at owner (r ∷ rs)) ≡ option_map (λ k. n + 1 + k) (place_at owner rs)
place_step owner n r rs h = ap (λ b. option_map (λ k. n + k) (cond b (Some 0) (option_map (λ k. suc k) (place_at owner rs)))) h ∙ go (place_at owner rs) where
  go : (o : Option ℕ) → option_map (λ k. n + k) (option_map (λ k. suc k) o) ≡ option_map (λ k. n + 1 + k) o
  go None = refl
  go (Some k) = ap Some (omega arith)

pub found_weight : (owner : ℕ) (rs : List OwnerWeight) (n : ℕ) (r : OwnerWeight) → place_at owner rs ≡ Some n → get_or rs n r ≡ r → weight_at owner rs ≡ r.weight
found_weight owner rs n r p g = place_weight owner rs n r p ∙ ap (λ (x : OwnerWeight). x.weight) g
