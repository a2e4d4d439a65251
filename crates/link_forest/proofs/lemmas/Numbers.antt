-- Items of a list by number, where the list is put together of others.
use Rattle.std.proofs.Common.{◌≡◌, ℕ, zero, suc, ◌<◌, ◌⊎◌, inl, inr, List, [], ◌∷◌, ◌++◌, length, Some, slice_get, refl, ap, arith}

-- an item of a list stands where it stood once more items follow
pub stays : {A : Type 0} (xs ys : List A) (i : ℕ) (x : A) → slice_get xs i ≡ Some x → slice_get (xs ++ ys) i ≡ Some x
stays [] ys i x h = cc
stays (y ∷ xs) ys zero x h = h
stays (y ∷ xs) ys (suc i) x h = stays xs ys i x h

-- and below the length of the first list no other item stands there
pub stood : {A : Type 0} (xs ys : List A) (i : ℕ) (x : A) → i < length xs → slice_get (xs ++ ys) i ≡ Some x → slice_get xs i ≡ Some x
stood [] ys i x l h = absurd (omega arith)
stood (y ∷ xs) ys zero x l h = h
stood (y ∷ xs) ys (suc i) x l h = stood xs ys i x (omega arith) h

-- the item behind a list
pub behind_all : {A : Type 0} (xs ys : List A) (x : A) → slice_get (xs ++ x ∷ ys) (length xs) ≡ Some x
behind_all [] ys x = refl
behind_all (y ∷ xs) ys x = behind_all xs ys x

-- an item of a list with one more item is one of the list or that one
pub which : {A : Type 0} (xs : List A) (more : A) (i : ℕ) (x : A) → slice_get (xs ++ more ∷ []) i ≡ Some x → (slice_get xs i ≡ Some x) ⊎ ((i ≡ length xs) × (more ≡ x))
which [] more zero x h = inr (refl, cc)
which [] more (suc i) x h = cc
which (y ∷ xs) more zero x h = inl h
which (y ∷ xs) more (suc i) x h = elim (which xs more i x h) [ inl there ↦ inl there | inr last ↦ inr (ap suc last.0, last.1) ]

-- the items before and behind an item
pub record Parts {A : Type 0} (xs : List A) (i : ℕ) (x : A) : Type 0 where
  pub before : List A
  pub after : List A
  pub whole : xs ≡ before ++ x ∷ after
  pub place : length before ≡ i

pub parts : {A : Type 0} (xs : List A) (i : ℕ) (x : A) → slice_get xs i ≡ Some x → Parts xs i x
parts [] i x h = cc
parts (y ∷ xs) zero x h = record { before = []; after = xs; whole = cc; place = refl }
parts (y ∷ xs) (suc i) x h =
    let p = parts xs i x h in
    record { before = y ∷ p.before; after = p.after; whole = ap (λ zs. y ∷ zs) p.whole; place = ap suc p.place }
