-- Statements that hold or don't.
use Rattle.std.proofs.Common.{◌≡◌, ◌⊎◌, inl, inr, ⊎_elim, ℕ, zero, suc, ◌<◌, ◌≤◌, ℤ, ◌≤ℤ◌, ◌<ℤ◌, Bool, true, false, List, [], ◌∷◌, length, get_or, All, Any, refl, sym, ap, subst, ◌∙◌, arith}
use Rattle.std.specs.Int.Signed.{clash_ℤ}
use Rattle.std.specs.Ordering.{int_eq}
use Rattle.std.proofs.lemmas.Int.{by_lt_z}
use Rattle.std.proofs.lemmas.Bool.{false≢true}
use Rattle.std.proofs.lemmas.Bool.Decides.{Decides-int_eq}
use Rattle.std.proofs.lemmas.List.Elements.{All-cons, All-nil}

abbrev pub Decided : Type 0 → Type 0
Decided P = P ⊎ (P → ⊥)

pub decided_by : {P Q : Type 0} → (P → Q) → (Q → P) → Decided P → Decided Q
decided_by there back (inl p) = inl (there p)
decided_by there back (inr n) = inr (λ q. n (back q))

pub decided_both : {P Q : Type 0} → Decided P → Decided Q → Decided (P × Q)
decided_both (inl p) (inl q) = inl (p, q)
decided_both (inl p) (inr n) = inr (λ h. n h.1)
decided_both (inr n) d = inr (λ h. n h.0)

pub decided_either : {P Q : Type 0} → Decided P → Decided Q → Decided (P ⊎ Q)
decided_either (inl p) d = inl (inl p)
decided_either (inr n) (inl q) = inl (inr q)
decided_either (inr n) (inr m) = inr (λ h. ⊎_elim n m h)

pub decided_not : {P : Type 0} → Decided P → Decided (P → ⊥)
decided_not (inl p) = inr (λ n. n p)
decided_not (inr n) = inl n

-- numbers
pub at_most_or_more : (m n : ℕ) → (m ≤ n) ⊎ (n < m)
at_most_or_more zero n = inl (omega arith)
at_most_or_more (suc m) zero = inr (omega arith)
at_most_or_more (suc m) (suc n) = ⊎_elim (λ h. inl (omega (arith, h))) (λ h. inr (omega (arith, h))) (at_most_or_more m n)

more_and_at_most : (m n : ℕ) → n < m → m ≤ n → ⊥
more_and_at_most m n h k = omega (arith, h, k)

pub decided_at_most : (m n : ℕ) → Decided (m ≤ n)
decided_at_most m n = ⊎_elim (λ h. inl h) (λ h. inr (more_and_at_most m n h)) (at_most_or_more m n)

pub decided_below : (m n : ℕ) → Decided (m < n)
decided_below m n = ⊎_elim (λ h. inr (λ k. more_and_at_most n m k h)) (λ h. inl h) (at_most_or_more n m)

both_at_most : (m n : ℕ) → m ≤ n → n ≤ m → m ≡ n
both_at_most m n h k = omega (arith, h, k)

same_at_most : (m n : ℕ) → m ≡ n → (m ≤ n) × (n ≤ m)
same_at_most m n e = (omega (arith, e), omega (arith, e))

pub decided_same : (m n : ℕ) → Decided (m ≡ n)
decided_same m n = decided_by (λ h. both_at_most m n h.0 h.1) (same_at_most m n) (decided_both (decided_at_most m n) (decided_at_most n m))

pub decided_at_most_ℤ : (a b : ℤ) → Decided (a ≤ℤ b)
decided_at_most_ℤ a b = by_lt_z b a (λ h. inr (λ k. clash_ℤ h k)) (λ h. inl h)

pub decided_less_ℤ : (a b : ℤ) → Decided (a <ℤ b)
decided_less_ℤ a b = by_lt_z a b (λ h. inl h) (λ h. inr (λ k. clash_ℤ k h))

by_test : (P : Type 0) (b : Bool) → (b ≡ true → P) → (P → b ≡ true) → Decided P
by_test P true so only = inl (so refl)
by_test P false so only = inr (λ p. false≢true (only p))

pub decided_same_ℤ : (a b : ℤ) → Decided (a ≡ b)
decided_same_ℤ a b = by_test (a ≡ b) (int_eq a b) (Decides-int_eq a b).0 (Decides-int_eq a b).1

pub first_same : {A : Type 0} → (d : A) (x y : A) (xs ys : List A) → (x ∷ xs) ≡ (y ∷ ys) → x ≡ y
first_same d x y xs ys e = ap (λ l. get_or l 0 d) e

abbrev rest_of : {A : Type 0} → List A → List A
rest_of [] = []
rest_of (x ∷ xs) = xs

rest_same : {A : Type 0} → (x y : A) (xs ys : List A) → (x ∷ xs) ≡ (y ∷ ys) → xs ≡ ys
rest_same x y xs ys e = ap rest_of e

no_item : {A : Type 0} → (x : A) (xs : List A) → (x ∷ xs) ≡ [] → ⊥
no_item x xs e = cc e

pub some_item : {A : Type 0} → (x : A) (xs : List A) → [] ≡ (x ∷ xs) → ⊥
some_item x xs e = cc e

pub decided_same_list : (xs ys : List ℤ) → Decided (xs ≡ ys)
decided_same_list [] [] = inl refl
decided_same_list [] (y ∷ ys) = inr (some_item y ys)
decided_same_list (x ∷ xs) [] = inr (no_item x xs)
decided_same_list (x ∷ xs) (y ∷ ys) =
    decided_by (λ h. ap (λ (z : ℤ). z ∷ xs) h.0 ∙ ap (λ (l : List ℤ). y ∷ l) h.1) (λ e. (first_same x x y xs ys e, rest_same x y xs ys e))
    (decided_both (decided_same_ℤ x y) (decided_same_list xs ys))

-- all numbers below one, or some
before_next : (n k : ℕ) → k < suc n → (k < n) ⊎ (k ≡ n)
before_next n k h = ⊎_elim (λ a. inr (omega (arith, a, h))) (λ a. inl a) (at_most_or_more n k)

below_next : (n k : ℕ) → k < n → k < suc n
below_next n k h = omega (arith, h)

last_below : (n : ℕ) → n < suc n
last_below n = omega arith

pub none_below : (k : ℕ) → k < 0 → ⊥
none_below k h = omega (arith, h)

one_more : (n : ℕ) (P Q : ℕ → Type 0) → P n ⊎ Q n → ((k : ℕ) → k < n → P k) ⊎ ((k : ℕ) × (k < n) × Q k) →
    ((k : ℕ) → k < suc n → P k) ⊎ ((k : ℕ) × (k < suc n) × Q k)
one_more n P Q last (inr h) = inr (h.0, below_next n h.0 h.1, h.2)
one_more n P Q (inr q) (inl all) = inr (n, last_below n, q)
one_more n P Q (inl p) (inl all) = inl (λ k h. ⊎_elim (λ a. all k a) (λ e. subst P (sym e) p) (before_next n k h))

pub all_or_one_below : (n : ℕ) (P Q : ℕ → Type 0) → ((k : ℕ) → k < n → P k ⊎ Q k) → ((k : ℕ) → k < n → P k) ⊎ ((k : ℕ) × (k < n) × Q k)
all_or_one_below zero P Q d = inl (λ k h. absurd (none_below k h))
all_or_one_below (suc n) P Q d = one_more n P Q (d n (omega arith)) (all_or_one_below n P Q (λ k h. d k (below_next n k h)))

pub decided_all_below : (n : ℕ) (P : ℕ → Type 0) → ((k : ℕ) → k < n → Decided (P k)) → Decided ((k : ℕ) → k < n → P k)
decided_all_below n P d = ⊎_elim (λ all. inl all) (λ h. inr (λ all. h.2 (all h.0 h.1))) (all_or_one_below n P (λ k. P k → ⊥) d)

either_way : {P : Type 0} → Decided P → (P → ⊥) ⊎ P
either_way (inl p) = inr p
either_way (inr n) = inl n

pub decided_some_below : (n : ℕ) (P : ℕ → Type 0) → ((k : ℕ) → k < n → Decided (P k)) → Decided ((k : ℕ) × (k < n) × P k)
decided_some_below n P d =
    ⊎_elim (λ none. inr (λ h. none h.0 h.1 h.2)) (λ h. inl h) (all_or_one_below n (λ k. P k → ⊥) P (λ k h. either_way (d k h)))

-- all items of a list, or some
pub first_there : (n : ℕ) → 0 < suc n
first_there n = omega arith

pub later_there : (k n : ℕ) → k < n → suc k < suc n
later_there k n h = omega (arith, h)

any_first : {A : Type 0} → (Q : A → Type 0) (x : A) (xs : List A) → Q x → Any Q (x ∷ xs)
any_first Q x xs q = (0, x, first_there (length xs), refl, q)

any_later : {A : Type 0} → (Q : A → Type 0) (x : A) (xs : List A) → Any Q xs → Any Q (x ∷ xs)
any_later Q x xs h = (suc h.0, h.1, later_there h.0 (length xs) h.2, h.3, h.4)

all_or_any_more : {A : Type 0} → (P Q : A → Type 0) (x : A) (xs : List A) → P x ⊎ Q x → All P xs ⊎ Any Q xs → All P (x ∷ xs) ⊎ Any Q (x ∷ xs)
all_or_any_more P Q x xs (inr q) rest = inr (any_first Q x xs q)
all_or_any_more P Q x xs (inl p) (inr some) = inr (any_later Q x xs some)
all_or_any_more P Q x xs (inl p) (inl all) = inl (All-cons P x xs p all)

pub all_or_any : {A : Type 0} → (P Q : A → Type 0) → ((x : A) → P x ⊎ Q x) → (xs : List A) → All P xs ⊎ Any Q xs
all_or_any P Q d [] = inl (All-nil P)
all_or_any P Q d (x ∷ xs) = all_or_any_more P Q x xs (d x) (all_or_any P Q d xs)

pub any_fails : {A : Type 0} → (P : A → Type 0) (xs : List A) → Any (λ x. P x → ⊥) xs → All P xs → ⊥
any_fails P xs some all = some.4 (subst P some.3 (all some.0 some.1 some.2))

pub decided_all : {A : Type 0} → (P : A → Type 0) → ((x : A) → Decided (P x)) → (xs : List A) → Decided (All P xs)
decided_all P d xs = ⊎_elim (λ all. inl all) (λ some. inr (any_fails P xs some)) (all_or_any P (λ x. P x → ⊥) d xs)

pub decided_any : {A : Type 0} → (P : A → Type 0) → ((x : A) → Decided (P x)) → (xs : List A) → Decided (Any P xs)
decided_any P d xs =
    ⊎_elim (λ none. inr (λ some. subst (λ x. P x → ⊥) some.3 (none some.0 some.1 some.2) some.4)) (λ some. inl some) (all_or_any (λ x. P x → ⊥) P (λ x. either_way (d x)) xs)
