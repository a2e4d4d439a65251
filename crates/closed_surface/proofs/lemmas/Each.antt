-- Properties of each item of a list, by recursion, and sums over lists.
use Rattle.std.proofs.Common.{◌≡◌, ◌⊎◌, inl, inr, List, [], ◌∷◌, ◌++◌, refl, sym, ap, ap₂, ◌∙◌, subst, arith, ℤ, pos, ◌+ℤ◌, ◌-ℤ◌}
use Rattle.std.specs.List.{All}
use Rattle.std.proofs.lemmas.List.Elements.{All-head, All-tail}
use Rattle.plane_predicate.proofs.lemmas.IntegerRing.{sums}
use Rattle.plane_predicate.specs.Sums.{sum_over}

abbrev pub Each : {A : Type 0} → (A → Type 0) → List A → Type 0
Each P [] = Unit {0}
Each P (x ∷ xs) = P x × Each P xs

pub each_weaker : {A : Type 0} (P Q : A → Type 0) → ((x : A) → P x → Q x) → (xs : List A) → Each P xs → Each Q xs
each_weaker P Q h [] e = tt
each_weaker P Q h (x ∷ xs) e = (h x e.0, each_weaker P Q h xs e.1)

pub each_both : {A : Type 0} (P Q : A → Type 0) (xs : List A) → Each P xs → Each Q xs → Each (λ x. P x × Q x) xs
each_both P Q [] e f = tt
each_both P Q (x ∷ xs) e f = ((e.0, f.0), each_both P Q xs e.1 f.1)

pub each_append : {A : Type 0} (P : A → Type 0) (xs ys : List A) → Each P xs → Each P ys → Each P (xs ++ ys)
each_append P [] ys e f = f
each_append P (x ∷ xs) ys e f = (e.0, each_append P xs ys e.1 f)

pub each_left : {A : Type 0} (P : A → Type 0) (xs ys : List A) → Each P (xs ++ ys) → Each P xs
each_left P [] ys e = tt
each_left P (x ∷ xs) ys e = (e.0, each_left P xs ys e.1)

pub each_right : {A : Type 0} (P : A → Type 0) (xs ys : List A) → Each P (xs ++ ys) → Each P ys
each_right P [] ys e = e
each_right P (x ∷ xs) ys e = each_right P xs ys e.1

pub each_from_all : {A : Type 0} (P : A → Type 0) (xs : List A) → All P xs → Each P xs
each_from_all P [] h = tt
each_from_all P (x ∷ xs) h = (All-head P x xs h, each_from_all P xs (All-tail P x xs h))

-- the item is among them
abbrev pub Member : {A : Type 0} → A → List A → Type 0
Member x [] = ⊥
Member x (y ∷ ys) = (x ≡ y) ⊎ Member x ys

pub each_member : {A : Type 0} (P : A → Type 0) (xs : List A) → Each P xs → (x : A) → Member x xs → P x
each_member P [] e x m = absurd m
each_member P (y ∷ ys) e x (inl h) = subst P (sym h) e.0
each_member P (y ∷ ys) e x (inr h) = each_member P ys e.1 x h

pub members : {A : Type 0} (xs : List A) → Each (λ x. Member x xs) xs
members [] = tt
members (x ∷ xs) = (inl refl, each_weaker (λ y. Member y xs) (λ y. Member y (x ∷ xs)) (λ y h. inr h) xs (members xs))

-- ---- sums
pub total_same : {A : Type 0} (P : A → Type 0) (f g : A → ℤ) → ((x : A) → P x → f x ≡ g x) → (xs : List A) → Each P xs → sum_over f xs ≡ sum_over g xs
total_same P f g h [] e = refl
total_same P f g h (x ∷ xs) e = ap₂ (λ (a b : ℤ). a +ℤ b) (h x e.0) (total_same P f g h xs e.1)

four_sums : (a b c d s : ℤ) → s ≡ c +ℤ d → (a +ℤ b) +ℤ s ≡ (a +ℤ c) +ℤ (b +ℤ d)
four_sums a b c d s e = omega (arith, sums)

pub total_sum : {A : Type 0} (f g : A → ℤ) (xs : List A) → sum_over (λ x. f x +ℤ g x) xs ≡ sum_over f xs +ℤ sum_over g xs
total_sum f g [] = refl
total_sum f g (x ∷ xs) = four_sums (f x) (g x) (sum_over f xs) (sum_over g xs) (sum_over (λ y. f y +ℤ g y) xs) (total_sum f g xs)

four_differences : (a b c d s : ℤ) → s ≡ c -ℤ d → (a -ℤ b) +ℤ s ≡ (a +ℤ c) -ℤ (b +ℤ d)
four_differences a b c d s e = omega (arith, sums)

pub total_difference : {A : Type 0} (f g : A → ℤ) (xs : List A) → sum_over (λ x. f x -ℤ g x) xs ≡ sum_over f xs -ℤ sum_over g xs
total_difference f g [] = refl
total_difference f g (x ∷ xs) = four_differences (f x) (g x) (sum_over f xs) (sum_over g xs) (sum_over (λ y. f y -ℤ g y) xs) (total_difference f g xs)

pub total_zero : {A : Type 0} (P : A → Type 0) (f : A → ℤ) → ((x : A) → P x → f x ≡ pos 0) → (xs : List A) → Each P xs → sum_over f xs ≡ pos 0
total_zero P f h [] e = refl
total_zero P f h (x ∷ xs) e = ap₂ (λ (a b : ℤ). a +ℤ b) (h x e.0) (total_zero P f h xs e.1)

nothing_out : {A : Type 0} (xs : List A) → sum_over (λ (x : A). pos 0) xs ≡ pos 0
nothing_out [] = refl
nothing_out (x ∷ xs) = ap (λ (a : ℤ). pos 0 +ℤ a) (nothing_out xs)

-- a sum of sums in the other order
pub total_exchanged : {A B : Type 0} (f : A → B → ℤ) (xs : List A) (ys : List B) → sum_over (λ x. sum_over (f x) ys) xs ≡ sum_over (λ y. sum_over (λ x. f x y) xs) ys
total_exchanged f [] ys = sym (nothing_out ys)
total_exchanged f (x ∷ xs) ys =
    ap (λ (a : ℤ). sum_over (f x) ys +ℤ a) (total_exchanged f xs ys) ∙ sym (total_sum (f x) (λ y. sum_over (λ z. f z y) xs) ys)
