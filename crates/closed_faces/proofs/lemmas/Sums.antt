-- Sums over lists, and lists that hold each item as often.
use Rattle.std.proofs.Common.{◌≡◌, ◌⊎◌, inl, inr, ℕ, zero, suc, ◌+◌, ◌<◌, Bool, true, false, cond, List, [], ◌∷◌, ◌++◌, length, get_or, map, refl, sym, ap, ap₂, ◌∙◌, subst, arith, ℤ, pos, ◌+ℤ◌, ◌-ℤ◌, ◌≤ℤ◌}
use Rattle.std.specs.Bool.{Decides}
use Rattle.std.proofs.Math.Seq.{get_or-append_seam}
use Rattle.std.proofs.lemmas.List.{length-append}
use Rattle.std.specs.List.{flat_map, AllByRecursion}
use Rattle.plane_predicate.proofs.lemmas.IntegerRing.{sums}
use Rattle.closed_faces.specs.Sums.{times_in}
use Rattle.plane_predicate.specs.Sums.{sum_over}

-- ---- sums over lists
pub total_append : {A : Type 0} (f : A → ℤ) (xs ys : List A) → sum_over f (xs ++ ys) ≡ sum_over f xs +ℤ sum_over f ys
total_append f [] ys = omega (arith, sums)
total_append f (x ∷ xs) ys = omega (arith, sums, total_append f xs ys)

pub total_flat : {X A : Type 0} (f : A → ℤ) (g : X → List A) (xs : List X) → sum_over f (flat_map g xs) ≡ sum_over (λ x. sum_over f (g x)) xs
total_flat f g [] = refl
total_flat f g (x ∷ xs) = total_append f (g x) (flat_map g xs) ∙ ap (λ (n : ℤ). sum_over f (g x) +ℤ n) (total_flat f g xs)

no_less : (x y : ℤ) → x +ℤ y ≡ pos 0 → pos 0 ≤ℤ x → pos 0 ≤ℤ y → (x ≡ pos 0) × (y ≡ pos 0)
no_less x y e h k = (omega (arith, sums, e, h, k), omega (arith, sums, e, h, k))

least_sum : (x y : ℤ) → pos 0 ≤ℤ x → pos 0 ≤ℤ y → pos 0 ≤ℤ (x +ℤ y)
least_sum x y h k = omega (arith, sums, h, k)

pub total_least : {A : Type 0} (f : A → ℤ) (xs : List A) → AllByRecursion (λ x. pos 0 ≤ℤ f x) xs → pos 0 ≤ℤ sum_over f xs
total_least f [] h = omega (arith, sums)
total_least f (x ∷ xs) h = least_sum (f x) (sum_over f xs) h.0 (total_least f xs h.1)

-- where numbers of at least 0 sum to 0, the first is 0
pub first_zero : {A : Type 0} (f : A → ℤ) (x : A) (xs : List A) → AllByRecursion (λ y. pos 0 ≤ℤ f y) (x ∷ xs) → sum_over f (x ∷ xs) ≡ pos 0 → f x ≡ pos 0
first_zero f x xs h e = (no_less (f x) (sum_over f xs) e h.0 (total_least f xs h.1)).0

-- ---- sums over the numbers below n
abbrev pub sum_below : (ℕ → ℤ) → ℕ → ℤ
sum_below g zero = pos 0
sum_below g (suc n) = sum_below g n +ℤ g n

pub same_below : (g h : ℕ → ℤ) (n : ℕ) → ((k : ℕ) → k < n → g k ≡ h k) → sum_below g n ≡ sum_below h n
same_below g h zero e = refl
same_below g h (suc n) e = ap₂ (λ (a b : ℤ). a +ℤ b) (same_below g h n (λ k lt. e k (omega (arith, lt)))) (e n (omega arith))

pub least_below : (g : ℕ → ℤ) (n : ℕ) → ((k : ℕ) → k < n → pos 0 ≤ℤ g k) → pos 0 ≤ℤ sum_below g n
least_below g zero h = omega (arith, sums)
least_below g (suc n) h = least_sum (sum_below g n) (g n) (least_below g n (λ k lt. h k (omega (arith, lt)))) (h n (omega arith))

pub last_or_below : (k n : ℕ) → k < suc n → (k < n) ⊎ (k ≡ n)
last_or_below zero zero h = inr refl
last_or_below zero (suc n) h = inl (omega arith)
last_or_below (suc k) zero h = absurd (omega (arith, h))
last_or_below (suc k) (suc n) h = elim (last_or_below k n (omega (arith, h))) [ inl l ↦ inl (omega (arith, l)) | inr e ↦ inr (ap suc e) ]

pub zero_below : (g : ℕ → ℤ) (n : ℕ) → ((k : ℕ) → k < n → pos 0 ≤ℤ g k) → sum_below g n ≡ pos 0 → (k : ℕ) → k < n → g k ≡ pos 0
zero_below g zero h e k lt = absurd (omega (arith, lt))
zero_below g (suc n) h e k lt =
    let less : (i : ℕ) → i < n → pos 0 ≤ℤ g i = λ i li. h i (omega (arith, li)) in
    let both = no_less (sum_below g n) (g n) e (least_below g n less) (h n (omega arith)) in
    elim (last_or_below k n lt) [
      | inl l ↦ zero_below g n less both.0 k l
      | inr same ↦ subst (λ (i : ℕ). g i ≡ pos 0) (sym same) both.1
    ]

four_sums : (a b c d s : ℤ) → s ≡ c +ℤ d → s +ℤ (a +ℤ b) ≡ (c +ℤ a) +ℤ (d +ℤ b)
four_sums a b c d s e = omega (arith, sums, e)

pub sum_of_sums : (g h : ℕ → ℤ) (n : ℕ) → sum_below (λ k. g k +ℤ h k) n ≡ sum_below g n +ℤ sum_below h n
sum_of_sums g h zero = refl
sum_of_sums g h (suc n) = four_sums (g n) (h n) (sum_below g n) (sum_below h n) (sum_below (λ k. g k +ℤ h k) n) (sum_of_sums g h n)

four_differences : (a b c d s : ℤ) → s ≡ c -ℤ d → s +ℤ (a -ℤ b) ≡ (c +ℤ a) -ℤ (d +ℤ b)
four_differences a b c d s e = omega (arith, sums, e)

pub sum_of_differences : (g h : ℕ → ℤ) (n : ℕ) → sum_below (λ k. g k -ℤ h k) n ≡ sum_below g n -ℤ sum_below h n
sum_of_differences g h zero = refl
sum_of_differences g h (suc n) = four_differences (g n) (h n) (sum_below g n) (sum_below h n) (sum_below (λ k. g k -ℤ h k) n) (sum_of_differences g h n)

-- ---- how often an item stands in a list
-- a list with an item taken out
record IsSplit {A : Type 0} (x : A) (xs : List A) : Type 0 where
  before : List A
  more : List A
  is : xs ≡ before ++ x ∷ more

times_append : {A : Type 0} (e : A → A → Bool) (xs ys : List A) (x : A) → times_in e (xs ++ ys) x ≡ times_in e xs x + times_in e ys x
times_append e [] ys x = omega arith
times_append e (y ∷ xs) ys x = omega (arith, times_append e xs ys x)

split_here : {A : Type 0} (e : A → A → Bool) → ((x y : A) → Decides (e x y) (x ≡ y)) → (y : A) (ys : List A) (x : A) (b : Bool) → Decides b (y ≡ x) → (0 < cond b 1 0 + times_in e ys x) → (0 < times_in e ys x → IsSplit x ys) → IsSplit x (y ∷ ys)
split_here e d y ys x true s lt rest = record { before = []; more = ys; is = ap (λ (z : _). z ∷ ys) (s.0 refl) }
split_here e d y ys x false s lt rest =
    let r = rest (omega (arith, lt)) in
    record { before = y ∷ r.before; more = r.more; is = ap (λ (zs : List _). y ∷ zs) r.is }

split : {A : Type 0} (e : A → A → Bool) → ((x y : A) → Decides (e x y) (x ≡ y)) → (xs : List A) (x : A) → 0 < times_in e xs x → IsSplit x xs
split e d [] x lt = absurd (omega (arith, lt))
split e d (y ∷ ys) x lt = split_here e d y ys x (e y x) (d y x) lt (split e d ys x)

-- an item that stands in a list, at its place
pub place : {A : Type 0} (e : A → A → Bool) → ((x y : A) → Decides (e x y) (x ≡ y)) → (xs : List A) (x d : A) → 0 < times_in e xs x → (k : ℕ) × (k < length xs) × (get_or xs k d ≡ x)
place e d xs x y lt =
    let s = split e d xs x lt in
    (length s.before, omega (arith, ap length s.is, length-append s.before (x ∷ s.more)), ap (λ (zs : List _). get_or zs (length s.before) y) s.is ∙ get_or-append_seam s.before x s.more y)

once : {A : Type 0} (e : A → A → Bool) → ((x y : A) → Decides (e x y) (x ≡ y)) → (x : A) (xs : List A) → times_in e (x ∷ xs) x ≡ 1 + times_in e xs x
once e d x xs = ap (λ (b : Bool). cond b 1 0 + times_in e xs x) ((d x x).1 refl)

middle : (f x b a t : ℤ) → t ≡ b +ℤ a → f +ℤ t ≡ b +ℤ (f +ℤ a)
middle f x b a t e = omega (arith, sums, e)

-- lists that hold each item as often have the same sums
pub same_totals : {A : Type 0} (e : A → A → Bool) → ((x y : A) → Decides (e x y) (x ≡ y)) → (f : A → ℤ) (xs ys : List A) → ((x : A) → times_in e xs x ≡ times_in e ys x) → sum_over f xs ≡ sum_over f ys
same_totals e d f [] [] h = refl
same_totals e d f [] (y ∷ ys) h = absurd (omega (arith, h y, once e d y ys))
same_totals e d f (x ∷ xs) ys h =
    let s = split e d ys x (omega (arith, h x, once e d x xs)) in
    let rest : (y : _) → times_in e xs y ≡ times_in e (s.before ++ s.more) y = λ y.
    (let whole : times_in e (x ∷ xs) y ≡ times_in e (s.before ++ x ∷ s.more) y = h y ∙ ap (λ (zs : List _). times_in e zs y) s.is in
    omega (arith, whole, times_append e s.before (x ∷ s.more) y, times_append e s.before s.more y)) in
    middle (f x) (f x) (sum_over f s.before) (sum_over f s.more) (sum_over f xs) (same_totals e d f xs (s.before ++ s.more) rest ∙ total_append f s.before s.more)
    ∙ sym (ap (sum_over f) s.is ∙ total_append f s.before (x ∷ s.more))

-- ---- sums of opposite numbers
total_map : {A : Type 0} (f : A → ℤ) (r : A → A) (xs : List A) → sum_over f (map r xs) ≡ sum_over (λ x. f (r x)) xs
total_map f r [] = refl
total_map f r (x ∷ xs) = ap (λ (n : ℤ). f (r x) +ℤ n) (total_map f r xs)

total_opposite : {A : Type 0} (f g : A → ℤ) → ((x : A) → g x ≡ pos 0 -ℤ f x) → (xs : List A) → sum_over g xs ≡ pos 0 -ℤ sum_over f xs
total_opposite f g h [] = omega (arith, sums)
total_opposite f g h (x ∷ xs) = omega (arith, sums, h x, total_opposite f g h xs)

pub same_bool : (a b : Bool) → (a ≡ true → b ≡ true) → (b ≡ true → a ≡ true) → a ≡ b
same_bool true true h k = refl
same_bool true false h k = sym (h refl)
same_bool false true h k = k refl
same_bool false false h k = refl

pub times_map : {A : Type 0} (e : A → A → Bool) → ((x y : A) → Decides (e x y) (x ≡ y)) → (r : A → A) → ((x : A) → r (r x) ≡ x) → (xs : List A) (x : A) → times_in e (map r xs) x ≡ times_in e xs (r x)
times_map e d r twice [] x = refl
times_map e d r twice (y ∷ ys) x =
    ap₂ (λ (b : Bool) (n : ℕ). cond b 1 0 + n)
    (same_bool (e (r y) x) (e y (r x)) (λ h. (d y (r x)).1 (sym (twice y) ∙ ap r ((d (r y) x).0 h))) (λ h. (d (r y) x).1 (ap r ((d y (r x)).0 h) ∙ twice x)))
    (times_map e d r twice ys x)

no_half : (t : ℤ) → t ≡ pos 0 -ℤ t → t ≡ pos 0
no_half t e = omega (arith, sums, e)

-- numbers that are opposite for an item and its reverse sum to 0 where each item stands as often as its reverse
pub cancelled_total : {A : Type 0} (e : A → A → Bool) → ((x y : A) → Decides (e x y) (x ≡ y)) → (r : A → A) → ((x : A) → r (r x) ≡ x) → (f : A → ℤ) → ((x : A) → f (r x) ≡ pos 0 -ℤ f x) → (xs : List A) → ((x : A) → times_in e xs x ≡ times_in e xs (r x)) → sum_over f xs ≡ pos 0
cancelled_total e d r twice f odd xs even =
    no_half (sum_over f xs) (same_totals e d f xs (map r xs) (λ x. even x ∙ sym (times_map e d r twice xs x)) ∙ total_map f r xs ∙ total_opposite f (λ x. f (r x)) odd xs)
