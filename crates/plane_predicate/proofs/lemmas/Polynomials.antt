-- Equations between sums of products of integers, by computing: a polynomial in numbered variables is brought to Horner's form.
use Rattle.std.proofs.Common.{◌≡◌, ℕ, zero, suc, Bool, true, false, List, [], ◌∷◌, eqb, ltb, refl, sym, ap, ap₂, ◌∙◌, arith, ℤ, pos, negsuc, ◌+ℤ◌, ◌-ℤ◌, ◌*ℤ◌, neg_ℤ, eqb-true}
use Rattle.std.proofs.lemmas.Int.{ints}
use Rattle.std.proofs.Math.IntN.{*ℤ-zero}
use Rattle.plane_predicate.proofs.lemmas.IntegerRing.{distribute, mul_assoc_ℤ, mul_comm_ℤ, sums}

pub data Poly : Type 0 where
  var : ℕ → Poly
  num : ℤ → Poly
  plus : Poly → Poly → Poly
  times : Poly → Poly → Poly
  minus : Poly → Poly → Poly

-- variable i is number i of the list
abbrev pub at : List ℤ → ℕ → ℤ
at [] n = pos 0
at (x ∷ xs) zero = x
at (x ∷ xs) (suc n) = at xs n

abbrev pub value : List ℤ → Poly → ℤ
value xs (var i) = at xs i
value xs (num k) = k
value xs (plus p q) = value xs p +ℤ value xs q
value xs (times p q) = value xs p *ℤ value xs q
value xs (minus p q) = value xs p -ℤ value xs q

-- `step i a b` is variable i times a, plus b
pub data Horner : Type 0 where
  constant : ℤ → Horner
  step : ℕ → Horner → Horner → Horner

abbrev pub horner_value : List ℤ → Horner → ℤ
horner_value xs (constant k) = k
horner_value xs (step i a b) = at xs i *ℤ horner_value xs a +ℤ horner_value xs b

pub data Order : Type 0 where
  first both second : Order

abbrev pub order : ℕ → ℕ → Order
order i j = elim (eqb i j) [ true ↦ both | false ↦ elim (ltb i j) [ true ↦ first | false ↦ second ] ]

order_case : (i j : ℕ) (b : Bool) → eqb i j ≡ b → (c : Bool) → elim b [ true ↦ both | false ↦ elim c [ true ↦ first | false ↦ second ] ] ≡ both → i ≡ j
order_case i j true t c e = eqb-true i j t
order_case i j false t true e = cc
order_case i j false t false e = cc

order-both : (i j : ℕ) → order i j ≡ both → i ≡ j
order-both i j e = order_case i j (eqb i j) refl (ltb i j) e

-- no step with nothing to multiply
abbrev pub join : ℕ → Horner → Horner → Horner
join i (constant (pos zero)) b = b
join i (constant (pos (suc n))) b = step i (constant (pos (suc n))) b
join i (constant (negsuc n)) b = step i (constant (negsuc n)) b
join i (step j c d) b = step i (step j c d) b

join_is : (xs : List ℤ) (i : ℕ) (a b : Horner) → horner_value xs (join i a b) ≡ at xs i *ℤ horner_value xs a +ℤ horner_value xs b
join_is xs i (constant (pos zero)) b = omega (arith, sums, *ℤ-zero (at xs i))
join_is xs i (constant (pos (suc n))) b = refl
join_is xs i (constant (negsuc n)) b = refl
join_is xs i (step j c d) b = refl

-- a number added to the last part
abbrev pub add_constant : ℤ → Horner → Horner
add_constant k (constant m) = constant (k +ℤ m)
add_constant k (step i a b) = step i a (add_constant k b)

add_constant_is : (xs : List ℤ) (k : ℤ) (p : Horner) → horner_value xs (add_constant k p) ≡ k +ℤ horner_value xs p
add_constant_is xs k (constant m) = refl
add_constant_is xs k (step i a b) = let h = add_constant_is xs k b in omega (arith, sums)

abbrev pub weave : ℕ → Horner → Horner → (Horner → Horner) → (Horner → Horner) → Horner → Horner
weave i a b add_a add_b (constant k) = step i a (add_b (constant k))
weave i a b add_a add_b (step j c d) = elim (order i j) [
  | first ↦ step i a (add_b (step j c d))
  | both ↦ join i (add_a c) (add_b d)
  | second ↦ step j c (weave i a b add_a add_b d)
]

abbrev pub add : Horner → Horner → Horner
add (constant k) q = add_constant k q
add (step i a b) q = weave i a b (add a) (add b) q

-- x (a + c) + (b + d)
regrouped : (x a b c d ac bd : ℤ) → ac ≡ a +ℤ c → bd ≡ b +ℤ d → x *ℤ ac +ℤ bd ≡ (x *ℤ a +ℤ b) +ℤ (x *ℤ c +ℤ d)
regrouped x a b c d ac bd e f = rw (e, f, distribute) (omega (arith, sums))

weave_is : (xs : List ℤ) (i : ℕ) (a b : Horner) (add_a add_b : Horner → Horner) →
    ((q : Horner) → horner_value xs (add_a q) ≡ horner_value xs a +ℤ horner_value xs q) →
    ((q : Horner) → horner_value xs (add_b q) ≡ horner_value xs b +ℤ horner_value xs q) →
    (q : Horner) → horner_value xs (weave i a b add_a add_b q) ≡ horner_value xs (step i a b) +ℤ horner_value xs q
weave_is xs i a b add_a add_b ha hb (constant k) = let h = hb (constant k) in omega (arith, sums)
weave_is xs i a b add_a add_b ha hb (step j c d) =
    elim (order i j) as (λ o. order i j ≡ o → horner_value xs (elim o [ first ↦ step i a (add_b (step j c d)) | both ↦ join i (add_a c) (add_b d) | second ↦ step j c (weave i a b add_a add_b d) ]) ≡ horner_value xs (step i a b) +ℤ horner_value xs (step j c d)) [
      | first ↦ λ e. (let h = hb (step j c d) in omega (arith, sums))
      | both ↦ λ e. (let same = order-both i j e in
          join_is xs i (add_a c) (add_b d)
          ∙ regrouped (at xs i) (horner_value xs a) (horner_value xs b) (horner_value xs c) (horner_value xs d) _ _ (ha c) (hb d)
          ∙ ap (λ (n : ℕ). (at xs i *ℤ horner_value xs a +ℤ horner_value xs b) +ℤ (at xs n *ℤ horner_value xs c +ℤ horner_value xs d)) same)
      | second ↦ λ e. (let h = weave_is xs i a b add_a add_b ha hb d in omega (arith, sums))
    ] refl

add_is : (xs : List ℤ) (p q : Horner) → horner_value xs (add p q) ≡ horner_value xs p +ℤ horner_value xs q
add_is xs (constant k) q = add_constant_is xs k q
add_is xs (step i a b) q = weave_is xs i a b (add a) (add b) (add_is xs a) (add_is xs b) q

-- all coefficients times k
abbrev pub scale : ℤ → Horner → Horner
scale k (constant m) = constant (k *ℤ m)
scale k (step i a b) = join i (scale k a) (scale k b)

scaled : (k x a b : ℤ) → x *ℤ (k *ℤ a) +ℤ k *ℤ b ≡ k *ℤ (x *ℤ a +ℤ b)
scaled k x a b = rw (distribute, ← (mul_assoc_ℤ x k a), mul_comm_ℤ x k, mul_assoc_ℤ k x a) refl

scale_is : (xs : List ℤ) (k : ℤ) (p : Horner) → horner_value xs (scale k p) ≡ k *ℤ horner_value xs p
scale_is xs k (constant m) = refl
scale_is xs k (step i a b) =
    join_is xs i (scale k a) (scale k b)
    ∙ ap₂ (λ (u v : ℤ). at xs i *ℤ u +ℤ v) (scale_is xs k a) (scale_is xs k b)
    ∙ scaled k (at xs i) (horner_value xs a) (horner_value xs b)

-- variable i times the polynomial
abbrev pub raise : ℕ → Horner → Horner
raise i (constant k) = join i (constant k) (constant (pos 0))
raise i (step j a b) = elim (ltb j i) [ true ↦ join j (raise i a) (raise i b) | false ↦ step i (step j a b) (constant (pos 0)) ]

raised : (x y a b : ℤ) → y *ℤ (x *ℤ a) +ℤ x *ℤ b ≡ x *ℤ (y *ℤ a +ℤ b)
raised x y a b = scaled x y a b

raise_is : (xs : List ℤ) (i : ℕ) (p : Horner) → horner_value xs (raise i p) ≡ at xs i *ℤ horner_value xs p
raise_is xs i (constant k) = join_is xs i (constant k) (constant (pos 0)) ∙ omega (arith, sums)
raise_is xs i (step j a b) =
    elim (ltb j i) as (λ o. horner_value xs (elim o [ true ↦ join j (raise i a) (raise i b) | false ↦ step i (step j a b) (constant (pos 0)) ]) ≡ at xs i *ℤ horner_value xs (step j a b)) [
      | true ↦ join_is xs j (raise i a) (raise i b)
          ∙ ap₂ (λ (u v : ℤ). at xs j *ℤ u +ℤ v) (raise_is xs i a) (raise_is xs i b)
          ∙ raised (at xs i) (at xs j) (horner_value xs a) (horner_value xs b)
      | false ↦ omega (arith, sums)
    ]

abbrev pub multiply : Horner → Horner → Horner
multiply (constant k) q = scale k q
multiply (step i a b) q = add (raise i (multiply a q)) (multiply b q)

multiplied : (x a b q : ℤ) → x *ℤ (a *ℤ q) +ℤ b *ℤ q ≡ (x *ℤ a +ℤ b) *ℤ q
multiplied x a b q = rw (← (mul_assoc_ℤ x a q)) (rw (mul_comm_ℤ (x *ℤ a) q, mul_comm_ℤ b q, mul_comm_ℤ (x *ℤ a +ℤ b) q, distribute) refl)

multiply_is : (xs : List ℤ) (p q : Horner) → horner_value xs (multiply p q) ≡ horner_value xs p *ℤ horner_value xs q
multiply_is xs (constant k) q = scale_is xs k q
multiply_is xs (step i a b) q =
    add_is xs (raise i (multiply a q)) (multiply b q)
    ∙ ap₂ (λ (u v : ℤ). u +ℤ v) (raise_is xs i (multiply a q) ∙ ap (λ (u : ℤ). at xs i *ℤ u) (multiply_is xs a q)) (multiply_is xs b q)
    ∙ multiplied (at xs i) (horner_value xs a) (horner_value xs b) (horner_value xs q)

abbrev pub expand : Poly → Horner
expand (var i) = step i (constant (pos 1)) (constant (pos 0))
expand (num k) = constant k
expand (plus p q) = add (expand p) (expand q)
expand (times p q) = multiply (expand p) (expand q)
expand (minus p q) = add (expand p) (scale (negsuc 0) (expand q))

negated : (x : ℤ) → negsuc 0 *ℤ x ≡ neg_ℤ x
negated x = omega (arith, ints)

variable_is : (x : ℤ) → x *ℤ pos 1 +ℤ pos 0 ≡ x
variable_is x = omega (arith, ints)

pub expand_is : (xs : List ℤ) (p : Poly) → horner_value xs (expand p) ≡ value xs p
expand_is xs (var i) = variable_is (at xs i)
expand_is xs (num k) = refl
expand_is xs (plus p q) = add_is xs (expand p) (expand q) ∙ ap₂ (λ (u v : ℤ). u +ℤ v) (expand_is xs p) (expand_is xs q)
expand_is xs (times p q) = multiply_is xs (expand p) (expand q) ∙ ap₂ (λ (u v : ℤ). u *ℤ v) (expand_is xs p) (expand_is xs q)
expand_is xs (minus p q) =
    add_is xs (expand p) (scale (negsuc 0) (expand q))
    ∙ ap₂ (λ (u v : ℤ). u +ℤ v) (expand_is xs p) (scale_is xs (negsuc 0) (expand q) ∙ negated (horner_value xs (expand q)) ∙ ap neg_ℤ (expand_is xs q))

-- two polynomials of one form are equal at all numbers
pub ring : (xs : List ℤ) (p q : Poly) → expand p ≡ expand q → value xs p ≡ value xs q
ring xs p q e = sym (expand_is xs p) ∙ ap (horner_value xs) e ∙ expand_is xs q
