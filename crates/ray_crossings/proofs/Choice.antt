-- A point at which none of some linear forms is 0, but those that are 0 everywhere.
use Rattle.std.proofs.Common.{◌≡◌, ◌≢◌, ◌⊎◌, inl, inr, ℕ, suc, ◌+◌, ◌≤◌, List, [], ◌∷◌, refl, sym, ap, ◌∙◌, subst, arith, ℤ, pos, ◌+ℤ◌, ◌-ℤ◌, ◌*ℤ◌, ◌<ℤ◌, ◌≤ℤ◌, unsigned_abs}
use Rattle.std.proofs.Math.IntN.{*ℤ-zero}
use Rattle.plane_predicate.specs.declared.unit.Unit.{Unit as LengthUnit}
use Rattle.plane_predicate.specs.Space.{Coefficients, Coordinates, value}
use Rattle.plane_predicate.specs.Units.{grid_steps_per_unit}
use Rattle.plane_predicate.specs.InUnits.{in_steps}
use Rattle.plane_predicate.proofs.lemmas.IntegerRing.{sums, one_mul, zero_mul}
use Rattle.plane_predicate.proofs.lemmas.InUnits.{steps_above}
use Rattle.plane_predicate.proofs.lemmas.Identities.{combine}
use Rattle.plane_predicate.proofs.lemmas.Polynomials.{var, num, plus, times, minus, ring}
use Rattle.plane_predicate.proofs.lemmas.Vectors.{form, of_plane, valueP}
use Rattle.plane_predicate.proofs.lemmas.Signs.{signs, pos_pos, neg_neg, least_least, most_most}
use Rattle.bsp_tree.proofs.lemmas.Openness.{more_below, more_above}
use Rattle.closed_surface.proofs.lemmas.Numbers.{not_zero_below, not_zero_above, at_most, at_least}
use Rattle.closed_surface.proofs.lemmas.Each.{Each, each_weaker, each_both}
use Rattle.ray_crossings.proofs.Volumes.{value_between}

-- ---- sizes
abbrev pub sizes : {A : Type 0} → (A → ℤ) → List A → ℕ
sizes g [] = 0
sizes g (x ∷ xs) = unsigned_abs (g x) + sizes g xs

pub each_size : {A : Type 0} (g : A → ℤ) (xs : List A) (number : ℕ) → sizes g xs ≤ number → Each (λ x. unsigned_abs (g x) ≤ number) xs
each_size g [] number h = tt
each_size g (x ∷ xs) number h = (omega arith, each_size g xs number (omega arith))

least_itself : (n : ℕ) → n ≤ n
least_itself n = omega arith

-- ---- a number taken often, and another one once
pub often_apart : (k : ℕ) (x y : ℤ) → x ≢ pos 0 → unsigned_abs y ≤ k → (pos (suc k) *ℤ x +ℤ y) ≢ pos 0
often_apart k x y h b = elim (signs x) [
  | inl l ↦ not_zero_below _ (more_below k x y l b)
  | inr (inl e) ↦ absurd (h e)
  | inr (inr g) ↦ not_zero_above _ (more_above k x y g b)
]

pub once_left : (k x y : ℤ) → x ≡ pos 0 → k *ℤ x +ℤ y ≡ y
once_left k x y e = omega (arith, sums, ap (λ (z : ℤ). k *ℤ z) e ∙ *ℤ-zero k)

pub value_often : (unit : LengthUnit) (m : Coefficients) (k : ℕ) (p q : Coordinates) →
    value m (in_steps unit (combine (pos (suc k)) p (pos 1) q)) ≡ pos (suc k) *ℤ value m (in_steps unit p) +ℤ value m (in_steps unit q)
value_often unit m k p q =
    value_between unit m (pos (suc k)) p (pos 1) q ∙ ap (λ (x : ℤ). pos (suc k) *ℤ value m (in_steps unit p) +ℤ x) (one_mul (value m (in_steps unit q)))

-- ---- squares
square_least : (x : ℤ) → pos 0 ≤ℤ (x *ℤ x)
square_least x = elim (signs x) [
  | inl l ↦ most_most x x (at_most x l) (at_most x l)
  | inr (inl e) ↦ subst (λ (y : ℤ). pos 0 ≤ℤ (y *ℤ y)) (sym e) (omega (arith, sums))
  | inr (inr g) ↦ least_least x x (at_least x g) (at_least x g)
]

square_zero : (x : ℤ) → (x *ℤ x) ≤ℤ pos 0 → x ≡ pos 0
square_zero x h = elim (signs x) [
  | inl l ↦ absurd (omega (arith, sums, neg_neg x x l l))
  | inr (inl e) ↦ e
  | inr (inr g) ↦ absurd (omega (arith, sums, pos_pos x x g g))
]

abbrev pub square : Coefficients → ℤ
square c = c.a *ℤ c.a +ℤ c.b *ℤ c.b +ℤ c.c *ℤ c.c +ℤ c.d *ℤ c.d

form_least : (c : Coefficients) → pos 0 ≤ℤ square c
form_least c = omega (arith, sums, square_least c.a, square_least c.b, square_least c.c, square_least c.d)

first_most : (x y z w : ℤ) → pos 0 ≤ℤ y → pos 0 ≤ℤ z → pos 0 ≤ℤ w → x +ℤ y +ℤ z +ℤ w ≡ pos 0 → x ≤ℤ pos 0
first_most x y z w hy hz hw e = omega (arith, sums)

second_most : (x y z w : ℤ) → pos 0 ≤ℤ x → pos 0 ≤ℤ z → pos 0 ≤ℤ w → x +ℤ y +ℤ z +ℤ w ≡ pos 0 → y ≤ℤ pos 0
second_most x y z w hx hz hw e = omega (arith, sums)

third_most : (x y z w : ℤ) → pos 0 ≤ℤ x → pos 0 ≤ℤ y → pos 0 ≤ℤ w → x +ℤ y +ℤ z +ℤ w ≡ pos 0 → z ≤ℤ pos 0
third_most x y z w hx hy hw e = omega (arith, sums)

fourth_most : (x y z w : ℤ) → pos 0 ≤ℤ x → pos 0 ≤ℤ y → pos 0 ≤ℤ z → x +ℤ y +ℤ z +ℤ w ≡ pos 0 → w ≤ℤ pos 0
fourth_most x y z w hx hy hz e = omega (arith, sums)

-- a form whose square is 0 is 0 everywhere
pub zero_form : (c : Coefficients) → square c ≡ pos 0 → (p : Coordinates) → value c p ≡ pos 0
zero_form c e p =
    let a = square_least c.a in let b = square_least c.b in let k = square_least c.c in let d = square_least c.d in
    let za : c.a ≡ pos 0 = square_zero c.a (first_most (c.a *ℤ c.a) (c.b *ℤ c.b) (c.c *ℤ c.c) (c.d *ℤ c.d) b k d e) in
    let zb : c.b ≡ pos 0 = square_zero c.b (second_most (c.a *ℤ c.a) (c.b *ℤ c.b) (c.c *ℤ c.c) (c.d *ℤ c.d) a k d e) in
    let zc : c.c ≡ pos 0 = square_zero c.c (third_most (c.a *ℤ c.a) (c.b *ℤ c.b) (c.c *ℤ c.c) (c.d *ℤ c.d) a b d e) in
    let zd : c.d ≡ pos 0 = square_zero c.d (fourth_most (c.a *ℤ c.a) (c.b *ℤ c.b) (c.c *ℤ c.c) (c.d *ℤ c.d) a b k e) in
    omega (arith, sums, ap (λ (x : ℤ). x *ℤ p.x) za ∙ zero_mul p.x, ap (λ (x : ℤ). x *ℤ p.y) zb ∙ zero_mul p.y, ap (λ (x : ℤ). x *ℤ p.z) zc ∙ zero_mul p.z, ap (λ (x : ℤ). x *ℤ p.w) zd ∙ zero_mul p.w)

-- ---- a point at which one form is not 0
abbrev apex : LengthUnit → Coefficients → Coordinates
apex unit c = record { x = c.a; y = c.b; z = c.c; w = pos 0 -ℤ grid_steps_per_unit unit *ℤ c.d }

apex_value : (unit : LengthUnit) (c : Coefficients) → value c (in_steps unit (apex unit c)) ≡ grid_steps_per_unit unit *ℤ square c
apex_value unit c =
    let C = form 0 in let K = var 4 in
    ring (of_plane c (grid_steps_per_unit unit ∷ []))
    (valueP C (record { x = times K C.a; y = times K C.b; z = times K C.c; w = minus (num (pos 0)) (times K C.d) }))
    (times K (plus (plus (plus (times C.a C.a) (times C.b C.b)) (times C.c C.c)) (times C.d C.d))) refl

-- ---- a point at which none of several is 0
abbrev pub IsClearAt : LengthUnit → Coordinates → Coefficients → Type 0
IsClearAt unit p c = (square c ≡ pos 0) ⊎ (value c (in_steps unit p) ≢ pos 0)

pub record IsChosen (unit : LengthUnit) (forms : List Coefficients) : Type 0 where
  pub point : Coordinates
  pub clear : Each (IsClearAt unit point) forms

still_clear : (unit : LengthUnit) (k : ℕ) (p q : Coordinates) (c : Coefficients) → unsigned_abs (value c (in_steps unit q)) ≤ k → IsClearAt unit p c →
    IsClearAt unit (combine (pos (suc k)) p (pos 1) q) c
still_clear unit k p q c b (inl e) = inl e
still_clear unit k p q c b (inr h) = inr (λ e. often_apart k (value c (in_steps unit p)) (value c (in_steps unit q)) h b (sym (value_often unit c k p q) ∙ e))

changed : (unit : LengthUnit) (c : Coefficients) (forms : List Coefficients) (g : IsChosen unit forms) → value c (in_steps unit g.point) ≡ pos 0 → pos 0 <ℤ square c → IsChosen unit (c ∷ forms)
changed unit c forms g z h =
    let q = apex unit c in
    let k = sizes (λ m. value m (in_steps unit q)) forms in record {
      point = combine (pos (suc k)) g.point (pos 1) q;
      clear = (
        inr (λ e. not_zero_above (grid_steps_per_unit unit *ℤ square c) (pos_pos (grid_steps_per_unit unit) (square c) (steps_above unit) h)
            (sym (value_often unit c k g.point q ∙ once_left (pos (suc k)) (value c (in_steps unit g.point)) (value c (in_steps unit q)) z ∙ apex_value unit c) ∙ e)),
        each_weaker (λ m. (unsigned_abs (value m (in_steps unit q)) ≤ k) × IsClearAt unit g.point m) (IsClearAt unit (combine (pos (suc k)) g.point (pos 1) q))
            (λ m x. still_clear unit k g.point q m x.0 x.1) forms
            (each_both (λ m. unsigned_abs (value m (in_steps unit q)) ≤ k) (IsClearAt unit g.point) forms (each_size (λ m. value m (in_steps unit q)) forms k (least_itself k)) g.clear),
      );
    }

kept : (unit : LengthUnit) (c : Coefficients) (forms : List Coefficients) (g : IsChosen unit forms) → IsClearAt unit g.point c → IsChosen unit (c ∷ forms)
kept unit c forms g h = record { point = g.point; clear = (h, g.clear) }

one_more : (unit : LengthUnit) (c : Coefficients) (forms : List Coefficients) → IsChosen unit forms → IsChosen unit (c ∷ forms)
one_more unit c forms g = elim (signs (value c (in_steps unit g.point))) [
  | inl l ↦ kept unit c forms g (inr (not_zero_below _ l))
  | inr (inl e) ↦ (elim (signs (square c)) [
    | inl l ↦ absurd (omega (arith, sums, l, form_least c))
    | inr (inl z) ↦ kept unit c forms g (inl z)
    | inr (inr h) ↦ changed unit c forms g e h
  ])
  | inr (inr h) ↦ kept unit c forms g (inr (not_zero_above _ h))
]

pub chosen : (unit : LengthUnit) (forms : List Coefficients) → IsChosen unit forms
chosen unit [] = record { point = record { x = pos 0; y = pos 0; z = pos 0; w = pos 0 }; clear = tt }
chosen unit (c ∷ forms) = one_more unit c forms (chosen unit forms)
