-- Coordinates of images, and points that stay in range step by step.
use Rattle.std.proofs.Common.{◌≡◌, ℕ, ◌+◌, ◌<◌, ◌≤◌, List, [], ◌∷◌, ◌++◌, length, get_or, take, refl, sym, ap, ◌∙◌, subst, arith, ℤ, pos, ◌+ℤ◌, ◌*ℤ◌, inl, inr, map, All}
use Rattle.std.proofs.lemmas.Bool.{cases_lt}
use Rattle.std.proofs.lemmas.List.{take_more, map-append}
use Rattle.std.proofs.Math.Seq.{take-length}
use Rattle.std.proofs.lemmas.List.Elements.{All-head, All-push, All-tail}
use Rattle.plane_predicate.specs.Space.{Coordinates, point_at}
use Rattle.plane_predicate.proofs.lemmas.IntegerRing.{mul_comm_ℤ, one_mul, sums}
use Rattle.int_transform.specs.declared.affine.Affine.{Affine}
use Rattle.int_transform.specs.Maps.{coordinate_list, determinant_of, image, map_of, HasSafeCoordinates, LeavesSafeCoordinates}
use Rattle.int_transform.proofs.lemmas.Images.{image-identity, image-step, determinant-composition}
use Rattle.int_transform.proofs.lemmas.Regular.{no_product}

times_one : (d : ℤ) → d *ℤ pos 1 ≡ d
times_one d = mul_comm_ℤ d (pos 1) ∙ one_mul d

-- a coordinate of an image, as a sum of four numbers
pub coordinate_sum : (a b c d x y z p q r s t : ℤ) → t ≡ p +ℤ q +ℤ r +ℤ s → p ≡ a *ℤ x → q ≡ b *ℤ y → r ≡ c *ℤ z → s ≡ d → t ≡ a *ℤ x +ℤ b *ℤ y +ℤ c *ℤ z +ℤ d *ℤ pos 1
coordinate_sum a b c d x y z p q r s t et ep eq er es = rw (et, ep, eq, er, es, times_one d) refl

pub starts_in_range : (steps : List Affine) (p : Coordinates) → HasSafeCoordinates p → (k : ℕ) → k ≤ 0 → HasSafeCoordinates (image (map_of (take k steps)) p)
starts_in_range steps p h k le =
    let e : 0 ≡ k = omega arith in
    let P : ℕ → Type 0 = λ n. HasSafeCoordinates (image (map_of (take n steps)) p) in
    subst P e (subst HasSafeCoordinates (sym (image-identity p)) h)

-- the image after one more step
pub image_next : (steps : List Affine) (s : Affine) (point at : List ℤ) (i : ℕ) → i < length steps → s ≡ get_or steps i s → at ≡ coordinate_list (image (map_of (take i steps)) (point_at point)) →
    image s (point_at at) ≡ image (map_of (take (i + 1) steps)) (point_at point)
image_next steps s point at i lt is e =
    ap (λ (q : List ℤ). image s (point_at q)) e
    ∙ sym (image-step (take i steps) s (point_at point))
    ∙ ap (λ (xs : List Affine). image (map_of xs) (point_at point)) (sym (take_more steps i s lt ∙ ap (λ (m : Affine). take i steps ++ m ∷ []) (sym is)))

pub stays_next : (steps : List Affine) (p : Coordinates) (i : ℕ) → ((k : ℕ) → k ≤ i → HasSafeCoordinates (image (map_of (take k steps)) p)) → HasSafeCoordinates (image (map_of (take (i + 1) steps)) p) →
    (k : ℕ) → k ≤ i + 1 → HasSafeCoordinates (image (map_of (take k steps)) p)
stays_next steps p i h here k le =
    elim (cases_lt i k) [
      | inl lt ↦ (let e : i + 1 ≡ k = omega arith in let P : ℕ → Type 0 = λ n. HasSafeCoordinates (image (map_of (take n steps)) p) in subst P e here)
      | inr ge ↦ h k ge
    ]

pub leaves_next : (steps : List Affine) (s : Affine) (point at : List ℤ) (i : ℕ) → i < length steps → s ≡ get_or steps i s → at ≡ coordinate_list (image (map_of (take i steps)) (point_at point)) →
    (HasSafeCoordinates (image s (point_at at)) → ⊥) → LeavesSafeCoordinates steps (point_at point)
leaves_next steps s point at i lt is e n = record {
  after = i + 1;
  within = omega arith;
  past = λ h. n (subst HasSafeCoordinates (sym (image_next steps s point at i lt is e)) h);
}

-- the images of one more point
pub images_next : (f : List ℤ → List ℤ) (points : List (List ℤ)) (images : List (List ℤ)) (i : ℕ) (d q : List ℤ) → i < length points → images ≡ map f (take i points) → q ≡ f (get_or points i d) → images ++ q ∷ [] ≡ map f (take (i + 1) points)
images_next f points images i d q lt e eq =
    rw (e, eq) (sym (ap (map f) (take_more points i d lt) ∙ map-append f (take i points) (get_or points i d ∷ [])))

pub all_next : (P : List ℤ → Type 0) (points : List (List ℤ)) (i : ℕ) (d : List ℤ) → i < length points → All P (take i points) → P (get_or points i d) → All P (take (i + 1) points)
all_next P points i d lt h here = subst (All P) (sym (take_more points i d lt)) (All-push P (take i points) (get_or points i d) h here)

-- ---- steps that are not singular
abbrev pub IsRegular : Affine → Type 0
IsRegular s = determinant_of s ≡ pos 0 → ⊥

pub regular_next : (steps : List Affine) (i : ℕ) (s : Affine) → i < length steps → s ≡ get_or steps i s → All IsRegular (take i steps) → IsRegular s → All IsRegular (take (i + 1) steps)
regular_next steps i s lt is h here = subst (All IsRegular) (sym (take_more steps i s lt ∙ ap (λ (m : Affine). take i steps ++ m ∷ []) (sym is))) (All-push IsRegular (take i steps) s h here)

one_is_not_zero : pos 1 ≡ pos 0 → ⊥
one_is_not_zero e = omega (arith, sums, e)

pub regular_map : (steps : List Affine) → All IsRegular steps → IsRegular (map_of steps)
regular_map [] h e = one_is_not_zero e
regular_map (s ∷ steps) h e =
    no_product (determinant_of (map_of steps)) (determinant_of s) (regular_map steps (All-tail IsRegular s steps h)) (All-head IsRegular s steps h) (sym (determinant-composition (map_of steps) s) ∙ e)

pub regular_steps : (steps : List Affine) (i : ℕ) → i ≡ length steps → All IsRegular (take i steps) → IsRegular (map_of steps)
regular_steps steps i e h = regular_map steps (subst (All IsRegular) (take-length steps) (subst (λ (n : ℕ). All IsRegular (take n steps)) e h))
