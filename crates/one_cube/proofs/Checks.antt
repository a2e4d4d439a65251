-- Checks of shapes and their planes, which compute.
use Rattle.std.proofs.Common.{◌≡◌, ℕ, zero, suc, ℤ, Bool, true, false, List, [], ◌∷◌, ◌+◌, ◌*◌, ◌<◌, ◌≤◌, ◌≤ℤ◌, ◌<ℤ◌, ◌&&◌, refl, pos, negsuc, arith, All, nat_le, unsigned_abs}
use Rattle.std.specs.List.{list_all}
use Rattle.std.proofs.lemmas.List.Elements.{All-nil, All-cons}
use Rattle.std.proofs.lemmas.Bool.{and_parts, leb-true}
use Prim.Native.Nat.{◌∣◌}
use Rattle.plane_predicate.specs.Space.{Coefficients, Coordinates, IsInReach, IsPlane, most_direction, most_offset}
use Rattle.plane_predicate.proofs.lemmas.IntegerRing.{sums}
use Rattle.int_transform.specs.Maps.{HasSafeCoordinates}
use Rattle.primitives.specs.Shapes.{Mesh, value_at_point, IsPlaneOfFace}

abbrev pub Each : {X : Type 0} → (X → Type 0) → List X → Type 0
Each P [] = Unit {0}
Each P (x ∷ xs) = P x × Each P xs

pub all_of : {X : Type 0} (P : X → Type 0) (xs : List X) → Each P xs → All P xs
all_of P [] h = All-nil P
all_of P (x ∷ xs) h = All-cons P x xs h.0 (all_of P xs h.1)

pub all_by : {X : Type 0} (p : X → Bool) (P : X → Type 0) → ((x : X) → p x ≡ true → P x) → (xs : List X) → list_all p xs ≡ true → All P xs
all_by p P tells [] h = All-nil P
all_by p P tells (x ∷ xs) h = let parts = and_parts (p x) (list_all p xs) h in All-cons P x xs (tells x parts.0) (all_by p P tells xs parts.1)

abbrev pub is_safe : Coordinates → Bool
is_safe p = nat_le (unsigned_abs p.x) 9007199254740991 && (nat_le (unsigned_abs p.y) 9007199254740991 && nat_le (unsigned_abs p.z) 9007199254740991)

pub safe_by : (p : Coordinates) → is_safe p ≡ true → HasSafeCoordinates p
safe_by p h =
    let x = and_parts (nat_le (unsigned_abs p.x) 9007199254740991) _ h in
    let y = and_parts (nat_le (unsigned_abs p.y) 9007199254740991) _ x.1 in
    record { x_size = leb-true _ _ x.0; y_size = leb-true _ _ y.0; z_size = leb-true _ _ y.1 }

abbrev pub is_above : ℤ → Bool
is_above (pos zero) = false
is_above (pos (suc n)) = true
is_above (negsuc n) = false

pub above_by : (x : ℤ) → is_above x ≡ true → pos 0 <ℤ x
above_by (pos zero) h = absurd (cc h)
above_by (pos (suc n)) h = omega (arith, sums)
above_by (negsuc n) h = absurd (cc h)

pub one_least : (x : ℤ) → pos 0 <ℤ x → pos 1 ≤ℤ x
one_least x h = omega (arith, sums)

abbrev pub is_reached : Coordinates → Bool
is_reached p =
    is_above p.w && (nat_le (unsigned_abs p.x) (4095 * unsigned_abs p.w)
    && (nat_le (unsigned_abs p.y) (4095 * unsigned_abs p.w) && nat_le (unsigned_abs p.z) (4095 * unsigned_abs p.w)))

pub reach_by : (p : Coordinates) → is_reached p ≡ true → IsInReach p
reach_by p h =
    let w = and_parts (is_above p.w) _ h in
    let x = and_parts (nat_le (unsigned_abs p.x) (4095 * unsigned_abs p.w)) _ w.1 in
    let y = and_parts (nat_le (unsigned_abs p.y) (4095 * unsigned_abs p.w)) _ x.1 in
    record { weight = above_by p.w w.0; x_size = leb-true _ _ x.0; y_size = leb-true _ _ y.0; z_size = leb-true _ _ y.1 }

abbrev pub is_zero : ℤ → Bool
is_zero (pos zero) = true
is_zero (pos (suc n)) = false
is_zero (negsuc n) = false

zero_by : (x : ℤ) → is_zero x ≡ true → x ≡ pos 0
zero_by (pos zero) h = refl
zero_by (pos (suc n)) h = absurd (cc h)
zero_by (negsuc n) h = absurd (cc h)

abbrev pub is_not_above : ℤ → Bool
is_not_above (pos zero) = true
is_not_above (pos (suc n)) = false
is_not_above (negsuc n) = true

not_above_by : (x : ℤ) → is_not_above x ≡ true → x ≤ℤ pos 0
not_above_by (pos zero) h = omega (arith, sums)
not_above_by (pos (suc n)) h = absurd (cc h)
not_above_by (negsuc n) h = omega (arith, sums)

-- a direction
abbrev pub is_directed : Coefficients → Bool
is_directed m = nat_le 1 (unsigned_abs m.a + unsigned_abs m.b + unsigned_abs m.c)

directed_by : (m : Coefficients) → is_directed m ≡ true → 0 < unsigned_abs m.a + unsigned_abs m.b + unsigned_abs m.c
directed_by m h = leb-true 1 (unsigned_abs m.a + unsigned_abs m.b + unsigned_abs m.c) h

-- the plane of a face
module _ (mesh : Mesh) (face : List ℕ) (m : Coefficients) where
  pub plane_of_face : is_directed m ≡ true → list_all (λ i. is_zero (value_at_point mesh.points m i)) face ≡ true →
      list_all (λ f. list_all (λ i. is_not_above (value_at_point mesh.points m i)) f) mesh.faces ≡ true → IsPlaneOfFace mesh face m
  plane_of_face directed on ahead = record {
    directed = directed_by m directed;
    on = all_by (λ i. is_zero (value_at_point mesh.points m i)) (λ i. value_at_point mesh.points m i ≡ pos 0) (λ i h. zero_by _ h) face on;
    none_ahead = all_by (λ f. list_all (λ i. is_not_above (value_at_point mesh.points m i)) f) (λ f. All (λ i. value_at_point mesh.points m i ≤ℤ pos 0) f)
        (λ f h. all_by (λ i. is_not_above (value_at_point mesh.points m i)) (λ i. value_at_point mesh.points m i ≤ℤ pos 0) (λ i k. not_above_by _ k) f h) mesh.faces ahead;
  }

-- the sizes of a plane's numbers
abbrev pub is_plane_small : Coefficients → Bool
is_plane_small m =
    nat_le (unsigned_abs m.a) most_direction
    && (nat_le (unsigned_abs m.b) most_direction && (nat_le (unsigned_abs m.c) most_direction && nat_le (unsigned_abs m.d) most_offset))

module _ (m : Coefficients) where
  pub plane_by : is_plane_small m ≡ true → is_directed m ≡ true →
      ((k : ℕ) → k ∣ unsigned_abs m.a → k ∣ unsigned_abs m.b → k ∣ unsigned_abs m.c → k ∣ unsigned_abs m.d → k ≡ 1) → IsPlane m
  plane_by small directed reduced =
      let a = and_parts (nat_le (unsigned_abs m.a) most_direction) _ small in
      let b = and_parts (nat_le (unsigned_abs m.b) most_direction) _ a.1 in
      let c = and_parts (nat_le (unsigned_abs m.c) most_direction) _ b.1 in
      record { a_size = leb-true _ _ a.0; b_size = leb-true _ _ b.0; c_size = leb-true _ _ c.0; d_size = leb-true _ _ c.1; directed = directed_by m directed; reduced = reduced }
