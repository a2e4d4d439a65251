-- From a plane that no point is ahead of to one that holds three of the points, which aren't on one line.
use Rattle.std.proofs.Common.{◌≡◌, inl, inr, List, length, ◌<◌, ℕ, ℤ, pos}
use Rattle.plane_predicate.specs.Space.{Coefficients, Coordinates, AreCollinear}
use Rattle.plane_predicate.proofs.lemmas.Signs.{signs}
use Rattle.primitives.specs.Shapes.{mesh_point, value_at_point}
use Rattle.scad_hull.specs.Hulls.{AreOnOnePlane}
use Rattle.scad_hull.proofs.lemmas.Lines.{cyclic, holds_first, holds_second, holds_third, in_plane, plane, some_off, some_triangle, swapped}
use Rattle.scad_hull.proofs.lemmas.Turns.{both_signs, Bounds, turn}

-- nothing holds of the points without a plane through three of them, not on one line, that no point is ahead of, with q
-- on it or ahead
abbrev pub HasNoSupport : List (List ℤ) → Coordinates → Type 0
HasNoSupport points q =
    (i j k : ℕ) → i < length points → j < length points → k < length points → (AreCollinear (mesh_point points i) (mesh_point points j) (mesh_point points k) → ⊥) →
    (y : Coefficients) → Bounds (mesh_point points) (length points) q y → value_at_point points y i ≡ pos 0 → value_at_point points y j ≡ pos 0 → value_at_point points y k ≡ pos 0 → ⊥

-- the plane holds two of three points
from_two : (points : List (List ℤ)) (q : Coordinates) → (AreOnOnePlane points → ⊥) → HasNoSupport points q → (i j k : ℕ) → i < length points → j < length points → k < length points → (AreCollinear (mesh_point points i) (mesh_point points j) (mesh_point points k) → ⊥) →
    (x : Coefficients) → Bounds (mesh_point points) (length points) q x → value_at_point points x i ≡ pos 0 → value_at_point points x j ≡ pos 0 → ⊥
from_two points q solid none i j k hi hj hk apart x b ei ej =
    let m = plane points i j k in
    elim (signs (value_at_point points x k)) [
      | inl below ↦ some_off points solid i j k apart (λ s hs off.
          (let t = turn (mesh_point points) (length points) q x m b k hk (holds_third points i j k) below s hs off in
          let first = t.keeps (mesh_point points i) ei (holds_first points i j k) in
          let second = t.keeps (mesh_point points j) ej (holds_second points i j k) in
          elim t.more [
            | inl f ↦ none i j f.0 hi hj f.1 (λ c. f.3 (in_plane points i j k f.0 c)) t.plane t.bounds first second f.2
            | inr all ↦ none i j k hi hj hk apart t.plane t.bounds first second (all (mesh_point points k) (holds_third points i j k))
          ]))
      | inr other ↦ elim other [
        | inl on ↦ none i j k hi hj hk apart x b ei ej on
        | inr above ↦ both_signs (value_at_point points x k) (b.most k hk) above
      ]
    ]

-- the plane holds the first of three points
from_one : (points : List (List ℤ)) (q : Coordinates) → (AreOnOnePlane points → ⊥) → HasNoSupport points q → (i j k : ℕ) → i < length points → j < length points → k < length points → (AreCollinear (mesh_point points i) (mesh_point points j) (mesh_point points k) → ⊥) →
    (x : Coefficients) → Bounds (mesh_point points) (length points) q x → value_at_point points x i ≡ pos 0 → ⊥
from_one points q solid none i j k hi hj hk apart x b ei =
    let m = plane points i j k in
    elim (signs (value_at_point points x j)) [
      | inl below ↦ some_off points solid i j k apart (λ s hs off.
          (let t = turn (mesh_point points) (length points) q x m b j hj (holds_second points i j k) below s hs off in
          let first = t.keeps (mesh_point points i) ei (holds_first points i j k) in
          elim t.more [
            | inl f ↦ from_two points q solid none i f.0 j hi f.1 hj (λ c. f.3 (in_plane points i j k f.0 (swapped (mesh_point points i) (mesh_point points f.0) (mesh_point points j) c))) t.plane t.bounds first f.2
            | inr all ↦ from_two points q solid none i j k hi hj hk apart t.plane t.bounds first (all (mesh_point points j) (holds_second points i j k))
          ]))
      | inr other ↦ elim other [
        | inl on ↦ from_two points q solid none i j k hi hj hk apart x b ei on
        | inr above ↦ both_signs (value_at_point points x j) (b.most j hj) above
      ]
    ]

from_none : (points : List (List ℤ)) (q : Coordinates) → (AreOnOnePlane points → ⊥) → HasNoSupport points q → (i j k : ℕ) → i < length points → j < length points → k < length points → (AreCollinear (mesh_point points i) (mesh_point points j) (mesh_point points k) → ⊥) →
    (x : Coefficients) → Bounds (mesh_point points) (length points) q x → ⊥
from_none points q solid none i j k hi hj hk apart x b =
    let m = plane points i j k in
    elim (signs (value_at_point points x i)) [
      | inl below ↦ some_off points solid i j k apart (λ s hs off.
          (let t = turn (mesh_point points) (length points) q x m b i hi (holds_first points i j k) below s hs off in
          elim t.more [
            | inl f ↦ from_one points q solid none f.0 i j f.1 hi hj (λ c. f.3 (in_plane points i j k f.0 (cyclic (mesh_point points f.0) (mesh_point points i) (mesh_point points j) c))) t.plane t.bounds f.2
            | inr all ↦ from_one points q solid none i j k hi hj hk apart t.plane t.bounds (all (mesh_point points i) (holds_first points i j k))
          ]))
      | inr other ↦ elim other [
        | inl on ↦ from_one points q solid none i j k hi hj hk apart x b on
        | inr above ↦ both_signs (value_at_point points x i) (b.most i hi) above
      ]
    ]

-- where some plane bounds the points and has q on it or ahead, some plane through three of them does
pub some_support : (points : List (List ℤ)) (q : Coordinates) → (AreOnOnePlane points → ⊥) → (x : Coefficients) → Bounds (mesh_point points) (length points) q x → HasNoSupport points q → ⊥
some_support points q solid x b none = some_triangle points solid (λ i j k hi hj hk apart. from_none points q solid none i j k hi hj hk apart x b)
