-- Convex meshes have their body behind each face, so a polyhedron with nothing wrong is a shape.
use Rattle.std.proofs.Common.{◌≡◌, ◌⊎◌, inl, inr, ℕ, suc, ◌<◌, List, [], ◌∷◌, length, get_or, arith, ℤ, pos, negsuc, ◌<ℤ◌, ◌≤ℤ◌}
use Rattle.std.specs.List.{AllByRecursion}
use Rattle.std.proofs.lemmas.List.Elements.{All-from_recursion}
use Rattle.plane_predicate.specs.declared.unit.Unit.{Unit as LengthUnit}
use Rattle.plane_predicate.proofs.lemmas.IntegerRing.{sums}
use Rattle.primitives.specs.Checks.{HasOuterPlane, IsConvexMesh}
use Rattle.primitives.specs.Polyhedra.{polyhedron_of, IsPolyhedron}
use Rattle.primitives.specs.Shapes.{value_at_point, Mesh, HasBodyBehind, IsShape}
use Rattle.primitives.proofs.lemmas.Solids.{shape_of}

-- some item passes, or all fail
pub some_or_all : {X : Type 0} (P Q : X → Type 0) (d : X) → ((x : X) → P x ⊎ Q x) → (xs : List X) → AllByRecursion P xs ⊎ ((k : ℕ) × (k < length xs) × Q (get_or xs k d))
some_or_all P Q d test [] = inl tt
some_or_all P Q d test (x ∷ xs) = elim (test x) [
  | inr q ↦ inr (0, omega arith, q)
  | inl p ↦ elim (some_or_all P Q d test xs) [
    | inl rest ↦ inl (p, rest)
    | inr some ↦ inr (suc some.0, omega (arith, some.1), some.2)
  ]
]

least_or_below : (x : ℤ) → (pos 0 ≤ℤ x) ⊎ (x <ℤ pos 0)
least_or_below (pos n) = inl (omega (arith, sums))
least_or_below (negsuc n) = inr (omega (arith, sums))

both_most : (v : ℤ) → v ≤ℤ pos 0 → pos 0 ≤ℤ v → v ≡ pos 0
both_most v h k = omega (arith, sums, h, k)

-- not all points of the faces are on the plane of a face: some point is behind it
body_behind : (mesh : Mesh) → IsConvexMesh mesh → (face : List ℕ) → HasOuterPlane mesh face → HasBodyBehind mesh face
body_behind mesh convex face outer =
    let at : ℕ → ℤ = value_at_point mesh.points outer.plane in
    let Below : List ℕ → Type 0 = λ f. (i : ℕ) × (i < length f) × (at (get_or f i 0) <ℤ pos 0) in
    elim (some_or_all (λ f. AllByRecursion (λ i. pos 0 ≤ℤ at i) f) Below [] (some_or_all (λ i. pos 0 ≤ℤ at i) (λ i. at i <ℤ pos 0) 0 (λ i. least_or_below (at i))) mesh.faces) [
      | inl least ↦ absurd (convex.solid (record {
        plane = outer.plane;
        directed = outer.is.directed;
        on = λ k d lt i e hi. both_most _ (outer.is.none_ahead k d lt i e hi)
            (All-from_recursion (λ j. pos 0 ≤ℤ at j) (get_or mesh.faces k d) (All-from_recursion (λ f. AllByRecursion (λ j. pos 0 ≤ℤ at j) f) mesh.faces least k d lt) i e hi);
      }))
      | inr some ↦ record { plane = outer.plane; is = outer.is; at_face = some.0; at = some.2.0; at_face_in = some.1; at_in = some.2.1; behind = some.2.2 }
    ]

-- a polyhedron is a shape
pub polyhedron_is_shape : (unit : LengthUnit) (points : List (List ℤ)) (faces : List (List ℕ)) → IsPolyhedron unit points faces → IsShape (polyhedron_of unit points faces)
polyhedron_is_shape unit points faces h =
    shape_of unit points faces h (λ k d lt. body_behind (polyhedron_of unit points faces) h.surface.convex (get_or faces k d) (h.surface.convex.faces k d lt))
