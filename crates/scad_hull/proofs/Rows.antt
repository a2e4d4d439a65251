-- Hulls that are written out.
use Rattle.std.proofs.Common.{◌≡◌, ℕ, List, [], ◌∷◌, ℤ, pos, negsuc, ◌<ℤ◌, refl, arith}
use Rattle.std.proofs.lemmas.List.Elements.{All-from_recursion}
use Rattle.plane_predicate.proofs.lemmas.IntegerRing.{sums}
use Rattle.scad_hull.specs.Combinations.{IsInnerCombination}
use Rattle.scad_hull.specs.Hulls.{points_in_order, faces_of_hull}

abbrev at : ℕ → ℕ → ℕ → List ℤ
at x y z = pos x ∷ pos y ∷ pos z ∷ []

abbrev three : ℕ → ℕ → ℕ → List ℕ
three i j k = i ∷ j ∷ k ∷ []

-- a corner of a box, with copies: the points in order, and each side once
abbrev corner : List (List ℤ)
corner = at 0 0 0 ∷ at 0 0 2 ∷ at 0 2 0 ∷ at 3 0 0 ∷ []

corner_points : points_in_order (at 3 0 0 ∷ at 0 0 2 ∷ at 3 0 0 ∷ at 0 2 0 ∷ at 0 0 0 ∷ at 0 0 0 ∷ []) ≡ corner
corner_points = refl

corner_faces : faces_of_hull corner ≡ three 0 1 2 ∷ three 0 1 3 ∷ three 0 2 3 ∷ three 1 2 3 ∷ []
corner_faces = refl

-- points below 0 come first
ascending_points : points_in_order (at 0 0 0 ∷ (negsuc 0 ∷ pos 5 ∷ pos 5 ∷ []) ∷ (pos 0 ∷ negsuc 1 ∷ pos 7 ∷ []) ∷ []) ≡ (negsuc 0 ∷ pos 5 ∷ pos 5 ∷ []) ∷ (pos 0 ∷ negsuc 1 ∷ pos 7 ∷ []) ∷ at 0 0 0 ∷ []
ascending_points = refl

-- a point inside stays a point, and is on no face
with_inside : faces_of_hull (at 0 0 0 ∷ at 0 0 8 ∷ at 0 8 0 ∷ at 1 1 1 ∷ at 8 0 0 ∷ []) ≡ three 0 1 2 ∷ three 0 1 4 ∷ three 0 2 4 ∷ three 1 2 4 ∷ []
with_inside = refl

-- a pyramid over a square: of the four triples on its ground the first alone
pyramid : faces_of_hull (at 0 0 0 ∷ at 0 2 0 ∷ at 1 1 1 ∷ at 2 0 0 ∷ at 2 2 0 ∷ []) ≡ three 0 1 2 ∷ three 0 1 3 ∷ three 0 2 3 ∷ three 1 2 4 ∷ three 2 3 4 ∷ []
pyramid = refl

-- points on one line have no face
line : faces_of_hull (at 0 0 0 ∷ at 1 2 3 ∷ at 2 4 6 ∷ []) ≡ []
line = refl

-- an inner combination of the corner's points, the point (3/4, 1/2, 1/2)
middle : IsInnerCombination corner (record { x = pos 3; y = pos 2; z = pos 2; w = pos 4 })
middle = record {
  weights = pos 1 ∷ pos 1 ∷ pos 1 ∷ pos 1 ∷ [];
  one_each = refl;
  above = All-from_recursion (λ m. pos 0 <ℤ m) (pos 1 ∷ pos 1 ∷ pos 1 ∷ pos 1 ∷ []) (omega (arith, sums), (omega (arith, sums), (omega (arith, sums), (omega (arith, sums), tt))));
  x = refl;
  y = refl;
  z = refl;
}
