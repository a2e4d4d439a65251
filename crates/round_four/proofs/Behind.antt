-- Each corner of a cylinder is a corner of one of its faces, so that no plane of a face has it ahead.
use Rattle.std.proofs.Common.{ℕ, Bool, true, false, List, [], sym, subst, All, arith, ℤ, pos, ◌≤ℤ◌}
use Rattle.std.specs.Ordering.{int_eq}
use Rattle.std.proofs.lemmas.List.Elements.{All-from_recursion}
use Rattle.plane_predicate.specs.Space.{Coefficients, point_at, value}
use Rattle.int_transform.specs.declared.affine.Affine.{Affine}
use Rattle.primitives.specs.Shapes.{Mesh, IsPlaneOfFace}
use Rattle.primitives.specs.Placing.{moved_mesh, ArePlanesOf}
use Rattle.primitives.proofs.lemmas.Distinct.{all_of_distinct}
use Rattle.primitives.proofs.lemmas.Lists.{zip_second}
use Rattle.primitives.specs.Prisms.{AreBehindOrOn}
use Rattle.round_four.specs.Cylinders.{cylinder_between}
use Rattle.round_four.proofs.lemmas.Cylinders.{by_apexes}

abbrev AreBehind : Mesh → Coefficients → Type 0
AreBehind mesh m = All (λ (p : List ℤ). value m (point_at p) ≤ℤ pos 0) mesh.points

each_behind : (f : Affine) (a b l h : ℤ) (low high : Bool) (face : List ℕ) (m : Coefficients) → IsPlaneOfFace (moved_mesh f (by_apexes a b l h low high)) face m → AreBehind (moved_mesh f (by_apexes a b l h low high)) m
each_behind f a b l h true true face m is =
    let at = is.none_ahead in
    All-from_recursion (λ (p : List ℤ). value m (point_at p) ≤ℤ pos 0) (moved_mesh f (by_apexes a b l h true true)).points
    (at 0 [] (omega arith) 0 0 (omega arith), (at 0 [] (omega arith) 2 0 (omega arith), tt))
each_behind f a b l h true false face m is =
    let at = is.none_ahead in
    All-from_recursion (λ (p : List ℤ). value m (point_at p) ≤ℤ pos 0) (moved_mesh f (by_apexes a b l h true false)).points (
      at 0 [] (omega arith) 0 0 (omega arith),
      (
        at 4 [] (omega arith) 0 0 (omega arith),
        (
          at 4 [] (omega arith) 1 0 (omega arith),
          (
            at 4 [] (omega arith) 2 0 (omega arith),
            (
              at 4 [] (omega arith) 3 0 (omega arith),
              tt,
            ),
          ),
        ),
      ),
    )
each_behind f a b l h false true face m is =
    let at = is.none_ahead in
    All-from_recursion (λ (p : List ℤ). value m (point_at p) ≤ℤ pos 0) (moved_mesh f (by_apexes a b l h false true)).points (
      at 4 [] (omega arith) 0 0 (omega arith),
      (
        at 4 [] (omega arith) 1 0 (omega arith),
        (
          at 4 [] (omega arith) 2 0 (omega arith),
          (
            at 4 [] (omega arith) 3 0 (omega arith),
            (
              at 0 [] (omega arith) 2 0 (omega arith),
              tt,
            ),
          ),
        ),
      ),
    )
each_behind f a b l h false false face m is =
    let at = is.none_ahead in
    All-from_recursion (λ (p : List ℤ). value m (point_at p) ≤ℤ pos 0) (moved_mesh f (by_apexes a b l h false false)).points (
      at 4 [] (omega arith) 0 0 (omega arith),
      (
        at 4 [] (omega arith) 1 0 (omega arith),
        (
          at 4 [] (omega arith) 2 0 (omega arith),
          (
            at 4 [] (omega arith) 3 0 (omega arith),
            (
              at 5 [] (omega arith) 0 0 (omega arith),
              (
                at 5 [] (omega arith) 1 0 (omega arith),
                (
                  at 5 [] (omega arith) 2 0 (omega arith),
                  (
                    at 5 [] (omega arith) 3 0 (omega arith),
                    tt,
                  ),
                ),
              ),
            ),
          ),
        ),
      ),
    )

pub all_behind : (f : Affine) (a b l h : ℤ) (planes : List Coefficients) → ArePlanesOf (moved_mesh f (cylinder_between a b l h)) (cylinder_between a b l h).faces planes → AreBehindOrOn (moved_mesh f (cylinder_between a b l h)).points planes
all_behind f a b l h planes are =
    let mesh = moved_mesh f (cylinder_between a b l h) in
    let each : All (AreBehind mesh) are.all = zip_second (IsPlaneOfFace mesh) (λ (face : List ℕ). Unit) (AreBehind mesh) (λ face m is t. each_behind f a b l h (int_eq a (pos 0)) (int_eq b (pos 0)) face m is) mesh.faces are.all are.each (λ k d lt. tt) in
    subst (All (AreBehind mesh)) (sym are.first) (all_of_distinct (AreBehind mesh) are.all each)
