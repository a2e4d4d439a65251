-- The ways along a face, one behind another.
use Rattle.std.proofs.Common.{◌≡◌, ℕ, zero, suc, ◌+◌, ◌<◌, Bool, true, false, cond, List, [], ◌∷◌, ◌++◌, length, get_or, sym, ap, ◌∙◌, subst, append_assoc, append-nil, add-one, arith, ℤ, All}
use Rattle.std.specs.List.{flat_map}
use Rattle.std.proofs.lemmas.Bool.Decides.{nat_tests}
use Rattle.std.proofs.lemmas.List.Concat.{flat_map-append}
use Rattle.std.proofs.lemmas.List.Elements.{All-append, All-cons, All-nil}
use Rattle.plane_predicate.specs.Space.{point_at}
use Rattle.primitives.specs.declared.ways.DirectedEdge.{DirectedEdge}
use Rattle.primitives.specs.GridSizes.{IsWithinGridLimits}
use Rattle.primitives.specs.DirectedEdges.{next_in_face, edge_at_place, edges_of_mesh_face, IsEdgeOnGrid}
use Rattle.plane_predicate.specs.Indices.{indices_below}

flat_next : {A : Type 0} (f : ℕ → List A) (n : ℕ) → flat_map f (indices_below (suc n)) ≡ flat_map f (indices_below n) ++ f n
flat_next f n = flat_map-append f (indices_below n) (n ∷ []) ∙ ap (λ (l : List _). flat_map f (indices_below n) ++ l) (append-nil (f n))

pub ways_next : (f : ℕ → List DirectedEdge) (n : ℕ) (first now more : List DirectedEdge) → now ≡ first ++ flat_map f (indices_below n) → more ≡ now ++ f n → more ≡ first ++ flat_map f (indices_below (n + 1))
ways_next f n first now more e h =
    subst (λ (m : ℕ). more ≡ first ++ flat_map f (indices_below m)) (sym (add-one n))
    (h ∙ ap (λ (l : List DirectedEdge). l ++ f n) e ∙ append_assoc first (flat_map f (indices_below n)) (f n) ∙ ap (λ (l : List DirectedEdge). first ++ l) (sym (flat_next f n)))

-- ---- the points of ways
way_on_grid : (p q : List ℤ) → IsWithinGridLimits (point_at p) → IsWithinGridLimits (point_at q) → (b : Bool) → All IsEdgeOnGrid (cond b [] (record { from = p; to = q } ∷ []))
way_on_grid p q hp hq true = All-nil IsEdgeOnGrid
way_on_grid p q hp hq false = All-cons IsEdgeOnGrid _ [] (record { from_grid = hp; to_grid = hq }) (All-nil IsEdgeOnGrid)

all_flat : {A : Type 0} (P : A → Type 0) (f : ℕ → List A) (n : ℕ) → ((k : ℕ) → k < n → All P (f k)) → All P (flat_map f (indices_below n))
all_flat P f zero h = All-nil P
all_flat P f (suc n) h = subst (All P) (sym (flat_next f n)) (All-append P (flat_map f (indices_below n)) (f n) (all_flat P f n (λ k lt. h k (omega arith))) (h n (omega arith)))

after_in : (k n : ℕ) → k < n → next_in_face k n < n
after_in k n h = grind (arith, nat_tests)

pub ways_on_grid : (points : List (List ℤ)) (face : List ℕ) → All (λ (p : List ℤ). IsWithinGridLimits (point_at p)) points → All (λ (i : ℕ). i < length points) face → All IsEdgeOnGrid (edges_of_mesh_face points face)
ways_on_grid points face grid there =
    all_flat IsEdgeOnGrid (edge_at_place points face) (length face) (λ k lt.
    way_on_grid _ _ (grid (get_or face k 0) [] (there k 0 lt)) (grid (get_or face (next_in_face k (length face)) 0) [] (there (next_in_face k (length face)) 0 (after_in k (length face) lt))) _)
