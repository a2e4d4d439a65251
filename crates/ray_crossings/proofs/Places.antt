-- Each vertex of a boundary is a corner of a face, and so a limit of points inside.
use Rattle.std.proofs.Common.{◌≡◌, ◌⊎◌, inl, inr, ℕ, zero, suc, ◌<◌, List, [], ◌∷◌, ◌++◌, flat_map, length, get_or, slice_index, slice_index_or, refl, ap, ◌∙◌, subst, arith, All, pos}
use Rattle.std.specs.Prelude.{Contains}
use Rattle.plane_predicate.specs.declared.unit.Unit.{Unit as LengthUnit}
use Rattle.plane_predicate.specs.Space.{Coordinates, IsInWorld}
use Rattle.plane_predicate.specs.InUnits.{in_steps}
use Rattle.csg_tree.specs.HalfSpaceTrees.{Tree}
use Rattle.csg_tree.specs.ProperTrees.{HasFullLeaves}
use Rattle.closed_surface.proofs.lemmas.Each.{each_from_all}
use Rattle.off_text.specs.Bounding.{IsBoundary}
use Rattle.ray_crossings.specs.Limits.{IsLimitOfInside}
use Rattle.ray_crossings.proofs.Inside.{corner_limit}

-- ---- where a number stands in a list of lists
in_either : (xs ys : List ℕ) (x : ℕ) → Contains (xs ++ ys) x → Contains xs x ⊎ Contains ys x
in_either [] ys x c = inr c
in_either (y ∷ xs) ys x (zero, l, e) = inl (0, omega arith, e)
in_either (y ∷ xs) ys x (suc i, l, e) = elim (in_either xs ys x (i, omega arith, e)) [
  | inl c ↦ inl (suc c.0, omega (arith, c.1), c.2)
  | inr c ↦ inr c
]

-- it stands at a place of one of the lists
pub record StandsIn (lists : List (List ℕ)) (x : ℕ) : Type 0 where
  pub list : ℕ
  pub list_within : list < length lists
  pub place : ℕ
  pub place_within : place < length (slice_index_or lists list [])
  pub is : slice_index (slice_index_or lists list []) place ≡ x

any_default : (xs : List ℕ) (i d e : ℕ) → i < length xs → get_or xs i d ≡ get_or xs i e
any_default [] i d e l = absurd (omega arith)
any_default (x ∷ xs) zero d e l = refl
any_default (x ∷ xs) (suc i) d e l = any_default xs i d e (omega arith)

stands : (lists : List (List ℕ)) (x : ℕ) → Contains (flat_map (λ list. list) lists) x → StandsIn lists x
stands [] x c = absurd (omega (arith, c.1))
stands (list ∷ lists) x c = elim (in_either list (flat_map (λ it. it) lists) x c) [
  | inl d ↦ record { list = 0; list_within = omega arith; place = d.0; place_within = d.1; is = any_default list d.0 0 x d.1 ∙ d.2 }
  | inr d ↦ (let s = stands lists x d in record { list = suc s.list; list_within = omega (arith, s.list_within); place = s.place; place_within = s.place_within; is = s.is })
]

vertex_default : (vertices : List Coordinates) (i : ℕ) (d e : Coordinates) → i < length vertices → slice_index_or vertices i d ≡ slice_index_or vertices i e
vertex_default [] i d e l = absurd (omega arith)
vertex_default (x ∷ xs) zero d e l = refl
vertex_default (x ∷ xs) (suc i) d e l = vertex_default xs i d e (omega arith)

pub all_limits : (unit : LengthUnit) (bytes : List ℕ) (f : Tree) → HasFullLeaves f → (text : IsBoundary unit bytes f) →
    All (λ (p : Coordinates). IsInWorld (in_steps unit p)) text.vertices → All (λ (v : Coordinates). IsLimitOfInside f (in_steps unit v)) text.vertices
all_limits unit bytes f full text inside i d l =
    let s = stands text.faces i (text.own_vertices.used i l) in
    let origin : Coordinates = record { x = pos 0; y = pos 0; z = pos 0; w = pos 1 } in
    subst (λ (v : Coordinates). IsLimitOfInside f (in_steps unit v))
    (ap (λ (a : ℕ). slice_index_or text.vertices a origin) s.is ∙ vertex_default text.vertices i origin d l)
    (corner_limit unit bytes f full text (each_from_all (λ (p : Coordinates). IsInWorld (in_steps unit p)) text.vertices inside) s.list s.list_within s.place s.place_within)
