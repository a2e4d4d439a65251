-- A point moved a little keeps its side of each plane of a list or of a solid that it isn't on.
use Rattle.std.proofs.Common.{◌≡◌, inl, inr, ℕ, suc, ◌+◌, ◌≤◌, [], refl, sym, ap, subst, arith, ℤ, pos, ◌*ℤ◌, ◌<ℤ◌, unsigned_abs}
use Rattle.plane_predicate.specs.Space.{Coefficients, Coordinates, value, inner_product}
use Rattle.plane_predicate.proofs.lemmas.Identities.{combine, value_combine}
use Rattle.plane_predicate.proofs.lemmas.Polynomials.{num, ring}
use Rattle.plane_predicate.proofs.lemmas.Vectors.{form, of_plane, valueP, innerP}
use Rattle.bsp_tree.specs.Trees.{BspTree, inside, outside, node}
use Rattle.bsp_tree.specs.Cells.{IsNodePlaneOf}
use Rattle.bsp_tree.proofs.lemmas.Openness.{more_below, more_above}

-- the direction of a plane, as what is added to a point that moves ahead of it
abbrev pub direction : Coefficients → Coordinates
direction n = record { x = n.a; y = n.b; z = n.c; w = pos 0 }

pub value_direction : (m n : Coefficients) → value m (direction n) ≡ inner_product m n
value_direction m n =
    let N = form 4 in
    ring (of_plane m (of_plane n [])) (valueP (form 0) (record {
      x = N.a;
      y = N.b;
      z = N.c;
      w =
          num (pos 0);
    })) (innerP (form 0) N) refl

-- a plane that the point is behind, or ahead of
pub near_behind : (m : Coefficients) (k : ℕ) (p : Coordinates) (v : ℤ) (u : Coordinates) →
    unsigned_abs (v *ℤ value m u) ≤ k → value m p <ℤ pos 0 → value m (combine (pos (suc k)) p v u) <ℤ pos 0
near_behind m k p v u b h = subst (λ (x : ℤ). x <ℤ pos 0) (sym (value_combine m (pos (suc k)) p v u))
    (more_below k (value m p) (v *ℤ value m u) h b)

pub near_ahead : (m : Coefficients) (k : ℕ) (p : Coordinates) (v : ℤ) (u : Coordinates) →
    unsigned_abs (v *ℤ value m u) ≤ k → pos 0 <ℤ value m p → pos 0 <ℤ value m (combine (pos (suc k)) p v u)
near_ahead m k p v u b h = subst (λ (x : ℤ). pos 0 <ℤ x) (sym (value_combine m (pos (suc k)) p v u))
    (more_above k (value m p) (v *ℤ value m u) h b)

-- how often the point is to be taken, for all planes of a solid
abbrev pub often_in : BspTree → ℤ → Coordinates → ℕ
often_in inside v u = 0
often_in outside v u = 0
often_in (node t b a) v u = unsigned_abs (v *ℤ value t.plane u) + often_in b v u + often_in a v u

pub often_each : (t : BspTree) (v : ℤ) (u : Coordinates) (m : Coefficients) → IsNodePlaneOf m t →
    unsigned_abs (v *ℤ value m u) ≤ often_in t v u
often_each inside v u m h = absurd h
often_each outside v u m h = absurd h
often_each (node t b a) v u m (inl e) = omega (
  arith,
  ap (λ (n : Coefficients). unsigned_abs (v *ℤ value n u))
      e,
)
often_each (node t b a) v u m (inr (inl h)) = omega (arith, often_each b v u m h)
often_each (node t b a) v u m (inr (inr h)) = omega (arith, often_each a v u m h)
