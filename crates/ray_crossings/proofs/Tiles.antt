-- Two trees that hold alike inside a cell: at a point of it that is on one face plane of both together, their texts have faces
-- alike.
use Rattle.std.proofs.Common.{◌≡◌, ◌≢◌, ◌⊎◌, inl, inr, ℕ, zero, suc, ◌<◌, Bool, true, false, not, ◌&&◌, if◌then◌else◌, List, [], ◌∷◌, length, slice_index_or, refl, sym, ap, ap₂, ◌∙◌, subst, arith, pos, ◌<ℤ◌}
use Rattle.std.specs.Prelude.{Contains}
use Rattle.plane_predicate.specs.declared.unit.Unit.{Unit as LengthUnit}
use Rattle.plane_predicate.specs.Space.{Coefficients, Coordinates, value, opposite_of, is_same, IsPlane}
use Rattle.plane_predicate.specs.InUnits.{in_steps}
use Rattle.plane_predicate.proofs.lemmas.Opposites.{opposite_is_plane}
use Rattle.plane_predicate.proofs.lemmas.SamePlanes.{directed_above}
use Rattle.csg_tree.specs.declared.op.Op.TheVariants.{Union}
use Rattle.csg_tree.specs.HalfSpaceTrees.{Tree, nothing, leaf, tree_join, holds, sides_of, IsPlaneOf}
use Rattle.csg_tree.specs.FacePlanes.{IsFacePlane, IsOnOneFacePlane, sides_just_behind, sides_just_ahead, is_boundary_at}
use Rattle.csg_tree.specs.ProperTrees.{HasFullLeaves}
use Rattle.bsp_tree.specs.Cells.{IsInCell}
use Rattle.bsp_tree.proofs.lemmas.SameNumbers.{same_equal, not_same}
use Rattle.off_text.specs.Boundaries.{FaceCovers, OneExactlyWhere}
use Rattle.off_text.specs.Bounding.{IsBoundary}
use Rattle.off_text.proofs.lemmas.BesideFaces.{face_plane_is_plane}
use Rattle.watertight.proofs.lemmas.Overlaps.{sides_exchanged, on_opposite, faced_plane}
use Rattle.ray_crossings.proofs.Sides.{holds_alike}
use Rattle.ray_crossings.proofs.Single.{pick}
use Rattle.ray_crossings.proofs.Inside.{just_inside, inside_sides, inside_off, inside_in}
use Rattle.ray_crossings.specs.Tiles.{HoldAlikeInside, CoverAlike}

-- ---- a plane is a face plane of a tree, or it isn't
in_neither : (m n : Coefficients) (planes : List Coefficients) → (n ≡ m → ⊥) → (Contains planes m → ⊥) → Contains (n ∷ planes) m → ⊥
in_neither m n planes other none (zero, l, e) = other e
in_neither m n planes other none (suc i, l, e) = none (i, omega (arith, l), e)

one_more : (m n : Coefficients) (planes : List Coefficients) (b : Bool) → is_same n m ≡ b → Contains planes m ⊎ (Contains planes m → ⊥) → Contains (n ∷ planes) m ⊎ (Contains (n ∷ planes) m → ⊥)
one_more m n planes true e rest = inl (0, omega arith, same_equal n m e)
one_more m n planes false e (inl (i, l, q)) = inl (suc i, omega (arith, l), q)
one_more m n planes false e (inr none) = inr (in_neither m n planes (not_same n m e) none)

in_or_not : (m : Coefficients) (planes : List Coefficients) → Contains planes m ⊎ (Contains planes m → ⊥)
in_or_not m [] = inr (λ c. absurd (omega (arith, c.1)))
in_or_not m (n ∷ planes) = one_more m n planes (is_same n m) refl (in_or_not m planes)

either_or_not : {A B : Type 0} → A ⊎ (A → ⊥) → B ⊎ (B → ⊥) → (A ⊎ B) ⊎ ((A ⊎ B) → ⊥)
either_or_not (inl a) d = inl (inl a)
either_or_not (inr none) (inl b) = inl (inr b)
either_or_not (inr none) (inr nor) = inr (λ s. elim s [ inl a ↦ none a | inr b ↦ nor b ])

plane_or_not : (m : Coefficients) (f : Tree) → IsPlaneOf m f ⊎ (IsPlaneOf m f → ⊥)
plane_or_not m nothing = inr (λ h. h)
plane_or_not m (leaf planes) = in_or_not m planes
plane_or_not m (tree_join op left right) = either_or_not (plane_or_not m left) (plane_or_not m right)

face_or_not : (n : Coefficients) (f : Tree) → IsFacePlane n f ⊎ (IsFacePlane n f → ⊥)
face_or_not n f = either_or_not (plane_or_not n f) (plane_or_not (opposite_of n) f)

-- ---- where n is no face plane of a tree, nothing begins or ends
not_itself : (a b : Bool) → a ≡ b → (a && not b) ≡ false
not_itself true true e = refl
not_itself true false e = e
not_itself false b e = refl

module _ (f : Tree) (n : Coefficients) (q : Coordinates) (none : IsFacePlane n f → ⊥) where
  own_side : (m : Coefficients) → IsPlaneOf m f → (m ≡ n → ⊥) × (m ≡ opposite_of n → ⊥)
  own_side m h = (
    (λ e. none (inl (subst (λ (k : Coefficients). IsPlaneOf k f) e h))),
    (λ e. none (inr (subst (λ (k : Coefficients). IsPlaneOf k f) e h))),
  )

  kept_behind : (m : Coefficients) → IsPlaneOf m f → sides_just_behind n q m ≡ sides_of q m
  kept_behind m h =
      pick (is_same m n) (is_same m (opposite_of n)) true false (sides_of q m) (sides_of q m)
      (λ e. absurd ((own_side m h).0 (same_equal m n e))) (λ e. absurd ((own_side m h).1 (same_equal m (opposite_of n) e))) (λ x y. refl)

  kept_ahead : (m : Coefficients) → IsPlaneOf m f → sides_just_ahead n q m ≡ sides_of q m
  kept_ahead m h =
      pick (is_same m n) (is_same m (opposite_of n)) false true (sides_of q m) (sides_of q m)
      (λ e. absurd ((own_side m h).0 (same_equal m n e))) (λ e. absurd ((own_side m h).1 (same_equal m (opposite_of n) e))) (λ x y. refl)

  no_boundary : is_boundary_at f n q ≡ false
  no_boundary =
      not_itself (holds f (sides_just_behind n q)) (holds f (sides_just_ahead n q))
      (holds_alike f (sides_just_behind n q) (sides_of q) kept_behind ∙ sym (holds_alike f (sides_just_ahead n q) (sides_of q) kept_ahead))

-- ---- a text covers a point that is on one face plane of a larger tree exactly where its own tree says so
module _ (unit : LengthUnit) (bytes : List ℕ) (f h : Tree) (full : HasFullLeaves f) (text : IsBoundary unit bytes f) (into : (m : Coefficients) → IsPlaneOf m f → IsPlaneOf m h)
    (n : Coefficients) (plane : IsPlane n) (p : Coordinates) (one : IsOnOneFacePlane h n (in_steps unit p)) where
  own_plane : IsFacePlane n f → IsOnOneFacePlane f n (in_steps unit p)
  own_plane k = record { world = one.world; face_plane = k; on = one.on; alone = λ m l e. one.alone m (into m l) e }

  told : OneExactlyWhere (is_boundary_at f n (in_steps unit p)) (FaceCovers unit text.vertices n p) text.faces
  told = elim (face_or_not n f) [
    | inl k ↦ text.covered n p (own_plane k)
    | inr none ↦ subst (λ (b : Bool). OneExactlyWhere b (FaceCovers unit text.vertices n p) text.faces) (sym (no_boundary f n (in_steps unit p) none))
        (λ i l c. none (faced_plane unit bytes f full text n plane i l c.faces))
  ]

-- ---- two trees that hold alike
module _ (cell : List Coefficients) (f g : Tree) (alike : HoldAlikeInside cell f g) (q : Coordinates) (inside : IsInCell cell q) where
  behind_alike : (n : Coefficients) → IsPlane n → IsOnOneFacePlane (tree_join Union f g) n q → holds f (sides_just_behind n q) ≡ holds g (sides_just_behind n q)
  behind_alike n plane one =
      let h = tree_join Union f g in
      let up = directed_above n plane.directed in
      let x = just_inside h n up q one cell in
      holds_alike f (sides_just_behind n q) (sides_of x) (λ m k. inside_sides h n up q one cell m (inl k))
      ∙ (alike x (inside_in h n up q one cell inside) (λ m k. inside_off h n up q one cell m k)
      ∙ sym (holds_alike g (sides_just_behind n q) (sides_of x) (λ m k. inside_sides h n up q one cell m (inr k))))

  ahead_alike : (n : Coefficients) → IsPlane n → IsOnOneFacePlane (tree_join Union f g) n q → holds f (sides_just_ahead n q) ≡ holds g (sides_just_ahead n q)
  ahead_alike n plane one =
      ap (holds f) (sym (sides_exchanged n plane q))
      ∙ (behind_alike (opposite_of n) (opposite_is_plane n plane) (on_opposite (tree_join Union f g) n q one) ∙ ap (holds g) (sides_exchanged n plane q))

  boundary_alike : (n : Coefficients) → IsPlane n → IsOnOneFacePlane (tree_join Union f g) n q → is_boundary_at f n q ≡ is_boundary_at g n q
  boundary_alike n plane one = ap₂ (λ (a b : Bool). a && not b) (behind_alike n plane one) (ahead_alike n plane one)

pub cover_alike : (unit : LengthUnit) (cell : List Coefficients) (f g : Tree) (bytes others : List ℕ) → HasFullLeaves f → HasFullLeaves g → HoldAlikeInside cell f g →
    (text : IsBoundary unit bytes f) (other : IsBoundary unit others g) (n : Coefficients) (p : Coordinates) → IsInCell cell (in_steps unit p) →
    IsOnOneFacePlane (tree_join Union f g) n (in_steps unit p) → CoverAlike unit text.vertices other.vertices text.faces other.faces n p
cover_alike unit cell f g bytes others full full' alike text other n p inside one =
    let h = tree_join Union f g in
    let plane = face_plane_is_plane h n (full, full') one.face_plane in record {
      is_covered = is_boundary_at f n (in_steps unit p);
      here = told unit bytes f h full text (λ m k. inl k) n plane p one;
      there = subst (λ (b : Bool). OneExactlyWhere b (FaceCovers unit other.vertices n p) other.faces) (sym (boundary_alike cell f g alike (in_steps unit p) inside n plane one))
          (told unit others g h full' other (λ m k. inr k) n plane p one);
    }
