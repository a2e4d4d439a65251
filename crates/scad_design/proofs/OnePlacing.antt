-- A design has at most one placing.
use Rattle.std.proofs.Common.{◌≡◌, ℕ, ◌<◌, ◌≤◌, List, [], ◌∷◌, length, refl, sym, ap, ap₂, subst, ◌∙◌, arith, ℤ, pos, ◌*ℤ◌, neg_ℤ, ◌<ℤ◌, inl, inr, All}
use Rattle.std.specs.List.{AllZip}
use Rattle.std.proofs.lemmas.List.Elements.{All-head, All-tail}
use Rattle.plain_text.specs.declared.place.Place.{Place}
use Rattle.text_place.specs.declared.fault.FaultKind.{FaultKind}
use Rattle.plane_predicate.specs.Space.{Coefficients, value, IsPlane, HasItsPointsOn}
use Rattle.plane_predicate.proofs.lemmas.IntegerRing.{sums, zero_mul, mul_comm_ℤ}
use Rattle.plane_predicate.proofs.lemmas.SamePlanes.{equal_or_opposite}
use Rattle.plane_predicate.proofs.lemmas.Vectors.{value-opposite}
use Rattle.int_transform.specs.Maps.{map_of}
use Rattle.primitives.specs.Shapes.{Mesh, mesh_point, IsFaceOfShape, IsPlaneOfFace}
use Rattle.primitives.specs.Placing.{moved_mesh, distinct_planes}
use Rattle.primitives.proofs.lemmas.Distinct.{all_from_distinct}
use Rattle.primitives.proofs.lemmas.FacePlanes.{behind_each, body_proportion, far}
use Rattle.primitives.proofs.lemmas.Moves.{cancelled}
use Rattle.primitives.proofs.lemmas.OnePlane.{not_zero_below}
use Rattle.csg_tree.specs.declared.op.Op.{Op}
use Rattle.csg_tree.specs.HalfSpaceTrees.{Tree, leaf}
use Rattle.scad_design.specs.Designs.{DesignTree, empty, a_leaf, joined_designs, MovedShape}
use Rattle.scad_design.specs.Placing.{PlacingOutcome, placing_tree, placing_fault, with_new_planes, placing_of_join, AreWorldPlanes, IsPlacedLeaf, PlacesDesign, PlacesLeaf, PlacesRight, most_planes}
use Rattle.scad_design.proofs.PartFaults.{Cause, large, far_off, many, cause_of}

-- ---- the plane of a face
far_behind : (mesh : Mesh) (face : List ℕ) (is : IsFaceOfShape mesh face) (m : Coefficients) → IsPlaneOfFace mesh face m → value m (mesh_point mesh.points (far mesh face is)) <ℤ pos 0
far_behind mesh face is m h = behind_each mesh face is m h (mesh_point mesh.points (far mesh face is)) is.body.behind

no_times : (x y : ℤ) → x ≡ pos 0 → x *ℤ y ≡ pos 0
no_times x y e = ap (λ (z : ℤ). z *ℤ y) e ∙ zero_mul y

times_no : (x y : ℤ) → y ≡ pos 0 → x *ℤ y ≡ pos 0
times_no x y e = mul_comm_ℤ x y ∙ no_times y x e

-- a point of one plane of a face is on each other one
points_on : (mesh : Mesh) (face : List ℕ) (is : IsFaceOfShape mesh face) (m n : Coefficients) → IsPlaneOfFace mesh face m → IsPlaneOfFace mesh face n → HasItsPointsOn m n
points_on mesh face is m n hm hn = record {
  points = λ p _ e.
      let q = mesh_point mesh.points (far mesh face is) in
      let body = is.body.plane in
      let on_body : value body p ≡ pos 0 = cancelled (value m q) (value body p) (not_zero_below (value m q) (far_behind mesh face is m hm))
      (mul_comm_ℤ (value m q) (value body p) ∙ body_proportion mesh face is m hm.on p ∙ no_times (value m p) (value body q) e) in
      cancelled (value body q) (value n p) (not_zero_below (value body q) is.body.behind)
      (mul_comm_ℤ (value body q) (value n p) ∙ sym (body_proportion mesh face is n hn.on p) ∙ no_times (value body p) (value n q) on_body);
}

not_both : (x y : ℤ) → x <ℤ pos 0 → y <ℤ pos 0 → x ≡ neg_ℤ y → ⊥
not_both x y hx hy e = omega (arith, sums, hx, hy, e)

one_plane : (mesh : Mesh) (face : List ℕ) → IsFaceOfShape mesh face → (m n : Coefficients) → IsPlane m → IsPlane n → IsPlaneOfFace mesh face m → IsPlaneOfFace mesh face n → m ≡ n
one_plane mesh face is m n pm pn hm hn =
    let q = mesh_point mesh.points (far mesh face is) in
    elim (equal_or_opposite m n pm pn (points_on mesh face is m n hm hn)) [
      | inl e ↦ e
      | inr e ↦ absurd (not_both (value m q) (value n q) (far_behind mesh face is m hm) (far_behind mesh face is n hn) (ap (λ (k : Coefficients). value k q) e ∙ value-opposite n q))
    ]

one_list : (mesh : Mesh) (faces : List (List ℕ)) (ms ns : List Coefficients) → All (IsFaceOfShape mesh) faces → AllZip (IsPlaneOfFace mesh) faces ms → AllZip (IsPlaneOfFace mesh) faces ns →
    All IsPlane ms → All IsPlane ns → ms ≡ ns
one_list mesh [] [] [] is hm hn pm pn = refl
one_list mesh [] [] (n ∷ ns) is hm hn pm pn = absurd hn
one_list mesh [] (m ∷ ms) ns is hm hn pm pn = absurd hm
one_list mesh (f ∷ faces) [] ns is hm hn pm pn = absurd hm
one_list mesh (f ∷ faces) (m ∷ ms) [] is hm hn pm pn = absurd hn
one_list mesh (f ∷ faces) (m ∷ ms) (n ∷ ns) is hm hn pm pn =
    ap₂ (λ (k : Coefficients) (ks : List Coefficients). k ∷ ks)
    (one_plane mesh f (All-head (IsFaceOfShape mesh) f faces is) m n (All-head IsPlane m ms pm) (All-head IsPlane n ns pn) hm.0 hn.0)
    (one_list mesh faces ms ns (All-tail (IsFaceOfShape mesh) f faces is) hm.1 hn.1 (All-tail IsPlane m ms pm) (All-tail IsPlane n ns pn))

-- ---- a part
its_planes : (part : MovedShape) (ms ns : List Coefficients) → AreWorldPlanes part ms → AreWorldPlanes part ns → ms ≡ ns
its_planes part ms ns hm hn =
    let mesh = moved_mesh (map_of part.steps) part.mesh in
    let planes = λ (ps : List Coefficients) (h : AreWorldPlanes part ps). all_from_distinct IsPlane h.faces.all (subst (All IsPlane) h.faces.first h.reduced) in
    hm.faces.first
    ∙ ap distinct_planes (one_list mesh part.mesh.faces hm.faces.all hn.faces.all hm.solid hm.faces.each hn.faces.each (planes ms hm) (planes ns hn))
    ∙ sym hn.faces.first

same_placed : (s t : Tree) (k l : List Coefficients) → s ≡ t → k ≡ l → placing_tree s k ≡ placing_tree t l
same_placed s t k l e f = ap₂ placing_tree e f

same_unplaced : (j k : FaultKind) (a b : Place) → j ≡ k → a ≡ b → placing_fault j a ≡ placing_fault k b
same_unplaced j k a b e f = ap₂ placing_fault e f

not_many : (part : MovedShape) (known ms ns : List Coefficients) → AreWorldPlanes part ms → AreWorldPlanes part ns
    → length (with_new_planes known ms) ≤ most_planes → most_planes < length (with_new_planes known ns) → ⊥
not_many part known ms ns hm hn few more = omega (arith, few, more, ap (λ (ps : List Coefficients). length (with_new_planes known ps)) (its_planes part ms ns hm hn))

not_placed : (part : MovedShape) (known planes : List Coefficients) (kind : FaultKind) → IsPlacedLeaf part known planes → Cause part known kind → ⊥
not_placed part known planes kind h (large e not_safe) = not_safe h.safe
not_placed part known planes kind h (far_off e safe not_near) = not_near h.reach
not_placed part known planes kind h (many e safe near more are past) = not_many part known planes more h.planes_are are h.few past

same_cause : (part : MovedShape) (known : List Coefficients) (j k : FaultKind) → Cause part known j → Cause part known k → j ≡ k
same_cause part known j k (large e n) (large f m) = e ∙ sym f
same_cause part known j k (large e n) (far_off f s m) = absurd (n s)
same_cause part known j k (large e n) (many f s r ps a p) = absurd (n s)
same_cause part known j k (far_off e s n) (large f m) = absurd (m s)
same_cause part known j k (far_off e s n) (far_off f t m) = e ∙ sym f
same_cause part known j k (far_off e s n) (many f t r ps a p) = absurd (n r)
same_cause part known j k (many e s r ps a p) (large f m) = absurd (m s)
same_cause part known j k (many e s r ps a p) (far_off f t m) = absurd (m r)
same_cause part known j k (many e s r ps a p) (many f t q qs b c) = e ∙ sym f

one_part : (part : MovedShape) (known : List Coefficients) (out other : PlacingOutcome) → PlacesLeaf part known out → PlacesLeaf part known other → out ≡ other
one_part part known (placing_tree s k) (placing_tree t l) h g =
    let same = its_planes part h.0 g.0 h.1.planes_are g.1.planes_are in
    same_placed s t k l (h.2 ∙ ap leaf same ∙ sym g.2) (h.3 ∙ ap (with_new_planes known) same ∙ sym g.3)
one_part part known (placing_tree s k) (placing_fault kind at) h g = absurd (not_placed part known h.0 kind h.1 (cause_of part known kind g.0))
one_part part known (placing_fault kind at) (placing_tree t l) h g = absurd (not_placed part known g.0 kind g.1 (cause_of part known kind h.0))
one_part part known (placing_fault j a) (placing_fault k b) h g = same_unplaced j k a b (same_cause part known j k (cause_of part known j h.0) (cause_of part known k g.0)) (h.1 ∙ sym g.1)

-- ---- a design
abbrev HasOne : DesignTree → Type 0
HasOne design = (known : List Coefficients) (out other : PlacingOutcome) → PlacesDesign design known out → PlacesDesign design known other → out ≡ other

one_right : (op : Op) (right : DesignTree) → HasOne right → (first out other : PlacingOutcome) → PlacesRight (PlacesDesign right) op first out → PlacesRight (PlacesDesign right) op first other → out ≡ other
one_right op right one (placing_tree tree known) out other h g = h.2 ∙ ap (placing_of_join op tree) (one known h.0 g.0 h.1 g.1) ∙ sym g.2
one_right op right one (placing_fault kind at) out other h g = h ∙ sym g

pub one_placing : (design : DesignTree) → HasOne design
one_placing empty known out other h g = h ∙ sym g
one_placing (a_leaf part) known out other h g = one_part part known out other h g
one_placing (joined_designs op left right) known out other h g =
    let same = one_placing left known g.0 h.0 g.1 h.1 in
    one_right op right (one_placing right) h.0 out other h.2 (subst (λ (first : PlacingOutcome). PlacesRight (PlacesDesign right) op first other) same g.2)
