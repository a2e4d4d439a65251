-- The planes of one more face.
use Rattle.std.proofs.Common.{◌≡◌, ℕ, ◌+◌, ◌<◌, true, false, List, [], ◌∷◌, ◌++◌, length, get_or, take, sym, ap, ◌∙◌, subst}
use Rattle.std.specs.List.{AllZip}
use Rattle.std.proofs.lemmas.List.{take_more}
use Rattle.plane_predicate.specs.Space.{Coefficients}
use Rattle.primitives.specs.Shapes.{Mesh, IsPlaneOfFace}
use Rattle.primitives.specs.Placing.{ArePlanesOf}
use Rattle.primitives.proofs.lemmas.Distinct.{among, distinct_planes-push}
use Rattle.primitives.proofs.lemmas.Lists.{zip_push}

each_next : (mesh : Mesh) (faces : List (List ℕ)) (i : ℕ) (face : List ℕ) (m : Coefficients) (all : List Coefficients) → i < length faces → face ≡ get_or faces i face → AllZip (IsPlaneOfFace mesh) (take i faces) all → IsPlaneOfFace mesh face m → AllZip (IsPlaneOfFace mesh) (take (i + 1) faces) (all ++ m ∷ [])
each_next mesh faces i face m all lt is h r =
    subst (λ (fs : List (List ℕ)). AllZip (IsPlaneOfFace mesh) fs (all ++ m ∷ [])) (sym (take_more faces i face lt ∙ ap (λ (f : List ℕ). take i faces ++ f ∷ []) (sym is))) (zip_push (IsPlaneOfFace mesh) (take i faces) all face m h r)

pub plane_kept : (mesh : Mesh) (faces : List (List ℕ)) (i : ℕ) (face : List ℕ) (m : Coefficients) (planes : List Coefficients) → i < length faces → face ≡ get_or faces i face → ArePlanesOf mesh (take i faces) planes → IsPlaneOfFace mesh face m → among m planes ≡ true → ArePlanesOf mesh (take (i + 1) faces) planes
plane_kept mesh faces i face m planes lt is h r there = record {
  all = h.all ++ m ∷ [];
  each = each_next mesh faces i face m h.all lt is h.each r;
  first = h.first ∙ sym ((distinct_planes-push h.all m).there (subst (λ (ps : List Coefficients). among m ps ≡ true) h.first there));
}

pub plane_added : (mesh : Mesh) (faces : List (List ℕ)) (i : ℕ) (face : List ℕ) (m : Coefficients) (planes : List Coefficients) → i < length faces → face ≡ get_or faces i face → ArePlanesOf mesh (take i faces) planes → IsPlaneOfFace mesh face m → among m planes ≡ false → ArePlanesOf mesh (take (i + 1) faces) (planes ++ m ∷ [])
plane_added mesh faces i face m planes lt is h r new = record {
  all = h.all ++ m ∷ [];
  each = each_next mesh faces i face m h.all lt is h.each r;
  first = ap (λ (ps : List Coefficients). ps ++ m ∷ []) h.first ∙ sym ((distinct_planes-push h.all m).new (subst (λ (ps : List Coefficients). among m ps ≡ false) h.first new));
}
