-- The faces of a text cover a point as its facets do.
use Rattle.std.proofs.Common.{◌≡◌, inl, inr, ℕ, zero, suc, ◌<◌, Bool, true, false, List, [], ◌∷◌, length, refl, ap, arith, All}
use Rattle.std.specs.Prelude.{slice_index_or}
use Rattle.plane_predicate.specs.declared.unit.Unit.{Unit as LengthUnit}
use Rattle.plane_predicate.specs.Space.{Coefficients, Coordinates, IsPlane}
use Rattle.plane_predicate.specs.InUnits.{in_steps}
use Rattle.plane_polygon.specs.Polygons.{Outline}
use Rattle.facet_cut.specs.Sides.{CoversFacing, HasNone, HasOne, HasOneWhere}
use Rattle.off_text.specs.Boundaries.{FaceCovers, ExactlyOne, NoneHas, OneExactlyWhere}
use Rattle.off_text.specs.Prints.{CoversPolygon, CoverPolygons, ArePrintedFacesOf}
use Rattle.off_text.proofs.Drawn.{first_of, rest_of}

abbrev pub HasPlane : Outline → Type 0
HasPlane s = IsPlane s.plane

-- faces that are polygons cover them
pub covering_of : (unit : LengthUnit) (vertices : List Coordinates) (polygons : List Outline) (faces : List (List ℕ)) → ArePrintedFacesOf unit vertices polygons faces → CoverPolygons unit vertices polygons faces
covering_of unit vertices [] [] f = f
covering_of unit vertices [] (face ∷ faces) f = absurd f
covering_of unit vertices (s ∷ polygons) [] f = absurd f
covering_of unit vertices (s ∷ polygons) (face ∷ faces) f = (f.0.covering, covering_of unit vertices polygons faces f.1)

module _ (unit : LengthUnit) (vertices : List Coordinates) (n : Coefficients) (hn : IsPlane n) (p : Coordinates) where
  as_facet : (s : Outline) (face : List ℕ) → IsPlane s.plane → CoversPolygon unit vertices s face → FaceCovers unit vertices n p face → CoversFacing n (in_steps unit p) s
  as_facet s face hs f c = let w = (f n p hs hn).0 c in record { faces = w.0; within = w.1 }

  as_face : (s : Outline) (face : List ℕ) → IsPlane s.plane → CoversPolygon unit vertices s face → CoversFacing n (in_steps unit p) s → FaceCovers unit vertices n p face
  as_face s face hs f c = (f n p hs hn).1 (c.faces, c.within)

  none : (polygons : List Outline) (faces : List (List ℕ)) → All HasPlane polygons → CoverPolygons unit vertices polygons faces → HasNone (CoversFacing n (in_steps unit p)) polygons → NoneHas (FaceCovers unit vertices n p) faces
  none [] [] h f w i l c = absurd (omega arith)
  none [] (face ∷ faces) h f w i l c = absurd f
  none (s ∷ polygons) [] h f w i l c = absurd f
  none (s ∷ polygons) (face ∷ faces) h f w zero l c = w.0 (as_facet s face (first_of HasPlane s polygons h) f.0 c)
  none (s ∷ polygons) (face ∷ faces) h f w (suc i) l c = none polygons faces (rest_of HasPlane s polygons h) f.1 w.1 i (omega arith) c

  only_first : (face : List ℕ) (faces : List (List ℕ)) → NoneHas (FaceCovers unit vertices n p) faces → (i : ℕ) → i < length (face ∷ faces) → FaceCovers unit vertices n p (slice_index_or (face ∷ faces) i []) → i ≡ 0
  only_first face faces h zero l c = refl
  only_first face faces h (suc i) l c = absurd (h i (omega arith) c)

  only_later : (face : List ℕ) (faces : List (List ℕ)) → (FaceCovers unit vertices n p face → ⊥) → (one : ExactlyOne (FaceCovers unit vertices n p) faces) → (i : ℕ) → i < length (face ∷ faces) →
      FaceCovers unit vertices n p (slice_index_or (face ∷ faces) i []) → i ≡ suc one.index
  only_later face faces h one zero l c = absurd (h c)
  only_later face faces h one (suc i) l c = ap suc (one.only i (omega arith) c)

  exactly : (polygons : List Outline) (faces : List (List ℕ)) → All HasPlane polygons → CoverPolygons unit vertices polygons faces → HasOne (CoversFacing n (in_steps unit p)) polygons → ExactlyOne (FaceCovers unit vertices n p) faces
  exactly [] faces h f w = absurd w
  exactly (s ∷ polygons) [] h f w = absurd f
  exactly (s ∷ polygons) (face ∷ faces) h f (inl w) =
      record { index = 0; within = omega arith; has = as_face s face (first_of HasPlane s polygons h) f.0 w.0; only = only_first face faces (none polygons faces (rest_of HasPlane s polygons h) f.1 w.1) }
  exactly (s ∷ polygons) (face ∷ faces) h f (inr w) =
      let one = exactly polygons faces (rest_of HasPlane s polygons h) f.1 w.1 in
      record { index = suc one.index; within = omega (arith, one.within); has = one.has; only = only_later face faces (λ c. w.0 (as_facet s face (first_of HasPlane s polygons h) f.0 c)) one }

  pub as_facets : (polygons : List Outline) (faces : List (List ℕ)) → All HasPlane polygons → CoverPolygons unit vertices polygons faces → (b : Bool) → HasOneWhere b (CoversFacing n (in_steps unit p)) polygons → OneExactlyWhere b (FaceCovers unit vertices n p) faces
  as_facets polygons faces h f true w = exactly polygons faces h f w
  as_facets polygons faces h f false w = none polygons faces h f w
