-- Rows of the points on the planes of faces, and triples that add no face.
use Rattle.std.proofs.Common.{◌≡◌, inl, inr, Bool, true, false, not, ◌&&◌, ◌∷◌, ◌++◌, [], List, get_or, length, map, replicate, set, refl, sym, ap, ◌∙◌, subst, arith, ℤ, pos, ℕ, ◌+◌, ◌<◌, All, true≢false, length-append}
use Rattle.std.specs.Bool.{OnTrue}
use Rattle.std.proofs.lemmas.Bool.{cases_Bool, cases_lt, cond-true, cond-false, and_left, or_left}
use Rattle.std.proofs.lemmas.List.{get_or_default, get_or-replicate, get_or-set_same, get_or-set_other, get_or_append_left, get_or-append-add, get_or_past, length-replicate}
use Rattle.std.proofs.lemmas.List.Elements.{All-push}
use Rattle.std.proofs.lemmas.List.Folds.{list_any_at}
use Rattle.primitives.specs.Shapes.{value_at_point}
use Rattle.scad_hull.specs.Hulls.{is_supporting, plane_of, shares_plane}
use Rattle.scad_hull.specs.Steps.{with_triple, with_triples, AreFoundFaces, AreListed, AreThree, HasNoFace, HasPointsOn, IsCommonRow}
use Rattle.scad_hull.specs.declared.face_list.FaceList.{FaceList}
use Rattle.scad_hull.proofs.Found.{listed, listed_push}
use Rattle.scad_hull.proofs.Tests.{shares, triple}

-- what is told where a test holds
pub when_true : (b : Bool) (P : Type 0) → OnTrue b P → b ≡ true → P
when_true true P h e = h
when_true false P h e = absurd (true≢false (sym e))

pub carried : (b : Bool) (P Q : Type 0) → (P → Q) → OnTrue b P → OnTrue b Q
carried true P Q f h = f h
carried false P Q f h = tt

-- a row with no points
no_points : (n k : ℕ) → get_or (replicate n false) k false ≡ false
no_points n k = elim (cases_lt k n) [
  | inl within ↦ get_or-replicate n k false false within
  | inr past ↦ get_or_past (replicate n false) k false (omega (arith, past, length-replicate n false))
]

pub none_on : (points : List (List ℤ)) (t : List ℕ) (n : ℕ) → HasPointsOn points t (replicate n false)
none_on points t n = λ k e. absurd (true≢false (sym e ∙ no_points n k))

pub none_listed : (points : List (List ℤ)) (faces : List (List ℕ)) (i j n : ℕ) → AreListed points faces i j (replicate n false)
none_listed points faces i j n = λ k e. absurd (true≢false (sym e ∙ no_points n k))

-- a point that is on the plane where the row says so
pub one_more_on : (points : List (List ℤ)) (t : List ℕ) (row : List Bool) (n : ℕ) (on : Bool) → n < length row →
    (on ≡ true → value_at_point points (plane_of points t) n ≡ pos 0) → HasPointsOn points t row → HasPointsOn points t (set row n on)
one_more_on points t row n on within is before = λ k e.
    elim (cases_lt k n) [
      | inl less ↦ before k (sym (get_or-set_other row n k on false (λ d. omega (arith, less, d))) ∙ e)
      | inr more ↦ elim (cases_lt n k) [
        | inl above ↦ before k (sym (get_or-set_other row n k on false (λ d. omega (arith, above, d))) ∙ e)
        | inr last ↦
            let same : n ≡ k = omega (arith, more, last) in
            subst (λ (l : ℕ). value_at_point points (plane_of points t) l ≡ pos 0) same
            (is (sym (get_or-set_same row n on false within) ∙ subst (λ (l : ℕ). get_or (set row n on) l false ≡ true) (sym same) e))
      ]
    ]

-- the triples of two points and one in a row that has both are on the plane of the row's face
pub listed_by : (points : List (List ℤ)) (found : FaceList) (i j : ℕ) (row : List Bool) → AreFoundFaces points found → IsCommonRow found.rows.items i j row →
    AreListed points found.faces.items i j row
listed_by points found i j row f c = λ k e.
    let faces = found.faces.items in
    let on : (n : ℕ) → get_or row n false ≡ true → value_at_point points (plane_of points (get_or faces c.at [])) n ≡ pos 0 =
    λ n h. f.rows c.at c.at_in n (subst (λ (r : List Bool). get_or r n false ≡ true) (c.is ∙ get_or_default found.rows.items c.at row [] c.at_in) h) in
    list_any_at (λ s. shares_plane points s (triple i j k)) faces c.at [] (omega (arith, c.at_in, f.many))
    (shares points (get_or faces c.at []) i j k (record { first = on i c.has_first; second = on j c.has_second; third = on k e }))

-- what is listed stays so
pub listed_still : (points : List (List ℤ)) (faces : List (List ℕ)) (t u : List ℕ) → listed points faces u ≡ true → listed points (with_triple points faces t) u ≡ true
listed_still points faces t u e =
    let b = is_supporting points t && not (listed points faces t) in
    elim (cases_Bool b) [
      | inl new ↦ ap (λ (fs : List (List ℕ)). listed points fs u) (cond-true b (faces ++ t ∷ []) faces new) ∙ listed_push points faces t u ∙ or_left (listed points faces u) (shares_plane points t u) e
      | inr old ↦ ap (λ (fs : List (List ℕ)). listed points fs u) (cond-false b (faces ++ t ∷ []) faces old) ∙ e
    ]

-- triples that aren't supporting add nothing
pub none_added : (points : List (List ℤ)) (faces : List (List ℕ)) (i j : ℕ) → HasNoFace points i j → (ks : List ℕ) → with_triples points faces (map (λ k. i ∷ j ∷ k ∷ []) ks) ≡ faces
none_added points faces i j none [] = refl
none_added points faces i j none (k ∷ ks) =
    ap (λ (fs : List (List ℕ)). with_triples points fs (map (λ l. i ∷ j ∷ l ∷ []) ks))
    (cond-false (is_supporting points (triple i j k) && not (listed points faces (triple i j k))) (faces ++ triple i j k ∷ []) faces
    (and_left (is_supporting points (triple i j k)) (not (listed points faces (triple i j k))) (none k)))
    ∙ none_added points faces i j none ks

-- one more face with its row
pub found_push : (points : List (List ℤ)) (old new : FaceList) (t : List ℕ) (row : List Bool) → new.faces.items ≡ old.faces.items ++ t ∷ [] → new.rows.items ≡ old.rows.items ++ row ∷ [] →
    AreThree (length points) t → HasPointsOn points t row → AreFoundFaces points old → AreFoundFaces points new
found_push points old new t row ef er three on f =
    let faces = old.faces.items in
    let rows = old.rows.items in
    let each : (n : ℕ) → n < length (rows ++ row ∷ []) → HasPointsOn points (get_or (faces ++ t ∷ []) n []) (get_or (rows ++ row ∷ []) n []) = λ n lt.
    elim (cases_lt n (length rows)) as (λ _. HasPointsOn points (get_or (faces ++ t ∷ []) n []) (get_or (rows ++ row ∷ []) n [])) [
      | inl less ↦
          subst (λ (s : List ℕ). HasPointsOn points s (get_or (rows ++ row ∷ []) n [])) (sym (get_or_append_left faces (t ∷ []) [] n (omega (arith, less, f.many))))
          (subst (HasPointsOn points (get_or faces n [])) (sym (get_or_append_left rows (row ∷ []) [] n less)) (f.rows n less))
      | inr more ↦
          let last : length rows ≡ n = omega (arith, lt, more, length-append rows (row ∷ [])) in
          let as_face : length faces + 0 ≡ n = omega (arith, last, f.many) in
          let as_row : length rows + 0 ≡ n = omega (arith, last) in
          subst (λ (s : List ℕ). HasPointsOn points s (get_or (rows ++ row ∷ []) n [])) (sym (subst (λ (m : ℕ). get_or (faces ++ t ∷ []) m [] ≡ t) as_face (get_or-append-add faces (t ∷ []) 0 [])))
          (subst (HasPointsOn points t) (sym (subst (λ (m : ℕ). get_or (rows ++ row ∷ []) m [] ≡ row) as_row (get_or-append-add rows (row ∷ []) 0 []))) on)
    ] in
    record {
      three = subst (All (AreThree (length points))) (sym ef) (All-push (AreThree (length points)) faces t f.three three);
      many = ap length er ∙ (length-append rows (row ∷ []) ∙ ap (λ (n : ℕ). n + 1) f.many ∙ sym (length-append faces (t ∷ []))) ∙ sym (ap length ef);
      rows = λ n lt. subst (λ (fs : List (List ℕ)). HasPointsOn points (get_or fs n []) (get_or new.rows.items n [])) (sym ef)
          (subst (λ (rs : List (List Bool)). HasPointsOn points (get_or (faces ++ t ∷ []) n []) (get_or rs n [])) (sym er) (each n (omega (arith, lt, ap length er))));
    }
