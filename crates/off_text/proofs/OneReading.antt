-- A 4OFF text has one list of vertices and one list of faces.
use Rattle.std.proofs.Common.{◌≡◌, ℕ, suc, ◌<◌, ◌≤◌, IsFalse, List, [], ◌∷◌, ◌++◌, length, get_or, flat_map, refl, sym, ap, ap₂, ◌∙◌, arith, append_assoc, append-nil, codes, ℤ, pos, negsuc}
use Rattle.std.proofs.lemmas.List.{append_cancel_left}
use Rattle.plain_text.specs.Decimals.{numeral, signed_numeral, begins_with_digit}
use Rattle.plain_text.proofs.lemmas.Numerals.{one_numeral, numeral_byte, numeral_nonempty}
use Rattle.plane_predicate.specs.Space.{Coordinates}
use Rattle.plane_predicate.proofs.lemmas.Opposites.{same_point}
use Rattle.off_text.specs.Reading.{vertex_line, face_line, off_text}

digits_are_no_sign : (ds x y : List ℕ) → 0 < length ds → 48 ≤ get_or ds 0 0 → ds ++ x ≡ 45 ∷ y → ⊥
digits_are_no_sign [] x y some low e = absurd (omega arith)
digits_are_no_sign (d ∷ ds) x y some low e = let sign : d ≡ 45 = cc in absurd (omega (arith, sign))

numeral_is_no_sign : (n : ℕ) (x y : List ℕ) → numeral n ++ x ≡ 45 ∷ y → ⊥
numeral_is_no_sign n x y = digits_are_no_sign (numeral n) x y (numeral_nonempty n) (numeral_byte n 0 (numeral_nonempty n)).0

one_signed : (a b : ℤ) (x y : List ℕ) → IsFalse (begins_with_digit x) → IsFalse (begins_with_digit y) → signed_numeral a ++ x ≡ signed_numeral b ++ y → (a ≡ b) × (x ≡ y)
one_signed (pos m) (pos n) x y end_x end_y e = let h = one_numeral m n x y end_x end_y e in (ap pos h.0, h.1)
one_signed (pos m) (negsuc n) x y end_x end_y e = absurd (numeral_is_no_sign m x (numeral (suc n) ++ y) e)
one_signed (negsuc m) (pos n) x y end_x end_y e = absurd (numeral_is_no_sign n y (numeral (suc m) ++ x) (sym e))
one_signed (negsuc m) (negsuc n) x y end_x end_y e =
    let rest : numeral (suc m) ++ x ≡ numeral (suc n) ++ y = cc in
    let h = one_numeral (suc m) (suc n) x y end_x end_y rest in
    let same : suc m ≡ suc n = h.0 in
    let less : m ≡ n = cc in
    (ap negsuc less, h.1)

-- a vertex's line before what follows it
vertex_line-before : (p : Coordinates) (rest : List ℕ) → vertex_line p ++ rest ≡ signed_numeral p.x ++ 32 ∷ (signed_numeral p.y ++ 32 ∷ (signed_numeral p.z ++ 32 ∷ (signed_numeral p.w ++ 10 ∷ rest)))
vertex_line-before p rest = simp append_assoc

one_vertex : (p q : Coordinates) (x y : List ℕ) → vertex_line p ++ x ≡ vertex_line q ++ y → (p ≡ q) × (x ≡ y)
one_vertex p q x y e =
    let first = one_signed p.x q.x _ _ refl refl (sym (vertex_line-before p x) ∙ e ∙ vertex_line-before q y) in
    let after_x : signed_numeral p.y ++ 32 ∷ (signed_numeral p.z ++ 32 ∷ (signed_numeral p.w ++ 10 ∷ x)) ≡ signed_numeral q.y ++ 32 ∷ (signed_numeral q.z ++ 32 ∷ (signed_numeral q.w ++ 10 ∷ y)) = append_cancel_left (32 ∷ []) _ _ first.1 in
    let second = one_signed p.y q.y _ _ refl refl after_x in
    let after_y : signed_numeral p.z ++ 32 ∷ (signed_numeral p.w ++ 10 ∷ x) ≡ signed_numeral q.z ++ 32 ∷ (signed_numeral q.w ++ 10 ∷ y) = append_cancel_left (32 ∷ []) _ _ second.1 in
    let third = one_signed p.z q.z _ _ refl refl after_y in
    let after_z : signed_numeral p.w ++ 10 ∷ x ≡ signed_numeral q.w ++ 10 ∷ y = append_cancel_left (32 ∷ []) _ _ third.1 in
    let last = one_signed p.w q.w (10 ∷ x) (10 ∷ y) refl refl after_z in
    (same_point p.x p.y p.z p.w q.x q.y q.z q.w first.0 second.0 third.0 last.0, append_cancel_left (10 ∷ []) x y last.1)

-- lists of as many items are read one by one, where each item is
one_by_one : {A : Type 0} (line : A → List ℕ) → ((p q : A) (x y : List ℕ) → line p ++ x ≡ line q ++ y → (p ≡ q) × (x ≡ y)) →
    (ps qs : List A) (x y : List ℕ) → length ps ≡ length qs → flat_map line ps ++ x ≡ flat_map line qs ++ y → (ps ≡ qs) × (x ≡ y)
one_by_one line one [] [] x y same e = (refl, e)
one_by_one line one [] (q ∷ qs) x y same e = absurd (omega (arith, same))
one_by_one line one (p ∷ ps) [] x y same e = absurd (omega (arith, same))
one_by_one line one (p ∷ ps) (q ∷ qs) x y same e =
    let head = one p q (flat_map line ps ++ x) (flat_map line qs ++ y) (sym (append_assoc (line p) (flat_map line ps) x) ∙ e ∙ append_assoc (line q) (flat_map line qs) y) in
    let rest = one_by_one line one ps qs x y (omega (arith, same)) head.1 in
    (ap₂ (λ u v. u ∷ v) head.0 rest.0, rest.1)

face_line-before : (face : List ℕ) (rest : List ℕ) → face_line face ++ rest ≡ numeral (length face) ++ (flat_map (λ i. 32 ∷ numeral i) face ++ 10 ∷ rest)
face_line-before face rest = simp append_assoc

after_count : (face rest : List ℕ) → IsFalse (begins_with_digit (flat_map (λ i. 32 ∷ numeral i) face ++ 10 ∷ rest))
after_count [] rest = refl
after_count (i ∷ face) rest = refl

-- indices, and the newline after them
indices : (face face' x y : List ℕ) → length face ≡ length face' → flat_map (λ i. 32 ∷ numeral i) face ++ 10 ∷ x ≡ flat_map (λ i. 32 ∷ numeral i) face' ++ 10 ∷ y → (face ≡ face') × (x ≡ y)
indices [] [] x y same e = (refl, append_cancel_left (10 ∷ []) x y e)
indices [] (j ∷ face') x y same e = absurd (omega (arith, same))
indices (i ∷ face) [] x y same e = absurd (omega (arith, same))
indices (i ∷ face) (j ∷ face') x y same e =
    let shifted : numeral i ++ (flat_map (λ i. 32 ∷ numeral i) face ++ 10 ∷ x) ≡ numeral j ++ (flat_map (λ i. 32 ∷ numeral i) face' ++ 10 ∷ y) =
    append_cancel_left (32 ∷ []) _ _
    (ap (λ (l : List ℕ). 32 ∷ l) (sym (append_assoc (numeral i) (flat_map (λ i. 32 ∷ numeral i) face) (10 ∷ x))) ∙ e ∙ ap (λ (l : List ℕ). 32 ∷ l) (append_assoc (numeral j) (flat_map (λ i. 32 ∷ numeral i) face') (10 ∷ y))) in
    let head = one_numeral i j _ _ (after_count face x) (after_count face' y) shifted in
    let rest = indices face face' x y (omega (arith, same)) head.1 in
    (ap₂ (λ (u : ℕ) (v : List ℕ). u ∷ v) head.0 rest.0, rest.1)

one_face : (face face' x y : List ℕ) → face_line face ++ x ≡ face_line face' ++ y → (face ≡ face') × (x ≡ y)
one_face face face' x y e =
    let count = one_numeral (length face) (length face') _ _ (after_count face x) (after_count face' y) (sym (face_line-before face x) ∙ e ∙ face_line-before face' y) in
    indices face face' x y count.0 count.1

-- the counts before what follows them
pub off_text-counts : (vertices : List Coordinates) (faces : List (List ℕ)) →
    off_text vertices faces ≡ codes "4OFF\n" ++ (numeral (length vertices) ++ 32 ∷ (numeral (length faces) ++ 32 ∷ 48 ∷ 10 ∷ (flat_map vertex_line vertices ++ flat_map face_line faces)))
unfolding numeral
off_text-counts vertices faces = simp append_assoc

pub one_reading : (vertices vertices' : List Coordinates) (faces faces' : List (List ℕ)) → off_text vertices faces ≡ off_text vertices' faces' → (vertices ≡ vertices') × (faces ≡ faces')
one_reading vertices vertices' faces faces' e =
    let counts = append_cancel_left (codes "4OFF\n") _ _ (sym (off_text-counts vertices faces) ∙ e ∙ off_text-counts vertices' faces') in
    let first = one_numeral (length vertices) (length vertices') _ _ refl refl counts in
    let second = one_numeral (length faces) (length faces') _ _ refl refl (append_cancel_left (32 ∷ []) _ _ first.1) in
    let points = one_by_one vertex_line one_vertex vertices vertices' (flat_map face_line faces) (flat_map face_line faces') first.0 (append_cancel_left (32 ∷ 48 ∷ 10 ∷ []) _ _ second.1) in
    let loops = one_by_one face_line one_face faces faces' [] [] second.0 (append-nil (flat_map face_line faces) ∙ points.1 ∙ sym (append-nil (flat_map face_line faces'))) in
    (points.0, loops.0)
