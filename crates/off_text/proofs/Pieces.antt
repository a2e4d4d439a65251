-- Texts that are written piece by piece.
use Rattle.std.proofs.Common.{◌≡◌, ℕ, ◌≤◌, List, [], ◌∷◌, ◌++◌, length, drop, sym, ap, ◌∙◌, append_assoc, append-nil, flat_map, codes}
use Rattle.std.proofs.lemmas.List.{drop_all}
use Rattle.plain_text.specs.Decimals.{numeral, signed_numeral}
use Rattle.plane_predicate.specs.Space.{Coordinates}
use Rattle.off_text.specs.Reading.{vertex_line, face_line, off_text}
use Rattle.off_text.specs.Numbering.{number_word}
use Rattle.off_text.proofs.OneReading.{off_text-counts}

-- what was written of a list, once none of it is left
pub all_written : {A : Type 0} (f : A → List ℕ) (xs : List A) (i : ℕ) (out whole : List ℕ) → length xs ≤ i → out ++ flat_map f (drop i xs) ≡ whole → out ≡ whole
all_written {A = A} f xs i out whole h e = sym (append-nil out) ∙ ap (λ (ys : List A). out ++ flat_map f ys) (sym (drop_all i xs h)) ∙ e

pub vertex_line-written : (out : List ℕ) (p : Coordinates) →
    (((((((out ++ signed_numeral p.x) ++ 32 ∷ []) ++ signed_numeral p.y) ++ 32 ∷ []) ++ signed_numeral p.z) ++ 32 ∷ []) ++ signed_numeral p.w) ++ 10 ∷ [] ≡ out ++ vertex_line p
vertex_line-written out p = simp append_assoc

line_pieces : (out count words : List ℕ) → ((out ++ count) ++ words) ++ 10 ∷ [] ≡ out ++ ((count ++ words) ++ 10 ∷ [])
line_pieces out count words = simp append_assoc

-- a face's line
pub line_written : (face out counted all line : List ℕ) → counted ≡ out ++ numeral (length face) → all ≡ counted ++ flat_map number_word face →
    line ≡ all ++ 10 ∷ [] → line ≡ out ++ face_line face
line_written face out counted all line c a l =
    l ∙ ap (λ (t : List ℕ). t ++ 10 ∷ []) (a ∙ ap (λ (t : List ℕ). t ++ flat_map number_word face) c)
    ∙ line_pieces out (numeral (length face)) (flat_map number_word face)

counted : (v f vs fs : List ℕ) → ((((codes "4OFF\n" ++ v) ++ 32 ∷ f) ++ codes " 0\n") ++ vs) ++ fs ≡ codes "4OFF\n" ++ (v ++ 32 ∷ (f ++ 32 ∷ 48 ∷ 10 ∷ (vs ++ fs)))
counted v f vs fs = simp append_assoc

pub text-written : (vertices : List Coordinates) (faces : List (List ℕ)) (lines : List ℕ) → lines ≡ flat_map face_line faces →
    ((((codes "4OFF\n" ++ numeral (length vertices)) ++ 32 ∷ numeral (length faces)) ++ codes " 0\n") ++ flat_map vertex_line vertices) ++ lines ≡ off_text vertices faces
text-written vertices faces lines e =
    counted (numeral (length vertices)) (numeral (length faces)) (flat_map vertex_line vertices) lines
    ∙ ap (λ (l : List ℕ). codes "4OFF\n" ++ (numeral (length vertices) ++ 32 ∷ (numeral (length faces) ++ 32 ∷ 48 ∷ 10 ∷ (flat_map vertex_line vertices ++ l)))) e
    ∙ sym (off_text-counts vertices faces)
