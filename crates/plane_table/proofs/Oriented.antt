-- Planes and their opposites by number, with the numbers of planes that have their directions.
use Rattle.std.proofs.Common.{◌≡◌, ℕ, ◌+◌, ◌*◌, ◌/◌, ◌<◌, List, [], ◌∷◌, ◌++◌, length, get_or, refl, sym, ap, ◌∙◌, subst, arith, inl, inr, neg_ℤ}
use Rattle.std.proofs.lemmas.Bool.{cases_lt}
use Rattle.std.proofs.lemmas.List.{get_or_append_left, get_or_push, get_or_read, length-append}
use Rattle.plane_predicate.specs.Space.{Coefficients, opposite_of}
use Rattle.plane_polygon.specs.Polygons.{missing_plane}
use Rattle.plane_polygon.specs.Parallels.{HasSameDirection}
use Rattle.plane_table.specs.declared.directions.OrientedPlane.{OrientedPlane}
use Rattle.plane_table.specs.Tables.{plane_named, no_entry, opposite_number, AreFirstOriented, AreOriented, NamesPlaneIn, IsOrientedAs}
use Rattle.plane_table.proofs.Numbers.{at_even, at_odd, named_opposite, opposite_opposite}

-- ---- directions
pub alike_itself : (m : Coefficients) → HasSameDirection m m
alike_itself m = record { a = refl; b = refl; c = refl }

pub alike_on : (p q m : Coefficients) → HasSameDirection p q → HasSameDirection q m → HasSameDirection p m
alike_on p q m h k = record { a = h.a ∙ k.a; b = h.b ∙ k.b; c = h.c ∙ k.c }

pub alike_back : (p m : Coefficients) → HasSameDirection p m → HasSameDirection m p
alike_back p m h = record { a = sym h.a; b = sym h.b; c = sym h.c }

pub alike_opposites : (p m : Coefficients) → HasSameDirection p m → HasSameDirection (opposite_of p) (opposite_of m)
alike_opposites p m h = record { a = ap neg_ℤ h.a; b = ap neg_ℤ h.b; c = ap neg_ℤ h.c }

-- ---- numbers
pub named_even : (planes : List Coefficients) (i : ℕ) → plane_named planes (2 * i) ≡ get_or planes i missing_plane
named_even planes i = let e : 2 * i / 2 ≡ i = omega arith in at_even i (get_or planes (2 * i / 2) missing_plane) ∙ ap (λ (k : ℕ). get_or planes k missing_plane) e

named_odd : (planes : List Coefficients) (i : ℕ) → plane_named planes (2 * i + 1) ≡ opposite_of (get_or planes i missing_plane)
named_odd planes i = let e : (2 * i + 1) / 2 ≡ i = omega arith in at_odd i (get_or planes ((2 * i + 1) / 2) missing_plane) ∙ ap (λ (k : ℕ). opposite_of (get_or planes k missing_plane)) e

pub own_number : (planes : List Coefficients) (i : ℕ) → HasSameDirection (plane_named planes (2 * i)) (get_or planes i missing_plane)
own_number planes i = subst (HasSameDirection (plane_named planes (2 * i))) (named_even planes i) (alike_itself (plane_named planes (2 * i)))

-- ---- entries
pub entry_at : (planes : List Coefficients) (entries : List OrientedPlane) (n : ℕ) (entry : OrientedPlane) → AreOriented planes entries → NamesPlaneIn planes n → entry ≡ get_or entries n entry → IsOrientedAs planes n entry
entry_at planes entries n entry h k e =
    let l : n < length entries = omega (arith, h.count) in
    subst (IsOrientedAs planes n) (sym (get_or_read entries n entry l e no_entry)) (h.each n l)

-- what has the direction of an entry's plane
pub entry_alike : (planes : List Coefficients) (entries : List OrientedPlane) (first n : ℕ) (entry : OrientedPlane) (m : Coefficients) →
    AreFirstOriented planes entries first → n < length entries → entry ≡ get_or entries n entry → HasSameDirection entry.plane m → HasSameDirection (plane_named planes entry.direction) m
entry_alike planes entries first n entry m h l e k =
    let same = h.each n l in
    let is = get_or_read entries n entry l e no_entry in
    let own : IsOrientedAs planes n entry = subst (IsOrientedAs planes n) (sym is) same in
    alike_on (plane_named planes entry.direction) (plane_named planes n) m own.alike (subst (λ (p : Coefficients). HasSameDirection p m) own.plane k)

-- one more plane and its opposite
pub oriented_more : (planes : List Coefficients) (entries : List OrientedPlane) (i : ℕ) (one other : OrientedPlane) → AreFirstOriented planes entries i →
    one.plane ≡ get_or planes i missing_plane → HasSameDirection (plane_named planes one.direction) (get_or planes i missing_plane) →
    other.plane ≡ opposite_of (get_or planes i missing_plane) → other.direction ≡ opposite_number one.direction →
    AreFirstOriented planes ((entries ++ one ∷ []) ++ other ∷ []) (i + 1)
oriented_more planes entries i one other h p a q o =
    let longer : List OrientedPlane = entries ++ one ∷ [] in
    let m = length-append entries (one ∷ []) in
    let n = length-append longer (other ∷ []) in
    record {
      count = omega (arith, h.count);
      each = λ k l. elim (cases_lt k (length longer)) [
        | inl b ↦ elim (cases_lt k (length entries)) [
          | inl c ↦ subst (IsOrientedAs planes k) (sym (get_or_append_left longer (other ∷ []) no_entry k b ∙ get_or_append_left entries (one ∷ []) no_entry k c)) (h.each k c)
          | inr c ↦ (let e : k ≡ 2 * i = omega (arith, h.count) in
              subst (IsOrientedAs planes k) (sym (get_or_append_left longer (other ∷ []) no_entry k b ∙ get_or_push entries one no_entry k (omega arith)))
              (record {
                plane = p ∙ sym (ap (plane_named planes) e ∙ named_even planes i);
                alike = subst (HasSameDirection (plane_named planes one.direction)) (sym (ap (plane_named planes) e ∙ named_even planes i)) a;
              }))
        ]
        | inr b ↦ (let e : k ≡ 2 * i + 1 = omega (arith, h.count) in
            let t = sym (ap (plane_named planes) e ∙ named_odd planes i) in
            subst (IsOrientedAs planes k) (sym (get_or_push longer other no_entry k (omega arith)))
            (record {
              plane = q ∙ t;
              alike = subst (λ (x : Coefficients). HasSameDirection x (plane_named planes k)) (sym (ap (plane_named planes) o ∙ named_opposite planes one.direction))
                  (subst (HasSameDirection (opposite_of (plane_named planes one.direction))) t (alike_opposites (plane_named planes one.direction) (get_or planes i missing_plane) a));
            }))
      ];
    }

-- planes of opposite directions
pub opposite_alike : (planes : List Coefficients) (own other of number : ℕ) → HasSameDirection (plane_named planes own) (plane_named planes of) → HasSameDirection (plane_named planes other) (plane_named planes number) →
    own ≡ opposite_number other → HasSameDirection (plane_named planes (opposite_number of)) (plane_named planes number)
opposite_alike planes own other of number h k e =
    let turned = alike_opposites (plane_named planes own) (plane_named planes of) h in
    let back : opposite_of (plane_named planes own) ≡ plane_named planes other = ap (λ (n : ℕ). opposite_of (plane_named planes n)) e ∙ ap opposite_of (named_opposite planes other) ∙ opposite_opposite (plane_named planes other) in
    subst (λ (m : Coefficients). HasSameDirection m (plane_named planes number)) (sym (named_opposite planes of))
    (alike_on (opposite_of (plane_named planes of)) (plane_named planes other) (plane_named planes number)
    (alike_back (plane_named planes other) (opposite_of (plane_named planes of)) (subst (λ (m : Coefficients). HasSameDirection m (opposite_of (plane_named planes of))) back turned)) k)

pub back_opposite : (planes : List Coefficients) (n : ℕ) → opposite_of (plane_named planes (opposite_number n)) ≡ plane_named planes n
back_opposite planes n = ap opposite_of (named_opposite planes n) ∙ opposite_opposite (plane_named planes n)
