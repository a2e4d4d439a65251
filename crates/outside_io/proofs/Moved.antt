use Rattle.std.proofs.Common.{arith, ◌≡◌, ℕ, ◌+◌, ◌-◌, ◌<◌, ◌≤◌, List, [], ◌++◌, length, min, take, drop, sym, ap, subst, ◌∙◌, take-add, take-append-drop, length-drop, length-append}
use Rattle.std.proofs.lemmas.List.{length-take-le, take_at, take_all, drop-drop, drop_all}
use Rattle.std.proofs.KnownBytes.{Appends-trans, Appends-kept, Consumes-trans}
use Rattle.std.specs.Prelude.{Option}
use Rattle.std.specs.Io.KnownBytes.{Appends, Consumes, Keeps}
use Rattle.outside_io.specs.Moves.{ConsumesAtMost, ConsumesPast, AppendsProperPrefix}

-- n bytes were copied from a place on, as many as a piece, a buffer and the bytes there allow:
-- they are the front of the bytes there, and are none only where none is left
pub copied_front : (bytes given behind : List ℕ) (place n piece room : ℕ) → 0 < piece → 0 < room
    → n ≡ min piece (min room (length (drop place bytes))) → given ≡ take n (drop place bytes) ++ behind
    → (drop place bytes ≡ take n given ++ drop (place + n) bytes) × (n ≡ 0 → drop (place + n) bytes ≡ [])
copied_front bytes given behind place n piece room p r count copied =
    let left = drop place bytes in
    let front : take n given ≡ take n left =
    ap (take n) copied ∙ take_at (take n left) behind n (length-take-le n left (omega arith)) in (
      sym (ap (λ l. l ++ drop (place + n) bytes) front ∙ ap (λ l. take n left ++ l) (sym (drop-drop n place bytes)) ∙ take-append-drop n left),
      λ z. drop_all (place + n) bytes (omega (arith, length-drop place bytes)),
    )

-- the bytes up to a place were appended, and then as many as a call took from there on
pub more_appended : (a b c : Option (List ℕ)) (bytes : List ℕ) (done count : ℕ) → Appends a b (take done bytes)
    → Appends b c (take count (take (length bytes - done) (drop done bytes))) → Appends a c (take (done + count) bytes)
more_appended a b c bytes done count before call =
    let all = take_all (length bytes - done) (drop done bytes) (omega (arith, length-drop done bytes)) in
    subst (Appends a c) (sym (take-add done count bytes)) (Appends-trans a b c _ _ before (subst (λ l. Appends b c (take count l)) all call))

-- the bytes up to a place before the end were appended, and then nothing
pub prefix_appended : (a b c : Option (List ℕ)) (bytes : List ℕ) (done : ℕ) → done < length bytes → Appends a b (take done bytes) → Keeps b c
    → AppendsProperPrefix a c bytes
prefix_appended a b c bytes done short before kept =
    (take done bytes, drop done bytes, take-append-drop done bytes, omega (arith, length-drop done bytes), Appends-kept a b c _ before kept)

-- a piece was read after the bytes so far, and with it they are at most `most`
pub taken_within : (a b c : Option (List ℕ)) (bytes piece : List ℕ) (n most : ℕ) → Consumes a b bytes → Consumes b c (take n piece)
    → n ≡ length (take n piece) → length bytes + n ≤ most → ConsumesAtMost a c most
taken_within a b c bytes piece n most before read count fits =
    (bytes ++ take n piece, omega (arith, length-append bytes (take n piece)), Consumes-trans a b c _ _ before read)

-- a piece was read after at most `most` bytes, and with it they are more than that
pub taken_past : (a b c : Option (List ℕ)) (bytes piece : List ℕ) (n most size : ℕ) → Consumes a b bytes → Consumes b c (take n piece)
    → n ≡ length (take n piece) → length bytes ≤ most → most < length bytes + n → n ≤ size → ConsumesPast a c most size
taken_past a b c bytes piece n most size before read count within past all = (
  bytes ++ take n piece,
  omega (arith, length-append bytes (take n piece)),
  omega (arith, length-append bytes (take n piece)),
  Consumes-trans a b c _ _ before read,
)
