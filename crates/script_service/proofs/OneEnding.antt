-- The lines behind the replies have one reading.
use Rattle.std.proofs.Common.{◌≡◌, ℕ, ◌<◌, Bool, true, if◌then◌else◌, nat_lt, List, [], ◌∷◌, ◌++◌, length, refl, sym, ap, ap₂, ◌∙◌, arith, append_assoc, codes}
use Rattle.std.proofs.lemmas.Bool.Decides.{nat_tests}
use Rattle.std.specs.Prelude.{IsFalse}
use Rattle.std.proofs.lemmas.List.{append_cancel_left}
use Rattle.plain_text.specs.Decimals.{numeral, begins_with_digit}
use Rattle.subtree_memo.specs.declared.tally.Tally.{Tally}
use Rattle.script_reader.specs.declared.script.ClientScript.{ClientScript}
use Rattle.plain_text.specs.Separators.{newline}
use Rattle.script_service.specs.Endings.{probe_words, fill_words, tally_line, share_line, share_lines, ending}

abbrev pub OneNumeral : Type 0
OneNumeral = (m n : ℕ) (x y : List ℕ) → IsFalse (begins_with_digit x) → IsFalse (begins_with_digit y) → numeral m ++ x ≡ numeral n ++ y → (m ≡ n) × (x ≡ y)

-- lists one behind another, from the first on
flat4 : (a b c d x : List ℕ) → (a ++ b ++ c ++ d) ++ x ≡ a ++ (b ++ (c ++ (d ++ x)))
flat4 a b c d x = simp append_assoc

flat5 : (a b c d e x : List ℕ) → (a ++ b ++ c ++ d ++ e) ++ x ≡ a ++ (b ++ (c ++ (d ++ (e ++ x))))
flat5 a b c d e x = simp append_assoc

flat6 : (a b c d e f x : List ℕ) → (a ++ b ++ c ++ d ++ e ++ f) ++ x ≡ a ++ (b ++ (c ++ (d ++ (e ++ (f ++ x)))))
flat6 a b c d e f x = simp append_assoc

flat10 : (a b c d e f g h j k x : List ℕ) → (a ++ b ++ c ++ d ++ e ++ f ++ g ++ h ++ j ++ k) ++ x
    ≡ a ++ (b ++ (c ++ (d ++ (e ++ (f ++ (g ++ (h ++ (j ++ (k ++ x)))))))))
flat10 a b c d e f g h j k x = simp append_assoc

is_above : (share : ℕ) → 0 < share → nat_lt 0 share ≡ true
is_above share some = grind (arith, nat_tests)

with_share : (share : ℕ) (lines : List ℕ) → 0 < share → (if nat_lt 0 share then lines else []) ≡ lines
with_share share lines some = ap (λ (b : Bool). if b then lines else []) (is_above share some)

module _ (one : OneNumeral) where
  -- a word, a number, and what follows
  one_count : (word : List ℕ) (m n : ℕ) (x y : List ℕ) → IsFalse (begins_with_digit x) → IsFalse (begins_with_digit y) →
      word ++ (numeral m ++ x) ≡ word ++ (numeral n ++ y) → (m ≡ n) × (x ≡ y)
  one_count word m n x y a b e = one m n x y a b (append_cancel_left word (numeral m ++ x) (numeral n ++ y) e)

  probes_flat : (s : Tally) (x : List ℕ) → probe_words s ++ x ≡ codes " probes " ++ (numeral s.probes ++ (codes " hits " ++ (numeral s.hits ++ (codes " misses " ++ (numeral s.misses ++ x)))))
  probes_flat s x = flat6 (codes " probes ") (numeral s.probes) (codes " hits ") (numeral s.hits) (codes " misses ") (numeral s.misses) x

  same_probes : (s t : Tally) (x y : List ℕ) → IsFalse (begins_with_digit x) → IsFalse (begins_with_digit y) → probe_words s ++ x ≡ probe_words t ++ y →
      ((s.probes ≡ t.probes) × (s.hits ≡ t.hits) × (s.misses ≡ t.misses)) × (x ≡ y)
  same_probes s t x y a b e =
      let probes = one_count (codes " probes ") s.probes t.probes _ _ refl refl (sym (probes_flat s x) ∙ e ∙ probes_flat t y) in
      let hits = one_count (codes " hits ") s.hits t.hits _ _ refl refl probes.1 in
      let misses = one_count (codes " misses ") s.misses t.misses x y a b hits.1 in
      ((probes.0, hits.0, misses.0), misses.1)

  fills_flat : (s : Tally) (x : List ℕ) → fill_words s ++ x ≡ codes " offered " ++ (numeral s.offered ++ (codes " kept " ++ (numeral s.kept ++ (codes " heavy " ++ (numeral s.heavy
      ++ (codes " dropped " ++ (numeral s.dropped ++ (codes " evicted " ++ (numeral s.evicted ++ x)))))))))
  fills_flat s x =
      flat10 (codes " offered ") (numeral s.offered) (codes " kept ") (numeral s.kept) (codes " heavy ") (numeral s.heavy)
      (codes " dropped ") (numeral s.dropped) (codes " evicted ") (numeral s.evicted) x

  same_fills : (s t : Tally) (x y : List ℕ) → IsFalse (begins_with_digit x) → IsFalse (begins_with_digit y) → fill_words s ++ x ≡ fill_words t ++ y →
      ((s.offered ≡ t.offered) × (s.kept ≡ t.kept) × (s.heavy ≡ t.heavy) × (s.dropped ≡ t.dropped) × (s.evicted ≡ t.evicted)) × (x ≡ y)
  same_fills s t x y a b e =
      let offered = one_count (codes " offered ") s.offered t.offered _ _ refl refl (sym (fills_flat s x) ∙ e ∙ fills_flat t y) in
      let kept = one_count (codes " kept ") s.kept t.kept _ _ refl refl offered.1 in
      let heavy = one_count (codes " heavy ") s.heavy t.heavy _ _ refl refl kept.1 in
      let dropped = one_count (codes " dropped ") s.dropped t.dropped _ _ refl refl heavy.1 in
      let evicted = one_count (codes " evicted ") s.evicted t.evicted x y a b dropped.1 in
      ((offered.0, kept.0, heavy.0, dropped.0, evicted.0), evicted.1)

  tally_flat : (s : Tally) (x : List ℕ) → tally_line s ++ x ≡ codes "tally" ++ (probe_words s ++ (fill_words s ++ (newline ++ x)))
  tally_flat s x = flat4 (codes "tally") (probe_words s) (fill_words s) newline x

  same_tally : (s t : Tally) (x y : List ℕ) → tally_line s ++ x ≡ tally_line t ++ y → (s ≡ t) × (x ≡ y)
  same_tally s t x y e =
      let begun = append_cancel_left (codes "tally") _ _ (sym (tally_flat s x) ∙ e ∙ tally_flat t y) in
      let (probes, more) = same_probes s t (fill_words s ++ (newline ++ x)) (fill_words t ++ (newline ++ y)) refl refl begun in
      let (fills, rest) = same_fills s t (newline ++ x) (newline ++ y) refl refl more in
      let p = probes.0 in let h = probes.1 in let m = probes.2 in
      let o = fills.0 in let k = fills.1 in let w = fills.2 in let d = fills.3 in let v = fills.4 in (
        λ i. record { probes = p i; hits = h i; misses = m i; offered = o i; kept = k i; heavy = w i; dropped = d i; evicted = v i },
        append_cancel_left newline x y rest,
      )

  share_flat : (name : List ℕ) (owned : ℕ) (x : List ℕ) → share_line name owned ++ x ≡ codes "share " ++ (name ++ (codes " " ++ (numeral owned ++ (newline ++ x))))
  share_flat name owned x = flat5 (codes "share ") name (codes " ") (numeral owned) newline x

  same_shares : (clients : List ClientScript) (v w : List ℕ) → length v ≡ length clients → length w ≡ length clients → share_lines clients v ≡ share_lines clients w → v ≡ w
  same_shares [] [] [] a b e = refl
  same_shares [] [] (q ∷ w) a b e = absurd (omega (arith, b))
  same_shares [] (o ∷ v) w a b e = absurd (omega (arith, a))
  same_shares (client ∷ clients) [] w a b e = absurd (omega (arith, a))
  same_shares (client ∷ clients) (o ∷ v) [] a b e = absurd (omega (arith, b))
  same_shares (client ∷ clients) (o ∷ v) (q ∷ w) a b e =
      let flat = sym (share_flat client.name o (share_lines clients v)) ∙ e ∙ share_flat client.name q (share_lines clients w) in
      let named = append_cancel_left client.name _ _ (append_cancel_left (codes "share ") _ _ flat) in
      let owned = one_count (codes " ") o q (newline ++ share_lines clients v) (newline ++ share_lines clients w) refl refl named in
      let rest = append_cancel_left newline (share_lines clients v) (share_lines clients w) owned.1 in
      ap₂ (λ (n : ℕ) (ns : List ℕ). n ∷ ns) owned.0 (same_shares clients v w (omega (arith, a)) (omega (arith, b)) rest)

  pub ending_tally : (share : ℕ) (clients : List ClientScript) (s t : Tally) (v w : List ℕ) → ending true share clients s v ≡ ending true share clients t w → s ≡ t
  ending_tally share clients s t v w e = (same_tally s t _ _ e).0

  pub ending_shares : (share : ℕ) (clients : List ClientScript) (s t : Tally) (v w : List ℕ) → 0 < share → length v ≡ length clients → length w ≡ length clients →
      ending true share clients s v ≡ ending true share clients t w → v ≡ w
  ending_shares share clients s t v w some a b e =
      same_shares clients v w a b
      (sym (with_share share (share_lines clients v) some) ∙ (same_tally s t _ _ e).1 ∙ with_share share (share_lines clients w) some)
