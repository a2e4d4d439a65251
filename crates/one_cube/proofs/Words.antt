-- The words of a source that are written out, each the longest there: a check of its fronts, which computes.
use Rattle.std.proofs.Common.{◌≡◌, ℕ, zero, suc, ◌+◌, ◌-◌, ◌≤◌, Bool, true, false, ◌&&◌, List, [], ◌∷◌, length, take, drop, Option, Some, None, nat_le, refl, sym, ap, subst, ◌∙◌, inl, inr, arith}
use Rattle.std.proofs.lemmas.Bool.{and_parts, leb-true, cases_lt}
use Rattle.plain_text.specs.declared.place.Place.{Place}
use Rattle.scad_lexer.specs.declared.token.TokenKind.TheVariants.{End}
use Rattle.scad_lexer.specs.declared.word.Word.{Word}
use Rattle.scad_lexer.specs.Words.{word_of_bytes, IsLongest}
use Rattle.scad_lexer.specs.Tokens.{LexOutcome, GivesTokens, SourceWord, ReadsWords, IsFaultless, word_meaning, place_after, tokens_at, tokens_in_front}

abbrev is_no_word : Option Word → Bool
is_no_word None = true
is_no_word (Some word) = false

-- none of the next n fronts of a text is a word
abbrev none_next : List ℕ → ℕ → ℕ → Bool
none_next text n zero = true
none_next text n (suc more) = is_no_word (word_of_bytes (take (n + suc more) text)) && none_next text n more

no_word_is : (w : Option Word) (word : Word) → is_no_word w ≡ true → w ≡ Some word → ⊥
no_word_is None word h e = absurd (cc e)
no_word_is (Some other) word h e = absurd (cc h)

none_longer : (text : List ℕ) (n more : ℕ) → none_next text n more ≡ true → (m : ℕ) (other : Word) → m ≤ n + more → word_of_bytes (take m text) ≡ Some other → m ≤ n
none_longer text n zero h m other le is = omega (arith, le)
none_longer text n (suc more) h m other le is =
    let parts = and_parts (is_no_word (word_of_bytes (take (n + suc more) text))) (none_next text n more) h in
    elim (cases_lt m (n + suc more)) [
      | inl lt ↦ none_longer text n more parts.1 m other (omega (arith, lt)) is
      | inr ge ↦
          (let same : n + suc more ≡ m = omega (arith, le, ge) in
          absurd (no_word_is (word_of_bytes (take m text)) other (subst (λ (k : ℕ). is_no_word (word_of_bytes (take k text)) ≡ true) same parts.0) is))
    ]

-- a text is these words, each the longest there and without a fault
abbrev pub AreWords : List SourceWord → List ℕ → Type 0
AreWords [] text = text ≡ []
AreWords (piece ∷ pieces) text =
    (nat_le piece.bytes (length text) ≡ true) × (word_of_bytes (take piece.bytes text) ≡ Some piece.word)
    × (none_next text piece.bytes (length text - piece.bytes) ≡ true) × IsFaultless (word_meaning piece.word (take piece.bytes text))
    × AreWords pieces (drop piece.bytes text)

-- what these words give
abbrev pub given_by : List SourceWord → Place → List ℕ → LexOutcome
given_by [] at text = GivesTokens (record { kind = End; place = at } ∷ [])
given_by (piece ∷ pieces) at text =
    tokens_in_front (tokens_at at (word_meaning piece.word (take piece.bytes text))) (given_by pieces (place_after at (take piece.bytes text)) (drop piece.bytes text))

rest_within : (n all m : ℕ) → n ≤ all → m ≤ all → m ≤ n + (all - n)
rest_within n all m h le = omega (arith, h, le)

pub words_read : (pieces : List SourceWord) (at : Place) (text : List ℕ) → AreWords pieces text → ReadsWords pieces at text (given_by pieces at text)
words_read [] at text h = inl (h, refl)
words_read (piece ∷ pieces) at text h =
    let within = leb-true piece.bytes (length text) h.0 in (
      record {
        within = within;
        found = h.1;
        most = λ m other le is. none_longer text piece.bytes (length text - piece.bytes) h.2 m other (rest_within piece.bytes (length text) m within le) is;
      },
      h.3,
      (given_by pieces (place_after at (take piece.bytes text)) (drop piece.bytes text), words_read pieces (place_after at (take piece.bytes text)) (drop piece.bytes text) h.4, refl),
    )
