-- The place of a source's first fault is that of one of its bytes.
use Rattle.std.proofs.Common.{◌≡◌, ℕ, suc, ◌+◌, ◌-◌, ◌<◌, ◌≤◌, ◌^◌, List, [], ◌∷◌, ◌++◌, length, take, drop, Bool, true, false, cond, Option, Some, None, Result, Ok, Err, ◌⊎◌, inl, inr, refl, sym, ap, ◌∙◌, subst, arith, nat_eq, nat_lt, append_assoc, IfErr, length-take-le, length-drop}
use Rattle.std.proofs.lemmas.List.{take-append-drop}
use Rattle.std.specs.Global.{Vec}
use Rattle.plain_text.specs.declared.place.Place.{Place}
use Rattle.text_place.specs.declared.fault.Stop.{Stop}
use Rattle.text_place.specs.declared.fault.Stop.TheVariants.{Fault, NoMemory}
use Rattle.scad_lexer.specs.declared.token.Token.{Token}
use Rattle.scad_lexer.specs.declared.class.ByteClass.TheVariants.{Printable}
use Rattle.scad_lexer.specs.declared.word.Word.{Word}
use Rattle.scad_lexer.specs.declared.word.Word.TheVariants.{Blank, UnclosedComment, Name, Special, Numeral, NumeralAndLetter, Text, UnclosedText, Symbol}
use Rattle.scad_lexer.specs.declared.meaning.WordMeaning.{WordMeaning}
use Rattle.scad_lexer.specs.declared.meaning.WordMeaning.TheVariants.{NoToken, OneToken, BadWord}
use Rattle.scad_lexer.specs.Words.{is_digit_byte, run_of}
use Rattle.scad_lexer.specs.Scanning.{is_of_class}
use Rattle.scad_lexer.specs.Tokens.{zero_fraction, decimal_from, numeral_or_too_large, numeral_meaning, or_letter, escape_at, with_byte, with_escape, bytes_written, bytes_after_backslash, without_quotes, text_from, word_meaning, place_after, LexOutcome, GivesTokens, FaultAt, tokens_in_front, tokens_at, IsEnd, IsStray, IsFaulty, SourceWord, ReadsWords, IsLexStop, IsPlaceOfByteFrom, StandsAtByte}
use Rattle.scad_lexer.proofs.Lengths.{some_bytes}

-- ---- a fault of a word stands before one of its bytes
abbrev IsInside : ℕ → WordMeaning → Type 0
IsInside n (BadWord k before) = before < n
IsInside n NoToken = Unit {0}
IsInside n (OneToken k) = Unit {0}

inside_cond : (n : ℕ) (b : Bool) (m o : WordMeaning) → IsInside n m → IsInside n o → IsInside n (cond b m o)
inside_cond n true m o h k = h
inside_cond n false m o h k = k

inside_numeral : (n : ℕ) (w : List ℕ) → 1 ≤ n → IsInside n (numeral_meaning w)
inside_numeral n w some =
    inside_cond n (zero_fraction (drop (run_of is_digit_byte w) w)) (numeral_or_too_large (decimal_from 0 (take (run_of is_digit_byte w) w))) _
    (inside_cond n (nat_lt (decimal_from 0 (take (run_of is_digit_byte w) w)) (2 ^ 53)) _ _ tt (omega (arith, some))) (omega (arith, some))

inside_letter : (n : ℕ) (m : WordMeaning) (at : ℕ) → at < n → IsInside n m → IsInside n (or_letter m at)
inside_letter n (BadWord k before) at l h = h
inside_letter n NoToken at l h = l
inside_letter n (OneToken k) at l h = l

-- a text's first fault has a byte
abbrev HasByte : ℕ → Result (List ℕ) ℕ → Type 0
HasByte n (Ok bs) = Unit {0}
HasByte n (Err at) = at < n

byte_behind : (n k b : ℕ) (r : Result (List ℕ) ℕ) → HasByte n r → HasByte (k + n) (with_byte b k r)
byte_behind n k b (Ok bs) h = tt
byte_behind n k b (Err at) h = omega (arith, h)

byte_cond : (n : ℕ) (b : Bool) (r s : Result (List ℕ) ℕ) → HasByte n r → HasByte n s → HasByte n (cond b r s)
byte_cond n true r s h k = h
byte_cond n false r s h k = k

byte_escape : (n : ℕ) (e : Option ℕ) (r : Result (List ℕ) ℕ) → HasByte n r → HasByte (2 + n) (with_escape e r)
byte_escape n None r h = omega arith
byte_escape n (Some b) r h = byte_behind n 2 b r h

more_bytes : (n m : ℕ) (r : Result (List ℕ) ℕ) → n ≡ m → HasByte n r → HasByte m r
more_bytes n m r e h = subst (λ n. HasByte n r) e h

mutual
  unfolding bytes_written bytes_after_backslash

  text_byte : (w : List ℕ) → HasByte (length w) (bytes_written w)
  text_byte [] = tt
  text_byte (b ∷ w) =
      byte_cond (length (b ∷ w)) (nat_eq b 92) (bytes_after_backslash w) _ (escape_byte w)
      (byte_cond (length (b ∷ w)) (is_of_class Printable b) _ (Err 0) (more_bytes (1 + length w) (length (b ∷ w)) _ (omega arith) (byte_behind (length w) 1 b (bytes_written w) (text_byte w))) (omega arith))

  escape_byte : (w : List ℕ) → HasByte (suc (length w)) (bytes_after_backslash w)
  escape_byte [] = omega arith
  escape_byte (c ∷ w) = more_bytes (2 + length w) (suc (length (c ∷ w))) _ (omega arith) (byte_escape (length w) (escape_at (c ∷ w)) (bytes_written w) (text_byte w))

inside_length : (w : List ℕ) → length (without_quotes w) ≤ length w - 1 - 1
inside_length w = omega (arith, length-take-le (length w - 1 - 1) (drop 1 w) (omega (arith, length-drop 1 w)))

inside_text : (n m : ℕ) (r : Result (List ℕ) ℕ) → m ≤ n - 1 - 1 → HasByte m r → IsInside n (text_from r)
inside_text n m (Ok bs) l h = tt
inside_text n m (Err at) l h = omega (arith, l, h)

inside_word : (w : Word) (bytes : List ℕ) → 1 ≤ length bytes → IsInside (length bytes) (word_meaning w bytes)
inside_word Blank bytes some = tt
inside_word UnclosedComment bytes some = omega (arith, some)
inside_word Name bytes some = tt
inside_word Special bytes some = tt
inside_word Numeral bytes some = inside_numeral (length bytes) bytes some
inside_word NumeralAndLetter bytes some =
    inside_letter (length bytes) (numeral_meaning (take (length bytes - 1) bytes)) (length bytes - 1) (omega (arith, some))
    (inside_numeral (length bytes) (take (length bytes - 1) bytes) some)
inside_word Text bytes some = inside_text (length bytes) (length (without_quotes bytes)) (bytes_written (without_quotes bytes)) (inside_length bytes) (text_byte (without_quotes bytes))
inside_word UnclosedText bytes some = omega (arith, some)
inside_word (Symbol s) bytes some = tt

-- ---- places of bytes
moved_on : (p : Place) (xs ys : List ℕ) → place_after p (xs ++ ys) ≡ place_after (place_after p xs) ys
moved_on p [] ys = refl
moved_on p (b ∷ xs) ys = moved_on (cond (nat_eq b 10) (record { line = suc p.line; column = 1 }) (record { line = p.line; column = suc p.column })) xs ys

first_byte : (p : Place) (text : List ℕ) → 1 ≤ length text → IsPlaceOfByteFrom p text p
first_byte p [] some = absurd (omega (arith, some))
first_byte p (b ∷ text) some = ([], b, text, refl, refl)

-- a byte behind a front
byte_further : (p : Place) (n : ℕ) (text : List ℕ) (at : Place) → IsPlaceOfByteFrom (place_after p (take n text)) (drop n text) at → IsPlaceOfByteFrom p text at
byte_further p n text at h = (
  take n text ++ h.0,
  h.1,
  h.2,
  sym (take-append-drop n text) ∙ ap (λ l. take n text ++ l) h.3 ∙ sym (append_assoc (take n text) h.0 (h.1 ∷ h.2)),
  h.4 ∙ sym (moved_on p (take n text) h.0),
)

-- ---- what a text gives
abbrev FaultsAtByte : Place → List ℕ → LexOutcome → Type 0
FaultsAtByte p text (GivesTokens ts) = Unit {0}
FaultsAtByte p text (FaultAt k at) = IsPlaceOfByteFrom p text at

some_text : (text : List ℕ) → (text ≡ [] → ⊥) → 1 ≤ length text
some_text [] h = absurd (h refl)
some_text (b ∷ text) h = omega arith

faulty_byte : (p : Place) (text : List ℕ) (o : LexOutcome) → IsFaulty p text o → FaultsAtByte p text o
faulty_byte p text o h =
    let count : length (take h.length text) ≡ h.length = length-take-le h.length text h.longest.within in
    let before : h.before < length (take h.length text) = subst (IsInside (length (take h.length text))) h.means (inside_word h.word (take h.length text) (omega (arith, count, some_bytes text h.length h.word h.longest.found))) in
    let behind : 1 ≤ length (drop h.before text) = omega (arith, before, count, h.longest.within, length-drop h.before text) in
    subst (FaultsAtByte p text) (sym h.outcome)
    (byte_further p h.before text (place_after p (take h.before text)) (first_byte (place_after p (take h.before text)) (drop h.before text) behind))

last_byte : (p : Place) (text : List ℕ) (o : LexOutcome) → (IsEnd p text o ⊎ (IsStray p text o ⊎ IsFaulty p text o)) → FaultsAtByte p text o
last_byte p text o (inl a) = subst (FaultsAtByte p text) (sym a.1) tt
last_byte p text o (inr (inl a)) = subst (FaultsAtByte p text) (sym a.2) (first_byte p text (some_text text a.0))
last_byte p text o (inr (inr a)) = faulty_byte p text o a

further : (p : Place) (n : ℕ) (text : List ℕ) (ts : List Token) (o : LexOutcome) → FaultsAtByte (place_after p (take n text)) (drop n text) o → FaultsAtByte p text (tokens_in_front ts o)
further p n text ts (GivesTokens us) h = tt
further p n text ts (FaultAt k at) h = byte_further p n text at h

reads_byte : (pieces : List SourceWord) (p : Place) (text : List ℕ) (o : LexOutcome) → ReadsWords pieces p text o → FaultsAtByte p text o
reads_byte [] p text o h = last_byte p text o h
reads_byte (x ∷ xs) p text o h =
    subst (FaultsAtByte p text) (sym h.2.2)
    (further p x.bytes text (tokens_at p (word_meaning x.word (take x.bytes text))) h.2.0
    (reads_byte xs (place_after p (take x.bytes text)) (drop x.bytes text) h.2.0 h.2.1))

pub stands_at_byte : (text : List ℕ) (r : Result (Vec Token) Stop) → IfErr r (λ stop. IsLexStop text stop) → IfErr r (λ stop. StandsAtByte text stop)
stands_at_byte text (Ok ts) h = tt
stands_at_byte text (Err (Fault f)) h = reads_byte h.0 (record { line = 1; column = 1 }) text (FaultAt f.kind f.place) h.1
stands_at_byte text (Err NoMemory) h = tt
