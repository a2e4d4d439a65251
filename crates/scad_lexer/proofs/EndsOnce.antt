-- The tokens of a source end once.
use Rattle.std.proofs.Common.{◌≡◌, ℕ, List, [], ◌∷◌, ◌-◌, ◌^◌, length, take, drop, Bool, true, false, cond, not, ◌&&◌, Option, Some, None, Result, Ok, Err, ◌⊎◌, inl, inr, refl, sym, ap, ◌∙◌, subst, nat_lt, IfOk}
use Rattle.std.specs.Global.{Vec}
use Rattle.plain_text.specs.declared.place.Place.{Place}
use Rattle.text_place.specs.declared.fault.Stop.{Stop}
use Rattle.scad_lexer.specs.declared.token.Token.{Token}
use Rattle.scad_lexer.specs.declared.token.Reserved.{Reserved}
use Rattle.scad_lexer.specs.declared.word.Word.{Word}
use Rattle.scad_lexer.specs.declared.word.Word.TheVariants.{Blank, UnclosedComment, Name, Special, Numeral, NumeralAndLetter, Text, UnclosedText, Symbol}
use Rattle.scad_lexer.specs.declared.meaning.WordMeaning.{WordMeaning}
use Rattle.scad_lexer.specs.declared.meaning.WordMeaning.TheVariants.{NoToken, OneToken, BadWord}
use Rattle.scad_lexer.specs.Words.{is_digit_byte, run_of}
use Rattle.scad_lexer.specs.Tokens.{LexOutcome, GivesTokens, FaultAt, tokens_in_front, tokens_at, IsEnd, IsStray, IsFaulty, SourceWord, ReadsWords, LexesFrom, word_meaning, name_or, reserved_of, zero_fraction, numeral_or_too_large, decimal_from, numeral_meaning, or_letter, text_from, bytes_written, without_quotes, place_after, is_end, ends_once}

-- what a word stands for is no end
abbrev IsPlain : WordMeaning → Type 0
IsPlain (OneToken k) = is_end k ≡ false
IsPlain NoToken = Unit {0}
IsPlain (BadWord k n) = Unit {0}

plain_name : (w : List ℕ) (r : Option Reserved) → is_end (name_or w r) ≡ false
plain_name w None = refl
plain_name w (Some r) = refl

plain_cond : (b : Bool) (m n : WordMeaning) → IsPlain m → IsPlain n → IsPlain (cond b m n)
plain_cond true m n h k = h
plain_cond false m n h k = k

plain_numeral : (w : List ℕ) → IsPlain (numeral_meaning w)
plain_numeral w =
    plain_cond (zero_fraction (drop (run_of is_digit_byte w) w)) (numeral_or_too_large (decimal_from 0 (take (run_of is_digit_byte w) w))) _
    (plain_cond (nat_lt (decimal_from 0 (take (run_of is_digit_byte w) w)) (2 ^ 53)) _ _ refl tt) tt

plain_letter : (m : WordMeaning) (at : ℕ) → IsPlain (or_letter m at)
plain_letter (OneToken k) at = tt
plain_letter NoToken at = tt
plain_letter (BadWord k n) at = tt

plain_text : (r : Result (List ℕ) ℕ) → IsPlain (text_from r)
plain_text (Ok bs) = refl
plain_text (Err at) = tt

plain : (w : Word) (bytes : List ℕ) → IsPlain (word_meaning w bytes)
plain Blank bytes = tt
plain UnclosedComment bytes = tt
plain Name bytes = plain_name bytes (reserved_of bytes)
plain Special bytes = refl
plain Numeral bytes = plain_numeral bytes
plain NumeralAndLetter bytes = plain_letter (numeral_meaning (take (length bytes - 1) bytes)) (length bytes - 1)
plain Text bytes = plain_text (bytes_written (without_quotes bytes))
plain UnclosedText bytes = tt
plain (Symbol s) bytes = refl

-- the tokens, where there are some, end once
abbrev pub EndsOnce : LexOutcome → Type 0
EndsOnce (GivesTokens ts) = ends_once ts ≡ true
EndsOnce (FaultAt k p) = Unit {0}

more : (t : Token) (ts : List Token) → is_end t.kind ≡ false → ends_once ts ≡ true → ends_once (t ∷ ts) ≡ true
more t [] h e = absurd (cc)
more t (u ∷ ts) h e = ap (λ b. not b && ends_once (u ∷ ts)) h ∙ e

more_tokens : (p : Place) (m : WordMeaning) (rest : LexOutcome) → IsPlain m → EndsOnce rest → EndsOnce (tokens_in_front (tokens_at p m) rest)
more_tokens p (OneToken k) (GivesTokens us) h e = more (record { kind = k; place = p }) us h e
more_tokens p NoToken (GivesTokens us) h e = e
more_tokens p (BadWord k n) (GivesTokens us) h e = e
more_tokens p m (FaultAt k q) h e = tt

last : (p : Place) (text : List ℕ) (o : LexOutcome) → (IsEnd p text o ⊎ (IsStray p text o ⊎ IsFaulty p text o)) → EndsOnce o
last p text o (inl a) = subst EndsOnce (sym a.1) refl
last p text o (inr (inl a)) = subst EndsOnce (sym a.2) tt
last p text o (inr (inr a)) = subst EndsOnce (sym a.outcome) tt

pub reads_end : (pieces : List SourceWord) (p : Place) (text : List ℕ) (o : LexOutcome) → ReadsWords pieces p text o → EndsOnce o
reads_end [] p text o h = last p text o h
reads_end (x ∷ xs) p text o h = subst EndsOnce (sym h.2.2) (more_tokens p (word_meaning x.word (take x.bytes text)) h.2.0 (plain x.word (take x.bytes text)) (reads_end xs (place_after p (take x.bytes text)) (drop x.bytes text) h.2.0 h.2.1))

pub end_once : (p : Place) (text : List ℕ) (r : Result (Vec Token) Stop) → IfOk r (λ ts. LexesFrom p text (GivesTokens ts.items)) → IfOk r (λ ts. ends_once ts.items ≡ true)
end_once p text (Ok ts) h = reads_end h.0 p text (GivesTokens ts.items) h.1
end_once p text (Err e) h = tt
