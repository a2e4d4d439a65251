-- A source has at most one token more than bytes: its end.
use Rattle.std.proofs.Common.{◌≡◌, ℕ, zero, suc, ◌+◌, ◌≤◌, List, [], ◌∷◌, length, take, drop, Some, Result, Ok, Err, ◌⊎◌, inl, inr, sym, subst, arith, IfOk, length-drop, ◌∙◌}
use Rattle.std.specs.Global.{Vec}
use Rattle.plain_text.specs.declared.place.Place.{Place}
use Rattle.text_place.specs.declared.fault.Stop.{Stop}
use Rattle.scad_lexer.specs.declared.token.Token.{Token}
use Rattle.scad_lexer.specs.declared.word.Word.{Word}
use Rattle.scad_lexer.specs.declared.meaning.WordMeaning.{WordMeaning}
use Rattle.scad_lexer.specs.declared.meaning.WordMeaning.TheVariants.{NoToken, OneToken, BadWord}
use Rattle.scad_lexer.proofs.Matched.{is_read}
use Rattle.scad_lexer.proofs.Longest.{no_empty_word}
use Rattle.scad_lexer.specs.Words.{word_of_bytes}
use Rattle.scad_lexer.specs.Tokens.{LexOutcome, GivesTokens, FaultAt, tokens_in_front, tokens_at, IsEnd, IsStray, IsFaulty, SourceWord, ReadsWords, LexesFrom, word_meaning, place_after}

abbrev HasFew : ℕ → LexOutcome → Type 0
HasFew n (GivesTokens ts) = length ts ≤ n + 1
HasFew n (FaultAt k p) = Unit {0}

last : (p : Place) (text : List ℕ) (o : LexOutcome) → (IsEnd p text o ⊎ (IsStray p text o ⊎ IsFaulty p text o)) → HasFew (length text) o
last p text o (inl a) = subst (HasFew (length text)) (sym a.1) (omega arith)
last p text o (inr (inl a)) = subst (HasFew (length text)) (sym a.2) tt
last p text o (inr (inr a)) = subst (HasFew (length text)) (sym a.outcome) tt

one_more : (p : Place) (m : WordMeaning) (n : ℕ) (rest : LexOutcome) → HasFew n rest → HasFew (suc n) (tokens_in_front (tokens_at p m) rest)
one_more p (OneToken k) n (GivesTokens us) h = omega (arith, h)
one_more p NoToken n (GivesTokens us) h = omega (arith, h)
one_more p (BadWord k m) n (GivesTokens us) h = omega (arith, h)
one_more p m n (FaultAt k q) h = tt

fewer : (n m : ℕ) (o : LexOutcome) → n ≤ m → HasFew n o → HasFew m o
fewer n m (GivesTokens ts) l h = omega (arith, l, h)
fewer n m (FaultAt k p) l h = tt

-- a word has bytes
pub some_bytes : (text : List ℕ) (n : ℕ) (word : Word) → word_of_bytes (take n text) ≡ Some word → 1 ≤ n
some_bytes text zero word e = absurd (no_empty_word word (sym (is_read []) ∙ e))
some_bytes text (suc n) word e = omega arith

reads_few : (pieces : List SourceWord) (p : Place) (text : List ℕ) (o : LexOutcome) → ReadsWords pieces p text o → HasFew (length text) o
reads_few [] p text o h = last p text o h
reads_few (x ∷ xs) p text o h =
    let some = some_bytes text x.bytes x.word h.0.found in
    let rest = length-drop x.bytes text in
    subst (HasFew (length text)) (sym h.2.2)
    (fewer (suc (length (drop x.bytes text))) (length text) _ (omega (arith, some, rest, h.0.within))
    (one_more p (word_meaning x.word (take x.bytes text)) (length (drop x.bytes text)) h.2.0 (reads_few xs (place_after p (take x.bytes text)) (drop x.bytes text) h.2.0 h.2.1)))

pub few_tokens : (p : Place) (text : List ℕ) (r : Result (Vec Token) Stop) → IfOk r (λ ts. LexesFrom p text (GivesTokens ts.items)) → IfOk r (λ ts. length ts.items ≤ length text + 1)
few_tokens p text (Ok ts) h = reads_few h.0 p text (GivesTokens ts.items) h.1
few_tokens p text (Err e) h = tt
