-- Sources that are written out, with their tokens or their first fault.
use Rattle.std.proofs.Common.{◌≡◌, ℕ, zero, suc, List, [], ◌∷◌, take, drop, Option, Some, None, option_map, refl, sym, subst, inl, inr, codes}
use Rattle.plain_text.specs.declared.place.Place.{Place}
use Rattle.text_place.specs.declared.fault.FaultKind.TheVariants.{BadCharacter, OpenComment, OpenText, NotWhole, TooLarge}
use Rattle.scad_lexer.specs.declared.token.Token.{Token}
use Rattle.scad_lexer.specs.declared.token.TokenKind.{TokenKind}
use Rattle.scad_lexer.specs.declared.token.TokenKind.TheVariants.{Numeral, Name, Special, Text, Reserved, Symbol, End}
use Rattle.scad_lexer.specs.declared.token.Reserved.TheVariants.{If}
use Rattle.scad_lexer.specs.declared.token.Symbol.TheVariants.{OpenParenthesis, CloseParenthesis, Semicolon, Assign, Dot, Less, LessEqual, Equal, NotEqual, Caret}
use Rattle.scad_lexer.specs.declared.word.Word.{Word}
use Rattle.scad_lexer.specs.declared.meaning.WordMeaning.{WordMeaning}
use Rattle.scad_lexer.specs.declared.meaning.WordMeaning.TheVariants.{NoToken, OneToken, BadWord}
use Rattle.scad_lexer.specs.Words.{word_of_bytes, matches, many_then, IsLongest}
use Rattle.scad_lexer.specs.Scanning.{longest_front}
use Rattle.scad_lexer.specs.Tokens.{word_meaning, place_after, bytes_written, bytes_after_backslash, LexOutcome, GivesTokens, FaultAt, tokens_in_front, tokens_at, IsFaultless, LexesFrom, Lexes}
use Rattle.scad_lexer.proofs.Longest.{best, Best}

-- ---- the outcome of a text, by trying every front of it
-- behind the longest word
abbrev behind : (Place → List ℕ → Option LexOutcome) → Place → List ℕ → ℕ → WordMeaning → Option LexOutcome
behind go p t k (BadWord kind before) = Some (FaultAt kind (place_after p (take before t)))
behind go p t k NoToken = option_map (tokens_in_front []) (go (place_after p (take k t)) (drop k t))
behind go p t k (OneToken kind) = option_map (tokens_in_front (record { kind = kind; place = p } ∷ [])) (go (place_after p (take k t)) (drop k t))

abbrev by_word : (Place → List ℕ → Option LexOutcome) → Place → List ℕ → Option (Word × ℕ) → Option LexOutcome
by_word go p t None = Some (FaultAt BadCharacter p)
by_word go p t (Some r) = behind go p t r.1 (word_meaning r.0 (take r.1 t))

-- with at most the given number of words
abbrev lexed : ℕ → Place → List ℕ → Option LexOutcome
lexed zero p t = None
lexed (suc n) p [] = Some (GivesTokens (record { kind = End; place = p } ∷ []))
lexed (suc n) p (b ∷ t) = by_word (lexed n) p (b ∷ t) (longest_front word_of_bytes (b ∷ t))

-- ---- this is the definition's
abbrev IsRight : (Place → List ℕ → Option LexOutcome) → Type 0
IsRight go = (p : Place) (t : List ℕ) (o : LexOutcome) → go p t ≡ Some o → LexesFrom p t o

more : (p : Place) (t : List ℕ) (w : Word) (k : ℕ) → IsLongest t k w → (m : WordMeaning) → word_meaning w (take k t) ≡ m → IsFaultless m →
    (rest : LexOutcome) → LexesFrom (place_after p (take k t)) (drop k t) rest → (o : LexOutcome) → o ≡ tokens_in_front (tokens_at p m) rest → LexesFrom p t o
more p t w k l m e s rest h o g =
    (record { bytes = k; word = w } ∷ h.0, (l, subst IsFaultless (sym e) s, (rest, h.1, subst (λ (x : WordMeaning). o ≡ tokens_in_front (tokens_at p x) rest) (sym e) g)))

mapped : (f : LexOutcome → LexOutcome) (x : Option LexOutcome) (o : LexOutcome) → option_map f x ≡ Some o → (rest : LexOutcome) × (x ≡ Some rest) × (o ≡ f rest)
mapped f None o h = cc
mapped f (Some rest) o h = (rest, refl, cc)

behind_is : (go : Place → List ℕ → Option LexOutcome) → IsRight go → (p : Place) (t : List ℕ) (w : Word) (k : ℕ) → IsLongest t k w →
    (m : WordMeaning) → word_meaning w (take k t) ≡ m → (o : LexOutcome) → behind go p t k m ≡ Some o → LexesFrom p t o
behind_is go right p t w k l (BadWord kind before) e o h =
    ([], inr (inr (record { length = k; word = w; kind = kind; before = before; longest = l; means = e; outcome = cc })))
behind_is go right p t w k l NoToken e o h =
    let r = mapped (tokens_in_front []) (go (place_after p (take k t)) (drop k t)) o h in
    more p t w k l NoToken e tt r.0 (right (place_after p (take k t)) (drop k t) r.0 r.1) o r.2
behind_is go right p t w k l (OneToken kind) e o h =
    let r = mapped (tokens_in_front (record { kind = kind; place = p } ∷ [])) (go (place_after p (take k t)) (drop k t)) o h in
    more p t w k l (OneToken kind) e tt r.0 (right (place_after p (take k t)) (drop k t) r.0 r.1) o r.2

by_word_is : (go : Place → List ℕ → Option LexOutcome) → IsRight go → (p : Place) (b : ℕ) (t : List ℕ) (r : Option (Word × ℕ)) →
    Best word_of_bytes (b ∷ t) r → (o : LexOutcome) → by_word go p (b ∷ t) r ≡ Some o → LexesFrom p (b ∷ t) o
by_word_is go right p b t None l o h = ([], inr (inl (λ e. cc, l, cc)))
by_word_is go right p b t (Some r) l o h =
    behind_is go right p (b ∷ t) r.0 r.1 (record { within = l.within; found = l.found; most = l.most }) (word_meaning r.0 (take r.1 (b ∷ t))) refl o h

lexed_is : (n : ℕ) → IsRight (lexed n)
lexed_is zero p t o h = cc
lexed_is (suc n) p [] o h = ([], inl (refl, cc))
lexed_is (suc n) p (b ∷ t) o h = by_word_is (lexed n) (lexed_is n) p b t (longest_front word_of_bytes (b ∷ t)) (best word_of_bytes (b ∷ t)) o h

abbrev at : ℕ → ℕ → Place
at line column = record { line = line; column = column }

abbrev token : TokenKind → ℕ → ℕ → Token
token kind line column = record { kind = kind; place = at line column }

-- ---- rows: a source, and what it gives
abbrev Row : Type 0
Row = List ℕ × LexOutcome

abbrev AreGiven : List Row → Type 0
AreGiven [] = Unit {0}
AreGiven (row ∷ rows) = Lexes row.0 row.1 × AreGiven rows

abbrev AreLexed : List Row → Type 0
AreLexed [] = Unit {0}
AreLexed (row ∷ rows) = (lexed 20 (at 1 1) row.0 ≡ Some row.1) × AreLexed rows

given : (rows : List Row) → AreLexed rows → AreGiven rows
given [] h = tt
given (row ∷ rows) h = (lexed_is 20 (at 1 1) row.0 row.1 h.0, given rows h.1)

abbrev tokens : List Row
tokens =
    ([], GivesTokens (token End 1 1 ∷ []))
    ∷ (codes "a1( 5.) ; // box\n", GivesTokens (token (Name (codes "a1")) 1 1 ∷ token (Symbol OpenParenthesis) 1 3 ∷ token (Numeral 5) 1 5 ∷ token (Symbol CloseParenthesis) 1 7 ∷ token (Symbol Semicolon) 1 9 ∷ token End 2 1 ∷ []))
    ∷ (codes "<=<\n/* * /\n**/==!=\n", GivesTokens (token (Symbol LessEqual) 1 1 ∷ token (Symbol Less) 1 3 ∷ token (Symbol Equal) 3 4 ∷ token (Symbol NotEqual) 3 6 ∷ token End 4 1 ∷ []))
    ∷ (codes "x=2^3;\n", GivesTokens (token (Name (codes "x")) 1 1 ∷ token (Symbol Assign) 1 2 ∷ token (Numeral 2) 1 3 ∷ token (Symbol Caret) 1 4 ∷ token (Numeral 3) 1 5 ∷ token (Symbol Semicolon) 1 6 ∷ token End 2 1 ∷ []))
    ∷ (codes "iff if $fn v.x\n", GivesTokens (token (Name (codes "iff")) 1 1 ∷ token (Reserved If) 1 5 ∷ token (Special (codes "fn")) 1 8 ∷ token (Name (codes "v")) 1 12 ∷ token (Symbol Dot) 1 13 ∷ token (Name (codes "x")) 1 14 ∷ token End 2 1 ∷ []))
    ∷ (codes "\"a\\n\\\"b\"\n", GivesTokens (token (Text (97 ∷ 10 ∷ 34 ∷ 98 ∷ [])) 1 1 ∷ token End 2 1 ∷ []))
    ∷ (codes "9007199254740991 1.00 .0\n", GivesTokens (token (Numeral 9007199254740991) 1 1 ∷ token (Numeral 1) 1 18 ∷ token (Numeral 0) 1 23 ∷ token End 2 1 ∷ []))
    ∷ []

tokens_lexed : AreLexed tokens
unfolding longest_front word_of_bytes matches many_then bytes_written bytes_after_backslash
tokens_lexed = (refl, (refl, (refl, (refl, (refl, (refl, (refl, tt)))))))

tokens_given : AreGiven tokens
tokens_given = given tokens tokens_lexed

-- a numeral's own fault goes before the letter behind it
abbrev bad_numerals : List Row
bad_numerals =
    (codes "cube([1.5,2,3]);\n", FaultAt NotWhole (at 1 7))
    ∷ (codes "1e1\n", FaultAt NotWhole (at 1 1))
    ∷ (codes "1.0e0\n", FaultAt NotWhole (at 1 1))
    ∷ (codes "\n 9007199254740992\n", FaultAt TooLarge (at 2 2))
    ∷ (codes "x = 3a;\n", FaultAt BadCharacter (at 1 6))
    ∷ (codes "1e+\n", FaultAt BadCharacter (at 1 2))
    ∷ (codes "5.x\n", FaultAt BadCharacter (at 1 3))
    ∷ (codes "1.5a\n", FaultAt NotWhole (at 1 1))
    ∷ []

bad_numerals_lexed : AreLexed bad_numerals
unfolding longest_front word_of_bytes matches many_then bytes_written bytes_after_backslash
bad_numerals_lexed = (refl, (refl, (refl, (refl, (refl, (refl, (refl, (refl, tt))))))))

bad_numerals_given : AreGiven bad_numerals
bad_numerals_given = given bad_numerals bad_numerals_lexed

-- a text that isn't closed on its line goes before a bad byte inside
abbrev bad_texts : List Row
bad_texts =
    (codes "x = \"abc;\n", FaultAt OpenText (at 1 5))
    ∷ (codes "\"\\q\\\n\"\n", FaultAt OpenText (at 1 1))
    ∷ (codes "\"a\\q\"\n", FaultAt BadCharacter (at 1 3))
    ∷ (codes "\"a\t\"\n", FaultAt BadCharacter (at 1 3))
    ∷ []

bad_texts_lexed : AreLexed bad_texts
unfolding longest_front word_of_bytes matches many_then bytes_written bytes_after_backslash
bad_texts_lexed = (refl, (refl, (refl, (refl, tt))))

bad_texts_given : AreGiven bad_texts
bad_texts_given = given bad_texts bad_texts_lexed

-- comments that aren't closed, and bytes where no token begins
abbrev bad_bytes : List Row
bad_bytes =
    (codes "/* open\n", FaultAt OpenComment (at 1 1))
    ∷ (codes " /*/ x\n", FaultAt OpenComment (at 1 2))
    ∷ (codes "a & b\n", FaultAt BadCharacter (at 1 3))
    ∷ (codes "$ x\n", FaultAt BadCharacter (at 1 1))
    ∷ (codes "a @ \"\n", FaultAt BadCharacter (at 1 3))
    ∷ []

bad_bytes_lexed : AreLexed bad_bytes
unfolding longest_front word_of_bytes matches many_then bytes_written bytes_after_backslash
bad_bytes_lexed = (refl, (refl, (refl, (refl, (refl, tt)))))

bad_bytes_given : AreGiven bad_bytes
bad_bytes_given = given bad_bytes bad_bytes_lexed
