-- What a word of a source stands for, and the tokens of a whole source.
use Rattle.std.specs.Prelude.{◌≡◌, ℕ, suc, ◌+◌, ◌-◌, ◌*◌, ◌≤◌, nat_le, List, [], ◌∷◌, ◌++◌, length, take, drop, Bool, true, false, not, cond, ◌&&◌, nat_eq, Option, Some, None, codes}
use Rattle.std.specs.Str.{bytes_eq}
use Rattle.scad_lexer.specs.declared.token.Reserved.{Reserved}
use Rattle.scad_lexer.specs.declared.token.Reserved.TheVariants.{Module, Function, If, Else, For, IntersectionFor, True, False, Undef, Use, Include, Let, Each}
use Rattle.std.specs.Prelude.{Result, Ok, Err, ◌⊎◌, ◌≢◌, nat_lt}
use Rattle.std.specs.Global.{Vec}
use Rattle.plain_text.specs.declared.place.Place.{Place}
use Rattle.text_place.specs.declared.fault.Stop.{Stop}
use Rattle.text_place.specs.declared.fault.Stop.TheVariants.{Fault, NoMemory}
use Rattle.text_place.specs.declared.fault.FaultKind.{FaultKind}
use Rattle.text_place.specs.declared.fault.FaultKind.TheVariants.{BadCharacter, OpenComment, OpenText, NotWhole, TooLarge}
use Rattle.scad_lexer.specs.declared.token.Token.{Token}
use Rattle.scad_lexer.specs.declared.token.TokenKind.{TokenKind}
use Rattle.scad_lexer.specs.declared.token.TokenKind.TheVariants.{Numeral as NumeralToken, Name as NameToken, Special as SpecialToken, Text as TextToken, Reserved as ReservedToken, Symbol as SymbolToken, End}
use Rattle.scad_lexer.specs.declared.word.Word.{Word}
use Rattle.scad_lexer.specs.declared.word.Word.TheVariants.{Blank, UnclosedComment, Name, Special, Numeral, NumeralAndLetter, Text, UnclosedText, Symbol}
use Rattle.scad_lexer.specs.declared.meaning.WordMeaning.{WordMeaning}
use Rattle.scad_lexer.specs.declared.meaning.WordMeaning.TheVariants.{NoToken, OneToken, BadWord}
use Rattle.scad_lexer.specs.Words.{is_digit_byte, run_of, Empty, One, Then, Either, Many, matches, is_empty, literal, IsLongest, HasNoWord}
use Rattle.plain_text.specs.Decimals.{least_too_large}

-- the reserved name that these bytes are
abbrev pub reserved_of : List ℕ → Option Reserved
reserved_of bytes =
    cond (bytes_eq bytes (codes "module")) (Some Module) (cond (bytes_eq bytes (codes "function")) (Some Function)
    (cond (bytes_eq bytes (codes "if")) (Some If) (cond (bytes_eq bytes (codes "else")) (Some Else)
    (cond (bytes_eq bytes (codes "for")) (Some For) (cond (bytes_eq bytes (codes "intersection_for")) (Some IntersectionFor)
    (cond (bytes_eq bytes (codes "true")) (Some True) (cond (bytes_eq bytes (codes "false")) (Some False)
    (cond (bytes_eq bytes (codes "undef")) (Some Undef) (cond (bytes_eq bytes (codes "use")) (Some Use)
    (cond (bytes_eq bytes (codes "include")) (Some Include) (cond (bytes_eq bytes (codes "let")) (Some Let)
    (cond (bytes_eq bytes (codes "each")) (Some Each) None))))))))))))

-- the reserved name that was found, or else a name of these bytes
abbrev pub name_or : List ℕ → Option Reserved → TokenKind
name_or bytes None = NameToken bytes
name_or bytes (Some reserved) = ReservedToken reserved

-- the number that decimal digits write, behind those that wrote a value
abbrev pub decimal_from : ℕ → List ℕ → ℕ
decimal_from value [] = value
decimal_from value (byte ∷ bytes) = decimal_from (value * 10 + (byte - 48)) bytes

-- behind the whole part of a numeral: nothing, or a point and zeros
abbrev pub zero_fraction : List ℕ → Bool
zero_fraction bytes = matches (Either Empty (Then (literal (codes ".")) (Many (One (λ c. nat_eq c 48))))) is_empty bytes

-- a number, unless it is too large
abbrev pub numeral_or_too_large : ℕ → WordMeaning
numeral_or_too_large n = cond (nat_lt n least_too_large) (OneToken (NumeralToken n)) (BadWord TooLarge 0)

-- what a numeral stands for: its whole part where only zeros are behind its point; else, and with an exponent, NotWhole;
-- a whole one above 2^53 - 1 is TooLarge
abbrev pub numeral_meaning : List ℕ → WordMeaning
numeral_meaning bytes = cond (zero_fraction (drop (run_of is_digit_byte bytes) bytes)) (numeral_or_too_large (decimal_from 0 (take (run_of is_digit_byte bytes) bytes))) (BadWord NotWhole 0)

-- the fault of a numeral, or else that of the letter behind the given number of bytes
abbrev pub or_letter : WordMeaning → ℕ → WordMeaning
or_letter (BadWord kind n) at = BadWord kind n
or_letter sound at = BadWord BadCharacter at

-- the byte that an escape stands for: `\"`, `\\`, `\n`, `\t`, `\r`
abbrev pub escape_of : ℕ → Option ℕ
escape_of byte =
    cond (nat_eq byte 34) (Some 34) (cond (nat_eq byte 92) (Some 92) (cond (nat_eq byte 110) (Some 10) (cond (nat_eq byte 116) (Some 9) (cond (nat_eq byte 114) (Some 13) None))))

-- the same of the byte that begins a text
abbrev pub escape_at : List ℕ → Option ℕ
escape_at [] = None
escape_at (byte ∷ bytes) = escape_of byte

-- with a byte in front that was written in the given number of bytes
abbrev pub with_byte : ℕ → ℕ → Result (List ℕ) ℕ → Result (List ℕ) ℕ
with_byte byte n (Ok bytes) = Ok (byte ∷ bytes)
with_byte byte n (Err at) = Err (n + at)

-- with an escape in front; one that stands for no byte is a fault at its backslash
abbrev pub with_escape : Option ℕ → Result (List ℕ) ℕ → Result (List ℕ) ℕ
with_escape None rest = Err 0
with_escape (Some byte) rest = with_byte byte 2 rest

-- the bytes that a text's inside writes, or how many bytes stand before its first fault
unfoldable mutual
  pub bytes_written : List ℕ → Result (List ℕ) ℕ
  bytes_written [] = Ok []
  bytes_written (byte ∷ bytes) = cond (nat_eq byte 92) (bytes_after_backslash bytes) (cond (nat_le 32 byte && nat_le byte 126) (with_byte byte 1 (bytes_written bytes)) (Err 0))

  -- the same behind a backslash
  pub bytes_after_backslash : List ℕ → Result (List ℕ) ℕ
  bytes_after_backslash [] = Err 0
  bytes_after_backslash (byte ∷ bytes) = with_escape (escape_of byte) (bytes_written bytes)

-- a text without its quotes
abbrev pub without_quotes : List ℕ → List ℕ
without_quotes bytes = take (length bytes - 1 - 1) (drop 1 bytes)

-- the token of a text, or a fault behind its quote and the given number of bytes
abbrev pub text_from : Result (List ℕ) ℕ → WordMeaning
text_from (Ok bytes) = OneToken (TextToken bytes)
text_from (Err at) = BadWord BadCharacter (1 + at)

-- what a word stands for
abbrev pub word_meaning : Word → List ℕ → WordMeaning
word_meaning Blank bytes = NoToken
word_meaning UnclosedComment bytes = BadWord OpenComment 0
word_meaning Name bytes = OneToken (name_or bytes (reserved_of bytes))
word_meaning Special bytes = OneToken (SpecialToken (drop 1 bytes))
word_meaning Numeral bytes = numeral_meaning bytes
word_meaning NumeralAndLetter bytes = or_letter (numeral_meaning (take (length bytes - 1) bytes)) (length bytes - 1)
word_meaning Text bytes = text_from (bytes_written (without_quotes bytes))
word_meaning UnclosedText bytes = BadWord OpenText 0
word_meaning (Symbol symbol) bytes = OneToken (SymbolToken symbol)

-- the place behind these bytes: a newline begins a line
abbrev pub place_after : Place → List ℕ → Place
place_after place [] = place
place_after place (byte ∷ bytes) =
    place_after (cond (nat_eq byte 10) (record { line = suc place.line; column = 1 }) (record { line = place.line; column = suc place.column })) bytes

-- what a source gives: its tokens, or its first fault
pub data LexOutcome : Type 0 where
  GivesTokens : (tokens : List Token) → LexOutcome
  FaultAt : (kind : FaultKind) → (at : Place) → LexOutcome

-- with these tokens in front
abbrev pub tokens_in_front : List Token → LexOutcome → LexOutcome
tokens_in_front tokens (GivesTokens more) = GivesTokens (tokens ++ more)
tokens_in_front tokens (FaultAt kind place) = FaultAt kind place

-- the token that a word makes at a place, if it makes one
abbrev pub tokens_at : Place → WordMeaning → List Token
tokens_at at (OneToken kind) = record { kind = kind; place = at } ∷ []
tokens_at at meaning = []

-- that a word has no fault
abbrev pub IsFaultless : WordMeaning → Type 0
IsFaultless (BadWord kind n) = ⊥
IsFaultless meaning = Unit {0}

-- the end of the source
abbrev pub IsEnd : Place → List ℕ → LexOutcome → Type 0
IsEnd at text outcome = (text ≡ []) × (outcome ≡ GivesTokens (record { kind = End; place = at } ∷ []))

-- a byte at which no word begins
abbrev pub IsStray : Place → List ℕ → LexOutcome → Type 0
IsStray at text outcome = (text ≢ []) × HasNoWord text × (outcome ≡ FaultAt BadCharacter at)

-- a word with a fault
pub record IsFaulty (at : Place) (text : List ℕ) (given : LexOutcome) : Type 0 where
  pub length : ℕ
  pub word : Word
  pub kind : FaultKind
  pub before : ℕ
  pub longest : IsLongest text length word
  pub means : word_meaning word (take length text) ≡ BadWord kind before
  pub outcome : given ≡ FaultAt kind (place_after at (take before text))

-- a word of a source, by its length
pub record SourceWord : Type 0 where
  pub bytes : ℕ
  pub word : Word

-- the text from a place on is these words, each the longest there, and then its end or its first fault
abbrev pub ReadsWords : List SourceWord → Place → List ℕ → LexOutcome → Type 0
ReadsWords [] at text outcome = IsEnd at text outcome ⊎ (IsStray at text outcome ⊎ IsFaulty at text outcome)
ReadsWords (piece ∷ pieces) at text outcome =
    IsLongest text piece.bytes piece.word × IsFaultless (word_meaning piece.word (take piece.bytes text))
    × ((rest : LexOutcome) × ReadsWords pieces (place_after at (take piece.bytes text)) (drop piece.bytes text) rest
    × (outcome ≡ tokens_in_front (tokens_at at (word_meaning piece.word (take piece.bytes text))) rest))

-- what a text gives from a place on
abbrev pub LexesFrom : Place → List ℕ → LexOutcome → Type 0
LexesFrom at text outcome = (pieces : List SourceWord) × ReadsWords pieces at text outcome

-- what a whole source gives: blanks, comments and tokens, each as long as possible
abbrev pub Lexes : List ℕ → LexOutcome → Type 0
Lexes text outcome = LexesFrom (record { line = 1; column = 1 }) text outcome

-- the stop is what the text gives from the place on, unless memory ran out
abbrev pub IsLexStopFrom : Place → List ℕ → Stop → Type 0
IsLexStopFrom at text (Fault fault) = LexesFrom at text (FaultAt fault.kind fault.place)
IsLexStopFrom at text NoMemory = Unit {0}

-- the stop is what the whole source gives, unless memory ran out
abbrev pub IsLexStop : List ℕ → Stop → Type 0
IsLexStop text stop = IsLexStopFrom (record { line = 1; column = 1 }) text stop

-- a place is that of a byte of the text, whose first byte stands at the start
abbrev pub IsPlaceOfByteFrom : Place → List ℕ → Place → Type 0
IsPlaceOfByteFrom start text at = (front : List ℕ) × (byte : ℕ) × (rest : List ℕ) × (text ≡ front ++ byte ∷ rest) × (at ≡ place_after start front)

-- a fault stands at a byte of the source; running out of memory has no place
abbrev pub StandsAtByte : List ℕ → Stop → Type 0
StandsAtByte text (Fault fault) = IsPlaceOfByteFrom (record { line = 1; column = 1 }) text fault.place
StandsAtByte text NoMemory = Unit {0}

-- the answer is this outcome, unless memory ran out
abbrev pub Agrees : Result (Vec Token) Stop → LexOutcome → Type 0
Agrees (Ok tokens) outcome = outcome ≡ GivesTokens tokens.items
Agrees (Err (Fault fault)) outcome = outcome ≡ FaultAt fault.kind fault.place
Agrees (Err NoMemory) outcome = Unit {0}

-- the longest word of a text has no fault, and the token that it makes at its place, if it makes one, is appended to those
-- before
pub record AppendsNext (before after : List Token) (at : Place) (text : List ℕ) (bytes : ℕ) : Type 0 where
  pub word : Word
  pub longest : IsLongest text bytes word
  pub sound : IsFaultless (word_meaning word (take bytes text))
  pub appended : after ≡ before ++ tokens_at at (word_meaning word (take bytes text))
  pub some : 1 ≤ bytes

-- a fault stands within the word
abbrev pub IsFaultWithin : ℕ → WordMeaning → Type 0
IsFaultWithin n (BadWord kind before) = before ≤ n
IsFaultWithin n NoToken = Unit {0}
IsFaultWithin n (OneToken kind) = Unit {0}

-- the end of a source
abbrev pub is_end : TokenKind → Bool
is_end End = true
is_end kind = false

-- the last token is an end, and no other is
abbrev pub ends_once : List Token → Bool
ends_once [] = false
ends_once (token ∷ []) = is_end token.kind
ends_once (token ∷ next ∷ tokens) = not (is_end token.kind) && ends_once (next ∷ tokens)
