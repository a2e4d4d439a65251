-- Words of a source: blanks, comments and tokens (OpenSCAD User Manual, in the profile of this server).
use Rattle.std.specs.Prelude.{◌≡◌, ℕ, zero, suc, ◌≤◌, List, [], ◌∷◌, length, take, Bool, true, false, cond, codes, map, ◌++◌, ◌||◌, ◌&&◌, not, nat_eq, nat_le, Option, Some, None}
use Rattle.scad_lexer.specs.declared.token.Symbol.{Symbol}
use Rattle.scad_lexer.specs.declared.token.Symbol.TheVariants.{OpenParenthesis, CloseParenthesis, OpenBracket, CloseBracket, OpenBrace, CloseBrace, Comma, Semicolon, Assign, Colon, Question, Dot, Plus, Minus, Times, Divide, Remainder, Less, Greater, LessEqual, GreaterEqual, Equal, NotEqual, And, Or, Not, Hash, Caret}
use Rattle.scad_lexer.specs.declared.word.Word.{Word}
use Rattle.scad_lexer.specs.declared.word.Word.TheVariants.{Blank, UnclosedComment, Name, Special, Numeral, NumeralAndLetter, Text, UnclosedText, Symbol as SymbolWord}

-- space, tab, carriage return, newline
abbrev pub is_blank_byte : ℕ → Bool
is_blank_byte byte = nat_eq byte 32 || nat_eq byte 9 || nat_eq byte 13 || nat_eq byte 10

-- `A` to `Z`, `a` to `z` or `_`
abbrev pub is_letter_byte : ℕ → Bool
is_letter_byte byte = (nat_le 65 byte && nat_le byte 90) || (nat_le 97 byte && nat_le byte 122) || nat_eq byte 95

-- `0` to `9`
abbrev pub is_digit_byte : ℕ → Bool
is_digit_byte byte = nat_le 48 byte && nat_le byte 57

-- what a name may go on with
abbrev pub is_name_byte : ℕ → Bool
is_name_byte byte = is_letter_byte byte || is_digit_byte byte

-- how many at the front pass the test
abbrev pub run_of : (ℕ → Bool) → List ℕ → ℕ
run_of test [] = 0
run_of test (byte ∷ bytes) = cond (test byte) (suc (run_of test bytes)) 0

-- a regular expression: no byte, a byte that passes the test, a sequence, a choice, a repetition, and one that takes no byte,
-- where another expression matches nothing that begins here
pub data Expression : Type 0 where
  Empty : Expression
  One : (ℕ → Bool) → Expression
  Then : Expression → Expression → Expression
  Either : Expression → Expression → Expression
  Many : Expression → Expression
  Unless : Expression → Expression

-- a step, at most this many times, and then what `rest` tells of what is left
unfoldable pub many_then : ℕ → ((List ℕ → Bool) → List ℕ → Bool) → (List ℕ → Bool) → List ℕ → Bool
many_then zero step rest bytes = rest bytes
many_then (suc n) step rest bytes = rest bytes || step (many_then n step rest) bytes

-- whether the expression matches the bytes up to a place, behind which `rest` holds; it repeats at most once for each byte
unfoldable pub matches : Expression → (List ℕ → Bool) → List ℕ → Bool
matches Empty rest bytes = rest bytes
matches (One test) rest [] = false
matches (One test) rest (byte ∷ bytes) = cond (test byte) (rest bytes) false
matches (Then first second) rest bytes = matches first (matches second rest) bytes
matches (Either first second) rest bytes = matches first rest bytes || matches second rest bytes
matches (Many each) rest bytes = many_then (length bytes) (matches each) rest bytes
matches (Unless other) rest bytes = cond (matches other (λ behind. true) bytes) false (rest bytes)

-- no bytes
abbrev pub is_empty : List ℕ → Bool
is_empty [] = true
is_empty (byte ∷ bytes) = false

-- these bytes, one after another
abbrev pub literal : List ℕ → Expression
literal [] = Empty
literal (byte ∷ bytes) = Then (One (λ c. nat_eq c byte)) (literal bytes)

-- any byte but newline
abbrev pub in_line : Expression
in_line = One (λ c. not (nat_eq c 10))

-- a comment without its end: `/*`, and bytes at none of which `*/` begins
abbrev pub open_comment : Expression
open_comment = Then (literal (codes "/*")) (Many (Then (Unless (literal (codes "*/"))) (One (λ c. true))))

-- a letter, and what a name may go on with
abbrev pub name_word : Expression
name_word = Then (One is_letter_byte) (Many (One is_name_byte))

-- digits, at least one
abbrev pub some_digits : Expression
some_digits = Then (One is_digit_byte) (Many (One is_digit_byte))

-- `e` or `E`, a sign or none, and digits
abbrev pub exponent_part : Expression
exponent_part = Then (One (λ c. nat_eq c 101 || nat_eq c 69)) (Then (Either Empty (One (λ c. nat_eq c 43 || nat_eq c 45))) some_digits)

-- digits, perhaps with a point and any number of digits behind it, or a point and digits; then an exponent or none
abbrev pub numeral_word : Expression
numeral_word =
    Then (Either (Then some_digits (Either Empty (Then (literal (codes ".")) (Many (One is_digit_byte))))) (Then (literal (codes ".")) some_digits))
    (Either Empty exponent_part)

-- a text without its end: a quote, and bytes of its line but for quotes, where a backslash takes the next byte with it, a
-- quote too
abbrev pub open_text : Expression
open_text =
    Then (literal (codes "\"")) (Many (Either (Then (literal (codes "\\")) in_line) (One (λ c. not (nat_eq c 34 || nat_eq c 92 || nat_eq c 10)))))

-- the symbols, and how they are written
abbrev pub symbols : List (List ℕ × Symbol)
symbols =
    (codes "(", OpenParenthesis) ∷ (codes ")", CloseParenthesis) ∷ (codes "[", OpenBracket) ∷ (codes "]", CloseBracket)
    ∷ (codes "{", OpenBrace) ∷ (codes "}", CloseBrace) ∷ (codes ",", Comma) ∷ (codes ";", Semicolon) ∷ (codes "=", Assign)
    ∷ (codes ":", Colon) ∷ (codes "?", Question) ∷ (codes "+", Plus) ∷ (codes "-", Minus) ∷ (codes "*", Times)
    ∷ (codes "%", Remainder) ∷ (codes "<", Less) ∷ (codes ">", Greater) ∷ (codes "!", Not) ∷ (codes "#", Hash)
    ∷ (codes "^", Caret) ∷ (codes ".", Dot) ∷ (codes "/", Divide) ∷ (codes "<=", LessEqual) ∷ (codes ">=", GreaterEqual)
    ∷ (codes "==", Equal) ∷ (codes "!=", NotEqual) ∷ (codes "&&", And) ∷ (codes "||", Or) ∷ []

-- all words but the symbols, by what they match. A blank is a blank byte, a comment to its line's end, or one to the first
-- `*/`. Of a comment or a text that is closed a shorter front is unclosed; the longest word counts. An unclosed text may end
-- at a backslash: before a newline and at the end of the source there is no byte that this takes with it.
abbrev pub words : List (Expression × Word)
words =
    (Either (One is_blank_byte) (Either (Then (literal (codes "//")) (Many in_line)) (Then open_comment (literal (codes "*/")))), Blank)
    ∷ (open_comment, UnclosedComment) ∷ (name_word, Name) ∷ (Then (literal (codes "$")) name_word, Special)
    ∷ (numeral_word, Numeral) ∷ (Then numeral_word (One is_letter_byte), NumeralAndLetter)
    ∷ (Then open_text (literal (codes "\"")), Text) ∷ (Then open_text (Either Empty (literal (codes "\\"))), UnclosedText) ∷ []

-- the first of these words that the bytes are
abbrev pub first_match : List (Expression × Word) → List ℕ → Option Word
first_match [] bytes = None
first_match (row ∷ rows) bytes = cond (matches row.0 is_empty bytes) (Some row.1) (first_match rows bytes)

-- what these bytes are, if they are one word
unfoldable pub word_of_bytes : List ℕ → Option Word
word_of_bytes bytes = first_match (words ++ map (λ row. (literal row.0, SymbolWord row.1)) symbols) bytes

-- the first n bytes are this word, and no longer front of the text is a word
pub record IsLongest (text : List ℕ) (n : ℕ) (word : Word) : Type 0 where
  pub within : n ≤ length text
  pub found : word_of_bytes (take n text) ≡ Some word
  pub most : (m : ℕ) (other : Word) → m ≤ length text → word_of_bytes (take m text) ≡ Some other → m ≤ n

-- no word begins here
abbrev pub HasNoWord : List ℕ → Type 0
HasNoWord text = (m : ℕ) (other : Word) → m ≤ length text → word_of_bytes (take m text) ≡ Some other → ⊥
