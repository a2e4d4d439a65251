-- The words of a source byte by byte, as the scanner reads them: what a word is, by the bytes of it that are left.
use Rattle.std.specs.Prelude.{ℕ, suc, ◌+◌, List, [], ◌∷◌, Bool, true, false, cond, ◌||◌, ◌&&◌, not, nat_eq, nat_le, Option, Some, None}
use Rattle.scad_lexer.specs.declared.class.ByteClass.{ByteClass}
use Rattle.scad_lexer.specs.declared.class.ByteClass.TheVariants.{BlankByte, Letter, Digit, NameByte, InLine, Exponent, Sign, Printable, Byte}
use Rattle.scad_lexer.specs.declared.token.Symbol.{Symbol}
use Rattle.scad_lexer.specs.declared.token.Symbol.TheVariants.{OpenParenthesis, CloseParenthesis, OpenBracket, CloseBracket, OpenBrace, CloseBrace, Comma, Semicolon, Assign, Colon, Question, Dot, Plus, Minus, Times, Divide, Remainder, Less, Greater, LessEqual, GreaterEqual, Equal, NotEqual, And, Or, Not, Hash, Caret}
use Rattle.scad_lexer.specs.declared.word.Word.{Word}
use Rattle.scad_lexer.specs.declared.word.Word.TheVariants.{Blank, UnclosedComment, Name, Special, Numeral, NumeralAndLetter, Text, UnclosedText, Symbol as SymbolWord}
use Rattle.scad_lexer.specs.Words.{is_blank_byte, is_letter_byte, is_digit_byte, is_name_byte}

-- a byte of the class
abbrev pub is_of_class : ByteClass → ℕ → Bool
is_of_class BlankByte byte = is_blank_byte byte
is_of_class Letter byte = is_letter_byte byte
is_of_class Digit byte = is_digit_byte byte
is_of_class NameByte byte = is_name_byte byte
is_of_class InLine byte = not (nat_eq byte 10)
is_of_class Exponent byte = nat_eq byte 101 || nat_eq byte 69
is_of_class Sign byte = nat_eq byte 43 || nat_eq byte 45
is_of_class Printable byte = nat_le 32 byte && nat_le byte 126
is_of_class (Byte only) byte = nat_eq byte only

-- the first byte passes the test
abbrev pub begins_with : (ℕ → Bool) → List ℕ → Bool
begins_with test [] = false
begins_with test (byte ∷ bytes) = test byte

-- all pass the test
abbrev pub all_bytes : (ℕ → Bool) → List ℕ → Bool
all_bytes test [] = true
all_bytes test (byte ∷ bytes) = cond (test byte) (all_bytes test bytes) false

-- this word, where the test holds
abbrev pub word_where : Bool → Word → Option Word
word_where holds word = cond holds (Some word) None

-- this word, where nothing more follows
abbrev pub where_last : Word → List ℕ → Option Word
where_last word [] = Some word
where_last word (byte ∷ bytes) = None

-- after a digit of a numeral's exponent: more digits, or one letter, with which it is a fault
unfoldable pub in_exponent : List ℕ → Option Word
in_exponent [] = Some Numeral
in_exponent (byte ∷ bytes) = cond (is_digit_byte byte) (in_exponent bytes) (cond (is_letter_byte byte) (where_last NumeralAndLetter bytes) None)

-- after the sign of an exponent, `+` or `-`
abbrev pub after_sign : List ℕ → Option Word
after_sign [] = None
after_sign (byte ∷ bytes) = cond (is_digit_byte byte) (in_exponent bytes) None

-- after `e` or `E`, which is a letter after the numeral where no digits follow
abbrev pub after_e : List ℕ → Option Word
after_e [] = Some NumeralAndLetter
after_e (byte ∷ bytes) = cond (is_digit_byte byte) (in_exponent bytes) (cond (nat_eq byte 43 || nat_eq byte 45) (after_sign bytes) None)

-- after the last digit of the whole part or the fraction
abbrev pub number_end : List ℕ → Option Word
number_end [] = Some Numeral
number_end (byte ∷ bytes) = cond (nat_eq byte 101 || nat_eq byte 69) (after_e bytes) (cond (is_letter_byte byte) (where_last NumeralAndLetter bytes) None)

-- after the point of a numeral, or a digit of its fraction
unfoldable pub in_fraction : List ℕ → Option Word
in_fraction [] = Some Numeral
in_fraction (byte ∷ bytes) = cond (is_digit_byte byte) (in_fraction bytes) (number_end (byte ∷ bytes))

-- after a digit of the whole part
unfoldable pub in_whole : List ℕ → Option Word
in_whole [] = Some Numeral
in_whole (byte ∷ bytes) = cond (is_digit_byte byte) (in_whole bytes) (cond (nat_eq byte 46) (in_fraction bytes) (number_end (byte ∷ bytes)))

-- after a point: a symbol, or a numeral with at least one digit
abbrev pub after_point : List ℕ → Option Word
after_point [] = Some (SymbolWord Dot)
after_point (byte ∷ bytes) = cond (is_digit_byte byte) (in_fraction bytes) None

-- after the opening quote of a text: a backslash takes the next byte with it, and no newline is in it
unfoldable mutual
  pub in_text : List ℕ → Option Word
  in_text [] = Some UnclosedText
  in_text (byte ∷ bytes) = cond (nat_eq byte 34) (where_last Text bytes) (cond (nat_eq byte 92) (in_escape bytes) (cond (nat_eq byte 10) None (in_text bytes)))

  -- after a backslash
  pub in_escape : List ℕ → Option Word
  in_escape [] = Some UnclosedText
  in_escape (byte ∷ bytes) = cond (nat_eq byte 10) None (in_text bytes)

-- after `/*`: up to the first `*/`
unfoldable mutual
  pub in_comment : List ℕ → Option Word
  in_comment [] = Some UnclosedComment
  in_comment (byte ∷ bytes) = cond (nat_eq byte 42) (after_star bytes) (in_comment bytes)

  -- after a `*` in it
  pub after_star : List ℕ → Option Word
  after_star [] = Some UnclosedComment
  after_star (byte ∷ bytes) = cond (nat_eq byte 47) (where_last Blank bytes) (cond (nat_eq byte 42) (after_star bytes) (in_comment bytes))

-- after `/`: a symbol, or one of the two comments
abbrev pub after_slash : List ℕ → Option Word
after_slash [] = Some (SymbolWord Divide)
after_slash (byte ∷ bytes) = cond (nat_eq byte 47) (word_where (all_bytes (λ c. not (nat_eq c 10)) bytes) Blank) (cond (nat_eq byte 42) (in_comment bytes) None)

-- after `$`
abbrev pub after_dollar : List ℕ → Option Word
after_dollar [] = None
after_dollar (byte ∷ bytes) = cond (is_letter_byte byte) (word_where (all_bytes is_name_byte bytes) Special) None

-- the symbol of one byte but for `.` and `/`, which are read apart
abbrev pub one_byte_symbol : ℕ → Option Symbol
one_byte_symbol byte =
    cond (nat_eq byte 40) (Some OpenParenthesis) (cond (nat_eq byte 41) (Some CloseParenthesis)
    (cond (nat_eq byte 91) (Some OpenBracket) (cond (nat_eq byte 93) (Some CloseBracket)
    (cond (nat_eq byte 123) (Some OpenBrace) (cond (nat_eq byte 125) (Some CloseBrace)
    (cond (nat_eq byte 44) (Some Comma) (cond (nat_eq byte 59) (Some Semicolon)
    (cond (nat_eq byte 61) (Some Assign) (cond (nat_eq byte 58) (Some Colon) (cond (nat_eq byte 63) (Some Question)
    (cond (nat_eq byte 43) (Some Plus) (cond (nat_eq byte 45) (Some Minus)
    (cond (nat_eq byte 42) (Some Times) (cond (nat_eq byte 37) (Some Remainder)
    (cond (nat_eq byte 60) (Some Less) (cond (nat_eq byte 62) (Some Greater)
    (cond (nat_eq byte 33) (Some Not) (cond (nat_eq byte 35) (Some Hash) (cond (nat_eq byte 94) (Some Caret) None)))))))))))))))))))

-- the symbol of two bytes
abbrev pub two_byte_symbol : ℕ → ℕ → Option Symbol
two_byte_symbol byte next =
    cond (nat_eq byte 60 && nat_eq next 61) (Some LessEqual) (cond (nat_eq byte 62 && nat_eq next 61) (Some GreaterEqual)
    (cond (nat_eq byte 61 && nat_eq next 61) (Some Equal) (cond (nat_eq byte 33 && nat_eq next 61) (Some NotEqual)
    (cond (nat_eq byte 38 && nat_eq next 38) (Some And) (cond (nat_eq byte 124 && nat_eq next 124) (Some Or) None)))))

-- the symbol of two bytes, the second of which begins the text
abbrev pub two_byte_symbol_from : ℕ → List ℕ → Option Symbol
two_byte_symbol_from byte [] = None
two_byte_symbol_from byte (next ∷ bytes) = two_byte_symbol byte next

-- the word that a symbol makes, if there is one
abbrev pub symbol_word : Option Symbol → Option Word
symbol_word None = None
symbol_word (Some symbol) = Some (SymbolWord symbol)

-- the symbol that one byte is, or two, the first of which is given apart
abbrev pub symbol_of : ℕ → List ℕ → Option Word
symbol_of byte [] = symbol_word (one_byte_symbol byte)
symbol_of byte (next ∷ []) = symbol_word (two_byte_symbol byte next)
symbol_of byte (next ∷ third ∷ bytes) = None

-- what a word is that begins with this byte
unfoldable pub word_from : ℕ → List ℕ → Option Word
word_from byte bytes =
    cond (is_blank_byte byte) (where_last Blank bytes)
    (cond (is_letter_byte byte) (word_where (all_bytes is_name_byte bytes) Name)
    (cond (is_digit_byte byte) (in_whole bytes)
    (cond (nat_eq byte 36) (after_dollar bytes)
    (cond (nat_eq byte 34) (in_text bytes)
    (cond (nat_eq byte 46) (after_point bytes)
    (cond (nat_eq byte 47) (after_slash bytes) (symbol_of byte bytes)))))))

-- what these bytes are, if they are one word: byte by byte
abbrev pub word_read : List ℕ → Option Word
word_read [] = None
word_read (byte ∷ bytes) = word_from byte bytes

-- a word, if any was read, and how many bytes it has
abbrev pub with_bytes : ℕ → Option Word → Option (Word × ℕ)
with_bytes n None = None
with_bytes n (Some word) = Some (word, n)

-- the same word with the given number of bytes before it
abbrev pub more_bytes : ℕ → Option (Word × ℕ) → Option (Word × ℕ)
more_bytes n None = None
more_bytes n (Some found) = Some (found.0, n + found.1)

-- the word that was found behind a byte, with that byte, or else the other one
abbrev pub one_longer : Option (Word × ℕ) → Option (Word × ℕ) → Option (Word × ℕ)
one_longer None other = other
one_longer (Some found) other = Some (found.0, suc found.1)

-- the longest front of the text that is a word by this reading of its bytes
unfoldable pub longest_front : (List ℕ → Option Word) → List ℕ → Option (Word × ℕ)
longest_front reading [] = with_bytes 0 (reading [])
longest_front reading (byte ∷ bytes) = one_longer (longest_front (λ front. reading (byte ∷ front)) bytes) (with_bytes 0 (reading []))
