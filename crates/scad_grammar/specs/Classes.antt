-- Classes of tokens: what a token is, without its number or bytes.
use Rattle.std.specs.Prelude.{ℕ, List, [], ◌∷◌, map, Bool, true, false, cond, not, nat_eq, codes}
use Rattle.std.specs.Str.{bytes_eq}
use Rattle.scad_lexer.specs.declared.token.Token.{Token}
use Rattle.scad_lexer.specs.declared.token.TokenKind.{TokenKind}
use Rattle.scad_lexer.specs.declared.token.TokenKind.TheVariants.{Numeral, Name, Special, Text, Reserved as ReservedToken, Symbol as SymbolToken, End}
use Rattle.scad_lexer.specs.declared.token.Reserved.{Reserved}
use Rattle.scad_lexer.specs.declared.token.Reserved.TheVariants.{Module, Function, If, Else, For, IntersectionFor, True, False, Undef, Use, Include, Let, Each}
use Rattle.scad_lexer.specs.declared.token.Symbol.{Symbol}
use Rattle.scad_lexer.specs.declared.token.Symbol.TheVariants.{OpenParenthesis, CloseParenthesis, OpenBracket, CloseBracket, OpenBrace, CloseBrace, Comma, Semicolon, Assign, Colon, Question, Dot, Plus, Minus, Times, Divide, Remainder, Less, Greater, LessEqual, GreaterEqual, Equal, NotEqual, And, Or, Not, Hash, Caret}

-- reserved names by numbers, so that they can be compared
abbrev pub reserved_class : Reserved → ℕ
reserved_class Module = 10
reserved_class Function = 11
reserved_class If = 12
reserved_class Else = 13
reserved_class For = 14
reserved_class IntersectionFor = 15
reserved_class True = 16
reserved_class False = 17
reserved_class Undef = 18
reserved_class Use = 19
reserved_class Include = 20
reserved_class Let = 21
reserved_class Each = 22

-- symbols by numbers
abbrev pub symbol_class : Symbol → ℕ
symbol_class OpenParenthesis = 30
symbol_class CloseParenthesis = 31
symbol_class OpenBracket = 32
symbol_class CloseBracket = 33
symbol_class OpenBrace = 34
symbol_class CloseBrace = 35
symbol_class Comma = 36
symbol_class Semicolon = 37
symbol_class Assign = 38
symbol_class Colon = 39
symbol_class Question = 40
symbol_class Dot = 41
symbol_class Plus = 42
symbol_class Minus = 43
symbol_class Times = 44
symbol_class Divide = 45
symbol_class Remainder = 46
symbol_class Less = 47
symbol_class Greater = 48
symbol_class LessEqual = 49
symbol_class GreaterEqual = 50
symbol_class Equal = 51
symbol_class NotEqual = 52
symbol_class And = 53
symbol_class Or = 54
symbol_class Not = 55
symbol_class Hash = 56
symbol_class Caret = 57

-- tokens by the numbers of their kinds, whatever their value or bytes; `$children` is a kind of its own
abbrev pub token_class : TokenKind → ℕ
token_class (Numeral n) = 0
token_class (Name bytes) = 1
token_class (Special bytes) = cond (bytes_eq bytes (codes "children")) 2 3
token_class (Text bytes) = 4
token_class (ReservedToken reserved) = reserved_class reserved
token_class (SymbolToken symbol) = symbol_class symbol
token_class End = 5

-- the class is one of these
abbrev pub is_class_among : List ℕ → ℕ → Bool
is_class_among [] wanted = false
is_class_among (known ∷ others) wanted = cond (nat_eq wanted known) true (is_class_among others wanted)

-- a token of one of these classes
abbrev pub has_class_in : List ℕ → Token → Bool
has_class_in classes token = is_class_among classes (token_class token.kind)

-- a token of this kind
abbrev pub is_like : TokenKind → Token → Bool
is_like kind = has_class_in (token_class kind ∷ [])

-- a token of one of these kinds
abbrev pub is_like_one_of : List TokenKind → Token → Bool
is_like_one_of kinds = has_class_in (map token_class kinds)

-- the number of a numeral
abbrev pub numeral_value : TokenKind → ℕ
numeral_value (Numeral n) = n
numeral_value kind = 0

-- the bytes of a name, a special name or a text
abbrev pub bytes_of : TokenKind → List ℕ
bytes_of (Name bytes) = bytes
bytes_of (Special bytes) = bytes
bytes_of (Text bytes) = bytes
bytes_of kind = []

-- a token of this class
abbrev pub has_class : ℕ → Token → Bool
has_class wanted = has_class_in (wanted ∷ [])

-- a token of none of these classes
abbrev pub has_class_outside : List ℕ → Token → Bool
has_class_outside classes token = not (has_class_in classes token)

-- the class of a numeral
abbrev pub numeral_class : ℕ
numeral_class = 0

-- the class of a name
abbrev pub name_class : ℕ
name_class = 1

-- the class of `$children`
abbrev pub child_count_class : ℕ
child_count_class = 2

-- the class of any other special name
abbrev pub special_class : ℕ
special_class = 3

-- the class of a text
abbrev pub text_class : ℕ
text_class = 4

-- the class of the end
abbrev pub end_class : ℕ
end_class = 5

-- the word `module`
abbrev pub module_word : ℕ
module_word = reserved_class Module

-- the word `function`
abbrev pub function_word : ℕ
function_word = reserved_class Function

-- the word `if`
abbrev pub if_word : ℕ
if_word = reserved_class If

-- the word `else`
abbrev pub else_word : ℕ
else_word = reserved_class Else

-- the word `for`
abbrev pub for_word : ℕ
for_word = reserved_class For

-- the word `intersection_for`
abbrev pub intersection_for_word : ℕ
intersection_for_word = reserved_class IntersectionFor

-- the word `true`
abbrev pub true_word : ℕ
true_word = reserved_class True

-- the word `false`
abbrev pub false_word : ℕ
false_word = reserved_class False

-- the word `undef`
abbrev pub undef_word : ℕ
undef_word = reserved_class Undef

-- the word `use`
abbrev pub use_word : ℕ
use_word = reserved_class Use

-- the word `include`
abbrev pub include_word : ℕ
include_word = reserved_class Include

-- the word `let`
abbrev pub let_word : ℕ
let_word = reserved_class Let

-- the word `each`
abbrev pub each_word : ℕ
each_word = reserved_class Each

-- the sign `(`
abbrev pub open_parenthesis_sign : ℕ
open_parenthesis_sign = symbol_class OpenParenthesis

-- the sign `)`
abbrev pub close_parenthesis_sign : ℕ
close_parenthesis_sign = symbol_class CloseParenthesis

-- the sign `[`
abbrev pub open_bracket_sign : ℕ
open_bracket_sign = symbol_class OpenBracket

-- the sign `]`
abbrev pub close_bracket_sign : ℕ
close_bracket_sign = symbol_class CloseBracket

-- the sign `{`
abbrev pub open_brace_sign : ℕ
open_brace_sign = symbol_class OpenBrace

-- the sign `}`
abbrev pub close_brace_sign : ℕ
close_brace_sign = symbol_class CloseBrace

-- the sign `,`
abbrev pub comma_sign : ℕ
comma_sign = symbol_class Comma

-- the sign `;`
abbrev pub semicolon_sign : ℕ
semicolon_sign = symbol_class Semicolon

-- the sign `=`
abbrev pub assign_sign : ℕ
assign_sign = symbol_class Assign

-- the sign `:`
abbrev pub colon_sign : ℕ
colon_sign = symbol_class Colon

-- the sign `?`
abbrev pub question_sign : ℕ
question_sign = symbol_class Question

-- the sign `.`
abbrev pub dot_sign : ℕ
dot_sign = symbol_class Dot

-- the sign `+`
abbrev pub plus_sign : ℕ
plus_sign = symbol_class Plus

-- the sign `-`
abbrev pub minus_sign : ℕ
minus_sign = symbol_class Minus

-- the sign `*`
abbrev pub times_sign : ℕ
times_sign = symbol_class Times

-- the sign `/`
abbrev pub divide_sign : ℕ
divide_sign = symbol_class Divide

-- the sign `%`
abbrev pub remainder_sign : ℕ
remainder_sign = symbol_class Remainder

-- the sign `<`
abbrev pub less_sign : ℕ
less_sign = symbol_class Less

-- the sign `>`
abbrev pub greater_sign : ℕ
greater_sign = symbol_class Greater

-- the sign `<=`
abbrev pub less_equal_sign : ℕ
less_equal_sign = symbol_class LessEqual

-- the sign `>=`
abbrev pub greater_equal_sign : ℕ
greater_equal_sign = symbol_class GreaterEqual

-- the sign `==`
abbrev pub equal_sign : ℕ
equal_sign = symbol_class Equal

-- the sign `!=`
abbrev pub not_equal_sign : ℕ
not_equal_sign = symbol_class NotEqual

-- the sign `&&`
abbrev pub and_sign : ℕ
and_sign = symbol_class And

-- the sign `||`
abbrev pub or_sign : ℕ
or_sign = symbol_class Or

-- the sign `!`
abbrev pub not_sign : ℕ
not_sign = symbol_class Not

-- the sign `#`
abbrev pub hash_sign : ℕ
hash_sign = symbol_class Hash

-- the sign `^`, which no form of the grammar has
abbrev pub caret_sign : ℕ
caret_sign = symbol_class Caret

-- what an argument may be given by: a name, or a special name other than `$children`
abbrev pub argument_names : List ℕ
argument_names = name_class ∷ special_class ∷ []
