-- A test by kinds is the test by the number of a class, and the lists of kinds are those of the classes.
use Rattle.std.proofs.Common.{codes, ◌≡◌, ℕ, List, [], ◌∷◌, ◌++◌, Bool, true, false, refl}
use Rattle.plain_text.specs.declared.place.Place.{Place}
use Rattle.scad_lexer.specs.declared.token.Token.{Token}
use Rattle.scad_lexer.specs.declared.token.TokenKind.{TokenKind}
use Rattle.scad_lexer.specs.declared.token.TokenKind.TheVariants.{Numeral, Name, Special, Text, Reserved, Symbol, End}
use Rattle.scad_lexer.specs.declared.token.Reserved.TheVariants.{If, Each, Else}
use Rattle.scad_lexer.specs.declared.token.Symbol.TheVariants.{Plus, Minus, Not, Caret}
use Rattle.scad_grammar.specs.Classes.{is_like, is_like_one_of, has_class, has_class_in, argument_names, numeral_class, name_class, child_count_class, special_class, text_class, end_class, if_word, else_word, for_word, function_word, use_word, include_word, let_word, each_word, plus_sign, minus_sign, times_sign, divide_sign, remainder_sign, less_sign, less_equal_sign, greater_sign, greater_equal_sign, equal_sign, not_equal_sign, and_sign, or_sign, not_sign, caret_sign}
use Rattle.scad_grammar.specs.Grammar.{levels}
use Rattle.scad_grammar.specs.Faults.{left_out_classes, left_out_of_expressions}

numerals : (n : ℕ) → is_like (Numeral n) ≡ has_class numeral_class
numerals n = refl

names : (bytes : List ℕ) → is_like (Name bytes) ≡ has_class name_class
names bytes = refl

texts : (bytes : List ℕ) → is_like (Text bytes) ≡ has_class text_class
texts bytes = refl

child_counts : is_like (Special (codes "children")) ≡ has_class child_count_class
child_counts = refl

specials : is_like (Special []) ≡ has_class special_class
specials = refl

ends : is_like End ≡ has_class end_class
ends = refl

words : is_like (Reserved If) ≡ has_class if_word
words = refl

signs : is_like (Symbol Plus) ≡ has_class plus_sign
signs = refl

unary_signs : is_like_one_of (Symbol Minus ∷ Symbol Plus ∷ Symbol Not ∷ []) ≡ has_class_in (minus_sign ∷ plus_sign ∷ not_sign ∷ [])
unary_signs = refl

arguments : is_like_one_of (Name [] ∷ Special [] ∷ []) ≡ has_class_in argument_names
arguments = refl

all_levels :
    levels
    ≡ (or_sign ∷ []) ∷ (and_sign ∷ []) ∷ (equal_sign ∷ not_equal_sign ∷ []) ∷ (less_sign ∷ less_equal_sign ∷ greater_sign ∷ greater_equal_sign ∷ [])
    ∷ (plus_sign ∷ minus_sign ∷ []) ∷ (times_sign ∷ divide_sign ∷ remainder_sign ∷ []) ∷ []
all_levels = refl

left_out : left_out_classes ≡ use_word ∷ include_word ∷ let_word ∷ each_word ∷ caret_sign ∷ special_class ∷ []
left_out = refl

left_out_there : left_out_of_expressions ≡ for_word ∷ if_word ∷ function_word ∷ left_out_classes
left_out_there = refl

-- rows: tokens that are of a kind, and tokens that are not
abbrev of : TokenKind → Token
of kind = record { kind = kind; place = record { line = 1; column = 1 } }

a_plus : is_like (Symbol Plus) (of (Symbol Plus)) ≡ true
a_plus = refl

no_plus : is_like (Symbol Plus) (of (Symbol Minus)) ≡ false
no_plus = refl

a_name : is_like (Name []) (of (Name (codes "cube"))) ≡ true
a_name = refl

no_name : is_like (Name []) (of (Text (codes "cube"))) ≡ false
no_name = refl

a_special : is_like (Special []) (of (Special (codes "fn"))) ≡ true
a_special = refl

child_count_apart : is_like (Special []) (of (Special (codes "children"))) ≡ false
child_count_apart = refl

no_child_count : is_like (Special (codes "children")) (of (Special (codes "fn"))) ≡ false
no_child_count = refl

no_word : is_like (Reserved Else) (of (Reserved Each)) ≡ false
no_word = refl
