-- The classes of tokens that the parser tells apart.
use Rattle.std.specs.Prelude.{ℕ, List, [], ◌∷◌, ◌++◌, drop, length}
use Rattle.scad_grammar.specs.Classes.{numeral_class, name_class, child_count_class, special_class, argument_names, text_class, end_class, true_word, false_word, undef_word, open_parenthesis_sign, open_bracket_sign, question_sign, dot_sign, plus_sign, minus_sign, times_sign, divide_sign, remainder_sign, less_sign, greater_sign, less_equal_sign, greater_equal_sign, equal_sign, not_equal_sign, and_sign, or_sign, not_sign, reserved_class, symbol_class}
use Rattle.scad_grammar.specs.Grammar.{levels}
use Rattle.scad_grammar.specs.Reads.{firsts_of_expression}
use Rattle.scad_grammar.specs.StatementReads.{modifier_signs, loop_words, firsts_of_statement, firsts_of_body}
use Rattle.scad_grammar.specs.Faults.{left_out_classes, left_out_of_expressions}
use Rattle.scad_expressions.specs.declared.class.Level.{Level}
use Rattle.scad_expressions.specs.declared.class.Level.TheVariants.{Or, And, Equal, Order, Sum, Product}
use Rattle.scad_expressions.specs.declared.class.TokenClass.{TokenClass}
use Rattle.scad_expressions.specs.declared.class.TokenClass.TheVariants.{Name, Special, ArgumentName, End, Word, Sign, Literal, Atom, Continuation, Operator, BinaryOperator, UnaryOperator, Suffix, Modifier, LoopWord, Expression, Statement, Body, LeftOut, LeftOutOfExpressions}

-- the classes of all levels, one behind the other
abbrev pub classes_of_levels : List (List ℕ) → List ℕ
classes_of_levels [] = []
classes_of_levels (ops ∷ levels) = ops ++ classes_of_levels levels

-- all operators of two sides
abbrev pub binary_signs : List ℕ
binary_signs = classes_of_levels levels

-- the operators before an operand
abbrev pub unary_signs : List ℕ
unary_signs = minus_sign ∷ plus_sign ∷ not_sign ∷ []

-- what begins an index or a member
abbrev pub suffix_signs : List ℕ
suffix_signs = open_bracket_sign ∷ dot_sign ∷ []

-- an operand of one token that is no name
abbrev pub literals : List ℕ
literals = numeral_class ∷ text_class ∷ true_word ∷ false_word ∷ undef_word ∷ child_count_class ∷ special_class ∷ []

-- an operand of one token
abbrev pub atoms : List ℕ
atoms = name_class ∷ literals

-- what may go on with an expression behind an atom: `?`, `(`, a suffix or an operator of two sides
abbrev pub continuations : List ℕ
continuations = (question_sign ∷ []) ++ ((open_parenthesis_sign ∷ []) ++ (suffix_signs ++ binary_signs))

-- the operators of a level
abbrev pub operators_at : Level → List ℕ
operators_at Or = or_sign ∷ []
operators_at And = and_sign ∷ []
operators_at Equal = equal_sign ∷ not_equal_sign ∷ []
operators_at Order = less_sign ∷ less_equal_sign ∷ greater_sign ∷ greater_equal_sign ∷ []
operators_at Sum = plus_sign ∷ minus_sign ∷ []
operators_at Product = times_sign ∷ divide_sign ∷ remainder_sign ∷ []

-- the next level, which binds less tightly; the loosest is followed by itself
abbrev pub next_looser_level : Level → Level
next_looser_level Or = Or
next_looser_level And = Or
next_looser_level Equal = And
next_looser_level Order = Equal
next_looser_level Sum = Order
next_looser_level Product = Sum

-- the operators of the levels that bind more tightly, the loosest first
abbrev pub levels_below : Level → List (List ℕ)
levels_below Or = drop 1 levels
levels_below And = drop 2 levels
levels_below Equal = drop 3 levels
levels_below Order = drop 4 levels
levels_below Sum = drop 5 levels
levels_below Product = []

-- the same with those of the level itself
abbrev pub levels_at : Level → List (List ℕ)
levels_at level = operators_at level ∷ levels_below level

-- how many levels bind more tightly
abbrev pub tighter_levels : Level → ℕ
tighter_levels level = length (levels_below level)

-- the classes of the tokens of a class
abbrev pub classes_of : TokenClass → List ℕ
classes_of Name = name_class ∷ []
classes_of Special = special_class ∷ []
classes_of ArgumentName = argument_names
classes_of End = end_class ∷ []
classes_of (Word word) = reserved_class word ∷ []
classes_of (Sign symbol) = symbol_class symbol ∷ []
classes_of Literal = literals
classes_of Atom = atoms
classes_of Continuation = continuations
classes_of (Operator level) = operators_at level
classes_of BinaryOperator = binary_signs
classes_of UnaryOperator = unary_signs
classes_of Suffix = suffix_signs
classes_of Modifier = modifier_signs
classes_of LoopWord = loop_words
classes_of Expression = firsts_of_expression
classes_of Statement = firsts_of_statement
classes_of Body = firsts_of_body
classes_of LeftOut = left_out_classes
classes_of LeftOutOfExpressions = left_out_of_expressions
