-- How expressions are read, by what stands next.
use Rattle.std.specs.Prelude.{ℕ, zero, suc, List, [], ◌∷◌, cond, true, false, Option, Some, None, Err}
use Rattle.scad_lexer.specs.declared.token.Token.{Token}
use Rattle.scad_ast.specs.Terms.{Term, NumberTerm, TextTerm, TruthTerm, UndefTerm, ChildCountTerm, SpecialTerm, SuffixTerm, ArgTerm, PositionalTerm}
use Rattle.scad_grammar.specs.declared.SyntaxFault.TheVariants.{Nested}
use Rattle.scad_grammar.specs.Classes.{numeral_class, name_class, child_count_class, special_class, text_class, true_word, false_word, undef_word, open_parenthesis_sign, close_parenthesis_sign, open_bracket_sign, close_bracket_sign, comma_sign, assign_sign, colon_sign, question_sign, dot_sign, plus_sign, minus_sign, not_sign, argument_names, has_class_in, has_class, has_class_outside, numeral_value, bytes_of}
use Rattle.scad_grammar.specs.Languages.{first_of, second_of, pair_of, cons}
use Rattle.scad_grammar.specs.Grammar.{link_term, chain_term, unary_term, postfix_term, index_term, member_term, levels, choice_term, named_argument_term, name_term, paren_term, Rest, items, bracket_term, range_rest}
use Rattle.scad_grammar.specs.Reading.{next_is, image_read, empty_read, sequence_read, alternative_read, optional_read, two_ahead, repeated_read, trailing_items}
use Rattle.scad_grammar.specs.Faults.{TokenReader, token_read, first_token_read, fault_of, left_out_of_expressions}

-- what may begin a primary
abbrev pub firsts_of_primary : List ℕ
firsts_of_primary = numeral_class ∷ text_class ∷ true_word ∷ false_word ∷ undef_word ∷ child_count_class ∷ special_class ∷ name_class ∷ open_parenthesis_sign ∷ open_bracket_sign ∷ []

-- what may begin an expression
abbrev pub firsts_of_expression : List ℕ
firsts_of_expression = minus_sign ∷ plus_sign ∷ not_sign ∷ firsts_of_primary

-- the first token, if there is one
abbrev pub head_of : List Token → Option Token
head_of [] = None
head_of (token ∷ tokens) = Some token

-- where nothing stands that is deeper: a fault, by whether what stands here may begin it
abbrev pub nested_read : {A : Type 0} → List ℕ → List ℕ → TokenReader A
nested_read begins classes tokens =
    cond (next_is (has_class_in begins) tokens) (Err (Nested, tokens)) (Err (fault_of classes (head_of tokens), tokens))

-- The reader of each production, over those of an expression, an argument and an operand one deeper, and of a primary.
abbrev pub suffix_read : TokenReader Term → TokenReader SuffixTerm
suffix_read expression =
    alternative_read (has_class open_bracket_sign) (sequence_read index_term (token_read (has_class open_bracket_sign)) (sequence_read first_of expression (token_read (has_class close_bracket_sign))))
    (sequence_read member_term (token_read (has_class dot_sign)) (token_read (has_class name_class)))

abbrev pub postfix_read : TokenReader Term → TokenReader Term → TokenReader Term
postfix_read expression primary = sequence_read postfix_term primary (repeated_read (has_class_in (open_bracket_sign ∷ dot_sign ∷ [])) (suffix_read expression))

abbrev pub unary_read : TokenReader Term → TokenReader Term → TokenReader Term → TokenReader Term
unary_read expression operand primary =
    alternative_read (has_class_in (minus_sign ∷ plus_sign ∷ not_sign ∷ []))
    (sequence_read unary_term (token_read (has_class_in (minus_sign ∷ plus_sign ∷ not_sign ∷ []))) operand) (postfix_read expression primary)

abbrev pub chain_read : List (List ℕ) → TokenReader Term → TokenReader Term
chain_read [] operand = operand
chain_read (ops ∷ levels) operand =
    sequence_read chain_term (chain_read levels operand) (repeated_read (has_class_in ops) (sequence_read link_term (token_read (has_class_in ops)) (chain_read levels operand)))

-- an argument that has a name, by its name, its `=` and its value
abbrev pub argument_of_tokens : Token → Token → Term → ArgTerm
argument_of_tokens token assign value = named_argument_term token value

abbrev pub arg_read : TokenReader Term → TokenReader ArgTerm
arg_read expression = two_ahead argument_of_tokens (has_class_in argument_names) (has_class assign_sign) expression (image_read PositionalTerm expression)

abbrev pub args_read : TokenReader ArgTerm → TokenReader (List ArgTerm)
args_read argument =
    alternative_read (has_class_outside (close_parenthesis_sign ∷ [])) (sequence_read cons argument (trailing_items (has_class comma_sign) (has_class_outside (close_parenthesis_sign ∷ [])) argument)) (empty_read [])

-- what stands in parentheses
abbrev pub in_parentheses : {A : Type 0} → TokenReader A → TokenReader A
in_parentheses reader = sequence_read second_of (token_read (has_class open_parenthesis_sign)) (sequence_read first_of reader (token_read (has_class close_parenthesis_sign)))

-- the rest of a range behind its first expression
abbrev pub range_read : TokenReader Term → TokenReader Rest
range_read expression =
    sequence_read second_of (token_read (has_class colon_sign)) (sequence_read range_rest expression (optional_read (has_class colon_sign) (sequence_read second_of (token_read (has_class colon_sign)) expression)))

-- what stands behind the first expression in brackets
abbrev pub rest_read : TokenReader Term → TokenReader Rest
rest_read expression =
    alternative_read (has_class colon_sign) (range_read expression) (image_read items (trailing_items (has_class comma_sign) (has_class_outside (close_bracket_sign ∷ [])) expression))

abbrev pub bracket_read : TokenReader Term → TokenReader Term
bracket_read expression =
    sequence_read bracket_term (first_token_read (has_class open_bracket_sign))
    (sequence_read first_of (optional_read (has_class_outside (close_bracket_sign ∷ [])) (sequence_read pair_of expression (rest_read expression))) (token_read (has_class close_bracket_sign)))

abbrev pub name_read : TokenReader ArgTerm → TokenReader Term
name_read argument = sequence_read name_term (token_read (has_class name_class)) (optional_read (has_class open_parenthesis_sign) (in_parentheses (args_read argument)))

abbrev pub paren_read : TokenReader Term → TokenReader Term
paren_read expression = sequence_read paren_term (token_read (has_class open_parenthesis_sign)) (sequence_read first_of expression (token_read (has_class close_parenthesis_sign)))

abbrev pub primary_read : TokenReader Term → TokenReader ArgTerm → TokenReader Term
primary_read expression argument =
    alternative_read (has_class numeral_class) (image_read (λ token. NumberTerm token.place (numeral_value token.kind)) (token_read (has_class numeral_class)))
    (alternative_read (has_class text_class) (image_read (λ token. TextTerm token.place (bytes_of token.kind)) (token_read (has_class text_class)))
    (alternative_read (has_class true_word) (image_read (λ token. TruthTerm token.place true) (token_read (has_class true_word)))
    (alternative_read (has_class false_word) (image_read (λ token. TruthTerm token.place false) (token_read (has_class false_word)))
    (alternative_read (has_class undef_word) (image_read (λ token. UndefTerm token.place) (token_read (has_class undef_word)))
    (alternative_read (has_class child_count_class) (image_read (λ token. ChildCountTerm token.place) (token_read (has_class child_count_class)))
    (alternative_read (has_class special_class) (image_read (λ token. SpecialTerm token.place (bytes_of token.kind)) (token_read (has_class special_class)))
    (alternative_read (has_class name_class) (name_read argument) (alternative_read (has_class open_parenthesis_sign) (paren_read expression) (bracket_read expression)))))))))

abbrev pub choice_read : TokenReader Term → TokenReader Term → TokenReader Term → TokenReader Term
choice_read expression operand primary =
    sequence_read choice_term (chain_read levels (unary_read expression operand primary))
    (optional_read (has_class question_sign) (sequence_read pair_of (token_read (has_class question_sign)) (sequence_read pair_of expression (sequence_read second_of (token_read (has_class colon_sign)) expression))))

-- an argument whose tokens are less deep than so much, by its expression
abbrev pub arg_in : ℕ → TokenReader Term → TokenReader ArgTerm
arg_in zero expression = nested_read firsts_of_expression left_out_of_expressions
arg_in (suc depth) expression = arg_read expression

-- an expression, and an operand, whose tokens are less deep than so much
unfoldable mutual
  pub expr_read : ℕ → TokenReader Term
  expr_read zero = nested_read firsts_of_expression left_out_of_expressions
  expr_read (suc depth) = choice_read (expr_read depth) (operand_read depth) (primary_read (expr_read depth) (arg_in depth (expr_read depth)))

  pub operand_read : ℕ → TokenReader Term
  operand_read zero = nested_read firsts_of_expression left_out_of_expressions
  operand_read (suc depth) = unary_read (expr_read depth) (operand_read depth) (primary_read (expr_read depth) (arg_in depth (expr_read depth)))
