-- How statements are read, by what stands next.
use Rattle.std.specs.Prelude.{ℕ, zero, suc, List, [], ◌∷◌}
use Rattle.scad_lexer.specs.declared.token.Token.{Token}
use Rattle.scad_ast.specs.Terms.{Term, ArgTerm, ParamTerm, BinderTerm, ModifierTerm, StatementTerm, EmptyStatement, InstanceStatement, InstanceTerm, CoreTerm, BodyTerm, EmptyBody, InstanceBody}
use Rattle.scad_grammar.specs.Classes.{name_class, special_class, end_class, module_word, function_word, if_word, else_word, for_word, intersection_for_word, open_brace_sign, close_brace_sign, comma_sign, semicolon_sign, assign_sign, times_sign, remainder_sign, not_sign, hash_sign, has_class_in, has_class}
use Rattle.scad_grammar.specs.Languages.{first_of, second_of, pair_of, cons}
use Rattle.scad_grammar.specs.Grammar.{binder_term, param_term, modifier_term, if_term, loop_term, call_term, instance_term, block_term, bare_block_term, assignment_term, special_assignment_term, module_term, function_term}
use Rattle.scad_grammar.specs.Reading.{image_read, empty_read, sequence_read, alternative_read, optional_read, two_ahead, repeated_read, trailing_items}
use Rattle.scad_grammar.specs.Faults.{TokenReader, token_read, left_out_classes}
use Rattle.scad_grammar.specs.Reads.{nested_read, in_parentheses, args_read, arg_in, expr_read}

-- the signs of modifiers
abbrev pub modifier_signs : List ℕ
modifier_signs = times_sign ∷ remainder_sign ∷ hash_sign ∷ not_sign ∷ []

-- the words of loops
abbrev pub loop_words : List ℕ
loop_words = for_word ∷ intersection_for_word ∷ []

-- what may begin a core, an instance, a body, a statement
abbrev pub firsts_of_core : List ℕ
firsts_of_core = if_word ∷ for_word ∷ intersection_for_word ∷ name_class ∷ []

abbrev pub firsts_of_instance : List ℕ
firsts_of_instance = times_sign ∷ remainder_sign ∷ hash_sign ∷ not_sign ∷ firsts_of_core

abbrev pub firsts_of_body : List ℕ
firsts_of_body = semicolon_sign ∷ open_brace_sign ∷ firsts_of_instance

abbrev pub firsts_of_statement : List ℕ
firsts_of_statement = module_word ∷ function_word ∷ special_class ∷ firsts_of_body

-- The reader of each production, over those of an expression, an argument, a parameter and a variable of a loop one deeper,
-- and of a statement and a body.
abbrev pub param_read : TokenReader Term → TokenReader ParamTerm
param_read expression = sequence_read param_term (token_read (has_class name_class)) (optional_read (has_class assign_sign) (sequence_read second_of (token_read (has_class assign_sign)) expression))

abbrev pub binder_read : TokenReader Term → TokenReader BinderTerm
binder_read expression = sequence_read binder_term (token_read (has_class name_class)) (sequence_read second_of (token_read (has_class assign_sign)) expression)

abbrev pub params_read : TokenReader ParamTerm → TokenReader (List ParamTerm)
params_read param = alternative_read (has_class name_class) (sequence_read cons param (trailing_items (has_class comma_sign) (has_class name_class) param)) (empty_read [])

abbrev pub binders_read : TokenReader BinderTerm → TokenReader (List BinderTerm)
binders_read binder = sequence_read cons binder (trailing_items (has_class comma_sign) (has_class name_class) binder)

abbrev pub if_read : TokenReader Term → TokenReader BodyTerm → TokenReader CoreTerm
if_read expression body =
    sequence_read if_term (sequence_read pair_of (token_read (has_class if_word)) (sequence_read pair_of (in_parentheses expression) body))
    (optional_read (has_class else_word) (sequence_read second_of (token_read (has_class else_word)) body))

abbrev pub loop_read : TokenReader BinderTerm → TokenReader BodyTerm → TokenReader CoreTerm
loop_read binder body = sequence_read loop_term (token_read (has_class_in loop_words)) (sequence_read pair_of (in_parentheses (binders_read binder)) body)

abbrev pub call_read : TokenReader ArgTerm → TokenReader BodyTerm → TokenReader CoreTerm
call_read argument body = sequence_read call_term (token_read (has_class name_class)) (sequence_read pair_of (in_parentheses (args_read argument)) body)

abbrev pub core_read : TokenReader Term → TokenReader ArgTerm → TokenReader BinderTerm → TokenReader BodyTerm → TokenReader CoreTerm
core_read expression argument binder body =
    alternative_read (has_class if_word) (if_read expression body) (alternative_read (has_class_in loop_words) (loop_read binder body) (call_read argument body))

abbrev pub modifiers_read : TokenReader (List ModifierTerm)
modifiers_read = repeated_read (has_class_in modifier_signs) (image_read modifier_term (token_read (has_class_in modifier_signs)))

-- an instance, over what reads a core
abbrev pub instance_read : TokenReader CoreTerm → TokenReader InstanceTerm
instance_read core = sequence_read instance_term modifiers_read core

-- statements behind a brace, and the brace behind them
abbrev pub braces_read : TokenReader StatementTerm → TokenReader (List StatementTerm)
braces_read statement = sequence_read first_of (repeated_read (has_class_in firsts_of_statement) statement) (token_read (has_class close_brace_sign))

-- a body, over what reads an instance
abbrev pub body_over : TokenReader StatementTerm → TokenReader InstanceTerm → TokenReader BodyTerm
body_over statement instance =
    alternative_read (has_class semicolon_sign) (image_read (λ token. EmptyBody token.place) (token_read (has_class semicolon_sign)))
    (alternative_read (has_class open_brace_sign) (sequence_read block_term (token_read (has_class open_brace_sign)) (braces_read statement)) (image_read InstanceBody instance))

-- a definition of a module
abbrev pub module_read : TokenReader ParamTerm → TokenReader BodyTerm → TokenReader StatementTerm
module_read param body = sequence_read module_term (token_read (has_class module_word)) (sequence_read pair_of (token_read (has_class name_class)) (sequence_read pair_of (in_parentheses (params_read param)) body))

-- an expression as deep as the statement, and the `;` behind it
abbrev pub ended_read : TokenReader Term → TokenReader Term
ended_read expression = sequence_read first_of expression (token_read (has_class semicolon_sign))

-- a definition of a function, whose expression is as deep as the statement
abbrev pub function_read : TokenReader Term → TokenReader ParamTerm → TokenReader StatementTerm
function_read expression param =
    sequence_read function_term (token_read (has_class function_word)) (sequence_read pair_of (token_read (has_class name_class))
    (sequence_read pair_of (in_parentheses (params_read param)) (sequence_read second_of (token_read (has_class assign_sign)) (ended_read expression))))

-- a definition of either, or else an instance
abbrev pub definition_read : TokenReader Term → TokenReader ParamTerm → TokenReader BodyTerm → TokenReader InstanceTerm → TokenReader StatementTerm
definition_read expression param body instance =
    alternative_read (has_class module_word) (module_read param body)
    (alternative_read (has_class function_word) (function_read expression param) (image_read InstanceStatement instance))

-- an assignment, by its name, its `=` and its value
abbrev pub assignment_of_tokens : Token → Token → Term → StatementTerm
assignment_of_tokens token assign value = assignment_term token value

-- an assignment to a special name
abbrev pub special_read : TokenReader Term → TokenReader StatementTerm
special_read expression = sequence_read special_assignment_term (token_read (has_class special_class)) (sequence_read second_of (token_read (has_class assign_sign)) (ended_read expression))

-- a statement of any form
abbrev pub statement_over : TokenReader Term → TokenReader ParamTerm → TokenReader StatementTerm → TokenReader BodyTerm → TokenReader InstanceTerm → TokenReader StatementTerm
statement_over expression param statement body instance =
    alternative_read (has_class semicolon_sign) (image_read (λ token. EmptyStatement token.place) (token_read (has_class semicolon_sign)))
    (alternative_read (has_class open_brace_sign) (sequence_read bare_block_term (token_read (has_class open_brace_sign)) (braces_read statement))
    (alternative_read (has_class special_class) (special_read expression) (two_ahead assignment_of_tokens (has_class name_class) (has_class assign_sign) (ended_read expression) (definition_read expression param body instance))))

-- a parameter, and a variable of a loop, whose tokens are less deep than so much, by their expressions
abbrev pub param_in : ℕ → TokenReader Term → TokenReader ParamTerm
param_in zero expression = nested_read (name_class ∷ []) left_out_classes
param_in (suc depth) expression = param_read expression

abbrev pub binder_in : ℕ → TokenReader Term → TokenReader BinderTerm
binder_in zero expression = nested_read (name_class ∷ []) left_out_classes
binder_in (suc depth) expression = binder_read expression

-- an instance, over a body one deeper
abbrev pub instance_in : ℕ → TokenReader BodyTerm → TokenReader InstanceTerm
instance_in depth body = instance_read (core_read (expr_read depth) (arg_in depth (expr_read depth)) (binder_in depth (expr_read depth)) body)

-- a statement, and a body, whose tokens are less deep than so much
unfoldable mutual
  pub statement_read : ℕ → TokenReader StatementTerm
  statement_read zero = nested_read firsts_of_statement left_out_classes
  statement_read (suc depth) =
      statement_over (expr_read (suc depth)) (param_in depth (expr_read depth)) (statement_read depth) (body_read depth)
      (instance_in depth (body_read depth))

  pub body_read : ℕ → TokenReader BodyTerm
  body_read zero = nested_read firsts_of_body left_out_classes
  body_read (suc depth) = body_over (statement_read depth) (instance_in depth (body_read depth))

-- { statement }, and the end
abbrev pub program_read : ℕ → TokenReader (List StatementTerm)
program_read depth = sequence_read first_of (repeated_read (has_class_in firsts_of_statement) (statement_read depth)) (token_read (has_class end_class))
