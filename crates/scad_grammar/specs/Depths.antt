-- How deep each token is: in how many pairs of brackets, bodies, unary operands and parts after a `?`
-- it stands. A body's `;`, braces and first token stand in it, a bracket not in its own pair.
use Rattle.std.specs.Prelude.{◌≡◌, ◌<◌, ℕ, zero, suc, List, [], ◌∷◌, ◌++◌, map, take, length, Bool, Option, Some, None}
use Rattle.std.proofs.Common.{inl, inr}
use Rattle.scad_lexer.specs.declared.token.Token.{Token}
use Rattle.scad_ast.specs.Terms.{Term, ArgTerm, PositionalTerm, ParamTerm, BinderTerm, StatementTerm, InstanceStatement, InstanceTerm, BodyTerm, InstanceBody}
use Rattle.scad_grammar.specs.Classes.{open_parenthesis_sign, close_parenthesis_sign, open_bracket_sign, close_bracket_sign, open_brace_sign, close_brace_sign, comma_sign, semicolon_sign, assign_sign, colon_sign, question_sign, dot_sign, name_class, end_class, if_word, else_word, module_word, function_word, has_class, has_class_in}
use Rattle.scad_grammar.specs.Languages.{Language, SingleToken, ImageOf, Concatenation, ConcatenationIf, Alternation, EmptySequence, Repetition, OptionalSequence, EmptyLanguage, AfterToken, BeforeToken, SeparatedList, first_of, second_of, pair_of, cons}
use Rattle.scad_grammar.specs.Grammar.{InParentheses, Arg, Args, Param, Params, Binders, Bracket, Primary, Suffix, Unary, Chain, Choice, without_gaps, ArgsIn, ParamsIn, BindersIn, StatementsIn, InstanceIn, Expr, Operand, CoreOf, Instance, BodyOf, StatementOf, Statement, Body, WholeProgram, levels, chain_term, link_term, items, if_term, IsNearest}

-- the depths of the tokens with which a thing is written, in their order, by how it is written
pub record Depths {A : Type 0} (L : Language A) : Type 0 where
  pub of : (x : A) (s : List Token) → L x s → List ℕ

-- all that stands in a pair of brackets, a body, an operand or such a part is one deeper
unfoldable pub one_deeper : {A : Type 0} {L : Language A} → Depths L → Depths L
one_deeper D = record { of = λ x tokens h. map suc (D.of x tokens h) }

-- The ways in which a language is made of others make nothing deeper, but for parentheses.
unfoldable pub single_token_depths : (test : Token → Bool) → Depths (SingleToken test)
single_token_depths test = record { of = λ token tokens h. 0 ∷ [] }

unfoldable pub image_depths : {A B : Type 0} (f : A → B) {L : Language A} → Depths L → Depths (ImageOf f L)
image_depths f D = record { of = λ b tokens h. D.of h.0 tokens h.1 }

unfoldable pub concatenation_depths : {A B C : Type 0} (f : A → B → C) {La : Language A} {Lb : Language B} → Depths La → Depths Lb → Depths (Concatenation f La Lb)
concatenation_depths f D E = record { of = λ c tokens h. D.of h.0 h.2 h.4 ++ E.of h.1 h.3 h.5 }

unfoldable pub concatenation_if_depths : {A B C : Type 0} (f : A → B → C) (Fit : A → B → Type 0) {La : Language A} {Lb : Language B} → Depths La → Depths Lb → Depths (ConcatenationIf f Fit La Lb)
concatenation_if_depths f Fit D E = record { of = λ c tokens h. D.of h.0 h.2 h.4 ++ E.of h.1 h.3 h.5 }

-- those of whichever of two it is
abbrev pub depths_of_alternation : {A : Type 0} (La Lb : Language A) → Depths La → Depths Lb → (x : A) (tokens : List Token) → Alternation La Lb x tokens → List ℕ
depths_of_alternation La Lb D E x tokens (inl h) = D.of x tokens h
depths_of_alternation La Lb D E x tokens (inr h) = E.of x tokens h

unfoldable pub alternation_depths : {A : Type 0} {La Lb : Language A} → Depths La → Depths Lb → Depths (Alternation La Lb)
alternation_depths {A} {La} {Lb} D E = record { of = depths_of_alternation La Lb D E }

unfoldable pub empty_sequence_depths : {A : Type 0} (a : A) → Depths (EmptySequence a)
empty_sequence_depths a = record { of = λ x tokens h. [] }

-- those of each in turn
abbrev pub depths_of_repetition : {A : Type 0} (L : Language A) → Depths L → (xs : List A) (tokens : List Token) → Repetition L xs tokens → List ℕ
depths_of_repetition L D [] tokens h = []
depths_of_repetition L D (x ∷ xs) tokens h = D.of x h.0 h.2 ++ depths_of_repetition L D xs h.1 h.3

unfoldable pub repetition_depths : {A : Type 0} {L : Language A} → Depths L → Depths (Repetition L)
repetition_depths {A} {L} D = record { of = depths_of_repetition L D }

-- those of it, if it is there
abbrev pub depths_of_optional : {A : Type 0} (L : Language A) → Depths L → (x : Option A) (tokens : List Token) → OptionalSequence L x tokens → List ℕ
depths_of_optional L D None tokens h = []
depths_of_optional L D (Some x) tokens h = D.of x tokens h

unfoldable pub optional_depths : {A : Type 0} {L : Language A} → Depths L → Depths (OptionalSequence L)
optional_depths {A} {L} D = record { of = depths_of_optional L D }

unfoldable pub empty_language_depths : {A : Type 0} → Depths {A = A} EmptyLanguage
empty_language_depths = record { of = λ x tokens h. [] }

abbrev pub after_token_depths : {A : Type 0} (test : Token → Bool) {L : Language A} → Depths L → Depths (AfterToken test L)
after_token_depths test D = concatenation_depths second_of (single_token_depths test) D

abbrev pub before_token_depths : {A : Type 0} (test : Token → Bool) {L : Language A} → Depths L → Depths (BeforeToken L test)
before_token_depths test D = concatenation_depths first_of D (single_token_depths test)

abbrev pub separated_list_depths : {A : Type 0} (mark : Token → Bool) {L : Language A} → Depths L → Depths (SeparatedList mark L)
separated_list_depths mark D = concatenation_depths first_of (concatenation_depths cons D (repetition_depths (after_token_depths mark D))) (optional_depths (single_token_depths mark))

-- what stands in parentheses is one deeper
abbrev pub parentheses_depths : {A : Type 0} {L : Language A} → Depths L → Depths (InParentheses L)
parentheses_depths D = after_token_depths (has_class open_parenthesis_sign) (before_token_depths (has_class close_parenthesis_sign) (one_deeper D))

-- The productions, as the grammar has them. Each part that stands in one of the four is taken one deeper there.
abbrev pub arg_depths : {E : Language Term} → Depths E → Depths (Arg E)
arg_depths expression = alternation_depths (concatenation_depths _ (single_token_depths _) (after_token_depths (has_class assign_sign) expression)) (image_depths PositionalTerm expression)

abbrev pub args_depths : {E : Language Term} → Depths E → Depths (Args E)
args_depths expression = alternation_depths (separated_list_depths (has_class comma_sign) (arg_depths expression)) (empty_sequence_depths [])

abbrev pub param_depths : {E : Language Term} → Depths E → Depths (Param E)
param_depths expression = concatenation_depths _ (single_token_depths (has_class name_class)) (optional_depths (after_token_depths (has_class assign_sign) expression))

abbrev pub params_depths : {P : Language ParamTerm} → Depths P → Depths (Params P)
params_depths param = alternation_depths (separated_list_depths (has_class comma_sign) param) (empty_sequence_depths [])

abbrev pub binders_depths : {E : Language Term} → Depths E → Depths (Binders E)
binders_depths expression = separated_list_depths (has_class comma_sign) (concatenation_depths _ (single_token_depths (has_class name_class)) (after_token_depths (has_class assign_sign) expression))

abbrev pub bracket_depths : {E : Language Term} → Depths E → Depths (Bracket E)
bracket_depths expression =
    concatenation_depths _ (single_token_depths (has_class open_bracket_sign))
    (before_token_depths (has_class close_bracket_sign)
    (one_deeper (optional_depths (concatenation_depths pair_of expression
    (alternation_depths (after_token_depths (has_class colon_sign) (concatenation_depths _ expression (optional_depths (after_token_depths (has_class colon_sign) expression))))
    (image_depths items (concatenation_depths first_of (repetition_depths (after_token_depths (has_class comma_sign) expression)) (optional_depths (single_token_depths (has_class comma_sign))))))))))

abbrev pub primary_depths : {E : Language Term} {As : Language (List ArgTerm)} → Depths E → Depths As → Depths (Primary E As)
primary_depths expression args =
    alternation_depths (image_depths _ (single_token_depths _))
    (alternation_depths (image_depths _ (single_token_depths _))
    (alternation_depths (image_depths _ (single_token_depths _))
    (alternation_depths (image_depths _ (single_token_depths _))
    (alternation_depths (image_depths _ (single_token_depths _))
    (alternation_depths (image_depths _ (single_token_depths _))
    (alternation_depths (image_depths _ (single_token_depths _))
    (alternation_depths (concatenation_depths _ (single_token_depths (has_class name_class)) (optional_depths (parentheses_depths args)))
    (alternation_depths (concatenation_depths _ (single_token_depths (has_class open_parenthesis_sign)) (before_token_depths (has_class close_parenthesis_sign) (one_deeper expression)))
    (bracket_depths expression)))))))))

abbrev pub suffix_depths : {E : Language Term} → Depths E → Depths (Suffix E)
suffix_depths expression =
    alternation_depths (concatenation_depths _ (single_token_depths (has_class open_bracket_sign)) (before_token_depths (has_class close_bracket_sign) (one_deeper expression)))
    (concatenation_depths _ (single_token_depths (has_class dot_sign)) (single_token_depths (has_class name_class)))

abbrev pub unary_depths : {E : Language Term} {As : Language (List ArgTerm)} {U : Language Term} → Depths E → Depths As → Depths U → Depths (Unary E As U)
unary_depths expression args operand =
    alternation_depths (concatenation_depths _ (single_token_depths _) (one_deeper operand)) (concatenation_depths _ (primary_depths expression args) (repetition_depths (suffix_depths expression)))

abbrev pub chain_depths : (below : List (List ℕ)) {X : Language Term} → Depths X → Depths (Chain below X)
chain_depths [] operand = operand
chain_depths (ops ∷ below) operand =
    concatenation_depths chain_term (chain_depths below operand) (repetition_depths (concatenation_depths link_term (single_token_depths (has_class_in ops)) (chain_depths below operand)))

abbrev pub choice_depths : {E : Language Term} {As : Language (List ArgTerm)} {U : Language Term} → Depths E → Depths As → Depths U → Depths (Choice E As U)
choice_depths expression args operand =
    concatenation_depths _ (chain_depths levels (unary_depths expression args operand))
    (optional_depths (concatenation_depths pair_of (single_token_depths (has_class question_sign)) (concatenation_depths pair_of (one_deeper expression) (after_token_depths (has_class colon_sign) (one_deeper expression)))))

-- arguments, parameters and variables of a loop whose tokens are less deep than so much
abbrev pub args_in_depths : (depth : ℕ) {E : Language Term} → Depths E → Depths (ArgsIn depth E)
args_in_depths zero expression = empty_sequence_depths []
args_in_depths (suc depth) expression = args_depths expression

abbrev pub params_in_depths : (depth : ℕ) {E : Language Term} → Depths E → Depths (ParamsIn depth E)
params_in_depths zero expression = empty_sequence_depths []
params_in_depths (suc depth) expression = params_depths (param_depths expression)

abbrev pub binders_in_depths : (depth : ℕ) {E : Language Term} → Depths E → Depths (BindersIn without_gaps depth E)
binders_in_depths zero expression = empty_language_depths
binders_in_depths (suc depth) expression = binders_depths expression

-- an expression, and an operand, whose tokens are less deep than so much
unfoldable mutual
  unfolding Expr Operand

  pub expr_depths : (depth : ℕ) → Depths (Expr without_gaps depth)
  expr_depths zero = empty_language_depths
  expr_depths (suc depth) = choice_depths (expr_depths depth) (args_in_depths depth (expr_depths depth)) (operand_depths depth)

  pub operand_depths : (depth : ℕ) → Depths (Operand without_gaps depth)
  operand_depths zero = empty_language_depths
  operand_depths (suc depth) = unary_depths (expr_depths depth) (args_in_depths depth (expr_depths depth)) (operand_depths depth)

-- statements: a body is one deeper than what it belongs to
abbrev pub core_depths : {E : Language Term} {As : Language (List ArgTerm)} {Ns : Language (List BinderTerm)} {B : Language BodyTerm} → Depths E → Depths As → Depths Ns → Depths B → Depths (CoreOf E As Ns B)
core_depths expression args binders body =
    alternation_depths
    (concatenation_if_depths if_term IsNearest (concatenation_depths pair_of (single_token_depths (has_class if_word)) (concatenation_depths pair_of (parentheses_depths expression) (one_deeper body)))
    (optional_depths (after_token_depths (has_class else_word) (one_deeper body))))
    (alternation_depths (concatenation_depths _ (single_token_depths _) (concatenation_depths pair_of (parentheses_depths binders) (one_deeper body)))
    (concatenation_depths _ (single_token_depths (has_class name_class)) (concatenation_depths pair_of (parentheses_depths args) (one_deeper body))))

abbrev pub instance_depths : {E : Language Term} {As : Language (List ArgTerm)} {Ns : Language (List BinderTerm)} {B : Language BodyTerm} → Depths E → Depths As → Depths Ns → Depths B → Depths (Instance E As Ns B)
instance_depths expression args binders body = concatenation_depths _ (repetition_depths (image_depths _ (single_token_depths _))) (core_depths expression args binders body)

abbrev pub body_of_depths : {I : Language InstanceTerm} {Ss : Language (List StatementTerm)} → Depths I → Depths Ss → Depths (BodyOf I Ss)
body_of_depths instance statements =
    alternation_depths (image_depths _ (single_token_depths (has_class semicolon_sign)))
    (alternation_depths (concatenation_depths _ (single_token_depths (has_class open_brace_sign)) (before_token_depths (has_class close_brace_sign) (one_deeper statements)))
    (image_depths InstanceBody instance))

abbrev pub statement_of_depths : {X : Language Term} {Ps : Language (List ParamTerm)} {I : Language InstanceTerm} {Ss : Language (List StatementTerm)} {B : Language BodyTerm} → Depths X → Depths Ps → Depths I → Depths Ss → Depths B → Depths (StatementOf X Ps I Ss B)
statement_of_depths expression params instance statements body =
    alternation_depths (image_depths _ (single_token_depths (has_class semicolon_sign)))
    (alternation_depths (concatenation_depths _ (single_token_depths (has_class open_brace_sign)) (before_token_depths (has_class close_brace_sign) (one_deeper statements)))
    (alternation_depths (concatenation_depths _ (single_token_depths _) (after_token_depths (has_class assign_sign) (before_token_depths (has_class semicolon_sign) expression)))
    (alternation_depths (concatenation_depths _ (single_token_depths (has_class name_class)) (after_token_depths (has_class assign_sign) (before_token_depths (has_class semicolon_sign) expression)))
    (alternation_depths (concatenation_depths _ (single_token_depths (has_class module_word)) (concatenation_depths pair_of (single_token_depths (has_class name_class)) (concatenation_depths pair_of (parentheses_depths params) (one_deeper body))))
    (alternation_depths (concatenation_depths _ (single_token_depths (has_class function_word)) (concatenation_depths pair_of (single_token_depths (has_class name_class))
    (concatenation_depths pair_of (parentheses_depths params) (after_token_depths (has_class assign_sign) (before_token_depths (has_class semicolon_sign) expression)))))
    (image_depths InstanceStatement instance))))))

-- statements, and an instance over a body, whose tokens are less deep than so much
abbrev pub statements_in_depths : (depth : ℕ) {S : Language StatementTerm} → Depths S → Depths (StatementsIn depth S)
statements_in_depths zero statement = empty_sequence_depths []
statements_in_depths (suc depth) statement = repetition_depths statement

abbrev pub instance_in_depths : (depth : ℕ) → Depths (Body without_gaps depth) → Depths (InstanceIn without_gaps depth (Body without_gaps depth))
instance_in_depths depth body =
    instance_depths (expr_depths depth) (args_in_depths depth (expr_depths depth)) (binders_in_depths depth (expr_depths depth)) body

-- a statement, and a body, whose tokens are less deep than so much
unfoldable mutual
  unfolding Statement Body

  pub statement_depths : (depth : ℕ) → Depths (Statement without_gaps depth)
  statement_depths zero = empty_language_depths
  statement_depths (suc depth) =
      statement_of_depths (expr_depths (suc depth)) (params_in_depths depth (expr_depths depth))
      (instance_in_depths depth (body_depths depth)) (statements_in_depths depth (statement_depths depth)) (body_depths depth)

  pub body_depths : (depth : ℕ) → Depths (Body without_gaps depth)
  body_depths zero = empty_language_depths
  body_depths (suc depth) = body_of_depths (instance_in_depths depth (body_depths depth)) (statements_in_depths depth (statement_depths depth))

-- a program whose tokens are less deep than so much
abbrev pub program_depths : (depth : ℕ) → Depths (WholeProgram depth)
program_depths depth = before_token_depths (has_class end_class) (repetition_depths (statement_depths depth))

-- these are the depths of the tokens of a program, in their order
abbrev pub HasDepths : List StatementTerm → List Token → List ℕ → Type 0
HasDepths program tokens depths = (limit : ℕ) × (written : WholeProgram limit program tokens) × (depths ≡ (program_depths limit).of program tokens written)

-- each is less than so much
abbrev pub AllBelow : ℕ → List ℕ → Type 0
AllBelow limit [] = Unit {0}
AllBelow limit (depth ∷ depths) = (depth < limit) × AllBelow limit depths

-- Some program begins with these tokens in which each of them is less deep than so much.
abbrev pub IsProgramPrefixBelow : ℕ → List Token → Type 0
IsProgramPrefixBelow limit tokens =
    (program : List StatementTerm) × (rest : List Token) × (depths : List ℕ) × HasDepths program (tokens ++ rest) depths
    × AllBelow limit (take (length tokens) depths)
