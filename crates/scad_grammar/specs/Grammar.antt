-- The grammar of the modelling language (OpenSCAD User Manual, in the profile of this server), as
-- relations between plain trees and lists of tokens. Nothing here reads.
use Rattle.std.specs.Prelude.{◌≡◌, ℕ, zero, suc, List, [], ◌∷◌, map, codes, Bool, true, false, cond, nat_eq, Option, Some, None}
use Rattle.scad_lexer.specs.declared.token.Token.{Token}
use Rattle.scad_lexer.specs.declared.token.TokenKind.TheVariants.{Numeral, Name, Special, Text, Reserved, Symbol, End}
use Rattle.scad_lexer.specs.declared.token.Reserved.TheVariants.{Module, Function, If, Else, For, IntersectionFor, True, False, Undef}
use Rattle.scad_lexer.specs.declared.token.Symbol.TheVariants.{OpenParenthesis, CloseParenthesis, OpenBracket, CloseBracket, OpenBrace, CloseBrace, Comma, Semicolon, Assign, Colon, Question, Dot, Plus, Minus, Times, Divide, Remainder, Less, Greater, LessEqual, GreaterEqual, Equal, NotEqual, And, Or, Not, Hash, Caret}
use Rattle.scad_ast.specs.declared.operator.BinaryOp.{BinaryOp}
use Rattle.scad_ast.specs.declared.operator.BinaryOp.TheVariants as binary
use Rattle.scad_ast.specs.declared.operator.UnaryOp.{UnaryOp}
use Rattle.scad_ast.specs.declared.operator.UnaryOp.TheVariants as unary
use Rattle.scad_ast.specs.declared.operator.Modifier.{Modifier}
use Rattle.scad_ast.specs.declared.operator.Modifier.TheVariants.{Disable, Background, Highlight, Root}
use Rattle.scad_ast.specs.Terms.{Term, NumberTerm, TextTerm, TruthTerm, UndefTerm, ChildCountTerm, SpecialTerm, NameTerm, CallTerm, ParenTerm, ListTerm, RangeTerm, SteppedRangeTerm, PostfixTerm, UnaryTerm, ChainTerm, ChoiceTerm, LinkTerm, SuffixTerm, IndexTerm, MemberTerm, ArgTerm, NamedTerm, SpecialArgTerm, PositionalTerm, terms_from, links_from, suffixes_from, args_from, place_of_term, ParamTerm, PlainTerm, DefaultTerm, BinderTerm, ModifierTerm, StatementTerm, EmptyStatement, BlockStatement, AssignmentTerm, SpecialAssignmentTerm, ModuleTerm, FunctionTerm, InstanceStatement, InstanceTerm, AnInstance, CoreTerm, IfTerm, IfElseTerm, ForTerm, IntersectionForTerm, ModuleCallTerm, BodyTerm, EmptyBody, BlockBody, InstanceBody, statements_from, place_of_core}
use Rattle.scad_grammar.specs.Classes.{symbol_class, token_class, has_class_in, is_like, is_like_one_of, numeral_value, bytes_of}
use Rattle.scad_grammar.specs.Languages.{Language, SingleToken, ImageOf, Concatenation, ConcatenationIf, Alternation, EmptySequence, Repetition, OptionalSequence, EmptyLanguage, first_of, pair_of, AfterToken, BeforeToken, SeparatedList}

-- something in parentheses
abbrev pub InParentheses : {A : Type 0} → Language A → Language A
InParentheses L = AfterToken (is_like (Symbol OpenParenthesis)) (BeforeToken L (is_like (Symbol CloseParenthesis)))

-- the operator of two sides that a sign of this class writes
abbrev pub binary_at : ℕ → BinaryOp
binary_at sign =
    cond (nat_eq sign (symbol_class Or)) binary.Or (cond (nat_eq sign (symbol_class And)) binary.And
    (cond (nat_eq sign (symbol_class Equal)) binary.Equal (cond (nat_eq sign (symbol_class NotEqual)) binary.NotEqual
    (cond (nat_eq sign (symbol_class Less)) binary.Less (cond (nat_eq sign (symbol_class LessEqual)) binary.LessEqual
    (cond (nat_eq sign (symbol_class Greater)) binary.Greater (cond (nat_eq sign (symbol_class GreaterEqual)) binary.GreaterEqual
    (cond (nat_eq sign (symbol_class Plus)) binary.Add (cond (nat_eq sign (symbol_class Minus)) binary.Subtract
    (cond (nat_eq sign (symbol_class Times)) binary.Multiply (cond (nat_eq sign (symbol_class Divide)) binary.Divide binary.Remainder)))))))))))

-- the operator before an operand that it writes
abbrev pub unary_at : ℕ → UnaryOp
unary_at sign = cond (nat_eq sign (symbol_class Minus)) unary.Negate (cond (nat_eq sign (symbol_class Plus)) unary.Keep unary.Not)

-- the modifier that it writes
abbrev pub modifier_at : ℕ → Modifier
modifier_at sign = cond (nat_eq sign (symbol_class Times)) Disable (cond (nat_eq sign (symbol_class Remainder)) Background (cond (nat_eq sign (symbol_class Hash)) Highlight Root))

-- a chain of one is what it has; operators of one level group to the left
abbrev pub chain_term : Term → List LinkTerm → Term
chain_term x [] = x
chain_term x (operator ∷ operators) = ChainTerm (place_of_term x) x (links_from (operator ∷ operators))

-- a choice, where a `?` follows
abbrev pub choice_term : Term → Option (Token × (Term × Term)) → Term
choice_term x None = x
choice_term x (Some parts) = ChoiceTerm (place_of_term x) x parts.0.place parts.1.0 parts.1.1

-- an expression with what stands behind it, if something does
abbrev pub postfix_term : Term → List SuffixTerm → Term
postfix_term x [] = x
postfix_term x (suffix ∷ suffixes) = PostfixTerm (place_of_term x) x (suffixes_from (suffix ∷ suffixes))

-- a name, or a call where arguments follow
abbrev pub name_term : Token → Option (List ArgTerm) → Term
name_term token None = NameTerm token.place (bytes_of token.kind)
name_term token (Some args) = CallTerm token.place (bytes_of token.kind) (args_from args)

-- what a bracket holds behind its first expression: more items, or the rest of a range
pub data Rest : Type 0 where
  items : (more : List Term) → Rest
  range : (to : Term) → Rest
  stepped_range : (step to : Term) → Rest

-- a list or a range, by what stands behind its first expression
abbrev pub list_or_range_term : Token → Term → Rest → Term
list_or_range_term token first (items more) = ListTerm token.place (terms_from (first ∷ more))
list_or_range_term token first (range to) = RangeTerm token.place first to
list_or_range_term token first (stepped_range step to) = SteppedRangeTerm token.place first step to

-- the same, or the empty list
abbrev pub bracket_term : Token → Option (Term × Rest) → Term
bracket_term token None = ListTerm token.place (terms_from [])
bracket_term token (Some parts) = list_or_range_term token parts.0 parts.1

-- the rest of a range: up to the next expression, or by it as a step up to one more
abbrev pub range_rest : Term → Option Term → Rest
range_rest next None = range next
range_rest next (Some to) = stepped_range next to

-- arguments, parameters and variables of loops

-- args = [ arg { "," arg } [","] ], and arg = NAME "=" expr | SPECIAL "=" expr | expr
-- SPECIAL is a special name other than `$children`.
abbrev pub Args : Language Term → Language (List ArgTerm)
Args E = Alternation (SeparatedList (is_like (Symbol Comma)) (Alternation (Concatenation (λ token value. cond (is_like (Special []) token) (SpecialArgTerm token.place (bytes_of token.kind) value) (NamedTerm token.place (bytes_of token.kind) value)) (SingleToken (is_like_one_of (Name [] ∷ Special [] ∷ []))) (AfterToken (is_like (Symbol Assign)) E)) (ImageOf PositionalTerm E))) (EmptySequence [])

-- a parameter, with its default where one follows
abbrev pub param_term : Token → Option Term → ParamTerm
param_term token None = PlainTerm token.place (bytes_of token.kind)
param_term token (Some default) = DefaultTerm token.place (bytes_of token.kind) default

-- param = NAME [ "=" expr ]
abbrev pub Param : Language Term → Language ParamTerm
Param E = Concatenation param_term (SingleToken (is_like (Name []))) (OptionalSequence (AfterToken (is_like (Symbol Assign)) E))

-- params = [ param { "," param } [","] ], over what a parameter is
abbrev pub Params : Language ParamTerm → Language (List ParamTerm)
Params P = Alternation (SeparatedList (is_like (Symbol Comma)) P) (EmptySequence [])

-- binder { "," binder } [","], and binder = NAME "=" expr
abbrev pub Binders : Language Term → Language (List BinderTerm)
Binders E = SeparatedList (is_like (Symbol Comma)) (Concatenation (λ token over. record { at = token.place; name = bytes_of token.kind; values = over }) (SingleToken (is_like (Name []))) (AfterToken (is_like (Symbol Assign)) E))

-- expressions; E is an expression one deeper, As arguments one deeper, and U an operand of a unary operator

-- "[" "]" | "[" expr { "," expr } [","] "]" | "[" expr ":" expr [ ":" expr ] "]"
abbrev pub Bracket : Language Term → Language Term
Bracket E =
    Concatenation bracket_term (SingleToken (is_like (Symbol OpenBracket)))
    (BeforeToken
    (OptionalSequence (Concatenation pair_of E
    (Alternation (AfterToken (is_like (Symbol Colon)) (Concatenation range_rest E (OptionalSequence (AfterToken (is_like (Symbol Colon)) E))))
    (ImageOf items (Concatenation (λ more last. more) (Repetition (AfterToken (is_like (Symbol Comma)) E)) (OptionalSequence (SingleToken (is_like (Symbol Comma)))))))))
    (is_like (Symbol CloseBracket)))

-- primary = NUMERAL | TEXT | "true" | "false" | "undef" | "$children" | SPECIAL | NAME | NAME "(" args ")" | "(" expr ")"
-- | lists and ranges
abbrev pub Primary : Language Term → Language (List ArgTerm) → Language Term
Primary E As =
    Alternation (ImageOf (λ token. NumberTerm token.place (numeral_value token.kind)) (SingleToken (is_like (Numeral 0))))
    (Alternation (ImageOf (λ token. TextTerm token.place (bytes_of token.kind)) (SingleToken (is_like (Text []))))
    (Alternation (ImageOf (λ token. TruthTerm token.place true) (SingleToken (is_like (Reserved True))))
    (Alternation (ImageOf (λ token. TruthTerm token.place false) (SingleToken (is_like (Reserved False))))
    (Alternation (ImageOf (λ token. UndefTerm token.place) (SingleToken (is_like (Reserved Undef))))
    (Alternation (ImageOf (λ token. ChildCountTerm token.place) (SingleToken (is_like (Special (codes "children")))))
    (Alternation (ImageOf (λ token. SpecialTerm token.place (bytes_of token.kind)) (SingleToken (is_like (Special []))))
    (Alternation (Concatenation name_term (SingleToken (is_like (Name []))) (OptionalSequence (InParentheses As)))
    (Alternation (Concatenation (λ token inner. ParenTerm token.place inner) (SingleToken (is_like (Symbol OpenParenthesis))) (BeforeToken E (is_like (Symbol CloseParenthesis))))
    (Bracket E)))))))))

-- suffix = "[" expr "]" | "." NAME
abbrev pub Suffix : Language Term → Language SuffixTerm
Suffix E =
    Alternation (Concatenation (λ token index. IndexTerm token.place index) (SingleToken (is_like (Symbol OpenBracket))) (BeforeToken E (is_like (Symbol CloseBracket))))
    (Concatenation (λ dot named. MemberTerm dot.place (bytes_of named.kind) named.place) (SingleToken (is_like (Symbol Dot))) (SingleToken (is_like (Name []))))

-- unary = ("-" | "+" | "!") unary | primary { suffix }
abbrev pub Unary : Language Term → Language (List ArgTerm) → Language Term → Language Term
Unary E As U = Alternation (Concatenation (λ token operand. UnaryTerm token.place (unary_at (token_class token.kind)) operand) (SingleToken (is_like_one_of (Symbol Minus ∷ Symbol Plus ∷ Symbol Not ∷ []))) U) (Concatenation postfix_term (Primary E As) (Repetition (Suffix E)))

-- a chain of the operators of some levels, the loosest first
abbrev pub Chain : List (List ℕ) → Language Term → Language Term
Chain [] X = X
Chain (ops ∷ levels) X = Concatenation chain_term (Chain levels X) (Repetition (Concatenation (λ token right. record { op = binary_at (token_class token.kind); at = token.place; right = right }) (SingleToken (has_class_in ops)) (Chain levels X)))

-- or, and, equal, order, sum, product
abbrev pub levels : List (List ℕ)
levels =
    map (map symbol_class)
    ((Or ∷ []) ∷ (And ∷ []) ∷ (Equal ∷ NotEqual ∷ []) ∷ (Less ∷ LessEqual ∷ Greater ∷ GreaterEqual ∷ [])
    ∷ (Plus ∷ Minus ∷ []) ∷ (Times ∷ Divide ∷ Remainder ∷ []) ∷ [])

-- expr = or [ "?" expr ":" expr ]
abbrev pub Choice : Language Term → Language (List ArgTerm) → Language Term → Language Term
Choice E As U = Concatenation choice_term (Chain levels (Unary E As U)) (OptionalSequence (Concatenation pair_of (SingleToken (is_like (Symbol Question))) (Concatenation pair_of E (AfterToken (is_like (Symbol Colon)) E))))

-- A program is written without gaps, or with them. Before its first gap it then shows nothing that is too deep: what may
-- be missing is missing there, and a gap stands for what may not.
pub data Detail : Type 0 where
  without_gaps : Detail
  with_gaps : Detail

-- What is too deep: no program without gaps has it. Else a gap stands for it: a token that no form of the grammar has,
-- the sign `^`.
abbrev pub Gap : {A : Type 0} → Detail → (Token → A) → Language A
Gap without_gaps f = EmptyLanguage
Gap with_gaps f = ImageOf f (SingleToken (is_like (Symbol Caret)))

-- the first where nothing may be deeper, and else the second
abbrev pub ByDepth : {A : Type 0} → ℕ → Language A → Language A → Language A
ByDepth zero Shallow Deep = Shallow
ByDepth (suc depth) Shallow Deep = Deep

-- arguments whose tokens are less deep than so much; E is an expression as deep
abbrev pub ArgsIn : ℕ → Language Term → Language (List ArgTerm)
ArgsIn depth E = ByDepth depth (EmptySequence []) (Args E)

-- an expression whose tokens are less deep than so much
unfoldable mutual
  pub Expr : Detail → ℕ → Language Term
  Expr detail zero = Gap detail (λ token. UndefTerm token.place)
  Expr detail (suc depth) = Choice (Expr detail depth) (ArgsIn depth (Expr detail depth)) (Operand detail depth)

  -- an operand whose tokens are less deep than so much
  pub Operand : Detail → ℕ → Language Term
  Operand detail zero = Gap detail (λ token. UndefTerm token.place)
  Operand detail (suc depth) = Unary (Expr detail depth) (ArgsIn depth (Expr detail depth)) (Operand detail depth)

-- statements; E is an expression one deeper, and so are As arguments, Ps parameters, Ns variables of a loop,
-- Ss statements and B a body; X is an expression as deep as the statement, and I an instance

-- an instance, at the place of its first modifier, if it has some
abbrev pub instance_term : List ModifierTerm → CoreTerm → InstanceTerm
instance_term [] core = AnInstance (place_of_core core) [] core
instance_term (first ∷ modifiers) core = AnInstance first.at (first ∷ modifiers) core

-- whether a body ends in an `if` without `else`: one that stands behind the body would then belong to that `if`
abbrev mutual
  pub ends_open : BodyTerm → Bool
  ends_open (EmptyBody at) = false
  ends_open (BlockBody at inner) = false
  ends_open (InstanceBody instance) = instance_open instance

  -- the same of an instance
  pub instance_open : InstanceTerm → Bool
  instance_open (AnInstance at modifiers core) = core_open core

  -- the same of an instance without its modifiers
  pub core_open : CoreTerm → Bool
  core_open (IfTerm at test body) = true
  core_open (IfElseTerm at test body other) = ends_open other
  core_open (ForTerm at binders body) = ends_open body
  core_open (IntersectionForTerm at binders body) = ends_open body
  core_open (ModuleCallTerm at called args body) = ends_open body

-- an `else` belongs to the nearest `if`
abbrev pub IsNearest : (Token × (Term × BodyTerm)) → Option BodyTerm → Type 0
IsNearest parts None = Unit {0}
IsNearest parts (Some other) = ends_open parts.1.1 ≡ false

-- a choice of a body, with an `else` where one follows
abbrev pub if_term : (Token × (Term × BodyTerm)) → Option BodyTerm → CoreTerm
if_term parts None = IfTerm parts.0.place parts.1.0 parts.1.1
if_term parts (Some other) = IfElseTerm parts.0.place parts.1.0 parts.1.1 other

-- core = "if" "(" expr ")" body [ "else" body ] | ("for" | "intersection_for") "(" binders ")" body | NAME "(" args ")" body
abbrev pub CoreOf : Language Term → Language (List ArgTerm) → Language (List BinderTerm) → Language BodyTerm → Language CoreTerm
CoreOf E As Ns B =
    Alternation (ConcatenationIf if_term IsNearest (Concatenation pair_of (SingleToken (is_like (Reserved If))) (Concatenation pair_of (InParentheses E) B)) (OptionalSequence (AfterToken (is_like (Reserved Else)) B)))
    (Alternation (Concatenation (λ token parts. cond (is_like (Reserved For) token) (ForTerm token.place parts.0 parts.1) (IntersectionForTerm token.place parts.0 parts.1)) (SingleToken (is_like_one_of (Reserved For ∷ Reserved IntersectionFor ∷ []))) (Concatenation pair_of (InParentheses Ns) B))
    (Concatenation (λ token parts. ModuleCallTerm token.place (bytes_of token.kind) parts.0 parts.1) (SingleToken (is_like (Name []))) (Concatenation pair_of (InParentheses As) B)))

-- instance = { "*" | "%" | "#" | "!" } core
abbrev pub Instance : Language Term → Language (List ArgTerm) → Language (List BinderTerm) → Language BodyTerm → Language InstanceTerm
Instance E As Ns B = Concatenation instance_term (Repetition (ImageOf (λ token. record { at = token.place; modifier = modifier_at (token_class token.kind) }) (SingleToken (is_like_one_of (Symbol Times ∷ Symbol Remainder ∷ Symbol Hash ∷ Symbol Not ∷ []))))) (CoreOf E As Ns B)

-- body = ";" | "{" { statement } "}" | instance
abbrev pub BodyOf : Language InstanceTerm → Language (List StatementTerm) → Language BodyTerm
BodyOf I Ss =
    Alternation (ImageOf (λ token. EmptyBody token.place) (SingleToken (is_like (Symbol Semicolon))))
    (Alternation (Concatenation (λ token statements. BlockBody token.place (statements_from statements)) (SingleToken (is_like (Symbol OpenBrace))) (BeforeToken Ss (is_like (Symbol CloseBrace))))
    (ImageOf InstanceBody I))

-- statement = ";" | "{" { statement } "}" | SPECIAL "=" expr ";" | NAME "=" expr ";" | "module" NAME "(" params ")" body
--           | "function" NAME "(" params ")" "=" expr ";" | instance
abbrev pub StatementOf : Language Term → Language (List ParamTerm) → Language InstanceTerm → Language (List StatementTerm) → Language BodyTerm → Language StatementTerm
StatementOf X Ps I Ss B =
    Alternation (ImageOf (λ token. EmptyStatement token.place) (SingleToken (is_like (Symbol Semicolon))))
    (Alternation (Concatenation (λ token statements. BlockStatement token.place (statements_from statements)) (SingleToken (is_like (Symbol OpenBrace))) (BeforeToken Ss (is_like (Symbol CloseBrace))))
    (Alternation (Concatenation (λ token value. SpecialAssignmentTerm token.place (bytes_of token.kind) value) (SingleToken (is_like (Special []))) (AfterToken (is_like (Symbol Assign)) (BeforeToken X (is_like (Symbol Semicolon)))))
    (Alternation (Concatenation (λ token value. AssignmentTerm token.place (bytes_of token.kind) value) (SingleToken (is_like (Name []))) (AfterToken (is_like (Symbol Assign)) (BeforeToken X (is_like (Symbol Semicolon)))))
    (Alternation (Concatenation (λ token parts. ModuleTerm token.place (bytes_of parts.0.kind) parts.0.place parts.1.0 parts.1.1) (SingleToken (is_like (Reserved Module))) (Concatenation pair_of (SingleToken (is_like (Name []))) (Concatenation pair_of (InParentheses Ps) B)))
    (Alternation (Concatenation (λ token parts. FunctionTerm token.place (bytes_of parts.0.kind) parts.0.place parts.1.0 parts.1.1) (SingleToken (is_like (Reserved Function))) (Concatenation pair_of (SingleToken (is_like (Name []))) (Concatenation pair_of (InParentheses Ps) (AfterToken (is_like (Symbol Assign)) (BeforeToken X (is_like (Symbol Semicolon)))))))
    (ImageOf InstanceStatement I))))))

-- statements whose tokens are less deep than so much; S is a statement as deep
abbrev pub StatementsIn : ℕ → Language StatementTerm → Language (List StatementTerm)
StatementsIn depth S = ByDepth depth (EmptySequence []) (Repetition S)

-- an instance over a body one deeper
abbrev pub InstanceIn : Detail → ℕ → Language BodyTerm → Language InstanceTerm
InstanceIn detail depth B = Instance (Expr detail depth) (ArgsIn depth (Expr detail depth)) (ByDepth depth (Gap detail (λ token. [])) (Binders (Expr detail depth))) B

-- a statement whose tokens are less deep than so much
unfoldable mutual
  pub Statement : Detail → ℕ → Language StatementTerm
  Statement detail zero = EmptyLanguage
  Statement detail (suc depth) =
      StatementOf (Expr detail (suc depth)) (ByDepth depth (EmptySequence []) (Params (Param (Expr detail depth)))) (InstanceIn detail depth (Body detail depth))
      (StatementsIn depth (Statement detail depth)) (Body detail depth)

  -- a body whose tokens are less deep than so much
  pub Body : Detail → ℕ → Language BodyTerm
  Body detail zero = Gap detail (λ token. EmptyBody token.place)
  Body detail (suc depth) = BodyOf (InstanceIn detail depth (Body detail depth)) (StatementsIn depth (Statement detail depth))

-- { statement }, and the end
abbrev pub ProgramIn : Detail → ℕ → Language (List StatementTerm)
ProgramIn detail depth = BeforeToken (Repetition (Statement detail depth)) (is_like End)

-- the least depth that no token of a program may have
abbrev pub least_too_deep : ℕ
least_too_deep = 65

-- a program whose tokens are less deep than so much
abbrev pub WholeProgram : ℕ → Language (List StatementTerm)
WholeProgram = ProgramIn without_gaps

-- The parts that are written in place above, by names for the readers, the depths and the proofs.

-- what the parts of a form make: here an operator with its right side
abbrev pub link_term : Token → Term → LinkTerm
link_term token right = record { op = binary_at (token_class token.kind); at = token.place; right = right }

-- an operator before its operand
abbrev pub unary_term : Token → Term → Term
unary_term token operand = UnaryTerm token.place (unary_at (token_class token.kind)) operand

-- an index, at the place of its `[`
abbrev pub index_term : Token → Term → SuffixTerm
index_term token index = IndexTerm token.place index

-- a member, at the place of its `.`
abbrev pub member_term : Token → Token → SuffixTerm
member_term dot named = MemberTerm dot.place (bytes_of named.kind) named.place

-- what stands in parentheses
abbrev pub paren_term : Token → Term → Term
paren_term token inner = ParenTerm token.place inner

-- an argument with a name or a special name
abbrev pub named_argument_term : Token → Term → ArgTerm
named_argument_term token value = cond (is_like (Special []) token) (SpecialArgTerm token.place (bytes_of token.kind) value) (NamedTerm token.place (bytes_of token.kind) value)

-- a variable of a loop, with what it goes over
abbrev pub binder_term : Token → Term → BinderTerm
binder_term token over = record { at = token.place; name = bytes_of token.kind; values = over }

-- a modifier with its place
abbrev pub modifier_term : Token → ModifierTerm
modifier_term token = record { at = token.place; modifier = modifier_at (token_class token.kind) }

-- a loop, by its word
abbrev pub loop_term : Token → (List BinderTerm × BodyTerm) → CoreTerm
loop_term token parts = cond (is_like (Reserved For) token) (ForTerm token.place parts.0 parts.1) (IntersectionForTerm token.place parts.0 parts.1)

-- a call of a module
abbrev pub call_term : Token → (List ArgTerm × BodyTerm) → CoreTerm
call_term token parts = ModuleCallTerm token.place (bytes_of token.kind) parts.0 parts.1

-- a body of statements in braces
abbrev pub block_term : Token → List StatementTerm → BodyTerm
block_term token statements = BlockBody token.place (statements_from statements)

-- a bare block
abbrev pub bare_block_term : Token → List StatementTerm → StatementTerm
bare_block_term token statements = BlockStatement token.place (statements_from statements)

-- an assignment to a name
abbrev pub assignment_term : Token → Term → StatementTerm
assignment_term token value = AssignmentTerm token.place (bytes_of token.kind) value

-- an assignment to a special name
abbrev pub special_assignment_term : Token → Term → StatementTerm
special_assignment_term token value = SpecialAssignmentTerm token.place (bytes_of token.kind) value

-- a definition of a module, at the place of its word
abbrev pub module_term : Token → (Token × (List ParamTerm × BodyTerm)) → StatementTerm
module_term token parts = ModuleTerm token.place (bytes_of parts.0.kind) parts.0.place parts.1.0 parts.1.1

-- a definition of a function, at the place of its word
abbrev pub function_term : Token → (Token × (List ParamTerm × Term)) → StatementTerm
function_term token parts = FunctionTerm token.place (bytes_of parts.0.kind) parts.0.place parts.1.0 parts.1.1

-- parameters whose tokens are less deep than so much; E is an expression as deep
abbrev pub ParamsIn : ℕ → Language Term → Language (List ParamTerm)
ParamsIn depth E = ByDepth depth (EmptySequence []) (Params (Param E))

-- variables of a loop whose tokens are less deep than so much
abbrev pub BindersIn : Detail → ℕ → Language Term → Language (List BinderTerm)
BindersIn detail depth E = ByDepth depth (Gap detail (λ token. [])) (Binders E)

-- SPECIAL is a special name other than `$children`.
-- arg = NAME "=" expr | SPECIAL "=" expr | expr
abbrev pub Arg : Language Term → Language ArgTerm
Arg E = Alternation (Concatenation (λ token value. cond (is_like (Special []) token) (SpecialArgTerm token.place (bytes_of token.kind) value) (NamedTerm token.place (bytes_of token.kind) value)) (SingleToken (is_like_one_of (Name [] ∷ Special [] ∷ []))) (AfterToken (is_like (Symbol Assign)) E)) (ImageOf PositionalTerm E)

-- binder = NAME "=" expr
abbrev pub Binder : Language Term → Language BinderTerm
Binder E = Concatenation (λ token over. record { at = token.place; name = bytes_of token.kind; values = over }) (SingleToken (is_like (Name []))) (AfterToken (is_like (Symbol Assign)) E)

-- postfix = primary { suffix }
abbrev pub Postfix : Language Term → Language (List ArgTerm) → Language Term
Postfix E As = Concatenation postfix_term (Primary E As) (Repetition (Suffix E))

-- a program with gaps whose tokens are less deep than so much, but for the gaps and what stands behind one
abbrev pub ProgramWithGaps : ℕ → Language (List StatementTerm)
ProgramWithGaps = ProgramIn with_gaps
