-- What is read of statements and programs is in the grammar, at each depth.
use Rattle.std.proofs.Common.{◌≡◌, ℕ, zero, suc, List, [], ◌∷◌, ◌++◌, Bool, true, false, cond, Ok, Err, None, inl, inr, refl, sym, ap, ◌∙◌, append-nil}
use Rattle.scad_lexer.specs.declared.token.Token.{Token}
use Rattle.scad_lexer.specs.declared.token.TokenKind.TheVariants.{Name, Special, Reserved, Symbol, End}
use Rattle.scad_lexer.specs.declared.token.Reserved.TheVariants.{Module, Function}
use Rattle.scad_lexer.specs.declared.token.Symbol.TheVariants.{OpenParenthesis, CloseParenthesis, OpenBrace, CloseBrace, Semicolon, Assign}
use Rattle.scad_ast.specs.Terms.{Term, ArgTerm, ParamTerm, BinderTerm, StatementTerm, EmptyStatement, BlockStatement, AssignmentTerm, SpecialAssignmentTerm, ModuleTerm, FunctionTerm, InstanceStatement, InstanceTerm, BodyTerm, EmptyBody, InstanceBody}
use Rattle.scad_grammar.specs.Classes.{name_class, special_class, end_class, module_word, function_word, if_word, else_word, for_word, intersection_for_word, close_parenthesis_sign, open_brace_sign, close_brace_sign, semicolon_sign, assign_sign, has_class_in, has_class, has_class_outside, token_class}
use Rattle.scad_grammar.specs.Languages.{Language, SingleToken, ImageOf, Concatenation, Alternation, EmptySequence, Repetition, EmptyLanguage, AfterToken, BeforeToken, second_of, pair_of}
use Rattle.scad_grammar.specs.Grammar.{binder_term, param_term, modifier_term, if_term, loop_term, call_term, instance_term, Binders, InParentheses, Param, Params, Binder, CoreOf, Instance, BodyOf, StatementOf, Detail, without_gaps, BindersIn, ParamsIn, StatementsIn, InstanceIn, Expr, Statement, Body, WholeProgram, block_term, bare_block_term, assignment_term, special_assignment_term, module_term, function_term, ends_open, instance_open}
use Rattle.scad_grammar.specs.Reading.{Read, next_is, image_read, sequence_read, alternative_read, two_ahead, repeated_read}
use Rattle.scad_grammar.specs.declared.SyntaxFault.{SyntaxFault}
use Rattle.scad_grammar.specs.Faults.{TokenReader, token_read, fault_of, left_out_classes}
use Rattle.scad_grammar.specs.declared.SyntaxFault.TheVariants.{Nested}
use Rattle.scad_grammar.specs.Reads.{nested_read, head_of, in_parentheses, arg_in, expr_read}
use Rattle.scad_grammar.specs.StatementReads.{modifier_signs, loop_words, firsts_of_core, firsts_of_instance, firsts_of_body, firsts_of_statement, param_read, binder_read, params_read, binders_read, braces_read, body_over, module_read, ended_read, function_read, definition_read, assignment_of_tokens, special_read, statement_over, param_in, binder_in, instance_in, statement_read, body_read, program_read}
use Rattle.scad_grammar.proofs.lemmas.Readers.{IsReader, Opens, IsPrefixIn, both_reads, choice_reads, mapped_reads, same_reads, many_reads, both_opens, either_opens, mapped_opens, one_opens, never_starts}
use Rattle.scad_grammar.proofs.Greedy.{Stops, both_stops, mapped_stops, choice_stops}
use Rattle.scad_grammar.proofs.Ahead.{Ahead, two, rest_of, ahead_reads}
use Rattle.scad_grammar.proofs.Tests.{OneReads, either_listed, one_at, then, next_apart, next_within, next_less, close_ends}
use Rattle.scad_grammar.proofs.Nested.{nested_reads}
use Rattle.scad_grammar.proofs.Operands.{token, name_one}
use Rattle.scad_grammar.proofs.Primary.{Some_of, some_before, before_reads, in_parentheses_reads}
use Rattle.scad_grammar.proofs.lemmas.Expressions.{ExprIn, ArgsAt, expression_more, arg_more, two_to, two_from, two_not, depth_reads, some_expr, some_args}
use Rattle.scad_grammar.proofs.Cores.{assign_one, else_open, body_more, instance_more, open_less, not_else, params_reads, param_reads, param_opens, binder_reads, binders_reads, some_headed, some_core, some_binders, instance_opens, instance_reads, instance_stops, instance_unlike, statement_moves, choice_second}

abbrev closes : List ℕ
closes = close_parenthesis_sign ∷ []

semicolon_one : OneReads (has_class semicolon_sign)
semicolon_one = one_at (has_class semicolon_sign) (token (Symbol Semicolon), refl)

open_brace_one : OneReads (has_class open_brace_sign)
open_brace_one = one_at (has_class open_brace_sign) (token (Symbol OpenBrace), refl)

close_brace_one : OneReads (has_class close_brace_sign)
close_brace_one = one_at (has_class close_brace_sign) (token (Symbol CloseBrace), refl)

module_one : OneReads (has_class module_word)
module_one = one_at (has_class module_word) (token (Reserved Module), refl)

special_one : OneReads (has_class special_class)
special_one = one_at (has_class special_class) (token (Special []), refl)

function_one : OneReads (has_class function_word)
function_one = one_at (has_class function_word) (token (Reserved Function), refl)

pub end_one : OneReads (has_class end_class)
end_one = one_at (has_class end_class) (token End, refl)

-- an `else` behind this statement would be its own
abbrev statement_open : StatementTerm → Bool
statement_open (EmptyStatement at) = false
statement_open (BlockStatement at inner) = false
statement_open (AssignmentTerm at called value) = false
statement_open (SpecialAssignmentTerm at called value) = false
statement_open (ModuleTerm at called name_at params body) = ends_open body
statement_open (FunctionTerm at called name_at params value) = false
statement_open (InstanceStatement i) = instance_open i

abbrev pub statement_more : StatementTerm → Token → Bool
statement_more x = else_open (statement_open x)

-- what may go on a list of statements
abbrev pub statements_more : List ℕ
statements_more = else_word ∷ firsts_of_statement

-- the forms of a statement
abbrev Ended : Language Term → Language Term
Ended X = BeforeToken X (has_class semicolon_sign)

abbrev Braces : Language (List StatementTerm) → Language (List StatementTerm)
Braces Ss = BeforeToken Ss (has_class close_brace_sign)

abbrev ModuleForm : Language (List ParamTerm) → Language BodyTerm → Language StatementTerm
ModuleForm Ps B = Concatenation module_term (SingleToken (has_class module_word)) (Concatenation pair_of (SingleToken (has_class name_class)) (Concatenation pair_of (InParentheses Ps) B))

abbrev FunctionForm : Language Term → Language (List ParamTerm) → Language StatementTerm
FunctionForm X Ps = Concatenation function_term (SingleToken (has_class function_word)) (Concatenation pair_of (SingleToken (has_class name_class)) (Concatenation pair_of (InParentheses Ps) (AfterToken (has_class assign_sign) (Ended X))))

abbrev Definition : Language Term → Language (List ParamTerm) → Language BodyTerm → Language InstanceTerm → Language StatementTerm
Definition X Ps B I = Alternation (ModuleForm Ps B) (Alternation (FunctionForm X Ps) (ImageOf InstanceStatement I))

abbrev Assigned : Language Term → Language StatementTerm
Assigned X = Concatenation assignment_term (SingleToken (has_class name_class)) (AfterToken (has_class assign_sign) (Ended X))

abbrev SpecialAssigned : Language Term → Language StatementTerm
SpecialAssigned X = Concatenation special_assignment_term (SingleToken (has_class special_class)) (AfterToken (has_class assign_sign) (Ended X))

-- parameters in parentheses, and something behind them
abbrev Signed : {A : Type 0} → Language (List ParamTerm) → Language A → Language (List ParamTerm × A)
Signed Ps L = Concatenation pair_of (InParentheses Ps) L

some_signed : {A : Type 0} (Qs : Language (List ParamTerm)) (W : Language A) → Some_of Qs → Some_of W → Some_of (Signed Qs W)
some_signed Qs W qs some =
    let opening : Token = token (Symbol OpenParenthesis) in
    let closing : Token = token (Symbol CloseParenthesis) in
    let l : List Token = opening ∷ (qs.0 ++ closing ∷ []) in
    (l ++ some.0, (qs.1, some.1), (qs.1, some.1, l, some.0, (opening, qs.1, opening ∷ [], qs.0 ++ closing ∷ [], (refl, refl), (qs.1, closing, qs.0, closing ∷ [], qs.2, (refl, refl), refl, refl), refl, refl), some.2, refl, refl))

some_called : {A : Type 0} (W : Language A) → Some_of W → Some_of (Concatenation pair_of (SingleToken (has_class name_class)) W)
some_called W some = (token (Name []) ∷ some.0, (token (Name []), some.1), (token (Name []), some.1, token (Name []) ∷ [], some.0, (refl, refl), some.2, refl, refl))

module_opens : (Ps : Language (List ParamTerm)) (B : Language BodyTerm) → Opens (ModuleForm Ps B) (has_class module_word)
module_opens Ps B = both_opens module_term (SingleToken (has_class module_word)) _ (has_class module_word) (one_opens (has_class module_word))

function_opens : (X : Language Term) (Ps : Language (List ParamTerm)) → Opens (FunctionForm X Ps) (has_class function_word)
function_opens X Ps = both_opens function_term (SingleToken (has_class function_word)) _ (has_class function_word) (one_opens (has_class function_word))

abbrev bare_firsts : List ℕ
bare_firsts = name_class ∷ module_word ∷ function_word ∷ firsts_of_instance

definition_opens : (X : Language Term) (Ps : Language (List ParamTerm)) (B : Language BodyTerm) (I : Language InstanceTerm) → Opens I (has_class_in firsts_of_instance) → Opens (Definition X Ps B I) (has_class_in bare_firsts)
definition_opens X Ps B I o =
    either_opens (ModuleForm Ps B) (Alternation (FunctionForm X Ps) (ImageOf InstanceStatement I)) (has_class_in bare_firsts)
    (λ x s rest h. next_within (module_word ∷ []) bare_firsts refl (s ++ rest) (module_opens Ps B x s rest h))
    (either_opens (FunctionForm X Ps) (ImageOf InstanceStatement I) (has_class_in bare_firsts)
    (λ x s rest h. next_within (function_word ∷ []) bare_firsts refl (s ++ rest) (function_opens X Ps x s rest h))
    (λ x s rest h. next_within firsts_of_instance bare_firsts refl (s ++ rest) (mapped_opens InstanceStatement I (has_class_in firsts_of_instance) o x s rest h)))

named_opens : (X : Language Term) (Ps : Language (List ParamTerm)) (B : Language BodyTerm) (I : Language InstanceTerm) → Opens I (has_class_in firsts_of_instance) → Opens (Alternation (Assigned X) (Definition X Ps B I)) (has_class_in bare_firsts)
named_opens X Ps B I o =
    either_opens (Assigned X) (Definition X Ps B I) (has_class_in bare_firsts)
    (λ x s rest h. next_within (name_class ∷ []) bare_firsts refl (s ++ rest) (both_opens assignment_term (SingleToken (has_class name_class)) _ (has_class name_class) (one_opens (has_class name_class)) x s rest h))
    (definition_opens X Ps B I o)

special_opens : (X : Language Term) → Opens (SpecialAssigned X) (has_class special_class)
special_opens X = both_opens special_assignment_term (SingleToken (has_class special_class)) (AfterToken (has_class assign_sign) (Ended X)) (has_class special_class) (one_opens (has_class special_class))

abbrev BareBlock : Language (List StatementTerm) → Language StatementTerm
BareBlock Ss = Concatenation bare_block_term (SingleToken (has_class open_brace_sign)) (Braces Ss)

abbrev Empty : Language StatementTerm
Empty = ImageOf (λ t. EmptyStatement t.place) (SingleToken (has_class semicolon_sign))

empty_opens : Opens Empty (has_class semicolon_sign)
empty_opens = mapped_opens (λ t. EmptyStatement t.place) (SingleToken (has_class semicolon_sign)) (has_class semicolon_sign) (one_opens (has_class semicolon_sign))

bare_opens : (Ss : Language (List StatementTerm)) → Opens (BareBlock Ss) (has_class open_brace_sign)
bare_opens Ss = both_opens bare_block_term (SingleToken (has_class open_brace_sign)) (Braces Ss) (has_class open_brace_sign) (one_opens (has_class open_brace_sign))

-- an assignment or a definition
abbrev Valued : Language Term → Language (List ParamTerm) → Language BodyTerm → Language InstanceTerm → Language StatementTerm
Valued X Ps B I = Alternation (SpecialAssigned X) (Alternation (Assigned X) (Definition X Ps B I))

abbrev valued_firsts : List ℕ
valued_firsts = special_class ∷ bare_firsts

valued_opens : (X : Language Term) (Ps : Language (List ParamTerm)) (B : Language BodyTerm) (I : Language InstanceTerm) → Opens I (has_class_in firsts_of_instance) → Opens (Valued X Ps B I) (has_class_in valued_firsts)
valued_opens X Ps B I o =
    either_opens (SpecialAssigned X) (Alternation (Assigned X) (Definition X Ps B I)) (has_class_in valued_firsts)
    (λ x s rest h. next_within (special_class ∷ []) valued_firsts refl (s ++ rest) (special_opens X x s rest h))
    (λ x s rest h. next_within bare_firsts valued_firsts refl (s ++ rest) (named_opens X Ps B I o x s rest h))

abbrev block_firsts : List ℕ
block_firsts = open_brace_sign ∷ valued_firsts

block_opens : (X : Language Term) (Ps : Language (List ParamTerm)) (Ss : Language (List StatementTerm)) (B : Language BodyTerm) (I : Language InstanceTerm) → Opens I (has_class_in firsts_of_instance) → Opens (Alternation (BareBlock Ss) (Valued X Ps B I)) (has_class_in block_firsts)
block_opens X Ps Ss B I o =
    either_opens (BareBlock Ss) (Valued X Ps B I) (has_class_in block_firsts)
    (λ x s rest h. next_within (open_brace_sign ∷ []) block_firsts refl (s ++ rest) (bare_opens Ss x s rest h))
    (λ x s rest h. next_within valued_firsts block_firsts refl (s ++ rest) (valued_opens X Ps B I o x s rest h))

pub statement_opens : (X : Language Term) (Ps : Language (List ParamTerm)) (I : Language InstanceTerm) (Ss : Language (List StatementTerm)) (B : Language BodyTerm) → Opens I (has_class_in firsts_of_instance) → Opens (StatementOf X Ps I Ss B) (has_class_in firsts_of_statement)
statement_opens X Ps I Ss B o =
    either_opens Empty (Alternation (BareBlock Ss) (Valued X Ps B I)) (has_class_in firsts_of_statement)
    (λ x s rest h. next_within (semicolon_sign ∷ []) firsts_of_statement refl (s ++ rest) (empty_opens x s rest h))
    (λ x s rest h. next_within block_firsts firsts_of_statement refl (s ++ rest) (block_opens X Ps Ss B I o x s rest h))

abbrev pub InstanceAt : Detail → ℕ → Language InstanceTerm
InstanceAt g d = InstanceIn g d (Body g d)

pub instance_depth_opens : (g : Detail) (d : ℕ) → Opens (InstanceAt g d) (has_class_in firsts_of_instance)
instance_depth_opens g d = instance_opens (Expr g d) (ArgsAt g d) (BindersIn g d (Expr g d)) (Body g d)

pub statement_at_opens : (g : Detail) (d : ℕ) → Opens (Statement g d) (has_class_in firsts_of_statement)
unfolding Statement Body
statement_at_opens g zero x s rest h = elim h [ ]
statement_at_opens g (suc d) x s rest h = statement_opens (Expr g (suc d)) (ParamsIn d (Expr g d)) (InstanceAt g d) (StatementsIn d (Statement g d)) (Body g d) (instance_depth_opens g d) x s rest h

pub statement_depth_opens : (d : ℕ) → Opens (Statement without_gaps d) (has_class_in firsts_of_statement)
statement_depth_opens = statement_at_opens without_gaps

-- s reads a statement
pub statements_reads : (s : TokenReader StatementTerm) (S R : Language StatementTerm) → IsReader s S R statement_more → Opens S (has_class_in firsts_of_statement) → IsReader (repeated_read (has_class_in firsts_of_statement) s) (Repetition S) (Repetition R) (λ xs. has_class_in statements_more)
statements_reads s S R is_s os =
    many_reads (has_class_in firsts_of_statement) s S R statement_more (has_class_in statements_more) is_s os (λ x. not_else (statement_open x) firsts_of_statement refl)
    (λ x rest h. open_less (statement_open x) rest (next_less (else_word ∷ []) statements_more refl rest h)) (next_less firsts_of_statement statements_more refl)

-- as many as there are
module _ (s : TokenReader StatementTerm) (Ss Sw : Language (List StatementTerm)) (iss : IsReader (repeated_read (has_class_in firsts_of_statement) s) Ss Sw (λ xs. has_class_in statements_more)) (some_ss : Some_of Sw) where
  braces_reads : IsReader (braces_read s) (Braces Ss) (Braces Sw) (λ x t. false)
  braces_reads = before_reads (repeated_read (has_class_in firsts_of_statement) s) Ss Sw close_brace_sign (λ xs. has_class_in statements_more) close_brace_one (token (Symbol CloseBrace)) refl iss (λ x. next_apart (close_brace_sign ∷ []) statements_more refl)

  some_braces : Some_of (Braces Sw)
  some_braces = some_before Sw close_brace_sign (token (Symbol CloseBrace)) refl some_ss

  -- i reads an instance
  module _ (i : TokenReader InstanceTerm) (I J : Language InstanceTerm) (ii : IsReader i I J instance_more) (si : Stops i instance_more) (oi : Opens I (has_class_in firsts_of_instance)) where
    abbrev EmptyOne : Language BodyTerm
    EmptyOne = ImageOf (λ t. EmptyBody t.place) (SingleToken (has_class semicolon_sign))

    abbrev BlockOne : Language (List StatementTerm) → Language BodyTerm
    BlockOne Ss = Concatenation block_term (SingleToken (has_class open_brace_sign)) (Braces Ss)

    instance_body_opens : Opens (Alternation (BlockOne Ss) (ImageOf InstanceBody I)) (has_class_in (open_brace_sign ∷ firsts_of_instance))
    instance_body_opens =
        either_opens (BlockOne Ss) (ImageOf InstanceBody I) (has_class_in (open_brace_sign ∷ firsts_of_instance))
        (λ x s rest h. next_within (open_brace_sign ∷ []) (open_brace_sign ∷ firsts_of_instance) refl (s ++ rest) (both_opens block_term (SingleToken (has_class open_brace_sign)) (Braces Ss) (has_class open_brace_sign) (one_opens (has_class open_brace_sign)) x s rest h))
        (λ x s rest h. next_within firsts_of_instance (open_brace_sign ∷ firsts_of_instance) refl (s ++ rest) (mapped_opens InstanceBody I (has_class_in firsts_of_instance) oi x s rest h))

    block_reads : IsReader (sequence_read block_term (token_read (has_class open_brace_sign)) (braces_read s)) (BlockOne Ss) (BlockOne Sw) body_more
    block_reads = then (braces_read s) (Braces Ss) (Braces Sw) (has_class open_brace_sign) (λ x t. false) body_more block_term open_brace_one braces_reads some_braces (λ t y rest h. h)

    pub body_reads : IsReader (body_over s i) (Alternation EmptyOne (Alternation (BlockOne Ss) (ImageOf InstanceBody I))) (Alternation EmptyOne (Alternation (BlockOne Sw) (ImageOf InstanceBody J))) body_more
    body_reads =
        choice_reads (has_class semicolon_sign) (image_read (λ t. EmptyBody t.place) (token_read (has_class semicolon_sign))) (alternative_read (has_class open_brace_sign) (sequence_read block_term (token_read (has_class open_brace_sign)) (braces_read s)) (image_read InstanceBody i)) EmptyOne EmptyOne (Alternation (BlockOne Ss) (ImageOf InstanceBody I)) (Alternation (BlockOne Sw) (ImageOf InstanceBody J)) body_more
        (mapped_reads (λ t. EmptyBody t.place) (token_read (has_class semicolon_sign)) (SingleToken (has_class semicolon_sign)) (SingleToken (has_class semicolon_sign)) (λ x t. false) body_more semicolon_one (λ x rest h. never_starts rest))
        (choice_reads (has_class open_brace_sign) (sequence_read block_term (token_read (has_class open_brace_sign)) (braces_read s)) (image_read InstanceBody i) (BlockOne Ss) (BlockOne Sw) (ImageOf InstanceBody I) (ImageOf InstanceBody J) body_more block_reads
        (mapped_reads InstanceBody i I J instance_more body_more ii (λ x rest h. h))
        (both_opens block_term (SingleToken (has_class open_brace_sign)) (Braces Ss) (has_class open_brace_sign) (one_opens (has_class open_brace_sign)))
        (λ x s rest h k. next_apart firsts_of_instance (open_brace_sign ∷ []) refl (s ++ rest) (mapped_opens InstanceBody I (has_class_in firsts_of_instance) oi x s rest h)))
        (mapped_opens (λ t. EmptyBody t.place) (SingleToken (has_class semicolon_sign)) (has_class semicolon_sign) (one_opens (has_class semicolon_sign)))
        (λ x s rest h k. next_apart (open_brace_sign ∷ firsts_of_instance) (semicolon_sign ∷ []) refl (s ++ rest) (instance_body_opens x s rest h))

    pub body_stops : Stops (body_over s i) body_more
    body_stops =
        choice_stops (has_class semicolon_sign) (image_read (λ t. EmptyBody t.place) (token_read (has_class semicolon_sign))) (alternative_read (has_class open_brace_sign) (sequence_read block_term (token_read (has_class open_brace_sign)) (braces_read s)) (image_read InstanceBody i)) body_more
        (mapped_stops (λ t. EmptyBody t.place) (token_read (has_class semicolon_sign)) (λ x t. false) body_more (λ ts x rest h. never_starts rest) (λ x rest h. h))
        (choice_stops (has_class open_brace_sign) (sequence_read block_term (token_read (has_class open_brace_sign)) (braces_read s)) (image_read InstanceBody i) body_more
        (both_stops block_term (token_read (has_class open_brace_sign)) (braces_read s) (λ x t. false) body_more (λ ts x rest h. never_starts rest) (λ t y rest h. h))
        (mapped_stops InstanceBody i instance_more body_more si (λ x rest h. h)))

    -- x reads an expression, m a parameter and b a body
    module _ (x : TokenReader Term) (m : TokenReader ParamTerm) (b : TokenReader BodyTerm) (X Y : Language Term) (Ps Pw : Language (List ParamTerm)) (B C : Language BodyTerm)
        (ix : IsReader x X Y (λ x. has_class_in expression_more)) (ips : IsReader (params_read m) Ps Pw (λ x. has_class_outside closes)) (some_ps : Some_of Pw) (ib : IsReader b B C body_more) (sb : Stops b body_more) (some_x : Some_of Y) (some_b : Some_of C)
        (unlike : (c : InstanceTerm) (s rest : List Token) → I c s → two (has_class name_class) (has_class assign_sign) (s ++ rest) ≡ false) (moves : (t : Token) → has_class name_class t ≡ true → rest_of (image_read InstanceStatement i (t ∷ [])) ≡ []) where
      ended_reads : IsReader (ended_read x) (Ended X) (Ended Y) (λ x t. false)
      ended_reads = before_reads x X Y semicolon_sign (λ x. has_class_in expression_more) semicolon_one (token (Symbol Semicolon)) refl ix (λ x. next_apart (semicolon_sign ∷ []) expression_more refl)

      some_ended : Some_of (Ended Y)
      some_ended = some_before Y semicolon_sign (token (Symbol Semicolon)) refl some_x

      valued_reads : IsReader (sequence_read second_of (token_read (has_class assign_sign)) (ended_read x)) (AfterToken (has_class assign_sign) (Ended X)) (AfterToken (has_class assign_sign) (Ended Y)) (λ x t. false)
      valued_reads = then (ended_read x) (Ended X) (Ended Y) (has_class assign_sign) (λ x t. false) (λ x t. false) second_of assign_one ended_reads some_ended (λ t y rest h. h)

      some_valued : Some_of (AfterToken (has_class assign_sign) (Ended Y))
      some_valued = (token (Symbol Assign) ∷ some_ended.0, some_ended.1, (token (Symbol Assign), some_ended.1, token (Symbol Assign) ∷ [], some_ended.0, (refl, refl), some_ended.2, refl, refl))

      in_reads : IsReader (in_parentheses (params_read m)) (InParentheses Ps) (InParentheses Pw) (λ x t. false)
      in_reads = in_parentheses_reads (params_read m) Ps Pw (λ x. has_class_outside closes) ips some_ps (λ x. close_ends closes)

      signed_reads : {A : Type 0} (r : TokenReader A) (L W : Language A) (more : A → Token → Bool) → IsReader r L W more → Some_of W → IsReader (sequence_read pair_of (in_parentheses (params_read m)) r) (Signed Ps L) (Signed Pw W) (λ p. more p.1)
      signed_reads r L W more ir some = both_reads pair_of (in_parentheses (params_read m)) r (InParentheses Ps) (InParentheses Pw) L W (λ x t. false) more (λ p. more p.1) in_reads ir some (λ x y s rest h k. never_starts (s ++ rest)) (λ x y rest h. h)

      called_reads : {A : Type 0} (r : TokenReader A) (L W : Language A) (more : A → Token → Bool) → IsReader r L W more → Some_of W → IsReader (sequence_read pair_of (token_read (has_class name_class)) r) (Concatenation pair_of (SingleToken (has_class name_class)) L) (Concatenation pair_of (SingleToken (has_class name_class)) W) (λ p. more p.1)
      called_reads r L W more ir some = then r L W (has_class name_class) more (λ p. more p.1) pair_of name_one ir some (λ t y rest h. h)

      module_reads : IsReader (module_read m b) (ModuleForm Ps B) (ModuleForm Pw C) statement_more
      module_reads =
          then (sequence_read pair_of (token_read (has_class name_class)) (sequence_read pair_of (in_parentheses (params_read m)) b)) (Concatenation pair_of (SingleToken (has_class name_class)) (Signed Ps B)) (Concatenation pair_of (SingleToken (has_class name_class)) (Signed Pw C)) (has_class module_word) (λ p. body_more p.1.1) statement_more module_term module_one
          (called_reads (sequence_read pair_of (in_parentheses (params_read m)) b) (Signed Ps B) (Signed Pw C) (λ p. body_more p.1) (signed_reads b B C body_more ib some_b) (some_signed Pw C some_ps some_b))
          (some_called (Signed Pw C) (some_signed Pw C some_ps some_b)) (λ t y rest h. h)

      function_reads : IsReader (function_read x m) (FunctionForm X Ps) (FunctionForm Y Pw) statement_more
      function_reads =
          then (sequence_read pair_of (token_read (has_class name_class)) (sequence_read pair_of (in_parentheses (params_read m)) (sequence_read second_of (token_read (has_class assign_sign)) (ended_read x)))) (Concatenation pair_of (SingleToken (has_class name_class)) (Signed Ps (AfterToken (has_class assign_sign) (Ended X)))) (Concatenation pair_of (SingleToken (has_class name_class)) (Signed Pw (AfterToken (has_class assign_sign) (Ended Y)))) (has_class function_word) (λ p t. false) statement_more function_term function_one
          (called_reads (sequence_read pair_of (in_parentheses (params_read m)) (sequence_read second_of (token_read (has_class assign_sign)) (ended_read x))) (Signed Ps (AfterToken (has_class assign_sign) (Ended X))) (Signed Pw (AfterToken (has_class assign_sign) (Ended Y))) (λ p t. false)
          (signed_reads (sequence_read second_of (token_read (has_class assign_sign)) (ended_read x)) (AfterToken (has_class assign_sign) (Ended X)) (AfterToken (has_class assign_sign) (Ended Y)) (λ x t. false) valued_reads some_valued) (some_signed Pw (AfterToken (has_class assign_sign) (Ended Y)) some_ps some_valued))
          (some_called (Signed Pw (AfterToken (has_class assign_sign) (Ended Y))) (some_signed Pw (AfterToken (has_class assign_sign) (Ended Y)) some_ps some_valued)) (λ t y rest h. h)

      instance_statement : IsReader (image_read InstanceStatement i) (ImageOf InstanceStatement I) (ImageOf InstanceStatement J) statement_more
      instance_statement = mapped_reads InstanceStatement i I J instance_more statement_more ii (λ x rest h. h)

      function_or_instance : Opens (Alternation (FunctionForm X Ps) (ImageOf InstanceStatement I)) (has_class_in (function_word ∷ firsts_of_instance))
      function_or_instance =
          either_opens (FunctionForm X Ps) (ImageOf InstanceStatement I) (has_class_in (function_word ∷ firsts_of_instance))
          (λ x s rest h. next_within (function_word ∷ []) (function_word ∷ firsts_of_instance) refl (s ++ rest) (function_opens X Ps x s rest h))
          (λ x s rest h. next_within firsts_of_instance (function_word ∷ firsts_of_instance) refl (s ++ rest) (mapped_opens InstanceStatement I (has_class_in firsts_of_instance) oi x s rest h))

      definition_reads : IsReader (definition_read x m b i) (Definition X Ps B I) (Definition Y Pw C J) statement_more
      definition_reads =
          choice_reads (has_class module_word) (module_read m b) (alternative_read (has_class function_word) (function_read x m) (image_read InstanceStatement i)) (ModuleForm Ps B) (ModuleForm Pw C) (Alternation (FunctionForm X Ps) (ImageOf InstanceStatement I)) (Alternation (FunctionForm Y Pw) (ImageOf InstanceStatement J)) statement_more
          module_reads
          (choice_reads (has_class function_word) (function_read x m) (image_read InstanceStatement i) (FunctionForm X Ps) (FunctionForm Y Pw) (ImageOf InstanceStatement I) (ImageOf InstanceStatement J) statement_more function_reads instance_statement
          (function_opens X Ps)
          (λ x s rest h k. next_apart firsts_of_instance (function_word ∷ []) refl (s ++ rest) (mapped_opens InstanceStatement I (has_class_in firsts_of_instance) oi x s rest h)))
          (module_opens Ps B)
          (λ x s rest h k. next_apart (function_word ∷ firsts_of_instance) (module_word ∷ []) refl (s ++ rest) (function_or_instance x s rest h))

      definition_unlike : (c : StatementTerm) (s rest : List Token) → Definition X Ps B I c s → two (has_class name_class) (has_class assign_sign) (s ++ rest) ≡ false
      definition_unlike c s rest (inl h) = two_not (name_class ∷ []) (s ++ rest) (next_apart (module_word ∷ []) (name_class ∷ []) refl (s ++ rest) (module_opens Ps B c s rest h))
      definition_unlike c s rest (inr (inl h)) = two_not (name_class ∷ []) (s ++ rest) (next_apart (function_word ∷ []) (name_class ∷ []) refl (s ++ rest) (function_opens X Ps c s rest h))
      definition_unlike c s rest (inr (inr h)) = unlike h.0 s rest h.1

      definition_moves : (t : Token) → has_class name_class t ≡ true → rest_of (definition_read x m b i (t ∷ [])) ≡ []
      definition_moves t h =
          ap rest_of (choice_second (has_class module_word) (module_read m b) (alternative_read (has_class function_word) (function_read x m) (image_read InstanceStatement i)) (t ∷ []) (next_apart (name_class ∷ []) (module_word ∷ []) refl (t ∷ []) h))
          ∙ ap rest_of (choice_second (has_class function_word) (function_read x m) (image_read InstanceStatement i) (t ∷ []) (next_apart (name_class ∷ []) (function_word ∷ []) refl (t ∷ []) h))
          ∙ moves t h

      named_to : (Z : Language Term) (D : Language StatementTerm) (c : StatementTerm) (s : List Token) → Ahead assignment_of_tokens (has_class name_class) (has_class assign_sign) (Ended Z) D c s → Alternation (Assigned Z) D c s
      named_to Z D c s (inl h) = inl (two_to assignment_term (has_class name_class) (has_class assign_sign) (Ended Z) c s h)
      named_to Z D c s (inr h) = inr h

      named_from : (Z : Language Term) (D : Language StatementTerm) (c : StatementTerm) (s : List Token) → Alternation (Assigned Z) D c s → Ahead assignment_of_tokens (has_class name_class) (has_class assign_sign) (Ended Z) D c s
      named_from Z D c s (inl h) = inl (two_from assignment_term (has_class name_class) (has_class assign_sign) (Ended Z) c s h)
      named_from Z D c s (inr h) = inr h

      named_reads : IsReader (two_ahead assignment_of_tokens (has_class name_class) (has_class assign_sign) (ended_read x) (definition_read x m b i)) (Alternation (Assigned X) (Definition X Ps B I)) (Alternation (Assigned Y) (Definition Y Pw C J)) statement_more
      named_reads =
          same_reads (two_ahead assignment_of_tokens (has_class name_class) (has_class assign_sign) (ended_read x) (definition_read x m b i)) (Ahead assignment_of_tokens (has_class name_class) (has_class assign_sign) (Ended X) (Definition X Ps B I)) (Ahead assignment_of_tokens (has_class name_class) (has_class assign_sign) (Ended Y) (Definition Y Pw C J)) (Alternation (Assigned X) (Definition X Ps B I)) (Alternation (Assigned Y) (Definition Y Pw C J)) statement_more
          (ahead_reads assignment_of_tokens (has_class name_class) (has_class assign_sign) (ended_read x) (definition_read x m b i) (Ended X) (Ended Y) (Definition X Ps B I) (Definition Y Pw C J) (λ x t. false) statement_more ended_reads definition_reads
          (λ t u x rest h. h) definition_moves (λ c s rest h k. definition_unlike c s rest h))
          (named_to X (Definition X Ps B I)) (named_from X (Definition X Ps B I)) (named_to Y (Definition Y Pw C J))

      special_reads : IsReader (special_read x) (SpecialAssigned X) (SpecialAssigned Y) statement_more
      special_reads =
          then (sequence_read second_of (token_read (has_class assign_sign)) (ended_read x)) (AfterToken (has_class assign_sign) (Ended X)) (AfterToken (has_class assign_sign) (Ended Y)) (has_class special_class) (λ x t. false) statement_more special_assignment_term special_one valued_reads some_valued (λ t y rest h. h)

      assigned_reads : IsReader (alternative_read (has_class special_class) (special_read x) (two_ahead assignment_of_tokens (has_class name_class) (has_class assign_sign) (ended_read x) (definition_read x m b i))) (Valued X Ps B I) (Valued Y Pw C J) statement_more
      assigned_reads =
          choice_reads (has_class special_class) (special_read x) (two_ahead assignment_of_tokens (has_class name_class) (has_class assign_sign) (ended_read x) (definition_read x m b i)) (SpecialAssigned X) (SpecialAssigned Y) (Alternation (Assigned X) (Definition X Ps B I)) (Alternation (Assigned Y) (Definition Y Pw C J)) statement_more
          special_reads named_reads (special_opens X)
          (λ x s rest h k. next_apart bare_firsts (special_class ∷ []) refl (s ++ rest) (named_opens X Ps B I oi x s rest h))

      bare_reads : IsReader (sequence_read bare_block_term (token_read (has_class open_brace_sign)) (braces_read s)) (BareBlock Ss) (BareBlock Sw) statement_more
      bare_reads = then (braces_read s) (Braces Ss) (Braces Sw) (has_class open_brace_sign) (λ x t. false) statement_more bare_block_term open_brace_one braces_reads some_braces (λ t y rest h. h)

      pub statement_reads : IsReader (statement_over x m s b i) (Alternation Empty (Alternation (BareBlock Ss) (Valued X Ps B I))) (Alternation Empty (Alternation (BareBlock Sw) (Valued Y Pw C J))) statement_more
      statement_reads =
          choice_reads (has_class semicolon_sign) (image_read (λ t. EmptyStatement t.place) (token_read (has_class semicolon_sign))) (alternative_read (has_class open_brace_sign) (sequence_read bare_block_term (token_read (has_class open_brace_sign)) (braces_read s)) (alternative_read (has_class special_class) (special_read x) (two_ahead assignment_of_tokens (has_class name_class) (has_class assign_sign) (ended_read x) (definition_read x m b i))))
          Empty Empty (Alternation (BareBlock Ss) (Valued X Ps B I)) (Alternation (BareBlock Sw) (Valued Y Pw C J)) statement_more
          (mapped_reads (λ t. EmptyStatement t.place) (token_read (has_class semicolon_sign)) (SingleToken (has_class semicolon_sign)) (SingleToken (has_class semicolon_sign)) (λ x t. false) statement_more semicolon_one (λ x rest h. h))
          (choice_reads (has_class open_brace_sign) (sequence_read bare_block_term (token_read (has_class open_brace_sign)) (braces_read s)) (alternative_read (has_class special_class) (special_read x) (two_ahead assignment_of_tokens (has_class name_class) (has_class assign_sign) (ended_read x) (definition_read x m b i))) (BareBlock Ss) (BareBlock Sw) (Valued X Ps B I) (Valued Y Pw C J) statement_more
          bare_reads assigned_reads (bare_opens Ss)
          (λ x s rest h k. next_apart valued_firsts (open_brace_sign ∷ []) refl (s ++ rest) (valued_opens X Ps B I oi x s rest h)))
          empty_opens
          (λ x s rest h k. next_apart block_firsts (semicolon_sign ∷ []) refl (s ++ rest) (block_opens X Ps Ss B I oi x s rest h))

-- a token that may begin something begins it, where an expression and a body stand one deeper
module _ (E : Language Term) (As : Language (List ArgTerm)) (Ns : Language (List BinderTerm)) (B : Language BodyTerm) (some_e : Some_of E) (some_as : Some_of As) (some_ns : Some_of Ns) (some_b : Some_of B) where
  pub begins_core : (t : Token) → has_class_in firsts_of_core t ≡ true → IsPrefixIn (CoreOf E As Ns B) (t ∷ [])
  begins_core t h =
      elim (either_listed (if_word ∷ []) (for_word ∷ intersection_for_word ∷ name_class ∷ []) (token_class t.kind) h) [
        | inl a ↦ let k = some_headed B E some_b some_e in
            (k.0, if_term (t, k.1) None, inl ((t, k.1), None, t ∷ k.0, [], (t, k.1, t ∷ [], k.0, (a, refl), k.2, refl, refl), refl, tt, refl, sym (append-nil (t ∷ k.0))))
        | inr h ↦ elim (either_listed loop_words (name_class ∷ []) (token_class t.kind) h) [
          | inl a ↦ let k = some_headed B Ns some_b some_ns in (k.0, loop_term t k.1, inr (inl (t, k.1, t ∷ [], k.0, (a, refl), k.2, refl, refl)))
          | inr a ↦ let k = some_headed B As some_b some_as in (k.0, call_term t k.1, inr (inr (t, k.1, t ∷ [], k.0, (a, refl), k.2, refl, refl)))
        ]
      ]

  pub begins_instance : (t : Token) → has_class_in firsts_of_instance t ≡ true → IsPrefixIn (Instance E As Ns B) (t ∷ [])
  begins_instance t h =
      elim (either_listed modifier_signs firsts_of_core (token_class t.kind) h) [
        | inl a ↦ let k = some_core E As Ns B some_as some_b in (k.0, instance_term (modifier_term t ∷ []) k.1, (modifier_term t ∷ [], k.1, t ∷ [], k.0, (t ∷ [], [], (t, (a, refl), refl), refl, refl), k.2, refl, refl))
        | inr a ↦ let k = begins_core t a in (k.0, instance_term [] k.1, ([], k.1, [], t ∷ k.0, refl, k.2, refl, refl))
      ]

  module _ (Ss : Language (List StatementTerm)) (some_ss : Some_of Ss) where
    braces : Some_of (Braces Ss)
    braces = some_before Ss close_brace_sign (token (Symbol CloseBrace)) refl some_ss

    pub begins_body : (t : Token) → has_class_in firsts_of_body t ≡ true → IsPrefixIn (BodyOf (Instance E As Ns B) Ss) (t ∷ [])
    begins_body t h =
        elim (either_listed (semicolon_sign ∷ []) (open_brace_sign ∷ firsts_of_instance) (token_class t.kind) h) [
          | inl a ↦ ([], EmptyBody t.place, inl (t, (a, refl), refl))
          | inr h ↦ elim (either_listed (open_brace_sign ∷ []) firsts_of_instance (token_class t.kind) h) [
            | inl a ↦ (braces.0, block_term t braces.1, inr (inl (t, braces.1, t ∷ [], braces.0, (a, refl), braces.2, refl, refl)))
            | inr a ↦ let k = begins_instance t a in (k.0, InstanceBody k.1, inr (inr (k.1, k.2, refl)))
          ]
        ]

    module _ (X : Language Term) (Ps : Language (List ParamTerm)) (some_x : Some_of X) (some_ps : Some_of Ps) where
      some_value : Some_of (AfterToken (has_class assign_sign) (Ended X))
      some_value =
          let k = some_before X semicolon_sign (token (Symbol Semicolon)) refl some_x in
          (token (Symbol Assign) ∷ k.0, k.1, (token (Symbol Assign), k.1, token (Symbol Assign) ∷ [], k.0, (refl, refl), k.2, refl, refl))

      pub begins_statement : (t : Token) → has_class_in firsts_of_statement t ≡ true → IsPrefixIn (StatementOf X Ps (Instance E As Ns B) Ss B) (t ∷ [])
      begins_statement t h =
          elim (either_listed (module_word ∷ []) (function_word ∷ special_class ∷ firsts_of_body) (token_class t.kind) h) [
            | inl a ↦ let k = some_called (Signed Ps B) (some_signed Ps B some_ps some_b) in (k.0, module_term t k.1, inr (inr (inr (inr (inl (t, k.1, t ∷ [], k.0, (a, refl), k.2, refl, refl))))))
            | inr h ↦ elim (either_listed (function_word ∷ []) (special_class ∷ firsts_of_body) (token_class t.kind) h) [
              | inl a ↦ let k = some_called (Signed Ps (AfterToken (has_class assign_sign) (Ended X))) (some_signed Ps (AfterToken (has_class assign_sign) (Ended X)) some_ps some_value) in (k.0, function_term t k.1, inr (inr (inr (inr (inr (inl (t, k.1, t ∷ [], k.0, (a, refl), k.2, refl, refl)))))))
              | inr h ↦ elim (either_listed (special_class ∷ []) firsts_of_body (token_class t.kind) h) [
                | inl a ↦ (some_value.0, special_assignment_term t some_value.1, inr (inr (inl (t, some_value.1, t ∷ [], some_value.0, (a, refl), some_value.2, refl, refl))))
                | inr h ↦ elim (either_listed (semicolon_sign ∷ []) (open_brace_sign ∷ firsts_of_instance) (token_class t.kind) h) [
                  | inl a ↦ ([], EmptyStatement t.place, inl (t, (a, refl), refl))
                  | inr h ↦ elim (either_listed (open_brace_sign ∷ []) firsts_of_instance (token_class t.kind) h) [
                    | inl a ↦ (braces.0, bare_block_term t braces.1, inr (inl (t, braces.1, t ∷ [], braces.0, (a, refl), braces.2, refl, refl)))
                    | inr a ↦ let k = begins_instance t a in (k.0, InstanceStatement k.1, inr (inr (inr (inr (inr (inr (k.1, k.2, refl)))))))
                  ]
                ]
              ]
            ]
          ]

-- the parts of a statement at each depth
abbrev pub BindersAt : Detail → ℕ → Language (List BinderTerm)
BindersAt g d = BindersIn g d (Expr g d)

abbrev pub ParamsAt : Detail → ℕ → Language (List ParamTerm)
ParamsAt g d = ParamsIn d (Expr g d)

abbrev pub StatementsAt : Detail → ℕ → Language (List StatementTerm)
StatementsAt g d = StatementsIn d (Statement g d)

abbrev semicolon : Token
semicolon = token (Symbol Semicolon)

pub some_body : (g : Detail) (d : ℕ) → Some_of (Body g (suc d))
unfolding Statement Body
some_body g d = (semicolon ∷ [], EmptyBody semicolon.place, inl (semicolon, (refl, refl), refl))

some_statement : (g : Detail) (d : ℕ) → Some_of (Statement g (suc d))
unfolding Statement Body
some_statement g d = (semicolon ∷ [], EmptyStatement semicolon.place, inl (semicolon, (refl, refl), refl))

pub some_params_at : (g : Detail) (d : ℕ) → Some_of (ParamsAt g d)
some_params_at g zero = ([], [], (refl, refl))
some_params_at g (suc d) = ([], [], inr (refl, refl))

pub some_binders_at : (g : Detail) (d : ℕ) → Some_of (BindersAt g (suc d))
some_binders_at g d = some_binders (Expr g (suc d)) (some_expr g d)

pub some_statements : (g : Detail) (d : ℕ) → Some_of (StatementsAt g d)
some_statements g zero = ([], [], (refl, refl))
some_statements g (suc d) = ([], [], refl)

-- where no parameter, variable or statement fits any more
no_params : (Q : Language (List ParamTerm)) → IsReader (params_read (nested_read (name_class ∷ []) left_out_classes)) (Params EmptyLanguage) Q (λ x. has_class_outside closes) → IsReader (params_read (nested_read (name_class ∷ []) left_out_classes)) (EmptySequence []) Q (λ x. has_class_outside closes)
no_params Q i = same_reads (params_read (nested_read (name_class ∷ []) left_out_classes)) (Params EmptyLanguage) Q (EmptySequence []) Q (λ x. has_class_outside closes) i none (λ x s h. inr h) (λ x s h. h)
  where
    none : (x : List ParamTerm) (s : List Token) → Params EmptyLanguage x s → EmptySequence [] x s
    none x s (inl h) = elim h.4.4 [ ]
    none x s (inr h) = h

no_binders : (Q : Language (List BinderTerm)) → IsReader (binders_read (nested_read (name_class ∷ []) left_out_classes)) (Binders EmptyLanguage) Q (λ x. has_class_outside closes) → IsReader (binders_read (nested_read (name_class ∷ []) left_out_classes)) EmptyLanguage Q (λ x. has_class_outside closes)
no_binders Q i = same_reads (binders_read (nested_read (name_class ∷ []) left_out_classes)) (Binders EmptyLanguage) Q EmptyLanguage Q (λ x. has_class_outside closes) i (λ x s h. elim h.4.4.5.5 [ ]) (λ x s h. elim h [ ]) (λ x s h. h)

no_statements : (r : TokenReader StatementTerm) (Q : Language (List StatementTerm)) → IsReader (repeated_read (has_class_in firsts_of_statement) r) (Repetition EmptyLanguage) Q (λ xs. has_class_in statements_more) → IsReader (repeated_read (has_class_in firsts_of_statement) r) (EmptySequence []) Q (λ xs. has_class_in statements_more)
no_statements r Q i = same_reads (repeated_read (has_class_in firsts_of_statement) r) (Repetition EmptyLanguage) Q (EmptySequence []) Q (λ xs. has_class_in statements_more) i none some (λ x s h. h)
  where
    none : (x : List StatementTerm) (s : List Token) → Repetition EmptyLanguage x s → EmptySequence [] x s
    none [] s h = (refl, h)
    none (x ∷ xs) s h = elim h.2 [ ]

    some : (x : List StatementTerm) (s : List Token) → EmptySequence [] x s → Repetition EmptyLanguage x s
    some [] s h = h.1
    some (x ∷ xs) s h = absurd (let e = h.0 in cc)

statements_in_reads : (d : ℕ) (s : TokenReader StatementTerm) (R : Language StatementTerm) → IsReader s (Statement without_gaps d) R statement_more → IsReader (repeated_read (has_class_in firsts_of_statement) s) (StatementsAt without_gaps d) (Repetition R) (λ xs. has_class_in statements_more)
unfolding Statement Body
statements_in_reads zero s R i = no_statements s (Repetition R) (statements_reads s (Statement without_gaps zero) R i (statement_at_opens without_gaps zero))
statements_in_reads (suc d) s R i = statements_reads s (Statement without_gaps (suc d)) R i (statement_at_opens without_gaps (suc d))

params_in_reads : (d : ℕ) → IsReader (params_read (param_in d (expr_read d))) (ParamsAt without_gaps d) (ParamsAt without_gaps (suc (suc d))) (λ x. has_class_outside closes)
params_in_reads zero =
    no_params (ParamsAt without_gaps 2)
    (params_reads (nested_read (name_class ∷ []) left_out_classes) EmptyLanguage (Param (ExprIn 2))
    (nested_reads (name_class ∷ []) left_out_classes EmptyLanguage (Param (ExprIn 2)) (λ x. has_class_in arg_more) (λ x s h. h)
    (λ t h. ([], param_term t None, (t, None, t ∷ [], [], (h, refl), refl, refl, refl)))
    (token (Name []) ∷ [], param_term (token (Name [])) None, (token (Name []), None, token (Name []) ∷ [], [], (refl, refl), refl, refl, refl))) (λ x s rest h. elim h [ ]))
params_in_reads (suc d) = params_reads (param_read (expr_read (suc d))) (Param (ExprIn (suc d))) (Param (ExprIn (suc (suc (suc d))))) (param_reads (expr_read (suc d)) (ExprIn (suc d)) (ExprIn (suc (suc (suc d)))) (depth_reads (suc d)).0 (some_expr without_gaps (suc (suc d)))) (param_opens (ExprIn (suc d)))

begun_binder : (F : Language Term) → Some_of F → (t : Token) → has_class name_class t ≡ true → IsPrefixIn (Binder F) (t ∷ [])
begun_binder F some t h =
    let u : Token = token (Symbol Assign) in
    (u ∷ some.0, binder_term t some.1, (t, some.1, t ∷ [], u ∷ some.0, (h, refl), (u, some.1, u ∷ [], some.0, (refl, refl), some.2, refl, refl), refl, refl))

binders_in_reads : (d : ℕ) → IsReader (binders_read (binder_in d (expr_read d))) (BindersAt without_gaps d) (BindersAt without_gaps (suc (suc d))) (λ x. has_class_outside closes)
binders_in_reads zero =
    let k = begun_binder (ExprIn 2) (some_expr without_gaps 1) (token (Name [])) refl in
    no_binders (BindersAt without_gaps 2)
    (binders_reads (nested_read (name_class ∷ []) left_out_classes) EmptyLanguage (ExprIn 2)
    (nested_reads (name_class ∷ []) left_out_classes (Binder EmptyLanguage) (Binder (ExprIn 2)) (λ x. has_class_in expression_more) (λ x s h. h.5.5) (begun_binder (ExprIn 2) (some_expr without_gaps 1)) (token (Name []) ∷ k.0, k.1, k.2)))
binders_in_reads (suc d) = binders_reads (binder_read (expr_read (suc d))) (ExprIn (suc d)) (ExprIn (suc (suc (suc d)))) (binder_reads (expr_read (suc d)) (ExprIn (suc d)) (ExprIn (suc (suc (suc d)))) (depth_reads (suc d)).0 (some_expr without_gaps (suc (suc d))))

instance_in_reads : (d : ℕ) (b : TokenReader BodyTerm) (B C : Language BodyTerm) → IsReader b B C body_more → Stops b body_more → Some_of C → IsReader (instance_in d b) (InstanceIn without_gaps d B) (InstanceIn without_gaps (suc (suc d)) C) instance_more
instance_in_reads d b B C ib sb some =
    instance_reads b B C ib sb some (expr_read d) (arg_in d (expr_read d)) (binders_read (binder_in d (expr_read d))) (ExprIn d) (ExprIn (suc (suc d))) (ArgsAt without_gaps d) (ArgsAt without_gaps (suc (suc d))) (BindersAt without_gaps d) (BindersAt without_gaps (suc (suc d)))
    (depth_reads d).0 (depth_reads d).2 (binders_in_reads d) (some_expr without_gaps (suc d)) (some_args without_gaps (suc (suc d))) (some_binders_at without_gaps (suc d))

instance_in_stops : (d : ℕ) (b : TokenReader BodyTerm) (B C : Language BodyTerm) → IsReader b B C body_more → Stops b body_more → Some_of C → Stops (instance_in d b) instance_more
instance_in_stops d b B C ib sb some =
    instance_stops b B C ib sb some (expr_read d) (arg_in d (expr_read d)) (binders_read (binder_in d (expr_read d))) (ExprIn d) (ExprIn (suc (suc d))) (ArgsAt without_gaps d) (ArgsAt without_gaps (suc (suc d))) (BindersAt without_gaps d) (BindersAt without_gaps (suc (suc d)))
    (depth_reads d).0 (depth_reads d).2 (binders_in_reads d) (some_expr without_gaps (suc d)) (some_args without_gaps (suc (suc d))) (some_binders_at without_gaps (suc d))

-- What is read at a depth is in the grammar of that depth, and what is taken before a fault begins something that is at most
-- two deeper.
pub statement_depth_reads : (d : ℕ) → IsReader (statement_read d) (Statement without_gaps d) (Statement without_gaps (suc (suc d))) statement_more × IsReader (body_read d) (Body without_gaps d) (Body without_gaps (suc (suc d))) body_more × Stops (body_read d) body_more
unfolding Statement Body statement_read body_read
statement_depth_reads zero = (
  nested_reads firsts_of_statement left_out_classes EmptyLanguage (Statement without_gaps 2) statement_more (λ x s h. h)
      (begins_statement (ExprIn 1) (ArgsAt without_gaps 1) (BindersAt without_gaps 1) (Body without_gaps 1) (some_expr without_gaps 0) (some_args without_gaps 1) (some_binders_at without_gaps 0) (some_body without_gaps 0) (StatementsAt without_gaps 1) (some_statements without_gaps 1) (ExprIn 2) (ParamsAt without_gaps 1) (some_expr without_gaps 1) (some_params_at without_gaps 1)) (some_statement without_gaps 1),
  nested_reads firsts_of_body left_out_classes EmptyLanguage (Body without_gaps 2) body_more (λ x s h. h)
      (begins_body (ExprIn 1) (ArgsAt without_gaps 1) (BindersAt without_gaps 1) (Body without_gaps 1) (some_expr without_gaps 0) (some_args without_gaps 1) (some_binders_at without_gaps 0) (some_body without_gaps 0) (StatementsAt without_gaps 1) (some_statements without_gaps 1)) (some_body without_gaps 1),
  nested_stops,
)
  where
    nested_stops : Stops (nested_read {A = BodyTerm} firsts_of_body left_out_classes) body_more
    nested_stops ts x rest e = never (next_is (has_class_in firsts_of_body) ts) e
      where
        never : (v : Bool) → cond {A = Read Token SyntaxFault BodyTerm} v (Err (Nested, ts)) (Err (fault_of left_out_classes (head_of ts), ts)) ≡ Ok (x, rest) → next_is (body_more x) rest ≡ false
        never true e = absurd (cc)
        never false e = absurd (cc)
statement_depth_reads (suc d) =
    let below = statement_depth_reads d in
    let some : Some_of (Body without_gaps (suc (suc d))) = some_body without_gaps (suc d) in
    let ii = instance_in_reads d (body_read d) (Body without_gaps d) (Body without_gaps (suc (suc d))) below.1 below.2 some in
    let si = instance_in_stops d (body_read d) (Body without_gaps d) (Body without_gaps (suc (suc d))) below.1 below.2 some in
    let inner = statements_in_reads d (statement_read d) (Statement without_gaps (suc (suc d))) below.0 in (
      statement_reads (statement_read d) (StatementsAt without_gaps d) (StatementsAt without_gaps (suc (suc d))) inner (some_statements without_gaps (suc (suc d))) (instance_in d (body_read d)) (InstanceAt without_gaps d) (InstanceAt without_gaps (suc (suc d))) ii si (instance_depth_opens without_gaps d)
          (expr_read (suc d)) (param_in d (expr_read d)) (body_read d) (ExprIn (suc d)) (ExprIn (suc (suc (suc d)))) (ParamsAt without_gaps d) (ParamsAt without_gaps (suc (suc d))) (Body without_gaps d) (Body without_gaps (suc (suc d)))
          (depth_reads (suc d)).0 (params_in_reads d) (some_params_at without_gaps (suc (suc d))) below.1 below.2 (some_expr without_gaps (suc (suc d))) some (instance_unlike (ExprIn d) (ArgsAt without_gaps d) (BindersAt without_gaps d) (Body without_gaps d)) (statement_moves (expr_read d) (arg_in d (expr_read d)) (binders_read (binder_in d (expr_read d))) (body_read d)),
      body_reads (statement_read d) (StatementsAt without_gaps d) (StatementsAt without_gaps (suc (suc d))) inner (some_statements without_gaps (suc (suc d))) (instance_in d (body_read d)) (InstanceAt without_gaps d) (InstanceAt without_gaps (suc (suc d))) ii si (instance_depth_opens without_gaps d),
      body_stops (statement_read d) (StatementsAt without_gaps d) (StatementsAt without_gaps (suc (suc d))) inner (some_statements without_gaps (suc (suc d))) (instance_in d (body_read d)) (InstanceAt without_gaps d) (InstanceAt without_gaps (suc (suc d))) ii si (instance_depth_opens without_gaps d),
    )

-- a program is read
pub program_reads : (d : ℕ) → IsReader (program_read d) (WholeProgram d) (WholeProgram (suc (suc d))) (λ x t. false)
program_reads d =
    before_reads (repeated_read (has_class_in firsts_of_statement) (statement_read d)) (Repetition (Statement without_gaps d)) (Repetition (Statement without_gaps (suc (suc d)))) end_class (λ x. has_class_in statements_more) end_one (token End) refl
    (statements_reads (statement_read d) (Statement without_gaps d) (Statement without_gaps (suc (suc d))) (statement_depth_reads d).0 (statement_at_opens without_gaps d)) (λ x. next_apart (end_class ∷ []) statements_more refl)
