-- Outlines are read as programs are, but where a program's reader runs out of depth a gap is read.
use Rattle.std.proofs.Common.{◌≡◌, ℕ, zero, suc, List, [], ◌∷◌, ◌++◌, Bool, true, false, cond, Ok, Err, Some, refl, sym, ap, ◌∙◌, subst}
use Rattle.scad_lexer.specs.declared.token.Token.{Token}
use Rattle.scad_lexer.specs.declared.token.TokenKind.TheVariants.{Symbol, End}
use Rattle.scad_lexer.specs.declared.token.Symbol.TheVariants.{Caret}
use Rattle.scad_ast.specs.Terms.{Term, ArgTerm, ParamTerm, BinderTerm, StatementTerm, InstanceTerm, BodyTerm, EmptyBody, UndefTerm}
use Rattle.scad_grammar.specs.Classes.{caret_sign, name_class, end_class, close_parenthesis_sign, has_class_in, has_class, has_class_outside}
use Rattle.scad_grammar.specs.Languages.{SingleToken, EmptySequence, Repetition, first_of}
use Rattle.scad_grammar.specs.Grammar.{with_gaps, Gap, Expr, Operand, Statement, Body, ProgramWithGaps, Param}
use Rattle.scad_grammar.specs.Reading.{next_is, token_or_fault_read, image_read, sequence_read, repeated_read, repeated_times}
use Rattle.scad_grammar.specs.Faults.{TokenReader, token_read, fault_of, left_out_classes, left_out_of_expressions}
use Rattle.scad_grammar.specs.Reads.{head_of, arg_read, args_read, primary_read, unary_read, choice_read}
use Rattle.scad_grammar.specs.StatementReads.{firsts_of_statement, param_read, binder_read, params_read, binders_read, statement_over, body_over}
use Rattle.scad_grammar.proofs.lemmas.Readers.{same_reads, SameHead, Told, IsReader, same_start, plain_seen, seen, one_reads, mapped_reads, never_starts}
use Rattle.scad_grammar.proofs.lemmas.Wider.{none_many}
use Rattle.scad_grammar.proofs.Greedy.{Stops, mapped_stops}
use Rattle.scad_grammar.proofs.Tests.{fault_plain, next_apart, next_less, no_close}
use Rattle.scad_grammar.proofs.Operands.{token, operand_more}
use Rattle.scad_grammar.proofs.Primary.{Some_of, before_reads}
use Rattle.scad_grammar.proofs.lemmas.Expressions.{ArgsAt, expression_more, expr_opens, some_expr, some_operand, some_args, choice_read_reads, operand_reads, arg_reads, args_over, alone_name, choice_unlike}
use Rattle.scad_grammar.proofs.Cores.{body_more, instance_more, instance_over, instance_reads, instance_stops, instance_unlike, params_reads, param_reads, param_opens, binder_reads, binders_reads, statement_moves}
use Rattle.scad_grammar.proofs.lemmas.Statements.{InstanceAt, BindersAt, ParamsAt, StatementsAt, statements_more, end_one, some_body, some_params_at, some_binders_at, some_statements, instance_depth_opens, statement_at_opens, statements_reads, statement_reads, body_reads, body_stops}

-- nothing is read: the next token is refused
abbrev pub refusal : {A : Type 0} → List ℕ → TokenReader A
refusal classes ts = Err (fault_of classes (head_of ts), ts)

-- a gap
abbrev pub gap : {A : Type 0} → (Token → A) → List ℕ → TokenReader A
gap f classes = image_read f (token_or_fault_read (has_class caret_sign) (fault_of classes))

-- what outlines are read by; each as deep as the program's reader of its name
abbrev pub open_arg : ℕ → TokenReader Term → TokenReader ArgTerm
open_arg zero e = refusal left_out_of_expressions
open_arg (suc d) e = arg_read e

abbrev pub open_param : ℕ → TokenReader Term → TokenReader ParamTerm
open_param zero e = refusal left_out_classes
open_param (suc d) e = param_read e

abbrev pub open_binders : ℕ → TokenReader Term → TokenReader (List BinderTerm)
open_binders zero e = gap (λ t. []) left_out_classes
open_binders (suc d) e = binders_read (binder_read e)

unfoldable mutual
  pub open_expr : ℕ → TokenReader Term
  open_expr zero = gap (λ t. UndefTerm t.place) left_out_of_expressions
  open_expr (suc d) = choice_read (open_expr d) (open_operand d) (primary_read (open_expr d) (open_arg d (open_expr d)))

  pub open_operand : ℕ → TokenReader Term
  open_operand zero = gap (λ t. UndefTerm t.place) left_out_of_expressions
  open_operand (suc d) = unary_read (open_expr d) (open_operand d) (primary_read (open_expr d) (open_arg d (open_expr d)))

abbrev pub open_instance : ℕ → TokenReader BodyTerm → TokenReader InstanceTerm
open_instance d b = instance_over (open_expr d) (open_arg d (open_expr d)) (open_binders d (open_expr d)) b

unfoldable mutual
  pub open_statement : ℕ → TokenReader StatementTerm
  open_statement zero = refusal left_out_classes
  open_statement (suc d) = statement_over (open_expr (suc d)) (open_param d (open_expr d)) (open_statement d) (open_body d) (open_instance d (open_body d))

  pub open_body : ℕ → TokenReader BodyTerm
  open_body zero = gap (λ t. EmptyBody t.place) left_out_classes
  open_body (suc d) = body_over (open_statement d) (open_instance d (open_body d))

abbrev pub outline_read : ℕ → TokenReader (List StatementTerm)
outline_read d = sequence_read first_of (repeated_read (has_class_in firsts_of_statement) (open_statement d)) (token_read (has_class end_class))

-- a gap is read
abbrev gap_token : Token
gap_token = token (Symbol Caret)

gap_reads : {A : Type 0} (f : Token → A) (classes : List ℕ) (more : A → Token → Bool) → IsReader (gap f classes) (Gap with_gaps f) (Gap with_gaps f) more
gap_reads f classes more = mapped_reads f (token_or_fault_read (has_class caret_sign) (fault_of classes)) (SingleToken (has_class caret_sign)) (SingleToken (has_class caret_sign)) (λ x t. false) more (one_reads (has_class caret_sign) (fault_of classes) (fault_plain classes) (token (Symbol Caret), refl)) (λ x rest h. never_starts rest)

same_first : (a b : List Token) → SameHead a b → head_of a ≡ head_of b
same_first [] [] h = refl
same_first [] (u ∷ us) h = elim h [ ]
same_first (t ∷ ts) [] h = elim h [ ]
same_first (t ∷ ts) (u ∷ us) h = ap Some h

-- a list that may have nothing, and whose items are refused
module _ {A : Type 0} (classes : List ℕ) (test : Token → Bool) (stop : Token → Bool) (r : TokenReader (List A)) (is_r : (ts : List Token) → r ts ≡ cond (next_is test ts) (refusal classes ts) (Ok ([], ts)))
    (stops : (rest : List Token) → next_is stop rest ≡ false → next_is test rest ≡ false) where
  refused : (ts : List Token) → next_is test ts ≡ true → r ts ≡ refusal classes ts
  refused ts e = is_r ts ∙ ap (λ b. cond b (refusal classes ts) (Ok ([], ts))) e

  passed : (ts : List Token) → next_is test ts ≡ false → r ts ≡ Ok ([], ts)
  passed ts e = is_r ts ∙ ap (λ b. cond b (refusal classes ts) (Ok ([], ts))) e

  told_at : (ts : List Token) (b : Bool) → next_is test ts ≡ b → Told r (EmptySequence []) (EmptySequence []) ts (r ts)
  told_at ts true e =
      let none : seen (fault_of classes (head_of ts)) ts ≡ [] = plain_seen (fault_of classes (head_of ts)) ts (fault_plain classes (head_of ts)) in
      subst (Told r (EmptySequence []) (EmptySequence []) ts) (sym (refused ts e))
      ([], refl, ([], [], (refl, ap (λ l. l ++ []) none)), λ rest h. refused rest (same_start test ts rest h ∙ e) ∙ ap (λ k. Err (fault_of classes k, rest)) (sym (same_first ts rest h)))
  told_at ts false e = subst (Told r (EmptySequence []) (EmptySequence []) ts) (sym (passed ts e)) ([], refl, (refl, refl), λ rest h. passed rest (same_start test ts rest h ∙ e))

  nothing_fits : IsReader r (EmptySequence []) (EmptySequence []) (λ x. stop)
  nothing_fits = record {
    told = λ ts. told_at ts (next_is test ts) refl;
    wide = λ x s h. h;
    complete = λ x s rest h e. ap (λ l. r (l ++ rest)) h.1 ∙ passed rest (stops rest e) ∙ ap (λ x. Ok (x, rest)) (sym h.0);
  }

many_refused : (classes : List ℕ) (test : Token → Bool) (ts : List Token) → repeated_read test (refusal {A = StatementTerm} classes) ts ≡ cond (next_is test ts) (refusal classes ts) (Ok ([], ts))
unfolding repeated_read repeated_times
many_refused classes test [] = refl
many_refused classes test (t ∷ ts) = refl

abbrev closes : List ℕ
closes = close_parenthesis_sign ∷ []

some_outline : (d : ℕ) → Some_of (Expr with_gaps d)
unfolding Expr Operand
some_outline zero = (gap_token ∷ [], UndefTerm gap_token.place, (gap_token, (refl, refl), refl))
some_outline (suc d) = some_expr with_gaps d

some_outline_operand : (d : ℕ) → Some_of (Operand with_gaps d)
unfolding Expr Operand
some_outline_operand zero = (gap_token ∷ [], UndefTerm gap_token.place, (gap_token, (refl, refl), refl))
some_outline_operand (suc d) = some_operand with_gaps d

some_outline_binders : (d : ℕ) → Some_of (BindersAt with_gaps d)
some_outline_binders zero = (gap_token ∷ [], [], (gap_token, (refl, refl), refl))
some_outline_binders (suc d) = some_binders_at with_gaps d

some_outline_body : (d : ℕ) → Some_of (Body with_gaps d)
unfolding Statement Body
some_outline_body zero = (gap_token ∷ [], EmptyBody gap_token.place, (gap_token, (refl, refl), refl))
some_outline_body (suc d) = some_body with_gaps d

-- What is read of an outline is in the grammar, and what is taken before a fault begins an outline.
open_reads : (d : ℕ) → IsReader (open_expr d) (Expr with_gaps d) (Expr with_gaps d) (λ x. has_class_in expression_more) × IsReader (open_operand d) (Operand with_gaps d) (Operand with_gaps d) (λ x. has_class_in operand_more) × IsReader (args_read (open_arg d (open_expr d))) (ArgsAt with_gaps d) (ArgsAt with_gaps d) (λ x. has_class_outside closes)
unfolding Expr Operand open_expr open_operand
open_reads zero = (
  gap_reads (λ t. UndefTerm t.place) left_out_of_expressions (λ x. has_class_in expression_more),
  gap_reads (λ t. UndefTerm t.place) left_out_of_expressions (λ x. has_class_in operand_more),
  nothing_fits left_out_of_expressions (has_class_outside closes) (has_class_outside closes) (args_read (refusal left_out_of_expressions)) (λ ts. refl) (λ rest h. h),
)
open_reads (suc d) =
    let below = open_reads d in
    let token_read = choice_read_reads (open_expr d) (open_arg d (open_expr d)) (open_operand d) (Expr with_gaps d) (Expr with_gaps d) (Operand with_gaps d) (Operand with_gaps d) (ArgsAt with_gaps d) (ArgsAt with_gaps d) below.0 below.2 below.1 (expr_opens with_gaps d) (some_outline d) (some_args with_gaps d) (some_outline_operand d) in (
      token_read,
      operand_reads (open_expr d) (open_arg d (open_expr d)) (open_operand d) (Expr with_gaps d) (Expr with_gaps d) (Operand with_gaps d) (Operand with_gaps d) (ArgsAt with_gaps d) (ArgsAt with_gaps d) below.0 below.2 below.1 (expr_opens with_gaps d) (some_outline d) (some_args with_gaps d) (some_outline_operand d),
      args_over (arg_read (open_expr (suc d))) (Expr with_gaps (suc d)) (Expr with_gaps (suc d))
          (arg_reads (open_expr (suc d)) (Expr with_gaps (suc d)) (Expr with_gaps (suc d)) token_read (alone_name (Expr with_gaps d) (ArgsAt with_gaps d) (Operand with_gaps d)) (choice_unlike (Expr with_gaps d) (ArgsAt with_gaps d) (Operand with_gaps d))) (expr_opens with_gaps (suc d)),
    )

open_params_reads : (d : ℕ) → IsReader (params_read (open_param d (open_expr d))) (ParamsAt with_gaps d) (ParamsAt with_gaps d) (λ x. has_class_outside closes)
open_params_reads zero = nothing_fits left_out_classes (has_class name_class) (has_class_outside closes) (params_read (refusal left_out_classes)) (λ ts. refl) (no_close closes (name_class ∷ []) refl)
open_params_reads (suc d) =
    params_reads (param_read (open_expr (suc d))) (Param (Expr with_gaps (suc d))) (Param (Expr with_gaps (suc d))) (param_reads (open_expr (suc d)) (Expr with_gaps (suc d)) (Expr with_gaps (suc d)) (open_reads (suc d)).0 (some_outline (suc d))) (param_opens (Expr with_gaps (suc d)))

open_binders_reads : (d : ℕ) → IsReader (open_binders d (open_expr d)) (BindersAt with_gaps d) (BindersAt with_gaps d) (λ x. has_class_outside closes)
open_binders_reads zero = gap_reads (λ t. []) left_out_classes (λ x. has_class_outside closes)
open_binders_reads (suc d) =
    binders_reads (binder_read (open_expr (suc d))) (Expr with_gaps (suc d)) (Expr with_gaps (suc d)) (binder_reads (open_expr (suc d)) (Expr with_gaps (suc d)) (Expr with_gaps (suc d)) (open_reads (suc d)).0 (some_outline (suc d)))

open_instance_reads : (d : ℕ) → IsReader (open_body d) (Body with_gaps d) (Body with_gaps d) body_more → Stops (open_body d) body_more → IsReader (open_instance d (open_body d)) (InstanceAt with_gaps d) (InstanceAt with_gaps d) instance_more
open_instance_reads d ib sb =
    instance_reads (open_body d) (Body with_gaps d) (Body with_gaps d) ib sb (some_outline_body d) (open_expr d) (open_arg d (open_expr d)) (open_binders d (open_expr d)) (Expr with_gaps d) (Expr with_gaps d) (ArgsAt with_gaps d) (ArgsAt with_gaps d) (BindersAt with_gaps d) (BindersAt with_gaps d)
    (open_reads d).0 (open_reads d).2 (open_binders_reads d) (some_outline d) (some_args with_gaps d) (some_outline_binders d)

open_instance_stops : (d : ℕ) → IsReader (open_body d) (Body with_gaps d) (Body with_gaps d) body_more → Stops (open_body d) body_more → Stops (open_instance d (open_body d)) instance_more
open_instance_stops d ib sb =
    instance_stops (open_body d) (Body with_gaps d) (Body with_gaps d) ib sb (some_outline_body d) (open_expr d) (open_arg d (open_expr d)) (open_binders d (open_expr d)) (Expr with_gaps d) (Expr with_gaps d) (ArgsAt with_gaps d) (ArgsAt with_gaps d) (BindersAt with_gaps d) (BindersAt with_gaps d)
    (open_reads d).0 (open_reads d).2 (open_binders_reads d) (some_outline d) (some_args with_gaps d) (some_outline_binders d)

-- a statement that doesn't fit any more is in a list that has none; else it is read
open_statement_reads : (d : ℕ) → IsReader (repeated_read (has_class_in firsts_of_statement) (open_statement d)) (StatementsAt with_gaps d) (StatementsAt with_gaps d) (λ xs. has_class_in statements_more) × IsReader (open_body d) (Body with_gaps d) (Body with_gaps d) body_more × Stops (open_body d) body_more
unfolding Statement Body open_statement open_body
open_statement_reads zero = (
  nothing_fits left_out_classes (has_class_in firsts_of_statement) (has_class_in statements_more) (repeated_read (has_class_in firsts_of_statement) (refusal left_out_classes)) (many_refused left_out_classes (has_class_in firsts_of_statement)) (next_less firsts_of_statement statements_more refl),
  gap_reads (λ t. EmptyBody t.place) left_out_classes body_more,
  mapped_stops (λ t. EmptyBody t.place) (token_or_fault_read (has_class caret_sign) (fault_of left_out_classes)) (λ x t. false) body_more (λ ts x rest h. never_starts rest) (λ x rest h. never_starts rest),
)
open_statement_reads (suc d) =
    let below = open_statement_reads d in
    let ii = open_instance_reads d below.1 below.2 in
    let si = open_instance_stops d below.1 below.2 in
    let token_read =
    statement_reads (open_statement d) (StatementsAt with_gaps d) (StatementsAt with_gaps d) below.0 (some_statements with_gaps d) (open_instance d (open_body d)) (InstanceAt with_gaps d) (InstanceAt with_gaps d) ii si (instance_depth_opens with_gaps d)
    (open_expr (suc d)) (open_param d (open_expr d)) (open_body d) (Expr with_gaps (suc d)) (Expr with_gaps (suc d)) (ParamsAt with_gaps d) (ParamsAt with_gaps d) (Body with_gaps d) (Body with_gaps d)
    (open_reads (suc d)).0 (open_params_reads d) (some_params_at with_gaps d) below.1 below.2 (some_outline (suc d)) (some_outline_body d) (instance_unlike (Expr with_gaps d) (ArgsAt with_gaps d) (BindersAt with_gaps d) (Body with_gaps d)) (statement_moves (open_expr d) (open_arg d (open_expr d)) (open_binders d (open_expr d)) (open_body d)) in (
      statements_reads (open_statement (suc d)) (Statement with_gaps (suc d)) (Statement with_gaps (suc d)) token_read (statement_at_opens with_gaps (suc d)),
      body_reads (open_statement d) (StatementsAt with_gaps d) (StatementsAt with_gaps d) below.0 (some_statements with_gaps d) (open_instance d (open_body d)) (InstanceAt with_gaps d) (InstanceAt with_gaps d) ii si (instance_depth_opens with_gaps d),
      body_stops (open_statement d) (StatementsAt with_gaps d) (StatementsAt with_gaps d) below.0 (some_statements with_gaps d) (open_instance d (open_body d)) (InstanceAt with_gaps d) (InstanceAt with_gaps d) ii si (instance_depth_opens with_gaps d),
    )

statements_at : (d : ℕ) → IsReader (repeated_read (has_class_in firsts_of_statement) (open_statement d)) (Repetition (Statement with_gaps d)) (Repetition (Statement with_gaps d)) (λ xs. has_class_in statements_more)
unfolding Statement Body
statements_at zero =
    same_reads (repeated_read (has_class_in firsts_of_statement) (open_statement zero)) (EmptySequence []) (EmptySequence []) (Repetition (Statement with_gaps zero)) (Repetition (Statement with_gaps zero)) (λ xs. has_class_in statements_more) (open_statement_reads zero).0
    (none_many (Statement with_gaps zero)) nothing (none_many (Statement with_gaps zero))
  where
    nothing : (x : List StatementTerm) (s : List Token) → Repetition (Statement with_gaps zero) x s → EmptySequence [] x s
    nothing [] s h = (refl, h)
    nothing (x ∷ xs) s h = elim h.2 [ ]
statements_at (suc d) = (open_statement_reads (suc d)).0

-- an outline is read
pub outline_reads : (d : ℕ) → IsReader (outline_read d) (ProgramWithGaps d) (ProgramWithGaps d) (λ x t. false)
outline_reads d =
    before_reads (repeated_read (has_class_in firsts_of_statement) (open_statement d)) (Repetition (Statement with_gaps d)) (Repetition (Statement with_gaps d)) end_class (λ x. has_class_in statements_more) end_one (token End) refl
    (statements_at d) (λ x. next_apart (end_class ∷ []) statements_more refl)
