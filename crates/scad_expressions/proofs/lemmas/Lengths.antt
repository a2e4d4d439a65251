-- What the parser's loops read leaves no more tokens than there were, or fewer.
use Rattle.std.proofs.Common.{◌≡◌, ℕ, zero, suc, ◌<◌, ◌≤◌, List, [], ◌∷◌, ◌++◌, length, Bool, true, false, cond, Ok, Err, Some, None, refl, ap, arith, length-append, Result, IfOk}
use Rattle.std.specs.Borrow.{Bor}
use Rattle.scad_lexer.specs.declared.token.Token.{Token}
use Rattle.scad_ast.specs.Terms.{Term, ArgTerm, PositionalTerm}
use Rattle.scad_grammar.specs.declared.SyntaxFault.{SyntaxFault}
use Rattle.scad_grammar.specs.declared.SyntaxFault.TheVariants.{Nested}
use Rattle.scad_grammar.specs.Classes.{name_class, argument_names, open_bracket_sign, close_bracket_sign, open_parenthesis_sign, close_parenthesis_sign, comma_sign, dot_sign, assign_sign, has_class_in, has_class, has_class_outside}
use Rattle.scad_grammar.specs.Languages.{Language, first_of, second_of, cons}
use Rattle.scad_grammar.specs.Grammar.{without_gaps, Statement, link_term, chain_term, index_term, member_term, modifier_term, param_term, binder_term}
use Rattle.scad_grammar.specs.Faults.{TokenReader, token_read, fault_of, left_out_classes, left_out_of_expressions}
use Rattle.scad_grammar.specs.Reading.{Read, then_read, next_is, image_read, empty_read, sequence_read, optional_read, repeated_read, trailing_items}
use Rattle.scad_grammar.specs.Reads.{firsts_of_expression, nested_read, head_of, argument_of_tokens, suffix_read, unary_read, primary_read, chain_read, args_read, in_parentheses, arg_in, expr_read, operand_read}
use Rattle.scad_grammar.specs.StatementReads.{modifier_signs, param_in, binder_in, firsts_of_statement, statement_read}
use Rattle.scad_grammar.proofs.lemmas.Readers.{Told, IsReader, Opens}
use Rattle.scad_grammar.proofs.lemmas.Shrinks.{left, Shrinks, one_shrinks, nothing_shrinks, mapped_shrinks, both_shrinks, choice_shrinks, ahead_shrinks, many_shrinks, trailing_shrinks}
use Rattle.scad_grammar.proofs.lemmas.Expressions.{depth_reads}
use Rattle.scad_grammar.proofs.lemmas.Statements.{statement_depth_reads, statement_depth_opens}
use Rattle.scad_expressions.specs.declared.class.Level.{Level}
use Rattle.scad_expressions.specs.declared.next.Stopped.{Stopped}
use Rattle.scad_expressions.specs.TokenClasses.{operators_at, levels_below}
use Rattle.scad_expressions.specs.Views.{GivesRead}
use Rattle.scad_expressions.proofs.lemmas.Loops.{Shorter, Strictly}

shorter : {A : Type 0} (r : TokenReader A) → Shrinks r → Shorter r
shorter r h ts x us e = omega (arith, h.at ts, ap left e)

-- what gives what such a reader reads
pub given_shorter : {A X : Type 0} (view : A → X) (r : TokenReader X) → Shorter r → (ts : List Token) (given : Result (A × Bor (List Token)) Stopped)
    → GivesRead (λ (p : A × Bor (List Token)). (view p.0, p.1.now)) given (r ts) → IfOk given (λ p. length p.1.now ≤ length ts)
given_shorter view r h ts (Ok p) g = h ts (view p.0) p.1.now g
given_shorter view r h ts (Err s) g = tt

-- what a reader of the grammar leaves
told_left : {A : Type 0} (r : TokenReader A) (L W : Language A) (ts : List Token) (q : Read Token SyntaxFault A) → Told r L W ts q → left q ≤ length ts
told_left r L W ts (Ok p) t = omega (arith, ap length t.1, length-append t.0 p.1)
told_left r L W ts (Err y) t = omega (arith, ap length t.1, length-append t.0 y.1)

reader_shrinks : {A : Type 0} (r : TokenReader A) (L W : Language A) (more : A → Token → Bool) → IsReader r L W more → Shrinks r
reader_shrinks r L W more ir = record { at = λ ts. told_left r L W ts (r ts) (ir.told ts) }

nested_left : (A : Type 0) (begins classes : List ℕ) (ts : List Token) (b : Bool) → left (cond {A = Read Token SyntaxFault A} b (Err (Nested, ts)) (Err (fault_of classes (head_of ts), ts))) ≤ length ts
nested_left A begins classes ts true = omega arith
nested_left A begins classes ts false = omega arith

nested_shrinks : {A : Type 0} (begins classes : List ℕ) → Shrinks (nested_read {A = A} begins classes)
nested_shrinks {A} begins classes = record { at = λ ts. nested_left A begins classes ts (next_is (has_class_in begins) ts) }

maybe_shrinks : {A : Type 0} (test : Token → Bool) (r : TokenReader A) → Shrinks r → Shrinks (optional_read test r)
maybe_shrinks test r h = choice_shrinks test (image_read Some r) (empty_read None) (mapped_shrinks Some r h) (nothing_shrinks None)

taken_shrinks : (test : Token → Bool) → Shrinks (token_read test)
taken_shrinks test = one_shrinks test (fault_of left_out_classes)

expr_shrinks : (d : ℕ) → Shrinks (expr_read d)
expr_shrinks d = reader_shrinks (expr_read d) _ _ _ (depth_reads d).0

unary_shrinks : (d : ℕ) → Shrinks (unary_read (expr_read d) (operand_read d) (primary_read (expr_read d) (arg_in d (expr_read d))))
unfolding operand_read
unary_shrinks d = reader_shrinks (operand_read (suc d)) _ _ _ (depth_reads (suc d)).1

chain_shrinks : (levels : List (List ℕ)) (u : TokenReader Term) → Shrinks u → Shrinks (chain_read levels u)
chain_shrinks [] u h = h
chain_shrinks (ops ∷ levels) u h =
    let below = chain_shrinks levels u h in
    both_shrinks chain_term (chain_read levels u) (repeated_read (has_class_in ops) (sequence_read link_term (token_read (has_class_in ops)) (chain_read levels u))) below
    (many_shrinks (has_class_in ops) (sequence_read link_term (token_read (has_class_in ops)) (chain_read levels u)) (both_shrinks link_term (token_read (has_class_in ops)) (chain_read levels u) (taken_shrinks (has_class_in ops)) below))

valued_shrinks : (d : ℕ) → Shrinks (sequence_read second_of (token_read (has_class assign_sign)) (expr_read d))
valued_shrinks d = both_shrinks second_of (token_read (has_class assign_sign)) (expr_read d) (taken_shrinks (has_class assign_sign)) (expr_shrinks d)

arg_shrinks : (d : ℕ) → Shrinks (arg_in d (expr_read d))
arg_shrinks zero = nested_shrinks firsts_of_expression left_out_of_expressions
arg_shrinks (suc d) = ahead_shrinks argument_of_tokens (has_class_in argument_names) (has_class assign_sign) (expr_read (suc d)) (image_read PositionalTerm (expr_read (suc d))) (expr_shrinks (suc d)) (mapped_shrinks PositionalTerm (expr_read (suc d)) (expr_shrinks (suc d)))

args_shrinks : (a : TokenReader ArgTerm) → Shrinks a → Shrinks (args_read a)
args_shrinks a h =
    let more = trailing_shrinks (has_class comma_sign) (has_class_outside (close_parenthesis_sign ∷ [])) a h in
    choice_shrinks (has_class_outside (close_parenthesis_sign ∷ [])) (sequence_read cons a (trailing_items (has_class comma_sign) (has_class_outside (close_parenthesis_sign ∷ [])) a)) (empty_read []) (both_shrinks cons a (trailing_items (has_class comma_sign) (has_class_outside (close_parenthesis_sign ∷ [])) a) h more) (nothing_shrinks [])

-- expressions, arguments, parameters and variables of a loop
pub expr_shorter : (d : ℕ) → Shorter (expr_read d)
expr_shorter d = shorter (expr_read d) (expr_shrinks d)

pub arg_shorter : (d : ℕ) → Shorter (arg_in d (expr_read d))
arg_shorter d = shorter (arg_in d (expr_read d)) (arg_shrinks d)

pub arguments_shorter : (d : ℕ) → Shorter (in_parentheses (args_read (arg_in d (expr_read d))))
arguments_shorter d =
    let args = args_shrinks (arg_in d (expr_read d)) (arg_shrinks d) in
    shorter (in_parentheses (args_read (arg_in d (expr_read d))))
    (both_shrinks second_of (token_read (has_class open_parenthesis_sign)) (sequence_read first_of (args_read (arg_in d (expr_read d))) (token_read (has_class close_parenthesis_sign))) (taken_shrinks (has_class open_parenthesis_sign))
    (both_shrinks first_of (args_read (arg_in d (expr_read d))) (token_read (has_class close_parenthesis_sign)) args (taken_shrinks (has_class close_parenthesis_sign))))

pub param_shorter : (d : ℕ) → Shorter (param_in d (expr_read d))
param_shorter zero = shorter (param_in zero (expr_read zero)) (nested_shrinks (name_class ∷ []) left_out_classes)
param_shorter (suc d) =
    shorter (param_in (suc d) (expr_read (suc d)))
    (both_shrinks param_term (token_read (has_class name_class)) (optional_read (has_class assign_sign) (sequence_read second_of (token_read (has_class assign_sign)) (expr_read (suc d)))) (taken_shrinks (has_class name_class)) (maybe_shrinks (has_class assign_sign) (sequence_read second_of (token_read (has_class assign_sign)) (expr_read (suc d))) (valued_shrinks (suc d))))

pub binder_shorter : (d : ℕ) → Shorter (binder_in d (expr_read d))
binder_shorter zero = shorter (binder_in zero (expr_read zero)) (nested_shrinks (name_class ∷ []) left_out_classes)
binder_shorter (suc d) = shorter (binder_in (suc d) (expr_read (suc d))) (both_shrinks binder_term (token_read (has_class name_class)) (sequence_read second_of (token_read (has_class assign_sign)) (expr_read (suc d))) (taken_shrinks (has_class name_class)) (valued_shrinks (suc d)))

pub one_strict : (test : Token → Bool) → Strictly (token_read test)
one_strict test [] x us e = absurd (cc)
one_strict test (t ∷ ts) x us e = go (test t) e
  where
    go : (b : Bool) → cond {A = Read Token SyntaxFault Token} b (Ok (t, ts)) (Err (fault_of left_out_classes (Some t), t ∷ ts)) ≡ Ok (x, us) → length us < suc (length ts)
    go true e =
        let f : ◌≡◌ {A = Token × List Token} (t, ts) (x, us) = cc in
        omega (arith, ap length (ap (λ (p : Token × List Token). p.1) f))
    go false e = absurd (cc)

-- a token, and then something
module _ {A C : Type 0} (f : Token → A → C) (test : Token → Bool) (r : TokenReader A) (h : Shrinks r) where
  then_left : (ts : List Token) (q : Read Token SyntaxFault Token) → token_read test ts ≡ q → (x : C) (us : List Token) → then_read q (λ t vs. then_read (r vs) (λ y ws. Ok (f t y, ws))) ≡ Ok (x, us) → length us < length ts
  then_left ts (Ok p) g x us e =
      let less : length p.1 < length ts = one_strict test ts p.0 p.1 g in
      omega (arith, less, (both_shrinks (λ (u : Unit {0}) y. f p.0 y) (empty_read tt) r (nothing_shrinks tt) h).at p.1, ap left e)
  then_left ts (Err y) g x us e = absurd (cc)

  pub then_strict : Strictly (sequence_read f (token_read test) r)
  then_strict ts x us e = then_left ts (token_read test ts) refl x us e

pub link_strict : (level : Level) (d : ℕ) → Strictly (sequence_read link_term (token_read (has_class_in (operators_at level))) (chain_read (levels_below level) (unary_read (expr_read d) (operand_read d) (primary_read (expr_read d) (arg_in d (expr_read d))))))
link_strict level d = then_strict link_term (has_class_in (operators_at level)) _ (chain_shrinks (levels_below level) _ (unary_shrinks d))

pub suffix_strict : (d : ℕ) → Strictly (suffix_read (expr_read d))
suffix_strict d ts x us e = go (next_is (has_class open_bracket_sign) ts) e
  where
    go : (b : Bool) → cond b (sequence_read index_term (token_read (has_class open_bracket_sign)) (sequence_read first_of (expr_read d) (token_read (has_class close_bracket_sign))) ts) (sequence_read member_term (token_read (has_class dot_sign)) (token_read (has_class name_class)) ts) ≡ Ok (x, us) → length us < length ts
    go true e = then_strict index_term (has_class open_bracket_sign) _ (both_shrinks first_of (expr_read d) (token_read (has_class close_bracket_sign)) (expr_shrinks d) (taken_shrinks (has_class close_bracket_sign))) ts x us e
    go false e = then_strict member_term (has_class dot_sign) (token_read (has_class name_class)) (taken_shrinks (has_class name_class)) ts x us e

pub mark_strict : Strictly (image_read modifier_term (token_read (has_class_in modifier_signs)))
mark_strict ts x us e = go (token_read (has_class_in modifier_signs) ts) refl e
  where
    go : (q : Read Token SyntaxFault Token) → token_read (has_class_in modifier_signs) ts ≡ q → then_read q (λ t vs. Ok (modifier_term t, vs)) ≡ Ok (x, us) → length us < length ts
    go (Ok p) g e = let less : length p.1 < length ts = one_strict (has_class_in modifier_signs) ts p.0 p.1 g in omega (arith, less, ap left e)
    go (Err y) g e = absurd (cc)

-- a statement has a token
some_token : (s : List Token) (test : Token → Bool) → next_is test (s ++ []) ≡ true → 0 < length s
some_token [] test e = absurd (cc)
some_token (t ∷ s) test e = omega arith

told_strict : {A : Type 0} (r : TokenReader A) (L W : Language A) (test : Token → Bool) → Opens L test → (ts : List Token) (q : Read Token SyntaxFault A) → Told r L W ts q → (x : A) (us : List Token) → q ≡ Ok (x, us) → length us < length ts
told_strict r L W test opens ts (Ok p) t x us e = omega (arith, ap length t.1, length-append t.0 p.1, some_token t.0 test (opens p.0 t.0 [] t.2), ap left e)
told_strict r L W test opens ts (Err y) t x us e = absurd (cc)

pub statement_strict : (d : ℕ) → Strictly (statement_read d)
statement_strict d ts = told_strict (statement_read d) (Statement without_gaps d) (Statement without_gaps (suc (suc d))) (has_class_in firsts_of_statement) (statement_depth_opens d) ts (statement_read d ts) ((statement_depth_reads d).0.told ts)
