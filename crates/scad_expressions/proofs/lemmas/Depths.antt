-- What is read at a depth, by what is read one deeper.
use Rattle.std.proofs.Common.{◌≡◌, ◌≢◌, ℕ, zero, suc, ◌-◌, List, [], refl, sym, ap, arith}
use Rattle.scad_lexer.specs.declared.token.Token.{Token}
use Rattle.scad_grammar.specs.Faults.{left_out_classes, left_out_of_expressions}
use Rattle.scad_grammar.specs.Reads.{firsts_of_expression, nested_read, choice_read, unary_read, primary_read, arg_in, expr_read, operand_read}
use Rattle.scad_grammar.specs.StatementReads.{firsts_of_statement, firsts_of_body, param_in, instance_in, statement_over, statement_read, body_over, body_read}

pub expr_none : (d : ℕ) (ts : List Token) → d ≡ 0 → expr_read d ts ≡ nested_read firsts_of_expression left_out_of_expressions ts
unfolding expr_read operand_read
expr_none zero ts h = refl
expr_none (suc d) ts h = absurd (omega arith)

pub expr_deeper : (d : ℕ) (ts : List Token) → d ≢ 0 → expr_read d ts ≡ choice_read (expr_read (d - 1)) (operand_read (d - 1)) (primary_read (expr_read (d - 1)) (arg_in (d - 1) (expr_read (d - 1)))) ts
unfolding expr_read operand_read
expr_deeper zero ts h = absurd (h refl)
expr_deeper (suc d) ts h = let e : suc d - 1 ≡ d = omega arith in ap (λ k. choice_read (expr_read k) (operand_read k) (primary_read (expr_read k) (arg_in k (expr_read k))) ts) (sym e)

pub operand_none : (d : ℕ) (ts : List Token) → d ≡ 0 → operand_read d ts ≡ nested_read firsts_of_expression left_out_of_expressions ts
unfolding expr_read operand_read
operand_none zero ts h = refl
operand_none (suc d) ts h = absurd (omega arith)

pub operand_deeper : (d : ℕ) (ts : List Token) → d ≢ 0 → operand_read d ts ≡ unary_read (expr_read (d - 1)) (operand_read (d - 1)) (primary_read (expr_read (d - 1)) (arg_in (d - 1) (expr_read (d - 1)))) ts
unfolding expr_read operand_read
operand_deeper zero ts h = absurd (h refl)
operand_deeper (suc d) ts h = let e : suc d - 1 ≡ d = omega arith in ap (λ k. unary_read (expr_read k) (operand_read k) (primary_read (expr_read k) (arg_in k (expr_read k))) ts) (sym e)

pub statement_none : (d : ℕ) (ts : List Token) → d ≡ 0 → statement_read d ts ≡ nested_read firsts_of_statement left_out_classes ts
unfolding statement_read body_read
statement_none zero ts h = refl
statement_none (suc d) ts h = absurd (omega arith)

pub statement_deeper : (d : ℕ) (ts : List Token) → d ≢ 0 → statement_read d ts ≡ statement_over (expr_read d) (param_in (d - 1) (expr_read (d - 1))) (statement_read (d - 1)) (body_read (d - 1)) (instance_in (d - 1) (body_read (d - 1))) ts
unfolding statement_read body_read
statement_deeper zero ts h = absurd (h refl)
statement_deeper (suc d) ts h = let e : suc d - 1 ≡ d = omega arith in ap (λ k. statement_over (expr_read (suc d)) (param_in k (expr_read k)) (statement_read k) (body_read k) (instance_in k (body_read k)) ts) (sym e)

pub body_none : (d : ℕ) (ts : List Token) → d ≡ 0 → body_read d ts ≡ nested_read firsts_of_body left_out_classes ts
unfolding statement_read body_read
body_none zero ts h = refl
body_none (suc d) ts h = absurd (omega arith)

pub body_deeper : (d : ℕ) (ts : List Token) → d ≢ 0 → body_read d ts ≡ body_over (statement_read (d - 1)) (instance_in (d - 1) (body_read (d - 1))) ts
unfolding statement_read body_read
body_deeper zero ts h = absurd (h refl)
body_deeper (suc d) ts h = let e : suc d - 1 ≡ d = omega arith in ap (λ k. body_over (statement_read k) (instance_in k (body_read k)) ts) (sym e)
