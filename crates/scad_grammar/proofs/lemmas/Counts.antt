-- A program has no more blocks, functions and modules than tokens.
use Rattle.std.proofs.Common.{◌≡◌, ℕ, zero, suc, ◌+◌, ◌≤◌, List, [], ◌∷◌, length, Bool, true, false, Option, Some, None, inl, inr, refl, sym, ap, subst, arith, length-append}
use Rattle.scad_lexer.specs.declared.token.Token.{Token}
use Rattle.scad_ast.specs.Terms.{Term, ArgTerm, BinderTerm, ParamTerm, ModifierTerm, StatementTerm, InstanceStatement, InstanceTerm, CoreTerm, BodyTerm, EmptyBody, InstanceBody, EmptyStatement, statements_from}
use Rattle.scad_ast.specs.Counts.{count_begun_by_statement, count_begun_by_statements, count_begun_by_instance, count_begun_by_core, count_begun_by_body, count_begun_by_program}
use Rattle.scad_grammar.specs.Classes.{open_brace_sign, close_brace_sign, semicolon_sign, name_class, end_class, if_word, else_word, for_word, intersection_for_word, module_word, function_word, has_class, has_class_in}
use Rattle.scad_grammar.specs.Languages.{Language, SingleToken, ImageOf, Concatenation, ConcatenationIf, Alternation, EmptySequence, Repetition, OptionalSequence, EmptyLanguage, BeforeToken, first_of, second_of, pair_of}
use Rattle.scad_grammar.specs.Grammar.{InParentheses, without_gaps, Expr, ArgsIn, ParamsIn, BindersIn, StatementsIn, InstanceIn, CoreOf, Instance, BodyOf, StatementOf, Statement, Body, WholeProgram, if_term, IsNearest, loop_term, call_term, instance_term, block_term, bare_block_term, module_term, function_term}

-- what is written has at most as many as tokens write it
record Counts {A : Type 0} (count : A → ℕ) (L : Language A) : Type 0 where
  at : (x : A) (s : List Token) → L x s → count x ≤ length s

abbrev none : {A : Type 0} → A → ℕ
none x = 0

no_count : {A : Type 0} (L : Language A) → Counts none L
no_count L = record { at = λ x s h. omega arith }

one_count : (test : Token → Bool) → Counts (λ t. 1) (SingleToken test)
one_count test = record { at = λ x s h. omega (arith, ap length h.1) }

-- a sum that is no less than the count of both
both_count : {A B C : Type 0} (f : A → B → C) (ca : A → ℕ) (cb : B → ℕ) (cc : C → ℕ) {La : Language A} {Lb : Language B} → ((a : A) (b : B) → cc (f a b) ≤ ca a + cb b)
    → Counts ca La → Counts cb Lb → Counts cc (Concatenation f La Lb)
both_count f ca cb count less h k = record {
  at = λ c s x. subst (λ c. count c ≤ length s) (sym x.6)
      (omega (arith, less x.0 x.1, h.at x.0 x.2 x.4, k.at x.1 x.3 x.5, ap length x.7, length-append x.2 x.3));
}

both_if_count : {A B C : Type 0} (f : A → B → C) (Fit : A → B → Type 0) (ca : A → ℕ) (cb : B → ℕ) (cc : C → ℕ) {La : Language A} {Lb : Language B} → ((a : A) (b : B) → cc (f a b) ≤ ca a + cb b)
    → Counts ca La → Counts cb Lb → Counts cc (ConcatenationIf f Fit La Lb)
both_if_count f Fit ca cb count less h k = record {
  at = λ c s x. subst (λ c. count c ≤ length s) (sym x.7)
      (omega (arith, less x.0 x.1, h.at x.0 x.2 x.4, k.at x.1 x.3 x.5, ap length x.8, length-append x.2 x.3));
}

mapped_count : {A B : Type 0} (f : A → B) (ca : A → ℕ) (cb : B → ℕ) {L : Language A} → ((a : A) → cb (f a) ≤ ca a) → Counts ca L → Counts cb (ImageOf f L)
mapped_count f ca cb less h = record { at = λ b s x. subst (λ b. cb b ≤ length s) (sym x.2) (omega (arith, less x.0, h.at x.0 s x.1)) }

either_count : {A : Type 0} {count : A → ℕ} {L M : Language A} → Counts count L → Counts count M → Counts count (Alternation L M)
either_count h k = record { at = λ x s y. elim y [ inl z ↦ h.at x s z | inr z ↦ k.at x s z ] }

abbrev of_maybe : {A : Type 0} → (A → ℕ) → Option A → ℕ
of_maybe count None = 0
of_maybe count (Some x) = count x

maybe_at : {A : Type 0} (count : A → ℕ) (L : Language A) → Counts count L → (x : Option A) (s : List Token) → OptionalSequence L x s → of_maybe count x ≤ length s
maybe_at count L h None s x = omega arith
maybe_at count L h (Some y) s x = h.at y s x

maybe_count : {A : Type 0} {count : A → ℕ} {L : Language A} → Counts count L → Counts (of_maybe count) (OptionalSequence L)
maybe_count {A} {count} {L} h = record { at = maybe_at count L h }

never_count : {A : Type 0} (count : A → ℕ) → Counts count EmptyLanguage
never_count count = record { at = λ x s h. elim h [ ] }

-- the count of a list of statements, and of the body behind something
abbrev of_list : List StatementTerm → ℕ
of_list ss = count_begun_by_statements (statements_from ss)

abbrev of_second : {A B : Type 0} → (B → ℕ) → A × B → ℕ
of_second count p = count p.1

many_at : (L : Language StatementTerm) → Counts count_begun_by_statement L → (xs : List StatementTerm) (s : List Token) → Repetition L xs s → of_list xs ≤ length s
many_at L h [] s x = omega arith
many_at L h (y ∷ ys) s x = omega (arith, h.at y x.0 x.2, many_at L h ys x.1 x.3, ap length x.4, length-append x.0 x.1)

many_count : {L : Language StatementTerm} → Counts count_begun_by_statement L → Counts of_list (Repetition L)
many_count {L} h = record { at = many_at L h }

no_statements_at : (x : List StatementTerm) (s : List Token) → EmptySequence [] x s → of_list x ≤ length s
no_statements_at x s h = subst (λ x. of_list x ≤ length s) (sym h.0) (omega arith)

statements_count : (d : ℕ) (S : Language StatementTerm) → Counts count_begun_by_statement S → Counts of_list (StatementsIn d S)
statements_count zero S h = record { at = no_statements_at }
statements_count (suc d) S h = many_count h

braces_count : {Ss : Language (List StatementTerm)} → Counts of_list Ss → Counts of_list (BeforeToken Ss (has_class close_brace_sign))
braces_count h = both_count first_of of_list none of_list (λ a b. omega arith) h (no_count (SingleToken (has_class close_brace_sign)))

-- something in parentheses and a body
with_body : {A : Type 0} (P : Language A) (B : Language BodyTerm) → Counts count_begun_by_body B → Counts (of_second count_begun_by_body) (Concatenation pair_of P B)
with_body P B b = both_count pair_of none count_begun_by_body (of_second count_begun_by_body) (λ a b. omega arith) (no_count P) b

-- a core has one token more at least than blocks
abbrev more_than_core : CoreTerm → ℕ
more_than_core core = suc (count_begun_by_core core)

abbrev more_than_instance : InstanceTerm → ℕ
more_than_instance instance = suc (count_begun_by_instance instance)

if_less : (p : Token × (Term × BodyTerm)) (o : Option BodyTerm) → more_than_core (if_term p o) ≤ suc (count_begun_by_body p.1.1) + of_maybe count_begun_by_body o
if_less p None = omega arith
if_less p (Some other) = omega arith

loop_less : (t : Token) (p : List BinderTerm × BodyTerm) → more_than_core (loop_term t p) ≤ 1 + of_second count_begun_by_body p
loop_less t p = go (has_class for_word t) refl
  where
    go : (b : Bool) → has_class for_word t ≡ b → more_than_core (loop_term t p) ≤ 1 + of_second count_begun_by_body p
    go true e = rw e (omega arith)
    go false e = rw e (omega arith)

instance_less : (ms : List ModifierTerm) (core : CoreTerm) → more_than_instance (instance_term ms core) ≤ 0 + more_than_core core
instance_less [] core = omega arith
instance_less (m ∷ ms) core = omega arith

module _ (E : Language Term) (As : Language (List ArgTerm)) (Ns : Language (List BinderTerm)) (B : Language BodyTerm) (b : Counts count_begun_by_body B) where
  core_count : Counts more_than_core (CoreOf E As Ns B)
  core_count =
      either_count
      (both_if_count if_term IsNearest (λ p. suc (count_begun_by_body p.1.1)) (of_maybe count_begun_by_body) more_than_core if_less
      (both_count pair_of (λ t. 1) (of_second count_begun_by_body) (λ p. suc (count_begun_by_body p.1.1)) (λ t p. omega arith) (one_count (has_class if_word)) (with_body (InParentheses E) B b))
      (maybe_count (both_count second_of none count_begun_by_body count_begun_by_body (λ t y. omega arith) (no_count (SingleToken (has_class else_word))) b)))
      (either_count
      (both_count loop_term (λ t. 1) (of_second count_begun_by_body) more_than_core loop_less (one_count (has_class_in (for_word ∷ intersection_for_word ∷ []))) (with_body (InParentheses Ns) B b))
      (both_count call_term (λ t. 1) (of_second count_begun_by_body) more_than_core (λ t p. omega arith) (one_count (has_class name_class)) (with_body (InParentheses As) B b)))

  instance_count : Counts more_than_instance (Instance E As Ns B)
  instance_count = both_count instance_term none more_than_core more_than_instance instance_less (no_count _) core_count

module _ (I : Language InstanceTerm) (Ss : Language (List StatementTerm)) (i : Counts more_than_instance I) (ss : Counts of_list Ss) where
  body_count : Counts count_begun_by_body (BodyOf I Ss)
  body_count =
      either_count (mapped_count (λ t. EmptyBody t.place) (λ t. 1) count_begun_by_body (λ t. omega arith) (one_count (has_class semicolon_sign)))
      (either_count (both_count block_term (λ t. 1) of_list count_begun_by_body (λ t x. omega arith) (one_count (has_class open_brace_sign)) (braces_count ss))
      (mapped_count InstanceBody more_than_instance count_begun_by_body (λ x. omega arith) i))

  statement_count : (X : Language Term) (Ps : Language (List ParamTerm)) (B : Language BodyTerm) → Counts count_begun_by_body B → Counts count_begun_by_statement (StatementOf X Ps I Ss B)
  statement_count X Ps B b =
      either_count (mapped_count (λ t. EmptyStatement t.place) none count_begun_by_statement (λ t. omega arith) (no_count (SingleToken (has_class semicolon_sign))))
      (either_count (both_count bare_block_term none of_list count_begun_by_statement (λ t x. omega arith) (no_count (SingleToken (has_class open_brace_sign))) (braces_count ss))
      (either_count (both_count _ none none count_begun_by_statement (λ t x. omega arith) (no_count _) (no_count _))
      (either_count (both_count _ none none count_begun_by_statement (λ t x. omega arith) (no_count _) (no_count _))
      (either_count
      (both_count module_term (λ t. 1) (λ p. count_begun_by_body p.1.1) count_begun_by_statement (λ t p. omega arith) (one_count (has_class module_word))
      (both_count pair_of none (of_second count_begun_by_body) (λ p. count_begun_by_body p.1.1) (λ t p. omega arith) (no_count (SingleToken (has_class name_class))) (with_body (InParentheses Ps) B b)))
      (either_count
      (both_count function_term (λ t. 1) (λ p. 1) count_begun_by_statement (λ t p. omega arith) (one_count (has_class function_word))
      (both_count pair_of (λ t. 1) none (λ p. 1) (λ t p. omega arith) (one_count (has_class name_class)) (no_count _)))
      (mapped_count InstanceStatement more_than_instance count_begun_by_statement (λ x. omega arith) i))))))

counts_at : (d : ℕ) → Counts count_begun_by_statement (Statement without_gaps d) × Counts count_begun_by_body (Body without_gaps d)
unfolding Statement Body
counts_at zero = (never_count count_begun_by_statement, never_count count_begun_by_body)
counts_at (suc d) =
    let below = counts_at d in
    let i = instance_count (Expr without_gaps d) (ArgsIn d (Expr without_gaps d)) (BindersIn without_gaps d (Expr without_gaps d)) (Body without_gaps d) below.1 in
    let ss = statements_count d (Statement without_gaps d) below.0 in (
      statement_count (InstanceIn without_gaps d (Body without_gaps d)) (StatementsIn d (Statement without_gaps d)) i ss (Expr without_gaps (suc d)) (ParamsIn d (Expr without_gaps d)) (Body without_gaps d) below.1,
      body_count (InstanceIn without_gaps d (Body without_gaps d)) (StatementsIn d (Statement without_gaps d)) i ss,
    )

pub few_begun : (d : ℕ) (x : List StatementTerm) (s : List Token) → WholeProgram d x s → count_begun_by_program x ≤ length s
few_begun d x s h =
    (both_count first_of of_list (λ t. 1) count_begun_by_program (λ a t. omega arith) (many_count (counts_at d).0) (one_count (has_class end_class))).at x s h
