-- What is written in an outline is written in a whole program too, where something that a program may have stands in
-- place of each gap: before the first gap the tokens are the same, and less deep.
use Rattle.std.proofs.Common.{◌≡◌, ℕ, zero, suc, List, [], ◌∷◌, ◌++◌, Bool, true, false, Option, Some, None, inl, inr, refl, sym, ap, ◌∙◌, subst, arith}
use Rattle.scad_lexer.specs.declared.token.Token.{Token}
use Rattle.scad_lexer.specs.declared.token.TokenKind.TheVariants.{Symbol}
use Rattle.scad_lexer.specs.declared.token.Symbol.TheVariants.{Semicolon}
use Rattle.scad_ast.specs.Terms.{Term, ArgTerm, PositionalTerm, ParamTerm, BinderTerm, StatementTerm, InstanceStatement, InstanceTerm, CoreTerm, BodyTerm, InstanceBody, EmptyBody, UndefTerm}
use Rattle.scad_grammar.specs.Classes.{numeral_class, text_class, true_word, false_word, undef_word, child_count_class, special_class, argument_names, open_parenthesis_sign, close_parenthesis_sign, open_bracket_sign, close_bracket_sign, open_brace_sign, close_brace_sign, comma_sign, semicolon_sign, assign_sign, colon_sign, question_sign, dot_sign, minus_sign, plus_sign, not_sign, times_sign, remainder_sign, hash_sign, caret_sign, name_class, end_class, if_word, else_word, for_word, intersection_for_word, module_word, function_word, has_class, has_class_in}
use Rattle.scad_grammar.specs.Languages.{Language, SingleToken, ImageOf, Concatenation, ConcatenationIf, Alternation, EmptySequence, Repetition, OptionalSequence, AfterToken, BeforeToken, SeparatedList, first_of, second_of, pair_of, cons}
use Rattle.scad_grammar.specs.Grammar.{InParentheses, Rest, range_rest, Arg, Args, Param, Params, Binders, Bracket, Primary, Suffix, Unary, Chain, Choice, without_gaps, with_gaps, ArgsIn, ParamsIn, BindersIn, StatementsIn, InstanceIn, Expr, Operand, CoreOf, Instance, BodyOf, StatementOf, Statement, Body, WholeProgram, ProgramWithGaps, levels, chain_term, link_term, items, if_term, IsNearest, ends_open, instance_open, core_open, instance_term, loop_term, call_term, block_term}
use Rattle.scad_grammar.specs.Depths.{Depths, one_deeper, single_token_depths, image_depths, concatenation_depths, concatenation_if_depths, alternation_depths, empty_sequence_depths, depths_of_repetition, repetition_depths, optional_depths, after_token_depths, before_token_depths, separated_list_depths, parentheses_depths, arg_depths, args_depths, param_depths, params_depths, binders_depths, bracket_depths, primary_depths, suffix_depths, unary_depths, chain_depths, choice_depths, args_in_depths, params_in_depths, binders_in_depths, expr_depths, operand_depths, core_depths, instance_depths, body_of_depths, statement_of_depths, statements_in_depths, instance_in_depths, statement_depths, body_depths, program_depths}
use Rattle.scad_grammar.proofs.Fronts.{Filled, filled_joined, filled_deeper}
use Rattle.scad_grammar.proofs.Operands.{token}
use Rattle.scad_grammar.proofs.Primary.{Some_of}
use Rattle.scad_grammar.proofs.lemmas.Expressions.{some_expr, some_operand}
use Rattle.scad_grammar.proofs.Cores.{some_binders}
use Rattle.scad_grammar.proofs.Shown.{closed, loop_open, same_open}

abbrev pub Fill : ℕ → {A : Type 0} → (A → Bool) → (W : Language A) → Depths W → A → List Token → Type 0
Fill d {A} opens W D y os = (x : A) × (s : List Token) × (h : W x s) × Filled d os s (D.of x s h) × (opens y ≡ false → opens x ≡ false)

pub record Fills (d : ℕ) {A : Type 0} (opens : A → Bool) (O W : Language A) (D : Depths W) : Type 0 where
  pub at : (y : A) (os : List Token) → O y os → Fill d opens W D y os

one_fills : {d : ℕ} (test : Token → Bool) → Fills (suc d) closed (SingleToken test) (SingleToken test) (single_token_depths test)
unfolding single_token_depths
one_fills {d} test = record {
  at = λ t os h. (t, t ∷ [], (h.0, refl), subst (λ os. Filled (suc d) os (t ∷ []) (0 ∷ [])) (sym h.1) (λ c. ([], [], 0, refl, refl, omega arith, (refl, refl))), λ e. refl);
}

is_fills : {d : ℕ} (c : ℕ) → Fills (suc d) closed (SingleToken (has_class c)) (SingleToken (has_class c)) (single_token_depths (has_class c))
is_fills c = one_fills (has_class c)

mapped_fills : {A B : Type 0} {d : ℕ} (f : A → B) {oa : A → Bool} (ob : B → Bool) {O W : Language A} {D : Depths W} → ((a y : A) → (oa a ≡ false → oa y ≡ false) → ob (f a) ≡ false → ob (f y) ≡ false)
    → Fills d oa O W D → Fills d ob (ImageOf f O) (ImageOf f W) (image_depths f D)
unfolding image_depths
mapped_fills f ob tame h = record { at = λ b os z. let x = h.at z.0 os z.1 in (f x.0, x.1, (x.0, x.2, refl), x.3, λ e. tame z.0 x.0 x.4 (ap ob (sym z.2) ∙ e)) }

both_fills : {A B C : Type 0} {d : ℕ} (f : A → B → C) {oa : A → Bool} {ob : B → Bool} (oc : C → Bool) {Oa Wa : Language A} {Ob Wb : Language B} {D : Depths Wa} {E : Depths Wb}
    → ((a y : A) (b z : B) → (oa a ≡ false → oa y ≡ false) → (ob b ≡ false → ob z ≡ false) → oc (f a b) ≡ false → oc (f y z) ≡ false)
    → Fills d oa Oa Wa D → Fills d ob Ob Wb E → Fills d oc (Concatenation f Oa Ob) (Concatenation f Wa Wb) (concatenation_depths f D E)
unfolding concatenation_depths
both_fills {A} {B} {C} {d} f oc {Oa} {Wa} {Ob} {Wb} {D} {E} tame h k = record {
  at = λ c os z.
      let x = h.at z.0 z.2 z.4 in
      let y = k.at z.1 z.3 z.5 in (
        f x.0 y.0,
        x.1 ++ y.1,
        (x.0, y.0, x.1, y.1, x.2, y.2, refl, refl),
        subst (λ os. Filled d os (x.1 ++ y.1) (D.of x.0 x.1 x.2 ++ E.of y.0 y.1 y.2)) (sym z.7) (filled_joined d z.2 x.1 (D.of x.0 x.1 x.2) z.3 y.1 (E.of y.0 y.1 y.2) x.3 y.3),
        λ e. tame z.0 x.0 z.1 y.0 x.4 y.4 (ap oc (sym z.6) ∙ e),
      );
}

plain_fills : {A B C : Type 0} {d : ℕ} (f : A → B → C) {oa : A → Bool} {ob : B → Bool} {Oa Wa : Language A} {Ob Wb : Language B} {D : Depths Wa} {E : Depths Wb}
    → Fills d oa Oa Wa D → Fills d ob Ob Wb E → Fills d closed (Concatenation f Oa Ob) (Concatenation f Wa Wb) (concatenation_depths f D E)
plain_fills f h k = both_fills f closed (λ a y b z p q e. refl) h k

second_fills : {A B C : Type 0} {d : ℕ} (f : A → B → C) {oa : A → Bool} {ob : B → Bool} (oc : C → Bool) {Oa Wa : Language A} {Ob Wb : Language B} {D : Depths Wa} {E : Depths Wb}
    → ((a : A) (b : B) → oc (f a b) ≡ ob b) → Fills d oa Oa Wa D → Fills d ob Ob Wb E → Fills d oc (Concatenation f Oa Ob) (Concatenation f Wa Wb) (concatenation_depths f D E)
second_fills f oc same h k = both_fills f oc (λ a y b z p q e. same y z ∙ q (sym (same a b) ∙ e)) h k

plain_mapped : {A B : Type 0} {d : ℕ} (f : A → B) {oa : A → Bool} {O W : Language A} {D : Depths W} → Fills d oa O W D → Fills d closed (ImageOf f O) (ImageOf f W) (image_depths f D)
plain_mapped f h = mapped_fills f closed (λ a y p e. refl) h

module _ {A : Type 0} (d : ℕ) (o : A → Bool) (Oa Wa Ob Wb : Language A) (D : Depths Wa) (E : Depths Wb) (h : Fills d o Oa Wa D) (k : Fills d o Ob Wb E) where
  either_fill : (y : A) (os : List Token) → Alternation Oa Ob y os → Fill d o (Alternation Wa Wb) (alternation_depths D E) y os
  unfolding alternation_depths
  either_fill y os (inl z) = let x = h.at y os z in (x.0, x.1, inl x.2, x.3, x.4)
  either_fill y os (inr z) = let x = k.at y os z in (x.0, x.1, inr x.2, x.3, x.4)

either_fills : {A : Type 0} {d : ℕ} {o : A → Bool} {Oa Wa Ob Wb : Language A} {D : Depths Wa} {E : Depths Wb} → Fills d o Oa Wa D → Fills d o Ob Wb E → Fills d o (Alternation Oa Ob) (Alternation Wa Wb) (alternation_depths D E)
either_fills {A} {d} {o} {Oa} {Wa} {Ob} {Wb} {D} {E} h k = record { at = either_fill d o Oa Wa Ob Wb D E h k }

-- nothing, where something may be missing
nothing_fills : {A : Type 0} {d : ℕ} (a : A) (W : Language A) (D : Depths W) (h : W a []) → D.of a [] h ≡ [] → Fills d closed (EmptySequence a) W D
nothing_fills {A} {d} a W D h e = record { at = λ y os z. (a, [], h, subst (λ os. Filled d os [] (D.of a [] h)) (sym z.1) (refl, e), λ e. refl) }

after_gap : (d : ℕ) (os us s : List Token) (ns : List ℕ) (t : Token) → has_class caret_sign t ≡ true → os ≡ t ∷ us → Filled d os s ns
after_gap d os us s ns t g e = subst (λ os. Filled d os s ns) (sym e) (λ c. absurd (let f : true ≡ false = sym g ∙ c in cc))

-- a thing for a gap
gap_fills : {A : Type 0} {d : ℕ} (o : A → Bool) (f : Token → A) (W : Language A) (D : Depths W) (x : A) (s : List Token) (h : W x s) → o x ≡ false → Fills d o (ImageOf f (SingleToken (has_class caret_sign))) W D
gap_fills {A} {d} o f W D x s h e = record {
  at = λ y os z. (x, s, h, after_gap d os [] s (D.of x s h) z.0 z.1.0 z.1.1, λ k. e);
}

module _ {A : Type 0} (d : ℕ) (o : A → Bool) (O W : Language A) (D : Depths W) (h : Fills d o O W D) where
  many_fill : (ys : List A) (os : List Token) → Repetition O ys os → Fill d closed (Repetition W) (repetition_depths D) ys os
  unfolding repetition_depths
  many_fill [] os z = ([], [], refl, subst (λ os. Filled d os [] []) (sym z) (refl, refl), λ e. refl)
  many_fill (y ∷ ys) os z =
      let x = h.at y z.0 z.2 in
      let xs = many_fill ys z.1 z.3 in (
        x.0 ∷ xs.0,
        x.1 ++ xs.1,
        (x.1, xs.1, x.2, xs.2, refl),
        subst (λ os. Filled d os (x.1 ++ xs.1) (D.of x.0 x.1 x.2 ++ depths_of_repetition W D xs.0 xs.1 xs.2)) (sym z.4) (filled_joined d z.0 x.1 (D.of x.0 x.1 x.2) z.1 xs.1 (depths_of_repetition W D xs.0 xs.1 xs.2) x.3 xs.3),
        λ e. refl,
      )

  maybe_fill : (y : Option A) (os : List Token) → OptionalSequence O y os → Fill d closed (OptionalSequence W) (optional_depths D) y os
  unfolding optional_depths
  maybe_fill None os z = (None, [], refl, subst (λ os. Filled d os [] []) (sym z) (refl, refl), λ e. refl)
  maybe_fill (Some y) os z = let x = h.at y os z in (Some x.0, x.1, x.2, x.3, λ e. refl)

many_fills : {A : Type 0} {d : ℕ} {o : A → Bool} {O W : Language A} {D : Depths W} → Fills d o O W D → Fills d closed (Repetition O) (Repetition W) (repetition_depths D)
many_fills {A} {d} {o} {O} {W} {D} h = record { at = many_fill d o O W D h }

maybe_fills : {A : Type 0} {d : ℕ} {o : A → Bool} {O W : Language A} {D : Depths W} → Fills d o O W D → Fills d closed (OptionalSequence O) (OptionalSequence W) (optional_depths D)
maybe_fills {A} {d} {o} {O} {W} {D} h = record { at = maybe_fill d o O W D h }

deeper_fills : {A : Type 0} {d : ℕ} {o : A → Bool} {O W : Language A} {D : Depths W} → Fills d o O W D → Fills (suc d) o O W (one_deeper D)
unfolding one_deeper
deeper_fills {A} {d} {o} {O} {W} {D} h = record { at = λ y os z. let x = h.at y os z in (x.0, x.1, x.2, filled_deeper d os x.1 (D.of x.0 x.1 x.2) x.3, x.4) }

module _ (d : ℕ) (Oa Wa : Language (Token × (Term × BodyTerm))) (D : Depths Wa) (h : Fills d (λ p. ends_open p.1.1) Oa Wa D) (Ob Wb : Language BodyTerm) (E : Depths Wb) (k : Fills d ends_open Ob Wb E) where
  if_fill : (p : Token × (Term × BodyTerm)) (o : Option BodyTerm) (u v : List Token) → Oa p u → OptionalSequence Ob o v → IsNearest p o → (c : CoreTerm) (os : List Token) → c ≡ if_term p o → os ≡ u ++ v
      → Fill d core_open (ConcatenationIf if_term IsNearest Wa (OptionalSequence Wb)) (concatenation_if_depths if_term IsNearest D (optional_depths E)) c os
  unfolding concatenation_if_depths optional_depths
  if_fill p None u v hp ho fit c os has_class e =
      let x = h.at p u hp in (
        if_term x.0 None,
        x.1 ++ [],
        (x.0, None, x.1, [], x.2, refl, tt, refl, refl),
        subst (λ os. Filled d os (x.1 ++ []) (D.of x.0 x.1 x.2 ++ [])) (sym e) (filled_joined d u x.1 (D.of x.0 x.1 x.2) v [] [] x.3 (subst (λ v. Filled d v [] []) (sym ho) (refl, refl))),
        λ o. absurd (let f : true ≡ false = ap core_open (sym has_class) ∙ o in cc),
      )
  if_fill p (Some other) u v hp ho fit c os has_class e =
      let x = h.at p u hp in
      let y = k.at other v ho in (
        if_term x.0 (Some y.0),
        x.1 ++ y.1,
        (x.0, Some y.0, x.1, y.1, x.2, y.2, x.4 fit, refl, refl),
        subst (λ os. Filled d os (x.1 ++ y.1) (D.of x.0 x.1 x.2 ++ E.of y.0 y.1 y.2)) (sym e) (filled_joined d u x.1 (D.of x.0 x.1 x.2) v y.1 (E.of y.0 y.1 y.2) x.3 y.3),
        λ o. y.4 (ap core_open (sym has_class) ∙ o),
      )

  if_fills : Fills d core_open (ConcatenationIf if_term IsNearest Oa (OptionalSequence Ob)) (ConcatenationIf if_term IsNearest Wa (OptionalSequence Wb)) (concatenation_if_depths if_term IsNearest D (optional_depths E))
  if_fills = record { at = λ c os z. if_fill z.0 z.1 z.2 z.3 z.4 z.5 z.6 c os z.7 z.8 }

behind_fills : {A : Type 0} {d : ℕ} (c : ℕ) {o : A → Bool} {O W : Language A} {D : Depths W} → Fills (suc d) o O W D → Fills (suc d) o (AfterToken (has_class c) O) (AfterToken (has_class c) W) (after_token_depths (has_class c) D)
behind_fills c {o} h = both_fills second_of o (λ a y b z p q e. q e) (is_fills c) h

before_fills : {A : Type 0} {d : ℕ} (c : ℕ) {o : A → Bool} {O W : Language A} {D : Depths W} → Fills (suc d) o O W D → Fills (suc d) o (BeforeToken O (has_class c)) (BeforeToken W (has_class c)) (before_token_depths (has_class c) D)
before_fills c {o} h = both_fills first_of o (λ a y b z p q e. p e) h (is_fills c)

parentheses_fills : {A : Type 0} {d : ℕ} {o : A → Bool} {O W : Language A} {D : Depths W} → Fills d o O W D → Fills (suc d) o (InParentheses O) (InParentheses W) (parentheses_depths D)
parentheses_fills h = behind_fills open_parenthesis_sign (before_fills close_parenthesis_sign (deeper_fills h))

separated_fills : {A : Type 0} {d : ℕ} {o : A → Bool} {O W : Language A} {D : Depths W} → Fills (suc d) o O W D → Fills (suc d) closed (SeparatedList (has_class comma_sign) O) (SeparatedList (has_class comma_sign) W) (separated_list_depths (has_class comma_sign) D)
separated_fills h = plain_fills first_of (plain_fills cons h (many_fills (behind_fills comma_sign h))) (maybe_fills (is_fills comma_sign))

nothing_same : {A : Type 0} {d : ℕ} (a : A) → Fills d closed (EmptySequence a) (EmptySequence a) (empty_sequence_depths a)
unfolding empty_sequence_depths
nothing_same a = nothing_fills a (EmptySequence a) (empty_sequence_depths a) (refl, refl) refl

-- what a bracket holds
abbrev Inner : Language Term → Language (Option (Term × Rest))
Inner E =
    OptionalSequence (Concatenation pair_of E
    (Alternation (AfterToken (has_class colon_sign) (Concatenation range_rest E (OptionalSequence (AfterToken (has_class colon_sign) E))))
    (ImageOf items (Concatenation first_of (Repetition (AfterToken (has_class comma_sign) E)) (OptionalSequence (SingleToken (has_class comma_sign)))))))

abbrev inner_depths : {E : Language Term} → Depths E → Depths (Inner E)
inner_depths e =
    optional_depths (concatenation_depths pair_of e
    (alternation_depths (after_token_depths (has_class colon_sign) (concatenation_depths range_rest e (optional_depths (after_token_depths (has_class colon_sign) e))))
    (image_depths items (concatenation_depths first_of (repetition_depths (after_token_depths (has_class comma_sign) e)) (optional_depths (single_token_depths (has_class comma_sign)))))))

module _ (d : ℕ) (O W : Language Term) (D : Depths W) (e : Fills (suc d) closed O W D) where
  arg_fills : Fills (suc d) closed (Arg O) (Arg W) (arg_depths D)
  arg_fills = either_fills (plain_fills _ (one_fills (has_class_in argument_names)) (behind_fills assign_sign e)) (plain_mapped PositionalTerm e)

  args_fills : Fills (suc d) closed (Args O) (Args W) (args_depths D)
  args_fills = either_fills (separated_fills arg_fills) (nothing_same [])

  param_fills : Fills (suc d) closed (Param O) (Param W) (param_depths D)
  param_fills = plain_fills _ (is_fills name_class) (maybe_fills (behind_fills assign_sign e))

  params_fills : Fills (suc d) closed (Params (Param O)) (Params (Param W)) (params_depths (param_depths D))
  params_fills = either_fills (separated_fills param_fills) (nothing_same [])

  binders_fills : Fills (suc d) closed (Binders O) (Binders W) (binders_depths D)
  binders_fills = separated_fills (plain_fills _ (is_fills name_class) (behind_fills assign_sign e))

  inner_fills : Fills (suc d) closed (Inner O) (Inner W) (inner_depths D)
  inner_fills =
      maybe_fills (plain_fills pair_of e
      (either_fills (behind_fills colon_sign (plain_fills range_rest e (maybe_fills (behind_fills colon_sign e))))
      (plain_mapped items (plain_fills first_of (many_fills (behind_fills comma_sign e)) (maybe_fills (is_fills comma_sign))))))

-- a bracket that holds a gap
module _ (f : Token → Term) (W : Language Term) (D : Depths W) (some : Some_of W) where
  zero_inner : (y : Option (Term × Rest)) (os : List Token) → Inner (ImageOf f (SingleToken (has_class caret_sign))) y os → Fill 0 closed (Inner W) (inner_depths D) y os
  unfolding optional_depths
  zero_inner None os z = (None, [], refl, subst (λ os. Filled 0 os [] []) (sym z) (refl, refl), λ e. refl)
  zero_inner (Some p) os z = (
    Some (some.1, items []),
    some.0 ++ [],
    (some.1, items [], some.0, [], some.2, inr ([], ([], None, [], [], refl, refl, refl, refl), refl), refl, refl),
    after_gap 0 os z.3 (some.0 ++ []) _ z.4.0 z.4.1.0 (z.7 ∙ ap (λ l. l ++ z.3) z.4.1.1),
    λ e. refl,
  )

module _ (d : ℕ) (O W : Language Term) (D : Depths W) (e : Fills d closed O W D) (inner : Fills d closed (Inner O) (Inner W) (inner_depths D)) where
  bracket_fills : Fills (suc d) closed (Bracket O) (Bracket W) (bracket_depths D)
  bracket_fills = plain_fills _ (is_fills open_bracket_sign) (before_fills close_bracket_sign (deeper_fills inner))

  suffix_fills : Fills (suc d) closed (Suffix O) (Suffix W) (suffix_depths D)
  suffix_fills =
      either_fills (plain_fills _ (is_fills open_bracket_sign) (before_fills close_bracket_sign (deeper_fills e)))
      (plain_fills _ (is_fills dot_sign) (is_fills name_class))

chain_fills : {d : ℕ} (below : List (List ℕ)) {O W : Language Term} {D : Depths W} → Fills (suc d) closed O W D → Fills (suc d) closed (Chain below O) (Chain below W) (chain_depths below D)
chain_fills [] h = h
chain_fills (ops ∷ below) h = plain_fills chain_term (chain_fills below h) (many_fills (plain_fills link_term (one_fills (has_class_in ops)) (chain_fills below h)))

module _ (d : ℕ) (O W : Language Term) (D : Depths W) (e : Fills d closed O W D) (inner : Fills d closed (Inner O) (Inner W) (inner_depths D)) (As Bs : Language (List ArgTerm)) (DA : Depths Bs) (a : Fills d closed As Bs DA) (U V : Language Term) (DU : Depths V) (u : Fills d closed U V DU) where
  primary_fills : Fills (suc d) closed (Primary O As) (Primary W Bs) (primary_depths D DA)
  primary_fills =
      either_fills (plain_mapped _ (is_fills numeral_class)) (either_fills (plain_mapped _ (is_fills text_class)) (either_fills (plain_mapped _ (is_fills true_word)) (either_fills (plain_mapped _ (is_fills false_word))
      (either_fills (plain_mapped _ (is_fills undef_word)) (either_fills (plain_mapped _ (is_fills child_count_class)) (either_fills (plain_mapped _ (is_fills special_class))
      (either_fills (plain_fills _ (is_fills name_class) (maybe_fills (parentheses_fills a)))
      (either_fills (plain_fills _ (is_fills open_parenthesis_sign) (before_fills close_parenthesis_sign (deeper_fills e))) (bracket_fills d O W D e inner)))))))))

  unary_fills : Fills (suc d) closed (Unary O As U) (Unary W Bs V) (unary_depths D DA DU)
  unary_fills = either_fills (plain_fills _ (one_fills (has_class_in (minus_sign ∷ plus_sign ∷ not_sign ∷ []))) (deeper_fills u)) (plain_fills _ primary_fills (many_fills (suffix_fills d O W D e inner)))

  choice_fills : Fills (suc d) closed (Choice O As U) (Choice W Bs V) (choice_depths D DA DU)
  choice_fills =
      plain_fills _ (chain_fills levels unary_fills)
      (maybe_fills (plain_fills pair_of (is_fills question_sign) (plain_fills pair_of (deeper_fills e) (behind_fills colon_sign (deeper_fills e)))))

-- an expression, and an operand
abbrev FillsExpr : ℕ → Type 0
FillsExpr d =
    Fills d closed (Expr with_gaps d) (Expr without_gaps (suc d)) (expr_depths (suc d))
    × Fills d closed (Operand with_gaps d) (Operand without_gaps (suc d)) (operand_depths (suc d))

abbrev ExprAt : ℕ → Type 0
ExprAt d = Fills d closed (Expr with_gaps d) (Expr without_gaps (suc d)) (expr_depths (suc d))

inner_in_fills : (d : ℕ) → ExprAt d → Fills d closed (Inner (Expr with_gaps d)) (Inner (Expr without_gaps (suc d))) (inner_depths (expr_depths (suc d)))
unfolding Expr Operand
inner_in_fills zero e = record { at = zero_inner (λ t. UndefTerm t.place) (Expr without_gaps 1) (expr_depths 1) (some_expr without_gaps 0) }
inner_in_fills (suc d) e = inner_fills d (Expr with_gaps (suc d)) (Expr without_gaps (suc (suc d))) (expr_depths (suc (suc d))) e

no_args : {E : Language Term} (D : Depths E) → Fills 0 closed (EmptySequence []) (Args E) (args_depths D)
unfolding alternation_depths empty_sequence_depths
no_args {E} D = nothing_fills [] (Args E) (args_depths D) (inr (refl, refl)) refl

no_params : {E : Language Term} (D : Depths E) → Fills 0 closed (EmptySequence []) (Params (Param E)) (params_depths (param_depths D))
unfolding alternation_depths empty_sequence_depths
no_params {E} D = nothing_fills [] (Params (Param E)) (params_depths (param_depths D)) (inr (refl, refl)) refl

args_in_fills : (d : ℕ) → ExprAt d → Fills d closed (ArgsIn d (Expr with_gaps d)) (ArgsIn (suc d) (Expr without_gaps (suc d))) (args_in_depths (suc d) (expr_depths (suc d)))
args_in_fills zero e = no_args (expr_depths 1)
args_in_fills (suc d) e = args_fills d (Expr with_gaps (suc d)) (Expr without_gaps (suc (suc d))) (expr_depths (suc (suc d))) e

params_in_fills : (d : ℕ) → ExprAt d → Fills d closed (ParamsIn d (Expr with_gaps d)) (ParamsIn (suc d) (Expr without_gaps (suc d))) (params_in_depths (suc d) (expr_depths (suc d)))
params_in_fills zero e = no_params (expr_depths 1)
params_in_fills (suc d) e = params_fills d (Expr with_gaps (suc d)) (Expr without_gaps (suc (suc d))) (expr_depths (suc (suc d))) e

binders_in_fills : (d : ℕ) → ExprAt d → Fills d closed (BindersIn with_gaps d (Expr with_gaps d)) (BindersIn without_gaps (suc d) (Expr without_gaps (suc d))) (binders_in_depths (suc d) (expr_depths (suc d)))
binders_in_fills zero e = let some = some_binders (Expr without_gaps 1) (some_expr without_gaps 0) in gap_fills closed (λ t. []) (Binders (Expr without_gaps 1)) (binders_depths (expr_depths 1)) some.1 some.0 some.2 refl
binders_in_fills (suc d) e = binders_fills d (Expr with_gaps (suc d)) (Expr without_gaps (suc (suc d))) (expr_depths (suc (suc d))) e

zero_expr : FillsExpr 0
unfolding Expr Operand
zero_expr = (
  gap_fills closed (λ t. UndefTerm t.place) (Expr without_gaps 1) (expr_depths 1) (some_expr without_gaps 0).1 (some_expr without_gaps 0).0 (some_expr without_gaps 0).2 refl,
  gap_fills closed (λ t. UndefTerm t.place) (Operand without_gaps 1) (operand_depths 1) (some_operand without_gaps 0).1 (some_operand without_gaps 0).0 (some_operand without_gaps 0).2 refl,
)

next_expr : (d : ℕ) → FillsExpr d → FillsExpr (suc d)
unfolding Expr Operand expr_depths operand_depths
next_expr d e =
    let a = args_in_fills d e.0 in
    let i = inner_in_fills d e.0 in (
      choice_fills d (Expr with_gaps d) (Expr without_gaps (suc d)) (expr_depths (suc d)) e.0 i (ArgsIn d (Expr with_gaps d)) (ArgsIn (suc d) (Expr without_gaps (suc d))) (args_in_depths (suc d) (expr_depths (suc d))) a
          (Operand with_gaps d) (Operand without_gaps (suc d)) (operand_depths (suc d)) e.1,
      unary_fills d (Expr with_gaps d) (Expr without_gaps (suc d)) (expr_depths (suc d)) e.0 i (ArgsIn d (Expr with_gaps d)) (ArgsIn (suc d) (Expr without_gaps (suc d))) (args_in_depths (suc d) (expr_depths (suc d))) a
          (Operand with_gaps d) (Operand without_gaps (suc d)) (operand_depths (suc d)) e.1,
    )

expr_fills : (d : ℕ) → FillsExpr d
expr_fills zero = zero_expr
expr_fills (suc d) = next_expr d (expr_fills d)

module _ (d : ℕ) (E E1 : Language Term) (DE : Depths E1) (e : Fills d closed E E1 DE) (As A1 : Language (List ArgTerm)) (DA : Depths A1) (a : Fills d closed As A1 DA) (Ns N1 : Language (List BinderTerm)) (DN : Depths N1) (n : Fills d closed Ns N1 DN) (B B1 : Language BodyTerm) (DB : Depths B1) (b : Fills d ends_open B B1 DB) where
  core_fills : Fills (suc d) core_open (CoreOf E As Ns B) (CoreOf E1 A1 N1 B1) (core_depths DE DA DN DB)
  core_fills =
      either_fills
      (if_fills (suc d) _ _ _
      (second_fills pair_of (λ p. ends_open p.1.1) (λ t p. refl) (is_fills if_word) (second_fills pair_of (λ p. ends_open p.1) (λ x y. refl) (parentheses_fills e) (deeper_fills b)))
      _ _ _ (behind_fills else_word (deeper_fills b)))
      (either_fills
      (second_fills loop_term core_open loop_open (one_fills (has_class_in (for_word ∷ intersection_for_word ∷ []))) (second_fills pair_of (λ p. ends_open p.1) (λ x y. refl) (parentheses_fills n) (deeper_fills b)))
      (second_fills call_term core_open (λ t p. refl) (is_fills name_class) (second_fills pair_of (λ p. ends_open p.1) (λ x y. refl) (parentheses_fills a) (deeper_fills b))))

  instance_fills : Fills (suc d) instance_open (Instance E As Ns B) (Instance E1 A1 N1 B1) (instance_depths DE DA DN DB)
  instance_fills = second_fills instance_term instance_open same_open (many_fills (plain_mapped _ (one_fills (has_class_in (times_sign ∷ remainder_sign ∷ hash_sign ∷ not_sign ∷ []))))) core_fills

module _ (d : ℕ) (I I1 : Language InstanceTerm) (DI : Depths I1) (i : Fills (suc d) instance_open I I1 DI) (Ss S1 : Language (List StatementTerm)) (DS : Depths S1) (s : Fills d closed Ss S1 DS) where
  body_of_fills : Fills (suc d) ends_open (BodyOf I Ss) (BodyOf I1 S1) (body_of_depths DI DS)
  body_of_fills =
      either_fills (mapped_fills _ ends_open (λ x y p e. refl) (is_fills semicolon_sign))
      (either_fills (both_fills block_term ends_open (λ x y z w p q e. refl) (is_fills open_brace_sign) (before_fills close_brace_sign (deeper_fills s)))
      (mapped_fills InstanceBody ends_open (λ x y p e. p e) i))

  statement_of_fills : (X X1 : Language Term) (DX : Depths X1) → Fills (suc d) closed X X1 DX → (Ps P1 : Language (List ParamTerm)) (DP : Depths P1) → Fills d closed Ps P1 DP → (B B1 : Language BodyTerm) (DB : Depths B1) → Fills d ends_open B B1 DB
      → Fills (suc d) closed (StatementOf X Ps I Ss B) (StatementOf X1 P1 I1 S1 B1) (statement_of_depths DX DP DI DS DB)
  statement_of_fills X X1 DX x Ps P1 DP p B B1 DB b =
      either_fills (plain_mapped _ (is_fills semicolon_sign))
      (either_fills (plain_fills _ (is_fills open_brace_sign) (before_fills close_brace_sign (deeper_fills s)))
      (either_fills (plain_fills _ (is_fills special_class) (behind_fills assign_sign (before_fills semicolon_sign x)))
      (either_fills (plain_fills _ (is_fills name_class) (behind_fills assign_sign (before_fills semicolon_sign x)))
      (either_fills (plain_fills _ (is_fills module_word) (plain_fills pair_of (is_fills name_class) (plain_fills pair_of (parentheses_fills p) (deeper_fills b))))
      (either_fills (plain_fills _ (is_fills function_word) (plain_fills pair_of (is_fills name_class) (plain_fills pair_of (parentheses_fills p) (behind_fills assign_sign (before_fills semicolon_sign x)))))
      (plain_mapped InstanceStatement i))))))

-- the statements in braces, and a body
abbrev FillsBody : ℕ → Type 0
FillsBody d =
    Fills d closed (StatementsIn d (Statement with_gaps d)) (StatementsIn (suc d) (Statement without_gaps (suc d))) (statements_in_depths (suc d) (statement_depths (suc d)))
    × Fills d ends_open (Body with_gaps d) (Body without_gaps (suc d)) (body_depths (suc d))

abbrev FillsStatement : ℕ → Type 0
FillsStatement d = Fills d closed (Statement with_gaps d) (Statement without_gaps (suc d)) (statement_depths (suc d))

instance_in_fills : (d : ℕ) → FillsBody d → Fills (suc d) instance_open (InstanceIn with_gaps d (Body with_gaps d)) (InstanceIn without_gaps (suc d) (Body without_gaps (suc d))) (instance_in_depths (suc d) (body_depths (suc d)))
instance_in_fills d b =
    let e = (expr_fills d).0 in
    instance_fills d (Expr with_gaps d) (Expr without_gaps (suc d)) (expr_depths (suc d)) e
    (ArgsIn d (Expr with_gaps d)) (ArgsIn (suc d) (Expr without_gaps (suc d))) (args_in_depths (suc d) (expr_depths (suc d))) (args_in_fills d e)
    (BindersIn with_gaps d (Expr with_gaps d)) (BindersIn without_gaps (suc d) (Expr without_gaps (suc d))) (binders_in_depths (suc d) (expr_depths (suc d))) (binders_in_fills d e)
    (Body with_gaps d) (Body without_gaps (suc d)) (body_depths (suc d)) b.1

next_statement : (d : ℕ) → FillsBody d → FillsStatement (suc d)
unfolding Statement Body statement_depths body_depths
next_statement d b =
    statement_of_fills d (InstanceIn with_gaps d (Body with_gaps d)) (InstanceIn without_gaps (suc d) (Body without_gaps (suc d))) (instance_in_depths (suc d) (body_depths (suc d))) (instance_in_fills d b)
    (StatementsIn d (Statement with_gaps d)) (StatementsIn (suc d) (Statement without_gaps (suc d))) (statements_in_depths (suc d) (statement_depths (suc d))) b.0
    (Expr with_gaps (suc d)) (Expr without_gaps (suc (suc d))) (expr_depths (suc (suc d))) (expr_fills (suc d)).0
    (ParamsIn d (Expr with_gaps d)) (ParamsIn (suc d) (Expr without_gaps (suc d))) (params_in_depths (suc d) (expr_depths (suc d))) (params_in_fills d (expr_fills d).0)
    (Body with_gaps d) (Body without_gaps (suc d)) (body_depths (suc d)) b.1

next_body : (d : ℕ) → FillsBody d → Fills (suc d) ends_open (Body with_gaps (suc d)) (Body without_gaps (suc (suc d))) (body_depths (suc (suc d)))
unfolding Statement Body statement_depths body_depths
next_body d b =
    body_of_fills d (InstanceIn with_gaps d (Body with_gaps d)) (InstanceIn without_gaps (suc d) (Body without_gaps (suc d))) (instance_in_depths (suc d) (body_depths (suc d))) (instance_in_fills d b)
    (StatementsIn d (Statement with_gaps d)) (StatementsIn (suc d) (Statement without_gaps (suc d))) (statements_in_depths (suc d) (statement_depths (suc d))) b.0

zero_body : Fills 0 ends_open (Body with_gaps 0) (Body without_gaps 1) (body_depths 1)
unfolding Statement Body
zero_body =
    let semicolon : Token = token (Symbol Semicolon) in
    gap_fills ends_open (λ t. EmptyBody t.place) (Body without_gaps 1) (body_depths 1) (EmptyBody semicolon.place) (semicolon ∷ []) (inl (semicolon, (refl, refl), refl)) refl

no_statements : Fills 0 closed (EmptySequence []) (Repetition (Statement without_gaps 1)) (repetition_depths (statement_depths 1))
unfolding repetition_depths
no_statements = nothing_fills [] (Repetition (Statement without_gaps 1)) (repetition_depths (statement_depths 1)) refl refl

body_fills : (d : ℕ) → FillsBody d
body_fills zero = (no_statements, zero_body)
body_fills (suc d) = (many_fills (next_statement d (body_fills d)), next_body d (body_fills d))

pub program_fills : (d : ℕ) → Fills (suc d) closed (ProgramWithGaps (suc d)) (WholeProgram (suc (suc d))) (program_depths (suc (suc d)))
program_fills d = before_fills end_class (many_fills (next_statement d (body_fills d)))
