-- A program's tokens have one list of depths: its tree tells it.
use Rattle.std.proofs.Common.{◌≡◌, ℕ, zero, suc, List, [], ◌∷◌, ◌++◌, map, Bool, true, false, cond, Option, Some, None, inl, inr, refl, sym, ap, ◌∙◌, subst, append_assoc, append-nil}
use Rattle.scad_lexer.specs.declared.token.Token.{Token}
use Rattle.scad_ast.specs.Terms.{Term, ArgTerm, PositionalTerm, ParamTerm, BinderTerm, StatementTerm, InstanceStatement, InstanceTerm, BodyTerm, InstanceBody, statements_from}
use Rattle.scad_grammar.specs.Classes.{numeral_class, text_class, true_word, false_word, undef_word, child_count_class, special_class, open_parenthesis_sign, close_parenthesis_sign, open_bracket_sign, close_bracket_sign, open_brace_sign, close_brace_sign, comma_sign, semicolon_sign, assign_sign, colon_sign, question_sign, dot_sign, name_class, end_class, if_word, else_word, for_word, intersection_for_word, module_word, function_word, token_class, has_class, has_class_in}
use Rattle.scad_grammar.specs.Languages.{Language, SingleToken, ImageOf, Concatenation, ConcatenationIf, Alternation, EmptySequence, Repetition, OptionalSequence, EmptyLanguage, AfterToken, BeforeToken, SeparatedList, first_of, second_of, pair_of, cons}
use Rattle.scad_grammar.specs.Grammar.{InParentheses, items, range_rest, Arg, Args, Param, Params, Binders, Bracket, Primary, Suffix, Unary, Chain, Choice, without_gaps, ArgsIn, ParamsIn, BindersIn, StatementsIn, InstanceIn, Expr, Operand, CoreOf, Instance, BodyOf, StatementOf, Statement, Body, WholeProgram, levels, link_term, chain_term, choice_term, unary_term, postfix_term, index_term, member_term, name_term, paren_term, bracket_term, named_argument_term, param_term, binder_term, if_term, IsNearest, instance_term, loop_term, call_term, block_term, bare_block_term, assignment_term, special_assignment_term, module_term, function_term}
use Rattle.scad_grammar.specs.Reading.{next_is}
use Rattle.scad_grammar.specs.Depths.{Depths, one_deeper, single_token_depths, image_depths, concatenation_depths, concatenation_if_depths, depths_of_alternation, alternation_depths, empty_sequence_depths, depths_of_repetition, repetition_depths, depths_of_optional, optional_depths, empty_language_depths, after_token_depths, before_token_depths, separated_list_depths, parentheses_depths, arg_depths, args_depths, param_depths, params_depths, binders_depths, bracket_depths, primary_depths, suffix_depths, unary_depths, chain_depths, choice_depths, args_in_depths, params_in_depths, binders_in_depths, expr_depths, operand_depths, core_depths, instance_depths, body_of_depths, statement_of_depths, statements_in_depths, instance_in_depths, statement_depths, body_depths, program_depths, HasDepths}
use Rattle.scad_grammar.proofs.Tests.{apart, classes_apart}
use Rattle.scad_grammar.proofs.lemmas.Programs.{one_program}
use Rattle.scad_grammar.proofs.Taken.{Taken, Takes, one, none, and_then, deep, last_comma, in_pair, each, perhaps, more, items_taken, separated, term, link_taken, suffix_taken, argument, rest_taken, range_taken, parameter, binder, statement, statements, instance, core, body, same_pair, statements_taken, chain_taken, postfix_taken, sides, choice_taken, named_taken, inner_taken, bracket_taken, given_taken, parameter_taken, instance_taken, tested, if_taken, loop_taken}

-- what is written by some tokens tells their depths, whatever stands behind them that may
record Walks {A : Type 0} (w : A → Takes) (stops : List Token → Type 0) (L : Language A) (D : Depths L) : Type 0 where
  at : (x : A) (s : List Token) (h : L x s) (r : List Token) → stops r → w x (s ++ r) ≡ (D.of x s h, r)

abbrev any : List Token → Type 0
any r = Unit {0}

abbrev no_comma : List Token → Type 0
no_comma r = next_is (has_class comma_sign) r ≡ false

weaker : {A : Type 0} {w : A → Takes} {L : Language A} {D : Depths L} → Walks w any L D → Walks w no_comma L D
weaker h = record { at = λ x s e r n. h.at x s e r tt }

joined : (f g : Takes) (ts us vs : List Token) (ms ns : List ℕ) → f ts ≡ (ms, us) → g us ≡ (ns, vs) → and_then f g ts ≡ (ms ++ ns, vs)
joined f g ts us vs ms ns a b = ap (λ (u : Taken). (u.0 ++ (g u.1).0, (g u.1).1)) a ∙ ap (λ (u : Taken). (ms ++ u.0, u.1)) b

one_walks : (test : Token → Bool) → Walks (λ t. one) any (SingleToken test) (single_token_depths test)
unfolding single_token_depths
one_walks test = record { at = λ t s h r n. ap (λ s. one (s ++ r)) h.1 }

mapped_walks : {A B : Type 0} (f : A → B) {w : A → Takes} (v : B → Takes) {stops : List Token → Type 0} {L : Language A} {D : Depths L} → ((a : A) (ts : List Token) → v (f a) ts ≡ w a ts) → Walks w stops L D → Walks v stops (ImageOf f L) (image_depths f D)
unfolding image_depths
mapped_walks f v same h = record { at = λ b s x r n. ap (λ b. v b (s ++ r)) x.2 ∙ same x.0 (s ++ r) ∙ h.at x.0 s x.1 r n }

both_walks : {A B C : Type 0} (f : A → B → C) (wa : A → Takes) (wb : B → Takes) (wc : C → Takes) {sa sb : List Token → Type 0} {La : Language A} {Lb : Language B} {D : Depths La} {E : Depths Lb}
    → ((a : A) (b : B) (p q ts : List Token) → La a p → Lb b q → wc (f a b) ts ≡ and_then (wa a) (wb b) ts) → ((b : B) (q r : List Token) → Lb b q → sb r → sa (q ++ r))
    → Walks wa sa La D → Walks wb sb Lb E → Walks wc sb (Concatenation f La Lb) (concatenation_depths f D E)
unfolding concatenation_depths
both_walks f wa wb wc {sa} {sb} {La} {Lb} {D} {E} same before h k = record {
  at = λ c s x r n.
      ap (λ c. wc c (s ++ r)) x.6 ∙ ap (λ s. wc (f x.0 x.1) (s ++ r)) x.7 ∙ ap (wc (f x.0 x.1)) (append_assoc x.2 x.3 r)
      ∙ same x.0 x.1 x.2 x.3 (x.2 ++ (x.3 ++ r)) x.4 x.5
      ∙ joined (wa x.0) (wb x.1) (x.2 ++ (x.3 ++ r)) (x.3 ++ r) r (D.of x.0 x.2 x.4) (E.of x.1 x.3 x.5) (h.at x.0 x.2 x.4 (x.3 ++ r) (before x.1 x.3 r x.5 n)) (k.at x.1 x.3 x.5 r n);
}

any_walks : {A B C : Type 0} (f : A → B → C) (wa : A → Takes) (wb : B → Takes) (wc : C → Takes) {sb : List Token → Type 0} {La : Language A} {Lb : Language B} {D : Depths La} {E : Depths Lb}
    → ((a : A) (b : B) (ts : List Token) → wc (f a b) ts ≡ and_then (wa a) (wb b) ts)
    → Walks wa any La D → Walks wb sb Lb E → Walks wc sb (Concatenation f La Lb) (concatenation_depths f D E)
any_walks f wa wb wc same h k = both_walks f wa wb wc (λ a b p q ts x y. same a b ts) (λ b q r x n. tt) h k

if_walks : (wa : Token × (Term × BodyTerm) → Takes) (wb : Option BodyTerm → Takes) {La : Language (Token × (Term × BodyTerm))} {Lb : Language (Option BodyTerm)} {D : Depths La} {E : Depths Lb}
    → ((a : Token × (Term × BodyTerm)) (b : Option BodyTerm) (ts : List Token) → core (if_term a b) ts ≡ and_then (wa a) (wb b) ts)
    → Walks wa any La D → Walks wb any Lb E → Walks core any (ConcatenationIf if_term IsNearest La Lb) (concatenation_if_depths if_term IsNearest D E)
unfolding concatenation_if_depths
if_walks wa wb {La} {Lb} {D} {E} same h k = record {
  at = λ c s x r n.
      ap (λ c. core c (s ++ r)) x.7 ∙ ap (λ s. core (if_term x.0 x.1) (s ++ r)) x.8 ∙ ap (core (if_term x.0 x.1)) (append_assoc x.2 x.3 r)
      ∙ same x.0 x.1 (x.2 ++ (x.3 ++ r))
      ∙ joined (wa x.0) (wb x.1) (x.2 ++ (x.3 ++ r)) (x.3 ++ r) r (D.of x.0 x.2 x.4) (E.of x.1 x.3 x.5) (h.at x.0 x.2 x.4 (x.3 ++ r) tt) (k.at x.1 x.3 x.5 r tt);
}

module _ {A : Type 0} (w : A → Takes) (stops : List Token → Type 0) (La Lb : Language A) (D : Depths La) (E : Depths Lb) (h : Walks w stops La D) (k : Walks w stops Lb E) where
  either_at : (x : A) (s : List Token) (e : Alternation La Lb x s) (r : List Token) → stops r → w x (s ++ r) ≡ (depths_of_alternation La Lb D E x s e, r)
  either_at x s (inl e) r n = h.at x s e r n
  either_at x s (inr e) r n = k.at x s e r n

either_walks : {A : Type 0} {w : A → Takes} {stops : List Token → Type 0} {La Lb : Language A} {D : Depths La} {E : Depths Lb} → Walks w stops La D → Walks w stops Lb E → Walks w stops (Alternation La Lb) (alternation_depths D E)
unfolding alternation_depths
either_walks {A} {w} {stops} {La} {Lb} {D} {E} h k = record { at = either_at w stops La Lb D E h k }

never_walks : {A : Type 0} (w : A → Takes) (stops : List Token → Type 0) → Walks w stops EmptyLanguage empty_language_depths
never_walks w stops = record { at = λ x s h r n. elim h [ ] }

module _ {A : Type 0} (w : A → Takes) (L : Language A) (D : Depths L) (h : Walks w any L D) where
  many_at : (xs : List A) (s : List Token) (x : Repetition L xs s) (r : List Token) → any r → each w xs (s ++ r) ≡ (depths_of_repetition L D xs s x, r)
  many_at [] s x r n = ap (λ s. none (s ++ r)) x
  many_at (y ∷ ys) s x r n =
      ap (λ s. each w (y ∷ ys) (s ++ r)) x.4 ∙ ap (each w (y ∷ ys)) (append_assoc x.0 x.1 r)
      ∙ joined (w y) (each w ys) (x.0 ++ (x.1 ++ r)) (x.1 ++ r) r (D.of y x.0 x.2) (depths_of_repetition L D ys x.1 x.3) (h.at y x.0 x.2 (x.1 ++ r) tt) (many_at ys x.1 x.3 r tt)

many_walks : {A : Type 0} {w : A → Takes} {L : Language A} {D : Depths L} → Walks w any L D → Walks (each w) any (Repetition L) (repetition_depths D)
unfolding repetition_depths
many_walks {A} {w} {L} {D} h = record { at = many_at w L D h }

module _ {A : Type 0} (w : A → Takes) (stops : List Token → Type 0) (L : Language A) (D : Depths L) (h : Walks w stops L D) where
  maybe_at : (x : Option A) (s : List Token) (e : OptionalSequence L x s) (r : List Token) → stops r → perhaps w x (s ++ r) ≡ (depths_of_optional L D x s e, r)
  maybe_at None s e r n = ap (λ s. none (s ++ r)) e
  maybe_at (Some x) s e r n = h.at x s e r n

maybe_walks : {A : Type 0} {w : A → Takes} {stops : List Token → Type 0} {L : Language A} {D : Depths L} → Walks w stops L D → Walks (perhaps w) stops (OptionalSequence L) (optional_depths D)
unfolding optional_depths
maybe_walks {A} {w} {stops} {L} {D} h = record { at = maybe_at w stops L D h }

deep_walks : {A : Type 0} {w : A → Takes} {stops : List Token → Type 0} {L : Language A} {D : Depths L} → Walks w stops L D → Walks (λ x. deep (w x)) stops L (one_deeper D)
unfolding one_deeper
deep_walks h = record { at = λ x s e r n. ap (λ (u : Taken). (map suc u.0, u.1)) (h.at x s e r n) }

-- a comma behind the last item is told by what stands there
no_comma_there : (r : List Token) → no_comma r → last_comma r ≡ ([], r)
no_comma_there [] n = refl
no_comma_there (t ∷ r) n = ap (λ b. cond b (0 ∷ [], r) ([], t ∷ r)) n

comma_at : (o : Option Token) (s : List Token) (h : OptionalSequence (SingleToken (has_class comma_sign)) o s) (r : List Token) → no_comma r → last_comma (s ++ r) ≡ (depths_of_optional (SingleToken (has_class comma_sign)) (single_token_depths (has_class comma_sign)) o s h, r)
unfolding single_token_depths
comma_at None s h r n = ap (λ s. last_comma (s ++ r)) h ∙ no_comma_there r n
comma_at (Some t) s h r n = ap (λ s. last_comma (s ++ r)) h.1 ∙ ap (λ b. cond b (0 ∷ [], r) ([], t ∷ r)) h.0

comma_walks : Walks (λ o. last_comma) no_comma (OptionalSequence (SingleToken (has_class comma_sign))) (optional_depths (single_token_depths (has_class comma_sign)))
unfolding optional_depths
comma_walks = record { at = comma_at }

behind_walks : {A : Type 0} (c : ℕ) {w : A → Takes} {stops : List Token → Type 0} {L : Language A} {D : Depths L} → Walks w stops L D → Walks (λ x. and_then one (w x)) stops (AfterToken (has_class c) L) (after_token_depths (has_class c) D)
behind_walks c {w} h = any_walks second_of (λ t. one) w (λ x. and_then one (w x)) (λ a b ts. refl) (one_walks (has_class c)) h

ended_walks : {A : Type 0} (c : ℕ) {w : A → Takes} {stops : List Token → Type 0} {L : Language A} {D : Depths L} → ((t : Token) (r : List Token) → has_class c t ≡ true → stops (t ∷ r)) → Walks w stops L D → Walks (λ x. and_then (w x) one) any (BeforeToken L (has_class c)) (before_token_depths (has_class c) D)
ended_walks c {w} {stops} before h = both_walks first_of w (λ t. one) (λ x. and_then (w x) one) (λ a b p q ts x y. refl) (λ t q r x n. subst (λ q. stops (q ++ r)) (sym x.1) (before t r x.0)) h (one_walks (has_class c))

before_walks : {A : Type 0} (c : ℕ) {w : A → Takes} {L : Language A} {D : Depths L} → Walks w any L D → Walks (λ x. and_then (w x) one) any (BeforeToken L (has_class c)) (before_token_depths (has_class c) D)
before_walks c h = ended_walks c (λ t r e. tt) h

closing : (c : ℕ) → apart (c ∷ []) (comma_sign ∷ []) ≡ true → (t : Token) (r : List Token) → has_class c t ≡ true → no_comma (t ∷ r)
closing c a t r e = classes_apart (c ∷ []) (comma_sign ∷ []) a (token_class t.kind) e

parentheses_walks : {A : Type 0} {w : A → Takes} {L : Language A} {D : Depths L} → Walks w any L D → Walks (λ x. in_pair (w x)) any (InParentheses L) (parentheses_depths D)
parentheses_walks h = behind_walks open_parenthesis_sign (before_walks close_parenthesis_sign (deep_walks h))

list_walks : {A : Type 0} {w : A → Takes} {L : Language A} {D : Depths L} → Walks w no_comma L D → Walks (λ x. in_pair (w x)) any (InParentheses L) (parentheses_depths D)
list_walks h = behind_walks open_parenthesis_sign (ended_walks close_parenthesis_sign (closing close_parenthesis_sign refl) (deep_walks h))

separated_walks : {A : Type 0} {w : A → Takes} {L : Language A} {D : Depths L} → Walks w any L D → Walks (separated w) no_comma (SeparatedList (has_class comma_sign) L) (separated_list_depths (has_class comma_sign) D)
separated_walks {A} {w} h =
    any_walks first_of (items_taken w) (λ o. last_comma) (separated w) (λ a b ts. refl)
    (any_walks cons w (each (more w)) (items_taken w) (λ x xs ts. refl) h (many_walks (behind_walks comma_sign h))) comma_walks

no_items : {A : Type 0} (w : A → Takes) → Walks (separated w) no_comma (EmptySequence []) (empty_sequence_depths [])
unfolding empty_sequence_depths
no_items w = record { at = λ x s h r n. ap (λ x. separated w x (s ++ r)) h.0 ∙ ap (λ s. separated w [] (s ++ r)) h.1 ∙ no_comma_there r n }

-- behind the first expression of a bracket
of_range : (x : Term) (o : Option Term) (ts : List Token) → range_taken (range_rest x o) ts ≡ and_then (term x) (perhaps (λ y. and_then one (term y)) o) ts
of_range x None ts = ap (λ (l : List ℕ). (l, (term x ts).1)) (sym (append-nil (term x ts).0))
of_range x (Some y) ts = refl

colon_first : (x : Term) (o : Option Term) (ts : List Token) → rest_taken (range_rest x o) ts ≡ and_then one (range_taken (range_rest x o)) ts
colon_first x None ts = refl
colon_first x (Some y) ts = refl

module _ (L : Language Term) (D : Depths L) (e : Walks term any L D) where
  arg_walks : Walks argument any (Arg L) (arg_depths D)
  arg_walks = either_walks (any_walks named_argument_term (λ t. one) (λ x. and_then one (term x)) argument given_taken (one_walks _) (behind_walks assign_sign e)) (mapped_walks PositionalTerm argument (λ x ts. refl) e)

  args_walks : Walks (separated argument) no_comma (Args L) (args_depths D)
  args_walks = either_walks (separated_walks arg_walks) (no_items argument)

  param_walks : Walks parameter any (Param L) (param_depths D)
  param_walks = any_walks param_term (λ t. one) (perhaps (λ x. and_then one (term x))) parameter parameter_taken (one_walks (has_class name_class)) (maybe_walks (behind_walks assign_sign e))

  params_walks : Walks (separated parameter) no_comma (Params (Param L)) (params_depths (param_depths D))
  params_walks = either_walks (separated_walks param_walks) (no_items parameter)

  binders_walks : Walks (separated binder) no_comma (Binders L) (binders_depths D)
  binders_walks = separated_walks (any_walks binder_term (λ t. one) (λ x. and_then one (term x)) binder (λ t x ts. refl) (one_walks (has_class name_class)) (behind_walks assign_sign e))

  range_walks : Walks rest_taken no_comma (AfterToken (has_class colon_sign) (Concatenation range_rest L (OptionalSequence (AfterToken (has_class colon_sign) L)))) (after_token_depths (has_class colon_sign) (concatenation_depths range_rest D (optional_depths (after_token_depths (has_class colon_sign) D))))
  range_walks =
      weaker (both_walks second_of (λ t. one) range_taken rest_taken
      (λ t b p q ts x y. subst (λ b. rest_taken b ts ≡ and_then one (range_taken b) ts) (sym y.6) (colon_first y.0 y.1 ts)) (λ b q r x n. tt) (one_walks (has_class colon_sign))
      (any_walks range_rest term (perhaps (λ y. and_then one (term y))) range_taken of_range e (maybe_walks (behind_walks colon_sign e))))

  items_walks : Walks rest_taken no_comma (ImageOf items (Concatenation first_of (Repetition (AfterToken (has_class comma_sign) L)) (OptionalSequence (SingleToken (has_class comma_sign))))) (image_depths items (concatenation_depths first_of (repetition_depths (after_token_depths (has_class comma_sign) D)) (optional_depths (single_token_depths (has_class comma_sign)))))
  items_walks =
      mapped_walks items rest_taken (λ xs ts. refl)
      (any_walks first_of (each (more term)) (λ o. last_comma) (λ xs. and_then (each (more term) xs) last_comma) (λ a b ts. refl) (many_walks (behind_walks comma_sign e)) comma_walks)

  bracket_walks : Walks term any (Bracket L) (bracket_depths D)
  bracket_walks =
      any_walks bracket_term (λ t. one) (λ o. and_then (deep (inner_taken o)) one) term bracket_taken (one_walks (has_class open_bracket_sign))
      (ended_walks close_bracket_sign (closing close_bracket_sign refl)
      (deep_walks (maybe_walks (any_walks pair_of term rest_taken (λ p. and_then (term p.0) (rest_taken p.1)) (λ a b ts. refl) e (either_walks range_walks items_walks)))))

  suffix_walks : Walks suffix_taken any (Suffix L) (suffix_depths D)
  suffix_walks =
      either_walks (any_walks index_term (λ t. one) (λ x. and_then (deep (term x)) one) suffix_taken (λ t x ts. refl) (one_walks (has_class open_bracket_sign)) (before_walks close_bracket_sign (deep_walks e)))
      (any_walks member_term (λ t. one) (λ t. one) suffix_taken (λ t u ts. refl) (one_walks (has_class dot_sign)) (one_walks (has_class name_class)))

  chain_walks : (below : List (List ℕ)) → Walks term any (Chain below L) (chain_depths below D)
  chain_walks [] = e
  chain_walks (ops ∷ below) =
      any_walks chain_term term (each link_taken) term chain_taken (chain_walks below)
      (many_walks (any_walks link_term (λ t. one) term link_taken (λ t x ts. refl) (one_walks (has_class_in ops)) (chain_walks below)))

one_of_term : (f : Token → Term) (c : ℕ) → ((t : Token) (ts : List Token) → term (f t) ts ≡ one ts) → Walks term any (ImageOf f (SingleToken (has_class c))) (image_depths f (single_token_depths (has_class c)))
one_of_term f c same = mapped_walks f term same (one_walks (has_class c))

abbrev sides_of : Term × Term → Takes
sides_of q = and_then (deep (term q.0)) (and_then one (deep (term q.1)))

module _ (L : Language Term) (D : Depths L) (e : Walks term any L D) (As : Language (List ArgTerm)) (DA : Depths As) (a : Walks (separated argument) no_comma As DA) (U : Language Term) (DU : Depths U) (u : Walks term any U DU) where
  primary_walks : Walks term any (Primary L As) (primary_depths D DA)
  primary_walks =
      either_walks (one_of_term _ numeral_class (λ t ts. refl)) (either_walks (one_of_term _ text_class (λ t ts. refl)) (either_walks (one_of_term _ true_word (λ t ts. refl)) (either_walks (one_of_term _ false_word (λ t ts. refl))
      (either_walks (one_of_term _ undef_word (λ t ts. refl)) (either_walks (one_of_term _ child_count_class (λ t ts. refl)) (either_walks (one_of_term _ special_class (λ t ts. refl))
      (either_walks (any_walks name_term (λ t. one) (perhaps (λ xs. in_pair (separated argument xs))) term named_taken (one_walks (has_class name_class)) (maybe_walks (list_walks a)))
      (either_walks (any_walks paren_term (λ t. one) (λ x. and_then (deep (term x)) one) term (λ t x ts. refl) (one_walks (has_class open_parenthesis_sign)) (before_walks close_parenthesis_sign (deep_walks e))) (bracket_walks L D e)))))))))

  unary_walks : Walks term any (Unary L As U) (unary_depths D DA DU)
  unary_walks =
      either_walks (any_walks unary_term (λ t. one) (λ x. deep (term x)) term (λ t x ts. refl) (one_walks _) (deep_walks u))
      (any_walks postfix_term term (each suffix_taken) term postfix_taken primary_walks (many_walks (suffix_walks L D e)))

  choice_walks : Walks term any (Choice L As U) (choice_depths D DA DU)
  choice_walks =
      any_walks choice_term term (perhaps sides) term choice_taken (chain_walks (Unary L As U) (unary_depths D DA DU) unary_walks levels)
      (maybe_walks (any_walks pair_of (λ t. one) sides_of sides (λ t q ts. refl) (one_walks (has_class question_sign))
      (any_walks pair_of (λ x. deep (term x)) (λ y. and_then one (deep (term y))) sides_of (λ x y ts. refl) (deep_walks e) (behind_walks colon_sign (deep_walks e)))))

args_in_walks : (k : ℕ) → Walks term any (Expr without_gaps k) (expr_depths k) → Walks (separated argument) no_comma (ArgsIn k (Expr without_gaps k)) (args_in_depths k (expr_depths k))
args_in_walks zero e = no_items argument
args_in_walks (suc k) e = args_walks (Expr without_gaps (suc k)) (expr_depths (suc k)) e

params_in_walks : (k : ℕ) → Walks term any (Expr without_gaps k) (expr_depths k) → Walks (separated parameter) no_comma (ParamsIn k (Expr without_gaps k)) (params_in_depths k (expr_depths k))
params_in_walks zero e = no_items parameter
params_in_walks (suc k) e = params_walks (Expr without_gaps (suc k)) (expr_depths (suc k)) e

binders_in_walks : (k : ℕ) → Walks term any (Expr without_gaps k) (expr_depths k) → Walks (separated binder) no_comma (BindersIn without_gaps k (Expr without_gaps k)) (binders_in_depths k (expr_depths k))
binders_in_walks zero e = never_walks (separated binder) no_comma
binders_in_walks (suc k) e = binders_walks (Expr without_gaps (suc k)) (expr_depths (suc k)) e

abbrev WalksExpr : ℕ → Type 0
WalksExpr k = Walks term any (Expr without_gaps k) (expr_depths k) × Walks term any (Operand without_gaps k) (operand_depths k)

no_expr : WalksExpr 0
unfolding Expr Operand expr_depths operand_depths
no_expr = (never_walks term any, never_walks term any)

next_expr : (k : ℕ) → WalksExpr k → WalksExpr (suc k)
unfolding Expr Operand expr_depths operand_depths
next_expr k e =
    let a = args_in_walks k e.0 in (
      choice_walks (Expr without_gaps k) (expr_depths k) e.0 (ArgsIn k (Expr without_gaps k)) (args_in_depths k (expr_depths k)) a (Operand without_gaps k) (operand_depths k) e.1,
      unary_walks (Expr without_gaps k) (expr_depths k) e.0 (ArgsIn k (Expr without_gaps k)) (args_in_depths k (expr_depths k)) a (Operand without_gaps k) (operand_depths k) e.1,
    )

expr_walks : (k : ℕ) → WalksExpr k
expr_walks zero = no_expr
expr_walks (suc k) = next_expr k (expr_walks k)

-- what stands in parentheses before a body
abbrev with_body : {A : Type 0} → (A → Takes) → A × BodyTerm → Takes
with_body w p = and_then (in_pair (w p.0)) (deep (body p.1))

module _ (E : Language Term) (DE : Depths E) (e : Walks term any E DE) (As : Language (List ArgTerm)) (DA : Depths As) (a : Walks (separated argument) no_comma As DA) (Ns : Language (List BinderTerm)) (DN : Depths Ns) (n : Walks (separated binder) no_comma Ns DN) (B : Language BodyTerm) (DB : Depths B) (b : Walks body any B DB) where
  core_walks : Walks core any (CoreOf E As Ns B) (core_depths DE DA DN DB)
  core_walks =
      either_walks
      (if_walks tested (perhaps (λ y. and_then one (deep (body y)))) if_taken
      (any_walks pair_of (λ t. one) (with_body term) tested (λ t p ts. refl) (one_walks (has_class if_word)) (any_walks pair_of (λ x. in_pair (term x)) (λ y. deep (body y)) (with_body term) (λ x y ts. refl) (parentheses_walks e) (deep_walks b)))
      (maybe_walks (behind_walks else_word (deep_walks b))))
      (either_walks
      (any_walks loop_term (λ t. one) (with_body (separated binder)) core loop_taken (one_walks (has_class_in (for_word ∷ intersection_for_word ∷ [])))
      (any_walks pair_of (λ x. in_pair (separated binder x)) (λ y. deep (body y)) (with_body (separated binder)) (λ x y ts. refl) (list_walks n) (deep_walks b)))
      (any_walks call_term (λ t. one) (with_body (separated argument)) core (λ t p ts. refl) (one_walks (has_class name_class))
      (any_walks pair_of (λ x. in_pair (separated argument x)) (λ y. deep (body y)) (with_body (separated argument)) (λ x y ts. refl) (list_walks a) (deep_walks b))))

  instance_walks : Walks instance any (Instance E As Ns B) (instance_depths DE DA DN DB)
  instance_walks = any_walks instance_term (each (λ m. one)) core instance instance_taken (many_walks (mapped_walks _ (λ m. one) (λ t ts. refl) (one_walks _))) core_walks

same_braces : (ss : List StatementTerm) (ts : List Token) → in_pair (statements (statements_from ss)) ts ≡ in_pair (each statement ss) ts
same_braces ss = same_pair (statements (statements_from ss)) (each statement ss) (statements_taken ss)

abbrev value_ended : Term → Takes
value_ended x = and_then one (and_then (term x) one)

abbrev module_taken : Token × (List ParamTerm × BodyTerm) → Takes
module_taken p = and_then one (with_body (separated parameter) p.1)

abbrev function_taken : Token × (List ParamTerm × Term) → Takes
function_taken p = and_then one (and_then (in_pair (separated parameter p.1.0)) (value_ended p.1.1))

module _ (I : Language InstanceTerm) (DI : Depths I) (i : Walks instance any I DI) (Ss : Language (List StatementTerm)) (DS : Depths Ss) (s : Walks (each statement) any Ss DS) where
  body_of_walks : Walks body any (BodyOf I Ss) (body_of_depths DI DS)
  body_of_walks =
      either_walks (mapped_walks _ body (λ t ts. refl) (one_walks (has_class semicolon_sign)))
      (either_walks (any_walks block_term (λ t. one) (λ x. and_then (deep (each statement x)) one) body (λ t x ts. same_braces x ts) (one_walks (has_class open_brace_sign)) (before_walks close_brace_sign (deep_walks s)))
      (mapped_walks InstanceBody body (λ x ts. refl) i))

  statement_of_walks : (X : Language Term) (DX : Depths X) → Walks term any X DX → (Ps : Language (List ParamTerm)) (DP : Depths Ps) → Walks (separated parameter) no_comma Ps DP → (B : Language BodyTerm) (DB : Depths B) → Walks body any B DB
      → Walks statement any (StatementOf X Ps I Ss B) (statement_of_depths DX DP DI DS DB)
  statement_of_walks X DX x Ps DP p B DB b =
      either_walks (mapped_walks _ statement (λ t ts. refl) (one_walks (has_class semicolon_sign)))
      (either_walks (any_walks bare_block_term (λ t. one) (λ y. and_then (deep (each statement y)) one) statement (λ t y ts. same_braces y ts) (one_walks (has_class open_brace_sign)) (before_walks close_brace_sign (deep_walks s)))
      (either_walks (any_walks special_assignment_term (λ t. one) value_ended statement (λ t y ts. refl) (one_walks (has_class special_class)) (behind_walks assign_sign (before_walks semicolon_sign x)))
      (either_walks (any_walks assignment_term (λ t. one) value_ended statement (λ t y ts. refl) (one_walks (has_class name_class)) (behind_walks assign_sign (before_walks semicolon_sign x)))
      (either_walks
      (any_walks module_term (λ t. one) module_taken statement (λ t q ts. refl) (one_walks (has_class module_word))
      (any_walks pair_of (λ t. one) (with_body (separated parameter)) module_taken (λ t q ts. refl) (one_walks (has_class name_class))
      (any_walks pair_of (λ y. in_pair (separated parameter y)) (λ y. deep (body y)) (with_body (separated parameter)) (λ y z ts. refl) (list_walks p) (deep_walks b))))
      (either_walks
      (any_walks function_term (λ t. one) function_taken statement (λ t q ts. refl) (one_walks (has_class function_word))
      (any_walks pair_of (λ t. one) (λ q. and_then (in_pair (separated parameter q.0)) (value_ended q.1)) function_taken (λ t q ts. refl) (one_walks (has_class name_class))
      (any_walks pair_of (λ y. in_pair (separated parameter y)) value_ended (λ q. and_then (in_pair (separated parameter q.0)) (value_ended q.1)) (λ y z ts. refl) (list_walks p) (behind_walks assign_sign (before_walks semicolon_sign x)))))
      (mapped_walks InstanceStatement statement (λ y ts. refl) i))))))

abbrev WalksBody : ℕ → Type 0
WalksBody k =
    Walks (each statement) any (StatementsIn k (Statement without_gaps k)) (statements_in_depths k (statement_depths k))
    × Walks body any (Body without_gaps k) (body_depths k)

abbrev WalksStatement : ℕ → Type 0
WalksStatement k = Walks statement any (Statement without_gaps k) (statement_depths k)

instance_in_walks : (k : ℕ) → WalksBody k → Walks instance any (InstanceIn without_gaps k (Body without_gaps k)) (instance_in_depths k (body_depths k))
instance_in_walks k b =
    let e = (expr_walks k).0 in
    instance_walks (Expr without_gaps k) (expr_depths k) e (ArgsIn k (Expr without_gaps k)) (args_in_depths k (expr_depths k)) (args_in_walks k e)
    (BindersIn without_gaps k (Expr without_gaps k)) (binders_in_depths k (expr_depths k)) (binders_in_walks k e) (Body without_gaps k) (body_depths k) b.1

next_statement : (k : ℕ) → WalksBody k → WalksStatement (suc k)
unfolding Statement Body statement_depths body_depths
next_statement k b =
    statement_of_walks (InstanceIn without_gaps k (Body without_gaps k)) (instance_in_depths k (body_depths k)) (instance_in_walks k b) (StatementsIn k (Statement without_gaps k)) (statements_in_depths k (statement_depths k)) b.0
    (Expr without_gaps (suc k)) (expr_depths (suc k)) (expr_walks (suc k)).0 (ParamsIn k (Expr without_gaps k)) (params_in_depths k (expr_depths k)) (params_in_walks k (expr_walks k).0) (Body without_gaps k) (body_depths k) b.1

next_body : (k : ℕ) → WalksBody k → Walks body any (Body without_gaps (suc k)) (body_depths (suc k))
unfolding Statement Body statement_depths body_depths
next_body k b = body_of_walks (InstanceIn without_gaps k (Body without_gaps k)) (instance_in_depths k (body_depths k)) (instance_in_walks k b) (StatementsIn k (Statement without_gaps k)) (statements_in_depths k (statement_depths k)) b.0

no_body : Walks body any (Body without_gaps 0) (body_depths 0)
unfolding Statement Body statement_depths body_depths
no_body = never_walks body any

no_statement : WalksStatement 0
unfolding Statement Body statement_depths body_depths
no_statement = never_walks statement any

no_statements : Walks (each statement) any (EmptySequence []) (empty_sequence_depths [])
unfolding empty_sequence_depths
no_statements = record { at = λ x s h r n. ap (λ x. each statement x (s ++ r)) h.0 ∙ ap (λ s. none (s ++ r)) h.1 }

body_walks : (k : ℕ) → WalksBody k
body_walks zero = (no_statements, no_body)
body_walks (suc k) = (many_walks (next_statement k (body_walks k)), next_body k (body_walks k))

statement_walks : (k : ℕ) → WalksStatement k
statement_walks zero = no_statement
statement_walks (suc k) = next_statement k (body_walks k)

program_walks : (k : ℕ) → Walks (λ x. and_then (each statement x) one) any (WholeProgram k) (program_depths k)
program_walks k = before_walks end_class (many_walks (statement_walks k))

told : (x : List StatementTerm) (s : List Token) (depths : List ℕ) → HasDepths x s depths → and_then (each statement x) one (s ++ []) ≡ (depths, [])
told x s depths h = (program_walks h.0).at x s h.1 [] tt ∙ ap (λ (l : List ℕ). (l, [])) (sym h.2)

pub one_list : (x y : List StatementTerm) (s : List Token) (depths others : List ℕ) → HasDepths x s depths → HasDepths y s others → depths ≡ others
one_list x y s depths others h k =
    let same : x ≡ y = one_program h.0 k.0 x y s h.1 k.1 in
    let here : HasDepths y s depths = subst (λ x. HasDepths x s depths) same h in
    ap (λ (u : Taken). u.0) (sym (told y s depths here) ∙ told y s others k)
