-- What is written in a whole program is written in an outline too, up to the first token that is too deep; where no
-- token is, it is written in a program that is no deeper.
use Rattle.std.proofs.Common.{◌≡◌, ℕ, zero, suc, List, [], ◌∷◌, ◌++◌, length, Bool, true, false, Option, Some, None, inl, inr, refl, sym, ap, ◌∙◌, subst, ◌&&◌}
use Rattle.std.proofs.lemmas.List.{length-map}
use Rattle.scad_lexer.specs.declared.token.Token.{Token}
use Rattle.scad_lexer.specs.declared.token.TokenKind.TheVariants.{Symbol}
use Rattle.scad_lexer.specs.declared.token.Symbol.TheVariants.{Caret}
use Rattle.scad_ast.specs.Terms.{Term, ArgTerm, PositionalTerm, ParamTerm, BinderTerm, ModifierTerm, StatementTerm, InstanceStatement, InstanceTerm, CoreTerm, BodyTerm, InstanceBody, EmptyBody, UndefTerm}
use Rattle.scad_grammar.specs.Classes.{numeral_class, text_class, true_word, false_word, undef_word, child_count_class, special_class, argument_names, open_parenthesis_sign, close_parenthesis_sign, open_bracket_sign, close_bracket_sign, open_brace_sign, close_brace_sign, comma_sign, semicolon_sign, assign_sign, colon_sign, question_sign, dot_sign, minus_sign, plus_sign, not_sign, times_sign, remainder_sign, hash_sign, caret_sign, name_class, end_class, if_word, else_word, for_word, intersection_for_word, module_word, function_word, token_class, has_class, has_class_in}
use Rattle.scad_grammar.specs.Languages.{Language, SingleToken, ImageOf, Concatenation, ConcatenationIf, Alternation, EmptySequence, Repetition, OptionalSequence, EmptyLanguage, AfterToken, BeforeToken, SeparatedList, first_of, second_of, pair_of, cons}
use Rattle.scad_grammar.specs.Grammar.{InParentheses, Arg, Args, Param, Params, Binder, Binders, Bracket, Primary, Suffix, Unary, Chain, Choice, without_gaps, with_gaps, ArgsIn, ParamsIn, BindersIn, StatementsIn, InstanceIn, Expr, Operand, CoreOf, Instance, BodyOf, StatementOf, Statement, Body, WholeProgram, ProgramWithGaps, levels, chain_term, link_term, items, if_term, IsNearest, ends_open, instance_open, core_open, instance_term, loop_term, call_term, block_term}
use Rattle.scad_grammar.specs.Depths.{Depths, one_deeper, single_token_depths, image_depths, concatenation_depths, concatenation_if_depths, depths_of_alternation, alternation_depths, empty_sequence_depths, depths_of_repetition, repetition_depths, depths_of_optional, optional_depths, empty_language_depths, after_token_depths, before_token_depths, separated_list_depths, parentheses_depths, arg_depths, args_depths, param_depths, params_depths, binders_depths, bracket_depths, primary_depths, suffix_depths, unary_depths, chain_depths, choice_depths, args_in_depths, params_in_depths, binders_in_depths, expr_depths, operand_depths, core_depths, instance_depths, body_of_depths, statement_of_depths, statements_in_depths, instance_in_depths, statement_depths, body_depths, program_depths, AllBelow}
use Rattle.scad_grammar.specs.Reading.{next_is}
use Rattle.scad_grammar.specs.StatementReads.{firsts_of_statement, firsts_of_instance}
use Rattle.scad_grammar.specs.Reads.{firsts_of_expression}
use Rattle.scad_grammar.proofs.lemmas.Readers.{Opens, both_opens, mapped_opens, one_opens}
use Rattle.scad_grammar.proofs.Tests.{apart, classes_apart}
use Rattle.scad_grammar.proofs.Operands.{token}
use Rattle.scad_grammar.proofs.lemmas.Expressions.{open_firsts_of_expression, expr_opens, arg_opens, choice_opens, unary_opens}
use Rattle.scad_grammar.proofs.Cores.{param_opens, binder_opens, instance_opens}
use Rattle.scad_grammar.proofs.lemmas.Statements.{statement_at_opens}
use Rattle.scad_grammar.proofs.lemmas.Wider.{none_many}
use Rattle.scad_grammar.proofs.Fronts.{no_gap, no_gap_joined, below_parts, below_less, joined_length, Front, front_joined, front_deeper, front_zero, none_below_zero}

-- Something of the outline's language that shows what is written so; it has no open `if` at its end where the
-- other has none.
abbrev pub Shown : ℕ → {A : Type 0} → (A → Bool) → Language A → A → List Token → List ℕ → Type 0
Shown d {A} opens O x s ns = (y : A) × (os : List Token) × O y os × Front d s ns os × (opens x ≡ false → opens y ≡ false)

pub record Shows (d : ℕ) {A : Type 0} (opens : A → Bool) (L : Language A) (D : Depths L) (W O : Language A) : Type 0 where
  pub count : (x : A) (s : List Token) (h : L x s) → length (D.of x s h) ≡ length s
  pub plain : (x : A) (s : List Token) → L x s → no_gap s ≡ true
  pub kept : (x : A) (s : List Token) (h : L x s) → AllBelow d (D.of x s h) → W x s
  pub shown : (x : A) (s : List Token) (h : L x s) → Shown d opens O x s (D.of x s h)

-- nothing of this kind ends with an open `if`
abbrev pub closed : {A : Type 0} → A → Bool
closed x = false

no_caret : (cs : List ℕ) → apart cs (caret_sign ∷ []) ≡ true → (t : Token) → has_class_in cs t ≡ true → no_gap (t ∷ []) ≡ true
no_caret cs a t h = let e : has_class caret_sign t ≡ false = classes_apart cs (caret_sign ∷ []) a (token_class t.kind) h in rw e refl

one_shows : {d : ℕ} (cs : List ℕ) → apart cs (caret_sign ∷ []) ≡ true → Shows d closed (SingleToken (has_class_in cs)) (single_token_depths (has_class_in cs)) (SingleToken (has_class_in cs)) (SingleToken (has_class_in cs))
unfolding single_token_depths
one_shows {d} cs a = record {
  count = λ t s h. ap length (sym h.1);
  plain = λ t s h. ap no_gap h.1 ∙ no_caret cs a t h.0;
  kept = λ t s h b. h;
  shown = λ t s h. (t, t ∷ [], (h.0, refl), subst (λ s. Front d s (0 ∷ []) (t ∷ [])) (sym h.1) (λ l. ([], refl, refl)), λ e. refl);
}

is_shows : {d : ℕ} (c : ℕ) → apart (c ∷ []) (caret_sign ∷ []) ≡ true → Shows d closed (SingleToken (has_class c)) (single_token_depths (has_class c)) (SingleToken (has_class c)) (SingleToken (has_class c))
is_shows c a = one_shows (c ∷ []) a

mapped_shows : {A B : Type 0} {d : ℕ} (f : A → B) {oa : A → Bool} (ob : B → Bool) {L W O : Language A} {D : Depths L} → ((a y : A) → (oa a ≡ false → oa y ≡ false) → ob (f a) ≡ false → ob (f y) ≡ false)
    → Shows d oa L D W O → Shows d ob (ImageOf f L) (image_depths f D) (ImageOf f W) (ImageOf f O)
unfolding image_depths
mapped_shows f ob tame h = record {
  count = λ b s x. h.count x.0 s x.1;
  plain = λ b s x. h.plain x.0 s x.1;
  kept = λ b s x l. (x.0, h.kept x.0 s x.1 l, x.2);
  shown = λ b s x. let y = h.shown x.0 s x.1 in (f y.0, y.1, (y.0, y.2, refl), y.3, λ e. tame x.0 y.0 y.4 (ap ob (sym x.2) ∙ e));
}

both_shows : {A B C : Type 0} {d : ℕ} (f : A → B → C) {oa : A → Bool} {ob : B → Bool} (oc : C → Bool) {La Wa Oa : Language A} {Lb Wb Ob : Language B} {D : Depths La} {E : Depths Lb}
    → ((a y : A) (b z : B) → (oa a ≡ false → oa y ≡ false) → (ob b ≡ false → ob z ≡ false) → oc (f a b) ≡ false → oc (f y z) ≡ false)
    → Shows d oa La D Wa Oa → Shows d ob Lb E Wb Ob → Shows d oc (Concatenation f La Lb) (concatenation_depths f D E) (Concatenation f Wa Wb) (Concatenation f Oa Ob)
unfolding concatenation_depths
both_shows {A} {B} {C} {d} f oc {La} {Wa} {Oa} {Lb} {Wb} {Ob} {D} {E} tame h k = record {
  count = λ c s x. joined_length x.2 x.3 s (D.of x.0 x.2 x.4) (E.of x.1 x.3 x.5) (h.count x.0 x.2 x.4) (k.count x.1 x.3 x.5) x.7;
  plain = λ c s x. ap no_gap x.7 ∙ no_gap_joined x.2 x.3 (h.plain x.0 x.2 x.4) (k.plain x.1 x.3 x.5);
  kept = λ c s x l. let parts = below_parts d (D.of x.0 x.2 x.4) (E.of x.1 x.3 x.5) l in (x.0, x.1, x.2, x.3, h.kept x.0 x.2 x.4 parts.0, k.kept x.1 x.3 x.5 parts.1, x.6, x.7);
  shown = λ c s x.
      let y = h.shown x.0 x.2 x.4 in
      let z = k.shown x.1 x.3 x.5 in (
        f y.0 z.0,
        y.1 ++ z.1,
        (y.0, z.0, y.1, z.1, y.2, z.2, refl, refl),
        subst (λ s. Front d s (D.of x.0 x.2 x.4 ++ E.of x.1 x.3 x.5) (y.1 ++ z.1)) (sym x.7) (front_joined d x.2 (D.of x.0 x.2 x.4) y.1 x.3 (E.of x.1 x.3 x.5) z.1 y.3 z.3),
        λ e. tame x.0 y.0 x.1 z.0 y.4 z.4 (ap oc (sym x.6) ∙ e),
      );
}

plain_shows : {A B C : Type 0} {d : ℕ} (f : A → B → C) {oa : A → Bool} {ob : B → Bool} {La Wa Oa : Language A} {Lb Wb Ob : Language B} {D : Depths La} {E : Depths Lb}
    → Shows d oa La D Wa Oa → Shows d ob Lb E Wb Ob → Shows d closed (Concatenation f La Lb) (concatenation_depths f D E) (Concatenation f Wa Wb) (Concatenation f Oa Ob)
plain_shows f h k = both_shows f closed (λ a y b z p q e. refl) h k

-- what an instance or a body has behind it or before it does not open it
second_shows : {A B C : Type 0} {d : ℕ} (f : A → B → C) {oa : A → Bool} {ob : B → Bool} (oc : C → Bool) {La Wa Oa : Language A} {Lb Wb Ob : Language B} {D : Depths La} {E : Depths Lb}
    → ((a : A) (b : B) → oc (f a b) ≡ ob b)
    → Shows d oa La D Wa Oa → Shows d ob Lb E Wb Ob → Shows d oc (Concatenation f La Lb) (concatenation_depths f D E) (Concatenation f Wa Wb) (Concatenation f Oa Ob)
second_shows f oc same h k = both_shows f oc (λ a y b z p q e. same y z ∙ q (sym (same a b) ∙ e)) h k

module _ {A : Type 0} (d : ℕ) (o : A → Bool) (La Wa Oa Lb Wb Ob : Language A) (D : Depths La) (E : Depths Lb) (h : Shows d o La D Wa Oa) (k : Shows d o Lb E Wb Ob) where
  either_count : (x : A) (s : List Token) (e : Alternation La Lb x s) → length (depths_of_alternation La Lb D E x s e) ≡ length s
  either_count x s (inl e) = h.count x s e
  either_count x s (inr e) = k.count x s e

  either_plain : (x : A) (s : List Token) → Alternation La Lb x s → no_gap s ≡ true
  either_plain x s (inl e) = h.plain x s e
  either_plain x s (inr e) = k.plain x s e

  either_kept : (x : A) (s : List Token) (e : Alternation La Lb x s) → AllBelow d (depths_of_alternation La Lb D E x s e) → Alternation Wa Wb x s
  either_kept x s (inl e) l = inl (h.kept x s e l)
  either_kept x s (inr e) l = inr (k.kept x s e l)

  either_shown : (x : A) (s : List Token) (e : Alternation La Lb x s) → Shown d o (Alternation Oa Ob) x s (depths_of_alternation La Lb D E x s e)
  either_shown x s (inl e) = let y = h.shown x s e in (y.0, y.1, inl y.2, y.3, y.4)
  either_shown x s (inr e) = let y = k.shown x s e in (y.0, y.1, inr y.2, y.3, y.4)

either_shows : {A : Type 0} {d : ℕ} {o : A → Bool} {La Wa Oa Lb Wb Ob : Language A} {D : Depths La} {E : Depths Lb} → Shows d o La D Wa Oa → Shows d o Lb E Wb Ob → Shows d o (Alternation La Lb) (alternation_depths D E) (Alternation Wa Wb) (Alternation Oa Ob)
unfolding alternation_depths
either_shows {A} {d} {o} {La} {Wa} {Oa} {Lb} {Wb} {Ob} {D} {E} h k = record {
  count = either_count d o La Wa Oa Lb Wb Ob D E h k;
  plain = either_plain d o La Wa Oa Lb Wb Ob D E h k;
  kept = either_kept d o La Wa Oa Lb Wb Ob D E h k;
  shown = either_shown d o La Wa Oa Lb Wb Ob D E h k;
}

nothing_shows : {A : Type 0} {d : ℕ} (a : A) → Shows d closed (EmptySequence a) (empty_sequence_depths a) (EmptySequence a) (EmptySequence a)
unfolding empty_sequence_depths
nothing_shows {A} {d} a = record {
  count = λ x s h. ap length (sym h.1);
  plain = λ x s h. ap no_gap h.1;
  kept = λ x s h l. h;
  shown = λ x s h. (a, [], (refl, refl), subst (λ s. Front d s [] []) (sym h.1) refl, λ e. refl);
}

never_shows : {A : Type 0} {d : ℕ} (o : A → Bool) (W O : Language A) → Shows d o EmptyLanguage empty_language_depths W O
never_shows o W O = record {
  count = λ x s h. elim h [ ];
  plain = λ x s h. elim h [ ];
  kept = λ x s h l. elim h [ ];
  shown = λ x s h. elim h [ ];
}

module _ {A : Type 0} (d : ℕ) (o : A → Bool) (L W O : Language A) (D : Depths L) (h : Shows d o L D W O) where
  many_count : (xs : List A) (s : List Token) (x : Repetition L xs s) → length (depths_of_repetition L D xs s x) ≡ length s
  many_count [] s x = ap length (sym x)
  many_count (y ∷ ys) s x = joined_length x.0 x.1 s (D.of y x.0 x.2) (depths_of_repetition L D ys x.1 x.3) (h.count y x.0 x.2) (many_count ys x.1 x.3) x.4

  many_plain : (xs : List A) (s : List Token) → Repetition L xs s → no_gap s ≡ true
  many_plain [] s x = ap no_gap x
  many_plain (y ∷ ys) s x = ap no_gap x.4 ∙ no_gap_joined x.0 x.1 (h.plain y x.0 x.2) (many_plain ys x.1 x.3)

  many_kept : (xs : List A) (s : List Token) (x : Repetition L xs s) → AllBelow d (depths_of_repetition L D xs s x) → Repetition W xs s
  many_kept [] s x l = x
  many_kept (y ∷ ys) s x l =
      let parts = below_parts d (D.of y x.0 x.2) (depths_of_repetition L D ys x.1 x.3) l in
      (x.0, x.1, h.kept y x.0 x.2 parts.0, many_kept ys x.1 x.3 parts.1, x.4)

  many_shown : (xs : List A) (s : List Token) (x : Repetition L xs s) → Shown d closed (Repetition O) xs s (depths_of_repetition L D xs s x)
  many_shown [] s x = ([], [], refl, subst (λ s. Front d s [] []) (sym x) refl, λ e. refl)
  many_shown (y ∷ ys) s x =
      let z = h.shown y x.0 x.2 in
      let zs = many_shown ys x.1 x.3 in (
        z.0 ∷ zs.0,
        z.1 ++ zs.1,
        (z.1, zs.1, z.2, zs.2, refl),
        subst (λ s. Front d s (D.of y x.0 x.2 ++ depths_of_repetition L D ys x.1 x.3) (z.1 ++ zs.1)) (sym x.4) (front_joined d x.0 (D.of y x.0 x.2) z.1 x.1 (depths_of_repetition L D ys x.1 x.3) zs.1 z.3 zs.3),
        λ e. refl,
      )

  maybe_count : (x : Option A) (s : List Token) (e : OptionalSequence L x s) → length (depths_of_optional L D x s e) ≡ length s
  maybe_count None s e = ap length (sym e)
  maybe_count (Some x) s e = h.count x s e

  maybe_plain : (x : Option A) (s : List Token) → OptionalSequence L x s → no_gap s ≡ true
  maybe_plain None s e = ap no_gap e
  maybe_plain (Some x) s e = h.plain x s e

  maybe_kept : (x : Option A) (s : List Token) (e : OptionalSequence L x s) → AllBelow d (depths_of_optional L D x s e) → OptionalSequence W x s
  maybe_kept None s e l = e
  maybe_kept (Some x) s e l = h.kept x s e l

  maybe_shown : (x : Option A) (s : List Token) (e : OptionalSequence L x s) → Shown d closed (OptionalSequence O) x s (depths_of_optional L D x s e)
  maybe_shown None s e = (None, [], refl, subst (λ s. Front d s [] []) (sym e) refl, λ e. refl)
  maybe_shown (Some x) s e = let y = h.shown x s e in (Some y.0, y.1, y.2, y.3, λ e. refl)

many_shows : {A : Type 0} {d : ℕ} {o : A → Bool} {L W O : Language A} {D : Depths L} → Shows d o L D W O → Shows d closed (Repetition L) (repetition_depths D) (Repetition W) (Repetition O)
unfolding repetition_depths
many_shows {A} {d} {o} {L} {W} {O} {D} h = record { count = many_count d o L W O D h; plain = many_plain d o L W O D h; kept = many_kept d o L W O D h; shown = many_shown d o L W O D h }

maybe_shows : {A : Type 0} {d : ℕ} {o : A → Bool} {L W O : Language A} {D : Depths L} → Shows d o L D W O → Shows d closed (OptionalSequence L) (optional_depths D) (OptionalSequence W) (OptionalSequence O)
unfolding optional_depths
maybe_shows {A} {d} {o} {L} {W} {O} {D} h = record { count = maybe_count d o L W O D h; plain = maybe_plain d o L W O D h; kept = maybe_kept d o L W O D h; shown = maybe_shown d o L W O D h }

deeper_shows : {A : Type 0} {d : ℕ} {o : A → Bool} {L W O : Language A} {D : Depths L} → Shows d o L D W O → Shows (suc d) o L (one_deeper D) W O
unfolding one_deeper
deeper_shows {A} {d} {o} {L} {W} {O} {D} h = record {
  count = λ x s e. length-map (D.of x s e) suc ∙ h.count x s e;
  plain = h.plain;
  kept = λ x s e l. h.kept x s e (below_less d (D.of x s e) l);
  shown = λ x s e. let y = h.shown x s e in (y.0, y.1, y.2, front_deeper d s (D.of x s e) y.1 y.3, y.4);
}

-- an `if` with or without an `else`
module _ (d : ℕ) (La Wa Oa : Language (Token × (Term × BodyTerm))) (D : Depths La) (h : Shows d (λ p. ends_open p.1.1) La D Wa Oa) (Lb Wb Ob : Language BodyTerm) (E : Depths Lb) (k : Shows d ends_open Lb E Wb Ob) where
  abbrev Outlines : Language CoreTerm
  Outlines = ConcatenationIf if_term IsNearest Oa (OptionalSequence Ob)

  if_shown : (p : Token × (Term × BodyTerm)) (o : Option BodyTerm) (u v : List Token) (hp : La p u) (ho : OptionalSequence Lb o v) → IsNearest p o → (c : CoreTerm) (s : List Token) → c ≡ if_term p o → s ≡ u ++ v
      → Shown d core_open Outlines c s (D.of p u hp ++ depths_of_optional Lb E o v ho)
  if_shown p None u v hp ho fit c s has_class e =
      let y = h.shown p u hp in (
        if_term y.0 None,
        y.1 ++ [],
        (y.0, None, y.1, [], y.2, refl, tt, refl, refl),
        subst (λ s. Front d s (D.of p u hp ++ []) (y.1 ++ [])) (sym e) (front_joined d u (D.of p u hp) y.1 v [] [] y.3 (subst (λ v. Front d v [] []) (sym ho) refl)),
        λ o. absurd (let f : true ≡ false = ap core_open (sym has_class) ∙ o in cc),
      )
  if_shown p (Some other) u v hp ho fit c s has_class e =
      let y = h.shown p u hp in
      let z = k.shown other v ho in (
        if_term y.0 (Some z.0),
        y.1 ++ z.1,
        (y.0, Some z.0, y.1, z.1, y.2, z.2, y.4 fit, refl, refl),
        subst (λ s. Front d s (D.of p u hp ++ E.of other v ho) (y.1 ++ z.1)) (sym e) (front_joined d u (D.of p u hp) y.1 v (E.of other v ho) z.1 y.3 z.3),
        λ o. z.4 (ap core_open (sym has_class) ∙ o),
      )

  if_shows : Shows d core_open (ConcatenationIf if_term IsNearest La (OptionalSequence Lb)) (concatenation_if_depths if_term IsNearest D (optional_depths E)) (ConcatenationIf if_term IsNearest Wa (OptionalSequence Wb)) Outlines
  unfolding concatenation_if_depths optional_depths
  if_shows = record {
    count = λ c s x. joined_length x.2 x.3 s (D.of x.0 x.2 x.4) (depths_of_optional Lb E x.1 x.3 x.5) (h.count x.0 x.2 x.4) (maybe_count d ends_open Lb Wb Ob E k x.1 x.3 x.5) x.8;
    plain = λ c s x. ap no_gap x.8 ∙ no_gap_joined x.2 x.3 (h.plain x.0 x.2 x.4) (maybe_plain d ends_open Lb Wb Ob E k x.1 x.3 x.5);
    kept = λ c s x l.
        let parts = below_parts d (D.of x.0 x.2 x.4) (depths_of_optional Lb E x.1 x.3 x.5) l in
        (x.0, x.1, x.2, x.3, h.kept x.0 x.2 x.4 parts.0, maybe_kept d ends_open Lb Wb Ob E k x.1 x.3 x.5 parts.1, x.6, x.7, x.8);
    shown = λ c s x. if_shown x.0 x.1 x.2 x.3 x.4 x.5 x.6 c s x.7 x.8;
  }

behind_shows : {A : Type 0} {d : ℕ} (c : ℕ) → apart (c ∷ []) (caret_sign ∷ []) ≡ true → {o : A → Bool} {L W O : Language A} {D : Depths L} → Shows d o L D W O → Shows d o (AfterToken (has_class c) L) (after_token_depths (has_class c) D) (AfterToken (has_class c) W) (AfterToken (has_class c) O)
behind_shows c a {o} h = both_shows second_of o (λ a y b z p q e. q e) (is_shows c a) h

before_shows : {A : Type 0} {d : ℕ} (c : ℕ) → apart (c ∷ []) (caret_sign ∷ []) ≡ true → {o : A → Bool} {L W O : Language A} {D : Depths L} → Shows d o L D W O → Shows d o (BeforeToken L (has_class c)) (before_token_depths (has_class c) D) (BeforeToken W (has_class c)) (BeforeToken O (has_class c))
before_shows c a {o} h = both_shows first_of o (λ a y b z p q e. p e) h (is_shows c a)

parentheses_shows : {A : Type 0} {d : ℕ} {o : A → Bool} {L W O : Language A} {D : Depths L} → Shows d o L D W O → Shows (suc d) o (InParentheses L) (parentheses_depths D) (InParentheses W) (InParentheses O)
parentheses_shows h = behind_shows open_parenthesis_sign refl (before_shows close_parenthesis_sign refl (deeper_shows h))

separated_shows : {A : Type 0} {d : ℕ} {o : A → Bool} {L W O : Language A} {D : Depths L} → Shows d o L D W O → Shows d closed (SeparatedList (has_class comma_sign) L) (separated_list_depths (has_class comma_sign) D) (SeparatedList (has_class comma_sign) W) (SeparatedList (has_class comma_sign) O)
separated_shows h = plain_shows first_of (plain_shows cons h (many_shows (behind_shows comma_sign refl h))) (maybe_shows (is_shows comma_sign refl))

plain_mapped : {A B : Type 0} {d : ℕ} (f : A → B) {oa : A → Bool} {L W O : Language A} {D : Depths L} → Shows d oa L D W O → Shows d closed (ImageOf f L) (image_depths f D) (ImageOf f W) (ImageOf f O)
plain_mapped f h = mapped_shows f closed (λ a y p e. refl) h

module _ (d : ℕ) (L W O : Language Term) (D : Depths L) (e : Shows d closed L D W O) where
  arg_shows : Shows d closed (Arg L) (arg_depths D) (Arg W) (Arg O)
  arg_shows = either_shows (plain_shows _ (one_shows argument_names refl) (behind_shows assign_sign refl e)) (plain_mapped PositionalTerm e)

  args_shows : Shows d closed (Args L) (args_depths D) (Args W) (Args O)
  args_shows = either_shows (separated_shows arg_shows) (nothing_shows [])

  param_shows : Shows d closed (Param L) (param_depths D) (Param W) (Param O)
  param_shows = plain_shows _ (is_shows name_class refl) (maybe_shows (behind_shows assign_sign refl e))

  params_shows : Shows d closed (Params (Param L)) (params_depths (param_depths D)) (Params (Param W)) (Params (Param O))
  params_shows = either_shows (separated_shows param_shows) (nothing_shows [])

  binders_shows : Shows d closed (Binders L) (binders_depths D) (Binders W) (Binders O)
  binders_shows = separated_shows (plain_shows _ (is_shows name_class refl) (behind_shows assign_sign refl e))

  bracket_shows : Shows (suc d) closed (Bracket L) (bracket_depths D) (Bracket W) (Bracket O)
  bracket_shows =
      plain_shows _ (is_shows open_bracket_sign refl)
      (before_shows close_bracket_sign refl
      (deeper_shows (maybe_shows (plain_shows pair_of e
      (either_shows (behind_shows colon_sign refl (plain_shows _ e (maybe_shows (behind_shows colon_sign refl e))))
      (plain_mapped items (plain_shows first_of (many_shows (behind_shows comma_sign refl e)) (maybe_shows (is_shows comma_sign refl)))))))))

  suffix_shows : Shows (suc d) closed (Suffix L) (suffix_depths D) (Suffix W) (Suffix O)
  suffix_shows =
      either_shows (plain_shows _ (is_shows open_bracket_sign refl) (before_shows close_bracket_sign refl (deeper_shows e)))
      (plain_shows _ (is_shows dot_sign refl) (is_shows name_class refl))

-- no operator is a gap
abbrev operators : List (List ℕ) → Bool
operators [] = true
operators (ops ∷ below) = apart ops (caret_sign ∷ []) && operators below

both_parts : (a b : Bool) → (a && b) ≡ true → (a ≡ true) × (b ≡ true)
both_parts true b e = (refl, e)
both_parts false b e = absurd (cc)

chain_shows : {d : ℕ} (below : List (List ℕ)) → operators below ≡ true → {L W O : Language Term} {D : Depths L} → Shows d closed L D W O → Shows d closed (Chain below L) (chain_depths below D) (Chain below W) (Chain below O)
chain_shows [] a h = h
chain_shows (ops ∷ below) a h =
    let parts = both_parts (apart ops (caret_sign ∷ [])) (operators below) a in
    plain_shows chain_term (chain_shows below parts.1 h) (many_shows (plain_shows link_term (one_shows ops parts.0) (chain_shows below parts.1 h)))

module _ (d : ℕ) (L W O : Language Term) (D : Depths L) (e : Shows d closed L D W O) (As Bs Cs : Language (List ArgTerm)) (DA : Depths As) (a : Shows d closed As DA Bs Cs) (U V X : Language Term) (DU : Depths U) (u : Shows d closed U DU V X) where
  primary_shows : Shows (suc d) closed (Primary L As) (primary_depths D DA) (Primary W Bs) (Primary O Cs)
  primary_shows =
      either_shows (plain_mapped _ (is_shows numeral_class refl)) (either_shows (plain_mapped _ (is_shows text_class refl)) (either_shows (plain_mapped _ (is_shows true_word refl)) (either_shows (plain_mapped _ (is_shows false_word refl))
      (either_shows (plain_mapped _ (is_shows undef_word refl)) (either_shows (plain_mapped _ (is_shows child_count_class refl)) (either_shows (plain_mapped _ (is_shows special_class refl))
      (either_shows (plain_shows _ (is_shows name_class refl) (maybe_shows (parentheses_shows a)))
      (either_shows (plain_shows _ (is_shows open_parenthesis_sign refl) (before_shows close_parenthesis_sign refl (deeper_shows e))) (bracket_shows d L W O D e)))))))))

  unary_shows : Shows (suc d) closed (Unary L As U) (unary_depths D DA DU) (Unary W Bs V) (Unary O Cs X)
  unary_shows = either_shows (plain_shows _ (one_shows (minus_sign ∷ plus_sign ∷ not_sign ∷ []) refl) (deeper_shows u)) (plain_shows _ primary_shows (many_shows (suffix_shows d L W O D e)))

  choice_shows : Shows (suc d) closed (Choice L As U) (choice_depths D DA DU) (Choice W Bs V) (Choice O Cs X)
  choice_shows =
      plain_shows _ (chain_shows levels refl unary_shows)
      (maybe_shows (plain_shows pair_of (is_shows question_sign refl) (plain_shows pair_of (deeper_shows e) (behind_shows colon_sign refl (deeper_shows e)))))

abbrev gap_token : Token
gap_token = token (Symbol Caret)

-- where no token may stand an outline has a gap, or nothing
zero_gap : {A : Type 0} {n : ℕ} (o : A → Bool) (L W O : Language A) (D : Depths L) (f : Token → A) → ((t : Token) → o (f t) ≡ false) → ((x : A) → L x [] → ⊥) → Shows n o L D W O → Shows 0 o L D EmptyLanguage (ImageOf f (SingleToken (has_class caret_sign)))
zero_gap o L W O D f tame some h = record {
  count = h.count;
  plain = h.plain;
  kept = λ x s e l. some x (subst (L x) (none_below_zero s (D.of x s e) (h.count x s e) l) e);
  shown = λ x s e. (
    f gap_token,
    gap_token ∷ [],
    (gap_token, (refl, refl), refl),
    front_zero s (D.of x s e) (gap_token ∷ []) (h.count x s e) (λ n. absurd (some x (subst (L x) n e))),
    λ k. tame gap_token,
  );
}

zero_nothing : {A : Type 0} {n : ℕ} (L W O : Language (List A)) (D : Depths L) → ((x : List A) → L x [] → x ≡ []) → Shows n closed L D W O → Shows 0 closed L D (EmptySequence []) (EmptySequence [])
zero_nothing L W O D none h = record {
  count = h.count;
  plain = h.plain;
  kept = λ x s e l. let n = none_below_zero s (D.of x s e) (h.count x s e) l in (none x (subst (L x) n e), n);
  shown = λ x s e. ([], [], (refl, refl), front_zero s (D.of x s e) [] (h.count x s e) (λ n. refl), λ k. refl);
}

-- nothing may stand where something may be missing
nothing_in : {A : Type 0} {d : ℕ} (W O : Language (List A)) → ((s : List Token) (x : List A) → EmptySequence [] x s → W x s) → O [] [] → Shows d closed (EmptySequence []) (empty_sequence_depths []) W O
unfolding empty_sequence_depths
nothing_in {A} {d} W O w o = record {
  count = λ x s h. ap length (sym h.1);
  plain = λ x s h. ap no_gap h.1;
  kept = λ x s h l. w s x h;
  shown = λ x s h. ([], [], o, subst (λ s. Front d s [] []) (sym h.1) refl, λ e. refl);
}

-- what opens with a token is not without tokens
not_empty : {A : Type 0} (L : Language A) (test : Token → Bool) → Opens L test → (x : A) → L x [] → ⊥
not_empty L test opens x h = absurd (let e = opens x [] [] h in cc)

separated_some : {A : Type 0} (L : Language A) (test : Token → Bool) → Opens L test → (x : List A) → Alternation (SeparatedList (has_class comma_sign) L) (EmptySequence []) x [] → x ≡ []
separated_some L test opens x (inl h) = elim (not_empty (SeparatedList (has_class comma_sign) L) test (both_opens first_of _ _ test (both_opens cons L _ test opens)) x h) [ ]
separated_some L test opens x (inr h) = h.0

many_some : {A : Type 0} (L : Language A) (test : Token → Bool) → Opens L test → (x : List A) → Repetition L x [] → x ≡ []
many_some L test opens [] h = refl
many_some L test opens (x ∷ xs) h =
    absurd (let e = opens x h.0 h.1 h.2 in let f : next_is test [] ≡ true = ap (next_is test) h.4 ∙ e in cc)

binders_some : (E : Language Term) (x : List BinderTerm) → Binders E x [] → ⊥
binders_some E = not_empty (Binders E) (has_class name_class) (both_opens first_of _ _ (has_class name_class) (both_opens cons (Binder E) _ (has_class name_class) (binder_opens E)))

args_in_shows : (k d : ℕ) → Shows d closed (Expr without_gaps k) (expr_depths k) (Expr without_gaps d) (Expr with_gaps d)
    → Shows d closed (ArgsIn k (Expr without_gaps k)) (args_in_depths k (expr_depths k)) (ArgsIn d (Expr without_gaps d)) (ArgsIn d (Expr with_gaps d))
args_in_shows zero zero e = nothing_shows []
args_in_shows zero (suc d) e = nothing_in (Args (Expr without_gaps (suc d))) (Args (Expr with_gaps (suc d))) (λ s x h. inr h) (inr (refl, refl))
args_in_shows (suc k) zero e =
    zero_nothing (Args (Expr without_gaps (suc k))) (Args (Expr without_gaps zero)) (Args (Expr with_gaps zero)) (args_depths (expr_depths (suc k)))
    (separated_some (Arg (Expr without_gaps (suc k))) (has_class_in open_firsts_of_expression) (arg_opens (Expr without_gaps (suc k)) (expr_opens without_gaps (suc k))))
    (args_shows zero (Expr without_gaps (suc k)) (Expr without_gaps zero) (Expr with_gaps zero) (expr_depths (suc k)) e)
args_in_shows (suc k) (suc d) e = args_shows (suc d) (Expr without_gaps (suc k)) (Expr without_gaps (suc d)) (Expr with_gaps (suc d)) (expr_depths (suc k)) e

params_in_shows : (k d : ℕ) → Shows d closed (Expr without_gaps k) (expr_depths k) (Expr without_gaps d) (Expr with_gaps d)
    → Shows d closed (ParamsIn k (Expr without_gaps k)) (params_in_depths k (expr_depths k)) (ParamsIn d (Expr without_gaps d)) (ParamsIn d (Expr with_gaps d))
params_in_shows zero zero e = nothing_shows []
params_in_shows zero (suc d) e = nothing_in (Params (Param (Expr without_gaps (suc d)))) (Params (Param (Expr with_gaps (suc d)))) (λ s x h. inr h) (inr (refl, refl))
params_in_shows (suc k) zero e =
    zero_nothing (Params (Param (Expr without_gaps (suc k)))) (Params (Param (Expr without_gaps zero))) (Params (Param (Expr with_gaps zero))) (params_depths (param_depths (expr_depths (suc k))))
    (separated_some (Param (Expr without_gaps (suc k))) (has_class name_class) (param_opens (Expr without_gaps (suc k))))
    (params_shows zero (Expr without_gaps (suc k)) (Expr without_gaps zero) (Expr with_gaps zero) (expr_depths (suc k)) e)
params_in_shows (suc k) (suc d) e = params_shows (suc d) (Expr without_gaps (suc k)) (Expr without_gaps (suc d)) (Expr with_gaps (suc d)) (expr_depths (suc k)) e

binders_in_shows : (k d : ℕ) → Shows d closed (Expr without_gaps k) (expr_depths k) (Expr without_gaps d) (Expr with_gaps d)
    → Shows d closed (BindersIn without_gaps k (Expr without_gaps k)) (binders_in_depths k (expr_depths k)) (BindersIn without_gaps d (Expr without_gaps d)) (BindersIn with_gaps d (Expr with_gaps d))
binders_in_shows zero d e = never_shows closed (BindersIn without_gaps d (Expr without_gaps d)) (BindersIn with_gaps d (Expr with_gaps d))
binders_in_shows (suc k) zero e =
    zero_gap closed (Binders (Expr without_gaps (suc k))) (Binders (Expr without_gaps zero)) (Binders (Expr with_gaps zero)) (binders_depths (expr_depths (suc k))) (λ t. []) (λ t. refl) (binders_some (Expr without_gaps (suc k)))
    (binders_shows zero (Expr without_gaps (suc k)) (Expr without_gaps zero) (Expr with_gaps zero) (expr_depths (suc k)) e)
binders_in_shows (suc k) (suc d) e = binders_shows (suc d) (Expr without_gaps (suc k)) (Expr without_gaps (suc d)) (Expr with_gaps (suc d)) (expr_depths (suc k)) e

-- an expression, and an operand
abbrev ShowsExpr : ℕ → ℕ → Type 0
ShowsExpr k d =
    Shows d closed (Expr without_gaps k) (expr_depths k) (Expr without_gaps d) (Expr with_gaps d)
    × Shows d closed (Operand without_gaps k) (operand_depths k) (Operand without_gaps d) (Operand with_gaps d)

next_expr : (k d : ℕ) → ShowsExpr k d → ShowsExpr (suc k) (suc d)
unfolding Expr Operand expr_depths operand_depths
next_expr k d e =
    let a = args_in_shows k d e.0 in (
      choice_shows d (Expr without_gaps k) (Expr without_gaps d) (Expr with_gaps d) (expr_depths k) e.0 (ArgsIn k (Expr without_gaps k)) (ArgsIn d (Expr without_gaps d)) (ArgsIn d (Expr with_gaps d)) (args_in_depths k (expr_depths k)) a
          (Operand without_gaps k) (Operand without_gaps d) (Operand with_gaps d) (operand_depths k) e.1,
      unary_shows d (Expr without_gaps k) (Expr without_gaps d) (Expr with_gaps d) (expr_depths k) e.0 (ArgsIn k (Expr without_gaps k)) (ArgsIn d (Expr without_gaps d)) (ArgsIn d (Expr with_gaps d)) (args_in_depths k (expr_depths k)) a
          (Operand without_gaps k) (Operand without_gaps d) (Operand with_gaps d) (operand_depths k) e.1,
    )

expr_some : (k : ℕ) (x : Term) → Expr without_gaps (suc k) x [] → ⊥
unfolding Expr Operand
expr_some k = not_empty (Expr without_gaps (suc k)) (has_class_in firsts_of_expression) (choice_opens (Expr without_gaps k) (ArgsIn k (Expr without_gaps k)) (Operand without_gaps k))

operand_some : (k : ℕ) (x : Term) → Operand without_gaps (suc k) x [] → ⊥
unfolding Expr Operand
operand_some k = not_empty (Operand without_gaps (suc k)) (has_class_in firsts_of_expression) (unary_opens (Expr without_gaps k) (ArgsIn k (Expr without_gaps k)) (Operand without_gaps k))

zero_expr : (k : ℕ) → ShowsExpr (suc k) 1 → ShowsExpr (suc k) 0
unfolding Expr Operand
zero_expr k e = (
  zero_gap closed (Expr without_gaps (suc k)) (Expr without_gaps 1) (Expr with_gaps 1) (expr_depths (suc k)) (λ t. UndefTerm t.place) (λ t. refl) (expr_some k) e.0,
  zero_gap closed (Operand without_gaps (suc k)) (Operand without_gaps 1) (Operand with_gaps 1) (operand_depths (suc k)) (λ t. UndefTerm t.place) (λ t. refl) (operand_some k) e.1,
)

no_expr : (d : ℕ) → ShowsExpr 0 d
unfolding Expr Operand expr_depths operand_depths
no_expr d = (never_shows closed (Expr without_gaps d) (Expr with_gaps d), never_shows closed (Operand without_gaps d) (Operand with_gaps d))

expr_shows : (k d : ℕ) → ShowsExpr k d
expr_shows zero d = no_expr d
expr_shows (suc k) zero = zero_expr k (next_expr k zero (expr_shows k zero))
expr_shows (suc k) (suc d) = next_expr k d (expr_shows k d)

pub loop_open : (t : Token) (p : List BinderTerm × BodyTerm) → core_open (loop_term t p) ≡ ends_open p.1
loop_open t p = go (has_class for_word t) refl
  where
    go : (b : Bool) → has_class for_word t ≡ b → core_open (loop_term t p) ≡ ends_open p.1
    go true e = rw e refl
    go false e = rw e refl

pub same_open : (ms : List ModifierTerm) (core : CoreTerm) → instance_open (instance_term ms core) ≡ core_open core
same_open [] core = refl
same_open (m ∷ ms) core = refl

module _ (d : ℕ) (E E1 E2 : Language Term) (DE : Depths E) (e : Shows d closed E DE E1 E2) (As A1 A2 : Language (List ArgTerm)) (DA : Depths As) (a : Shows d closed As DA A1 A2) (Ns N1 N2 : Language (List BinderTerm)) (DN : Depths Ns) (n : Shows d closed Ns DN N1 N2) (B B1 B2 : Language BodyTerm) (DB : Depths B) (b : Shows d ends_open B DB B1 B2) where
  core_shows : Shows (suc d) core_open (CoreOf E As Ns B) (core_depths DE DA DN DB) (CoreOf E1 A1 N1 B1) (CoreOf E2 A2 N2 B2)
  core_shows =
      either_shows
      (if_shows (suc d) _ _ _ _
      (second_shows pair_of (λ p. ends_open p.1.1) (λ t p. refl) (is_shows if_word refl) (second_shows pair_of (λ p. ends_open p.1) (λ x y. refl) (parentheses_shows e) (deeper_shows b)))
      _ _ _ _ (behind_shows else_word refl (deeper_shows b)))
      (either_shows
      (second_shows loop_term core_open loop_open (one_shows (for_word ∷ intersection_for_word ∷ []) refl) (second_shows pair_of (λ p. ends_open p.1) (λ x y. refl) (parentheses_shows n) (deeper_shows b)))
      (second_shows call_term core_open (λ t p. refl) (is_shows name_class refl) (second_shows pair_of (λ p. ends_open p.1) (λ x y. refl) (parentheses_shows a) (deeper_shows b))))

  instance_shows : Shows (suc d) instance_open (Instance E As Ns B) (instance_depths DE DA DN DB) (Instance E1 A1 N1 B1) (Instance E2 A2 N2 B2)
  instance_shows = second_shows instance_term instance_open same_open (many_shows (plain_mapped _ (one_shows (times_sign ∷ remainder_sign ∷ hash_sign ∷ not_sign ∷ []) refl))) core_shows

module _ (d : ℕ) (I I1 I2 : Language InstanceTerm) (DI : Depths I) (i : Shows (suc d) instance_open I DI I1 I2) (Ss S1 S2 : Language (List StatementTerm)) (DS : Depths Ss) (s : Shows d closed Ss DS S1 S2) where
  body_of_shows : Shows (suc d) ends_open (BodyOf I Ss) (body_of_depths DI DS) (BodyOf I1 S1) (BodyOf I2 S2)
  body_of_shows =
      either_shows (mapped_shows _ ends_open (λ x y p e. refl) (is_shows semicolon_sign refl))
      (either_shows (both_shows block_term ends_open (λ x y z w p q e. refl) (is_shows open_brace_sign refl) (before_shows close_brace_sign refl (deeper_shows s)))
      (mapped_shows InstanceBody ends_open (λ x y p e. p e) i))

  statement_of_shows : (X X1 X2 : Language Term) (DX : Depths X) → Shows (suc d) closed X DX X1 X2 → (Ps P1 P2 : Language (List ParamTerm)) (DP : Depths Ps) → Shows d closed Ps DP P1 P2 → (B B1 B2 : Language BodyTerm) (DB : Depths B) → Shows d ends_open B DB B1 B2
      → Shows (suc d) closed (StatementOf X Ps I Ss B) (statement_of_depths DX DP DI DS DB) (StatementOf X1 P1 I1 S1 B1) (StatementOf X2 P2 I2 S2 B2)
  statement_of_shows X X1 X2 DX x Ps P1 P2 DP p B B1 B2 DB b =
      either_shows (plain_mapped _ (is_shows semicolon_sign refl))
      (either_shows (plain_shows _ (is_shows open_brace_sign refl) (before_shows close_brace_sign refl (deeper_shows s)))
      (either_shows (plain_shows _ (is_shows special_class refl) (behind_shows assign_sign refl (before_shows semicolon_sign refl x)))
      (either_shows (plain_shows _ (is_shows name_class refl) (behind_shows assign_sign refl (before_shows semicolon_sign refl x)))
      (either_shows (plain_shows _ (is_shows module_word refl) (plain_shows pair_of (is_shows name_class refl) (plain_shows pair_of (parentheses_shows p) (deeper_shows b))))
      (either_shows (plain_shows _ (is_shows function_word refl) (plain_shows pair_of (is_shows name_class refl) (plain_shows pair_of (parentheses_shows p) (behind_shows assign_sign refl (before_shows semicolon_sign refl x)))))
      (plain_mapped InstanceStatement i))))))

-- the statements in braces, and a body
abbrev ShowsBody : ℕ → ℕ → Type 0
ShowsBody k d =
    Shows d closed (StatementsIn k (Statement without_gaps k)) (statements_in_depths k (statement_depths k)) (StatementsIn d (Statement without_gaps d)) (StatementsIn d (Statement with_gaps d))
    × Shows d ends_open (Body without_gaps k) (body_depths k) (Body without_gaps d) (Body with_gaps d)

abbrev ShowsStatement : ℕ → ℕ → Type 0
ShowsStatement k d = Shows d closed (Statement without_gaps k) (statement_depths k) (Statement without_gaps d) (Statement with_gaps d)

instance_in_shows : (k d : ℕ) → ShowsBody k d → Shows (suc d) instance_open (InstanceIn without_gaps k (Body without_gaps k)) (instance_in_depths k (body_depths k)) (InstanceIn without_gaps d (Body without_gaps d)) (InstanceIn with_gaps d (Body with_gaps d))
instance_in_shows k d b =
    let e = (expr_shows k d).0 in
    instance_shows d (Expr without_gaps k) (Expr without_gaps d) (Expr with_gaps d) (expr_depths k) e
    (ArgsIn k (Expr without_gaps k)) (ArgsIn d (Expr without_gaps d)) (ArgsIn d (Expr with_gaps d)) (args_in_depths k (expr_depths k)) (args_in_shows k d e)
    (BindersIn without_gaps k (Expr without_gaps k)) (BindersIn without_gaps d (Expr without_gaps d)) (BindersIn with_gaps d (Expr with_gaps d)) (binders_in_depths k (expr_depths k)) (binders_in_shows k d e)
    (Body without_gaps k) (Body without_gaps d) (Body with_gaps d) (body_depths k) b.1

next_statement : (k d : ℕ) → ShowsBody k d → ShowsStatement (suc k) (suc d)
unfolding Statement Body statement_depths body_depths
next_statement k d b =
    statement_of_shows d (InstanceIn without_gaps k (Body without_gaps k)) (InstanceIn without_gaps d (Body without_gaps d)) (InstanceIn with_gaps d (Body with_gaps d)) (instance_in_depths k (body_depths k)) (instance_in_shows k d b)
    (StatementsIn k (Statement without_gaps k)) (StatementsIn d (Statement without_gaps d)) (StatementsIn d (Statement with_gaps d)) (statements_in_depths k (statement_depths k)) b.0
    (Expr without_gaps (suc k)) (Expr without_gaps (suc d)) (Expr with_gaps (suc d)) (expr_depths (suc k)) (expr_shows (suc k) (suc d)).0
    (ParamsIn k (Expr without_gaps k)) (ParamsIn d (Expr without_gaps d)) (ParamsIn d (Expr with_gaps d)) (params_in_depths k (expr_depths k)) (params_in_shows k d (expr_shows k d).0)
    (Body without_gaps k) (Body without_gaps d) (Body with_gaps d) (body_depths k) b.1

next_body : (k d : ℕ) → ShowsBody k d → Shows (suc d) ends_open (Body without_gaps (suc k)) (body_depths (suc k)) (Body without_gaps (suc d)) (Body with_gaps (suc d))
unfolding Statement Body statement_depths body_depths
next_body k d b =
    body_of_shows d (InstanceIn without_gaps k (Body without_gaps k)) (InstanceIn without_gaps d (Body without_gaps d)) (InstanceIn with_gaps d (Body with_gaps d)) (instance_in_depths k (body_depths k)) (instance_in_shows k d b)
    (StatementsIn k (Statement without_gaps k)) (StatementsIn d (Statement without_gaps d)) (StatementsIn d (Statement with_gaps d)) (statements_in_depths k (statement_depths k)) b.0

body_of_some : (I : Language InstanceTerm) (Ss : Language (List StatementTerm)) → Opens I (has_class_in firsts_of_instance) → (x : BodyTerm) → BodyOf I Ss x [] → ⊥
body_of_some I Ss opens x (inl h) = not_empty (ImageOf (λ t. EmptyBody t.place) (SingleToken (has_class semicolon_sign))) (has_class semicolon_sign) (mapped_opens (λ t. EmptyBody t.place) (SingleToken (has_class semicolon_sign)) (has_class semicolon_sign) (one_opens (has_class semicolon_sign))) x h
body_of_some I Ss opens x (inr (inl h)) = not_empty (Concatenation block_term (SingleToken (has_class open_brace_sign)) (BeforeToken Ss (has_class close_brace_sign))) (has_class open_brace_sign) (both_opens block_term (SingleToken (has_class open_brace_sign)) (BeforeToken Ss (has_class close_brace_sign)) (has_class open_brace_sign) (one_opens (has_class open_brace_sign))) x h
body_of_some I Ss opens x (inr (inr h)) = not_empty (ImageOf InstanceBody I) (has_class_in firsts_of_instance) (mapped_opens InstanceBody I (has_class_in firsts_of_instance) opens) x h

body_some : (k : ℕ) (x : BodyTerm) → Body without_gaps (suc k) x [] → ⊥
unfolding Statement Body
body_some k = body_of_some (InstanceIn without_gaps k (Body without_gaps k)) (StatementsIn k (Statement without_gaps k)) (instance_opens (Expr without_gaps k) (ArgsIn k (Expr without_gaps k)) (BindersIn without_gaps k (Expr without_gaps k)) (Body without_gaps k))

zero_body : (k : ℕ) → ShowsBody k 0 → Shows 0 ends_open (Body without_gaps (suc k)) (body_depths (suc k)) (Body without_gaps 0) (Body with_gaps 0)
unfolding Statement Body
zero_body k b = zero_gap ends_open (Body without_gaps (suc k)) (Body without_gaps 1) (Body with_gaps 1) (body_depths (suc k)) (λ t. EmptyBody t.place) (λ t. refl) (body_some k) (next_body k 0 b)

no_body : (d : ℕ) → Shows d ends_open (Body without_gaps 0) (body_depths 0) (Body without_gaps d) (Body with_gaps d)
unfolding Statement Body statement_depths body_depths
no_body d = never_shows ends_open (Body without_gaps d) (Body with_gaps d)

body_shows : (k d : ℕ) → ShowsBody k d
body_shows zero zero = (nothing_shows [], no_body zero)
body_shows zero (suc d) = (nothing_in (Repetition (Statement without_gaps (suc d))) (Repetition (Statement with_gaps (suc d))) (λ s x h. none_many (Statement without_gaps (suc d)) x s h) refl, no_body (suc d))
body_shows (suc k) zero = (
  zero_nothing (Repetition (Statement without_gaps (suc k))) (Repetition (Statement without_gaps 1)) (Repetition (Statement with_gaps 1)) (repetition_depths (statement_depths (suc k))) (many_some (Statement without_gaps (suc k)) (has_class_in firsts_of_statement) (statement_at_opens without_gaps (suc k)))
      (many_shows (next_statement k zero (body_shows k zero))),
  zero_body k (body_shows k zero),
)
body_shows (suc k) (suc d) = (many_shows (next_statement k d (body_shows k d)), next_body k d (body_shows k d))

no_statement : (d : ℕ) → ShowsStatement 0 d
unfolding Statement Body statement_depths body_depths
no_statement d = never_shows closed (Statement without_gaps d) (Statement with_gaps d)

statement_shows : (k d : ℕ) → ShowsStatement k (suc d)
statement_shows zero d = no_statement (suc d)
statement_shows (suc k) d = next_statement k d (body_shows k d)

pub program_shows : (k d : ℕ) → Shows (suc d) closed (WholeProgram k) (program_depths k) (WholeProgram (suc d)) (ProgramWithGaps (suc d))
program_shows k d = before_shows end_class refl (many_shows (statement_shows k d))
