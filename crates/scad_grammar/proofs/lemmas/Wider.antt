-- What is in the grammar of a depth is in that of each greater depth, and in outline.
use Rattle.std.proofs.Common.{ℕ, zero, suc, ◌+◌, ◌≤◌, List, [], ◌∷◌, Bool, Option, Some, None, inl, inr, arith}
use Rattle.scad_lexer.specs.declared.token.Token.{Token}
use Rattle.scad_ast.specs.Terms.{Term, ArgTerm, StatementTerm, InstanceStatement, InstanceTerm, ParamTerm, BinderTerm, BodyTerm, InstanceBody, PositionalTerm}
use Rattle.scad_grammar.specs.Classes.{open_parenthesis_sign, close_parenthesis_sign, close_bracket_sign, open_brace_sign, close_brace_sign, comma_sign, semicolon_sign, assign_sign, colon_sign, question_sign, open_bracket_sign, name_class, end_class, if_word, else_word, has_class, has_class_in}
use Rattle.scad_grammar.specs.Languages.{Language, SingleToken, ImageOf, Concatenation, ConcatenationIf, Alternation, EmptySequence, Repetition, OptionalSequence, EmptyLanguage, AfterToken, BeforeToken, SeparatedList, first_of, second_of, pair_of, cons}
use Rattle.scad_grammar.specs.Grammar.{InParentheses, Arg, Args, Param, Params, Binders, Bracket, Primary, Suffix, Unary, Chain, Choice, Detail, without_gaps, with_gaps, ArgsIn, ParamsIn, BindersIn, StatementsIn, InstanceIn, Expr, Operand, Instance, BodyOf, StatementOf, Statement, Body, ProgramIn, WholeProgram, ProgramWithGaps, levels, link_term, chain_term, items, if_term, IsNearest}

record Within {A : Type 0} (L M : Language A) : Type 0 where
  at : (x : A) (s : List Token) → L x s → M x s

same_within : {A : Type 0} (L : Language A) → Within L L
same_within L = record { at = λ x s h. h }

both_within : {A B C : Type 0} (f : A → B → C) {La Ma : Language A} {Lb Mb : Language B} → Within La Ma → Within Lb Mb → Within (Concatenation f La Lb) (Concatenation f Ma Mb)
both_within f h k = record { at = λ c s x. (x.0, x.1, x.2, x.3, h.at x.0 x.2 x.4, k.at x.1 x.3 x.5, x.6, x.7) }

both_if_within : {A B C : Type 0} (f : A → B → C) (Fit : A → B → Type 0) {La Ma : Language A} {Lb Mb : Language B} → Within La Ma → Within Lb Mb → Within (ConcatenationIf f Fit La Lb) (ConcatenationIf f Fit Ma Mb)
both_if_within f Fit h k = record { at = λ c s x. (x.0, x.1, x.2, x.3, h.at x.0 x.2 x.4, k.at x.1 x.3 x.5, x.6, x.7, x.8) }

either_within : {A : Type 0} {La Ma Lb Mb : Language A} → Within La Ma → Within Lb Mb → Within (Alternation La Lb) (Alternation Ma Mb)
either_within h k = record { at = λ x s y. elim y [ inl z ↦ inl (h.at x s z) | inr z ↦ inr (k.at x s z) ] }

mapped_within : {A B : Type 0} (f : A → B) {L M : Language A} → Within L M → Within (ImageOf f L) (ImageOf f M)
mapped_within f h = record { at = λ b s x. (x.0, h.at x.0 s x.1, x.2) }

many_at : {A : Type 0} (L M : Language A) → Within L M → (xs : List A) (s : List Token) → Repetition L xs s → Repetition M xs s
many_at L M h [] s x = x
many_at L M h (y ∷ ys) s x = (x.0, x.1, h.at y x.0 x.2, many_at L M h ys x.1 x.3, x.4)

many_within : {A : Type 0} {L M : Language A} → Within L M → Within (Repetition L) (Repetition M)
many_within {A} {L} {M} h = record { at = many_at L M h }

maybe_at : {A : Type 0} (L M : Language A) → Within L M → (x : Option A) (s : List Token) → OptionalSequence L x s → OptionalSequence M x s
maybe_at L M h None s x = x
maybe_at L M h (Some y) s x = h.at y s x

maybe_within : {A : Type 0} {L M : Language A} → Within L M → Within (OptionalSequence L) (OptionalSequence M)
maybe_within {A} {L} {M} h = record { at = maybe_at L M h }

behind_within : {A : Type 0} (test : Token → Bool) {L M : Language A} → Within L M → Within (AfterToken test L) (AfterToken test M)
behind_within test h = both_within second_of (same_within (SingleToken test)) h

before_within : {A : Type 0} (test : Token → Bool) {L M : Language A} → Within L M → Within (BeforeToken L test) (BeforeToken M test)
before_within test h = both_within first_of h (same_within (SingleToken test))

parentheses_within : {A : Type 0} {L M : Language A} → Within L M → Within (InParentheses L) (InParentheses M)
parentheses_within h = behind_within (has_class open_parenthesis_sign) (before_within (has_class close_parenthesis_sign) h)

separated_within : {A : Type 0} (mark : Token → Bool) {L M : Language A} → Within L M → Within (SeparatedList mark L) (SeparatedList mark M)
separated_within mark h = both_within first_of (both_within cons h (many_within (behind_within mark h))) (same_within (OptionalSequence (SingleToken mark)))

module _ (E F : Language Term) (e : Within E F) where
  arg_within : Within (Arg E) (Arg F)
  arg_within = either_within (both_within _ (same_within _) (behind_within (has_class assign_sign) e)) (mapped_within PositionalTerm e)

  args_within : Within (Args E) (Args F)
  args_within = either_within (separated_within (has_class comma_sign) arg_within) (same_within (EmptySequence []))

  param_within : Within (Param E) (Param F)
  param_within = both_within _ (same_within (SingleToken (has_class name_class))) (maybe_within (behind_within (has_class assign_sign) e))

  params_within : Within (Params (Param E)) (Params (Param F))
  params_within = either_within (separated_within (has_class comma_sign) param_within) (same_within (EmptySequence []))

  binders_within : Within (Binders E) (Binders F)
  binders_within = separated_within (has_class comma_sign) (both_within _ (same_within (SingleToken (has_class name_class))) (behind_within (has_class assign_sign) e))

  bracket_within : Within (Bracket E) (Bracket F)
  bracket_within =
      both_within _ (same_within (SingleToken (has_class open_bracket_sign)))
      (before_within (has_class close_bracket_sign)
      (maybe_within (both_within pair_of e
      (either_within (behind_within (has_class colon_sign) (both_within _ e (maybe_within (behind_within (has_class colon_sign) e))))
      (mapped_within items (both_within first_of (many_within (behind_within (has_class comma_sign) e)) (same_within (OptionalSequence (SingleToken (has_class comma_sign))))))))))

  suffix_within : Within (Suffix E) (Suffix F)
  suffix_within = either_within (both_within _ (same_within (SingleToken (has_class open_bracket_sign))) (before_within (has_class close_bracket_sign) e)) (same_within _)

module _ (E F U V : Language Term) (As Bs : Language (List ArgTerm)) (e : Within E F) (a : Within As Bs) (u : Within U V) where
  primary_within : Within (Primary E As) (Primary F Bs)
  primary_within =
      either_within (same_within _) (either_within (same_within _) (either_within (same_within _) (either_within (same_within _) (either_within (same_within _) (either_within (same_within _) (either_within (same_within _)
      (either_within (both_within _ (same_within (SingleToken (has_class name_class))) (maybe_within (parentheses_within a)))
      (either_within (both_within _ (same_within (SingleToken (has_class open_parenthesis_sign))) (before_within (has_class close_parenthesis_sign) e)) (bracket_within E F e)))))))))

  unary_within : Within (Unary E As U) (Unary F Bs V)
  unary_within = either_within (both_within _ (same_within _) u) (both_within _ primary_within (many_within (suffix_within E F e)))

  chain_within : (below : List (List ℕ)) {X Y : Language Term} → Within X Y → Within (Chain below X) (Chain below Y)
  chain_within [] h = h
  chain_within (ops ∷ below) h = both_within chain_term (chain_within below h) (many_within (both_within link_term (same_within (SingleToken (has_class_in ops))) (chain_within below h)))

  choice_within : Within (Choice E As U) (Choice F Bs V)
  choice_within = both_within _ (chain_within levels unary_within) (maybe_within (both_within pair_of (same_within (SingleToken (has_class question_sign))) (both_within pair_of e (behind_within (has_class colon_sign) e))))

instance_within : (E F : Language Term) (As Bs : Language (List ArgTerm)) (Ns Ms : Language (List BinderTerm)) (B C : Language BodyTerm) → Within E F → Within As Bs → Within Ns Ms → Within B C → Within (Instance E As Ns B) (Instance F Bs Ms C)
instance_within E F As Bs Ns Ms B C e a n b =
    both_within _ (same_within _)
    (either_within (both_if_within if_term IsNearest (both_within pair_of (same_within (SingleToken (has_class if_word))) (both_within pair_of (parentheses_within e) b)) (maybe_within (behind_within (has_class else_word) b)))
    (either_within (both_within _ (same_within _) (both_within pair_of (parentheses_within n) b))
    (both_within _ (same_within _) (both_within pair_of (parentheses_within a) b))))

module _ (I J : Language InstanceTerm) (i : Within I J) (Ss Rs : Language (List StatementTerm)) (s : Within Ss Rs) where
  body_within : Within (BodyOf I Ss) (BodyOf J Rs)
  body_within =
      either_within (same_within _)
      (either_within (both_within _ (same_within (SingleToken (has_class open_brace_sign))) (before_within (has_class close_brace_sign) s))
      (mapped_within InstanceBody i))

  statement_within : (X Y : Language Term) (Ps Qs : Language (List ParamTerm)) (B C : Language BodyTerm) → Within X Y → Within Ps Qs → Within B C → Within (StatementOf X Ps I Ss B) (StatementOf Y Qs J Rs C)
  statement_within X Y Ps Qs B C x p b =
      either_within (same_within _)
      (either_within (both_within _ (same_within (SingleToken (has_class open_brace_sign))) (before_within (has_class close_brace_sign) s))
      (either_within (both_within _ (same_within _) (behind_within (has_class assign_sign) (before_within (has_class semicolon_sign) x)))
      (either_within (both_within _ (same_within (SingleToken (has_class name_class))) (behind_within (has_class assign_sign) (before_within (has_class semicolon_sign) x)))
      (either_within (both_within _ (same_within _) (both_within pair_of (same_within (SingleToken (has_class name_class))) (both_within pair_of (parentheses_within p) b)))
      (either_within (both_within _ (same_within _) (both_within pair_of (same_within (SingleToken (has_class name_class))) (both_within pair_of (parentheses_within p) (behind_within (has_class assign_sign) (before_within (has_class semicolon_sign) x)))))
      (mapped_within InstanceStatement i))))))

-- whatever holds of no token at all
never_within : {A : Type 0} (L : Language A) → Within EmptyLanguage L
never_within L = record { at = λ x s h. elim h [ ] }

nothing_args : (k : ℕ) (E : Language Term) → Within (EmptySequence []) (ArgsIn k E)
nothing_args zero E = same_within _
nothing_args (suc k) E = record { at = λ x s h. inr h }

nothing_params : (k : ℕ) (E : Language Term) → Within (EmptySequence []) (ParamsIn k E)
nothing_params zero E = same_within _
nothing_params (suc k) E = record { at = λ x s h. inr h }

pub none_many : {A : Type 0} (L : Language A) (x : List A) (s : List Token) → EmptySequence [] x s → Repetition L x s
none_many L [] s h = h.1
none_many L (y ∷ ys) s h = absurd (let e = h.0 in cc)

nothing_statements : (k : ℕ) (S : Language StatementTerm) → Within (EmptySequence []) (StatementsIn k S)
nothing_statements zero S = same_within _
nothing_statements (suc k) S = record { at = none_many S }

-- what is whole at a depth is in the grammar of each greater depth, and so are its parts
module _ (g : Detail) where
  args_in_within : (d k : ℕ) → d ≤ k → Within (Expr without_gaps d) (Expr g k) → Within (ArgsIn d (Expr without_gaps d)) (ArgsIn k (Expr g k))
  args_in_within zero k l e = nothing_args k (Expr g k)
  args_in_within (suc d) zero l e = absurd (omega arith)
  args_in_within (suc d) (suc k) l e = args_within (Expr without_gaps (suc d)) (Expr g (suc k)) e

  params_in_within : (d k : ℕ) → d ≤ k → Within (Expr without_gaps d) (Expr g k) → Within (ParamsIn d (Expr without_gaps d)) (ParamsIn k (Expr g k))
  params_in_within zero k l e = nothing_params k (Expr g k)
  params_in_within (suc d) zero l e = absurd (omega arith)
  params_in_within (suc d) (suc k) l e = params_within (Expr without_gaps (suc d)) (Expr g (suc k)) e

  binders_in_within : (d k : ℕ) → d ≤ k → Within (Expr without_gaps d) (Expr g k) → Within (BindersIn without_gaps d (Expr without_gaps d)) (BindersIn g k (Expr g k))
  binders_in_within zero k l e = never_within _
  binders_in_within (suc d) zero l e = absurd (omega arith)
  binders_in_within (suc d) (suc k) l e = binders_within (Expr without_gaps (suc d)) (Expr g (suc k)) e

  statements_in_within : (d k : ℕ) → d ≤ k → Within (Statement without_gaps d) (Statement g k) → Within (StatementsIn d (Statement without_gaps d)) (StatementsIn k (Statement g k))
  statements_in_within zero k l s = nothing_statements k (Statement g k)
  statements_in_within (suc d) zero l s = absurd (omega arith)
  statements_in_within (suc d) (suc k) l s = many_within s

  expr_within : (d k : ℕ) → d ≤ k → Within (Expr without_gaps d) (Expr g k) × Within (Operand without_gaps d) (Operand g k)
  unfolding Expr Operand
  expr_within zero k l = (never_within _, never_within _)
  expr_within (suc d) zero l = absurd (omega arith)
  expr_within (suc d) (suc k) l =
      let less : d ≤ k = omega arith in
      let e = expr_within d k less in
      let a = args_in_within d k less e.0 in (
        choice_within (Expr without_gaps d) (Expr g k) (Operand without_gaps d) (Operand g k) (ArgsIn d (Expr without_gaps d)) (ArgsIn k (Expr g k)) e.0 a e.1,
        unary_within (Expr without_gaps d) (Expr g k) (Operand without_gaps d) (Operand g k) (ArgsIn d (Expr without_gaps d)) (ArgsIn k (Expr g k)) e.0 a e.1,
      )

  statement_in_within : (d k : ℕ) → d ≤ k → Within (Statement without_gaps d) (Statement g k) × Within (Body without_gaps d) (Body g k)
  unfolding Statement Body
  statement_in_within zero k l = (never_within _, never_within _)
  statement_in_within (suc d) zero l = absurd (omega arith)
  statement_in_within (suc d) (suc k) l =
      let less : d ≤ k = omega arith in
      let b = statement_in_within d k less in
      let e = (expr_within d k less).0 in
      let i =
      instance_within (Expr without_gaps d) (Expr g k) (ArgsIn d (Expr without_gaps d)) (ArgsIn k (Expr g k)) (BindersIn without_gaps d (Expr without_gaps d)) (BindersIn g k (Expr g k)) (Body without_gaps d) (Body g k)
      e (args_in_within d k less e) (binders_in_within d k less e) b.1 in
      let s = statements_in_within d k less b.0 in (
        statement_within (InstanceIn without_gaps d (Body without_gaps d)) (InstanceIn g k (Body g k)) i (StatementsIn d (Statement without_gaps d)) (StatementsIn k (Statement g k)) s
            (Expr without_gaps (suc d)) (Expr g (suc k)) (ParamsIn d (Expr without_gaps d)) (ParamsIn k (Expr g k)) (Body without_gaps d) (Body g k) (expr_within (suc d) (suc k) l).0 (params_in_within d k less e) b.1,
        body_within (InstanceIn without_gaps d (Body without_gaps d)) (InstanceIn g k (Body g k)) i (StatementsIn d (Statement without_gaps d)) (StatementsIn k (Statement g k)) s,
      )

  pub program_within : (d k : ℕ) → d ≤ k → (x : List StatementTerm) (s : List Token) → WholeProgram d x s → ProgramIn g k x s
  program_within d k l = (before_within (has_class end_class) (many_within (statement_in_within d k l).0)).at

pub lift : (n d : ℕ) (x : List StatementTerm) (s : List Token) → WholeProgram d x s → WholeProgram (n + d) x s
lift n d = program_within without_gaps d (n + d) (omega arith)

-- a program is its own outline
pub is_outline : (d : ℕ) (x : List StatementTerm) (s : List Token) → WholeProgram d x s → ProgramWithGaps d x s
is_outline d = program_within with_gaps d d (omega arith)
