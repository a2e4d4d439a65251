-- A program is no larger than its tokens are many: each expression, assignment and instance has a token of its own.
use Rattle.std.proofs.Common.{◌≡◌, ℕ, zero, suc, ◌+◌, ◌≤◌, List, [], ◌∷◌, length, Bool, true, false, cond, Option, Some, None, inl, inr, refl, sym, ap, subst, arith, length-append}
use Rattle.scad_lexer.specs.declared.token.Token.{Token}
use Rattle.scad_ast.specs.Terms.{Term, NumberTerm, TextTerm, TruthTerm, UndefTerm, ChildCountTerm, SpecialTerm, LinkTerm, SuffixTerm, IndexTerm, MemberTerm, ArgTerm, NamedTerm, SpecialArgTerm, PositionalTerm, terms_from, links_from, suffixes_from, args_from, ParamTerm, BinderTerm, ModifierTerm, StatementTerm, EmptyStatement, InstanceStatement, InstanceTerm, CoreTerm, BodyTerm, EmptyBody, InstanceBody, statements_from}
use Rattle.scad_grammar.specs.Classes.{numeral_class, name_class, child_count_class, special_class, text_class, end_class, if_word, else_word, for_word, intersection_for_word, true_word, false_word, undef_word, open_parenthesis_sign, close_parenthesis_sign, open_bracket_sign, close_bracket_sign, close_brace_sign, comma_sign, semicolon_sign, assign_sign, colon_sign, question_sign, dot_sign, plus_sign, minus_sign, not_sign, has_class_in, has_class, numeral_value, bytes_of}
use Rattle.scad_grammar.specs.Languages.{Language, SingleToken, ImageOf, Concatenation, ConcatenationIf, Alternation, EmptySequence, Repetition, OptionalSequence, EmptyLanguage, first_of, second_of, pair_of, cons, AfterToken, BeforeToken, SeparatedList}
use Rattle.scad_grammar.specs.Grammar.{InParentheses, link_term, chain_term, choice_term, unary_term, postfix_term, index_term, member_term, name_term, paren_term, Rest, items, range, stepped_range, list_or_range_term, bracket_term, range_rest, named_argument_term, Args, param_term, Param, Params, binder_term, Binders, Bracket, Primary, Suffix, Postfix, Unary, Chain, levels, Choice, without_gaps, ArgsIn, ParamsIn, BindersIn, Expr, Operand, instance_term, IsNearest, if_term, loop_term, call_term, CoreOf, Instance, block_term, BodyOf, bare_block_term, assignment_term, special_assignment_term, module_term, function_term, StatementOf, StatementsIn, InstanceIn, Statement, Body, WholeProgram}
use Rattle.source_laws.specs.Sizes.{size_of_term, size_of_terms, size_of_args, size_of_suffixes, size_of_links, size_of_param, size_of_params, size_of_binders, size_of_statement, size_of_statements, size_of_instance, size_of_core, size_of_body}

-- what is written has at most as many as tokens write it
record Counts {A : Type 0} (count : A → ℕ) (L : Language A) : Type 0 where
  at : (x : A) (s : List Token) → L x s → count x ≤ length s

abbrev none : {A : Type 0} → A → ℕ
none x = 0

abbrev one : {A : Type 0} → A → ℕ
one x = 1

no_count : {A : Type 0} (L : Language A) → Counts none L
no_count L = record { at = λ x s h. omega arith }

one_count : (test : Token → Bool) → Counts one (SingleToken test)
one_count test = record { at = λ x s h. omega (arith, ap length h.1) }

both_count : {A B C : Type 0} (f : A → B → C) (ca : A → ℕ) (cb : B → ℕ) (cc : C → ℕ) {La : Language A} {Lb : Language B}
    → ((a : A) (b : B) → cc (f a b) ≤ ca a + cb b)
    → Counts ca La → Counts cb Lb → Counts cc (Concatenation f La Lb)
both_count f ca cb count less h k = record {
  at = λ c s x. subst (λ c. count c ≤ length s) (sym x.6)
      (omega (arith, less x.0 x.1, h.at x.0 x.2 x.4, k.at x.1 x.3 x.5, ap length x.7, length-append x.2 x.3));
}

both_if_count : {A B C : Type 0} (f : A → B → C) (Fit : A → B → Type 0) (ca : A → ℕ) (cb : B → ℕ)
    (cc : C → ℕ) {La : Language A} {Lb : Language B} → ((a : A) (b : B) → cc (f a b) ≤ ca a + cb b)
    → Counts ca La → Counts cb Lb → Counts cc (ConcatenationIf f Fit La Lb)
both_if_count f Fit ca cb count less h k = record {
  at = λ c s x. subst (λ c. count c ≤ length s) (sym x.7)
      (omega (arith, less x.0 x.1, h.at x.0 x.2 x.4, k.at x.1 x.3 x.5, ap length x.8, length-append x.2 x.3));
}

mapped_count : {A B : Type 0} (f : A → B) (ca : A → ℕ) (cb : B → ℕ) {L : Language A} → ((a : A) → cb (f a) ≤ ca a) → Counts ca L
    → Counts cb (ImageOf f L)
mapped_count f ca cb less h = record {
  at = λ b s x. subst (λ b. cb b ≤ length s) (sym x.2)
      (omega (arith, less x.0, h.at x.0 s x.1));
}

either_count : {A : Type 0} {count : A → ℕ} {L M : Language A} → Counts count L → Counts count M → Counts count (Alternation L M)
either_count h k = record { at = λ x s y. elim y [ inl z ↦ h.at x s z | inr z ↦ k.at x s z ] }

abbrev of_maybe : {A : Type 0} → (A → ℕ) → Option A → ℕ
of_maybe count None = 0
of_maybe count (Some x) = count x

maybe_at : {A : Type 0} (count : A → ℕ) (L : Language A) → Counts count L → (x : Option A) (s : List Token)
    → OptionalSequence L x s → of_maybe count x ≤ length s
maybe_at count L h None s x = omega arith
maybe_at count L h (Some y) s x = h.at y s x

maybe_count : {A : Type 0} {count : A → ℕ} {L : Language A} → Counts count L → Counts (of_maybe count) (OptionalSequence L)
maybe_count {A} {count} {L} h = record { at = maybe_at count L h }

never_count : {A : Type 0} (count : A → ℕ) → Counts count EmptyLanguage
never_count count = record { at = λ x s h. elim h [ ] }

empty_count : {A : Type 0} (count : A → ℕ) (a : A) → count a ≤ 0 → Counts count (EmptySequence a)
empty_count count a less = record { at = λ x s h. subst (λ x. count x ≤ length s) (sym h.0) (omega (arith, less)) }

abbrev total : {A : Type 0} → (A → ℕ) → List A → ℕ
total count [] = 0
total count (x ∷ xs) = count x + total count xs

many_at : {A : Type 0} (count : A → ℕ) (L : Language A) → Counts count L → (xs : List A) (s : List Token) → Repetition L xs s
    → total count xs ≤ length s
many_at count L h [] s x = omega arith
many_at count L h (y ∷ ys) s x = omega (arith, h.at y x.0 x.2, many_at count L h ys x.1 x.3, ap length x.4, length-append x.0 x.1)

many_count : {A : Type 0} (count : A → ℕ) {L : Language A} → Counts count L → Counts (total count) (Repetition L)
many_count count {L} h = record { at = many_at count L h }

after_count : {A : Type 0} (count : A → ℕ) (test : Token → Bool) {L : Language A} → Counts count L
    → Counts count (AfterToken test L)
after_count count test h = both_count second_of none count count (λ t x. omega arith) (no_count (SingleToken test)) h

before_count : {A : Type 0} (count : A → ℕ) (test : Token → Bool) {L : Language A} → Counts count L
    → Counts count (BeforeToken L test)
before_count count test h = both_count first_of count none count (λ x t. omega arith) h (no_count (SingleToken test))

in_parentheses : {A : Type 0} (count : A → ℕ) {L : Language A} → Counts count L → Counts count (InParentheses L)
in_parentheses count h = after_count count (has_class open_parenthesis_sign)
    (before_count count (has_class close_parenthesis_sign) h)

separated_count : {A : Type 0} (count : A → ℕ) (mark : Token → Bool) {L : Language A} → Counts count L
    → Counts (total count) (SeparatedList mark L)
separated_count count mark {L} h =
    both_count first_of (total count) none (total count) (λ xs o. omega arith)
    (both_count cons count (total count) (total count) (λ x xs. omega arith) h (many_count count (after_count count mark h)))
    (no_count (OptionalSequence (SingleToken mark)))

-- both of a pair
abbrev of_pair : {A B : Type 0} → (A → ℕ) → (B → ℕ) → A × B → ℕ
of_pair ca cb p = ca p.0 + cb p.1

pair_count : {A B : Type 0} (ca : A → ℕ) (cb : B → ℕ) {La : Language A} {Lb : Language B} → Counts ca La → Counts cb Lb
    → Counts (of_pair ca cb) (Concatenation pair_of La Lb)
pair_count ca cb h k = both_count pair_of ca cb (of_pair ca cb) (λ a b. omega arith) h k

weaker : {A : Type 0} (count less : A → ℕ) {L : Language A} → ((x : A) → less x ≤ count x) → Counts count L → Counts less L
weaker count less k h = record { at = λ x s y. omega (arith, k x, h.at x s y) }

-- lists of a text as they are read
terms_size : (es : List Term) → size_of_terms (terms_from es) ≤ total size_of_term es
terms_size [] = omega arith
terms_size (e ∷ es) = let rest = terms_size es in omega arith

abbrev of_arg : ArgTerm → ℕ
of_arg (NamedTerm at name value) = size_of_term value
of_arg (SpecialArgTerm at name value) = size_of_term value
of_arg (PositionalTerm value) = size_of_term value

args_size : (args : List ArgTerm) → size_of_args (args_from args) ≤ total of_arg args
args_size [] = omega arith
args_size (NamedTerm at name value ∷ args) = let rest = args_size args in omega arith
args_size (SpecialArgTerm at name value ∷ args) = let rest = args_size args in omega arith
args_size (PositionalTerm value ∷ args) = let rest = args_size args in omega arith

params_size : (params : List ParamTerm) → size_of_params params ≤ total size_of_param params
params_size [] = omega arith
params_size (p ∷ ps) = let rest = params_size ps in omega arith

abbrev of_binder : BinderTerm → ℕ
of_binder binder = size_of_term binder.values

binders_size : (binders : List BinderTerm) → size_of_binders binders ≤ total of_binder binders
binders_size [] = omega arith
binders_size (b ∷ bs) = let rest = binders_size bs in omega arith

statements_size : (ss : List StatementTerm) → size_of_statements (statements_from ss) ≤ total size_of_statement ss
statements_size [] = omega arith
statements_size (s ∷ ss) = let rest = statements_size ss in omega arith

-- a suffix and an operator have each a token of their own
abbrev of_suffix : SuffixTerm → ℕ
of_suffix (IndexTerm at index) = suc (size_of_term index)
of_suffix (MemberTerm at name name_at) = 1

suffixes_size : (rest : List SuffixTerm) → size_of_suffixes (suffixes_from rest) ≤ total of_suffix rest
suffixes_size [] = omega arith
suffixes_size (IndexTerm at index ∷ rest) = let more = suffixes_size rest in omega arith
suffixes_size (MemberTerm at name name_at ∷ rest) = let more = suffixes_size rest in omega arith

postfix_less : (x : Term) (rest : List SuffixTerm) → size_of_term (postfix_term x rest) ≤ size_of_term x + total of_suffix rest
postfix_less x [] = omega arith
postfix_less x (IndexTerm at index ∷ rest) = let more = suffixes_size rest in omega arith
postfix_less x (MemberTerm at name name_at ∷ rest) = let more = suffixes_size rest in omega arith

abbrev of_link : LinkTerm → ℕ
of_link link = suc (size_of_term link.right)

links_size : (links : List LinkTerm) → size_of_links (links_from links) ≤ total of_link links
links_size [] = omega arith
links_size (link ∷ links) = let more = links_size links in omega arith

chain_less : (x : Term) (links : List LinkTerm) → size_of_term (chain_term x links) ≤ size_of_term x + total of_link links
chain_less x [] = omega arith
chain_less x (link ∷ links) = let more = links_size links in omega arith

abbrev of_choice : Token × (Term × Term) → ℕ
of_choice = of_pair one (of_pair size_of_term size_of_term)

choice_less : (x : Term) (o : Option (Token × (Term × Term)))
    → size_of_term (choice_term x o) ≤ size_of_term x + of_maybe of_choice o
choice_less x None = omega arith
choice_less x (Some parts) = omega arith

abbrev of_rest : Rest → ℕ
of_rest (items more) = total size_of_term more
of_rest (range to) = size_of_term to
of_rest (stepped_range step to) = size_of_term step + size_of_term to

bracket_less : (t : Token) (o : Option (Term × Rest)) → size_of_term (bracket_term t o) ≤ 1 + of_maybe
    (of_pair size_of_term of_rest) o
bracket_less t None = omega arith
bracket_less t (Some parts) = by parts.0 parts.1
  where
    by : (first : Term) (rest : Rest) → size_of_term (list_or_range_term t first rest) ≤ 1 + (size_of_term first + of_rest rest)
    by first (items more) = let all = terms_size more in omega arith
    by first (range to) = omega arith
    by first (stepped_range step to) = omega arith

range_less : (next : Term) (o : Option Term) → of_rest (range_rest next o) ≤ size_of_term next + of_maybe size_of_term o
range_less next None = omega arith
range_less next (Some to) = omega arith

name_less : (t : Token) (o : Option (List ArgTerm)) → size_of_term (name_term t o) ≤ 1 + of_maybe
    (λ args. size_of_args (args_from args)) o
name_less t None = omega arith
name_less t (Some args) = omega arith

named_less : (t : Token) (value : Term) → of_arg (named_argument_term t value) ≤ 0 + size_of_term value
named_less t value = by (has_class special_class t)
  where
    by : (b : Bool) → of_arg (cond b (SpecialArgTerm t.place (bytes_of t.kind) value)
        (NamedTerm t.place (bytes_of t.kind) value)) ≤ 0 + size_of_term value
    by true = omega arith
    by false = omega arith

param_less : (t : Token) (o : Option Term) → size_of_param (param_term t o) ≤ 0 + of_maybe size_of_term o
param_less t None = omega arith
param_less t (Some e) = omega arith

abbrev of_args : List ArgTerm → ℕ
of_args args = size_of_args (args_from args)

chain_count : (ops : List (List ℕ)) (X : Language Term) → Counts size_of_term X → Counts size_of_term (Chain ops X)
chain_count [] X x = x
chain_count (first ∷ ops) X x =
    let inner = chain_count ops X x in
    both_count chain_term size_of_term (total of_link) size_of_term chain_less inner
    (many_count of_link (both_count link_term one size_of_term of_link (λ t right. omega arith)
    (one_count (has_class_in first)) inner))

-- expressions, over those one deeper
module _ (E : Language Term) (e : Counts size_of_term E) where
  args_count : Counts of_args (Args E)
  args_count =
      either_count
      (weaker (total of_arg) of_args args_size (separated_count of_arg (has_class comma_sign)
      (either_count (both_count named_argument_term none size_of_term of_arg named_less (no_count _)
      (after_count size_of_term (has_class assign_sign) e))
      (mapped_count PositionalTerm size_of_term of_arg (λ x. omega arith) e))))
      (empty_count of_args [] (omega arith))

  params_count : Counts size_of_params (Params (Param E))
  params_count =
      either_count
      (weaker (total size_of_param) size_of_params params_size (separated_count size_of_param (has_class comma_sign)
      (both_count param_term none (of_maybe size_of_term) size_of_param param_less (no_count _)
      (maybe_count (after_count size_of_term (has_class assign_sign) e)))))
      (empty_count size_of_params [] (omega arith))

  binders_count : Counts size_of_binders (Binders E)
  binders_count = weaker (total of_binder) size_of_binders binders_size (separated_count of_binder (has_class comma_sign)
      (both_count binder_term none size_of_term of_binder (λ t x. omega arith) (no_count _)
      (after_count size_of_term (has_class assign_sign) e)))

  bracket_count : Counts size_of_term (Bracket E)
  bracket_count =
      both_count bracket_term one (of_maybe (of_pair size_of_term of_rest)) size_of_term bracket_less
      (one_count (has_class open_bracket_sign))
      (before_count (of_maybe (of_pair size_of_term of_rest)) (has_class close_bracket_sign)
      (maybe_count (pair_count size_of_term of_rest e
      (either_count
      (after_count of_rest (has_class colon_sign)
      (both_count range_rest size_of_term (of_maybe size_of_term) of_rest range_less e
      (maybe_count (after_count size_of_term (has_class colon_sign) e))))
      (mapped_count items (total size_of_term) of_rest (λ more. omega arith)
      (both_count first_of (total size_of_term) none (total size_of_term) (λ xs o. omega arith)
      (many_count size_of_term (after_count size_of_term (has_class comma_sign) e)) (no_count _)))))))

  suffix_count : Counts of_suffix (Suffix E)
  suffix_count =
      either_count
      (both_count index_term one size_of_term of_suffix (λ t x. omega arith) (one_count (has_class open_bracket_sign))
      (before_count size_of_term (has_class close_bracket_sign) e))
      (both_count member_term one none of_suffix (λ t x. omega arith) (one_count (has_class dot_sign)) (no_count _))

  module _ (As : Language (List ArgTerm)) (as_ : Counts of_args As) where
    primary_count : Counts size_of_term (Primary E As)
    primary_count =
        either_count (mapped_count (λ t. NumberTerm t.place (numeral_value t.kind)) one size_of_term (λ t. omega arith)
        (one_count (has_class numeral_class)))
        (either_count (mapped_count (λ t. TextTerm t.place (bytes_of t.kind)) one size_of_term (λ t. omega arith)
        (one_count (has_class text_class)))
        (either_count (mapped_count (λ t. TruthTerm t.place true) one size_of_term (λ t. omega arith)
        (one_count (has_class true_word)))
        (either_count (mapped_count (λ t. TruthTerm t.place false) one size_of_term (λ t. omega arith)
        (one_count (has_class false_word)))
        (either_count (mapped_count (λ t. UndefTerm t.place) one size_of_term (λ t. omega arith) (one_count (has_class undef_word)))
        (either_count (mapped_count (λ t. ChildCountTerm t.place) one size_of_term (λ t. omega arith)
        (one_count (has_class child_count_class)))
        (either_count (mapped_count (λ t. SpecialTerm t.place (bytes_of t.kind)) one size_of_term (λ t. omega arith)
        (one_count (has_class special_class)))
        (either_count (both_count name_term one (of_maybe of_args) size_of_term name_less (one_count (has_class name_class))
        (maybe_count (in_parentheses of_args as_)))
        (either_count (both_count paren_term one size_of_term size_of_term (λ t x. omega arith)
        (one_count (has_class open_parenthesis_sign)) (before_count size_of_term (has_class close_parenthesis_sign) e))
        bracket_count))))))))

    postfix_count : Counts size_of_term (Postfix E As)
    postfix_count = both_count postfix_term size_of_term (total of_suffix) size_of_term postfix_less primary_count
        (many_count of_suffix suffix_count)

    unary_count : (U : Language Term) → Counts size_of_term U → Counts size_of_term (Unary E As U)
    unary_count U u =
        either_count (both_count unary_term one size_of_term size_of_term (λ t x. omega arith)
        (one_count (has_class_in (minus_sign ∷ plus_sign ∷ not_sign ∷ []))) u) postfix_count

    choice_count : (U : Language Term) → Counts size_of_term U → Counts size_of_term (Choice E As U)
    choice_count U u =
        both_count choice_term size_of_term (of_maybe of_choice) size_of_term choice_less
        (chain_count levels (Unary E As U) (unary_count U u))
        (maybe_count (pair_count one (of_pair size_of_term size_of_term) (one_count (has_class question_sign))
        (pair_count size_of_term size_of_term e (after_count size_of_term (has_class colon_sign) e))))

args_in_count : (depth : ℕ) (E : Language Term) → Counts size_of_term E → Counts of_args (ArgsIn depth E)
args_in_count zero E e = empty_count of_args [] (omega arith)
args_in_count (suc depth) E e = args_count E e

params_in_count : (depth : ℕ) (E : Language Term) → Counts size_of_term E → Counts size_of_params (ParamsIn depth E)
params_in_count zero E e = empty_count size_of_params [] (omega arith)
params_in_count (suc depth) E e = params_count E e

binders_in_count : (depth : ℕ) (E : Language Term) → Counts size_of_term E → Counts size_of_binders (BindersIn without_gaps depth E)
binders_in_count zero E e = never_count size_of_binders
binders_in_count (suc depth) E e = binders_count E e

expr_count : (d : ℕ) → Counts size_of_term (Expr without_gaps d) × Counts size_of_term (Operand without_gaps d)
unfolding Expr Operand
expr_count zero = (never_count size_of_term, never_count size_of_term)
expr_count (suc d) =
    let below = expr_count d in
    let E = Expr without_gaps d in
    let as_ = args_in_count d E below.0 in (
      choice_count E below.0 (ArgsIn d E) as_ (Operand without_gaps d) below.1,
      unary_count E below.0 (ArgsIn d E) as_
          (Operand without_gaps d) below.1,
    )

-- statements
abbrev more_than_core : CoreTerm → ℕ
more_than_core core = suc (size_of_core core)

if_less : (p : Token × (Term × BodyTerm)) (o : Option BodyTerm)
    → more_than_core (if_term p o) ≤ of_pair one (of_pair size_of_term size_of_body) p + of_maybe size_of_body o
if_less p None = omega arith
if_less p (Some other) = omega arith

loop_less : (t : Token) (p : List BinderTerm × BodyTerm) → more_than_core
    (loop_term t p) ≤ 1 + of_pair size_of_binders size_of_body p
loop_less t p = go (has_class for_word t) refl
  where
    go : (b : Bool) → has_class for_word t ≡ b → more_than_core (loop_term t p) ≤ 1 + of_pair size_of_binders size_of_body p
    go true e = rw e (omega arith)
    go false e = rw e (omega arith)

instance_less : (ms : List ModifierTerm) (core : CoreTerm) → size_of_instance (instance_term ms core) ≤ 0 + more_than_core core
instance_less [] core = omega arith
instance_less (m ∷ ms) core = omega arith

abbrev of_statements : List StatementTerm → ℕ
of_statements ss = size_of_statements (statements_from ss)

module _ (E : Language Term) (As : Language (List ArgTerm)) (Ns : Language (List BinderTerm)) (B : Language BodyTerm)
    (e : Counts size_of_term E) (as_ : Counts of_args As) (ns : Counts size_of_binders Ns) (b : Counts size_of_body B) where
  core_count : Counts more_than_core (CoreOf E As Ns B)
  core_count =
      either_count
      (both_if_count if_term IsNearest (of_pair one (of_pair size_of_term size_of_body))
      (of_maybe size_of_body) more_than_core if_less
      (pair_count one (of_pair size_of_term size_of_body) (one_count (has_class if_word))
      (pair_count size_of_term size_of_body (in_parentheses size_of_term e) b))
      (maybe_count (after_count size_of_body (has_class else_word) b)))
      (either_count
      (both_count loop_term one (of_pair size_of_binders size_of_body) more_than_core loop_less
      (one_count (has_class_in (for_word ∷ intersection_for_word ∷ [])))
      (pair_count size_of_binders size_of_body (in_parentheses size_of_binders ns) b))
      (both_count call_term one (of_pair of_args size_of_body) more_than_core (λ t p. omega arith)
      (one_count (has_class name_class))
      (pair_count of_args size_of_body (in_parentheses of_args as_) b)))

  instance_count : Counts size_of_instance (Instance E As Ns B)
  instance_count = both_count instance_term none more_than_core size_of_instance instance_less (no_count _) core_count

module _ (I : Language InstanceTerm) (Ss : Language (List StatementTerm)) (i : Counts size_of_instance I)
    (ss : Counts of_statements Ss) where
  body_count : Counts size_of_body (BodyOf I Ss)
  body_count =
      either_count (mapped_count (λ t. EmptyBody t.place) one size_of_body (λ t. omega arith)
      (one_count (has_class semicolon_sign)))
      (either_count (both_count block_term none of_statements size_of_body (λ t x. omega arith) (no_count _)
      (before_count of_statements (has_class close_brace_sign) ss))
      (mapped_count InstanceBody size_of_instance size_of_body (λ x. omega arith) i))

  statement_count : (X : Language Term) (Ps : Language (List ParamTerm)) (B : Language BodyTerm) → Counts size_of_term X
      → Counts size_of_params Ps → Counts size_of_body B
      → Counts size_of_statement (StatementOf X Ps I Ss B)
  statement_count X Ps B x ps b =
      either_count (mapped_count (λ t. EmptyStatement t.place) one size_of_statement (λ t. omega arith)
      (one_count (has_class semicolon_sign)))
      (either_count (both_count bare_block_term none of_statements size_of_statement (λ t x. omega arith) (no_count _)
      (before_count of_statements (has_class close_brace_sign) ss))
      (either_count (both_count special_assignment_term one size_of_term size_of_statement (λ t x. omega arith)
      (one_count (has_class special_class))
      (after_count size_of_term (has_class assign_sign) (before_count size_of_term (has_class semicolon_sign) x)))
      (either_count (both_count assignment_term one size_of_term size_of_statement (λ t x. omega arith)
      (one_count (has_class name_class))
      (after_count size_of_term (has_class assign_sign) (before_count size_of_term (has_class semicolon_sign) x)))
      (either_count
      (both_count module_term none (of_pair none (of_pair size_of_params size_of_body)) size_of_statement (λ t p. omega arith)
      (no_count _)
      (pair_count none (of_pair size_of_params size_of_body) (no_count _)
      (pair_count size_of_params size_of_body (in_parentheses size_of_params ps) b)))
      (either_count
      (both_count function_term none (of_pair none (of_pair size_of_params size_of_term)) size_of_statement (λ t p. omega arith)
      (no_count _)
      (pair_count none (of_pair size_of_params size_of_term) (no_count _)
      (pair_count size_of_params size_of_term (in_parentheses size_of_params ps)
      (after_count size_of_term (has_class assign_sign) (before_count size_of_term (has_class semicolon_sign) x)))))
      (mapped_count InstanceStatement size_of_instance size_of_statement (λ x. omega arith) i))))))

statements_count : (d : ℕ) (S : Language StatementTerm) → Counts size_of_statement S → Counts of_statements (StatementsIn d S)
statements_count zero S h = empty_count of_statements [] (omega arith)
statements_count (suc d) S h = weaker (total size_of_statement) of_statements statements_size (many_count size_of_statement h)

counts_at : (d : ℕ) → Counts size_of_statement (Statement without_gaps d) × Counts size_of_body (Body without_gaps d)
unfolding Statement Body
counts_at zero = (never_count size_of_statement, never_count size_of_body)
counts_at (suc d) =
    let below = counts_at d in
    let E = Expr without_gaps d in
    let e = (expr_count d).0 in
    let i = instance_count E (ArgsIn d E) (BindersIn without_gaps d E) (Body without_gaps d) e (args_in_count d E e)
    (binders_in_count d E e) below.1 in
    let ss = statements_count d (Statement without_gaps d) below.0 in
    let I = InstanceIn without_gaps d (Body without_gaps d) in
    let Ss = StatementsIn d (Statement without_gaps d) in (
      statement_count I Ss i ss (Expr without_gaps (suc d)) (ParamsIn d E) (Body without_gaps d) (expr_count (suc d)).0
          (params_in_count d E e) below.1,
      body_count I Ss i ss,
    )

pub written_size : (d : ℕ) (program : List StatementTerm) (s : List Token) → WholeProgram d program s
    → suc (of_statements program) ≤ length s
written_size d program s h =
    (both_count first_of of_statements one (λ ss. suc (of_statements ss)) (λ ss t. omega arith)
    (weaker (total size_of_statement) of_statements statements_size (many_count size_of_statement (counts_at d).0))
    (one_count (has_class end_class))).at program s h
