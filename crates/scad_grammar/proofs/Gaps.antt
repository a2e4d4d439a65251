-- A program's reader and an outline's reader do the same until one token is refused; where that is a gap, the outline's reader
-- goes on.
use Rattle.std.proofs.Common.{◌≡◌, ℕ, zero, suc, ◌≤◌, List, [], ◌∷◌, length, Bool, true, false, cond, Ok, Err, Some, refl, sym, ap, ◌∙◌, subst, arith, ◌&&◌}
use Rattle.scad_lexer.specs.declared.token.Token.{Token}
use Rattle.scad_ast.specs.Terms.{Term, ArgTerm, BinderTerm, EmptyBody, UndefTerm}
use Rattle.scad_grammar.specs.declared.SyntaxFault.{SyntaxFault}
use Rattle.scad_grammar.specs.declared.SyntaxFault.TheVariants.{Expected, Nested, NotInProfile}
use Rattle.scad_grammar.specs.Classes.{numeral_class, caret_sign, name_class, end_class, assign_sign, comma_sign, open_bracket_sign, is_class_among, has_class_in, has_class, token_class}
use Rattle.scad_grammar.specs.Languages.{first_of, cons}
use Rattle.scad_grammar.specs.Reading.{Read, then_read, next_is, token_or_fault_read, image_read, empty_read, sequence_read, alternative_read, two_ahead, with_front, repeated_times, repeated_read, trailing_times, trailing_items}
use Rattle.scad_grammar.specs.Faults.{TokenReader, token_read, first_token_read, fault_of, left_out_classes, left_out_of_expressions}
use Rattle.scad_grammar.specs.Reads.{head_of, nested_read, firsts_of_expression, primary_read, arg_in, expr_read, operand_read}
use Rattle.scad_grammar.specs.StatementReads.{firsts_of_body, firsts_of_statement, binder_read, param_in, binder_in, binders_read, statement_read, body_read, program_read}
use Rattle.scad_grammar.proofs.Tests.{apart, classes_apart, classes_within}
use Rattle.scad_grammar.proofs.lemmas.Shrinks.{left, Shrinks, after_left, one_shrinks, nothing_shrinks, mapped_shrinks, both_shrinks, choice_shrinks, ahead_shrinks, times_left, many_shrinks, trailing_left, trailing_shrinks, front_rest}
use Rattle.scad_grammar.proofs.Outlines.{refusal, gap, open_arg, open_param, open_binders, open_expr, open_operand, open_statement, open_body, outline_read}
use Rattle.scad_grammar.proofs.Alike.{Keeps, Free, arg_keeps, param_keeps, binder_keeps, binders_keep, unary_keeps, expression_keeps, primary_keeps, instance_keeps, body_keeps, statement_keeps}

-- how the reading of a program ends, and that of an outline
pub data Cut {A : Type 0} (q p : Read Token SyntaxFault A) : Type 0 where
  equal : q ≡ p → Cut q p
  -- the same token is refused
  refused : (k l : SyntaxFault) → (at : List Token) → q ≡ Err (k, at) → p ≡ Err (l, at) → Cut q p
  -- a gap is refused, and the outline goes on
  gapped : (at : List Token) → q ≡ Err (NotInProfile, at) → left p ≤ length at → Cut q p

pub record Cuts {A : Type 0} (r q : TokenReader A) : Type 0 where
  pub at : (ts : List Token) → Cut (r ts) (q ts)
  pub shrinks : Shrinks q

same_cut : {A : Type 0} {q r p : Read Token SyntaxFault A} → q ≡ r → Cut r p → Cut q p
same_cut {p = p} e h = subst (λ q. Cut q p) (sym e) h

after_cut : {A B : Type 0} (q p : Read Token SyntaxFault A) (f g : A → List Token → Read Token SyntaxFault B) → Cut q p → ((x : A) (us : List Token) → Cut (f x us) (g x us)) → ((x : A) (us : List Token) → left (g x us) ≤ length us) → Cut (then_read q f) (then_read p g)
after_cut q (Ok p) f g (equal e) h l = same_cut (ap (λ r. then_read r f) e) (h p.0 p.1)
after_cut q (Err x) f g (equal e) h l = equal (ap (λ r. then_read r f) e)
after_cut q p f g (refused j k at a b) h l = refused j k at (ap (λ r. then_read r f) a) (ap (λ r. then_read r g) b)
after_cut q p f g (gapped at a b) h l = gapped at (ap (λ r. then_read r f) a) (after_left (length at) p g b l)

cond_cut : {A : Type 0} (b : Bool) (q p r s : Read Token SyntaxFault A) → Cut q p → Cut r s → Cut (cond b q r) (cond b p s)
cond_cut true q p r s h k = h
cond_cut false q p r s h k = k

self_cut : {A : Type 0} (r : TokenReader A) → Shrinks r → Cuts r r
self_cut r h = record { at = λ ts. equal refl; shrinks = h }

mapped_cut : {A B : Type 0} (f : A → B) (r q : TokenReader A) → Cuts r q → Cuts (image_read f r) (image_read f q)
mapped_cut f r q h = record {
  at = λ ts. after_cut (r ts) (q ts) (λ a us. Ok (f a, us)) (λ a us. Ok (f a, us)) (h.at ts) (λ a us. equal refl) (λ a us. omega arith);
  shrinks = mapped_shrinks f q h.shrinks;
}

both_cut : {A B C : Type 0} (f : A → B → C) (r q : TokenReader A) (s p : TokenReader B) → Cuts r q → Cuts s p → Cuts (sequence_read f r s) (sequence_read f q p)
both_cut f r q s p h k = record {
  at = λ ts. after_cut (r ts) (q ts) (λ a us. then_read (s us) (λ b vs. Ok (f a b, vs))) (λ a us. then_read (p us) (λ b vs. Ok (f a b, vs))) (h.at ts)
      (λ a us. after_cut (s us) (p us) (λ b vs. Ok (f a b, vs)) (λ b vs. Ok (f a b, vs)) (k.at us) (λ b vs. equal refl) (λ b vs. omega arith)) (λ a us. (mapped_shrinks (f a) p k.shrinks).at us);
  shrinks = both_shrinks f q p h.shrinks k.shrinks;
}

choice_cut : {A : Type 0} (test : Token → Bool) (r q s p : TokenReader A) → Cuts r q → Cuts s p → Cuts (alternative_read test r s) (alternative_read test q p)
choice_cut test r q s p h k = record { at = λ ts. cond_cut (next_is test ts) (r ts) (q ts) (s ts) (p ts) (h.at ts) (k.at ts); shrinks = choice_shrinks test q p h.shrinks k.shrinks }

ahead_at : {A C : Type 0} (f : Token → Token → A → C) (a b : Token → Bool) (r q : TokenReader A) (s p : TokenReader C) → Cuts r q → Cuts s p → (ts : List Token) → Cut (two_ahead f a b r s ts) (two_ahead f a b q p ts)
ahead_at f a b r q s p h k [] = k.at []
ahead_at f a b r q s p h k (t ∷ []) = k.at (t ∷ [])
ahead_at f a b r q s p h k (t ∷ u ∷ ts) =
    cond_cut (a t && b u) (then_read (r ts) (λ x us. Ok (f t u x, us))) (then_read (q ts) (λ x us. Ok (f t u x, us))) (s (t ∷ u ∷ ts)) (p (t ∷ u ∷ ts))
    (after_cut (r ts) (q ts) (λ x us. Ok (f t u x, us)) (λ x us. Ok (f t u x, us)) (h.at ts) (λ x us. equal refl) (λ x us. omega arith)) (k.at (t ∷ u ∷ ts))

ahead_cut : {A C : Type 0} (f : Token → Token → A → C) (cs : List ℕ) (r q : TokenReader A) (s p : TokenReader C) → Cuts r q → Cuts s p → Cuts (two_ahead f (has_class_in cs) (has_class assign_sign) r s) (two_ahead f (has_class_in cs) (has_class assign_sign) q p)
ahead_cut f cs r q s p h k = record { at = ahead_at f (has_class_in cs) (has_class assign_sign) r q s p h k; shrinks = ahead_shrinks f (has_class_in cs) (has_class assign_sign) q p h.shrinks k.shrinks }

front_cut : {A : Type 0} (x : A) (q p : Read Token SyntaxFault (List A)) → Cut q p → Cut (with_front x q) (with_front x p)
front_cut x q p (equal e) = equal (ap (with_front x) e)
front_cut x q p (refused j k at a b) = refused j k at (ap (with_front x) a) (ap (with_front x) b)
front_cut x q p (gapped at a b) = gapped at (ap (with_front x) a) (subst (λ l. length l ≤ length at) (sym (front_rest x p)) b)

times_at : {A : Type 0} (n : ℕ) (test : Token → Bool) (r q : TokenReader A) → Cuts r q → (ts : List Token) → Cut (repeated_times n test r ts) (repeated_times n test q ts)
unfolding repeated_times
times_at zero test r q h ts = equal refl
times_at (suc n) test r q h ts =
    cond_cut (next_is test ts) (then_read (r ts) (λ x us. with_front x (repeated_times n test r us))) (then_read (q ts) (λ x us. with_front x (repeated_times n test q us))) (Ok ([], ts)) (Ok ([], ts))
    (after_cut (r ts) (q ts) (λ x us. with_front x (repeated_times n test r us)) (λ x us. with_front x (repeated_times n test q us)) (h.at ts) (λ x us. front_cut x (repeated_times n test r us) (repeated_times n test q us) (times_at n test r q h us))
    (λ x us. subst (λ l. length l ≤ length us) (sym (front_rest x (repeated_times n test q us))) (times_left n test q h.shrinks us)))
    (equal refl)

many_cut : {A : Type 0} (test : Token → Bool) (r q : TokenReader A) → Cuts r q → Cuts (repeated_read test r) (repeated_read test q)
unfolding repeated_read
many_cut test r q h = record { at = λ ts. times_at (length ts) test r q h ts; shrinks = many_shrinks test q h.shrinks }

trailing_at : {A : Type 0} (n : ℕ) (mark go : Token → Bool) (r q : TokenReader A) → Cuts r q → (ts : List Token) → Cut (trailing_times n mark go r ts) (trailing_times n mark go q ts)
unfolding trailing_times
trailing_at zero mark go r q h ts = equal refl
trailing_at (suc n) mark go r q h [] = equal refl
trailing_at (suc n) mark go r q h (t ∷ ts) =
    cond_cut (mark t) _ _ (Ok ([], t ∷ ts)) (Ok ([], t ∷ ts))
    (cond_cut (next_is go ts) (then_read (r ts) (λ x us. with_front x (trailing_times n mark go r us))) (then_read (q ts) (λ x us. with_front x (trailing_times n mark go q us))) (Ok ([], ts)) (Ok ([], ts))
    (after_cut (r ts) (q ts) (λ x us. with_front x (trailing_times n mark go r us)) (λ x us. with_front x (trailing_times n mark go q us)) (h.at ts) (λ x us. front_cut x (trailing_times n mark go r us) (trailing_times n mark go q us) (trailing_at n mark go r q h us))
    (λ x us. subst (λ l. length l ≤ length us) (sym (front_rest x (trailing_times n mark go q us))) (trailing_left n mark go q h.shrinks us)))
    (equal refl)) (equal refl)

trailing_cut : {A : Type 0} (mark go : Token → Bool) (r q : TokenReader A) → Cuts r q → Cuts (trailing_items mark go r) (trailing_items mark go q)
unfolding trailing_items
trailing_cut mark go r q h = record { at = λ ts. trailing_at (length ts) mark go r q h ts; shrinks = trailing_shrinks mark go q h.shrinks }

abbrev Law : (A : Type 0) → TokenReader A → TokenReader A → Type 0
Law A r q = Cuts r q

cutting : Keeps Law Free
cutting = record {
  nothing_keeps = λ a. self_cut (empty_read a) (nothing_shrinks a);
  one_keeps = λ cs e. self_cut (token_read (has_class_in cs)) (one_shrinks (has_class_in cs) (fault_of left_out_classes));
  mapped_keeps = mapped_cut;
  both_keeps = both_cut;
  choice_keeps = λ test r q s p e. choice_cut test r q s p;
  taken_keeps = λ cs r q s p e t. choice_cut (has_class_in cs) r q s p;
  ahead_keeps = λ f cs r q s p e g. ahead_cut f cs r q s p;
  many_keeps = λ test r q e. many_cut test r q;
  many_taken_keeps = λ cs r q e t. many_cut (has_class_in cs) r q;
  trailing_keeps = λ go r q e. trailing_cut (has_class comma_sign) go r q;
}

-- where no depth is left, all is refused
refusal_shrinks : {A : Type 0} (classes : List ℕ) → Shrinks (refusal {A = A} classes)
refusal_shrinks classes = record { at = λ ts. omega arith }

nested_refused : {A : Type 0} (begins classes : List ℕ) → Cuts (nested_read {A = A} begins classes) (refusal classes)
nested_refused {A} begins classes = record { at = at; shrinks = refusal_shrinks classes }
  where
    at : (ts : List Token) → Cut (nested_read {A = A} begins classes ts) (refusal classes ts)
    at ts = go (next_is (has_class_in begins) ts)
      where
        go : (b : Bool) → Cut {A = A} (cond b (Err (Nested, ts)) (refusal classes ts)) (refusal classes ts)
        go true = refused Nested (fault_of classes (head_of ts)) ts refl refl
        go false = equal refl

-- or a gap is read
gap_shrinks : {A : Type 0} (f : Token → A) (classes : List ℕ) → Shrinks (gap f classes)
gap_shrinks f classes = mapped_shrinks f (token_or_fault_read (has_class caret_sign) (fault_of classes)) (one_shrinks (has_class caret_sign) (fault_of classes))

module _ {A : Type 0} (begins classes : List ℕ) (f : Token → A) (r : TokenReader A) (is_r : (ts : List Token) → r ts ≡ cond (next_is (has_class_in begins) ts) (Err (Nested, ts)) (refusal classes ts)) (not_begun : apart (caret_sign ∷ []) begins ≡ true) (out : is_class_among classes caret_sign ≡ true) where
  gap_read : (t : Token) (ts : List Token) → has_class caret_sign t ≡ true → r (t ∷ ts) ≡ Err (NotInProfile, t ∷ ts)
  gap_read t ts e =
      is_r (t ∷ ts) ∙ ap (λ b. cond b (Err (Nested, t ∷ ts)) (Err (fault_of classes (Some t), t ∷ ts))) (classes_apart (caret_sign ∷ []) begins not_begun (token_class t.kind) e)
      ∙ ap (λ b. Err (cond b NotInProfile Expected, t ∷ ts)) (classes_within (caret_sign ∷ []) classes (ap (λ b. cond b true false) out) (token_class t.kind) e)

  other_read : (t : Token) (ts : List Token) → has_class caret_sign t ≡ false → Cut (r (t ∷ ts)) (gap f classes (t ∷ ts))
  other_read t ts e = go (has_class_in begins t) (is_r (t ∷ ts))
    where
      open_refused : gap f classes (t ∷ ts) ≡ Err (fault_of classes (Some t), t ∷ ts)
      open_refused = ap (λ b. then_read (cond b (Ok (t, ts)) (Err (fault_of classes (Some t), t ∷ ts))) (λ a us. Ok (f a, us))) e

      go : (b : Bool) → r (t ∷ ts) ≡ cond b (Err (Nested, t ∷ ts)) (Err (fault_of classes (Some t), t ∷ ts)) → Cut (r (t ∷ ts)) (gap f classes (t ∷ ts))
      go true h = refused Nested (fault_of classes (Some t)) (t ∷ ts) h open_refused
      go false h = refused (fault_of classes (Some t)) (fault_of classes (Some t)) (t ∷ ts) h open_refused

  at_gap : (ts : List Token) → Cut (r ts) (gap f classes ts)
  at_gap [] = equal (is_r [])
  at_gap (t ∷ ts) = go (has_class caret_sign t) refl
    where
      go : (b : Bool) → has_class caret_sign t ≡ b → Cut (r (t ∷ ts)) (gap f classes (t ∷ ts))
      go true e = gapped (t ∷ ts) (gap_read t ts e) ((gap_shrinks f classes).at (t ∷ ts))
      go false e = other_read t ts e

  gap_cut : Cuts r (gap f classes)
  gap_cut = record { at = at_gap; shrinks = gap_shrinks f classes }

no_binder : (ts : List Token) → binders_read (nested_read (name_class ∷ []) left_out_classes) ts ≡ cond (next_is (has_class_in (name_class ∷ [])) ts) (Err (Nested, ts)) (refusal left_out_classes ts)
no_binder ts = go (next_is (has_class_in (name_class ∷ [])) ts)
  where
    go : (b : Bool) → then_read (cond {A = Read Token SyntaxFault BinderTerm} b (Err (Nested, ts)) (Err (fault_of left_out_classes (head_of ts), ts))) (λ x us. then_read (trailing_items (has_class comma_sign) (has_class name_class) (nested_read (name_class ∷ []) left_out_classes) us) (λ xs vs. Ok (cons x xs, vs))) ≡ cond b (Err (Nested, ts)) (Err (fault_of left_out_classes (head_of ts), ts))
    go true = refl
    go false = refl

primary_cut : (e f : TokenReader Term) (a b : TokenReader ArgTerm) → Cuts e f → Cuts a b → Cuts (primary_read e a) (primary_read f b)
primary_cut =
    primary_keeps Law Free cutting (λ c f h. self_cut (image_read f (token_read (has_class c))) (mapped_shrinks f (token_read (has_class c)) (one_shrinks (has_class c) (fault_of left_out_classes))))
    (self_cut (first_token_read (has_class open_bracket_sign)) (one_shrinks (has_class open_bracket_sign) (fault_of left_out_of_expressions))) (λ r q s p. choice_cut (has_class numeral_class) r q s p)

expressions : (d : ℕ) → Cuts (expr_read d) (open_expr d) × Cuts (operand_read d) (open_operand d) × Cuts (arg_in d (expr_read d)) (open_arg d (open_expr d))
unfolding expr_read operand_read open_expr open_operand
expressions zero = (
  gap_cut firsts_of_expression left_out_of_expressions (λ t. UndefTerm t.place) (nested_read firsts_of_expression left_out_of_expressions) (λ ts. refl) refl refl,
  gap_cut firsts_of_expression left_out_of_expressions (λ t. UndefTerm t.place) (nested_read firsts_of_expression left_out_of_expressions) (λ ts. refl) refl refl,
  nested_refused firsts_of_expression left_out_of_expressions,
)
expressions (suc d) =
    let k = expressions d in
    let p = primary_cut (expr_read d) (open_expr d) (arg_in d (expr_read d)) (open_arg d (open_expr d)) k.0 k.2 in
    let token_read : Cuts (expr_read (suc d)) (open_expr (suc d)) = expression_keeps Law Free cutting (expr_read d) (open_expr d) k.0 (operand_read d) (open_operand d) _ _ k.1 p in
    (token_read, unary_keeps Law Free cutting (expr_read d) (open_expr d) k.0 (operand_read d) (open_operand d) _ _ k.1 p, arg_keeps Law Free cutting (expr_read (suc d)) (open_expr (suc d)) token_read)

params : (d : ℕ) → Cuts (param_in d (expr_read d)) (open_param d (open_expr d))
params zero = nested_refused (name_class ∷ []) left_out_classes
params (suc d) = param_keeps Law Free cutting (expr_read (suc d)) (open_expr (suc d)) (expressions (suc d)).0

binders : (d : ℕ) → Cuts (binders_read (binder_in d (expr_read d))) (open_binders d (open_expr d))
binders zero = gap_cut (name_class ∷ []) left_out_classes (λ t. []) (binders_read (nested_read (name_class ∷ []) left_out_classes)) no_binder refl refl
binders (suc d) = binders_keep Law Free cutting (binder_in (suc d) (expr_read (suc d))) (binder_read (open_expr (suc d))) (binder_keeps Law Free cutting (expr_read (suc d)) (open_expr (suc d)) (expressions (suc d)).0)

statements : (d : ℕ) → Cuts (statement_read d) (open_statement d) × Cuts (body_read d) (open_body d)
unfolding statement_read body_read open_statement open_body
statements zero = (nested_refused firsts_of_statement left_out_classes, gap_cut firsts_of_body left_out_classes (λ t. EmptyBody t.place) (nested_read firsts_of_body left_out_classes) (λ ts. refl) refl refl)
statements (suc d) =
    let k = statements d in
    let e = expressions d in
    let i = instance_keeps Law Free cutting (expr_read d) (open_expr d) (arg_in d (expr_read d)) (open_arg d (open_expr d)) (binders_read (binder_in d (expr_read d))) (open_binders d (open_expr d)) (body_read d) (open_body d) e.0 e.2 (binders d) k.1 tt tt in
    let s = many_cut (has_class_in firsts_of_statement) (statement_read d) (open_statement d) k.0 in (
      statement_keeps Law Free cutting (statement_read d) (open_statement d) _ _ s i (expr_read (suc d)) (open_expr (suc d)) (param_in d (expr_read d)) (open_param d (open_expr d)) (body_read d) (open_body d) (expressions (suc d)).0 (params d) k.1 tt,
      body_keeps Law Free cutting (statement_read d) (open_statement d) _ _ s i,
    )

pub program_cut : (d : ℕ) → Cuts (program_read d) (outline_read d)
program_cut d = both_cut first_of _ _ (token_read (has_class end_class)) (token_read (has_class end_class)) (many_cut (has_class_in firsts_of_statement) (statement_read d) (open_statement d) (statements d).0) (self_cut (token_read (has_class end_class)) (one_shrinks (has_class end_class) (fault_of left_out_classes)))
