-- A word of a statement and a numeral in one place: a reader refuses both, or reads the numeral where it refuses the word as
-- one that expressions leave out, or the word has its place there.
use Rattle.std.proofs.Common.{◌≡◌, ℕ, zero, suc, ◌≤◌, List, [], ◌∷◌, ◌++◌, length, Bool, true, false, cond, Ok, Err, Option, Some, None, inl, inr, refl, sym, ap, ◌∙◌, subst, arith, ◌&&◌}
use Rattle.scad_lexer.specs.declared.token.Token.{Token}
use Rattle.scad_ast.specs.Terms.{Term, NumberTerm, TextTerm, TruthTerm, UndefTerm, ChildCountTerm, SpecialTerm, ArgTerm, ParamTerm, BinderTerm, CoreTerm, StatementTerm, EmptyStatement, InstanceStatement, BodyTerm}
use Rattle.scad_grammar.specs.declared.SyntaxFault.{SyntaxFault}
use Rattle.scad_grammar.specs.declared.SyntaxFault.TheVariants.{Expected, Nested, NotInProfile}
use Rattle.scad_grammar.specs.Classes.{else_word, close_parenthesis_sign, numeral_class, text_class, true_word, false_word, undef_word, child_count_class, special_class, name_class, end_class, if_word, for_word, function_word, module_word, assign_sign, comma_sign, semicolon_sign, open_brace_sign, open_parenthesis_sign, open_bracket_sign, is_class_among, has_class_in, has_class, token_class, numeral_value, bytes_of}
use Rattle.scad_grammar.specs.Languages.{first_of, second_of, pair_of}
use Rattle.scad_grammar.specs.Grammar.{bare_block_term, bracket_term, loop_term, instance_term, function_term, if_term}
use Rattle.scad_grammar.specs.Reading.{Read, then_read, next_is, token_or_fault_read, image_read, empty_read, sequence_read, alternative_read, optional_read, two_ahead, with_front, repeated_times, repeated_read, trailing_times, trailing_items}
use Rattle.scad_grammar.specs.Faults.{TokenReader, token_read, first_token_read, fault_of, left_out_classes, left_out_of_expressions}
use Rattle.scad_grammar.specs.Reads.{head_of, nested_read, firsts_of_expression, in_parentheses, name_read, paren_read, primary_read, arg_in, expr_read, operand_read}
use Rattle.scad_grammar.specs.StatementReads.{modifier_signs, loop_words, firsts_of_body, firsts_of_statement, if_read, call_read, module_read, params_read, ended_read, definition_read, assignment_of_tokens, special_read, statement_over, function_read, param_in, binder_in, binders_read, braces_read, instance_in, statement_read, body_read, program_read}
use Rattle.scad_grammar.proofs.Tests.{apart, either_listed, classes_apart, classes_within}
use Rattle.scad_grammar.proofs.Cores.{loop_over, core_over, instance_over, marks_reads, choice_second}
use Rattle.scad_grammar.proofs.Deeper.{primary_refuses}
use Rattle.scad_grammar.proofs.lemmas.Shrinks.{left, Shrinks, after_left, one_shrinks, nothing_shrinks, mapped_shrinks, both_shrinks, choice_shrinks, ahead_shrinks, times_left, many_shrinks, trailing_left, trailing_shrinks, front_rest}
use Rattle.scad_grammar.proofs.Alike.{words, Steady, Past, Takes, Keeps, arg_keeps, param_keeps, binder_keeps, binders_keep, params_keep, named_keeps, paren_keeps, filled_keeps, unary_keeps, expression_keeps, instance_keeps, body_keeps, statement_keeps}

abbrev Taken : (A : Type 0) → List ℕ → TokenReader A → Type 0
Taken A cs r = Takes (has_class_in cs) r

-- two tokens of which the first is no name
no_name : {A C : Type 0} (f : Token → Token → A → C) (cs : List ℕ) (r : TokenReader A) (s : TokenReader C) (u : Token) (l : List Token) → has_class_in cs u ≡ false → two_ahead f (has_class_in cs) (has_class assign_sign) r s (u ∷ l) ≡ s (u ∷ l)
no_name f cs r s u [] e = refl
no_name f cs r s u (v ∷ l) e = ap (λ b. cond (b && has_class assign_sign v) (then_read (r l) (λ x us. Ok (f u v x, us))) (s (u ∷ v ∷ l))) e

-- how one reading ends where the word stands, and the other where the numeral does
pub data Locked (t n : Token) (more : List Token) {A : Type 0} (q p : Read Token SyntaxFault A) : Type 0 where
  -- both read the same before it
  before : (u : List Token) → (x : A) → q ≡ Ok (x, u ++ t ∷ more) → p ≡ Ok (x, u ++ n ∷ more) → Locked t n more q p
  -- both refuse an earlier token
  earlier : (k : SyntaxFault) → (h : Token) → (u : List Token) → q ≡ Err (k, h ∷ (u ++ t ∷ more)) → p ≡ Err (k, h ∷ (u ++ n ∷ more)) → Locked t n more q p
  -- both refuse it
  everywhere : q ≡ Err (fault_of left_out_classes (Some t), t ∷ more) → p ≡ Err (Expected, n ∷ more) → Locked t n more q p
  -- the word is refused, and the numeral isn't
  of_expressions : q ≡ Err (fault_of left_out_of_expressions (Some t), t ∷ more) → Past n more p → Locked t n more q p
  -- the word isn't refused
  beyond : Past t more q → Locked t n more q p

module _ (t n : Token) (more : List Token) (w : has_class_in words t ≡ true) (g : has_class numeral_class n ≡ true) where
  past_after : {A B : Type 0} (u : Token) (q : Read Token SyntaxFault A) (f : A → List Token → Read Token SyntaxFault B) → Past u more q → ((x : A) (us : List Token) → left (f x us) ≤ length us) → Past u more (then_read q f)
  past_after u q f (inl l) h = inl (after_left (length more) q f l h)
  past_after u q f (inr e) h = inr (ap (λ r. then_read r f) e)

  same_locked : {A : Type 0} {q p r s : Read Token SyntaxFault A} → q ≡ r → p ≡ s → Locked t n more r s → Locked t n more q p
  same_locked {q = q} {p = p} {r = r} {s = s} e f h = subst (λ q. Locked t n more q p) (sym e) (subst (λ p. Locked t n more r p) (sym f) h)

  after_locked : {A B : Type 0} (q p : Read Token SyntaxFault A) (f : A → List Token → Read Token SyntaxFault B) → Locked t n more q p → ((x : A) (u : List Token) → Locked t n more (f x (u ++ t ∷ more)) (f x (u ++ n ∷ more))) → ((x : A) (us : List Token) → left (f x us) ≤ length us)
      → Locked t n more (then_read q f) (then_read p f)
  after_locked q p f (before u x a b) h l = same_locked (ap (λ r. then_read r f) a) (ap (λ r. then_read r f) b) (h x u)
  after_locked q p f (earlier k y u a b) h l = earlier k y u (ap (λ r. then_read r f) a) (ap (λ r. then_read r f) b)
  after_locked q p f (everywhere a b) h l = everywhere (ap (λ r. then_read r f) a) (ap (λ r. then_read r f) b)
  after_locked q p f (of_expressions a b) h l = of_expressions (ap (λ r. then_read r f) a) (past_after n p f b l)
  after_locked q p f (beyond a) h l = beyond (past_after t q f a l)

  cond_locked : {A : Type 0} (b c : Bool) (q p r s : Read Token SyntaxFault A) → b ≡ c → Locked t n more q p → Locked t n more r s → Locked t n more (cond b q r) (cond c p s)
  cond_locked true true q p r s e h k = h
  cond_locked false false q p r s e h k = k
  cond_locked true false q p r s e h k = absurd (cc)
  cond_locked false true q p r s e h k = absurd (cc)

  same_starts : (test : Token → Bool) → Steady test → (s : List Token) → next_is test (s ++ t ∷ more) ≡ next_is test (s ++ n ∷ more)
  same_starts test st [] = st t n w g
  same_starts test st (h ∷ s) = refl

  -- the law of a reader, and of one that has taken a token
  pub record Lock {A : Type 0} (r : TokenReader A) : Type 0 where
    pub at : (s : List Token) → Locked t n more (r (s ++ t ∷ more)) (r (s ++ n ∷ more))
    pub shrinks : Shrinks r

  pub record Begun {A : Type 0} (r : TokenReader A) : Type 0 where
    pub at : (h : Token) (s : List Token) → Locked t n more (r (h ∷ (s ++ t ∷ more))) (r (h ∷ (s ++ n ∷ more)))
    pub shrinks : Shrinks r

  word_not : (cs : List ℕ) → apart words cs ≡ true → has_class_in cs t ≡ false
  word_not cs e = classes_apart words cs e (token_class t.kind) w

  numeral_not : (cs : List ℕ) → apart (numeral_class ∷ []) cs ≡ true → has_class_in cs n ≡ false
  numeral_not cs e = classes_apart (numeral_class ∷ []) cs e (token_class n.kind) g

  numeral_refused : (cs : List ℕ) → has_class_in cs n ≡ false → token_read (has_class_in cs) (n ∷ more) ≡ Err (Expected, n ∷ more)
  numeral_refused cs e = ap (λ b. cond b (Ok (n, more)) (Err (fault_of left_out_classes (Some n), n ∷ more))) e ∙ ap (λ b. Err (cond b NotInProfile Expected, n ∷ more)) (numeral_not left_out_classes refl)

  one_begun : (test : Token → Bool) (fault : Option Token → SyntaxFault) → Begun (token_or_fault_read test fault)
  one_begun test fault = record { at = at; shrinks = one_shrinks test fault }
    where
      at : (h : Token) (s : List Token) → Locked t n more (token_or_fault_read test fault (h ∷ (s ++ t ∷ more))) (token_or_fault_read test fault (h ∷ (s ++ n ∷ more)))
      at h s = cond_locked (test h) (test h) (Ok (h, s ++ t ∷ more)) (Ok (h, s ++ n ∷ more)) (Err (fault (Some h), h ∷ (s ++ t ∷ more))) (Err (fault (Some h), h ∷ (s ++ n ∷ more))) refl (before s h refl refl) (earlier (fault (Some h)) h s refl refl)

  -- a token that is no numeral
  one_lock : (cs : List ℕ) → apart (numeral_class ∷ []) cs ≡ true → Lock (token_read (has_class_in cs))
  one_lock cs e = record { at = at; shrinks = one_shrinks (has_class_in cs) (fault_of left_out_classes) }
    where
      first_token_read : (b : Bool) → Locked t n more (cond b (Ok (t, more)) (Err (fault_of left_out_classes (Some t), t ∷ more))) (token_read (has_class_in cs) (n ∷ more))
      first_token_read true = beyond (inl (omega arith))
      first_token_read false = everywhere refl (numeral_refused cs (numeral_not cs e))

      at : (s : List Token) → Locked t n more (token_read (has_class_in cs) (s ++ t ∷ more)) (token_read (has_class_in cs) (s ++ n ∷ more))
      at [] = first_token_read (has_class_in cs t)
      at (h ∷ s) = (one_begun (has_class_in cs) (fault_of left_out_classes)).at h s

  nothing_lock : {A : Type 0} (a : A) → Lock (empty_read a)
  nothing_lock a = record { at = λ s. before s a refl refl; shrinks = nothing_shrinks a }

  mapped_lock : {A B : Type 0} (f : A → B) (r : TokenReader A) → Lock r → Lock (image_read f r)
  mapped_lock f r h = record { at = λ s. after_locked (r (s ++ t ∷ more)) (r (s ++ n ∷ more)) (λ a us. Ok (f a, us)) (h.at s) (λ a u. before u (f a) refl refl) (λ a us. omega arith); shrinks = mapped_shrinks f r h.shrinks }

  behind_locked : {A B C : Type 0} (f : A → B → C) (s : TokenReader B) → Lock s → (a : A) (u : List Token) → Locked t n more (then_read (s (u ++ t ∷ more)) (λ b vs. Ok (f a b, vs))) (then_read (s (u ++ n ∷ more)) (λ b vs. Ok (f a b, vs)))
  behind_locked f s k a u = after_locked (s (u ++ t ∷ more)) (s (u ++ n ∷ more)) (λ b vs. Ok (f a b, vs)) (k.at u) (λ b v. before v (f a b) refl refl) (λ b vs. omega arith)

  behind_left : {A B C : Type 0} (f : A → B → C) (s : TokenReader B) → Lock s → (a : A) (us : List Token) → left (then_read (s us) (λ b vs. Ok (f a b, vs))) ≤ length us
  behind_left f s k a us = (mapped_shrinks (f a) s k.shrinks).at us

  both_lock : {A B C : Type 0} (f : A → B → C) (r : TokenReader A) (s : TokenReader B) → Lock r → Lock s → Lock (sequence_read f r s)
  both_lock f r s h k = record {
    at = λ l. after_locked (r (l ++ t ∷ more)) (r (l ++ n ∷ more)) (λ a us. then_read (s us) (λ b vs. Ok (f a b, vs))) (h.at l) (behind_locked f s k) (behind_left f s k);
    shrinks = both_shrinks f r s h.shrinks k.shrinks;
  }

  choice_lock : {A : Type 0} (test : Token → Bool) (r s : TokenReader A) → Steady test → Lock r → Lock s → Lock (alternative_read test r s)
  choice_lock test r s st h k = record {
    at = λ l. cond_locked (next_is test (l ++ t ∷ more)) (next_is test (l ++ n ∷ more)) (r (l ++ t ∷ more)) (r (l ++ n ∷ more)) (s (l ++ t ∷ more)) (s (l ++ n ∷ more)) (same_starts test st l) (h.at l) (k.at l);
    shrinks = choice_shrinks test r s h.shrinks k.shrinks;
  }

  -- a choice by words that are taken
  taken_lock : {A : Type 0} (cs : List ℕ) (r s : TokenReader A) → apart (numeral_class ∷ []) cs ≡ true → Takes (has_class_in cs) r → Lock r → Lock s → Lock (alternative_read (has_class_in cs) r s)
  taken_lock {A} cs r s e takes h k = record { at = at; shrinks = choice_shrinks (has_class_in cs) r s h.shrinks k.shrinks }
    where
      first_token_read : (b : Bool) → has_class_in cs t ≡ b → Locked t n more (cond b (r (t ∷ more)) (s (t ∷ more))) (alternative_read (has_class_in cs) r s (n ∷ more))
      first_token_read true f = beyond (takes t more w f)
      first_token_read false f = same_locked refl (ap (λ b. cond b (r (n ∷ more)) (s (n ∷ more))) (numeral_not cs e)) (k.at [])

      at : (l : List Token) → Locked t n more (alternative_read (has_class_in cs) r s (l ++ t ∷ more)) (alternative_read (has_class_in cs) r s (l ++ n ∷ more))
      at [] = first_token_read (has_class_in cs t) refl
      at (x ∷ l) = cond_locked (has_class_in cs x) (has_class_in cs x) (r (x ∷ (l ++ t ∷ more))) (r (x ∷ (l ++ n ∷ more))) (s (x ∷ (l ++ t ∷ more))) (s (x ∷ (l ++ n ∷ more))) refl (h.at (x ∷ l)) (k.at (x ∷ l))

  -- a name and an `=`, neither of which these words and a numeral are
  second_not : {A C : Type 0} (f : Token → Token → A → C) (cs : List ℕ) (r : TokenReader A) (s : TokenReader C) (h u : Token) (l : List Token) → has_class assign_sign u ≡ false → two_ahead f (has_class_in cs) (has_class assign_sign) r s (h ∷ u ∷ l) ≡ s (h ∷ u ∷ l)
  second_not f cs r s h u l e = go (has_class_in cs h)
    where
      go : (b : Bool) → cond (b && has_class assign_sign u) (then_read (r l) (λ x us. Ok (f h u x, us))) (s (h ∷ u ∷ l)) ≡ s (h ∷ u ∷ l)
      go true = ap (λ b. cond b (then_read (r l) (λ x us. Ok (f h u x, us))) (s (h ∷ u ∷ l))) e
      go false = refl

  ahead_lock : {A C : Type 0} (f : Token → Token → A → C) (cs : List ℕ) (r : TokenReader A) (s : TokenReader C) → apart (numeral_class ∷ words) cs ≡ true → Lock r → Lock s → Lock (two_ahead f (has_class_in cs) (has_class assign_sign) r s)
  ahead_lock f cs r s e h k = record { at = at; shrinks = ahead_shrinks f (has_class_in cs) (has_class assign_sign) r s h.shrinks k.shrinks }
    where
      word_none : has_class_in cs t ≡ false
      word_none = classes_apart (numeral_class ∷ words) cs e (token_class t.kind) (classes_within words (numeral_class ∷ words) refl (token_class t.kind) w)

      numeral_none : has_class_in cs n ≡ false
      numeral_none = classes_apart (numeral_class ∷ words) cs e (token_class n.kind) (classes_within (numeral_class ∷ []) (numeral_class ∷ words) refl (token_class n.kind) g)

      at : (l : List Token) → Locked t n more (two_ahead f (has_class_in cs) (has_class assign_sign) r s (l ++ t ∷ more)) (two_ahead f (has_class_in cs) (has_class assign_sign) r s (l ++ n ∷ more))
      at [] = same_locked (no_name f cs r s t more word_none) (no_name f cs r s n more numeral_none) (k.at [])
      at (x ∷ []) = same_locked (second_not f cs r s x t more (word_not (assign_sign ∷ []) refl)) (second_not f cs r s x n more (numeral_not (assign_sign ∷ []) refl)) (k.at (x ∷ []))
      at (x ∷ y ∷ l) =
          cond_locked (has_class_in cs x && has_class assign_sign y) (has_class_in cs x && has_class assign_sign y) (then_read (r (l ++ t ∷ more)) (λ z us. Ok (f x y z, us))) (then_read (r (l ++ n ∷ more)) (λ z us. Ok (f x y z, us))) (s (x ∷ y ∷ (l ++ t ∷ more))) (s (x ∷ y ∷ (l ++ n ∷ more))) refl
          (after_locked (r (l ++ t ∷ more)) (r (l ++ n ∷ more)) (λ z us. Ok (f x y z, us)) (h.at l) (λ z u. before u (f x y z) refl refl) (λ z us. omega arith)) (k.at (x ∷ y ∷ l))

  front_past : {A : Type 0} (u : Token) (x : A) (q : Read Token SyntaxFault (List A)) → Past u more q → Past u more (with_front x q)
  front_past u x q (inl l) = inl (subst (λ r. length r ≤ length more) (sym (front_rest x q)) l)
  front_past u x q (inr e) = inr (ap (with_front x) e)

  front_locked : {A : Type 0} (x : A) (q p : Read Token SyntaxFault (List A)) → Locked t n more q p → Locked t n more (with_front x q) (with_front x p)
  front_locked x q p (before u y a b) = before u (x ∷ y) (ap (with_front x) a) (ap (with_front x) b)
  front_locked x q p (earlier k h u a b) = earlier k h u (ap (with_front x) a) (ap (with_front x) b)
  front_locked x q p (everywhere a b) = everywhere (ap (with_front x) a) (ap (with_front x) b)
  front_locked x q p (of_expressions a b) = of_expressions (ap (with_front x) a) (front_past n x p b)
  front_locked x q p (beyond a) = beyond (front_past t x q a)

  same_length : (s : List Token) → length (s ++ t ∷ more) ≡ length (s ++ n ∷ more)
  same_length [] = refl
  same_length (h ∷ s) = ap suc (same_length s)

  -- with a number of turns
  times_at : {A : Type 0} (k : ℕ) (test : Token → Bool) (r : TokenReader A) → Steady test → Lock r → (s : List Token) → Locked t n more (repeated_times k test r (s ++ t ∷ more)) (repeated_times k test r (s ++ n ∷ more))
  unfolding repeated_times
  times_at zero test r st h s = before s [] refl refl
  times_at (suc k) test r st h s =
      cond_locked (next_is test (s ++ t ∷ more)) (next_is test (s ++ n ∷ more)) (then_read (r (s ++ t ∷ more)) (λ x us. with_front x (repeated_times k test r us))) (then_read (r (s ++ n ∷ more)) (λ x us. with_front x (repeated_times k test r us))) (Ok ([], s ++ t ∷ more)) (Ok ([], s ++ n ∷ more))
      (same_starts test st s)
      (after_locked (r (s ++ t ∷ more)) (r (s ++ n ∷ more)) (λ x us. with_front x (repeated_times k test r us)) (h.at s) (λ x u. front_locked x (repeated_times k test r (u ++ t ∷ more)) (repeated_times k test r (u ++ n ∷ more)) (times_at k test r st h u))
      (λ x us. subst (λ l. length l ≤ length us) (sym (front_rest x (repeated_times k test r us))) (times_left k test r h.shrinks us)))
      (before s [] refl refl)

  many_lock : {A : Type 0} (test : Token → Bool) (r : TokenReader A) → Steady test → Lock r → Lock (repeated_read test r)
  unfolding repeated_read
  many_lock {A} test r st h = record {
    at = λ s. subst (λ k. Locked t n more (repeated_read test r (s ++ t ∷ more)) (repeated_times k test r (s ++ n ∷ more))) (same_length s) (times_at (length (s ++ t ∷ more)) test r st h s);
    shrinks = many_shrinks test r h.shrinks;
  }

  -- as long as words stand that are taken
  taken_times : {A : Type 0} (k : ℕ) (cs : List ℕ) (r : TokenReader A) → apart (numeral_class ∷ []) cs ≡ true → Takes (has_class_in cs) r → Lock r → (s : List Token) → Locked t n more (repeated_times k (has_class_in cs) r (s ++ t ∷ more)) (repeated_times k (has_class_in cs) r (s ++ n ∷ more))
  unfolding repeated_times
  taken_times zero cs r e takes h s = before s [] refl refl
  taken_times {A} (suc k) cs r e takes h [] = first_token_read (has_class_in cs t) refl (λ us. times_left k (has_class_in cs) r h.shrinks us)
    where
      first_token_read : (b : Bool) → has_class_in cs t ≡ b → ((us : List Token) → left (repeated_times k (has_class_in cs) r us) ≤ length us) → Locked t n more (cond {A = Read Token SyntaxFault (List A)} b (then_read (r (t ∷ more)) (λ x us. with_front x (repeated_times k (has_class_in cs) r us))) (Ok ([], t ∷ more))) (cond (has_class_in cs n) (then_read (r (n ∷ more)) (λ x us. with_front x (repeated_times k (has_class_in cs) r us))) (Ok ([], n ∷ more)))
      first_token_read true f l = beyond (past_after t (r (t ∷ more)) (λ x us. with_front x (repeated_times k (has_class_in cs) r us)) (takes t more w f) (λ x us. subst (λ r. length r ≤ length us) (sym (front_rest x (repeated_times k (has_class_in cs) r us))) (l us)))
      first_token_read false f l = before [] [] refl (ap (λ b. cond b (then_read (r (n ∷ more)) (λ x us. with_front x (repeated_times k (has_class_in cs) r us))) (Ok ([], n ∷ more))) (numeral_not cs e))
  taken_times (suc k) cs r e takes h (x ∷ s) =
      cond_locked (has_class_in cs x) (has_class_in cs x) (then_read (r (x ∷ (s ++ t ∷ more))) (λ x us. with_front x (repeated_times k (has_class_in cs) r us))) (then_read (r (x ∷ (s ++ n ∷ more))) (λ x us. with_front x (repeated_times k (has_class_in cs) r us))) (Ok ([], x ∷ (s ++ t ∷ more))) (Ok ([], x ∷ (s ++ n ∷ more)))
      refl
      (after_locked (r (x ∷ (s ++ t ∷ more))) (r (x ∷ (s ++ n ∷ more))) (λ x us. with_front x (repeated_times k (has_class_in cs) r us)) (h.at (x ∷ s)) (λ y u. front_locked y (repeated_times k (has_class_in cs) r (u ++ t ∷ more)) (repeated_times k (has_class_in cs) r (u ++ n ∷ more)) (taken_times k cs r e takes h u))
      (λ y us. subst (λ l. length l ≤ length us) (sym (front_rest y (repeated_times k (has_class_in cs) r us))) (times_left k (has_class_in cs) r h.shrinks us)))
      (before (x ∷ s) [] refl refl)

  many_taken : {A : Type 0} (cs : List ℕ) (r : TokenReader A) → apart (numeral_class ∷ []) cs ≡ true → Takes (has_class_in cs) r → Lock r → Lock (repeated_read (has_class_in cs) r)
  unfolding repeated_read
  many_taken {A} cs r e takes h = record {
    at = λ s. subst (λ k. Locked t n more (repeated_read (has_class_in cs) r (s ++ t ∷ more)) (repeated_times k (has_class_in cs) r (s ++ n ∷ more))) (same_length s) (taken_times (length (s ++ t ∷ more)) cs r e takes h s);
    shrinks = many_shrinks (has_class_in cs) r h.shrinks;
  }

  trailing_at : {A : Type 0} (k : ℕ) (go : Token → Bool) (r : TokenReader A) → Steady go → Lock r → (s : List Token) → Locked t n more (trailing_times k (has_class comma_sign) go r (s ++ t ∷ more)) (trailing_times k (has_class comma_sign) go r (s ++ n ∷ more))
  unfolding trailing_times
  trailing_at zero go r st h s = before s [] refl refl
  trailing_at (suc k) go r st h [] =
      before [] []
      (ap (λ b. cond b (cond (next_is go more) (then_read (r more) (λ x us. with_front x (trailing_times k (has_class comma_sign) go r us))) (Ok ([], more))) (Ok ([], t ∷ more))) (word_not (comma_sign ∷ []) refl))
      (ap (λ b. cond b (cond (next_is go more) (then_read (r more) (λ x us. with_front x (trailing_times k (has_class comma_sign) go r us))) (Ok ([], more))) (Ok ([], n ∷ more))) (numeral_not (comma_sign ∷ []) refl))
  trailing_at (suc k) go r st h (y ∷ s) =
      cond_locked (has_class comma_sign y) (has_class comma_sign y) _ _ (Ok ([], y ∷ (s ++ t ∷ more))) (Ok ([], y ∷ (s ++ n ∷ more))) refl
      (cond_locked (next_is go (s ++ t ∷ more)) (next_is go (s ++ n ∷ more)) (then_read (r (s ++ t ∷ more)) (λ x us. with_front x (trailing_times k (has_class comma_sign) go r us))) (then_read (r (s ++ n ∷ more)) (λ x us. with_front x (trailing_times k (has_class comma_sign) go r us))) (Ok ([], s ++ t ∷ more)) (Ok ([], s ++ n ∷ more))
      (same_starts go st s)
      (after_locked (r (s ++ t ∷ more)) (r (s ++ n ∷ more)) (λ x us. with_front x (trailing_times k (has_class comma_sign) go r us)) (h.at s) (λ x u. front_locked x (trailing_times k (has_class comma_sign) go r (u ++ t ∷ more)) (trailing_times k (has_class comma_sign) go r (u ++ n ∷ more)) (trailing_at k go r st h u))
      (λ x us. subst (λ l. length l ≤ length us) (sym (front_rest x (trailing_times k (has_class comma_sign) go r us))) (trailing_left k (has_class comma_sign) go r h.shrinks us)))
      (before s [] refl refl))
      (before (y ∷ s) [] refl refl)

  trailing_lock : {A : Type 0} (go : Token → Bool) (r : TokenReader A) → Steady go → Lock r → Lock (trailing_items (has_class comma_sign) go r)
  unfolding trailing_items
  trailing_lock {A} go r st h = record {
    at = λ s. subst (λ k. Locked t n more (trailing_items (has_class comma_sign) go r (s ++ t ∷ more)) (trailing_times k (has_class comma_sign) go r (s ++ n ∷ more))) (same_length s) (trailing_at (length (s ++ t ∷ more)) go r st h s);
    shrinks = trailing_shrinks (has_class comma_sign) go r h.shrinks;
  }

  abbrev Law : (A : Type 0) → TokenReader A → TokenReader A → Type 0
  Law A r q = Lock r

  less_numeral : (cs : List ℕ) → apart (numeral_class ∷ end_class ∷ []) cs ≡ true → apart (numeral_class ∷ []) cs ≡ true
  less_numeral cs e = go (is_class_among cs numeral_class) (is_class_among cs end_class) e
    where
      go : (a b : Bool) → cond a false (cond b false true) ≡ true → cond a false true ≡ true
      go true b e = absurd (cc)
      go false b e = refl

  lockstep : Keeps Law Taken
  lockstep = record {
    nothing_keeps = nothing_lock;
    one_keeps = λ cs e. one_lock cs (less_numeral cs e);
    mapped_keeps = λ f r q h. mapped_lock f r h;
    both_keeps = λ f r q s p h k. both_lock f r s h k;
    choice_keeps = λ test r q s p st h k. choice_lock test r s st h k;
    taken_keeps = λ cs r q s p e x h k. taken_lock cs r s e x h k;
    ahead_keeps = λ f cs r q s p a e h k. ahead_lock f cs r s e h k;
    many_keeps = λ test r q st h. many_lock test r st h;
    many_taken_keeps = λ cs r q e x h. many_taken cs r e x h;
    trailing_keeps = λ go r q st h. trailing_lock go r st h;
  }

  -- a primary: where it begins, a numeral is read and the word refused
  begun_of : {A : Type 0} (r : TokenReader A) → Lock r → Begun r
  begun_of r h = record { at = λ y s. h.at (y ∷ s); shrinks = h.shrinks }

  begun_single : (f : Token → Term) (c : ℕ) → Begun (image_read f (token_read (has_class c)))
  begun_single f c =
      let k = one_begun (has_class c) (fault_of left_out_classes) in
      record { at = λ y s. after_locked (token_read (has_class c) (y ∷ (s ++ t ∷ more))) (token_read (has_class c) (y ∷ (s ++ n ∷ more))) (λ a us. Ok (f a, us)) (k.at y s) (λ a u. before u (f a) refl refl) (λ a us. omega arith); shrinks = mapped_shrinks f (token_read (has_class c)) k.shrinks }

  begun_choice : {A : Type 0} (test : Token → Bool) (r s : TokenReader A) → Begun r → Begun s → Begun (alternative_read test r s)
  begun_choice test r s h k = record {
    at = λ y l. cond_locked (test y) (test y) (r (y ∷ (l ++ t ∷ more))) (r (y ∷ (l ++ n ∷ more))) (s (y ∷ (l ++ t ∷ more))) (s (y ∷ (l ++ n ∷ more))) refl (h.at y l) (k.at y l);
    shrinks = choice_shrinks test r s h.shrinks k.shrinks;
  }

  begun_both : {A B C : Type 0} (f : A → B → C) (r : TokenReader A) (s : TokenReader B) → Begun r → Lock s → Begun (sequence_read f r s)
  begun_both f r s h k = record {
    at = λ y l. after_locked (r (y ∷ (l ++ t ∷ more))) (r (y ∷ (l ++ n ∷ more))) (λ a us. then_read (s us) (λ b vs. Ok (f a b, vs))) (h.at y l) (behind_locked f s k) (behind_left f s k);
    shrinks = both_shrinks f r s h.shrinks k.shrinks;
  }

  module _ (e : TokenReader Term) (a : TokenReader ArgTerm) (he : Lock e) (ha : Lock a) where
    primary_begun : Begun (primary_read e a)
    primary_begun =
        begun_choice (has_class numeral_class) _ _ (begun_single (λ t. NumberTerm t.place (numeral_value t.kind)) numeral_class)
        (begun_choice (has_class text_class) _ _ (begun_single (λ t. TextTerm t.place (bytes_of t.kind)) text_class)
        (begun_choice (has_class true_word) _ _ (begun_single (λ t. TruthTerm t.place true) true_word)
        (begun_choice (has_class false_word) _ _ (begun_single (λ t. TruthTerm t.place false) false_word)
        (begun_choice (has_class undef_word) _ _ (begun_single (λ t. UndefTerm t.place) undef_word)
        (begun_choice (has_class child_count_class) _ _ (begun_single (λ t. ChildCountTerm t.place) child_count_class)
        (begun_choice (has_class special_class) _ _ (begun_single (λ t. SpecialTerm t.place (bytes_of t.kind)) special_class)
        (begun_choice (has_class name_class) _ _ (begun_of (name_read a) (named_keeps Law Taken lockstep a a ha))
        (begun_choice (has_class open_parenthesis_sign) _ _ (begun_of (paren_read e) (paren_keeps Law Taken lockstep e e he))
        (begun_both bracket_term (first_token_read (has_class open_bracket_sign)) _ (one_begun (has_class open_bracket_sign) (fault_of left_out_of_expressions)) (filled_keeps Law Taken lockstep e e he))))))))))

    numeral_read : primary_read e a (n ∷ more) ≡ Ok (NumberTerm n.place (numeral_value n.kind), more)
    numeral_read = rw g refl

    primary_lock : Lock (primary_read e a)
    primary_lock = record { at = at; shrinks = primary_begun.shrinks }
      where
        at : (s : List Token) → Locked t n more (primary_read e a (s ++ t ∷ more)) (primary_read e a (s ++ n ∷ more))
        at [] = of_expressions (primary_refuses e a (t ∷ more) (word_not firsts_of_expression refl)) (inl (subst (λ q. left q ≤ length more) (sym numeral_read) (omega arith)))
        at (y ∷ s) = primary_begun.at y s

  -- what has no depth left
  nested_begun : {A : Type 0} (begins classes : List ℕ) → Begun (nested_read {A = A} begins classes)
  nested_begun {A} begins classes = record { at = at; shrinks = record { at = shrinks } }
    where
      at : (h : Token) (s : List Token) → Locked t n more (nested_read {A = A} begins classes (h ∷ (s ++ t ∷ more))) (nested_read begins classes (h ∷ (s ++ n ∷ more)))
      at h s = cond_locked (has_class_in begins h) (has_class_in begins h) (Err (Nested, h ∷ (s ++ t ∷ more))) (Err (Nested, h ∷ (s ++ n ∷ more))) (Err (fault_of classes (Some h), h ∷ (s ++ t ∷ more))) (Err (fault_of classes (Some h), h ∷ (s ++ n ∷ more))) refl (earlier Nested h s refl refl) (earlier (fault_of classes (Some h)) h s refl refl)

      shrinks : (ts : List Token) → left (nested_read {A = A} begins classes ts) ≤ length ts
      shrinks ts = go (next_is (has_class_in begins) ts)
        where
          go : (b : Bool) → left (cond {A = Read Token SyntaxFault A} b (Err (Nested, ts)) (Err (fault_of classes (head_of ts), ts))) ≤ length ts
          go true = omega arith
          go false = omega arith

  nested_everywhere : {A : Type 0} (begins : List ℕ) → apart (numeral_class ∷ []) begins ≡ true → Lock (nested_read {A = A} begins left_out_classes)
  nested_everywhere {A} begins e = record { at = at; shrinks = (nested_begun begins left_out_classes).shrinks }
    where
      numeral_here : nested_read {A = A} begins left_out_classes (n ∷ more) ≡ Err (Expected, n ∷ more)
      numeral_here = ap (λ b. cond b (Err (Nested, n ∷ more)) (Err (fault_of left_out_classes (Some n), n ∷ more))) (numeral_not begins e) ∙ ap (λ b. Err (cond b NotInProfile Expected, n ∷ more)) (numeral_not left_out_classes refl)

      first_token_read : (b : Bool) → Locked t n more (cond {A = Read Token SyntaxFault A} b (Err (Nested, t ∷ more)) (Err (fault_of left_out_classes (Some t), t ∷ more))) (nested_read begins left_out_classes (n ∷ more))
      first_token_read true = beyond (inr refl)
      first_token_read false = everywhere refl numeral_here

      at : (s : List Token) → Locked t n more (nested_read {A = A} begins left_out_classes (s ++ t ∷ more)) (nested_read begins left_out_classes (s ++ n ∷ more))
      at [] = first_token_read (has_class_in begins t)
      at (h ∷ s) = (nested_begun begins left_out_classes).at h s

  nested_expression : {A : Type 0} → Lock (nested_read {A = A} firsts_of_expression left_out_of_expressions)
  nested_expression {A} = record { at = at; shrinks = (nested_begun firsts_of_expression left_out_of_expressions).shrinks }
    where
      numeral_here : nested_read {A = A} firsts_of_expression left_out_of_expressions (n ∷ more) ≡ Err (Nested, n ∷ more)
      numeral_here = ap (λ b. cond b (Err (Nested, n ∷ more)) (Err (fault_of left_out_of_expressions (Some n), n ∷ more))) (classes_within (numeral_class ∷ []) firsts_of_expression refl (token_class n.kind) g)

      at : (s : List Token) → Locked t n more (nested_read {A = A} firsts_of_expression left_out_of_expressions (s ++ t ∷ more)) (nested_read firsts_of_expression left_out_of_expressions (s ++ n ∷ more))
      at [] = of_expressions (ap (λ b. cond b (Err (Nested, t ∷ more)) (Err (fault_of left_out_of_expressions (Some t), t ∷ more))) (word_not firsts_of_expression refl)) (inr numeral_here)
      at (h ∷ s) = (nested_begun firsts_of_expression left_out_of_expressions).at h s

  expressions : (d : ℕ) → Lock (expr_read d) × Lock (operand_read d) × Lock (arg_in d (expr_read d))
  unfolding expr_read operand_read
  expressions zero = (nested_expression, nested_expression, nested_expression)
  expressions (suc d) =
      let k = expressions d in
      let primary = primary_read (expr_read d) (arg_in d (expr_read d)) in
      let p = primary_lock (expr_read d) (arg_in d (expr_read d)) k.0 k.2 in
      let token_read : Lock (expr_read (suc d)) = expression_keeps Law Taken lockstep (expr_read d) (expr_read d) k.0 (operand_read d) (operand_read d) primary primary k.1 p in
      (token_read, unary_keeps Law Taken lockstep (expr_read d) (expr_read d) k.0 (operand_read d) (operand_read d) primary primary k.1 p, arg_keeps Law Taken lockstep (expr_read (suc d)) (expr_read (suc d)) token_read)

  params : (d : ℕ) → Lock (param_in d (expr_read d))
  params zero = nested_everywhere (name_class ∷ []) refl
  params (suc d) = param_keeps Law Taken lockstep (expr_read (suc d)) (expr_read (suc d)) (expressions (suc d)).0

  binders : (d : ℕ) → Lock (binder_in d (expr_read d))
  binders zero = nested_everywhere (name_class ∷ []) refl
  binders (suc d) = binder_keeps Law Taken lockstep (expr_read (suc d)) (expr_read (suc d)) (expressions (suc d)).0

-- each word of a statement is taken where one may begin
one_takes : (cs : List ℕ) → Takes (has_class_in cs) (token_read (has_class_in cs))
one_takes cs t more w h = inl (subst (λ q. left q ≤ length more) (sym (ap (λ b. cond b (Ok (t, more)) (Err (fault_of left_out_classes (Some t), t ∷ more))) h)) (omega arith))

both_takes : {A B C : Type 0} (f : A → B → C) (test : Token → Bool) (r : TokenReader A) (s : TokenReader B) → Takes test r → Shrinks s → Takes test (sequence_read f r s)
both_takes f test r s h k t more w e = go (h t more w e)
  where
    go : Past t more (r (t ∷ more)) → Past t more (sequence_read f r s (t ∷ more))
    go (inl l) = inl (after_left (length more) (r (t ∷ more)) (λ a us. then_read (s us) (λ b vs. Ok (f a b, vs))) l (λ a us. (mapped_shrinks (f a) s k).at us))
    go (inr x) = inr (ap (λ r. then_read r (λ a us. then_read (s us) (λ b vs. Ok (f a b, vs)))) x)

parentheses_shrink : {A : Type 0} (r : TokenReader A) → Shrinks r → Shrinks (in_parentheses r)
parentheses_shrink r h =
    both_shrinks second_of (token_read (has_class open_parenthesis_sign)) (sequence_read first_of r (token_read (has_class close_parenthesis_sign))) (one_shrinks (has_class open_parenthesis_sign) (fault_of left_out_classes))
    (both_shrinks first_of r (token_read (has_class close_parenthesis_sign)) h (one_shrinks (has_class close_parenthesis_sign) (fault_of left_out_classes)))

headed_shrinks : {A : Type 0} (r : TokenReader A) (b : TokenReader BodyTerm) → Shrinks r → Shrinks b → Shrinks (sequence_read pair_of (in_parentheses r) b)
headed_shrinks r b h k = both_shrinks pair_of (in_parentheses r) b (parentheses_shrink r h) k

past_same : {A : Type 0} (t : Token) (more : List Token) (q p : Read Token SyntaxFault A) → q ≡ p → Past t more p → Past t more q
past_same t more q p e h = subst (λ q. Past t more q) (sym e) h

if_takes : (e : TokenReader Term) (b : TokenReader BodyTerm) → Shrinks e → Shrinks b → Takes (has_class_in (if_word ∷ [])) (if_read e b)
if_takes e b h k =
    both_takes if_term (has_class_in (if_word ∷ [])) (sequence_read pair_of (token_read (has_class if_word)) (sequence_read pair_of (in_parentheses e) b)) (optional_read (has_class else_word) (sequence_read second_of (token_read (has_class else_word)) b))
    (both_takes pair_of (has_class_in (if_word ∷ [])) (token_read (has_class if_word)) (sequence_read pair_of (in_parentheses e) b) (one_takes (if_word ∷ [])) (headed_shrinks e b h k))
    (choice_shrinks (has_class else_word) (image_read Some (sequence_read second_of (token_read (has_class else_word)) b)) (empty_read None) (mapped_shrinks Some _ (both_shrinks second_of (token_read (has_class else_word)) b (one_shrinks (has_class else_word) (fault_of left_out_classes)) k)) (nothing_shrinks None))

loop_takes : (ns : TokenReader (List BinderTerm)) (b : TokenReader BodyTerm) → Shrinks ns → Shrinks b → Takes (has_class_in loop_words) (loop_over ns b)
loop_takes ns b h k = both_takes loop_term (has_class_in loop_words) (token_read (has_class_in loop_words)) (sequence_read pair_of (in_parentheses ns) b) (one_takes loop_words) (headed_shrinks ns b h k)

function_takes : (x : TokenReader Term) (m : TokenReader ParamTerm) → Shrinks x → Shrinks (params_read m) → Takes (has_class_in (function_word ∷ [])) (function_read x m)
function_takes x m h k =
    both_takes function_term (has_class_in (function_word ∷ [])) (token_read (has_class function_word)) _ (one_takes (function_word ∷ []))
    (both_shrinks pair_of (token_read (has_class name_class)) _ (one_shrinks (has_class name_class) (fault_of left_out_classes))
    (both_shrinks pair_of (in_parentheses (params_read m)) _ (parentheses_shrink (params_read m) k)
    (both_shrinks second_of (token_read (has_class assign_sign)) (ended_read x) (one_shrinks (has_class assign_sign) (fault_of left_out_classes)) (both_shrinks first_of x (token_read (has_class semicolon_sign)) h (one_shrinks (has_class semicolon_sign) (fault_of left_out_classes))))))

nested_takes : {A : Type 0} (begins classes : List ℕ) → Takes (has_class_in begins) (nested_read {A = A} begins classes)
nested_takes begins classes t more w h = inr (ap (λ b. cond b (Err (Nested, t ∷ more)) (Err (fault_of classes (Some t), t ∷ more))) h)

-- a word is one of the three
no_other_word : (t : Token) → has_class_in words t ≡ true → has_class if_word t ≡ false → has_class_in loop_words t ≡ false → has_class function_word t ≡ false → ⊥
no_other_word t w a b c =
    elim (either_listed (for_word ∷ []) (if_word ∷ function_word ∷ []) (token_class t.kind) w) [
      | inl h ↦ absurd (let e : true ≡ false = sym (classes_within (for_word ∷ []) loop_words refl (token_class t.kind) h) ∙ b in cc)
      | inr h ↦ elim (either_listed (if_word ∷ []) (function_word ∷ []) (token_class t.kind) h) [
        | inl h ↦ absurd (let e : true ≡ false = sym h ∙ a in cc)
        | inr h ↦ absurd (let e : true ≡ false = sym h ∙ c in cc)
      ]
    ]

module _ (e : TokenReader Term) (a : TokenReader ArgTerm) (ns : TokenReader (List BinderTerm)) (b : TokenReader BodyTerm) (x : TokenReader Term) (m : TokenReader ParamTerm) (s : TokenReader StatementTerm)
    (by_if : Takes (has_class_in (if_word ∷ [])) (if_read e b)) (by_loop : Takes (has_class_in loop_words) (loop_over ns b)) (by_function : Takes (has_class_in (function_word ∷ [])) (function_read x m)) where
  core_past : (t : Token) (more : List Token) → has_class_in words t ≡ true → has_class function_word t ≡ false → Past t more (core_over e a ns b (t ∷ more))
  core_past t more w f = go (has_class if_word t) (has_class_in loop_words t) refl refl
    where
      go : (c d : Bool) → has_class if_word t ≡ c → has_class_in loop_words t ≡ d → Past t more (cond c (if_read e b (t ∷ more)) (cond d (loop_over ns b (t ∷ more)) (call_read a b (t ∷ more))))
      go true d i l = by_if t more w i
      go false true i l = by_loop t more w l
      go false false i l = absurd (no_other_word t w i l f)

  instance_past : (t : Token) (more : List Token) → has_class_in words t ≡ true → has_class function_word t ≡ false → Past t more (image_read InstanceStatement (instance_over e a ns b) (t ∷ more))
  instance_past t more w f =
      past_same t more (image_read InstanceStatement (instance_over e a ns b) (t ∷ more)) (then_read (then_read (core_over e a ns b (t ∷ more)) (λ c us. Ok (instance_term [] c, us))) (λ i us. Ok (InstanceStatement i, us)))
      (ap (λ q. then_read (then_read q (λ ms us. then_read (core_over e a ns b us) (λ c vs. Ok (instance_term ms c, vs)))) (λ i us. Ok (InstanceStatement i, us))) (marks_reads.complete [] [] (t ∷ more) refl (classes_apart words modifier_signs refl (token_class t.kind) w)))
      (go (core_over e a ns b (t ∷ more)) (core_past t more w f))
    where
      go : (q : Read Token SyntaxFault CoreTerm) → Past t more q → Past t more (then_read (then_read q (λ c us. Ok (instance_term [] c, us))) (λ i us. Ok (InstanceStatement i, us)))
      go (Ok p) (inl l) = inl l
      go (Err p) (inl l) = inl l
      go q (inr l) = inr (ap (λ q. then_read (then_read q (λ c us. Ok (instance_term [] c, us))) (λ i us. Ok (InstanceStatement i, us))) l)

  definition_past : (t : Token) (more : List Token) → has_class_in words t ≡ true → Past t more (definition_read x m b (instance_over e a ns b) (t ∷ more))
  definition_past t more w =
      past_same t more (definition_read x m b (instance_over e a ns b) (t ∷ more)) (alternative_read (has_class function_word) (function_read x m) (image_read InstanceStatement (instance_over e a ns b)) (t ∷ more))
      (choice_second (has_class module_word) (module_read m b) (alternative_read (has_class function_word) (function_read x m) (image_read InstanceStatement (instance_over e a ns b))) (t ∷ more) (classes_apart words (module_word ∷ []) refl (token_class t.kind) w)) (go (has_class function_word t) refl)
    where
      go : (c : Bool) → has_class function_word t ≡ c → Past t more (cond c (function_read x m (t ∷ more)) (image_read InstanceStatement (instance_over e a ns b) (t ∷ more)))
      go true f = by_function t more w f
      go false f = instance_past t more w f

  statement_takes : Takes (has_class_in firsts_of_statement) (statement_over x m s b (instance_over e a ns b))
  statement_takes t more w h =
      past_same t more (statement_over x m s b (instance_over e a ns b) (t ∷ more)) (definition_read x m b (instance_over e a ns b) (t ∷ more))
      (choice_second (has_class semicolon_sign) (image_read (λ t. EmptyStatement t.place) (token_read (has_class semicolon_sign))) (alternative_read (has_class open_brace_sign) (sequence_read bare_block_term (token_read (has_class open_brace_sign)) (braces_read s)) (alternative_read (has_class special_class) (special_read x) (two_ahead assignment_of_tokens (has_class name_class) (has_class assign_sign) (ended_read x) (definition_read x m b (instance_over e a ns b))))) (t ∷ more) (classes_apart words (semicolon_sign ∷ []) refl (token_class t.kind) w)
      ∙ choice_second (has_class open_brace_sign) (sequence_read bare_block_term (token_read (has_class open_brace_sign)) (braces_read s)) (alternative_read (has_class special_class) (special_read x) (two_ahead assignment_of_tokens (has_class name_class) (has_class assign_sign) (ended_read x) (definition_read x m b (instance_over e a ns b)))) (t ∷ more) (classes_apart words (open_brace_sign ∷ []) refl (token_class t.kind) w)
      ∙ choice_second (has_class special_class) (special_read x) (two_ahead assignment_of_tokens (has_class name_class) (has_class assign_sign) (ended_read x) (definition_read x m b (instance_over e a ns b))) (t ∷ more) (classes_apart words (special_class ∷ []) refl (token_class t.kind) w)
      ∙ no_name assignment_of_tokens (name_class ∷ []) (ended_read x) (definition_read x m b (instance_over e a ns b)) t more (classes_apart words (name_class ∷ []) refl (token_class t.kind) w))
      (definition_past t more w)

module _ (t n : Token) (more : List Token) (w : has_class_in words t ≡ true) (g : has_class numeral_class n ≡ true) where
  abbrev Held : {A : Type 0} → TokenReader A → Type 0
  Held r = Lock t n more w g r

  abbrev Laws : (A : Type 0) → TokenReader A → TokenReader A → Type 0
  Laws A r q = Held r

  lock_statements : (d : ℕ) → Held (statement_read d) × Held (body_read d) × Takes (has_class_in firsts_of_statement) (statement_read d)
  unfolding statement_read body_read
  lock_statements zero = (nested_everywhere t n more w g firsts_of_statement refl, nested_everywhere t n more w g firsts_of_body refl, nested_takes firsts_of_statement left_out_classes)
  lock_statements (suc d) =
      let k = lock_statements d in
      let e = expressions t n more w g d in
      let x = expressions t n more w g (suc d) in
      let law = lockstep t n more w g in
      let m = params t n more w g d in
      let ms = params_keep Laws Taken law (param_in d (expr_read d)) (param_in d (expr_read d)) m in
      let ns = binders_read (binder_in d (expr_read d)) in
      let hn : Held ns = binders_keep Laws Taken law (binder_in d (expr_read d)) (binder_in d (expr_read d)) (binders t n more w g d) in
      let by_if = if_takes (expr_read d) (body_read d) e.0.shrinks k.1.shrinks in
      let by_loop = loop_takes ns (body_read d) hn.shrinks k.1.shrinks in
      let by_function = function_takes (expr_read (suc d)) (param_in d (expr_read d)) x.0.shrinks ms.shrinks in
      let i = instance_keeps Laws Taken law (expr_read d) (expr_read d) (arg_in d (expr_read d)) (arg_in d (expr_read d)) ns ns (body_read d) (body_read d) e.0 e.2 hn k.1 by_if by_loop in
      let s = many_taken t n more w g firsts_of_statement (statement_read d) refl k.2 k.0 in (
        statement_keeps Laws Taken law (statement_read d) (statement_read d) (instance_in d (body_read d)) (instance_in d (body_read d)) s i (expr_read (suc d)) (expr_read (suc d)) (param_in d (expr_read d)) (param_in d (expr_read d)) (body_read d) (body_read d) x.0 m k.1 by_function,
        body_keeps Laws Taken law (statement_read d) (statement_read d) (instance_in d (body_read d)) (instance_in d (body_read d)) s i,
        statement_takes (expr_read d) (arg_in d (expr_read d)) ns (body_read d) (expr_read (suc d)) (param_in d (expr_read d)) (statement_read d) by_if by_loop by_function,
      )

  pub lock_program : (d : ℕ) → Held (program_read d)
  lock_program d =
      let k = lock_statements d in
      both_lock t n more w g first_of (repeated_read (has_class_in firsts_of_statement) (statement_read d)) (token_read (has_class end_class)) (many_taken t n more w g firsts_of_statement (statement_read d) refl k.2 k.0) (one_lock t n more w g (end_class ∷ []) refl)
