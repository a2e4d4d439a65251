-- With more depth the reading is the same, where the lesser one doesn't run out of depth.
use Rattle.std.proofs.Common.{◌≡◌, ℕ, zero, suc, List, [], ◌∷◌, length, Bool, true, false, cond, Ok, Err, ◌⊎◌, inl, inr, refl, sym, ap, ◌∙◌, ◌&&◌, Some}
use Rattle.scad_lexer.specs.declared.token.Token.{Token}
use Rattle.scad_ast.specs.Terms.{Term, ArgTerm, ParamTerm, BinderTerm, StatementTerm, InstanceStatement, BodyTerm, InstanceBody, PositionalTerm}
use Rattle.scad_grammar.specs.declared.SyntaxFault.{SyntaxFault}
use Rattle.scad_grammar.specs.declared.SyntaxFault.TheVariants.{Nested}
use Rattle.scad_grammar.specs.Classes.{numeral_class, text_class, true_word, false_word, undef_word, child_count_class, special_class, argument_names, name_class, end_class, if_word, module_word, function_word, open_parenthesis_sign, open_bracket_sign, open_brace_sign, comma_sign, semicolon_sign, assign_sign, minus_sign, plus_sign, not_sign, has_class_in, has_class}
use Rattle.scad_grammar.specs.Languages.{first_of}
use Rattle.scad_grammar.specs.Grammar.{chain_term, postfix_term, levels, choice_term, bracket_term, binder_term, param_term, call_term, instance_term}
use Rattle.scad_grammar.specs.Reading.{Read, then_read, next_is, token_or_fault_read, image_read, empty_read, sequence_read, alternative_read, two_ahead, with_front, repeated_times, repeated_read, trailing_times, trailing_items}
use Rattle.scad_grammar.specs.Faults.{TokenReader, token_read, first_token_read, fault_of, left_out_classes, left_out_of_expressions}
use Rattle.scad_grammar.specs.Reads.{head_of, nested_read, firsts_of_expression, unary_read, chain_read, argument_of_tokens, arg_read, primary_read, choice_read, arg_in, expr_read, operand_read}
use Rattle.scad_grammar.specs.StatementReads.{modifier_signs, loop_words, firsts_of_core, firsts_of_instance, firsts_of_body, firsts_of_statement, param_read, binder_read, binders_read, core_read, instance_read, body_over, ended_read, definition_read, assignment_of_tokens, statement_over, param_in, binder_in, statement_read, body_read, program_read}
use Rattle.scad_grammar.proofs.Tests.{next_less}
use Rattle.scad_grammar.proofs.Cores.{marks_reads}
use Rattle.scad_grammar.proofs.Alike.{Keeps, Free, arg_keeps, param_keeps, binder_keeps, binders_keep, unary_keeps, expression_keeps, primary_keeps, instance_keeps, body_keeps, statement_keeps}

abbrev pub Alike : {A : Type 0} → Read Token SyntaxFault A → Read Token SyntaxFault A → Type 0
Alike r q = (r ≡ q) ⊎ ((at : List Token) × (r ≡ Err (Nested, at)))

pub record Agrees {A : Type 0} (r q : TokenReader A) : Type 0 where
  pub at : (ts : List Token) → Alike (r ts) (q ts)

same : {A : Type 0} (r : TokenReader A) → Agrees r r
same r = record { at = λ ts. inl refl }

after_alike : {A B : Type 0} (r q : Read Token SyntaxFault A) (f g : A → List Token → Read Token SyntaxFault B) → Alike r q → ((a : A) (ts : List Token) → Alike (f a ts) (g a ts)) → Alike (then_read r f) (then_read q g)
after_alike r q f g (inr h) k = inr (h.0, ap (λ r. then_read r f) h.1)
after_alike r (Ok p) f g (inl e) k = elim (k p.0 p.1) [ inl h ↦ inl (ap (λ r. then_read r f) e ∙ h) | inr h ↦ inr (h.0, ap (λ r. then_read r f) e ∙ h.1) ]
after_alike r (Err x) f g (inl e) k = inl (ap (λ r. then_read r f) e)

mapped_agrees : {A B : Type 0} (f : A → B) (r q : TokenReader A) → Agrees r q → Agrees (image_read f r) (image_read f q)
mapped_agrees f r q h = record { at = λ ts. after_alike (r ts) (q ts) (λ a ts. Ok (f a, ts)) (λ a ts. Ok (f a, ts)) (h.at ts) (λ a ts. inl refl) }

both_agrees : {A B C : Type 0} (f : A → B → C) (r q : TokenReader A) (s p : TokenReader B) → Agrees r q → Agrees s p → Agrees (sequence_read f r s) (sequence_read f q p)
both_agrees f r q s p h k = record {
  at = λ ts. after_alike (r ts) (q ts) (λ a ts. then_read (s ts) (λ b ts. Ok (f a b, ts))) (λ a ts. then_read (p ts) (λ b ts. Ok (f a b, ts))) (h.at ts) (λ a us. after_alike (s us) (p us) (λ b ts. Ok (f a b, ts)) (λ b ts. Ok (f a b, ts)) (k.at us) (λ b vs. inl refl));
}

cond_alike : {A : Type 0} (b : Bool) (r q s p : Read Token SyntaxFault A) → Alike r q → Alike s p → Alike (cond b r s) (cond b q p)
cond_alike true r q s p h k = h
cond_alike false r q s p h k = k

choice_agrees : {A : Type 0} (test : Token → Bool) (r q s p : TokenReader A) → Agrees r q → Agrees s p → Agrees (alternative_read test r s) (alternative_read test q p)
choice_agrees test r q s p h k = record { at = λ ts. cond_alike (next_is test ts) (r ts) (q ts) (s ts) (p ts) (h.at ts) (k.at ts) }

ahead_at : {A C : Type 0} (f : Token → Token → A → C) (a b : Token → Bool) (r q : TokenReader A) (s p : TokenReader C) → Agrees r q → Agrees s p → (ts : List Token) → Alike (two_ahead f a b r s ts) (two_ahead f a b q p ts)
ahead_at f a b r q s p h k [] = k.at []
ahead_at f a b r q s p h k (t ∷ []) = k.at (t ∷ [])
ahead_at f a b r q s p h k (t ∷ u ∷ ts) =
    cond_alike (a t && b u) (then_read (r ts) (λ x us. Ok (f t u x, us))) (then_read (q ts) (λ x us. Ok (f t u x, us))) (s (t ∷ u ∷ ts)) (p (t ∷ u ∷ ts))
    (after_alike (r ts) (q ts) (λ x us. Ok (f t u x, us)) (λ x us. Ok (f t u x, us)) (h.at ts) (λ x us. inl refl)) (k.at (t ∷ u ∷ ts))

ahead_agrees : {A C : Type 0} (f : Token → Token → A → C) (a b : Token → Bool) (r q : TokenReader A) (s p : TokenReader C) → Agrees r q → Agrees s p → Agrees (two_ahead f a b r s) (two_ahead f a b q p)
ahead_agrees f a b r q s p h k = record { at = ahead_at f a b r q s p h k }

front_alike : {A : Type 0} (x : A) (r q : Read Token SyntaxFault (List A)) → Alike r q → Alike (with_front x r) (with_front x q)
front_alike x r q (inl h) = inl (ap (with_front x) h)
front_alike x r q (inr h) = inr (h.0, ap (with_front x) h.1)

times_alike : {A : Type 0} (n : ℕ) (test : Token → Bool) (r q : TokenReader A) → Agrees r q → (ts : List Token) → Alike (repeated_times n test r ts) (repeated_times n test q ts)
unfolding repeated_times
times_alike zero test r q h ts = inl refl
times_alike (suc n) test r q h ts =
    cond_alike (next_is test ts) (then_read (r ts) (λ x us. with_front x (repeated_times n test r us))) (then_read (q ts) (λ x us. with_front x (repeated_times n test q us))) (Ok ([], ts)) (Ok ([], ts))
    (after_alike (r ts) (q ts) (λ x us. with_front x (repeated_times n test r us)) (λ x us. with_front x (repeated_times n test q us)) (h.at ts) (λ x us. front_alike x (repeated_times n test r us) (repeated_times n test q us) (times_alike n test r q h us))) (inl refl)

many_agrees : {A : Type 0} (test : Token → Bool) (r q : TokenReader A) → Agrees r q → Agrees (repeated_read test r) (repeated_read test q)
unfolding repeated_read
many_agrees test r q h = record { at = λ ts. times_alike (length ts) test r q h ts }

trailing_alike : {A : Type 0} (n : ℕ) (mark go : Token → Bool) (r q : TokenReader A) → Agrees r q → (ts : List Token) → Alike (trailing_times n mark go r ts) (trailing_times n mark go q ts)
unfolding trailing_times
trailing_alike zero mark go r q h ts = inl refl
trailing_alike (suc n) mark go r q h [] = inl refl
trailing_alike (suc n) mark go r q h (t ∷ ts) =
    cond_alike (mark t) (cond (next_is go ts) (then_read (r ts) (λ x us. with_front x (trailing_times n mark go r us))) (Ok ([], ts))) (cond (next_is go ts) (then_read (q ts) (λ x us. with_front x (trailing_times n mark go q us))) (Ok ([], ts))) (Ok ([], t ∷ ts)) (Ok ([], t ∷ ts))
    (cond_alike (next_is go ts) (then_read (r ts) (λ x us. with_front x (trailing_times n mark go r us))) (then_read (q ts) (λ x us. with_front x (trailing_times n mark go q us))) (Ok ([], ts)) (Ok ([], ts))
    (after_alike (r ts) (q ts) (λ x us. with_front x (trailing_times n mark go r us)) (λ x us. with_front x (trailing_times n mark go q us)) (h.at ts) (λ x us. front_alike x (trailing_times n mark go r us) (trailing_times n mark go q us) (trailing_alike n mark go r q h us))) (inl refl)) (inl refl)

trailing_agrees : {A : Type 0} (mark go : Token → Bool) (r q : TokenReader A) → Agrees r q → Agrees (trailing_items mark go r) (trailing_items mark go q)
unfolding trailing_items
trailing_agrees mark go r q h = record { at = λ ts. trailing_alike (length ts) mark go r q h ts }

-- each way of building a reader keeps it
abbrev Agree : (A : Type 0) → TokenReader A → TokenReader A → Type 0
Agree A r q = Agrees r q

agreement : Keeps Agree Free
agreement = record {
  nothing_keeps = λ a. same (empty_read a);
  one_keeps = λ cs e. same (token_read (has_class_in cs));
  mapped_keeps = mapped_agrees;
  both_keeps = both_agrees;
  choice_keeps = λ test r q s p e. choice_agrees test r q s p;
  taken_keeps = λ cs r q s p e t. choice_agrees (has_class_in cs) r q s p;
  ahead_keeps = λ f cs r q s p e g. ahead_agrees f (has_class_in cs) (has_class assign_sign) r q s p;
  many_keeps = λ test r q e. many_agrees test r q;
  many_taken_keeps = λ cs r q e t. many_agrees (has_class_in cs) r q;
  trailing_keeps = λ go r q e. trailing_agrees (has_class comma_sign) go r q;
}

-- what begins no expression is refused in the same way at each depth
abbrev refusal : {A : Type 0} → List ℕ → List Token → Read Token SyntaxFault A
refusal classes ts = Err (fault_of classes (head_of ts), ts)

skip : {A : Type 0} (v : Bool) (r q : Read Token SyntaxFault A) → v ≡ false → cond v r q ≡ q
skip v r q e = ap (λ v. cond v r q) e

one_refuses : (classes : List ℕ) (test : Token → Bool) (ts : List Token) → next_is test ts ≡ false → token_or_fault_read test (fault_of classes) ts ≡ refusal classes ts
one_refuses classes test [] h = refl
one_refuses classes test (t ∷ ts) h = ap (λ v. cond v (Ok (t, ts)) (Err (fault_of classes (Some t), t ∷ ts))) h

both_refuses : {A B C : Type 0} (classes : List ℕ) (f : A → B → C) (r : TokenReader A) (q : TokenReader B) (ts : List Token) → r ts ≡ refusal classes ts → sequence_read f r q ts ≡ refusal classes ts
both_refuses classes f r q ts h = ap (λ x. then_read x (λ a us. then_read (q us) (λ b vs. Ok (f a b, vs)))) h

mapped_refuses : {A B : Type 0} (classes : List ℕ) (f : A → B) (r : TokenReader A) (ts : List Token) → r ts ≡ refusal classes ts → image_read f r ts ≡ refusal classes ts
mapped_refuses classes f r ts h = ap (λ x. then_read x (λ a us. Ok (f a, us))) h

pub primary_refuses : (e : TokenReader Term) (a : TokenReader ArgTerm) (ts : List Token) → next_is (has_class_in firsts_of_expression) ts ≡ false → primary_read e a ts ≡ refusal left_out_of_expressions ts
primary_refuses e a ts h =
    skip (next_is (has_class numeral_class) ts) _ _ (next_less (numeral_class ∷ []) firsts_of_expression refl ts h)
    ∙ skip (next_is (has_class text_class) ts) _ _ (next_less (text_class ∷ []) firsts_of_expression refl ts h)
    ∙ skip (next_is (has_class true_word) ts) _ _ (next_less (true_word ∷ []) firsts_of_expression refl ts h)
    ∙ skip (next_is (has_class false_word) ts) _ _ (next_less (false_word ∷ []) firsts_of_expression refl ts h)
    ∙ skip (next_is (has_class undef_word) ts) _ _ (next_less (undef_word ∷ []) firsts_of_expression refl ts h)
    ∙ skip (next_is (has_class child_count_class) ts) _ _ (next_less (child_count_class ∷ []) firsts_of_expression refl ts h)
    ∙ skip (next_is (has_class special_class) ts) _ _ (next_less (special_class ∷ []) firsts_of_expression refl ts h)
    ∙ skip (next_is (has_class name_class) ts) _ _ (next_less (name_class ∷ []) firsts_of_expression refl ts h)
    ∙ skip (next_is (has_class open_parenthesis_sign) ts) _ _ (next_less (open_parenthesis_sign ∷ []) firsts_of_expression refl ts h)
    ∙ both_refuses left_out_of_expressions bracket_term (first_token_read (has_class open_bracket_sign)) _ ts (one_refuses left_out_of_expressions (has_class open_bracket_sign) ts (next_less (open_bracket_sign ∷ []) firsts_of_expression refl ts h))

unary_refuses : (e u : TokenReader Term) (a : TokenReader ArgTerm) (ts : List Token) → next_is (has_class_in firsts_of_expression) ts ≡ false → unary_read e u (primary_read e a) ts ≡ refusal left_out_of_expressions ts
unary_refuses e u a ts h =
    skip (next_is (has_class_in (minus_sign ∷ plus_sign ∷ not_sign ∷ [])) ts) _ _ (next_less (minus_sign ∷ plus_sign ∷ not_sign ∷ []) firsts_of_expression refl ts h)
    ∙ both_refuses left_out_of_expressions postfix_term (primary_read e a) _ ts (primary_refuses e a ts h)

chain_refuses : (below : List (List ℕ)) (r : TokenReader Term) (ts : List Token) → r ts ≡ refusal left_out_of_expressions ts → chain_read below r ts ≡ refusal left_out_of_expressions ts
chain_refuses [] r ts h = h
chain_refuses (ops ∷ below) r ts h = both_refuses left_out_of_expressions chain_term (chain_read below r) _ ts (chain_refuses below r ts h)

choice_refuses : (e u : TokenReader Term) (a : TokenReader ArgTerm) (ts : List Token) → next_is (has_class_in firsts_of_expression) ts ≡ false → choice_read e u (primary_read e a) ts ≡ refusal left_out_of_expressions ts
choice_refuses e u a ts h = both_refuses left_out_of_expressions choice_term (chain_read levels (unary_read e u (primary_read e a))) _ ts (chain_refuses levels (unary_read e u (primary_read e a)) ts (unary_refuses e u a ts h))

arg_refuses : (e : TokenReader Term) (ts : List Token) → next_is (has_class_in firsts_of_expression) ts ≡ false → e ts ≡ refusal left_out_of_expressions ts → arg_read e ts ≡ refusal left_out_of_expressions ts
arg_refuses e [] h k = mapped_refuses left_out_of_expressions PositionalTerm e [] k
arg_refuses e (t ∷ []) h k = mapped_refuses left_out_of_expressions PositionalTerm e (t ∷ []) k
arg_refuses e (t ∷ u ∷ ts) h k =
    ap (λ v. cond (v && has_class assign_sign u) (then_read (e ts) (λ x us. Ok (argument_of_tokens t u x, us))) (image_read PositionalTerm e (t ∷ u ∷ ts))) (next_less argument_names firsts_of_expression refl (t ∷ u ∷ ts) h)
    ∙ mapped_refuses left_out_of_expressions PositionalTerm e (t ∷ u ∷ ts) k

-- where nothing stands that is deeper, a deeper reader agrees that refuses what can't begin it
nested_agrees : {A : Type 0} (begins classes : List ℕ) (r : TokenReader A) → ((ts : List Token) → next_is (has_class_in begins) ts ≡ false → r ts ≡ refusal classes ts) → Agrees (nested_read begins classes) r
nested_agrees {A} begins classes r h = record { at = λ ts. go ts (next_is (has_class_in begins) ts) refl }
  where
    go : (ts : List Token) (v : Bool) → next_is (has_class_in begins) ts ≡ v → Alike (nested_read {A = A} begins classes ts) (r ts)
    go ts true e = inr (ts, ap (λ v. cond v (Err (Nested, ts)) (refusal classes ts)) e)
    go ts false e = inl (ap (λ v. cond v (Err (Nested, ts)) (refusal classes ts)) e ∙ sym (h ts e))

expr_refuses : (d : ℕ) (ts : List Token) → next_is (has_class_in firsts_of_expression) ts ≡ false → expr_read (suc d) ts ≡ refusal left_out_of_expressions ts
unfolding expr_read operand_read
expr_refuses d ts h = choice_refuses (expr_read d) (operand_read d) (arg_in d (expr_read d)) ts h

primary_agrees : (e f : TokenReader Term) (a b : TokenReader ArgTerm) → Agrees e f → Agrees a b → Agrees (primary_read e a) (primary_read f b)
primary_agrees = primary_keeps Agree Free agreement (λ c f h. same (image_read f (token_read (has_class c)))) (same (first_token_read (has_class open_bracket_sign))) (λ r q s p. choice_agrees (has_class numeral_class) r q s p)

-- at each greater depth
deeper_expressions : (d : ℕ) → Agrees (expr_read d) (expr_read (suc d)) × Agrees (operand_read d) (operand_read (suc d)) × Agrees (arg_in d (expr_read d)) (arg_in (suc d) (expr_read (suc d)))
unfolding expr_read operand_read
deeper_expressions zero = (
  nested_agrees firsts_of_expression left_out_of_expressions (expr_read 1) (expr_refuses 0),
  nested_agrees firsts_of_expression left_out_of_expressions (operand_read 1) (unary_refuses (expr_read 0) (operand_read 0) (arg_in 0 (expr_read 0))),
  nested_agrees firsts_of_expression left_out_of_expressions (arg_read (expr_read 1)) (λ ts h. arg_refuses (expr_read 1) ts h (expr_refuses 0 ts h)),
)
deeper_expressions (suc d) =
    let k = deeper_expressions d in
    let p = primary_agrees (expr_read d) (expr_read (suc d)) (arg_in d (expr_read d)) (arg_in (suc d) (expr_read (suc d))) k.0 k.2 in
    let token_read : Agrees (expr_read (suc d)) (expr_read (suc (suc d))) = expression_keeps Agree Free agreement (expr_read d) (expr_read (suc d)) k.0 (operand_read d) (operand_read (suc d)) _ _ k.1 p in
    (token_read, unary_keeps Agree Free agreement (expr_read d) (expr_read (suc d)) k.0 (operand_read d) (operand_read (suc d)) _ _ k.1 p, arg_keeps Agree Free agreement (expr_read (suc d)) (expr_read (suc (suc d))) token_read)

deeper_params : (d : ℕ) → Agrees (param_in d (expr_read d)) (param_in (suc d) (expr_read (suc d)))
deeper_params zero = nested_agrees (name_class ∷ []) left_out_classes (param_read (expr_read 1)) (λ ts h. both_refuses left_out_classes param_term (token_read (has_class name_class)) _ ts (one_refuses left_out_classes (has_class name_class) ts h))
deeper_params (suc d) = param_keeps Agree Free agreement (expr_read (suc d)) (expr_read (suc (suc d))) (deeper_expressions (suc d)).0

deeper_binders : (d : ℕ) → Agrees (binder_in d (expr_read d)) (binder_in (suc d) (expr_read (suc d)))
deeper_binders zero = nested_agrees (name_class ∷ []) left_out_classes (binder_read (expr_read 1)) (λ ts h. both_refuses left_out_classes binder_term (token_read (has_class name_class)) _ ts (one_refuses left_out_classes (has_class name_class) ts h))
deeper_binders (suc d) = binder_keeps Agree Free agreement (expr_read (suc d)) (expr_read (suc (suc d))) (deeper_expressions (suc d)).0

-- what begins no statement is refused in the same way at each depth
module _ (e : TokenReader Term) (a : TokenReader ArgTerm) (n : TokenReader BinderTerm) (b : TokenReader BodyTerm) where
  core_refuses : (ts : List Token) → next_is (has_class_in firsts_of_core) ts ≡ false → core_read e a n b ts ≡ refusal left_out_classes ts
  core_refuses ts h =
      skip (next_is (has_class if_word) ts) _ _ (next_less (if_word ∷ []) firsts_of_core refl ts h)
      ∙ skip (next_is (has_class_in loop_words) ts) _ _ (next_less loop_words firsts_of_core refl ts h)
      ∙ both_refuses left_out_classes call_term (token_read (has_class name_class)) _ ts (one_refuses left_out_classes (has_class name_class) ts (next_less (name_class ∷ []) firsts_of_core refl ts h))

  instance_refuses : (ts : List Token) → next_is (has_class_in firsts_of_instance) ts ≡ false → instance_read (core_read e a n b) ts ≡ refusal left_out_classes ts
  instance_refuses ts h =
      ap (λ q. then_read q (λ ms us. then_read (core_read e a n b us) (λ c vs. Ok (instance_term ms c, vs)))) (marks_reads.complete [] [] ts refl (next_less modifier_signs firsts_of_instance refl ts h))
      ∙ ap (λ q. then_read q (λ c vs. Ok (instance_term [] c, vs))) (core_refuses ts (next_less firsts_of_core firsts_of_instance refl ts h))

  body_refuses : (s : TokenReader StatementTerm) (ts : List Token) → next_is (has_class_in firsts_of_body) ts ≡ false → body_over s (instance_read (core_read e a n b)) ts ≡ refusal left_out_classes ts
  body_refuses s ts h =
      skip (next_is (has_class semicolon_sign) ts) _ _ (next_less (semicolon_sign ∷ []) firsts_of_body refl ts h)
      ∙ skip (next_is (has_class open_brace_sign) ts) _ _ (next_less (open_brace_sign ∷ []) firsts_of_body refl ts h)
      ∙ mapped_refuses left_out_classes InstanceBody (instance_read (core_read e a n b)) ts (instance_refuses ts (next_less firsts_of_instance firsts_of_body refl ts h))

  module _ (x : TokenReader Term) (m : TokenReader ParamTerm) (s : TokenReader StatementTerm) where
    definition_refuses : (ts : List Token) → next_is (has_class_in firsts_of_statement) ts ≡ false → definition_read x m b (instance_read (core_read e a n b)) ts ≡ refusal left_out_classes ts
    definition_refuses ts h =
        skip (next_is (has_class module_word) ts) _ _ (next_less (module_word ∷ []) firsts_of_statement refl ts h)
        ∙ skip (next_is (has_class function_word) ts) _ _ (next_less (function_word ∷ []) firsts_of_statement refl ts h)
        ∙ mapped_refuses left_out_classes InstanceStatement (instance_read (core_read e a n b)) ts (instance_refuses ts (next_less firsts_of_instance firsts_of_statement refl ts h))

    named_refuses : (ts : List Token) → next_is (has_class_in firsts_of_statement) ts ≡ false → two_ahead assignment_of_tokens (has_class name_class) (has_class assign_sign) (ended_read x) (definition_read x m b (instance_read (core_read e a n b))) ts ≡ refusal left_out_classes ts
    named_refuses [] h = definition_refuses [] h
    named_refuses (t ∷ []) h = definition_refuses (t ∷ []) h
    named_refuses (t ∷ u ∷ ts) h =
        ap (λ v. cond (v && has_class assign_sign u) (then_read (ended_read x ts) (λ y us. Ok (assignment_of_tokens t u y, us))) (definition_read x m b (instance_read (core_read e a n b)) (t ∷ u ∷ ts))) (next_less (name_class ∷ []) firsts_of_statement refl (t ∷ u ∷ ts) h)
        ∙ definition_refuses (t ∷ u ∷ ts) h

    statement_refuses : (ts : List Token) → next_is (has_class_in firsts_of_statement) ts ≡ false → statement_over x m s b (instance_read (core_read e a n b)) ts ≡ refusal left_out_classes ts
    statement_refuses ts h =
        skip (next_is (has_class semicolon_sign) ts) _ _ (next_less (semicolon_sign ∷ []) firsts_of_statement refl ts h)
        ∙ skip (next_is (has_class open_brace_sign) ts) _ _ (next_less (open_brace_sign ∷ []) firsts_of_statement refl ts h)
        ∙ skip (next_is (has_class special_class) ts) _ _ (next_less (special_class ∷ []) firsts_of_statement refl ts h)
        ∙ named_refuses ts h

deeper_statements : (d : ℕ) → Agrees (statement_read d) (statement_read (suc d)) × Agrees (body_read d) (body_read (suc d))
unfolding statement_read body_read
deeper_statements zero = (
  nested_agrees firsts_of_statement left_out_classes (statement_read 1) (statement_refuses (expr_read 0) (arg_in 0 (expr_read 0)) (binder_in 0 (expr_read 0)) (body_read 0) (expr_read 1) (param_in 0 (expr_read 0)) (statement_read 0)),
  nested_agrees firsts_of_body left_out_classes (body_read 1) (body_refuses (expr_read 0) (arg_in 0 (expr_read 0)) (binder_in 0 (expr_read 0)) (body_read 0) (statement_read 0)),
)
deeper_statements (suc d) =
    let k = deeper_statements d in
    let e = deeper_expressions d in
    let n = binders_keep Agree Free agreement (binder_in d (expr_read d)) (binder_in (suc d) (expr_read (suc d))) (deeper_binders d) in
    let i = instance_keeps Agree Free agreement (expr_read d) (expr_read (suc d)) (arg_in d (expr_read d)) (arg_in (suc d) (expr_read (suc d))) (binders_read (binder_in d (expr_read d))) (binders_read (binder_in (suc d) (expr_read (suc d)))) (body_read d) (body_read (suc d)) e.0 e.2 n k.1 tt tt in
    let s = many_agrees (has_class_in firsts_of_statement) (statement_read d) (statement_read (suc d)) k.0 in (
      statement_keeps Agree Free agreement (statement_read d) (statement_read (suc d)) _ _ s i (expr_read (suc d)) (expr_read (suc (suc d))) (param_in d (expr_read d)) (param_in (suc d) (expr_read (suc d))) (body_read d) (body_read (suc d)) (deeper_expressions (suc d)).0 (deeper_params d) k.1 tt,
      body_keeps Agree Free agreement (statement_read d) (statement_read (suc d)) _ _ s i,
    )

pub program_agrees : (d : ℕ) → Agrees (program_read d) (program_read (suc d))
program_agrees d = both_agrees first_of _ _ (token_read (has_class end_class)) (token_read (has_class end_class)) (many_agrees (has_class_in firsts_of_statement) (statement_read d) (statement_read (suc d)) (deeper_statements d).0) (same (token_read (has_class end_class)))
