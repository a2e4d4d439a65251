-- Readers that are built in the same way: a law of two readers that each way of building keeps holds of what is built.
use Rattle.std.proofs.Common.{◌≡◌, ℕ, List, [], ◌∷◌, length, ◌≤◌, Bool, true, false, not, Err, Option, Some, None, ◌⊎◌, refl, sym, ap, ◌∙◌}
use Rattle.scad_lexer.specs.declared.token.Token.{Token}
use Rattle.scad_ast.specs.Terms.{Term, SuffixTerm, NumberTerm, TextTerm, TruthTerm, UndefTerm, ChildCountTerm, SpecialTerm, ArgTerm, PositionalTerm, ParamTerm, BinderTerm, ModifierTerm, StatementTerm, EmptyStatement, InstanceStatement, InstanceTerm, CoreTerm, BodyTerm, EmptyBody, InstanceBody}
use Rattle.scad_grammar.specs.declared.SyntaxFault.{SyntaxFault}
use Rattle.scad_grammar.specs.declared.SyntaxFault.TheVariants.{Nested}
use Rattle.scad_grammar.specs.Classes.{or_sign, and_sign, equal_sign, not_equal_sign, less_sign, less_equal_sign, greater_sign, greater_equal_sign, times_sign, divide_sign, remainder_sign, numeral_class, text_class, true_word, false_word, undef_word, child_count_class, special_class, argument_names, name_class, end_class, if_word, else_word, for_word, module_word, function_word, open_parenthesis_sign, close_parenthesis_sign, open_bracket_sign, close_bracket_sign, open_brace_sign, close_brace_sign, comma_sign, semicolon_sign, assign_sign, colon_sign, question_sign, dot_sign, minus_sign, plus_sign, not_sign, has_class_in, has_class, has_class_outside, token_class, numeral_value, bytes_of}
use Rattle.scad_grammar.specs.Languages.{first_of, second_of, pair_of, cons}
use Rattle.scad_grammar.specs.Grammar.{Rest, items, link_term, chain_term, unary_term, postfix_term, index_term, member_term, levels, choice_term, name_term, paren_term, bracket_term, range_rest, binder_term, param_term, modifier_term, if_term, loop_term, call_term, instance_term, block_term, bare_block_term, special_assignment_term, module_term, function_term}
use Rattle.scad_grammar.specs.Reading.{Read, image_read, empty_read, sequence_read, alternative_read, optional_read, two_ahead, repeated_read, trailing_items}
use Rattle.scad_grammar.specs.Faults.{TokenReader, token_read, first_token_read}
use Rattle.scad_grammar.specs.Reads.{suffix_read, postfix_read, unary_read, chain_read, argument_of_tokens, arg_read, args_read, in_parentheses, range_read, rest_read, bracket_read, name_read, paren_read, primary_read, choice_read}
use Rattle.scad_grammar.specs.StatementReads.{modifier_signs, loop_words, firsts_of_statement, param_read, binder_read, params_read, binders_read, if_read, call_read, modifiers_read, braces_read, body_over, ended_read, function_read, definition_read, assignment_of_tokens, special_read, statement_over}
use Rattle.scad_grammar.proofs.Ahead.{rest_of}
use Rattle.scad_grammar.proofs.Tests.{apart, classes_apart, classes_within}
use Rattle.scad_grammar.proofs.Cores.{loop_over, core_over, instance_over}

-- the words of statements that the profile leaves out of expressions
abbrev pub words : List ℕ
words = for_word ∷ if_word ∷ function_word ∷ []

-- a test that tells none of these words from a numeral
abbrev pub Steady : (Token → Bool) → Type 0
Steady test = (t n : Token) → has_class_in words t ≡ true → has_class numeral_class n ≡ true → test t ≡ test n

pub steady_among : (cs : List ℕ) → apart (numeral_class ∷ words) cs ≡ true → Steady (has_class_in cs)
steady_among cs e t n h g =
    classes_apart (numeral_class ∷ words) cs e (token_class t.kind) (classes_within words (numeral_class ∷ words) refl (token_class t.kind) h) ∙ sym (classes_apart (numeral_class ∷ words) cs e (token_class n.kind) (classes_within (numeral_class ∷ []) (numeral_class ∷ words) refl (token_class n.kind) g))

pub steady_other : (cs : List ℕ) → apart (numeral_class ∷ words) cs ≡ true → Steady (has_class_outside cs)
steady_other cs e t n h g = ap not (steady_among cs e t n h g)

-- what was read goes beyond the first token, or that token is too deep
abbrev pub Past : {A : Type 0} → Token → List Token → Read Token SyntaxFault A → Type 0
Past t more q = (length (rest_of q) ≤ length more) ⊎ (q ≡ Err (Nested, t ∷ more))

-- each of these words that is of the test is taken
abbrev pub Takes : {A : Type 0} → (Token → Bool) → TokenReader A → Type 0
Takes test r = (t : Token) (more : List Token) → has_class_in words t ≡ true → test t ≡ true → Past t more (r (t ∷ more))

-- Each way of building a reader keeps the law R. T is what is asked for where a choice goes by a word of a statement.
pub record Keeps (R : (A : Type 0) → TokenReader A → TokenReader A → Type 0) (T : (A : Type 0) → List ℕ → TokenReader A → Type 0) : Type 1 where
  pub nothing_keeps : {A : Type 0} (a : A) → R A (empty_read a) (empty_read a)
  pub one_keeps : (cs : List ℕ) → apart (numeral_class ∷ end_class ∷ []) cs ≡ true → R Token (token_read (has_class_in cs)) (token_read (has_class_in cs))
  pub mapped_keeps : {A B : Type 0} (f : A → B) (r q : TokenReader A) → R A r q → R B (image_read f r) (image_read f q)
  pub both_keeps : {A B C : Type 0} (f : A → B → C) (r q : TokenReader A) (s p : TokenReader B) → R A r q → R B s p → R C (sequence_read f r s) (sequence_read f q p)
  pub choice_keeps : {A : Type 0} (test : Token → Bool) (r q s p : TokenReader A) → Steady test → R A r q → R A s p → R A (alternative_read test r s) (alternative_read test q p)
  pub taken_keeps : {A : Type 0} (cs : List ℕ) (r q s p : TokenReader A) → apart (numeral_class ∷ []) cs ≡ true → T A cs r → R A r q → R A s p → R A (alternative_read (has_class_in cs) r s) (alternative_read (has_class_in cs) q p)
  pub ahead_keeps : {A C : Type 0} (f : Token → Token → A → C) (cs : List ℕ) (r q : TokenReader A) (s p : TokenReader C) → apart (numeral_class ∷ end_class ∷ []) cs ≡ true → apart (numeral_class ∷ words) cs ≡ true → R A r q → R C s p → R C (two_ahead f (has_class_in cs) (has_class assign_sign) r s) (two_ahead f (has_class_in cs) (has_class assign_sign) q p)
  pub many_keeps : {A : Type 0} (test : Token → Bool) (r q : TokenReader A) → Steady test → R A r q → R (List A) (repeated_read test r) (repeated_read test q)
  pub many_taken_keeps : {A : Type 0} (cs : List ℕ) (r q : TokenReader A) → apart (numeral_class ∷ []) cs ≡ true → T A cs r → R A r q → R (List A) (repeated_read (has_class_in cs) r) (repeated_read (has_class_in cs) q)
  pub trailing_keeps : {A : Type 0} (go : Token → Bool) (r q : TokenReader A) → Steady go → R A r q → R (List A) (trailing_items (has_class comma_sign) go r) (trailing_items (has_class comma_sign) go q)

-- nothing is asked for
abbrev pub Free : (A : Type 0) → List ℕ → TokenReader A → Type 0
Free A cs r = Unit {0}

module _ (R : (A : Type 0) → TokenReader A → TokenReader A → Type 0) (T : (A : Type 0) → List ℕ → TokenReader A → Type 0) (k : Keeps R T) where
  maybe_keeps : {A : Type 0} (test : Token → Bool) (r q : TokenReader A) → Steady test → R A r q → R (Option A) (optional_read test r) (optional_read test q)
  maybe_keeps test r q e h = k.choice_keeps test (image_read Some r) (image_read Some q) (empty_read None) (empty_read None) e (k.mapped_keeps Some r q h) (k.nothing_keeps None)

  -- a token of some classes before something, and behind it
  behind_keeps : {A B : Type 0} (f : Token → A → B) (cs : List ℕ) (r q : TokenReader A) → apart (numeral_class ∷ end_class ∷ []) cs ≡ true → R A r q → R B (sequence_read f (token_read (has_class_in cs)) r) (sequence_read f (token_read (has_class_in cs)) q)
  behind_keeps f cs r q e h = k.both_keeps f (token_read (has_class_in cs)) (token_read (has_class_in cs)) r q (k.one_keeps cs e) h

  before_keeps : {A : Type 0} (c : ℕ) (r q : TokenReader A) → apart (numeral_class ∷ end_class ∷ []) (c ∷ []) ≡ true → R A r q → R A (sequence_read first_of r (token_read (has_class c))) (sequence_read first_of q (token_read (has_class c)))
  before_keeps c r q e h = k.both_keeps first_of r q (token_read (has_class c)) (token_read (has_class c)) h (k.one_keeps (c ∷ []) e)

  parentheses_keep : {A : Type 0} (r q : TokenReader A) → R A r q → R A (in_parentheses r) (in_parentheses q)
  parentheses_keep r q h = behind_keeps second_of (open_parenthesis_sign ∷ []) (sequence_read first_of r (token_read (has_class close_parenthesis_sign))) (sequence_read first_of q (token_read (has_class close_parenthesis_sign))) refl (before_keeps close_parenthesis_sign r q refl h)

  pub args_keep : (a b : TokenReader ArgTerm) → R ArgTerm a b → R (List ArgTerm) (args_read a) (args_read b)
  args_keep a b ha =
      k.choice_keeps (has_class_outside (close_parenthesis_sign ∷ [])) _ _ (empty_read []) (empty_read []) (steady_other (close_parenthesis_sign ∷ []) refl)
      (k.both_keeps cons a b _ _ ha (k.trailing_keeps (has_class_outside (close_parenthesis_sign ∷ [])) a b (steady_other (close_parenthesis_sign ∷ []) refl) ha)) (k.nothing_keeps [])

  pub arg_keeps : (e f : TokenReader Term) → R Term e f → R ArgTerm (arg_read e) (arg_read f)
  arg_keeps e f he = k.ahead_keeps argument_of_tokens argument_names e f (image_read PositionalTerm e) (image_read PositionalTerm f) refl refl he (k.mapped_keeps PositionalTerm e f he)

  pub param_keeps : (e f : TokenReader Term) → R Term e f → R ParamTerm (param_read e) (param_read f)
  param_keeps e f h = behind_keeps param_term (name_class ∷ []) _ _ refl (maybe_keeps (has_class assign_sign) _ _ (steady_among (assign_sign ∷ []) refl) (behind_keeps second_of (assign_sign ∷ []) e f refl h))

  pub binder_keeps : (e f : TokenReader Term) → R Term e f → R BinderTerm (binder_read e) (binder_read f)
  binder_keeps e f h = behind_keeps binder_term (name_class ∷ []) _ _ refl (behind_keeps second_of (assign_sign ∷ []) e f refl h)

  pub binders_keep : (n m : TokenReader BinderTerm) → R BinderTerm n m → R (List BinderTerm) (binders_read n) (binders_read m)
  binders_keep n m h = k.both_keeps cons n m _ _ h (k.trailing_keeps (has_class name_class) n m (steady_among (name_class ∷ []) refl) h)

  pub params_keep : (n m : TokenReader ParamTerm) → R ParamTerm n m → R (List ParamTerm) (params_read n) (params_read m)
  params_keep n m h = k.choice_keeps (has_class name_class) _ _ (empty_read []) (empty_read []) (steady_among (name_class ∷ []) refl) (k.both_keeps cons n m _ _ h (k.trailing_keeps (has_class name_class) n m (steady_among (name_class ∷ []) refl) h)) (k.nothing_keeps [])

  module _ (e f : TokenReader Term) (he : R Term e f) where
    behind_colon : R Term (sequence_read second_of (token_read (has_class colon_sign)) e) (sequence_read second_of (token_read (has_class colon_sign)) f)
    behind_colon = behind_keeps second_of (colon_sign ∷ []) e f refl he

    rest_keeps : R Rest (rest_read e) (rest_read f)
    rest_keeps =
        k.choice_keeps (has_class colon_sign) (range_read e) (range_read f) _ _ (steady_among (colon_sign ∷ []) refl)
        (behind_keeps second_of (colon_sign ∷ []) _ _ refl (k.both_keeps range_rest e f _ _ he (maybe_keeps (has_class colon_sign) _ _ (steady_among (colon_sign ∷ []) refl) behind_colon)))
        (k.mapped_keeps items _ _ (k.trailing_keeps (has_class_outside (close_bracket_sign ∷ [])) e f (steady_other (close_bracket_sign ∷ []) refl) he))

    -- what is behind the opening bracket
    pub filled_keeps : R (Option (Term × Rest)) (sequence_read first_of (optional_read (has_class_outside (close_bracket_sign ∷ [])) (sequence_read pair_of e (rest_read e))) (token_read (has_class close_bracket_sign))) (sequence_read first_of (optional_read (has_class_outside (close_bracket_sign ∷ [])) (sequence_read pair_of f (rest_read f))) (token_read (has_class close_bracket_sign)))
    filled_keeps =
        before_keeps close_bracket_sign _ _ refl
        (maybe_keeps (has_class_outside (close_bracket_sign ∷ [])) _ _ (steady_other (close_bracket_sign ∷ []) refl) (k.both_keeps pair_of e f (rest_read e) (rest_read f) he rest_keeps))

    pub paren_keeps : R Term (paren_read e) (paren_read f)
    paren_keeps = behind_keeps paren_term (open_parenthesis_sign ∷ []) _ _ refl (before_keeps close_parenthesis_sign e f refl he)

    suffix_keeps : R SuffixTerm (suffix_read e) (suffix_read f)
    suffix_keeps =
        k.choice_keeps (has_class open_bracket_sign) _ _ _ _ (steady_among (open_bracket_sign ∷ []) refl) (behind_keeps index_term (open_bracket_sign ∷ []) _ _ refl (before_keeps close_bracket_sign e f refl he))
        (behind_keeps member_term (dot_sign ∷ []) (token_read (has_class name_class)) (token_read (has_class name_class)) refl (k.one_keeps (name_class ∷ []) refl))

    -- u reads an operand, p a primary
    module _ (u v p q : TokenReader Term) (hu : R Term u v) (hp : R Term p q) where
      pub unary_keeps : R Term (unary_read e u p) (unary_read f v q)
      unary_keeps =
          k.choice_keeps (has_class_in (minus_sign ∷ plus_sign ∷ not_sign ∷ [])) _ _ (postfix_read e p) (postfix_read f q) (steady_among (minus_sign ∷ plus_sign ∷ not_sign ∷ []) refl) (behind_keeps unary_term (minus_sign ∷ plus_sign ∷ not_sign ∷ []) u v refl hu)
          (k.both_keeps postfix_term p q _ _ hp (k.many_keeps (has_class_in (open_bracket_sign ∷ dot_sign ∷ [])) (suffix_read e) (suffix_read f) (steady_among (open_bracket_sign ∷ dot_sign ∷ []) refl) suffix_keeps))

      level_keeps : (ops : List ℕ) (r s : TokenReader Term) → apart (numeral_class ∷ end_class ∷ []) ops ≡ true → apart (numeral_class ∷ words) ops ≡ true → R Term r s → R Term (sequence_read chain_term r (repeated_read (has_class_in ops) (sequence_read link_term (token_read (has_class_in ops)) r))) (sequence_read chain_term s (repeated_read (has_class_in ops) (sequence_read link_term (token_read (has_class_in ops)) s)))
      level_keeps ops r s a b h = k.both_keeps chain_term r s _ _ h (k.many_keeps (has_class_in ops) _ _ (steady_among ops b) (behind_keeps link_term ops r s a h))

      pub chain_keeps : R Term (chain_read levels (unary_read e u p)) (chain_read levels (unary_read f v q))
      chain_keeps =
          level_keeps (or_sign ∷ []) _ _ refl refl
          (level_keeps (and_sign ∷ []) _ _ refl refl
          (level_keeps (equal_sign ∷ not_equal_sign ∷ []) _ _ refl refl
          (level_keeps (less_sign ∷ less_equal_sign ∷ greater_sign ∷ greater_equal_sign ∷ []) _ _ refl refl
          (level_keeps (plus_sign ∷ minus_sign ∷ []) _ _ refl refl
          (level_keeps (times_sign ∷ divide_sign ∷ remainder_sign ∷ []) (unary_read e u p) (unary_read f v q) refl refl unary_keeps)))))

      pub expression_keeps : R Term (choice_read e u p) (choice_read f v q)
      expression_keeps =
          k.both_keeps choice_term (chain_read levels (unary_read e u p)) (chain_read levels (unary_read f v q)) _ _ chain_keeps
          (maybe_keeps (has_class question_sign) _ _ (steady_among (question_sign ∷ []) refl) (behind_keeps pair_of (question_sign ∷ []) _ _ refl (k.both_keeps pair_of e f _ _ he behind_colon)))

  pub named_keeps : (a b : TokenReader ArgTerm) → R ArgTerm a b → R Term (name_read a) (name_read b)
  named_keeps a b h = behind_keeps name_term (name_class ∷ []) _ _ refl (maybe_keeps (has_class open_parenthesis_sign) _ _ (steady_among (open_parenthesis_sign ∷ []) refl) (parentheses_keep (args_read a) (args_read b) (args_keep a b h)))

  -- a primary, where the law holds of single tokens and of the bracket of a list
  module _ (single : (c : ℕ) (f : Token → Term) → apart (end_class ∷ []) (c ∷ []) ≡ true → R Term (image_read f (token_read (has_class c))) (image_read f (token_read (has_class c)))) (bracket : R Token (first_token_read (has_class open_bracket_sign)) (first_token_read (has_class open_bracket_sign)))
      (by_numeral : (r q s p : TokenReader Term) → R Term r q → R Term s p → R Term (alternative_read (has_class numeral_class) r s) (alternative_read (has_class numeral_class) q p)) where
    pub primary_keeps : (e f : TokenReader Term) (a b : TokenReader ArgTerm) → R Term e f → R ArgTerm a b → R Term (primary_read e a) (primary_read f b)
    primary_keeps e f a b he ha =
        by_numeral _ _ _ _ (single numeral_class (λ t. NumberTerm t.place (numeral_value t.kind)) refl)
        (k.choice_keeps (has_class text_class) _ _ _ _ (steady_among (text_class ∷ []) refl) (single text_class (λ t. TextTerm t.place (bytes_of t.kind)) refl)
        (k.choice_keeps (has_class true_word) _ _ _ _ (steady_among (true_word ∷ []) refl) (single true_word (λ t. TruthTerm t.place true) refl)
        (k.choice_keeps (has_class false_word) _ _ _ _ (steady_among (false_word ∷ []) refl) (single false_word (λ t. TruthTerm t.place false) refl)
        (k.choice_keeps (has_class undef_word) _ _ _ _ (steady_among (undef_word ∷ []) refl) (single undef_word (λ t. UndefTerm t.place) refl)
        (k.choice_keeps (has_class child_count_class) _ _ _ _ (steady_among (child_count_class ∷ []) refl) (single child_count_class (λ t. ChildCountTerm t.place) refl)
        (k.choice_keeps (has_class special_class) _ _ _ _ (steady_among (special_class ∷ []) refl) (single special_class (λ t. SpecialTerm t.place (bytes_of t.kind)) refl)
        (k.choice_keeps (has_class name_class) (name_read a) (name_read b) _ _ (steady_among (name_class ∷ []) refl) (named_keeps a b ha)
        (k.choice_keeps (has_class open_parenthesis_sign) (paren_read e) (paren_read f) (bracket_read e) (bracket_read f) (steady_among (open_parenthesis_sign ∷ []) refl) (paren_keeps e f he)
        (k.both_keeps bracket_term (first_token_read (has_class open_bracket_sign)) (first_token_read (has_class open_bracket_sign)) _ _ bracket (filled_keeps e f he))))))))))

  pub marks_keep : R (List ModifierTerm) modifiers_read modifiers_read
  marks_keep = k.many_keeps (has_class_in modifier_signs) _ _ (steady_among modifier_signs refl) (k.mapped_keeps modifier_term (token_read (has_class_in modifier_signs)) (token_read (has_class_in modifier_signs)) (k.one_keeps modifier_signs refl))

  -- over what reads the variables of a loop, and a body
  module _ (e f : TokenReader Term) (a c : TokenReader ArgTerm) (ns ms : TokenReader (List BinderTerm)) (b w : TokenReader BodyTerm) (he : R Term e f) (ha : R ArgTerm a c) (hn : R (List BinderTerm) ns ms) (hb : R BodyTerm b w)
      (if_taken : T CoreTerm (if_word ∷ []) (if_read e b)) (loop_taken : T CoreTerm loop_words (loop_over ns b)) where
    headed_keeps : {A : Type 0} (r q : TokenReader A) → R A r q → R (A × BodyTerm) (sequence_read pair_of (in_parentheses r) b) (sequence_read pair_of (in_parentheses q) w)
    headed_keeps r q h = k.both_keeps pair_of (in_parentheses r) (in_parentheses q) b w (parentheses_keep r q h) hb

    if_keeps : R CoreTerm (if_read e b) (if_read f w)
    if_keeps =
        k.both_keeps if_term _ _ _ _ (behind_keeps pair_of (if_word ∷ []) _ _ refl (headed_keeps e f he))
        (maybe_keeps (has_class else_word) _ _ (steady_among (else_word ∷ []) refl) (behind_keeps second_of (else_word ∷ []) b w refl hb))

    core_keeps : R CoreTerm (core_over e a ns b) (core_over f c ms w)
    core_keeps =
        k.taken_keeps (if_word ∷ []) (if_read e b) (if_read f w) _ _ refl if_taken if_keeps
        (k.taken_keeps loop_words (loop_over ns b) (loop_over ms w) (call_read a b) (call_read c w) refl loop_taken (behind_keeps loop_term loop_words _ _ refl (headed_keeps ns ms hn))
        (behind_keeps call_term (name_class ∷ []) _ _ refl (headed_keeps (args_read a) (args_read c) (args_keep a c ha))))

    pub instance_keeps : R InstanceTerm (instance_over e a ns b) (instance_over f c ms w)
    instance_keeps = k.both_keeps instance_term modifiers_read modifiers_read _ _ marks_keep core_keeps

  -- over a list of statements, and an instance
  module _ (s t : TokenReader StatementTerm) (i j : TokenReader InstanceTerm) (hs : R (List StatementTerm) (repeated_read (has_class_in firsts_of_statement) s) (repeated_read (has_class_in firsts_of_statement) t)) (hi : R InstanceTerm i j) where
    braces_keep : R (List StatementTerm) (braces_read s) (braces_read t)
    braces_keep = before_keeps close_brace_sign _ _ refl hs

    pub body_keeps : R BodyTerm (body_over s i) (body_over t j)
    body_keeps =
        k.choice_keeps (has_class semicolon_sign) _ _ _ _ (steady_among (semicolon_sign ∷ []) refl) (k.mapped_keeps (λ t. EmptyBody t.place) _ _ (k.one_keeps (semicolon_sign ∷ []) refl))
        (k.choice_keeps (has_class open_brace_sign) _ _ _ _ (steady_among (open_brace_sign ∷ []) refl) (behind_keeps block_term (open_brace_sign ∷ []) (braces_read s) (braces_read t) refl braces_keep) (k.mapped_keeps InstanceBody i j hi))

    -- x reads an expression, m a parameter, b a body
    module _ (x y : TokenReader Term) (m p : TokenReader ParamTerm) (b w : TokenReader BodyTerm) (hx : R Term x y) (hm : R ParamTerm m p) (hb : R BodyTerm b w) (function_taken : T StatementTerm (function_word ∷ []) (function_read x m)) where
      ended_keeps : R Term (ended_read x) (ended_read y)
      ended_keeps = before_keeps semicolon_sign x y refl hx

      definition_keeps : R StatementTerm (definition_read x m b i) (definition_read y p w j)
      definition_keeps =
          k.choice_keeps (has_class module_word) _ _ _ _ (steady_among (module_word ∷ []) refl)
          (behind_keeps module_term (module_word ∷ []) _ _ refl (behind_keeps pair_of (name_class ∷ []) _ _ refl (k.both_keeps pair_of (in_parentheses (params_read m)) (in_parentheses (params_read p)) b w (parentheses_keep (params_read m) (params_read p) (params_keep m p hm)) hb)))
          (k.taken_keeps (function_word ∷ []) (function_read x m) (function_read y p) _ _ refl function_taken
          (behind_keeps function_term (function_word ∷ []) _ _ refl (behind_keeps pair_of (name_class ∷ []) _ _ refl (k.both_keeps pair_of (in_parentheses (params_read m)) (in_parentheses (params_read p)) _ _ (parentheses_keep (params_read m) (params_read p) (params_keep m p hm)) (behind_keeps second_of (assign_sign ∷ []) (ended_read x) (ended_read y) refl ended_keeps))))
          (k.mapped_keeps InstanceStatement i j hi))

      pub statement_keeps : R StatementTerm (statement_over x m s b i) (statement_over y p t w j)
      statement_keeps =
          k.choice_keeps (has_class semicolon_sign) _ _ _ _ (steady_among (semicolon_sign ∷ []) refl) (k.mapped_keeps (λ t. EmptyStatement t.place) _ _ (k.one_keeps (semicolon_sign ∷ []) refl))
          (k.choice_keeps (has_class open_brace_sign) _ _ _ _ (steady_among (open_brace_sign ∷ []) refl) (behind_keeps bare_block_term (open_brace_sign ∷ []) (braces_read s) (braces_read t) refl braces_keep)
          (k.choice_keeps (has_class special_class) (special_read x) (special_read y) _ _ (steady_among (special_class ∷ []) refl)
          (behind_keeps special_assignment_term (special_class ∷ []) _ _ refl (behind_keeps second_of (assign_sign ∷ []) (ended_read x) (ended_read y) refl ended_keeps))
          (k.ahead_keeps assignment_of_tokens (name_class ∷ []) (ended_read x) (ended_read y) _ _ refl refl ended_keeps definition_keeps)))
