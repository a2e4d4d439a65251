-- What is read of expressions is in the grammar, at each depth.
use Rattle.std.proofs.Common.{◌≡◌, ℕ, zero, suc, List, [], ◌∷◌, ◌++◌, Bool, true, false, cond, Option, Some, None, Ok, inl, inr, refl, sym, ap, ◌∙◌, append_assoc, append-nil, ◌&&◌, ◌⊎◌}
use Rattle.scad_lexer.specs.declared.token.Token.{Token}
use Rattle.scad_lexer.specs.declared.token.TokenKind.TheVariants.{Numeral, Symbol}
use Rattle.scad_lexer.specs.declared.token.Symbol.TheVariants.{CloseParenthesis, CloseBracket, Question, Colon, Or, And, Equal, Less, Plus, Times}
use Rattle.scad_ast.specs.Terms.{Term, NumberTerm, TextTerm, TruthTerm, UndefTerm, ChildCountTerm, SpecialTerm, ArgTerm, PositionalTerm}
use Rattle.scad_grammar.specs.Classes.{numeral_class, special_class, text_class, true_word, false_word, undef_word, child_count_class, name_class, open_parenthesis_sign, close_parenthesis_sign, open_bracket_sign, close_bracket_sign, assign_sign, colon_sign, question_sign, minus_sign, plus_sign, times_sign, divide_sign, remainder_sign, less_sign, greater_sign, less_equal_sign, greater_equal_sign, equal_sign, not_equal_sign, and_sign, or_sign, caret_sign, argument_names, has_class_in, has_class, has_class_outside, token_class, numeral_value, bytes_of}
use Rattle.scad_grammar.specs.Languages.{Language, SingleToken, ImageOf, Concatenation, Alternation, EmptySequence, Repetition, OptionalSequence, EmptyLanguage, BeforeToken, AfterToken, second_of, pair_of}
use Rattle.scad_grammar.specs.Grammar.{InParentheses, Arg, Args, Primary, Bracket, Suffix, Postfix, Unary, Chain, Choice, Detail, without_gaps, with_gaps, ArgsIn, Expr, Operand, levels, chain_term, choice_term, unary_term, postfix_term, named_argument_term, name_term, paren_term, bracket_term, link_term}
use Rattle.scad_grammar.specs.Reading.{then_read, next_is, image_read, sequence_read, optional_read}
use Rattle.scad_grammar.specs.Faults.{TokenReader, token_read, left_out_of_expressions}
use Rattle.scad_grammar.specs.Reads.{firsts_of_primary, firsts_of_expression, argument_of_tokens, arg_read, args_read, nested_read, primary_read, unary_read, chain_read, choice_read, arg_in, expr_read, operand_read}
use Rattle.scad_grammar.proofs.lemmas.Readers.{IsPrefixIn, IsReader, Opens, both_reads, mapped_reads, same_reads, both_opens, either_opens, mapped_opens, one_opens}
use Rattle.scad_grammar.proofs.Greedy.{or_first, maybe_ends, maybe_reads}
use Rattle.scad_grammar.proofs.Ahead.{Two, Ahead, two, rest_of, ahead_reads}
use Rattle.scad_grammar.proofs.Tests.{OneReads, either_listed, one_at, then, apart, next_apart, next_within, next_less, next_other}
use Rattle.scad_grammar.proofs.Nested.{nested_reads}
use Rattle.scad_grammar.proofs.Levels.{goes_on, AllOne, chain_reads}
use Rattle.scad_grammar.proofs.Operands.{token, here, operand_more, unary_signs, suffix_signs, suffix_opens, unary_reads}
use Rattle.scad_grammar.proofs.Primary.{Some_of, colon_one, args_reads, primary_opens, primary_reads}

-- what may go on an expression, and an argument
abbrev pub chain_more : List ℕ
chain_more = goes_on levels operand_more

abbrev pub expression_more : List ℕ
expression_more = question_sign ∷ chain_more

abbrev pub arg_more : List ℕ
arg_more = assign_sign ∷ expression_more

question_one : OneReads (has_class question_sign)
question_one = one_at (has_class question_sign) (token (Symbol Question), refl)

-- what begins an operand, a chain, an expression, an argument
pub unary_opens : (E : Language Term) (As : Language (List ArgTerm)) (U : Language Term) → Opens (Unary E As U) (has_class_in firsts_of_expression)
unary_opens E As U =
    either_opens (Concatenation unary_term (SingleToken (has_class_in unary_signs)) U) (Postfix E As) (has_class_in firsts_of_expression)
    (λ x s rest h. next_within unary_signs firsts_of_expression refl (s ++ rest) (both_opens unary_term (SingleToken (has_class_in unary_signs)) U (has_class_in unary_signs) (one_opens (has_class_in unary_signs)) x s rest h))
    (λ x s rest h. next_within firsts_of_primary firsts_of_expression refl (s ++ rest) (both_opens postfix_term (Primary E As) (Repetition (Suffix E)) (has_class_in firsts_of_primary) (primary_opens E As) x s rest h))

chain_opens : (levels : List (List ℕ)) (X : Language Term) (test : Token → Bool) → Opens X test → Opens (Chain levels X) test
chain_opens [] X test o = o
chain_opens (ops ∷ levels) X test o = both_opens chain_term (Chain levels X) (Repetition (Concatenation link_term (SingleToken (has_class_in ops)) (Chain levels X))) test (chain_opens levels X test o)

pub choice_opens : (E : Language Term) (As : Language (List ArgTerm)) (U : Language Term) → Opens (Choice E As U) (has_class_in firsts_of_expression)
choice_opens E As U = both_opens choice_term (Chain levels (Unary E As U)) _ (has_class_in firsts_of_expression) (chain_opens levels (Unary E As U) (has_class_in firsts_of_expression) (unary_opens E As U))

-- the same, or a gap
abbrev pub open_firsts_of_expression : List ℕ
open_firsts_of_expression = caret_sign ∷ firsts_of_expression

pub expr_opens : (g : Detail) (d : ℕ) → Opens (Expr g d) (has_class_in open_firsts_of_expression)
unfolding Expr Operand
expr_opens without_gaps zero x s rest h = elim h [ ]
expr_opens with_gaps zero x s rest h = next_within (caret_sign ∷ []) open_firsts_of_expression refl (s ++ rest) (mapped_opens (λ t. UndefTerm t.place) (SingleToken (has_class caret_sign)) (has_class caret_sign) (one_opens (has_class caret_sign)) x s rest h)
expr_opens g (suc d) x s rest h = next_within firsts_of_expression open_firsts_of_expression refl (s ++ rest) (choice_opens (Expr g d) (ArgsIn d (Expr g d)) (Operand g d) x s rest h)

pub arg_opens : (E : Language Term) → Opens E (has_class_in open_firsts_of_expression) → Opens (Arg E) (has_class_in open_firsts_of_expression)
arg_opens E o =
    either_opens _ (ImageOf PositionalTerm E) (has_class_in open_firsts_of_expression)
    (λ x s rest h. next_within argument_names open_firsts_of_expression refl (s ++ rest) (both_opens named_argument_term (SingleToken (has_class_in argument_names)) (AfterToken (has_class assign_sign) E) (has_class_in argument_names) (one_opens (has_class_in argument_names)) x s rest h))
    (mapped_opens PositionalTerm E (has_class_in open_firsts_of_expression) o)

-- a numeral alone
abbrev pub zero_token : Token
zero_token = token (Numeral 0)

abbrev pub zero_term : Term
zero_term = NumberTerm here 0

-- a primary alone
alone_unary : (E : Language Term) (As : Language (List ArgTerm)) (U : Language Term) (x : Term) (s : List Token) → Primary E As x s → Unary E As U x s
alone_unary E As U x s h = inr (x, [], s, [], h, refl, refl, sym (append-nil s))

alone_chain : (levels : List (List ℕ)) (X : Language Term) (x : Term) (s : List Token) → X x s → Chain levels X x s
alone_chain [] X x s h = h
alone_chain (ops ∷ levels) X x s h = (x, [], s, [], alone_chain levels X x s h, refl, refl, sym (append-nil s))

alone_choice : (E : Language Term) (As : Language (List ArgTerm)) (U : Language Term) (x : Term) (s : List Token) → Unary E As U x s → Choice E As U x s
alone_choice E As U x s h = (x, None, s, [], alone_chain levels (Unary E As U) x s h, refl, refl, sym (append-nil s))

zero_unary : (E : Language Term) (As : Language (List ArgTerm)) (U : Language Term) → Unary E As U zero_term (zero_token ∷ [])
zero_unary E As U = alone_unary E As U zero_term (zero_token ∷ []) (inl (zero_token, (refl, refl), refl))

zero_choice : (E : Language Term) (As : Language (List ArgTerm)) (U : Language Term) → Choice E As U zero_term (zero_token ∷ [])
zero_choice E As U = alone_choice E As U zero_term (zero_token ∷ []) (zero_unary E As U)

-- no expression begins with the name of an argument and an `=`
abbrev pub Unlike : {A : Type 0} → Language A → Type 0
Unlike {A} L = (x : A) (s rest : List Token) → L x s → next_is (has_class assign_sign) rest ≡ false → two (has_class_in argument_names) (has_class assign_sign) (s ++ rest) ≡ false

pub two_not : (cs : List ℕ) (l : List Token) → next_is (has_class_in cs) l ≡ false → two (has_class_in cs) (has_class assign_sign) l ≡ false
two_not cs [] e = refl
two_not cs (t ∷ []) e = refl
two_not cs (t ∷ u ∷ l) e = ap (λ b. b && has_class assign_sign u) e

and_false : (b c : Bool) → c ≡ false → (b && c) ≡ false
and_false true c e = e
and_false false c e = refl

pub two_name : (cs : List ℕ) (t : Token) (l : List Token) → next_is (has_class assign_sign) l ≡ false → two (has_class_in cs) (has_class assign_sign) (t ∷ l) ≡ false
two_name cs t [] e = refl
two_name cs t (u ∷ l) e = and_false (has_class_in cs t) (has_class assign_sign u) e

opens_unlike : {A : Type 0} (L : Language A) (cs : List ℕ) → apart cs argument_names ≡ true → Opens L (has_class_in cs) → Unlike L
opens_unlike L cs a o x s rest h e = two_not argument_names (s ++ rest) (next_apart cs argument_names a (s ++ rest) (o x s rest h))

both_unlike : {A B C : Type 0} (f : A → B → C) (La : Language A) (Lb : Language B) → Unlike La → ((y : B) (s rest : List Token) → Lb y s → next_is (has_class assign_sign) rest ≡ false → next_is (has_class assign_sign) (s ++ rest) ≡ false) → Unlike (Concatenation f La Lb)
both_unlike f La Lb ua ob c s rest h e = ap (λ l. two (has_class_in argument_names) (has_class assign_sign) (l ++ rest)) h.7 ∙ ap (two (has_class_in argument_names) (has_class assign_sign)) (append_assoc h.2 h.3 rest) ∙ ua h.0 h.2 (h.3 ++ rest) h.4 (ob h.1 h.3 rest h.5 e)

either_unlike : {A : Type 0} (La Lb : Language A) → Unlike La → Unlike Lb → Unlike (Alternation La Lb)
either_unlike La Lb ua ub x s rest (inl h) e = ua x s rest h e
either_unlike La Lb ua ub x s rest (inr h) e = ub x s rest h e

single_unlike : (c : ℕ) (f : Token → Term) → apart (c ∷ []) argument_names ≡ true → Unlike (ImageOf f (SingleToken (has_class c)))
single_unlike c f a = opens_unlike (ImageOf f (SingleToken (has_class c))) (c ∷ []) a (mapped_opens f (SingleToken (has_class c)) (has_class c) (one_opens (has_class c)))

many_keeps : {A : Type 0} (L : Language A) (cs : List ℕ) → apart cs (assign_sign ∷ []) ≡ true → Opens L (has_class_in cs) → (ys : List A) (s rest : List Token) → Repetition L ys s → next_is (has_class assign_sign) rest ≡ false → next_is (has_class assign_sign) (s ++ rest) ≡ false
many_keeps L cs a o [] s rest h e = ap (λ l. next_is (has_class assign_sign) (l ++ rest)) h ∙ e
many_keeps L cs a o (y ∷ ys) s rest h e = ap (λ l. next_is (has_class assign_sign) (l ++ rest)) h.4 ∙ ap (next_is (has_class assign_sign)) (append_assoc h.0 h.1 rest) ∙ next_apart cs (assign_sign ∷ []) a (h.0 ++ (h.1 ++ rest)) (o y h.0 (h.1 ++ rest) h.2)

maybe_keeps : {A : Type 0} (L : Language A) (cs : List ℕ) → apart cs (assign_sign ∷ []) ≡ true → Opens L (has_class_in cs) → (y : Option A) (s rest : List Token) → OptionalSequence L y s → next_is (has_class assign_sign) rest ≡ false → next_is (has_class assign_sign) (s ++ rest) ≡ false
maybe_keeps L cs a o None s rest h e = ap (λ l. next_is (has_class assign_sign) (l ++ rest)) h ∙ e
maybe_keeps L cs a o (Some y) s rest h e = next_apart cs (assign_sign ∷ []) a (s ++ rest) (o y s rest h)

-- a token alone doesn't
one_unlike : (test : Token → Bool) → Unlike (SingleToken test)
one_unlike test t s rest h e = ap (λ l. two (has_class_in argument_names) (has_class assign_sign) (l ++ rest)) h.1 ∙ two_name argument_names t rest e

special_unlike : Unlike (ImageOf (λ t. SpecialTerm t.place (bytes_of t.kind)) (SingleToken (has_class special_class)))
special_unlike x s rest h e = one_unlike (has_class special_class) h.0 s rest h.1 e

primary_unlike : (E : Language Term) (As : Language (List ArgTerm)) → Unlike (Primary E As)
primary_unlike E As =
    either_unlike _ _ (single_unlike numeral_class (λ t. NumberTerm t.place (numeral_value t.kind)) refl)
    (either_unlike _ _ (single_unlike text_class (λ t. TextTerm t.place (bytes_of t.kind)) refl)
    (either_unlike _ _ (single_unlike true_word (λ t. TruthTerm t.place true) refl)
    (either_unlike _ _ (single_unlike false_word (λ t. TruthTerm t.place false) refl)
    (either_unlike _ _ (single_unlike undef_word (λ t. UndefTerm t.place) refl)
    (either_unlike _ _ (single_unlike child_count_class (λ t. ChildCountTerm t.place) refl)
    (either_unlike _ _ special_unlike
    (either_unlike _ _ (both_unlike name_term (SingleToken (has_class name_class)) (OptionalSequence (InParentheses As)) (one_unlike (has_class name_class))
    (maybe_keeps (InParentheses As) (open_parenthesis_sign ∷ []) refl (both_opens second_of (SingleToken (has_class open_parenthesis_sign)) _ (has_class open_parenthesis_sign) (one_opens (has_class open_parenthesis_sign)))))
    (either_unlike _ _ (opens_unlike _ (open_parenthesis_sign ∷ []) refl (both_opens paren_term (SingleToken (has_class open_parenthesis_sign)) (BeforeToken E (has_class close_parenthesis_sign)) (has_class open_parenthesis_sign) (one_opens (has_class open_parenthesis_sign))))
    (opens_unlike (Bracket E) (open_bracket_sign ∷ []) refl (both_opens bracket_term (SingleToken (has_class open_bracket_sign)) _ (has_class open_bracket_sign) (one_opens (has_class open_bracket_sign))))))))))))

unary_unlike : (E : Language Term) (As : Language (List ArgTerm)) (U : Language Term) → Unlike (Unary E As U)
unary_unlike E As U =
    either_unlike (Concatenation unary_term (SingleToken (has_class_in unary_signs)) U) (Postfix E As)
    (opens_unlike _ unary_signs refl (both_opens unary_term (SingleToken (has_class_in unary_signs)) U (has_class_in unary_signs) (one_opens (has_class_in unary_signs))))
    (both_unlike postfix_term (Primary E As) (Repetition (Suffix E)) (primary_unlike E As) (many_keeps (Suffix E) suffix_signs refl (suffix_opens E)))

-- no operator of these levels is an `=`
abbrev no_assign : List (List ℕ) → Bool
no_assign [] = true
no_assign (ops ∷ levels) = cond (apart ops (assign_sign ∷ [])) (no_assign levels) false

cond_true : (b c : Bool) → cond b c false ≡ true → (b ≡ true) × (c ≡ true)
cond_true true c e = (refl, e)
cond_true false c e = absurd (cc)

chain_unlike : (levels : List (List ℕ)) (X : Language Term) → no_assign levels ≡ true → Unlike X → Unlike (Chain levels X)
chain_unlike [] X n u = u
chain_unlike (ops ∷ levels) X n u =
    let k = cond_true (apart ops (assign_sign ∷ [])) (no_assign levels) n in
    both_unlike chain_term (Chain levels X) (Repetition (Concatenation link_term (SingleToken (has_class_in ops)) (Chain levels X))) (chain_unlike levels X k.1 u)
    (many_keeps (Concatenation link_term (SingleToken (has_class_in ops)) (Chain levels X)) ops k.0 (both_opens link_term (SingleToken (has_class_in ops)) (Chain levels X) (has_class_in ops) (one_opens (has_class_in ops))))

-- what stands behind a condition
abbrev Sides : Language Term → Language (Token × (Term × Term))
Sides E = Concatenation pair_of (SingleToken (has_class question_sign)) (Concatenation pair_of E (AfterToken (has_class colon_sign) E))

sides_open : (E : Language Term) → Opens (Sides E) (has_class question_sign)
sides_open E = both_opens pair_of (SingleToken (has_class question_sign)) _ (has_class question_sign) (one_opens (has_class question_sign))

pub choice_unlike : (E : Language Term) (As : Language (List ArgTerm)) (U : Language Term) → Unlike (Choice E As U)
choice_unlike E As U = both_unlike choice_term (Chain levels (Unary E As U)) (OptionalSequence (Sides E)) (chain_unlike levels (Unary E As U) refl (unary_unlike E As U)) (maybe_keeps (Sides E) (question_sign ∷ []) refl (sides_open E))

-- two tokens and something are a token, and something behind a token
module _ {A C : Type 0} (f : Token → A → C) (a b : Token → Bool) (L : Language A) where
  pub two_to : (c : C) (s : List Token) → Two (λ t u x. f t x) a b L c s → Concatenation f (SingleToken a) (AfterToken b L) c s
  two_to c s h = (h.0, h.2, h.0 ∷ [], h.1 ∷ h.3, (h.4, refl), (h.1, h.2, h.1 ∷ [], h.3, (h.5, refl), h.6, refl, refl), h.7, h.8)

  pub two_from : (c : C) (s : List Token) → Concatenation f (SingleToken a) (AfterToken b L) c s → Two (λ t u x. f t x) a b L c s
  two_from c s h =
      let k = h.5 in
      (h.0, k.0, k.1, k.3, h.4.0, k.4.0, k.5, h.6 ∙ ap (f h.0) k.6, h.7 ∙ ap (λ l. l ++ h.3) h.4.1 ∙ ap (λ l. h.0 ∷ l) (k.7 ∙ ap (λ l. l ++ k.3) k.4.1))

-- an argument is told from a named one by its second token
module _ (e : TokenReader Term) (E F : Language Term) (ie : IsReader e E F (λ x. has_class_in expression_more)) (alone : (t : Token) → has_class_in argument_names t ≡ true → (x : Term) × E x (t ∷ [])) (unlike : Unlike E) where
  to_arg : (L : Language Term) (c : ArgTerm) (s : List Token) → Ahead argument_of_tokens (has_class_in argument_names) (has_class assign_sign) L (ImageOf PositionalTerm L) c s → Arg L c s
  to_arg L c s (inl h) = inl (two_to named_argument_term (has_class_in argument_names) (has_class assign_sign) L c s h)
  to_arg L c s (inr h) = inr h

  from_arg : (L : Language Term) (c : ArgTerm) (s : List Token) → Arg L c s → Ahead argument_of_tokens (has_class_in argument_names) (has_class assign_sign) L (ImageOf PositionalTerm L) c s
  from_arg L c s (inl h) = inl (two_from named_argument_term (has_class_in argument_names) (has_class assign_sign) L c s h)
  from_arg L c s (inr h) = inr h

  pub arg_reads : IsReader (arg_read e) (Arg E) (Arg F) (λ x. has_class_in arg_more)
  arg_reads =
      same_reads (arg_read e) (Ahead argument_of_tokens (has_class_in argument_names) (has_class assign_sign) E (ImageOf PositionalTerm E)) (Ahead argument_of_tokens (has_class_in argument_names) (has_class assign_sign) F (ImageOf PositionalTerm F)) (Arg E) (Arg F) (λ x. has_class_in arg_more)
      (ahead_reads argument_of_tokens (has_class_in argument_names) (has_class assign_sign) e (image_read PositionalTerm e) E F (ImageOf PositionalTerm E) (ImageOf PositionalTerm F) (λ x. has_class_in expression_more) (λ x. has_class_in arg_more) ie
      (mapped_reads PositionalTerm e E F (λ x. has_class_in expression_more) (λ x. has_class_in arg_more) ie (λ x. next_less expression_more arg_more refl))
      (λ t u x. next_less expression_more arg_more refl)
      (λ t h. ap rest_of (ap (λ q. then_read q (λ x us. Ok (PositionalTerm x, us))) (ie.complete (alone t h).0 (t ∷ []) [] (alone t h).1 refl)))
      (λ c s rest h k. unlike h.0 s rest h.1 (next_less (assign_sign ∷ []) arg_more refl rest k)))
      (to_arg E) (from_arg E) (to_arg F)

-- one token of each level
levels_one : AllOne levels
levels_one = (
  one_at (has_class_in (or_sign ∷ [])) (token (Symbol Or), refl),
  (
    one_at (has_class_in (and_sign ∷ [])) (token (Symbol And), refl),
    (
      one_at (has_class_in (equal_sign ∷ not_equal_sign ∷ [])) (token (Symbol Equal), refl),
      (
        one_at (has_class_in (less_sign ∷ less_equal_sign ∷ greater_sign ∷ greater_equal_sign ∷ [])) (token (Symbol Less), refl),
        (
          one_at (has_class_in (plus_sign ∷ minus_sign ∷ [])) (token (Symbol Plus), refl),
          (one_at (has_class_in (times_sign ∷ divide_sign ∷ remainder_sign ∷ [])) (token (Symbol Times), refl), tt),
        ),
      ),
    ),
  ),
)

abbrev closes : List ℕ
closes = close_parenthesis_sign ∷ []

-- arguments over an expression
pub args_over : (a : TokenReader ArgTerm) (E F : Language Term) → IsReader a (Arg E) (Arg F) (λ x. has_class_in arg_more) → Opens E (has_class_in open_firsts_of_expression) → IsReader (args_read a) (Args E) (Args F) (λ x. has_class_outside closes)
args_over a E F ia oe = args_reads a E F arg_more ia (λ x s rest h. next_other open_firsts_of_expression closes refl (s ++ rest) (arg_opens E oe x s rest h)) refl refl

-- an expression over the expressions, arguments and operands one deeper
module _ (e : TokenReader Term) (a : TokenReader ArgTerm) (u : TokenReader Term) (E F U V : Language Term) (As Aw : Language (List ArgTerm))
    (ie : IsReader e E F (λ x. has_class_in expression_more)) (ias : IsReader (args_read a) As Aw (λ x. has_class_outside closes)) (iu : IsReader u U V (λ x. has_class_in operand_more))
    (oe : Opens E (has_class_in open_firsts_of_expression)) (some_e : Some_of F) (some_as : Some_of Aw) (some_u : Some_of V) where
  pub operand_reads : IsReader (unary_read e u (primary_read e a)) (Unary E As U) (Unary F Aw V) (λ x. has_class_in operand_more)
  operand_reads =
      unary_reads e E F expression_more ie (λ t s rest h. next_apart (close_bracket_sign ∷ []) expression_more refl (s ++ rest) (one_opens (has_class close_bracket_sign) t s rest h)) some_e
      (primary_read e a) (Primary E As) (Primary F Aw)
      (primary_reads e a E F As Aw expression_more ie ias (λ x s rest h. next_other open_firsts_of_expression (close_bracket_sign ∷ []) refl (s ++ rest) (oe x s rest h)) some_e some_as refl refl refl refl)
      u U V iu some_u (primary_opens E As)

  behind_colon : IsReader (sequence_read second_of (token_read (has_class colon_sign)) e) (AfterToken (has_class colon_sign) E) (AfterToken (has_class colon_sign) F) (λ x. has_class_in expression_more)
  behind_colon = then e E F (has_class colon_sign) (λ x. has_class_in expression_more) (λ x. has_class_in expression_more) second_of colon_one ie some_e (λ t y rest h. h)

  some_behind : Some_of (AfterToken (has_class colon_sign) F)
  some_behind = (token (Symbol Colon) ∷ some_e.0, some_e.1, (token (Symbol Colon), some_e.1, token (Symbol Colon) ∷ [], some_e.0, (refl, refl), some_e.2, refl, refl))

  sides_reads : IsReader (sequence_read pair_of (token_read (has_class question_sign)) (sequence_read pair_of e (sequence_read second_of (token_read (has_class colon_sign)) e))) (Sides E) (Sides F) (λ x. has_class_in expression_more)
  sides_reads =
      then (sequence_read pair_of e (sequence_read second_of (token_read (has_class colon_sign)) e)) (Concatenation pair_of E (AfterToken (has_class colon_sign) E)) (Concatenation pair_of F (AfterToken (has_class colon_sign) F)) (has_class question_sign) (λ x. has_class_in expression_more) (λ x. has_class_in expression_more) pair_of question_one
      (both_reads pair_of e (sequence_read second_of (token_read (has_class colon_sign)) e) E F (AfterToken (has_class colon_sign) E) (AfterToken (has_class colon_sign) F) (λ x. has_class_in expression_more) (λ x. has_class_in expression_more) (λ x. has_class_in expression_more) ie behind_colon some_behind
      (λ x y s rest h k. next_apart (colon_sign ∷ []) expression_more refl (s ++ rest) (both_opens second_of (SingleToken (has_class colon_sign)) E (has_class colon_sign) (one_opens (has_class colon_sign)) y s rest h))
      (λ x y rest k. k))
      (some_e.0 ++ some_behind.0, (some_e.1, some_behind.1), (some_e.1, some_behind.1, some_e.0, some_behind.0, some_e.2, some_behind.2, refl, refl))
      (λ t y rest h. h)

  sides_follow : (x : Term) (y : Option (Token × (Term × Term))) (s rest : List Token) → OptionalSequence (Sides E) y s → next_is (has_class_in expression_more) rest ≡ false → next_is (has_class_in chain_more) (s ++ rest) ≡ false
  sides_follow x None s rest h k = ap (λ l. next_is (has_class_in chain_more) (l ++ rest)) h ∙ next_less chain_more expression_more refl rest k
  sides_follow x (Some y) s rest h k = next_apart (question_sign ∷ []) chain_more refl (s ++ rest) (sides_open E y s rest h)

  pub choice_read_reads : IsReader (choice_read e u (primary_read e a)) (Choice E As U) (Choice F Aw V) (λ x. has_class_in expression_more)
  choice_read_reads =
      both_reads choice_term (chain_read levels (unary_read e u (primary_read e a))) (optional_read (has_class question_sign) (sequence_read pair_of (token_read (has_class question_sign)) (sequence_read pair_of e (sequence_read second_of (token_read (has_class colon_sign)) e))))
      (Chain levels (Unary E As U)) (Chain levels (Unary F Aw V)) (OptionalSequence (Sides E)) (OptionalSequence (Sides F)) (λ x. has_class_in chain_more) (or_first (has_class question_sign) (λ x. has_class_in expression_more)) (λ x. has_class_in expression_more)
      (chain_reads levels operand_more (unary_read e u (primary_read e a)) (Unary E As U) (Unary F Aw V) refl levels_one operand_reads (zero_token ∷ [], zero_term, zero_unary F Aw V))
      (maybe_reads (has_class question_sign) (sequence_read pair_of (token_read (has_class question_sign)) (sequence_read pair_of e (sequence_read second_of (token_read (has_class colon_sign)) e))) (Sides E) (Sides F) (λ x. has_class_in expression_more) sides_reads (sides_open E))
      ([], None, refl)
      sides_follow
      (λ x y rest k. maybe_ends (has_class question_sign) (λ x. has_class_in expression_more) y rest (next_less (question_sign ∷ []) expression_more refl rest k) (λ y. k))

-- a token that may begin an expression begins one, where a numeral stands one deeper
module _ (E : Language Term) (As : Language (List ArgTerm)) (U : Language Term) (e : E zero_term (zero_token ∷ [])) (u : U zero_term (zero_token ∷ [])) where
  abbrev close : Token
  close = token (Symbol CloseParenthesis)

  abbrev close_bracket : Token
  close_bracket = token (Symbol CloseBracket)

  begins_primary : (t : Token) → has_class_in firsts_of_primary t ≡ true → IsPrefixIn (Primary E As) (t ∷ [])
  begins_primary t h =
      elim (either_listed (numeral_class ∷ []) (text_class ∷ true_word ∷ false_word ∷ undef_word ∷ child_count_class ∷ special_class ∷ name_class ∷ open_parenthesis_sign ∷ open_bracket_sign ∷ []) (token_class t.kind) h) [
        | inl a ↦ ([], NumberTerm t.place (numeral_value t.kind), inl (t, (a, refl), refl))
        | inr h ↦ elim (either_listed (text_class ∷ []) (true_word ∷ false_word ∷ undef_word ∷ child_count_class ∷ special_class ∷ name_class ∷ open_parenthesis_sign ∷ open_bracket_sign ∷ []) (token_class t.kind) h) [
          | inl a ↦ ([], TextTerm t.place (bytes_of t.kind), inr (inl (t, (a, refl), refl)))
          | inr h ↦ elim (either_listed (true_word ∷ []) (false_word ∷ undef_word ∷ child_count_class ∷ special_class ∷ name_class ∷ open_parenthesis_sign ∷ open_bracket_sign ∷ []) (token_class t.kind) h) [
            | inl a ↦ ([], TruthTerm t.place true, inr (inr (inl (t, (a, refl), refl))))
            | inr h ↦ elim (either_listed (false_word ∷ []) (undef_word ∷ child_count_class ∷ special_class ∷ name_class ∷ open_parenthesis_sign ∷ open_bracket_sign ∷ []) (token_class t.kind) h) [
              | inl a ↦ ([], TruthTerm t.place false, inr (inr (inr (inl (t, (a, refl), refl)))))
              | inr h ↦ elim (either_listed (undef_word ∷ []) (child_count_class ∷ special_class ∷ name_class ∷ open_parenthesis_sign ∷ open_bracket_sign ∷ []) (token_class t.kind) h) [
                | inl a ↦ ([], UndefTerm t.place, inr (inr (inr (inr (inl (t, (a, refl), refl))))))
                | inr h ↦ elim (either_listed (child_count_class ∷ []) (special_class ∷ name_class ∷ open_parenthesis_sign ∷ open_bracket_sign ∷ []) (token_class t.kind) h) [
                  | inl a ↦ ([], ChildCountTerm t.place, inr (inr (inr (inr (inr (inl (t, (a, refl), refl)))))))
                  | inr h ↦ elim (either_listed (special_class ∷ []) (name_class ∷ open_parenthesis_sign ∷ open_bracket_sign ∷ []) (token_class t.kind) h) [
                    | inl a ↦ ([], SpecialTerm t.place (bytes_of t.kind), inr (inr (inr (inr (inr (inr (inl (t, (a, refl), refl))))))))
                    | inr h ↦ elim (either_listed (name_class ∷ []) (open_parenthesis_sign ∷ open_bracket_sign ∷ []) (token_class t.kind) h) [
                      | inl a ↦ ([], name_term t None, inr (inr (inr (inr (inr (inr (inr (inl (t, None, t ∷ [], [], (a, refl), refl, refl, refl)))))))))
                      | inr h ↦ elim (either_listed (open_parenthesis_sign ∷ []) (open_bracket_sign ∷ []) (token_class t.kind) h) [
                        | inl a ↦ (zero_token ∷ close ∷ [], paren_term t zero_term, inr (inr (inr (inr (inr (inr (inr (inr (inl (t, zero_term, t ∷ [], zero_token ∷ close ∷ [], (a, refl), (zero_term, close, zero_token ∷ [], close ∷ [], e, (refl, refl), refl, refl), refl, refl))))))))))
                        | inr a ↦ (close_bracket ∷ [], bracket_term t None, inr (inr (inr (inr (inr (inr (inr (inr (inr (t, None, t ∷ [], close_bracket ∷ [], (a, refl), (None, close_bracket, [], close_bracket ∷ [], refl, (refl, refl), refl, refl), refl, refl))))))))))
                      ]
                    ]
                  ]
                ]
              ]
            ]
          ]
        ]
      ]

  begins_unary : (t : Token) → has_class_in firsts_of_expression t ≡ true → IsPrefixIn (Unary E As U) (t ∷ [])
  begins_unary t h =
      elim (either_listed unary_signs firsts_of_primary (token_class t.kind) h) [
        | inl a ↦ (zero_token ∷ [], unary_term t zero_term, inl (t, zero_term, t ∷ [], zero_token ∷ [], (a, refl), u, refl, refl))
        | inr a ↦ let b = begins_primary t a in (b.0, b.1, alone_unary E As U b.1 (t ∷ b.0) b.2)
      ]

  begins_choice : (t : Token) → has_class_in firsts_of_expression t ≡ true → IsPrefixIn (Choice E As U) (t ∷ [])
  begins_choice t h = let b = begins_unary t h in (b.0, b.1, alone_choice E As U b.1 (t ∷ b.0) b.2)

no_arg : (c : ArgTerm) (s : List Token) → Arg EmptyLanguage c s → ⊥
no_arg c s (inl h) = elim h.5.5 [ ]
no_arg c s (inr h) = elim h.1 [ ]

begins_arg : (F : Language Term) (l : List Token) → IsPrefixIn F l → IsPrefixIn (Arg F) l
begins_arg F l b = (b.0, PositionalTerm b.1, inr (b.1, b.2, refl))

-- the name of an argument is an expression alone
pub alone_name : (E : Language Term) (As : Language (List ArgTerm)) (U : Language Term) (t : Token) → has_class_in argument_names t ≡ true → (x : Term) × Choice E As U x (t ∷ [])
alone_name E As U t h =
    let k = primary (either_listed (name_class ∷ []) (special_class ∷ []) (token_class t.kind) h) in
    (k.0, alone_choice E As U k.0 (t ∷ []) (alone_unary E As U k.0 (t ∷ []) k.1))
  where
    primary : (has_class name_class t ≡ true) ⊎ (has_class special_class t ≡ true) → (x : Term) × Primary E As x (t ∷ [])
    primary (inl h) = (name_term t None, inr (inr (inr (inr (inr (inr (inr (inl (t, None, t ∷ [], [], (h, refl), refl, refl, refl)))))))))
    primary (inr h) = (SpecialTerm t.place (bytes_of t.kind), inr (inr (inr (inr (inr (inr (inl (t, (h, refl), refl))))))))

abbrev pub ExprIn : ℕ → Language Term
ExprIn = Expr without_gaps

abbrev pub ArgsAt : Detail → ℕ → Language (List ArgTerm)
ArgsAt g d = ArgsIn d (Expr g d)

pub some_expr : (g : Detail) (d : ℕ) → Some_of (Expr g (suc d))
unfolding Expr Operand
some_expr g d = (zero_token ∷ [], zero_term, zero_choice (Expr g d) (ArgsAt g d) (Operand g d))

pub some_operand : (g : Detail) (d : ℕ) → Some_of (Operand g (suc d))
unfolding Expr Operand
some_operand g d = (zero_token ∷ [], zero_term, zero_unary (Expr g d) (ArgsAt g d) (Operand g d))

pub some_args : (g : Detail) (d : ℕ) → Some_of (ArgsAt g d)
some_args g zero = ([], [], (refl, refl))
some_args g (suc d) = ([], [], inr (refl, refl))

no_args : (F : Language Term) → IsReader (args_read (nested_read firsts_of_expression left_out_of_expressions)) (Args EmptyLanguage) (Args F) (λ x. has_class_outside closes) → IsReader (args_read (nested_read firsts_of_expression left_out_of_expressions)) (EmptySequence []) (Args F) (λ x. has_class_outside closes)
no_args F i = same_reads (args_read (nested_read firsts_of_expression left_out_of_expressions)) (Args EmptyLanguage) (Args F) (EmptySequence []) (Args F) (λ x. has_class_outside closes) i none (λ x s h. inr h) (λ x s h. h)
  where
    none : (x : List ArgTerm) (s : List Token) → Args EmptyLanguage x s → EmptySequence [] x s
    none x s (inl h) = elim (no_arg h.4.0 h.4.2 h.4.4) [ ]
    none x s (inr h) = h

-- What is read at a depth is in the grammar of that depth, and what is taken before a fault begins something that is at most
-- two deeper.
pub depth_reads : (d : ℕ) → IsReader (expr_read d) (ExprIn d) (ExprIn (suc (suc d))) (λ x. has_class_in expression_more) × IsReader (operand_read d) (Operand without_gaps d) (Operand without_gaps (suc (suc d))) (λ x. has_class_in operand_more) × IsReader (args_read (arg_in d (expr_read d))) (ArgsAt without_gaps d) (ArgsAt without_gaps (suc (suc d))) (λ x. has_class_outside closes)
unfolding Expr Operand expr_read operand_read
depth_reads zero =
    let begun = begins_choice (ExprIn 1) (ArgsAt without_gaps 1) (Operand without_gaps 1) (zero_choice EmptyLanguage (EmptySequence []) EmptyLanguage) (zero_unary EmptyLanguage (EmptySequence []) EmptyLanguage) in (
      nested_reads firsts_of_expression left_out_of_expressions EmptyLanguage (ExprIn 2) (λ x. has_class_in expression_more) (λ x s h. h) begun (some_expr without_gaps 1),
      nested_reads firsts_of_expression left_out_of_expressions EmptyLanguage (Operand without_gaps 2) (λ x. has_class_in operand_more) (λ x s h. h) (begins_unary (ExprIn 1) (ArgsAt without_gaps 1) (Operand without_gaps 1) (zero_choice EmptyLanguage (EmptySequence []) EmptyLanguage) (zero_unary EmptyLanguage (EmptySequence []) EmptyLanguage)) (some_operand without_gaps 1),
      no_args (ExprIn 2)
          (args_over (nested_read firsts_of_expression left_out_of_expressions) EmptyLanguage (ExprIn 2)
          (nested_reads firsts_of_expression left_out_of_expressions (Arg EmptyLanguage) (Arg (ExprIn 2)) (λ x. has_class_in arg_more) no_arg (λ t h. begins_arg (ExprIn 2) (t ∷ []) (begun t h)) (begins_arg (ExprIn 2) [] (some_expr without_gaps 1))) (λ x s rest h. elim h [ ])),
    )
depth_reads (suc d) =
    let below = depth_reads d in
    let token_read = choice_read_reads (expr_read d) (arg_in d (expr_read d)) (operand_read d) (ExprIn d) (ExprIn (suc (suc d))) (Operand without_gaps d) (Operand without_gaps (suc (suc d))) (ArgsAt without_gaps d) (ArgsAt without_gaps (suc (suc d))) below.0 below.2 below.1 (expr_opens without_gaps d) (some_expr without_gaps (suc d)) (some_args without_gaps (suc (suc d))) (some_operand without_gaps (suc d)) in (
      token_read,
      operand_reads (expr_read d) (arg_in d (expr_read d)) (operand_read d) (ExprIn d) (ExprIn (suc (suc d))) (Operand without_gaps d) (Operand without_gaps (suc (suc d))) (ArgsAt without_gaps d) (ArgsAt without_gaps (suc (suc d))) below.0 below.2 below.1 (expr_opens without_gaps d) (some_expr without_gaps (suc d)) (some_args without_gaps (suc (suc d))) (some_operand without_gaps (suc d)),
      args_over (arg_read (expr_read (suc d))) (ExprIn (suc d)) (ExprIn (suc (suc (suc d))))
          (arg_reads (expr_read (suc d)) (ExprIn (suc d)) (ExprIn (suc (suc (suc d)))) token_read (alone_name (ExprIn d) (ArgsAt without_gaps d) (Operand without_gaps d)) (choice_unlike (ExprIn d) (ArgsAt without_gaps d) (Operand without_gaps d))) (expr_opens without_gaps (suc d)),
    )
