-- What is read of primaries is in the grammar, where that holds of the expressions and arguments in them.
use Rattle.std.proofs.Common.{◌≡◌, ℕ, List, [], ◌∷◌, ◌++◌, Bool, true, false, Option, Some, None, inl, inr, refl, sym, ap, ◌∙◌, append-nil, append_assoc, codes}
use Rattle.scad_lexer.specs.declared.token.Token.{Token}
use Rattle.scad_lexer.specs.declared.token.TokenKind.TheVariants.{Numeral, Special, Text, Reserved, Symbol}
use Rattle.scad_lexer.specs.declared.token.Reserved.TheVariants.{True, False, Undef}
use Rattle.scad_lexer.specs.declared.token.Symbol.TheVariants.{OpenParenthesis, CloseParenthesis, OpenBracket, CloseBracket, Colon}
use Rattle.scad_ast.specs.Terms.{Term, NumberTerm, TextTerm, TruthTerm, UndefTerm, ChildCountTerm, SpecialTerm, ArgTerm}
use Rattle.scad_grammar.specs.Classes.{numeral_class, text_class, true_word, false_word, undef_word, child_count_class, special_class, name_class, open_parenthesis_sign, close_parenthesis_sign, open_bracket_sign, close_bracket_sign, comma_sign, colon_sign, has_class_in, has_class, has_class_outside, numeral_value, bytes_of}
use Rattle.scad_grammar.specs.Languages.{Language, SingleToken, ImageOf, Concatenation, Alternation, EmptySequence, Repetition, OptionalSequence, BeforeToken, AfterToken, SeparatedList, first_of, second_of, pair_of, cons}
use Rattle.scad_grammar.specs.Grammar.{InParentheses, Arg, Args, Primary, Bracket, Rest, items, bracket_term, range_rest, name_term, paren_term}
use Rattle.scad_grammar.specs.Reading.{next_is, image_read, empty_read, sequence_read, alternative_read, optional_read, trailing_items}
use Rattle.scad_grammar.specs.Faults.{TokenReader, token_read, first_token_read}
use Rattle.scad_grammar.specs.Reads.{firsts_of_primary, args_read, in_parentheses, range_read, rest_read, bracket_read, name_read, paren_read, primary_read}
use Rattle.scad_grammar.proofs.lemmas.Readers.{IsReader, Opens, both_reads, choice_reads, mapped_reads, more_reads, nothing_reads, both_opens, either_opens, mapped_opens, one_opens, never_starts}
use Rattle.scad_grammar.proofs.Greedy.{or_first, maybe_ends, maybe_reads}
use Rattle.scad_grammar.proofs.SeparatedList.{separated_reads, items_reads}
use Rattle.scad_grammar.proofs.Tests.{OneReads, one_at, first_at, then, apart, within, next_apart, next_within, no_close, close_ends}
use Rattle.scad_grammar.proofs.Operands.{token, name_one, close_bracket_one}

pub open_parenthesis_one : OneReads (has_class open_parenthesis_sign)
open_parenthesis_one = one_at (has_class open_parenthesis_sign) (token (Symbol OpenParenthesis), refl)

pub close_parenthesis_one : OneReads (has_class close_parenthesis_sign)
close_parenthesis_one = one_at (has_class close_parenthesis_sign) (token (Symbol CloseParenthesis), refl)

pub colon_one : OneReads (has_class colon_sign)
colon_one = one_at (has_class colon_sign) (token (Symbol Colon), refl)

abbrev pub Some_of : {A : Type 0} → Language A → Type 0
Some_of {A} L = (w : List Token) × (y : A) × L y w

pub some_before : {A : Type 0} (L : Language A) (c : ℕ) (t : Token) → has_class c t ≡ true → Some_of L → Some_of (BeforeToken L (has_class c))
some_before L c t h s = (s.0 ++ t ∷ [], s.1, (s.1, t, s.0, t ∷ [], s.2, (h, refl), refl, refl))

-- something before a token that doesn't go on it
pub before_reads : {A : Type 0} (r : TokenReader A) (L W : Language A) (c : ℕ) (more : A → Token → Bool) → OneReads (has_class c) → (t : Token) → has_class c t ≡ true → IsReader r L W more
    → ((x : A) (l : List Token) → next_is (has_class c) l ≡ true → next_is (more x) l ≡ false) → IsReader (sequence_read first_of r (token_read (has_class c))) (BeforeToken L (has_class c)) (BeforeToken W (has_class c)) (λ x t. false)
before_reads r L W c more ic t h ir stops =
    both_reads first_of r (token_read (has_class c)) L W (SingleToken (has_class c)) (SingleToken (has_class c)) more (λ x t. false) (λ x t. false) ir ic (t ∷ [], t, (h, refl)) (λ x u s rest o k. stops x (s ++ rest) (one_opens (has_class c) u s rest o)) (λ x u rest k. k)

-- something in parentheses
pub in_parentheses_reads : {A : Type 0} (r : TokenReader A) (L W : Language A) (more : A → Token → Bool) → IsReader r L W more → Some_of W → ((x : A) (l : List Token) → next_is (has_class close_parenthesis_sign) l ≡ true → next_is (more x) l ≡ false)
    → IsReader (in_parentheses r) (InParentheses L) (InParentheses W) (λ x t. false)
in_parentheses_reads r L W more ir some stops =
    then (sequence_read first_of r (token_read (has_class close_parenthesis_sign))) (BeforeToken L (has_class close_parenthesis_sign)) (BeforeToken W (has_class close_parenthesis_sign)) (has_class open_parenthesis_sign) (λ x t. false) (λ x t. false) second_of open_parenthesis_one
    (before_reads r L W close_parenthesis_sign more close_parenthesis_one (token (Symbol CloseParenthesis)) refl ir stops)
    (some_before W close_parenthesis_sign (token (Symbol CloseParenthesis)) refl some) (λ t y rest h. h)

-- one alternative of a single token, before others
single_reads : (c : ℕ) (cs : List ℕ) (f : Token → Term) → OneReads (has_class c) → (r : TokenReader Term) (L W : Language Term) (more : Term → Token → Bool) → IsReader r L W more → Opens L (has_class_in cs) → apart cs (c ∷ []) ≡ true
    → IsReader (alternative_read (has_class c) (image_read f (token_read (has_class c))) r) (Alternation (ImageOf f (SingleToken (has_class c))) L) (Alternation (ImageOf f (SingleToken (has_class c))) W) more
single_reads c cs f ic r L W more ir opens a =
    choice_reads (has_class c) (image_read f (token_read (has_class c))) r (ImageOf f (SingleToken (has_class c))) (ImageOf f (SingleToken (has_class c))) L W more
    (mapped_reads f (token_read (has_class c)) (SingleToken (has_class c)) (SingleToken (has_class c)) (λ x t. false) more ic (λ x rest h. never_starts rest)) ir
    (mapped_opens f (SingleToken (has_class c)) (has_class c) (one_opens (has_class c)))
    (λ x s rest h k. next_apart cs (c ∷ []) a (s ++ rest) (opens x s rest h))

single_opens : (c : ℕ) (cs all : List ℕ) (f : Token → Term) (L : Language Term) → within (c ∷ []) all ≡ true → within cs all ≡ true → Opens L (has_class_in cs) → Opens (Alternation (ImageOf f (SingleToken (has_class c))) L) (has_class_in all)
single_opens c cs all f L w v opens =
    either_opens (ImageOf f (SingleToken (has_class c))) L (has_class_in all) (λ x s rest h. next_within (c ∷ []) all w (s ++ rest) (mapped_opens f (SingleToken (has_class c)) (has_class c) (one_opens (has_class c)) x s rest h)) (λ x s rest h. next_within cs all v (s ++ rest) (opens x s rest h))

abbrev bracket_firsts : List ℕ
bracket_firsts = open_bracket_sign ∷ []

abbrev paren_firsts : List ℕ
paren_firsts = open_parenthesis_sign ∷ bracket_firsts

abbrev name_firsts : List ℕ
name_firsts = name_class ∷ paren_firsts

abbrev special_firsts : List ℕ
special_firsts = special_class ∷ name_firsts

abbrev child_firsts : List ℕ
child_firsts = child_count_class ∷ special_firsts

abbrev undef_firsts : List ℕ
undef_firsts = undef_word ∷ child_firsts

abbrev false_firsts : List ℕ
false_firsts = false_word ∷ undef_firsts

abbrev true_firsts : List ℕ
true_firsts = true_word ∷ false_firsts

abbrev text_firsts : List ℕ
text_firsts = text_class ∷ true_firsts

abbrev NameForm : Language (List ArgTerm) → Language Term
NameForm As = Concatenation name_term (SingleToken (has_class name_class)) (OptionalSequence (InParentheses As))

abbrev ParenForm : Language Term → Language Term
ParenForm E = Concatenation paren_term (SingleToken (has_class open_parenthesis_sign)) (BeforeToken E (has_class close_parenthesis_sign))

-- the alternatives of a primary from each one on
abbrev FromParen : Language Term → Language Term
FromParen E = Alternation (ParenForm E) (Bracket E)

abbrev FromName : Language Term → Language (List ArgTerm) → Language Term
FromName E As = Alternation (NameForm As) (FromParen E)

abbrev FromSpecial : Language Term → Language (List ArgTerm) → Language Term
FromSpecial E As = Alternation (ImageOf (λ t. SpecialTerm t.place (bytes_of t.kind)) (SingleToken (has_class special_class))) (FromName E As)

abbrev FromChild : Language Term → Language (List ArgTerm) → Language Term
FromChild E As = Alternation (ImageOf (λ t. ChildCountTerm t.place) (SingleToken (has_class child_count_class))) (FromSpecial E As)

abbrev FromUndef : Language Term → Language (List ArgTerm) → Language Term
FromUndef E As = Alternation (ImageOf (λ t. UndefTerm t.place) (SingleToken (has_class undef_word))) (FromChild E As)

abbrev FromFalse : Language Term → Language (List ArgTerm) → Language Term
FromFalse E As = Alternation (ImageOf (λ t. TruthTerm t.place false) (SingleToken (has_class false_word))) (FromUndef E As)

abbrev FromTrue : Language Term → Language (List ArgTerm) → Language Term
FromTrue E As = Alternation (ImageOf (λ t. TruthTerm t.place true) (SingleToken (has_class true_word))) (FromFalse E As)

abbrev FromText : Language Term → Language (List ArgTerm) → Language Term
FromText E As = Alternation (ImageOf (λ t. TextTerm t.place (bytes_of t.kind)) (SingleToken (has_class text_class))) (FromTrue E As)

bracket_opens : (E : Language Term) → Opens (Bracket E) (has_class_in bracket_firsts)
bracket_opens E = both_opens bracket_term (SingleToken (has_class open_bracket_sign)) _ (has_class open_bracket_sign) (one_opens (has_class open_bracket_sign))

from_paren_opens : (E : Language Term) → Opens (FromParen E) (has_class_in paren_firsts)
from_paren_opens E =
    either_opens (ParenForm E) (Bracket E) (has_class_in paren_firsts)
    (λ x s rest h. next_within (open_parenthesis_sign ∷ []) paren_firsts refl (s ++ rest) (both_opens paren_term (SingleToken (has_class open_parenthesis_sign)) _ (has_class open_parenthesis_sign) (one_opens (has_class open_parenthesis_sign)) x s rest h))
    (λ x s rest h. next_within bracket_firsts paren_firsts refl (s ++ rest) (bracket_opens E x s rest h))

from_name_opens : (E : Language Term) (As : Language (List ArgTerm)) → Opens (FromName E As) (has_class_in name_firsts)
from_name_opens E As =
    either_opens (NameForm As) (FromParen E) (has_class_in name_firsts)
    (λ x s rest h. next_within (name_class ∷ []) name_firsts refl (s ++ rest) (both_opens name_term (SingleToken (has_class name_class)) _ (has_class name_class) (one_opens (has_class name_class)) x s rest h))
    (λ x s rest h. next_within paren_firsts name_firsts refl (s ++ rest) (from_paren_opens E x s rest h))

from_special_opens : (E : Language Term) (As : Language (List ArgTerm)) → Opens (FromSpecial E As) (has_class_in special_firsts)
from_special_opens E As = single_opens special_class name_firsts special_firsts (λ t. SpecialTerm t.place (bytes_of t.kind)) (FromName E As) refl refl (from_name_opens E As)

from_child_opens : (E : Language Term) (As : Language (List ArgTerm)) → Opens (FromChild E As) (has_class_in child_firsts)
from_child_opens E As = single_opens child_count_class special_firsts child_firsts (λ t. ChildCountTerm t.place) (FromSpecial E As) refl refl (from_special_opens E As)

from_undef_opens : (E : Language Term) (As : Language (List ArgTerm)) → Opens (FromUndef E As) (has_class_in undef_firsts)
from_undef_opens E As = single_opens undef_word child_firsts undef_firsts (λ t. UndefTerm t.place) (FromChild E As) refl refl (from_child_opens E As)

from_false_opens : (E : Language Term) (As : Language (List ArgTerm)) → Opens (FromFalse E As) (has_class_in false_firsts)
from_false_opens E As = single_opens false_word undef_firsts false_firsts (λ t. TruthTerm t.place false) (FromUndef E As) refl refl (from_undef_opens E As)

from_true_opens : (E : Language Term) (As : Language (List ArgTerm)) → Opens (FromTrue E As) (has_class_in true_firsts)
from_true_opens E As = single_opens true_word false_firsts true_firsts (λ t. TruthTerm t.place true) (FromFalse E As) refl refl (from_false_opens E As)

from_text_opens : (E : Language Term) (As : Language (List ArgTerm)) → Opens (FromText E As) (has_class_in text_firsts)
from_text_opens E As = single_opens text_class true_firsts text_firsts (λ t. TextTerm t.place (bytes_of t.kind)) (FromTrue E As) refl refl (from_true_opens E As)

pub primary_opens : (E : Language Term) (As : Language (List ArgTerm)) → Opens (Primary E As) (has_class_in firsts_of_primary)
primary_opens E As = single_opens numeral_class text_firsts firsts_of_primary (λ t. NumberTerm t.place (numeral_value t.kind)) (FromText E As) refl refl (from_text_opens E As)

abbrev closes : List ℕ
closes = close_parenthesis_sign ∷ []

-- a reads an argument, and more_arg may go on it
module _ (a : TokenReader ArgTerm) (E F : Language Term) (more_arg : List ℕ) (ia : IsReader a (Arg E) (Arg F) (λ x. has_class_in more_arg)) (oa : Opens (Arg E) (has_class_outside (close_parenthesis_sign ∷ [])))
    (no_parenthesis_arg : apart (close_parenthesis_sign ∷ []) more_arg ≡ true) (no_comma_arg : apart (comma_sign ∷ []) more_arg ≡ true) where
  pub args_reads : IsReader (args_read a) (Args E) (Args F) (λ x. has_class_outside closes)
  args_reads =
      choice_reads (has_class_outside closes) (sequence_read cons a (trailing_items (has_class comma_sign) (has_class_outside closes) a)) (empty_read []) (SeparatedList (has_class comma_sign) (Arg E)) (SeparatedList (has_class comma_sign) (Arg F)) (EmptySequence []) (EmptySequence []) (λ x. has_class_outside closes)
      (separated_reads (has_class comma_sign) (has_class_outside closes) a (Arg E) (Arg F) (λ x. has_class_in more_arg) (has_class_outside closes) ia oa (λ x. next_apart (comma_sign ∷ []) more_arg no_comma_arg)
      (λ x. no_close closes more_arg no_parenthesis_arg) (no_close closes (comma_sign ∷ []) refl) (λ rest h. h))
      (nothing_reads [] (λ x. has_class_outside closes))
      (both_opens first_of _ _ (has_class_outside closes) (both_opens cons (Arg E) _ (has_class_outside closes) oa))
      (λ x s rest h k. ap (λ l. next_is (has_class_outside closes) (l ++ rest)) h.1 ∙ k)

-- E and F hold expressions one deeper, As and Aw arguments; more may go on an expression
module _ (e : TokenReader Term) (a : TokenReader ArgTerm) (E F : Language Term) (As Aw : Language (List ArgTerm)) (more : List ℕ) (ie : IsReader e E F (λ x. has_class_in more)) (ias : IsReader (args_read a) As Aw (λ x. has_class_outside closes))
    (oe : Opens E (has_class_outside (close_bracket_sign ∷ []))) (some_e : Some_of F) (some_as : Some_of Aw)
    (no_parenthesis : apart (close_parenthesis_sign ∷ []) more ≡ true) (no_bracket : apart (close_bracket_sign ∷ []) more ≡ true) (no_comma : apart (comma_sign ∷ []) more ≡ true) (no_colon : apart (colon_sign ∷ []) more ≡ true) where
  range_reads : IsReader (range_read e) (AfterToken (has_class colon_sign) (Concatenation range_rest E (OptionalSequence (AfterToken (has_class colon_sign) E)))) (AfterToken (has_class colon_sign) (Concatenation range_rest F (OptionalSequence (AfterToken (has_class colon_sign) F)))) (λ x. has_class_outside (close_bracket_sign ∷ []))
  range_reads =
      then (sequence_read range_rest e (optional_read (has_class colon_sign) (sequence_read second_of (token_read (has_class colon_sign)) e))) (Concatenation range_rest E (OptionalSequence (AfterToken (has_class colon_sign) E))) (Concatenation range_rest F (OptionalSequence (AfterToken (has_class colon_sign) F))) (has_class colon_sign) (λ x. has_class_outside (close_bracket_sign ∷ [])) (λ x. has_class_outside (close_bracket_sign ∷ [])) second_of colon_one
      (both_reads range_rest e (optional_read (has_class colon_sign) (sequence_read second_of (token_read (has_class colon_sign)) e)) E F (OptionalSequence (AfterToken (has_class colon_sign) E)) (OptionalSequence (AfterToken (has_class colon_sign) F)) (λ x. has_class_in more) (or_first (has_class colon_sign) (λ x. has_class_in more)) (λ x. has_class_outside (close_bracket_sign ∷ []))
      ie
      (maybe_reads (has_class colon_sign) (sequence_read second_of (token_read (has_class colon_sign)) e) (AfterToken (has_class colon_sign) E) (AfterToken (has_class colon_sign) F) (λ x. has_class_in more)
      (then e E F (has_class colon_sign) (λ x. has_class_in more) (λ x. has_class_in more) second_of colon_one ie some_e (λ t y rest h. h))
      (both_opens second_of (SingleToken (has_class colon_sign)) E (has_class colon_sign) (one_opens (has_class colon_sign))))
      ([], None, refl)
      (λ x y s rest h k. follows y s rest h k)
      (λ x y rest k. maybe_ends (has_class colon_sign) (λ x. has_class_in more) y rest (no_close (close_bracket_sign ∷ []) (colon_sign ∷ []) refl rest k) (λ x. no_close (close_bracket_sign ∷ []) more no_bracket rest k)))
      (some_e.0, range_rest some_e.1 None, (some_e.1, None, some_e.0, [], some_e.2, refl, refl, sym (append-nil some_e.0)))
      (λ t y rest h. h)
    where
      follows : (y : Option Term) (s rest : List Token) → OptionalSequence (AfterToken (has_class colon_sign) E) y s → next_is (has_class_outside (close_bracket_sign ∷ [])) rest ≡ false → next_is (has_class_in more) (s ++ rest) ≡ false
      follows None s rest h k = ap (λ l. next_is (has_class_in more) (l ++ rest)) h ∙ no_close (close_bracket_sign ∷ []) more no_bracket rest k
      follows (Some y) s rest h k = next_apart (colon_sign ∷ []) more no_colon (s ++ rest) (both_opens second_of (SingleToken (has_class colon_sign)) E (has_class colon_sign) (one_opens (has_class colon_sign)) y s rest h)

  abbrev brackets : List ℕ
  brackets = close_bracket_sign ∷ []

  abbrev RangeRest : Language Term → Language Rest
  RangeRest E = AfterToken (has_class colon_sign) (Concatenation range_rest E (OptionalSequence (AfterToken (has_class colon_sign) E)))

  abbrev ItemsRest : Language Term → Language Rest
  ItemsRest E = ImageOf items (Concatenation first_of (Repetition (AfterToken (has_class comma_sign) E)) (OptionalSequence (SingleToken (has_class comma_sign))))

  -- items begin with a comma, or there are none
  items_start : (xs : List Term) (m : Option Token) (p q rest : List Token) → Repetition (AfterToken (has_class comma_sign) E) xs p → OptionalSequence (SingleToken (has_class comma_sign)) m q → (ys : List ℕ) → apart (comma_sign ∷ []) ys ≡ true → apart brackets ys ≡ true → next_is (has_class_outside brackets) rest ≡ false → next_is (has_class_in ys) ((p ++ q) ++ rest) ≡ false
  items_start [] None p q rest h k ys c b e = ap (λ l. next_is (has_class_in ys) ((l ++ q) ++ rest)) h ∙ ap (λ l. next_is (has_class_in ys) (l ++ rest)) k ∙ no_close brackets ys b rest e
  items_start [] (Some t) p q rest h k ys c b e = ap (λ l. next_is (has_class_in ys) ((l ++ q) ++ rest)) h ∙ next_apart (comma_sign ∷ []) ys c (q ++ rest) (one_opens (has_class comma_sign) t q rest k)
  items_start (x ∷ xs) m p q rest h k ys c b e =
      ap (λ l. next_is (has_class_in ys) ((l ++ q) ++ rest)) h.4 ∙ ap (λ l. next_is (has_class_in ys) (l ++ rest)) (append_assoc h.0 h.1 q) ∙ ap (next_is (has_class_in ys)) (append_assoc h.0 (h.1 ++ q) rest)
      ∙ next_apart (comma_sign ∷ []) ys c (h.0 ++ ((h.1 ++ q) ++ rest)) (both_opens second_of (SingleToken (has_class comma_sign)) E (has_class comma_sign) (one_opens (has_class comma_sign)) x h.0 ((h.1 ++ q) ++ rest) h.2)

  items_stop : (x : Rest) (s rest : List Token) → ItemsRest E x s → (ys : List ℕ) → apart (comma_sign ∷ []) ys ≡ true → apart brackets ys ≡ true → next_is (has_class_outside brackets) rest ≡ false → next_is (has_class_in ys) (s ++ rest) ≡ false
  items_stop x s rest h ys c b e = let k = h.1 in ap (λ l. next_is (has_class_in ys) (l ++ rest)) k.7 ∙ items_start k.0 k.1 k.2 k.3 rest k.4 k.5 ys c b e

  range_opens : Opens (RangeRest E) (has_class colon_sign)
  range_opens = both_opens second_of (SingleToken (has_class colon_sign)) _ (has_class colon_sign) (one_opens (has_class colon_sign))

  rest_reads : IsReader (rest_read e) (Alternation (RangeRest E) (ItemsRest E)) (Alternation (RangeRest F) (ItemsRest F)) (λ x. has_class_outside brackets)
  rest_reads =
      choice_reads (has_class colon_sign) (range_read e) (image_read items (trailing_items (has_class comma_sign) (has_class_outside brackets) e)) (RangeRest E) (RangeRest F) (ItemsRest E) (ItemsRest F) (λ x. has_class_outside brackets)
      range_reads
      (mapped_reads items (trailing_items (has_class comma_sign) (has_class_outside brackets) e) (Concatenation first_of (Repetition (AfterToken (has_class comma_sign) E)) (OptionalSequence (SingleToken (has_class comma_sign)))) (Concatenation first_of (Repetition (AfterToken (has_class comma_sign) F)) (OptionalSequence (SingleToken (has_class comma_sign)))) (λ x. has_class_outside brackets) (λ x. has_class_outside brackets)
      (items_reads (has_class comma_sign) (has_class_outside brackets) e E F (λ x. has_class_in more) (has_class_outside brackets) ie oe (λ x. next_apart (comma_sign ∷ []) more no_comma)
      (λ x. no_close brackets more no_bracket) (no_close brackets (comma_sign ∷ []) refl) (λ rest h. h))
      (λ x rest h. h))
      range_opens
      (λ x s rest h k. items_stop x s rest h (colon_sign ∷ []) refl refl k)

  rest_follows : (x : Term) (y : Rest) (s rest : List Token) → Alternation (RangeRest E) (ItemsRest E) y s → next_is (has_class_outside brackets) rest ≡ false → next_is (has_class_in more) (s ++ rest) ≡ false
  rest_follows x y s rest (inl h) k = next_apart (colon_sign ∷ []) more no_colon (s ++ rest) (range_opens y s rest h)
  rest_follows x y s rest (inr h) k = items_stop y s rest h more no_comma no_bracket k

  abbrev Filled : Language Term → Language (Term × Rest)
  Filled E = Concatenation pair_of E (Alternation (RangeRest E) (ItemsRest E))

  filled_reads : IsReader (sequence_read pair_of e (rest_read e)) (Filled E) (Filled F) (λ x. has_class_outside brackets)
  filled_reads =
      both_reads pair_of e (rest_read e) E F (Alternation (RangeRest E) (ItemsRest E)) (Alternation (RangeRest F) (ItemsRest F)) (λ x. has_class_in more) (λ x. has_class_outside brackets) (λ x. has_class_outside brackets) ie rest_reads
      ([], items [], inr ([], ([], None, [], [], refl, refl, refl, refl), refl))
      rest_follows (λ x y rest k. k)

  maybe_filled : IsReader (optional_read (has_class_outside brackets) (sequence_read pair_of e (rest_read e))) (OptionalSequence (Filled E)) (OptionalSequence (Filled F)) (λ x. has_class_outside brackets)
  maybe_filled =
      more_reads (optional_read (has_class_outside brackets) (sequence_read pair_of e (rest_read e))) (OptionalSequence (Filled E)) (OptionalSequence (Filled F)) (or_first (has_class_outside brackets) (λ x. has_class_outside brackets)) (λ x. has_class_outside brackets)
      (maybe_reads (has_class_outside brackets) (sequence_read pair_of e (rest_read e)) (Filled E) (Filled F) (λ x. has_class_outside brackets) filled_reads (both_opens pair_of E _ (has_class_outside brackets) oe))
      (λ x rest h. maybe_ends (has_class_outside brackets) (λ x. has_class_outside brackets) x rest h (λ y. h))

  bracket_reads : IsReader (bracket_read e) (Bracket E) (Bracket F) (λ x t. false)
  bracket_reads =
      both_reads bracket_term (first_token_read (has_class open_bracket_sign)) (sequence_read first_of (optional_read (has_class_outside brackets) (sequence_read pair_of e (rest_read e))) (token_read (has_class close_bracket_sign)))
      (SingleToken (has_class open_bracket_sign)) (SingleToken (has_class open_bracket_sign)) (BeforeToken (OptionalSequence (Filled E)) (has_class close_bracket_sign)) (BeforeToken (OptionalSequence (Filled F)) (has_class close_bracket_sign)) (λ x t. false) (λ x t. false) (λ x t. false)
      (first_at (has_class open_bracket_sign) (token (Symbol OpenBracket), refl))
      (before_reads (optional_read (has_class_outside brackets) (sequence_read pair_of e (rest_read e))) (OptionalSequence (Filled E)) (OptionalSequence (Filled F)) close_bracket_sign (λ x. has_class_outside brackets) close_bracket_one (token (Symbol CloseBracket)) refl maybe_filled (λ x. close_ends brackets))
      (some_before (OptionalSequence (Filled F)) close_bracket_sign (token (Symbol CloseBracket)) refl ([], None, refl))
      (λ x y s rest h k. never_starts (s ++ rest)) (λ x y rest k. k)

  abbrev paren_more : Term → Token → Bool
  paren_more x = has_class_in (open_parenthesis_sign ∷ [])

  name_reads : IsReader (name_read a) (NameForm As) (NameForm Aw) paren_more
  name_reads =
      then (optional_read (has_class open_parenthesis_sign) (in_parentheses (args_read a))) (OptionalSequence (InParentheses As)) (OptionalSequence (InParentheses Aw)) (has_class name_class) (or_first (has_class open_parenthesis_sign) (λ x t. false)) paren_more name_term name_one
      (maybe_reads (has_class open_parenthesis_sign) (in_parentheses (args_read a)) (InParentheses As) (InParentheses Aw) (λ x t. false)
      (in_parentheses_reads (args_read a) As Aw (λ x. has_class_outside closes) ias some_as (λ x. close_ends closes))
      (both_opens second_of (SingleToken (has_class open_parenthesis_sign)) _ (has_class open_parenthesis_sign) (one_opens (has_class open_parenthesis_sign))))
      ([], None, refl)
      (λ t y rest h. maybe_ends (has_class open_parenthesis_sign) (λ x t. false) y rest h (λ x. never_starts rest))

  paren_reads : IsReader (paren_read e) (ParenForm E) (ParenForm F) paren_more
  paren_reads =
      then (sequence_read first_of e (token_read (has_class close_parenthesis_sign))) (BeforeToken E (has_class close_parenthesis_sign)) (BeforeToken F (has_class close_parenthesis_sign)) (has_class open_parenthesis_sign) (λ x t. false) paren_more paren_term open_parenthesis_one
      (before_reads e E F close_parenthesis_sign (λ x. has_class_in more) close_parenthesis_one (token (Symbol CloseParenthesis)) refl ie (λ x. next_apart closes more no_parenthesis))
      (some_before F close_parenthesis_sign (token (Symbol CloseParenthesis)) refl some_e) (λ t y rest h. never_starts rest)

  from_paren : IsReader (alternative_read (has_class open_parenthesis_sign) (paren_read e) (bracket_read e)) (FromParen E) (FromParen F) paren_more
  from_paren =
      choice_reads (has_class open_parenthesis_sign) (paren_read e) (bracket_read e) (ParenForm E) (ParenForm F) (Bracket E) (Bracket F) paren_more paren_reads
      (more_reads (bracket_read e) (Bracket E) (Bracket F) (λ x t. false) paren_more bracket_reads (λ x rest h. never_starts rest))
      (both_opens paren_term (SingleToken (has_class open_parenthesis_sign)) _ (has_class open_parenthesis_sign) (one_opens (has_class open_parenthesis_sign)))
      (λ x s rest h k. next_apart bracket_firsts (open_parenthesis_sign ∷ []) refl (s ++ rest) (bracket_opens E x s rest h))

  from_name : IsReader (alternative_read (has_class name_class) (name_read a) (alternative_read (has_class open_parenthesis_sign) (paren_read e) (bracket_read e))) (FromName E As) (FromName F Aw) paren_more
  from_name =
      choice_reads (has_class name_class) (name_read a) (alternative_read (has_class open_parenthesis_sign) (paren_read e) (bracket_read e)) (NameForm As) (NameForm Aw) (FromParen E) (FromParen F) paren_more name_reads from_paren
      (both_opens name_term (SingleToken (has_class name_class)) _ (has_class name_class) (one_opens (has_class name_class)))
      (λ x s rest h k. next_apart paren_firsts (name_class ∷ []) refl (s ++ rest) (from_paren_opens E x s rest h))

  pub primary_reads : IsReader (primary_read e a) (Primary E As) (Primary F Aw) paren_more
  primary_reads =
      single_reads numeral_class text_firsts (λ t. NumberTerm t.place (numeral_value t.kind)) (one_at (has_class numeral_class) (token (Numeral 0), refl)) _ (FromText E As) (FromText F Aw) paren_more
      (single_reads text_class true_firsts (λ t. TextTerm t.place (bytes_of t.kind)) (one_at (has_class text_class) (token (Text []), refl)) _ (FromTrue E As) (FromTrue F Aw) paren_more
      (single_reads true_word false_firsts (λ t. TruthTerm t.place true) (one_at (has_class true_word) (token (Reserved True), refl)) _ (FromFalse E As) (FromFalse F Aw) paren_more
      (single_reads false_word undef_firsts (λ t. TruthTerm t.place false) (one_at (has_class false_word) (token (Reserved False), refl)) _ (FromUndef E As) (FromUndef F Aw) paren_more
      (single_reads undef_word child_firsts (λ t. UndefTerm t.place) (one_at (has_class undef_word) (token (Reserved Undef), refl)) _ (FromChild E As) (FromChild F Aw) paren_more
      (single_reads child_count_class special_firsts (λ t. ChildCountTerm t.place) (one_at (has_class child_count_class) (token (Special (codes "children")), refl)) _ (FromSpecial E As) (FromSpecial F Aw) paren_more
      (single_reads special_class name_firsts (λ t. SpecialTerm t.place (bytes_of t.kind)) (one_at (has_class special_class) (token (Special []), refl)) _ (FromName E As) (FromName F Aw) paren_more from_name (from_name_opens E As) refl)
      (from_special_opens E As) refl)
      (from_child_opens E As) refl)
      (from_undef_opens E As) refl)
      (from_false_opens E As) refl)
      (from_true_opens E As) refl)
      (from_text_opens E As) refl
