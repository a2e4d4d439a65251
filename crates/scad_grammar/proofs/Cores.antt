-- What is read of cores and instances is in the grammar, where that holds of their parts.
use Rattle.std.proofs.Common.{◌≡◌, ℕ, List, [], ◌∷◌, ◌++◌, Bool, true, false, Option, Some, None, Ok, Err, inl, inr, refl, sym, ap, ◌∙◌, append-nil, append_assoc, cond}
use Rattle.scad_lexer.specs.declared.token.Token.{Token}
use Rattle.scad_lexer.specs.declared.token.TokenKind.TheVariants.{Name, Reserved, Symbol}
use Rattle.scad_lexer.specs.declared.token.Reserved.TheVariants.{If, Else, For}
use Rattle.scad_lexer.specs.declared.token.Symbol.TheVariants.{OpenParenthesis, CloseParenthesis, Assign, Times}
use Rattle.scad_ast.specs.Terms.{Term, ArgTerm, ParamTerm, BinderTerm, ModifierTerm, InstanceStatement, InstanceTerm, CoreTerm, ForTerm, IntersectionForTerm, BodyTerm}
use Rattle.scad_grammar.specs.Classes.{name_class, if_word, else_word, for_word, intersection_for_word, open_parenthesis_sign, close_parenthesis_sign, comma_sign, assign_sign, has_class_in, has_class, has_class_outside}
use Rattle.scad_grammar.specs.Languages.{Language, SingleToken, ImageOf, Concatenation, ConcatenationIf, Alternation, EmptySequence, Repetition, OptionalSequence, AfterToken, SeparatedList, first_of, second_of, pair_of, cons}
use Rattle.scad_grammar.specs.Grammar.{InParentheses, Param, Params, Binder, Binders, CoreOf, Instance, binder_term, param_term, modifier_term, if_term, loop_term, call_term, instance_term, IsNearest, ends_open, instance_open, core_open}
use Rattle.scad_grammar.specs.Reading.{Read, then_read, next_is, image_read, empty_read, sequence_read, alternative_read, optional_read, trailing_items}
use Rattle.scad_grammar.specs.Faults.{TokenReader, token_read, fault_of, left_out_classes}
use Rattle.scad_grammar.specs.Reads.{in_parentheses, args_read}
use Rattle.scad_grammar.specs.StatementReads.{modifier_signs, loop_words, firsts_of_core, firsts_of_instance, param_read, binder_read, params_read, binders_read, if_read, call_read, modifiers_read, instance_read}
use Rattle.scad_grammar.proofs.lemmas.Readers.{IsReader, Opens, both_reads, choice_reads, mapped_reads, many_reads, nothing_reads, both_opens, either_opens, mapped_opens, one_opens, never_starts}
use Rattle.scad_grammar.proofs.Greedy.{Stops, both_if_reads, both_stops, choice_stops, or_first, maybe_ends, maybe_reads, maybe_stops}
use Rattle.scad_grammar.proofs.SeparatedList.{separated_reads}
use Rattle.scad_grammar.proofs.Tests.{OneReads, one_at, then, apart, next_apart, next_within, next_less, no_close, close_ends}
use Rattle.scad_grammar.proofs.Operands.{token, name_one}
use Rattle.scad_grammar.proofs.Primary.{Some_of, in_parentheses_reads}
use Rattle.scad_grammar.proofs.lemmas.Expressions.{expression_more, arg_more, two_not, two_name}
use Rattle.scad_grammar.proofs.Ahead.{two, rest_of}
use Rattle.scad_grammar.specs.declared.SyntaxFault.{SyntaxFault}

abbrev closes : List ℕ
closes = close_parenthesis_sign ∷ []

pub assign_one : OneReads (has_class assign_sign)
assign_one = one_at (has_class assign_sign) (token (Symbol Assign), refl)

if_one : OneReads (has_class if_word)
if_one = one_at (has_class if_word) (token (Reserved If), refl)

else_one : OneReads (has_class else_word)
else_one = one_at (has_class else_word) (token (Reserved Else), refl)

loop_one : OneReads (has_class_in loop_words)
loop_one = one_at (has_class_in loop_words) (token (Reserved For), refl)

mark_one : OneReads (has_class_in modifier_signs)
mark_one = one_at (has_class_in modifier_signs) (token (Symbol Times), refl)

-- an `else` goes on what ends with an `if` without one
abbrev pub else_open : Bool → Token → Bool
else_open true = has_class else_word
else_open false = λ t. false

abbrev pub body_more : BodyTerm → Token → Bool
body_more b = else_open (ends_open b)

abbrev pub core_more : CoreTerm → Token → Bool
core_more c = else_open (core_open c)

abbrev pub instance_more : InstanceTerm → Token → Bool
instance_more i = else_open (instance_open i)

pub open_less : (v : Bool) (l : List Token) → next_is (has_class else_word) l ≡ false → next_is (else_open v) l ≡ false
open_less true l e = e
open_less false l e = never_starts l

pub not_else : (v : Bool) (cs : List ℕ) → apart cs (else_word ∷ []) ≡ true → (l : List Token) → next_is (has_class_in cs) l ≡ true → next_is (else_open v) l ≡ false
not_else v cs a l e = open_less v l (next_apart cs (else_word ∷ []) a l e)

-- something behind a token
behind_reads : (e : TokenReader Term) (E F : Language Term) (more : List ℕ) (test : Token → Bool) → OneReads test → IsReader e E F (λ x. has_class_in more) → Some_of F → IsReader (sequence_read second_of (token_read test) e) (AfterToken test E) (AfterToken test F) (λ x. has_class_in more)
behind_reads e E F more test it ie some = then e E F test (λ x. has_class_in more) (λ x. has_class_in more) second_of it ie some (λ t y rest h. h)

module _ (e : TokenReader Term) (E F : Language Term) (ie : IsReader e E F (λ x. has_class_in expression_more)) (some_e : Some_of F) where
  pub param_reads : IsReader (param_read e) (Param E) (Param F) (λ x. has_class_in arg_more)
  param_reads =
      then (optional_read (has_class assign_sign) (sequence_read second_of (token_read (has_class assign_sign)) e)) (OptionalSequence (AfterToken (has_class assign_sign) E)) (OptionalSequence (AfterToken (has_class assign_sign) F)) (has_class name_class) (or_first (has_class assign_sign) (λ x. has_class_in expression_more)) (λ x. has_class_in arg_more) param_term name_one
      (maybe_reads (has_class assign_sign) (sequence_read second_of (token_read (has_class assign_sign)) e) (AfterToken (has_class assign_sign) E) (AfterToken (has_class assign_sign) F) (λ x. has_class_in expression_more) (behind_reads e E F expression_more (has_class assign_sign) assign_one ie some_e)
      (both_opens second_of (SingleToken (has_class assign_sign)) E (has_class assign_sign) (one_opens (has_class assign_sign))))
      ([], None, refl)
      (λ t y rest h. maybe_ends (has_class assign_sign) (λ x. has_class_in expression_more) y rest (next_less (assign_sign ∷ []) arg_more refl rest h) (λ y. next_less expression_more arg_more refl rest h))

  pub binder_reads : IsReader (binder_read e) (Binder E) (Binder F) (λ x. has_class_in expression_more)
  binder_reads =
      then (sequence_read second_of (token_read (has_class assign_sign)) e) (AfterToken (has_class assign_sign) E) (AfterToken (has_class assign_sign) F) (has_class name_class) (λ x. has_class_in expression_more) (λ x. has_class_in expression_more) binder_term name_one (behind_reads e E F expression_more (has_class assign_sign) assign_one ie some_e)
      (token (Symbol Assign) ∷ some_e.0, some_e.1, (token (Symbol Assign), some_e.1, token (Symbol Assign) ∷ [], some_e.0, (refl, refl), some_e.2, refl, refl)) (λ t y rest h. h)

pub param_opens : (E : Language Term) → Opens (Param E) (has_class name_class)
param_opens E = both_opens param_term (SingleToken (has_class name_class)) _ (has_class name_class) (one_opens (has_class name_class))

pub binder_opens : (E : Language Term) → Opens (Binder E) (has_class name_class)
binder_opens E = both_opens binder_term (SingleToken (has_class name_class)) _ (has_class name_class) (one_opens (has_class name_class))

pub params_reads : (m : TokenReader ParamTerm) (P Q : Language ParamTerm) → IsReader m P Q (λ x. has_class_in arg_more) → Opens P (has_class name_class) → IsReader (params_read m) (Params P) (Params Q) (λ x. has_class_outside closes)
params_reads m P Q im op =
    choice_reads (has_class name_class) (sequence_read cons m (trailing_items (has_class comma_sign) (has_class name_class) m)) (empty_read []) (SeparatedList (has_class comma_sign) P) (SeparatedList (has_class comma_sign) Q) (EmptySequence []) (EmptySequence []) (λ x. has_class_outside closes)
    (separated_reads (has_class comma_sign) (has_class name_class) m P Q (λ x. has_class_in arg_more) (has_class_outside closes) im op (λ x. next_apart (comma_sign ∷ []) arg_more refl) (λ x. no_close closes arg_more refl) (no_close closes (comma_sign ∷ []) refl) (no_close closes (name_class ∷ []) refl))
    (nothing_reads [] (λ x. has_class_outside closes))
    (both_opens first_of _ _ (has_class name_class) (both_opens cons P _ (has_class name_class) op))
    (λ x s rest h k. ap (λ l. next_is (has_class name_class) (l ++ rest)) h.1 ∙ no_close closes (name_class ∷ []) refl rest k)

pub binders_reads : (n : TokenReader BinderTerm) (E F : Language Term) → IsReader n (Binder E) (Binder F) (λ x. has_class_in expression_more) → IsReader (binders_read n) (Binders E) (Binders F) (λ x. has_class_outside closes)
binders_reads n E F im = separated_reads (has_class comma_sign) (has_class name_class) n (Binder E) (Binder F) (λ x. has_class_in expression_more) (has_class_outside closes) im (binder_opens E) (λ x. next_apart (comma_sign ∷ []) expression_more refl) (λ x. no_close closes expression_more refl) (no_close closes (comma_sign ∷ []) refl) (no_close closes (name_class ∷ []) refl)

pub some_binders : (F : Language Term) → Some_of F → Some_of (Binders F)
some_binders F some =
    let t : Token = token (Name []) in
    let u : Token = token (Symbol Assign) in
    let l : List Token = t ∷ u ∷ some.0 in
    let token_read : Binder F (binder_term t some.1) l = (t, some.1, t ∷ [], u ∷ some.0, (refl, refl), (u, some.1, u ∷ [], some.0, (refl, refl), some.2, refl, refl), refl, refl) in
    (l, binder_term t some.1 ∷ [], (binder_term t some.1 ∷ [], None, l, [], (binder_term t some.1, [], l, [], token_read, refl, refl, sym (append-nil l)), refl, refl, sym (append-nil l)))

-- the alternatives of a core
abbrev Other : Language BodyTerm → Language BodyTerm
Other B = AfterToken (has_class else_word) B

abbrev Test : Language Term → Language BodyTerm → Language (Token × (Term × BodyTerm))
Test E B = Concatenation pair_of (SingleToken (has_class if_word)) (Concatenation pair_of (InParentheses E) B)

abbrev Loop : Language (List BinderTerm) → Language BodyTerm → Language CoreTerm
Loop Ns B = Concatenation loop_term (SingleToken (has_class_in loop_words)) (Concatenation pair_of (InParentheses Ns) B)

abbrev Call : Language (List ArgTerm) → Language BodyTerm → Language CoreTerm
Call As B = Concatenation call_term (SingleToken (has_class name_class)) (Concatenation pair_of (InParentheses As) B)

other_opens : (B : Language BodyTerm) → Opens (Other B) (has_class else_word)
other_opens B = both_opens second_of (SingleToken (has_class else_word)) B (has_class else_word) (one_opens (has_class else_word))

module _ (E : Language Term) (As : Language (List ArgTerm)) (Ns : Language (List BinderTerm)) (B : Language BodyTerm) where
  loop_opens : Opens (Loop Ns B) (has_class_in loop_words)
  loop_opens = both_opens loop_term (SingleToken (has_class_in loop_words)) _ (has_class_in loop_words) (one_opens (has_class_in loop_words))

  call_opens : Opens (Call As B) (has_class name_class)
  call_opens = both_opens call_term (SingleToken (has_class name_class)) _ (has_class name_class) (one_opens (has_class name_class))

  if_opens : Opens (ConcatenationIf if_term IsNearest (Test E B) (OptionalSequence (Other B))) (has_class if_word)
  if_opens c s rest h = ap (λ l. next_is (has_class if_word) (l ++ rest)) h.8 ∙ ap (next_is (has_class if_word)) (append_assoc h.2 h.3 rest) ∙ both_opens pair_of (SingleToken (has_class if_word)) _ (has_class if_word) (one_opens (has_class if_word)) h.0 h.2 (h.3 ++ rest) h.4

  loop_or_call_opens : Opens (Alternation (Loop Ns B) (Call As B)) (has_class_in (for_word ∷ intersection_for_word ∷ name_class ∷ []))
  loop_or_call_opens =
      either_opens (Loop Ns B) (Call As B) (has_class_in (for_word ∷ intersection_for_word ∷ name_class ∷ []))
      (λ x s rest h. next_within loop_words (for_word ∷ intersection_for_word ∷ name_class ∷ []) refl (s ++ rest) (loop_opens x s rest h))
      (λ x s rest h. next_within (name_class ∷ []) (for_word ∷ intersection_for_word ∷ name_class ∷ []) refl (s ++ rest) (call_opens x s rest h))

  pub core_opens : Opens (CoreOf E As Ns B) (has_class_in firsts_of_core)
  core_opens =
      either_opens (ConcatenationIf if_term IsNearest (Test E B) (OptionalSequence (Other B))) (Alternation (Loop Ns B) (Call As B)) (has_class_in firsts_of_core)
      (λ x s rest h. next_within (if_word ∷ []) firsts_of_core refl (s ++ rest) (if_opens x s rest h))
      (λ x s rest h. next_within (for_word ∷ intersection_for_word ∷ name_class ∷ []) firsts_of_core refl (s ++ rest) (loop_or_call_opens x s rest h))

abbrev Marks : Language (List ModifierTerm)
Marks = Repetition (ImageOf modifier_term (SingleToken (has_class_in modifier_signs)))

mark_opens : Opens (ImageOf modifier_term (SingleToken (has_class_in modifier_signs))) (has_class_in modifier_signs)
mark_opens = mapped_opens modifier_term (SingleToken (has_class_in modifier_signs)) (has_class_in modifier_signs) (one_opens (has_class_in modifier_signs))

start_many : (ms : List ModifierTerm) (p q rest : List Token) → Marks ms p → next_is (has_class_in firsts_of_core) (q ++ rest) ≡ true → next_is (has_class_in firsts_of_instance) ((p ++ q) ++ rest) ≡ true
start_many [] p q rest k e = ap (λ l. next_is (has_class_in firsts_of_instance) ((l ++ q) ++ rest)) k ∙ next_within firsts_of_core firsts_of_instance refl (q ++ rest) e
start_many (m ∷ ms) p q rest k e =
    ap (λ l. next_is (has_class_in firsts_of_instance) ((l ++ q) ++ rest)) k.4 ∙ ap (λ l. next_is (has_class_in firsts_of_instance) (l ++ rest)) (append_assoc k.0 k.1 q) ∙ ap (next_is (has_class_in firsts_of_instance)) (append_assoc k.0 (k.1 ++ q) rest)
    ∙ next_within modifier_signs firsts_of_instance refl (k.0 ++ ((k.1 ++ q) ++ rest)) (mark_opens m k.0 ((k.1 ++ q) ++ rest) k.2)

-- what an instance begins with
pub instance_opens : (E : Language Term) (As : Language (List ArgTerm)) (Ns : Language (List BinderTerm)) (B : Language BodyTerm) → Opens (Instance E As Ns B) (has_class_in firsts_of_instance)
instance_opens E As Ns B i s rest h = ap (λ l. next_is (has_class_in firsts_of_instance) (l ++ rest)) h.7 ∙ start_many h.0 h.2 h.3 rest h.4 (core_opens E As Ns B h.1 h.3 rest h.5)

pub marks_reads : IsReader modifiers_read Marks Marks (λ x. has_class_in modifier_signs)
marks_reads =
    many_reads (has_class_in modifier_signs) (image_read modifier_term (token_read (has_class_in modifier_signs))) (ImageOf modifier_term (SingleToken (has_class_in modifier_signs))) (ImageOf modifier_term (SingleToken (has_class_in modifier_signs))) (λ x t. false) (has_class_in modifier_signs)
    (mapped_reads modifier_term (token_read (has_class_in modifier_signs)) (SingleToken (has_class_in modifier_signs)) (SingleToken (has_class_in modifier_signs)) (λ x t. false) (λ x t. false) mark_one (λ x rest h. h)) mark_opens (λ x rest h. never_starts rest) (λ x rest h. never_starts rest) (λ rest h. h)

pub some_headed : {A : Type 0} (C : Language BodyTerm) (W : Language A) → Some_of C → Some_of W → Some_of (Concatenation pair_of (InParentheses W) C)
some_headed C W some_b some =
    let opening : Token = token (Symbol OpenParenthesis) in
    let closing : Token = token (Symbol CloseParenthesis) in
    let l : List Token = opening ∷ (some.0 ++ closing ∷ []) in
    (l ++ some_b.0, (some.1, some_b.1), (some.1, some_b.1, l, some_b.0, (opening, some.1, opening ∷ [], some.0 ++ closing ∷ [], (refl, refl), (some.1, closing, some.0, closing ∷ [], some.2, (refl, refl), refl, refl), refl, refl), some_b.2, refl, refl))

pub some_core : (F : Language Term) (Aw : Language (List ArgTerm)) (Nw : Language (List BinderTerm)) (C : Language BodyTerm) → Some_of Aw → Some_of C → Some_of (CoreOf F Aw Nw C)
some_core F Aw Nw C some_as some_b =
    let h = some_headed C Aw some_b some_as in
    (token (Name []) ∷ h.0, call_term (token (Name [])) h.1, inr (inr (token (Name []), h.1, token (Name []) ∷ [], h.0, (refl, refl), h.2, refl, refl)))

-- a loop, a core and an instance over what reads the variables of a loop
abbrev pub loop_over : TokenReader (List BinderTerm) → TokenReader BodyTerm → TokenReader CoreTerm
loop_over ns b = sequence_read loop_term (token_read (has_class_in loop_words)) (sequence_read pair_of (in_parentheses ns) b)

abbrev pub core_over : TokenReader Term → TokenReader ArgTerm → TokenReader (List BinderTerm) → TokenReader BodyTerm → TokenReader CoreTerm
core_over e a ns b = alternative_read (has_class if_word) (if_read e b) (alternative_read (has_class_in loop_words) (loop_over ns b) (call_read a b))

abbrev pub instance_over : TokenReader Term → TokenReader ArgTerm → TokenReader (List BinderTerm) → TokenReader BodyTerm → TokenReader InstanceTerm
instance_over e a ns b = instance_read (core_over e a ns b)

-- where a name stands alone, an instance lacks its arguments
rest_mapped : {A B : Type 0} (f : A → B) (q : Read Token SyntaxFault A) → rest_of (then_read q (λ x us. Ok (f x, us))) ≡ rest_of q
rest_mapped f (Ok p) = refl
rest_mapped f (Err x) = refl

pub choice_second : {A : Type 0} (test : Token → Bool) (r q : TokenReader A) (ts : List Token) → next_is test ts ≡ false → alternative_read test r q ts ≡ q ts
choice_second test r q ts e = ap (λ v. cond v (r ts) (q ts)) e

call_moves : (a : TokenReader ArgTerm) (b : TokenReader BodyTerm) (t : Token) → has_class name_class t ≡ true → rest_of (call_read a b (t ∷ [])) ≡ []
call_moves a b t h = ap (λ v. rest_of (then_read (cond v (Ok (t, [])) (Err (fault_of left_out_classes (Some t), t ∷ []))) (λ t ts. then_read (sequence_read pair_of (in_parentheses (args_read a)) b ts) (λ p us. Ok (call_term t p, us))))) h

core_moves : (e : TokenReader Term) (a : TokenReader ArgTerm) (ns : TokenReader (List BinderTerm)) (b : TokenReader BodyTerm) (t : Token) → has_class name_class t ≡ true → rest_of (core_over e a ns b (t ∷ [])) ≡ []
core_moves e a ns b t h =
    ap rest_of (choice_second (has_class if_word) (if_read e b) (alternative_read (has_class_in loop_words) (loop_over ns b) (call_read a b)) (t ∷ []) (next_apart (name_class ∷ []) (if_word ∷ []) refl (t ∷ []) h))
    ∙ ap rest_of (choice_second (has_class_in loop_words) (loop_over ns b) (call_read a b) (t ∷ []) (next_apart (name_class ∷ []) loop_words refl (t ∷ []) h))
    ∙ call_moves a b t h

instance_moves : (e : TokenReader Term) (a : TokenReader ArgTerm) (ns : TokenReader (List BinderTerm)) (b : TokenReader BodyTerm) (t : Token) → has_class name_class t ≡ true → rest_of (instance_over e a ns b (t ∷ [])) ≡ []
instance_moves e a ns b t h =
    ap (λ q. rest_of (then_read q (λ ms us. then_read (core_over e a ns b us) (λ c vs. Ok (instance_term ms c, vs))))) (marks_reads.complete [] [] (t ∷ []) refl (next_apart (name_class ∷ []) modifier_signs refl (t ∷ []) h))
    ∙ rest_mapped (instance_term []) (core_over e a ns b (t ∷ [])) ∙ core_moves e a ns b t h

pub statement_moves : (e : TokenReader Term) (a : TokenReader ArgTerm) (ns : TokenReader (List BinderTerm)) (b : TokenReader BodyTerm) (t : Token) → has_class name_class t ≡ true → rest_of (image_read InstanceStatement (instance_over e a ns b) (t ∷ [])) ≡ []
statement_moves e a ns b t h = rest_mapped InstanceStatement (instance_over e a ns b (t ∷ [])) ∙ instance_moves e a ns b t h

-- no instance begins with a name and an `=`
call_unlike : (As : Language (List ArgTerm)) (B : Language BodyTerm) (c : CoreTerm) (s rest : List Token) → Call As B c s → two (has_class name_class) (has_class assign_sign) (s ++ rest) ≡ false
call_unlike As B c s rest h =
    ap (λ l. two (has_class name_class) (has_class assign_sign) (l ++ rest)) h.7 ∙ ap (λ l. two (has_class name_class) (has_class assign_sign) ((l ++ h.3) ++ rest)) h.4.1
    ∙ two_name (name_class ∷ []) h.0 (h.3 ++ rest) (next_apart (open_parenthesis_sign ∷ []) (assign_sign ∷ []) refl (h.3 ++ rest) (both_opens pair_of (InParentheses As) B (has_class open_parenthesis_sign) (both_opens second_of (SingleToken (has_class open_parenthesis_sign)) _ (has_class open_parenthesis_sign) (one_opens (has_class open_parenthesis_sign))) h.1 h.3 rest h.5))

core_unlike : (E : Language Term) (As : Language (List ArgTerm)) (Ns : Language (List BinderTerm)) (B : Language BodyTerm) (c : CoreTerm) (s rest : List Token) → CoreOf E As Ns B c s → two (has_class name_class) (has_class assign_sign) (s ++ rest) ≡ false
core_unlike E As Ns B c s rest (inl h) = two_not (name_class ∷ []) (s ++ rest) (next_apart (if_word ∷ []) (name_class ∷ []) refl (s ++ rest) (if_opens E As Ns B c s rest h))
core_unlike E As Ns B c s rest (inr (inl h)) = two_not (name_class ∷ []) (s ++ rest) (next_apart loop_words (name_class ∷ []) refl (s ++ rest) (loop_opens E As Ns B c s rest h))
core_unlike E As Ns B c s rest (inr (inr h)) = call_unlike As B c s rest h

marks_unlike : (ms : List ModifierTerm) (p q rest : List Token) → Marks ms p → two (has_class name_class) (has_class assign_sign) (q ++ rest) ≡ false → two (has_class name_class) (has_class assign_sign) ((p ++ q) ++ rest) ≡ false
marks_unlike [] p q rest k e = ap (λ l. two (has_class name_class) (has_class assign_sign) ((l ++ q) ++ rest)) k ∙ e
marks_unlike (m ∷ ms) p q rest k e =
    ap (λ l. two (has_class name_class) (has_class assign_sign) ((l ++ q) ++ rest)) k.4 ∙ ap (λ l. two (has_class name_class) (has_class assign_sign) (l ++ rest)) (append_assoc k.0 k.1 q) ∙ ap (two (has_class name_class) (has_class assign_sign)) (append_assoc k.0 (k.1 ++ q) rest)
    ∙ two_not (name_class ∷ []) (k.0 ++ ((k.1 ++ q) ++ rest)) (next_apart modifier_signs (name_class ∷ []) refl (k.0 ++ ((k.1 ++ q) ++ rest)) (mark_opens m k.0 ((k.1 ++ q) ++ rest) k.2))

pub instance_unlike : (E : Language Term) (As : Language (List ArgTerm)) (Ns : Language (List BinderTerm)) (B : Language BodyTerm) (i : InstanceTerm) (s rest : List Token) → Instance E As Ns B i s → two (has_class name_class) (has_class assign_sign) (s ++ rest) ≡ false
instance_unlike E As Ns B i s rest h = ap (λ l. two (has_class name_class) (has_class assign_sign) (l ++ rest)) h.7 ∙ marks_unlike h.0 h.2 h.3 rest h.4 (core_unlike E As Ns B h.1 h.3 rest h.5)

-- b reads a body
module _ (b : TokenReader BodyTerm) (B C : Language BodyTerm) (ib : IsReader b B C body_more) (sb : Stops b body_more) (some_b : Some_of C) where
  -- something in parentheses, and a body
  pub headed_reads : {A : Type 0} (r : TokenReader A) (L W : Language A) (more : A → Token → Bool) → IsReader r L W more → Some_of W → ((x : A) (l : List Token) → next_is (has_class close_parenthesis_sign) l ≡ true → next_is (more x) l ≡ false)
      → IsReader (sequence_read pair_of (in_parentheses r) b) (Concatenation pair_of (InParentheses L) B) (Concatenation pair_of (InParentheses W) C) (λ p. body_more p.1)
  headed_reads r L W more ir some stops =
      both_reads pair_of (in_parentheses r) b (InParentheses L) (InParentheses W) B C (λ x t. false) body_more (λ p. body_more p.1) (in_parentheses_reads r L W more ir some stops) ib some_b (λ x y s rest h k. never_starts (s ++ rest)) (λ x y rest k. k)

  pub headed_stops : {A : Type 0} (r : TokenReader A) → Stops (sequence_read pair_of (in_parentheses r) b) (λ p. body_more p.1)
  headed_stops r = both_stops pair_of (in_parentheses r) b body_more (λ p. body_more p.1) sb (λ x y rest h. h)

  abbrev other_read : TokenReader BodyTerm
  other_read = sequence_read second_of (token_read (has_class else_word)) b

  other_reads : IsReader (optional_read (has_class else_word) other_read) (OptionalSequence (Other B)) (OptionalSequence (Other C)) (or_first (has_class else_word) body_more)
  other_reads =
      maybe_reads (has_class else_word) other_read (Other B) (Other C) body_more
      (then b B C (has_class else_word) body_more body_more second_of else_one ib some_b (λ t y rest h. h)) (other_opens B)

  other_stops : Stops (optional_read (has_class else_word) other_read) (or_first (has_class else_word) body_more)
  other_stops = maybe_stops (has_class else_word) other_read body_more (both_stops second_of (token_read (has_class else_word)) b body_more body_more sb (λ x y rest h. h))

  module _ (e : TokenReader Term) (a : TokenReader ArgTerm) (ns : TokenReader (List BinderTerm)) (E F : Language Term) (As Aw : Language (List ArgTerm)) (Ns Nw : Language (List BinderTerm))
      (ie : IsReader e E F (λ x. has_class_in expression_more)) (ias : IsReader (args_read a) As Aw (λ x. has_class_outside closes)) (ins : IsReader ns Ns Nw (λ x. has_class_outside closes)) (some_e : Some_of F) (some_as : Some_of Aw) (some_ns : Some_of Nw) where
    abbrev test_read : TokenReader (Token × (Term × BodyTerm))
    test_read = sequence_read pair_of (token_read (has_class if_word)) (sequence_read pair_of (in_parentheses e) b)

    test_reads : IsReader test_read (Test E B) (Test F C) (λ p. body_more p.1.1)
    test_reads =
        then (sequence_read pair_of (in_parentheses e) b) (Concatenation pair_of (InParentheses E) B) (Concatenation pair_of (InParentheses F) C) (has_class if_word) (λ p. body_more p.1) (λ p. body_more p.1.1) pair_of if_one
        (headed_reads e E F (λ x. has_class_in expression_more) ie some_e (λ x. next_apart closes expression_more refl)) (some_headed C F some_b some_e) (λ t y rest h. h)

    test_stops : Stops test_read (λ p. body_more p.1.1)
    test_stops = both_stops pair_of (token_read (has_class if_word)) (sequence_read pair_of (in_parentheses e) b) (λ p. body_more p.1) (λ p. body_more p.1.1) (headed_stops e) (λ x y rest h. h)

    -- an `else` behind a body that ends open would be that one's
    follows : (p : Token × (Term × BodyTerm)) (o : Option BodyTerm) (q rest : List Token) → OptionalSequence (Other B) o q → IsNearest p o → next_is (core_more (if_term p o)) rest ≡ false → next_is (body_more p.1.1) (q ++ rest) ≡ false
    follows p None q rest h n k = ap (λ l. next_is (body_more p.1.1) (l ++ rest)) h ∙ open_less (ends_open p.1.1) rest k
    follows p (Some y) q rest h n k = ap (λ v. next_is (else_open v) (q ++ rest)) n ∙ never_starts (q ++ rest)

    down : (p : Token × (Term × BodyTerm)) (o : Option BodyTerm) (rest : List Token) → next_is (core_more (if_term p o)) rest ≡ false → next_is (or_first (has_class else_word) body_more o) rest ≡ false
    down p None rest k = k
    down p (Some y) rest k = k

    up : (p : Token × (Term × BodyTerm)) (o : Option BodyTerm) (rest : List Token) → next_is (or_first (has_class else_word) body_more o) rest ≡ false → next_is (core_more (if_term p o)) rest ≡ false
    up p None rest k = k
    up p (Some y) rest k = k

    closed : (v : Bool) (l : List Token) → next_is (has_class else_word) l ≡ true → next_is (else_open v) l ≡ false → v ≡ false
    closed false l e k = refl
    closed true l e k = absurd (cc)

    fits : (p : Token × (Term × BodyTerm)) (o : Option BodyTerm) (q rest : List Token) → OptionalSequence (Other C) o q → next_is (body_more p.1.1) (q ++ rest) ≡ false → IsNearest p o
    fits p None q rest h k = tt
    fits p (Some y) q rest h k = closed (ends_open p.1.1) (q ++ rest) (other_opens C y q rest h) k

    if_reads : IsReader (if_read e b) (ConcatenationIf if_term IsNearest (Test E B) (OptionalSequence (Other B))) (ConcatenationIf if_term IsNearest (Test F C) (OptionalSequence (Other C))) core_more
    if_reads =
        both_if_reads if_term IsNearest test_read (optional_read (has_class else_word) other_read) (Test E B) (Test F C) (OptionalSequence (Other B)) (OptionalSequence (Other C)) (λ p. body_more p.1.1) (λ p. body_more p.1.1) (or_first (has_class else_word) body_more) core_more
        test_reads test_stops other_reads (λ p. ([], None, refl, tt)) follows down fits

    if_stops : Stops (if_read e b) core_more
    if_stops = both_stops if_term test_read (optional_read (has_class else_word) other_read) (or_first (has_class else_word) body_more) core_more other_stops up

    loop_open : (t : Token) (p : List BinderTerm × BodyTerm) → core_open (loop_term t p) ≡ ends_open p.1
    loop_open t p = go (has_class for_word t)
      where
        go : (v : Bool) → core_open (cond v (ForTerm t.place p.0 p.1) (IntersectionForTerm t.place p.0 p.1)) ≡ ends_open p.1
        go true = refl
        go false = refl

    loop_reads : IsReader (loop_over ns b) (Loop Ns B) (Loop Nw C) core_more
    loop_reads =
        then (sequence_read pair_of (in_parentheses ns) b) (Concatenation pair_of (InParentheses Ns) B) (Concatenation pair_of (InParentheses Nw) C) (has_class_in loop_words) (λ p. body_more p.1) core_more loop_term loop_one
        (headed_reads ns Ns Nw (λ x. has_class_outside closes) ins some_ns (λ x. close_ends closes)) (some_headed C Nw some_b some_ns)
        (λ t y rest h. ap (λ v. next_is (else_open v) rest) (sym (loop_open t y)) ∙ h)

    loop_stops : Stops (loop_over ns b) core_more
    loop_stops = both_stops loop_term (token_read (has_class_in loop_words)) (sequence_read pair_of (in_parentheses ns) b) (λ p. body_more p.1) core_more (headed_stops ns) (λ t y rest h. ap (λ v. next_is (else_open v) rest) (loop_open t y) ∙ h)

    call_reads : IsReader (call_read a b) (Call As B) (Call Aw C) core_more
    call_reads =
        then (sequence_read pair_of (in_parentheses (args_read a)) b) (Concatenation pair_of (InParentheses As) B) (Concatenation pair_of (InParentheses Aw) C) (has_class name_class) (λ p. body_more p.1) core_more call_term name_one
        (headed_reads (args_read a) As Aw (λ x. has_class_outside closes) ias some_as (λ x. close_ends closes)) (some_headed C Aw some_b some_as) (λ t y rest h. h)

    call_stops : Stops (call_read a b) core_more
    call_stops = both_stops call_term (token_read (has_class name_class)) (sequence_read pair_of (in_parentheses (args_read a)) b) (λ p. body_more p.1) core_more (headed_stops (args_read a)) (λ t y rest h. h)

    core_reads : IsReader (core_over e a ns b) (CoreOf E As Ns B) (CoreOf F Aw Nw C) core_more
    core_reads =
        choice_reads (has_class if_word) (if_read e b) (alternative_read (has_class_in loop_words) (loop_over ns b) (call_read a b)) (ConcatenationIf if_term IsNearest (Test E B) (OptionalSequence (Other B))) (ConcatenationIf if_term IsNearest (Test F C) (OptionalSequence (Other C))) (Alternation (Loop Ns B) (Call As B)) (Alternation (Loop Nw C) (Call Aw C)) core_more
        if_reads
        (choice_reads (has_class_in loop_words) (loop_over ns b) (call_read a b) (Loop Ns B) (Loop Nw C) (Call As B) (Call Aw C) core_more loop_reads call_reads (loop_opens E As Ns B) (λ x s rest h k. next_apart (name_class ∷ []) loop_words refl (s ++ rest) (call_opens E As Ns B x s rest h)))
        (if_opens E As Ns B)
        (λ x s rest h k. next_apart (for_word ∷ intersection_for_word ∷ name_class ∷ []) (if_word ∷ []) refl (s ++ rest) (loop_or_call_opens E As Ns B x s rest h))

    core_stops : Stops (core_over e a ns b) core_more
    core_stops = choice_stops (has_class if_word) (if_read e b) (alternative_read (has_class_in loop_words) (loop_over ns b) (call_read a b)) core_more if_stops (choice_stops (has_class_in loop_words) (loop_over ns b) (call_read a b) core_more loop_stops call_stops)

    instance_core : (ms : List ModifierTerm) (c : CoreTerm) → instance_open (instance_term ms c) ≡ core_open c
    instance_core [] c = refl
    instance_core (m ∷ ms) c = refl

    pub instance_reads : IsReader (instance_over e a ns b) (Instance E As Ns B) (Instance F Aw Nw C) instance_more
    instance_reads =
        both_reads instance_term modifiers_read (core_over e a ns b) Marks Marks (CoreOf E As Ns B) (CoreOf F Aw Nw C) (λ x. has_class_in modifier_signs) core_more instance_more marks_reads core_reads (some_core F Aw Nw C some_as some_b)
        (λ x y s rest h k. next_apart firsts_of_core modifier_signs refl (s ++ rest) (core_opens E As Ns B y s rest h))
        (λ x y rest k. ap (λ v. next_is (else_open v) rest) (sym (instance_core x y)) ∙ k)

    pub instance_stops : Stops (instance_over e a ns b) instance_more
    instance_stops = both_stops instance_term modifiers_read (core_over e a ns b) core_more instance_more core_stops (λ x y rest k. ap (λ v. next_is (else_open v) rest) (instance_core x y) ∙ k)
