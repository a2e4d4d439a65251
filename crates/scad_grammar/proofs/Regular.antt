-- No reader takes the end, and each fault is of one of three kinds.
use Rattle.std.proofs.Common.{codes, not, ◌≡◌, ℕ, zero, suc, List, [], ◌∷◌, length, Bool, true, false, cond, Ok, Err, Option, Some, ◌⊎◌, inl, inr, refl, sym, ◌∙◌, ◌&&◌}
use Rattle.scad_lexer.specs.declared.token.Token.{Token}
use Rattle.scad_lexer.specs.declared.token.TokenKind.{TokenKind}
use Rattle.scad_lexer.specs.declared.token.TokenKind.TheVariants.{Numeral, Name, Special, Text, Reserved, Symbol, End}
use Rattle.scad_lexer.specs.declared.token.Reserved.TheVariants.{Module, Function, If, Else, For, IntersectionFor, True, False, Undef, Use, Include, Let, Each}
use Rattle.scad_lexer.specs.declared.token.Symbol.TheVariants.{OpenParenthesis, CloseParenthesis, OpenBracket, CloseBracket, OpenBrace, CloseBrace, Comma, Semicolon, Assign, Colon, Question, Dot, Plus, Minus, Times, Divide, Remainder, Less, Greater, LessEqual, GreaterEqual, Equal, NotEqual, And, Or, Not, Hash, Caret}
use Rattle.scad_lexer.specs.Tokens.{is_end, ends_once}
use Rattle.std.specs.Str.{bytes_eq}
use Rattle.scad_ast.specs.Terms.{Term, ArgTerm}
use Rattle.scad_grammar.specs.declared.SyntaxFault.{SyntaxFault}
use Rattle.scad_grammar.specs.declared.SyntaxFault.TheVariants.{Nested}
use Rattle.scad_grammar.specs.Classes.{numeral_class, name_class, special_class, child_count_class, end_class, assign_sign, comma_sign, open_bracket_sign, is_class_among, has_class_in, has_class, token_class}
use Rattle.scad_grammar.specs.Reading.{Read, then_read, next_is, token_or_fault_read, image_read, sequence_read, alternative_read, two_ahead, with_front, repeated_times, repeated_read, trailing_times, trailing_items}
use Rattle.scad_grammar.specs.Faults.{TokenReader, token_read, fault_of, left_out_classes, left_out_of_expressions}
use Rattle.scad_grammar.specs.Reads.{head_of, nested_read, firsts_of_expression, primary_read, arg_in, expr_read, operand_read}
use Rattle.scad_grammar.specs.StatementReads.{firsts_of_body, firsts_of_statement, param_in, binder_in, binders_read, instance_in, statement_read, body_read}
use Rattle.scad_grammar.proofs.Tests.{apart, classes_apart}
use Rattle.scad_grammar.proofs.Ahead.{both_true}
use Rattle.scad_grammar.proofs.Alike.{Keeps, Free, arg_keeps, param_keeps, binder_keeps, binders_keep, unary_keeps, expression_keeps, primary_keeps, instance_keeps, body_keeps, statement_keeps}

-- the last token is the end, and no other is
abbrev pub EndsOnce : List Token → Type 0
EndsOnce [] = ⊥
EndsOnce (t ∷ []) = has_class end_class t ≡ true
EndsOnce (t ∷ u ∷ us) = (has_class end_class t ≡ false) × EndsOnce (u ∷ us)

-- the end's class is its own
end_listed : (k : TokenKind) → is_class_among (end_class ∷ []) (token_class k) ≡ is_end k
end_listed (Numeral n) = refl
end_listed (Name bytes) = refl
end_listed (Special bytes) = go (bytes_eq bytes (codes "children"))
  where
    go : (b : Bool) → is_class_among (end_class ∷ []) (cond b child_count_class special_class) ≡ false
    go true = refl
    go false = refl
end_listed (Text bytes) = refl
end_listed (Reserved Module) = refl
end_listed (Reserved Function) = refl
end_listed (Reserved If) = refl
end_listed (Reserved Else) = refl
end_listed (Reserved For) = refl
end_listed (Reserved IntersectionFor) = refl
end_listed (Reserved True) = refl
end_listed (Reserved False) = refl
end_listed (Reserved Undef) = refl
end_listed (Reserved Use) = refl
end_listed (Reserved Include) = refl
end_listed (Reserved Let) = refl
end_listed (Reserved Each) = refl
end_listed (Symbol OpenParenthesis) = refl
end_listed (Symbol CloseParenthesis) = refl
end_listed (Symbol OpenBracket) = refl
end_listed (Symbol CloseBracket) = refl
end_listed (Symbol OpenBrace) = refl
end_listed (Symbol CloseBrace) = refl
end_listed (Symbol Comma) = refl
end_listed (Symbol Semicolon) = refl
end_listed (Symbol Assign) = refl
end_listed (Symbol Colon) = refl
end_listed (Symbol Question) = refl
end_listed (Symbol Dot) = refl
end_listed (Symbol Plus) = refl
end_listed (Symbol Minus) = refl
end_listed (Symbol Times) = refl
end_listed (Symbol Divide) = refl
end_listed (Symbol Remainder) = refl
end_listed (Symbol Less) = refl
end_listed (Symbol Greater) = refl
end_listed (Symbol LessEqual) = refl
end_listed (Symbol GreaterEqual) = refl
end_listed (Symbol Equal) = refl
end_listed (Symbol NotEqual) = refl
end_listed (Symbol And) = refl
end_listed (Symbol Or) = refl
end_listed (Symbol Not) = refl
end_listed (Symbol Hash) = refl
end_listed (Symbol Caret) = refl
end_listed End = refl

both_are : (b c : Bool) → (not b && c) ≡ true → (b ≡ false) × (c ≡ true)
both_are true c e = absurd (cc)
both_are false c e = (refl, e)

pub ends_once_is : (ts : List Token) → ends_once ts ≡ true → EndsOnce ts
ends_once_is [] e = absurd (cc)
ends_once_is (t ∷ []) e = end_listed t.kind ∙ e
ends_once_is (t ∷ u ∷ us) e = let k = both_are (is_end t.kind) (ends_once (u ∷ us)) e in (end_listed t.kind ∙ k.0, ends_once_is (u ∷ us) k.1)

-- want of depth, or the fault of what is left out, everywhere or of expressions
abbrev pub OfKind : SyntaxFault × List Token → Type 0
OfKind e = (e.0 ≡ Nested) ⊎ ((e.0 ≡ fault_of left_out_classes (head_of e.1)) ⊎ (e.0 ≡ fault_of left_out_of_expressions (head_of e.1)))

-- the end is left where it stands
abbrev pub Fair : {A : Type 0} → List Token → Read Token SyntaxFault A → Type 0
Fair ts (Ok p) = EndsOnce ts → EndsOnce p.1
Fair ts (Err e) = OfKind e × (EndsOnce ts → EndsOnce e.1)

pub record Regular {A : Type 0} (r : TokenReader A) : Type 0 where
  pub at : (ts : List Token) → Fair ts (r ts)

from : {A : Type 0} (ts us : List Token) (q : Read Token SyntaxFault A) → (EndsOnce ts → EndsOnce us) → Fair us q → Fair ts q
from ts us (Ok p) h f = λ e. f (h e)
from ts us (Err e) h f = (f.0, λ x. f.1 (h x))

after_fair : {A B : Type 0} (ts : List Token) (q : Read Token SyntaxFault A) (g : A → List Token → Read Token SyntaxFault B) → Fair ts q → ((x : A) (us : List Token) → Fair us (g x us)) → Fair ts (then_read q g)
after_fair ts (Ok p) g f h = from ts p.1 (g p.0 p.1) f (h p.0 p.1)
after_fair ts (Err e) g f h = f

cond_fair : {A : Type 0} (ts : List Token) (b : Bool) (q p : Read Token SyntaxFault A) → Fair ts q → Fair ts p → Fair ts (cond b q p)
cond_fair ts true q p f g = f
cond_fair ts false q p f g = g

-- behind a token that isn't the end
behind : (t : Token) (ts : List Token) → has_class end_class t ≡ false → EndsOnce (t ∷ ts) → EndsOnce ts
behind t [] n e = absurd (let f : true ≡ false = sym e ∙ n in cc)
behind t (u ∷ us) n e = e.1

no_end : (cs : List ℕ) → apart (end_class ∷ []) cs ≡ true → (t : Token) → has_class_in cs t ≡ true → has_class end_class t ≡ false
no_end cs a t h = go (has_class end_class t) refl
  where
    go : (b : Bool) → has_class end_class t ≡ b → b ≡ false
    go false e = refl
    go true e = absurd (let f : true ≡ false = sym h ∙ classes_apart (end_class ∷ []) cs a (token_class t.kind) e in cc)

-- the fault of a class of forms that are left out
abbrev IsOfKind : List ℕ → Type 0
IsOfKind classes = (t : Option Token) → (fault_of classes t ≡ fault_of left_out_classes t) ⊎ (fault_of classes t ≡ fault_of left_out_of_expressions t)

kind_of : (classes : List ℕ) → IsOfKind classes → (ts : List Token) → OfKind (fault_of classes (head_of ts), ts)
kind_of classes k ts = inr (k (head_of ts))

everywhere : IsOfKind left_out_classes
everywhere t = inl refl

in_expressions : IsOfKind left_out_of_expressions
in_expressions t = inr refl

one_fair : (cs classes : List ℕ) → apart (end_class ∷ []) cs ≡ true → IsOfKind classes → (ts : List Token) → Fair ts (token_or_fault_read (has_class_in cs) (fault_of classes) ts)
one_fair cs classes a k [] = (kind_of classes k [], λ e. e)
one_fair cs classes a k (t ∷ ts) = go (has_class_in cs t) refl
  where
    go : (b : Bool) → has_class_in cs t ≡ b → Fair (t ∷ ts) (cond b (Ok (t, ts)) (Err (fault_of classes (Some t), t ∷ ts)))
    go true e = behind t ts (no_end cs a t e)
    go false e = (kind_of classes k (t ∷ ts), λ e. e)

mapped_fair : {A B : Type 0} (f : A → B) (r q : TokenReader A) → Regular r → Regular (image_read f r)
mapped_fair f r q h = record { at = λ ts. after_fair ts (r ts) (λ a us. Ok (f a, us)) (h.at ts) (λ a us e. e) }

both_fair : {A B C : Type 0} (f : A → B → C) (r q : TokenReader A) (s p : TokenReader B) → Regular r → Regular s → Regular (sequence_read f r s)
both_fair f r q s p h k = record { at = λ ts. after_fair ts (r ts) (λ a us. then_read (s us) (λ b vs. Ok (f a b, vs))) (h.at ts) (λ a us. after_fair us (s us) (λ b vs. Ok (f a b, vs)) (k.at us) (λ b vs e. e)) }

choice_fair : {A : Type 0} (test : Token → Bool) (r q s p : TokenReader A) → Regular r → Regular s → Regular (alternative_read test r s)
choice_fair test r q s p h k = record { at = λ ts. cond_fair ts (next_is test ts) (r ts) (s ts) (h.at ts) (k.at ts) }

ahead_at : {A C : Type 0} (f : Token → Token → A → C) (cs : List ℕ) (r : TokenReader A) (s : TokenReader C) → apart (end_class ∷ []) cs ≡ true → Regular r → Regular s → (ts : List Token) → Fair ts (two_ahead f (has_class_in cs) (has_class assign_sign) r s ts)
ahead_at f cs r s a h k [] = k.at []
ahead_at f cs r s a h k (t ∷ []) = k.at (t ∷ [])
ahead_at f cs r s a h k (t ∷ u ∷ ts) = go (has_class_in cs t && has_class assign_sign u) refl
  where
    go : (b : Bool) → (has_class_in cs t && has_class assign_sign u) ≡ b → Fair (t ∷ u ∷ ts) (cond b (then_read (r ts) (λ x us. Ok (f t u x, us))) (s (t ∷ u ∷ ts)))
    go true e =
        let n = both_true (has_class_in cs t) (has_class assign_sign u) e in
        from (t ∷ u ∷ ts) ts _ (λ x. behind u ts (no_end (assign_sign ∷ []) refl u n.1) (behind t (u ∷ ts) (no_end cs a t n.0) x)) (after_fair ts (r ts) (λ x us. Ok (f t u x, us)) (h.at ts) (λ x us e. e))
    go false e = k.at (t ∷ u ∷ ts)

front_fair : {A : Type 0} (x : A) (ts : List Token) (q : Read Token SyntaxFault (List A)) → Fair ts q → Fair ts (with_front x q)
front_fair x ts (Ok p) h = h
front_fair x ts (Err e) h = h

times_fair : {A : Type 0} (n : ℕ) (test : Token → Bool) (r : TokenReader A) → Regular r → (ts : List Token) → Fair ts (repeated_times n test r ts)
unfolding repeated_times
times_fair zero test r h ts = λ e. e
times_fair (suc n) test r h ts =
    cond_fair ts (next_is test ts) (then_read (r ts) (λ x us. with_front x (repeated_times n test r us))) (Ok ([], ts))
    (after_fair ts (r ts) (λ x us. with_front x (repeated_times n test r us)) (h.at ts) (λ x us. front_fair x us (repeated_times n test r us) (times_fair n test r h us))) (λ e. e)

pub many_fair : {A : Type 0} (test : Token → Bool) (r : TokenReader A) → Regular r → Regular (repeated_read test r)
unfolding repeated_read
many_fair test r h = record { at = λ ts. times_fair (length ts) test r h ts }

trailing_at : {A : Type 0} (n : ℕ) (go : Token → Bool) (r : TokenReader A) → Regular r → (ts : List Token) → Fair ts (trailing_times n (has_class comma_sign) go r ts)
unfolding trailing_times
trailing_at zero go r h ts = λ e. e
trailing_at (suc n) go r h [] = λ e. e
trailing_at {A} (suc n) go r h (t ∷ ts) = step (has_class comma_sign t) refl (trailing_at n go r h)
  where
    step : (b : Bool) → has_class comma_sign t ≡ b → ((us : List Token) → Fair us (trailing_times n (has_class comma_sign) go r us)) → Fair (t ∷ ts) (cond {A = Read Token SyntaxFault (List A)} b (cond (next_is go ts) (then_read (r ts) (λ x us. with_front x (trailing_times n (has_class comma_sign) go r us))) (Ok ([], ts))) (Ok ([], t ∷ ts)))
    step true e k =
        from (t ∷ ts) ts _ (behind t ts (no_end (comma_sign ∷ []) refl t e))
        (cond_fair ts (next_is go ts) (then_read (r ts) (λ x us. with_front x (trailing_times n (has_class comma_sign) go r us))) (Ok ([], ts))
        (after_fair ts (r ts) (λ x us. with_front x (trailing_times n (has_class comma_sign) go r us)) (h.at ts) (λ x us. front_fair x us (trailing_times n (has_class comma_sign) go r us) (k us))) (λ e. e))
    step false e k = λ e. e

trailing_fair : {A : Type 0} (go : Token → Bool) (r : TokenReader A) → Regular r → Regular (trailing_items (has_class comma_sign) go r)
unfolding trailing_items
trailing_fair go r h = record { at = λ ts. trailing_at (length ts) go r h ts }

nested_fair : {A : Type 0} (begins classes : List ℕ) → IsOfKind classes → Regular (nested_read {A = A} begins classes)
nested_fair {A} begins classes k = record { at = λ ts. cond_fair ts (next_is (has_class_in begins) ts) (Err (Nested, ts)) (Err (fault_of classes (head_of ts), ts)) (inl refl, λ e. e) (kind_of classes k ts, λ e. e) }

abbrev Law : (A : Type 0) → TokenReader A → TokenReader A → Type 0
Law A r q = Regular r

less_end : (cs : List ℕ) → apart (numeral_class ∷ end_class ∷ []) cs ≡ true → apart (end_class ∷ []) cs ≡ true
less_end cs e = go (is_class_among cs numeral_class) (is_class_among cs end_class) e
  where
    go : (a b : Bool) → cond a false (cond b false true) ≡ true → cond b false true ≡ true
    go true b e = absurd (cc)
    go false b e = e

fairness : Keeps Law Free
fairness = record {
  nothing_keeps = λ a. record { at = λ ts e. e };
  one_keeps = λ cs e. record { at = one_fair cs left_out_classes (less_end cs e) everywhere };
  mapped_keeps = mapped_fair;
  both_keeps = both_fair;
  choice_keeps = λ test r q s p e. choice_fair test r q s p;
  taken_keeps = λ cs r q s p e t. choice_fair (has_class_in cs) r q s p;
  ahead_keeps = λ f cs r q s p e g h k. record { at = ahead_at f cs r s (less_end cs e) h k };
  many_keeps = λ test r q e. many_fair test r;
  many_taken_keeps = λ cs r q e t. many_fair (has_class_in cs) r;
  trailing_keeps = λ go r q e. trailing_fair go r;
}

primary_fair : (e : TokenReader Term) (a : TokenReader ArgTerm) → Regular e → Regular a → Regular (primary_read e a)
primary_fair e a =
    primary_keeps Law Free fairness (λ c f h. mapped_fair f (token_read (has_class c)) (token_read (has_class c)) (record { at = one_fair (c ∷ []) left_out_classes h everywhere }))
    (record { at = one_fair (open_bracket_sign ∷ []) left_out_of_expressions refl in_expressions }) (λ r q s p. choice_fair (has_class numeral_class) r q s p) e e a a

expressions : (d : ℕ) → Regular (expr_read d) × Regular (operand_read d) × Regular (arg_in d (expr_read d))
unfolding expr_read operand_read
expressions zero = (nested_fair firsts_of_expression left_out_of_expressions in_expressions, nested_fair firsts_of_expression left_out_of_expressions in_expressions, nested_fair firsts_of_expression left_out_of_expressions in_expressions)
expressions (suc d) =
    let k = expressions d in
    let p = primary_fair (expr_read d) (arg_in d (expr_read d)) k.0 k.2 in
    let token_read : Regular (expr_read (suc d)) = expression_keeps Law Free fairness (expr_read d) (expr_read d) k.0 (operand_read d) (operand_read d) (primary_read (expr_read d) (arg_in d (expr_read d))) (primary_read (expr_read d) (arg_in d (expr_read d))) k.1 p in
    (token_read, unary_keeps Law Free fairness (expr_read d) (expr_read d) k.0 (operand_read d) (operand_read d) (primary_read (expr_read d) (arg_in d (expr_read d))) (primary_read (expr_read d) (arg_in d (expr_read d))) k.1 p, arg_keeps Law Free fairness (expr_read (suc d)) (expr_read (suc d)) token_read)

params : (d : ℕ) → Regular (param_in d (expr_read d))
params zero = nested_fair (name_class ∷ []) left_out_classes everywhere
params (suc d) = param_keeps Law Free fairness (expr_read (suc d)) (expr_read (suc d)) (expressions (suc d)).0

binders : (d : ℕ) → Regular (binder_in d (expr_read d))
binders zero = nested_fair (name_class ∷ []) left_out_classes everywhere
binders (suc d) = binder_keeps Law Free fairness (expr_read (suc d)) (expr_read (suc d)) (expressions (suc d)).0

pub regular_statements : (d : ℕ) → Regular (statement_read d) × Regular (body_read d)
unfolding statement_read body_read
regular_statements zero = (nested_fair firsts_of_statement left_out_classes everywhere, nested_fair firsts_of_body left_out_classes everywhere)
regular_statements (suc d) =
    let k = regular_statements d in
    let e = expressions d in
    let n = binders_keep Law Free fairness (binder_in d (expr_read d)) (binder_in d (expr_read d)) (binders d) in
    let ns = binders_read (binder_in d (expr_read d)) in
    let i = instance_keeps Law Free fairness (expr_read d) (expr_read d) (arg_in d (expr_read d)) (arg_in d (expr_read d)) ns ns (body_read d) (body_read d) e.0 e.2 n k.1 tt tt in
    let s = many_fair (has_class_in firsts_of_statement) (statement_read d) k.0 in (
      statement_keeps Law Free fairness (statement_read d) (statement_read d) (instance_in d (body_read d)) (instance_in d (body_read d)) s i (expr_read (suc d)) (expr_read (suc d)) (param_in d (expr_read d)) (param_in d (expr_read d)) (body_read d) (body_read d) (expressions (suc d)).0 (params d) k.1 tt,
      body_keeps Law Free fairness (statement_read d) (statement_read d) (instance_in d (body_read d)) (instance_in d (body_read d)) s i,
    )
