-- What a reader leaves is no longer than what it was given.
use Rattle.std.proofs.Common.{◌≡◌, ℕ, zero, suc, ◌≤◌, List, [], ◌∷◌, length, Bool, true, false, cond, Ok, Err, Option, Some, refl, arith, ◌&&◌}
use Rattle.scad_lexer.specs.declared.token.Token.{Token}
use Rattle.scad_grammar.specs.declared.SyntaxFault.{SyntaxFault}
use Rattle.scad_grammar.specs.Reading.{Read, then_read, next_is, token_or_fault_read, image_read, empty_read, sequence_read, alternative_read, two_ahead, with_front, repeated_times, repeated_read, trailing_times, trailing_items}
use Rattle.scad_grammar.specs.Faults.{TokenReader}
use Rattle.scad_grammar.proofs.Ahead.{rest_of}

abbrev pub left : {A : Type 0} → Read Token SyntaxFault A → ℕ
left q = length (rest_of q)

pub record Shrinks {A : Type 0} (r : TokenReader A) : Type 0 where
  pub at : (ts : List Token) → left (r ts) ≤ length ts

pub after_left : {A B : Type 0} (n : ℕ) (q : Read Token SyntaxFault A) (g : A → List Token → Read Token SyntaxFault B) → left q ≤ n → ((x : A) (us : List Token) → left (g x us) ≤ length us) → left (then_read q g) ≤ n
after_left n (Ok p) g l h = omega (arith, l, h p.0 p.1)
after_left n (Err e) g l h = l

cond_left : {A : Type 0} (n : ℕ) (b : Bool) (q p : Read Token SyntaxFault A) → left q ≤ n → left p ≤ n → left (cond b q p) ≤ n
cond_left n true q p l m = l
cond_left n false q p l m = m

same_left : (ts : List Token) → length ts ≤ length ts
same_left ts = omega arith

pub one_shrinks : (test : Token → Bool) (fault : Option Token → SyntaxFault) → Shrinks (token_or_fault_read test fault)
one_shrinks test fault = record { at = at }
  where
    at : (ts : List Token) → left (token_or_fault_read test fault ts) ≤ length ts
    at [] = omega arith
    at (t ∷ ts) = cond_left (length (t ∷ ts)) (test t) (Ok (t, ts)) (Err (fault (Some t), t ∷ ts)) (omega arith) (omega arith)

pub nothing_shrinks : {A : Type 0} (a : A) → Shrinks (empty_read a)
nothing_shrinks a = record { at = same_left }

pub mapped_shrinks : {A B : Type 0} (f : A → B) (r : TokenReader A) → Shrinks r → Shrinks (image_read f r)
mapped_shrinks f r h = record { at = λ ts. after_left (length ts) (r ts) (λ a us. Ok (f a, us)) (h.at ts) (λ a us. same_left us) }

pub both_shrinks : {A B C : Type 0} (f : A → B → C) (r : TokenReader A) (s : TokenReader B) → Shrinks r → Shrinks s → Shrinks (sequence_read f r s)
both_shrinks f r s h k = record { at = λ ts. after_left (length ts) (r ts) (λ a us. then_read (s us) (λ b vs. Ok (f a b, vs))) (h.at ts) (λ a us. after_left (length us) (s us) (λ b vs. Ok (f a b, vs)) (k.at us) (λ b vs. same_left vs)) }

pub choice_shrinks : {A : Type 0} (test : Token → Bool) (r s : TokenReader A) → Shrinks r → Shrinks s → Shrinks (alternative_read test r s)
choice_shrinks test r s h k = record { at = λ ts. cond_left (length ts) (next_is test ts) (r ts) (s ts) (h.at ts) (k.at ts) }

ahead_left : {A C : Type 0} (f : Token → Token → A → C) (a b : Token → Bool) (r : TokenReader A) (s : TokenReader C) → Shrinks r → Shrinks s → (ts : List Token) → left (two_ahead f a b r s ts) ≤ length ts
ahead_left f a b r s h k [] = k.at []
ahead_left f a b r s h k (t ∷ []) = k.at (t ∷ [])
ahead_left f a b r s h k (t ∷ u ∷ ts) =
    cond_left (length (t ∷ u ∷ ts)) (a t && b u) (then_read (r ts) (λ x us. Ok (f t u x, us))) (s (t ∷ u ∷ ts))
    (let less = after_left (length ts) (r ts) (λ x us. Ok (f t u x, us)) (h.at ts) (λ x us. same_left us) in omega (arith, less)) (k.at (t ∷ u ∷ ts))

pub ahead_shrinks : {A C : Type 0} (f : Token → Token → A → C) (a b : Token → Bool) (r : TokenReader A) (s : TokenReader C) → Shrinks r → Shrinks s → Shrinks (two_ahead f a b r s)
ahead_shrinks f a b r s h k = record { at = ahead_left f a b r s h k }

front_left : {A : Type 0} (n : ℕ) (x : A) (q : Read Token SyntaxFault (List A)) → left q ≤ n → left (with_front x q) ≤ n
front_left n x (Ok p) l = l
front_left n x (Err e) l = l

pub times_left : {A : Type 0} (n : ℕ) (test : Token → Bool) (r : TokenReader A) → Shrinks r → (ts : List Token) → left (repeated_times n test r ts) ≤ length ts
unfolding repeated_times
times_left zero test r h ts = same_left ts
times_left (suc n) test r h ts =
    cond_left (length ts) (next_is test ts) (then_read (r ts) (λ x us. with_front x (repeated_times n test r us))) (Ok ([], ts))
    (after_left (length ts) (r ts) (λ x us. with_front x (repeated_times n test r us)) (h.at ts) (λ x us. front_left (length us) x (repeated_times n test r us) (times_left n test r h us))) (same_left ts)

pub many_shrinks : {A : Type 0} (test : Token → Bool) (r : TokenReader A) → Shrinks r → Shrinks (repeated_read test r)
unfolding repeated_read
many_shrinks test r h = record { at = λ ts. times_left (length ts) test r h ts }

pub trailing_left : {A : Type 0} (n : ℕ) (mark go : Token → Bool) (r : TokenReader A) → Shrinks r → (ts : List Token) → left (trailing_times n mark go r ts) ≤ length ts
unfolding trailing_times
trailing_left zero mark go r h ts = same_left ts
trailing_left (suc n) mark go r h [] = omega arith
trailing_left (suc n) mark go r h (t ∷ ts) =
    let item = after_left (length ts) (r ts) (λ x us. with_front x (trailing_times n mark go r us)) (h.at ts) (λ x us. front_left (length us) x (trailing_times n mark go r us) (trailing_left n mark go r h us)) in
    let items = cond_left (length ts) (next_is go ts) (then_read (r ts) (λ x us. with_front x (trailing_times n mark go r us))) (Ok ([], ts)) item (same_left ts) in
    cond_left (length (t ∷ ts)) (mark t) (cond (next_is go ts) (then_read (r ts) (λ x us. with_front x (trailing_times n mark go r us))) (Ok ([], ts))) (Ok ([], t ∷ ts)) (omega (arith, items)) (same_left (t ∷ ts))

pub trailing_shrinks : {A : Type 0} (mark go : Token → Bool) (r : TokenReader A) → Shrinks r → Shrinks (trailing_items mark go r)
unfolding trailing_items
trailing_shrinks mark go r h = record { at = λ ts. trailing_left (length ts) mark go r h ts }

pub front_rest : {A : Type 0} (x : A) (q : Read Token SyntaxFault (List A)) → rest_of (with_front x q) ≡ rest_of q
front_rest x (Ok p) = refl
front_rest x (Err e) = refl
