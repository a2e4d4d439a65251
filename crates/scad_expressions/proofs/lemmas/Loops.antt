-- The steps of the parser's loops, over readers that leave fewer tokens.
use Rattle.std.proofs.Common.{◌≡◌, ℕ, zero, suc, ◌<◌, ◌≤◌, List, [], ◌∷◌, length, Bool, true, false, cond, Ok, Err, refl, ap, ◌∙◌, arith, ◌&&◌}
use Rattle.scad_lexer.specs.declared.token.Token.{Token}
use Rattle.scad_grammar.specs.declared.SyntaxFault.{SyntaxFault}
use Rattle.scad_grammar.specs.Classes.{comma_sign, has_class}
use Rattle.scad_grammar.specs.Faults.{TokenReader}
use Rattle.scad_grammar.specs.Reading.{Read, then_read, next_is, with_front, repeated_times, repeated_read, trailing_times, trailing_items}
use Rattle.scad_expressions.specs.Views.{item_stands, past_comma}

-- no more tokens are left than there were, and fewer
abbrev pub Shorter : {A : Type 0} → TokenReader A → Type 0
Shorter {A} r = (ts : List Token) (x : A) (us : List Token) → r ts ≡ Ok (x, us) → length us ≤ length ts

abbrev pub Strictly : {A : Type 0} → TokenReader A → Type 0
Strictly {A} r = (ts : List Token) (x : A) (us : List Token) → r ts ≡ Ok (x, us) → length us < length ts

module _ {A : Type 0} (test : Token → Bool) (r : TokenReader A) (strict : Strictly r) where
  enough_after : (n m : ℕ) → ((k : ℕ) (us : List Token) → length us ≤ n → length us ≤ k → repeated_times n test r us ≡ repeated_times k test r us)
      → (ts : List Token) → length ts ≤ suc n → length ts ≤ suc m → (q : Read Token SyntaxFault A) → r ts ≡ q → then_read q (λ x us. with_front x (repeated_times n test r us)) ≡ then_read q (λ x us. with_front x (repeated_times m test r us))
  enough_after n m same ts a b (Ok p) e =
      let less : length p.1 < length ts = strict ts p.0 p.1 e in
      ap (with_front p.0) (same m p.1 (omega arith) (omega arith))
  enough_after n m same ts a b (Err x) e = refl

  enough : (n m : ℕ) (ts : List Token) → length ts ≤ n → length ts ≤ m → repeated_times n test r ts ≡ repeated_times m test r ts
  unfolding repeated_times
  enough zero zero ts a b = refl
  enough zero (suc m) [] a b = refl
  enough zero (suc m) (t ∷ ts) a b = absurd (omega arith)
  enough (suc n) zero [] a b = refl
  enough (suc n) zero (t ∷ ts) a b = absurd (omega arith)
  enough (suc n) (suc m) ts a b = ap (λ q. cond (next_is test ts) q (Ok ([], ts))) (enough_after n m (enough n) ts a b (r ts) refl)

  step_after : (n : ℕ) (ts : List Token) → length ts ≤ suc n → (q : Read Token SyntaxFault A) → r ts ≡ q → then_read q (λ x us. with_front x (repeated_times n test r us)) ≡ then_read q (λ x us. with_front x (repeated_read test r us))
  unfolding repeated_read
  step_after n ts a (Ok p) e =
      let less : length p.1 < length ts = strict ts p.0 p.1 e in
      ap (with_front p.0) (enough n (length p.1) p.1 (omega arith) (omega arith))
  step_after n ts a (Err x) e = refl

  pub many_step : (ts : List Token) → repeated_read test r ts ≡ cond (next_is test ts) (then_read (r ts) (λ x us. with_front x (repeated_read test r us))) (Ok ([], ts))
  unfolding repeated_read repeated_times
  many_step [] = refl
  many_step (t ∷ ts) = ap (λ q. cond (test t) q (Ok ([], t ∷ ts))) (step_after (length ts) (t ∷ ts) (omega arith) (r (t ∷ ts)) refl)

  pub many_more : (ts : List Token) (x : A) (us : List Token) → next_is test ts ≡ true → r ts ≡ Ok (x, us) → repeated_read test r ts ≡ with_front x (repeated_read test r us)
  many_more ts x us a b = many_step ts ∙ ap (λ c. cond c (then_read (r ts) (λ x us. with_front x (repeated_read test r us))) (Ok ([], ts))) a ∙ ap (λ q. then_read q (λ x us. with_front x (repeated_read test r us))) b

  pub many_end : (ts : List Token) → next_is test ts ≡ false → repeated_read test r ts ≡ Ok ([], ts)
  many_end ts a = many_step ts ∙ ap (λ c. cond c (then_read (r ts) (λ x us. with_front x (repeated_read test r us))) (Ok ([], ts))) a

  pub many_stop : (ts : List Token) (e : SyntaxFault × List Token) → next_is test ts ≡ true → r ts ≡ Err e → repeated_read test r ts ≡ Err e
  many_stop ts e a b = many_step ts ∙ ap (λ c. cond c (then_read (r ts) (λ x us. with_front x (repeated_read test r us))) (Ok ([], ts))) a ∙ ap (λ q. then_read q (λ x us. with_front x (repeated_read test r us))) b

-- items behind commas, and maybe a comma behind the last
module _ {A : Type 0} (go : Token → Bool) (r : TokenReader A) (shorter : Shorter r) where
  fewer_after : (n m : ℕ) → ((k : ℕ) (us : List Token) → length us ≤ n → length us ≤ k → trailing_times n (has_class comma_sign) go r us ≡ trailing_times k (has_class comma_sign) go r us)
      → (ts : List Token) → length ts ≤ n → length ts ≤ m → (q : Read Token SyntaxFault A) → r ts ≡ q → then_read q (λ x us. with_front x (trailing_times n (has_class comma_sign) go r us)) ≡ then_read q (λ x us. with_front x (trailing_times m (has_class comma_sign) go r us))
  fewer_after n m same ts a b (Ok p) e =
      let less : length p.1 ≤ length ts = shorter ts p.0 p.1 e in
      ap (with_front p.0) (same m p.1 (omega arith) (omega arith))
  fewer_after n m same ts a b (Err x) e = refl

  fewer : (n m : ℕ) (ts : List Token) → length ts ≤ n → length ts ≤ m → trailing_times n (has_class comma_sign) go r ts ≡ trailing_times m (has_class comma_sign) go r ts
  unfolding trailing_times
  fewer zero zero ts a b = refl
  fewer zero (suc m) [] a b = refl
  fewer zero (suc m) (t ∷ ts) a b = absurd (omega arith)
  fewer (suc n) zero [] a b = refl
  fewer (suc n) zero (t ∷ ts) a b = absurd (omega arith)
  fewer (suc n) (suc m) [] a b = refl
  fewer (suc n) (suc m) (t ∷ ts) a b = ap (λ q. cond (has_class comma_sign t) (cond (next_is go ts) q (Ok ([], ts))) (Ok ([], t ∷ ts))) (fewer_after n m (fewer n) ts (omega arith) (omega arith) (r ts) refl)

  item_after : (n : ℕ) (ts : List Token) → length ts ≤ n → (q : Read Token SyntaxFault A) → r ts ≡ q → then_read q (λ x us. with_front x (trailing_times n (has_class comma_sign) go r us)) ≡ then_read q (λ x us. with_front x (trailing_items (has_class comma_sign) go r us))
  unfolding trailing_items
  item_after n ts a (Ok p) e =
      let less : length p.1 ≤ length ts = shorter ts p.0 p.1 e in
      ap (with_front p.0) (fewer n (length p.1) p.1 (omega arith) (omega arith))
  item_after n ts a (Err x) e = refl

  pub trailing_step : (t : Token) (ts : List Token) → trailing_items (has_class comma_sign) go r (t ∷ ts) ≡ cond (has_class comma_sign t) (cond (next_is go ts) (then_read (r ts) (λ x us. with_front x (trailing_items (has_class comma_sign) go r us))) (Ok ([], ts))) (Ok ([], t ∷ ts))
  unfolding trailing_items trailing_times
  trailing_step t ts = ap (λ q. cond (has_class comma_sign t) (cond (next_is go ts) q (Ok ([], ts))) (Ok ([], t ∷ ts))) (item_after (length ts) ts (omega arith) (r ts) refl)

  taken : (b c : Bool) (t : Token) (ts : List Token) (q : Read Token SyntaxFault (List A)) → (b && c) ≡ true → cond b (cond c q (Ok ([], ts))) (Ok ([], t ∷ ts)) ≡ q
  taken true true t ts q e = refl
  taken true false t ts q e = absurd (cc)
  taken false c t ts q e = absurd (cc)

  pub trailing_item : (ts : List Token) → item_stands go ts ≡ true → trailing_items (has_class comma_sign) go r ts ≡ then_read (r (past_comma ts)) (λ x us. with_front x (trailing_items (has_class comma_sign) go r us))
  trailing_item [] e = absurd (cc)
  trailing_item (t ∷ ts) e = trailing_step t ts ∙ go_on (has_class comma_sign t) (next_is go ts) e
    where
      go_on : (b c : Bool) → (b && c) ≡ true → cond b (cond c (then_read (r ts) (λ x us. with_front x (trailing_items (has_class comma_sign) go r us))) (Ok ([], ts))) (Ok ([], t ∷ ts)) ≡ then_read (r (cond b ts (t ∷ ts))) (λ x us. with_front x (trailing_items (has_class comma_sign) go r us))
      go_on true true e = refl
      go_on true false e = absurd (cc)
      go_on false c e = absurd (cc)

  pub trailing_more : (ts : List Token) (x : A) (us : List Token) → item_stands go ts ≡ true → r (past_comma ts) ≡ Ok (x, us) → trailing_items (has_class comma_sign) go r ts ≡ with_front x (trailing_items (has_class comma_sign) go r us)
  trailing_more ts x us a b = trailing_item ts a ∙ ap (λ q. then_read q (λ x us. with_front x (trailing_items (has_class comma_sign) go r us))) b

  pub trailing_stop : (ts : List Token) (e : SyntaxFault × List Token) → item_stands go ts ≡ true → r (past_comma ts) ≡ Err e → trailing_items (has_class comma_sign) go r ts ≡ Err e
  trailing_stop ts e a b = trailing_item ts a ∙ ap (λ q. then_read q (λ x us. with_front x (trailing_items (has_class comma_sign) go r us))) b

  pub trailing_end : (ts : List Token) → item_stands go ts ≡ false → trailing_items (has_class comma_sign) go r ts ≡ Ok ([], past_comma ts)
  unfolding trailing_items trailing_times
  trailing_end [] e = refl
  trailing_end (t ∷ ts) e = trailing_step t ts ∙ go_on (has_class comma_sign t) (next_is go ts) e
    where
      go_on : (b c : Bool) → (b && c) ≡ false → cond b (cond c (then_read (r ts) (λ x us. with_front x (trailing_items (has_class comma_sign) go r us))) (Ok ([], ts))) (Ok ([], t ∷ ts)) ≡ Ok ([], cond b ts (t ∷ ts))
      go_on true true e = absurd (cc)
      go_on true false e = refl
      go_on false c e = refl

-- a comma before an item is a token less
pub past_shorter : (go : Token → Bool) (ts : List Token) → item_stands go ts ≡ true → length (past_comma ts) < length ts
past_shorter go [] e = absurd (cc)
past_shorter go (t ∷ ts) e = go_on (has_class comma_sign t) (next_is go ts) e
  where
    go_on : (b c : Bool) → (b && c) ≡ true → length (cond b ts (t ∷ ts)) < suc (length ts)
    go_on true true e = omega arith
    go_on true false e = absurd (cc)
    go_on false c e = absurd (cc)
