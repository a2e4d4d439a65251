-- What each part of a word is found to be.
use Rattle.std.proofs.Common.{◌≡◌, ℕ, zero, suc, ◌+◌, ◌-◌, ◌<◌, ◌≤◌, List, [], ◌∷◌, length, take, drop, get_or, Bool, true, false, cond, not, ◌&&◌, Option, Some, None, refl, sym, ap, ◌∙◌, subst, arith, nat_eq, length-drop, IfSome, IfNone}
use Rattle.std.proofs.Common.{inl, inr}
use Rattle.std.proofs.lemmas.Bool.Decides.{eqb_tells, nat_tests}
use Rattle.scad_lexer.specs.declared.class.ByteClass.TheVariants.{InLine, Exponent, Sign, Byte}
use Rattle.scad_lexer.specs.declared.token.Symbol.{Symbol}
use Rattle.scad_lexer.specs.declared.token.Symbol.TheVariants.{Dot, Divide}
use Rattle.scad_lexer.specs.declared.word.Word.{Word}
use Rattle.scad_lexer.specs.declared.word.Word.TheVariants.{Blank, UnclosedComment, Name, Special, Numeral, NumeralAndLetter, Text, UnclosedText, Symbol as SymbolWord}
use Rattle.scad_lexer.specs.Words.{is_digit_byte, is_letter_byte, is_blank_byte, is_name_byte, run_of, IsLongest, HasNoWord}
use Rattle.scad_lexer.specs.Scanning.{all_bytes, is_of_class, begins_with, word_where, where_last, with_bytes, more_bytes, one_longer, longest_front, in_whole, in_fraction, number_end, after_e, after_sign, in_exponent, after_point, after_dollar, after_slash, in_comment, after_star, in_text, in_escape, one_byte_symbol, two_byte_symbol, two_byte_symbol_from, symbol_word, symbol_of, word_from}
use Rattle.scad_lexer.proofs.Matched.{is_read}
use Rattle.scad_lexer.proofs.Longest.{no_empty_word, longest_end, longest_step, longest_taken, longest_stop, longest_alone, longest_some, longest_same, longest_every, run_then, behind_run, drop_more, longest_is, longest_isnt}

not_equal : (b c : ℕ) → (b ≡ c → ⊥) → nat_eq b c ≡ false
not_equal b c h = elim (eqb_tells b c) [ inl p ↦ absurd (h p.1) | inr p ↦ p.0 ]

take_all : (t : List ℕ) (n : ℕ) → length t ≤ n → take n t ≡ t
take_all [] zero h = refl
take_all [] (suc n) h = refl
take_all (b ∷ t) zero h = absurd (omega arith)
take_all (b ∷ t) (suc n) h = ap (λ l. b ∷ l) (take_all t n (omega arith))

-- the rest of a text, as a slice gives it
pub rest_all : (t : List ℕ) (n : ℕ) → take (length t - n) (drop n t) ≡ drop n t
rest_all t n = take_all (drop n t) (length t - n) (omega (arith, length-drop n t))

-- a byte of a class, and then what g reads
pub begin_then : (p : ℕ → Bool) (f g : List ℕ → Option Word) → ((b : ℕ) (w : List ℕ) → p b ≡ true → f (b ∷ w) ≡ g w) → (t : List ℕ) (x : Word) (n : ℕ) → begins_with p t ≡ true → longest_front g (take (length t - 1) (drop 1 t)) ≡ Some (x, n) → longest_front f t ≡ Some (x, 1 + n)
begin_then p f g h [] x n e k = absurd (cc)
begin_then p f g h (b ∷ t) x n e k =
    let one : suc n ≡ 1 + n = omega arith in
    longest_taken f g b (λ w. h b w e) t x n (ap (longest_front g) (sym (rest_all (b ∷ t) 1)) ∙ k) ∙ ap (λ n. Some (x, n)) one

-- no byte that goes on
pub begin_none : (f : List ℕ → Option Word) (x : Option Word) → f [] ≡ x → (t : List ℕ) → ((b : ℕ) (u w : List ℕ) → t ≡ b ∷ u → f (b ∷ w) ≡ None) → longest_front f t ≡ with_bytes 0 x
begin_none f x e [] h = longest_end f ∙ ap (with_bytes 0) e
begin_none f x e (b ∷ t) h = longest_stop f b (λ w. h b t w refl) t ∙ ap (with_bytes 0) e

pub begins_at : (p : ℕ → Bool) (t : List ℕ) (b : ℕ) (u : List ℕ) (c : Bool) → begins_with p t ≡ c → t ≡ b ∷ u → p b ≡ c
begins_at p t b u c e h = ap (begins_with p) (sym h) ∙ e

-- a run of digits, and what is found behind it
pub digits_then : (f : List ℕ → Option Word) (x : Word) → f [] ≡ Some x → ((b : ℕ) (w : List ℕ) → is_digit_byte b ≡ true → f (b ∷ w) ≡ f w) → (t : List ℕ) (n : ℕ) → n ≡ run_of is_digit_byte t → (y : Word) (m : ℕ) → longest_front f (take (length t - n) (drop n t)) ≡ Some (y, m) → longest_front f t ≡ Some (y, n + m)
digits_then f x e h t n same y m g = run_then is_digit_byte f x e h t n same y m (ap (longest_front f) (sym (rest_all t n)) ∙ g)

pub no_digit : (t : List ℕ) (n : ℕ) → n ≡ run_of is_digit_byte t → begins_with is_digit_byte (take (length t - n) (drop n t)) ≡ false
no_digit t n same = ap (begins_with is_digit_byte) (rest_all t n ∙ ap (λ n. drop n t) same) ∙ go (drop (run_of is_digit_byte t) t) refl
  where
    go : (u : List ℕ) → drop (run_of is_digit_byte t) t ≡ u → begins_with is_digit_byte u ≡ false
    go [] e = refl
    go (b ∷ u) e = behind_run is_digit_byte t b u e

whole_digit : (b : ℕ) (w : List ℕ) → is_digit_byte b ≡ true → in_whole (b ∷ w) ≡ in_whole w
unfolding in_whole
whole_digit b w e = ap (λ c. cond c (in_whole w) (cond (nat_eq b 46) (in_fraction w) (number_end (b ∷ w)))) e

whole_empty : in_whole [] ≡ Some Numeral
unfolding in_whole
whole_empty = refl

pub whole_then : (t : List ℕ) (n : ℕ) → n ≡ run_of is_digit_byte t → (y : Word) (m : ℕ) → longest_front in_whole (take (length t - n) (drop n t)) ≡ Some (y, m) → longest_front in_whole t ≡ Some (y, n + m)
whole_then = digits_then in_whole Numeral whole_empty whole_digit

-- where no digit stands, a point or the end of the number
whole_point : (b : ℕ) (w : List ℕ) → is_digit_byte b ≡ false → nat_eq b 46 ≡ true → in_whole (b ∷ w) ≡ in_fraction w
unfolding in_whole
whole_point b w d e = rw (d, e) refl

whole_other : (b : ℕ) (w : List ℕ) → is_digit_byte b ≡ false → nat_eq b 46 ≡ false → in_whole (b ∷ w) ≡ number_end (b ∷ w)
unfolding in_whole
whole_other b w d e = rw (d, e) refl

same_from : (f g : List ℕ → Option Word) → f [] ≡ g [] → (b : ℕ) (t : List ℕ) → ((w : List ℕ) → f (b ∷ w) ≡ g (b ∷ w)) → longest_front f (b ∷ t) ≡ longest_front g (b ∷ t)
same_from f g e b t h = longest_step f (λ w. g (b ∷ w)) b h t ∙ ap (λ x. one_longer (longest_front (λ w. g (b ∷ w)) t) (with_bytes 0 x)) e ∙ sym (longest_step g (λ w. g (b ∷ w)) b (λ w. refl) t)

pub point_then : (t : List ℕ) (x : Word) (n : ℕ) → begins_with is_digit_byte t ≡ false → begins_with (is_of_class (Byte 46)) t ≡ true → longest_front in_fraction (take (length t - 1) (drop 1 t)) ≡ Some (x, n) → longest_front in_whole t ≡ Some (x, 1 + n)
point_then [] x n d e k = absurd (cc)
point_then (b ∷ t) x n d e k =
    let one : suc n ≡ 1 + n = omega arith in
    longest_taken in_whole in_fraction b (λ w. whole_point b w d e) t x n (ap (longest_front in_fraction) (sym (rest_all (b ∷ t) 1)) ∙ k) ∙ ap (λ n. Some (x, n)) one

pub whole_ends : (t : List ℕ) (r : Option (Word × ℕ)) → begins_with is_digit_byte t ≡ false → begins_with (is_of_class (Byte 46)) t ≡ false → longest_front number_end t ≡ r → longest_front in_whole t ≡ r
unfolding in_whole
whole_ends [] r d e k = longest_end in_whole ∙ sym (longest_end number_end) ∙ k
whole_ends (b ∷ t) r d e k = same_from in_whole number_end refl b t (λ w. whole_other b w d e) ∙ k

fraction_digit : (b : ℕ) (w : List ℕ) → is_digit_byte b ≡ true → in_fraction (b ∷ w) ≡ in_fraction w
unfolding in_fraction
fraction_digit b w e = ap (λ c. cond c (in_fraction w) (number_end (b ∷ w))) e

fraction_empty : in_fraction [] ≡ Some Numeral
unfolding in_fraction
fraction_empty = refl

fraction_ends : (t : List ℕ) (r : Option (Word × ℕ)) → begins_with is_digit_byte t ≡ false → longest_front number_end t ≡ r → longest_front in_fraction t ≡ r
unfolding in_fraction
fraction_ends [] r d k = longest_end in_fraction ∙ sym (longest_end number_end) ∙ k
fraction_ends (b ∷ t) r d k = same_from in_fraction number_end refl b t (λ w. ap (λ c. cond c (in_fraction w) (number_end (b ∷ w))) d) ∙ k

pub fraction_then : (t : List ℕ) (n : ℕ) → n ≡ run_of is_digit_byte t → (y : Word) (m : ℕ) → longest_front number_end (take (length t - n) (drop n t)) ≡ Some (y, m) → longest_front in_fraction t ≡ Some (y, n + m)
fraction_then t n same y m g = digits_then in_fraction Numeral fraction_empty fraction_digit t n same y m (fraction_ends (take (length t - n) (drop n t)) (Some (y, m)) (no_digit t n same) g)

-- the end of a number
end_power : (b : ℕ) (w : List ℕ) → is_of_class Exponent b ≡ true → number_end (b ∷ w) ≡ after_e w
end_power b w e = ap (λ c. cond c (after_e w) (cond (is_letter_byte b) (where_last NumeralAndLetter w) None)) e

pub power_then : (t : List ℕ) (x : Word) (n : ℕ) → begins_with (is_of_class Exponent) t ≡ true → longest_front after_e (take (length t - 1) (drop 1 t)) ≡ Some (x, n) → longest_front number_end t ≡ Some (x, 1 + n)
power_then = begin_then (is_of_class Exponent) number_end after_e end_power

end_letter : (b : ℕ) (w : List ℕ) → is_of_class Exponent b ≡ false → is_letter_byte b ≡ true → number_end (b ∷ w) ≡ where_last NumeralAndLetter w
end_letter b w e l = rw (e, l) refl

end_none : (b : ℕ) (w : List ℕ) → is_of_class Exponent b ≡ false → is_letter_byte b ≡ false → number_end (b ∷ w) ≡ None
end_none b w e l = rw (e, l) refl

pub letter_ends : (t : List ℕ) → begins_with (is_of_class Exponent) t ≡ false → begins_with is_letter_byte t ≡ true → longest_front number_end t ≡ Some (NumeralAndLetter, 1)
letter_ends [] e l = absurd (cc)
letter_ends (b ∷ t) e l = longest_taken number_end (where_last NumeralAndLetter) b (λ w. end_letter b w e l) t NumeralAndLetter 0 (longest_alone NumeralAndLetter t)

pub number_ends : (t : List ℕ) → begins_with (is_of_class Exponent) t ≡ false → begins_with is_letter_byte t ≡ false → longest_front number_end t ≡ Some (Numeral, 0)
number_ends t e l = begin_none number_end (Some Numeral) refl t (λ b u w h. end_none b w (begins_at (is_of_class Exponent) t b u false e h) (begins_at is_letter_byte t b u false l h))

-- exponents
exponent_digit : (b : ℕ) (w : List ℕ) → is_digit_byte b ≡ true → after_e (b ∷ w) ≡ in_exponent w
exponent_digit b w e = ap (λ c. cond c (in_exponent w) (cond (is_of_class Sign b) (after_sign w) None)) e

pub exponent_then : (t : List ℕ) (x : Word) (n : ℕ) → begins_with is_digit_byte t ≡ true → longest_front in_exponent (take (length t - 1) (drop 1 t)) ≡ Some (x, n) → longest_front after_e t ≡ Some (x, 1 + n)
exponent_then = begin_then is_digit_byte after_e in_exponent exponent_digit

exponent_sign : (b : ℕ) (w : List ℕ) → is_digit_byte b ≡ false → is_of_class Sign b ≡ true → after_e (b ∷ w) ≡ after_sign w
exponent_sign b w d e = rw (d, e) refl

exponent_none : (b : ℕ) (w : List ℕ) → is_digit_byte b ≡ false → is_of_class Sign b ≡ false → after_e (b ∷ w) ≡ None
exponent_none b w d e = rw (d, e) refl

sign_digit : (b : ℕ) (w : List ℕ) → is_digit_byte b ≡ true → after_sign (b ∷ w) ≡ in_exponent w
sign_digit b w e = ap (λ c. cond c (in_exponent w) None) e

sign_none : (b : ℕ) (w : List ℕ) → is_digit_byte b ≡ false → after_sign (b ∷ w) ≡ None
sign_none b w e = ap (λ c. cond c (in_exponent w) None) e

two_more : (n : ℕ) → suc (suc n) ≡ 2 + n
two_more n = omega arith

pub sign_then : (t : List ℕ) (x : Word) (n : ℕ) → begins_with is_digit_byte t ≡ false → begins_with (is_of_class Sign) t ≡ true → begins_with is_digit_byte (take (length t - 1) (drop 1 t)) ≡ true → longest_front in_exponent (take (length t - 2) (drop 2 t)) ≡ Some (x, n) → longest_front after_e t ≡ Some (x, 2 + n)
sign_then [] x n d e g k = absurd (cc)
sign_then (b ∷ []) x n d e g k = absurd (cc)
sign_then (b ∷ c ∷ t) x n d e g k =
    let next : is_digit_byte c ≡ true = ap (begins_with is_digit_byte) (sym (rest_all (b ∷ c ∷ t) 1)) ∙ g in
    longest_taken after_e after_sign b (λ w. exponent_sign b w d e) (c ∷ t) x (suc n)
    (longest_taken after_sign in_exponent c (λ w. sign_digit c w next) t x n (ap (longest_front in_exponent) (sym (rest_all (b ∷ c ∷ t) 2)) ∙ k))
    ∙ ap (λ n. Some (x, n)) (two_more n)

-- a sign with no digit behind it
sign_alone : (t : List ℕ) → begins_with is_digit_byte t ≡ false → longest_front after_sign t ≡ None
sign_alone t d = begin_none after_sign None refl t (λ b u w h. sign_none b w (begins_at is_digit_byte t b u false d h))

pub no_exponent : (t : List ℕ) → begins_with is_digit_byte t ≡ false → begins_with (is_of_class Sign) t ≡ false → longest_front after_e t ≡ Some (NumeralAndLetter, 0)
no_exponent t d e = begin_none after_e (Some NumeralAndLetter) refl t (λ b u w h. exponent_none b w (begins_at is_digit_byte t b u false d h) (begins_at (is_of_class Sign) t b u false e h))

pub no_power : (t : List ℕ) → begins_with is_digit_byte t ≡ false → begins_with (is_of_class Sign) t ≡ true → begins_with is_digit_byte (take (length t - 1) (drop 1 t)) ≡ false → longest_front after_e t ≡ Some (NumeralAndLetter, 0)
no_power [] d e g = absurd (cc)
no_power (b ∷ t) d e g =
    longest_step after_e after_sign b (λ w. exponent_sign b w d e) t
    ∙ ap (λ r. one_longer r (Some (NumeralAndLetter, 0))) (sign_alone t (ap (begins_with is_digit_byte) (sym (rest_all (b ∷ t) 1)) ∙ g))

in_exponent_digit : (b : ℕ) (w : List ℕ) → is_digit_byte b ≡ true → in_exponent (b ∷ w) ≡ in_exponent w
unfolding in_exponent
in_exponent_digit b w e = ap (λ c. cond c (in_exponent w) (cond (is_letter_byte b) (where_last NumeralAndLetter w) None)) e

in_exponent_letter : (b : ℕ) (w : List ℕ) → is_digit_byte b ≡ false → is_letter_byte b ≡ true → in_exponent (b ∷ w) ≡ where_last NumeralAndLetter w
unfolding in_exponent
in_exponent_letter b w d e = rw (d, e) refl

in_exponent_none : (b : ℕ) (w : List ℕ) → is_digit_byte b ≡ false → is_letter_byte b ≡ false → in_exponent (b ∷ w) ≡ None
unfolding in_exponent
in_exponent_none b w d e = rw (d, e) refl

in_exponent_empty : in_exponent [] ≡ Some Numeral
unfolding in_exponent
in_exponent_empty = refl

behind_letter : (t : List ℕ) → begins_with is_digit_byte t ≡ false → begins_with is_letter_byte t ≡ true → longest_front in_exponent t ≡ Some (NumeralAndLetter, 1)
behind_letter [] d e = absurd (cc)
behind_letter (b ∷ t) d e = longest_taken in_exponent (where_last NumeralAndLetter) b (λ w. in_exponent_letter b w d e) t NumeralAndLetter 0 (longest_alone NumeralAndLetter t)

pub power_letter : (t : List ℕ) (n : ℕ) → n ≡ run_of is_digit_byte t → begins_with is_letter_byte (take (length t - n) (drop n t)) ≡ true → longest_front in_exponent t ≡ Some (NumeralAndLetter, n + 1)
power_letter t n same e = digits_then in_exponent Numeral in_exponent_empty in_exponent_digit t n same NumeralAndLetter 1 (behind_letter (take (length t - n) (drop n t)) (no_digit t n same) e)

pub power_ends : (t : List ℕ) (n : ℕ) → n ≡ run_of is_digit_byte t → begins_with is_letter_byte (take (length t - n) (drop n t)) ≡ false → longest_front in_exponent t ≡ Some (Numeral, n)
power_ends t n same e =
    let r = take (length t - n) (drop n t) in
    let none : n + 0 ≡ n = omega arith in
    digits_then in_exponent Numeral in_exponent_empty in_exponent_digit t n same Numeral 0
    (begin_none in_exponent (Some Numeral) in_exponent_empty r (λ b u w h. in_exponent_none b w (begins_at is_digit_byte r b u false (no_digit t n same) h) (begins_at is_letter_byte r b u false e h)))
    ∙ ap (λ n. Some (Numeral, n)) none

-- a point
point_digit : (b : ℕ) (w : List ℕ) → is_digit_byte b ≡ true → after_point (b ∷ w) ≡ in_fraction w
point_digit b w e = ap (λ c. cond c (in_fraction w) None) e

point_none : (b : ℕ) (w : List ℕ) → is_digit_byte b ≡ false → after_point (b ∷ w) ≡ None
point_none b w e = ap (λ c. cond c (in_fraction w) None) e

pub fraction_behind : (t : List ℕ) (x : Word) (n : ℕ) → begins_with is_digit_byte t ≡ true → longest_front in_fraction (take (length t - 1) (drop 1 t)) ≡ Some (x, n) → longest_front after_point t ≡ Some (x, 1 + n)
fraction_behind = begin_then is_digit_byte after_point in_fraction point_digit

pub point_alone : (t : List ℕ) → begins_with is_digit_byte t ≡ false → longest_front after_point t ≡ Some (SymbolWord Dot, 0)
point_alone t d = begin_none after_point (Some (SymbolWord Dot)) refl t (λ b u w h. point_none b w (begins_at is_digit_byte t b u false d h))

-- a dollar
dollar_letter : (b : ℕ) (w : List ℕ) → is_letter_byte b ≡ true → after_dollar (b ∷ w) ≡ word_where (all_bytes is_name_byte w) Special
dollar_letter b w e = ap (λ c. cond c (word_where (all_bytes is_name_byte w) Special) None) e

dollar_none : (b : ℕ) (w : List ℕ) → is_letter_byte b ≡ false → after_dollar (b ∷ w) ≡ None
dollar_none b w e = ap (λ c. cond c (word_where (all_bytes is_name_byte w) Special) None) e

pub special_name : (t : List ℕ) (n : ℕ) → begins_with is_letter_byte t ≡ true → n ≡ run_of is_name_byte (take (length t - 1) (drop 1 t)) → longest_front after_dollar t ≡ Some (Special, 1 + n)
special_name t n e h = begin_then is_letter_byte after_dollar (λ w. word_where (all_bytes is_name_byte w) Special) dollar_letter t Special n e (longest_every is_name_byte Special (take (length t - 1) (drop 1 t)) ∙ ap (λ n. Some (Special, n)) (sym h))

pub no_special : (t : List ℕ) → begins_with is_letter_byte t ≡ false → longest_front after_dollar t ≡ None
no_special t e = begin_none after_dollar None refl t (λ b u w h. dollar_none b w (begins_at is_letter_byte t b u false e h))

-- a slash
slash_line : (b : ℕ) (w : List ℕ) → nat_eq b 47 ≡ true → after_slash (b ∷ w) ≡ word_where (all_bytes (is_of_class InLine) w) Blank
slash_line b w e = ap (λ c. cond c (word_where (all_bytes (is_of_class InLine) w) Blank) (cond (nat_eq b 42) (in_comment w) None)) e

slash_star : (b : ℕ) (w : List ℕ) → nat_eq b 47 ≡ false → nat_eq b 42 ≡ true → after_slash (b ∷ w) ≡ in_comment w
slash_star b w d e = rw (d, e) refl

slash_none : (b : ℕ) (w : List ℕ) → nat_eq b 47 ≡ false → nat_eq b 42 ≡ false → after_slash (b ∷ w) ≡ None
slash_none b w d e = rw (d, e) refl

pub line_comment : (t : List ℕ) (n : ℕ) → begins_with (is_of_class (Byte 47)) t ≡ true → n ≡ run_of (is_of_class InLine) (take (length t - 1) (drop 1 t)) → longest_front after_slash t ≡ Some (Blank, 1 + n)
line_comment t n e h = begin_then (is_of_class (Byte 47)) after_slash (λ w. word_where (all_bytes (is_of_class InLine) w) Blank) slash_line t Blank n e (longest_every (is_of_class InLine) Blank (take (length t - 1) (drop 1 t)) ∙ ap (λ n. Some (Blank, n)) (sym h))

pub block_comment : (t : List ℕ) (x : Word) (n : ℕ) → begins_with (is_of_class (Byte 47)) t ≡ false → begins_with (is_of_class (Byte 42)) t ≡ true → longest_front in_comment (take (length t - 1) (drop 1 t)) ≡ Some (x, n) → longest_front after_slash t ≡ Some (x, 1 + n)
block_comment [] x n d e k = absurd (cc)
block_comment (b ∷ t) x n d e k =
    let one : suc n ≡ 1 + n = omega arith in
    longest_taken after_slash in_comment b (λ w. slash_star b w d e) t x n (ap (longest_front in_comment) (sym (rest_all (b ∷ t) 1)) ∙ k) ∙ ap (λ n. Some (x, n)) one

pub slash_alone : (t : List ℕ) → begins_with (is_of_class (Byte 47)) t ≡ false → begins_with (is_of_class (Byte 42)) t ≡ false → longest_front after_slash t ≡ Some (SymbolWord Divide, 0)
slash_alone t d e = begin_none after_slash (Some (SymbolWord Divide)) refl t (λ b u w h. slash_none b w (begins_at (is_of_class (Byte 47)) t b u false d h) (begins_at (is_of_class (Byte 42)) t b u false e h))

-- symbols
pair_rest : (b c : ℕ) (x : Option Word) → symbol_of b (c ∷ []) ≡ x → (t : List ℕ) → longest_front (λ w. symbol_of b (c ∷ w)) t ≡ with_bytes 0 x
pair_rest b c x e t = begin_none (λ w. symbol_of b (c ∷ w)) x e t (λ d u w h. refl)

pub symbol_pair : (b : ℕ) (t : List ℕ) (s : Symbol) → two_byte_symbol_from b t ≡ Some s → Some (SymbolWord s, 1) ≡ longest_front (symbol_of b) t
symbol_pair b [] s e = absurd (cc)
symbol_pair b (c ∷ t) s e = sym (longest_taken (symbol_of b) (λ w. symbol_of b (c ∷ w)) c (λ w. refl) t (SymbolWord s) 0 (pair_rest b c (Some (SymbolWord s)) (ap symbol_word e) t))

pub symbol_single : (b : ℕ) (t : List ℕ) (x : Option Symbol) → two_byte_symbol_from b t ≡ None → one_byte_symbol b ≡ x → longest_front (symbol_of b) t ≡ with_bytes 0 (symbol_word x)
symbol_single b [] x e h = longest_end (symbol_of b) ∙ ap (λ x. with_bytes 0 (symbol_word x)) h
symbol_single b (c ∷ t) x e h =
    longest_step (symbol_of b) (λ w. symbol_of b (c ∷ w)) c (λ w. refl) t
    ∙ ap (λ r. one_longer r (with_bytes 0 (symbol_word (one_byte_symbol b)))) (pair_rest b c None (ap symbol_word e) t)
    ∙ ap (λ x. with_bytes 0 (symbol_word x)) h

-- one byte on, in a loop
pub longest_on : (f g : List ℕ → Option Word) (x : Word) → g [] ≡ Some x → (b : ℕ) → ((w : List ℕ) → f (b ∷ w) ≡ g w) → (t : List ℕ) → longest_front f (b ∷ t) ≡ more_bytes 1 (longest_front g t)
longest_on f g x e b h t =
    let s = longest_some g x e t in
    let one : suc s.0.1 ≡ 1 + s.0.1 = omega arith in
    longest_taken f g b h t s.0.0 s.0.1 s.1 ∙ ap (λ n. Some (s.0.0, n)) one ∙ ap (more_bytes 1) (sym s.1)

more_twice : (n : ℕ) (r : Option (Word × ℕ)) → more_bytes n (more_bytes 1 r) ≡ more_bytes (n + 1) r
more_twice n None = refl
more_twice n (Some p) = let same : n + (1 + p.1) ≡ n + 1 + p.1 = omega arith in ap (λ n. Some (p.0, n)) same

-- a loop of two states over a text
abbrev pub comment_state : Bool → List ℕ → Option Word
comment_state s w = cond s (after_star w) (in_comment w)

abbrev pub text_state : Bool → List ℕ → Option Word
text_state s w = cond s (in_escape w) (in_text w)

state_open : (s : Bool) → comment_state s [] ≡ Some UnclosedComment
unfolding in_comment after_star
state_open true = refl
state_open false = refl

text_open : (s : Bool) → text_state s [] ≡ Some UnclosedText
unfolding in_text in_escape
text_open true = refl
text_open false = refl

comment_go : (s : Bool) (b : ℕ) (w : List ℕ) → (s && nat_eq b 47) ≡ false → comment_state s (b ∷ w) ≡ comment_state (nat_eq b 42) w
unfolding in_comment after_star
comment_go true b w e = ap (λ c. cond c (where_last Blank w) (cond (nat_eq b 42) (after_star w) (in_comment w))) e
comment_go false b w e = refl

pub comment_more : (t : List ℕ) (r : Option (Word × ℕ)) (s : Bool) (n : ℕ) → n < length t → r ≡ more_bytes n (longest_front (comment_state s) (drop n t)) → (s && nat_eq (get_or t n 0) 47) ≡ false → r ≡ more_bytes (n + 1) (longest_front (comment_state (nat_eq (get_or t n 0) 42)) (drop (n + 1) t))
comment_more t r s n l h e =
    h ∙ ap (λ u. more_bytes n (longest_front (comment_state s) u)) (drop_more t n l)
    ∙ ap (more_bytes n) (longest_on (comment_state s) (comment_state (nat_eq (get_or t n 0) 42)) UnclosedComment (state_open (nat_eq (get_or t n 0) 42)) (get_or t n 0) (λ w. comment_go s (get_or t n 0) w e) (drop (n + 1) t))
    ∙ more_twice n (longest_front (comment_state (nat_eq (get_or t n 0) 42)) (drop (n + 1) t))

comment_close : (b : ℕ) (w : List ℕ) → nat_eq b 47 ≡ true → comment_state true (b ∷ w) ≡ where_last Blank w
unfolding after_star
comment_close b w e = ap (λ c. cond c (where_last Blank w) (cond (nat_eq b 42) (after_star w) (in_comment w))) e

pub comment_closed : (t : List ℕ) (r : Option (Word × ℕ)) (s : Bool) (n : ℕ) → n < length t → r ≡ more_bytes n (longest_front (comment_state s) (drop n t)) → (s && nat_eq (get_or t n 0) 47) ≡ true → r ≡ Some (Blank, n + 1)
comment_closed t r true n l h e =
    h ∙ ap (λ u. more_bytes n (longest_front (comment_state true) u)) (drop_more t n l)
    ∙ ap (more_bytes n) (longest_taken (comment_state true) (where_last Blank) (get_or t n 0) (λ w. comment_close (get_or t n 0) w e) (drop (n + 1) t) Blank 0 (longest_alone Blank (drop (n + 1) t)))
comment_closed t r false n l h e = absurd (cc)

drop_past : (t : List ℕ) (n : ℕ) → length t ≤ n → drop n t ≡ []
drop_past [] zero h = refl
drop_past [] (suc n) h = refl
drop_past (b ∷ t) zero h = absurd (omega arith)
drop_past (b ∷ t) (suc n) h = drop_past t n (omega arith)

ends_open : (f : List ℕ → Option Word) (x : Word) → f [] ≡ Some x → (t : List ℕ) (r : Option (Word × ℕ)) (n : ℕ) → length t ≤ n → r ≡ more_bytes n (longest_front f (drop n t)) → r ≡ Some (x, n)
ends_open f x e t r n l h =
    let none : n + 0 ≡ n = omega arith in
    h ∙ ap (λ u. more_bytes n (longest_front f u)) (drop_past t n l) ∙ ap (more_bytes n) (longest_end f ∙ ap (with_bytes 0) e) ∙ ap (λ n. Some (x, n)) none

pub comment_open : (t : List ℕ) (r : Option (Word × ℕ)) (s : Bool) (n : ℕ) → length t ≤ n → r ≡ more_bytes n (longest_front (comment_state s) (drop n t)) → r ≡ Some (UnclosedComment, n)
comment_open t r s n = ends_open (comment_state s) UnclosedComment (state_open s) t r n

pub text_ends : (t : List ℕ) (r : Option (Word × ℕ)) (s : Bool) (n : ℕ) → length t ≤ n → r ≡ more_bytes n (longest_front (text_state s) (drop n t)) → r ≡ Some (UnclosedText, n)
text_ends t r s n = ends_open (text_state s) UnclosedText (text_open s) t r n

text_go : (s : Bool) (b : ℕ) (w : List ℕ) → nat_eq b 10 ≡ false → (not s && nat_eq b 34) ≡ false → text_state s (b ∷ w) ≡ text_state (not s && nat_eq b 92) w
unfolding in_text in_escape
text_go true b w e q = ap (λ c. cond c None (in_text w)) e
text_go false b w e q = rw (q, e) refl

pub text_more : (t : List ℕ) (r : Option (Word × ℕ)) (s : Bool) (n : ℕ) → n < length t → r ≡ more_bytes n (longest_front (text_state s) (drop n t)) → (get_or t n 0 ≡ 10 → ⊥) → (not s && nat_eq (get_or t n 0) 34) ≡ false → r ≡ more_bytes (n + 1) (longest_front (text_state (not s && nat_eq (get_or t n 0) 92)) (drop (n + 1) t))
text_more t r s n l h e q =
    let next = not s && nat_eq (get_or t n 0) 92 in
    h ∙ ap (λ u. more_bytes n (longest_front (text_state s) u)) (drop_more t n l)
    ∙ ap (more_bytes n) (longest_on (text_state s) (text_state next) UnclosedText (text_open next) (get_or t n 0) (λ w. text_go s (get_or t n 0) w (not_equal (get_or t n 0) 10 e) q) (drop (n + 1) t))
    ∙ more_twice n (longest_front (text_state next) (drop (n + 1) t))

text_line : (s : Bool) (b : ℕ) (w : List ℕ) → nat_eq b 10 ≡ true → nat_eq b 34 ≡ false → nat_eq b 92 ≡ false → text_state s (b ∷ w) ≡ None
unfolding in_text in_escape
text_line true b w e q k = ap (λ c. cond c None (in_text w)) e
text_line false b w e q k = rw (q, k, e) refl

newline_is : (b : ℕ) → b ≡ 10 → (nat_eq b 10 ≡ true) × (nat_eq b 34 ≡ false) × (nat_eq b 92 ≡ false)
newline_is b e = subst (λ b. (nat_eq b 10 ≡ true) × (nat_eq b 34 ≡ false) × (nat_eq b 92 ≡ false)) (sym e) (refl, refl, refl)

pub text_newline : (t : List ℕ) (r : Option (Word × ℕ)) (s : Bool) (n : ℕ) → n < length t → r ≡ more_bytes n (longest_front (text_state s) (drop n t)) → get_or t n 0 ≡ 10 → r ≡ Some (UnclosedText, n)
text_newline t r s n l h e =
    let is = newline_is (get_or t n 0) e in
    let none : n + 0 ≡ n = omega arith in
    h ∙ ap (λ u. more_bytes n (longest_front (text_state s) u)) (drop_more t n l)
    ∙ ap (more_bytes n) (longest_stop (text_state s) (get_or t n 0) (λ w. text_line s (get_or t n 0) w is.0 is.1 is.2) (drop (n + 1) t) ∙ ap (with_bytes 0) (text_open s))
    ∙ ap (λ n. Some (UnclosedText, n)) none

text_quote : (b : ℕ) (w : List ℕ) → nat_eq b 34 ≡ true → text_state false (b ∷ w) ≡ where_last Text w
unfolding in_text
text_quote b w e = ap (λ c. cond c (where_last Text w) (cond (nat_eq b 92) (in_escape w) (cond (nat_eq b 10) None (in_text w)))) e

pub text_closed : (t : List ℕ) (r : Option (Word × ℕ)) (s : Bool) (n : ℕ) → n < length t → r ≡ more_bytes n (longest_front (text_state s) (drop n t)) → (not s && nat_eq (get_or t n 0) 34) ≡ true → r ≡ Some (Text, n + 1)
text_closed t r false n l h e =
    h ∙ ap (λ u. more_bytes n (longest_front (text_state false) u)) (drop_more t n l)
    ∙ ap (more_bytes n) (longest_taken (text_state false) (where_last Text) (get_or t n 0) (λ w. text_quote (get_or t n 0) w e) (drop (n + 1) t) Text 0 (longest_alone Text (drop (n + 1) t)))
text_closed t r true n l h e = absurd (cc)

-- what a word is that begins with a byte of a class
is_blank : (b : ℕ) (w : List ℕ) → is_blank_byte b ≡ true → word_from b w ≡ where_last Blank w
unfolding word_from
is_blank b w e = rw e refl

is_name : (b : ℕ) (w : List ℕ) → is_blank_byte b ≡ false → is_letter_byte b ≡ true → word_from b w ≡ word_where (all_bytes is_name_byte w) Name
unfolding word_from
is_name b w e f = rw (e, f) refl

is_numeral : (b : ℕ) (w : List ℕ) → is_blank_byte b ≡ false → is_letter_byte b ≡ false → is_digit_byte b ≡ true → word_from b w ≡ in_whole w
unfolding word_from
is_numeral b w e f g = rw (e, f, g) refl

pub blank_word : (b : ℕ) (t : List ℕ) → is_blank_byte b ≡ true → Some (Blank, 0) ≡ longest_front (word_from b) t
blank_word b t e = sym (longest_same (word_from b) (where_last Blank) (λ w. is_blank b w e) t ∙ longest_alone Blank t)

pub name_word : (b : ℕ) (t : List ℕ) (n : ℕ) → is_blank_byte b ≡ false → is_letter_byte b ≡ true → n ≡ run_of is_name_byte t → Some (Name, n) ≡ longest_front (word_from b) t
name_word b t n e f h = ap (λ n. Some (Name, n)) h ∙ sym (longest_same (word_from b) (λ w. word_where (all_bytes is_name_byte w) Name) (λ w. is_name b w e f) t ∙ longest_every is_name_byte Name t)

pub numeral_word : (b : ℕ) (t : List ℕ) (r : Option (Word × ℕ)) → is_blank_byte b ≡ false → is_letter_byte b ≡ false → is_digit_byte b ≡ true → longest_front in_whole t ≡ r → r ≡ longest_front (word_from b) t
numeral_word b t r e f g h = sym (longest_same (word_from b) in_whole (λ w. is_numeral b w e f g) t ∙ h)

quote_is : (w : List ℕ) → word_from 34 w ≡ in_text w
unfolding word_from
quote_is w = refl

point_is : (w : List ℕ) → word_from 46 w ≡ after_point w
unfolding word_from
point_is w = refl

slash_is : (w : List ℕ) → word_from 47 w ≡ after_slash w
unfolding word_from
slash_is w = refl

dollar_is : (w : List ℕ) → word_from 36 w ≡ after_dollar w
unfolding word_from
dollar_is w = refl

pub dollar_word : (b : ℕ) (t : List ℕ) → b ≡ 36 → longest_front after_dollar t ≡ longest_front (word_from b) t
dollar_word b t e = subst (λ b. longest_front after_dollar t ≡ longest_front (word_from b) t) (sym e) (sym (longest_same (word_from 36) after_dollar dollar_is t))

pub text_word : (b : ℕ) (t : List ℕ) (r : Option (Word × ℕ)) → b ≡ 34 → longest_front in_text t ≡ r → r ≡ longest_front (word_from b) t
text_word b t r e h = subst (λ b. r ≡ longest_front (word_from b) t) (sym e) (sym (longest_same (word_from 34) in_text quote_is t ∙ h))

pub point_word : (b : ℕ) (t : List ℕ) (r : Option (Word × ℕ)) → b ≡ 46 → longest_front after_point t ≡ r → r ≡ longest_front (word_from b) t
point_word b t r e h = subst (λ b. r ≡ longest_front (word_from b) t) (sym e) (sym (longest_same (word_from 46) after_point point_is t ∙ h))

pub slash_word : (b : ℕ) (t : List ℕ) (r : Option (Word × ℕ)) → b ≡ 47 → longest_front after_slash t ≡ r → r ≡ longest_front (word_from b) t
slash_word b t r e h = subst (λ b. r ≡ longest_front (word_from b) t) (sym e) (sym (longest_same (word_from 47) after_slash slash_is t ∙ h))

is_symbol : (b : ℕ) (w : List ℕ) → is_blank_byte b ≡ false → is_letter_byte b ≡ false → is_digit_byte b ≡ false → nat_eq b 36 ≡ false → nat_eq b 34 ≡ false → nat_eq b 46 ≡ false → nat_eq b 47 ≡ false → word_from b w ≡ symbol_of b w
unfolding word_from
is_symbol b w e f g h i j k = rw (e, f, g, h, i, j, k) refl

pub symbol_found : (b : ℕ) (t : List ℕ) → is_blank_byte b ≡ false → is_letter_byte b ≡ false → is_digit_byte b ≡ false → (b ≡ 36 → ⊥) → (b ≡ 34 → ⊥) → (b ≡ 46 → ⊥) → (b ≡ 47 → ⊥) → longest_front (symbol_of b) t ≡ longest_front (word_from b) t
symbol_found b t e f g h i j k = sym (longest_same (word_from b) (symbol_of b) (λ w. is_symbol b w e f g (not_equal b 36 h) (not_equal b 34 i) (not_equal b 46 j) (not_equal b 47 k)) t)

-- a blank byte is a word of its own
pub blank_found : (t : List ℕ) → begins_with is_blank_byte t ≡ true → IsLongest t 1 Blank
blank_found [] h = absurd (cc)
blank_found (b ∷ t) h = longest_is b t Blank 0 (sym (blank_word b t h))

-- what a word is that begins with a symbol of one byte
is_single : (b : ℕ) (w : List ℕ) (s : Symbol) → one_byte_symbol b ≡ Some s → word_from b w ≡ symbol_of b w
unfolding word_from
is_single b w s h = grind (arith, nat_tests)

no_pair : (b : ℕ) (t : List ℕ) → ((c : ℕ) → two_byte_symbol b c ≡ None) → two_byte_symbol_from b t ≡ None
no_pair b [] h = refl
no_pair b (c ∷ t) h = h c

-- the symbol of a byte that begins no symbol of two
pub lone_found : (t : List ℕ) (r : Option Symbol) → 1 ≤ length t → IfSome r (λ s. one_byte_symbol (get_or t 0 0) ≡ Some s) → IfSome r (λ s. (c : ℕ) → two_byte_symbol (get_or t 0 0) c ≡ None) → IfSome r (λ s. IsLongest t 1 (SymbolWord s))
lone_found t None l h e = tt
lone_found [] (Some s) l h e = absurd (omega arith)
lone_found (b ∷ t) (Some s) l h e =
    longest_is b t (SymbolWord s) 0 (longest_same (word_from b) (symbol_of b) (λ w. is_single b w s h) t ∙ symbol_single b t (Some s) (no_pair b t e) h)

text_parts : (t : List ℕ) → 0 < length t → get_or t 0 0 ∷ take (length t - 1) (drop 1 t) ≡ t
text_parts [] h = absurd (omega arith)
text_parts (b ∷ t) h = ap (λ l. b ∷ l) (rest_all (b ∷ t) 1)

-- the word that a text begins with
pub found_some : (t : List ℕ) (r : Option (Word × ℕ)) → 0 < length t → r ≡ longest_front (word_from (get_or t 0 0)) (take (length t - 1) (drop 1 t)) → IfSome (more_bytes 1 r) (λ p. IsLongest t p.1 p.0)
found_some t None h e = tt
found_some t (Some p) h e = subst (λ t. IsLongest t (1 + p.1) p.0) (text_parts t h) (longest_is (get_or t 0 0) (take (length t - 1) (drop 1 t)) p.0 p.1 (sym e))

pub found_none : (t : List ℕ) (r : Option (Word × ℕ)) → 0 < length t → r ≡ longest_front (word_from (get_or t 0 0)) (take (length t - 1) (drop 1 t)) → IfNone (more_bytes 1 r) (HasNoWord t)
found_none t None h e = subst HasNoWord (text_parts t h) (longest_isnt (get_or t 0 0) (take (length t - 1) (drop 1 t)) (sym e))
found_none t (Some p) h e = tt

pub no_word : (t : List ℕ) → length t ≡ 0 → HasNoWord t
no_word [] h zero o l g = absurd (no_empty_word o (sym (is_read []) ∙ g))
no_word [] h (suc m) o l g = absurd (omega arith)
no_word (b ∷ t) h m o l g = absurd (omega arith)
