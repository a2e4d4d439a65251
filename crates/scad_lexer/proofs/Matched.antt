-- The regular expressions of words match what the words are byte by byte.
use Rattle.std.proofs.Common.{◌≡◌, ℕ, zero, suc, ◌≤◌, List, [], ◌∷◌, length, Bool, true, false, cond, not, ◌&&◌, ◌||◌, Option, Some, None, codes, map, refl, sym, ap, ◌∙◌, subst, arith, nat_eq}
use Rattle.std.proofs.lemmas.Bool.Decides.{nat_tests}
use Rattle.std.proofs.lemmas.Bool.{eqb-true}
use Rattle.std.specs.Str.{bytes_eq}
use Rattle.scad_lexer.specs.declared.token.Symbol.{Symbol}
use Rattle.scad_lexer.specs.declared.token.Symbol.TheVariants.{OpenParenthesis, CloseParenthesis, OpenBracket, CloseBracket, OpenBrace, CloseBrace, Comma, Semicolon, Assign, Colon, Question, Plus, Minus, Times, Remainder, Less, Greater, Not, Hash, Caret, Dot, Divide, LessEqual, GreaterEqual, Equal, NotEqual, And, Or}
use Rattle.scad_lexer.specs.declared.word.Word.{Word}
use Rattle.scad_lexer.specs.declared.word.Word.TheVariants.{Blank, UnclosedComment, Name, Special, Numeral, NumeralAndLetter, Text, UnclosedText, Symbol as SymbolWord}
use Rattle.scad_lexer.specs.Words.{is_blank_byte, is_letter_byte, is_digit_byte, is_name_byte, Expression, Empty, One, Then, Either, Many, Unless, many_then, matches, is_empty, literal, in_line, open_comment, name_word, some_digits, exponent_part, numeral_word, open_text, symbols, first_match, word_of_bytes}
use Rattle.scad_lexer.specs.Scanning.{all_bytes, word_where, where_last, in_exponent, after_sign, after_e, number_end, in_fraction, in_whole, after_point, in_text, in_escape, in_comment, after_star, after_slash, after_dollar, one_byte_symbol, two_byte_symbol, symbol_word, symbol_of, word_from, word_read}

-- a blank
abbrev blank : Expression
blank = Either (One is_blank_byte) (Either (Then (literal (codes "//")) (Many in_line)) (Then open_comment (literal (codes "*/"))))

abbrev is_match : Expression → List ℕ → Bool
is_match expression bytes = matches expression is_empty bytes

or_false : (a : Bool) → (a || false) ≡ a
or_false true = refl
or_false false = refl

-- a byte of a class, and then what goes on
abbrev one_then : (ℕ → Bool) → (List ℕ → Bool) → List ℕ → Bool
one_then p k t = matches (One p) k t

-- ---- any number of bytes of a class, as many as there are
abbrev greedy : (ℕ → Bool) → (List ℕ → Bool) → List ℕ → Bool
greedy p k [] = k []
greedy p k (b ∷ t) = cond (p b) (greedy p k t) (k (b ∷ t))

abbrev StopsAt : (ℕ → Bool) → (List ℕ → Bool) → Type 0
StopsAt p k = (b : ℕ) (t : List ℕ) → p b ≡ true → k (b ∷ t) ≡ false

abbrev Step : Type 0
Step = (List ℕ → Bool) → List ℕ → Bool

run_greedy : (p : ℕ → Bool) (step : Step) → ((k : List ℕ → Bool) (t : List ℕ) → step k t ≡ one_then p k t) → (k : List ℕ → Bool) → StopsAt p k → (n : ℕ) (t : List ℕ) → length t ≤ n → many_then n step k t ≡ greedy p k t
unfolding many_then matches
run_greedy p step s k h zero [] l = refl
run_greedy p step s k h zero (b ∷ t) l = absurd (omega arith)
run_greedy p step s k h (suc n) [] l = ap (λ x. k [] || x) (s (many_then n step k) []) ∙ or_false (k [])
run_greedy p step s k h (suc n) (b ∷ t) l = ap (λ x. k (b ∷ t) || x) (s (many_then n step k) (b ∷ t)) ∙ go (p b) refl (run_greedy p step s k h n t (omega arith))
  where
    go : (c : Bool) → p b ≡ c → many_then n step k t ≡ greedy p k t → (k (b ∷ t) || cond c (many_then n step k t) false) ≡ cond c (greedy p k t) (k (b ∷ t))
    go true e ih = ap (λ x. x || many_then n step k t) (h b t e) ∙ ih
    go false e ih = or_false (k (b ∷ t))

many_bytes : (p : ℕ → Bool) (k : List ℕ → Bool) → StopsAt p k → (t : List ℕ) → matches (Many (One p)) k t ≡ greedy p k t
unfolding matches
many_bytes p k h t = run_greedy p (matches (One p)) (λ k t. refl) k h (length t) t (omega arith)

greedy_same : (p : ℕ → Bool) (k j : List ℕ → Bool) → ((t : List ℕ) → k t ≡ j t) → (t : List ℕ) → greedy p k t ≡ greedy p j t
greedy_same p k j h [] = h []
greedy_same p k j h (b ∷ t) = ap (λ x. cond (p b) x (k (b ∷ t))) (greedy_same p k j h t) ∙ ap (λ x. cond (p b) (greedy p j t) x) (h (b ∷ t))

one_same : (p : ℕ → Bool) (k j : List ℕ → Bool) → ((t : List ℕ) → k t ≡ j t) → (t : List ℕ) → one_then p k t ≡ one_then p j t
unfolding matches
one_same p k j h [] = refl
one_same p k j h (b ∷ t) = ap (λ x. cond (p b) x false) (h t)

greedy_all : (p : ℕ → Bool) (t : List ℕ) → greedy p is_empty t ≡ all_bytes p t
greedy_all p [] = refl
greedy_all p (b ∷ t) = ap (λ x. cond (p b) x false) (greedy_all p t)

pub all_of : (p : ℕ → Bool) (t : List ℕ) → matches (Many (One p)) is_empty t ≡ all_bytes p t
all_of p t = many_bytes p is_empty (λ b u e. refl) t ∙ greedy_all p t

-- ---- a byte of a class is none outside it
apart : (p : ℕ → Bool) (b c : ℕ) → p b ≡ true → p c ≡ false → nat_eq b c ≡ false
apart p b c h g = go (nat_eq b c) refl
  where
    go : (x : Bool) → nat_eq b c ≡ x → x ≡ false
    go true e = sym h ∙ ap p (eqb-true b c e) ∙ g
    go false e = refl

-- ---- numerals
abbrev is_e : ℕ → Bool
is_e c = nat_eq c 101 || nat_eq c 69

abbrev is_sign : ℕ → Bool
is_sign c = nat_eq c 43 || nat_eq c 45

abbrev is_point : ℕ → Bool
is_point c = nat_eq c 46

abbrev lettered : List ℕ → Bool
lettered t = one_then is_letter_byte is_empty t

abbrev more_digits : (List ℕ → Bool) → List ℕ → Bool
more_digits k t = one_then is_digit_byte (greedy is_digit_byte k) t

abbrev power_then : (List ℕ → Bool) → List ℕ → Bool
power_then k t = more_digits k t || one_then is_sign (more_digits k) t

abbrev end_then : (List ℕ → Bool) → List ℕ → Bool
end_then k t = k t || one_then is_e (power_then k) t

abbrev fraction_then : (List ℕ → Bool) → List ℕ → Bool
fraction_then k t = greedy is_digit_byte (end_then k) t

abbrev point_then : (List ℕ → Bool) → List ℕ → Bool
point_then k t = end_then k t || one_then is_point (fraction_then k) t

abbrev whole_then : (List ℕ → Bool) → List ℕ → Bool
whole_then k t = greedy is_digit_byte (point_then k) t

abbrev numbers : Bool → Bool → Option Word
numbers whole letter = cond whole (Some Numeral) (cond letter (Some NumeralAndLetter) None)

no_letter : (b : ℕ) → is_digit_byte b ≡ true → is_letter_byte b ≡ false
no_letter b h = grind (arith, nat_tests)

no_e : (b : ℕ) → is_digit_byte b ≡ true → is_e b ≡ false
no_e b h = rw (apart is_digit_byte b 101 h refl, apart is_digit_byte b 69 h refl) refl

no_sign : (b : ℕ) → is_digit_byte b ≡ true → is_sign b ≡ false
no_sign b h = rw (apart is_digit_byte b 43 h refl, apart is_digit_byte b 45 h refl) refl

e_letter : (b : ℕ) → is_e b ≡ true → is_letter_byte b ≡ true
e_letter b h = grind (arith, nat_tests)

lettered_stops : StopsAt is_digit_byte lettered
unfolding matches
lettered_stops b t e = rw (no_letter b e) refl

end_stops : (k : List ℕ → Bool) → StopsAt is_digit_byte k → StopsAt is_digit_byte (end_then k)
unfolding matches
end_stops k h b t e = rw (h b t e, no_e b e) refl

point_stops : (k : List ℕ → Bool) → StopsAt is_digit_byte k → StopsAt is_digit_byte (point_then k)
unfolding matches
point_stops k h b t e = rw (h b t e, no_e b e, apart is_digit_byte b 46 e refl) refl

exponent_words : (t : List ℕ) → in_exponent t ≡ numbers (greedy is_digit_byte is_empty t) (greedy is_digit_byte lettered t)
unfolding in_exponent matches
exponent_words [] = refl
exponent_words (b ∷ t) = go (is_digit_byte b) (is_letter_byte b) t (exponent_words t)
  where
    go : (d l : Bool) (t : List ℕ) → in_exponent t ≡ numbers (greedy is_digit_byte is_empty t) (greedy is_digit_byte lettered t) →
        cond d (in_exponent t) (cond l (where_last NumeralAndLetter t) None) ≡ numbers (cond d (greedy is_digit_byte is_empty t) false) (cond d (greedy is_digit_byte lettered t) (cond l (is_empty t) false))
    go true l t ih = ih
    go false true [] ih = refl
    go false true (c ∷ t) ih = refl
    go false false t ih = refl

sign_words : (t : List ℕ) → after_sign t ≡ numbers (more_digits is_empty t) (more_digits lettered t)
unfolding matches
sign_words [] = refl
sign_words (b ∷ t) = go (is_digit_byte b)
  where
    go : (d : Bool) → cond d (in_exponent t) None ≡ numbers (cond d (greedy is_digit_byte is_empty t) false) (cond d (greedy is_digit_byte lettered t) false)
    go true = exponent_words t
    go false = refl

power_words : (t : List ℕ) → after_e t ≡ numbers (power_then is_empty t) (is_empty t || power_then lettered t)
unfolding matches
power_words [] = refl
power_words (b ∷ t) = go (is_digit_byte b) (is_sign b) (no_sign b)
  where
    go : (d s : Bool) → (d ≡ true → s ≡ false) → cond d (in_exponent t) (cond s (after_sign t) None)
        ≡ numbers (cond d (greedy is_digit_byte is_empty t) false || cond s (more_digits is_empty t) false) (cond d (greedy is_digit_byte lettered t) false || cond s (more_digits lettered t) false)
    go true true h = absurd (sign_true (h refl))
      where
        sign_true : true ≡ false → ⊥
        sign_true e = cc
    go true false h = exponent_words t ∙ sym (ap (λ x. numbers x (greedy is_digit_byte lettered t || false)) (or_false (greedy is_digit_byte is_empty t)) ∙ ap (numbers (greedy is_digit_byte is_empty t)) (or_false (greedy is_digit_byte lettered t)))
    go false true h = sign_words t
    go false false h = refl

end_words : (t : List ℕ) → number_end t ≡ numbers (end_then is_empty t) (end_then lettered t)
unfolding matches
end_words [] = refl
end_words (b ∷ t) = go (is_e b) (is_letter_byte b) t (e_letter b)
  where
    go : (e l : Bool) (t : List ℕ) → (e ≡ true → l ≡ true) → cond e (after_e t) (cond l (where_last NumeralAndLetter t) None)
        ≡ numbers (cond e (power_then is_empty t) false) (cond l (is_empty t) false || cond e (power_then lettered t) false)
    go true l t h = rw (h refl) (power_words t)
    go false true [] h = refl
    go false true (c ∷ t) h = refl
    go false false t h = refl

fraction_words : (t : List ℕ) → in_fraction t ≡ numbers (fraction_then is_empty t) (fraction_then lettered t)
unfolding in_fraction matches
fraction_words [] = refl
fraction_words (b ∷ t) = go (is_digit_byte b) (fraction_words t)
  where
    go : (d : Bool) → in_fraction t ≡ numbers (fraction_then is_empty t) (fraction_then lettered t) → cond d (in_fraction t) (number_end (b ∷ t))
        ≡ numbers (cond d (fraction_then is_empty t) (end_then is_empty (b ∷ t))) (cond d (fraction_then lettered t) (end_then lettered (b ∷ t)))
    go true ih = ih
    go false ih = end_words (b ∷ t)

whole_words : (t : List ℕ) → in_whole t ≡ numbers (whole_then is_empty t) (whole_then lettered t)
unfolding in_whole matches
whole_words [] = refl
whole_words (b ∷ t) = go (is_digit_byte b) (nat_eq b 46) refl (whole_words t)
  where
    go : (d p : Bool) → nat_eq b 46 ≡ p → in_whole t ≡ numbers (whole_then is_empty t) (whole_then lettered t) → cond d (in_whole t) (cond p (in_fraction t) (number_end (b ∷ t)))
        ≡ numbers (cond d (whole_then is_empty t) (end_then is_empty (b ∷ t) || cond p (fraction_then is_empty t) false)) (cond d (whole_then lettered t) (end_then lettered (b ∷ t) || cond p (fraction_then lettered t) false))
    go true p e ih = ih
    go false true e ih =
        fraction_words t ∙ subst (λ c. numbers (fraction_then is_empty t) (fraction_then lettered t) ≡ numbers (end_then is_empty (c ∷ t) || fraction_then is_empty t) (end_then lettered (c ∷ t) || fraction_then lettered t)) (sym (eqb-true b 46 e)) refl
    go false false e ih =
        end_words (b ∷ t) ∙ sym (ap (λ x. numbers x (end_then lettered (b ∷ t) || false)) (or_false (end_then is_empty (b ∷ t))) ∙ ap (numbers (end_then is_empty (b ∷ t))) (or_false (end_then lettered (b ∷ t))))

-- ---- the expression of a numeral, so read
digits_read : (k : List ℕ → Bool) → StopsAt is_digit_byte k → (t : List ℕ) → matches some_digits k t ≡ more_digits k t
unfolding matches
digits_read k h t = one_same is_digit_byte (matches (Many (One is_digit_byte)) k) (greedy is_digit_byte k) (many_bytes is_digit_byte k h) t

end_read : (k : List ℕ → Bool) → StopsAt is_digit_byte k → (t : List ℕ) → matches (Either Empty exponent_part) k t ≡ end_then k t
unfolding matches
end_read k h t = ap (λ x. k t || x) (one_same is_e (matches (Then (Either Empty (One is_sign)) some_digits) k) (power_then k) power t)
  where
    power : (t : List ℕ) → matches (Then (Either Empty (One is_sign)) some_digits) k t ≡ power_then k t
    power t = ap (λ x. x || one_then is_sign (matches some_digits k) t) (digits_read k h t) ∙ ap (λ x. more_digits k t || x) (one_same is_sign (matches some_digits k) (more_digits k) (digits_read k h) t)

abbrev ending : (List ℕ → Bool) → List ℕ → Bool
ending k = matches (Either Empty exponent_part) k

ending_stops : (k : List ℕ → Bool) → StopsAt is_digit_byte k → StopsAt is_digit_byte (ending k)
ending_stops k h b t e = end_read k h (b ∷ t) ∙ end_stops k h b t e

fraction_read : (k : List ℕ → Bool) → StopsAt is_digit_byte k → (t : List ℕ) → matches (Many (One is_digit_byte)) (ending k) t ≡ fraction_then k t
fraction_read k h t = many_bytes is_digit_byte (ending k) (ending_stops k h) t ∙ greedy_same is_digit_byte (ending k) (end_then k) (end_read k h) t

abbrev pointed : Expression
pointed = Either Empty (Then (literal (46 ∷ [])) (Many (One is_digit_byte)))

point_read : (k : List ℕ → Bool) → StopsAt is_digit_byte k → (t : List ℕ) → matches pointed (ending k) t ≡ point_then k t
unfolding matches
point_read k h t =
    ap (λ x. x || one_then is_point (matches (Then Empty (Many (One is_digit_byte))) (ending k)) t) (end_read k h t)
    ∙ ap (λ x. end_then k t || x) (one_same is_point (matches (Then Empty (Many (One is_digit_byte))) (ending k)) (fraction_then k) (fraction_read k h) t)

whole_read : (k : List ℕ → Bool) → StopsAt is_digit_byte k → (t : List ℕ) → matches (Many (One is_digit_byte)) (matches pointed (ending k)) t ≡ whole_then k t
whole_read k h t =
    many_bytes is_digit_byte (matches pointed (ending k)) (λ b u e. point_read k h (b ∷ u) ∙ point_stops k h b u e) t
    ∙ greedy_same is_digit_byte (matches pointed (ending k)) (point_then k) (point_read k h) t

-- a numeral that begins with a byte
numeral_read : (k : List ℕ → Bool) → StopsAt is_digit_byte k → (b : ℕ) (t : List ℕ) → matches numeral_word k (b ∷ t) ≡ (cond (is_digit_byte b) (whole_then k t) false || cond (nat_eq b 46) (more_digits (end_then k) t) false)
unfolding matches
numeral_read k h b t =
    ap (λ x. cond (is_digit_byte b) x false || cond (nat_eq b 46) (matches some_digits (ending k) t) false) (whole_read k h t)
    ∙ ap (λ x. cond (is_digit_byte b) (whole_then k t) false || cond (nat_eq b 46) x false)
    (digits_read (ending k) (ending_stops k h) t ∙ one_same is_digit_byte (greedy is_digit_byte (ending k)) (greedy is_digit_byte (end_then k)) (greedy_same is_digit_byte (ending k) (end_then k) (end_read k h)) t)

-- ---- texts
abbrev is_quote : ℕ → Bool
is_quote c = nat_eq c 34

abbrev is_backslash : ℕ → Bool
is_backslash c = nat_eq c 92

abbrev is_plain : ℕ → Bool
is_plain c = not (nat_eq c 34 || nat_eq c 92 || nat_eq c 10)

abbrev is_in_line : ℕ → Bool
is_in_line c = not (nat_eq c 10)

abbrev closed : List ℕ → Bool
closed t = one_then is_quote is_empty t

abbrev broken_off : List ℕ → Bool
broken_off t = is_empty t || one_then is_backslash is_empty t

abbrev text_step : (List ℕ → Bool) → List ℕ → Bool
text_step k t = one_then is_backslash (one_then is_in_line k) t || one_then is_plain k t

abbrev texts : Bool → Bool → Option Word
texts whole begun = cond whole (Some Text) (cond begun (Some UnclosedText) None)

bare : (x y : Bool) → texts (x || false) (y || false) ≡ texts x y
bare true y = refl
bare false true = refl
bare false false = refl

abbrev IsStep : Step → Step → Type 0
IsStep step other = (k : List ℕ → Bool) (t : List ℕ) → step k t ≡ other k t

many_step : (n : ℕ) (step other : Step) → IsStep step other → (k : List ℕ → Bool) (t : List ℕ) → many_then (suc n) step k t ≡ (k t || other (many_then n step k) t)
unfolding many_then
many_step n step other s k t = ap (λ x. k t || x) (s (many_then n step k) t)

text_words : (step : Step) → IsStep step text_step → (n : ℕ) (t : List ℕ) → length t ≤ n → in_text t ≡ texts (many_then n step closed t) (many_then n step broken_off t)
unfolding in_text in_escape many_then matches
text_words step s zero [] l = refl
text_words step s zero (b ∷ t) l = absurd (omega arith)
text_words step s (suc n) [] l = rw (s (many_then n step closed) []) refl
text_words step s (suc n) (b ∷ []) l = rw (s (many_then n step closed) (b ∷ []), s (many_then n step broken_off) (b ∷ [])) (last (nat_eq b 34) (nat_eq b 92) (nat_eq b 10) (λ q. eqb-true b 34 q) (λ q. eqb-true b 92 q) (text_words step s n [] (omega arith)))
  where
    last : (q k e : Bool) → (q ≡ true → b ≡ 34) → (k ≡ true → b ≡ 92) → in_text [] ≡ texts (many_then n step closed []) (many_then n step broken_off []) →
        cond q (Some Text) (cond k (Some UnclosedText) (cond e None (in_text []))) ≡ texts (cond q true false || (cond k false false || cond (not (q || k || e)) (many_then n step closed []) false)) ((false || cond k true false) || (cond k false false || cond (not (q || k || e)) (many_then n step broken_off []) false))
    last true k e h i ih = refl
    last false true e h i ih = refl
    last false false true h i ih = refl
    last false false false h i ih = ih
text_words step s (suc n) (b ∷ c ∷ t) l = rw (s (many_then n step closed) (b ∷ c ∷ t), s (many_then n step broken_off) (b ∷ c ∷ t)) (more (nat_eq b 34) (nat_eq b 92) (nat_eq b 10) (nat_eq c 10) (λ q. eqb-true b 34 q) (λ q. eqb-true b 92 q) (text_words step s n (c ∷ t) (omega arith)) (text_words step s n t (omega arith)))
  where
    more : (q k e d : Bool) → (q ≡ true → b ≡ 34) → (k ≡ true → b ≡ 92) → in_text (c ∷ t) ≡ texts (many_then n step closed (c ∷ t)) (many_then n step broken_off (c ∷ t)) →
        in_text t ≡ texts (many_then n step closed t) (many_then n step broken_off t) →
        cond q None (cond k (cond d None (in_text t)) (cond e None (in_text (c ∷ t))))
        ≡ texts (cond q false false || (cond k (cond (not d) (many_then n step closed t) false) false || cond (not (q || k || e)) (many_then n step closed (c ∷ t)) false)) ((false || cond k false false) || (cond k (cond (not d) (many_then n step broken_off t) false) false || cond (not (q || k || e)) (many_then n step broken_off (c ∷ t)) false))
    more true true e true h i ih jh = refl
    more true true e false h i ih jh = absurd (both (sym (h refl) ∙ i refl))
      where
        both : ◌≡◌ {A = ℕ} 34 92 → ⊥
        both e = cc
    more true false e d h i ih jh = refl
    more false true e true h i ih jh = refl
    more false true e false h i ih jh = jh ∙ sym (bare (many_then n step closed t) (many_then n step broken_off t))
    more false false true d h i ih jh = refl
    more false false false d h i ih jh = ih

-- ---- comments
abbrev is_star : ℕ → Bool
is_star c = nat_eq c 42

abbrev is_slash : ℕ → Bool
is_slash c = nat_eq c 47

abbrev star_slash : (List ℕ → Bool) → List ℕ → Bool
star_slash k t = one_then is_star (one_then is_slash k) t

abbrev comment_step : (List ℕ → Bool) → List ℕ → Bool
comment_step k t = cond (star_slash (λ behind. true) t) false (one_then (λ c. true) k t)

abbrev comments : Bool → Bool → Option Word
comments whole begun = cond whole (Some Blank) (cond begun (Some UnclosedComment) None)

star_words : (step : Step) → IsStep step comment_step → (n : ℕ) (t : List ℕ) → in_comment t ≡ comments (many_then n step (star_slash is_empty) t) (many_then n step is_empty t) →
    after_star t ≡ comments (many_then (suc n) step (star_slash is_empty) (42 ∷ t)) (many_then (suc n) step is_empty (42 ∷ t))
unfolding in_comment after_star many_then matches
star_words step s n [] h = rw (s (many_then n step (star_slash is_empty)) (42 ∷ []), s (many_then n step is_empty) (42 ∷ [])) h
star_words step s n (c ∷ t) h = rw (s (many_then n step (star_slash is_empty)) (42 ∷ c ∷ t), s (many_then n step is_empty) (42 ∷ c ∷ t)) (go (nat_eq c 47) t (cond (nat_eq c 42) (after_star t) (in_comment t)) (many_then n step (star_slash is_empty) (c ∷ t)) (many_then n step is_empty (c ∷ t)) h)
  where
    go : (e : Bool) (t : List ℕ) (x : Option Word) (a b : Bool) → x ≡ comments a b → cond e (where_last Blank t) x ≡ comments (cond e (is_empty t) false || cond (cond e true false) false a) (cond (cond e true false) false b)
    go true [] x a b h = refl
    go true (d ∷ t) x a b h = refl
    go false t x a b h = h

comment_words : (step : Step) → IsStep step comment_step → (n : ℕ) (t : List ℕ) → length t ≤ n → in_comment t ≡ comments (many_then n step (star_slash is_empty) t) (many_then n step is_empty t)
unfolding in_comment after_star many_then matches
comment_words step s zero [] l = refl
comment_words step s zero (b ∷ t) l = absurd (omega arith)
comment_words step s (suc n) [] l = rw (s (many_then n step (star_slash is_empty)) []) refl
comment_words step s (suc n) (b ∷ t) l = go (nat_eq b 42) refl (comment_words step s n t (omega arith))
  where
    go : (e : Bool) → nat_eq b 42 ≡ e → in_comment t ≡ comments (many_then n step (star_slash is_empty) t) (many_then n step is_empty t) →
        cond e (after_star t) (in_comment t) ≡ comments (many_then (suc n) step (star_slash is_empty) (b ∷ t)) (many_then (suc n) step is_empty (b ∷ t))
    go true e ih = subst (λ c. after_star t ≡ comments (many_then (suc n) step (star_slash is_empty) (c ∷ t)) (many_then (suc n) step is_empty (c ∷ t))) (sym (eqb-true b 42 e)) (star_words step s n t ih)
    go false e ih = rw (s (many_then n step (star_slash is_empty)) (b ∷ t), s (many_then n step is_empty) (b ∷ t), e) ih

-- ---- symbols
-- the first of these symbols that the bytes are
abbrev symbol_in : List (List ℕ × Symbol) → List ℕ → Option Word
symbol_in [] bytes = None
symbol_in (row ∷ rows) bytes = cond (bytes_eq bytes row.0) (Some (SymbolWord row.1)) (symbol_in rows bytes)

literal_read : (t u : List ℕ) → matches (literal u) is_empty t ≡ bytes_eq t u
unfolding matches
literal_read [] [] = refl
literal_read (b ∷ t) [] = refl
literal_read [] (c ∷ u) = refl
literal_read (b ∷ t) (c ∷ u) = go (nat_eq b c) (literal_read t u)
  where
    go : (e : Bool) → matches (literal u) is_empty t ≡ bytes_eq t u → cond e (matches (literal u) is_empty t) false ≡ (e && bytes_eq t u)
    go true h = h
    go false h = refl

abbrev symbol_rows : List (List ℕ × Symbol) → List (Expression × Word)
symbol_rows rows = map (λ row. (literal row.0, SymbolWord row.1)) rows

symbol_matches : (rows : List (List ℕ × Symbol)) (t : List ℕ) → first_match (symbol_rows rows) t ≡ symbol_in rows t
symbol_matches [] t = refl
symbol_matches (row ∷ rows) t = ap (λ x. cond x (Some (SymbolWord row.1)) (first_match (symbol_rows rows) t)) (literal_read t row.0) ∙ ap (λ x. cond (bytes_eq t row.0) (Some (SymbolWord row.1)) x) (symbol_matches rows t)

abbrev is_apart : (ℕ → Bool) → List ℕ → Bool
is_apart p [] = false
is_apart p (c ∷ cs) = not (p c)

abbrev are_apart : (ℕ → Bool) → List (List ℕ × Symbol) → Bool
are_apart p [] = true
are_apart p (row ∷ rows) = is_apart p row.0 && are_apart p rows

no_symbol : (p : ℕ → Bool) (b : ℕ) (t : List ℕ) → p b ≡ true → (rows : List (List ℕ × Symbol)) → are_apart p rows ≡ true → symbol_in rows (b ∷ t) ≡ None
no_symbol p b t e [] h = refl
no_symbol p b t e (([], s) ∷ rows) h = cc
no_symbol p b t e ((c ∷ cs, s) ∷ rows) h = go (p c) refl h (no_symbol p b t e rows)
  where
    go : (x : Bool) → p c ≡ x → (not x && are_apart p rows) ≡ true → (are_apart p rows ≡ true → symbol_in rows (b ∷ t) ≡ None) → cond (bytes_eq (b ∷ t) (c ∷ cs)) (Some (SymbolWord s)) (symbol_in rows (b ∷ t)) ≡ None
    go true g h ih = cc
    go false g h ih = ap (λ x. cond (x && bytes_eq t cs) (Some (SymbolWord s)) (symbol_in rows (b ∷ t))) (apart p b c e g) ∙ ih h

pick : (x : Bool) (s : Symbol) (w : Option Word) (r : Option Symbol) → w ≡ symbol_word r → cond (x && true) (Some (SymbolWord s)) w ≡ symbol_word (cond x (Some s) r)
pick true s w r h = refl
pick false s w r h = h

pick_two : (x y : Bool) (s : Symbol) (w : Option Word) (r : Option Symbol) → w ≡ symbol_word r → cond (x && (y && true)) (Some (SymbolWord s)) w ≡ symbol_word (cond (x && y) (Some s) r)
pick_two true true s w r h = refl
pick_two true false s w r h = h
pick_two false y s w r h = h

skip : (x : Bool) (s : Symbol) (w v : Option Word) → w ≡ v → cond (x && false) (Some (SymbolWord s)) w ≡ v
skip true s w v h = h
skip false s w v h = h

skip_two : (x y : Bool) (s : Symbol) (w v : Option Word) → w ≡ v → cond (x && (y && false)) (Some (SymbolWord s)) w ≡ v
skip_two true true s w v h = h
skip_two true false s w v h = h
skip_two false y s w v h = h

pass : (x : Bool) (s : Symbol) (w v : Option Word) → x ≡ false → w ≡ v → cond (x && true) (Some (SymbolWord s)) w ≡ v
pass true s w v e h = cc
pass false s w v e h = h

one_symbol : (b : ℕ) → nat_eq b 46 ≡ false → nat_eq b 47 ≡ false → symbol_in symbols (b ∷ []) ≡ symbol_word (one_byte_symbol b)
one_symbol b p q = pick (nat_eq b 40) OpenParenthesis _ _ (pick (nat_eq b 41) CloseParenthesis _ _ (pick (nat_eq b 91) OpenBracket _ _ (pick (nat_eq b 93) CloseBracket _ _ (pick (nat_eq b 123) OpenBrace _ _ (pick (nat_eq b 125) CloseBrace _ _ (pick (nat_eq b 44) Comma _ _ (pick (nat_eq b 59) Semicolon _ _ (pick (nat_eq b 61) Assign _ _ (pick (nat_eq b 58) Colon _ _ (pick (nat_eq b 63) Question _ _ (pick (nat_eq b 43) Plus _ _ (pick (nat_eq b 45) Minus _ _ (pick (nat_eq b 42) Times _ _ (pick (nat_eq b 37) Remainder _ _ (pick (nat_eq b 60) Less _ _ (pick (nat_eq b 62) Greater _ _ (pick (nat_eq b 33) Not _ _ (pick (nat_eq b 35) Hash _ _ (pick (nat_eq b 94) Caret _ _ (pass (nat_eq b 46) Dot _ _ p (pass (nat_eq b 47) Divide _ _ q (skip (nat_eq b 60) LessEqual _ _ (skip (nat_eq b 62) GreaterEqual _ _ (skip (nat_eq b 61) Equal _ _ (skip (nat_eq b 33) NotEqual _ _ (skip (nat_eq b 38) And _ _ (skip (nat_eq b 124) Or _ _ (refl))))))))))))))))))))))))))))

two_symbol : (b c : ℕ) → symbol_in symbols (b ∷ c ∷ []) ≡ symbol_word (two_byte_symbol b c)
two_symbol b c = skip (nat_eq b 40) OpenParenthesis _ _ (skip (nat_eq b 41) CloseParenthesis _ _ (skip (nat_eq b 91) OpenBracket _ _ (skip (nat_eq b 93) CloseBracket _ _ (skip (nat_eq b 123) OpenBrace _ _ (skip (nat_eq b 125) CloseBrace _ _ (skip (nat_eq b 44) Comma _ _ (skip (nat_eq b 59) Semicolon _ _ (skip (nat_eq b 61) Assign _ _ (skip (nat_eq b 58) Colon _ _ (skip (nat_eq b 63) Question _ _ (skip (nat_eq b 43) Plus _ _ (skip (nat_eq b 45) Minus _ _ (skip (nat_eq b 42) Times _ _ (skip (nat_eq b 37) Remainder _ _ (skip (nat_eq b 60) Less _ _ (skip (nat_eq b 62) Greater _ _ (skip (nat_eq b 33) Not _ _ (skip (nat_eq b 35) Hash _ _ (skip (nat_eq b 94) Caret _ _ (skip (nat_eq b 46) Dot _ _ (skip (nat_eq b 47) Divide _ _ (pick_two (nat_eq b 60) (nat_eq c 61) LessEqual _ _ (pick_two (nat_eq b 62) (nat_eq c 61) GreaterEqual _ _ (pick_two (nat_eq b 61) (nat_eq c 61) Equal _ _ (pick_two (nat_eq b 33) (nat_eq c 61) NotEqual _ _ (pick_two (nat_eq b 38) (nat_eq c 38) And _ _ (pick_two (nat_eq b 124) (nat_eq c 124) Or _ _ (refl))))))))))))))))))))))))))))

more_symbol : (b c d : ℕ) (t : List ℕ) → symbol_in symbols (b ∷ c ∷ d ∷ t) ≡ None
more_symbol b c d t = skip (nat_eq b 40) OpenParenthesis _ _ (skip (nat_eq b 41) CloseParenthesis _ _ (skip (nat_eq b 91) OpenBracket _ _ (skip (nat_eq b 93) CloseBracket _ _ (skip (nat_eq b 123) OpenBrace _ _ (skip (nat_eq b 125) CloseBrace _ _ (skip (nat_eq b 44) Comma _ _ (skip (nat_eq b 59) Semicolon _ _ (skip (nat_eq b 61) Assign _ _ (skip (nat_eq b 58) Colon _ _ (skip (nat_eq b 63) Question _ _ (skip (nat_eq b 43) Plus _ _ (skip (nat_eq b 45) Minus _ _ (skip (nat_eq b 42) Times _ _ (skip (nat_eq b 37) Remainder _ _ (skip (nat_eq b 60) Less _ _ (skip (nat_eq b 62) Greater _ _ (skip (nat_eq b 33) Not _ _ (skip (nat_eq b 35) Hash _ _ (skip (nat_eq b 94) Caret _ _ (skip (nat_eq b 46) Dot _ _ (skip (nat_eq b 47) Divide _ _ (skip_two (nat_eq b 60) (nat_eq c 61) LessEqual _ _ (skip_two (nat_eq b 62) (nat_eq c 61) GreaterEqual _ _ (skip_two (nat_eq b 61) (nat_eq c 61) Equal _ _ (skip_two (nat_eq b 33) (nat_eq c 61) NotEqual _ _ (skip_two (nat_eq b 38) (nat_eq c 38) And _ _ (skip_two (nat_eq b 124) (nat_eq c 124) Or _ _ (refl))))))))))))))))))))))))))))

symbol_words : (b : ℕ) (t : List ℕ) → nat_eq b 46 ≡ false → nat_eq b 47 ≡ false → symbol_in symbols (b ∷ t) ≡ symbol_of b t
symbol_words b [] p q = one_symbol b p q
symbol_words b (c ∷ []) p q = two_symbol b c
symbol_words b (c ∷ d ∷ t) p q = more_symbol b c d t

-- ---- what a word is, by the first expression that matches it
abbrev chosen : Bool → Bool → Bool → Bool → Bool → Bool → Bool → Bool → Option Word → Option Word
chosen a b c d e f g h s =
    cond a (Some Blank) (cond b (Some UnclosedComment) (cond c (Some Name) (cond d (Some Special) (cond e (Some Numeral) (cond f (Some NumeralAndLetter)
    (cond g (Some Text) (cond h (Some UnclosedText) s)))))))

abbrev special : Expression
special = Then (literal (codes "$")) name_word

abbrev numeral_and_letter : Expression
numeral_and_letter = Then numeral_word (One is_letter_byte)

abbrev text_end : Expression
text_end = literal (codes "\"")

abbrev text_break : Expression
text_break = Either Empty (literal (codes "\\"))

chosen_by : (t : List ℕ) (a b c d e f g h : Bool) (s : Option Word) → is_match blank t ≡ a → is_match open_comment t ≡ b → is_match name_word t ≡ c → is_match special t ≡ d →
    is_match numeral_word t ≡ e → is_match numeral_and_letter t ≡ f → is_match (Then open_text text_end) t ≡ g → is_match (Then open_text text_break) t ≡ h →
    symbol_in symbols t ≡ s → word_of_bytes t ≡ chosen a b c d e f g h s
unfolding word_of_bytes
chosen_by t a b c d e f g h s ha hb hc hd he hf hg hh hs = rw (ha, hb, hc, hd, he, hf, hg, hh) (ap (chosen a b c d e f g h) (symbol_matches symbols t ∙ hs))

-- where the first byte begins no such word
not_blank : (b : ℕ) (t : List ℕ) → is_blank_byte b ≡ false → nat_eq b 47 ≡ false → is_match blank (b ∷ t) ≡ false
unfolding matches
not_blank b t e f = rw (e, f) refl

not_comment : (b : ℕ) (t : List ℕ) → nat_eq b 47 ≡ false → is_match open_comment (b ∷ t) ≡ false
unfolding matches
not_comment b t e = rw e refl

not_name : (b : ℕ) (t : List ℕ) → is_letter_byte b ≡ false → is_match name_word (b ∷ t) ≡ false
unfolding matches
not_name b t e = rw e refl

not_special : (b : ℕ) (t : List ℕ) → nat_eq b 36 ≡ false → is_match special (b ∷ t) ≡ false
unfolding matches
not_special b t e = rw e refl

not_numeral : (b : ℕ) (t : List ℕ) → is_digit_byte b ≡ false → nat_eq b 46 ≡ false → is_match numeral_word (b ∷ t) ≡ false
not_numeral b t e f = numeral_read is_empty (λ c u g. refl) b t ∙ rw (e, f) refl

letter_stops : StopsAt is_digit_byte (matches (One is_letter_byte) is_empty)
unfolding matches
letter_stops = lettered_stops

numeral_letter_read : (b : ℕ) (t : List ℕ) → is_match numeral_and_letter (b ∷ t) ≡ (cond (is_digit_byte b) (whole_then lettered t) false || cond (nat_eq b 46) (more_digits (end_then lettered) t) false)
unfolding matches
numeral_letter_read b t = numeral_read lettered lettered_stops b t

not_numeral_letter : (b : ℕ) (t : List ℕ) → is_digit_byte b ≡ false → nat_eq b 46 ≡ false → is_match numeral_and_letter (b ∷ t) ≡ false
not_numeral_letter b t e f = numeral_letter_read b t ∙ rw (e, f) refl

not_text : (other : Expression) (b : ℕ) (t : List ℕ) → nat_eq b 34 ≡ false → is_match (Then open_text other) (b ∷ t) ≡ false
unfolding matches
not_text other b t e = rw e refl

-- a blank byte
digit_not_letter : (b : ℕ) → is_letter_byte b ≡ true → is_digit_byte b ≡ false
digit_not_letter b h = grind (arith, nat_tests)

blank_apart : (p : ℕ → Bool) (b : ℕ) → p b ≡ true → p 32 ≡ false → p 9 ≡ false → p 13 ≡ false → p 10 ≡ false → is_blank_byte b ≡ false
blank_apart p b h e f g i = rw (apart p b 32 h e, apart p b 9 h f, apart p b 13 h g, apart p b 10 h i) refl

blank_not_letter : (b : ℕ) → is_blank_byte b ≡ true → is_letter_byte b ≡ false
blank_not_letter b h = grind (arith, nat_tests)

blank_not_digit : (b : ℕ) → is_blank_byte b ≡ true → is_digit_byte b ≡ false
blank_not_digit b h = grind (arith, nat_tests)

blank_byte : (b : ℕ) (t : List ℕ) → is_blank_byte b ≡ true → is_match blank (b ∷ t) ≡ is_empty t
unfolding matches
blank_byte b t h = rw (h, apart is_blank_byte b 47 h refl) (or_false (is_empty t))

at_blank : (b : ℕ) (t : List ℕ) → is_blank_byte b ≡ true → word_of_bytes (b ∷ t) ≡ where_last Blank t
at_blank b t h =
    chosen_by (b ∷ t) (is_empty t) false false false false false false false None (blank_byte b t h) (not_comment b t (out 47 refl)) (not_name b t (blank_not_letter b h)) (not_special b t (out 36 refl))
    (not_numeral b t (blank_not_digit b h) (out 46 refl)) (not_numeral_letter b t (blank_not_digit b h) (out 46 refl)) (not_text text_end b t (out 34 refl)) (not_text text_break b t (out 34 refl)) (no_symbol is_blank_byte b t h symbols refl)
    ∙ last t
  where
    out : (c : ℕ) → is_blank_byte c ≡ false → nat_eq b c ≡ false
    out c e = apart is_blank_byte b c h e

    last : (t : List ℕ) → chosen (is_empty t) false false false false false false false None ≡ where_last Blank t
    last [] = refl
    last (c ∷ t) = refl

name_byte : (b : ℕ) (t : List ℕ) → is_letter_byte b ≡ true → is_match name_word (b ∷ t) ≡ all_bytes is_name_byte t
unfolding matches
name_byte b t h = ap (λ x. cond x (matches (Many (One is_name_byte)) is_empty t) false) h ∙ all_of is_name_byte t

at_letter : (b : ℕ) (t : List ℕ) → is_letter_byte b ≡ true → word_of_bytes (b ∷ t) ≡ word_where (all_bytes is_name_byte t) Name
at_letter b t h =
    chosen_by (b ∷ t) false false (all_bytes is_name_byte t) false false false false false None (not_blank b t (blank_apart is_letter_byte b h refl refl refl refl) (out 47 refl)) (not_comment b t (out 47 refl)) (name_byte b t h) (not_special b t (out 36 refl))
    (not_numeral b t (digit_not_letter b h) (out 46 refl)) (not_numeral_letter b t (digit_not_letter b h) (out 46 refl)) (not_text text_end b t (out 34 refl)) (not_text text_break b t (out 34 refl)) (no_symbol is_letter_byte b t h symbols refl)
  where
    out : (c : ℕ) → is_letter_byte c ≡ false → nat_eq b c ≡ false
    out c e = apart is_letter_byte b c h e

at_digit : (b : ℕ) (t : List ℕ) → is_digit_byte b ≡ true → word_of_bytes (b ∷ t) ≡ in_whole t
at_digit b t h =
    chosen_by (b ∷ t) false false false false (whole_then is_empty t) (whole_then lettered t) false false None (not_blank b t (blank_apart is_digit_byte b h refl refl refl refl) (out 47 refl)) (not_comment b t (out 47 refl)) (not_name b t (no_letter b h)) (not_special b t (out 36 refl))
    (numeral_read is_empty (λ c u g. refl) b t ∙ here (whole_then is_empty t) (more_digits (end_then is_empty) t)) (numeral_letter_read b t ∙ here (whole_then lettered t) (more_digits (end_then lettered) t)) (not_text text_end b t (out 34 refl)) (not_text text_break b t (out 34 refl)) (no_symbol is_digit_byte b t h symbols refl)
    ∙ sym (whole_words t)
  where
    out : (c : ℕ) → is_digit_byte c ≡ false → nat_eq b c ≡ false
    out c e = apart is_digit_byte b c h e

    here : (x y : Bool) → (cond (is_digit_byte b) x false || cond (nat_eq b 46) y false) ≡ x
    here x y = rw (h, apart is_digit_byte b 46 h refl) (or_false x)

-- a dollar sign
at_dollar : (t : List ℕ) → word_of_bytes (36 ∷ t) ≡ after_dollar t
unfolding word_of_bytes matches
at_dollar [] = refl
at_dollar (c ∷ t) = go (is_letter_byte c) (all_of is_name_byte t)
  where
    go : (l : Bool) → matches (Many (One is_name_byte)) is_empty t ≡ all_bytes is_name_byte t → cond (cond l (matches (Many (One is_name_byte)) is_empty t) false) (Some Special) None ≡ cond l (word_where (all_bytes is_name_byte t) Special) None
    go true h = ap (λ x. word_where x Special) h
    go false h = refl

-- a text
abbrev text_byte : Expression
text_byte = Either (Then (literal (codes "\\")) in_line) (One is_plain)

text_read : (t : List ℕ) → in_text t ≡ texts (matches (Many text_byte) (matches text_end is_empty) t) (matches (Many text_byte) (matches text_break is_empty) t)
unfolding matches
text_read t = text_words (matches text_byte) (λ k t. refl) (length t) t (omega arith)

at_quote : (t : List ℕ) → word_of_bytes (34 ∷ t) ≡ in_text t
unfolding word_of_bytes matches
at_quote t = sym (text_read t)

-- a point
point_alone : word_of_bytes (46 ∷ []) ≡ Some (SymbolWord Dot)
unfolding word_of_bytes matches many_then
point_alone = refl

at_point : (t : List ℕ) → word_of_bytes (46 ∷ t) ≡ after_point t
unfolding matches
at_point [] = point_alone
at_point (c ∷ t) =
    chosen_by (46 ∷ c ∷ t) false false false false (more_digits (end_then is_empty) (c ∷ t)) (more_digits (end_then lettered) (c ∷ t)) false false None (not_blank 46 (c ∷ t) refl refl) (not_comment 46 (c ∷ t) refl) (not_name 46 (c ∷ t) refl) (not_special 46 (c ∷ t) refl)
    (numeral_read is_empty (λ c u g. refl) 46 (c ∷ t)) (numeral_letter_read 46 (c ∷ t)) (not_text text_end 46 (c ∷ t) refl) (not_text text_break 46 (c ∷ t) refl) refl
    ∙ go (is_digit_byte c)
  where
    go : (d : Bool) → numbers (cond d (fraction_then is_empty t) false) (cond d (fraction_then lettered t) false) ≡ cond d (in_fraction t) None
    go true = sym (fraction_words t)
    go false = refl

-- a slash
abbrev comment_byte : Expression
comment_byte = Then (Unless (literal (codes "*/"))) (One (λ c. true))

comment_read : (t : List ℕ) → in_comment t ≡ comments (matches (Many comment_byte) (matches (literal (codes "*/")) is_empty) t) (matches (Many comment_byte) is_empty t)
unfolding matches
comment_read t = comment_words (matches comment_byte) (λ k t. refl) (length t) t (omega arith)

line_read : (t : List ℕ) → matches (Many in_line) is_empty t ≡ all_bytes is_in_line t
line_read t = all_of is_in_line t

at_slash : (t : List ℕ) → word_of_bytes (47 ∷ t) ≡ after_slash t
unfolding word_of_bytes matches
at_slash [] = refl
at_slash (c ∷ t) = go (nat_eq c 47) (nat_eq c 42) (λ e. eqb-true c 47 e) (λ e. eqb-true c 42 e) (line_read t) (comment_read t)
  where
    whole : Bool
    whole = matches (Many comment_byte) (matches (literal (codes "*/")) is_empty) t

    begun : Bool
    begun = matches (Many comment_byte) is_empty t

    go : (s k : Bool) → (s ≡ true → c ≡ 47) → (k ≡ true → c ≡ 42) → matches (Many in_line) is_empty t ≡ all_bytes is_in_line t → in_comment t ≡ comments whole begun →
        chosen (cond s (matches (Many in_line) is_empty t) false || cond k whole false) (cond k begun false) false false false false false false None
        ≡ cond s (word_where (all_bytes is_in_line t) Blank) (cond k (in_comment t) None)
    go true true h g l r = absurd (both (sym (h refl) ∙ g refl))
      where
        both : ◌≡◌ {A = ℕ} 47 42 → ⊥
        both e = cc
    go true false h g l r = ap (λ x. word_where x Blank) (or_false (matches (Many in_line) is_empty t) ∙ l)
    go false true h g l r = sym r
    go false false h g l r = refl

-- the word that the bytes are
from_byte : (b : ℕ) (t : List ℕ) → word_of_bytes (b ∷ t) ≡ word_from b t
unfolding word_from
from_byte b t = go (is_blank_byte b) (is_letter_byte b) (is_digit_byte b) (nat_eq b 36) (nat_eq b 34) (nat_eq b 46) (nat_eq b 47) refl refl refl refl refl refl refl
  where
    at_byte : (c : ℕ) (g : List ℕ → Option Word) → ((u : List ℕ) → word_of_bytes (c ∷ u) ≡ g u) → nat_eq b c ≡ true → word_of_bytes (b ∷ t) ≡ g t
    at_byte c g h e = ap (λ d. word_of_bytes (d ∷ t)) (eqb-true b c e) ∙ h t

    go : (k l d o q p s : Bool) → is_blank_byte b ≡ k → is_letter_byte b ≡ l → is_digit_byte b ≡ d → nat_eq b 36 ≡ o → nat_eq b 34 ≡ q → nat_eq b 46 ≡ p → nat_eq b 47 ≡ s → word_of_bytes (b ∷ t) ≡
        cond k (where_last Blank t) (cond l (word_where (all_bytes is_name_byte t) Name) (cond d (in_whole t) (cond o (after_dollar t) (cond q (in_text t) (cond p (after_point t) (cond s (after_slash t) (symbol_of b t)))))))
    go true l d o q p s hk hl hd ho hq hp hs = at_blank b t hk
    go false true d o q p s hk hl hd ho hq hp hs = at_letter b t hl
    go false false true o q p s hk hl hd ho hq hp hs = at_digit b t hd
    go false false false true q p s hk hl hd ho hq hp hs = at_byte 36 after_dollar at_dollar ho
    go false false false false true p s hk hl hd ho hq hp hs = at_byte 34 in_text at_quote hq
    go false false false false false true s hk hl hd ho hq hp hs = at_byte 46 after_point at_point hp
    go false false false false false false true hk hl hd ho hq hp hs = at_byte 47 after_slash at_slash hs
    go false false false false false false false hk hl hd ho hq hp hs =
        chosen_by (b ∷ t) false false false false false false false false (symbol_of b t) (not_blank b t hk hs) (not_comment b t hs) (not_name b t hl) (not_special b t ho)
        (not_numeral b t hd hp) (not_numeral_letter b t hd hp) (not_text text_end b t hq) (not_text text_break b t hq) (symbol_words b t hp hs)

-- the expressions say the same words as the reading byte by byte
pub is_read : (bytes : List ℕ) → word_of_bytes bytes ≡ word_read bytes
unfolding word_of_bytes matches
is_read [] = refl
is_read (b ∷ t) = from_byte b t
