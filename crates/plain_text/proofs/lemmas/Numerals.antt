-- Laws of numerals, for this crate and those above.
use Rattle.std.proofs.Common.{◌≡◌, ℕ, zero, suc, ◌+◌, ◌/◌, ◌%◌, ◌^◌, ◌<◌, ◌≤◌, List, [], ◌∷◌, ◌++◌, map, length, get_or, IsFalse, true, refl, sym, ap, subst, ◌∙◌, ⊎_elim, arith, decimal, mod-eq_of_lt, ne_eqb, length-append, lt_trans, lit<, ℤ, pos, negsuc}
use lib.Signed.{mag}
use Rattle.std.specs.Char.{digit_value, is_ascii_digit}
use Rattle.std.specs.Int.{IsInRange}
use Rattle.std.specs.Int.Digits.{digits_of, digits_with_fuel}
use Rattle.std.specs.Str.Parse.{AllDigits, digits_value}
use Rattle.std.specs.Fmt.{signed_decimal}
use Rattle.std.proofs.lemmas.Bool.{cases_lt}
use Rattle.std.proofs.lemmas.Fmt.{decimal_by_steps_wide, decimal-digits_value}
use Rattle.std.proofs.lemmas.Int.Digits.{digits_of_step, length-digits_of-le, digits_push, digits_value_push}
use Rattle.std.proofs.lemmas.List.{map_push, length-map}
use lib.ListN.{get_or-append}
use Rattle.std.proofs.lemmas.Str.{digit_value_digit}
use Rattle.std.proofs.lemmas.Bool.Decides.{nat_tests}
use Rattle.std.proofs.lemmas.Str.Parse.{digit_at, digit_from_value, IsNumeralModel}
use Rattle.plain_text.specs.Decimals.{digits_within, numeral, signed_numeral, begins_with_digit}

-- the digits are std's, as ASCII bytes
within_is_digits : (divisions n : ℕ) → digits_within divisions n ≡ map (λ d. 48 + d) (digits_with_fuel 10 divisions n)
within_is_digits zero n = refl
within_is_digits (suc divisions) zero = refl
within_is_digits (suc divisions) (suc n) =
    rw (ne_eqb (suc n) 0 (λ e. omega (arith, e)))
    (ap (λ ds. ds ++ (48 + suc n % 10) ∷ []) (within_is_digits divisions (suc n / 10))
    ∙ sym (map_push (λ d. 48 + d) (digits_with_fuel 10 divisions (suc n / 10)) (suc n % 10)))

-- a numeral in std's words
pub numeral-digits_of : (n : ℕ) → 0 < n → numeral n ≡ map (λ d. 48 + d) (digits_of 10 n)
unfolding numeral
numeral-digits_of zero some = absurd (omega arith)
numeral-digits_of (suc n) some = within_is_digits (suc n) (suc n)

-- the last digit
pub numeral_step : (n : ℕ) → 10 ≤ n → numeral n ≡ numeral (n / 10) ++ (48 + n % 10) ∷ []
numeral_step n large =
    numeral-digits_of n (omega arith)
    ∙ ap (map (λ d. 48 + d)) (digits_of_step 10 n (omega arith) (omega arith))
    ∙ map_push (λ d. 48 + d) (digits_of 10 (n / 10)) (n % 10)
    ∙ ap (λ ds. ds ++ (48 + n % 10) ∷ []) (sym (numeral-digits_of (n / 10) (omega arith)))

-- one digit
pub numeral_digit : (n : ℕ) → n < 10 → numeral n ≡ (48 + n) ∷ []
unfolding numeral
numeral_digit zero small = refl
numeral_digit (suc n) small =
    let none : suc n / 10 ≡ 0 = omega arith in
    numeral-digits_of (suc n) (omega arith)
    ∙ ap (map (λ d. 48 + d)) (digits_of_step 10 (suc n) (omega arith) (omega arith))
    ∙ rw (none, mod-eq_of_lt small) refl

by_steps : (P : ℕ → List ℕ → Type 0) → ((n : ℕ) → n < 10 → P n ((48 + n) ∷ [])) → ((n : ℕ) (ds : List ℕ) → 10 ≤ n → P (n / 10) ds → P n (ds ++ (48 + n % 10) ∷ [])) → (turns n : ℕ) → n ≤ turns → P n (numeral n)
by_steps P one more zero n le = subst (P n) (sym (numeral_digit n (omega arith))) (one n (omega arith))
by_steps P one more (suc turns) n le =
    ⊎_elim
    (λ small. subst (P n) (sym (numeral_digit n small)) (one n small))
    (λ large. subst (P n) (sym (numeral_step n large)) (more n (numeral (n / 10)) large (by_steps P one more turns (n / 10) (omega arith))))
    (cases_lt n 10)

-- what holds of one digit, and of a numeral with one more digit, holds of every numeral
pub numeral_by_steps : (P : ℕ → List ℕ → Type 0) → ((n : ℕ) → n < 10 → P n ((48 + n) ∷ [])) → ((n : ℕ) (ds : List ℕ) → 10 ≤ n → P (n / 10) ds → P n (ds ++ (48 + n % 10) ∷ [])) → (n : ℕ) → P n (numeral n)
numeral_by_steps P one more n = by_steps P one more n n (omega arith)

-- below its limit of 64 digits, std's text of a number is its numeral
pub decimal-numeral : (n : ℕ) → n < 10 ^ 64 → decimal n ≡ numeral n
decimal-numeral =
    decimal_by_steps_wide (λ n ds. ds ≡ numeral n)
    (λ n small. sym (numeral_digit n small))
    (λ n ds large same. ap (λ front. front ++ (48 + n % 10) ∷ []) same ∙ sym (numeral_step n large))

-- the same of every `i128`
pub signed_decimal-numeral : (z : ℤ) → mag z < 2 ^ 127 → signed_decimal z ≡ signed_numeral z
signed_decimal-numeral (pos n) small = decimal-numeral n (omega arith)
signed_decimal-numeral (negsuc n) small = ap (λ ds. 45 ∷ ds) (decimal-numeral (suc n) (omega arith))

digit_value_of : (d : ℕ) → d < 10 → digit_value (48 + d) ≡ d
digit_value_of d small = omega (arith, digit_value_digit (48 + d) (omega arith, omega arith))

-- a numeral has digits alone, in std's word for them
pub AllDigits-numeral : (n : ℕ) → AllDigits 10 (numeral n)
AllDigits-numeral =
    numeral_by_steps (λ _ ds. AllDigits 10 ds)
    (λ n small. (rw (digit_value_of n small) small, tt))
    (λ n ds large all. digits_push 10 ds (48 + n % 10) all (rw (digit_value_of (n % 10) (omega arith)) (omega arith)))

-- each byte of it is one of '0' to '9'
pub numeral_byte : (n i : ℕ) → i < length (numeral n) → IsInRange 48 57 (get_or (numeral n) i 0)
numeral_byte n i below = digit_at (numeral n) i (AllDigits-numeral n) below

pub numeral_nonempty : (n : ℕ) → 0 < length (numeral n)
numeral_nonempty =
    numeral_by_steps (λ _ ds. 0 < length ds)
    (λ n small. omega arith)
    (λ n ds large some. omega (arith, length-append ds ((48 + n % 10) ∷ [])))

-- no leading zero
pub first_numeral : (n : ℕ) → 0 < n → 48 < get_or (numeral n) 0 0
first_numeral n some =
    (numeral_by_steps (λ m ds. (0 < length ds) × (0 < m → 48 < get_or ds 0 0))
    (λ m small. (omega arith, λ above. omega arith))
    (λ m ds large h. (omega (arith, length-append ds ((48 + m % 10) ∷ [])), λ above. omega (arith, get_or-append ds ((48 + m % 10) ∷ []) 0 0 h.0, h.1 (omega arith))))
    n).1 some

-- it writes its number
pub digits_value-numeral : (n : ℕ) → digits_value 10 (numeral n) ≡ n
digits_value-numeral =
    numeral_by_steps (λ n ds. digits_value 10 ds ≡ n)
    (λ n small. omega (arith, digit_value_of n small))
    (λ n ds large same. digits_value_push 10 ds (48 + n % 10) ∙ omega (arith, same, digit_value_of (n % 10) (omega arith)))

-- a number below 10^k has k digits at most
pub length-numeral-le : (k n : ℕ) → 0 < k → n < 10 ^ k → length (numeral n) ≤ k
length-numeral-le k n some small =
    ⊎_elim
    (λ zero. omega (arith, ap length (numeral_digit n (omega arith))))
    (λ above. rw (numeral-digits_of n above, length-map) (length-digits_of-le 10 k n (omega arith) small))
    (cases_lt n 1)

digit_is : (c : ℕ) → digit_value c < 10 → is_ascii_digit c ≡ true
digit_is c small = let range = digit_from_value c small in grind (arith, nat_tests)

-- digits end at the first byte that is none
split_digits : (ds es x y : List ℕ) → AllDigits 10 ds → AllDigits 10 es → IsFalse (begins_with_digit x) → IsFalse (begins_with_digit y) → ds ++ x ≡ es ++ y → (ds ≡ es) × (x ≡ y)
split_digits [] [] x y p q end_x end_y e = (refl, e)
split_digits [] (c ∷ es) x y p q end_x end_y e = let found = sym (digit_is c q.0) ∙ (rw e at end_x) in cc found
split_digits (c ∷ ds) [] x y p q end_x end_y e = let found = sym (digit_is c p.0) ∙ (rw (← e) at end_y) in cc found
split_digits (c ∷ ds) (d ∷ es) x y p q end_x end_y e =
    let rest = split_digits ds es x y p.1 q.1 end_x end_y (cc e) in
    (cc (e, rest.0), rest.1)

-- numerals determine the number and what follows it
pub one_numeral : (m n : ℕ) (x y : List ℕ) → IsFalse (begins_with_digit x) → IsFalse (begins_with_digit y) → numeral m ++ x ≡ numeral n ++ y → (m ≡ n) × (x ≡ y)
one_numeral m n x y end_x end_y e =
    let h = split_digits (numeral m) (numeral n) x y (AllDigits-numeral m) (AllDigits-numeral n) end_x end_y e in
    (sym (digits_value-numeral m) ∙ ap (digits_value 10) h.0 ∙ digits_value-numeral n, h.1)

digits_model : IsNumeralModel (AllDigits 10) (digits_value 10)
digits_model = record { to = λ ds h. h; from = λ ds h. h; same = λ ds h. refl }

-- digits with no zero before them are the numeral of the number that they write
pub numeral-digits_value : (ds : List ℕ) → AllDigits 10 ds → 0 < length ds → 48 < get_or ds 0 0 → digits_value 10 ds < 2 ^ 64 → numeral (digits_value 10 ds) ≡ ds
numeral-digits_value ds digits some above small =
    sym (decimal-numeral (digits_value 10 ds) (lt_trans small (lit< tt)))
    ∙ decimal-digits_value digits_model ds digits some (λ zero. absurd (omega (arith, zero))) small
