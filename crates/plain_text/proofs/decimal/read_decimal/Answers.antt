use Rattle.std.proofs.Common.{◌≡◌, ◌^◌, ◌<◌, ◌≤◌, ℕ, List, length, take, true, true≢false, sym, ◌∙◌, arith, length-take-le, get_or}
use Rattle.std.specs.Char.{is_ascii_digit}
use Rattle.std.specs.Int.{IsInRange}
use Rattle.std.specs.Str.Parse.{AllDigits, digits_value}
use Rattle.std.proofs.lemmas.Bool.Decides.{nat_tests}
use Rattle.std.proofs.lemmas.Int.Digits.{digits_more, digits_value_more}
use Rattle.std.proofs.lemmas.Str.{digit_value_digit}
use Rattle.std.proofs.lemmas.Str.Parse.{digit_at, numerals_by_value, tells_digits, digits_value_short}
use Rattle.plain_text.proofs.decimal.read_decimal.Goals as goal

-- what the test of a digit says
digit_range : (c : ℕ) → is_ascii_digit c ≡ true → IsInRange 48 57 c
digit_range c test = grind (arith, nat_tests)

digit_test : (c : ℕ) → IsInRange 48 57 c → is_ascii_digit c ≡ true
digit_test c range = grind (arith, nat_tests)

-- the digits before index i write a number of i digits at most
front_below : (bytes : List ℕ) (i k : ℕ) → AllDigits 10 (take i bytes) → i ≤ length bytes → i ≤ k → digits_value 10 (take i bytes) < 10 ^ k
front_below bytes i k digits within short =
    digits_value_short (numerals_by_value _ tells_digits) (take i bytes) k digits (omega (arith, length-take-le i bytes within))

pub returns-then-not-is_ascii_digit-clause-some : goal.returns-then-not-is_ascii_digit-clause-some
returns-then-not-is_ascii_digit-clause-some c = (
  λ e. absurd (true≢false (sym e)),
  λ h. c.if-not-is_ascii_digit.ensures.value ∙ digit_test (get_or c.args.bytes.now c.loop-byte.byte-index 0) (digit_at c.args.bytes.now c.loop-byte.byte-index h.digits c.loop-byte-test.true),
)

pub overflow_mul-number : goal.overflow_mul-number
overflow_mul-number c = let below = front_below c.args.bytes.now c.loop-byte.byte-index 7 c.loop-byte.invariant.digits (omega arith) (omega arith) in omega arith

pub overflow_add-number : goal.overflow_add-number
overflow_add-number c =
    let below = front_below c.args.bytes.now c.loop-byte.byte-index 7 c.loop-byte.invariant.digits (omega arith) (omega arith) in
    let range = digit_range (get_or c.args.bytes.now c.loop-byte.byte-index 0) (sym c.if-not-is_ascii_digit.ensures.value) in
    omega arith

pub loop-byte-preserved : goal.loop-byte-preserved
loop-byte-preserved c =
    let range = digit_range (get_or c.args.bytes.now c.loop-byte.byte-index 0) (sym c.if-not-is_ascii_digit.ensures.value) in
    let digit = digit_value_digit (get_or c.args.bytes.now c.loop-byte.byte-index 0) range in
    record {
      digits = digits_more 10 c.args.bytes.now c.loop-byte.byte-index c.loop-byte-test.true c.loop-byte.invariant.digits (omega arith);
      value = omega (arith, digits_value_more 10 c.args.bytes.now c.loop-byte.byte-index c.loop-byte-test.true);
    }

pub returns-clause-small : goal.returns-clause-small
returns-clause-small c = let below = front_below c.args.bytes.now c.loop-byte.byte-index 7 c.loop-byte.invariant.digits (omega arith) (omega arith) in omega arith
