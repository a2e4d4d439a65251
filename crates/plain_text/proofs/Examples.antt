-- Numerals that are written out.
use Rattle.std.proofs.Common.{◌≡◌, ◌^◌, refl, codes, negsuc}
use Rattle.plain_text.specs.Decimals.{numeral, signed_numeral}

zero_is : numeral 0 ≡ codes "0"
unfolding numeral
zero_is = refl

seven_is : numeral 7 ≡ codes "7"
unfolding numeral
seven_is = refl

ten_is : numeral 10 ≡ codes "10"
unfolding numeral
ten_is = refl

largest_length_is : numeral 4095 ≡ codes "4095"
unfolding numeral
largest_length_is = refl

two_to_20_is : numeral 1048576 ≡ codes "1048576"
unfolding numeral
two_to_20_is = refl

negative_is : signed_numeral (negsuc 1048575) ≡ codes "-1048576"
unfolding numeral
negative_is = refl

past_64_digits : numeral (10 ^ 70) ≡ codes "10000000000000000000000000000000000000000000000000000000000000000000000"
unfolding numeral
past_64_digits = refl
