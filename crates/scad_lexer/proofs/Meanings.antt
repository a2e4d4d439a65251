-- What words stand for.
use Rattle.std.proofs.Common.{◌≡◌, ℕ, zero, suc, ◌+◌, ◌-◌, ◌*◌, ◌<◌, ◌≤◌, List, [], ◌∷◌, ◌++◌, length, take, drop, get_or, Bool, true, false, cond, ◌&&◌, Some, None, Result, Ok, Err, refl, sym, ap, ◌∙◌, arith, nat_eq, append_assoc, append-nil}
use Rattle.scad_lexer.specs.declared.class.ByteClass.TheVariants.{Byte, Printable}
use Rattle.scad_lexer.specs.Scanning.{all_bytes, is_of_class, begins_with}
use Rattle.scad_lexer.specs.Words.{One, Many, matches, is_empty}
use Rattle.scad_lexer.proofs.Matched.{all_of}
use Rattle.scad_lexer.specs.Tokens.{decimal_from, zero_fraction, with_byte, escape_of, escape_at, with_escape, bytes_written, bytes_after_backslash}
use Rattle.scad_lexer.proofs.Longest.{drop_more}
use Rattle.scad_lexer.proofs.Scanned.{rest_all}

pub number_more : (v : ℕ) (t : List ℕ) (n : ℕ) → n < length t → decimal_from v (drop n t) ≡ decimal_from (v * 10 + (get_or t n 0 - 48)) (drop (n + 1) t)
number_more v t n h = ap (decimal_from v) (drop_more t n h)

pub number_grows : (v : ℕ) (t : List ℕ) → v ≤ decimal_from v t
number_grows v [] = omega arith
number_grows v (b ∷ t) = omega (arith, number_grows (v * 10 + (b - 48)) t)

pub too_large : (t : List ℕ) (n x v : ℕ) {limit : ℕ} → x ≡ get_or t n 0 - 48 → n < length t → decimal_from 0 t ≡ decimal_from v (drop n t) → limit ≤ v * 10 + x → limit ≤ decimal_from 0 t
too_large t n x v {limit} e h told l =
    let next : decimal_from 0 t ≡ decimal_from (v * 10 + x) (drop (n + 1) t) = told ∙ number_more v t n h ∙ ap (λ d. decimal_from (v * 10 + d) (drop (n + 1) t)) (sym e) in
    omega (arith, next, number_grows (v * 10 + x) (drop (n + 1) t))

pub every_more : (p : ℕ → Bool) (t : List ℕ) (n : ℕ) → n < length t → p (get_or t n 0) ≡ true → all_bytes p (drop n t) ≡ all_bytes p (drop (n + 1) t)
every_more p t n h e = ap (all_bytes p) (drop_more t n h) ∙ ap (λ c. cond c (all_bytes p (drop (n + 1) t)) false) e

pub every_stop : (p : ℕ → Bool) (t : List ℕ) (n : ℕ) → n < length t → p (get_or t n 0) ≡ false → all_bytes p (drop n t) ≡ false
every_stop p t n h e = ap (all_bytes p) (drop_more t n h) ∙ ap (λ c. cond c (all_bytes p (drop (n + 1) t)) false) e

pub every_end : (p : ℕ → Bool) (t : List ℕ) (n : ℕ) → length t ≤ n → all_bytes p (drop n t) ≡ true
every_end p [] zero h = refl
every_end p [] (suc n) h = refl
every_end p (b ∷ t) zero h = absurd (omega arith)
every_end p (b ∷ t) (suc n) h = every_end p t n (omega arith)

pub zero_empty : (t : List ℕ) → length t ≡ 0 → zero_fraction t ≡ true
unfolding matches
zero_empty [] h = refl
zero_empty (c ∷ t) h = absurd (omega arith)

-- a point and what is behind it
zero_read : (c : ℕ) (t : List ℕ) → zero_fraction (c ∷ t) ≡ (nat_eq c 46 && all_bytes (λ c. nat_eq c 48) t)
unfolding matches
zero_read c t = go (nat_eq c 46) (all_of (λ c. nat_eq c 48) t)
  where
    go : (e : Bool) → matches (Many (One (λ c. nat_eq c 48))) is_empty t ≡ all_bytes (λ c. nat_eq c 48) t → cond e (matches (Many (One (λ c. nat_eq c 48))) is_empty t) false ≡ (e && all_bytes (λ c. nat_eq c 48) t)
    go true h = h
    go false h = refl

pub zero_point : (t : List ℕ) → 1 ≤ length t → (a b : Bool) → begins_with (is_of_class (Byte 46)) t ≡ a → all_bytes (λ c. nat_eq c 48) (take (length t - 1) (drop 1 t)) ≡ b → zero_fraction t ≡ (a && b)
zero_point [] h a b e g = absurd (omega arith)
zero_point (c ∷ t) h a b e g = zero_read c t ∙ ap (λ x. x && all_bytes (λ c. nat_eq c 48) t) e ∙ ap (λ x. a && x) (ap (all_bytes (λ c. nat_eq c 48)) (sym (rest_all (c ∷ t) 1)) ∙ g)

pub zero_point_none : (t : List ℕ) → 1 ≤ length t → begins_with (is_of_class (Byte 46)) t ≡ false → zero_fraction t ≡ false
zero_point_none [] h e = absurd (omega arith)
zero_point_none (c ∷ t) h e = zero_read c t ∙ ap (λ x. x && all_bytes (λ c. nat_eq c 48) t) e

-- one byte of a text's inside
pub step_escape : (t : List ℕ) (b : ℕ) → begins_with (is_of_class (Byte 92)) t ≡ true → Some b ≡ escape_at (take (length t - 1) (drop 1 t)) → bytes_written t ≡ with_byte b 2 (bytes_written (drop 2 t))
unfolding bytes_written bytes_after_backslash
step_escape [] b e g = absurd (cc)
step_escape (c ∷ []) b e g = absurd (let f = g ∙ ap escape_at (rest_all (c ∷ []) 1) in cc)
step_escape (c ∷ d ∷ t) b e g =
    ap (λ x. cond x (with_escape (escape_of d) (bytes_written t)) (cond (is_of_class Printable c) (with_byte c 1 (bytes_written (d ∷ t))) (Err 0))) e
    ∙ ap (λ x. with_escape x (bytes_written t)) (sym (g ∙ ap escape_at (rest_all (c ∷ d ∷ t) 1)))

pub bad_escape : (t : List ℕ) → begins_with (is_of_class (Byte 92)) t ≡ true → None ≡ escape_at (take (length t - 1) (drop 1 t)) → bytes_written t ≡ Err 0
unfolding bytes_written bytes_after_backslash
bad_escape [] e g = absurd (cc)
bad_escape (c ∷ []) e g = ap (λ x. cond x (Err 0) (cond (is_of_class Printable c) (with_byte c 1 (Ok [])) (Err 0))) e
bad_escape (c ∷ d ∷ t) e g =
    ap (λ x. cond x (with_escape (escape_of d) (bytes_written t)) (cond (is_of_class Printable c) (with_byte c 1 (bytes_written (d ∷ t))) (Err 0))) e
    ∙ ap (λ x. with_escape x (bytes_written t)) (sym (g ∙ ap escape_at (rest_all (c ∷ d ∷ t) 1)))

pub step_plain : (t : List ℕ) → begins_with (is_of_class (Byte 92)) t ≡ false → begins_with (is_of_class Printable) t ≡ true → bytes_written t ≡ with_byte (get_or t 0 0) 1 (bytes_written (drop 1 t))
unfolding bytes_written bytes_after_backslash
step_plain [] e g = absurd (cc)
step_plain (c ∷ t) e g = ap (λ x. cond x (bytes_after_backslash t) (cond (is_of_class Printable c) (with_byte c 1 (bytes_written t)) (Err 0))) e ∙ ap (λ x. cond x (with_byte c 1 (bytes_written t)) (Err 0)) g

pub step_bad : (t : List ℕ) → 1 ≤ length t → begins_with (is_of_class (Byte 92)) t ≡ false → begins_with (is_of_class Printable) t ≡ false → bytes_written t ≡ Err 0
unfolding bytes_written bytes_after_backslash
step_bad [] h e g = absurd (omega arith)
step_bad (c ∷ t) h e g = ap (λ x. cond x (bytes_after_backslash t) (cond (is_of_class Printable c) (with_byte c 1 (bytes_written t)) (Err 0))) e ∙ ap (λ x. cond x (with_byte c 1 (bytes_written t)) (Err 0)) g

-- what was decoded so far, and what is left
abbrev pub joined : List ℕ → ℕ → Result (List ℕ) ℕ → Result (List ℕ) ℕ
joined bs n (Ok cs) = Ok (bs ++ cs)
joined bs n (Err at) = Err (n + at)

pub joined_none : (r : Result (List ℕ) ℕ) → r ≡ joined [] 0 r
joined_none (Ok bs) = refl
joined_none (Err at) = let same : at ≡ 0 + at = omega arith in ap Err same

joined_byte : (bs : List ℕ) (n : ℕ) (b k : ℕ) (r : Result (List ℕ) ℕ) → joined bs n (with_byte b k r) ≡ joined (bs ++ b ∷ []) (n + k) r
joined_byte bs n b k (Ok cs) = ap Ok (sym (append_assoc bs (b ∷ []) cs))
joined_byte bs n b k (Err at) = let same : n + (k + at) ≡ n + k + at = omega arith in ap Err same

drop_twice : (t : List ℕ) (n k : ℕ) → drop k (drop n t) ≡ drop (n + k) t
drop_twice t zero k = let same : 0 + k ≡ k = omega arith in ap (λ n. drop n t) (sym same)
drop_twice [] (suc n) zero = let same : suc n + 0 ≡ suc n = omega arith in ap (λ (n : ℕ). drop n []) (sym same)
drop_twice [] (suc n) (suc k) = let same : suc n + suc k ≡ suc (n + suc k) = omega arith in ap (λ (n : ℕ). drop n []) (sym same)
drop_twice (b ∷ t) (suc n) k = let same : suc n + k ≡ suc (n + k) = omega arith in drop_twice t n k ∙ ap (λ n. drop n (b ∷ t)) (sym same)

pub decode_more : (t : List ℕ) (whole : Result (List ℕ) ℕ) (bs : List ℕ) (n b k : ℕ) → whole ≡ joined bs n (bytes_written (drop n t)) → bytes_written (take (length t - n) (drop n t)) ≡ with_byte b k (bytes_written (drop k (take (length t - n) (drop n t)))) → whole ≡ joined (bs ++ b ∷ []) (n + k) (bytes_written (drop (n + k) t))
decode_more t whole bs n b k h e =
    h ∙ ap (λ l. joined bs n (bytes_written l)) (sym (rest_all t n)) ∙ ap (joined bs n) e
    ∙ joined_byte bs n b k (bytes_written (drop k (take (length t - n) (drop n t))))
    ∙ ap (λ l. joined (bs ++ b ∷ []) (n + k) (bytes_written l)) (ap (drop k) (rest_all t n) ∙ drop_twice t n k)

pub decode_fault : (t : List ℕ) (whole : Result (List ℕ) ℕ) (bs : List ℕ) (n : ℕ) → whole ≡ joined bs n (bytes_written (drop n t)) → bytes_written (take (length t - n) (drop n t)) ≡ Err 0 → whole ≡ Err n
decode_fault t whole bs n h e =
    let none : n + 0 ≡ n = omega arith in
    h ∙ ap (λ l. joined bs n (bytes_written l)) (sym (rest_all t n)) ∙ ap (joined bs n) e ∙ ap Err none

drop_past : (t : List ℕ) (n : ℕ) → length t ≤ n → drop n t ≡ []
drop_past [] zero h = refl
drop_past [] (suc n) h = refl
drop_past (b ∷ t) zero h = absurd (omega arith)
drop_past (b ∷ t) (suc n) h = drop_past t n (omega arith)

empty_decoded : bytes_written [] ≡ Ok []
unfolding bytes_written
empty_decoded = refl

pub decode_end : (t : List ℕ) (whole : Result (List ℕ) ℕ) (bs : List ℕ) (n : ℕ) → length t ≤ n → whole ≡ joined bs n (bytes_written (drop n t)) → whole ≡ Ok bs
decode_end t whole bs n l h = h ∙ ap (λ u. joined bs n (bytes_written u)) (drop_past t n l) ∙ ap (joined bs n) empty_decoded ∙ ap Ok (append-nil bs)
