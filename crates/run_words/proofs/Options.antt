-- The options of `run`: clap takes exactly those of the grammar, each at most once.
use Rattle.std.proofs.Common.{◌≡◌, ◌≢◌, ◌==◌, zero, suc, ◌∙◌, ℕ, Bool, cond, true, false, ◌<◌, arith, inl, inr, ◌⊎◌, refl, sym, ap, subst, List, [], ◌∷◌, ◌++◌, Option, Some, None, codes}
use Rattle.std.specs.Prelude.{bytes_eq, option_and_then}
use Rattle.std.specs.Char.{digit_value}
use Rattle.std.proofs.lemmas.Bool.Decides.{nat_tests}
use Rattle.clap.specs.Lexer.{long_of, long_of_rest, short_of, strip_byte, name_and_value}
use Rattle.clap.specs.Walk.{Held, Row, Text, Walk, arg_by_long, has_row, settled_rows}
use Rattle.clap.specs.Faults.{long_fault, turn_fault}
use Rattle.clap.specs.declared.parser.matches.ValueSource.TheVariants.{CommandLine}
use Rattle.clap.proofs.OnLiterals.{clap_on_literals}
use Rattle.clap.proofs.CutLemmas.{Lacks}
use Rattle.clap.proofs.LexerLemmas.{name_and_value-at, name_and_value-without}
use Rattle.run_words.specs.declared.given.GivenOptions.{GivenOptions}
use Rattle.run_words.specs.Words.{OptionKey, Workers, Memo, Share, RunOption, Number, Half, Tally, key_name, equals_sign, AreOptions, IsNotGiven, with_option, AddOptions}
use Rattle.run_words.proofs.Rows.{KeyRow, FlagRow, RowsSay, full, first_new, flag_kept, flag_new, key_kept, no_flag, no_text, row}
use Rattle.run_words.proofs.Built.{run_leaf, Leads, at_hand, ends, faults, separator, test, then}
use Rattle.run_words.proofs.Steps.{Piece, Valued, HalfGiven, TallyGiven, Stands, idle_at, idle_turn, joined, joined_leads, key_id, name_leads, name_of, new_stands, row_at, run_defaults, used_once, value_leads, value_stands, waits, plain_fine, plain_met}
use Rattle.plain_text.specs.Decimals.{IsNumeralOf}

-- ---- how a long option is spelled
abbrev spelled : Text → Option Text → Text
spelled name None = name
spelled name (Some value) = name ++ 61 ∷ value

stripped : (c : ℕ) (xs r : Text) → strip_byte c xs ≡ Some r → xs ≡ c ∷ r
stripped c [] r e = cc e
stripped c (x ∷ xs) r e = go (x == c) refl e
  where
    go : (b : Bool) → (x == c) ≡ b → cond b (Some xs) None ≡ Some r → x ∷ xs ≡ c ∷ r
    go true t f = let is : x ≡ c = grind (arith, nat_tests) in cc (is, f)
    go false t f = cc f

lacks_more : (x : ℕ) (xs : Text) → x ≢ 61 → Lacks 61 xs → Lacks 61 (x ∷ xs)
lacks_more x xs apart h zero lt = apart
lacks_more x xs apart h (suc i) lt = h i (omega arith)

cut : (text : Text) → Lacks 61 text ⊎ ((xs : Text) × (ys : Text) × (text ≡ xs ++ 61 ∷ ys) × Lacks 61 xs)
cut [] = inl (λ i lt. absurd (omega arith))
cut (x ∷ xs) = go (x == 61) refl (cut xs)
  where
    go : (b : Bool) → (x == 61) ≡ b → Lacks 61 xs ⊎ ((ws : Text) × (ys : Text) × (xs ≡ ws ++ 61 ∷ ys) × Lacks 61 ws)
        → Lacks 61 (x ∷ xs) ⊎ ((ws : Text) × (ys : Text) × (x ∷ xs ≡ ws ++ 61 ∷ ys) × Lacks 61 ws)
    go true t rest = let is : x ≡ 61 = grind (arith, nat_tests) in inr ([], xs, ap (λ n. n ∷ xs) is, λ i lt. absurd (omega arith))
    go false t (inl none) = let apart : x ≢ 61 = grind (arith, nat_tests) in inl (lacks_more x xs apart none)
    go false t (inr (ws, ys, is, none)) =
        let apart : x ≢ 61 = grind (arith, nat_tests) in inr (x ∷ ws, ys, ap (λ l. x ∷ l) is, lacks_more x ws apart none)

name_spelled : (text name : Text) (value : Option Text) → name_and_value text ≡ (name, value) → text ≡ spelled name value
name_spelled text name value e = elim (cut text) [
  | inl none ↦ let same : (text, None) ≡ (name, value) = sym (name_and_value-without text none) ∙ e in ap (λ (p : Text × Option Text). spelled p.0 p.1) same
  | inr some ↦
      let same : (some.0, Some some.1) ≡ (name, value) = sym (name_and_value-at some.0 some.1 some.3) ∙ ap name_and_value (sym some.2) ∙ e in
      some.2 ∙ ap (λ (p : Text × Option Text). spelled p.0 p.1) same
]

long_spelled : (word name : Text) (value : Option Text) → long_of word ≡ Some (name, value) → word ≡ 45 ∷ 45 ∷ spelled name value
long_spelled word name value e = one (strip_byte 45 word) refl e
  where
    three : (rest : Text) → long_of_rest rest ≡ Some (name, value) → rest ≡ spelled name value
    three [] f = cc f
    three (x ∷ xs) f = let same : name_and_value (x ∷ xs) ≡ (name, value) = cc f in name_spelled (x ∷ xs) name value same

    two : (rest : Text) (o : Option Text) → strip_byte 45 rest ≡ o → option_and_then long_of_rest o ≡ Some (name, value) → rest ≡ 45 ∷ spelled name value
    two rest None is f = cc f
    two rest (Some r) is f = stripped 45 rest r is ∙ ap (λ l. 45 ∷ l) (three r f)

    one : (o : Option Text) → strip_byte 45 word ≡ o → option_and_then long_of_rest (option_and_then (strip_byte 45) o) ≡ Some (name, value) → word ≡ 45 ∷ 45 ∷ spelled name value
    one None is f = cc f
    one (Some r) is f = stripped 45 word r is ∙ ap (λ l. 45 ∷ l) (two r (strip_byte 45 r) refl f)

-- ---- which option a name is
pub data Named (name : Text) : Type 0 where
  a_key : (key : OptionKey) → name ≡ key_id key → Named name
  half : name ≡ codes "half" → Named name
  tally : name ≡ codes "tally" → Named name
  unknown : arg_by_long run_leaf.rules name ≡ None → Named name

named : (name : Text) → Named name
named name = elim (test (codes "workers") name) [
  | inl w ↦ a_key Workers (sym w)
  | inr w ↦ elim (test (codes "memo") name) [
    | inl m ↦ a_key Memo (sym m)
    | inr m ↦ elim (test (codes "share") name) [
      | inl s ↦ a_key Share (sym s)
      | inr s ↦ elim (test (codes "half") name) [
        | inl h ↦ half (sym h)
        | inr h ↦ elim (test (codes "tally") name) [
          | inl t ↦ tally (sym t)
          | inr t ↦ unknown (rw (w, m, s, h, t) refl)
        ]
      ]
    ]
  ]
]

dashed_key : (key : OptionKey) → 45 ∷ 45 ∷ key_id key ≡ key_name key
dashed_key Workers = refl
dashed_key Memo = refl
dashed_key Share = refl

dashed_value : (key : OptionKey) (value : Text) → 45 ∷ 45 ∷ key_id key ++ 61 ∷ value ≡ key_name key ++ equals_sign ++ value
dashed_value Workers value = refl
dashed_value Memo value = refl
dashed_value Share value = refl

-- a word that clap takes where nothing waits is an option in one word, or the name of one that has a number
abbrev pub IsOption : List Row → Text → Type 0
IsOption all word = ((p : Piece) × (word ≡ joined p) × (has_row (name_of p) all ≡ false)) ⊎ ((key : OptionKey) × (word ≡ key_name key))

pub option_at : (all rows : List Row) (pending : Option (Text × List Text)) (word : Text) → Stands all rows pending → bytes_eq word separator ≡ false
    → turn_fault run_leaf [] (idle_at rows pending) word ≡ [] → IsOption all word
option_at all rows pending word stands sep fine =
    let turn = idle_turn rows pending word sep fine in
    go turn.0.0 turn.0.1 (long_spelled word turn.0.0 turn.0.1 turn.1) turn.2 (named turn.0.0)
  where
    as_piece : (p : Piece) → word ≡ joined p → IsOption all word
    as_piece p is = inl (p, is, used_once p all rows pending stands (subst (λ (w : Text). turn_fault run_leaf [] (idle_at rows pending) w ≡ []) is fine))

    go : (name : Text) (value : Option Text) → word ≡ 45 ∷ 45 ∷ spelled name value
        → long_fault run_leaf.rules false (arg_by_long run_leaf.rules name) value (at_hand rows pending) ≡ [] → Named name → IsOption all word
    go name None is e (a_key key k) = inr (key, is ∙ ap (λ n. 45 ∷ 45 ∷ n) k ∙ dashed_key key)
    go name (Some v) is e (a_key key k) = as_piece (Valued key v) (is ∙ ap (λ n. 45 ∷ 45 ∷ n ++ 61 ∷ v) k ∙ dashed_value key v)
    go name None is e (half k) = as_piece HalfGiven (is ∙ ap (λ n. 45 ∷ 45 ∷ n) k)
    go name (Some v) is e (half k) = absurd (full _ _ (rw k at e))
    go name None is e (tally k) = as_piece TallyGiven (is ∙ ap (λ n. 45 ∷ 45 ∷ n) k)
    go name (Some v) is e (tally k) = absurd (full _ _ (rw k at e))
    go name v is e (unknown k) = absurd (full _ _ (rw k at e))

-- ---- the rows say one option more
key_free : (name : Text) (rows : List Row) (o : Option ℕ) → has_row name rows ≡ false → KeyRow rows name o → o ≡ None
key_free name rows None free h = refl
key_free name rows (Some n) free h = absurd (no_text name rows h.0 free h.1)

flag_free : (name : Text) (rows : List Row) (b : Bool) → has_row name rows ≡ false → FlagRow rows name b → b ≡ false
flag_free name rows false free h = refl
flag_free name rows true free h = absurd (no_flag name rows free h)

free_key : (name : Text) (rows : List Row) (o : Option ℕ) → o ≡ None → KeyRow rows name o → has_row name rows ≡ false
free_key name rows None e h = h
free_key name rows (Some n) e h = cc e

free_flag : (name : Text) (rows : List Row) (b : Bool) → b ≡ false → FlagRow rows name b → has_row name rows ≡ false
free_flag name rows false e h = h
free_flag name rows true e h = cc e

-- the option that a piece spells, with its number
abbrev pub IsSpelled : Piece → RunOption → Type 0
IsSpelled (Valued key text) (Number other n) = (key ≡ other) × IsNumeralOf text n
IsSpelled HalfGiven Half = Unit {0}
IsSpelled TallyGiven Tally = Unit {0}
IsSpelled _ _ = ⊥

abbrev key_option : (key : OptionKey) → GivenOptions → Option ℕ
key_option Workers given = given.workers
key_option Memo given = given.memo
key_option Share given = given.share

new_key : (name text : Text) (n : ℕ) (rows : List Row) → has_row name rows ≡ false → bytes_eq name name ≡ true → IsNumeralOf text n
    → KeyRow (rows ++ row CommandLine name (text ∷ []) ∷ []) name (Some n)
new_key name text n rows free here numeral = (text, first_new name rows text free here, numeral)

pub say_more : (p : Piece) (o : RunOption) (rows : List Row) (given : GivenOptions) → IsSpelled p o → has_row (name_of p) rows ≡ false → RowsSay rows given
    → RowsSay (rows ++ row_at p ∷ []) (with_option given o)
say_more (Valued Workers text) (Number Workers n) rows given s free h = (
  new_key (codes "workers") text n rows free refl s.1,
  key_kept (codes "memo") rows (row_at (Valued Workers text)) given.memo refl h.1,
  key_kept (codes "share") rows (row_at (Valued Workers text)) given.share refl h.2,
  flag_kept (codes "half") rows (row_at (Valued Workers text)) given.half refl h.3,
  flag_kept (codes "tally") rows (row_at (Valued Workers text)) given.tally refl h.4,
)
say_more (Valued Memo text) (Number Memo n) rows given s free h = (
  key_kept (codes "workers") rows (row_at (Valued Memo text)) given.workers refl h.0,
  new_key (codes "memo") text n rows free refl s.1,
  key_kept (codes "share") rows (row_at (Valued Memo text)) given.share refl h.2,
  flag_kept (codes "half") rows (row_at (Valued Memo text)) given.half refl h.3,
  flag_kept (codes "tally") rows (row_at (Valued Memo text)) given.tally refl h.4,
)
say_more (Valued Share text) (Number Share n) rows given s free h = (
  key_kept (codes "workers") rows (row_at (Valued Share text)) given.workers refl h.0,
  key_kept (codes "memo") rows (row_at (Valued Share text)) given.memo refl h.1,
  new_key (codes "share") text n rows free refl s.1,
  flag_kept (codes "half") rows (row_at (Valued Share text)) given.half refl h.3,
  flag_kept (codes "tally") rows (row_at (Valued Share text)) given.tally refl h.4,
)
say_more HalfGiven Half rows given s free h = (
  key_kept (codes "workers") rows (row_at HalfGiven) given.workers refl h.0,
  key_kept (codes "memo") rows (row_at HalfGiven) given.memo refl h.1,
  key_kept (codes "share") rows (row_at HalfGiven) given.share refl h.2,
  flag_new (codes "half") rows free refl,
  flag_kept (codes "tally") rows (row_at HalfGiven) given.tally refl h.4,
)
say_more TallyGiven Tally rows given s free h = (
  key_kept (codes "workers") rows (row_at TallyGiven) given.workers refl h.0,
  key_kept (codes "memo") rows (row_at TallyGiven) given.memo refl h.1,
  key_kept (codes "share") rows (row_at TallyGiven) given.share refl h.2,
  flag_kept (codes "half") rows (row_at TallyGiven) given.half refl h.3,
  flag_new (codes "tally") rows free refl,
)
say_more (Valued Workers text) (Number Memo n) rows given s free h = cc s.0
say_more (Valued Workers text) (Number Share n) rows given s free h = cc s.0
say_more (Valued Memo text) (Number Workers n) rows given s free h = cc s.0
say_more (Valued Memo text) (Number Share n) rows given s free h = cc s.0
say_more (Valued Share text) (Number Workers n) rows given s free h = cc s.0
say_more (Valued Share text) (Number Memo n) rows given s free h = cc s.0
say_more (Valued key text) Half rows given s free h = absurd s
say_more (Valued key text) Tally rows given s free h = absurd s
say_more HalfGiven (Number key n) rows given s free h = absurd s
say_more HalfGiven Tally rows given s free h = absurd s
say_more TallyGiven (Number key n) rows given s free h = absurd s
say_more TallyGiven Half rows given s free h = absurd s

-- where the rows have none of the name, the option is free, and the other way round
pub is_free : (p : Piece) (o : RunOption) (rows : List Row) (given : GivenOptions) → IsSpelled p o → has_row (name_of p) rows ≡ false → RowsSay rows given → IsNotGiven given o
is_free (Valued key text) (Number Workers n) rows given s free h = key_free (codes "workers") rows given.workers (subst (λ (k : OptionKey). has_row (key_id k) rows ≡ false) s.0 free) h.0
is_free (Valued key text) (Number Memo n) rows given s free h = key_free (codes "memo") rows given.memo (subst (λ (k : OptionKey). has_row (key_id k) rows ≡ false) s.0 free) h.1
is_free (Valued key text) (Number Share n) rows given s free h = key_free (codes "share") rows given.share (subst (λ (k : OptionKey). has_row (key_id k) rows ≡ false) s.0 free) h.2
is_free HalfGiven Half rows given s free h = flag_free (codes "half") rows given.half free h.3
is_free TallyGiven Tally rows given s free h = flag_free (codes "tally") rows given.tally free h.4
is_free (Valued key text) Half rows given s free h = absurd s
is_free (Valued key text) Tally rows given s free h = absurd s
is_free HalfGiven (Number key n) rows given s free h = absurd s
is_free HalfGiven Tally rows given s free h = absurd s
is_free TallyGiven (Number key n) rows given s free h = absurd s
is_free TallyGiven Half rows given s free h = absurd s

free_key_row : (key : OptionKey) (n : ℕ) (rows : List Row) (given : GivenOptions) → IsNotGiven given (Number key n) → RowsSay rows given → has_row (key_id key) rows ≡ false
free_key_row Workers n rows given free h = free_key (codes "workers") rows given.workers free h.0
free_key_row Memo n rows given free h = free_key (codes "memo") rows given.memo free h.1
free_key_row Share n rows given free h = free_key (codes "share") rows given.share free h.2

-- ---- clap takes the options of the grammar
abbrev pub final : Held → List Row
final end = settled_rows run_leaf.rules end.pending end.rows

abbrev IsTaken : Walk → List Text → GivenOptions → Type 0
IsTaken w words all = (faults run_leaf w words ≡ []) × RowsSay (final (ends run_leaf w words)) all

led : (w w' : Walk) (words words' : List Text) (all : GivenOptions) → Leads run_leaf w words w' words' → IsTaken w' words' all → IsTaken w words all
led w w' words words' all leads h = (
  leads.same_faults ∙ h.0,
  subst (λ (end : Held). RowsSay (final end) all) (sym leads.same_ends) h.1,
)

at_end : (all rows : List Row) (pending : Option (Text × List Text)) → Stands all rows pending → faults run_leaf (idle_at rows pending) [] ≡ []
unfolding clap_on_literals
at_end all rows pending stands = rw (stands.1, run_defaults (settled_rows run_leaf.rules pending rows)) refl

pub numeral_plain : (text : Text) (n : ℕ) → IsNumeralOf text n → (long_of text ≡ None) × (short_of text ≡ None) × (bytes_eq text separator ≡ false)
numeral_plain [] n h = absurd (omega (arith, h.0.some))
numeral_plain (d ∷ ds) n h = go (d == 45) refl
  where
    go : (b : Bool) → (d == 45) ≡ b → (long_of (d ∷ ds) ≡ None) × (short_of (d ∷ ds) ≡ None) × (bytes_eq (d ∷ ds) separator ≡ false)
    go true t =
        let is : d ≡ 45 = grind (arith, nat_tests) in
        let below : digit_value 45 < 10 = subst (λ (c : ℕ). digit_value c < 10) is h.0.digits.0 in
        absurd (omega (arith, below))
    go false t = (rw t refl, rw t refl, rw t refl)

pub taken : (options : List RunOption) (words : List Text) (given all : GivenOptions) (seen rows : List Row) (pending : Option (Text × List Text)) → AreOptions words options → AddOptions given options all
    → Stands seen rows pending → RowsSay seen given → IsTaken (idle_at rows pending) words all
taken [] words given all seen rows pending none adds stands h =
    subst (λ (ws : List Text). IsTaken (idle_at rows pending) ws all) (sym none)
    (at_end seen rows pending stands, subst (λ (xs : List Row). RowsSay xs all) (sym stands.0) (subst (λ (g : GivenOptions). RowsSay seen g) (sym adds) h))
taken (Number key n ∷ os) words given all seen rows pending (rest, (text, numeral, inl e), more) (free, adds) stands h =
    let none = free_key_row key n seen given free h in
    let p : Piece = Valued key text in
    subst (λ (ws : List Text). IsTaken (idle_at rows pending) ws all) (sym e)
    (led (idle_at rows pending) (idle_at (seen ++ row_at p ∷ []) None) (joined p ∷ rest) rest all (joined_leads p seen rows pending rest stands none)
    (taken os rest (with_option given (Number key n)) all (seen ++ row_at p ∷ []) (seen ++ row_at p ∷ []) None more adds (new_stands (seen ++ row_at p ∷ []))
    (say_more p (Number key n) seen given (refl, numeral) none h)))
taken (Number key n ∷ os) words given all seen rows pending (rest, (text, numeral, inr e), more) (free, adds) stands h =
    let none = free_key_row key n seen given free h in
    let p : Piece = Valued key text in
    let plain = numeral_plain text n numeral in
    let leads = then run_leaf (idle_at rows pending) (waits key seen) (idle_at seen (Some (key_id key, text ∷ []))) (key_name key ∷ text ∷ rest) (text ∷ rest) rest
    (name_leads key seen rows pending (text ∷ rest) stands) (value_leads key seen text rest (plain_fine key seen text plain.0 plain.1 plain.2) (plain_met key seen text plain.0 plain.1 plain.2)) in
    subst (λ (ws : List Text). IsTaken (idle_at rows pending) ws all) (sym e)
    (led (idle_at rows pending) (idle_at seen (Some (key_id key, text ∷ []))) (key_name key ∷ text ∷ rest) rest all leads
    (taken os rest (with_option given (Number key n)) all (seen ++ row_at p ∷ []) seen (Some (key_id key, text ∷ [])) more adds (value_stands key seen text none)
    (say_more p (Number key n) seen given (refl, numeral) none h)))
taken (Half ∷ os) words given all seen rows pending (rest, (word, is, e), more) (free, adds) stands h =
    let none = free_flag (codes "half") seen given.half free h.3 in
    subst (λ (ws : List Text). IsTaken (idle_at rows pending) ws all) (sym (e ∙ ap (λ (w : Text). w ∷ rest) is))
    (led (idle_at rows pending) (idle_at (seen ++ row_at HalfGiven ∷ []) None) (joined HalfGiven ∷ rest) rest all (joined_leads HalfGiven seen rows pending rest stands none)
    (taken os rest (with_option given Half) all (seen ++ row_at HalfGiven ∷ []) (seen ++ row_at HalfGiven ∷ []) None more adds (new_stands (seen ++ row_at HalfGiven ∷ []))
    (say_more HalfGiven Half seen given tt none h)))
taken (Tally ∷ os) words given all seen rows pending (rest, (word, is, e), more) (free, adds) stands h =
    let none = free_flag (codes "tally") seen given.tally free h.4 in
    subst (λ (ws : List Text). IsTaken (idle_at rows pending) ws all) (sym (e ∙ ap (λ (w : Text). w ∷ rest) is))
    (led (idle_at rows pending) (idle_at (seen ++ row_at TallyGiven ∷ []) None) (joined TallyGiven ∷ rest) rest all (joined_leads TallyGiven seen rows pending rest stands none)
    (taken os rest (with_option given Tally) all (seen ++ row_at TallyGiven ∷ []) (seen ++ row_at TallyGiven ∷ []) None more adds (new_stands (seen ++ row_at TallyGiven ∷ []))
    (say_more TallyGiven Tally seen given tt none h)))
