-- Whatever clap takes behind `run` are options of the grammar, where the texts of their values are numerals.
use Rattle.std.proofs.Common.{◌≡◌, ◌∙◌, ℕ, Bool, true, false, inl, inr, ◌⊎◌, refl, sym, ap, subst, List, [], ◌∷◌, ◌++◌, Option, Some, None, codes, append-nil, append_assoc}
use Rattle.std.specs.Prelude.{bytes_eq}
use Rattle.clap.specs.Walk.{Held, Row, Text, Walk, first_of, has_row}
use Rattle.run_words.specs.declared.given.GivenOptions.{GivenOptions}
use Rattle.run_words.specs.Words.{OptionKey, Workers, Memo, Share, RunOption, Number, Half, Tally, key_name, equals_sign, BeginsWithOption, AreOptions, with_option, AddOptions}
use Rattle.run_words.proofs.Rows.{FlagRow, RowsSay, first_more, first_new, flag_kept, flag_new}
use Rattle.run_words.proofs.Built.{HasNoSeparator, run_leaf, Leads, both_fine, ends, faults, next_word, then}
use Rattle.run_words.proofs.Steps.{Piece, Valued, HalfGiven, TallyGiven, Stands, apart_of, doomed, idle_at, joined, joined_leads, key_id, name_leads, name_of, new_stands, row_at, value_leads, value_met, value_missing, value_stands, waits}
use Rattle.run_words.proofs.Options.{IsOption, IsSpelled, final, is_free, option_at, say_more}
use Rattle.plain_text.specs.Decimals.{IsNumeralOf}

-- each value is a numeral
abbrev pub AreNumerals : List Row → Type 0
AreNumerals rows = (key : OptionKey) (text : Text) → first_of (key_id key) rows ≡ Some text → (n : ℕ) × IsNumeralOf text n

abbrev pub FlagsSay : List Row → Type 0
FlagsSay rows = ((half : Bool) × FlagRow rows (codes "half") half) × ((tally : Bool) × FlagRow rows (codes "tally") tally)

-- the words are options that add to the rows
pub record Gathers (rows : List Row) (words : List Text) (all : List Row) : Type 0 where
  pub tail : List Row
  pub adds : all ≡ rows ++ tail
  pub flags : FlagsSay rows → FlagsSay all
  pub options : (given : GivenOptions) → RowsSay rows given → AreNumerals all
      → (options : List RunOption) × (given' : GivenOptions) × AreOptions words options × AddOptions given options given' × RowsSay all given'

gathers_none : (rows : List Row) → Gathers rows [] rows
gathers_none rows = record {
  tail = [];
  adds = sym (append-nil rows);
  flags = λ h. h;
  options = λ given h numerals. ([], given, refl, refl, h);
}

flags_more : (p : Piece) (rows : List Row) → has_row (name_of p) rows ≡ false → FlagsSay rows → FlagsSay (rows ++ row_at p ∷ [])
flags_more (Valued Workers text) rows free h = ((h.0.0, flag_kept (codes "half") rows (row_at (Valued Workers text)) h.0.0 refl h.0.1), (h.1.0, flag_kept (codes "tally") rows (row_at (Valued Workers text)) h.1.0 refl h.1.1))
flags_more (Valued Memo text) rows free h = ((h.0.0, flag_kept (codes "half") rows (row_at (Valued Memo text)) h.0.0 refl h.0.1), (h.1.0, flag_kept (codes "tally") rows (row_at (Valued Memo text)) h.1.0 refl h.1.1))
flags_more (Valued Share text) rows free h = ((h.0.0, flag_kept (codes "half") rows (row_at (Valued Share text)) h.0.0 refl h.0.1), (h.1.0, flag_kept (codes "tally") rows (row_at (Valued Share text)) h.1.0 refl h.1.1))
flags_more HalfGiven rows free h = ((true, flag_new (codes "half") rows free refl), (h.1.0, flag_kept (codes "tally") rows (row_at HalfGiven) h.1.0 refl h.1.1))
flags_more TallyGiven rows free h = ((h.0.0, flag_kept (codes "half") rows (row_at TallyGiven) h.0.0 refl h.0.1), (true, flag_new (codes "tally") rows free refl))

same_name : (key : OptionKey) → bytes_eq (key_id key) (key_id key) ≡ true
same_name Workers = refl
same_name Memo = refl
same_name Share = refl

-- the option of a piece, where its text is a numeral
option_of : (p : Piece) (rows tail : List Row) → has_row (name_of p) rows ≡ false → AreNumerals ((rows ++ row_at p ∷ []) ++ tail) → (o : RunOption) × IsSpelled p o
option_of (Valued key text) rows tail free numerals =
    let n = numerals key text (first_more (key_id key) (rows ++ row_at (Valued key text) ∷ []) tail text (first_new (key_id key) rows text free (same_name key))) in
    (Number key n.0, (refl, n.1))
option_of HalfGiven rows tail free numerals = (Half, tt)
option_of TallyGiven rows tail free numerals = (Tally, tt)

-- the words are the piece, in one word or in two, and others
abbrev IsWritten : Piece → List Text → List Text → Type 0
IsWritten (Valued key text) words rest = (words ≡ (key_name key ++ equals_sign ++ text) ∷ rest) ⊎ (words ≡ key_name key ∷ text ∷ rest)
IsWritten p words rest = words ≡ joined p ∷ rest

next_of : (p : Piece) (o : RunOption) (words rest : List Text) → IsSpelled p o → IsWritten p words rest → BeginsWithOption words o rest
next_of (Valued key text) (Number other n) words rest s (inl e) = (text, s.1, inl (subst (λ (k : OptionKey). words ≡ (key_name k ++ equals_sign ++ text) ∷ rest) s.0 e))
next_of (Valued key text) (Number other n) words rest s (inr e) = (text, s.1, inr (subst (λ (k : OptionKey). words ≡ key_name k ∷ text ∷ rest) s.0 e))
next_of (Valued key text) Half words rest s e = absurd s
next_of (Valued key text) Tally words rest s e = absurd s
next_of HalfGiven (Number key n) words rest s e = absurd s
next_of HalfGiven Half words rest s e = (codes "--half", refl, e)
next_of HalfGiven Tally words rest s e = absurd s
next_of TallyGiven (Number key n) words rest s e = absurd s
next_of TallyGiven Half words rest s e = absurd s
next_of TallyGiven Tally words rest s e = (codes "--tally", refl, e)

gathers_more : (p : Piece) (rows all : List Row) (words rest : List Text) → has_row (name_of p) rows ≡ false → IsWritten p words rest
    → Gathers (rows ++ row_at p ∷ []) rest all → Gathers rows words all
gathers_more p rows all words rest free written more = record {
  tail = row_at p ∷ more.tail;
  adds = more.adds ∙ append_assoc rows (row_at p ∷ []) more.tail;
  flags = λ h. more.flags (flags_more p rows free h);
  options = λ given h numerals.
      let o = option_of p rows more.tail free (subst AreNumerals more.adds numerals) in
      let left = more.options (with_option given o.0) (say_more p o.0 rows given o.1 free h) numerals in (
        o.0 ∷ left.0,
        left.1,
        (rest, next_of p o.0 words rest o.1 written, left.2),
        (is_free p o.0 rows given o.1 free h, left.3),
        left.4,
      );
}

-- ---- word by word
abbrev IsGathered : List Row → Walk → List Text → Type 0
IsGathered rows w words = faults run_leaf w words ≡ [] → Gathers rows words (final (ends run_leaf w words))

in_one_word : (p : Piece) (seen rows : List Row) (pending : Option (Text × List Text)) (word : Text) (words : List Text) → word ≡ joined p → has_row (name_of p) seen ≡ false
    → Stands seen rows pending → IsGathered (seen ++ row_at p ∷ []) (idle_at (seen ++ row_at p ∷ []) None) words → IsGathered seen (idle_at rows pending) (word ∷ words)
in_one_word p seen rows pending word words is free stands more fine =
    let leads = subst (λ (w : Text). Leads run_leaf (idle_at rows pending) (w ∷ words) (idle_at (seen ++ row_at p ∷ []) None) words) (sym is) (joined_leads p seen rows pending words stands free) in
    gathers_more p seen (final (ends run_leaf (idle_at rows pending) (word ∷ words))) (word ∷ words) words free (written p (ap (λ (w : Text). w ∷ words) is))
    (subst (λ (end : Held). Gathers (seen ++ row_at p ∷ []) words (final end)) (sym leads.same_ends) (more (sym leads.same_faults ∙ fine)))
  where
    written : (q : Piece) → word ∷ words ≡ joined q ∷ words → IsWritten q (word ∷ words) words
    written (Valued key text) e = inl e
    written HalfGiven e = e
    written TallyGiven e = e

in_two_words : (key : OptionKey) (seen rows : List Row) (pending : Option (Text × List Text)) (word text : Text) (words : List Text) → word ≡ key_name key → HasNoSeparator (text ∷ words)
    → Stands seen rows pending
    → ((rows' : List Row) (pending' : Option (Text × List Text)) → Stands (seen ++ row_at (Valued key text) ∷ []) rows' pending' → IsGathered (seen ++ row_at (Valued key text) ∷ []) (idle_at rows' pending') words)
    → IsGathered seen (idle_at rows pending) (word ∷ text ∷ words)
in_two_words key seen rows pending word text words is none stands more fine =
    let named = subst (λ (w : Text). Leads run_leaf (idle_at rows pending) (w ∷ text ∷ words) (waits key seen) (text ∷ words)) (sym is) (name_leads key seen rows pending (text ∷ words) stands) in
    let turn = (both_fine _ _ (sym (next_word run_leaf (waits key seen) text words) ∙ (sym named.same_faults ∙ fine))).0 in
    let leads = then run_leaf (idle_at rows pending) (waits key seen) (idle_at seen (Some (key_id key, text ∷ []))) (word ∷ text ∷ words) (text ∷ words) words named
    (value_leads key seen text words turn (value_met key seen text (apart_of none.0) turn)) in
    once (has_row (key_id key) seen) refl leads
  where
    once : (b : Bool) → has_row (key_id key) seen ≡ b → Leads run_leaf (idle_at rows pending) (word ∷ text ∷ words) (idle_at seen (Some (key_id key, text ∷ []))) words
        → Gathers seen (word ∷ text ∷ words) (final (ends run_leaf (idle_at rows pending) (word ∷ text ∷ words)))
    once true again leads = absurd (doomed key seen text words none.1 again (sym leads.same_faults ∙ fine))
    once false free leads =
        gathers_more (Valued key text) seen (final (ends run_leaf (idle_at rows pending) (word ∷ text ∷ words))) (word ∷ text ∷ words) words free (inr (ap (λ (w : Text). w ∷ text ∷ words) is))
        (subst (λ (end : Held). Gathers (seen ++ row_at (Valued key text) ∷ []) words (final end)) (sym leads.same_ends)
        (more seen (Some (key_id key, text ∷ [])) (value_stands key seen text free) (sym leads.same_faults ∙ fine)))

first_option : (seen rows : List Row) (pending : Option (Text × List Text)) (word : Text) (words : List Text) → HasNoSeparator (word ∷ words) → Stands seen rows pending
    → faults run_leaf (idle_at rows pending) (word ∷ words) ≡ [] → IsOption seen word
first_option seen rows pending word words none stands fine =
    option_at seen rows pending word stands (apart_of none.0) (both_fine _ _ (sym (next_word run_leaf (idle_at rows pending) word words) ∙ fine)).0

pub gathered : (words : List Text) (seen rows : List Row) (pending : Option (Text × List Text)) → HasNoSeparator words → Stands seen rows pending
    → IsGathered seen (idle_at rows pending) words
gathered [] seen rows pending none stands fine = subst (λ (xs : List Row). Gathers seen [] xs) (sym stands.0) (gathers_none seen)
gathered (word ∷ []) seen rows pending none stands fine = elim (first_option seen rows pending word [] none stands fine) [
  | inl h ↦ in_one_word h.0 seen rows pending word [] h.1 h.2 stands (gathered [] (seen ++ row_at h.0 ∷ []) (seen ++ row_at h.0 ∷ []) None none.1 (new_stands (seen ++ row_at h.0 ∷ []))) fine
  | inr h ↦
      let named = subst (λ (w : Text). Leads run_leaf (idle_at rows pending) (w ∷ []) (waits h.0 seen) []) (sym h.1) (name_leads h.0 seen rows pending [] stands) in
      absurd (value_missing h.0 seen (sym named.same_faults ∙ fine))
]
gathered (word ∷ text ∷ words) seen rows pending none stands fine = elim (first_option seen rows pending word (text ∷ words) none stands fine) [
  | inl h ↦
      in_one_word h.0 seen rows pending word (text ∷ words) h.1 h.2 stands
      (gathered (text ∷ words) (seen ++ row_at h.0 ∷ []) (seen ++ row_at h.0 ∷ []) None none.1 (new_stands (seen ++ row_at h.0 ∷ []))) fine
  | inr h ↦
      in_two_words h.0 seen rows pending word text words h.1 none.1 stands
      (λ rows' pending' stands'. gathered words (seen ++ row_at (Valued h.0 text) ∷ []) rows' pending' none.1.1 stands') fine
]
