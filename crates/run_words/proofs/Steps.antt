-- What clap makes of the options of `run`, one after another.
use Rattle.std.proofs.Common.{◌≡◌, ◌≢◌, ◌∙◌, ℕ, Bool, cond, true, false, inl, inr, ◌⊎◌, refl, sym, ap, ap₂, subst, List, [], ◌∷◌, ◌++◌, Option, Some, None, codes, append-nil, append_assoc}
use Rattle.std.specs.Option.{is_some}
use Rattle.std.specs.Prelude.{bytes_eq}
use Rattle.clap.specs.Lexer.{long_of, short_of}
use Rattle.clap.specs.Kinds.{Kinds, or_else}
use Rattle.clap.specs.Walk.{Held, Row, Rule, Step, Text, Walk, idle, option, after_step, arg_by_long, arg_by_short, first_of, has_row, plain_word, reacted, settled, settled_rows, takes_values, used, value, walk_from, walked, with_default, word_met}
use Rattle.clap.specs.Faults.{default_fault, defaults_fault, given_default_fault, long_fault, react_fault, repeat_fault, settle_fault, step_fault, turn_fault, use_fault, word_fault}
use Rattle.clap.specs.declared.error.kind.ErrorKind.TheVariants.{InvalidValue}
use Rattle.clap.specs.declared.parser.matches.ValueSource.TheVariants.{CommandLine}
use Rattle.clap.proofs.OnLiterals.{clap_on_literals}
use Rattle.run_words.specs.Words.{OptionKey, Workers, Memo, Share, key_name, equals_sign}
use Rattle.run_words.proofs.Rows.{row, full, new_use}
use Rattle.run_words.proofs.Built.{HasNoSeparator, number_rule, flag_rule, run_leaf, Leads, at_hand, both_fine, fine_then, one_step, next_word, test, then, word_is, separator, faults}

-- ---- an option as it is written, with the text of its value
pub data Piece : Type 0 where
  Valued : OptionKey → Text → Piece
  HalfGiven : Piece
  TallyGiven : Piece

abbrev pub key_id : OptionKey → Text
key_id Workers = codes "workers"
key_id Memo = codes "memo"
key_id Share = codes "share"

abbrev pub name_of : Piece → Text
name_of (Valued key text) = key_id key
name_of HalfGiven = codes "half"
name_of TallyGiven = codes "tally"

abbrev rule_at : Piece → Rule
rule_at (Valued key text) = number_rule (key_id key)
rule_at HalfGiven = flag_rule (codes "half")
rule_at TallyGiven = flag_rule (codes "tally")

abbrev values_at : Piece → List Text
values_at (Valued key text) = text ∷ []
values_at _ = []

abbrev pub row_at : Piece → Row
row_at (Valued key text) = row CommandLine (key_id key) (text ∷ [])
row_at HalfGiven = row CommandLine (codes "half") (codes "true" ∷ [])
row_at TallyGiven = row CommandLine (codes "tally") (codes "true" ∷ [])

-- as one word
abbrev pub joined : Piece → Text
joined (Valued key text) = key_name key ++ equals_sign ++ text
joined HalfGiven = codes "--half"
joined TallyGiven = codes "--tally"

-- ---- what is held stands for these rows, and nothing is wrong with it
abbrev pub Stands : List Row → List Row → Option (Text × List Text) → Type 0
Stands all rows pending = (settled_rows run_leaf.rules pending rows ≡ all) × (settle_fault run_leaf.rules false (at_hand rows pending) ≡ [])

abbrev pub idle_at : List Row → Option (Text × List Text) → Walk
idle_at rows pending = walk_from (at_hand rows pending)

once : (name : Text) (rows : List Row) (next : Kinds) → or_else (repeat_fault false name rows) next ≡ [] → has_row name rows ≡ false
once name rows next e = go (has_row name rows) refl
  where
    go : (b : Bool) → has_row name rows ≡ b → has_row name rows ≡ false
    go true t = absurd (full _ _ (rw t at e))
    go false t = t

use_once : (p : Piece) (rows : List Row) → use_fault false (rule_at p) (values_at p) rows ≡ [] → has_row (name_of p) rows ≡ false
use_once (Valued Workers text) rows e = once (codes "workers") rows [] e
use_once (Valued Memo text) rows e = once (codes "memo") rows [] e
use_once (Valued Share text) rows e = once (codes "share") rows [] e
use_once HalfGiven rows e = once (codes "half") rows [] e
use_once TallyGiven rows e = once (codes "tally") rows [] e

use_fine : (p : Piece) (rows : List Row) → has_row (name_of p) rows ≡ false → use_fault false (rule_at p) (values_at p) rows ≡ []
use_fine (Valued Workers text) rows e = rw e refl
use_fine (Valued Memo text) rows e = rw e refl
use_fine (Valued Share text) rows e = rw e refl
use_fine HalfGiven rows e = rw e refl
use_fine TallyGiven rows e = rw e refl

use_is : (p : Piece) (rows : List Row) → has_row (name_of p) rows ≡ false → used (rule_at p) (values_at p) rows ≡ rows ++ row_at p ∷ []
use_is (Valued Workers text) rows e = new_use (codes "workers") (text ∷ []) rows e
use_is (Valued Memo text) rows e = new_use (codes "memo") (text ∷ []) rows e
use_is (Valued Share text) rows e = new_use (codes "share") (text ∷ []) rows e
use_is HalfGiven rows e = new_use (codes "half") (codes "true" ∷ []) rows e
use_is TallyGiven rows e = new_use (codes "tally") (codes "true" ∷ []) rows e

-- ---- an option in one word
turn_joined : (p : Piece) (rows : List Row) (pending : Option (Text × List Text))
    → turn_fault run_leaf [] (idle_at rows pending) (joined p) ≡ or_else (react_fault run_leaf.rules false (rule_at p) (values_at p) (at_hand rows pending)) []
unfolding clap_on_literals
turn_joined (Valued Workers text) rows pending = refl
turn_joined (Valued Memo text) rows pending = refl
turn_joined (Valued Share text) rows pending = refl
turn_joined HalfGiven rows pending = refl
turn_joined TallyGiven rows pending = refl

walk_joined : (p : Piece) (rows : List Row) (pending : Option (Text × List Text))
    → walked run_leaf.rules [] (idle_at rows pending) (joined p) ≡ walk_from (reacted run_leaf.rules (rule_at p) (values_at p) (at_hand rows pending))
unfolding clap_on_literals
walk_joined (Valued Workers text) rows pending = refl
walk_joined (Valued Memo text) rows pending = refl
walk_joined (Valued Share text) rows pending = refl
walk_joined HalfGiven rows pending = refl
walk_joined TallyGiven rows pending = refl

-- an option that clap takes was not given before
pub used_once : (p : Piece) (all rows : List Row) (pending : Option (Text × List Text)) → Stands all rows pending
    → turn_fault run_leaf [] (idle_at rows pending) (joined p) ≡ [] → has_row (name_of p) all ≡ false
used_once p all rows pending stands fine =
    let react : react_fault run_leaf.rules false (rule_at p) (values_at p) (at_hand rows pending) ≡ [] = (both_fine _ _ (sym (turn_joined p rows pending) ∙ fine)).0 in
    use_once p all (subst (λ (xs : List Row). use_fault false (rule_at p) (values_at p) xs ≡ []) stands.0 (both_fine _ _ react).1)

pub joined_leads : (p : Piece) (all rows : List Row) (pending : Option (Text × List Text)) (words : List Text) → Stands all rows pending → has_row (name_of p) all ≡ false
    → Leads run_leaf (idle_at rows pending) (joined p ∷ words) (idle_at (all ++ row_at p ∷ []) None) words
joined_leads p all rows pending words stands free =
    let fine : or_else (react_fault run_leaf.rules false (rule_at p) (values_at p) (at_hand rows pending)) [] ≡ [] =
    rw (stands.1, ap (use_fault false (rule_at p) (values_at p)) stands.0, use_fine p all free) refl in
    one_step run_leaf (idle_at rows pending) (idle_at (all ++ row_at p ∷ []) None) (joined p) words (turn_joined p rows pending ∙ fine)
    (walk_joined p rows pending ∙ ap (λ (xs : List Row). idle_at xs None) (ap (used (rule_at p) (values_at p)) stands.0 ∙ use_is p all free))

pub new_stands : (rows : List Row) → Stands rows rows None
new_stands rows = (refl, refl)

-- ---- an option in two words
abbrev pub waits : OptionKey → List Row → Walk
waits key rows = record (idle_at rows (Some (key_id key, []))) { waiting = option (key_id key) }

turn_apart : (key : OptionKey) (rows : List Row) (pending : Option (Text × List Text))
    → turn_fault run_leaf [] (idle_at rows pending) (key_name key) ≡ or_else (settle_fault run_leaf.rules false (at_hand rows pending)) []
unfolding clap_on_literals
turn_apart Workers rows pending = refl
turn_apart Memo rows pending = refl
turn_apart Share rows pending = refl

walk_apart : (key : OptionKey) (rows : List Row) (pending : Option (Text × List Text))
    → walked run_leaf.rules [] (idle_at rows pending) (key_name key) ≡ waits key (settled_rows run_leaf.rules pending rows)
unfolding clap_on_literals
walk_apart Workers rows pending = refl
walk_apart Memo rows pending = refl
walk_apart Share rows pending = refl

pub name_leads : (key : OptionKey) (all rows : List Row) (pending : Option (Text × List Text)) (words : List Text) → Stands all rows pending
    → Leads run_leaf (idle_at rows pending) (key_name key ∷ words) (waits key all) words
name_leads key all rows pending words stands =
    one_step run_leaf (idle_at rows pending) (waits key all) (key_name key) words (turn_apart key rows pending ∙ rw stands.1 refl)
    (walk_apart key rows pending ∙ ap (waits key) stands.0)

-- the next word is the value of an option that waits for one
abbrev pub IsPlain : OptionKey → List Row → Text → Type 0
IsPlain key rows text =
    word_met run_leaf.rules [] false (option (key_id key)) 1 text (at_hand rows (Some (key_id key, [])))
    ≡ plain_word run_leaf.rules (option (key_id key)) text (at_hand rows (Some (key_id key, [])))

value_walk : (key : OptionKey) (rows : List Row) (text : Text) → IsPlain key rows text → walked run_leaf.rules [] (waits key rows) text ≡ idle_at rows (Some (key_id key, text ∷ []))
unfolding clap_on_literals
value_walk Workers rows text met = ap (λ (m : Held × Step). after_step run_leaf.rules text (waits Workers rows) m.0 m.1) met
value_walk Memo rows text met = ap (λ (m : Held × Step). after_step run_leaf.rules text (waits Memo rows) m.0 m.1) met
value_walk Share rows text met = ap (λ (m : Held × Step). after_step run_leaf.rules text (waits Share rows) m.0 m.1) met

settle_value : (key : OptionKey) (rows : List Row) (text : Text)
    → settle_fault run_leaf.rules false (at_hand rows (Some (key_id key, text ∷ []))) ≡ use_fault false (rule_at (Valued key text)) (text ∷ []) rows
settle_value Workers rows text = refl
settle_value Memo rows text = refl
settle_value Share rows text = refl

rows_value : (key : OptionKey) (rows : List Row) (text : Text)
    → settled_rows run_leaf.rules (Some (key_id key, text ∷ [])) rows ≡ used (rule_at (Valued key text)) (text ∷ []) rows
rows_value Workers rows text = refl
rows_value Memo rows text = refl
rows_value Share rows text = refl

-- a word without a dash in front is such a value
pub plain_met : (key : OptionKey) (rows : List Row) (text : Text) → long_of text ≡ None → short_of text ≡ None → bytes_eq text separator ≡ false → IsPlain key rows text
plain_met key rows text long short sep = rw (sep, long, short) refl

pub plain_fine : (key : OptionKey) (rows : List Row) (text : Text) → long_of text ≡ None → short_of text ≡ None → bytes_eq text separator ≡ false → turn_fault run_leaf [] (waits key rows) text ≡ []
plain_fine Workers rows text long short sep = rw (sep, long, short) refl
plain_fine Memo rows text long short sep = rw (sep, long, short) refl
plain_fine Share rows text long short sep = rw (sep, long, short) refl

pub value_stands : (key : OptionKey) (rows : List Row) (text : Text) → has_row (key_id key) rows ≡ false
    → Stands (rows ++ row_at (Valued key text) ∷ []) rows (Some (key_id key, text ∷ []))
value_stands key rows text free = (
  rows_value key rows text ∙ use_is (Valued key text) rows free,
  settle_value key rows text ∙ use_fine (Valued key text) rows free,
)

pub value_leads : (key : OptionKey) (rows : List Row) (text : Text) (words : List Text) → turn_fault run_leaf [] (waits key rows) text ≡ [] → IsPlain key rows text
    → Leads run_leaf (waits key rows) (text ∷ words) (idle_at rows (Some (key_id key, text ∷ []))) words
value_leads key rows text words fine met = one_step run_leaf (waits key rows) (idle_at rows (Some (key_id key, text ∷ []))) text words fine (value_walk key rows text met)

-- ---- what is wrong with other words
pub apart_of : {word : Text} → word ≢ separator → bytes_eq word separator ≡ false
apart_of {word} apart = elim (test word separator) [ inl is ↦ absurd (apart is) | inr e ↦ e ]

again_wrong : (key : OptionKey) (rows : List Row) (text : Text) → has_row (key_id key) rows ≡ true → settle_fault run_leaf.rules false (at_hand rows (Some (key_id key, text ∷ []))) ≡ [] → ⊥
again_wrong Workers rows text again e = full _ _ (rw again at e)
again_wrong Memo rows text again e = full _ _ (rw again at e)
again_wrong Share rows text again e = full _ _ (rw again at e)

no_short : (c : ℕ) → arg_by_short run_leaf.rules c ≡ None
no_short c = refl

-- what waits for a value in vain, or was given before, is found fault with at the next option
long_waits : (o : Option Rule) (v : Option Text) (h : Held) (k : Kinds) → (k ≡ [] → ⊥) → settle_fault run_leaf.rules false h ≡ k → long_fault run_leaf.rules false o v h ≡ [] → ⊥
long_waits None v h k bad is e = full _ _ e
long_waits (Some a) v h k bad is e = go (takes_values a) v e
  where
    go : (b : Bool) (u : Option Text)
        → cond b (Rattle.clap.specs.Faults.option_fault run_leaf.rules false a u h)
        (cond (is_some u) (Rattle.clap.specs.declared.error.kind.ErrorKind.TheVariants.TooManyValues ∷ []) (react_fault run_leaf.rules false a [] h)) ≡ [] → ⊥
    go true (Some t) f = bad (sym is ∙ (both_fine _ _ f).0)
    go true None f = bad (sym is ∙ f)
    go false (Some t) f = full _ _ f
    go false None f = bad (sym is ∙ (both_fine _ _ f).0)

waits_in_vain : (key : OptionKey) (rows : List Row) → settle_fault run_leaf.rules false (at_hand rows (Some (key_id key, []))) ≡ InvalidValue ∷ []
waits_in_vain Workers rows = refl
waits_in_vain Memo rows = refl
waits_in_vain Share rows = refl

pub value_met : (key : OptionKey) (rows : List Row) (text : Text) → bytes_eq text separator ≡ false → turn_fault run_leaf [] (waits key rows) text ≡ [] → IsPlain key rows text
value_met key rows text sep fine =
    elim (word_is run_leaf [] (option (key_id key)) 1 text rows (Some (key_id key, [])) no_short refl sep (both_fine _ _ fine).0) [
      | inl long ↦ absurd (long_waits (arg_by_long run_leaf.rules long.0.0) long.0.1 (at_hand rows (Some (key_id key, []))) (InvalidValue ∷ []) (full _ _) (waits_in_vain key rows) long.2)
      | inr met ↦ met
    ]

pub value_missing : (key : OptionKey) (rows : List Row) → faults run_leaf (waits key rows) [] ≡ [] → ⊥
unfolding clap_on_literals
value_missing key rows e = full _ _ (sym (waits_in_vain key rows) ∙ (both_fine _ _ e).0)

-- the word is a long option that is known
pub idle_turn : (rows : List Row) (pending : Option (Text × List Text)) (word : Text) → bytes_eq word separator ≡ false → turn_fault run_leaf [] (idle_at rows pending) word ≡ []
    → (p : Text × Option Text) × (long_of word ≡ Some p) × (long_fault run_leaf.rules false (arg_by_long run_leaf.rules p.0) p.1 (at_hand rows pending) ≡ [])
idle_turn rows pending word sep fine =
    let parts = both_fine _ _ fine in
    elim (word_is run_leaf [] idle 1 word rows pending no_short refl sep parts.0) [
      | inl long ↦ long
      | inr met ↦ absurd (full _ _ (subst (λ (m : Held × Step). step_fault run_leaf 1 m.0 m.1 ≡ []) met parts.1))
    ]

-- a value that was given twice is found fault with at the next word, or at the end
pub doomed : (key : OptionKey) (rows : List Row) (text : Text) (words : List Text) → HasNoSeparator words → has_row (key_id key) rows ≡ true
    → faults run_leaf (idle_at rows (Some (key_id key, text ∷ []))) words ≡ [] → ⊥
unfolding clap_on_literals
doomed key rows text [] none again e = again_wrong key rows text again (both_fine _ _ e).0
doomed key rows text (word ∷ words) none again e =
    let turn = idle_turn rows (Some (key_id key, text ∷ [])) word (apart_of none.0) (both_fine _ _ (sym (next_word run_leaf (idle_at rows (Some (key_id key, text ∷ []))) word words) ∙ e)).0 in
    long_waits (arg_by_long run_leaf.rules turn.0.0) turn.0.1 (at_hand rows (Some (key_id key, text ∷ []))) _ (again_wrong key rows text again) refl turn.2

-- ---- defaults
abbrev HaveDefaults : List Rule → Type 0
HaveDefaults [] = Unit {0}
HaveDefaults (a ∷ rest) = (given_default_fault a a.defaults ≡ []) × HaveDefaults rest

defaults_fine : (rules : List Rule) → HaveDefaults rules → (rows : List Row) → defaults_fault rows rules ≡ []
unfolding defaults_fault
defaults_fine [] h rows = refl
defaults_fine (a ∷ rest) h rows = one (default_fault rows a) (default_is (Rattle.std.proofs.Common.◌||◌ (has_row a.id rows) (Rattle.clap.specs.Walk.is_empty a.defaults))) (defaults_fine rest h.1 (with_default rows a))
  where
    default_is : (b : Bool) → cond b [] (given_default_fault a a.defaults) ≡ []
    default_is true = refl
    default_is false = h.0

    one : (k : Kinds) → k ≡ [] → defaults_fault (with_default rows a) rest ≡ [] → or_else k (defaults_fault (with_default rows a) rest) ≡ []
    one k e f = rw e f

pub run_defaults : (rows : List Row) → defaults_fault rows run_leaf.rules ≡ []
run_defaults = defaults_fine run_leaf.rules (refl, (refl, (refl, (refl, (refl, tt)))))

pub demo_defaults : (rows : List Row) → defaults_fault rows Rattle.run_words.proofs.Built.demo_leaf.rules ≡ []
demo_defaults = defaults_fine Rattle.run_words.proofs.Built.demo_leaf.rules (refl, tt)
