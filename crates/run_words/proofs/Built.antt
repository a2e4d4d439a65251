-- The subcommands as clap builds them, and what clap makes of one more word.
use Rattle.std.proofs.Common.{◌≡◌, ◌≢◌, ◌∙◌, ℕ, Bool, true, false, inl, inr, ◌⊎◌, refl, ap, List, [], ◌∷◌, Option, Some, None, codes, length}
use Rattle.std.specs.List.{fold}
use Rattle.std.specs.Str.{chars}
use Rattle.std.specs.Prelude.{slice_get, bytes_eq}
use Rattle.std.proofs.lemmas.Slice.Eq.{bytes_eq-Decides}
use Rattle.clap.specs.Lexer.{long_of, short_of}
use Rattle.clap.specs.Kinds.{Kinds, or_else}
use Rattle.clap.specs.Walk.{Held, Names, Row, Rule, Text, Waiting, Walk, arg_by_long, arg_by_short, finished, nothing_held, plain_word, settled, subcommand_met, walk_from, walked, word_met}
use Rattle.clap.specs.Simple.{Shape, built, new_shape}
use Rattle.clap.specs.Faults.{check_fault, defaults_fault, flag_word_fault, level_fault, long_fault, settle_fault, turn_fault, walk_fault, word_fault, flags_fault}
use Rattle.clap.specs.declared.builder.value_parser.ValueParser.TheVariants as vp
use Rattle.clap.proofs.OnLiterals.{clap_on_literals}
use Rattle.run_words.specs.Program.{number_option, flag_option, parts_word, program}
use Rattle.run_words.proofs.Rows.{full}

-- ---- the options as clap fills them in
abbrev pub number_rule : Text → Rule
number_rule name = record (number_option name) { parser = Some vp.String; range = Some (record { start_inclusive = 1; end_inclusive = 1 }) }

abbrev pub flag_rule : Text → Rule
flag_rule name = record (flag_option name) {
  parser = Some vp.Bool;
  range = Some (record { start_inclusive = 0; end_inclusive = 0 });
  defaults = codes "false" ∷ [];
  missing = codes "true" ∷ [];
}

abbrev pub workers_rule : Rule
workers_rule = number_rule (codes "workers")

abbrev pub memo_rule : Rule
memo_rule = number_rule (codes "memo")

abbrev pub share_rule : Rule
share_rule = number_rule (codes "share")

abbrev pub half_rule : Rule
half_rule = flag_rule (codes "half")

abbrev pub tally_rule : Rule
tally_rule = flag_rule (codes "tally")

abbrev pub parts_rule : Rule
parts_rule = record parts_word { index = Some 1; parser = Some vp.String; range = Some (record { start_inclusive = 1; end_inclusive = 1 }) }

abbrev pub without_help : Text → Shape
without_help name = record (new_shape name) {
  no_binary_name = true;
  disable_help_flag = true;
  disable_help_subcommand = true;
  disable_version_flag = true;
  is_built = true;
}

abbrev pub run_leaf : Shape
run_leaf = record (without_help (codes "run")) {
  rules = workers_rule ∷ memo_rule ∷ share_rule ∷ half_rule ∷ tally_rule ∷ [];
}

abbrev pub demo_leaf : Shape
demo_leaf = record (without_help (codes "demo")) { rules = parts_rule ∷ [] }

abbrev pub top : Shape
top = record (without_help (codes "scadserve")) { is_leaf = false; subcommand_required = true }

abbrev pub names : Names
names = (codes "run", []) ∷ (codes "demo", []) ∷ []

pub built_is : built program ≡ record { top = top; subs = run_leaf ∷ demo_leaf ∷ [] }
built_is = refl

-- ---- faults
pub both_fine : (a b : Kinds) → or_else a b ≡ [] → (a ≡ []) × (b ≡ [])
both_fine [] b e = (refl, e)
both_fine (k ∷ ks) b e = absurd (full k ks e)

pub fine_then : (a b : Kinds) → a ≡ [] → or_else a b ≡ b
fine_then a b e = rw e refl

or_assoc : (a b c : Kinds) → or_else (or_else a b) c ≡ or_else a (or_else b c)
or_assoc [] b c = refl
or_assoc (k ∷ ks) b c = refl

-- ---- the walk over the words of a subcommand
-- what is found fault with after the last word
abbrev pub after_walk : Shape → Held → Kinds
after_walk s end =
    or_else (settle_fault s.rules s.args_override_self end)
    (or_else (defaults_fault (settled s.rules end).rows s.rules) (check_fault s (finished s.rules end) false))

abbrev pub ends : Shape → Walk → List Text → Held
ends s w words = (fold (walked s.rules []) w words).held

abbrev pub faults : Shape → Walk → List Text → Kinds
faults s w words = or_else (walk_fault s [] w words) (after_walk s (ends s w words))

pub level_is : (s : Shape) (words : List Text) → level_fault s [] nothing_held words false [] ≡ faults s (walk_from nothing_held) words
level_is s words = refl

pub next_word : (s : Shape) (w : Walk) (word : Text) (words : List Text)
    → faults s w (word ∷ words) ≡ or_else (turn_fault s [] w word) (faults s (walked s.rules [] w word) words)
unfolding walk_fault
next_word s w word words = or_assoc (turn_fault s [] w word) (walk_fault s [] (walked s.rules [] w word) words) (after_walk s (ends s w (word ∷ words)))

-- words lead from one walk to another without a fault
pub record Leads (s : Shape) (w : Walk) (words : List Text) (w' : Walk) (words' : List Text) : Type 0 where
  pub same_faults : faults s w words ≡ faults s w' words'
  pub same_ends : ends s w words ≡ ends s w' words'

pub then : (s : Shape) (a b c : Walk) (xs bs cs : List Text) → Leads s a xs b bs → Leads s b bs c cs → Leads s a xs c cs
then s a b c xs bs cs p q = record { same_faults = p.same_faults ∙ q.same_faults; same_ends = p.same_ends ∙ q.same_ends }

pub one_step : (s : Shape) (w w' : Walk) (word : Text) (words : List Text) → turn_fault s [] w word ≡ [] → walked s.rules [] w word ≡ w' → Leads s w (word ∷ words) w' words
one_step s w w' word words fine is = record {
  same_faults = next_word s w word words ∙ fine_then _ _ fine ∙ ap (λ (v : Walk). faults s v words) is;
  same_ends = ap (λ (v : Walk). ends s v words) is;
}

-- ---- a word that is no subcommand and no `--`
abbrev pub at_hand : List Row → Option (Text × List Text) → Held
at_hand rows pending = record { rows = rows; pending = pending; skip = 0 }

abbrev pub separator : Text
separator = 45 ∷ 45 ∷ []

pub test : (x y : Text) → (x ≡ y) ⊎ (bytes_eq x y ≡ false)
test x y = go (bytes_eq x y) refl
  where
    go : (b : Bool) → bytes_eq x y ≡ b → (x ≡ y) ⊎ (bytes_eq x y ≡ false)
    go true e = inl ((bytes_eq-Decides x y).0 e)
    go false e = inr e

-- what a word that is no subcommand and no `--` is: a long option in order, or a plain word
abbrev IsWord : Shape → Names → Waiting → ℕ → Text → Held → Type 0
IsWord s subs waiting position word h =
    ((p : Text × Option Text) × (long_of word ≡ Some p) × (long_fault s.rules s.args_override_self (arg_by_long s.rules p.0) p.1 h ≡ []))
    ⊎ (word_met s.rules subs false waiting position word h ≡ plain_word s.rules waiting word h)

pub word_is : (s : Shape) (subs : Names) (waiting : Waiting) (position : ℕ) (word : Text) (rows : List Row) (pending : Option (Text × List Text))
    → ((c : ℕ) → arg_by_short s.rules c ≡ None) → subcommand_met subs waiting word ≡ None → bytes_eq word separator ≡ false
    → word_fault s subs false waiting word (at_hand rows pending) ≡ [] → IsWord s subs waiting position word (at_hand rows pending)
unfolding clap_on_literals
word_is s subs waiting position word rows pending no_short sub sep fine =
    let flag_fine : flag_word_fault s.rules s.args_override_self (long_of word) word (at_hand rows pending) ≡ [] = rw (sub, sep) at fine in
    long (long_of word) refl flag_fine
  where
    h : Held
    h = at_hand rows pending

    bundled : (x : ℕ) (xs : Text) (o : Option ℕ) → slice_get (chars (x ∷ xs)) 0 ≡ o → short_of word ≡ Some (x ∷ xs) → long_of word ≡ None
        → flags_fault s.rules s.args_override_self (length (x ∷ xs)) (x ∷ xs) 0 h ≡ []
        → word_met s.rules subs false waiting position word h ≡ plain_word s.rules waiting word h
    bundled x xs None first is not_long e = rw (sub, sep, not_long, is, first) refl
    bundled x xs (Some c) first is not_long e = absurd (full _ _ (rw (first, no_short c) at e))

    shorted : (o : Option Text) → short_of word ≡ o → long_of word ≡ None → flag_word_fault s.rules s.args_override_self None word h ≡ []
        → word_met s.rules subs false waiting position word h ≡ plain_word s.rules waiting word h
    shorted None is not_long e = rw (sub, sep, not_long, is) refl
    shorted (Some []) is not_long e = rw (sub, sep, not_long, is) refl
    shorted (Some (x ∷ xs)) is not_long e = bundled x xs (slice_get (chars (x ∷ xs)) 0) refl is not_long (rw is at e)

    long : (o : Option (Text × Option Text)) → long_of word ≡ o → flag_word_fault s.rules s.args_override_self (long_of word) word h ≡ []
        → IsWord s subs waiting position word h
    long (Some p) is e = inl (p, is, rw is at e)
    long None is e = inr (shorted (short_of word) refl is (rw is at e))

-- no word is `--`
abbrev pub HasNoSeparator : List Text → Type 0
HasNoSeparator [] = Unit {0}
HasNoSeparator (word ∷ words) = (word ≢ separator) × HasNoSeparator words
