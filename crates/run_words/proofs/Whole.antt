-- All words: clap takes those of the grammar, and finds the settings that they choose.
use Rattle.std.proofs.Common.{◌≡◌, ◌≢◌, ◌∙◌, ◌||◌, true≢false, ℕ, Bool, true, false, inl, inr, refl, sym, ap, ap₂, subst, List, [], ◌∷◌, ◌++◌, Option, Some, None, codes}
use Rattle.std.specs.List.{fold}
use Rattle.std.specs.Option.{is_some}
use Rattle.std.specs.Prelude.{bytes_eq}
use Rattle.std.proofs.lemmas.Slice.Eq.{bytes_eq-Decides}
use Rattle.clap.specs.Kinds.{HasKind, Kinds, or_else}
use Rattle.clap.specs.Walk.{Held, Row, Step, Text, Walk, idle, after_step, arg_by_short, finished, first_of, nothing_held, plain_word, rows_after, settled, walk, walk_from, walked, with_default, word_met, has_row}
use Rattle.clap.specs.Simple.{App, entered, subcommand_of, subcommand_rows_of, HasMatchesOf, is_simple}
use Rattle.clap.specs.Faults.{check_fault, defaults_fault, entered_fault, fault_of, settle_fault, step_fault, turn_fault, walk_fault, is_simple_and_free}
use Rattle.clap.specs.declared.error.kind.ErrorKind.TheVariants.{OutOfMemory}
use Rattle.clap.specs.Values.{kind_of}
use Rattle.clap.specs.declared.error.Error.{Error}
use Rattle.clap.specs.declared.parser.matches.ArgMatches.{ArgMatches}
use Rattle.clap.proofs.OnLiterals.{clap_on_literals}
use Rattle.clap.proofs.FaultLemmas.{stopped_fault}
use Rattle.clap.proofs.WalkLemmas.{walk_stopped}
use Rattle.run_words.specs.declared.given.GivenOptions.{GivenOptions}
use Rattle.run_words.specs.declared.settings.Settings.{Settings}
use Rattle.run_words.specs.declared.settings.Settings.TheVariants.{Demo}
use Rattle.run_words.specs.Words.{OptionKey, Workers, Memo, Share, RunOption, Number, Half, Tally, key_name, equals_sign, AreOptions, AddOptions, AreRunOptions, AreDemoWords, AreSettingsInRange, Chooses, chosen_settings, no_options}
use Rattle.run_words.specs.Program.{program}
use Rattle.run_words.specs.Reading.{has_separator, HaveFlags, HasFlags, MakeSettings, WritesNumberIfThere, WriteOptions}
use Rattle.run_words.proofs.Rows.{RowsSay, added, number, flag_default, full, no_default, one_says, whole, whole_first, whole_half, whole_says, whole_tally}
use Rattle.run_words.proofs.Built.{HasNoSeparator, run_leaf, demo_leaf, top, names, both_fine, ends, faults, fine_then, next_word, separator, test, word_is, workers_rule, memo_rule, share_rule, half_rule, tally_rule}
use Rattle.run_words.proofs.Steps.{apart_of, idle_at, new_stands}
use Rattle.run_words.proofs.Options.{final, numeral_plain, taken}
use Rattle.run_words.proofs.Gathered.{AreNumerals, gathered}
use Rattle.plain_text.specs.Decimals.{IsNumeralOf}

-- ---- `run`
abbrev run_rows : List Text → List Row
run_rows words = rows_after run_leaf.rules [] words

run_rows_are : (words : List Text) → run_rows words ≡ whole (final (ends run_leaf (walk_from nothing_held) words))
run_rows_are words = go (final (ends run_leaf (walk_from nothing_held) words))
  where
    go : (rows : List Row) → fold with_default rows run_leaf.rules ≡ whole rows
    go rows =
        let workers = no_default rows workers_rule refl in
        let memo = no_default rows memo_rule refl in
        let share = no_default rows share_rule refl in
        rw (workers, memo, share) (tally_default (with_default rows half_rule) (flag_default rows half_rule refl refl))
      where
        tally_default : (halved : List Row) → halved ≡ rows ++ added (codes "half") (has_row (codes "half") rows)
            → with_default halved tally_rule ≡ whole rows
        tally_default halved e = ap (λ (xs : List Row). with_default xs tally_rule) e ∙ flag_default _ tally_rule refl refl

nothing_said : RowsSay [] no_options
nothing_said = (refl, refl, refl, refl, refl)

numerals_in : (rows : List Row) (given : GivenOptions) → WriteOptions (whole rows) given → AreNumerals rows
numerals_in rows given h Workers text is = number (first_of (codes "workers") (whole rows)) text given.workers (whole_first (codes "workers") rows text is) h.0
numerals_in rows given h Memo text is = number (first_of (codes "memo") (whole rows)) text given.memo (whole_first (codes "memo") rows text is) h.1
numerals_in rows given h Share text is = number (first_of (codes "share") (whole rows)) text given.share (whole_first (codes "share") rows text is) h.2

run_taken : (words : List Text) (settings : Settings) → AreRunOptions words settings
    → (faults run_leaf (walk_from nothing_held) words ≡ []) × (given : GivenOptions) × WriteOptions (run_rows words) given × (settings ≡ chosen_settings given)
run_taken words settings (options, given, are, adds, is) =
    let h = taken options words no_options given [] [] None are adds (new_stands []) nothing_said in
    (h.0, given, rw (run_rows_are words) (whole_says (final (ends run_leaf (walk_from nothing_held) words)) given h.1), is)

pub run_found : (words : List Text) (settings : Settings) → HasNoSeparator words → faults run_leaf (walk_from nothing_held) words ≡ []
    → (given : GivenOptions) → WriteOptions (run_rows words) given → settings ≡ chosen_settings given → AreRunOptions words settings
run_found words settings none fine given says is =
    let rows = final (ends run_leaf (walk_from nothing_held) words) in
    let says' : WriteOptions (whole rows) given = subst (λ (xs : List Row). WriteOptions xs given) (run_rows_are words) says in
    let h = (gathered words [] [] None none (new_stands []) fine).options no_options nothing_said (numerals_in rows given says') in
    (h.0, given, h.2, subst (λ (g : GivenOptions). AddOptions no_options h.0 g) (one_says (whole rows) h.1 given (whole_says rows h.1 h.4) says') h.3, is)

run_flags : (words : List Text) → HasNoSeparator words → faults run_leaf (walk_from nothing_held) words ≡ [] → HaveFlags (run_rows words)
run_flags words none fine =
    let rows = final (ends run_leaf (walk_from nothing_held) words) in
    let h = (gathered words [] [] None none (new_stands []) fine).flags ((false, refl), (false, refl)) in
    subst HaveFlags (sym (run_rows_are words)) ((h.0.0, whole_half rows h.0.0 h.0.1), (h.1.0, whole_tally rows h.1.0 h.1.1))

-- ---- `demo`
abbrev demo_rows : List Text → List Row
demo_rows words = rows_after demo_leaf.rules [] words

no_short : (c : ℕ) → arg_by_short demo_leaf.rules c ≡ None
no_short c = refl

-- the walk after one word
abbrev one_word : Text → Walk
one_word text = record (idle_at [] (Some (codes "parts", text ∷ []))) { position = 2 }

-- a plain word is the number of parts where none was given
parts_leads : (text : Text) → word_met demo_leaf.rules [] false idle 1 text nothing_held ≡ plain_word demo_leaf.rules idle text nothing_held
    → walked demo_leaf.rules [] (walk_from nothing_held) text ≡ one_word text
unfolding clap_on_literals
parts_leads text met = ap (λ (m : Held × Step). after_step demo_leaf.rules text (walk_from nothing_held) m.0 m.1) met

demo_first : (text : Text) (words : List Text) → text ≢ separator → faults demo_leaf (walk_from nothing_held) (text ∷ words) ≡ [] → faults demo_leaf (one_word text) words ≡ []
demo_first text words apart fine =
    let parts = both_fine _ _ (sym (next_word demo_leaf (walk_from nothing_held) text words) ∙ fine) in
    elim (word_is demo_leaf [] idle 1 text [] None no_short refl (apart_of apart) (both_fine _ _ parts.0).0) [
      | inl long ↦ absurd (full _ _ long.2)
      | inr met ↦ rw (parts_leads text met) at parts.1
    ]

demo_more : (text word : Text) (words : List Text) → word ≢ separator → faults demo_leaf (one_word text) (word ∷ words) ≡ [] → ⊥
demo_more text word words apart fine =
    let parts = both_fine _ _ (both_fine _ _ (sym (next_word demo_leaf (one_word text) word words) ∙ fine)).0 in
    elim (word_is demo_leaf [] idle 2 word [] (Some (codes "parts", text ∷ [])) no_short refl (apart_of apart) parts.0) [
      | inl long ↦ full _ _ long.2
      | inr met ↦ full _ _ (subst (λ (m : Held × Step). step_fault demo_leaf 2 m.0 m.1 ≡ []) met parts.1)
    ]

demo_none : faults demo_leaf (walk_from nothing_held) [] ≡ [] → ⊥
unfolding clap_on_literals
demo_none e = full _ _ e

-- the words are one
demo_words : (words : List Text) → HasNoSeparator words → faults demo_leaf (walk_from nothing_held) words ≡ [] → (text : Text) × (words ≡ text ∷ [])
demo_words [] none fine = absurd (demo_none fine)
demo_words (text ∷ []) none fine = (text, refl)
demo_words (text ∷ word ∷ words) none fine = absurd (demo_more text word words none.1.0 (demo_first text (word ∷ words) none.0 fine))

demo_one : (text : Text) (n : ℕ) → IsNumeralOf text n → (faults demo_leaf (walk_from nothing_held) (text ∷ []) ≡ []) × (walked demo_leaf.rules [] (walk_from nothing_held) text ≡ one_word text)
unfolding clap_on_literals
demo_one text n numeral =
    let plain = numeral_plain text n numeral in
    let met : word_met demo_leaf.rules [] false idle 1 text nothing_held ≡ plain_word demo_leaf.rules idle text nothing_held = rw (plain.2, plain.0, plain.1) refl in
    let leads = parts_leads text met in
    let turn : turn_fault demo_leaf [] (walk_from nothing_held) text ≡ [] = rw (plain.2, plain.0, plain.1) refl in
    (next_word demo_leaf (walk_from nothing_held) text [] ∙ fine_then _ _ turn ∙ ap (λ (w : Walk). faults demo_leaf w []) leads ∙ refl, leads)

parts_row : (text : Text) → first_of (codes "parts") (finished demo_leaf.rules (one_word text).held) ≡ Some text
parts_row text = refl

-- the text that is read of one word
demo_text : (text : Text) → walked demo_leaf.rules [] (walk_from nothing_held) text ≡ one_word text → first_of (codes "parts") (demo_rows (text ∷ [])) ≡ Some text
demo_text text leads = ap (λ (w : Walk). first_of (codes "parts") (finished demo_leaf.rules w.held)) leads

demo_taken : (words : List Text) (settings : Settings) → AreDemoWords words settings
    → (faults demo_leaf (walk_from nothing_held) words ≡ []) × (n : ℕ) × WritesNumberIfThere (first_of (codes "parts") (demo_rows words)) (Some n) × (settings ≡ Demo n)
demo_taken words settings (text, n, is, numeral, chosen_is) =
    let one = demo_one text n numeral in
    rw is (one.0, n, rw (demo_text text one.1) numeral, chosen_is)

demo_found : (words : List Text) (settings : Settings) → HasNoSeparator words → faults demo_leaf (walk_from nothing_held) words ≡ []
    → (n : ℕ) → WritesNumberIfThere (first_of (codes "parts") (demo_rows words)) (Some n) → settings ≡ Demo n → AreDemoWords words settings
demo_found words settings none fine n says is = one (demo_words words none fine)
  where
    one : (text : Text) × (words ≡ text ∷ []) → AreDemoWords words settings
    one (text, e) =
        let apart = subst (λ (ws : List Text). HasNoSeparator ws) e none in
        let fine' = subst (λ (ws : List Text). faults demo_leaf (walk_from nothing_held) ws ≡ []) e fine in
        let says' = subst (λ (ws : List Text). WritesNumberIfThere (first_of (codes "parts") (demo_rows ws)) (Some n)) e says in
        (text, n, e, subst (λ (o : Option Text). WritesNumberIfThere o (Some n)) (demo_text text (demo_walk text apart.0 fine')) says', is)
      where
        demo_walk : (t : Text) → t ≢ separator → faults demo_leaf (walk_from nothing_held) (t ∷ []) ≡ [] → walked demo_leaf.rules [] (walk_from nothing_held) t ≡ one_word t
        demo_walk t apart f =
            let parts = both_fine _ _ (sym (next_word demo_leaf (walk_from nothing_held) t []) ∙ f) in
            elim (word_is demo_leaf [] idle 1 t [] None no_short refl (apart_of apart) (both_fine _ _ parts.0).0) [
              | inl long ↦ absurd (full _ _ long.2)
              | inr met ↦ parts_leads t met
            ]

-- ---- the program
abbrev whole_program : App
whole_program = record { top = top; subs = run_leaf ∷ demo_leaf ∷ [] }

-- what is wrong with all the words, by what the walk over them comes to
abbrev whole_fault : Kinds → Walk → Kinds
whole_fault walk_kinds w =
    or_else walk_kinds (or_else (entered_fault whole_program w.stopped) (or_else (settle_fault [] false w.held)
    (or_else (defaults_fault (settled [] w.held).rows []) (check_fault top (finished [] w.held) (is_some (entered whole_program w.stopped))))))

whole_is : (words : List Text) → fault_of program words ≡ whole_fault (walk_fault top names (walk_from nothing_held) words) (walk [] names nothing_held words)
whole_is words = refl

found_is : (words : List Text) → subcommand_of program words ≡ entered whole_program (walk [] names nothing_held words).stopped
found_is words = refl

abbrev stopped_at : Text → List Text → Walk
stopped_at name words = record (walk_from nothing_held) { stopped = Some (name, words) }

run_stops : (words : List Text) → (walk_fault top names (walk_from nothing_held) (codes "run" ∷ words) ≡ []) × (walk [] names nothing_held (codes "run" ∷ words) ≡ stopped_at (codes "run") words)
unfolding clap_on_literals
run_stops words = (stopped_fault top names (walk_from nothing_held) (codes "run", []) words, sym (walk_stopped [] names (walk_from nothing_held) (codes "run") [] words))

demo_stops : (words : List Text) → (walk_fault top names (walk_from nothing_held) (codes "demo" ∷ words) ≡ []) × (walk [] names nothing_held (codes "demo" ∷ words) ≡ stopped_at (codes "demo") words)
unfolding clap_on_literals
demo_stops words = (stopped_fault top names (walk_from nothing_held) (codes "demo", []) words, sym (walk_stopped [] names (walk_from nothing_held) (codes "demo") [] words))

nothing_more : (k : Kinds) → or_else k [] ≡ k
nothing_more [] = refl
nothing_more (k ∷ ks) = refl

run_fault : (words : List Text) → fault_of program (codes "run" ∷ words) ≡ faults run_leaf (walk_from nothing_held) words
unfolding clap_on_literals
run_fault words =
    let h = run_stops words in
    whole_is (codes "run" ∷ words) ∙ ap₂ whole_fault h.0 h.1 ∙ nothing_more (faults run_leaf (walk_from nothing_held) words)

demo_fault : (words : List Text) → fault_of program (codes "demo" ∷ words) ≡ faults demo_leaf (walk_from nothing_held) words
unfolding clap_on_literals
demo_fault words =
    let h = demo_stops words in
    whole_is (codes "demo" ∷ words) ∙ ap₂ whole_fault h.0 h.1 ∙ nothing_more (faults demo_leaf (walk_from nothing_held) words)

run_rows_found : (words : List Text) → subcommand_of program (codes "run" ∷ words) ≡ Some (codes "run", run_rows words)
run_rows_found words = found_is (codes "run" ∷ words) ∙ ap (λ (w : Walk). entered whole_program w.stopped) (run_stops words).1

demo_rows_found : (words : List Text) → subcommand_of program (codes "demo" ∷ words) ≡ Some (codes "demo", demo_rows words)
demo_rows_found words = found_is (codes "demo" ∷ words) ∙ ap (λ (w : Walk). entered whole_program w.stopped) (demo_stops words).1

-- any other first word is found fault with
other_wrong : (first : Text) (words : List Text) → first ≢ separator → bytes_eq (codes "run") first ≡ false → bytes_eq (codes "demo") first ≡ false
    → fault_of program (first ∷ words) ≡ [] → ⊥
unfolding clap_on_literals
other_wrong first words apart run demo fine =
    let walk_fine : walk_fault top names (walk_from nothing_held) (first ∷ words) ≡ [] = (both_fine _ _ (sym (whole_is (first ∷ words)) ∙ fine)).0 in
    let parts = both_fine _ _ (both_fine _ _ walk_fine).0 in
    elim (word_is top names idle 1 first [] None (λ c. refl) (rw (run, demo) refl) (apart_of apart) parts.0) [
      | inl long ↦ full _ _ long.2
      | inr met ↦ full _ _ (subst (λ (m : Held × Step). step_fault top 1 m.0 m.1 ≡ []) met parts.1)
    ]

none_wrong : fault_of program [] ≡ [] → ⊥
unfolding clap_on_literals
none_wrong e = full _ _ e

-- ---- `--` is outside the grammar
none_apart : (words : List Text) → has_separator words ≡ false → HasNoSeparator words
none_apart [] e = tt
none_apart (word ∷ words) e = go (bytes_eq word separator) refl e (none_apart words)
  where
    go : (b : Bool) → bytes_eq word separator ≡ b → (b || has_separator words) ≡ false → (has_separator words ≡ false → HasNoSeparator words) → HasNoSeparator (word ∷ words)
    go true t f more = absurd (true≢false f)
    go false t f more = (λ is. true≢false (sym ((bytes_eq-Decides word separator).1 is) ∙ t), more f)

word_apart : (word : Text) (words : List Text) → bytes_eq word separator ≡ false → has_separator words ≡ false → has_separator (word ∷ words) ≡ false
word_apart word words e f = rw e f

key_apart : (key : OptionKey) → bytes_eq (key_name key) separator ≡ false
key_apart Workers = refl
key_apart Memo = refl
key_apart Share = refl

value_apart : (key : OptionKey) (text : Text) → bytes_eq (key_name key ++ equals_sign ++ text) separator ≡ false
value_apart Workers text = refl
value_apart Memo text = refl
value_apart Share text = refl

options_apart : (options : List RunOption) (words : List Text) → AreOptions words options → has_separator words ≡ false
options_apart [] words e = rw e refl
options_apart (Number key n ∷ os) words (rest, (text, numeral, inl e), more) = rw e (word_apart (key_name key ++ equals_sign ++ text) rest (value_apart key text) (options_apart os rest more))
options_apart (Number key n ∷ os) words (rest, (text, numeral, inr e), more) =
    rw e (word_apart (key_name key) (text ∷ rest) (key_apart key) (word_apart text rest (numeral_plain text n numeral).2 (options_apart os rest more)))
options_apart (Half ∷ os) words (rest, (word, is, e), more) = rw (e, is) (options_apart os rest more)
options_apart (Tally ∷ os) words (rest, (word, is, e), more) = rw (e, is) (options_apart os rest more)

chosen_apart : (words : List Text) (settings : Settings) → Chooses words settings → has_separator words ≡ false
chosen_apart [] settings h = absurd h
chosen_apart (first ∷ rest) settings (range, inl (is, (options, given, are, adds, e))) = rw is (options_apart options rest are)
chosen_apart (first ∷ rest) settings (range, inr (is, (text, n, one, numeral, e))) = rw (is, one) (word_apart text [] (numeral_plain text n numeral).2 refl)

pub separator_outside : (words : List Text) → has_separator words ≡ true → (settings : Settings) → Chooses words settings → ⊥
separator_outside words e settings h = true≢false (sym e ∙ chosen_apart words settings h)

-- ---- what the call promises
pub chosen_taken : (words : List Text) (settings : Settings) → Chooses words settings → (fault_of program words ≡ []) × MakeSettings (subcommand_of program words) settings
chosen_taken [] settings h = absurd h
chosen_taken (first ∷ rest) settings (range, inl (is, h)) =
    let taken_so = run_taken rest settings h in
    rw is (run_fault rest ∙ taken_so.0, rw (run_rows_found rest) (inl (refl, taken_so.1, taken_so.2, taken_so.3)))
chosen_taken (first ∷ rest) settings (range, inr (is, h)) =
    let taken_so = demo_taken rest settings h in
    rw is (demo_fault rest ∙ taken_so.0, rw (demo_rows_found rest) (inr (refl, taken_so.1, taken_so.2, taken_so.3)))

-- what the words are, where clap takes them
data Taken (words : List Text) : Type 0 where
  a_run : (rest : List Text) → words ≡ codes "run" ∷ rest → faults run_leaf (walk_from nothing_held) rest ≡ [] → HasNoSeparator rest → Taken words
  a_demo : (rest : List Text) → words ≡ codes "demo" ∷ rest → faults demo_leaf (walk_from nothing_held) rest ≡ [] → HasNoSeparator rest → Taken words

taken_are : (words : List Text) → HasNoSeparator words → fault_of program words ≡ [] → Taken words
taken_are [] none fine = absurd (none_wrong fine)
taken_are (first ∷ rest) none fine = elim (test (codes "run") first) [
  | inl is ↦
      a_run rest (ap (λ (w : Text). w ∷ rest) (sym is)) (sym (run_fault rest) ∙ subst (λ (w : Text). fault_of program (w ∷ rest) ≡ []) (sym is) fine) none.1
  | inr run ↦ elim (test (codes "demo") first) [
    | inl is ↦
        a_demo rest (ap (λ (w : Text). w ∷ rest) (sym is)) (sym (demo_fault rest) ∙ subst (λ (w : Text). fault_of program (w ∷ rest) ≡ []) (sym is) fine) none.1
    | inr demo ↦ absurd (other_wrong first rest none.0 run demo fine)
  ]
]

pub made_chosen : (words : List Text) → has_separator words ≡ false → fault_of program words ≡ [] → (settings : Settings) → AreSettingsInRange settings → MakeSettings (subcommand_of program words) settings → Chooses words settings
made_chosen words none fine settings range made = go (taken_are words (none_apart words none) fine)
  where
    go : Taken words → Chooses words settings
    go (a_run rest is f apart) = elim (subst (λ (o : Option (Text × List Row)). MakeSettings o settings) (ap (subcommand_of program) is ∙ run_rows_found rest) made) [
      | inl h ↦ rw is (range, inl (refl, run_found rest settings apart f h.1 h.2 h.3))
      | inr h ↦ cc h.0
    ]
    go (a_demo rest is f apart) = elim (subst (λ (o : Option (Text × List Row)). MakeSettings o settings) (ap (subcommand_of program) is ∙ demo_rows_found rest) made) [
      | inl h ↦ cc h.0
      | inr h ↦ rw is (range, inr (refl, demo_found rest settings apart f h.1 h.2 h.3))
    ]

pub flags_found : (words : List Text) → has_separator words ≡ false → fault_of program words ≡ [] → HasFlags (subcommand_of program words)
flags_found words none fine = go (taken_are words (none_apart words none) fine)
  where
    go : Taken words → HasFlags (subcommand_of program words)
    go (a_run rest is f apart) = rw (is, run_rows_found rest) (λ e. run_flags rest apart f)
    go (a_demo rest is f apart) = rw (is, demo_rows_found rest) (λ e. cc e)

-- ---- the call of clap
program_simple : is_simple program ≡ true
unfolding clap_on_literals
program_simple = refl

pub program_free : (a : App) → a ≡ program → is_simple_and_free a ≡ true
unfolding clap_on_literals
program_free a e = rw e refl

pub fine_found : (a : App) (words : List Text) → a ≡ program → fault_of a words ≡ [] → fault_of program words ≡ []
fine_found a words e fine = rw e at fine

pub rows_found : (a : App) (words : List Text) (m : ArgMatches) → a ≡ program → HasMatchesOf a words m → subcommand_rows_of m ≡ subcommand_of program words
rows_found a words m e h = (h (ap is_simple e ∙ program_simple)).1 ∙ ap (λ (x : App). subcommand_of x words) e

-- an error of another kind than running out of memory comes only where something is wrong with the words
pub refused : (a : App) (words : List Text) (e : Error) → a ≡ program → HasKind (fault_of a words) e → (kind_of e ≢ OutOfMemory) → (settings : Settings) → Chooses words settings → ⊥
refused a words e is kinds other settings h = elim kinds [
  | inl memory ↦ other memory
  | inr among ↦ rw (is, (chosen_taken words settings h).0) at among
]
