-- From the getters of clap's matches to their rows.
use Rattle.std.proofs.Common.{◌≡◌, ◌∙◌, ℕ, Bool, true, false, sym, ap, subst, List, Option, bytes_eq, Some, None, Result, Err, IfNone, IfSome, inl, inr, Global, codes, option_map, box_value, Box}
use Rattle.std.specs.Borrow.{Bor}
use Rattle.std.specs.Str.Parse.{digits_value}
use Rattle.std.proofs.lemmas.Slice.Eq.{bytes_eq-Decides}
use Rattle.plain_text.specs.Decimals.{IsShortNumeral}
use Rattle.clap.specs.Words.{Row, Text, found_of, first_of, rows_of, first_value, subcommand_rows_of, subcommand_rows}
use Rattle.clap.specs.Matches.{one_text, subcommand_name_of}
use Rattle.clap.specs.declared.parser.matches.ArgMatches.TheViews.{out-ArgMatches, out-SubCommand}
use Rattle.clap.specs.declared.parser.matches.SubCommand.{SubCommand}
use Rattle.clap.specs.declared.parser.matches.ArgMatches.{ArgMatches}
use Rattle.clap.proofs.WalkLemmas.{first_value-rows, one_text-rows}
use Rattle.run_words.specs.declared.given.GivenOptions.{GivenOptions}
use Rattle.run_words.specs.declared.settings.Settings.{Settings}
use Rattle.run_words.specs.Words.{AreSettingsInRange, chosen_settings}
use Rattle.run_words.specs.Reading.{MakeSettings, WriteOptions, WritesNumberIfThere, SaysFlag}
use Rattle.run_words.proofs.Rows.{one_says}

pub if_none : {T : Type 0} (r : Option T) (P : Type 0) → P → IfNone r P
if_none None P p = p
if_none (Some x) P p = tt

pub text_in : (m : ArgMatches) (name : Text) (r : Option (Bor Text)) (o : Option (Bor Text)) → option_map (λ s. s.now) r ≡ first_value (found_of m) name → r ≡ o
    → first_of name (rows_of (found_of m)) ≡ option_map (λ s. s.now) o
text_in m name r o e is = sym (first_value-rows (found_of m) name) ∙ sym e ∙ ap (option_map (λ s. s.now)) is

pub says_none : (o : Option Text) → o ≡ None → WritesNumberIfThere o None
says_none o e = rw e tt

pub says_number : (o : Option Text) (t : Text) (n : ℕ) → o ≡ Some t → IsShortNumeral t → n ≡ digits_value 10 t → WritesNumberIfThere o (Some n)
says_number o t n e short value = rw e (short, value)

pub says_nothing : (o : Option Text) (t : Text) → o ≡ Some t → (IsShortNumeral t → ⊥) → (number : Option ℕ) → WritesNumberIfThere o number → ⊥
says_nothing o t e none None h = rw e at h
says_nothing o t e none (Some n) h = none (rw e at h).0

-- a flag is read as it was given
pub flag_read : (m : ArgMatches) (name : Text) (b r : Bool) → SaysFlag (rows_of (found_of m)) name b → (one_text (found_of m) name ≡ Some (codes "true") → r ≡ true)
    → (one_text (found_of m) name ≡ Some (codes "false") → r ≡ false) → SaysFlag (rows_of (found_of m)) name r
flag_read m name true r e set unset = let is : r ≡ true = set (one_text-rows (found_of m) name ∙ e) in rw is e
flag_read m name false r e set unset = let is : r ≡ false = unset (one_text-rows (found_of m) name ∙ e) in rw is e

-- the subcommand that was found, with its rows
pub found_is : (m : ArgMatches) (r : Option (Bor Text × Bor ArgMatches)) (p : Bor Text × Bor ArgMatches)
    → option_map (λ p. p.0.now) r ≡ subcommand_name_of m → option_map (λ p. rows_of (found_of p.1.now)) r ≡ option_map (λ p. p.1) (subcommand_rows_of m) → r ≡ Some p
    → subcommand_rows_of m ≡ Some (p.0.now, rows_of (found_of p.1.now))
found_is m r p name rows is = go (out-ArgMatches m).subcommand (sym (ap (option_map (λ (p : Bor Text × Bor ArgMatches). p.0.now)) is) ∙ name) (sym (ap (option_map (λ (p : Bor Text × Bor ArgMatches). rows_of (found_of p.1.now))) is) ∙ rows)
  where
    go : (o : Option (Box SubCommand Global)) → Some p.0.now ≡ option_map (λ b. (out-SubCommand (box_value b)).name.now) o
        → Some (rows_of (found_of p.1.now)) ≡ option_map (λ p. p.1) (subcommand_rows o) → subcommand_rows o ≡ Some (p.0.now, rows_of (found_of p.1.now))
    go None n e = cc n
    go (Some b) n e =
        let the_name : (out-SubCommand (box_value b)).name.now ≡ p.0.now = cc n in
        let the_rows : rows_of (found_of (out-SubCommand (box_value b)).matches) ≡ rows_of (found_of p.1.now) = cc e in
        λ i. Some (the_name i, the_rows i)

-- ---- one choice
same_made : (rows : List Row) (given : GivenOptions) (ones other : Settings) → ones ≡ chosen_settings given → WriteOptions rows given → MakeSettings (Some (codes "run", rows)) other → other ≡ ones
same_made rows given ones other is says (inl h) = h.3 ∙ ap (λ (g : GivenOptions). chosen_settings g) (one_says rows h.1 given h.2 says) ∙ sym is
same_made rows given ones other is says (inr h) = cc h.0

pub one_made : (r : Option Settings) (rows : List Row) (given : GivenOptions) (ones : Settings) → ones ≡ chosen_settings given → WriteOptions rows given
    → IfSome r (λ same. (same ≡ ones) × AreSettingsInRange ones) → IfSome r (λ same. (other : Settings) → MakeSettings (Some (codes "run", rows)) other → other ≡ same)
one_made None rows given ones is says found = tt
one_made (Some same) rows given ones is says found = λ other h. same_made rows given ones other is says h ∙ sym found.0

pub none_made : (r : Option Settings) (rows : List Row) (given : GivenOptions) (ones : Settings) → ones ≡ chosen_settings given → WriteOptions rows given
    → IfNone r (AreSettingsInRange ones → ⊥) → IfNone r ((other : Settings) → MakeSettings (Some (codes "run", rows)) other → AreSettingsInRange other → ⊥)
none_made (Some same) rows given ones is says none = tt
none_made None rows given ones is says none = λ other h range. none (subst AreSettingsInRange (same_made rows given ones other is says h) range)

pub err_is : {T E : Type 0} (a b : E) → ◌≡◌ {A = Result T E} (Err a) (Err b) → a ≡ b
err_is a b e = cc e

-- the subcommand of this name was found
pub named_is : (m : ArgMatches) (r : Option (Bor Text × Bor ArgMatches)) (p : Bor Text × Bor ArgMatches) (name : Text)
    → option_map (λ p. p.0.now) r ≡ subcommand_name_of m → option_map (λ p. rows_of (found_of p.1.now)) r ≡ option_map (λ p. p.1) (subcommand_rows (out-ArgMatches m).subcommand) → r ≡ Some p
    → bytes_eq p.0.now name ≡ true → subcommand_rows_of m ≡ Some (name, rows_of (found_of p.1.now))
named_is m r p name names rows is same =
    found_is m r p names rows is ∙ ap (λ (t : Text). Some (t, rows_of (found_of p.1.now))) ((bytes_eq-Decides p.0.now name).0 same)
