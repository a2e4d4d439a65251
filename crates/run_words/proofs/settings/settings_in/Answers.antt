use Rattle.std.proofs.Common.{◌≡◌, ◌∙◌, refl, sym, subst, codes, List, Option, IfSome, IfNone}
use Rattle.clap.specs.Words.{Row, Text}
use Rattle.run_words.specs.declared.settings.Settings.{Settings}
use Rattle.run_words.specs.Words.{AreSettingsInRange}
use Rattle.run_words.specs.Reading.{HasFlags, MakeSettings}
use Rattle.run_words.proofs.Found.{named_is}
use Rattle.run_words.proofs.settings.settings_in.Goals as goal

pub run_settings-requires : goal.run_settings-requires
run_settings-requires c =
    let is = named_is c.args.matches.now c.subcommand.result (c.in_ok-name.name, c.in_ok-name.found) (codes "run") c.subcommand.ensures.name c.subcommand.ensures.rows c.in_ok-name.was (sym c.eq.ensures ∙ c.if-eq.true) in
    subst HasFlags is c.requires refl

pub returns-then-eq-clause-only : goal.returns-then-eq-clause-only
returns-then-eq-clause-only c =
    let is = named_is c.args.matches.now c.subcommand.result (c.in_ok-name.name, c.in_ok-name.found) (codes "run") c.subcommand.ensures.name c.subcommand.ensures.rows c.in_ok-name.was (sym c.eq.ensures ∙ c.if-eq.true) in
    subst (λ (o : Option (Text × List Row)). IfSome c.run_settings.result (λ (s : Settings). (other : Settings) → MakeSettings o other → other ≡ s)) (sym is) c.run_settings.ensures.only

pub returns-then-eq-clause-none : goal.returns-then-eq-clause-none
returns-then-eq-clause-none c =
    let is = named_is c.args.matches.now c.subcommand.result (c.in_ok-name.name, c.in_ok-name.found) (codes "run") c.subcommand.ensures.name c.subcommand.ensures.rows c.in_ok-name.was (sym c.eq.ensures ∙ c.if-eq.true) in
    subst (λ (o : Option (Text × List Row)). IfNone c.run_settings.result ((s : Settings) → MakeSettings o s → AreSettingsInRange s → ⊥)) (sym is) c.run_settings.ensures.none
