-- The command line, as clap is told it.
use Rattle.std.specs.Prelude.{codes, Some, true, List, ℕ}
use Rattle.clap.specs.Words.{App, Rule, new_app, new_rule, with_rule, with_subcommand}
use Rattle.clap.specs.declared.builder.action.ArgAction.TheVariants.{Set, SetTrue}

-- an option of this name that has one value
abbrev pub number_option : List ℕ → Rule
number_option name = record (new_rule name) { long = Some name; action = Some Set }

-- an option of this name that has none
abbrev pub flag_option : List ℕ → Rule
flag_option name = record (new_rule name) { long = Some name; action = Some SetTrue }

-- the one word of `demo`
abbrev pub parts_word : Rule
parts_word = record (new_rule (codes "parts")) { required = true; action = Some Set }

abbrev pub run_command : App
run_command =
    with_rule (with_rule (with_rule (with_rule (with_rule (new_app (codes "run"))
    (number_option (codes "workers"))) (number_option (codes "memo"))) (number_option (codes "share")))
    (flag_option (codes "half"))) (flag_option (codes "tally"))

abbrev pub demo_command : App
demo_command = with_rule (new_app (codes "demo")) parts_word

-- the program before its subcommands
abbrev pub bare_program : App
bare_program = record (new_app (codes "scadserve")) {
  top = record (new_app (codes "scadserve")).top {
    no_binary_name = true;
    disable_help_flag = true;
    disable_help_subcommand = true;
    disable_version_flag = true;
    subcommand_required = true;
  };
}

abbrev pub program : App
program = with_subcommand (with_subcommand bare_program run_command.top) demo_command.top
