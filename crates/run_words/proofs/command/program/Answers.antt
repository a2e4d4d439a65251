use Rattle.std.proofs.Common.{rules, ap, ap₂, ◌∙◌}
use Rattle.clap.specs.Words.{App, with_subcommand}
use Rattle.run_words.proofs.command.program.Goals as goal

pub returns : goal.returns
returns c =
    c.in_ok-command-2.ensures.shape (search rules)
    ∙ ap₂ with_subcommand (c.in_ok-command.ensures.shape (search rules) ∙ ap₂ with_subcommand c.bare_command.ensures (ap (λ (a : App). a.top) c.in_ok-run.ensures.told)) (ap (λ (a : App). a.top) c.in_ok-demo.ensures.told)
