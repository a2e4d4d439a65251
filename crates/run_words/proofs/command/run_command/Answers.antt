use Rattle.std.proofs.Common.{rules, ap₂, ◌∙◌}
use Rattle.clap.specs.Words.{with_rule}
use Rattle.run_words.proofs.command.run_command.Goals as goal

pub returns-clause-told : goal.returns-clause-told
returns-clause-told c =
    c.in_ok-command-5.ensures.shape (search rules)
    ∙ ap₂ with_rule (c.in_ok-command-4.ensures.shape (search rules)
    ∙ ap₂ with_rule (c.in_ok-command-3.ensures.shape (search rules)
    ∙ ap₂ with_rule (c.in_ok-command-2.ensures.shape (search rules)
    ∙ ap₂ with_rule (c.in_ok-command.ensures.shape (search rules) ∙ ap₂ with_rule c.new.ensures.app c.number-workers.ensures.rule) c.number-memo.ensures.rule)
    c.number-share.ensures.rule) c.flag-half.ensures.rule) c.flag-tally.ensures.rule
