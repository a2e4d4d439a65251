use Rattle.std.proofs.Common.{rules, ap₂, ◌≡◌, ◌∙◌}
use Rattle.clap.specs.Words.{rule_of, with_rule}
use Rattle.run_words.specs.Program.{parts_word}
use Rattle.run_words.proofs.command.demo_command.Goals as goal

pub returns-clause-told : goal.returns-clause-told
returns-clause-told c =
    let parts_is : rule_of c.action-parts.result ≡ parts_word = search rules in
    c.in_ok-command.ensures.shape (search rules) ∙ ap₂ with_rule c.new-2.ensures.app parts_is
