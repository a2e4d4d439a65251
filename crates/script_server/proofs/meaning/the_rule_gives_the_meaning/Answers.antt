use Rattle.std.proofs.Common.{subst}
use Rattle.script_server.specs.Meaning.Exports.{AnswersMeaning}
use Rattle.script_server.proofs.meaning.the_rule_gives_the_meaning.Goals as goal

pub returns : goal.returns
returns c = λ unit source r rule.
    let (found, answers) = c.some_reply.ensures unit source in
    subst (AnswersMeaning unit source) (c.one_reply.ensures unit source found r answers.rule rule) answers.meaning
