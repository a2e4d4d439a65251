use Rattle.std.proofs.Common.{codes}
use Rattle.run_words.proofs.Found.{flag_read}
use Rattle.run_words.proofs.given.given_in.Goals as goal

pub returns-clause-found : goal.returns-clause-found
returns-clause-found c = (
  c.in_ok-number_in.ensures.found,
  c.in_ok-number_in-2.ensures.found,
  c.in_ok-number_in-3.ensures.found,
  flag_read c.args.run.now (codes "half") c.requires.0.0 c.get_flag.result c.requires.0.1 c.get_flag.ensures.value c.get_flag.ensures.other,
  flag_read c.args.run.now (codes "tally") c.requires.1.0 c.get_flag-2.result c.requires.1.1 c.get_flag-2.ensures.value c.get_flag-2.ensures.other,
)
