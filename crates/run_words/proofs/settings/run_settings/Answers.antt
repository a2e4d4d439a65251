use Rattle.clap.specs.Words.{found_of, rows_of}
use Rattle.run_words.proofs.Found.{none_made, one_made}
use Rattle.run_words.proofs.settings.run_settings.Goals as goal

pub returns-clause-only : goal.returns-clause-only
returns-clause-only c = one_made c.in_range.result (rows_of (found_of c.args.run.now)) c.in_ok-given.given c.with_defaults.result c.with_defaults.ensures c.in_ok-given.ensures.found c.in_range.ensures.found

pub returns-clause-none : goal.returns-clause-none
returns-clause-none c = none_made c.in_range.result (rows_of (found_of c.args.run.now)) c.in_ok-given.given c.with_defaults.result c.with_defaults.ensures c.in_ok-given.ensures.found c.in_range.ensures.none
