use Rattle.script_service.proofs.OneEnding.{ending_tally, ending_shares}
use Rattle.script_service.proofs.laws.one_ending.Goals as goal

pub returns-clause-tally : goal.returns-clause-tally
returns-clause-tally c = ending_tally c.one_numeral.ensures

pub returns-clause-shares : goal.returns-clause-shares
returns-clause-shares c = ending_shares c.one_numeral.ensures
