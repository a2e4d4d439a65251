use Rattle.script_server.proofs.OneReply.{solids}
use Rattle.script_server.proofs.meaning.solids_pass_no_limit.Goals as goal

pub returns : goal.returns
returns c = solids c.one_meaning.ensures.trees c.one_meaning.ensures.either c.texts_pass_no_limit.ensures
