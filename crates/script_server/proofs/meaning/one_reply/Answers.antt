use Rattle.script_server.proofs.OneReply as law
use Rattle.script_server.proofs.meaning.one_reply.Goals as goal

pub returns : goal.returns
returns c = law.one_reply c.one_meaning.ensures.trees c.one_meaning.ensures.faults c.one_meaning.ensures.either c.one_export.ensures
