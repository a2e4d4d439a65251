use Rattle.script_server.proofs.OneReply.{exports_are}
use Rattle.script_server.proofs.meaning.own_replies.Goals as goal

pub own_replies-requires : goal.own_replies-requires
own_replies-requires c = exports_are c.one_reply.ensures

pub returns : goal.returns
returns c = c.own_replies.ensures
