use Rattle.std.proofs.Common.{◌≡◌, ◌∙◌, sym, append-nil, [], List}
use Rattle.reply_text.specs.Texts.{output}
use Rattle.script_server.proofs.OneReply.{exports_are}
use Rattle.script_server.proofs.WholeOutput.{whole_output}
use Rattle.script_server.proofs.meaning.one_output.Goals as goal

pub one_output-requires : goal.one_output-requires
one_output-requires c = exports_are c.one_reply.ensures

pub returns-clause-replies : goal.returns-clause-replies
returns-clause-replies c = λ unit script rs qs f g e.
    (c.one_output.ensures unit script.clients rs qs [] [] f g (append-nil (output script.clients rs) ∙ e ∙ sym (append-nil (output script.clients qs)))).0

pub returns-clause-whole : goal.returns-clause-whole
returns-clause-whole c = whole_output c.one_output.ensures c.one_ending.ensures.tally c.one_ending.ensures.shares
