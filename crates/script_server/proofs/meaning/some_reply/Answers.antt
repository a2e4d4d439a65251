use Rattle.script_server.proofs.SomeReply.{some_answer}
use Rattle.script_server.proofs.meaning.some_reply.Goals as goal

pub returns : goal.returns
returns c = λ unit source. some_answer c.texts_of_sources_are_watertight.ensures c.some_export.ensures c.programs_mean_proper_trees.ensures unit source (c.some_meaning.ensures unit source)
