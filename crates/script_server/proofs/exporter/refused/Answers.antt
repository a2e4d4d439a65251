use Rattle.script_server.proofs.Refused.{want_answered}
use Rattle.script_server.proofs.exporter.refused.Goals as goal

pub returns-in-NoMemory : goal.returns-in-NoMemory
returns-in-NoMemory c = λ unit source books refuses. want_answered c.some_meaning.ensures unit source (record {}) books
