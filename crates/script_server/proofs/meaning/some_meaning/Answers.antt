use Rattle.script_server.proofs.SomeReply as law
use Rattle.script_server.proofs.meaning.some_meaning.Goals as goal

pub returns : goal.returns
returns c =
    law.some_meaning (record {
      outcome = c.some_outcome.ensures;
      program = c.program_or_fault.ensures;
      meaning = c.some_meaning.ensures;
    })
