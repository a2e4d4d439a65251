use Rattle.std.proofs.Common.{⊎_elim}
use Rattle.script_server.proofs.Refusing.{source_gives, source_refused}
use Rattle.script_server.proofs.export.tree_of.Goals as goal

pub returns-clause-tree : goal.returns-clause-tree
returns-clause-tree c =
    (⊎_elim
    (λ m. source_gives c.args.unit c.args.source.now m.0 m.2.0.now c.with_program.result m.1 m.2.2 m.2.1)
    (λ m. source_refused c.args.unit c.args.source.now m.0 c.with_program.result m.1 m.2)
    c.with_program.ensures).tree

pub returns-clause-proper : goal.returns-clause-proper
returns-clause-proper c =
    (⊎_elim
    (λ m. source_gives c.args.unit c.args.source.now m.0 m.2.0.now c.with_program.result m.1 m.2.2 m.2.1)
    (λ m. source_refused c.args.unit c.args.source.now m.0 c.with_program.result m.1 m.2)
    c.with_program.ensures).proper

pub returns-clause-fault : goal.returns-clause-fault
returns-clause-fault c =
    (⊎_elim
    (λ m. source_gives c.args.unit c.args.source.now m.0 m.2.0.now c.with_program.result m.1 m.2.2 m.2.1)
    (λ m. source_refused c.args.unit c.args.source.now m.0 c.with_program.result m.1 m.2)
    c.with_program.ensures).fault
