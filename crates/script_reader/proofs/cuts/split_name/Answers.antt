use Rattle.std.proofs.lemmas.Bool.{false≢true}
use Rattle.script_reader.proofs.CutLaws.{no_name}
use Rattle.script_reader.proofs.cuts.split_name.Goals as goal

pub returns-then-not-is_name-clause-none : goal.returns-then-not-is_name-clause-none
returns-then-not-is_name-clause-none c =
    no_name c.args.line.now c.split_space.result.0.now c.split_space.result.1.now c.split_space.ensures (λ n. absurd (false≢true (c.if-not-is_name.ensures.1 n)))
