use Rattle.std.proofs.Common.{sym, subst}
use Rattle.scad_func.specs.View.{table_in}
use Rattle.scad_func.specs.Evaluations.{env_here}
use Rattle.scad_func.specs.Definitions.{statements_at}
use Rattle.scad_modules.specs.View.{chosen_of}
use Rattle.scad_meaning.specs.Bodies.{evaluated_instances}
use Rattle.scad_meaning.specs.Meaning.{candidates_of}
use Rattle.scad_instance_rules.specs.Positions.{HaveBodyBlocks}
use Rattle.scad_instance_rules.proofs.KeptChildren.{chosen_numbered}
use Rattle.scad_instance_rules.proofs.children.chosen_instances.Goals as goal

pub returns-in_ok-from_slice-in-None : goal.returns-in_ok-from_slice-in-None
returns-in_ok-from_slice-in-None c =
    let table = table_in c.args.evaluation.now.source.now in
    rw (c.in-None.is) (subst (HaveBodyBlocks table (evaluated_instances (statements_at table c.args.block)))
    (sym c.in_ok-from_slice-in-None.ensures.items) (c.instances.ensures table c.requires.listed))

pub returns-in-Some : goal.returns-in-Some
returns-in-Some c =
    let e = c.args.evaluation.now in
    let table = table_in e.source.now in
    let chosen = chosen_of c.in-Some.chosen.now in
    rw (c.in-Some.is) (chosen_numbered c.chosen_among.result c.candidates.result.now chosen
    c.chosen_among.ensures table (candidates_of (env_here e) chosen (statements_at table c.args.block)) c.candidates.ensures)
