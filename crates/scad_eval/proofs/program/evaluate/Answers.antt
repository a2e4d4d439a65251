use Rattle.std.proofs.lemmas.Result.{err_from_is_err_and}
use Rattle.scad_ast.specs.ProgramView.{program_of}
use Rattle.scad_eval.proofs.Programs.{design_stop_held, placed_tree, placing_stop, proper_tree}
use Rattle.scad_meaning.proofs.lemmas.ProgramPlaces.{result_held}
use Rattle.scad_eval.proofs.program.evaluate.Goals as goal

pub returns-clause-tree : goal.returns-clause-tree
returns-clause-tree c =
    placed_tree c.args.unit (program_of c.args.program.now) c.in_ok-design.design
    (c.in_ok-design.ensures (program_of c.args.program.now) c.in_ok-source.ensures.table) c.place.result c.place.ensures.tree

pub returns-clause-stop : goal.returns-clause-stop
returns-clause-stop c =
    placing_stop c.args.unit (program_of c.args.program.now) c.in_ok-design.design
    (c.in_ok-design.ensures (program_of c.args.program.now) c.in_ok-source.ensures.table) c.place.result c.place.ensures.stop

pub returns-in_err-design-clause-place : goal.returns-in_err-design-clause-place
returns-in_err-design-clause-place c =
    let p = err_from_is_err_and c.from_residual-in_err-design.result c.from_residual-in_err-design.ensures.1 in
    rw (p.1, p.2) (design_stop_held c.args.unit (program_of c.args.program.now) c.in_err-design.field-0.0
    (c.in_err-design.ensures (program_of c.args.program.now) c.in_ok-source.ensures.table))

pub returns-clause-place : goal.returns-clause-place
returns-clause-place c =
    result_held c.args.unit (program_of c.args.program.now) c.place.result
    (placing_stop c.args.unit (program_of c.args.program.now) c.in_ok-design.design
    (c.in_ok-design.ensures (program_of c.args.program.now) c.in_ok-source.ensures.table) c.place.result c.place.ensures.stop)

pub returns-clause-proper : goal.returns-clause-proper
returns-clause-proper c =
    proper_tree c.args.unit (program_of c.args.program.now) c.in_ok-design.design
    (c.in_ok-design.ensures (program_of c.args.program.now) c.in_ok-source.ensures.table)
    (λ tree means. c.programs_mean_proper_trees.ensures c.args.unit (program_of c.args.program.now) tree means) c.place.result c.place.ensures.tree
