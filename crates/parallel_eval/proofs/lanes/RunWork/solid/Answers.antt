use Rattle.std.proofs.Common.{ap, ◌∙◌}
use Rattle.bsp_tree.specs.Shapes.{tree_of}
use Rattle.parallel_eval.proofs.Running.{solid_at}
use Rattle.parallel_eval.proofs.lanes.RunWork.solid.Goals as goal

pub returns : goal.returns
returns g c =
    let work = c.args.self.now in
    let trees = work.store.now in
    ap tree_of c.deref.ensures
    ∙ solid_at trees work.start work.solids.now work.nodes.now c.args.number c.index-self-number.result
    c.requires.run (c.one_tree_more.ensures.numbered trees) c.requires.number.0 c.requires.number.1
