use Rattle.std.proofs.lemmas.Result.{err_from_is_err_and}
use Rattle.csg_tree.specs.Trees.{plain_tree_of}
use Rattle.script_server.proofs.Answered.{tree_answered, tree_wanted}
use Rattle.script_server.proofs.exporter.answer.Goals as goal

pub exported-requires-clause-allowed : goal.exported-requires-clause-allowed
exported-requires-clause-allowed g c κs within = c.requires.allowed.each (plain_tree_of c.in-Ok.tree) c.in-Ok.ensures.tree

pub returns-in-Err : goal.returns-in-Err
returns-in-Err g c = c.refused.ensures c.args.unit c.args.source.now c.args.client.now c.in-Err.ensures.fault

pub returns-in_err-exported-in-Ok : goal.returns-in_err-exported-in-Ok
returns-in_err-exported-in-Ok g c =
    let p = err_from_is_err_and c.from_residual.result c.from_residual.ensures.1 in
    rw p.1
    (tree_wanted c.args.unit c.args.source.now (plain_tree_of c.in-Ok.tree) p.0 c.args.client.now c.exported.new.client
    c.in-Ok.ensures.tree c.in_err-exported-in-Ok.ensures.probed c.exported.ensures.asked)

pub returns-in_ok-exported-in-Ok : goal.returns-in_ok-exported-in-Ok
returns-in_ok-exported-in-Ok g c =
    tree_answered c.texts_of_sources_are_watertight.ensures c.args.unit c.args.source.now (plain_tree_of c.in-Ok.tree) _ c.reply.result c.args.client.now c.exported.new.client
    c.in-Ok.ensures.tree c.reply.ensures c.in_ok-exported-in-Ok.ensures.exported c.in_ok-exported-in-Ok.ensures.boundary c.in_ok-exported-in-Ok.ensures.probed c.exported.ensures.asked
