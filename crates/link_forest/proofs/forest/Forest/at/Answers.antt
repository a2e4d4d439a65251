use Rattle.std.proofs.Common.{◌<◌, length}
use Rattle.link_forest.proofs.lemmas.Longer.{node_read}
use Rattle.link_forest.proofs.forest.Forest.at.Goals as goal

pub returns : goal.returns
returns g c =
    let nodes = c.self.inside.entries.items in
    let below : c.args.id.index < length nodes = rw (← c.self.view_is) at c.requires in
    rw (← c.self.view_is) (node_read nodes c.args.id c.index-entry.result.now c.self.invariant below c.index-entry.ensures)
