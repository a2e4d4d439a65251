use Rattle.std.proofs.Common.{rules, refl, ◌≡◌, option_map, None, replicate}
use Rattle.std.specs.Arc.{arc_value}
use Rattle.share_core.specs.declared.kept_nodes.NodeState.TheVariants as state
use Rattle.share_core.proofs.KeptLists.{unasked_nodes}
use Rattle.share_core.proofs.kept_nodes.Nodes.new.Goals as goal

pub returns : goal.returns
returns g c =
    let states : c.loop-index.states.items ≡ replicate c.args.count state.Unasked = search rules in
    let have : c.loop-index.have.items ≡ replicate c.args.count None = search rules in
    rw states (rw have (unasked_nodes (λ x. option_map arc_value x) None refl c.args.count))
