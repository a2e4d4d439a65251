use Rattle.std.proofs.Common.{rules, ◌<◌, ◌∙◌, ap, option_map, List, length, set}
use Rattle.std.specs.Arc.{arc_value}
use Rattle.share_core.specs.Views.{NodeProgress}
use Rattle.share_core.specs.KeptNodes.{client_node}
use Rattle.share_core.proofs.KeptLists.{place_within, nodes_put}
use Rattle.share_core.proofs.kept_nodes.Nodes.put.Goals as goal

pub index_mut-requires : goal.index_mut-requires
index_mut-requires g c =
    let lt : c.args.node < length c.self.inside.states.items = (place_within (λ x. option_map arc_value x) c.self.inside.states.items c.self.inside.have.items c.args.self.now c.args.node c.self.view_is c.self.invariant c.requires).0 in
    search rules

pub index_mut-requires-2 : goal.index_mut-requires-2
index_mut-requires-2 g c =
    let lt : c.args.node < length c.self.inside.have.items = (place_within (λ x. option_map arc_value x) c.self.inside.states.items c.self.inside.have.items c.args.self.now c.args.node c.self.view_is c.self.invariant c.requires).1 in
    search rules

pub returns : goal.returns
returns g c =
    nodes_put (λ x. option_map arc_value x) c.self.inside.states.items c.self.inside.have.items c.args.node c.args.state c.args.value
    ∙ ap (λ (xs : List (NodeProgress g.row.V.Denot)). set xs c.args.node (client_node c.args.state (option_map arc_value c.args.value))) c.self.view_is
