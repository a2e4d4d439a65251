use Rattle.std.proofs.Common.{◌≡◌, length, ◌∙◌}
use Rattle.link_forest.specs.Forests.{IsLinkOf, node_id}
use Rattle.link_forest.proofs.lemmas.Longer.{node_pushed}
use Rattle.link_forest.proofs.forest.Forest.add_reserved.Goals as goal

pub returns-clause-adds : goal.returns-clause-adds
returns-clause-adds g c =
    let nodes = c.self.inside.entries.items in
    let behind : IsLinkOf nodes c.args.behind = rw (← c.self.view_is) at c.requires.behind in
    let ahead : IsLinkOf nodes c.args.ahead = rw (← c.self.view_is) at c.requires.ahead in
    let number : c.len-index.result ≡ length nodes = c.len-index.ensures ∙ c.self.inside.entries.ok.0 in
    rw (← c.self.view_is) (node_pushed nodes c.push_reserved.new.self.items c.args.payload c.args.behind c.args.ahead (node_id c.len-index.result) c.self.invariant behind ahead c.push_reserved.ensures.items number)
