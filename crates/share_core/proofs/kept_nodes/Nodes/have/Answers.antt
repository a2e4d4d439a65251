use Rattle.std.proofs.Common.{rules, ◌≡◌, ◌∙◌, ap, sym, map, option_map, List, length}
use Rattle.std.specs.Arc.{arc_value}
use Rattle.std.proofs.lemmas.List.{length-map}
use Rattle.share_core.specs.Views.{NodeProgress}
use Rattle.share_core.specs.Fields.{values_of}
use Rattle.share_core.proofs.KeptLists.{have_is}
use Rattle.share_core.proofs.kept_nodes.Nodes.have.Goals as goal

pub returns : goal.returns
returns g c =
    let l : length (map (λ x. option_map arc_value x) c.self.inside.have.items) ≡ length c.self.inside.states.items = length-map c.self.inside.have.items (λ x. option_map arc_value x) ∙ c.self.invariant in
    let slice : map (λ x. option_map arc_value x) c.as_slice.result.now ≡ (map (λ x. option_map arc_value x) c.self.inside.have.items) = search rules in
    slice ∙ sym (have_is c.self.inside.states.items (map (λ x. option_map arc_value x) c.self.inside.have.items) l) ∙ ap (λ (xs : List (NodeProgress g.row.V.Denot)). values_of xs) c.self.view_is
