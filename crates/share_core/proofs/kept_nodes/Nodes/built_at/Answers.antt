use Rattle.std.proofs.Common.{rules, refl, ◌≡◌, ◌∙◌, ap, sym, subst, map, option_map, List, true, false, Some}
use Rattle.std.specs.Prelude.{Option, MatchOption, slice_get}
use Rattle.std.specs.Option.{option_map_or}
use Rattle.std.specs.Arc.{arc_value}
use Rattle.share_core.specs.Views.{NodeProgress, Built}
use Rattle.share_core.specs.KeptNodes.{is_waiting, state_of}
use Rattle.share_core.specs.Steps.{is_at, is_built}
use Rattle.share_core.proofs.KeptLists.{says_not, waiting_is}
use Rattle.share_core.proofs.kept_nodes.Nodes.built_at.Goals as goal

pub returns-then-not-waits : goal.returns-then-not-waits
returns-then-not-waits g c =
    sym (says_not is_built (λ v. refl) c.self.inside.states.items (map (λ x. option_map arc_value x) c.self.inside.have.items) c.args.node (search rules)
    ∙ ap (λ (xs : List (NodeProgress g.row.V.Denot)). is_at is_built xs c.args.node) c.self.view_is)

pub returns : goal.returns
returns g c =
    let waits : is_waiting (map (λ x. option_map arc_value x) c.self.inside.have.items) c.args.node ≡ true = search rules in
    let states : MatchOption c.built_in.result (option_map_or is_built (slice_get (map state_of c.self.inside.states.items) c.args.node) false ≡ false) (λ r. slice_get (map state_of c.self.inside.states.items) c.args.node ≡ Some (Built (arc_value r.0.now) r.1)) = search rules in
    subst (λ (o : Option (NodeProgress g.row.V.Denot)). MatchOption c.built_in.result (option_map_or is_built o false ≡ false) (λ r. o ≡ Some (Built (arc_value r.0.now) r.1)))
    (sym (waiting_is c.self.inside.states.items (map (λ x. option_map arc_value x) c.self.inside.have.items) c.args.node waits) ∙ ap (λ (xs : List (NodeProgress g.row.V.Denot)). slice_get xs c.args.node) c.self.view_is) states
