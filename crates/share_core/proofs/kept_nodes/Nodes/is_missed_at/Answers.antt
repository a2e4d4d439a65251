use Rattle.std.proofs.Common.{rules, refl, ◌≡◌, ◌∙◌, ap, map, option_map, List, false}
use Rattle.std.specs.Arc.{arc_value}
use Rattle.share_core.specs.Views.{NodeProgress}
use Rattle.share_core.specs.Steps.{is_at, is_missed}
use Rattle.share_core.proofs.KeptLists.{says, says_not}
use Rattle.share_core.proofs.kept_nodes.Nodes.is_missed_at.Goals as goal

pub returns-then-waits : goal.returns-then-waits
returns-then-waits g c =
    says is_missed (λ v. refl) c.self.inside.states.items (map (λ x. option_map arc_value x) c.self.inside.have.items) c.args.node c.is_missed_in.result (search rules) (search rules)
    ∙ ap (λ (xs : List (NodeProgress g.row.V.Denot)). is_at is_missed xs c.args.node) c.self.view_is

pub returns-else-waits : goal.returns-else-waits
returns-else-waits g c =
    let no : c.waits.result ≡ false = search rules in
    no ∙ says_not is_missed (λ v. refl) c.self.inside.states.items (map (λ x. option_map arc_value x) c.self.inside.have.items) c.args.node (search rules)
    ∙ ap (λ (xs : List (NodeProgress g.row.V.Denot)). is_at is_missed xs c.args.node) c.self.view_is
