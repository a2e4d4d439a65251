use Rattle.plane_polygon.proofs.lemmas.Faces.{within_by_turns, turns_by_within}
use Rattle.plane_polygon.proofs.laws.within_is_left.Goals as goal

pub returns : goal.returns
returns c = λ s h p. (
  λ k. record { on = k.on; left = turns_by_within s h p k.on k.behind },
  λ k. record { on = k.on; behind = within_by_turns s h p k.on k.left },
)
