use Rattle.std.proofs.Common.{◌∙◌, ◌+◌, ap, sym, List, ℕ, flat_map, length, arith}
use Rattle.scad_hull.specs.Hulls.{numbers_between, triples_by}
use Rattle.scad_hull.specs.Steps.{with_triples}
use Rattle.scad_hull.proofs.Found.{pair_next}
use Rattle.scad_hull.proofs.faces.push_from.Goals as goal

pub loop-second-preserved : goal.loop-second-preserved
loop-second-preserved c =
    let points = c.args.points.now in
    let n = length points in
    let i = c.args.first in
    let j = c.loop-second.second in (
      ap (λ (fs : List (List ℕ)). with_triples points fs (flat_map (triples_by n i) (numbers_between (j + 1) n))) c.in_ok-push_by.ensures.faces ∙ sym (pair_next points c.loop-second.found.faces.items n i j (omega arith)) ∙ c.loop-second.invariant.0,
      c.in_ok-push_by.ensures.found,
      c.push_by.ensures.around,
    )
