use Rattle.std.proofs.Common.{rules, to_z-of_z, FitsSigned, w64}
use Rattle.primitives.proofs.lemmas.CornersBehind.{map_false}
use Rattle.round_four.proofs.Near.{not_near}
use Rattle.round_four.proofs.sizes.is_in_range.Goals as goal

pub returns-clause-none : goal.returns-clause-none
returns-clause-none c =
    let low = simp (to_z-of_z, c.ranges.low_radius) at c.in_steps.ensures in
    let high = simp (to_z-of_z, c.ranges.high_radius) at c.in_steps-2.ensures in
    let first = simp (to_z-of_z, c.ranges.height) at c.ends_of.ensures.low in
    let last = simp (to_z-of_z, c.ranges.height) at c.ends_of.ensures.high in
    let fl : FitsSigned w64 c.in_steps.result = search rules in
    let fh : FitsSigned w64 c.in_steps-2.result = search rules in
    let far = simp to_z-of_z at c.are_near.ensures.none in
    map_false c.are_near.result _ _ (not_near _ _ _ _ _ _ _ _ low high first last) far
