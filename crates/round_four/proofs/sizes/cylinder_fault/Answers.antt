use Rattle.std.proofs.Common.{to_z-of_z}
use Rattle.round_four.proofs.sizes.cylinder_fault.Goals as goal

pub returns-clause-none : goal.returns-clause-none
returns-clause-none c =
    let body = simp (to_z-of_z, c.ranges.height, c.ranges.low_radius, c.ranges.high_radius) at c.if-not-has_body.ensures.all in
    let on_grid = simp (to_z-of_z, c.ranges.height) at c.if-not-is_on_grid.ensures.all in
    let range = simp (to_z-of_z, c.ranges.height, c.ranges.low_radius, c.ranges.high_radius) at c.if-not-is_in_range.ensures.all in
    λ e. record { body = body; on_grid = on_grid; range = range }
