use Rattle.std.proofs.Common.{ℕ, ap, ◌∙◌}
use Rattle.std.proofs.lemmas.Int.{to_z-of_z}
use mir.Syntax.{w64}
use Rattle.scad_meaning.specs.Loops.{numbers_by}
use Rattle.scad_instance_rules.proofs.BoundedItems.{from_start}
use Rattle.scad_instance_rules.proofs.items.Numbers.of_range.Goals as goal

pub returns : goal.returns
returns c =
    let from = c.args.from in
    let by = c.args.by in
    let f = to_z-of_z w64 from c.ranges.from in
    let b = to_z-of_z w64 by c.ranges.by in
    let u = to_z-of_z w64 c.args.upto c.ranges.upto in
    let count = simp (f, b, u) at c.count_of_range.ensures in
    simp (f, b) (from_start c.count_of_range.result from by ∙ ap (λ (m : ℕ). numbers_by m from by) count)
