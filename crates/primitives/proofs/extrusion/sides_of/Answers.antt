use Rattle.std.proofs.Common.{sym, ap, ◌∙◌}
use Rattle.primitives.proofs.lemmas.PrismLists.{side_added, side_skipped}
use Rattle.primitives.proofs.extrusion.sides_of.Goals as goal
use Rattle.primitives.proofs.extrusion.sides_of.Goals.{then-not-is_same_point+in_ok-side_of+in_ok-push, else-not-is_same_point}

pub loop-i-preserved : goal.loop-i-preserved
loop-i-preserved c =
    elim c.if-not-is_same_point.branch [
      | then-not-is_same_point+in_ok-side_of+in_ok-push w ↦
          side_added c.args.points.now c.loop-i.i c.next_point-next.result c.loop-i.sides.items c.if-not-is_same_point.sides.items w.in_ok-side_of.field-0
          c.loop-i.invariant c.next_point-next.ensures.value w.in_ok-side_of.ensures (sym c.is_same_point.ensures ∙ w.if-not-is_same_point.true) (ap (λ v. v.items) w.sides-is ∙ w.in_ok-push.ensures.items)
      | else-not-is_same_point w ↦
          side_skipped c.args.points.now c.loop-i.i c.next_point-next.result c.loop-i.sides.items c.if-not-is_same_point.sides.items
          c.loop-i.invariant c.next_point-next.ensures.value (sym c.is_same_point.ensures ∙ w.if-not-is_same_point.false) (ap (λ v. v.items) w.sides-is)
    ]
