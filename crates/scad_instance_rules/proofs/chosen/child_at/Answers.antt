use Rattle.std.proofs.Common.{[], ◌∷◌, sym, ap, ◌∙◌, arith}
use Rattle.std.proofs.lemmas.Int.{ints, to_z-of_z}
use mir.Syntax.{w128}
use Rattle.scad_instance_rules.proofs.NumberedItems.{none_below, none_past, one_there}
use Rattle.scad_instance_rules.proofs.chosen.child_at.Goals as goal
use Rattle.scad_instance_rules.proofs.chosen.child_at.Goals.{then-number-lt0-via-then-number-lt0, then-number-lt0-via-else-number-lt0+then-number-children}

pub returns-then-number-lt0 : goal.returns-then-number-lt0
returns-then-number-lt0 g c = elim c.then-number-lt0.branch [
  | then-number-lt0-via-then-number-lt0 w ↦ sym (none_below c.args.children.now c.args.number (omega (arith, ints)))
  | then-number-lt0-via-else-number-lt0+then-number-children w ↦ sym (none_past c.args.children.now c.args.number (omega (arith, ints)))
]

pub returns : goal.returns
returns g c =
    let number = to_z-of_z w128 c.args.number c.ranges.number in
    let is = simp number at c.index-children-number.is in
    ap (λ (x : g.row.T.Denot). x ∷ []) is
    ∙ sym (one_there c.args.children.now c.args.number c.index-children-number.result (omega (arith, ints)) (omega (arith, ints)))
