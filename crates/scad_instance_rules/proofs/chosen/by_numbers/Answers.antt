use Rattle.std.proofs.Common.{List, ◌++◌, get_or, ℤ, pos, Vec, Global, sym, ap, ◌∙◌, rules}
use Rattle.std.proofs.lemmas.List.{append-nil}
use mir.Syntax.{w64}
use mir.Val.{SFits}
use Rattle.scad_meaning.specs.Loops.{item_numbered}
use Rattle.scad_instance_rules.proofs.Crossing.{one_taken}
use Rattle.scad_instance_rules.proofs.RangeNumbers.{widened}
use Rattle.scad_instance_rules.proofs.chosen.by_numbers.Goals as goal
use Rattle.scad_instance_rules.proofs.chosen.by_numbers.Goals.{in-Some+in_ok-push-in-Some, in-None}

pub loop-number-preserved : goal.loop-number-preserved
loop-number-preserved g c =
    let xs = c.args.children.now in
    let ns = c.args.numbers.now in
    let i = c.loop-number.number-index in
    let old = c.loop-number.found.items in
    let fits : SFits w64 (get_or ns i (pos 0)) = search rules in
    let number = ap (λ (z : ℤ). old ++ item_numbered xs z) (widened (get_or ns i (pos 0)) fits) in
    let more = number ∙ one_taken xs ns i old (pos 0) c.loop-number-test.true c.loop-number.invariant in
    elim c.match-child_at.branch [
      | in-Some+in_ok-push-in-Some w ↦ ap (λ (v : Vec g.row.T.Denot Global). v.items) w.found-is ∙ w.in_ok-push-in-Some.ensures.items
          ∙ ap (λ (ys : List g.row.T.Denot). old ++ ys) w.in-Some.ensures ∙ more
      | in-None w ↦ ap (λ (v : Vec g.row.T.Denot Global). v.items) w.found-is ∙ sym (append-nil old)
          ∙ ap (λ (ys : List g.row.T.Denot). old ++ ys) w.in-None.ensures ∙ more
    ]
