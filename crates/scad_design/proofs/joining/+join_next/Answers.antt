use Rattle.std.proofs.Common.{◌≤◌, ◌-◌, ◌/◌, List, map, take, ap, ap₂, sym, ◌∙◌, arith}
use Rattle.std.proofs.lemmas.Result.{IfOk-weaker}
use Rattle.std.specs.Vec.Iter.{into_iter_items}
use Rattle.scad_design.specs.declared.design.Design.{Design}
use Rattle.scad_design.specs.Designs.{balanced_join, join}
use Rattle.scad_design.specs.View.{plain_of}
use Rattle.scad_design.proofs.Halves.{next_halves}
use Rattle.scad_design.proofs.joining.+join_next.Goals as goal

pub returns-clause-joined : goal.returns-clause-joined
returns-clause-joined t c =
    let n = c.args.count in
    let op = c.args.op in
    let designs = into_iter_items c.args.designs.now in
    let two : 2 ≤ n = omega arith in
    let halves = next_halves plain_of op n designs two c.requires in
    let next = ap (λ (ys : List Design). balanced_join op (map plain_of (take (n - n / 2) ys)))
    c.in_ok-first.ensures.rest in
    IfOk-weaker c.join.result _ _
    (λ design e. e ∙ ap₂ (join op) c.in_ok-first.ensures.joined (c.in_ok-rest.ensures.joined ∙ next)
    ∙ sym halves)
    c.join.ensures
