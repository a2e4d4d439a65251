use Rattle.std.proofs.Common.{◌≡◌, refl, length, get_or, false, arith}
use Rattle.plane_table.proofs.Joins.{kept_more, kept_all}
use Rattle.plane_table.proofs.renumbering.keep_used.Goals as goal

pub loop-i-preserved : goal.loop-i-preserved
loop-i-preserved c =
    let planes = c.args.planes.now in
    let used = c.args.used.now in
    let i = c.loop-i.i in
    kept_more planes used c.loop-i.kept.items c.keep.new.kept.items c.loop-i.numbers.items c.push.new.self.items i c.in_ok-keep.field-0 (get_or used i false) c.index-planes-i.result
    c.loop-i.invariant c.requires.apart c.loop-i-test.true refl c.index-planes-i.is c.in_ok-keep.ensures c.in_ok-push.ensures.items

pub returns-clause-numbers : goal.returns-clause-numbers
returns-clause-numbers c =
    let e : c.loop-i.i ≡ length c.args.planes.now = omega arith in
    kept_all c.args.planes.now c.args.used.now c.loop-i.kept.items c.loop-i.numbers.items c.loop-i.i c.loop-i.invariant e
