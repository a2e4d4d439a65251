use Rattle.std.proofs.Common.{refl}
use Rattle.scad_modules.specs.Reading.{vector_in}
use Rattle.scad_modules.proofs.Fronts.{read_more, read_none, read_all}
use Rattle.scad_modules.proofs.lists.each_pair.Goals as goal

pub loop-value-preserved : goal.loop-value-preserved
loop-value-preserved c =
    let l = c.loop-value in
    rw c.in_ok-push.ensures.items (read_more (vector_in 2) c.args.values.now _ l.points.items l.value-index c.value-item.result c.in-Some.read
    c.loop-value-test.true c.value-item.is c.in-Some.ensures l.invariant)

pub returns-in_default : goal.returns-in_default
returns-in_default c =
    let l = c.loop-value in (
      read_none (vector_in 2) c.args.values.now _ l.points.items l.value-index c.value-item.result c.loop-value-test.true c.value-item.is
          c.in_default.ensures l.invariant,
      refl,
    )

pub returns : goal.returns
returns c = read_all (vector_in 2) c.args.values.now _ c.loop-value.points.items c.loop-value.value-index c.loop-value-test.false c.loop-value.invariant
