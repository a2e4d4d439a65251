use Rattle.std.proofs.Common.{rules, refl, to_z-of_z, FitsSigned, w64}
use Rattle.scad_modules.specs.Reading.{number_in_value}
use Rattle.scad_modules.proofs.Fronts.{read_more, read_none, read_all}
use Rattle.scad_modules.proofs.lists.each_number.Goals as goal

pub loop-value-preserved : goal.loop-value-preserved
loop-value-preserved c =
    let l = c.loop-value in
    let fits : FitsSigned w64 c.in-Some.read = search rules in
    rw (c.in_ok-push.ensures.items, to_z-of_z fits) (read_more number_in_value c.args.values.now _ l.numbers.items l.value-index c.value-item.result c.in-Some.read
    c.loop-value-test.true c.value-item.is c.in-Some.ensures l.invariant)

pub returns-in_default : goal.returns-in_default
returns-in_default c =
    let l = c.loop-value in
    (read_none number_in_value c.args.values.now _ l.numbers.items l.value-index c.value-item.result c.loop-value-test.true c.value-item.is c.in_default.ensures l.invariant, refl)

pub returns : goal.returns
returns c = read_all number_in_value c.args.values.now _ c.loop-value.numbers.items c.loop-value.value-index c.loop-value-test.false c.loop-value.invariant
