use Rattle.std.proofs.Common.{rules, refl, ap, ◌∙◌, Some, option_map, to_z-of_z, FitsSigned, w64}
use Rattle.scad_modules.specs.Reading.{corner_in, corner_number}
use Rattle.scad_modules.proofs.Fronts.{read_more, read_none, read_all}
use Rattle.scad_modules.proofs.lists.each_corner.Goals as goal

pub loop-value-preserved : goal.loop-value-preserved
loop-value-preserved c =
    let l = c.loop-value in
    let fits : FitsSigned w64 c.in-Some.read = search rules in
    let corner = ap (λ n. Some n) (c.corner_number.ensures ∙ ap corner_number (to_z-of_z fits)) ∙ ap (option_map corner_number) c.in-Some.ensures in
    rw c.in_ok-push.ensures.items (read_more corner_in c.args.values.now _ l.corners.items l.value-index c.value-item.result c.corner_number.result
    c.loop-value-test.true c.value-item.is corner l.invariant)

pub returns-in_default : goal.returns-in_default
returns-in_default c =
    let l = c.loop-value in (
      read_none corner_in c.args.values.now _ l.corners.items l.value-index c.value-item.result c.loop-value-test.true c.value-item.is
          (ap (option_map corner_number) c.in_default.ensures) l.invariant,
      refl,
    )

pub returns : goal.returns
returns c = read_all corner_in c.args.values.now _ c.loop-value.corners.items c.loop-value.value-index c.loop-value-test.false c.loop-value.invariant
