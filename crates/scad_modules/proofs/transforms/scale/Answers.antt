use Rattle.std.proofs.Common.{rules, ◌≡◌, Some}
use Rattle.scad_value.specs.BoundedView.{bounded_val}
use Rattle.scad_modules.specs.Reading.{factors_in}
use Rattle.scad_modules.proofs.Safe.{scale_safe}
use Rattle.scad_modules.proofs.transforms.scale.Goals as goal

pub scale-requires : goal.scale-requires
scale-requires c =
    let given = c.in_ok-required_argument.field-0.now in
    let read : factors_in (bounded_val given) ≡ Some c.in_ok-by.by = search rules in
    scale_safe c.args.inside given c.in_ok-by.by c.factors_for.result read c.factors_for.ensures
