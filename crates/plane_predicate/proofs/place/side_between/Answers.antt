use Rattle.std.proofs.Common.{rules, FitsSigned, to_z-of_z, ap₂, ◌∙◌, ℤ, ◌-ℤ◌}
use Rattle.plane_predicate.specs.Sides.{side_of}
use Rattle.plane_predicate.proofs.Places.{side_at_line}
use mir.Syntax.{w64, w128}
use Rattle.plane_predicate.proofs.place.side_between.Goals as goal

pub returns : goal.returns
returns c p m q r line h one other =
    let f1 : FitsSigned w128 c.product.result = search rules in
    let f2 : FitsSigned w128 c.product-2.result = search rules in
    let g1 : FitsSigned w64 c.args.begins.at = search rules in
    let g2 : FitsSigned w64 c.args.begins.along = search rules in
    let g3 : FitsSigned w64 c.args.ends.at = search rules in
    let g4 : FitsSigned w64 c.args.ends.along = search rules in
    let e = simp to_z-of_z at c.side_past.ensures in
    let v1 = simp to_z-of_z at c.product.ensures in
    let v2 = simp to_z-of_z at c.product-2.ensures in
    e ∙ ap₂ (λ (x y : ℤ). side_of (x -ℤ y)) v1 v2 ∙ side_at_line p m q r line c.args.ends c.args.begins h one other
