use Rattle.std.proofs.Common.{◌∙◌, ap, subst, sym}
use Rattle.plane_predicate.specs.Space.{Coefficients, opposite_of, value}
use Rattle.plane_predicate.specs.Sides.{side_of}
use Rattle.plane_table.specs.Tables.{plane_named, NamesPlaneIn}
use Rattle.plane_table.proofs.Numbers.{opposite_in}
use Rattle.plane_table.proofs.Oriented.{back_opposite, opposite_alike}
use Rattle.plane_table.proofs.sorting.side_of_all.Goals as goal

pub plane-requires-then-direction-opposite_number : goal.plane-requires-then-direction-opposite_number
plane-requires-then-direction-opposite_number c =
    subst (NamesPlaneIn c.args.table.now) (sym c.opposite_number-then-direction-opposite_number.ensures) (opposite_in c.args.table.now c.args.of c.requires.of)

pub side_alike-requires-then-direction-opposite_number : goal.side_alike-requires-then-direction-opposite_number
side_alike-requires-then-direction-opposite_number c =
    let planes = c.args.table.now in
    let own = c.plane-then-direction-opposite_number.ensures ∙ ap (plane_named planes) c.opposite_number-then-direction-opposite_number.ensures in
    rw (own, c.plane-then-direction-opposite_number-2.ensures)
    (opposite_alike planes c.direction-direction.result c.direction-other.result c.args.of c.args.number c.direction-direction.ensures c.direction-other.ensures
    (c.if-direction-opposite_number.true ∙ c.opposite_number.ensures))

pub returns-then-direction-opposite_number : goal.returns-then-direction-opposite_number
returns-then-direction-opposite_number c v h e =
    let planes = c.args.table.now in
    let own = ap opposite_of (c.plane-then-direction-opposite_number.ensures ∙ ap (plane_named planes) c.opposite_number-then-direction-opposite_number.ensures) ∙ back_opposite planes c.args.of in
    c.side_alike-then-direction-opposite_number.ensures.opposite v h (ap (λ (m : Coefficients). value m v) own ∙ e)
    ∙ ap (λ (m : Coefficients). side_of (value m v)) c.plane-then-direction-opposite_number-2.ensures
