use Rattle.std.proofs.Common.{[], ap, get_or, of_z, w64}
use Rattle.int_transform.specs.Maps.{row_of}
use Rattle.int_transform.proofs.lemmas.Regular.{matrix_rows}
use Rattle.int_transform.proofs.step.Step.matrix.Goals as goal

pub invariant_of-result : goal.invariant_of-result
invariant_of-result c =
    matrix_rows
    c.row.result
    c.row-2.result
    c.row-3.result
    (row_of (get_or c.args.rows 0 []))
    (row_of (get_or c.args.rows 1 []))
    (row_of (get_or c.args.rows 2 []))
    c.determinant.result
    c.row.ensures
    c.row-2.ensures
    c.row-3.ensures
    c.determinant.ensures
    c.requires
    (λ e. c.if-determinant-eq0.false (ap (of_z w64) e))
