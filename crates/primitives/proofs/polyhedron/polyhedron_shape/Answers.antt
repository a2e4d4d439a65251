use Rattle.std.proofs.Common.{◌≡◌, ◌∙◌, sym, ap, subst, Err}
use Rattle.std.proofs.lemmas.Result.{err_from_is_err_and}
use Rattle.primitives.specs.Shapes.{Mesh, IsShape}
use Rattle.primitives.specs.Polyhedra.{polyhedron_of}
use Rattle.primitives.proofs.FirstFaults.{answers_stop}
use Rattle.primitives.proofs.lemmas.Solids.{shape_of}
use Rattle.primitives.proofs.polyhedron.polyhedron_shape.Goals as goal

pub returns-in_err-placed-clause-first_fault : goal.returns-in_err-placed-clause-first_fault
returns-in_err-placed-clause-first_fault c =
    let stop = c.in_err-placed.field-0.0 in
    let p = err_from_is_err_and c.from_residual.result c.from_residual.ensures.1 in
    answers_stop c.args.unit c.args.points.now c.args.faces.now stop c.in_err-placed.ensures.fault c.from_residual.result (p.1 ∙ ap Err p.2)

pub of-requires : goal.of-requires
of-requires c =
    let unit = c.args.unit in let points = c.args.points.now in let faces = c.args.faces.now in
    let h = c.in_ok-placed.ensures in
    let placed = c.in_ok-placed.placed.items in let copies = c.in_ok-copied.field-0.items in
    let m : Mesh = record { points = placed; faces = copies } in
    let same : polyhedron_of unit points faces ≡ m = λ i. record { points = sym h.points i; faces = sym c.in_ok-copied.ensures i } in
    subst IsShape same (shape_of unit points faces h.polyhedron h.body)
