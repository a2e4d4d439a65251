use Rattle.std.proofs.Common.{rules, ◌≢◌, pos, w64, to_z-of_z, FitsSigned}
use Rattle.plane_predicate.specs.Space.{Coefficients}
use Rattle.plane_polygon.proofs.lemmas.BoxPoints.{start_x}
use Rattle.plane_polygon.proofs.boxes.over_x.Goals as goal

pub four_edges-requires : goal.four_edges-requires
four_edges-requires c =
    let n : Coefficients = record { a = c.plane.inside.a; b = c.plane.inside.b; c = c.plane.inside.c; d = c.plane.inside.d } in
    let fits : FitsSigned w64 c.plane.inside.a = search rules in
    let some : n.a ≢ pos 0 = rw (← c.plane.view_is) at c.requires in
    rw (c.low_y.ensures, c.low_z.ensures, c.high_y.ensures, c.high_z.ensures, ← c.plane.view_is) (simp to_z-of_z (start_x n some))
