use Rattle.std.proofs.Common.{List, subst, rules}
use Rattle.int_transform.specs.declared.affine.Affine.{Affine}
use Rattle.primitives.specs.Shapes.{Mesh}
use Rattle.primitives.specs.Placing.{IsPlacingStop}
use Rattle.primitives.specs.declared.stop.ShapeStop.TheVariants.{Kind}
use Rattle.scad_design.proofs.PartFaults.{range_fault}
use Rattle.scad_design.proofs.placing.planes_of.Goals as goal

pub returns-in-Err-Kind-clause-stop : goal.returns-in-Err-Kind-clause-stop
returns-in-Err-Kind-clause-stop c =
    let kind = c.in-Err-Kind.kind in
    let steps = c.steps.result.now in
    let part = c.args.part.now in
    let stop : IsPlacingStop steps c.shape.result.now.points (Kind kind) = search rules in
    let of_mesh : IsPlacingStop steps part.mesh.points (Kind kind) =
    subst (λ (m : Mesh). IsPlacingStop steps m.points (Kind kind)) c.shape.ensures stop in
    let of_part : IsPlacingStop part.steps part.mesh.points (Kind kind) =
    subst (λ (s : List Affine). IsPlacingStop s part.mesh.points (Kind kind)) c.steps.ensures of_mesh in
    rw (c.at.ensures) (λ known. range_fault part known kind of_part, c.place-in-Err-Kind.ensures)
