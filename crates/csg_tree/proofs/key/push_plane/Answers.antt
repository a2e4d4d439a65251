use Rattle.std.proofs.Common.{rules, append_assoc, w64, to_z-of_z, FitsSigned}
use Rattle.csg_tree.proofs.key.push_plane.Goals as goal

pub returns : goal.returns
returns c =
    let a : FitsSigned w64 c.plane.inside.a = search rules in
    let b : FitsSigned w64 c.plane.inside.b = search rules in
    let e : FitsSigned w64 c.plane.inside.c = search rules in
    let d : FitsSigned w64 c.plane.inside.d = search rules in
    rw (c.in_ok-push_number-4.ensures, c.in_ok-push_number-3.ensures, c.in_ok-push_number-2.ensures, c.in_ok-push_number.ensures, ← c.plane.view_is)
    (simp (append_assoc, to_z-of_z))
