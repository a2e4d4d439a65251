use Rattle.std.proofs.Common.{rules, w64, to_z-of_z, FitsSigned, refl}
use Rattle.csg_tree.proofs.naming.bytes_of_plane.Goals as goal

pub returns : goal.returns
unfolding Rattle.csg_tree.specs.Keys.number_bytes
returns c =
    let a : FitsSigned w64 c.plane.inside.a = search rules in
    let b : FitsSigned w64 c.plane.inside.b = search rules in
    let e : FitsSigned w64 c.plane.inside.c = search rules in
    let d : FitsSigned w64 c.plane.inside.d = search rules in
    rw (
      c.to_be_bytes-a.ensures,
      c.to_be_bytes-b.ensures,
      c.to_be_bytes-c.ensures,
      c.to_be_bytes-d.ensures,
      ← c.plane.view_is,
      to_z-of_z a,
      to_z-of_z b,
      to_z-of_z e,
      to_z-of_z d,
    )
    refl
