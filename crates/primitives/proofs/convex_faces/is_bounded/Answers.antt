use Rattle.std.proofs.Common.{rules, ◌≡◌, sym, subst, All}
use Rattle.primitives.specs.DirectedEdges.{edges_of_mesh_face, IsEdgeOnGrid}
use Rattle.primitives.proofs.Rounds.{ways_on_grid}
use Rattle.primitives.proofs.convex_faces.is_bounded.Goals as goal

pub is_bounded_by-requires-clause-ways : goal.is_bounded_by-requires-clause-ways
is_bounded_by-requires-clause-ways c =
    let e : c.deref.result.now ≡ edges_of_mesh_face c.args.points.now c.args.face.now = search rules in
    record {
      are = e;
      grid = subst (All IsEdgeOnGrid) (sym e)
          (ways_on_grid c.args.points.now c.args.face.now c.requires.grid c.requires.face_there);
    }
