use Rattle.std.proofs.Common.{◌∙◌}
use Rattle.plane_table.proofs.Joins.{own_outline, own_face}
use Rattle.plane_table.proofs.numbering.own_face.Goals as goal

pub returns-clause-face : goal.returns-clause-face
returns-clause-face c =
    let found = c.in_ok-plane.ensures in
    let first = c.number_of.new.planes.items in
    let planes = c.in_ok-found.found.planes.items in
    let numbers = c.in_ok-found.found.numbers.items in
    let same = c.in_ok-edges.ensures ∙ c.deref.ensures.value in
    record {
      apart = c.in_ok-found.ensures.apart;
      face = own_face c.args.polygon.now first planes c.in_ok-plane.plane numbers c.in_ok-edges.edges c.plane.result.now c.edges.result.now
          found.in_range found.same c.plane.ensures c.in_ok-found.ensures.keeps c.in_ok-found.ensures.numbers c.edges.ensures same c.polygons_keep_their_form.ensures;
      outline = own_outline c.args.polygon.now first planes c.in_ok-plane.plane numbers c.in_ok-edges.edges c.plane.result.now c.edges.result.now
          found.in_range found.same c.plane.ensures c.in_ok-found.ensures.keeps c.in_ok-found.ensures.numbers c.edges.ensures same;
    }
