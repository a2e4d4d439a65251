use Rattle.std.proofs.Common.{append-nil, sym}
use Rattle.bsp_tree.proofs.lemmas.SheetFaces.{face_is}
use Rattle.facet_cut.proofs.Nodes.{end_facets}
use Rattle.facet_cut.proofs.walls.Walls.+push_facets.Goals as goal

pub push_between-requires-clause-face : goal.push_between-requires-clause-face
push_between-requires-clause-face t c = face_is _ _ _ _ _ _ c.requires.faces c.at-behind.ensures

pub returns-in-End : goal.returns-in-End
returns-in-End t c =
    let w = c.args.self.now in
    rw (c.in-End.is, end_facets w.table.now w.forest.now.nodes c.in-End.field-0)
    (sym (append-nil c.args.found.now.items), c.requires.within)
