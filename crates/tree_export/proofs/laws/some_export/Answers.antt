use Rattle.std.proofs.lemmas.List.Elements.{All-weaker}
use Rattle.plane_polygon.specs.Polygons.{IsPolygon}
use Rattle.csg_tree.specs.Numberings.{nodes_of}
use Rattle.bsp_tree.specs.Cells.{world_box}
use Rattle.bsp_boolean.specs.Solids.{solid_of}
use Rattle.facet_cut.specs.Facets.{facets_of}
use Rattle.facet_cut.specs.Sides.{IsFacetOf}
use Rattle.tree_export.proofs.FirstPassed.{some_passed}
use Rattle.tree_export.proofs.SomeExport as law
use Rattle.tree_export.proofs.laws.some_export.Goals as goal

pub returns : goal.returns
returns c = λ unit tree proper.
    let solid = solid_of tree in
    let facets = facets_of solid in
    let polygons = All-weaker (IsFacetOf world_box solid) IsPolygon (λ s facet. facet.polygon) facets
    (c.facets_are_polygons.ensures.facets world_box solid (c.solids_are_their_trees.ensures tree proper).world) in
    let found = c.some_corners.ensures unit facets polygons in
    law.some_export unit tree found.0 found.1
    (λ bytes text. c.texts_are_boundaries.ensures unit tree bytes proper (c.texts_print_polygons.ensures unit facets bytes polygons text))
    (some_passed (nodes_of tree) (c.one_tree_more.ensures.within (nodes_of tree)))
