use Rattle.std.proofs.Common.{List, ◌∷◌, ◌++◌, ap, ◌∙◌, flat_map, length, subst, codes}
use Rattle.plain_text.specs.Decimals.{numeral}
use Rattle.plane_predicate.specs.Space.{Coordinates}
use Rattle.plane_polygon.specs.Polygons.{Outline}
use Rattle.off_text.specs.Reading.{vertex_line}
use Rattle.off_text.specs.FaceNumbers.{lines_of}
use Rattle.off_text.proofs.Drawn.{text_prints}
use Rattle.off_text.proofs.FacesOfFacets.{boundary}
use Rattle.off_text.proofs.Lines.{lines_text}
use Rattle.off_text.proofs.OwnLines.{own_lines}
use Rattle.off_text.specs.Prints.{Prints}
use Rattle.off_text.proofs.text.off_bytes.Goals as goal

pub returns-clause-text : goal.returns-clause-text
returns-clause-text c =
    lines_text c.args.unit c.args.facets.now c.in_ok-part.part.vertices.keys (lines_of c.in_ok-part.part.faces) c.in_ok-write_text.field-0.items
    (own_lines c.args.unit c.args.facets.now c.in_ok-part.part.vertices.keys c.in_ok-part.part.faces c.in_ok-part.ensures)
    (c.in_ok-write_text.ensures
    ∙ ap (λ (v : List Coordinates). ((((codes "4OFF\n" ++ numeral (length v)) ++ 32 ∷ numeral (length c.args.facets.now)) ++ codes " 0\n") ++ flat_map vertex_line v) ++ lines_of c.in_ok-part.part.faces)
    c.as_slice.ensures.keys)

pub returns-clause-prints : goal.returns-clause-prints
returns-clause-prints c = text_prints c.args.unit c.args.facets.now c.in_ok-write_text.field-0.items c.in_ok-part.ensures.numbered.all_polygons (returns-clause-text c)

pub returns-clause-boundary : goal.returns-clause-boundary
returns-clause-boundary c =
    λ f proper same. boundary c.args.unit f c.in_ok-write_text.field-0.items proper
    (subst (λ (polygons : List Outline). Prints c.args.unit polygons c.in_ok-write_text.field-0.items) same
    (returns-clause-prints c))
