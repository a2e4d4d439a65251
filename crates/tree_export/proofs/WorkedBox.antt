-- A worked export: the solid of a box, its facets and their text, which compute.
use Rattle.std.proofs.Common.{◌≡◌, ℕ, ◌≤◌, List, [], ◌∷◌, length, map, refl, sym, arith, pos, inr}
use Rattle.std.proofs.lemmas.List.Elements.{All-nil, All-push}
use Rattle.plane_predicate.specs.declared.unit.Unit.TheVariants.{Whole}
use Rattle.tree_export.specs.declared.export.TreeExport.TheVariants as exported
use Rattle.plane_predicate.specs.Space.{Coordinates}
use Rattle.plane_predicate.proofs.lemmas.IntegerRing.{sums, one_mul}
use Rattle.csg_tree.specs.Numberings.{nodes_of}
use Rattle.bsp_boolean.specs.Solids.{solid_of}
use Rattle.bsp_boolean.specs.TreeSolids.{AreWithinSizeLimits, solid_size, total_size, most_solid_size, most_total_size}
use Rattle.plane_polygon.specs.Parts.{corners}
use Rattle.plane_polygon.specs.Polygons.{Outline, AreReducedFrom}
use Rattle.plane_predicate.specs.InUnits.{in_units}
use Rattle.off_text.proofs.lemmas.Factors.{whole_is_reduced}
use Rattle.off_text.specs.Texts.{AreCornersOf, HasVertices, IsTextOf, corner_count, most_corners, most_vertices, vertices_of, text_of_faces}
use Rattle.plain_text.specs.Decimals.{numeral}
use Rattle.facet_cut.specs.Facets.{facets_of}
use Rattle.tree_export.specs.Exports.{IsExported, most_facets}
use Rattle.tree_export.specs.Worked.{worked_box, worked_box_text}

abbrev faces : List (List Coordinates)
faces = map corners (facets_of (solid_of worked_box))

spelled : worked_box_text ≡ text_of_faces faces
unfolding numeral
spelled = refl

-- corners with a weight of 1 are reduced
abbrev AreWhole : List Coordinates → Type 0
AreWhole [] = Unit {0}
AreWhole (p ∷ ps) = (p.w ≡ pos 1) × AreWhole ps

reduced : (ps : List Coordinates) → AreWhole ps → AreReducedFrom (map (in_units Whole) ps) ps
reduced [] h = tt
reduced (p ∷ ps) h = (
  record { by = pos 1; above = omega (arith, sums); x = sym (one_mul p.x); y = sym (one_mul p.y); z = sym (one_mul p.z); w = refl },
  whole_is_reduced p h.0,
  reduced ps h.1,
)

abbrev AllWhole : List (List Coordinates) → Type 0
AllWhole [] = Unit {0}
AllWhole (ps ∷ faces) = AreWhole ps × AllWhole faces

whole : AllWhole faces
whole = ((refl, (refl, (refl, (refl, tt)))), ((refl, (refl, (refl, (refl, tt)))), ((refl, (refl, (refl, (refl, tt)))), ((refl, (refl, (refl, (refl, tt)))), ((refl, (refl, (refl, (refl, tt)))), ((refl, (refl, (refl, (refl, tt)))), tt))))))

corners_are : (ss : List Outline) → AllWhole (map corners ss) → AreCornersOf Whole ss (map corners ss)
corners_are [] h = tt
corners_are (s ∷ ss) h = (reduced (corners s) h.0, corners_are ss h.1)

box_corners : AreCornersOf Whole (facets_of (solid_of worked_box)) faces
box_corners = corners_are (facets_of (solid_of worked_box)) whole

at_most : (n k most : ℕ) → n ≡ k → k ≤ most → n ≤ most
at_most n k most e l = omega (arith, e, l)

within : AreWithinSizeLimits (nodes_of worked_box)
within = record {
  each = All-push (λ tree. solid_size tree ≤ most_solid_size) [] worked_box (All-nil (λ tree. solid_size tree ≤ most_solid_size)) (at_most (solid_size worked_box) 30 most_solid_size refl (omega arith));
  together = at_most (total_size (nodes_of worked_box)) 30 most_total_size refl (omega arith);
}

few_vertices : HasVertices Whole (λ n. n ≤ most_vertices) (facets_of (solid_of worked_box))
few_vertices = record { faces = faces; corners = box_corners; count = at_most (length (vertices_of faces)) 8 most_vertices refl (omega arith) }

is_text : IsTextOf Whole (facets_of (solid_of worked_box)) worked_box_text
is_text = record { faces = faces; corners = box_corners; spelled = spelled }

pub box_is_exported : IsExported Whole worked_box (exported.Text worked_box_text)
box_is_exported =
    inr (
      within,
      inr (
        at_most (length (facets_of (solid_of worked_box))) 6 most_facets refl (omega arith),
        inr (at_most (corner_count (facets_of (solid_of worked_box))) 24 most_corners refl (omega arith), inr (few_vertices, (worked_box_text, is_text, refl))),
      ),
    )
