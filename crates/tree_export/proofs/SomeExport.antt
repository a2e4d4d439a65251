-- A tree has an export, and a text is its boundary, where its facets have reduced corners.
use Rattle.std.proofs.Common.{ℕ, ◌<◌, ◌≤◌, inl, inr, List, length, refl}
use Rattle.std.proofs.lemmas.Bool.{cases_lt}
use Rattle.plane_predicate.specs.declared.unit.Unit.{Unit as LengthUnit}
use Rattle.plane_predicate.specs.Space.{Coordinates}
use Rattle.plane_polygon.specs.Polygons.{Outline}
use Rattle.csg_tree.specs.HalfSpaceTrees.{Tree}
use Rattle.csg_tree.specs.Numberings.{nodes_of}
use Rattle.bsp_boolean.specs.Solids.{solid_of}
use Rattle.facet_cut.specs.Facets.{facets_of}
use Rattle.off_text.specs.Bounding.{IsBoundary}
use Rattle.off_text.specs.Texts.{corner_count, most_corners, most_vertices, text_of_faces, vertices_of, AreCornersOf, HasVertices, IsTextOf}
use Rattle.export_limits.specs.declared.passed.PassedLimit.TheVariants as limit
use Rattle.tree_export.specs.declared.export.TreeExport.{TreeExport}
use Rattle.tree_export.specs.declared.export.TreeExport.TheVariants as exported
use Rattle.tree_export.specs.Exports.{most_facets, IsTextOutcome, IsFacetOutcome, IsExported, IsBoundaryText}
use Rattle.tree_export.proofs.FirstPassed.{IsSettled}

module _ (unit : LengthUnit) (tree : Tree) (faces : List (List Coordinates)) (corners : AreCornersOf unit (facets_of (solid_of tree)) faces)
    (boundary : (bytes : List ℕ) → IsTextOf unit (facets_of (solid_of tree)) bytes → IsBoundary unit bytes tree) where
  abbrev facets : List Outline
  facets = facets_of (solid_of tree)

  -- something that the export may be, of which a text is the boundary
  abbrev Some : (TreeExport → Type 0) → Type 0
  Some P = (out : TreeExport) × P out × IsBoundaryText unit tree out

  counted : (P : ℕ → Type 0) → P (length (vertices_of faces)) → HasVertices unit P facets
  counted P count = record { faces = faces; corners = corners; count = count }

  text : IsTextOf unit facets (text_of_faces faces)
  text = record { faces = faces; corners = corners; spelled = refl }

  some_written : Some (IsTextOutcome unit facets)
  some_written =
      elim (cases_lt most_corners (corner_count facets)) [
        | inl many ↦ (exported.PassedLimit limit.Corners, inl (many, refl), tt)
        | inr short ↦
            elim (cases_lt most_vertices (length (vertices_of faces))) [
              | inl many ↦ (exported.PassedLimit limit.Vertices, inr (short, inl (counted (λ n. most_vertices < n) many, refl)), tt)
              | inr few ↦ (
                exported.Text (text_of_faces faces),
                inr (short, inr (counted (λ n. n ≤ most_vertices) few, (text_of_faces faces, text, refl))),
                boundary (text_of_faces faces) text,
              )
            ]
      ]

  some_cut : Some (IsFacetOutcome unit facets)
  some_cut =
      elim (cases_lt most_facets (length facets)) [
        | inl many ↦ (exported.PassedLimit limit.Facets, inl (many, refl), tt)
        | inr few ↦ let written = some_written in (written.0, inr (few, written.1), written.2)
      ]

  pub some_export : IsSettled (nodes_of tree) (nodes_of tree) → Some (IsExported unit tree)
  some_export (inl within) = let cut = some_cut in (cut.0, inr (within, cut.1), cut.2)
  some_export (inr passed) = (exported.PassedLimit passed.0, inl (passed.0, passed.1, refl), tt)
