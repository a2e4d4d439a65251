-- What the export of a tree gives: the first limit that it passes, or else the text of its boundary.
use Rattle.std.specs.Prelude.{◌≡◌, ℕ, ◌<◌, ◌≤◌, List, ◌++◌, length, codes, ◌⊎◌, Result, IfOk, OnOk, IfErr}
use Rattle.std.specs.Arc.{arc_value}
use Rattle.std.specs.Global.{Global}
use Rattle.std.specs.declared.sync.Arc.{Arc}
use Rattle.plane_predicate.specs.declared.unit.Unit.{Unit as LengthUnit}
use Rattle.plane_polygon.specs.Polygons.{Outline}
use Rattle.csg_tree.specs.HalfSpaceTrees.{Tree}
use Rattle.csg_tree.specs.Numberings.{nodes_of}
use Rattle.bsp_tree.specs.Shapes.{SolidParts}
use Rattle.bsp_tree.specs.Shapes.{tree_of}
use Rattle.bsp_boolean.specs.declared.tree_solids.TreeStop.{TreeStop}
use Rattle.bsp_boolean.specs.declared.tree_solids.TreeStop.TheVariants.{TooBig, SumTooBig}
use Rattle.bsp_boolean.specs.Solids.{solid_of}
use Rattle.bsp_boolean.specs.TreeSolids.{AreWithinSizeLimits, IsTreeStop}
use Rattle.facet_cut.specs.Facets.{facets_of}
use Rattle.plain_text.specs.Separators.{newline}
use Rattle.off_text.specs.Texts.{corner_count, most_corners, most_vertices, HasVertices, IsTextOf}
use Rattle.off_text.specs.Bounding.{IsBoundary}
use Rattle.export_limits.specs.declared.passed.PassedLimit.{PassedLimit}
use Rattle.export_limits.specs.declared.passed.PassedLimit.TheVariants as limit
use Rattle.tree_export.specs.declared.export.TreeExport.{TreeExport}
use Rattle.tree_export.specs.declared.export.TreeExport.TheVariants as exported

-- the most facets of an export
abbrev pub most_facets : ℕ
most_facets = 20000

-- the first limit of size that is passed by trees in order of number: at the first number at which either is, the limit of
-- that tree's own solid, or else that of all solids up to it
abbrev pub IsFirstPassed : List Tree → PassedLimit → Type 0
IsFirstPassed trees (limit.Solid number) = IsTreeStop trees (TooBig number)
IsFirstPassed trees (limit.Sum number) = IsTreeStop trees (SumTooBig number)
IsFirstPassed trees _ = ⊥

-- the solid of a tree whose distinct subtrees are within the limits of size, or the first of them that passes one, or want of
-- memory
abbrev pub IsSolidOutcome : Tree → Result (Arc SolidParts Global) TreeStop → Type 0
IsSolidOutcome tree made =
    IfOk made (λ solid. tree_of (arc_value solid) ≡ solid_of tree)
    × OnOk made (AreWithinSizeLimits (nodes_of tree))
    × IfErr made (IsTreeStop (nodes_of tree))

-- more than 200,000 corners, or more than 60,000 vertices, or the text
abbrev pub IsTextOutcome : LengthUnit → List Outline → TreeExport → Type 0
IsTextOutcome unit facets out =
    ((most_corners < corner_count facets) × (out ≡ exported.PassedLimit limit.Corners))
    ⊎ ((corner_count facets ≤ most_corners) ×
    ((HasVertices unit (λ n. most_vertices < n) facets × (out ≡ exported.PassedLimit limit.Vertices))
    ⊎ (HasVertices unit (λ n. n ≤ most_vertices) facets × ((bytes : List ℕ) × IsTextOf unit facets bytes × (out ≡ exported.Text bytes)))))

-- more than 20,000 facets, or what they give
abbrev pub IsFacetOutcome : LengthUnit → List Outline → TreeExport → Type 0
IsFacetOutcome unit facets out =
    ((most_facets < length facets) × (out ≡ exported.PassedLimit limit.Facets))
    ⊎ ((length facets ≤ most_facets) × IsTextOutcome unit facets out)

-- what the export of a tree gives: the first limit of size that its distinct subtrees pass in order of number, or else what
-- the facets of its solid give
abbrev pub IsExported : LengthUnit → Tree → TreeExport → Type 0
IsExported unit tree out =
    ((passed : PassedLimit) × IsFirstPassed (nodes_of tree) passed × (out ≡ exported.PassedLimit passed))
    ⊎ (AreWithinSizeLimits (nodes_of tree) × IsFacetOutcome unit (facets_of (solid_of tree)) out)

-- a tree that passes none of the limits
pub record PassesNoLimit (unit : LengthUnit) (tree : Tree) : Type 0 where
  pub sizes : AreWithinSizeLimits (nodes_of tree)
  pub facets : length (facets_of (solid_of tree)) ≤ most_facets
  pub corners : corner_count (facets_of (solid_of tree)) ≤ most_corners
  pub vertices : HasVertices unit (λ n. n ≤ most_vertices) (facets_of (solid_of tree))

-- the export is a text
abbrev pub IsTextExport : TreeExport → Type 0
IsTextExport out = (bytes : List ℕ) × (out ≡ exported.Text bytes)

-- a text is the boundary of the tree
abbrev pub IsBoundaryText : LengthUnit → Tree → TreeExport → Type 0
IsBoundaryText unit f (exported.Text bytes) = IsBoundary unit bytes f
IsBoundaryText unit f (exported.PassedLimit passed) = Unit {0}

-- the text without vertices and faces
abbrev pub empty_text : List ℕ
empty_text = codes "4OFF" ++ newline ++ codes "0 0 0" ++ newline
