-- A tree has one export, which is a text exactly where no limit is passed.
use Rattle.std.proofs.Common.{◌≡◌, ◌↔◌, ◌<◌, ◌≤◌, List, [], length, refl, sym, ap, subst, ◌∙◌, inl, inr, arith}
use Rattle.plain_text.specs.Decimals.{numeral}
use Rattle.plane_predicate.specs.declared.unit.Unit.{Unit as LengthUnit}
use Rattle.plane_polygon.specs.Polygons.{Outline}
use Rattle.csg_tree.specs.HalfSpaceTrees.{Tree, nothing}
use Rattle.csg_tree.specs.Numberings.{nodes_of}
use Rattle.bsp_boolean.specs.Solids.{solid_of}
use Rattle.facet_cut.specs.Facets.{facets_of}
use Rattle.off_text.specs.Texts.{most_vertices, vertices_of, HasVertices}
use Rattle.off_text.proofs.lemmas.Unique.{one_corners, one_text}
use Rattle.export_limits.specs.declared.passed.PassedLimit.{PassedLimit}
use Rattle.tree_export.specs.declared.export.TreeExport.{TreeExport}
use Rattle.tree_export.specs.declared.export.TreeExport.TheVariants as exported
use Rattle.tree_export.specs.Exports.{empty_text, IsTextExport, IsTextOutcome, IsFacetOutcome, IsExported, PassesNoLimit}
use Rattle.tree_export.proofs.FirstPassed.{no_trees, one_passed, none_passed}

one_count : (unit : LengthUnit) (facets : List Outline) → HasVertices unit (λ n. most_vertices < n) facets →
    HasVertices unit (λ n. n ≤ most_vertices) facets → ⊥
one_count unit facets h k =
    omega (arith, h.count, k.count, ap (λ faces. length (vertices_of faces)) (one_corners unit facets h.faces k.faces h.corners k.corners))

one_written : (unit : LengthUnit) (facets : List Outline) (out other : TreeExport) → IsTextOutcome unit facets out → IsTextOutcome unit facets other → out ≡ other
one_written unit facets out other (inl a) (inl b) = a.1 ∙ sym b.1
one_written unit facets out other (inl a) (inr b) = absurd (omega (arith, a.0, b.0))
one_written unit facets out other (inr a) (inl b) = absurd (omega (arith, a.0, b.0))
one_written unit facets out other (inr (few, inl a)) (inr (few', inl b)) = a.1 ∙ sym b.1
one_written unit facets out other (inr (few, inl a)) (inr (few', inr b)) = absurd (one_count unit facets a.0 b.0)
one_written unit facets out other (inr (few, inr a)) (inr (few', inl b)) = absurd (one_count unit facets b.0 a.0)
one_written unit facets out other (inr (few, inr a)) (inr (few', inr b)) =
    a.1.2 ∙ ap exported.Text (one_text unit facets a.1.0 b.1.0 a.1.1 b.1.1) ∙ sym b.1.2

one_cut : (unit : LengthUnit) (facets : List Outline) (out other : TreeExport) → IsFacetOutcome unit facets out → IsFacetOutcome unit facets other → out ≡ other
one_cut unit facets out other (inl a) (inl b) = a.1 ∙ sym b.1
one_cut unit facets out other (inl a) (inr b) = absurd (omega (arith, a.0, b.0))
one_cut unit facets out other (inr a) (inl b) = absurd (omega (arith, a.0, b.0))
one_cut unit facets out other (inr a) (inr b) = one_written unit facets out other a.1 b.1

pub one_export : (unit : LengthUnit) (tree : Tree) (out other : TreeExport) → IsExported unit tree out → IsExported unit tree other → out ≡ other
one_export unit tree out other (inl a) (inl b) = a.2 ∙ ap exported.PassedLimit (one_passed (nodes_of tree) a.0 b.0 a.1 b.1) ∙ sym b.2
one_export unit tree out other (inl a) (inr b) = absurd (none_passed (nodes_of tree) a.0 b.0 a.1)
one_export unit tree out other (inr a) (inl b) = absurd (none_passed (nodes_of tree) b.0 a.0 b.1)
one_export unit tree out other (inr a) (inr b) = one_cut unit (facets_of (solid_of tree)) out other a.1 b.1

-- a limit is no text
not_text : (out : TreeExport) (passed : PassedLimit) → out ≡ exported.PassedLimit passed → IsTextExport out → ⊥
not_text out passed e h = let both : exported.PassedLimit passed ≡ exported.Text h.0 = sym e ∙ h.1 in cc

no_limit : (unit : LengthUnit) (tree : Tree) (out : TreeExport) → IsExported unit tree out → IsTextExport out → PassesNoLimit unit tree
no_limit unit tree out (inl a) h = absurd (not_text out a.0 a.2 h)
no_limit unit tree out (inr (sizes, inl a)) h = absurd (not_text out _ a.1 h)
no_limit unit tree out (inr (sizes, inr (few, inl a))) h = absurd (not_text out _ a.1 h)
no_limit unit tree out (inr (sizes, inr (few, inr (short, inl a)))) h = absurd (not_text out _ a.1 h)
no_limit unit tree out (inr (sizes, inr (few, inr (short, inr a)))) h =
    record { sizes = sizes; facets = few; corners = short; vertices = a.0 }

pub text_within : (unit : LengthUnit) (tree : Tree) (out : TreeExport) → IsExported unit tree out → PassesNoLimit unit tree → IsTextExport out
text_within unit tree out (inl a) h = absurd (none_passed (nodes_of tree) a.0 h.sizes a.1)
text_within unit tree out (inr (sizes, inl a)) h = absurd (omega (arith, a.0, h.facets))
text_within unit tree out (inr (sizes, inr (few, inl a))) h = absurd (omega (arith, a.0, h.corners))
text_within unit tree out (inr (sizes, inr (few, inr (short, inl a)))) h = absurd (one_count unit (facets_of (solid_of tree)) a.0 h.vertices)
text_within unit tree out (inr (sizes, inr (few, inr (short, inr a)))) h = (a.1.0, a.1.2)

pub texts : (unit : LengthUnit) (tree : Tree) (out : TreeExport) → IsExported unit tree out → IsTextExport out ↔ PassesNoLimit unit tree
texts unit tree out h = (no_limit unit tree out h, text_within unit tree out h)

-- Nothing has no nodes and no facets
nothing_empty : (unit : LengthUnit) → IsExported unit nothing (exported.Text empty_text)
unfolding numeral
nothing_empty unit =
    inr (
      no_trees,
      inr (
        omega arith,
        inr (
          omega arith,
          inr (
            record { faces = []; corners = tt; count = omega arith },
            (empty_text, record { faces = []; corners = tt; spelled = refl }, refl),
          ),
        ),
      ),
    )

pub nothing_only : (unit : LengthUnit) (out : TreeExport) → IsExported unit nothing out ↔ (out ≡ exported.Text empty_text)
nothing_only unit out = (
  λ h. one_export unit nothing out (exported.Text empty_text) h (nothing_empty unit),
  λ e. subst (IsExported unit nothing) (sym e) (nothing_empty unit),
)
