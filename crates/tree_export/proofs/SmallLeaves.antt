-- A leaf of a few planes passes no limit.
use Rattle.std.proofs.Common.{ℕ, zero, suc, ◌+◌, ◌*◌, ◌^◌, ◌<◌, ◌≤◌, List, [], length, inl, inr, arith}
use Rattle.std.proofs.lemmas.List.Elements.{All-nil, All-cons}
use Rattle.plane_predicate.specs.declared.unit.Unit.{Unit as LengthUnit}
use Rattle.plane_predicate.specs.Space.{Coefficients}
use Rattle.csg_tree.specs.HalfSpaceTrees.{Tree, leaf}
use Rattle.csg_tree.specs.Numberings.{nodes_of}
use Rattle.bsp_tree.specs.Trees.{size}
use Rattle.bsp_boolean.specs.LeafSolids.{solid_of_leaf}
use Rattle.bsp_boolean.specs.TreeSolids.{most_solid_size, solid_size, AreWithinSizeLimits}
use Rattle.facet_cut.specs.Facets.{facets_of}
use Rattle.off_text.specs.Texts.{corner_count, most_vertices, HasVertices}
use Rattle.off_text.proofs.lemmas.Bounds.Sizes.{leaf_size, leaf_facets, leaf_corners}
use Rattle.off_text.proofs.lemmas.Bounds.Vertices.{few_vertices}
use Rattle.tree_export.specs.declared.export.TreeExport.{TreeExport}
use Rattle.tree_export.specs.Exports.{IsTextExport, IsExported}
use Rattle.tree_export.proofs.FirstPassed.{none_passed}

-- of at most eight planes
eight : (n : ℕ) → n ≤ 8 → (n * (1 + 16 * 2 ^ n) ≤ 32776) × (n * (16 * 2 ^ n) ≤ 32768)
eight zero h = (omega arith, omega arith)
eight (suc zero) h = (omega arith, omega arith)
eight (suc (suc zero)) h = (omega arith, omega arith)
eight (suc (suc (suc zero))) h = (omega arith, omega arith)
eight (suc (suc (suc (suc zero)))) h = (omega arith, omega arith)
eight (suc (suc (suc (suc (suc zero))))) h = (omega arith, omega arith)
eight (suc (suc (suc (suc (suc (suc zero)))))) h = (omega arith, omega arith)
eight (suc (suc (suc (suc (suc (suc (suc zero))))))) h = (omega arith, omega arith)
eight (suc (suc (suc (suc (suc (suc (suc (suc zero)))))))) h = (omega arith, omega arith)
eight (suc (suc (suc (suc (suc (suc (suc (suc (suc n))))))))) h = absurd (omega (arith, h))

one_node : (planes : List Coefficients) → size (solid_of_leaf planes) ≤ 32776 → AreWithinSizeLimits (nodes_of (leaf planes))
one_node planes small =
    let P = λ (tree : Tree). solid_size tree ≤ most_solid_size in
    record { each = All-cons P (leaf planes) [] (omega (arith, small)) (All-nil P); together = omega (arith, small) }

few_enough : (unit : LengthUnit) (planes : List Coefficients) → corner_count (facets_of (solid_of_leaf planes)) ≤ 32768 →
    HasVertices unit (λ n. most_vertices < n) (facets_of (solid_of_leaf planes)) → ⊥
few_enough unit planes short h = omega (arith, h.count, few_vertices unit (facets_of (solid_of_leaf planes)) h.faces h.corners, short)

pub small_leaf : (unit : LengthUnit) (planes : List Coefficients) (out : TreeExport) → length planes ≤ 8 → IsExported unit (leaf planes) out → IsTextExport out
small_leaf unit planes out few (inl a) =
    absurd (none_passed (nodes_of (leaf planes)) a.0 (one_node planes (omega (arith, leaf_size planes, (eight (length planes) few).0))) a.1)
small_leaf unit planes out few (inr (sizes, inl a)) = absurd (omega (arith, a.0, leaf_facets planes, few))
small_leaf unit planes out few (inr (sizes, inr (less, inl a))) =
    absurd (omega (arith, a.0, leaf_corners planes, (eight (length planes) few).1))
small_leaf unit planes out few (inr (sizes, inr (less, inr (short, inl a)))) =
    absurd (few_enough unit planes (omega (arith, leaf_corners planes, (eight (length planes) few).1)) a.0)
small_leaf unit planes out few (inr (sizes, inr (less, inr (short, inr a)))) = (a.1.0, a.1.2)
