-- What holds of a list of all facets of a solid.
use Rattle.std.proofs.Common.{◌≡◌, All, List, Vec, Result, IfOk, sym, subst}
use Rattle.std.proofs.lemmas.Result.{IfOk-weaker}
use Rattle.plane_predicate.specs.Space.{Coefficients}
use Rattle.plane_polygon.specs.Polygons.{Outline}
use Rattle.bsp_tree.specs.Trees.{BspTree}
use Rattle.bsp_tree.specs.Cells.{IsOfCell}
use Rattle.facet_cut.specs.Facets.{facets_of}
use Rattle.facet_cut.specs.Sides.{BoundSolid, IsFacetOf}
use Rattle.facet_cut.proofs.lemmas.FacetPolygons.{all_facets}
use Rattle.facet_cut.proofs.lemmas.Boundaries.{facets_bound}

module _ {Z E : Type 0} (t : BspTree) (result : Result (Vec Outline Z) E) (h : IfOk result (λ v. v.items ≡ facets_of t)) where
  pub list_polygons : IfOk result (λ v. (cell : List Coefficients) → IsOfCell cell t → All (IsFacetOf cell t) v.items)
  list_polygons =
      IfOk-weaker result (λ v. v.items ≡ facets_of t)
      (λ v. (cell : List Coefficients) → IsOfCell cell t → All (IsFacetOf cell t) v.items)
      (λ v e cell k. subst (All (IsFacetOf cell t)) (sym e) (all_facets t cell k)) h

  pub list_bound : IfOk result (λ v. (cell : List Coefficients) → IsOfCell cell t → BoundSolid cell t v.items)
  list_bound =
      IfOk-weaker result (λ v. v.items ≡ facets_of t)
      (λ v. (cell : List Coefficients) → IsOfCell cell t → BoundSolid cell t v.items)
      (λ v e cell k. subst (BoundSolid cell t) (sym e) (facets_bound cell t k)) h
