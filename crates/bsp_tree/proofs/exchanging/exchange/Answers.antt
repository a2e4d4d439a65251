use Rattle.std.proofs.Common.{◌≡◌, List, sym, subst, ◌∙◌, ap, not}
use Rattle.std.proofs.lemmas.Result.{IfOk-weaker}
use Rattle.plane_predicate.specs.Space.{Coefficients, Coordinates}
use Rattle.bsp_tree.specs.Trees.{BspTree, complement, walk}
use Rattle.bsp_tree.specs.Cells.{HasPlanesOf, IsOfCell}
use Rattle.bsp_tree.specs.Shapes.{tree_of}
use Rattle.bsp_tree.proofs.lemmas.Complements.{complement_walks, complement_planes, complement_cells}
use Rattle.bsp_tree.proofs.exchanging.exchange.Goals as goal

pub returns-clause-walks : goal.returns-clause-walks
returns-clause-walks c =
    let t = tree_of c.args.solid.now in
    IfOk-weaker c.with_sides_exchanged.result (λ s. tree_of s ≡ complement t) (λ s. (p : Coordinates) → walk (tree_of s) p ≡ not (walk t p))
    (λ s e p. ap (λ (r : BspTree). walk r p) e ∙ complement_walks t p) c.with_sides_exchanged.ensures

pub returns-clause-planes : goal.returns-clause-planes
returns-clause-planes c =
    let t = tree_of c.args.solid.now in
    IfOk-weaker c.with_sides_exchanged.result (λ s. tree_of s ≡ complement t) (λ s. HasPlanesOf (tree_of s) t)
    (λ s e. subst (λ (r : BspTree). HasPlanesOf r t) (sym e) (complement_planes t)) c.with_sides_exchanged.ensures

pub returns-clause-cells : goal.returns-clause-cells
returns-clause-cells c =
    let t = tree_of c.args.solid.now in
    IfOk-weaker c.with_sides_exchanged.result (λ s. tree_of s ≡ complement t) (λ s. (cell : List Coefficients) → IsOfCell cell t → IsOfCell cell (tree_of s))
    (λ s e cell h. subst (IsOfCell cell) (sym e) (complement_cells t cell h)) c.with_sides_exchanged.ensures
