-- The merge of two solids (Bernstein and Fussell).
use Rattle.std.specs.Prelude.{◌≡◌, true, false, List, ◌⊎◌}
use Rattle.plane_predicate.specs.Space.{Coefficients, Coordinates}
use Rattle.csg_tree.specs.declared.op.Op.{Op}
use Rattle.csg_tree.specs.declared.op.Op.TheVariants.{Union, Intersection, Difference}
use Rattle.csg_tree.specs.HalfSpaceTrees.{truth_of_join}
use Rattle.bsp_tree.specs.Trees.{BspTree, walk, complement}
use Rattle.bsp_tree.specs.Cells.{IsInCell, IsOfCell, IsOffPlanesOf, IsNodePlaneOf}
use Rattle.bsp_boolean.specs.Combined.{combination}

-- the merge of two solids. A difference is the intersection with the inside and the outside of the right
-- solid exchanged
abbrev pub merge_of : Op → BspTree → BspTree → BspTree
merge_of Union left right = combination true left right
merge_of Intersection left right = combination false left right
merge_of Difference left right = combination false left (complement right)

-- two solids are of one cell
pub record AreSolidsOfOneCell (cell : List Coefficients) (left right : BspTree) : Type 0 where
  pub left_cell : IsOfCell cell left
  pub right_cell : IsOfCell cell right

-- a solid is the operation on two solids: of each cell that both are of, with the operation on their two walks at each point of
-- the cell off their planes, and with no new plane
pub record IsOperationOn (op : Op) (left right t : BspTree) : Type 0 where
  pub walks : (cell : List Coefficients) → AreSolidsOfOneCell cell left right →
      (p : Coordinates) → IsInCell cell p → IsOffPlanesOf left p → IsOffPlanesOf right p →
      walk t p ≡ truth_of_join op (walk left p) (walk right p)
  pub cells : (cell : List Coefficients) → AreSolidsOfOneCell cell left right → IsOfCell cell t
  pub planes : (m : Coefficients) → IsNodePlaneOf m t → IsNodePlaneOf m left ⊎ IsNodePlaneOf m right
