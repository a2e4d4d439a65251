-- The merge of two solids: its walks, its cells and its planes.
use Rattle.std.proofs.Common.{◌≡◌, ◌⊎◌, inl, inr, Bool, true, false, ◌&&◌, List, refl, sym, ap, subst, ◌∙◌, arith}
use Rattle.plane_predicate.specs.Space.{Coefficients, Coordinates}
use Rattle.csg_tree.specs.declared.op.Op.{Op}
use Rattle.csg_tree.specs.declared.op.Op.TheVariants.{Union, Intersection, Difference}
use Rattle.csg_tree.specs.HalfSpaceTrees.{truth_of_join}
use Rattle.bsp_tree.specs.Cells.{IsInCell, IsOfCell, IsOffPlanesOf, IsNodePlaneOf}
use Rattle.bsp_tree.specs.Trees.{BspTree, inside, outside, node, walk, size, complement}
use Rattle.bsp_tree.proofs.lemmas.Complements.{complement_walks, complement_planes, complement_cells}
use Rattle.bsp_boolean.specs.Merges.{merge_of, AreSolidsOfOneCell, IsOperationOn}
use Rattle.bsp_boolean.proofs.Combined.{combined_walks, combined_cells, combined_planes}

merged_walks : (op : Op) (l r : BspTree) (cell : List Coefficients) → AreSolidsOfOneCell cell l r →
    (p : Coordinates) → IsInCell cell p → IsOffPlanesOf l p → IsOffPlanesOf r p →
    walk (merge_of op l r) p ≡ truth_of_join op (walk l p) (walk r p)
merged_walks Union l r cell h p hp ol or = combined_walks true l r cell h.left_cell h.right_cell p hp ol or
merged_walks Intersection l r cell h p hp ol or =
    combined_walks false l r cell h.left_cell h.right_cell p hp ol or
merged_walks Difference l r cell h p hp ol or =
    combined_walks false l (complement r) cell h.left_cell (complement_cells r cell h.right_cell) p hp ol
    (λ m k. or m (complement_planes r m k))
    ∙ ap (λ (w : Bool). walk l p && w) (complement_walks r p)

merged_cells : (op : Op) (l r : BspTree) (cell : List Coefficients) → AreSolidsOfOneCell cell l r →
    IsOfCell cell (merge_of op l r)
merged_cells Union l r cell h = combined_cells true l r cell h.left_cell h.right_cell
merged_cells Intersection l r cell h = combined_cells false l r cell h.left_cell h.right_cell
merged_cells Difference l r cell h =
    combined_cells false l (complement r) cell h.left_cell (complement_cells r cell h.right_cell)

merged_planes : (op : Op) (l r : BspTree) (m : Coefficients) → IsNodePlaneOf m (merge_of op l r) →
    IsNodePlaneOf m l ⊎ IsNodePlaneOf m r
merged_planes Union l r m h = combined_planes true l r m h
merged_planes Intersection l r m h = combined_planes false l r m h
merged_planes Difference l r m h =
    elim (combined_planes false l (complement r) m h)
    [ inl k ↦ inl k | inr k ↦ inr (complement_planes r m k) ]

pub merge_is : (op : Op) (l r : BspTree) → IsOperationOn op l r (merge_of op l r)
merge_is op l r = record
    { walks = merged_walks op l r; cells = merged_cells op l r; planes = merged_planes op l r }

-- the solid that is the merge
pub is_operation : (op : Op) (l r t : BspTree) → t ≡ merge_of op l r → IsOperationOn op l r t
is_operation op l r t e = subst (λ (u : BspTree). IsOperationOn op l r u) (sym e) (merge_is op l r)

-- a solid and its complement have one size
pub complement_size : (t : BspTree) → size (complement t) ≡ size t
complement_size inside = refl
complement_size outside = refl
complement_size (node s b a) = omega (arith, complement_size b, complement_size a)
