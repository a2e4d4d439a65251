-- A solid with inside and outside exchanged.
use Rattle.std.proofs.Common.{◌≡◌, inl, inr, Bool, true, false, not, if◌then◌else◌, List, ◌∷◌, refl}
use Rattle.plane_predicate.specs.Space.{Coefficients, Coordinates, opposite_of}
use Rattle.plane_polygon.specs.Parts.{is_behind}
use Rattle.bsp_tree.specs.Trees.{BspTree, inside, outside, node, walk, complement}
use Rattle.bsp_tree.specs.Cells.{IsOfCell, HasPlanesOf}

if_not : (c x y u v : Bool) → x ≡ not u → y ≡ not v → (if c then x else y) ≡ not (if c then u else v)
if_not true x y u v hx hy = hx
if_not false x y u v hx hy = hy

-- each point changes sides
pub complement_walks : (t : BspTree) (p : Coordinates) → walk (complement t) p ≡ not (walk t p)
complement_walks inside p = refl
complement_walks outside p = refl
complement_walks (node t b a) p = if_not (is_behind t.plane p) (walk (complement b) p) (walk (complement a) p)
    (walk b p) (walk a p) (complement_walks b p) (complement_walks a p)

-- no plane is new
pub complement_planes : (t : BspTree) → HasPlanesOf (complement t) t
complement_planes inside m h = h
complement_planes outside m h = h
complement_planes (node t b a) m (inl e) = inl e
complement_planes (node t b a) m (inr (inl h)) = inr (inl (complement_planes b m h))
complement_planes (node t b a) m (inr (inr h)) = inr (inr (complement_planes a m h))

-- it is of the same cells
pub complement_cells : (t : BspTree) (cell : List Coefficients) → IsOfCell cell t → IsOfCell cell (complement t)
complement_cells inside cell h = tt
complement_cells outside cell h = tt
complement_cells (node t b a) cell h = (
  h.0,
  complement_cells b (t.plane ∷ cell) h.1,
  complement_cells a
      (opposite_of t.plane ∷ cell) h.2,
)
