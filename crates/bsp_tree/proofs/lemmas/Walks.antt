-- Walks.
use Rattle.std.proofs.Common.{◌≡◌, Bool, true, false, if◌then◌else◌, refl, sym, ap, arith, pos, ◌<ℤ◌}
use Rattle.plane_predicate.specs.Space.{Coordinates, value}
use Rattle.plane_predicate.proofs.lemmas.IntegerRing.{sums}
use Rattle.plane_polygon.specs.Polygons.{Outline}
use Rattle.plane_polygon.specs.Parts.{is_behind}
use Rattle.plane_polygon.proofs.lemmas.CornerSides.{less, not_less}
use Rattle.bsp_tree.specs.Trees.{BspTree, inside, outside, node, walk, node_or_leaf}

if_same : (b c : Bool) → (if b then c else c) ≡ c
if_same true c = refl
if_same false c = refl

-- folding equal leaves keeps each walk
pub make_walk : (t : Outline) (b a : BspTree) (p : Coordinates) → walk (node_or_leaf t b a) p ≡ walk (node t b a) p
make_walk t inside inside p = sym (if_same (is_behind t.plane p) true)
make_walk t outside outside p = sym (if_same (is_behind t.plane p) false)
make_walk t inside outside p = refl
make_walk t outside inside p = refl
make_walk t inside (node s c d) p = refl
make_walk t outside (node s c d) p = refl
make_walk t (node s c d) a p = refl

-- a point behind the node's plane walks on behind it
pub walk_behind : (t : Outline) (b a : BspTree) (p : Coordinates) → value t.plane p <ℤ pos 0 →
    walk (node t b a) p ≡ walk b p
walk_behind t b a p h = ap (λ (x : Bool). if x then walk b p else walk a p) (less (value t.plane p) (pos 0) h)

-- a point ahead of it walks on ahead of it
pub walk_ahead : (t : Outline) (b a : BspTree) (p : Coordinates) → pos 0 <ℤ value t.plane p →
    walk (node t b a) p ≡ walk a p
walk_ahead t b a p h = ap (λ (x : Bool). if x then walk b p else walk a p) (not_less (value t.plane p) (pos 0)
    (omega (arith, sums)))
