-- No plane of a solid's parts is new.
use Rattle.std.proofs.Common.{◌≡◌, inl, inr, Bool, true, false, if◌then◌else◌, refl, ◌∙◌}
use Rattle.plane_predicate.specs.Space.{opposite_of, is_same}
use Rattle.plane_polygon.specs.Polygons.{Outline}
use Rattle.plane_polygon.specs.declared.classes.Class.{Class}
use Rattle.plane_polygon.specs.declared.classes.Class.TheVariants.{Behind, Ahead, On, Across}
use Rattle.plane_polygon.specs.Parts.{class_of, part_behind, part_ahead}
use Rattle.bsp_tree.specs.Trees.{BspTree, inside, outside, node, node_or_leaf}
use Rattle.bsp_tree.specs.Cells.{HasPlanesOf}
use Rattle.bsp_tree.specs.Partitions.{divide, parts_by_class, HaveNoNewPlane}

-- folding equal leaves adds no plane
make_planes : (t : Outline) (b a : BspTree) → HasPlanesOf (node_or_leaf t b a) (node t b a)
make_planes t inside inside m h = absurd h
make_planes t outside outside m h = absurd h
make_planes t inside outside m h = h
make_planes t outside inside m h = h
make_planes t inside (node s c d) m h = h
make_planes t outside (node s c d) m h = h
make_planes t (node s c d) a m h = h

-- a node with a polygon on the same plane and with sides that have no new plane
node_planes : (s t : Outline) (c d b a : BspTree) → s.plane ≡ t.plane → HasPlanesOf c b → HasPlanesOf d a →
    HasPlanesOf (node s c d) (node t b a)
node_planes s t c d b a e hb ha m (inl k) = inl (k ∙ e)
node_planes s t c d b a e hb ha m (inr (inl k)) = inr (inl (hb m k))
node_planes s t c d b a e hb ha m (inr (inr k)) = inr (inr (ha m k))

made_planes : (s t : Outline) (c d b a : BspTree) → s.plane ≡ t.plane → HasPlanesOf c b → HasPlanesOf d a →
    HasPlanesOf (node_or_leaf s c d) (node t b a)
made_planes s t c d b a e hb ha m k = node_planes s t c d b a e hb ha m (make_planes s c d m k)

behind_planes : (t : Outline) (c b a : BspTree) → HasPlanesOf c b → HasPlanesOf c (node t b a)
behind_planes t c b a h m k = inr (inl (h m k))

ahead_planes : (t : Outline) (c b a : BspTree) → HasPlanesOf c a → HasPlanesOf c (node t b a)
ahead_planes t c b a h m k = inr (inr (h m k))

own_planes : (t : BspTree) → HasPlanesOf t t
own_planes t m k = k

both_sides : (t : Outline) (b a : BspTree) → HaveNoNewPlane (node t b a) (b, a)
both_sides t b a = (behind_planes t b b a (own_planes b), ahead_planes t a b a (own_planes a))

row_planes : (s t : Outline) (b a : BspTree) (low high low_part high_part : BspTree × BspTree) (x y : Class) →
    HaveNoNewPlane b low → HaveNoNewPlane a high → HaveNoNewPlane b low_part → HaveNoNewPlane a high_part →
    HaveNoNewPlane (node t b a) (parts_by_class x y s t b a low high low_part high_part)
row_planes s t b a low high low_part high_part Across Across l h lp hp = (
  made_planes (part_behind t s.plane) t low_part.0 high_part.0 b a refl lp.0 hp.0,
  made_planes (part_ahead t s.plane) t low_part.1 high_part.1 b a refl lp.1 hp.1,
)
row_planes s t b a low high low_part high_part Behind Behind l h lp hp =
    (made_planes t t low.0 a b a refl l.0 (own_planes a), behind_planes t low.1 b a l.1)
row_planes s t b a low high low_part high_part Behind Ahead l h lp hp =
    (behind_planes t low.0 b a l.0, made_planes t t low.1 a b a refl l.1 (own_planes a))
row_planes s t b a low high low_part high_part Ahead Behind l h lp hp =
    (made_planes t t b high.0 b a refl (own_planes b) h.0, ahead_planes t high.1 b a h.1)
row_planes s t b a low high low_part high_part Ahead Ahead l h lp hp =
    (ahead_planes t high.0 b a h.0, made_planes t t b high.1 b a refl (own_planes b) h.1)
row_planes s t b a low high low_part high_part Across Behind l h lp hp = both_sides t b a
row_planes s t b a low high low_part high_part Across Ahead l h lp hp = both_sides t b a
row_planes s t b a low high low_part high_part Across On l h lp hp = both_sides t b a
row_planes s t b a low high low_part high_part Behind Across l h lp hp = both_sides t b a
row_planes s t b a low high low_part high_part Behind On l h lp hp = both_sides t b a
row_planes s t b a low high low_part high_part Ahead Across l h lp hp = both_sides t b a
row_planes s t b a low high low_part high_part Ahead On l h lp hp = both_sides t b a
row_planes s t b a low high low_part high_part On Behind l h lp hp = both_sides t b a
row_planes s t b a low high low_part high_part On Ahead l h lp hp = both_sides t b a
row_planes s t b a low high low_part high_part On On l h lp hp = both_sides t b a
row_planes s t b a low high low_part high_part On Across l h lp hp = both_sides t b a

chosen_planes : (t : Outline) (b a : BspTree) (parts : BspTree × BspTree) (x y : Bool) → HaveNoNewPlane (node t b a)
    parts → HaveNoNewPlane (node t b a) (if x then (b, a) else if y then (a, b) else parts)
chosen_planes t b a parts true y h = both_sides t b a
chosen_planes t b a parts false true h = let k = both_sides t b a in (k.1, k.0)
chosen_planes t b a parts false false h = h

pub divide_planes : (t : BspTree) (s : Outline) → HaveNoNewPlane t (divide t s)
divide_planes inside s = (own_planes inside, own_planes inside)
divide_planes outside s = (own_planes outside, own_planes outside)
divide_planes (node t b a) s =
    let q = t.plane in
    chosen_planes t b a (parts_by_class (class_of s q) (class_of t s.plane) s t b a (divide b s) (divide a s)
    (divide b (part_behind s q)) (divide a (part_ahead s q))) (is_same q s.plane)
    (is_same q (opposite_of s.plane))
    (row_planes s t b a (divide b s) (divide a s) (divide b (part_behind s q)) (divide a (part_ahead s q))
    (class_of s q) (class_of t s.plane)
    (divide_planes b s) (divide_planes a s) (divide_planes b (part_behind s q))
    (divide_planes a (part_ahead s q)))
