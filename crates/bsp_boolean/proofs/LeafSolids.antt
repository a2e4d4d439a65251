-- The solids of leaves: they are of the world box, and hold where their leaves do.
use Rattle.std.proofs.Common.{◌≡◌, inl, inr, Bool, true, false, ◌&&◌, if◌then◌else◌, List, [], ◌∷◌, refl, sym, ap, ap₂, ◌∙◌, All, suc, arith}
use Rattle.std.specs.Prelude.{Contains}
use Rattle.plane_predicate.specs.Space.{Coefficients, Coordinates}
use Rattle.csg_tree.specs.HalfSpaceTrees.{leaf, sides_of}
use Rattle.csg_tree.specs.ProperTrees.{IsLeafPlane}
use Rattle.plane_polygon.specs.Boxes.{box_outline}
use Rattle.plane_polygon.specs.Parts.{is_behind}
use Rattle.bsp_tree.specs.Trees.{walk, half_space}
use Rattle.bsp_tree.specs.Cells.{world_box, IsOfWorld, IsNodePlaneOf}
use Rattle.bsp_tree.proofs.lemmas.Worlds.{open_world, half_of_world, box_plane}
use Rattle.bsp_boolean.specs.LeafSolids.{solid_of_leaf, IsSolidOf}
use Rattle.bsp_boolean.proofs.Combined.{combined_walks, combined_cells, combined_planes}

-- the first of some planes, and one of the others
here : (m n : Coefficients) (planes : List Coefficients) → n ≡ m → Contains (m ∷ planes) n
here m n planes e = (0, omega arith, sym e)

there : (m n : Coefficients) (planes : List Coefficients) → Contains planes n → Contains (m ∷ planes) n
there m n planes h = (suc h.0, omega (arith, h.1), h.2)

-- the half space behind a plane
itself : (x : Bool) → (if x then true else false) ≡ x
itself true = refl
itself false = refl

half_walk : (m : Coefficients) (p : Coordinates) → walk (half_space m) p ≡ sides_of p m
half_walk m p = itself (is_behind (box_outline m).plane p)
    ∙ ap (λ (n : Coefficients). is_behind n p) (box_plane m)

half_planes : (m n : Coefficients) → IsNodePlaneOf n (half_space m) → n ≡ m
half_planes m n (inl e) = e ∙ box_plane m
half_planes m n (inr (inl k)) = absurd k
half_planes m n (inr (inr k)) = absurd k

alone : (x : Bool) → x ≡ (x && true)
alone true = refl
alone false = refl

pub half_is_solid : (m : Coefficients) → IsOfWorld (half_space m) → IsSolidOf (leaf (m ∷ [])) (half_space m)
half_is_solid m h = record {
  world = h;
  planes = λ n k. here m n [] (half_planes m n k);
  walks = λ p hw off. half_walk m p ∙ alone (sides_of p m);
}

-- one plane more
pub one_plane_more : (m n : Coefficients) (planes : List Coefficients) → IsOfWorld (half_space m) →
    IsSolidOf (leaf (n ∷ planes)) (solid_of_leaf (n ∷ planes)) →
    IsSolidOf (leaf (m ∷ n ∷ planes)) (solid_of_leaf (m ∷ n ∷ planes))
one_plane_more m n planes hm h = let rest = n ∷ planes in record {
  world = combined_cells false (half_space m) (solid_of_leaf rest) world_box hm h.world;
  planes = λ o k. (elim (combined_planes false (half_space m) (solid_of_leaf rest) o k) [
    | inl i ↦ here m o rest (half_planes m o i)
    | inr j ↦ there m o rest (h.planes o j)
  ]);
  walks = λ p hw off.
      combined_walks false (half_space m) (solid_of_leaf rest) world_box hm h.world p ((open_world p).1 hw)
      (λ o i. off o (here m o rest (half_planes m o i))) (λ o j. off o (there m o rest (h.planes o j)))
      ∙ ap₂ ◌&&◌ (half_walk m p) (h.walks p hw (λ o j. off o (there m o rest j)));
}

-- the solid of a leaf
pub leaf_is_solid : (planes : List Coefficients) → All IsLeafPlane planes →
    IsSolidOf (leaf planes) (solid_of_leaf planes)
leaf_is_solid [] h = record { world = tt; planes = λ m k. absurd k; walks = λ p hw off. refl }
leaf_is_solid (m ∷ []) h = let i = h 0 m (omega arith) in half_is_solid m (half_of_world m i.plane i.reach)
leaf_is_solid (m ∷ n ∷ planes) h =
    let i = h 0 m (omega arith) in
    one_plane_more m n planes (half_of_world m i.plane i.reach)
    (leaf_is_solid (n ∷ planes) (λ k d l. h (suc k) d (omega (arith, l))))
