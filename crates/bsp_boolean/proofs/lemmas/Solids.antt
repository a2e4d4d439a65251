-- The solids of trees: they are of the world box, and hold where their trees do.
use Rattle.std.proofs.Common.{inl, inr, refl, ap₂, ◌∙◌}
use Rattle.csg_tree.specs.HalfSpaceTrees.{Tree, nothing, leaf, tree_join, truth_of_join}
use Rattle.csg_tree.specs.ProperTrees.{HasFullLeaves}
use Rattle.bsp_tree.specs.Cells.{world_box}
use Rattle.bsp_tree.proofs.lemmas.Worlds.{open_world}
use Rattle.bsp_boolean.specs.LeafSolids.{IsSolidOf}
use Rattle.bsp_boolean.proofs.LeafSolids.{leaf_is_solid}
use Rattle.bsp_boolean.specs.Solids.{solid_of}
use Rattle.bsp_boolean.proofs.Merged.{merge_is}

-- the solid of a tree
pub tree_is_solid : (f : Tree) → HasFullLeaves f → IsSolidOf f (solid_of f)
tree_is_solid nothing h = record { world = tt; planes = λ m k. absurd k; walks = λ p hw off. refl }
tree_is_solid (leaf planes) h = leaf_is_solid planes h.1
tree_is_solid (tree_join op left right) h =
    let l = tree_is_solid left h.0 in
    let r = tree_is_solid right h.1 in
    let k = merge_is op (solid_of left) (solid_of right) in record {
      world = k.cells world_box (record { left_cell = l.world; right_cell = r.world });
      planes = λ m i. (elim (k.planes m i) [ inl i ↦ inl (l.planes m i) | inr j ↦ inr (r.planes m j) ]);
      walks = λ p hw off.
          k.walks world_box (record { left_cell = l.world; right_cell = r.world }) p ((open_world p).1 hw)
          (λ m i. off m (inl (l.planes m i))) (λ m j. off m (inr (r.planes m j)))
          ∙ ap₂ (truth_of_join op) (l.walks p hw (λ m i. off m (inl i))) (r.walks p hw (λ m j. off m (inr j)));
    }
