-- Nodes that are added to a sheet: the trees that stand there stay.
use Rattle.std.proofs.Common.{◌≡◌, Bool, List, refl, ap, ap₂, ◌∙◌, arith}
use Rattle.plane_predicate.specs.Space.{Coefficients}
use Rattle.link_forest.specs.declared.link.Link.{Link}
use Rattle.link_forest.specs.declared.link.NodeId.{NodeId}
use Rattle.link_forest.specs.declared.link.Link.TheVariants.{End, To}
use Rattle.link_forest.specs.declared.forest.Entry.{Entry}
use Rattle.link_forest.specs.Forests.{fork, tree_at, IsLinkOf, AddsNode}
use Rattle.link_forest.proofs.lemmas.Longer.{extends_itself, extends_twice, tree_of_end}
use Rattle.plane_table.specs.declared.faces.Face.{Face}
use Rattle.plane_table.specs.Faces.{outline_of}
use Rattle.bsp_tree.specs.Trees.{BspTree, node}
use Rattle.bsp_tree.specs.Shapes.{leaf_of, tree_of_branch, tree_at_link}
use Rattle.bsp_tree.specs.Growths.{Sheet, tree_on, HasTree, ExtendsSheet}

pub longer_itself : (sheet : Sheet) → ExtendsSheet sheet sheet
longer_itself sheet = record { planes = refl; extends = extends_itself sheet.nodes }

pub longer_twice : (first second third : Sheet) → ExtendsSheet first second → ExtendsSheet second third → ExtendsSheet first third
longer_twice first second third f s = record {
  planes = s.planes ∙ f.planes;
  extends = extends_twice first.nodes second.nodes third.nodes f.extends s.extends;
}

-- a tree stands where it stood
pub still : (old new : Sheet) (link : Link) (tree : BspTree) → ExtendsSheet old new → HasTree old link tree → HasTree new link tree
still old new link tree l h = record {
  there = l.extends.links link h.there;
  same = ap₂ tree_of_branch l.planes (l.extends.trees link h.there) ∙ h.same;
}

-- the tree at a link, as it stood
pub stood_on : (old new : Sheet) (link : Link) → ExtendsSheet old new → IsLinkOf old.nodes link → tree_on new link ≡ tree_on old link
stood_on old new link l k = ap₂ tree_of_branch l.planes (l.extends.trees link k)

-- a leaf stands on each sheet
pub leaf_stands : (sheet : Sheet) (side : Bool) → HasTree sheet (End side) (leaf_of side)
leaf_stands sheet side = record { there = omega arith; same = ap (tree_of_branch sheet.planes) (tree_of_end sheet.nodes side) }

-- the tree of a node
pub node_shown : (planes : List Coefficients) (nodes : List (Entry Face)) (id : NodeId) (face : Face) (behind ahead : Link) →
    tree_at nodes (To id) ≡ fork face (tree_at nodes behind) (tree_at nodes ahead) →
    tree_at_link planes nodes (To id) ≡ node (outline_of planes face) (tree_at_link planes nodes behind) (tree_at_link planes nodes ahead)
node_shown planes nodes id face behind ahead e = ap (tree_of_branch planes) e

-- a node that was added
pub adds_longer : (old new : Sheet) (face : Face) (behind ahead : Link) (id : NodeId) → new.planes ≡ old.planes →
    AddsNode old.nodes new.nodes face behind ahead id → ExtendsSheet old new
adds_longer old new face behind ahead id p d = record { planes = p; extends = d.extends }

pub adds_tree : (old new : Sheet) (face : Face) (behind ahead : Link) (id : NodeId) (b a : BspTree) → new.planes ≡ old.planes →
    AddsNode old.nodes new.nodes face behind ahead id → tree_on old behind ≡ b → tree_on old ahead ≡ a →
    HasTree new (To id) (node (outline_of old.planes face) b a)
adds_tree old new face behind ahead id b a p d eb ea = record {
  there = d.link;
  same = ap₂ tree_of_branch p d.tree ∙ ap₂ (node (outline_of old.planes face)) eb ea;
}
