-- What was kept for a tree is the export of a tree that is told to be the same.
use Rattle.std.proofs.Common.{◌≡◌, true, subst}
use Rattle.plane_predicate.specs.declared.unit.Unit.{Unit as LengthUnit}
use Rattle.csg_tree.specs.HalfSpaceTrees.{Tree}
use Rattle.csg_tree.specs.Numberings.{is_same_tree}
use Rattle.csg_tree.proofs.lemmas.Sameness.{tree_true}
use Rattle.tree_export.specs.declared.export.TreeExport.{TreeExport}
use Rattle.tree_export.specs.Exports.{IsExported, IsBoundaryText}

pub same_export : (mine unit : LengthUnit) (tree other : Tree) (out : TreeExport) → mine ≡ unit → is_same_tree tree other ≡ true → IsExported mine tree out → IsExported unit other out
same_export mine unit tree other out e s h =
    subst (λ (u : LengthUnit). IsExported u other out) e (subst (λ (t : Tree). IsExported mine t out) (tree_true tree other s) h)

pub same_bounds : (mine unit : LengthUnit) (tree other : Tree) (out : TreeExport) → mine ≡ unit → is_same_tree tree other ≡ true → IsBoundaryText mine tree out → IsBoundaryText unit other out
same_bounds mine unit tree other out e s h =
    subst (λ (u : LengthUnit). IsBoundaryText u other out) e (subst (λ (t : Tree). IsBoundaryText mine t out) (tree_true tree other s) h)
