-- A source that means a tree is answered by the tree's export, and its joins are asked for.
use Rattle.std.proofs.Common.{◌≡◌, ◌+◌, ◌≤◌, inr, ℕ, List, Ok, Err, refl, sym, subst}
use Rattle.plain_text.specs.declared.memory.NoMemory.{NoMemory}
use Rattle.plane_predicate.specs.declared.unit.Unit.{Unit as LengthUnit}
use Rattle.csg_tree.specs.HalfSpaceTrees.{Tree}
use Rattle.csg_tree.specs.Numberings.{nodes_of}
use Rattle.bsp_boolean.specs.TreeSolids.{join_count}
use Rattle.reply_text.specs.declared.reply.Reply.{Reply}
use Rattle.reply_text.specs.Sums.{IsSolvedReply}
use Rattle.tree_export.specs.declared.export.TreeExport.{TreeExport}
use Rattle.tree_export.specs.Exports.{IsExported, IsBoundaryText}
use Rattle.script_server.specs.Meaning.Sources.{Means}
use Rattle.script_server.specs.Meaning.Exports.{export_reply}
use Rattle.script_server.specs.Clients.{ClientBooks, AreProbed, ExportsFor}
use Rattle.script_server.proofs.SomeReply.{WatertightTexts, tree_bounded}

pub tree_answered : WatertightTexts → (unit : LengthUnit) (source : List ℕ) (tree : Tree) (out : TreeExport) (r : Reply) (old new : ClientBooks) → Means unit source tree → r ≡ export_reply out
    → IsExported unit tree out → IsBoundaryText unit tree out → AreProbed (IsSolvedReply (export_reply out)) (join_count (nodes_of tree)) old.share new.share
    → new.asked ≤ old.asked + 1 → ExportsFor unit source (Ok r) old new
tree_answered watertight unit source tree out r old new means is exported boundary probed asked =
    subst (λ (q : Reply). ExportsFor unit source (Ok q) old new) (sym is) (record {
      reply = record {
        meaning = tree_bounded watertight unit source tree out means boundary;
        rule = inr (tree, means, (out, exported, refl));
      };
      probed = (join_count (nodes_of tree), inr (tree, means, refl), probed);
      asked = asked;
    })

-- or there was no memory for its solid
pub tree_wanted : (unit : LengthUnit) (source : List ℕ) (tree : Tree) (none : NoMemory) (old new : ClientBooks) → Means unit source tree
    → AreProbed ⊥ (join_count (nodes_of tree)) old.share new.share → new.asked ≤ old.asked + 1 → ExportsFor unit source (Err none) old new
tree_wanted unit source tree none old new means probed asked = record {
  reply = tt;
  probed = (join_count (nodes_of tree), inr (tree, means, refl), probed);
  asked = asked;
}
