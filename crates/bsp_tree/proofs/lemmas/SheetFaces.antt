-- The faces of nodes that are added, and of those that are kept.
use Rattle.std.proofs.Common.{◌≡◌, inl, inr, List, Result, Ok, Err, IfOk}
use Rattle.std.specs.Prelude.{OnErr}
use Rattle.plane_predicate.specs.Space.{Coefficients}
use Rattle.plain_text.specs.declared.memory.NoMemory.{NoMemory}
use Rattle.link_forest.specs.declared.link.Link.{Link}
use Rattle.link_forest.specs.declared.link.NodeId.{NodeId}
use Rattle.link_forest.specs.declared.forest.Entry.{Entry}
use Rattle.link_forest.specs.Forests.{entry, StoredForest, AddsNode, Extends, IsNode}
use Rattle.link_forest.proofs.lemmas.Numbers.{stays, which}
use Rattle.plane_table.specs.declared.faces.Face.{Face}
use Rattle.plane_table.specs.Faces.{IsFaceOver}
use Rattle.bsp_tree.specs.Shapes.{AreFacesOver}

pub faces_more : (planes : List Coefficients) (old new : List (Entry Face)) (face : Face) (behind ahead : Link) (id : NodeId) →
    AreFacesOver planes old → IsFaceOver planes face → AddsNode old new face behind ahead id → AreFacesOver planes new
faces_more planes old new face behind ahead id faces h d = record {
  each = λ index other there. elim (which old (entry face behind ahead) index other (rw d.nodes at there)) [
    | inl earlier ↦ faces.each index other earlier
    | inr last ↦ rw (← last.1) h
  ];
}

pub faces_kept : (planes : List Coefficients) (old new : List (Entry Face)) → Extends old new → AreFacesOver planes new →
    AreFacesOver planes old
faces_kept planes old new e faces = record {
  each = λ index other there. faces.each index other (rw e.nodes (stays old e.more index other there));
}

pub face_is : (planes : List Coefficients) (nodes : List (Entry Face)) (id : NodeId) (face : Face) (behind ahead : Link) →
    AreFacesOver planes nodes → IsNode nodes id face behind ahead → IsFaceOver planes face
face_is planes nodes id face behind ahead faces n = faces.each id.index (entry face behind ahead) n.node

-- whether a node was added or not
pub faces_after : (planes : List Coefficients) (old new : StoredForest Face) (face : Face) (behind ahead : Link) (result : Result NodeId NoMemory) →
    AreFacesOver planes old.nodes → IsFaceOver planes face → IfOk result (AddsNode old.nodes new.nodes face behind ahead) →
    OnErr result (new ≡ old) → AreFacesOver planes new.nodes
faces_after planes old new face behind ahead (Ok id) faces h ok err = faces_more planes old.nodes new.nodes face behind ahead id faces h ok
faces_after planes old new face behind ahead (Err stop) faces h ok err = rw err faces
