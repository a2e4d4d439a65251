use Rattle.std.proofs.Common.{◌≡◌, List, [], true, false, arith}
use Rattle.link_forest.specs.declared.link.NodeId.{NodeId}
use Rattle.link_forest.specs.declared.link.Link.TheVariants.{End, To}
use Rattle.link_forest.specs.declared.forest.Entry.{Entry}
use Rattle.link_forest.specs.Forests.{AddsNode}
use Rattle.link_forest.proofs.lemmas.Longer.{extends_itself}
use Rattle.link_forest.proofs.lemmas.Reaching.{reached_by_added}
use Rattle.plane_polygon.specs.Polygons.{Outline}
use Rattle.plane_table.specs.declared.faces.Face.{Face}
use Rattle.plane_table.specs.declared.numbering.OwnFace.{OwnFace}
use Rattle.plane_table.specs.Joins.{IsOwnFaceOf}
use Rattle.bsp_tree.specs.Shapes.{IsWholeSolid}
use Rattle.bsp_tree.proofs.lemmas.SheetFaces.{faces_more}
use Rattle.bsp_tree.proofs.lemmas.Wholes.{one_node_whole}
use Rattle.geometry_cases.proofs.solids.twice.Goals as goal

two_nodes_whole : (s : Outline) (own : OwnFace) (none one two : List (Entry Face)) (copy : Face) (first second : NodeId) → IsOwnFaceOf s own → none ≡ [] → copy ≡ own.face →
    AddsNode none one copy (End true) (End false) first → AddsNode one two own.face (To first) (To first) second →
    IsWholeSolid (record { planes = own.planes.items; nodes = two; root = To second })
two_nodes_whole s own none one two copy first second h empty same d e =
    let w = one_node_whole s own none one first h empty (rw same at d) in
    record {
      apart = h.apart;
      faces = faces_more own.planes.items one two own.face (To first) (To first) second w.faces h.face e;
      root = e.link;
      reached = reached_by_added 0 one one two own.face (To first) (To first) second (extends_itself one) w.reached (λ id from below. absurd (omega arith)) e;
    }

pub of_parts-requires : goal.of_parts-requires
of_parts-requires c =
    two_nodes_whole _ _ _ _ _ _ _ _ c.in_ok-own.ensures c.new-forest.ensures c.in_ok-copy.ensures c.in_ok-first.ensures.ok c.in_ok-second.ensures.ok
