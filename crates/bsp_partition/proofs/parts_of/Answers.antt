use Rattle.std.proofs.Common.{◌∙◌, List, sym, ap, ap₂}
use Rattle.plane_predicate.specs.Space.{Coefficients}
use Rattle.plane_table.specs.Faces.{outline_of}
use Rattle.link_forest.specs.declared.link.Link.{Link}
use Rattle.bsp_tree.specs.Shapes.{SolidParts}
use Rattle.bsp_tree.specs.Growths.{tree_on}
use Rattle.bsp_tree.specs.Partitions.{divide}
use Rattle.bsp_partition.proofs.parts_of.Goals as goal

pub add_parts-requires-clause-face : goal.add_parts-requires-clause-face
add_parts-requires-clause-face c =
    let right = rw c.deref.ensures.value at c.in_ok-joined.ensures.right in
    let found = c.faces_are_found.ensures.all _ _ _ _ right c.in_ok-own.ensures.face in
    rw (c.in_ok-nodes.ensures.planes, c.in_ok-table.ensures)
    (c.in_ok-by.ensures.face c.in_ok-own.own.planes.items c.in_ok-joined.joined.planes.items (rw c.deref-2.ensures.value found) c.in_ok-own.ensures.face)

pub returns : goal.returns
returns c =
    let right = rw c.deref.ensures.value at c.in_ok-joined.ensures.right in
    let found = c.faces_are_found.ensures.all _ _ _ _ right c.in_ok-own.ensures.face in
    let outline = ap (λ (ps : List Coefficients). outline_of ps c.in_ok-by.by) (c.in_ok-nodes.ensures.planes ∙ c.in_ok-table.ensures)
    ∙ c.in_ok-by.ensures.outline c.in_ok-own.own.planes.items c.in_ok-joined.joined.planes.items (rw c.deref-2.ensures.value found)
    ∙ c.in_ok-own.ensures.outline in
    let root = ap (λ (s : SolidParts). s.root) c.parts-root.ensures.parts in
    let tree = ap (λ (l : Link). tree_on c.in_ok-nodes.nodes l) (sym root) ∙ c.in_ok-nodes.ensures.stands.same in
    let parts = c.in_ok-low.ensures in
    ap₂ (λ x y. (x, y)) (c.in_ok-solid_at.ensures ∙ parts.low.same) (c.in_ok-solid_at-2.ensures ∙ parts.high.same)
    ∙ ap₂ divide tree outline
