use Rattle.std.proofs.Common.{◌≡◌, ℕ, ◌+◌, List, [], ◌∷◌, ◌++◌, take, length, ap, sym, ◌∙◌, arith}
use Rattle.std.proofs.lemmas.List.{length-map, length_push}
use Rattle.csg_tree.specs.Numberings.{height}
use Rattle.csg_tree.specs.Nodes.{node_of, tree_of_node, trees_of_lent_nodes}
use Rattle.csg_tree.specs.Levels.{height_over}
use Rattle.csg_tree.proofs.Linked.{lent_at, next_lent}
use Rattle.csg_tree.proofs.ByHeight.{over_low, over_same, height_known, heights_more, level_more, low_push}
use Rattle.csg_tree.proofs.levels.levels_of.Goals as goal

pub height_of-height-requires-clause-over : goal.height_of-height-requires-clause-over
height_of-height-requires-clause-over c =
    let parts = c.args.parts.now in
    let i = c.loop-part.part-index in
    let part = c.part-item.result in
    let ts = trees_of_lent_nodes (take i parts) in
    let count : length ts ≡ length c.deref.result.now =
    sym (length-map ts height) ∙ ap length (sym c.loop-part.invariant.heights) ∙ ap length (sym c.deref.ensures.value) in
    let over = rw (← c.part-item.is) at (lent_at parts i part c.requires.linked (omega arith)) in
    over_same ts c.deref.result.now (node_of part) count over

pub put-requires : goal.put-requires
put-requires c =
    let parts = c.args.parts.now in
    let i = c.loop-part.part-index in
    let part = c.part-item.result in
    let ts = trees_of_lent_nodes (take i parts) in
    let hs = c.loop-part.heights.items in
    let count : length ts ≡ length hs = sym (length-map ts height) ∙ ap length (sym c.loop-part.invariant.heights) in
    let over = rw (← c.part-item.is) at (lent_at parts i part c.requires.linked (omega arith)) in
    let is : c.height_of-height.result ≡ height_over hs (node_of part) =
    c.height_of-height.ensures ∙ ap (λ (xs : List ℕ). height_over xs (node_of part)) c.deref.ensures.value in
    omega (arith, is, over_low hs (node_of part) (length c.loop-part.levels.items) (over_same ts hs (node_of part) count over) c.loop-part.invariant.low)

pub loop-part-preserved : goal.loop-part-preserved
loop-part-preserved c =
    let parts = c.args.parts.now in
    let i = c.loop-part.part-index in
    let part = c.part-item.result in
    let ts = trees_of_lent_nodes (take i parts) in
    let us = trees_of_lent_nodes (take (i + 1) parts) in
    let t = tree_of_node ts (node_of part) in
    let hs = c.loop-part.heights.items in
    let r = c.height_of-height.result in
    let e : us ≡ ts ++ t ∷ [] = next_lent parts i part (omega arith) c.part-item.is in
    let is : r ≡ height t =
    c.height_of-height.ensures ∙ ap (λ (xs : List ℕ). height_over xs (node_of part)) c.deref.ensures.value
    ∙ height_known hs ts (node_of part) c.loop-part.invariant.heights in
    let count : length ts ≡ length hs = sym (length-map ts height) ∙ ap length (sym c.loop-part.invariant.heights) in
    let grown : length c.push.new.self.items ≡ length hs + 1 = ap length c.in_ok-push.ensures.items ∙ length_push hs r in
    let m : c.len.result ≡ 1 + length ts = omega (arith, c.len.ensures, c.in_ok-push.ensures.len, grown, count) in
    record {
      count = omega (arith, grown);
      heights = c.in_ok-push.ensures.items ∙ heights_more hs ts us t r c.loop-part.invariant.heights is e;
      levels = λ h. level_more _ _ r c.len.result h ts us t (c.in_ok-put.ensures.level h) (c.loop-part.invariant.levels h) is m e;
      low = rw c.in_ok-push.ensures.items
          (low_push hs r (length c.loop-part.levels.items) (length c.put.new.levels.items) c.loop-part.invariant.low c.in_ok-put.ensures.more c.in_ok-put.ensures.within);
    }
