use Rattle.std.proofs.Common.{arith, ◌∙◌, refl}
use Rattle.bsp_tree.proofs.CopiedNodes.{none_copied, copied_more}
use Rattle.bsp_tree.proofs.copying.nodes_over.Goals as goal

pub loop-index-init : goal.loop-index-init
loop-index-init c = rw (c.in_ok-reserve.ensures ∙ c.new-nodes.ensures) (record { planes = refl; copied = none_copied _ _ _ refl })

pub renumber-requires-clause-plane : goal.renumber-requires-clause-plane
renumber-requires-clause-plane c =
    let f = c.requires.faces.each _ _ c.at-behind.ensures.node in omega (arith, f.plane, c.requires.found.count)

pub renumber-requires-clause-edges : goal.renumber-requires-clause-edges
renumber-requires-clause-edges c = λ k d below.
    let f = c.requires.faces.each _ _ c.at-behind.ensures.node in omega (arith, f.edges k d below, c.requires.found.count)

pub add-requires-clause-face : goal.add-requires-clause-face
add-requires-clause-face c =
    let f = c.requires.faces.each _ _ c.at-behind.ensures.node in
    let found = c.requires.found.each _ _ c.at-behind.ensures.node in
    rw c.loop-index.invariant.planes (c.in_ok-renumber.ensures.face _ _ found f)

pub loop-index-preserved : goal.loop-index-preserved
loop-index-preserved c =
    let found = c.requires.found.each _ _ c.at-behind.ensures.node in
    record {
      planes = c.in_ok-add.ensures.planes ∙ c.loop-index.invariant.planes;
      copied = copied_more _ _ _ _ _ _ _ _ _ _ c.loop-index.invariant.copied c.at-behind.ensures c.in_ok-add.ensures.adds c.in_ok-add.ensures.planes
          (rw c.loop-index.invariant.planes (c.in_ok-renumber.ensures.outline _ _ found));
    }
