use Rattle.std.proofs.Common.{◌≡◌, ◌∙◌, List, Result, Err, sym, ap, subst, rules}
use Rattle.plane_predicate.specs.Space.{Coefficients}
use Rattle.plane_polygon.specs.Polygons.{Outline}
use Rattle.link_forest.specs.declared.link.Link.{Link}
use Rattle.link_forest.specs.declared.link.Link.TheVariants.{To}
use Rattle.bsp_tree.specs.declared.growing.GrowStop.{GrowStop}
use Rattle.plane_table.specs.Faces.{outline_of}
use Rattle.bsp_tree.specs.Trees.{BspTree, node_or_leaf}
use Rattle.bsp_tree.specs.Links.{is_alike}
use Rattle.bsp_tree.specs.Growths.{Sheet, with_sides_exchanged, tree_on, GrowsBy, HasGrown}
use Rattle.bsp_tree.proofs.lemmas.Growths.{leaf_grows, make_size, stops, stops_after}
use Rattle.bsp_tree.specs.Partitions.{divide}
use Rattle.bsp_boolean.specs.Combined.{combination}
use Rattle.bsp_boolean.proofs.Exchanges.{below_left, end_decides, end_gives, right_end_decides, right_end_gives, node_merged}
use Rattle.bsp_boolean.proofs.branches.Merge.+branches.Goals as goal

pub branch-returns-then-is_alike-clause-grows : goal.branch-returns-then-is_alike-clause-grows
branch-returns-then-is_alike-clause-grows t c =
    let m = c.args.self.now in
    let e = sym c.is_alike.ensures ∙ c.if-is_alike.true in
    rw (c.in-End-default.is-0, end_decides m.left.now.own c.in-End-default.is_inside m.in_decides (with_sides_exchanged m.is_exchanged (tree_on c.args.scratch.now c.args.right)) e)
    (leaf_grows c.args.growing.now c.in-End-default.is_inside)

pub branch-returns-then-is_alike-2-clause-grows : goal.branch-returns-then-is_alike-2-clause-grows
branch-returns-then-is_alike-2-clause-grows t c =
    let m = c.args.self.now in
    let e = ap (λ side. is_alike side m.in_decides) (sym c.exchanged_leaf.ensures) ∙ sym c.is_alike-in-To-End.ensures ∙ c.if-is_alike-2.true in
    rw (c.in-To-End.is-1, right_end_decides c.args.scratch.now c.in-To-End.is_inside m.is_exchanged m.in_decides (tree_on m.left.now.own c.args.left) e)
    (leaf_grows c.args.growing.now m.in_decides)

pub branch-returns-else-is_alike-clause-grows : goal.branch-returns-else-is_alike-clause-grows
branch-returns-else-is_alike-clause-grows t c =
    let m = c.args.self.now in
    let e = sym c.is_alike.ensures ∙ c.if-is_alike.false in
    rw (c.in-End-default.is-0, end_gives m.left.now.own c.in-End-default.is_inside m.in_decides (with_sides_exchanged m.is_exchanged (tree_on c.args.scratch.now c.args.right)) e)
    c.add_branch.ensures

pub branch-returns-else-is_alike-2-clause-grows : goal.branch-returns-else-is_alike-2-clause-grows
branch-returns-else-is_alike-2-clause-grows t c =
    let m = c.args.self.now in
    let e = ap (λ side. is_alike side m.in_decides) (sym c.exchanged_leaf.ensures) ∙ sym c.is_alike-in-To-End.ensures ∙ c.if-is_alike-2.false in
    rw (c.in-To-End.is-1, right_end_gives c.args.scratch.now c.in-To-End.is_inside m.is_exchanged m.in_decides (tree_on m.left.now.own c.args.left) e)
    c.add_moved.ensures

pub node-returns-in_err-behind-clause-grows : goal.node-returns-in_err-behind-clause-grows
node-returns-in_err-behind-clause-grows t c =
    let m = c.args.self.now in
    let moved = c.in_ok-face.ensures in
    let face = c.in_ok-face.face in
    let given : c.from_residual-in_err-behind.result ≡ Err c.in_err-behind.field-0.0 = search rules in
    let whole = node_merged m.in_decides m.is_exchanged m.left.now.own c.args.scratch.now c.args.left c.args.right moved.own _ _ moved.node c.len-kept.ensures.linked c.requires.right in
    let parts = ap (λ (ps : List Coefficients). divide (tree_on c.args.scratch.now (To c.args.right)) (outline_of ps face)) c.requires.tables.right_planes ∙ ap (λ (s : Outline). divide (tree_on c.args.scratch.now (To c.args.right)) s) moved.outline in
    let low = c.in_ok-low.ensures.low.same ∙ ap (λ p. p.0) parts in
    let stopped = stops c.args.growing.now c.branch-self.new.growing c.branch-self.new.growing _ _ c.in_err-behind.field-0.0 (below_left _ _ _)
    (subst (λ (u : BspTree). GrowsBy c.args.growing.now c.branch-self.new.growing (combination m.in_decides (tree_on m.left.now.own c.in_ok-face.behind) (with_sides_exchanged m.is_exchanged u)) (Err c.in_err-behind.field-0.0)) low c.in_err-behind.ensures.grows) in
    subst (λ (r : Result Link GrowStop). GrowsBy c.args.growing.now c.branch-self.new.growing (combination m.in_decides (tree_on m.left.now.own (To c.args.left)) (with_sides_exchanged m.is_exchanged (tree_on c.args.scratch.now (To c.args.right)))) r) (sym given)
    (subst (λ (u : BspTree). GrowsBy c.args.growing.now c.branch-self.new.growing u (Err c.in_err-behind.field-0.0)) (sym whole) stopped)

pub node-returns-in_err-ahead-clause-grows : goal.node-returns-in_err-ahead-clause-grows
node-returns-in_err-ahead-clause-grows t c =
    let m = c.args.self.now in
    let moved = c.in_ok-face.ensures in
    let face = c.in_ok-face.face in
    let given : c.from_residual-in_err-ahead.result ≡ Err c.in_err-ahead.field-0.0 = search rules in
    let whole = node_merged m.in_decides m.is_exchanged m.left.now.own c.args.scratch.now c.args.left c.args.right moved.own _ _ moved.node c.len-kept.ensures.linked c.requires.right in
    let parts = ap (λ (ps : List Coefficients). divide (tree_on c.args.scratch.now (To c.args.right)) (outline_of ps face)) c.requires.tables.right_planes ∙ ap (λ (s : Outline). divide (tree_on c.args.scratch.now (To c.args.right)) s) moved.outline in
    let low = c.in_ok-low.ensures.low.same ∙ ap (λ p. p.0) parts in
    let high = ap (λ (s : Sheet). tree_on s c.in_ok-low.high) c.in_ok-behind.ensures.scratch ∙ c.in_ok-low.ensures.high.same ∙ ap (λ p. p.1) parts in
    let before = subst (λ (u : BspTree). HasGrown c.args.growing.now c.branch-self.new.growing c.in_ok-behind.behind (combination m.in_decides (tree_on m.left.now.own c.in_ok-face.behind) (with_sides_exchanged m.is_exchanged u))) low c.in_ok-behind.ensures.grows in
    let stopped = stops_after c.args.growing.now c.branch-self.new.growing c.branch-self-2.new.growing c.branch-self-2.new.growing _ _ _ _ c.in_err-ahead.field-0.0 (make_size _ _ _) before
    (subst (λ (u : BspTree). GrowsBy c.branch-self.new.growing c.branch-self-2.new.growing (combination m.in_decides (tree_on m.left.now.own c.in_ok-face.ahead) (with_sides_exchanged m.is_exchanged u)) (Err c.in_err-ahead.field-0.0)) high c.in_err-ahead.ensures.grows) in
    subst (λ (r : Result Link GrowStop). GrowsBy c.args.growing.now c.branch-self-2.new.growing (combination m.in_decides (tree_on m.left.now.own (To c.args.left)) (with_sides_exchanged m.is_exchanged (tree_on c.args.scratch.now (To c.args.right)))) r) (sym given)
    (subst (λ (u : BspTree). GrowsBy c.args.growing.now c.branch-self-2.new.growing u (Err c.in_err-ahead.field-0.0)) (sym whole) stopped)

pub node-returns-clause-grows : goal.node-returns-clause-grows
node-returns-clause-grows t c =
    let m = c.args.self.now in
    let moved = c.in_ok-face.ensures in
    let face = c.in_ok-face.face in
    let whole = node_merged m.in_decides m.is_exchanged m.left.now.own c.args.scratch.now c.args.left c.args.right moved.own _ _ moved.node c.len-kept.ensures.linked c.requires.right in
    let parts = ap (λ (ps : List Coefficients). divide (tree_on c.args.scratch.now (To c.args.right)) (outline_of ps face)) c.requires.tables.right_planes ∙ ap (λ (s : Outline). divide (tree_on c.args.scratch.now (To c.args.right)) s) moved.outline in
    let low = c.in_ok-low.ensures.low.same ∙ ap (λ p. p.0) parts in
    let high = ap (λ (s : Sheet). tree_on s c.in_ok-low.high) c.in_ok-behind.ensures.scratch ∙ c.in_ok-low.ensures.high.same ∙ ap (λ p. p.1) parts in
    let before = subst (λ (u : BspTree). HasGrown c.args.growing.now c.branch-self.new.growing c.in_ok-behind.behind (combination m.in_decides (tree_on m.left.now.own c.in_ok-face.behind) (with_sides_exchanged m.is_exchanged u))) low c.in_ok-behind.ensures.grows in
    let after = subst (λ (u : BspTree). HasGrown c.branch-self.new.growing c.branch-self-2.new.growing c.in_ok-ahead.ahead (combination m.in_decides (tree_on m.left.now.own c.in_ok-face.ahead) (with_sides_exchanged m.is_exchanged u))) high c.in_ok-ahead.ensures.grows in
    let planes = after.longer.planes ∙ before.longer.planes ∙ c.requires.tables.growing_planes in
    let outline = ap (λ (ps : List Coefficients). outline_of ps face) planes ∙ moved.outline in
    rw whole (subst (λ (s : Outline). GrowsBy c.args.growing.now c.make.new.self (node_or_leaf s (combination m.in_decides (tree_on m.left.now.own c.in_ok-face.behind) (with_sides_exchanged m.is_exchanged (divide (tree_on c.args.scratch.now (To c.args.right)) (outline_of m.left.now.own.planes moved.own)).0)) (combination m.in_decides (tree_on m.left.now.own c.in_ok-face.ahead) (with_sides_exchanged m.is_exchanged (divide (tree_on c.args.scratch.now (To c.args.right)) (outline_of m.left.now.own.planes moved.own)).1))) c.make.result)
    outline (c.make.ensures c.args.growing.now c.branch-self.new.growing _ _ before after))
