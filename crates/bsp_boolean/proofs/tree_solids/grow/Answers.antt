use Rattle.std.proofs.Common.{◌≡◌, ◌+◌, ◌++◌, ◌∷◌, [], if◌then◌else◌, subst, ap, ◌∙◌, sym, ◌≤◌, arith}
use Rattle.bsp_tree.specs.Trees.{size}
use Rattle.bsp_tree.specs.Shapes.{tree_of}
use Rattle.bsp_boolean.specs.TreeSolids.{most_solid_size}
use Rattle.bsp_boolean.proofs.TreeSolids.{made_solid, too_much, grown_by}
use Rattle.bsp_boolean.proofs.tree_solids.grow.Goals as goal

pub returns-then-size-growth-clause-stop : goal.returns-then-size-growth-clause-stop
returns-then-size-growth-clause-stop g c =
    let trees = c.args.store.now in
    let grown = c.requires.grown in
    let same = made_solid trees c.args.number c.args.growth.now.solids.items c.deref.result.now c.node.result c.in-Ok.solid grown.solids c.deref.ensures.value c.node.ensures.node c.in-Ok.ensures.built.0 in
    let small = subst (λ x. x ≤ most_solid_size) (ap size (sym c.in-Ok.ensures.built.0)) c.in-Ok.ensures.built.1 in (
      c.requires.number,
      grown.within,
      subst (λ x. x ≤ most_solid_size) (ap size same) small,
      too_much trees c.args.number c.args.growth.now.sum c.in-Ok.solid c.requires.number grown.sum grown.within same (omega (arith, c.count-size.ensures, c.if-size-growth.true, small)),
    )

pub returns-clause-grown : goal.returns-clause-grown
returns-clause-grown g c =
    let trees = c.args.store.now in
    let grown = c.requires.grown in
    let same = made_solid trees c.args.number c.args.growth.now.solids.items c.deref.result.now c.node.result c.in-Ok.solid grown.solids c.deref.ensures.value c.node.ensures.node c.in-Ok.ensures.built.0 in
    let small = subst (λ x. x ≤ most_solid_size) (ap size (sym c.in-Ok.ensures.built.0)) c.in-Ok.ensures.built.1 in
    let counted : c.count-size.result ≡ size (tree_of c.in-Ok.solid) = omega (arith, c.count-size.ensures, small) in
    grown_by trees c.args.number c.args.growth.now record { solids = c.push.new.self; sum = c.args.growth.now.sum + c.count-size.result } c.in-Ok.solid c.requires.number grown
    (c.push.ensures.items ∙ ap (λ b. if b then c.args.growth.now.solids.items ++ c.in-Ok.solid ∷ [] else c.args.growth.now.solids.items) c.if-is_err.ensures.negation)
    (ap (λ x. c.args.growth.now.sum + x) counted) same small (omega (arith, counted, c.if-size-growth.false))
