use Rattle.std.proofs.Common.{◌∙◌, List, length, ap, arith}
use Rattle.csg_tree.specs.HalfSpaceTrees.{Tree}
use Rattle.csg_tree.specs.Trees.{plain_tree_of}
use Rattle.csg_tree.specs.Numberings.{tree_numbered}
use Rattle.bsp_tree.specs.Shapes.{tree_of}
use Rattle.bsp_boolean.specs.Solids.{solid_of}
use Rattle.tree_export.proofs.Solids.{no_solid, nothing_within, last_solid}
use Rattle.tree_export.proofs.export.solid_within.Goals as goal

pub returns-then-len-eq0-clause-solid : goal.returns-then-len-eq0-clause-solid
returns-then-len-eq0-clause-solid c =
    c.in_ok-solid_of_nothing.ensures
    ∙ no_solid (plain_tree_of c.args.tree.now) (omega (arith, ap length c.in_ok-store.ensures, ap length c.deref.ensures, c.len.ensures.is, c.if-len-eq0.true))

pub returns-then-len-eq0-clause-within : goal.returns-then-len-eq0-clause-within
returns-then-len-eq0-clause-within c =
    nothing_within (plain_tree_of c.args.tree.now) (omega (arith, ap length c.in_ok-store.ensures, ap length c.deref.ensures, c.len.ensures.is, c.if-len-eq0.true))

pub returns-clause-solid : goal.returns-clause-solid
returns-clause-solid c =
    let tree = plain_tree_of c.args.tree.now in
    ap tree_of c.in_ok-share.ensures
    ∙ c.in_ok-solid.ensures.solid
    ∙ ap (λ (ts : List Tree). solid_of (tree_numbered ts (length ts))) (c.deref-2.ensures ∙ c.in_ok-store.ensures)
    ∙ last_solid tree (omega (arith, ap length c.in_ok-store.ensures, ap length c.deref.ensures, c.len.ensures.is, c.if-len-eq0.false))
