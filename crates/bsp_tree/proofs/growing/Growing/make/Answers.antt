use Rattle.std.proofs.Common.{◌∙◌, sym, subst}
use Rattle.link_forest.specs.Forests.{AreLinked}
use Rattle.plane_table.specs.Faces.{outline_of}
use Rattle.bsp_tree.specs.Growths.{SolidGrowth}
use Rattle.bsp_tree.proofs.lemmas.Growths.{same_grows, other_grows}
use Rattle.bsp_tree.proofs.growing.Growing.make.Goals as goal

pub returns-then-is_same_leaf : goal.returns-then-is_same_leaf
returns-then-is_same_leaf c = λ start middle b a hb ha.
    same_grows start middle _ _ _ _ b a (sym c.is_same_leaf.ensures ∙ c.if-is_same_leaf.true) hb ha

pub returns : goal.returns
returns c = λ start middle b a hb ha.
    let linked = subst (λ (g : SolidGrowth). AreLinked g.sheet.nodes) c.self.view_is c.len.ensures.linked in
    let same = other_grows start middle c.args.self.now c.args.behind c.args.ahead (outline_of c.args.self.now.sheet.planes c.args.face) b a linked (sym c.is_same_leaf.ensures ∙ c.if-is_same_leaf.false) hb ha in
    rw (← same) (c.add.ensures.grows start middle b a hb ha)
