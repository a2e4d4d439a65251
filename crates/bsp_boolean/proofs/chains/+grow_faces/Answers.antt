use Rattle.std.proofs.Common.{false, arith}
use Rattle.bsp_tree.proofs.lemmas.Growths.{leaf_grows}
use Rattle.bsp_boolean.proofs.FaceChains.{more_grown, none_grown}
use Rattle.bsp_boolean.proofs.chains.+grow_faces.Goals as goal

pub returns-in-empty : goal.returns-in-empty
returns-in-empty t c = none_grown c.args.growing.now c.args.faces.now (omega (arith, c.in-empty.len_below))

pub returns-in_ok-copy-in-len1-up : goal.returns-in_ok-copy-in-len1-up
returns-in_ok-copy-in-len1-up t c =
    more_grown c.args.growing.now c.grow_faces.new.growing c.make.new.self c.args.faces.now c.face-item.result c.in_ok-copy-in-len1-up.field-0 c.in_ok-behind-in-len1-up.behind c.make.result
    c.in-len1-up.len_at_least c.face-item.is c.in_ok-copy-in-len1-up.ensures c.in_ok-behind-in-len1-up.ensures
    (c.make.ensures c.args.growing.now c.grow_faces.new.growing _ _ c.in_ok-behind-in-len1-up.ensures (leaf_grows c.grow_faces.new.growing false))
