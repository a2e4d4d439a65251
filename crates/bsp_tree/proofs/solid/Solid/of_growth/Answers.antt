use Rattle.bsp_tree.proofs.lemmas.Wholes.{grown_kept}
use Rattle.bsp_tree.proofs.solid.Solid.of_growth.Goals as goal

pub invariant_of-result : goal.invariant_of-result
invariant_of-result c =
    grown_kept c.args.planes.items c.args.forest.nodes c.args.root c.args.size c.requires.apart c.requires.faces c.requires.grown c.ranges.size.fits
