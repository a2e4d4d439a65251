use Rattle.std.proofs.Common.{rules, arith, get_or, pos, to_z-of_z, FitsSigned, w64}
use Rattle.std.proofs.lemmas.Int.{ints}
use Rattle.primitives.proofs.lemmas.Lists.{all_done, all_next}
use Rattle.primitives.specs.Sizes.{IsAtLeastOne}
use Rattle.primitives.proofs.sizes.are_long.Goals as goal

pub loop-side-preserved : goal.loop-side-preserved
loop-side-preserved c =
    let f : FitsSigned w64 (get_or c.args.sides.now c.loop-side.side-index (pos 0)) = search rules in
    let test = simp to_z-of_z at c.if-side-lt1.false in
    let long : IsAtLeastOne (get_or c.args.sides.now c.loop-side.side-index (pos 0)) = omega (arith, ints, test) in
    all_next IsAtLeastOne c.args.sides.now c.loop-side.side-index (pos 0) (omega arith) c.loop-side.invariant long

pub returns-clause-all : goal.returns-clause-all
returns-clause-all c = all_done IsAtLeastOne c.args.sides.now c.loop-side.side-index (omega arith) c.loop-side.invariant
