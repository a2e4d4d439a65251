use Rattle.std.proofs.Common.{All, take}
use Rattle.primitives.specs.Sizes.{IsAtLeastOne}
use Rattle.primitives.proofs.sizes.are_long.Given as goal

abbrev pub invariant-loop-side : goal.invariant-loop-side
invariant-loop-side l = All IsAtLeastOne (take l.side-index l.sides)
