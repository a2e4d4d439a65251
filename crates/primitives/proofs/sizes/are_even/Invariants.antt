use Rattle.std.proofs.Common.{All, take}
use Rattle.primitives.specs.Sizes.{IsEven}
use Rattle.primitives.proofs.sizes.are_even.Given as goal

abbrev pub invariant-loop-side : goal.invariant-loop-side
invariant-loop-side l = All (IsEven l.unit) (take l.side-index l.sides)
