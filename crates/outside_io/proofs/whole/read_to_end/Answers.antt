use Rattle.std.proofs.Common.{arith}
use Rattle.outside_io.proofs.Moved.{taken_past, taken_within}
use Rattle.outside_io.proofs.whole.read_to_end.Goals as goal

pub returns-then-count-most-clause-early : goal.returns-then-count-most-clause-early
returns-then-count-most-clause-early g c =
    let read = c.in-Ok.ensures in
    let len = c.pieces.bytes.ok.0 in
    taken_past _ _ _ c.pieces.bytes.items _ _ _ _ c.pieces.invariant.taken read.bytes.0 read.bound.1 (omega (arith, len)) (omega (arith, len)) (omega (arith, read.bound.0))

pub returns-then-is_err-clause-early : goal.returns-then-is_err-clause-early
returns-then-is_err-clause-early g c =
    let read = c.in-Ok.ensures in
    taken_within _ _ _ c.pieces.bytes.items _ _ _ c.pieces.invariant.taken read.bytes.0 read.bound.1 (omega (arith, c.pieces.bytes.ok.0))
