use Rattle.std.proofs.Common.{refl}
use Rattle.primitives.proofs.polyhedron.check_written.Goals as goal

pub returns-then-not-are_there-clause-fault : goal.returns-then-not-are_there-clause-fault
returns-then-not-are_there-clause-fault c = record {
  number = 2;
  is = refl;
  fails = (c.if-not-is_within_limits.ensures.within, (c.if-not-has_enough_corners.ensures.enough, c.if-not-are_there.ensures.past));
}

pub returns-then-not-are_in_range-clause-fault : goal.returns-then-not-are_in_range-clause-fault
returns-then-not-are_in_range-clause-fault c = record {
  number = 3;
  is = refl;
  fails = (c.if-not-is_within_limits.ensures.within, (c.if-not-has_enough_corners.ensures.enough, (c.if-not-are_there.ensures.all, c.if-not-are_in_range.ensures.past)));
}
