use Rattle.std.proofs.Common.{neg_ℤ, arith, w64}
use Rattle.plane_predicate.proofs.lemmas.Opposites.{negated, same_plane}
use Rattle.primitives.proofs.facing.opposite.Goals as goal

pub returns : goal.returns
returns c =
    let m = c.m.inside in
    rw (← c.m.view_is)
    (same_plane _ _ _ _ (neg_ℤ m.a) (neg_ℤ m.b) (neg_ℤ m.c) (neg_ℤ m.d) (negated w64 m.a (omega (arith, c.m.invariant.a_size))) (negated w64 m.b (omega (arith, c.m.invariant.b_size))) (negated w64 m.c (omega (arith, c.m.invariant.c_size))) (negated w64 m.d (omega (arith, c.m.invariant.d_size))))
