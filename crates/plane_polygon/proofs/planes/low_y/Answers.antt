use Rattle.std.proofs.Common.{arith}
use Rattle.std.proofs.Math.Nat.{eq-one_of_dvd-one}
use Rattle.plane_polygon.proofs.planes.low_y.Goals as goal

pub invariant_of-result : goal.invariant_of-result
invariant_of-result c = record { a_size = omega arith; b_size = omega arith; c_size = omega arith; d_size = omega arith; directed = omega arith; reduced = λ k _ h _ _. eq-one_of_dvd-one h }
