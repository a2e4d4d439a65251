use Rattle.std.proofs.Common.{ℕ, pos, ◌≤ℤ◌, arith}
use Rattle.plane_predicate.specs.Space.{point_at, inner_product, plane_of_points}
use Rattle.primitives.specs.Shapes.{mesh_point}
use Rattle.primitives.proofs.lemmas.Lists.{all_done, all_next}
use Rattle.primitives.proofs.Searches.{above_most}
use Rattle.primitives.proofs.bounding.has_none_left.Goals as goal

pub loop-i-preserved : goal.loop-i-preserved
loop-i-preserved c =
    all_next (λ (i : ℕ). inner_product c.args.plane.now (plane_of_points (point_at c.args.way.from) (point_at c.args.way.to) (mesh_point c.args.points.now i)) ≤ℤ pos 0) c.args.face.now c.loop-i.i-index 0 (omega arith) c.loop-i.invariant c.if-turns_left.ensures.other

pub returns-clause-all : goal.returns-clause-all
returns-clause-all c =
    all_done (λ (i : ℕ). inner_product c.args.plane.now (plane_of_points (point_at c.args.way.from) (point_at c.args.way.to) (mesh_point c.args.points.now i)) ≤ℤ pos 0) c.args.face.now c.loop-i.i-index (omega arith) c.loop-i.invariant

pub returns-then-turns_left-clause-past : goal.returns-then-turns_left-clause-past
returns-then-turns_left-clause-past c = λ h. above_most _ c.if-turns_left.ensures.left (h c.loop-i.i-index 0 c.loop-i-test.true)
