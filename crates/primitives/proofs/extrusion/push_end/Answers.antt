use Rattle.std.proofs.Common.{rules, ◌≡◌, ℕ, ◌++◌, List, ℤ, pos, [], get_or, length, take, map, ap, ◌∙◌, arith, to_z-of_z, FitsSigned, w64}
use Rattle.std.proofs.Math.Seq.{take-length}
use Rattle.primitives.specs.Prisms.{at_height}
use Rattle.primitives.proofs.lemmas.PrismLists.{end_next}
use Rattle.primitives.proofs.extrusion.push_end.Goals as goal

pub loop-point-preserved : goal.loop-point-preserved
loop-point-preserved c =
    let p = get_or c.args.points.now c.loop-point.point-index [] in
    let fx : FitsSigned w64 (get_or p 0 (pos 0)) = search rules in
    let fy : FitsSigned w64 (get_or p 1 (pos 0)) = search rules in
    let fz = c.ranges.z in
    let items = simp to_z-of_z at c.in_ok-push.ensures.items in
    let before = simp to_z-of_z at c.loop-point.invariant in
    simp to_z-of_z (end_next c.args.points.now c.loop-point.point-index c.args.z c.args.corners.now.items c.loop-point.corners.items c.push.new.self.items c.loop-point-test.true before items)

pub returns : goal.returns
returns c =
    let fz = c.ranges.z in
    let before = simp to_z-of_z at c.loop-point.invariant in
    let e : c.loop-point.point-index ≡ length c.args.points.now = omega arith in
    before ∙ ap (λ (xs : List (List ℤ)). c.args.corners.now.items ++ map (at_height c.args.z) xs) (ap (λ (n : ℕ). take n c.args.points.now) e ∙ take-length c.args.points.now)
