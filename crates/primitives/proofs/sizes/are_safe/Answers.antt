use Rattle.std.proofs.Common.{rules, ℤ, arith, get_or, pos, subst, to_z-of_z, FitsSigned, w64}
use Rattle.primitives.proofs.lemmas.Lists.{all_done, all_next}
use Rattle.primitives.specs.Sizes.{length_in_grid_steps, IsSafe}
use Rattle.primitives.proofs.sizes.are_safe.Goals as goal

pub loop-side-preserved : goal.loop-side-preserved
loop-side-preserved c =
    let f : FitsSigned w64 (get_or c.args.sides.now c.loop-side.side-index (pos 0)) = search rules in
    let g : FitsSigned w64 c.in_steps.result = search rules in
    let steps = simp to_z-of_z at c.in_steps.ensures in
    let small : IsSafe c.in_steps.result = simp to_z-of_z at c.if-not-is_safe.ensures.small in
    all_next (λ (s : ℤ). IsSafe (length_in_grid_steps c.args.unit s)) c.args.sides.now c.loop-side.side-index (pos 0) (omega arith) c.loop-side.invariant (subst IsSafe steps small)

pub returns-clause-all : goal.returns-clause-all
returns-clause-all c = all_done (λ (s : ℤ). IsSafe (length_in_grid_steps c.args.unit s)) c.args.sides.now c.loop-side.side-index (omega arith) c.loop-side.invariant
