use Rattle.std.proofs.Common.{rules, arith, get_or, pos, ap, ◌≡◌, ◌∙◌, unsigned_abs, to_z-of_z, FitsSigned, w64}
use Rattle.primitives.proofs.lemmas.Lists.{all_done, all_next}
use Rattle.primitives.specs.Sizes.{length_in_grid_steps, IsEven}
use Rattle.primitives.proofs.sizes.are_even.Goals as goal

pub loop-side-preserved : goal.loop-side-preserved
loop-side-preserved c =
    let f : FitsSigned w64 (get_or c.args.sides.now c.loop-side.side-index (pos 0)) = search rules in
    let g : FitsSigned w64 c.in_steps.result = search rules in
    let steps = simp to_z-of_z at c.in_steps.ensures in
    let size = simp to_z-of_z at c.unsigned_abs.ensures.value in
    let same : c.unsigned_abs.result ≡ unsigned_abs (length_in_grid_steps c.args.unit (get_or c.args.sides.now c.loop-side.side-index (pos 0))) = size ∙ ap unsigned_abs steps in
    all_next (IsEven c.args.unit) c.args.sides.now c.loop-side.side-index (pos 0) (omega arith) c.loop-side.invariant (omega (arith, same))

pub returns-clause-all : goal.returns-clause-all
returns-clause-all c = all_done (IsEven c.args.unit) c.args.sides.now c.loop-side.side-index (omega arith) c.loop-side.invariant
