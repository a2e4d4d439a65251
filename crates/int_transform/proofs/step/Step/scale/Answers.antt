use Rattle.std.proofs.Common.{ap, get_or, of_z, pos, w64}
use Rattle.int_transform.proofs.lemmas.Regular.{scaled_is_step}
use Rattle.int_transform.proofs.step.Step.scale.Goals as goal

pub invariant_of-result : goal.invariant_of-result
invariant_of-result c =
    scaled_is_step
    c.diagonal.result
    (get_or c.args.by 0 (pos 0))
    (get_or c.args.by 1 (pos 0))
    (get_or c.args.by 2 (pos 0))
    c.diagonal.ensures
    c.requires.x_size
    c.requires.y_size
    c.requires.z_size
    (λ e. c.if-by-eq0.false (ap (of_z w64) e))
    (λ e. c.if-by-eq0-2.false (ap (of_z w64) e))
    (λ e. c.if-by-eq0-3.false (ap (of_z w64) e))
