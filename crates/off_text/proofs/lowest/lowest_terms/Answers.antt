use Rattle.std.proofs.Common.{rules, ◌≡◌, pos, sym, ap, ◌∙◌, to_z, to_z-of_z, FitsSigned}
use Rattle.off_text.proofs.lemmas.Factors.{whole_is_reduced}
use mir.Syntax.{w128}
use Rattle.off_text.proofs.lowest.lowest_terms.Goals as goal

pub returns-then-point-eq1-clause-reduced : goal.returns-then-point-eq1-clause-reduced
returns-then-point-eq1-clause-reduced c =
    let fits : FitsSigned w128 c.point.inside.w = search rules in
    let whole : c.point.inside.w ≡ pos 1 = sym (to_z-of_z fits) ∙ ap (to_z w128) c.if-point-eq1.true in
    whole_is_reduced _ whole
