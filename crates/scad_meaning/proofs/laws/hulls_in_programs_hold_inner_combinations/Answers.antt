use Rattle.std.proofs.Common.{subst}
use Rattle.scad_meaning.specs.Hulls.{points_of}
use Rattle.scad_meaning.specs.Verdicts.{IsHullVerdict}
use Rattle.scad_meaning.proofs.laws.hulls_in_programs_hold_inner_combinations.Goals as goal

pub returns : goal.returns
returns c = λ judge right design none q w.
    c.hulls_hold_inner_combinations.ensures.inside (points_of design) (subst (IsHullVerdict design) none (right.hull design)).points q w
