use Rattle.scad_meaning.proofs.SomeMeaning.{some_meaning}
use Rattle.scad_meaning.proofs.laws.some_meaning.Goals as goal

pub returns : goal.returns
returns c =
    let right = c.shapes_have_one_verdict.ensures.some in
    some_meaning right.0 right.1 (λ design known sound. c.some_placing.ensures design known sound)
