use Rattle.scad_meaning.proofs.OneMeaning.{one_meaning}
use Rattle.scad_meaning.proofs.laws.one_meaning.Goals as goal

pub returns : goal.returns
returns c =
    let right = c.shapes_have_one_verdict.ensures.some in
    one_meaning right.0 right.1 (λ design known out other h g. c.one_placing.ensures design known out other h g)
