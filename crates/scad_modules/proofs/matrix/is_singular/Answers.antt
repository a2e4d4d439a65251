use Rattle.scad_modules.proofs.Singular.{singular_is}
use Rattle.scad_modules.proofs.matrix.is_singular.Goals as goal

pub returns : goal.returns
returns c =
    singular_is c.matrix.result c.is_none.result c.args.rows c.linear.result c.linear-2.result c.linear-3.result
    c.is_none.ensures c.matrix.ensures.none c.linear.ensures c.linear-2.ensures c.linear-3.ensures
