use Rattle.scad_value.proofs.Integers.{product_is, product_is_small}
use Rattle.scad_value.proofs.arithmetic.multiply.Goals as goal

pub returns-clause-value : goal.returns-clause-value
returns-clause-value c = product_is c.args.left c.args.right c.requires.left c.requires.right

pub returns-clause-size : goal.returns-clause-size
returns-clause-size c = product_is_small c.args.left c.args.right c.requires.left c.requires.right
