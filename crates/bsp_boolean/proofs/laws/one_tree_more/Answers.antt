use Rattle.bsp_boolean.proofs.TreeSolids.{one_solid_more, size_more, joins_more, within_more, solid_numbered, few_joins}
use Rattle.bsp_boolean.proofs.laws.one_tree_more.Goals as goal

pub returns : goal.returns
returns c = record {
  solids = one_solid_more;
  sizes = size_more;
  joins = joins_more;
  within = within_more;
  numbered = solid_numbered;
  few = few_joins;
}
