use Rattle.std.proofs.Common.{rules, arith}
use Rattle.memo_core.proofs.Weights.{found_weight, set_less, take_none}
use Rattle.memo_core.proofs.owners.take_from.Goals as goal

pub overflow_sub-rest : goal.overflow_sub-rest
overflow_sub-rest c = let w = found_weight c.args.owner c.args.rows.now.items c.in-Some.place c.index.result.now (search rules) (search rules) in omega (arith, w, c.requires)

pub returns-in-Some : goal.returns-in-Some
returns-in-Some c = set_less c.args.owner c.args.weight _ c.args.rows.now.items c.in-Some.place (search rules) (let w = found_weight c.args.owner c.args.rows.now.items c.in-Some.place c.index.result.now (search rules) (search rules) in omega (arith, w, c.requires))

pub returns-in_default : goal.returns-in_default
returns-in_default c = take_none c.args.owner c.args.weight c.args.rows.now.items (search rules) c.requires
