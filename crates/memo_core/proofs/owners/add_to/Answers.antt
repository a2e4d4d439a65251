use Rattle.std.proofs.Common.{rules, arith, ◌∙◌, ◌+◌, ap, sym}
use Rattle.memo_core.specs.Fields.{weight_at}
use Rattle.memo_core.proofs.Weights.{found_weight, set_more, push_weight}
use Rattle.memo_core.proofs.owners.add_to.Goals as goal

pub overflow_add-sum : goal.overflow_add-sum
overflow_add-sum c = let w = found_weight c.args.owner c.args.rows.now.items c.in-Some.place c.index.result.now (search rules) (search rules) in omega (arith, w, c.requires)

pub returns-in-Some : goal.returns-in-Some
returns-in-Some c = set_more c.args.owner c.args.weight _ c.args.rows.now.items c.in-Some.place (search rules) (ap (λ n. n + c.args.weight) (sym (found_weight c.args.owner c.args.rows.now.items c.in-Some.place c.index.result.now (search rules) (search rules))))

pub returns-in_ok-push-in-None : goal.returns-in_ok-push-in-None
returns-in_ok-push-in-None c other =
    ap (weight_at other) c.in_ok-push-in-None.ensures.items ∙ push_weight c.args.owner c.args.weight c.args.rows.now.items (search rules) other
