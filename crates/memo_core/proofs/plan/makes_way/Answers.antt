use Rattle.std.proofs.Common.{rules}
use Rattle.memo_core.proofs.Ways.{way_none, way_some, way_counted, without_none, without_some}
use Rattle.memo_core.proofs.plan.makes_way.Goals as goal

pub returns-in_default-clause-way : goal.returns-in_default-clause-way
returns-in_default-clause-way g c = way_none c.args.name.now c.args.cache.now.entries c.args.share c.args.slot.now.owner (search rules)

pub returns-in_default-clause-plan : goal.returns-in_default-clause-plan
returns-in_default-clause-plan g c _ = without_none c.args.name.now c.args.cache.now.entries c.args.slot.now.weight c.args.plan.now (search rules) c.requires

pub returns-then-not-frees-clause-way : goal.returns-then-not-frees-clause-way
returns-then-not-frees-clause-way g c =
    way_some c.args.name.now c.args.cache.now.entries c.args.share c.args.slot.now.owner c.args.slot.now.weight c.in-Some.old.now c.args.plan.now _ (search rules) c.requires (search rules)

pub leave_out-requires-clause-total : goal.leave_out-requires-clause-total
leave_out-requires-clause-total g c = (way_counted c.args.name.now c.args.cache.now.entries c.args.slot.now.weight c.in-Some.old.now c.args.plan.now (search rules) c.requires).0

pub leave_out-requires-clause-owned : goal.leave_out-requires-clause-owned
leave_out-requires-clause-owned g c = (way_counted c.args.name.now c.args.cache.now.entries c.args.slot.now.weight c.in-Some.old.now c.args.plan.now (search rules) c.requires).1

pub returns-clause-way : goal.returns-clause-way
returns-clause-way g c =
    way_some c.args.name.now c.args.cache.now.entries c.args.share c.args.slot.now.owner c.args.slot.now.weight c.in-Some.old.now c.args.plan.now _ (search rules) c.requires (search rules)

pub returns-clause-plan : goal.returns-clause-plan
returns-clause-plan g c _ =
    without_some c.args.name.now c.args.cache.now.entries c.args.slot.now.weight c.in-Some.old.now c.args.plan.now c.leave_out.new.plan (search rules) c.requires
    c.leave_out.ensures.total c.leave_out.ensures.count c.leave_out.ensures.owned
