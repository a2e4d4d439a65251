use Rattle.std.proofs.Common.{rules, arith, ◌<◌, ◌^◌}
use Rattle.memo_core.proofs.Walks.{room_owned}
use Rattle.memo_core.proofs.plan.plan_for.Goals as goal

pub add_to-requires : goal.add_to-requires
add_to-requires g c =
    let r = room_owned c.args.limits.budget c.args.limits.share c.args.name.now c.args.slot.now c.args.shelf.now.cache.entries c.makes_room.new.plan (search rules) in
    let b : c.args.limits.budget < 2 ^ 64 = search rules in
    omega (arith, r, b)
