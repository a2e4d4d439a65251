use Rattle.std.proofs.Common.{arith, inl, inr, [], subst, sym}
use Rattle.memo_core.proofs.Walks.{begun, exhausted, walked, walk_counted, IsWalk}
use Rattle.memo_core.proofs.plan.makes_room.Goals as goal
use Rattle.memo_core.proofs.plan.makes_room.Goals.{then-plan-from, else-plan-from+then-plan-gt-ENTRIES_MAX}

pub loop-plan-init : goal.loop-plan-init
loop-plan-init g c = (
  [],
  subst (λ x. IsWalk c.args.limits.budget c.args.limits.share c.args.name.now c.args.slot.now c.args.cache.now.entries x [] c.args.plan.now) (sym c.iter-rest.ensures.rest)
      (begun c.args.limits.budget c.args.limits.share c.args.name.now c.args.slot.now c.args.cache.now.entries c.args.plan.now c.requires.names c.len-len.ensures.valid.0 c.requires.plan),
)

pub returns-in_default-clause-no : goal.returns-in_default-clause-no
returns-in_default-clause-no g c _ =
    exhausted c.args.limits.budget c.args.limits.share c.args.name.now c.args.slot.now c.args.cache.now.entries c.loop-plan.invariant.0 c.loop-plan.plan
    (subst (λ x. IsWalk c.args.limits.budget c.args.limits.share c.args.name.now c.args.slot.now c.args.cache.now.entries x c.loop-plan.invariant.0 c.loop-plan.plan) c.in_default.ensures.steps.0 c.loop-plan.invariant.1) (elim c.if-plan-from.branch [
      | then-plan-from w ↦ inl (omega (arith, w.if-plan-from.true, c.from.ensures))
      | else-plan-from+then-plan-gt-ENTRIES_MAX w ↦ inr (omega (arith, w.if-plan-gt-ENTRIES_MAX.true))
    ])

pub pass-requires : goal.pass-requires
pass-requires g c i =
    walk_counted c.args.limits.budget c.args.limits.share c.args.name.now c.args.slot.now c.args.cache.now.entries c.loop-plan.rest c.next_back.new.self c.loop-plan.invariant.0 (c.in-Some.last.now, c.in-Some.behind.now) c.loop-plan.plan
    c.loop-plan.invariant.1 c.in-Some.ensures.steps i

pub loop-plan-preserved : goal.loop-plan-preserved
loop-plan-preserved g c =
    walked c.args.limits.budget c.args.limits.share c.args.name.now c.args.slot.now c.args.cache.now.entries c.loop-plan.rest c.next_back.new.self c.loop-plan.invariant.0 (c.in-Some.last.now, c.in-Some.behind.now) c.loop-plan.plan c.pass.new.plan
    c.loop-plan.invariant.1 c.in-Some.ensures.steps (elim c.if-plan-from.branch [
      | then-plan-from w ↦ inl (omega (arith, w.if-plan-from.true, c.from.ensures))
      | else-plan-from+then-plan-gt-ENTRIES_MAX w ↦ inr (omega (arith, w.if-plan-gt-ENTRIES_MAX.true))
    ]) c.in_ok-pass.ensures.goes c.in_ok-pass.ensures.stays c.in_ok-pass.ensures.skips
