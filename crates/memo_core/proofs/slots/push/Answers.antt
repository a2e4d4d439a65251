use Rattle.std.proofs.Common.{rules, arith, refl, subst, ◌∷◌}
use Rattle.memo_core.specs.Memo.{DropsFrom}
use Rattle.memo_core.specs.Plans.{IsPlanFor}
use Rattle.memo_core.proofs.Shelves.{carried_pushed, carried_shorter, shelf_carried}
use Rattle.memo_core.proofs.Drops.{drops_nothing, drops_then}
use Rattle.std.proofs.lemmas.List.Sorted.{IsPermutation-refl}
use Rattle.memo_core.proofs.slots.push.Goals as goal

pub overflow_sub-evicted : goal.overflow_sub-evicted
overflow_sub-evicted g c =
    let p : IsPlanFor c.args.limits.budget c.args.limits.share c.args.name c.args.slot c.args.shelf.now.cache.entries c.in-Some.plan = search rules in
    let h = carried_shorter c.args.limits.budget c.args.limits.share c.args.name c.args.slot c.args.shelf.now c.requires.shelf c.in-Some.plan p c.stack.new.cache.entries c.drop_named.new.cache.entries (search rules) (search rules) in
    omega (arith, h, c.len.ensures.len, c.len-before.ensures.len)

pub returns-in_default-clause-taken : goal.returns-in_default-clause-taken
returns-in_default-clause-taken g c =
    let es = c.args.shelf.now.cache.entries in record {
      slots = search rules;
      evicted = tt;
      dropped = drops_nothing es es c.args.gone.now.items (IsPermutation-refl es);
      refused = refl;
      distinct = search rules;
    }

pub returns-clause-taken : goal.returns-clause-taken
returns-clause-taken g c =
    let p : IsPlanFor c.args.limits.budget c.args.limits.share c.args.name c.args.slot c.args.shelf.now.cache.entries c.in-Some.plan = search rules in record {
      slots = carried_pushed c.args.limits.budget c.args.limits.share c.args.name c.args.slot c.args.shelf.now c.requires.shelf c.in-Some.plan p c.stack.new.cache.entries c.drop_named.new.cache.entries (search rules) (search rules);
      evicted = search rules;
      dropped =
          drops_then ((c.args.name, c.args.slot) ∷ c.args.shelf.now.cache.entries) c.stack.new.cache.entries _ c.args.gone.now.items c.stack.new.gone.items _
          (subst (λ l. DropsFrom ((c.args.name, c.args.slot) ∷ c.args.shelf.now.cache.entries) l c.stack.new.gone.items c.stack.new.cache.entries) c.reserve.ensures.items (search rules))
          c.drop_named.ensures.dropped;
      refused = tt;
      distinct = search rules;
    }

pub returns-clause-shelf : goal.returns-clause-shelf
returns-clause-shelf g c =
    let p : IsPlanFor c.args.limits.budget c.args.limits.share c.args.name c.args.slot c.args.shelf.now.cache.entries c.in-Some.plan = search rules in
    shelf_carried c.args.limits.budget c.args.limits.share c.args.name c.args.slot c.args.shelf.now c.requires.shelf c.in-Some.plan p c.stack.new.cache.entries _ (search rules) (search rules) (search rules) refl refl
