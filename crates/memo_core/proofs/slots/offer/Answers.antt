use Rattle.std.proofs.Common.{rules, refl, ap, sym, subst, ◌≡◌, ◌∙◌, false, IsPermutation}
use Rattle.std.specs.Prelude.{nat_lt}
use Rattle.std.specs.Arc.{arc_value}
use Rattle.lru.specs.LruCache.{promoted}
use Rattle.memo_core.specs.Memo.{same_name}
use Rattle.memo_core.specs.Fields.{has_at}
use Rattle.memo_core.proofs.Shelves.{shelf_promoted}
use Rattle.memo_core.proofs.Drops.{drops_nothing, permutes_promoted}
use Rattle.memo_core.proofs.Offers.{taken_held, taken_pushed}
use Rattle.memo_core.proofs.slots.offer.Goals as goal

pub returns-then-is_held-clause-shelf : goal.returns-then-is_held-clause-shelf
returns-then-is_held-clause-shelf g c =
    shelf_promoted c.args.limits.budget (same_name c.args.name) c.args.shelf.now _ c.requires (ap (λ x. x.entries) c.promote.ensures.entries) (ap (λ x. x.cap) c.promote.ensures.entries) refl refl

pub returns-then-is_held-clause-taken : goal.returns-then-is_held-clause-taken
returns-then-is_held-clause-taken g c =
    let es = c.args.shelf.now.cache.entries in
    let front = ap (λ x. x.entries) c.promote.ensures.entries in
    let heavy : nat_lt c.args.limits.budget c.args.slot.weight ≡ false = search rules in
    let held = sym (ap (λ (k : g.row.F-Key.Denot). has_at g.F.Fit.same_key c.args.name k c.args.shelf.now.cache.entries) c.deref.ensures) ∙ sym c.has_slot-is_held.ensures.held ∙ c.if-is_held.true in
    taken_held (has_at g.F.Fit.same_key c.args.name (arc_value c.args.slot.key) es) (nat_lt c.args.limits.budget c.args.slot.weight) held heavy
    (promoted (same_name c.args.name) es) _ (c.args.name, c.args.slot) c.args.shelf.now _ c.args.gone.now.items (sym front)
    (drops_nothing es _ c.args.gone.now.items (subst (IsPermutation es) (sym front) (permutes_promoted (same_name c.args.name) es))) (search rules)

pub returns-clause-taken : goal.returns-clause-taken
returns-clause-taken g c =
    let es = c.args.shelf.now.cache.entries in
    let heavy : nat_lt c.args.limits.budget c.args.slot.weight ≡ false = search rules in
    let held = sym (ap (λ (k : g.row.F-Key.Denot). has_at g.F.Fit.same_key c.args.name k c.args.shelf.now.cache.entries) c.deref.ensures) ∙ sym c.has_slot-is_held.ensures.held ∙ c.if-is_held.false in
    taken_pushed c.push.result (has_at g.F.Fit.same_key c.args.name (arc_value c.args.slot.key) es) (nat_lt c.args.limits.budget c.args.slot.weight) held heavy
    (promoted (same_name c.args.name) es) _ (c.args.name, c.args.slot) c.args.shelf.now c.push.new.shelf c.args.gone.now.items c.push.new.gone.items c.push.ensures.taken
