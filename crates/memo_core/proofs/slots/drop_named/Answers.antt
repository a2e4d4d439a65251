use Rattle.std.proofs.Common.{rules, arith, ◌≡◌, ◌<◌, ◌∙◌, ◌++◌, ap, sym, length, [], take, get_or, List, ℕ}
use Rattle.std.specs.Map.{remove_entry}
use Rattle.std.proofs.lemmas.List.{take_more}
use Rattle.lru.specs.LruCache.{lru_cache}
use Rattle.memo_core.specs.Memo.{same_name}
use Rattle.memo_core.specs.Plans.{pairs_without, pair_if_there}
use Rattle.memo_core.proofs.Walks.{removed_more}
use Rattle.memo_core.proofs.Drops.{drops_then, drops_taken}
use Rattle.memo_core.proofs.slots.drop_named.Goals as goal

pub loop-name-preserved : goal.loop-name-preserved
loop-name-preserved g c =
    let lt : c.loop-name.name-index < length c.args.names.now = search rules in
    let cut = lru_cache (remove_entry (same_name (get_or c.args.names.now c.loop-name.name-index [])) c.loop-name.cache.entries) c.loop-name.cache.cap in
    let popped : c.pop.new.self ≡ cut = search rules in
    let n : List ℕ = get_or c.args.names.now c.loop-name.name-index [] in (
      ap (λ x. x.entries) popped ∙ ap (remove_entry (same_name n)) c.loop-name.invariant.0
          ∙ sym (removed_more (take c.loop-name.name-index c.args.names.now) n c.args.cache.now.entries)
          ∙ ap (λ ns. pairs_without ns c.args.cache.now.entries) (sym (take_more c.args.names.now c.loop-name.name-index [] lt)),
      ap (λ x. x.cap) popped ∙ c.loop-name.invariant.1,
      omega (arith, c.loop-name.invariant.2, c.hand_out.ensures.len, c.hand_out.ensures.capacity),
      drops_then c.args.cache.now.entries c.loop-name.cache.entries _ c.args.gone.now.items c.loop-name.gone.items _ c.loop-name.invariant.3
          (drops_taken n c.loop-name.cache.entries c.loop-name.gone.items _ _ (c.hand_out.ensures.items ∙ ap (λ o. c.loop-name.gone.items ++ pair_if_there n o) c.pop.ensures.value) (ap (λ x. x.entries) popped)),
    )

pub hand_out-requires : goal.hand_out-requires
hand_out-requires g c =
    let lt : c.loop-name.name-index < length c.args.names.now = search rules in
    omega (arith, c.loop-name.invariant.2, lt)
