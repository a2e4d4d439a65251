use Rattle.std.proofs.Common.{rules, arith, ◌≡◌, ◌∙◌, ◌+◌, ◌-◌, sym, ap, refl, subst, Bool, List, ℕ, true, cond, option_map, [], ◌∷◌, ◌++◌}
use Rattle.std.specs.Prelude.{vec_len, vec_capacity, is_some}
use Rattle.std.specs.Option.{unwrap_or}
use Rattle.std.specs.Arc.{arc_value}
use Rattle.lru.specs.LruCache.{promoted}
use Rattle.memo_core.specs.Memo.{journal_record, FillAnswer, evicted_count_of, same_name, brought_to_front, has_key, has_entry_with, entries_after_offer, entries_to_place, DropsFrom, StandIn}
use Rattle.memo_core.specs.Views.{MemoView, header_in, new_entry, after_fill, is_fill_kept, DropsTheRest}
use Rattle.memo_core.specs.Fills.{TellsIfKept, IsAfterFill, FillsBy}
use Rattle.memo_core.specs.declared.slots.Shelf.{Shelf}
use Rattle.memo_core.proofs.Fills.{fill_cases, stays_if, filled_by}
use Rattle.std.proofs.lemmas.List.{map-append}
use Rattle.memo_core.specs.Fields.{has_at, record_of_item, records_of, entries_of}
use Rattle.memo_core.proofs.Probed.{touched}
use Rattle.memo_core.proofs.Filled.{offer_is, said_is, keeps_is, filled_is, drops_is, fill_kept, entry_is}
use Rattle.memo_core.proofs.Rooms.{stand_same}
use Rattle.memo_core.proofs.Shares.{stand_filled}
use Rattle.memo_core.proofs.memo.MemoCore.fill.Goals as goal

abbrev key : (g : _) (c : goal.After-kept_or_not g) → g.row.F-Key.Denot
key g c = arc_value c.args.key.now

named : (g : _) (c : goal.After-kept_or_not g) → c.name-name.result ≡ g.N.Namer.name_of (key g c)
named g c = search rules

abbrev held : (g : _) (c : goal.After-kept_or_not g) → Bool
held g c = has_at g.F.Fit.same_key c.name-name.result (arc_value c.in-Ok-try_clone.held) c.self.inside.shelf.cache.entries

held_key : (g : _) (c : goal.After-kept_or_not g) → held g c ≡ has_at g.F.Fit.same_key (g.N.Namer.name_of (key g c)) (key g c) c.self.inside.shelf.cache.entries
held_key g c =
    ap (λ (n : List ℕ). has_at g.F.Fit.same_key n (arc_value c.in-Ok-try_clone.held) c.self.inside.shelf.cache.entries) (named g c)
    ∙ ap (λ (k : g.row.F-Key.Denot). has_at g.F.Fit.same_key (g.N.Namer.name_of (key g c)) k c.self.inside.shelf.cache.entries) c.in-Ok-try_clone.ensures

at : (g : _) (c : goal.After-kept_or_not g)
    → (entries_of (cond (held g c) (promoted (same_name (g.N.Namer.name_of (key g c))) c.self.inside.shelf.cache.entries) c.self.inside.shelf.cache.entries) ≡ brought_to_front (has_key g.F.Fit.same_key header_in (key g c)) (entries_of c.self.inside.shelf.cache.entries))
    × (held g c ≡ has_entry_with g.F.Fit.same_key header_in (key g c) (entries_of c.self.inside.shelf.cache.entries))
at g c = touched g.F.Fit.same_key g.N.Namer.name_of g.met.F.Fit.same_is (key g c) c.self.inside.shelf.cache.entries _ _ (held g c) c.self.invariant.sound.named c.in-Ok-offer.ensures.named refl (held_key g c) refl

held_is : (g : _) (c : goal.After-kept_or_not g) → held g c ≡ has_entry_with g.F.Fit.same_key header_in (key g c) (entries_of c.self.inside.shelf.cache.entries)
held_is g c = (at g c).1

front_is : (g : _) (c : goal.After-kept_or_not g) → held g c ≡ true → entries_of (promoted (same_name c.name-name.result) c.self.inside.shelf.cache.entries) ≡ brought_to_front (has_key g.F.Fit.same_key header_in (key g c)) (entries_of c.self.inside.shelf.cache.entries)
front_is g c h =
    ap (λ (n : List ℕ). entries_of (promoted (same_name n) c.self.inside.shelf.cache.entries)) (named g c)
    ∙ ap (λ b. entries_of (cond b (promoted (same_name (g.N.Namer.name_of (key g c))) c.self.inside.shelf.cache.entries) c.self.inside.shelf.cache.entries)) (sym h)
    ∙ (at g c).0

slots_are : (g : _) (c : goal.After-kept_or_not g) → entries_after_offer g.F.Fit.same_key header_in c.self.inside.limits.budget c.self.inside.limits.share (new_entry g.N.Namer.name_of c.args.caller (key g c) (arc_value c.args.value) c.args.weight) (entries_of c.self.inside.shelf.cache.entries) ≡ option_map (λ _. entries_of c.offer.new.shelf.cache.entries) c.in-Ok-offer.offered
slots_are g c =
    offer_is g.F.Fit.same_key g.N.Namer.name_of c.args.caller (key g c) (arc_value c.args.value) c.args.weight c.self.inside.limits.budget c.self.inside.limits.share (vec_capacity c.self.inside.journal - vec_len c.self.inside.journal) (vec_capacity c.push_reserved.new.self - vec_len c.push_reserved.new.self) (entries_of c.self.inside.gone.items) (entries_of c.offer.new.gone.items) c.self.inside.shelf c.offer.new.shelf (held g c) (promoted (same_name c.name-name.result) c.self.inside.shelf.cache.entries) _ c.in-Ok-offer.offered
    c.in-Ok-offer.ensures.taken.slots (entry_is _ _ _ _ c.args.weight c.args.caller (arc_value c.args.value) (named g c) c.in-Ok-try_clone.ensures) (held_is g c) (front_is g c)

core : (g : _) (c : goal.After-kept_or_not g)
    → ◌≡◌ {A = MemoView g.row.F-Key.Denot g.row.F-Value.Denot}
    (record { entries = entries_of c.offer.new.shelf.cache.entries; dropped = entries_of c.offer.new.gone.items; budget = c.self.inside.limits.budget; share = c.self.inside.limits.share; journal = records_of c.push_reserved.new.self.items; spare = vec_capacity c.push_reserved.new.self - vec_len c.push_reserved.new.self })
    (record (after_fill g.F.Fit.same_key g.N.Namer.name_of c.args.caller (key g c) (arc_value c.args.value) c.args.weight (record { entries = entries_of c.self.inside.shelf.cache.entries; dropped = entries_of c.self.inside.gone.items; budget = c.self.inside.limits.budget; share = c.self.inside.limits.share; journal = records_of c.self.inside.journal.items; spare = vec_capacity c.self.inside.journal - vec_len c.self.inside.journal })) { dropped = entries_of c.offer.new.gone.items })
core g c =
    filled_is g.F.Fit.same_key g.N.Namer.name_of c.args.caller (key g c) (arc_value c.args.value) c.args.weight c.self.inside.limits.budget c.self.inside.limits.share (vec_capacity c.self.inside.journal - vec_len c.self.inside.journal) (vec_capacity c.push_reserved.new.self - vec_len c.push_reserved.new.self) (entries_of c.self.inside.gone.items) (entries_of c.offer.new.gone.items) c.self.inside.shelf c.offer.new.shelf (held g c) c.in-Ok-offer.offered (slots_are g c) (held_is g c) c.in-Ok-offer.ensures.taken.refused c.in-Ok-offer.ensures.taken.evicted
    c.self.inside.journal.items c.push_reserved.new.self.items c.fill_item.result c.push_reserved.ensures.items (search rules) (omega (arith, c.push_reserved.ensures.len, c.push_reserved.ensures.capacity))

pub invariant_of-self-2 : goal.invariant_of-self-2
invariant_of-self-2 g c =
    let said = ap evicted_count_of (said_is g.F.Fit.same_key g.N.Namer.name_of c.args.caller (key g c) (arc_value c.args.value) c.args.weight c.self.inside.limits.budget c.self.inside.limits.share (vec_capacity c.self.inside.journal - vec_len c.self.inside.journal) (vec_capacity c.push_reserved.new.self - vec_len c.push_reserved.new.self) (entries_of c.self.inside.gone.items) (entries_of c.offer.new.gone.items) c.self.inside.shelf c.offer.new.shelf (held g c) c.in-Ok-offer.offered (slots_are g c) (held_is g c) c.in-Ok-offer.ensures.taken.refused c.in-Ok-offer.ensures.taken.evicted) in
    let evicted : c.from.result ≡ unwrap_or c.in-Ok-offer.offered 0 = search rules in
    fill_kept g.F.Fit.same_key g.N.Namer.name_of c.args.caller (key g c) (arc_value c.args.value) c.args.weight c.self.inside.limits.budget c.self.inside.limits.share (vec_capacity c.self.inside.journal - vec_len c.self.inside.journal) (vec_capacity c.push_reserved.new.self - vec_len c.push_reserved.new.self) (entries_of c.self.inside.gone.items) (entries_of c.offer.new.gone.items) c.self.inside.shelf c.offer.new.shelf g.F.Fit.fits g.F.Fit.weighs c.self.inside.evicted (c.self.inside.evicted + c.from.result) c.self.inside.journal.items c.push_reserved.new.self.items
    c.self.invariant c.requires.fits c.requires.weight c.in-Ok-offer.ensures.shelf c.in-Ok-offer.ensures.taken.distinct (omega (arith, said, evicted)) (core g c)

-- the memo then, as contracts see it
abbrev then : (g : _) (c : goal.After-kept_or_not g) → MemoView g.row.F-Key.Denot g.row.F-Value.Denot
then g c = record { entries = entries_of c.offer.new.shelf.cache.entries; dropped = entries_of c.offer.new.gone.items; budget = c.self.inside.limits.budget; share = c.self.inside.limits.share; journal = records_of c.push_reserved.new.self.items; spare = vec_capacity c.push_reserved.new.self - vec_len c.push_reserved.new.self }

filled : (g : _) (c : goal.After-kept_or_not g) → then g c ≡ record (after_fill g.F.Fit.same_key g.N.Namer.name_of c.args.caller (key g c) (arc_value c.args.value) c.args.weight c.args.self.now) { dropped = entries_of c.offer.new.gone.items }
filled g c = core g c ∙ ap (λ x. record (after_fill g.F.Fit.same_key g.N.Namer.name_of c.args.caller (key g c) (arc_value c.args.value) c.args.weight x) { dropped = entries_of c.offer.new.gone.items }) c.self.view_is

pub returns-in_default-offer-clause-reserved : goal.returns-in_default-offer-clause-reserved
returns-in_default-offer-clause-reserved g c some owner other l = stand_same header_in owner c.args.self.now.entries _ (search rules)

pub returns-clause-reserved : goal.returns-clause-reserved
returns-clause-reserved g c some owner other l =
    subst (StandIn header_in owner c.args.self.now.entries) (sym (ap (λ (x : MemoView g.row.F-Key.Denot g.row.F-Value.Denot). x.entries) (filled g c)))
    (stand_filled g.F.Fit.same_key header_in c.args.self.now.budget c.args.self.now.share (new_entry g.N.Namer.name_of c.args.caller (key g c) (arc_value c.args.value) c.args.weight) c.args.self.now.entries some owner other l)

kept_is : (g : _) (c : goal.After-kept_or_not g) → is_fill_kept g.F.Fit.same_key g.N.Namer.name_of c.args.caller (key g c) (arc_value c.args.value) c.args.weight c.args.self.now ≡ is_some c.in-Ok-offer.offered
kept_is g c =
    ap (is_fill_kept g.F.Fit.same_key g.N.Namer.name_of c.args.caller (key g c) (arc_value c.args.value) c.args.weight) (sym c.self.view_is)
    ∙ sym (keeps_is g.F.Fit.same_key g.N.Namer.name_of c.args.caller (key g c) (arc_value c.args.value) c.args.weight c.self.inside.limits.budget c.self.inside.limits.share (vec_capacity c.self.inside.journal - vec_len c.self.inside.journal) (vec_capacity c.push_reserved.new.self - vec_len c.push_reserved.new.self) (entries_of c.self.inside.gone.items) (entries_of c.offer.new.gone.items) c.self.inside.shelf c.offer.new.shelf (held g c) c.in-Ok-offer.offered (slots_are g c) (held_is g c) c.in-Ok-offer.ensures.taken.refused c.in-Ok-offer.ensures.taken.evicted)

drops : (g : _) (c : goal.After-kept_or_not g) → DropsTheRest g.F.Fit.same_key g.N.Namer.name_of c.args.caller (key g c) (arc_value c.args.value) c.args.weight c.args.self.now (then g c)
drops g c =
    subst (λ (x : MemoView g.row.F-Key.Denot g.row.F-Value.Denot). DropsFrom (entries_to_place g.F.Fit.same_key header_in x.budget x.share (new_entry g.N.Namer.name_of c.args.caller (key g c) (arc_value c.args.value) c.args.weight) x.entries) x.dropped (entries_of c.offer.new.gone.items) (entries_of c.offer.new.shelf.cache.entries))
    c.self.view_is
    (drops_is g.F.Fit.same_key g.N.Namer.name_of c.args.caller (key g c) (arc_value c.args.value) c.args.weight c.self.inside.limits.budget c.self.inside.limits.share (vec_capacity c.self.inside.journal - vec_len c.self.inside.journal) (vec_capacity c.push_reserved.new.self - vec_len c.push_reserved.new.self) (entries_of c.self.inside.gone.items) (entries_of c.offer.new.gone.items) c.self.inside.shelf c.offer.new.shelf (held g c) c.in-Ok-offer.offered (slots_are g c) (held_is g c) c.in-Ok-offer.ensures.taken.refused c.in-Ok-offer.ensures.taken.evicted
    _ c.self.inside.gone.items c.offer.new.gone.items (entry_is _ _ _ _ c.args.weight c.args.caller (arc_value c.args.value) (named g c) c.in-Ok-try_clone.ensures) c.in-Ok-offer.ensures.taken.dropped)

after : (g : _) (c : goal.After-kept_or_not g) → IsAfterFill g.F.Fit.same_key g.N.Namer.name_of c.args.caller (key g c) (arc_value c.args.value) c.args.weight c.args.self.now (then g c)
after g c = record { filled = filled g c; drops = drops g c }

pub returns-clause-core : goal.returns-clause-core
returns-clause-core g c =
    fill_cases (λ r. FillsBy g.F.Fit.same_key g.N.Namer.name_of c.args.caller (key g c) (arc_value c.args.value) c.args.weight r c.args.self.now (then g c)) (is_some c.in-Ok-offer.offered) c.kept_or_not.result c.kept_or_not.ensures.is
    (λ k. after g c) (λ h. after g c)

pub returns-clause-answer : goal.returns-clause-answer
returns-clause-answer g c =
    fill_cases (λ r. TellsIfKept g.F.Fit.same_key g.N.Namer.name_of c.args.caller (key g c) (arc_value c.args.value) c.args.weight r c.args.self.now (then g c)) (is_some c.in-Ok-offer.offered) c.kept_or_not.result c.kept_or_not.ensures.is
    (λ k. kept_is g c ∙ k)
    (λ h. (
      kept_is g c ∙ h,
      ap (λ (s : Shelf g.row.F-Key.Denot g.row.F-Value.Denot). entries_of s.cache.entries) (stays_if c.in-Ok-offer.offered c.offer.new.shelf c.self.inside.shelf c.in-Ok-offer.ensures.taken.refused h)
          ∙ ap (λ (x : MemoView g.row.F-Key.Denot g.row.F-Value.Denot). x.entries) c.self.view_is,
    ))

pub returns-clause-journal : goal.returns-clause-journal
returns-clause-journal g c =
    let more : records_of c.push_reserved.new.self.items ≡ c.args.self.now.journal ++ journal_record c.args.caller (key g c) (FillAnswer c.args.weight (is_some c.in-Ok-offer.offered) (unwrap_or c.in-Ok-offer.offered 0)) ∷ [] =
    ap records_of c.push_reserved.ensures.items ∙ map-append record_of_item c.self.inside.journal.items (c.fill_item.result ∷ [])
    ∙ ap (λ x. records_of c.self.inside.journal.items ++ x ∷ []) (search rules)
    ∙ ap (λ (x : MemoView g.row.F-Key.Denot g.row.F-Value.Denot). x.journal ++ journal_record c.args.caller (key g c) (FillAnswer c.args.weight (is_some c.in-Ok-offer.offered) (unwrap_or c.in-Ok-offer.offered 0)) ∷ []) c.self.view_is in
    filled_by c.in-Ok-offer.offered c.kept_or_not.result c.args.caller (key g c) c.args.weight c.args.self.now.journal (records_of c.push_reserved.new.self.items) c.kept_or_not.ensures.is more
