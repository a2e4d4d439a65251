use Rattle.std.proofs.Common.{rules, ◌≡◌, ◌∙◌, sym, ap, arith, subst, List, ℕ, option_map, ◌-◌, refl}
use Rattle.std.specs.Prelude.{vec_len, vec_capacity, cond, is_some}
use Rattle.std.specs.Arc.{arc_value}
use Rattle.lru.specs.LruCache.{promoted}
use Rattle.memo_core.specs.Views.{MemoView, after_probe, header_in}
use Rattle.memo_core.specs.Fields.{value_with_key, value_in, records_of, entries_of}
use Rattle.memo_core.specs.Memo.{same_name, brought_to_front, has_key, has_entry_with, first_with}
use Rattle.std.specs.Map.{lookup}
use Rattle.memo_core.proofs.Hits.{value_is}
use Rattle.memo_core.proofs.Probed.{touched, probed_is, probed_kept, some_first, is_some_map, first_fits}
use Rattle.memo_core.proofs.Shelves.{shelf_touched}
use Rattle.memo_core.proofs.Rooms.{stand_same, stand_front}
use Rattle.memo_core.proofs.memo.MemoCore.probe.Goals as goal

named : (g : _) (c : goal.After-answer g) → c.name-name.result ≡ g.N.Namer.name_of (arc_value c.args.key.now)
named g c = search rules

found : (g : _) (c : goal.After-answer g) → option_map arc_value c.in_ok-found.found ≡ value_with_key g.F.Fit.same_key (arc_value c.args.key.now) (lookup (same_name (g.N.Namer.name_of (arc_value c.args.key.now))) c.self.inside.shelf.cache.entries)
found g c = subst (λ (n : List ℕ). option_map arc_value c.in_ok-found.found ≡ value_with_key g.F.Fit.same_key (arc_value c.args.key.now) (lookup (same_name n) c.self.inside.shelf.cache.entries)) (named g c) (search rules)

entries : (g : _) (c : goal.After-answer g) → c.touch.new.cache.entries ≡ cond c.is_some-hit.result (promoted (same_name (g.N.Namer.name_of (arc_value c.args.key.now))) c.self.inside.shelf.cache.entries) c.self.inside.shelf.cache.entries
entries g c =
    subst (λ b. c.touch.new.cache.entries ≡ cond b (promoted (same_name (g.N.Namer.name_of (arc_value c.args.key.now))) c.self.inside.shelf.cache.entries) c.self.inside.shelf.cache.entries) (sym c.is_some-hit.ensures)
    (subst (λ (n : List ℕ). c.touch.new.cache.entries ≡ cond (is_some c.in_ok-found.found) (promoted (same_name n) c.self.inside.shelf.cache.entries) c.self.inside.shelf.cache.entries) (named g c) c.touch.ensures.entries)

touch : (g : _) (c : goal.After-answer g)
    → (entries_of c.touch.new.cache.entries ≡ brought_to_front (has_key g.F.Fit.same_key header_in (arc_value c.args.key.now)) (entries_of c.self.inside.shelf.cache.entries))
    × (c.is_some-hit.result ≡ has_entry_with g.F.Fit.same_key header_in (arc_value c.args.key.now) (entries_of c.self.inside.shelf.cache.entries))
touch g c = touched g.F.Fit.same_key g.N.Namer.name_of g.met.F.Fit.same_is (arc_value c.args.key.now) c.self.inside.shelf.cache.entries c.touch.new.cache.entries (option_map arc_value c.in_ok-found.found) c.is_some-hit.result
    c.self.invariant.sound.named c.in_ok-found.ensures.distinct (found g c) (c.is_some-hit.ensures ∙ sym (is_some_map arc_value c.in_ok-found.found)) (entries g c)

core : (g : _) (c : goal.After-answer g)
    → ◌≡◌ {A = MemoView g.row.F-Key.Denot g.row.F-Value.Denot}
    (record { entries = entries_of c.touch.new.cache.entries; dropped = entries_of c.self.inside.gone.items; budget = c.self.inside.limits.budget; share = c.self.inside.limits.share; journal = records_of c.push_reserved.new.self.items; spare = vec_capacity c.push_reserved.new.self - vec_len c.push_reserved.new.self })
    (after_probe g.F.Fit.same_key c.args.caller (arc_value c.args.key.now) (record { entries = entries_of c.self.inside.shelf.cache.entries; dropped = entries_of c.self.inside.gone.items; budget = c.self.inside.limits.budget; share = c.self.inside.limits.share; journal = records_of c.self.inside.journal.items; spare = vec_capacity c.self.inside.journal - vec_len c.self.inside.journal }))
core g c = probed_is g.F.Fit.same_key g.N.Namer.name_of g.met.F.Fit.same_is (arc_value c.args.key.now) c.args.caller c.self.inside.limits.budget c.self.inside.limits.share (vec_capacity c.self.inside.journal - vec_len c.self.inside.journal) (vec_capacity c.push_reserved.new.self - vec_len c.push_reserved.new.self)
    (entries_of c.self.inside.gone.items) c.self.inside.shelf.cache.entries c.touch.new.cache.entries c.self.inside.journal.items c.push_reserved.new.self.items _ c.is_some-hit.result
    (touch g c).0 (touch g c).1 c.push_reserved.ensures.items (search rules) (omega (arith, c.push_reserved.ensures.len, c.push_reserved.ensures.capacity))

pub invariant_of-self : goal.invariant_of-self
invariant_of-self g c =
    let hit = c.is_some-hit.result in
    probed_kept g.F.Fit.same_key g.N.Namer.name_of g.met.F.Fit.same_is (arc_value c.args.key.now) g.F.Fit.fits g.F.Fit.weighs c.args.caller c.self.inside.limits.share (vec_capacity c.self.inside.journal - vec_len c.self.inside.journal) (vec_capacity c.push_reserved.new.self - vec_len c.push_reserved.new.self)
    c.self.inside.evicted (entries_of c.self.inside.gone.items) c.self.inside.shelf _ (records_of c.self.inside.journal.items) (records_of c.push_reserved.new.self.items) c.self.inside.limits.budget
    c.self.invariant (touch g c).0 c.touch.ensures.distinct
    (shelf_touched c.self.inside.limits.budget (same_name (g.N.Namer.name_of (arc_value c.args.key.now))) hit c.self.inside.shelf _ c.self.invariant.shelved (entries g c) c.touch.ensures.cap refl refl) (core g c)

value : (g : _) (c : goal.After-answer g) → value_in c.answer.result ≡ option_map (λ e. e.value) (first_with (has_key g.F.Fit.same_key header_in (arc_value c.args.key.now)) (entries_of c.self.inside.shelf.cache.entries))
value g c = c.answer.ensures.value ∙ (found g c ∙ value_is g.F.Fit.same_key g.N.Namer.name_of g.met.F.Fit.same_is (arc_value c.args.key.now) c.self.inside.shelf.cache.entries c.self.invariant.sound.named c.in_ok-found.ensures.distinct)

pub returns-clause-found : goal.returns-clause-found
returns-clause-found g c = value g c ∙ ap (λ (x : MemoView g.row.F-Key.Denot g.row.F-Value.Denot). option_map (λ e. e.value) (first_with (has_key g.F.Fit.same_key header_in (arc_value c.args.key.now)) x.entries)) c.self.view_is

pub returns-clause-fits : goal.returns-clause-fits
returns-clause-fits g c =
    some_first (g.F.Fit.fits (arc_value c.args.key.now)) (λ e. e.value) _ _ (value g c) (first_fits g.F.Fit.same_key g.N.Namer.name_of g.met.F.Fit.same_is (arc_value c.args.key.now) g.F.Fit.fits (entries_of c.self.inside.shelf.cache.entries) c.self.invariant.sound.fit)

pub returns-clause-core : goal.returns-clause-core
returns-clause-core g c = core g c ∙ ap (after_probe g.F.Fit.same_key c.args.caller (arc_value c.args.key.now)) c.self.view_is

pub returns-in_err-found-clause-stand : goal.returns-in_err-found-clause-stand
returns-in_err-found-clause-stand g c owner = stand_same header_in owner c.args.self.now.entries c.args.self.now.entries refl

pub returns-in_err-key-clause-stand : goal.returns-in_err-key-clause-stand
returns-in_err-key-clause-stand g c owner = stand_same header_in owner c.args.self.now.entries c.args.self.now.entries refl

pub returns-clause-stand : goal.returns-clause-stand
returns-clause-stand g c owner =
    stand_front header_in (has_key g.F.Fit.same_key header_in (arc_value c.args.key.now)) owner c.args.self.now.entries _
    ((touch g c).0 ∙ ap (λ (x : MemoView g.row.F-Key.Denot g.row.F-Value.Denot). brought_to_front (has_key g.F.Fit.same_key header_in (arc_value c.args.key.now)) x.entries) c.self.view_is)
