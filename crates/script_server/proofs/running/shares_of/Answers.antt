use Rattle.std.proofs.Common.{◌≡◌, ◌≤◌, ◌∙◌, ◌++◌, ◌∷◌, [], All, ap, map, length, sym, subst, append_assoc, append-nil, length-append, arith, rules}
use Rattle.std.proofs.lemmas.List.{nil_from_length, map-append}
use Rattle.subtree_memo.specs.Shares.{parts_each, offers_of}
use Rattle.flight_memo.specs.Shares.{FlightView}
use Rattle.script_server.proofs.Books.{All_push}
use Rattle.script_server.proofs.running.shares_of.Goals as goal

pub loop-exporter-preserved : goal.loop-exporter-preserved
loop-exporter-preserved g c =
    let shares = c.loop-exporter.shares.items in
    let share = c.into_share.result in
    let read = map (λ (s : FlightView). s.share) shares in
    let left = c.next.new.self.rest.items in
    let first = c.in-Some.ensures.steps.0 in
    let pushed = c.push_reserved.ensures.items in record {
      whole = subst (All (λ (s : FlightView). (s.share.parts ≡ parts_each) × (offers_of s.share ≤ s.share.misses))) (sym pushed)
          (All_push (λ (s : FlightView). (s.share.parts ≡ parts_each) × (offers_of s.share ≤ s.share.misses)) shares share c.loop-exporter.invariant.whole (c.into_share.ensures.whole, c.into_share.ensures.offered));
      many = omega (arith, ap length pushed, length-append shares (share ∷ []), length-append c.loop-exporter.yielded (c.in-Some.exporter ∷ []), c.loop-exporter.invariant.many);
      room = search rules;
      all = ap (λ l. map (λ (s : FlightView). s.share) l ++ map (λ e. e.client.share) left) pushed
          ∙ ap (λ l. l ++ map (λ e. e.client.share) left) (map-append (λ (s : FlightView). s.share) shares (share ∷ []))
          ∙ append_assoc read (share.share ∷ []) (map (λ e. e.client.share) left)
          ∙ ap (λ s. read ++ s ∷ map (λ e. e.client.share) left) c.into_share.ensures.share
          ∙ ap (λ es. read ++ map (λ e. e.client.share) es) (sym first) ∙ c.loop-exporter.invariant.all;
    }

pub returns-clause-shares : goal.returns-clause-shares
returns-clause-shares g c =
    let none = c.in-None.ensures.steps.0 in
    let rest = c.loop-exporter.exporter-iterator.rest in
    let ended = nil_from_length rest.items (omega (arith, none, rest.ok.0)) in
    let read = map (λ (s : FlightView). s.share) c.loop-exporter.shares.items in
    sym (append-nil read)
    ∙ ap (λ es. read ++ map (λ e. e.client.share) es) (sym ended) ∙ c.loop-exporter.invariant.all
