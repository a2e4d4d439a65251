use Rattle.std.proofs.Common.{◌≡◌, ◌∙◌, ◌++◌, ◌∷◌, [], All, ap, map, length-append, sym, subst, refl, append_assoc, append-nil, arith, rules}
use Rattle.std.proofs.lemmas.List.{nil_from_length}
use Rattle.flight_memo.specs.Shares.{FlightView}
use Rattle.script_server.specs.Clients.{ClientBooks}
use Rattle.script_server.proofs.Books.{mapped_push, pushed_many, All_push}
use Rattle.script_server.proofs.running.exporters_of.Goals as goal

pub loop-share-preserved : goal.loop-share-preserved
loop-share-preserved g c =
    let exporters = c.loop-share.exporters.items in
    let share = c.in-Some.share.share in
    let left = c.next.new.self.rest.items in
    let first = c.in-Some.ensures.steps.0 in
    let pushed = c.push_reserved.ensures.items in record {
      alike = subst (All (λ e. (e.client.asked ≡ 0) × (e.export ≡ c.args.export))) (sym pushed)
          (All_push (λ e. (e.client.asked ≡ 0) × (e.export ≡ c.args.export)) exporters _ c.loop-share.invariant.alike
          (ap (λ (b : ClientBooks). b.asked) c.new.ensures, refl));
      many = omega (arith, pushed_many exporters _ _ pushed, length-append c.loop-share.yielded (c.in-Some.share ∷ []), c.loop-share.invariant.many);
      room = search rules;
      all = ap (λ l. l ++ map (λ (s : FlightView). s.share) left)
          (ap (map (λ e. e.client.share)) pushed
          ∙ mapped_push (λ e. e.client.share) exporters _ (map (λ e. e.client.share) exporters) share refl (ap (λ (b : ClientBooks). b.share) c.new.ensures))
          ∙ append_assoc (map (λ e. e.client.share) exporters) (share ∷ []) (map (λ (s : FlightView). s.share) left)
          ∙ ap (λ ss. map (λ e. e.client.share) exporters ++ map (λ (s : FlightView). s.share) ss) (sym first) ∙ c.loop-share.invariant.all;
    }

pub returns-clause-shares : goal.returns-clause-shares
returns-clause-shares g c =
    let none = c.in-None.ensures.steps.0 in
    let rest = c.loop-share.share-iterator.rest in
    let ended = nil_from_length rest.items (omega (arith, none, rest.ok.0)) in
    sym (append-nil (map (λ e. e.client.share) c.loop-share.exporters.items))
    ∙ ap (λ ss. map (λ e. e.client.share) c.loop-share.exporters.items ++ map (λ (s : FlightView). s.share) ss) (sym ended) ∙ c.loop-share.invariant.all
