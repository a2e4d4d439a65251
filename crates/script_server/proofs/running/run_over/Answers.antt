use Rattle.std.proofs.Math.Nat.{le-max_left}
use Rattle.std.proofs.lemmas.List.Elements.{All-weaker, All-map}
use Rattle.std.proofs.Common.{◌≡◌, ℕ, ◌≤◌, ◌∙◌, List, Ok, All, length, get_or, map, ap, sym, subst, arith, rules}
use Rattle.subtree_memo.specs.Shares.{ShareView, opened_shares, offers_of, parts_each}
use Rattle.flight_memo.specs.Shares.{FlightView}
use Rattle.script_server.proofs.Asked.{fresh_of_opened, asked_by}
use Rattle.script_server.proofs.Books.{of_given, parts_in_all, all_opened, opened_many, memo_opened, written_over, mapped_many, mapped_same, all_read}
use Rattle.script_server.proofs.Refused.{some_joins}
use Rattle.script_server.proofs.Sums.{tally_of_shares, adds_up, offered_most}
use Rattle.script_server.proofs.running.run_over.Goals as goal

pub exporters_of-exporters-requires-clause-fresh : goal.exporters_of-exporters-requires-clause-fresh
exporters_of-exporters-requires-clause-fresh g c =
    let read = memo_opened c.args.blanks.callers _ _ c.in_ok-memo.ensures c.in_ok-flight.ensures in
    all_read (λ (s : FlightView). s.share) (λ (s : ShareView). (s.parts ≡ parts_each) × (offers_of s ≡ 0)) _
    (subst (All (λ (s : ShareView). (s.parts ≡ parts_each) × (offers_of s ≡ 0))) (sym read) (all_opened c.args.blanks.callers))

pub exporters_of-exporters-requires-clause-order : goal.exporters_of-exporters-requires-clause-order
exporters_of-exporters-requires-clause-order g c =
    let read = memo_opened c.args.blanks.callers _ _ c.in_ok-memo.ensures c.in_ok-flight.ensures in
    read ∙ sym (ap opened_shares (mapped_many (λ (s : FlightView). s.share) _ _ read ∙ opened_many c.args.blanks.callers))

pub exporters_of-exporters-requires-clause-room : goal.exporters_of-exporters-requires-clause-room
exporters_of-exporters-requires-clause-room g c =
    omega (
      arith,
      mapped_many (λ (s : FlightView). s.share) _ _ (memo_opened c.args.blanks.callers _ _ c.in_ok-memo.ensures c.in_ok-flight.ensures),
      opened_many c.args.blanks.callers,
      c.in_ok-waiting.ensures.capacity,
    )

-- there are as many exporters as callers
exporters_many : {A : Type 0} (share : A → ShareView) (es : List A) (flights : List FlightView) (callers : ℕ) → map share es ≡ map (λ (s : FlightView). s.share) flights →
    map (λ (s : FlightView). s.share) flights ≡ opened_shares callers → length es ≡ callers
exporters_many share es flights callers same read = mapped_many share es (opened_shares callers) (same ∙ read) ∙ opened_many callers

pub run_script-served-requires-clause-many : goal.run_script-served-requires-clause-many
run_script-served-requires-clause-many g c κs within =
    omega (
      arith,
      c.requires.callers.0,
      le-max_left (length c.args.script.now.clients) 1,
      ap length c.deref_mut.ensures.value,
      exporters_many (λ e. e.client.share) c.exporters_of-exporters.result.items _ c.args.blanks.callers c.exporters_of-exporters.ensures.shares
          (memo_opened c.args.blanks.callers _ _ c.in_ok-memo.ensures c.in_ok-flight.ensures),
    )

pub shares_of-shares-requires-clause-room : goal.shares_of-shares-requires-clause-room
shares_of-shares-requires-clause-room g c =
    let es = c.exporters_of-exporters.result in
    let left = written_over es.len c.run_script-served.new.exporters es.items
    (omega (arith, c.run_script-served.ensures.many, ap length c.deref_mut.ensures.value, es.ok.0)) in
    omega (
      arith,
      ap length left,
      c.run_script-served.ensures.many,
      ap length c.deref_mut.ensures.value,
      exporters_many (λ e. e.client.share) es.items _ c.args.blanks.callers c.exporters_of-exporters.ensures.shares
          (memo_opened c.args.blanks.callers _ _ c.in_ok-memo.ensures c.in_ok-flight.ensures),
      c.in_ok-room.ensures.capacity,
    )

pub close-core-requires-clause-whole : goal.close-core-requires-clause-whole
close-core-requires-clause-whole g c =
    let whole = parts_in_all c.shares_of-shares.result.items
    (All-weaker (λ (s : FlightView). (s.share.parts ≡ parts_each) × (offers_of s.share ≤ s.share.misses)) (λ (s : FlightView). s.share.parts ≡ parts_each) (λ s both. both.0) c.shares_of-shares.result.items c.shares_of-shares.ensures.whole) in
    let es = c.exporters_of-exporters.result in
    let left = written_over es.len c.run_script-served.new.exporters es.items
    (omega (arith, c.run_script-served.ensures.many, ap length c.deref_mut.ensures.value, es.ok.0)) in (
      omega (arith, c.requires.ledgers.0.1, c.args.blanks.cut.0, c.args.blanks.some.0),
      omega (
        arith,
        whole,
        ap length left,
        mapped_same (λ (s : FlightView). s.share) (λ e. e.client.share) c.shares_of-shares.result.items _ c.shares_of-shares.ensures.shares,
        c.run_script-served.ensures.many,
        ap length c.deref_mut.ensures.value,
        exporters_many (λ e. e.client.share) es.items _ c.args.blanks.callers c.exporters_of-exporters.ensures.shares
            (memo_opened c.args.blanks.callers _ _ c.in_ok-memo.ensures c.in_ok-flight.ensures),
        c.requires.ledgers.0.1,
        c.args.blanks.cut.0,
      ),
    )

pub returns : goal.returns
returns g c =
    let es = c.exporters_of-exporters.result.items in
    let lent = c.deref_mut.result.now in
    let news = c.run_script-served.new.exporters in
    let same : lent ≡ es = cc c.deref_mut.ensures.value in
    let left = written_over c.exporters_of-exporters.result.len news es
    (omega (arith, c.run_script-served.ensures.many, ap length c.deref_mut.ensures.value, c.exporters_of-exporters.result.ok.0)) in
    let fresh = c.exporters_of-exporters.ensures.shares ∙ memo_opened c.args.blanks.callers _ _ c.in_ok-memo.ensures c.in_ok-flight.ensures in
    let served : c.run_script-served.result ≡ Ok c.in_ok-replies.replies = c.in_ok-replies.was in
    let books = map (λ (s : FlightView). s.share) c.shares_of-shares.result.items in
    let told = c.close-core.ensures in
    let sums = adds_up (λ e. e.client) c.args.unit (λ source. some_joins c.args.unit source (c.some_meaning.ensures c.args.unit source)) c.args.script.now.clients c.in_ok-replies.replies.items lent news c.args.blanks.callers c.close-core.result.0
    c.requires.within.few
    (subst (λ l. map (λ e. e.client.share) l ≡ opened_shares c.args.blanks.callers) (sym same) fresh)
    (of_given _ _ _ served c.run_script-served.ensures.moved)
    (tally_of_shares c.close-core.result.1.journal books (map (λ e. e.client.share) news) c.close-core.result.0
    (c.shares_of-shares.ensures.shares ∙ ap (map (λ e. e.client.share)) left)
    told.tally told.booked) in record {
      fits = of_given _ _ _ served c.run_script-served.ensures.fits;
      few = of_given _ _ _ served c.run_script-served.ensures.few;
      counted = told.tally;
      sums = sums;
      offered = offered_most books c.close-core.result.0 c.close-core.result.1.journal told.tally told.booked
          (All-map (λ (s : ShareView). offers_of s ≤ s.misses) (λ (s : FlightView). s.share) c.shares_of-shares.result.items
          (All-weaker (λ (s : FlightView). (s.share.parts ≡ parts_each) × (offers_of s.share ≤ s.share.misses)) (λ (s : FlightView). offers_of s.share ≤ s.share.misses) (λ s both. both.1)
          c.shares_of-shares.result.items c.shares_of-shares.ensures.whole));
      sound = told.sound;
      claims = told.claims;
      keys = asked_by c.args.unit g.H.AskPolicy.may_ask c.args.script.now.clients c.close-core.result.1.journal c.requires.policy told.callers.1;
      limits = (told.limits.0 ∙ sym c.requires.limits.0, told.limits.1 ∙ sym c.requires.limits.1);
    }

pub run_script-served-requires-clause-fresh : goal.run_script-served-requires-clause-fresh
run_script-served-requires-clause-fresh g c κs within =
    let es = c.exporters_of-exporters.result.items in
    let lent = c.deref_mut.result.now in
    let same : lent ≡ es = cc c.deref_mut.ensures.value in
    let opened = c.exporters_of-exporters.ensures.shares ∙ memo_opened c.args.blanks.callers _ _ c.in_ok-memo.ensures c.in_ok-flight.ensures in
    fresh_of_opened (λ e. e.client.share) (λ e. e.client.asked) _ c.args.unit g.H.AskPolicy.may_ask c.args.blanks.callers c.args.script.now.clients lent c.requires.policy
    (subst (λ l. map (λ e. e.client.share) l ≡ opened_shares c.args.blanks.callers) (sym same) opened)
    (omega (
      arith,
      c.requires.callers.0,
      le-max_left (length c.args.script.now.clients) 1,
      ap length same,
      exporters_many (λ e. e.client.share) es _ c.args.blanks.callers c.exporters_of-exporters.ensures.shares
          (memo_opened c.args.blanks.callers _ _ c.in_ok-memo.ensures c.in_ok-flight.ensures),
    ))
    (λ k d lt.
    let alike = c.exporters_of-exporters.ensures.alike k d (omega (arith, lt, ap length same)) in
    subst (λ l. (get_or l k d).client.asked ≡ 0) (sym same) alike.0)
    (λ e source allowed. ((
      λ client unit source few short may. (
        (short, few, may),
        (
          record { owned = c.type_bounds.send-N.owned; leaving = search rules },
          record { owned = c.type_bounds.send-H.owned; leaving = search rules },
          record { owned = c.type_bounds.send-M.owned; leaving = search rules },
          record { owned = c.type_bounds.send-K.owned; leaving = search rules },
          record { owned = c.type_bounds.send-E.owned; leaving = search rules },
          record { owned = c.type_bounds.send-S.owned; leaving = search rules },
          record { owned = c.type_bounds.send-T.owned; leaving = search rules },
          record { shared = c.type_bounds.sync-N.shared },
          record { shared = c.type_bounds.sync-H.shared },
          record { shared = c.type_bounds.sync-M.shared },
          record { shared = c.type_bounds.sync-K.shared },
          record { shared = c.type_bounds.sync-E.shared },
          record { shared = c.type_bounds.sync-S.shared },
          record { shared = c.type_bounds.sync-T.shared },
          record { shared = c.type_bounds.sync-G.shared },
          record { shared = c.type_bounds.sync-R.shared },
        ),
      ),
      λ client unit source r after post. post.1,
      allowed,
    )
    ))
