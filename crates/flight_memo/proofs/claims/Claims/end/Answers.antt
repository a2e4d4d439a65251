use Rattle.std.proofs.Common.{◌≡◌, ◌<◌, true, [], ◌∷◌, ◌++◌, length, filter, ap, sym, subst, ◌∙◌, arith}
use Rattle.std.proofs.lemmas.List.{map-append}
use Rattle.flight_memo.specs.Claims.{Event, Ended, IsLegalLog, has_other_claim_number, is_live, number_to_end, live_claims, begin_count, end_count}
use Rattle.flight_memo.specs.Fields.{claims_of, event_of, events_of}
use Rattle.flight_memo.proofs.Items.{others_items}
use Rattle.flight_memo.proofs.Logs.{legal_more, begun_more, ended_more, live_less, to_end_is_live}
use Rattle.flight_memo.proofs.Legal.{end_leaves_one_less}
use Rattle.flight_memo.proofs.claims.Claims.end.Goals as goal

pub invariant_of-self : goal.invariant_of-self
invariant_of-self g c =
    let kept = c.self.invariant in
    let log = events_of c.self.inside.log.items in
    let items = c.self.inside.live.items in
    let number = c.ending_number-number.result in
    let some : 0 < length (claims_of items) = subst (λ v. 0 < length v.live) (sym c.self.view_is) c.requires.some in
    let is : number ≡ number_to_end c.args.claim.number (claims_of items) = c.ending_number-number.ensures ∙ ap (λ l. number_to_end c.args.claim.number (claims_of l)) c.deref.ensures.value in
    let live : is_live number (claims_of items) ≡ true = ap (λ n. is_live n (claims_of items)) is ∙ to_end_is_live c.args.claim.number (claims_of items) some in
    let ended : Event _ = Ended number c.args.filled in
    let logged : events_of c.push_reserved.new.self.items ≡ log ++ ended ∷ [] =
    ap events_of c.push_reserved.ensures.items ∙ map-append event_of c.self.inside.log.items _ in
    let lives : claims_of c.take_out.new.live.items ≡ filter (has_other_claim_number number) (claims_of items) =
    ap claims_of c.take_out.ensures.items ∙ others_items number items in
    let less = end_leaves_one_less log (claims_of items) number kept.legal kept.live live in
    record {
      legal = subst IsLegalLog (sym logged) (legal_more log ended kept.legal (ap (is_live number) (sym kept.live) ∙ live));
      live = lives ∙ (ap (filter (has_other_claim_number number)) kept.live ∙ (sym (live_less log number c.args.filled) ∙ ap live_claims (sym logged)));
      count = omega (arith, kept.count, begun_more log ended, ap begin_count logged);
      room = omega (arith, kept.room, less, ap length lives, c.push_reserved.ensures.len, c.push_reserved.ensures.capacity);
      all = omega (arith, kept.all, less, ap length lives, begun_more log ended, ended_more log ended, ap begin_count logged, ap end_count logged);
    }

pub returns-clause-live : goal.returns-clause-live
returns-clause-live g c =
    let items = c.self.inside.live.items in
    let number = c.ending_number-number.result in
    let some : 0 < length (claims_of items) = subst (λ v. 0 < length v.live) (sym c.self.view_is) c.requires.some in
    let is : number ≡ number_to_end c.args.claim.number (claims_of items) = c.ending_number-number.ensures ∙ ap (λ l. number_to_end c.args.claim.number (claims_of l)) c.deref.ensures.value in
    let live : is_live number (claims_of items) ≡ true = ap (λ n. is_live n (claims_of items)) is ∙ to_end_is_live c.args.claim.number (claims_of items) some in
    let less = end_leaves_one_less (events_of c.self.inside.log.items) (claims_of items) number c.self.invariant.legal c.self.invariant.live live in
    omega (arith, less, ap (λ l. length (claims_of l)) c.take_out.ensures.items, ap length (others_items number items), ap (λ v. length v.live) c.self.view_is)
