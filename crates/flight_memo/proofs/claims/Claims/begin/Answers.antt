use Rattle.std.proofs.Common.{◌≡◌, ◌+◌, ◌≤◌, ◌<◌, ◌++◌, ◌∷◌, [], length, ap, sym, subst, ◌∙◌, arith, length-append}
use Rattle.std.specs.Arc.{arc_value}
use Rattle.std.proofs.lemmas.List.{length-map, map-append}
use Rattle.flight_memo.specs.Claims.{Claim, Begun, IsFree, IsLegalLog, live_claims, begin_count, end_count}
use Rattle.flight_memo.specs.Fields.{claim_in, claims_of, event_of, events_of}
use Rattle.flight_memo.proofs.Logs.{legal_more, begun_more, ended_more, begun_few, live_more}
use Rattle.flight_memo.proofs.Legal.{known_of_legal}
use Rattle.flight_memo.proofs.claims.Claims.begin.Goals as goal

-- the log has room, so its claims are fewer than a number may count
pub overflow_add-self : goal.overflow_add-self
overflow_add-self g c =
    let items = c.self.inside.log.items in
    omega (arith, c.self.invariant.count, begun_few (events_of items), length-map items event_of, c.requires.room, c.self.inside.log.ok)

pub invariant_of-self : goal.invariant_of-self
invariant_of-self g c =
    let kept = c.self.invariant in
    let seen = sym c.self.view_is in
    let asked = subst (λ v. (0 < v.places) × (length v.live + 2 ≤ v.spare)) seen c.requires.room in
    let log = events_of c.self.inside.log.items in
    let live = claims_of c.self.inside.live.items in
    let claim : Claim _ = record { number = c.self.inside.begun; caller = c.args.caller; key = arc_value c.args.copies.noted } in
    let logged = ap events_of c.push_reserved.ensures.items ∙ map-append event_of c.self.inside.log.items _ in
    let lives : claims_of c.push_reserved-2.new.self.items ≡ live ++ claim ∷ [] =
    ap claims_of c.push_reserved-2.ensures.items
    ∙ (map-append claim_in c.self.inside.live.items _ ∙ ap (λ key. live ++ record { number = c.self.inside.begun; caller = c.args.caller; key = key } ∷ []) c.args.copies.one.0) in
    let fresh = (known_of_legal log kept.legal).ahead c.self.inside.begun (omega (arith, kept.count)) in record {
      legal = subst IsLegalLog (sym logged) (legal_more log (Begun claim) kept.legal (kept.count, subst (IsFree claim.key) kept.live (subst (λ v. IsFree claim.key v.live) seen c.requires.free)));
      live = lives ∙ (ap (λ l. l ++ claim ∷ []) kept.live ∙ (sym (live_more log claim fresh) ∙ ap live_claims (sym logged)));
      count = omega (arith, kept.count, begun_more log (Begun claim), ap begin_count logged);
      room = omega (arith, kept.room, asked, ap length lives, length-append live (claim ∷ []), c.push_reserved.ensures.len, c.push_reserved.ensures.capacity);
      all = omega (arith, kept.all, ap length lives, length-append live (claim ∷ []), begun_more log (Begun claim), ended_more log (Begun claim), ap begin_count logged, ap end_count logged);
    }
