use Rattle.std.proofs.Common.{◌≡◌, ap, sym, subst, ◌∙◌, refl}
use Rattle.std.specs.Arc.{arc_value}
use Rattle.std.proofs.lemmas.List.{take_all}
use Rattle.flight_memo.specs.Claims.{IsFree}
use Rattle.flight_memo.specs.Fields.{claims_of}
use Rattle.flight_memo.proofs.Items.{free_more, not_free}
use Rattle.flight_memo.proofs.claims.Claims.end_of.Goals as goal

pub returns-then-same-clause-held : goal.returns-then-same-clause-held
returns-then-same-clause-held g c free =
    let items = c.deref-claim-items.result.now in
    let key = c.args.key.now in
    let seen : c.args.self.now.live ≡ claims_of items = ap (λ v. v.live) (sym c.self.view_is) ∙ ap claims_of (sym c.deref-claim-items.ensures.value) in
    let same : c.deref.result.now ≡ key = g.met.F.Fit.same_is c.deref.result.now key (sym c.same.ensures ∙ c.if-same.true) in
    let found : arc_value c.claim-item.result.key ≡ key = cc in
    absurd (not_free key items c.loop-claim.claim-index c.claim-item.result c.loop-claim-test.true c.claim-item.is found (subst (IsFree key) seen free))

pub loop-claim-preserved : goal.loop-claim-preserved
loop-claim-preserved g c =
    let items = c.deref-claim-items.result.now in
    free_more c.args.key.now items c.loop-claim.claim-index c.claim-item.result c.loop-claim-test.true c.claim-item.is
    (λ e. absurd (cc (g.met.F.Fit.same_refl c.args.key.now))) c.loop-claim.invariant

pub returns-clause-free : goal.returns-clause-free
returns-clause-free g c =
    let items = c.deref-claim-items.result.now in
    let seen : claims_of items ≡ c.args.self.now.live = ap claims_of c.deref-claim-items.ensures.value ∙ ap (λ v. v.live) c.self.view_is in
    let free : IsFree c.args.key.now (claims_of items) = subst (λ l. IsFree c.args.key.now (claims_of l)) (take_all c.loop-claim.claim-index items c.loop-claim-test.false) c.loop-claim.invariant in
    subst (IsFree c.args.key.now) seen free
