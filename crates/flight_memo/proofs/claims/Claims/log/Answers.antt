use Rattle.std.proofs.Common.{subst}
use Rattle.flight_memo.specs.Claims.{IsSingle}
use Rattle.flight_memo.specs.Fields.{events_of}
use Rattle.flight_memo.proofs.Legal.{single_of_legal}
use Rattle.flight_memo.proofs.claims.Claims.log.Goals as goal

pub returns-clause-single : goal.returns-clause-single
returns-clause-single g c =
    subst (λ v. IsSingle v.log) c.self.view_is (single_of_legal (events_of c.self.inside.log.items) c.self.invariant.legal)
