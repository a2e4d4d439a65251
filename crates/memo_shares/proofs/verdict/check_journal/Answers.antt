use Rattle.std.proofs.Common.{subst, IfOk}
use Rattle.memo_core.specs.Fields.{records_of}
use Rattle.memo_shares.specs.Verdicts.{IsVerdict}
use Rattle.memo_shares.proofs.verdict.check_journal.Goals as goal

pub returns-clause-verdict : goal.returns-clause-verdict
returns-clause-verdict g c =
    subst (λ h. IfOk c.compare.result (IsVerdict g.F.Fit.same_key g.N.Namer.name_of c.args.budget h (records_of c.args.items.now))) c.in_ok-core.ensures.4
    (subst (λ b. IfOk c.compare.result (IsVerdict g.F.Fit.same_key g.N.Namer.name_of b c.in_ok-core.core.share (records_of c.args.items.now))) c.in_ok-core.ensures.3 c.compare.ensures.verdict)
