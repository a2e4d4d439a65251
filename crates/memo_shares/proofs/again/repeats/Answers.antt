use Rattle.std.proofs.Common.{rules, ◌≡◌, ◌∙◌, ◌-◌, ap, subst, [], length, Some}
use Rattle.std.specs.Prelude.{slice_get}
use Rattle.std.specs.Arc.{arc_value}
use Rattle.memo_core.specs.Memo.{IsLegal, JournalRecord}
use Rattle.memo_core.specs.Fields.{answer_of}
use Rattle.memo_shares.proofs.Replays.{no_item, last_item}
use Rattle.memo_shares.proofs.again.repeats.Goals as goal

pub returns-clause-other : goal.returns-clause-other
returns-clause-other g c f =
    let call = c.in_ok-call.ensures.journal in
    let now = c.call.new.core in
    let found : slice_get c.journal.result.now (length c.journal.result.now - 1) ≡ Some c.in-Some.last.now = search rules in
    let last = last_item c.journal.result.now c.args.core.now.journal _ c.in-Some.last.now (c.journal.ensures.is ∙ call.1) found in
    let legal =
    subst (λ h. IsLegal g.F.Fit.same_key g.N.Namer.name_of c.args.core.now.budget h [] now.journal) c.in_ok-call.ensures.share
    (subst (λ b. IsLegal g.F.Fit.same_key g.N.Namer.name_of b now.share [] now.journal) c.in_ok-call.ensures.budget c.journal.ensures.sound.legal) in
    no_item g.F.Fit.same_key g.N.Namer.name_of c.args.core.now.budget c.args.core.now.share c.args.core.now.journal now.journal c.args.noted.now.caller (arc_value c.args.noted.now.key) call.0 (answer_of c.args.noted.now.did)
    call.1 legal call.2 (λ h. c.says_same.ensures.other f (ap (λ (i : JournalRecord g.row.F-Key.Denot). i.answer) last ∙ h))
