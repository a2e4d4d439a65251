use Rattle.std.proofs.Common.{rules, ◌≡◌, ◌<◌, ◌∙◌, ap, length, get_or, Some}
use Rattle.std.proofs.lemmas.Option.{slice_get-get_or}
use Rattle.memo_shares.proofs.Replays.{differs_first}
use Rattle.memo_shares.proofs.verdict.compare.Goals as goal

pub returns-then-not-branch-clause-verdict : goal.returns-then-not-branch-clause-verdict
returns-then-not-branch-clause-verdict g c =
    let lt : c.loop-number.number < length c.args.items.now = search rules in
    let x = c.index-items-number.result in
    let there : get_or c.args.items.now c.loop-number.number x ≡ x = search rules in
    let here = slice_get-get_or c.args.items.now c.loop-number.number x lt ∙ ap Some there in
    differs_first g.F.Fit.same_key g.N.Namer.name_of c.args.core.budget c.args.core.share c.loop-number.core.budget c.loop-number.core.share c.loop-number.number c.args.items.now c.index-items-number.result c.loop-number.core.journal
    c.loop-number.invariant.0 c.loop-number.invariant.1 c.loop-number.invariant.2 c.journal-before.ensures.sound.legal here (search rules)
