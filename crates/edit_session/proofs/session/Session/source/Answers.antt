use Rattle.edit_session.proofs.Lengths.{joined_short}
use Rattle.edit_session.proofs.session.Session.source.Goals as goal

pub returns-clause-short : goal.returns-clause-short
returns-clause-short c =
    joined_short c.loop-line.source.items c.deref-line-items.result.now c.self.inside.lines.items c.loop-line.line-index
    c.deref-line-items.ensures.value c.self.invariant.texts c.self.invariant.few c.loop-line-test.false c.loop-line.invariant
