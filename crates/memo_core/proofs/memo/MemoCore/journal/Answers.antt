use Rattle.std.proofs.Common.{[]}
use Rattle.memo_core.proofs.Shares.{keeps_shares}
use Rattle.memo_core.proofs.memo.MemoCore.journal.Goals as goal

pub returns-clause-shares : goal.returns-clause-shares
returns-clause-shares g c some = keeps_shares g.F.Fit.same_key g.N.Namer.name_of c.args.self.now.budget c.args.self.now.share some [] c.args.self.now.journal
