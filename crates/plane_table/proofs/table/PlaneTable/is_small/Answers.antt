use Rattle.std.proofs.Common.{subst, All}
use Rattle.plane_predicate.specs.Lines.{IsSmall}
use Rattle.plane_table.proofs.Small.{small_named}
use Rattle.plane_table.proofs.table.PlaneTable.is_small.Goals as goal

pub returns : goal.returns
returns c e n l = small_named c.args.self.now n (subst (All IsSmall) c.self.view_is (c.self.invariant.small e)) l
