use Rattle.std.proofs.lemmas.Result.{IfOk-weaker}
use Rattle.plane_table.specs.Tables.{HasNoTwoAlike}
use Rattle.plane_table.specs.Orders.{IsAscending}
use Rattle.plane_table.proofs.lemmas.Orders.{ascending_apart}
use Rattle.plane_table.proofs.ordering.in_order.Goals as goal

pub returns-clause-apart : goal.returns-clause-apart
returns-clause-apart c =
    IfOk-weaker c.rising.result (λ v. IsAscending v.items) (λ v. HasNoTwoAlike v.items) (λ v h. ascending_apart v.items h) c.rising.ensures
