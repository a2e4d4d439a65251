use Rattle.std.proofs.Common.{◌≡◌, length, arith}
use Rattle.std.proofs.lemmas.Grind.{common_steps}
use Rattle.flight_memo.specs.Claims.{begin_count}
use Rattle.flight_memo.proofs.Logs.{closed_of}
use Rattle.flight_memo.proofs.flight.Flight.close.Goals as goal

pub returns-clause-claims : goal.returns-clause-claims
returns-clause-claims g c =
    let log = c.log-log.ensures in
    let begun : begin_count c.into_inner-claims.result.claims.log ≡ c.close_whole-core.result.0.misses = grind (arith, common_steps) in
    let held : length c.into_inner-claims.result.claims.live ≡ 0 = grind (arith, common_steps) in
    closed_of c.close_whole-core.result.0.misses c.into_inner-claims.result.claims log.legal log.live log.single log.all begun held
