use Rattle.std.proofs.Common.{◌≡◌, Err, rules}
use Rattle.scad_design.proofs.PartFaults.{range_stop}
use Rattle.scad_design.proofs.placing.place_leaf.Goals as goal

pub returns-in_err-planes-clause-stop : goal.returns-in_err-planes-clause-stop
returns-in_err-planes-clause-stop c =
    let given : c.from_residual.result ≡ Err c.in_err-planes.field-0.0 = search rules in
    rw given (range_stop c.args.part.now c.args.known.now.keys c.in_err-planes.field-0.0 c.in_err-planes.ensures.stop)
