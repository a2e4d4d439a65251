use Rattle.std.proofs.Common.{sym, subst}
use Rattle.script_server.specs.Clients.{MayAskFor}
use Rattle.script_server.proofs.exporter.ClientExporterExporter.export.Goals as goal

-- the share is still the same caller's, who may ask for what it might before
pub returns-clause-goes_on : goal.returns-clause-goes_on
returns-clause-goes_on g c =
    let told = c.requires.can_export.1 _ _ _ _ _ c.export.ensures in record {
      asked_once = told.asked;
      keeps = λ source can. (can.0, can.1, subst (λ k. MayAskFor c.args.unit (g.C.Booking.may_ask k) source) (sym told.probed.2.caller) can.2);
    }
