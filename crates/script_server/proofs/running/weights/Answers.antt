use Rattle.std.proofs.Common.{◌∙◌, arith}
use Rattle.script_server.proofs.Books.{one_weight_more}
use Rattle.script_server.proofs.running.weights.Goals as goal

pub loop-caller-preserved : goal.loop-caller-preserved
loop-caller-preserved c =
    let pushed = c.in_ok-push.ensures.items in (
      pushed ∙ one_weight_more c.loop-caller.caller c.owned.result c.args.core.now.entries c.loop-caller.weights.items c.loop-caller.invariant.0 c.owned.ensures,
      omega (arith, c.in_ok-push.ensures.len, c.loop-caller.invariant.1),
    )
