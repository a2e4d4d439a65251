use Rattle.std.proofs.Common.{◌∙◌, arith, ◌-◌, length, drop, length-take, length-drop}
use Rattle.outside_io.proofs.Moved.{more_appended}
use Rattle.outside_io.proofs.whole.write_all.Goals as goal

pub loop-done-preserved : goal.loop-done-preserved
loop-done-preserved g c =
    let before = c.loop-done.invariant in
    let bytes = c.args.bytes.now in
    let done = c.loop-done.done in
    record {
      within = omega (arith, c.in-Ok.ensures.bound.1, length-take (length bytes - done) (drop done bytes), length-drop done bytes);
      written = more_appended _ _ _ bytes done _ before.written c.in-Ok.ensures.bytes;
      quiet = c.in-Ok.ensures.cause.quiet ∙ before.quiet;
    }
