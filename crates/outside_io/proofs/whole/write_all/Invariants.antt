use Rattle.std.proofs.Common.{◌≡◌, ◌-◌, ◌≤◌, length, take}
use Rattle.std.specs.Io.KnownBytes.{Appends}
use Rattle.outside_io.proofs.whole.write_all.Given as goal

abbrev pub invariant-loop-done : goal.invariant-loop-done
invariant-loop-done g l =
    record {
      within : l.done ≤ length l.bytes;
      written : Appends (g.K.Sink.held l.fn.sink) (g.K.Sink.held l.sink) (take l.done l.bytes);
      quiet : g.K.Sink.faults l.sink ≡ g.K.Sink.faults l.fn.sink;
    }

abbrev pub decreases-loop-done : goal.decreases-loop-done
decreases-loop-done g l = length l.bytes - l.done
