use Rattle.outside_io.proofs.Moved.{copied_front}
use Rattle.outside_io.proofs.memory_source.MemorySourceSource.read.Goals as goal

pub returns-clause-bytes : goal.returns-clause-bytes
returns-clause-bytes c =
    let copy = c.copy_from-count.ensures in
    let moved = copied_front _ _ _ _ _ _ _ c.self.invariant.0 c.requires copy.count copy.copied in
    rw (← c.self.view_is, ← c.deref.ensures.value) (moved.0, λ z _. moved.1 z)
