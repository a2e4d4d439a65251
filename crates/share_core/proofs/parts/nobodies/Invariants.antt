use Rattle.std.proofs.Common.{◌≡◌, map, replicate}
use Rattle.share_core.specs.Fields.{part_of, no_client_part}
use Rattle.share_core.proofs.parts.nobodies.Given as goal

abbrev pub invariant-loop-index : goal.invariant-loop-index
invariant-loop-index g l = map part_of l.parts.items ≡ replicate l._index no_client_part
