use Rattle.std.proofs.Common.{length}
use Rattle.bsp_boolean.proofs.chains.+chain_behind.Given as goal

abbrev pub decreases-chain_behind : goal.decreases-chain_behind
decreases-chain_behind l = length l.faces.now
