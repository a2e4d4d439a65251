use Rattle.bsp_boolean.proofs.FaceChains.{nothing_grown}
use Rattle.bsp_boolean.proofs.chains.grow_chain.Goals as goal

pub returns-in-None : goal.returns-in-None
returns-in-None c t h = nothing_grown c.args.growing.now t c.args.chain.now c.in-None.is h
