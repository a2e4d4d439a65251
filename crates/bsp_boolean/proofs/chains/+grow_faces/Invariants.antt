use Rattle.std.proofs.Common.{length}
use Rattle.bsp_boolean.proofs.chains.+grow_faces.Given as goal

abbrev pub decreases-grow_faces : goal.decreases-grow_faces
decreases-grow_faces l = length l.faces.now
