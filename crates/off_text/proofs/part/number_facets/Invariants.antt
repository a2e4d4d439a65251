use Rattle.std.proofs.Common.{take}
use Rattle.off_text.proofs.Lines.{AreWritten}
use Rattle.off_text.proofs.part.number_facets.Given as goal

abbrev pub invariant-loop-facet : goal.invariant-loop-facet
invariant-loop-facet l = AreWritten l.unit (take l.facet-index l.facets) l.part.vertices.keys l.part.faces
