use Rattle.std.proofs.Common.{◌≡◌, ◌+◌, drop}
use Rattle.off_text.specs.Texts.{corner_count, most_corners}
use Rattle.off_text.proofs.text.has_too_many_corners.Given as goal

abbrev pub invariant-loop-facet : goal.invariant-loop-facet
invariant-loop-facet l = corner_count l.facets + l.room ≡ most_corners + corner_count (drop l.facet-index l.facets)
