use Rattle.std.proofs.Common.{ℕ, ◌<◌, get_or}
use Rattle.plane_polygon.specs.Polygons.{missing_plane}
use Rattle.plane_table.specs.Tables.{AreApart}
use Rattle.plane_table.proofs.numbering.find.Given as goal

abbrev pub invariant-loop-i : goal.invariant-loop-i
invariant-loop-i l = (k : ℕ) → k < l.i → AreApart (get_or l.planes k missing_plane) l.plane
