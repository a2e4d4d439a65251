-- Facets that are added to a list of at most a given number.
use Rattle.std.specs.Prelude.{◌≡◌, ℕ, ◌<◌, ◌≤◌, List, ◌++◌, length, Result, Ok, Err}
use Rattle.plane_polygon.specs.Polygons.{Outline}
use Rattle.facet_cut.specs.declared.stops.CutStop.{CutStop}
use Rattle.facet_cut.specs.declared.stops.CutStop.TheVariants.{TooMany, NoMemory}

-- the facets stand behind the old ones, and there are at most the given number, or there would be more
abbrev pub AddsFacetsWithin : {A : Type 0} → List Outline → ℕ → List Outline → List Outline → Result A CutStop → Type 0
AddsFacetsWithin more most old new (Ok done) = (new ≡ old ++ more) × (length new ≤ most)
AddsFacetsWithin more most old new (Err TooMany) = most < length (old ++ more)
AddsFacetsWithin more most old new (Err NoMemory) = Unit {0}
