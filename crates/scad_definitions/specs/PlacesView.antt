-- What the places of a block's assignments in memory stand for.
use Rattle.std.specs.Prelude.{ℕ, Bool}
use Rattle.scad_definitions.specs.Names.{newest_first}
use Rattle.scad_definitions.specs.declared.assigned.Places.{Places}
use Rattle.scad_definitions.specs.Newest.{Pairs}
use Rattle.scad_definitions.specs.Places.{of_kind}

-- the places of ordinary or of special names
abbrev pub places_of : Places → Bool → Pairs ℕ
places_of places kind = of_kind (newest_first places.ordinary) (newest_first places.special) kind
