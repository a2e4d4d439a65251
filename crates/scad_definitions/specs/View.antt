-- What names in memory stand for, where the newest is the last one.
use Rattle.std.specs.Prelude.{ℕ, List, map, reverse}
use Rattle.scad_definitions.specs.declared.list.Named.{Named}
use Rattle.scad_definitions.specs.Newest.{Pairs}

abbrev pub named_pair : {T : Type 0} → Named T → List ℕ × T
named_pair named = (named.name, named.item)

abbrev pub pairs_in : {T : Type 0} → List (Named T) → Pairs T
pairs_in items = reverse (map named_pair items)
