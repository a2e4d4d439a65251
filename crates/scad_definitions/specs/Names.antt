-- What a list of names is to its callers.
use Rattle.std.specs.Prelude.{map}
use Rattle.scad_definitions.specs.declared.list.NameList.{NameList}
use Rattle.scad_definitions.specs.Newest.{Pairs}
use Rattle.scad_definitions.specs.View.{named_pair, pairs_in}

-- its pairs, the newest first
abbrev pub newest_first : {T : Type 0} → NameList T → Pairs T
newest_first names = pairs_in names.items.items

-- its pairs, the oldest first
abbrev pub oldest_first : {T : Type 0} → NameList T → Pairs T
oldest_first names = map named_pair names.items.items
