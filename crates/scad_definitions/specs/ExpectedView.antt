-- The names of a table in memory.
use Rattle.std.specs.Prelude.{ℕ, List}
use Rattle.scad_definitions.specs.declared.name_table.NameTable.{NameTable}

-- the names in the order in which they are expected to be bound
abbrev pub names_expected : NameTable → List (List ℕ)
names_expected table = table.names.items
