-- Variables whose names stand in a table.
use Rattle.std.specs.Prelude.{◌≡◌, ◌<◌, ℕ, List, [], ◌∷◌, length, Option, Some, None, slice_index_or}
use Rattle.scad_value.specs.declared.bounded_value.BoundedValue.{BoundedValue}
use Rattle.scad_value.specs.Values.{Val}
use Rattle.scad_value.specs.View.{val_of}
use Rattle.scad_definitions.specs.Newest.{Pairs}
use Rattle.scad_definitions.specs.ExpectedView.{names_expected}
use Rattle.scad_definitions.specs.declared.name_table.NameTable.{NameTable}

-- the names of a table, where there is one
abbrev pub names_known : Option NameTable → List (List ℕ)
names_known None = []
names_known (Some table) = names_expected table

-- values with the first ones of these names, the oldest first
abbrev pub with_names : List BoundedValue → List (List ℕ) → Pairs Val
with_names [] names = []
with_names (value ∷ values) [] = []
with_names (value ∷ values) (name ∷ names) = (name, val_of value.value) ∷ with_names values names

-- that a name stands at a place
pub record IsNameAt (names : List (List ℕ)) (place : ℕ) (name : List ℕ) : Type 0 where
  pub there : place < length names
  pub same : name ≡ slice_index_or names place []

-- that a name is the next one behind the given number, where nothing was bound behind these
pub record IsNextName (later : Pairs Val) (names : List (List ℕ)) (count : ℕ)
    (name : List ℕ) : Type 0 where
  pub newest : later ≡ []
  pub at : IsNameAt names count name
