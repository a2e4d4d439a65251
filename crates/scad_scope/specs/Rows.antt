-- The scopes that blocks of a program give.
use Rattle.std.specs.Prelude.{ℕ, [], reverse, slice_index_or, None}
use Rattle.scad_definitions.specs.Blocks.{LocalTerms, BlockTable, nothing_there}
use Rattle.scad_scope.specs.Names.{ScopeRow}

-- a new scope with a block's local definitions, inside another one
abbrev pub local_row : ℕ → LocalTerms → ScopeRow
local_row outer local = record {
  variables = [];
  functions = reverse local.functions;
  modules = reverse local.modules;
  outer = outer;
  call = None;
}

-- a new scope of the block of a number, inside another one; a block that isn't there has no definitions
abbrev pub row_of_block : ℕ → BlockTable → ℕ → ScopeRow
row_of_block outer text number =
    local_row outer (slice_index_or text.entries number nothing_there).local
