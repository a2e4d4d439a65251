-- What the walk through a program's text has come to.
use Rattle.std.specs.Prelude.{ℕ, ◌+◌, List, [], ◌∷◌, ◌++◌, length, slice_set, slice_index_or}
use Rattle.scad_ast.specs.Terms.{StatementTerm, StatementTerms}
use Rattle.scad_definitions.specs.declared.walk.Walk.{Walk}
use Rattle.scad_definitions.specs.Blocks.{Entity, a_block, a_function, a_module, SourceAssignment, with_assigned, assignments_with_all, assignments_in, assignments_by, local_functions, local_function, local_modules, local_module, LocalTerms, no_locals, SourceBlock, nothing_there, entry_at, BlockTable}
use Rattle.scad_definitions.specs.TextView.{block_table_of}

-- the part of the program that was walked through, by numbers
abbrev pub table_so_far : Walk → BlockTable
table_so_far walk = block_table_of walk.entries.items walk.functions.items walk.modules.items

-- how many blocks, functions and modules have numbers
abbrev pub count_numbered : BlockTable → ℕ
count_numbered text = length text.entries + length text.functions + length text.modules

-- a walk that has begun with nothing
abbrev pub empty_block_table : BlockTable
empty_block_table = record { entries = []; functions = []; modules = []; bodies = [] }

-- with one entity more
abbrev pub with_entity : BlockTable → Entity → BlockTable
with_entity text (a_block statements) = record text {
  entries = text.entries ++ entry_at (length text.entries) (length text.functions)
      (length text.modules) statements ∷ [];
}
with_entity text (a_function function) = record text { functions = text.functions ++ function ∷ [] }
with_entity text (a_module defined) =
    record text {
      modules = text.modules ++ defined ∷ [];
      bodies = text.bodies ++ length text.entries ∷ [];
    }

-- with all entities of a text, one after another
abbrev pub with_entities : BlockTable → List Entity → BlockTable
with_entities text [] = text
with_entities text (entity ∷ entities) = with_entities (with_entity text entity) entities

-- what statements add to a block's local definitions
abbrev pub locals_with : LocalTerms → ℕ → ℕ → StatementTerms → LocalTerms
locals_with local functions modules statements = record {
  functions = local.functions ++ local_functions functions statements;
  modules = local.modules ++ local_modules modules statements;
  assignments = assignments_with_all local.assignments (assignments_in statements);
}

-- what one statement adds to a block's local definitions
abbrev pub locals_by : LocalTerms → ℕ → ℕ → StatementTerm → LocalTerms
locals_by local functions modules statement = record {
  functions = local.functions ++ local_function functions statement;
  modules = local.modules ++ local_module modules statement;
  assignments = assignments_with_all local.assignments (assignments_by statement);
}

-- with one assignment more
abbrev pub locals_with_assignment : LocalTerms → SourceAssignment → LocalTerms
locals_with_assignment local assigned =
    record local { assignments = with_assigned local.assignments assigned }

-- with one block more, whose local definitions are not known yet
abbrev pub with_block_begun : BlockTable → StatementTerms → BlockTable
with_block_begun text statements = record text {
  entries = text.entries ++ record {
    statements = statements;
    local = no_locals;
    block_end = 0;
  } ∷ [];
}

-- a block with its local definitions, and the number of the first block behind it
abbrev pub block_with_end : SourceBlock → LocalTerms → ℕ → SourceBlock
block_with_end entry local block_end =
    record { statements = entry.statements; local = local; block_end = block_end }

-- a block ends: it gets its local definitions, and all blocks so far stand in it or before it
abbrev pub with_block_ended : BlockTable → ℕ → LocalTerms → BlockTable
with_block_ended text number local = record text {
  entries = slice_set text.entries number
      (block_with_end (slice_index_or text.entries number nothing_there) local (length text.entries));
}
