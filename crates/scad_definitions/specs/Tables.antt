-- The blocks, functions and modules that are held by number.
use Rattle.std.specs.Prelude.{List}
use Rattle.scad_definitions.specs.declared.blocks.Blocks.{Blocks}
use Rattle.scad_definitions.specs.Blocks.{SourceFunction, SourceModule, BlockTable}
use Rattle.scad_definitions.specs.TextView.{block_table_of}

-- the program by numbers, as it is held
abbrev pub block_table_in : Blocks → BlockTable
block_table_in blocks = block_table_of blocks.entries.items blocks.functions.items blocks.modules.items

-- the functions by number
abbrev pub source_functions_in : Blocks → List SourceFunction
source_functions_in blocks = (block_table_in blocks).functions

-- the modules by number
abbrev pub source_modules_in : Blocks → List SourceModule
source_modules_in blocks = (block_table_in blocks).modules
