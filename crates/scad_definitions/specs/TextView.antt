-- What a program's blocks, functions and modules in memory stand for.
use Rattle.std.specs.Prelude.{ℕ, List, [], map, Option, Some, None, option_map}
use Rattle.scad_ast.specs.Terms.{InstanceStatement, StatementTerms, no_statements, and_statement, statements_from}
use Rattle.scad_ast.specs.ExprView.{term_of}
use Rattle.scad_ast.specs.StatementView.{params_of, statements_of, instance_of, body_of}
use Rattle.scad_definitions.specs.declared.text.BlockText.{BlockText}
use Rattle.scad_definitions.specs.declared.text.BlockText.TheVariants.{Nothing, Statements, Single}
use Rattle.scad_definitions.specs.declared.text.Function.{Function}
use Rattle.scad_definitions.specs.declared.text.Module.{Module}
use Rattle.scad_definitions.specs.declared.text.Assignment.{Assignment}
use Rattle.scad_definitions.specs.declared.text.Definitions.{Definitions}
use Rattle.scad_definitions.specs.declared.text.LocalsUnderWay.{LocalsUnderWay}
use Rattle.scad_definitions.specs.declared.text.LocalDefinitions.{LocalDefinitions}
use Rattle.scad_definitions.specs.Newest.{Pairs}
use Rattle.scad_definitions.specs.Arguments.{parameter_names}
use Rattle.scad_definitions.specs.Names.{oldest_first}
use Rattle.scad_definitions.specs.declared.text.Entry.{Entry}
use Rattle.scad_definitions.specs.Blocks.{SourceFunction, SourceModule, SourceAssignment, LocalTerms, SourceBlock, BlockTable}

-- the statements of a block: none, those in braces, or a single instance
abbrev pub statements_of_text : BlockText → StatementTerms
statements_of_text Nothing = no_statements
statements_of_text (Statements statements) = statements_from (statements_of statements.now)
statements_of_text (Single instance) =
    and_statement (InstanceStatement (instance_of instance.now)) no_statements

-- a function as its plain parameters and value
abbrev pub function_of : Function → SourceFunction
function_of function =
    record { params = params_of function.params.now; value = term_of function.value.now }

-- a module as its plain parameters and body
abbrev pub module_of : Module → SourceModule
module_of defined =
    record { params = params_of defined.params.now; body = body_of defined.body.now }

-- the names of the parameters of a function
abbrev pub names_of_function : Function → List (List ℕ)
names_of_function function = parameter_names (function_of function).params

-- the names of the parameters of a module
abbrev pub names_of_module : Module → List (List ℕ)
names_of_module defined = parameter_names (module_of defined).params

-- the number of the block of a module's body
abbrev pub block_of_module : Module → ℕ
block_of_module defined = defined.block

-- an assignment as its plain name and expression
abbrev pub source_assignment_of : Assignment → SourceAssignment
source_assignment_of assignment = record {
  at = assignment.place;
  special = assignment.special;
  name = assignment.name.now;
  value = term_of assignment.value.now;
}

-- the functions of a block by name, where there are definitions
abbrev pub functions_in : Option Definitions → Pairs ℕ
functions_in None = []
functions_in (Some definitions) = oldest_first definitions.functions

-- the modules of a block by name, where there are definitions
abbrev pub modules_in : Option Definitions → Pairs ℕ
modules_in None = []
modules_in (Some definitions) = oldest_first definitions.modules

-- a block's local definitions and assignments while it is walked through
abbrev pub locals_under_way : LocalsUnderWay → LocalTerms
locals_under_way local = record {
  functions = oldest_first local.definitions.functions;
  modules = oldest_first local.definitions.modules;
  assignments = map source_assignment_of local.assignments.items;
}

-- a block's local definitions and assignments
abbrev pub locals_of : LocalDefinitions → LocalTerms
locals_of local = record {
  functions = functions_in (option_map (λ shared. shared.value) local.definitions);
  modules = modules_in (option_map (λ shared. shared.value) local.definitions);
  assignments = map source_assignment_of local.assignments.items;
}

-- a block with its statements and its local definitions
abbrev pub block_of_entry : Entry → SourceBlock
block_of_entry entry =
    record {
      statements = statements_of_text entry.text;
      local = locals_of entry.local;
      block_end = entry.block_end;
    }

-- a program by numbers, of its blocks, functions and modules
abbrev pub block_table_of : List Entry → List Function → List Module → BlockTable
block_table_of entries functions modules = record {
  entries = map block_of_entry entries;
  functions = map function_of functions;
  modules = map module_of modules;
  bodies = map block_of_module modules;
}
