-- The blocks of a program, the definitions that stand in each, and their numbers.
use Rattle.std.specs.Prelude.{◌≡◌, ◌<◌, ℕ, zero, suc, ◌+◌, List, [], ◌∷◌, ◌++◌, length, slice_index_or, Bool, true, false, ◌&&◌, if◌then◌else◌, Option, Some, None}
use Rattle.std.specs.Bool.{beq}
use Rattle.std.specs.Str.{bytes_eq}
use Rattle.plain_text.specs.declared.place.Place.{Place}
use Rattle.scad_ast.specs.Terms.{Term, ParamTerm, StatementTerm, EmptyStatement, BlockStatement, AssignmentTerm, SpecialAssignmentTerm, ModuleTerm, FunctionTerm, InstanceStatement, StatementTerms, no_statements, and_statement, InstanceTerm, AnInstance, CoreTerm, IfTerm, IfElseTerm, ForTerm, IntersectionForTerm, ModuleCallTerm, BodyTerm, EmptyBody, BlockBody, InstanceBody, statements_from}
use Rattle.scad_definitions.specs.Newest.{Pairs, one_further}

-- a function of the source: its parameters and its value
pub record SourceFunction : Type 0 where
  pub params : List ParamTerm
  pub value : Term

-- a module of the source: its parameters and its body
pub record SourceModule : Type 0 where
  pub params : List ParamTerm
  pub body : BodyTerm

-- what has a number in a text: a block with the statements that stand in it, a function or a module
pub data Entity : Type 0 where
  a_block : (statements : StatementTerms) → Entity
  a_function : (function : SourceFunction) → Entity
  a_module : (defined : SourceModule) → Entity

-- the statements of a body; a single instance is one statement
abbrev pub statements_of_body : BodyTerm → StatementTerms
statements_of_body (EmptyBody at) = no_statements
statements_of_body (BlockBody at statements) = statements
statements_of_body (InstanceBody instance) =
    and_statement (InstanceStatement instance) no_statements

-- the blocks and definitions of a text, in the order in which they begin
abbrev mutual
  pub entities_of : StatementTerm → List Entity
  entities_of (EmptyStatement at) = []
  entities_of (BlockStatement at statements) = entities_in statements
  entities_of (AssignmentTerm at name value) = []
  entities_of (SpecialAssignmentTerm at name value) = []
  entities_of (ModuleTerm at name name_at params body) =
      a_module (record { params = params; body = body }) ∷ entities_of_body body
  entities_of (FunctionTerm at name name_at params value) =
      a_function (record { params = params; value = value }) ∷ a_block no_statements ∷ []
  entities_of (InstanceStatement instance) = entities_of_instance instance

  -- those of statements one after another
  pub entities_in : StatementTerms → List Entity
  entities_in no_statements = []
  entities_in (and_statement statement rest) = entities_of statement ++ entities_in rest

  -- those of an instance, whose modifiers begin nothing
  pub entities_of_instance : InstanceTerm → List Entity
  entities_of_instance (AnInstance at modifiers core) = entities_of_core core

  -- those of its bodies
  pub entities_of_core : CoreTerm → List Entity
  entities_of_core (IfTerm at test body) = entities_of_body body
  entities_of_core (IfElseTerm at test body other) = entities_of_body body ++ entities_of_body other
  entities_of_core (ForTerm at binders body) = entities_of_body body
  entities_of_core (IntersectionForTerm at binders body) = entities_of_body body
  entities_of_core (ModuleCallTerm at name args body) = entities_of_body body

  -- a body is a block, and what stands in it begins behind it
  pub entities_of_body : BodyTerm → List Entity
  entities_of_body (EmptyBody at) = a_block no_statements ∷ []
  entities_of_body (BlockBody at statements) = a_block statements ∷ entities_in statements
  entities_of_body (InstanceBody instance) =
      a_block (and_statement (InstanceStatement instance) no_statements)
      ∷ entities_of_instance instance

-- a program is block 0, and its bodies and the expressions of functions come behind it
abbrev pub entities_of_program : List StatementTerm → List Entity
entities_of_program program =
    a_block (statements_from program) ∷ entities_in (statements_from program)

-- the functions that begin in a text, in order; as those of modules, their numbers count from 0
abbrev pub functions_among : List Entity → List SourceFunction
functions_among [] = []
functions_among (a_block inner ∷ entities) = functions_among entities
functions_among (a_function function ∷ entities) = function ∷ functions_among entities
functions_among (a_module defined ∷ entities) = functions_among entities

-- the modules that begin in a text, in order
abbrev pub modules_among : List Entity → List SourceModule
modules_among [] = []
modules_among (a_block inner ∷ entities) = modules_among entities
modules_among (a_function function ∷ entities) = modules_among entities
modules_among (a_module defined ∷ entities) = defined ∷ modules_among entities

-- the functions of a program by number
abbrev pub functions_of_program : List StatementTerm → List SourceFunction
functions_of_program program = functions_among (entities_of_program program)

-- the modules of a program by number
abbrev pub modules_of_program : List StatementTerm → List SourceModule
modules_of_program program = modules_among (entities_of_program program)

-- how many functions begin in a text
abbrev pub count_functions : List Entity → ℕ
count_functions entities = length (functions_among entities)

-- how many modules begin in a text
abbrev pub count_modules : List Entity → ℕ
count_modules entities = length (modules_among entities)

-- how many blocks begin in a text
abbrev pub count_blocks : List Entity → ℕ
count_blocks [] = 0
count_blocks (a_block inner ∷ entities) = suc (count_blocks entities)
count_blocks (a_function function ∷ entities) = count_blocks entities
count_blocks (a_module defined ∷ entities) = count_blocks entities

-- the numbers of the blocks of the modules' bodies, behind the given number of blocks: each body begins at its module
abbrev pub bodies_from : ℕ → List Entity → List ℕ
bodies_from number [] = []
bodies_from number (a_block inner ∷ entities) = bodies_from (number + 1) entities
bodies_from number (a_function function ∷ entities) = bodies_from number entities
bodies_from number (a_module defined ∷ entities) = number ∷ bodies_from number entities

-- the functions that stand in a block, with their numbers, after the given number of others; those of a bare block in it count
-- as its own
abbrev mutual
  pub local_functions : ℕ → StatementTerms → Pairs ℕ
  local_functions before no_statements = []
  local_functions before (and_statement statement rest) =
      local_function before statement ++ local_functions
      (before + count_functions (entities_of statement)) rest

  -- the function that a statement defines, or those of a bare block
  pub local_function : ℕ → StatementTerm → Pairs ℕ
  local_function before (EmptyStatement at) = []
  local_function before (BlockStatement at statements) = local_functions before statements
  local_function before (AssignmentTerm at name value) = []
  local_function before (SpecialAssignmentTerm at name value) = []
  local_function before (ModuleTerm at name name_at params body) = []
  local_function before (FunctionTerm at name name_at params value) = (name, before) ∷ []
  local_function before (InstanceStatement instance) = []

-- the modules that stand in a block
abbrev mutual
  pub local_modules : ℕ → StatementTerms → Pairs ℕ
  local_modules before no_statements = []
  local_modules before (and_statement statement rest) =
      local_module before statement ++ local_modules (before + count_modules
      (entities_of statement)) rest

  -- the module that a statement defines, or those of a bare block
  pub local_module : ℕ → StatementTerm → Pairs ℕ
  local_module before (EmptyStatement at) = []
  local_module before (BlockStatement at statements) = local_modules before statements
  local_module before (AssignmentTerm at name value) = []
  local_module before (SpecialAssignmentTerm at name value) = []
  local_module before (ModuleTerm at name name_at params body) = (name, before) ∷ []
  local_module before (FunctionTerm at name name_at params value) = []
  local_module before (InstanceStatement instance) = []

-- An assignment: its name, with whether it is a special one, its place and its expression.
pub record SourceAssignment : Type 0 where
  pub at : Place
  pub special : Bool
  pub name : List ℕ
  pub value : Term

-- whether two assignments are of one name: `$a` is another one than `a`
abbrev pub same_assigned_name : SourceAssignment → SourceAssignment → Bool
same_assigned_name one other = beq one.special other.special && bytes_eq one.name other.name

-- One assignment more: a name that is there keeps its place and gets this expression (OpenSCAD User Manual,
-- "Variables": the last assignment counts, at the place of the first).
abbrev pub with_assigned : List SourceAssignment → SourceAssignment → List SourceAssignment
with_assigned [] assigned = assigned ∷ []
with_assigned (known ∷ others) assigned =
    if same_assigned_name known assigned then record known { value = assigned.value } ∷ others
    else known ∷ with_assigned others assigned

-- the number of the assignment that has the same name
abbrev pub place_of_assignment : List SourceAssignment → SourceAssignment → Option ℕ
place_of_assignment [] assigned = None
place_of_assignment (known ∷ others) assigned =
    if same_assigned_name known assigned then Some zero else one_further (place_of_assignment others assigned)

-- assignments one after another, behind those that are there
abbrev pub assignments_with_all : List SourceAssignment → List SourceAssignment → List SourceAssignment
assignments_with_all before [] = before
assignments_with_all before (assigned ∷ rest) = assignments_with_all (with_assigned before assigned) rest

-- the assignments that stand in a block, in the order of the text; a bare block's count as those of the block
abbrev mutual
  pub assignments_in : StatementTerms → List SourceAssignment
  assignments_in no_statements = []
  assignments_in (and_statement statement rest) = assignments_by statement ++ assignments_in rest

  -- the assignment that a statement is, or those of a bare block
  pub assignments_by : StatementTerm → List SourceAssignment
  assignments_by (EmptyStatement at) = []
  assignments_by (BlockStatement at statements) = assignments_in statements
  assignments_by (AssignmentTerm at name value) =
      record { at = at; special = false; name = name; value = value } ∷ []
  assignments_by (SpecialAssignmentTerm at name value) =
      record { at = at; special = true; name = name; value = value } ∷ []
  assignments_by (ModuleTerm at name name_at params body) = []
  assignments_by (FunctionTerm at name name_at params value) = []
  assignments_by (InstanceStatement instance) = []

-- a block's assignments, each name once
abbrev pub assignments_of : StatementTerms → List SourceAssignment
assignments_of statements = assignments_with_all [] (assignments_in statements)

-- a block's local definitions with their numbers, in the order of the text, and its assignments
pub record LocalTerms : Type 0 where
  pub functions : Pairs ℕ
  pub modules : Pairs ℕ
  pub assignments : List SourceAssignment

-- a block in which nothing stands has none
abbrev pub no_locals : LocalTerms
no_locals = record { functions = []; modules = []; assignments = [] }

-- a block's local definitions, behind the given number of functions and modules
abbrev pub locals_of_block : ℕ → ℕ → StatementTerms → LocalTerms
locals_of_block functions modules statements = record {
  functions = local_functions functions statements;
  modules = local_modules modules statements;
  assignments = assignments_of statements;
}

-- what a block has: its statements, its local definitions, and the number of the first block behind it and all that stands in
-- it
pub record SourceBlock : Type 0 where
  pub statements : StatementTerms
  pub local : LocalTerms
  pub block_end : ℕ

-- a block that isn't there has nothing
abbrev pub nothing_there : SourceBlock
nothing_there = record { statements = no_statements; local = no_locals; block_end = 0 }

-- the block of a number, behind the given number of functions and modules
abbrev pub entry_at : ℕ → ℕ → ℕ → StatementTerms → SourceBlock
entry_at number functions modules statements = record {
  statements = statements;
  local = locals_of_block functions modules statements;
  block_end = number + 1 + count_blocks (entities_in statements);
}

-- the blocks that begin in a text, behind the given number of blocks, functions and modules
abbrev pub entries_from : ℕ → ℕ → ℕ → List Entity → List SourceBlock
entries_from number functions modules [] = []
entries_from number functions modules (a_block statements ∷ entities) =
    entry_at number functions modules statements ∷ entries_from (number + 1) functions
    modules entities
entries_from number functions modules (a_function function ∷ entities) =
    entries_from number (functions + 1) modules entities
entries_from number functions modules (a_module defined ∷ entities) =
    entries_from number functions (modules + 1) entities

-- a program's blocks, functions and modules by number, and for each module the number of its body's block
pub record BlockTable : Type 0 where
  pub entries : List SourceBlock
  pub functions : List SourceFunction
  pub modules : List SourceModule
  pub bodies : List ℕ

-- a program by numbers, each counted from 0 in the order of the text
abbrev pub block_table : List StatementTerm → BlockTable
block_table program = record {
  entries = entries_from 0 0 0 (entities_of_program program);
  functions = functions_of_program program;
  modules = modules_of_program program;
  bodies = bodies_from 0 (entities_of_program program);
}

-- that the blocks from a number on are those of these entities: a walk over the statements of a block in order meets
-- their blocks one behind the other
abbrev pub StandAt : BlockTable → ℕ → List Entity → Type 0
StandAt text number [] = Unit {0}
StandAt text number (a_block statements ∷ entities) =
    (number < length text.entries) × ((slice_index_or text.entries number nothing_there).statements
    ≡ statements)
    × StandAt text (number + 1) entities
StandAt text number (a_function function ∷ entities) = StandAt text number entities
StandAt text number (a_module defined ∷ entities) = StandAt text number entities

-- what stands in a block begins behind it, and a module's body at the number that the module has
pub record StandsInOrder (text : BlockTable) : Type 0 where
  pub blocks : (n : ℕ) → n < length text.entries
      → StandAt text (n + 1) (entities_in (slice_index_or text.entries n nothing_there).statements)
  pub bodies : (number : ℕ) (defined : SourceModule) → number < length text.modules
      → defined ≡ slice_index_or text.modules number defined
      → StandAt text (slice_index_or text.bodies number 0) (entities_of_body defined.body)
