-- How many blocks, functions and modules begin in a text.
use Rattle.std.specs.Prelude.{ℕ, suc, ◌+◌, List}
use Rattle.scad_ast.specs.Terms.{StatementTerm, EmptyStatement, BlockStatement, AssignmentTerm, SpecialAssignmentTerm, ModuleTerm, FunctionTerm, InstanceStatement, StatementTerms, no_statements, and_statement, InstanceTerm, AnInstance, CoreTerm, IfTerm, IfElseTerm, ForTerm, IntersectionForTerm, ModuleCallTerm, BodyTerm, EmptyBody, BlockBody, InstanceBody, statements_from}

-- in a statement: the expression of a function is a block, and a bare block is none
abbrev mutual
  pub count_begun_by_statement : StatementTerm → ℕ
  count_begun_by_statement (EmptyStatement at) = 0
  count_begun_by_statement (BlockStatement at statements) = count_begun_by_statements statements
  count_begun_by_statement (AssignmentTerm at name value) = 0
  count_begun_by_statement (SpecialAssignmentTerm at name value) = 0
  count_begun_by_statement (ModuleTerm at name name_at params body) = suc (count_begun_by_body body)
  count_begun_by_statement (FunctionTerm at name name_at params value) = 2
  count_begun_by_statement (InstanceStatement instance) = count_begun_by_instance instance

  -- in all of some statements
  pub count_begun_by_statements : StatementTerms → ℕ
  count_begun_by_statements no_statements = 0
  count_begun_by_statements (and_statement first rest) = count_begun_by_statement first + count_begun_by_statements rest

  -- in an instance: as many as in what its modifiers stand before
  pub count_begun_by_instance : InstanceTerm → ℕ
  count_begun_by_instance (AnInstance at modifiers core) = count_begun_by_core core

  -- in the bodies of an instance without its modifiers
  pub count_begun_by_core : CoreTerm → ℕ
  count_begun_by_core (IfTerm at test body) = count_begun_by_body body
  count_begun_by_core (IfElseTerm at test body other) = count_begun_by_body body + count_begun_by_body other
  count_begun_by_core (ForTerm at binders body) = count_begun_by_body body
  count_begun_by_core (IntersectionForTerm at binders body) = count_begun_by_body body
  count_begun_by_core (ModuleCallTerm at name args body) = count_begun_by_body body

  -- in a body, which is a block itself
  pub count_begun_by_body : BodyTerm → ℕ
  count_begun_by_body (EmptyBody at) = 1
  count_begun_by_body (BlockBody at statements) = suc (count_begun_by_statements statements)
  count_begun_by_body (InstanceBody instance) = suc (count_begun_by_instance instance)

-- a program is a block, in which all others stand
abbrev pub count_begun_by_program : List StatementTerm → ℕ
count_begun_by_program program = suc (count_begun_by_statements (statements_from program))
