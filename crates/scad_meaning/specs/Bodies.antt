-- What stands in a body: its assignments, its instances, and which of these are children.
use Rattle.std.specs.Prelude.{◌≡◌, ⊤, Bool, true, false, not, ◌&&◌, ◌||◌, List, [], ◌∷◌, ◌++◌, filter, Option, Some, None, is_some, option_map, codes, if◌then◌else◌}
use Rattle.std.specs.List.{list_any}
use Rattle.std.specs.Str.{bytes_eq}
use Rattle.scad_ast.specs.declared.operator.Modifier.{Modifier}
use Rattle.scad_ast.specs.declared.operator.Modifier.TheVariants.{Disable, Background, Highlight, Root}
use Rattle.scad_ast.specs.Terms.{StatementTerm, EmptyStatement, BlockStatement, AssignmentTerm, SpecialAssignmentTerm, ModuleTerm, FunctionTerm, InstanceStatement, StatementTerms, no_statements, and_statement, InstanceTerm, AnInstance, CoreTerm, ModuleCallTerm, BodyTerm, EmptyBody, BlockBody, InstanceBody}
use Rattle.scad_definitions.specs.Blocks.{SourceAssignment, same_assigned_name}
use Rattle.scad_func.specs.Meaning.{Env, visible_module}

-- whether an assignment's name is among those of others
abbrev pub is_named_in : List SourceAssignment → SourceAssignment → Bool
is_named_in others assignment = list_any (same_assigned_name assignment) others

-- the first of these assignments that has the name of another one
abbrev pub first_of_its_name : SourceAssignment → List SourceAssignment → Option SourceAssignment
first_of_its_name named [] = None
first_of_its_name named (assignment ∷ rest) = if same_assigned_name named assignment then Some assignment else first_of_its_name named rest

-- the later of two assignments, where there is one
abbrev pub or_later : Option SourceAssignment → Option SourceAssignment → Option SourceAssignment
or_later earlier None = earlier
or_later earlier (Some later) = Some later

-- the last of these assignments that has the name of another one
abbrev pub last_of : SourceAssignment → List SourceAssignment → Option SourceAssignment
last_of named [] = None
last_of named (assignment ∷ rest) = or_later (if same_assigned_name named assignment then Some assignment else None) (last_of named rest)

-- an assignment that stands for all of its name: it has the value of the last one, at the place of the first one
pub record StandsForAll (assignments : List SourceAssignment) (assignment : SourceAssignment) : Type 0 where
  pub last : option_map (λ found. found.value) (last_of assignment assignments) ≡ Some assignment.value
  pub first : option_map (λ found. found.at) (first_of_its_name assignment assignments) ≡ Some assignment.at

-- assignments to different names
abbrev pub HaveDistinctNames : List SourceAssignment → Type 0
HaveDistinctNames [] = ⊤
HaveDistinctNames (assignment ∷ rest) = (is_named_in rest assignment ≡ false) × HaveDistinctNames rest

-- the instances of a body in order
abbrev mutual
  pub instances_in : StatementTerms → List InstanceTerm
  instances_in no_statements = []
  instances_in (and_statement statement rest) = instances_of statement ++ instances_in rest

  -- the instance that a statement is; a block has those of its statements
  pub instances_of : StatementTerm → List InstanceTerm
  instances_of (EmptyStatement at) = []
  instances_of (BlockStatement at statements) = instances_in statements
  instances_of (AssignmentTerm at name value) = []
  instances_of (SpecialAssignmentTerm at name value) = []
  instances_of (ModuleTerm at name name_at params body) = []
  instances_of (FunctionTerm at name name_at params value) = []
  instances_of (InstanceStatement instance) = instance ∷ []

-- whether a modifier switches an instance off, as `*` and `%` do
abbrev pub switches_off : Modifier → Bool
switches_off Disable = true
switches_off Background = true
switches_off Highlight = false
switches_off Root = false

-- whether a modifier makes the root, as `!` does
abbrev pub is_root : Modifier → Bool
is_root Disable = false
is_root Background = false
is_root Highlight = false
is_root Root = true

-- an instance that is evaluated: one marked `*` or `%` counts as not written
abbrev pub is_switched_on : InstanceTerm → Bool
is_switched_on (AnInstance at modifiers core) = not (list_any (λ placed. switches_off placed.modifier) modifiers)

-- an instance marked `!`
abbrev pub has_root_modifier : InstanceTerm → Bool
has_root_modifier (AnInstance at modifiers core) = list_any (λ placed. is_root placed.modifier) modifiers

-- the instances of a body that are evaluated
abbrev pub evaluated_instances : StatementTerms → List InstanceTerm
evaluated_instances statements = filter is_switched_on (instances_in statements)

-- `echo` and `assert`, where the source defines no module of that name, seen from the scope
abbrev pub has_no_geometry : Env → CoreTerm → Bool
has_no_geometry env (ModuleCallTerm at name args body) =
    (bytes_eq name (codes "echo") || bytes_eq name (codes "assert")) && not (is_some (visible_module env name))
has_no_geometry env core = false

-- whether an instance is a child: any but a call of the built-in `echo` or `assert`
abbrev pub is_child : Env → InstanceTerm → Bool
is_child env (AnInstance at modifiers core) = not (has_no_geometry env core)

-- the children of a call with this body, in the body's scope
abbrev pub children_in : Env → StatementTerms → List InstanceTerm
children_in env statements = filter (is_child env) (evaluated_instances statements)

-- whether a list has no items
abbrev pub has_no_items : {A : Type 0} → List A → Bool
has_no_items [] = true
has_no_items (x ∷ xs) = false

-- a body without statements: `;` or `{ }`
abbrev pub is_bare : BodyTerm → Bool
is_bare (EmptyBody at) = true
is_bare (BlockBody at no_statements) = true
is_bare (BlockBody at (and_statement statement rest)) = false
is_bare (InstanceBody instance) = false
