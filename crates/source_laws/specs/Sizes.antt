-- The size of a text: how many expressions, assignments and instances stand in it.
use Rattle.std.specs.Prelude.{◌≤◌, ℕ, suc, ◌+◌, List, [], ◌∷◌}
use Rattle.std.specs.List.{AllByRecursion}
use Rattle.scad_ast.specs.Terms.{Term, NumberTerm, TextTerm, TruthTerm, UndefTerm, ChildCountTerm, SpecialTerm, NameTerm, CallTerm, ParenTerm, ListTerm, RangeTerm, SteppedRangeTerm, PostfixTerm, UnaryTerm, ChainTerm, ChoiceTerm, Terms, no_terms, and_term, ArgTerms, no_args, and_named, and_special, and_positional, SuffixTerms, no_suffixes, and_index, and_member, LinkTerms, no_links, and_link, ParamTerm, PlainTerm, DefaultTerm, BinderTerm, StatementTerm, EmptyStatement, BlockStatement, AssignmentTerm, SpecialAssignmentTerm, ModuleTerm, FunctionTerm, InstanceStatement, StatementTerms, no_statements, and_statement, InstanceTerm, AnInstance, CoreTerm, IfTerm, IfElseTerm, ForTerm, IntersectionForTerm, ModuleCallTerm, BodyTerm, EmptyBody, BlockBody, InstanceBody, args_from}
use Rattle.scad_definitions.specs.Blocks.{SourceFunction, SourceModule}
use Rattle.scad_func.specs.Meaning.{Env, NoScope, InnerScope, Activation, no_activation, activation}

-- how many expressions stand in an expression, itself one
abbrev mutual
  pub size_of_term : Term → ℕ
  size_of_term (NumberTerm at n) = 1
  size_of_term (TextTerm at bytes) = 1
  size_of_term (TruthTerm at truth) = 1
  size_of_term (UndefTerm at) = 1
  size_of_term (ChildCountTerm at) = 1
  size_of_term (SpecialTerm at name) = 1
  size_of_term (NameTerm at name) = 1
  size_of_term (CallTerm at name args) = suc (size_of_args args)
  size_of_term (ParenTerm at inner) = suc (size_of_term inner)
  size_of_term (ListTerm at items) = suc (size_of_terms items)
  size_of_term (RangeTerm at from to) = suc (size_of_term from + size_of_term to)
  size_of_term (SteppedRangeTerm at from step to) = suc (size_of_term from + (size_of_term step + size_of_term to))
  size_of_term (PostfixTerm at of rest) = suc (size_of_term of + size_of_suffixes rest)
  size_of_term (UnaryTerm at op of) = suc (size_of_term of)
  size_of_term (ChainTerm at first rest) = suc (size_of_term first + size_of_links rest)
  size_of_term (ChoiceTerm at test mark one other) = suc (size_of_term test + (size_of_term one + size_of_term other))

  -- in the items of a list
  pub size_of_terms : Terms → ℕ
  size_of_terms no_terms = 0
  size_of_terms (and_term first rest) = size_of_term first + size_of_terms rest

  -- in arguments
  pub size_of_args : ArgTerms → ℕ
  size_of_args no_args = 0
  size_of_args (and_named at name value rest) = size_of_term value + size_of_args rest
  size_of_args (and_special at name value rest) = size_of_term value + size_of_args rest
  size_of_args (and_positional value rest) = size_of_term value + size_of_args rest

  -- in indexes and members
  pub size_of_suffixes : SuffixTerms → ℕ
  size_of_suffixes no_suffixes = 0
  size_of_suffixes (and_index at index rest) = size_of_term index + size_of_suffixes rest
  size_of_suffixes (and_member at name name_at rest) = size_of_suffixes rest

  -- in the right sides of operators
  pub size_of_links : LinkTerms → ℕ
  size_of_links no_links = 0
  size_of_links (and_link op at right rest) = size_of_term right + size_of_links rest

-- in the default of a parameter
abbrev pub size_of_param : ParamTerm → ℕ
size_of_param (PlainTerm at name) = 0
size_of_param (DefaultTerm at name value) = size_of_term value

-- in the defaults of parameters
abbrev pub size_of_params : List ParamTerm → ℕ
size_of_params [] = 0
size_of_params (param ∷ params) = size_of_param param + size_of_params params

-- in what the variables of a loop go over
abbrev pub size_of_binders : List BinderTerm → ℕ
size_of_binders [] = 0
size_of_binders (binder ∷ binders) = size_of_term binder.values + size_of_binders binders

-- how many expressions, assignments and instances stand in a statement
abbrev mutual
  pub size_of_statement : StatementTerm → ℕ
  size_of_statement (EmptyStatement at) = 0
  size_of_statement (BlockStatement at statements) = size_of_statements statements
  size_of_statement (AssignmentTerm at name value) = suc (size_of_term value)
  size_of_statement (SpecialAssignmentTerm at name value) = suc (size_of_term value)
  size_of_statement (ModuleTerm at name name_at params body) = size_of_params params + size_of_body body
  size_of_statement (FunctionTerm at name name_at params value) = size_of_params params + size_of_term value
  size_of_statement (InstanceStatement instance) = size_of_instance instance

  -- in statements
  pub size_of_statements : StatementTerms → ℕ
  size_of_statements no_statements = 0
  size_of_statements (and_statement first rest) = size_of_statement first + size_of_statements rest

  -- in an instance, itself one
  pub size_of_instance : InstanceTerm → ℕ
  size_of_instance (AnInstance at modifiers core) = suc (size_of_core core)

  -- in an instance without its modifiers
  pub size_of_core : CoreTerm → ℕ
  size_of_core (IfTerm at test body) = size_of_term test + size_of_body body
  size_of_core (IfElseTerm at test body other) = size_of_term test + (size_of_body body + size_of_body other)
  size_of_core (ForTerm at binders body) = size_of_binders binders + size_of_body body
  size_of_core (IntersectionForTerm at binders body) = size_of_binders binders + size_of_body body
  size_of_core (ModuleCallTerm at name args body) = size_of_args (args_from args) + size_of_body body

  -- in a body
  pub size_of_body : BodyTerm → ℕ
  size_of_body (EmptyBody at) = 0
  size_of_body (BlockBody at statements) = size_of_statements statements
  size_of_body (InstanceBody instance) = size_of_instance instance

-- in a function: in its defaults and its value
abbrev pub size_of_function : SourceFunction → ℕ
size_of_function function = size_of_params function.params + size_of_term function.value

-- in a module: in its defaults and its body
abbrev pub size_of_module : SourceModule → ℕ
size_of_module defined = size_of_params defined.params + size_of_body defined.body

-- a scope in which, and around which, no function, no module and no body of children is larger than this
abbrev mutual
  pub HoldsTextsUpTo : ℕ → Env → Type 0
  HoldsTextsUpTo size NoScope = Unit {0}
  HoldsTextsUpTo size (InnerScope variables functions modules call outer) =
      AllByRecursion (λ pair. size_of_function pair.1 ≤ size) functions
      × AllByRecursion (λ pair. size_of_module pair.1 ≤ size) modules
      × CallHoldsTextsUpTo size call × HoldsTextsUpTo size outer

  -- a call whose children are no larger, and whose caller's scope holds nothing larger
  pub CallHoldsTextsUpTo : ℕ → Activation → Type 0
  CallHoldsTextsUpTo size no_activation = Unit {0}
  CallHoldsTextsUpTo size (activation children caller) = (size_of_statements children ≤ size) × HoldsTextsUpTo size caller
