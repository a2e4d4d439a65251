-- Scopes that hold nothing larger than a size: what is found in them, and what stands in statements.
use Rattle.std.proofs.Common.{◌≤◌, ℕ, Bool, true, false, List, [], ◌∷◌, ◌++◌, Option, Some, None, if◌then◌else◌, arith}
use Rattle.std.specs.Prelude.{IfSome}
use Rattle.std.specs.List.{AllByRecursion}
use Rattle.std.specs.Str.{bytes_eq}
use Rattle.scad_ast.specs.Terms.{StatementTerm, EmptyStatement, BlockStatement, AssignmentTerm, SpecialAssignmentTerm, ModuleTerm, FunctionTerm, InstanceStatement, StatementTerms, no_statements, and_statement, BodyTerm, EmptyBody, BlockBody, InstanceBody}
use Rattle.scad_value.specs.Values.{Val}
use Rattle.scad_scope.specs.Names.{Pairs, find_in, or_found_outside}
use Rattle.scad_definitions.specs.Blocks.{SourceFunction, SourceModule, statements_of_body}
use Rattle.scad_func.specs.Meaning.{Env, NoScope, InnerScope, Activation, no_activation, activation, with_defining_scope, visible_function, visible_module, or_outer_activation, activation_in, functions_standing_in, function_in_statement, modules_standing_in, module_in_statement, entered_scope, with_value}
use Rattle.source_laws.specs.Sizes.{size_of_statement, size_of_statements, size_of_body, size_of_function, size_of_module, HoldsTextsUpTo, CallHoldsTextsUpTo}

every_joined : {A : Type 0} (Q : A → Type 0) (xs ys : List A) → AllByRecursion Q xs → AllByRecursion Q ys
    → AllByRecursion Q (xs ++ ys)
every_joined Q [] ys h g = g
every_joined Q (x ∷ xs) ys h g = (h.0, every_joined Q xs ys h.1 g)

if_some : {A : Type 0} (Q : A → Type 0) (b : Bool) (x y : Option A) → IfSome x Q → IfSome y Q → IfSome (if b then x else y) Q
if_some Q true x y h g = h
if_some Q false x y h g = g

or_some : {A : Type 0} (Q : A → Type 0) (o other : Option A) → IfSome o Q → IfSome other Q → IfSome (or_found_outside o other) Q
or_some Q (Some x) other h g = h
or_some Q None other h g = g

find_some : {A : Type 0} (Q : A → Type 0) (pairs : Pairs A) (name : List ℕ) → AllByRecursion (λ p. Q p.1) pairs
    → IfSome (find_in pairs name) Q
find_some Q [] name h = tt
find_some Q (p ∷ ps) name h = if_some Q (bytes_eq p.0 name) (Some p.1) (find_in ps name) h.0 (find_some Q ps name h.1)

module _ (size : ℕ) where
  abbrev pub SmallFunction : SourceFunction → Type 0
  SmallFunction f = size_of_function f ≤ size

  abbrev pub SmallModule : SourceModule → Type 0
  SmallModule m = size_of_module m ≤ size

  standing : {A : Type 0} (Q : A → Type 0) (env : Env) (o : Option A) → HoldsTextsUpTo size env → IfSome o Q
      → IfSome (with_defining_scope env o) (λ found. Q found.0 × HoldsTextsUpTo size found.1)
  standing Q env None s h = tt
  standing Q env (Some x) s h = (h, s)

  pub function_found : (env : Env) (name : List ℕ) → HoldsTextsUpTo size env
      → IfSome (visible_function env name) (λ found. SmallFunction found.0 × HoldsTextsUpTo size found.1)
  function_found NoScope name s = tt
  function_found (InnerScope vs fs ms call outer) name s =
      or_some (λ found. SmallFunction found.0 × HoldsTextsUpTo size found.1)
      (with_defining_scope (InnerScope vs fs ms call outer) (find_in fs name)) (visible_function outer name)
      (standing SmallFunction (InnerScope vs fs ms call outer) (find_in fs name) s (find_some SmallFunction fs name s.0))
      (function_found outer name s.3)

  pub module_found : (env : Env) (name : List ℕ) → HoldsTextsUpTo size env
      → IfSome (visible_module env name) (λ found. SmallModule found.0 × HoldsTextsUpTo size found.1)
  module_found NoScope name s = tt
  module_found (InnerScope vs fs ms call outer) name s =
      or_some (λ found. SmallModule found.0 × HoldsTextsUpTo size found.1)
      (with_defining_scope (InnerScope vs fs ms call outer) (find_in ms name)) (visible_module outer name)
      (standing SmallModule (InnerScope vs fs ms call outer) (find_in ms name) s (find_some SmallModule ms name s.1))
      (module_found outer name s.3)

  outer_call : (call outer : Activation) → CallHoldsTextsUpTo size call → CallHoldsTextsUpTo size outer
      → CallHoldsTextsUpTo size (or_outer_activation call outer)
  outer_call no_activation outer h g = g
  outer_call (activation children caller) outer h g = h

  pub call_found : (env : Env) → HoldsTextsUpTo size env → CallHoldsTextsUpTo size (activation_in env)
  call_found NoScope s = tt
  call_found (InnerScope vs fs ms call outer) s = outer_call call (activation_in outer) s.2 (call_found outer s.3)

  pub variable_held : (name : List ℕ) (value : Val) (env : Env) → HoldsTextsUpTo size env → HoldsTextsUpTo size (with_value name value env)
  variable_held name value NoScope s = tt
  variable_held name value (InnerScope vs fs ms call outer) s = s

  -- the definitions of statements
  mutual
    pub functions_small : (ss : StatementTerms) → size_of_statements ss ≤ size
        → AllByRecursion (λ p. SmallFunction p.1) (functions_standing_in ss)
    functions_small no_statements h = tt
    functions_small (and_statement s rest) h = every_joined (λ p. SmallFunction p.1) (functions_standing_in rest)
        (function_in_statement s)
        (functions_small rest (omega arith)) (function_small s (omega arith))

    function_small : (s : StatementTerm) → size_of_statement s ≤ size
        → AllByRecursion (λ p. SmallFunction p.1) (function_in_statement s)
    function_small (EmptyStatement at) h = tt
    function_small (BlockStatement at statements) h = functions_small statements h
    function_small (AssignmentTerm at name value) h = tt
    function_small (SpecialAssignmentTerm at name value) h = tt
    function_small (ModuleTerm at name name_at params body) h = tt
    function_small (FunctionTerm at name name_at params value) h = (h, tt)
    function_small (InstanceStatement instance) h = tt

  mutual
    pub modules_small : (ss : StatementTerms) → size_of_statements ss ≤ size
        → AllByRecursion (λ p. SmallModule p.1) (modules_standing_in ss)
    modules_small no_statements h = tt
    modules_small (and_statement s rest) h = every_joined (λ p. SmallModule p.1) (modules_standing_in rest) (module_in_statement s)
        (modules_small rest (omega arith)) (module_small s (omega arith))

    module_small : (s : StatementTerm) → size_of_statement s ≤ size → AllByRecursion (λ p. SmallModule p.1) (module_in_statement s)
    module_small (EmptyStatement at) h = tt
    module_small (BlockStatement at statements) h = modules_small statements h
    module_small (AssignmentTerm at name value) h = tt
    module_small (SpecialAssignmentTerm at name value) h = tt
    module_small (ModuleTerm at name name_at params body) h = (h, tt)
    module_small (FunctionTerm at name name_at params value) h = tt
    module_small (InstanceStatement instance) h = tt

  pub entered_small : (ss : StatementTerms) (call : Activation) (outer : Env) → size_of_statements ss ≤ size
      → CallHoldsTextsUpTo size call → HoldsTextsUpTo size outer
      → HoldsTextsUpTo size (entered_scope ss call outer)
  entered_small ss call outer h c o = (functions_small ss h, modules_small ss h, c, o)

-- the statements of a body are as large as the body
pub body_size : (body : BodyTerm) → size_of_statements (statements_of_body body) ≤ size_of_body body
body_size (EmptyBody at) = omega arith
body_size (BlockBody at inner) = omega arith
body_size (InstanceBody instance) = omega arith
