-- Places among given ones: those of texts, of scopes, of what stands in statements, and of the faults of outcomes.
use Rattle.std.proofs.Common.{ℕ, zero, suc, ◌+◌, Bool, true, false, nat_lt, List, [], ◌∷◌, ◌++◌, Option, Some, None, Ok, Err, if◌then◌else◌}
use Rattle.std.specs.Prelude.{All, IfSome, flat_map}
use Rattle.std.specs.List.{AllByRecursion}
use Rattle.std.specs.Str.{bytes_eq}
use Rattle.std.proofs.lemmas.List.Elements.{All-nil, All-cons, All-append, All-filter}
use Rattle.plain_text.specs.declared.place.Place.{Place}
use Rattle.text_place.specs.declared.fault.FaultKind.{FaultKind}
use Rattle.text_place.specs.declared.fault.FaultKind.TheVariants.{TooManyTurns}
use Rattle.scad_ast.specs.Terms.{StatementTerm, EmptyStatement, BlockStatement, AssignmentTerm, SpecialAssignmentTerm, ModuleTerm, FunctionTerm, InstanceStatement, StatementTerms, no_statements, and_statement, InstanceTerm, BodyTerm, EmptyBody, BlockBody, InstanceBody}
use Rattle.scad_ast.specs.Places.{places_of_term, places_of_param, places_of_statement, places_of_statements, places_of_instance, places_of_body}
use Rattle.scad_value.specs.Values.{Val}
use Rattle.scad_value.specs.Operators.{AnswerOrFault}
use Rattle.scad_scope.specs.Names.{Pairs, find_in, or_found_outside}
use Rattle.scad_definitions.specs.Blocks.{SourceFunction, SourceModule, SourceAssignment, same_assigned_name, with_assigned, assignments_with_all, assignments_in, assignments_by, assignments_of, statements_of_body}
use Rattle.scad_func.specs.Limits.{most_turns}
use Rattle.scad_func.specs.Meaning.{Outcome, Gives, Faults, then_with, or_fault, outcome_of_answer, Env, NoScope, InnerScope, Activation, no_activation, activation, with_defining_scope, visible_function, visible_module, or_outer_activation, activation_in, functions_standing_in, function_in_statement, modules_standing_in, module_in_statement, entered_scope, with_value, turn, one_call_fewer}
use Rattle.scad_meaning.specs.Bodies.{instances_in, instances_of, is_switched_on, evaluated_instances}

-- lists
pub every_joined : {A : Type 0} (Q : A → Type 0) (xs ys : List A) → AllByRecursion Q xs → AllByRecursion Q ys → AllByRecursion Q (xs ++ ys)
every_joined Q [] ys h g = g
every_joined Q (x ∷ xs) ys h g = (h.0, every_joined Q xs ys h.1 g)

pub if_keeps : {A : Type 0} (Q : A → Type 0) (b : Bool) (x y : A) → Q x → Q y → Q (if b then x else y)
if_keeps Q true x y h g = h
if_keeps Q false x y h g = g

pub or_keeps : {A : Type 0} (Q : A → Type 0) (o other : Option A) → IfSome o Q → IfSome other Q → IfSome (or_found_outside o other) Q
or_keeps Q (Some x) other h g = h
or_keeps Q None other h g = g

find_keeps : {A : Type 0} (Q : A → Type 0) (pairs : Pairs A) (name : List ℕ) → AllByRecursion (λ p. Q p.1) pairs → IfSome (find_in pairs name) Q
find_keeps Q [] name h = tt
find_keeps Q (p ∷ ps) name h = if_keeps (λ o. IfSome o Q) (bytes_eq p.0 name) (Some p.1) (find_in ps name) h.0 (find_keeps Q ps name h.1)

-- of a value nothing is said
abbrev pub Whatever : {A : Type 0} → A → Type 0
Whatever x = Unit {0}

module _ (P : Place → Type 0) where
  abbrev pub Held : List Place → Type 0
  Held places = AllByRecursion P places

  pub first_held : (xs ys : List Place) → Held (xs ++ ys) → Held xs
  first_held [] ys h = tt
  first_held (x ∷ xs) ys h = (h.0, first_held xs ys h.1)

  pub rest_held : (xs ys : List Place) → Held (xs ++ ys) → Held ys
  rest_held [] ys h = h
  rest_held (x ∷ xs) ys h = rest_held xs ys h.1

  -- definitions, and scopes with all definitions and calls in them
  abbrev pub FunctionHeld : SourceFunction → Type 0
  FunctionHeld f = Held (flat_map places_of_param f.params) × Held (places_of_term f.value)

  abbrev pub ModuleHeld : SourceModule → Type 0
  ModuleHeld m = Held (flat_map places_of_param m.params) × Held (places_of_body m.body)

  abbrev mutual
    pub ScopeHeld : Env → Type 0
    ScopeHeld NoScope = Unit {0}
    ScopeHeld (InnerScope variables functions modules call outer) =
        AllByRecursion (λ p. FunctionHeld p.1) functions × AllByRecursion (λ p. ModuleHeld p.1) modules × CallHeld call × ScopeHeld outer

    pub CallHeld : Activation → Type 0
    CallHeld no_activation = Unit {0}
    CallHeld (activation children caller) = Held (places_of_statements children) × ScopeHeld caller

  -- what is found in a scope
  standing_held : {A : Type 0} (Q : A → Type 0) (env : Env) (o : Option A) → ScopeHeld env → IfSome o Q
      → IfSome (with_defining_scope env o) (λ found. Q found.0 × ScopeHeld found.1)
  standing_held Q env None s h = tt
  standing_held Q env (Some x) s h = (h, s)

  pub function_found : (env : Env) (name : List ℕ) → ScopeHeld env → IfSome (visible_function env name) (λ found. FunctionHeld found.0 × ScopeHeld found.1)
  function_found NoScope name s = tt
  function_found (InnerScope vs fs ms call outer) name s =
      or_keeps (λ found. FunctionHeld found.0 × ScopeHeld found.1) (with_defining_scope (InnerScope vs fs ms call outer) (find_in fs name)) (visible_function outer name)
      (standing_held FunctionHeld (InnerScope vs fs ms call outer) (find_in fs name) s (find_keeps FunctionHeld fs name s.0))
      (function_found outer name s.3)

  pub module_found : (env : Env) (name : List ℕ) → ScopeHeld env → IfSome (visible_module env name) (λ found. ModuleHeld found.0 × ScopeHeld found.1)
  module_found NoScope name s = tt
  module_found (InnerScope vs fs ms call outer) name s =
      or_keeps (λ found. ModuleHeld found.0 × ScopeHeld found.1) (with_defining_scope (InnerScope vs fs ms call outer) (find_in ms name)) (visible_module outer name)
      (standing_held ModuleHeld (InnerScope vs fs ms call outer) (find_in ms name) s (find_keeps ModuleHeld ms name s.1))
      (module_found outer name s.3)

  outer_call : (call outer : Activation) → CallHeld call → CallHeld outer → CallHeld (or_outer_activation call outer)
  outer_call no_activation outer h g = g
  outer_call (activation children caller) outer h g = h

  pub call_found : (env : Env) → ScopeHeld env → CallHeld (activation_in env)
  call_found NoScope s = tt
  call_found (InnerScope vs fs ms call outer) s = outer_call call (activation_in outer) s.2 (call_found outer s.3)

  pub variable_held : (name : List ℕ) (value : Val) (env : Env) → ScopeHeld env → ScopeHeld (with_value name value env)
  variable_held name value NoScope s = tt
  variable_held name value (InnerScope vs fs ms call outer) s = s

  -- the definitions of statements
  mutual
    pub functions_held : (ss : StatementTerms) → Held (places_of_statements ss) → AllByRecursion (λ p. FunctionHeld p.1) (functions_standing_in ss)
    functions_held no_statements h = tt
    functions_held (and_statement s rest) h = every_joined (λ p. FunctionHeld p.1) (functions_standing_in rest) (function_in_statement s)
        (functions_held rest (rest_held (places_of_statement s) (places_of_statements rest) h))
        (function_held s (first_held (places_of_statement s) (places_of_statements rest) h))

    function_held : (s : StatementTerm) → Held (places_of_statement s) → AllByRecursion (λ p. FunctionHeld p.1) (function_in_statement s)
    function_held (EmptyStatement at) h = tt
    function_held (BlockStatement at statements) h = functions_held statements h.1
    function_held (AssignmentTerm at name value) h = tt
    function_held (SpecialAssignmentTerm at name value) h = tt
    function_held (ModuleTerm at name name_at params body) h = tt
    function_held (FunctionTerm at name name_at params value) h = (
      (
        first_held (flat_map places_of_param params) (places_of_term value) h.1.1,
        rest_held (flat_map places_of_param params) (places_of_term value) h.1.1,
      ),
      tt,
    )
    function_held (InstanceStatement instance) h = tt

  mutual
    pub modules_held : (ss : StatementTerms) → Held (places_of_statements ss) → AllByRecursion (λ p. ModuleHeld p.1) (modules_standing_in ss)
    modules_held no_statements h = tt
    modules_held (and_statement s rest) h = every_joined (λ p. ModuleHeld p.1) (modules_standing_in rest) (module_in_statement s)
        (modules_held rest (rest_held (places_of_statement s) (places_of_statements rest) h))
        (module_held s (first_held (places_of_statement s) (places_of_statements rest) h))

    module_held : (s : StatementTerm) → Held (places_of_statement s) → AllByRecursion (λ p. ModuleHeld p.1) (module_in_statement s)
    module_held (EmptyStatement at) h = tt
    module_held (BlockStatement at statements) h = modules_held statements h.1
    module_held (AssignmentTerm at name value) h = tt
    module_held (SpecialAssignmentTerm at name value) h = tt
    module_held (ModuleTerm at name name_at params body) h = (
      (
        first_held (flat_map places_of_param params) (places_of_body body) h.1.1,
        rest_held (flat_map places_of_param params) (places_of_body body) h.1.1,
      ),
      tt,
    )
    module_held (FunctionTerm at name name_at params value) h = tt
    module_held (InstanceStatement instance) h = tt

  pub entered_held : (ss : StatementTerms) (call : Activation) (outer : Env) → Held (places_of_statements ss) → CallHeld call → ScopeHeld outer
      → ScopeHeld (entered_scope ss call outer)
  entered_held ss call outer h c o = (functions_held ss h, modules_held ss h, c, o)

  pub body_held : (body : BodyTerm) → Held (places_of_body body) → Held (places_of_statements (statements_of_body body))
  body_held (EmptyBody at) h = tt
  body_held (BlockBody at inner) h = h.1
  body_held (InstanceBody instance) h = every_joined P (places_of_instance instance) [] h tt

  -- the assignments of statements
  abbrev pub AssignedHeld : SourceAssignment → Type 0
  AssignedHeld a = P a.at × Held (places_of_term a.value)

  mutual
    assigned_held : (ss : StatementTerms) → Held (places_of_statements ss) → AllByRecursion AssignedHeld (assignments_in ss)
    assigned_held no_statements h = tt
    assigned_held (and_statement s rest) h = every_joined AssignedHeld (assignments_by s) (assignments_in rest)
        (assignment_held s (first_held (places_of_statement s) (places_of_statements rest) h))
        (assigned_held rest (rest_held (places_of_statement s) (places_of_statements rest) h))

    assignment_held : (s : StatementTerm) → Held (places_of_statement s) → AllByRecursion AssignedHeld (assignments_by s)
    assignment_held (EmptyStatement at) h = tt
    assignment_held (BlockStatement at statements) h = assigned_held statements h.1
    assignment_held (AssignmentTerm at name value) h = (h, tt)
    assignment_held (SpecialAssignmentTerm at name value) h = (h, tt)
    assignment_held (ModuleTerm at name name_at params body) h = tt
    assignment_held (FunctionTerm at name name_at params value) h = tt
    assignment_held (InstanceStatement instance) h = tt

  with_held : (before : List SourceAssignment) (a : SourceAssignment) → AllByRecursion AssignedHeld before → AssignedHeld a → AllByRecursion AssignedHeld (with_assigned before a)
  with_held [] a h g = (g, tt)
  with_held (b ∷ bs) a h g =
      if_keeps (AllByRecursion AssignedHeld) (same_assigned_name b a) (record b { value = a.value } ∷ bs) (b ∷ with_assigned bs a)
      ((h.0.0, g.1), h.1) (h.0, with_held bs a h.1 g)

  all_held : (before rest : List SourceAssignment) → AllByRecursion AssignedHeld before → AllByRecursion AssignedHeld rest → AllByRecursion AssignedHeld (assignments_with_all before rest)
  all_held before [] h g = h
  all_held before (a ∷ rest) h g = all_held (with_assigned before a) rest (with_held before a h g.0) g.1

  pub assignments_held : (ss : StatementTerms) → Held (places_of_statements ss) → AllByRecursion AssignedHeld (assignments_of ss)
  assignments_held ss h = all_held [] (assignments_in ss) tt (assigned_held ss h)

  -- the instances of statements
  abbrev pub InstanceHeld : InstanceTerm → Type 0
  InstanceHeld i = Held (places_of_instance i)

  mutual
    instances_held : (ss : StatementTerms) → Held (places_of_statements ss) → All InstanceHeld (instances_in ss)
    instances_held no_statements h = All-nil InstanceHeld
    instances_held (and_statement s rest) h = All-append InstanceHeld (instances_of s) (instances_in rest)
        (instance_held s (first_held (places_of_statement s) (places_of_statements rest) h))
        (instances_held rest (rest_held (places_of_statement s) (places_of_statements rest) h))

    instance_held : (s : StatementTerm) → Held (places_of_statement s) → All InstanceHeld (instances_of s)
    instance_held (EmptyStatement at) h = All-nil InstanceHeld
    instance_held (BlockStatement at statements) h = instances_held statements h.1
    instance_held (AssignmentTerm at name value) h = All-nil InstanceHeld
    instance_held (SpecialAssignmentTerm at name value) h = All-nil InstanceHeld
    instance_held (ModuleTerm at name name_at params body) h = All-nil InstanceHeld
    instance_held (FunctionTerm at name name_at params value) h = All-nil InstanceHeld
    instance_held (InstanceStatement instance) h = All-cons InstanceHeld instance [] h (All-nil InstanceHeld)

  pub evaluated_held : (ss : StatementTerms) → Held (places_of_statements ss) → All InstanceHeld (evaluated_instances ss)
  evaluated_held ss h = All-filter is_switched_on InstanceHeld (instances_in ss) (instances_held ss h)

  -- what holds of that which an outcome gives, where its fault stands at a place among the given ones
  abbrev pub Keeps : {A : Type 0} → (A → Type 0) → Outcome A → Type 0
  Keeps Q (Gives turns x) = Q x
  Keeps Q (Faults kind at) = P at

  pub then_keeps : {A B : Type 0} (R : A → Type 0) (Q : B → Type 0) (out : Outcome A) (go : ℕ → A → Outcome B)
      → Keeps R out → ((turns : ℕ) (x : A) → R x → Keeps Q (go turns x)) → Keeps Q (then_with out go)
  then_keeps R Q (Gives turns x) go h g = g turns x h
  then_keeps R Q (Faults kind at) go h g = h

  pub skip_keeps : {A B : Type 0} (Q : B → Type 0) (out : Outcome A) (go : ℕ → A → Outcome B)
      → Keeps Whatever out → ((turns : ℕ) (x : A) → Keeps Q (go turns x)) → Keeps Q (then_with out go)
  skip_keeps Q (Gives turns x) go h g = g turns x
  skip_keeps Q (Faults kind at) go h g = h

  pub option_keeps : {A B : Type 0} (R : A → Type 0) (Q : B → Type 0) (o : Option A) (kind : FaultKind) (at : Place) (go : A → Outcome B)
      → P at → IfSome o R → ((x : A) → R x → Keeps Q (go x)) → Keeps Q (or_fault o kind at go)
  option_keeps R Q None kind at go p h g = p
  option_keeps R Q (Some x) kind at go p h g = g x h

  pub some_keeps : {A B : Type 0} (Q : B → Type 0) (o : Option A) (kind : FaultKind) (at : Place) (go : A → Outcome B)
      → P at → ((x : A) → Keeps Q (go x)) → Keeps Q (or_fault o kind at go)
  some_keeps Q None kind at go p g = p
  some_keeps Q (Some x) kind at go p g = g x

  pub turn_keeps : {A : Type 0} (Q : A → Type 0) (at : Place) (turns : ℕ) (go : ℕ → Outcome A)
      → P at → ((n : ℕ) → Keeps Q (go n)) → Keeps Q (turn at turns go)
  turn_keeps Q at turns go p g = if_keeps (Keeps Q) (nat_lt turns most_turns) (go (turns + 1)) (Faults TooManyTurns at) (g (turns + 1)) p

  pub call_keeps : {A : Type 0} (Q : A → Type 0) (calls : ℕ) (at : Place) (go : ℕ → Outcome A)
      → P at → ((n : ℕ) → Keeps Q (go n)) → Keeps Q (one_call_fewer calls at go)
  call_keeps Q zero at go p g = p
  call_keeps Q (suc calls) at go p g = g calls

  pub answered_keeps : (answer : AnswerOrFault Val) (at : Place) (turns : ℕ) → P at → Keeps Whatever (outcome_of_answer answer at turns)
  answered_keeps (Ok v) at turns p = tt
  answered_keeps (Err kind) at turns p = p
