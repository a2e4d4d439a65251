-- The places that a text holds, in its order.
use Rattle.std.specs.Prelude.{List, [], ◌∷◌, ◌++◌, flat_map, Contains}
use Rattle.plain_text.specs.declared.place.Place.{Place}
use Rattle.scad_ast.specs.Terms.{Term, NumberTerm, TextTerm, TruthTerm, UndefTerm, ChildCountTerm, SpecialTerm, NameTerm, CallTerm, ParenTerm, ListTerm, RangeTerm, SteppedRangeTerm, PostfixTerm, UnaryTerm, ChainTerm, ChoiceTerm, Terms, no_terms, and_term, ArgTerms, no_args, and_named, and_special, and_positional, SuffixTerms, no_suffixes, and_index, and_member, LinkTerms, no_links, and_link, ParamTerm, PlainTerm, DefaultTerm, BinderTerm, ModifierTerm, StatementTerm, EmptyStatement, BlockStatement, AssignmentTerm, SpecialAssignmentTerm, ModuleTerm, FunctionTerm, InstanceStatement, StatementTerms, no_statements, and_statement, InstanceTerm, AnInstance, CoreTerm, IfTerm, IfElseTerm, ForTerm, IntersectionForTerm, ModuleCallTerm, BodyTerm, EmptyBody, BlockBody, InstanceBody, args_from, statements_from}

-- those of an expression: of its first token and of that of each expression in it, of named arguments and members, and
-- of operators, `?`, `.` and the `[` of indices, but not of the brackets of calls' arguments
abbrev mutual
  pub places_of_term : Term → List Place
  places_of_term (NumberTerm at n) = at ∷ []
  places_of_term (TextTerm at bytes) = at ∷ []
  places_of_term (TruthTerm at truth) = at ∷ []
  places_of_term (UndefTerm at) = at ∷ []
  places_of_term (ChildCountTerm at) = at ∷ []
  places_of_term (SpecialTerm at name) = at ∷ []
  places_of_term (NameTerm at name) = at ∷ []
  places_of_term (CallTerm at name args) = at ∷ places_of_args args
  places_of_term (ParenTerm at inner) = at ∷ places_of_term inner
  places_of_term (ListTerm at items) = at ∷ places_of_terms items
  places_of_term (RangeTerm at from to) = at ∷ places_of_term from ++ places_of_term to
  places_of_term (SteppedRangeTerm at from step to) = at ∷ places_of_term from ++ places_of_term step ++ places_of_term to
  places_of_term (PostfixTerm at of rest) = at ∷ places_of_term of ++ places_of_suffixes rest
  places_of_term (UnaryTerm at op of) = at ∷ places_of_term of
  places_of_term (ChainTerm at first rest) = at ∷ places_of_term first ++ places_of_links rest
  places_of_term (ChoiceTerm at test mark one other) =
      at ∷ places_of_term test ++ mark ∷ places_of_term one ++ places_of_term other

  pub places_of_terms : Terms → List Place
  places_of_terms no_terms = []
  places_of_terms (and_term first rest) = places_of_term first ++ places_of_terms rest

  pub places_of_args : ArgTerms → List Place
  places_of_args no_args = []
  places_of_args (and_named at name value rest) = at ∷ places_of_term value ++ places_of_args rest
  places_of_args (and_special at name value rest) = at ∷ places_of_term value ++ places_of_args rest
  places_of_args (and_positional value rest) = places_of_term value ++ places_of_args rest

  pub places_of_suffixes : SuffixTerms → List Place
  places_of_suffixes no_suffixes = []
  places_of_suffixes (and_index at index rest) = at ∷ places_of_term index ++ places_of_suffixes rest
  places_of_suffixes (and_member at name name_at rest) = at ∷ name_at ∷ places_of_suffixes rest

  pub places_of_links : LinkTerms → List Place
  places_of_links no_links = []
  places_of_links (and_link op at right rest) = at ∷ places_of_term right ++ places_of_links rest

-- of a parameter, a variable of a loop and a modifier
abbrev pub places_of_param : ParamTerm → List Place
places_of_param (PlainTerm at name) = at ∷ []
places_of_param (DefaultTerm at name value) = at ∷ places_of_term value

abbrev pub places_of_binder : BinderTerm → List Place
places_of_binder binder = binder.at ∷ places_of_term binder.values

abbrev pub places_of_modifier : ModifierTerm → List Place
places_of_modifier mark = mark.at ∷ []

-- of statements, and of their parts: of each form's first token, of the name of a module and of a function, and of the
-- parameters, loops' variables, modifiers, expressions, statements and bodies in it
abbrev mutual
  pub places_of_statement : StatementTerm → List Place
  places_of_statement (EmptyStatement at) = at ∷ []
  places_of_statement (BlockStatement at statements) = at ∷ places_of_statements statements
  places_of_statement (AssignmentTerm at name value) = at ∷ places_of_term value
  places_of_statement (SpecialAssignmentTerm at name value) = at ∷ places_of_term value
  places_of_statement (ModuleTerm at name name_at params body) =
      at ∷ name_at ∷ flat_map places_of_param params ++ places_of_body body
  places_of_statement (FunctionTerm at name name_at params value) =
      at ∷ name_at ∷ flat_map places_of_param params ++ places_of_term value
  places_of_statement (InstanceStatement instance) = places_of_instance instance

  pub places_of_statements : StatementTerms → List Place
  places_of_statements no_statements = []
  places_of_statements (and_statement first rest) = places_of_statement first ++ places_of_statements rest

  pub places_of_instance : InstanceTerm → List Place
  places_of_instance (AnInstance at modifiers core) = at ∷ flat_map places_of_modifier modifiers ++ places_of_core core

  pub places_of_core : CoreTerm → List Place
  places_of_core (IfTerm at test body) = at ∷ places_of_term test ++ places_of_body body
  places_of_core (IfElseTerm at test body other) =
      at ∷ places_of_term test ++ places_of_body body ++ places_of_body other
  places_of_core (ForTerm at binders body) = at ∷ flat_map places_of_binder binders ++ places_of_body body
  places_of_core (IntersectionForTerm at binders body) = at ∷ flat_map places_of_binder binders ++ places_of_body body
  places_of_core (ModuleCallTerm at name args body) = at ∷ places_of_args (args_from args) ++ places_of_body body

  pub places_of_body : BodyTerm → List Place
  places_of_body (EmptyBody at) = at ∷ []
  places_of_body (BlockBody at statements) = at ∷ places_of_statements statements
  places_of_body (InstanceBody instance) = places_of_instance instance

-- those of a whole program
abbrev pub places_of_program : List StatementTerm → List Place
places_of_program program = places_of_statements (statements_from program)

-- a program holds a place: a form begins there, or a name, an operator, a `?`, a `.` or the `[` of an index stands there
abbrev pub HoldsPlace : List StatementTerm → Place → Type 0
HoldsPlace program at = Contains (places_of_program program) at
