-- The syntax as plain trees, without memory (OpenSCAD User Manual, in the profile of this server).
use Rattle.std.specs.Prelude.{ℕ, Bool, List, [], ◌∷◌}
use Rattle.plain_text.specs.declared.place.Place.{Place}
use Rattle.scad_ast.specs.declared.operator.BinaryOp.{BinaryOp}
use Rattle.scad_ast.specs.declared.operator.UnaryOp.{UnaryOp}
use Rattle.scad_ast.specs.declared.operator.Modifier.{Modifier}

-- an expression; the first place of each form is that of its first token
mutual
  pub data Term : Type 0 where
    NumberTerm : (at : Place) → (n : ℕ) → Term
    TextTerm : (at : Place) → (bytes : List ℕ) → Term
    TruthTerm : (at : Place) → (truth : Bool) → Term
    UndefTerm : (at : Place) → Term
    ChildCountTerm : (at : Place) → Term
    -- a special name other than `$children`, without its `$`
    SpecialTerm : (at : Place) → (name : List ℕ) → Term
    NameTerm : (at : Place) → (name : List ℕ) → Term
    CallTerm : (at : Place) → (name : List ℕ) → (args : ArgTerms) → Term
    ParenTerm : (at : Place) → (inner : Term) → Term
    ListTerm : (at : Place) → (items : Terms) → Term
    RangeTerm : (at : Place) → (from to : Term) → Term
    SteppedRangeTerm : (at : Place) → (from step to : Term) → Term
    PostfixTerm : (at : Place) → (of : Term) → (rest : SuffixTerms) → Term
    UnaryTerm : (at : Place) → (op : UnaryOp) → (of : Term) → Term
    ChainTerm : (at : Place) → (first : Term) → (rest : LinkTerms) → Term
    ChoiceTerm : (at : Place) → (test : Term) → (mark : Place) → (yes no : Term) → Term

  -- expressions in order
  pub data Terms : Type 0 where
    no_terms : Terms
    and_term : (first : Term) → (rest : Terms) → Terms

  -- arguments in order
  pub data ArgTerms : Type 0 where
    no_args : ArgTerms
    and_named : (at : Place) → (name : List ℕ) → (value : Term) → (rest : ArgTerms) → ArgTerms
    and_special : (at : Place) → (name : List ℕ) → (value : Term) → (rest : ArgTerms) → ArgTerms
    and_positional : (value : Term) → (rest : ArgTerms) → ArgTerms

  -- indexes and members behind an expression, in order
  pub data SuffixTerms : Type 0 where
    no_suffixes : SuffixTerms
    and_index : (at : Place) → (index : Term) → (rest : SuffixTerms) → SuffixTerms
    and_member : (at : Place) → (name : List ℕ) → (name_at : Place) → (rest : SuffixTerms) → SuffixTerms

  -- the operators of a chain in order, each with its right side
  pub data LinkTerms : Type 0 where
    no_links : LinkTerms
    and_link : (op : BinaryOp) → (at : Place) → (right : Term) → (rest : LinkTerms) → LinkTerms

-- an operator and its right side
pub record LinkTerm : Type 0 where
  pub op : BinaryOp
  pub at : Place
  pub right : Term

-- an index or a member behind an expression
pub data SuffixTerm : Type 0 where
  IndexTerm : (at : Place) → (index : Term) → SuffixTerm
  MemberTerm : (at : Place) → (name : List ℕ) → (name_at : Place) → SuffixTerm

-- an argument with a name, with a special name, or with none
pub data ArgTerm : Type 0 where
  NamedTerm : (at : Place) → (name : List ℕ) → (value : Term) → ArgTerm
  SpecialArgTerm : (at : Place) → (name : List ℕ) → (value : Term) → ArgTerm
  PositionalTerm : (value : Term) → ArgTerm

-- expressions of a list, as an expression holds them
abbrev pub terms_from : List Term → Terms
terms_from [] = no_terms
terms_from (term ∷ terms) = and_term term (terms_from terms)

-- the operators with their right sides, of a list
abbrev pub links_from : List LinkTerm → LinkTerms
links_from [] = no_links
links_from (link ∷ links) = and_link link.op link.at link.right (links_from links)

-- the suffixes of a list
abbrev pub suffixes_from : List SuffixTerm → SuffixTerms
suffixes_from [] = no_suffixes
suffixes_from (IndexTerm at index ∷ rest) = and_index at index (suffixes_from rest)
suffixes_from (MemberTerm at name name_at ∷ rest) = and_member at name name_at (suffixes_from rest)

-- the arguments of a list
abbrev pub args_from : List ArgTerm → ArgTerms
args_from [] = no_args
args_from (NamedTerm at name value ∷ rest) = and_named at name value (args_from rest)
args_from (SpecialArgTerm at name value ∷ rest) = and_special at name value (args_from rest)
args_from (PositionalTerm value ∷ rest) = and_positional value (args_from rest)

-- the place of the first token
abbrev pub place_of_term : Term → Place
place_of_term (NumberTerm at n) = at
place_of_term (TextTerm at bytes) = at
place_of_term (TruthTerm at truth) = at
place_of_term (UndefTerm at) = at
place_of_term (ChildCountTerm at) = at
place_of_term (SpecialTerm at name) = at
place_of_term (NameTerm at name) = at
place_of_term (CallTerm at name args) = at
place_of_term (ParenTerm at inner) = at
place_of_term (ListTerm at items) = at
place_of_term (RangeTerm at from to) = at
place_of_term (SteppedRangeTerm at from step to) = at
place_of_term (PostfixTerm at of rest) = at
place_of_term (UnaryTerm at op of) = at
place_of_term (ChainTerm at first rest) = at
place_of_term (ChoiceTerm at test mark one other) = at

-- a parameter, without a default or with one
pub data ParamTerm : Type 0 where
  PlainTerm : (at : Place) → (name : List ℕ) → ParamTerm
  DefaultTerm : (at : Place) → (name : List ℕ) → (value : Term) → ParamTerm

-- a variable of a loop, and what it goes over
pub record BinderTerm : Type 0 where
  pub at : Place
  pub name : List ℕ
  pub values : Term

-- a modifier before an instance
pub record ModifierTerm : Type 0 where
  pub at : Place
  pub modifier : Modifier

-- statements; the first place of each form is that of its first token
mutual
  pub data StatementTerm : Type 0 where
    EmptyStatement : (at : Place) → StatementTerm
    BlockStatement : (at : Place) → (statements : StatementTerms) → StatementTerm
    AssignmentTerm : (at : Place) → (name : List ℕ) → (value : Term) → StatementTerm
    SpecialAssignmentTerm : (at : Place) → (name : List ℕ) → (value : Term) → StatementTerm
    ModuleTerm : (at : Place) → (name : List ℕ) → (name_at : Place) → (params : List ParamTerm) → (body : BodyTerm) → StatementTerm
    FunctionTerm : (at : Place) → (name : List ℕ) → (name_at : Place) → (params : List ParamTerm) → (value : Term) → StatementTerm
    InstanceStatement : (instance : InstanceTerm) → StatementTerm

  -- statements in order
  pub data StatementTerms : Type 0 where
    no_statements : StatementTerms
    and_statement : (first : StatementTerm) → (rest : StatementTerms) → StatementTerms

  -- an instance: its modifiers, and what stands behind them
  pub data InstanceTerm : Type 0 where
    AnInstance : (at : Place) → (modifiers : List ModifierTerm) → (core : CoreTerm) → InstanceTerm

  -- an instance without its modifiers: a choice, a loop or a call of a module
  pub data CoreTerm : Type 0 where
    IfTerm : (at : Place) → (test : Term) → (body : BodyTerm) → CoreTerm
    IfElseTerm : (at : Place) → (test : Term) → (body other : BodyTerm) → CoreTerm
    ForTerm : (at : Place) → (binders : List BinderTerm) → (body : BodyTerm) → CoreTerm
    IntersectionForTerm : (at : Place) → (binders : List BinderTerm) → (body : BodyTerm) → CoreTerm
    ModuleCallTerm : (at : Place) → (name : List ℕ) → (args : List ArgTerm) → (body : BodyTerm) → CoreTerm

  -- a body: none, statements in braces, or one instance
  pub data BodyTerm : Type 0 where
    EmptyBody : (at : Place) → BodyTerm
    BlockBody : (at : Place) → (statements : StatementTerms) → BodyTerm
    InstanceBody : (instance : InstanceTerm) → BodyTerm

-- a list of statements, as a block holds it
abbrev pub statements_from : List StatementTerm → StatementTerms
statements_from [] = no_statements
statements_from (statement ∷ statements) = and_statement statement (statements_from statements)

-- the place of an instance: that of its first token, which is its first modifier where it has one
abbrev pub place_of_instance : InstanceTerm → Place
place_of_instance (AnInstance at modifiers core) = at

-- the place of a statement's first token
abbrev pub place_of_statement : StatementTerm → Place
place_of_statement (EmptyStatement at) = at
place_of_statement (BlockStatement at content) = at
place_of_statement (AssignmentTerm at name value) = at
place_of_statement (SpecialAssignmentTerm at name value) = at
place_of_statement (ModuleTerm at name name_at params body) = at
place_of_statement (FunctionTerm at name name_at params value) = at
place_of_statement (InstanceStatement instance) = place_of_instance instance

-- the place of the first token of an instance without its modifiers
abbrev pub place_of_core : CoreTerm → Place
place_of_core (IfTerm at test body) = at
place_of_core (IfElseTerm at test body other) = at
place_of_core (ForTerm at binders body) = at
place_of_core (IntersectionForTerm at binders body) = at
place_of_core (ModuleCallTerm at name args body) = at

-- the place of a body's first token
abbrev pub place_of_body : BodyTerm → Place
place_of_body (EmptyBody at) = at
place_of_body (BlockBody at content) = at
place_of_body (InstanceBody instance) = place_of_instance instance
