-- What the calls of the table of scopes answer.
use Rattle.std.specs.Prelude.{◌≡◌, ℕ, ◌<◌, List, length, Option, Some, None, IsTrue}
use Rattle.plain_text.specs.declared.place.Place.{Place}
use Rattle.text_place.specs.declared.fault.Fault.{Fault}
use Rattle.text_place.specs.declared.fault.FaultKind.{FaultKind}
use Rattle.scad_value.specs.declared.value.Value.{Value}
use Rattle.scad_value.specs.Values.{Val, is_bounded}
use Rattle.scad_value.specs.View.{val_of}
use Rattle.scad_scope.specs.declared.scopes.Scopes.{Scopes}
use Rattle.scad_scope.specs.declared.table.Found.{Found}
use Rattle.scad_scope.specs.declared.table.ModuleActivation.{ModuleActivation}
use Rattle.scad_scope.specs.Names.{Pairs, ScopeRow, NumberedEnv, NumberedActivation, no_numbered_activation, numbered_activation, env_of}
use Rattle.scad_scope.specs.View.{variables_of, rows_in}

-- the scopes by number
abbrev pub rows_of : Scopes → List ScopeRow
rows_of scopes = rows_in scopes.scopes.items

-- the dynamic bindings of special variables, the newest first
abbrev pub bindings_of : Scopes → Pairs Val
bindings_of scopes = variables_of scopes.bindings

-- the number of a scope that is there, and of a definition that stands in it
pub record IsDefinitionFound (rows : List ScopeRow) (wanted : Option (NumberedEnv × ℕ))
    (found : Found) : Type 0 where
  pub there : found.scope < length rows
  pub same : wanted ≡ Some (env_of rows found.scope, found.definition)

-- a fault of this kind at this place, where nothing is found
pub record IsMissing {A : Type 0} (kind : FaultKind) (place : Place) (wanted : Option A)
    (fault : Fault) :
    Type 0 where
  pub none : wanted ≡ None
  pub same_kind : fault.kind ≡ kind
  pub same_place : fault.place ≡ place

-- the value of a variable, which is bounded
pub record IsVariable (wanted : Option Val) (value : Value) : Type 0 where
  pub same : wanted ≡ Some (val_of value)
  pub bounded : IsTrue (is_bounded (val_of value))

-- the call that is answered by numbers, with the scope of its caller
abbrev pub numbered_activation_of : (ℕ → NumberedEnv) → Option ModuleActivation → NumberedActivation
numbered_activation_of scope None = no_numbered_activation
numbered_activation_of scope (Some call) = numbered_activation call.children (scope call.caller)

-- each scope that was there, and each dynamic binding, is as before
pub record KeepsScopes (before after : Scopes) : Type 0 where
  pub scopes : (number : ℕ) → number < length (rows_of before) → env_of (rows_of after) number
      ≡ env_of (rows_of before) number
  pub bindings : bindings_of after ≡ bindings_of before
