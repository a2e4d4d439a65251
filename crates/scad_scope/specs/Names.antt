-- Scopes as lists of pairs of a name and what it stands for, searched from the newest.
use Rattle.std.specs.Prelude.{ℕ, zero, suc, ◌-◌, ◌^◌, pos, List, [], ◌∷◌, ◌++◌, length, Option, Some, None, slice_index_or, if◌then◌else◌, nat_lt, codes}
use Rattle.scad_value.specs.Values.{Val, NumberVal}
pub use Rattle.scad_definitions.specs.Newest.{Pairs, find_in, oldest_pairs}

-- a scope in the table of scopes: its pairs, and the number of the scope outside it
pub record ScopeRow : Type 0 where
  pub variables : Pairs Val
  pub functions : Pairs ℕ
  pub modules : Pairs ℕ
  pub outer : ℕ
  -- of the scope of a call of a module of the source: the number of the block of the call's children, and the number
  -- of the caller's scope
  pub call : Option (ℕ × ℕ)

-- a scope with its number, the activation whose scope it is, and the scopes outside it
mutual
  pub data NumberedEnv : Type 0 where
    NoNumberedScope : NumberedEnv
    NumberedScope : (number : ℕ) → (row : ScopeRow) → (call : NumberedActivation)
        → (outer : NumberedEnv) → NumberedEnv

  -- the activation of a call of a module of the source: the number of the block of its children, and the scope of its
  -- caller; or none
  pub data NumberedActivation : Type 0 where
    no_numbered_activation : NumberedActivation
    numbered_activation : (children : ℕ) → (caller : NumberedEnv) → NumberedActivation

-- an activation by numbers, where the number of the caller's scope is below a given one
abbrev pub activation_from : (ℕ → NumberedEnv) → ℕ → Option (ℕ × ℕ) → NumberedActivation
activation_from scope count None = no_numbered_activation
activation_from scope count (Some call) =
    if nat_lt call.1 count then numbered_activation call.0 (scope call.1)
    else no_numbered_activation

-- a row behind these scopes, inside one of them or inside none
abbrev pub env_of_row : List NumberedEnv → ScopeRow → NumberedEnv
env_of_row before row =
    NumberedScope (length before) row (activation_from (λ number.
    slice_index_or before number NoNumberedScope) (length before) row.call)
    (slice_index_or before row.outer NoNumberedScope)

-- each scope of a table
abbrev pub envs_from : List NumberedEnv → List ScopeRow → List NumberedEnv
envs_from before [] = before
envs_from before (row ∷ rows) = envs_from (before ++ env_of_row before row ∷ []) rows

-- the scope of a number
unfoldable pub env_of : List ScopeRow → ℕ → NumberedEnv
env_of rows number = slice_index_or (envs_from [] rows) number NoNumberedScope

-- an activation, or where there is none the one outside it
abbrev pub or_outer_numbered : NumberedActivation → NumberedActivation → NumberedActivation
or_outer_numbered no_numbered_activation outer = outer
or_outer_numbered (numbered_activation children caller) outer = numbered_activation children caller

-- The activation that encloses a scope: the innermost one whose scope it is or stands in (OpenSCAD User Manual, "Children").
abbrev pub enclosing_activation : NumberedEnv → NumberedActivation
enclosing_activation NoNumberedScope = no_numbered_activation
enclosing_activation (NumberedScope number row call outer) =
    or_outer_numbered call (enclosing_activation outer)

-- what was found, or else what is found further out
abbrev pub or_found_outside : {A : Type 0} → Option A → Option A → Option A
or_found_outside (Some x) other = Some x
or_found_outside None other = other

-- a variable, from the inner scope outward
abbrev pub variable_in : NumberedEnv → List ℕ → Option Val
variable_in NoNumberedScope name = None
variable_in (NumberedScope number row call outer) name =
    or_found_outside (find_in row.variables name) (variable_in outer name)

-- a definition that was found, with the scope that it stands in
abbrev pub with_numbered_scope : NumberedEnv → Option ℕ → Option (NumberedEnv × ℕ)
with_numbered_scope env (Some definition) = Some (env, definition)
with_numbered_scope env None = None

-- a function with the scope that it stands in, from the inner scope outward
abbrev pub function_in : NumberedEnv → List ℕ → Option (NumberedEnv × ℕ)
function_in NoNumberedScope name = None
function_in (NumberedScope number row call outer) name =
    or_found_outside (with_numbered_scope (NumberedScope number row call outer) (find_in row.functions name))
    (function_in outer name)

-- a module with the scope that it stands in, from the inner scope outward
abbrev pub module_in : NumberedEnv → List ℕ → Option (NumberedEnv × ℕ)
module_in NoNumberedScope name = None
module_in (NumberedScope number row call outer) name =
    or_found_outside (with_numbered_scope (NumberedScope number row call outer) (find_in row.modules name))
    (module_in outer name)

-- the number that stands for no scope outside
abbrev pub nothing_outside : ℕ
nothing_outside = 2 ^ 32 - 1

-- the outermost scope of a table
abbrev pub first_row : ScopeRow
first_row = record {
  variables = [];
  functions = [];
  modules = [];
  outer = nothing_outside;
  call = None;
}

-- a scope without variables and definitions, inside another one
abbrev pub empty_row : ℕ → ScopeRow
empty_row outer =
    record { variables = []; functions = []; modules = []; outer = outer; call = None }

-- the scope of a call, by the block of its children and the scope of its caller
abbrev pub activation_row : ℕ → ℕ → ScopeRow → ScopeRow
activation_row children caller row = record row { call = Some (children, caller) }

-- a scope with one more variable
abbrev pub with_variable : List ℕ → Val → ScopeRow → ScopeRow
with_variable name value row = record row { variables = (name, value) ∷ row.variables }

-- a table with one more variable in a scope
abbrev pub rows_with_variable : List ScopeRow → ℕ → List ℕ → Val → List ScopeRow
rows_with_variable [] number name value = []
rows_with_variable (row ∷ rows) zero name value = with_variable name value row ∷ rows
rows_with_variable (row ∷ rows) (suc number) name value = row ∷ rows_with_variable rows number name value

-- a scope with one more variable, inside the same scopes
abbrev pub with_pair : List ℕ → Val → NumberedEnv → NumberedEnv
with_pair name value NoNumberedScope = NoNumberedScope
with_pair name value (NumberedScope number row call outer) =
    NumberedScope number (with_variable name value row) call outer

-- the dynamic bindings with which a program begins: `$fn`, `$fa` and `$fs` without the `$`, each with its value, the newest
-- first (OpenSCAD User Manual, "Special variables")
abbrev pub first_bindings : Pairs Val
first_bindings = (codes "fs", NumberVal (pos 2)) ∷ (codes "fa", NumberVal (pos 12))
    ∷ (codes "fn", NumberVal (pos 0)) ∷ []
