-- What the table of scopes in memory stands for.
use Rattle.std.specs.Prelude.{◌≡◌, ℕ, List, ◌++◌, map, reverse, Option, Some, None, option_map}
use Rattle.std.specs.Borrow.{Bor}
use Rattle.scad_value.specs.declared.bounded_value.BoundedValue.{BoundedValue}
use Rattle.scad_value.specs.Values.{Val}
use Rattle.scad_value.specs.View.{val_of}
use Rattle.scad_definitions.specs.declared.list.NameList.{NameList}
use Rattle.scad_definitions.specs.declared.text.Definitions.{Definitions}
use Rattle.scad_definitions.specs.Names.{newest_first}
use Rattle.scad_definitions.specs.TextView.{functions_in, modules_in}
use Rattle.scad_scope.specs.declared.table.ModuleActivation.{ModuleActivation}
use Rattle.scad_scope.specs.declared.table.Scope.{Scope}
use Rattle.scad_scope.specs.declared.table.NameSpace.{NameSpace}
use Rattle.scad_scope.specs.declared.table.NameSpace.TheVariants.{Functions, Modules}
use Rattle.scad_scope.specs.Known.{names_known, with_names}
use Rattle.scad_scope.specs.declared.variables.Variables.{Variables}
use Rattle.scad_scope.specs.Names.{Pairs, ScopeRow, NumberedEnv, function_in, module_in}

-- variables by what their values are
abbrev pub variable_seen : List ℕ × BoundedValue → List ℕ × Val
variable_seen variable = (variable.0, val_of variable.1.value)

-- variables by name, as the dynamic bindings are, the newest first
abbrev pub variables_of : NameList BoundedValue → Pairs Val
variables_of names = map variable_seen (newest_first names)

-- the names in the order in which a scope is expected to bind them
abbrev pub names_in_table : Variables → List (List ℕ)
names_in_table variables = names_known (option_map (λ shared. shared.value) variables.table)

-- the variables of a scope, the newest first
abbrev pub variables_bound : Variables → Pairs Val
variables_bound variables = variables_of variables.later
    ++ (reverse (with_names variables.values.items (names_in_table variables))
    ++ variables_of variables.earlier)

-- the number of the block of a call's children, and that of its caller's scope
abbrev pub activation_seen : Option ModuleActivation → Option (ℕ × ℕ)
activation_seen None = None
activation_seen (Some call) = Some (call.children, call.caller)

-- a scope as its pairs and numbers
abbrev pub row_of_scope : Scope → ScopeRow
row_of_scope scope = record {
  variables = variables_bound scope.variables;
  functions = reverse (functions_in (option_map (λ shared. shared.value) scope.definitions));
  modules = reverse (modules_in (option_map (λ shared. shared.value) scope.definitions));
  outer = scope.outer;
  call = activation_seen scope.call;
}

-- the scopes of a table in order
abbrev pub rows_in : List Scope → List ScopeRow
rows_in scopes = map row_of_scope scopes

-- the functions or the modules of a block, the newest first
abbrev pub newest_defined : NameSpace → Definitions → Pairs ℕ
newest_defined Functions definitions = newest_first definitions.functions
newest_defined Modules definitions = newest_first definitions.modules

-- the functions or the modules of a scope
abbrev pub pairs_of : NameSpace → ScopeRow → Pairs ℕ
pairs_of Functions row = row.functions
pairs_of Modules row = row.modules

-- a function or a module with the scope that it stands in, from the inner scope outward
abbrev pub definition_in : NameSpace → NumberedEnv → List ℕ → Option (NumberedEnv × ℕ)
definition_in Functions env name = function_in env name
definition_in Modules env name = module_in env name

-- the value that was found, if there is one
abbrev pub IsValueFound : Option Val → Option (Bor BoundedValue) → Type 0
IsValueFound wanted (Some found) = wanted ≡ Some (val_of found.now.value)
IsValueFound wanted None = wanted ≡ None
