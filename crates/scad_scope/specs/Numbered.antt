-- Tables in which each definition's number is below a given one.
use Rattle.std.specs.Prelude.{ℕ, List, [], ◌∷◌, Bool, true, ◌&&◌}
use Rattle.std.specs.Bool.{IsTrue}
use Rattle.scad_definitions.specs.Numbered.{are_numbers_below}
use Rattle.scad_scope.specs.Names.{ScopeRow}

-- each scope of a table passes a test
abbrev pub each_row : (ScopeRow → Bool) → List ScopeRow → Bool
each_row test [] = true
each_row test (row ∷ rows) = test row && each_row test rows

-- the number of each function of a table's scopes is below a given one
abbrev pub functions_below : ℕ → List ScopeRow → Bool
functions_below n = each_row (λ row. are_numbers_below n row.functions)

-- the number of each module of a table's scopes is below a given one
abbrev pub modules_below : ℕ → List ScopeRow → Bool
modules_below n = each_row (λ row. are_numbers_below n row.modules)

-- after a change the number of each function and module of a table's scopes is below a given one, where it was so before
pub record StaysBelow (count_of_functions count_of_modules : ℕ)
    (before after : List ScopeRow) : Type 0 where
  pub functions : IsTrue (functions_below count_of_functions before)
      → IsTrue (functions_below count_of_functions after)
  pub modules : IsTrue (modules_below count_of_modules before)
      → IsTrue (modules_below count_of_modules after)

-- numbers of functions and of modules that were below any count still are
pub record StaysNumbered (before after : List ScopeRow) : Type 0 where
  pub functions : (n : ℕ) → IsTrue (functions_below n before) → IsTrue (functions_below n after)
  pub modules : (n : ℕ) → IsTrue (modules_below n before) → IsTrue (modules_below n after)
