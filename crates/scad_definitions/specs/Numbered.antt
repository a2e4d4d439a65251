-- Blocks in which each definition's number is below a given one.
use Rattle.std.specs.Prelude.{ℕ, List, [], ◌∷◌, length, Bool, true, ◌&&◌, nat_lt}
use Rattle.scad_definitions.specs.Newest.{Pairs}
use Rattle.scad_ast.specs.Terms.{StatementTerm}
use Rattle.scad_definitions.specs.Blocks.{SourceBlock, functions_of_program, modules_of_program}

-- each number is below this one
abbrev pub are_numbers_below : ℕ → Pairs ℕ → Bool
are_numbers_below n [] = true
are_numbers_below n (pair ∷ pairs) = nat_lt pair.1 n && are_numbers_below n pairs

-- the numbers of each block's local functions and modules are below these
abbrev pub are_entries_below : ℕ → ℕ → List SourceBlock → Bool
are_entries_below functions modules [] = true
are_entries_below functions modules (entry ∷ entries) =
    (are_numbers_below functions entry.local.functions && are_numbers_below modules entry.local.modules)
    && are_entries_below functions modules entries

-- how many functions a program has
abbrev pub count_of_functions : List StatementTerm → ℕ
count_of_functions program = length (functions_of_program program)

-- how many modules a program has
abbrev pub count_of_modules : List StatementTerm → ℕ
count_of_modules program = length (modules_of_program program)
