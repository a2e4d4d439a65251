-- The numbers of a block's definitions are below the program's counts.
use Rattle.std.proofs.Common.{◌≡◌, ℕ, zero, suc, ◌+◌, ◌≤◌, List, [], ◌∷◌, ◌++◌, length, map, get_or, refl, ap, subst, ◌∙◌, append-nil, arith}
use Rattle.std.specs.Prelude.{IsTrue}
use Rattle.std.proofs.lemmas.Bool.{and_parts, and_from, lt-ltb}
use Rattle.scad_definitions.specs.Newest.{Pairs}
use Rattle.scad_ast.specs.Terms.{StatementTerm, EmptyStatement, BlockStatement, AssignmentTerm, SpecialAssignmentTerm, ModuleTerm, FunctionTerm, InstanceStatement, StatementTerms, no_statements, and_statement, InstanceTerm, AnInstance, CoreTerm, IfTerm, IfElseTerm, ForTerm, IntersectionForTerm, ModuleCallTerm, BodyTerm, EmptyBody, BlockBody, InstanceBody, statements_from}
use Rattle.scad_definitions.specs.declared.blocks.Blocks.{Blocks}
use Rattle.scad_definitions.specs.Blocks.{SourceFunction, SourceModule, Entity, a_block, a_function, a_module, entities_of, entities_in, entities_of_instance, entities_of_core, entities_of_body, entities_of_program, functions_of_program, modules_of_program, count_functions, count_modules, local_functions, local_function, local_modules, local_module, SourceBlock, nothing_there, entries_from}
use Rattle.scad_definitions.specs.Tables.{block_table_in, source_functions_in, source_modules_in}
use Rattle.scad_definitions.specs.TextView.{function_of, module_of}
use Rattle.scad_definitions.specs.Numbered.{are_numbers_below, are_entries_below}

pub functions_joined : (xs ys : List Entity) → count_functions (xs ++ ys) ≡ count_functions xs + count_functions ys
functions_joined [] ys = omega arith
functions_joined (a_block s ∷ xs) ys = functions_joined xs ys
functions_joined (a_function g ∷ xs) ys = omega (arith, functions_joined xs ys)
functions_joined (a_module d ∷ xs) ys = functions_joined xs ys

pub modules_joined : (xs ys : List Entity) → count_modules (xs ++ ys) ≡ count_modules xs + count_modules ys
modules_joined [] ys = omega arith
modules_joined (a_block s ∷ xs) ys = modules_joined xs ys
modules_joined (a_function g ∷ xs) ys = modules_joined xs ys
modules_joined (a_module d ∷ xs) ys = omega (arith, modules_joined xs ys)

pub below_joined : (n : ℕ) (ps qs : Pairs ℕ) → IsTrue (are_numbers_below n ps) → IsTrue (are_numbers_below n qs)
    → IsTrue (are_numbers_below n (ps ++ qs))
below_joined n [] qs h g = g
below_joined n (p ∷ ps) qs h g = let parts = and_parts _ _ h in and_from _ _ parts.0
    (below_joined n ps qs parts.1 g)

-- what stands in a text and in no inner block is counted in it
abbrev Fit : ℕ → ℕ → ℕ → ℕ → List Entity → Pairs ℕ → Pairs ℕ → Type 0
Fit f m n k xs fs ms = f + count_functions xs ≤ n → m + count_modules xs ≤ k
    → IsTrue (are_numbers_below n fs) × IsTrue (are_numbers_below k ms)

mutual
  own_fit : (f m n k : ℕ) (s : StatementTerm) → Fit f m n k (entities_of s) (local_function f s) (local_module m s)
  own_fit f m n k (EmptyStatement at) p q = (refl, refl)
  own_fit f m n k (BlockStatement at statements) p q = all_fit f m n k statements p q
  own_fit f m n k (AssignmentTerm at name value) p q = (refl, refl)
  own_fit f m n k (SpecialAssignmentTerm at name value) p q = (refl, refl)
  own_fit f m n k (ModuleTerm at name name_at params body) p q =
      (refl, and_from _ _ (lt-ltb m k (omega (arith, q))) refl)
  own_fit f m n k (FunctionTerm at name name_at params value) p q =
      (and_from _ _ (lt-ltb f n (omega (arith, p))) refl, refl)
  own_fit f m n k (InstanceStatement instance) p q = (refl, refl)

  all_fit : (f m n k : ℕ) (ss : StatementTerms)
      → Fit f m n k (entities_in ss) (local_functions f ss) (local_modules m ss)
  all_fit f m n k no_statements p q = (refl, refl)
  all_fit f m n k (and_statement s rest) p q =
      let fs = functions_joined (entities_of s) (entities_in rest) in
      let ms = modules_joined (entities_of s) (entities_in rest) in
      let here = own_fit f m n k s (omega (arith, p, fs)) (omega (arith, q, ms)) in
      let block_end = all_fit (f + count_functions (entities_of s)) (m + count_modules (entities_of s)) n k rest
      (omega (arith, p, fs)) (omega (arith, q, ms)) in
      (below_joined n _ _ here.0 block_end.0, below_joined k _ _ here.1 block_end.1)

-- a text whose blocks have no function and no module beyond these counts
abbrev IsText : List Entity → Type 0
IsText xs = (b f m n k : ℕ) → f + count_functions xs ≤ n → m + count_modules xs ≤ k → IsTrue (are_entries_below n k (entries_from b f m xs))

empty_text : IsText []
empty_text b f m n k p q = refl

joined_entries : (b f m n k : ℕ) (xs ys : List Entity) → f + count_functions (xs ++ ys) ≤ n → m + count_modules (xs ++ ys) ≤ k
    → IsTrue (are_entries_below n k (entries_from b f m xs)) → IsText ys → IsTrue (are_entries_below n k (entries_from b f m (xs ++ ys)))
joined_entries b f m n k [] ys p q h block_end = block_end b f m n k p q
joined_entries b f m n k (a_block s ∷ xs) ys p q h block_end =
    let parts = and_parts _ _ h in
    and_from _ _ parts.0 (joined_entries (b + 1) f m n k xs ys p q parts.1 block_end)
joined_entries b f m n k (a_function g ∷ xs) ys p q h block_end = joined_entries b (f + 1) m n k xs ys (omega (arith, p)) q h block_end
joined_entries b f m n k (a_module d ∷ xs) ys p q h block_end = joined_entries b f (m + 1) n k xs ys p (omega (arith, q)) h block_end

joined_text : (xs ys : List Entity) → IsText xs → IsText ys → IsText (xs ++ ys)
joined_text xs ys front block_end b f m n k p q = joined_entries b f m n k xs ys p q
    (front b f m n k (omega (arith, p, functions_joined xs ys)) (omega (arith, q, modules_joined xs ys))) block_end

block_text : (s : StatementTerms) → IsText (entities_in s) → IsText (a_block s ∷ entities_in s)
block_text s t b f m n k p q =
    let local = all_fit f m n k s p q in
    and_from _ _ (and_from _ _ local.0 local.1) (t (b + 1) f m n k p q)

function_text : (g : SourceFunction) (xs : List Entity) → IsText xs → IsText (a_function g ∷ xs)
function_text g xs t b f m n k p q = t b (f + 1) m n k (omega (arith, p)) q

module_text : (d : SourceModule) (xs : List Entity) → IsText xs → IsText (a_module d ∷ xs)
module_text d xs t b f m n k p q = t b f (m + 1) n k p (omega (arith, q))

no_body : IsText (a_block no_statements ∷ [])
no_body = block_text no_statements empty_text

single_text : (i : InstanceTerm) → IsText (entities_of_instance i)
    → IsText (a_block (and_statement (InstanceStatement i) no_statements) ∷ entities_of_instance i)
single_text i t = subst (λ xs. IsText (a_block (and_statement (InstanceStatement i) no_statements) ∷ xs)) (append-nil (entities_of_instance i))
    (block_text (and_statement (InstanceStatement i) no_statements) (joined_text (entities_of_instance i) [] t empty_text))

mutual
  text_of : (s : StatementTerm) → IsText (entities_of s)
  text_of (EmptyStatement at) = empty_text
  text_of (BlockStatement at statements) = table_of statements
  text_of (AssignmentTerm at name value) = empty_text
  text_of (SpecialAssignmentTerm at name value) = empty_text
  text_of (ModuleTerm at name name_at params body) = module_text (record { params = params; body = body }) (entities_of_body body) (text_of_body body)
  text_of (FunctionTerm at name name_at params value) = function_text (record { params = params; value = value }) (a_block no_statements ∷ []) no_body
  text_of (InstanceStatement instance) = text_of_instance instance

  table_of : (ss : StatementTerms) → IsText (entities_in ss)
  table_of no_statements = empty_text
  table_of (and_statement s rest) = joined_text (entities_of s) (entities_in rest) (text_of s) (table_of rest)

  text_of_instance : (i : InstanceTerm) → IsText (entities_of_instance i)
  text_of_instance (AnInstance at modifiers core) = text_of_core core

  text_of_core : (c : CoreTerm) → IsText (entities_of_core c)
  text_of_core (IfTerm at test body) = text_of_body body
  text_of_core (IfElseTerm at test body other) =
      joined_text (entities_of_body body) (entities_of_body other) (text_of_body body) (text_of_body other)
  text_of_core (ForTerm at binders body) = text_of_body body
  text_of_core (IntersectionForTerm at binders body) = text_of_body body
  text_of_core (ModuleCallTerm at name args body) = text_of_body body

  text_of_body : (b : BodyTerm) → IsText (entities_of_body b)
  text_of_body (EmptyBody at) = no_body
  text_of_body (BlockBody at statements) = block_text statements (table_of statements)
  text_of_body (InstanceBody instance) = single_text instance (text_of_instance instance)

-- the numbers in a program's blocks are below the program's counts
pub program_below : (program : List StatementTerm) → IsTrue (are_entries_below (length (functions_of_program program))
    (length (modules_of_program program)) (entries_from 0 0 0 (entities_of_program program)))
program_below program = block_text (statements_from program) (table_of (statements_from program)) 0 0 0
    (length (functions_of_program program)) (length (modules_of_program program)) (omega arith) (omega arith)

entry_below : (n k : ℕ) (es : List SourceBlock) (i : ℕ) → IsTrue (are_entries_below n k es)
    → IsTrue (are_numbers_below n (get_or es i nothing_there).local.functions) × IsTrue (are_numbers_below k (get_or es i nothing_there).local.modules)
entry_below n k [] i h = (refl, refl)
entry_below n k (e ∷ es) zero h = and_parts _ _ (and_parts _ _ h).0
entry_below n k (e ∷ es) (suc i) h = entry_below n k es i (and_parts _ _ h).1

-- a block's local definitions have numbers below the counts of those that are held
pub own_below : (b : Blocks) (number : ℕ)
    → IsTrue (are_numbers_below (length (source_functions_in b)) (get_or (block_table_in b).entries number nothing_there).local.functions)
    × IsTrue (are_numbers_below (length (source_modules_in b)) (get_or (block_table_in b).entries number nothing_there).local.modules)
own_below b number =
    let counts = ap (λ n. are_entries_below n (length b.modules.items) (block_table_in b).entries) (mapped function_of b.functions.items)
    ∙ ap (λ n. are_entries_below (length (source_functions_in b)) n (block_table_in b).entries) (mapped module_of b.modules.items) in
    entry_below (length (source_functions_in b)) (length (source_modules_in b)) (block_table_in b).entries number
    (subst (λ t. IsTrue t) counts b.numbered)
  where
    mapped : {A B : Type 0} (f : A → B) (xs : List A) → length xs ≡ length (map f xs)
    mapped f [] = refl
    mapped f (x ∷ xs) = ap suc (mapped f xs)
