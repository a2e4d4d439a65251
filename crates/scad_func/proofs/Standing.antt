-- The definitions that a block's numbers stand for are those that stand in its statements.
use Rattle.std.proofs.Common.{◌≡◌, ℕ, zero, suc, ◌+◌, ◌<◌, List, [], ◌∷◌, ◌++◌, length, reverse, get_or, Option, Some, None, refl, sym, ap, subst, ◌∙◌, arith, append_assoc, length-append}
use Rattle.std.proofs.lemmas.List.{reverse-append}
use Rattle.scad_ast.specs.Terms.{StatementTerm, EmptyStatement, BlockStatement, AssignmentTerm, SpecialAssignmentTerm, ModuleTerm, FunctionTerm, InstanceStatement, StatementTerms, no_statements, and_statement, InstanceTerm, AnInstance, CoreTerm, IfTerm, IfElseTerm, ForTerm, IntersectionForTerm, ModuleCallTerm, BodyTerm, EmptyBody, BlockBody, InstanceBody, statements_from}
use Rattle.scad_scope.specs.Names.{Pairs}
use Rattle.scad_definitions.specs.Blocks.{SourceFunction, SourceModule, Entity, a_block, a_function, a_module, entities_of, entities_in, entities_of_instance, entities_of_core, entities_of_body, entities_of_program, functions_among, modules_among, count_functions, count_modules, local_functions, local_function, local_modules, local_module, SourceBlock, nothing_there, entries_from, block_table, BlockTable, assignments_of, count_blocks, StandsInOrder}
use Rattle.scad_func.specs.Meaning.{Env, InnerScope, Activation, functions_standing_in, function_in_statement, modules_standing_in, module_in_statement, entered_scope}
use Rattle.scad_func.specs.Definitions.{definition_numbered, with_definition, definitions_of_numbers, statements_at, block_scope, IsWholeTable}

-- lists
right_nil : {A : Type 0} (xs : List A) → xs ++ [] ≡ xs
right_nil [] = refl
right_nil (x ∷ xs) = ap (λ l. x ∷ l) (right_nil xs)

named_joined : {A : Type 0} (name : List ℕ) (o : Option A) (xs ys : Pairs A) → with_definition name o xs ++ ys ≡ with_definition name o (xs ++ ys)
named_joined name None xs ys = refl
named_joined name (Some x) xs ys = refl

resolved_joined : {A : Type 0} (all : List A) (ps qs : Pairs ℕ) → definitions_of_numbers all (ps ++ qs) ≡ definitions_of_numbers all ps ++ definitions_of_numbers all qs
resolved_joined all [] qs = refl
resolved_joined all (p ∷ ps) qs =
    ap (with_definition p.0 (definition_numbered all p.1)) (resolved_joined all ps qs)
    ∙ sym (named_joined p.0 (definition_numbered all p.1) (definitions_of_numbers all ps) (definitions_of_numbers all qs))

-- reversed pairs, in two parts
turned_joined : {A : Type 0} (all : List A) (ps qs : Pairs ℕ) (xs ys : Pairs A) → definitions_of_numbers all (reverse ps) ≡ xs → definitions_of_numbers all (reverse qs) ≡ ys
    → definitions_of_numbers all (reverse (ps ++ qs)) ≡ ys ++ xs
turned_joined all ps qs xs ys h g =
    ap (definitions_of_numbers all) (reverse-append ps qs) ∙ resolved_joined all (reverse qs) (reverse ps)
    ∙ ap (λ l. l ++ definitions_of_numbers all (reverse ps)) g ∙ ap (λ l. ys ++ l) h

number_behind : {A : Type 0} (before : List A) (x : A) (after : List A) (n : ℕ) → n ≡ length before → definition_numbered (before ++ x ∷ after) n ≡ Some x
number_behind [] x after n h = ap (definition_numbered (x ∷ after)) h
number_behind (b ∷ before) x after zero h = absurd (omega arith)
number_behind (b ∷ before) x after (suc n) h = number_behind before x after n (omega arith)

functions_joined : (xs ys : List Entity) → functions_among (xs ++ ys) ≡ functions_among xs ++ functions_among ys
functions_joined [] ys = refl
functions_joined (a_block s ∷ xs) ys = functions_joined xs ys
functions_joined (a_function f ∷ xs) ys = ap (λ l. f ∷ l) (functions_joined xs ys)
functions_joined (a_module m ∷ xs) ys = functions_joined xs ys

modules_joined : (xs ys : List Entity) → modules_among (xs ++ ys) ≡ modules_among xs ++ modules_among ys
modules_joined [] ys = refl
modules_joined (a_block s ∷ xs) ys = modules_joined xs ys
modules_joined (a_function f ∷ xs) ys = modules_joined xs ys
modules_joined (a_module m ∷ xs) ys = ap (λ l. m ∷ l) (modules_joined xs ys)

-- a list in which others stand behind the given number and before the rest
record Stands {A : Type 0} (all : List A) (n : ℕ) (xs : List A) : Type 0 where
  before : List A
  block_end : List A
  whole : all ≡ before ++ (xs ++ block_end)
  count : n ≡ length before

stands_first : {A : Type 0} (all : List A) (n : ℕ) (xs ys : List A) → Stands all n (xs ++ ys) → Stands all n xs
stands_first all n xs ys s = record {
  before = s.before;
  block_end = ys ++ s.block_end;
  whole = s.whole ∙ ap (λ l. s.before ++ l) (append_assoc xs ys s.block_end);
  count = s.count;
}

stands_next : {A : Type 0} (all : List A) (n : ℕ) (xs ys : List A) → Stands all n (xs ++ ys) → Stands all (n + length xs) ys
stands_next all n xs ys s = record {
  before = s.before ++ xs;
  block_end = s.block_end;
  whole = s.whole ∙ ap (λ l. s.before ++ l) (append_assoc xs ys s.block_end) ∙ sym (append_assoc s.before xs (ys ++ s.block_end));
  count = ap (λ k. k + length xs) s.count ∙ sym (length-append s.before xs);
}

stands_by : {A : Type 0} (all : List A) (n : ℕ) (xs ys : List A) → xs ≡ ys → Stands all n xs → Stands all n ys
stands_by all n xs ys e s = subst (λ l. Stands all n l) e s

-- the own functions of statements
mutual
  functions_in : (all : List SourceFunction) (n : ℕ) (ss : StatementTerms) → Stands all n (functions_among (entities_in ss))
      → definitions_of_numbers all (reverse (local_functions n ss)) ≡ functions_standing_in ss
  functions_in all n no_statements s = refl
  functions_in all n (and_statement x rest) s =
      let t = stands_by all n _ _ (functions_joined (entities_of x) (entities_in rest)) s in
      turned_joined all (local_function n x) (local_functions (n + count_functions (entities_of x)) rest) (function_in_statement x) (functions_standing_in rest)
      (functions_of all n x (stands_first all n _ _ t))
      (functions_in all (n + count_functions (entities_of x)) rest (stands_next all n _ _ t))

  functions_of : (all : List SourceFunction) (n : ℕ) (x : StatementTerm) → Stands all n (functions_among (entities_of x))
      → definitions_of_numbers all (reverse (local_function n x)) ≡ function_in_statement x
  functions_of all n (EmptyStatement at) s = refl
  functions_of all n (BlockStatement at statements) s = functions_in all n statements s
  functions_of all n (AssignmentTerm at name value) s = refl
  functions_of all n (SpecialAssignmentTerm at name value) s = refl
  functions_of all n (ModuleTerm at name name_at params body) s = refl
  functions_of all n (FunctionTerm at name name_at params value) s =
      ap (λ o. with_definition name o []) (ap (λ l. definition_numbered l n) s.whole
      ∙ number_behind s.before (record { params = params; value = value }) s.block_end n s.count)
  functions_of all n (InstanceStatement instance) s = refl

-- the own modules of statements
mutual
  modules_in : (all : List SourceModule) (n : ℕ) (ss : StatementTerms) → Stands all n (modules_among (entities_in ss))
      → definitions_of_numbers all (reverse (local_modules n ss)) ≡ modules_standing_in ss
  modules_in all n no_statements s = refl
  modules_in all n (and_statement x rest) s =
      let t = stands_by all n _ _ (modules_joined (entities_of x) (entities_in rest)) s in
      turned_joined all (local_module n x) (local_modules (n + count_modules (entities_of x)) rest) (module_in_statement x) (modules_standing_in rest)
      (modules_of all n x (stands_first all n _ _ t))
      (modules_in all (n + count_modules (entities_of x)) rest (stands_next all n _ _ t))

  modules_of : (all : List SourceModule) (n : ℕ) (x : StatementTerm) → Stands all n (modules_among (entities_of x))
      → definitions_of_numbers all (reverse (local_module n x)) ≡ module_in_statement x
  modules_of all n (EmptyStatement at) s = refl
  modules_of all n (BlockStatement at statements) s = modules_in all n statements s
  modules_of all n (AssignmentTerm at name value) s = refl
  modules_of all n (SpecialAssignmentTerm at name value) s = refl
  modules_of all n (ModuleTerm at name name_at params body) s =
      ap (λ o. with_definition name o []) (ap (λ l. definition_numbered l n) s.whole
      ∙ number_behind s.before (record { params = params; body = body }) (modules_among (entities_of_body body) ++ s.block_end) n s.count)
  modules_of all n (FunctionTerm at name name_at params value) s = refl
  modules_of all n (InstanceStatement instance) s = refl

-- the entries of a text, each of which holds what stands in its statements
module _ (fs : List SourceFunction) (ms : List SourceModule) where
  record Good (e : SourceBlock) : Type 0 where
    functions : definitions_of_numbers fs (reverse e.local.functions) ≡ functions_standing_in e.statements
    modules : definitions_of_numbers ms (reverse e.local.modules) ≡ modules_standing_in e.statements

  abbrev Goods : List SourceBlock → Type 0
  Goods [] = Unit {0}
  Goods (e ∷ es) = Good e × Goods es

  abbrev Go : ℕ → ℕ → List Entity → Type 0
  Go f m xs = (b : ℕ) → Goods (entries_from b f m xs)

  abbrev Both : ℕ → ℕ → List Entity → Type 0
  Both f m xs = Stands fs f (functions_among xs) × Stands ms m (modules_among xs)

  both_first : (f m : ℕ) (xs ys : List Entity) → Both f m (xs ++ ys) → Both f m xs
  both_first f m xs ys s = (
    stands_first fs f _ _ (stands_by fs f _ _ (functions_joined xs ys) s.0),
    stands_first ms m _ _ (stands_by ms m _ _ (modules_joined xs ys) s.1),
  )

  both_next : (f m : ℕ) (xs ys : List Entity) → Both f m (xs ++ ys) → Both (f + count_functions xs) (m + count_modules xs) ys
  both_next f m xs ys s = (
    stands_next fs f _ _ (stands_by fs f _ _ (functions_joined xs ys) s.0),
    stands_next ms m _ _ (stands_by ms m _ _ (modules_joined xs ys) s.1),
  )

  go_by : (f g m k : ℕ) (xs : List Entity) → f ≡ g → m ≡ k → Go f m xs → Go g k xs
  go_by f g m k xs e h go = λ b. subst (λ n. Goods (entries_from b n k xs)) e (subst (λ n. Goods (entries_from b f n xs)) h (go b))

  counted_functions : (f : ℕ) (xs ys : List Entity) → f + count_functions (xs ++ ys) ≡ (f + count_functions xs) + count_functions ys
  counted_functions f xs ys = omega (arith, ap length (functions_joined xs ys), length-append (functions_among xs) (functions_among ys))

  counted_modules : (m : ℕ) (xs ys : List Entity) → m + count_modules (xs ++ ys) ≡ (m + count_modules xs) + count_modules ys
  counted_modules m xs ys = omega (arith, ap length (modules_joined xs ys), length-append (modules_among xs) (modules_among ys))

  no_beginnings : (f m : ℕ) (rest : List Entity) → Go (f + 0) (m + 0) rest → Go f m rest
  no_beginnings f m rest go = go_by (f + 0) f (m + 0) m rest (omega arith) (omega arith) go

  -- two texts, one behind the other
  go_two : (f m : ℕ) (xs ys rest : List Entity) → (Go (f + count_functions xs) (m + count_modules xs) (ys ++ rest) → Go f m (xs ++ (ys ++ rest)))
      → (Go ((f + count_functions xs) + count_functions ys) ((m + count_modules xs) + count_modules ys) rest
      → Go (f + count_functions xs) (m + count_modules xs) (ys ++ rest))
      → Go (f + count_functions (xs ++ ys)) (m + count_modules (xs ++ ys)) rest → Go f m ((xs ++ ys) ++ rest)
  go_two f m xs ys rest one two go = λ b. subst (λ l. Goods (entries_from b f m l)) (sym (append_assoc xs ys rest))
      (one (two (go_by _ _ _ _ rest (counted_functions f xs ys) (counted_modules m xs ys) go)) b)

  empty_good : (f m : ℕ) (rest : List Entity) → Go f m rest → Go f m (a_block no_statements ∷ rest)
  empty_good f m rest go = λ b. (record { functions = refl; modules = refl }, go (b + 1))

  mutual
    goods_in : (f m : ℕ) (ss : StatementTerms) (rest : List Entity) → Both f m (entities_in ss)
        → Go (f + count_functions (entities_in ss)) (m + count_modules (entities_in ss)) rest → Go f m (entities_in ss ++ rest)
    goods_in f m no_statements rest s go = no_beginnings f m rest go
    goods_in f m (and_statement x more) rest s go = go_two f m (entities_of x) (entities_in more) rest
        (goods_of f m x (entities_in more ++ rest) (both_first f m (entities_of x) (entities_in more) s))
        (goods_in (f + count_functions (entities_of x)) (m + count_modules (entities_of x)) more rest (both_next f m (entities_of x) (entities_in more) s)) go

    goods_of : (f m : ℕ) (x : StatementTerm) (rest : List Entity) → Both f m (entities_of x)
        → Go (f + count_functions (entities_of x)) (m + count_modules (entities_of x)) rest → Go f m (entities_of x ++ rest)
    goods_of f m (EmptyStatement at) rest s go = no_beginnings f m rest go
    goods_of f m (BlockStatement at statements) rest s go = goods_in f m statements rest s go
    goods_of f m (AssignmentTerm at name value) rest s go = no_beginnings f m rest go
    goods_of f m (SpecialAssignmentTerm at name value) rest s go = no_beginnings f m rest go
    goods_of f m (ModuleTerm at name name_at params body) rest s go =
        goods_body f (m + 1) body rest (s.0, stands_next ms m (record { params = params; body = body } ∷ []) (modules_among (entities_of_body body)) s.1)
        (go_by _ _ _ _ rest refl (omega arith) go)
    goods_of f m (FunctionTerm at name name_at params value) rest s go =
        empty_good (f + 1) m rest (go_by _ _ _ _ rest refl (omega arith) go)
    goods_of f m (InstanceStatement instance) rest s go = goods_instance f m instance rest s go

    goods_instance : (f m : ℕ) (i : InstanceTerm) (rest : List Entity) → Both f m (entities_of_instance i)
        → Go (f + count_functions (entities_of_instance i)) (m + count_modules (entities_of_instance i)) rest → Go f m (entities_of_instance i ++ rest)
    goods_instance f m (AnInstance at modifiers core) rest s go = goods_core f m core rest s go

    goods_core : (f m : ℕ) (c : CoreTerm) (rest : List Entity) → Both f m (entities_of_core c)
        → Go (f + count_functions (entities_of_core c)) (m + count_modules (entities_of_core c)) rest → Go f m (entities_of_core c ++ rest)
    goods_core f m (IfTerm at test body) rest s go = goods_body f m body rest s go
    goods_core f m (IfElseTerm at test body other) rest s go = go_two f m (entities_of_body body) (entities_of_body other) rest
        (goods_body f m body (entities_of_body other ++ rest) (both_first f m (entities_of_body body) (entities_of_body other) s))
        (goods_body (f + count_functions (entities_of_body body)) (m + count_modules (entities_of_body body)) other rest
        (both_next f m (entities_of_body body) (entities_of_body other) s)) go
    goods_core f m (ForTerm at binders body) rest s go = goods_body f m body rest s go
    goods_core f m (IntersectionForTerm at binders body) rest s go = goods_body f m body rest s go
    goods_core f m (ModuleCallTerm at name args body) rest s go = goods_body f m body rest s go

    goods_body : (f m : ℕ) (b : BodyTerm) (rest : List Entity) → Both f m (entities_of_body b)
        → Go (f + count_functions (entities_of_body b)) (m + count_modules (entities_of_body b)) rest → Go f m (entities_of_body b ++ rest)
    goods_body f m (EmptyBody at) rest s go = empty_good f m rest (no_beginnings f m rest go)
    goods_body f m (BlockBody at statements) rest s go = λ b. (
      record { functions = functions_in fs f statements s.0; modules = modules_in ms m statements s.1 },
      goods_in f m statements rest s go (b + 1),
    )
    goods_body f m (InstanceBody instance) rest s go = λ b. (
      record { functions = refl; modules = refl },
      goods_instance f m instance rest s go (b + 1),
    )

  good_at : (es : List SourceBlock) (n : ℕ) → Goods es → Good (get_or es n nothing_there)
  good_at [] n g = record { functions = refl; modules = refl }
  good_at (e ∷ es) zero g = g.0
  good_at (e ∷ es) (suc n) g = good_at es n g.1

all_stands : {A : Type 0} (xs : List A) → Stands xs 0 xs
all_stands xs = record { before = []; block_end = []; whole = sym (right_nil xs); count = refl }

-- the scope of a block of a program is that of its statements
pub standing : (program : List StatementTerm) (number : ℕ) (call : Activation) (outer : Env)
    → block_scope (block_table program) number call outer
    ≡ entered_scope (statements_at (block_table program) number) call outer
standing program number call outer =
    let ss = statements_from program in
    let fs = functions_among (entities_in ss) in
    let ms = modules_among (entities_in ss) in
    let rest = goods_in fs ms 0 0 ss [] (all_stands fs, all_stands ms) (λ b. tt) 1 in
    let whole = subst (λ l. Goods fs ms (entries_from 1 0 0 l)) (right_nil (entities_in ss)) rest in
    let good = good_at fs ms (entries_from 0 0 0 (entities_of_program program)) number
    (record { functions = functions_in fs 0 ss (all_stands fs); modules = modules_in ms 0 ss (all_stands ms) }, whole) in
    let e : SourceBlock = get_or (entries_from 0 0 0 (entities_of_program program)) number nothing_there in
    ap (λ l. InnerScope [] l (definitions_of_numbers ms (reverse e.local.modules)) call outer) good.functions
    ∙ ap (λ l. InnerScope [] (functions_standing_in e.statements) l call outer) good.modules

-- the assignments of each block, and where it ends
assigned_there : (n f m : ℕ) (xs : List Entity) (k : ℕ)
    → (get_or (entries_from n f m xs) k nothing_there).local.assignments ≡ assignments_of (get_or (entries_from n f m xs) k nothing_there).statements
assigned_there n f m [] k = refl
assigned_there n f m (a_block s ∷ xs) zero = refl
assigned_there n f m (a_block s ∷ xs) (suc k) = assigned_there (n + 1) f m xs k
assigned_there n f m (a_function g ∷ xs) k = assigned_there n (f + 1) m xs k
assigned_there n f m (a_module d ∷ xs) k = assigned_there n f (m + 1) xs k

ends_there : (n f m : ℕ) (xs : List Entity) (k : ℕ) → k < length (entries_from n f m xs)
    → (get_or (entries_from n f m xs) k nothing_there).block_end
    ≡ n + k + 1 + count_blocks (entities_in (get_or (entries_from n f m xs) k nothing_there).statements)
ends_there n f m [] k h = absurd (omega (arith, h))
ends_there n f m (a_block s ∷ xs) zero h = omega arith
ends_there n f m (a_block s ∷ xs) (suc k) h = ends_there (n + 1) f m xs k (omega (arith, h)) ∙ omega arith
ends_there n f m (a_function g ∷ xs) k h = ends_there n (f + 1) m xs k h
ends_there n f m (a_module d ∷ xs) k h = ends_there n f (m + 1) xs k h

-- what is known of the text of a program
pub whole_text : (table : BlockTable) (program : List StatementTerm) → table ≡ block_table program → StandsInOrder table → IsWholeTable table
whole_text table program e order = subst IsWholeTable (sym e) (record {
  scopes = standing program;
  assignments = assigned_there 0 0 0 (entities_of_program program);
  block_end = λ number h. ends_there 0 0 0 (entities_of_program program) number h ∙ omega arith;
  order = subst StandsInOrder e order;
})
