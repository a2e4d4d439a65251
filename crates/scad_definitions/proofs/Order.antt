-- The blocks of a text stand one behind the other.
use Rattle.std.proofs.Common.{◌≡◌, ℕ, zero, suc, ◌+◌, ◌<◌, List, [], ◌∷◌, ◌++◌, length, get_or, refl, sym, ap, subst, ◌∙◌, arith, append_assoc, append-nil, length-append}
use Rattle.std.proofs.Math.Seq.{get_or-append_seam}
use Rattle.scad_ast.specs.Terms.{ParamTerm, StatementTerm, EmptyStatement, BlockStatement, AssignmentTerm, SpecialAssignmentTerm, ModuleTerm, FunctionTerm, InstanceStatement, StatementTerms, no_statements, and_statement, InstanceTerm, AnInstance, CoreTerm, IfTerm, IfElseTerm, ForTerm, IntersectionForTerm, ModuleCallTerm, BodyTerm, EmptyBody, BlockBody, InstanceBody, statements_from}
use Rattle.scad_definitions.specs.Blocks.{SourceModule, Entity, a_block, a_function, a_module, entities_of, entities_in, entities_of_instance, entities_of_core, entities_of_body, entities_of_program, modules_among, bodies_from, count_blocks, SourceBlock, nothing_there, entry_at, entries_from, BlockTable, block_table, StandAt, StandsInOrder}

-- where the entries hold those of a text behind others
module _ (t : BlockTable) where
  pub stand_there : (pre : List SourceBlock) (f m : ℕ) (xs : List Entity) (post : List SourceBlock)
      → t.entries ≡ pre ++ (entries_from (length pre) f m xs ++ post) → StandAt t (length pre) xs
  stand_there pre f m [] post h = tt
  stand_there pre f m (a_block s ∷ xs) post h =
      let e = entry_at (length pre) f m s in
      let rest = entries_from (length pre + 1) f m xs ++ post in
      let len : length (pre ++ e ∷ []) ≡ length pre + 1 = length-append pre (e ∷ []) in
      let moved : t.entries ≡ (pre ++ e ∷ []) ++ (entries_from (length (pre ++ e ∷ [])) f m xs ++ post) =
      h ∙ sym (append_assoc pre (e ∷ []) rest)
      ∙ ap (λ n. (pre ++ e ∷ []) ++ (entries_from n f m xs ++ post)) (sym len) in (
        omega (arith, ap length h, length-append pre (e ∷ rest)),
        ap (λ (es : List SourceBlock). (get_or es (length pre) nothing_there).statements) h
            ∙ ap (λ (x : SourceBlock). x.statements) (get_or-append_seam pre e rest nothing_there),
        subst (λ n. StandAt t n xs) len (stand_there (pre ++ e ∷ []) f m xs post moved),
      )
  stand_there pre f m (a_function g ∷ xs) post h = stand_there pre (f + 1) m xs post h
  stand_there pre f m (a_module d ∷ xs) post h = stand_there pre f (m + 1) xs post h

  stand_front : (n : ℕ) (xs ys : List Entity) → StandAt t n (xs ++ ys) → StandAt t n xs
  stand_front n [] ys h = tt
  stand_front n (a_block s ∷ xs) ys h = (h.0, h.1, stand_front (n + 1) xs ys h.2)
  stand_front n (a_function g ∷ xs) ys h = stand_front n xs ys h
  stand_front n (a_module d ∷ xs) ys h = stand_front n xs ys h

  stand_behind : (n : ℕ) (xs ys : List Entity) → StandAt t n (xs ++ ys) → StandAt t (n + count_blocks xs) ys
  stand_behind n [] ys h = subst (λ k. StandAt t k ys) (omega arith) h
  stand_behind n (a_block s ∷ xs) ys h = subst (λ k. StandAt t k ys) (omega arith) (stand_behind (n + 1) xs ys h.2)
  stand_behind n (a_function g ∷ xs) ys h = stand_behind n xs ys h
  stand_behind n (a_module d ∷ xs) ys h = stand_behind n xs ys h

  -- what stands in a block of a number begins behind it
  abbrev Here : ℕ → Type 0
  Here m = StandAt t (m + 1) (entities_in (get_or t.entries m nothing_there).statements)

  here : (m k : ℕ) → m ≡ k → Here m → Here k
  here m k e h = subst (λ n. StandAt t (n + 1) (entities_in (get_or t.entries n nothing_there).statements)) e h

  -- each block of a text, and each module of it
  abbrev Nested : ℕ → List Entity → Type 0
  Nested n xs = (j : ℕ) → j < count_blocks xs → Here (n + j)

  abbrev Bodies : ℕ → List Entity → Type 0
  Bodies n xs = (k : ℕ) (d : SourceModule) → k < length (modules_among xs) → d ≡ get_or (modules_among xs) k d
      → StandAt t (get_or (bodies_from n xs) k 0) (entities_of_body d.body)

  abbrev InOrder : List Entity → Type 0
  InOrder xs = (n : ℕ) → StandAt t n xs → Nested n xs × Bodies n xs

  nothing : InOrder []
  nothing n h = (λ j g. absurd (omega (arith, g)), λ k d g e. absurd (omega (arith, g)))

  nested_joined : (n : ℕ) (xs ys : List Entity) → Nested n xs → Nested (n + count_blocks xs) ys → Nested n (xs ++ ys)
  nested_joined n [] ys front block_end j g = here (n + 0 + j) (n + j) (omega arith) (block_end j g)
  nested_joined n (a_block s ∷ xs) ys front block_end zero g = front zero (omega arith)
  nested_joined n (a_block s ∷ xs) ys front block_end (suc j) g =
      here (n + 1 + j) (n + suc j) (omega arith)
      (nested_joined (n + 1) xs ys (λ i l. here (n + suc i) (n + 1 + i) (omega arith) (front (suc i) (omega (arith, l))))
      (λ i l. here (n + suc (count_blocks xs) + i) (n + 1 + count_blocks xs + i) (omega arith) (block_end i l)) j (omega (arith, g)))
  nested_joined n (a_function f ∷ xs) ys front block_end j g = nested_joined n xs ys front block_end j g
  nested_joined n (a_module d ∷ xs) ys front block_end j g = nested_joined n xs ys front block_end j g

  body_at : (b c : ℕ) (ys : List Entity) (k : ℕ) (d : SourceModule) → b ≡ c → StandAt t (get_or (bodies_from b ys) k 0) (entities_of_body d.body)
      → StandAt t (get_or (bodies_from c ys) k 0) (entities_of_body d.body)
  body_at b c ys k d e h = subst (λ n. StandAt t (get_or (bodies_from n ys) k 0) (entities_of_body d.body)) e h

  bodies_joined : (n : ℕ) (xs ys : List Entity) → Bodies n xs → Bodies (n + count_blocks xs) ys → Bodies n (xs ++ ys)
  bodies_joined n [] ys front block_end k d g e = body_at (n + 0) n ys k d (omega arith) (block_end k d g e)
  bodies_joined n (a_block s ∷ xs) ys front block_end k d g e =
      bodies_joined (n + 1) xs ys front
      (λ i c l m. body_at (n + suc (count_blocks xs)) (n + 1 + count_blocks xs) ys i c (omega arith) (block_end i c l m)) k d g e
  bodies_joined n (a_function f ∷ xs) ys front block_end k d g e = bodies_joined n xs ys front block_end k d g e
  bodies_joined n (a_module m ∷ xs) ys front block_end zero d g e = front zero d (omega arith) e
  bodies_joined n (a_module m ∷ xs) ys front block_end (suc k) d g e =
      bodies_joined n xs ys (λ i c l q. front (suc i) c (omega (arith, l)) q) block_end k d (omega (arith, g)) e

  joined : (xs ys : List Entity) → InOrder xs → InOrder ys → InOrder (xs ++ ys)
  joined xs ys front block_end n h =
      let a = front n (stand_front n xs ys h) in
      let b = block_end (n + count_blocks xs) (stand_behind n xs ys h) in
      (nested_joined n xs ys a.0 b.0, bodies_joined n xs ys a.1 b.1)

  block : (s : StatementTerms) → InOrder (entities_in s) → InOrder (a_block s ∷ entities_in s)
  block s inner n h = (nested, (inner (n + 1) h.2).1)
    where
      nested : Nested n (a_block s ∷ entities_in s)
      nested zero g = here n (n + 0) (omega arith) (subst (λ ss. StandAt t (n + 1) (entities_in ss)) (sym h.1) h.2)
      nested (suc j) g = here (n + 1 + j) (n + suc j) (omega arith) ((inner (n + 1) h.2).0 j (omega (arith, g)))

  body_first : (params : List ParamTerm) (b : BodyTerm) → InOrder (entities_of_body b)
      → InOrder (a_module (record { params = params; body = b }) ∷ entities_of_body b)
  body_first params b inner n h = ((inner n h).0, bodies)
    where
      bodies : Bodies n (a_module (record { params = params; body = b }) ∷ entities_of_body b)
      bodies zero d g e = subst (λ (c : SourceModule). StandAt t n (entities_of_body c.body)) (sym e) h
      bodies (suc k) d g e = (inner n h).1 k d (omega (arith, g)) e

  single : (i : InstanceTerm) → InOrder (entities_of_instance i)
      → InOrder (a_block (and_statement (InstanceStatement i) no_statements) ∷ entities_of_instance i)
  single i inner = subst (λ xs. InOrder (a_block (and_statement (InstanceStatement i) no_statements) ∷ xs)) (append-nil (entities_of_instance i))
      (block (and_statement (InstanceStatement i) no_statements) (joined (entities_of_instance i) [] inner nothing))

  mutual
    order_of : (s : StatementTerm) → InOrder (entities_of s)
    order_of (EmptyStatement at) = nothing
    order_of (BlockStatement at statements) = order_in statements
    order_of (AssignmentTerm at name value) = nothing
    order_of (SpecialAssignmentTerm at name value) = nothing
    order_of (ModuleTerm at name name_at params body) = body_first params body (order_of_body body)
    order_of (FunctionTerm at name name_at params value) = block no_statements nothing
    order_of (InstanceStatement instance) = order_of_instance instance

    order_in : (ss : StatementTerms) → InOrder (entities_in ss)
    order_in no_statements = nothing
    order_in (and_statement s rest) = joined (entities_of s) (entities_in rest) (order_of s) (order_in rest)

    order_of_instance : (i : InstanceTerm) → InOrder (entities_of_instance i)
    order_of_instance (AnInstance at modifiers core) = order_of_core core

    order_of_core : (c : CoreTerm) → InOrder (entities_of_core c)
    order_of_core (IfTerm at test body) = order_of_body body
    order_of_core (IfElseTerm at test body other) =
        joined (entities_of_body body) (entities_of_body other) (order_of_body body) (order_of_body other)
    order_of_core (ForTerm at binders body) = order_of_body body
    order_of_core (IntersectionForTerm at binders body) = order_of_body body
    order_of_core (ModuleCallTerm at name args body) = order_of_body body

    order_of_body : (b : BodyTerm) → InOrder (entities_of_body b)
    order_of_body (EmptyBody at) = block no_statements nothing
    order_of_body (BlockBody at statements) = block statements (order_in statements)
    order_of_body (InstanceBody instance) = single instance (order_of_instance instance)

entries_count : (n f m : ℕ) (xs : List Entity) → length (entries_from n f m xs) ≡ count_blocks xs
entries_count n f m [] = refl
entries_count n f m (a_block s ∷ xs) = ap suc (entries_count (n + 1) f m xs)
entries_count n f m (a_function g ∷ xs) = entries_count n (f + 1) m xs
entries_count n f m (a_module d ∷ xs) = entries_count n f (m + 1) xs

-- the blocks of a program
pub program_order : (program : List StatementTerm) → StandsInOrder (block_table program)
program_order program =
    let t = block_table program in
    let xs = entities_of_program program in
    let all = block t (statements_from program) (order_in t (statements_from program)) 0
    (stand_there t [] 0 0 xs [] (sym (append-nil (entries_from 0 0 0 xs)))) in
    record {
      blocks = λ n g. here t (0 + n) n (omega arith) (all.0 n (omega (arith, g, entries_count 0 0 0 xs)));
      bodies = all.1;
    }
