-- A walk through a text, part by part.
use Rattle.std.proofs.Common.{◌≡◌, ℕ, ◌+◌, ◌<◌, List, [], ◌∷◌, ◌++◌, length, map, drop, get_or, set, refl, sym, ap, ◌∙◌, arith, append_assoc, append-nil, length-append}
use Rattle.std.proofs.Math.Seq.{set-append_seam}
use Rattle.std.proofs.lemmas.List.{get_or-set_same}
use Rattle.scad_ast.specs.declared.statement.Statement.{Statement}
use Rattle.scad_ast.specs.Terms.{StatementTerm, InstanceStatement, InstanceTerm, StatementTerms, no_statements, and_statement, statements_from}
use Rattle.scad_ast.specs.StatementView.{statement_of}
use Rattle.scad_definitions.specs.Blocks.{SourceFunction, SourceModule, Entity, a_block, a_function, a_module, SourceAssignment, entities_of, entities_in, entities_of_instance, count_functions, count_modules, count_blocks, local_functions, local_function, local_modules, local_module, assignments_in, assignments_by, with_assigned, assignments_with_all, functions_among, modules_among, bodies_from, LocalTerms, no_locals, locals_of_block, SourceBlock, nothing_there, entry_at, entries_from, BlockTable}
use Rattle.scad_definitions.specs.Walk.{locals_with, locals_by, with_entity, with_entities, with_block_begun, with_block_ended, block_with_end, empty_block_table}
use Rattle.std.specs.Prelude.{OnOk}
use Rattle.std.proofs.Common.{Result, Ok, Err}
use Rattle.scad_definitions.proofs.Scans.{statements_here}

pub after_joined : (w : BlockTable) (xs ys : List Entity) → with_entities w (xs ++ ys) ≡ with_entities (with_entities w xs) ys
after_joined w [] ys = refl
after_joined w (x ∷ xs) ys = after_joined (with_entity w x) xs ys

-- what a walk counts
pub after_functions : (w : BlockTable) (xs : List Entity) → length (with_entities w xs).functions ≡ length w.functions + count_functions xs
after_functions w [] = omega arith
after_functions w (a_block s ∷ xs) = after_functions (with_entity w (a_block s)) xs
after_functions w (a_function f ∷ xs) = omega (arith, after_functions (with_entity w (a_function f)) xs, length-append w.functions (f ∷ []))
after_functions w (a_module d ∷ xs) = after_functions (with_entity w (a_module d)) xs

pub after_modules : (w : BlockTable) (xs : List Entity) → length (with_entities w xs).modules ≡ length w.modules + count_modules xs
after_modules w [] = omega arith
after_modules w (a_block s ∷ xs) = after_modules (with_entity w (a_block s)) xs
after_modules w (a_function f ∷ xs) = after_modules (with_entity w (a_function f)) xs
after_modules w (a_module d ∷ xs) = omega (arith, after_modules (with_entity w (a_module d)) xs, length-append w.modules (d ∷ []))

pub after_entries : (w : BlockTable) (xs : List Entity) → length (with_entities w xs).entries ≡ length w.entries + count_blocks xs
after_entries w [] = omega arith
after_entries w (a_block s ∷ xs) =
    let e = entry_at (length w.entries) (length w.functions) (length w.modules) s in
    omega (arith, after_entries (with_entity w (a_block s)) xs, length-append w.entries (e ∷ []))
after_entries w (a_function f ∷ xs) = after_entries (with_entity w (a_function f)) xs
after_entries w (a_module d ∷ xs) = after_entries (with_entity w (a_module d)) xs

-- the statements of a block: one more, and at the end
pub walked_more : (w v : BlockTable) (whole : BlockTable) (ss : List Statement) (i : ℕ) (s : Statement) → i < length ss → s ≡ get_or ss i s
    → v ≡ with_entities w (entities_of (statement_of s))
    → with_entities w (entities_in (statements_from (map statement_of (drop i ss)))) ≡ whole
    → with_entities v (entities_in (statements_from (map statement_of (drop (i + 1) ss)))) ≡ whole
walked_more w v whole ss i s h e f told =
    let rest = statements_from (map statement_of (drop (i + 1) ss)) in
    ap (λ u. with_entities u (entities_in rest)) f
    ∙ sym (after_joined w (entities_of (statement_of s)) (entities_in rest))
    ∙ ap (λ l. with_entities w (entities_in l)) (sym (statements_here ss i s h e)) ∙ told

assigned_joined : (before xs ys : List SourceAssignment) → assignments_with_all before (xs ++ ys) ≡ assignments_with_all (assignments_with_all before xs) ys
assigned_joined before [] ys = refl
assigned_joined before (x ∷ xs) ys = assigned_joined (with_assigned before x) xs ys

own_is : (a b : LocalTerms) → a.functions ≡ b.functions → a.modules ≡ b.modules → a.assignments ≡ b.assignments → a ≡ b
own_is a b f m s =
    ap (λ x. record { functions = x; modules = a.modules; assignments = a.assignments }) f
    ∙ ap (λ x. record { functions = b.functions; modules = x; assignments = a.assignments }) m
    ∙ ap (λ x. record { functions = b.functions; modules = b.modules; assignments = x }) s

own_step : (local : LocalTerms) (f m : ℕ) (s : StatementTerm) (rest : StatementTerms)
    → locals_with (locals_by local f m s) (f + count_functions (entities_of s)) (m + count_modules (entities_of s)) rest ≡ locals_with local f m (and_statement s rest)
own_step local f m s rest = own_is _ _
    (append_assoc local.functions (local_function f s) (local_functions (f + count_functions (entities_of s)) rest))
    (append_assoc local.modules (local_module m s) (local_modules (m + count_modules (entities_of s)) rest))
    (sym (assigned_joined local.assignments (assignments_by s) (assignments_in rest)))

pub own_more : (local next whole : LocalTerms) (w v : BlockTable) (ss : List Statement) (i : ℕ) (s : Statement) → i < length ss → s ≡ get_or ss i s
    → v ≡ with_entities w (entities_of (statement_of s))
    → next ≡ locals_by local (length w.functions) (length w.modules) (statement_of s)
    → locals_with local (length w.functions) (length w.modules) (statements_from (map statement_of (drop i ss))) ≡ whole
    → locals_with next (length v.functions) (length v.modules) (statements_from (map statement_of (drop (i + 1) ss))) ≡ whole
own_more local next whole w v ss i s h e f g told =
    let rest = statements_from (map statement_of (drop (i + 1) ss)) in
    let entities = entities_of (statement_of s) in
    ap (λ o. locals_with o (length v.functions) (length v.modules) rest) g
    ∙ ap (λ n. locals_with (locals_by local (length w.functions) (length w.modules) (statement_of s)) n (length v.modules) rest)
    (ap (λ (u : BlockTable). length u.functions) f ∙ after_functions w entities)
    ∙ ap (λ n. locals_with (locals_by local (length w.functions) (length w.modules) (statement_of s)) (length w.functions + count_functions entities) n rest)
    (ap (λ (u : BlockTable). length u.modules) f ∙ after_modules w entities)
    ∙ own_step local (length w.functions) (length w.modules) (statement_of s) rest
    ∙ ap (locals_with local (length w.functions) (length w.modules)) (sym (statements_here ss i s h e)) ∙ told

-- two walks that differ in one entry differ in that entry in the end
abbrev placed : List SourceBlock → SourceBlock → List SourceBlock → List SourceFunction → List SourceModule → List ℕ → BlockTable
placed es e r fs ms bs = record { entries = es ++ e ∷ r; functions = fs; modules = ms; bodies = bs }

abbrev put : ℕ → SourceBlock → BlockTable → BlockTable
put k e w = record w { entries = set w.entries k e }

longer : (es : List SourceBlock) (e : SourceBlock) (r : List SourceBlock) (x : SourceBlock) → (es ++ e ∷ r) ++ x ∷ [] ≡ es ++ e ∷ (r ++ x ∷ [])
longer es e r x = append_assoc es (e ∷ r) (x ∷ [])

same_length : (es : List SourceBlock) (e d : SourceBlock) (r : List SourceBlock) → length (es ++ e ∷ r) ≡ length (es ++ d ∷ r)
same_length es e d r = length-append es (e ∷ r) ∙ sym (length-append es (d ∷ r))

swapped : (es : List SourceBlock) (e d : SourceBlock) (r : List SourceBlock) (fs : List SourceFunction) (ms : List SourceModule) (bs : List ℕ) (xs : List Entity)
    → with_entities (placed es e r fs ms bs) xs ≡ put (length es) e (with_entities (placed es d r fs ms bs) xs)
swapped es e d r fs ms bs [] =
    ap (λ l. record { entries = l; functions = fs; modules = ms; bodies = bs }) (sym (set-append_seam es d r e))
swapped es e d r fs ms bs (a_block s ∷ xs) =
    let x = entry_at (length (es ++ e ∷ r)) (length fs) (length ms) s in
    let y = entry_at (length (es ++ d ∷ r)) (length fs) (length ms) s in
    ap (λ (l : List SourceBlock). with_entities (record { entries = l; functions = fs; modules = ms; bodies = bs }) xs) (longer es e r x)
    ∙ ap (λ n. with_entities (placed es e (r ++ entry_at n (length fs) (length ms) s ∷ []) fs ms bs) xs) (same_length es e d r)
    ∙ swapped es e d (r ++ y ∷ []) fs ms bs xs
    ∙ ap (λ (l : List SourceBlock). put (length es) e (with_entities (record { entries = l; functions = fs; modules = ms; bodies = bs }) xs)) (sym (longer es d r y))
swapped es e d r fs ms bs (a_function f ∷ xs) = swapped es e d r (fs ++ f ∷ []) ms bs xs
swapped es e d r fs ms bs (a_module m ∷ xs) =
    ap (λ n. with_entities (placed es e r fs (ms ++ m ∷ []) (bs ++ n ∷ [])) xs) (same_length es e d r)
    ∙ swapped es e d r fs (ms ++ m ∷ []) (bs ++ length (es ++ d ∷ r) ∷ []) xs

entry_is : (a b : SourceBlock) → a.statements ≡ b.statements → a.local ≡ b.local → a.block_end ≡ b.block_end → a ≡ b
entry_is a b s o n =
    ap (λ x. record { statements = x; local = a.local; block_end = a.block_end }) s
    ∙ ap (λ x. record { statements = b.statements; local = x; block_end = a.block_end }) o
    ∙ ap (λ x. record { statements = b.statements; local = b.local; block_end = x }) n

module _ (w : BlockTable) (s : StatementTerms) (xs : List Entity) where
  text_only : SourceBlock
  text_only = record { statements = s; local = no_locals; block_end = 0 }

  begun : BlockTable
  begun = with_entities (with_block_begun w s) xs

  far : length begun.entries ≡ length w.entries + 1 + count_blocks xs
  unfolding begun text_only
  far = omega (arith, after_entries (with_block_begun w s) xs, length-append w.entries (text_only ∷ []))

  kept : begun ≡ put (length w.entries) text_only begun
  unfolding begun text_only
  kept = swapped w.entries text_only text_only [] w.functions w.modules w.bodies xs

  there : get_or begun.entries (length w.entries) nothing_there ≡ text_only
  there = ap (λ (u : BlockTable). get_or u.entries (length w.entries) nothing_there) kept
      ∙ get_or-set_same begun.entries (length w.entries) text_only nothing_there (omega (arith, far))

  pub block_walked : (local : LocalTerms) → local ≡ locals_of_block (length w.functions) (length w.modules) s
      → count_blocks xs ≡ count_blocks (entities_in s)
      → with_block_ended (with_entities (with_block_begun w s) xs) (length w.entries) local ≡ with_entities w (a_block s ∷ xs)
  unfolding begun text_only
  block_walked local o n =
      let e = entry_at (length w.entries) (length w.functions) (length w.modules) s in
      let entry : block_with_end (get_or begun.entries (length w.entries) nothing_there) local (length begun.entries) ≡ e =
      entry_is _ e (ap (λ (x : SourceBlock). x.statements) there) o (omega (arith, far, n)) in
      ap (λ x. put (length w.entries) x begun) entry
      ∙ sym (swapped w.entries e text_only [] w.functions w.modules w.bodies xs)

-- a block's local definitions of a single instance
pub own_single : (f m : ℕ) (i : InstanceTerm) → no_locals ≡ locals_of_block f m (and_statement (InstanceStatement i) no_statements)
own_single f m i = refl

pub single_blocks : (i : InstanceTerm) → count_blocks (entities_of_instance i)
    ≡ count_blocks (entities_in (and_statement (InstanceStatement i) no_statements))
single_blocks i = ap count_blocks (sym (append-nil (entities_of_instance i)))

-- the whole walk: each part behind what was there
entries_after : (w : BlockTable) (xs : List Entity)
    → (with_entities w xs).entries ≡ w.entries ++ entries_from (length w.entries) (length w.functions) (length w.modules) xs
entries_after w [] = sym (append-nil w.entries)
entries_after w (a_block s ∷ xs) =
    let e = entry_at (length w.entries) (length w.functions) (length w.modules) s in
    entries_after (with_entity w (a_block s)) xs
    ∙ ap (λ n. (w.entries ++ e ∷ []) ++ entries_from n (length w.functions) (length w.modules) xs) (length-append w.entries (e ∷ []))
    ∙ append_assoc w.entries (e ∷ []) (entries_from (length w.entries + 1) (length w.functions) (length w.modules) xs)
entries_after w (a_function f ∷ xs) = entries_after (with_entity w (a_function f)) xs
    ∙ ap (λ n. w.entries ++ entries_from (length w.entries) n (length w.modules) xs) (length-append w.functions (f ∷ []))
entries_after w (a_module d ∷ xs) = entries_after (with_entity w (a_module d)) xs
    ∙ ap (λ n. w.entries ++ entries_from (length w.entries) (length w.functions) n xs) (length-append w.modules (d ∷ []))

functions_after : (w : BlockTable) (xs : List Entity) → (with_entities w xs).functions ≡ w.functions ++ functions_among xs
functions_after w [] = sym (append-nil w.functions)
functions_after w (a_block s ∷ xs) = functions_after (with_entity w (a_block s)) xs
functions_after w (a_function f ∷ xs) = functions_after (with_entity w (a_function f)) xs ∙ append_assoc w.functions (f ∷ []) (functions_among xs)
functions_after w (a_module d ∷ xs) = functions_after (with_entity w (a_module d)) xs

modules_after : (w : BlockTable) (xs : List Entity) → (with_entities w xs).modules ≡ w.modules ++ modules_among xs
modules_after w [] = sym (append-nil w.modules)
modules_after w (a_block s ∷ xs) = modules_after (with_entity w (a_block s)) xs
modules_after w (a_function f ∷ xs) = modules_after (with_entity w (a_function f)) xs
modules_after w (a_module d ∷ xs) = modules_after (with_entity w (a_module d)) xs ∙ append_assoc w.modules (d ∷ []) (modules_among xs)

bodies_after : (w : BlockTable) (xs : List Entity) → (with_entities w xs).bodies ≡ w.bodies ++ bodies_from (length w.entries) xs
bodies_after w [] = sym (append-nil w.bodies)
bodies_after w (a_block s ∷ xs) =
    let e = entry_at (length w.entries) (length w.functions) (length w.modules) s in
    bodies_after (with_entity w (a_block s)) xs ∙ ap (λ n. w.bodies ++ bodies_from n xs) (length-append w.entries (e ∷ []))
bodies_after w (a_function f ∷ xs) = bodies_after (with_entity w (a_function f)) xs
bodies_after w (a_module d ∷ xs) = bodies_after (with_entity w (a_module d)) xs
    ∙ append_assoc w.bodies (length w.entries ∷ []) (bodies_from (length w.entries) xs)

pub whole_text : (xs : List Entity) → with_entities empty_block_table xs ≡ record {
  entries = entries_from 0 0 0 xs;
  functions = functions_among xs;
  modules = modules_among xs;
  bodies = bodies_from 0 xs;
}
whole_text xs =
    let a = with_entities empty_block_table xs in
    ap (λ x. record { entries = x; functions = a.functions; modules = a.modules; bodies = a.bodies }) (entries_after empty_block_table xs)
    ∙ ap (λ x. record { entries = entries_from 0 0 0 xs; functions = x; modules = a.modules; bodies = a.bodies }) (functions_after empty_block_table xs)
    ∙ ap (λ x. record { entries = entries_from 0 0 0 xs; functions = functions_among xs; modules = x; bodies = a.bodies }) (modules_after empty_block_table xs)
    ∙ ap (λ x. record { entries = entries_from 0 0 0 xs; functions = functions_among xs; modules = modules_among xs; bodies = x }) (bodies_after empty_block_table xs)

-- a block that ends
pub ending : (w v u : BlockTable) (n : ℕ) (local : LocalTerms) (s : StatementTerms) (xs : List Entity)
    → u ≡ with_block_ended v n local → v ≡ with_entities (with_block_begun w s) xs → n ≡ length w.entries
    → local ≡ locals_of_block (length w.functions) (length w.modules) s → count_blocks xs ≡ count_blocks (entities_in s)
    → u ≡ with_entities w (a_block s ∷ xs)
ending w v u n local s xs e f g o m =
    e ∙ ap (λ (t : BlockTable). with_block_ended t n local) f ∙ ap (λ k. with_block_ended (with_entities (with_block_begun w s) xs) k local) g ∙ block_walked w s xs local o m

pub begun_there : (w v : BlockTable) (n : ℕ) (s : StatementTerms) (xs : List Entity) → v ≡ with_entities (with_block_begun w s) xs
    → n ≡ length w.entries → n < length v.entries
begun_there w v n s xs f g =
    let x : SourceBlock = record { statements = s; local = no_locals; block_end = 0 } in
    omega (arith, ap (λ (t : BlockTable). length t.entries) f, after_entries (with_block_begun w s) xs, length-append w.entries (x ∷ []), g)

pub joined_told : {A E : Type 0} (r : Result A E) (w v u : BlockTable) (xs ys : List Entity) → OnOk r (u ≡ with_entities v ys) → v ≡ with_entities w xs
    → OnOk r (u ≡ with_entities w (xs ++ ys))
joined_told (Ok x) w v u xs ys e f = e ∙ ap (λ (t : BlockTable). with_entities t ys) f ∙ sym (after_joined w xs ys)
joined_told (Err x) w v u xs ys e f = tt
