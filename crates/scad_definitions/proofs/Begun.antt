-- A program's blocks, functions and modules are as many as its text counts.
use Rattle.std.proofs.Common.{◌≡◌, ℕ, suc, ◌+◌, ◌<◌, ◌^◌, List, [], ◌∷◌, length, map, drop, get_or, refl, ap, ◌∙◌, arith, length-append}
use Rattle.scad_ast.specs.Terms.{StatementTerm, EmptyStatement, BlockStatement, AssignmentTerm, SpecialAssignmentTerm, ModuleTerm, FunctionTerm, InstanceStatement, StatementTerms, no_statements, and_statement, InstanceTerm, AnInstance, CoreTerm, IfTerm, IfElseTerm, ForTerm, IntersectionForTerm, ModuleCallTerm, BodyTerm, EmptyBody, BlockBody, InstanceBody, statements_from}
use Rattle.scad_ast.specs.declared.statement.Statement.{Statement}
use Rattle.scad_ast.specs.StatementView.{statement_of}
use Rattle.scad_ast.specs.Counts.{count_begun_by_statement, count_begun_by_statements, count_begun_by_instance, count_begun_by_core, count_begun_by_body}
use Rattle.scad_definitions.specs.Blocks.{Entity, a_block, a_function, a_module, entities_of, entities_in, entities_of_instance, entities_of_core, entities_of_body, no_locals, SourceBlock, entry_at, BlockTable}
use Rattle.scad_definitions.specs.Walk.{count_numbered, with_entity, with_entities, with_block_begun}
use Rattle.scad_definitions.proofs.Scans.{statements_here}

mutual
  beginnings_begun : (s : StatementTerm) → length (entities_of s) ≡ count_begun_by_statement s
  beginnings_begun (EmptyStatement at) = refl
  beginnings_begun (BlockStatement at statements) = all_begun statements
  beginnings_begun (AssignmentTerm at name value) = refl
  beginnings_begun (SpecialAssignmentTerm at name value) = refl
  beginnings_begun (ModuleTerm at name name_at params body) = ap suc (body_begun body)
  beginnings_begun (FunctionTerm at name name_at params value) = refl
  beginnings_begun (InstanceStatement instance) = instance_begun instance

  pub all_begun : (ss : StatementTerms) → length (entities_in ss) ≡ count_begun_by_statements ss
  all_begun no_statements = refl
  all_begun (and_statement s rest) = omega (arith, length-append (entities_of s) (entities_in rest), beginnings_begun s, all_begun rest)

  instance_begun : (i : InstanceTerm) → length (entities_of_instance i) ≡ count_begun_by_instance i
  instance_begun (AnInstance at modifiers core) = core_begun core

  core_begun : (c : CoreTerm) → length (entities_of_core c) ≡ count_begun_by_core c
  core_begun (IfTerm at test body) = body_begun body
  core_begun (IfElseTerm at test body other) = omega (arith, length-append (entities_of_body body) (entities_of_body other), body_begun body, body_begun other)
  core_begun (ForTerm at binders body) = body_begun body
  core_begun (IntersectionForTerm at binders body) = body_begun body
  core_begun (ModuleCallTerm at name args body) = body_begun body

  body_begun : (b : BodyTerm) → length (entities_of_body b) ≡ count_begun_by_body b
  body_begun (EmptyBody at) = refl
  body_begun (BlockBody at statements) = ap suc (all_begun statements)
  body_begun (InstanceBody instance) = ap suc (instance_begun instance)

-- ---- how much has numbers in a walk
pub numbered_entity : (w : BlockTable) (entity : Entity) → count_numbered (with_entity w entity) ≡ count_numbered w + 1
numbered_entity w (a_block s) =
    let e = entry_at (length w.entries) (length w.functions) (length w.modules) s in
    omega (arith, length-append w.entries (e ∷ []))
numbered_entity w (a_function f) = omega (arith, length-append w.functions (f ∷ []))
numbered_entity w (a_module d) = omega (arith, length-append w.modules (d ∷ []))

pub numbered_after : (w : BlockTable) (entities : List Entity) → count_numbered (with_entities w entities) ≡ count_numbered w + length entities
numbered_after w [] = omega arith
numbered_after w (entity ∷ entities) = omega (arith, numbered_after (with_entity w entity) entities, numbered_entity w entity)

pub numbered_begun : (w : BlockTable) (s : StatementTerms) → count_numbered (with_block_begun w s) ≡ count_numbered w + 1
numbered_begun w s =
    let e : SourceBlock = record { statements = s; local = no_locals; block_end = 0 } in
    omega (arith, length-append w.entries (e ∷ []))

-- a statement of those that are left has room where all of them have
pub room_here : (w v : BlockTable) (ss lent : List Statement) (all : StatementTerms) (i : ℕ) (s : Statement)
    → with_entities v (entities_in (statements_from (map statement_of (drop i ss)))) ≡ with_entities w (entities_in all)
    → count_numbered w + length (entities_in all) < 2 ^ 32
    → lent ≡ ss → i < length lent → s ≡ get_or lent i s
    → count_numbered v + length (entities_of (statement_of s)) < 2 ^ 32
room_here w v ss lent all i s told room same h e =
    let left = entities_in (statements_from (map statement_of (drop i ss))) in
    let rest = entities_in (statements_from (map statement_of (drop (i + 1) ss))) in
    let split = ap (λ l. length (entities_in l)) (statements_here ss i s (omega (arith, h, ap length same)) (e ∙ ap (λ l. get_or l i s) same))
    ∙ length-append (entities_of (statement_of s)) rest in
    omega (arith, numbered_after v left, numbered_after w (entities_in all), ap count_numbered told, split, room)
