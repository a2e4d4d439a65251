-- A list of statements, from one on.
use Rattle.std.proofs.Common.{◌≡◌, ℕ, ◌+◌, ◌<◌, List, [], ◌∷◌, length, map, drop, get_or, refl, ap, add-one, drop-cons}
use Rattle.scad_ast.specs.declared.statement.Statement.{Statement}
use Rattle.scad_ast.specs.declared.statement.Body.TheFolds.{fold_out-Instance}
use Rattle.scad_ast.specs.Terms.{BodyTerm, CoreTerm, StatementTerm, InstanceTerm, and_statement, statements_from}
use Rattle.scad_ast.specs.declared.statement.Instance.{Instance}
use Rattle.scad_ast.specs.StatementView.{statement_of, instance_of, core_of, body_step, core_step, statement_step, instance_step, statements_step}
use Rattle.scad_definitions.specs.Blocks.{entities_of_instance, entities_of_core}

-- the statements from one on
pub statements_here : (ss : List Statement) (i : ℕ) (s : Statement) → i < length ss → s ≡ get_or ss i s
    → statements_from (map statement_of (drop i ss)) ≡ and_statement (statement_of s)
    (statements_from (map statement_of (drop (i + 1) ss)))
statements_here ss i s h e = ap (λ (l : List Statement). statements_from (map statement_of l))
    (rest ss i s h e)
  where
    rest : (ss : List Statement) (i : ℕ) (s : Statement) → i < length ss → s ≡ get_or ss i s →
        drop i ss ≡ s ∷ drop (i + 1) ss
    rest ss i s h e = rw (add-one, drop-cons ss i s h, ← e) refl

-- an instance begins what its core begins
pub instance_beginnings : (i : Instance) → entities_of_instance (instance_of i) ≡ entities_of_core (core_of i.core)
instance_beginnings i = ap entities_of_instance (fold_out-Instance BodyTerm CoreTerm StatementTerm InstanceTerm (List StatementTerm)
    body_step core_step statement_step instance_step statements_step i)
