-- Where the bodies of instances stand in the text of a program.
use Rattle.std.proofs.Common.{◌≡◌, ℕ, zero, suc, ◌+◌, ◌<◌, ◌≤◌, max, Bool, true, false, List, [], ◌∷◌, ◌++◌, length, map, drop, get_or, refl, sym, ap, subst, ◌∙◌, arith, append-nil, append_assoc, add-one, drop-cons}
use Rattle.std.specs.List.{filter}
use Rattle.std.proofs.lemmas.List.Elements.{filter-append}
use Rattle.plain_text.specs.declared.place.Place.{Place}
use Rattle.scad_ast.specs.declared.statement.Statement.{Statement, Block}
use Rattle.scad_ast.specs.declared.statement.Statement.TheVariants.{rolls-Block}
use Rattle.scad_ast.specs.declared.statement.Statements.{Statements}
use Rattle.scad_ast.specs.declared.statement.Body.TheOpen.{Block as BlockIn}
use Rattle.scad_ast.specs.declared.statement.Instance.{Instance}
use Rattle.scad_ast.specs.declared.statement.Body.TheFolds.{fold_out-Instance, fold_out-Statements, fold-roll-Statement}
use Rattle.scad_ast.specs.Terms.{StatementTerm, EmptyStatement, BlockStatement, AssignmentTerm, SpecialAssignmentTerm, ModuleTerm, FunctionTerm, InstanceStatement, StatementTerms, no_statements, and_statement, statements_from, InstanceTerm, AnInstance, CoreTerm, IfTerm, IfElseTerm, ForTerm, IntersectionForTerm, ModuleCallTerm, BodyTerm, EmptyBody, BlockBody, InstanceBody}
use Rattle.scad_ast.specs.StatementView.{statement_of, statements_of, instance_of, core_of, body_step, core_step, statement_step, instance_step, statements_step}
use Rattle.scad_definitions.specs.Blocks.{Entity, a_block, a_function, a_module, entities_of, entities_in, entities_of_instance, entities_of_core, entities_of_body, count_blocks, nothing_there, BlockTable, StandAt}
use Rattle.scad_func.specs.Definitions.{statements_at, IsBlockOf, IsWholeTable}
use Rattle.scad_meaning.specs.Bodies.{is_switched_on, instances_in, instances_of, evaluated_instances}
use Rattle.scad_meaning.specs.Meaning.{core_of_instance}
use Rattle.scad_instance_rules.specs.Positions.{CoreHasBlocks, has_else}

-- counts of two texts
count_joined : (xs ys : List Entity) → count_blocks (xs ++ ys) ≡ count_blocks xs + count_blocks ys
count_joined [] ys = omega arith
count_joined (a_block s ∷ xs) ys = omega (arith, count_joined xs ys)
count_joined (a_function f ∷ xs) ys = count_joined xs ys
count_joined (a_module d ∷ xs) ys = count_joined xs ys

no_two : {A : Type 0} → ◌≡◌ {A = Bool} true false → A
no_two e = absurd (no e)
  where
    no : ◌≡◌ {A = Bool} true false → ⊥
    no e = cc

module _ (table : BlockTable) where
  -- the two parts of a text
  pub stand_front : (n : ℕ) (xs ys : List Entity) → StandAt table n (xs ++ ys) → StandAt table n xs
  stand_front n [] ys h = tt
  stand_front n (a_block s ∷ xs) ys h = (h.0, h.1, stand_front (n + 1) xs ys h.2)
  stand_front n (a_function f ∷ xs) ys h = stand_front n xs ys h
  stand_front n (a_module d ∷ xs) ys h = stand_front n xs ys h

  pub stand_behind : (n : ℕ) (xs ys : List Entity) → StandAt table n (xs ++ ys) → StandAt table (n + count_blocks xs) ys
  stand_behind n [] ys h = subst (λ k. StandAt table k ys) (omega arith) h
  stand_behind n (a_block s ∷ xs) ys h = subst (λ k. StandAt table k ys) (omega arith) (stand_behind (n + 1) xs ys h.2)
  stand_behind n (a_function f ∷ xs) ys h = stand_behind n xs ys h
  stand_behind n (a_module d ∷ xs) ys h = stand_behind n xs ys h

  abbrev pub Ends : ℕ → ℕ → Type 0
  Ends n end = (get_or table.entries n nothing_there).block_end ≡ end

  -- a body's block is there, with the body's statements
  pub body_is_there : (b : BodyTerm) (n : ℕ) → StandAt table n (entities_of_body b) → n < length table.entries
  body_is_there (EmptyBody at) n h = h.0
  body_is_there (BlockBody at inner) n h = h.0
  body_is_there (InstanceBody instance) n h = h.0

  body_stands : (b : BodyTerm) (n : ℕ) → StandAt table n (entities_of_body b) → IsBlockOf table n b
  body_stands (EmptyBody at) n h = h.1
  body_stands (BlockBody at inner) n h = h.1
  body_stands (InstanceBody instance) n h = h.1

  module _ (whole : IsWholeTable table) where
    -- a body's block ends behind all that stands in it
    ends_behind : (n : ℕ) (ss : StatementTerms) → n < length table.entries → statements_at table n ≡ ss
        → Ends n (n + 1 + count_blocks (entities_in ss))
    ends_behind n ss there h = whole.block_end n there ∙ ap (λ (s : StatementTerms). n + 1 + count_blocks (entities_in s)) h

    pub body_ends : (b : BodyTerm) (n : ℕ) → StandAt table n (entities_of_body b) → Ends n (n + count_blocks (entities_of_body b))
    body_ends (EmptyBody at) n h = ends_behind n no_statements h.0 h.1 ∙ omega arith
    body_ends (BlockBody at inner) n h = ends_behind n inner h.0 h.1 ∙ omega arith
    body_ends (InstanceBody instance) n h =
        ends_behind n (and_statement (InstanceStatement instance) no_statements) h.0 h.1
        ∙ ap (λ (xs : List Entity). n + 1 + count_blocks xs) (append-nil (entities_of_instance instance)) ∙ omega arith

    -- the second body of a choice
    other_stands : (b o : BodyTerm) (n other : ℕ) → StandAt table n (entities_of_body b ++ entities_of_body o) → Ends n other
        → StandAt table other (entities_of_body o)
    other_stands b o n other h e =
        subst (λ k. StandAt table k (entities_of_body o)) (sym (body_ends b n (stand_front n (entities_of_body b) (entities_of_body o) h)) ∙ e)
        (stand_behind n (entities_of_body b) (entities_of_body o) h)

    two_end : (b o : BodyTerm) (n other : ℕ) → StandAt table n (entities_of_body b ++ entities_of_body o) → Ends n other
        → Ends other (n + count_blocks (entities_of_body b ++ entities_of_body o))
    two_end b o n other h e =
        let first = body_ends b n (stand_front n (entities_of_body b) (entities_of_body o) h) in
        body_ends o other (other_stands b o n other h e)
        ∙ omega (arith, sym e ∙ first, count_joined (entities_of_body b) (entities_of_body o))

    -- a core's first block is there
    core_is_there : (c : CoreTerm) (n : ℕ) → StandAt table n (entities_of_core c) → n < length table.entries
    core_is_there (IfTerm at test body) n h = body_is_there body n h
    core_is_there (IfElseTerm at test body else_) n h = body_is_there body n (stand_front n (entities_of_body body) (entities_of_body else_) h)
    core_is_there (ForTerm at binders body) n h = body_is_there body n h
    core_is_there (IntersectionForTerm at binders body) n h = body_is_there body n h
    core_is_there (ModuleCallTerm at name args body) n h = body_is_there body n h

    core_blocks : (c : CoreTerm) (n other : ℕ) → StandAt table n (entities_of_core c) → Ends n other → CoreHasBlocks table c n other
    core_blocks (IfTerm at test body) n other h e = body_stands body n h
    core_blocks (IfElseTerm at test body else_) n other h e = (
      body_stands body n (stand_front n (entities_of_body body) (entities_of_body else_) h),
      body_stands else_ other (other_stands body else_ n other h e),
    )
    core_blocks (ForTerm at binders body) n other h e = body_stands body n h
    core_blocks (IntersectionForTerm at binders body) n other h e = body_stands body n h
    core_blocks (ModuleCallTerm at name args body) n other h e = body_stands body n h

    -- a core ends behind its one body, or behind the second one
    core_ends : (c : CoreTerm) (n : ℕ) → StandAt table n (entities_of_core c) → has_else c ≡ false
        → Ends n (n + count_blocks (entities_of_core c))
    core_ends (IfTerm at test body) n h not_so = body_ends body n h
    core_ends (IfElseTerm at test body else_) n h not_so = no_two not_so
    core_ends (ForTerm at binders body) n h not_so = body_ends body n h
    core_ends (IntersectionForTerm at binders body) n h not_so = body_ends body n h
    core_ends (ModuleCallTerm at name args body) n h not_so = body_ends body n h

    else_is_there : (c : CoreTerm) (n other : ℕ) → StandAt table n (entities_of_core c) → Ends n other → has_else c ≡ true
        → other < length table.entries
    else_is_there (IfTerm at test body) n other h e is_so = no_two (sym is_so)
    else_is_there (IfElseTerm at test body else_) n other h e is_so = body_is_there else_ other (other_stands body else_ n other h e)
    else_is_there (ForTerm at binders body) n other h e is_so = no_two (sym is_so)
    else_is_there (IntersectionForTerm at binders body) n other h e is_so = no_two (sym is_so)
    else_is_there (ModuleCallTerm at name args body) n other h e is_so = no_two (sym is_so)

    else_ends : (c : CoreTerm) (n other : ℕ) → StandAt table n (entities_of_core c) → Ends n other → has_else c ≡ true
        → Ends other (n + count_blocks (entities_of_core c))
    else_ends (IfTerm at test body) n other h e is_so = no_two (sym is_so)
    else_ends (IfElseTerm at test body else_) n other h e is_so = two_end body else_ n other h e
    else_ends (ForTerm at binders body) n other h e is_so = no_two (sym is_so)
    else_ends (IntersectionForTerm at binders body) n other h e is_so = no_two (sym is_so)
    else_ends (ModuleCallTerm at name args body) n other h e is_so = no_two (sym is_so)

    -- the same of an instance
    pub instance_is_there : (i : InstanceTerm) (n : ℕ) → StandAt table n (entities_of_instance i) → n < length table.entries
    instance_is_there (AnInstance at modifiers core) n h = core_is_there core n h

    pub instance_blocks : (i : InstanceTerm) (n other : ℕ) → StandAt table n (entities_of_instance i) → Ends n other
        → CoreHasBlocks table (core_of_instance i) n other
    instance_blocks (AnInstance at modifiers core) n other h e = core_blocks core n other h e

    pub instance_ends : (i : InstanceTerm) (n : ℕ) → StandAt table n (entities_of_instance i) → has_else (core_of_instance i) ≡ false
        → Ends n (n + count_blocks (entities_of_instance i))
    instance_ends (AnInstance at modifiers core) n h not_so = core_ends core n h not_so

    pub second_is_there : (i : InstanceTerm) (n other : ℕ) → StandAt table n (entities_of_instance i) → Ends n other
        → has_else (core_of_instance i) ≡ true → other < length table.entries
    second_is_there (AnInstance at modifiers core) n other h e is_so = else_is_there core n other h e is_so

    pub second_ends : (i : InstanceTerm) (n other : ℕ) → StandAt table n (entities_of_instance i) → Ends n other
        → has_else (core_of_instance i) ≡ true → Ends other (n + count_blocks (entities_of_instance i))
    second_ends (AnInstance at modifiers core) n other h e is_so = else_ends core n other h e is_so

-- the core of an instance in memory
pub core_there : (i : Instance) → core_of_instance (instance_of i) ≡ core_of i.core
core_there i = ap core_of_instance (fold_out-Instance BodyTerm CoreTerm StatementTerm InstanceTerm (List StatementTerm)
    body_step core_step statement_step instance_step statements_step i)

-- a bare block in memory, and a list of statements
pub block_form : (at : Place) (ss : Statements) → statement_of (Block at ss) ≡ BlockStatement at (statements_from (statements_of ss))
block_form at ss = ap statement_of (sym (rolls-Block at ss)) ∙ fold-roll-Statement BodyTerm CoreTerm StatementTerm InstanceTerm (List StatementTerm)
    body_step core_step statement_step instance_step statements_step (BlockIn at ss)

pub statements_listed : (ss : Statements) → statements_of ss ≡ map statement_of ss.items.items
statements_listed ss = fold_out-Statements BodyTerm CoreTerm StatementTerm InstanceTerm (List StatementTerm)
    body_step core_step statement_step instance_step statements_step ss

-- a list of statements in memory, from one on
pub statements_here : (ss : List Statement) (i : ℕ) (s : Statement) → i < length ss → s ≡ get_or ss i s
    → statements_from (map statement_of (drop i ss)) ≡ and_statement (statement_of s)
    (statements_from (map statement_of (drop (i + 1) ss)))
statements_here ss i s h e = ap (λ (l : List Statement). statements_from (map statement_of l)) (rest ss i s h e)
  where
    rest : (ss : List Statement) (i : ℕ) (s : Statement) → i < length ss → s ≡ get_or ss i s → drop i ss ≡ s ∷ drop (i + 1) ss
    rest ss i s h e = rw (add-one, drop-cons ss i s h, ← e) refl

pub statements_past : (ss : List Statement) (i : ℕ) → length ss ≤ i → statements_from (map statement_of (drop i ss)) ≡ no_statements
statements_past [] zero h = refl
statements_past [] (suc i) h = refl
statements_past (s ∷ ss) zero h = absurd (omega (arith, h))
statements_past (s ∷ ss) (suc i) h = statements_past ss i (omega (arith, h))

-- what is evaluated of a statement and of those behind it
pub evaluated_first : (s : StatementTerm) (rest : StatementTerms)
    → evaluated_instances (and_statement s rest) ≡ filter is_switched_on (instances_of s) ++ evaluated_instances rest
evaluated_first s rest = filter-append is_switched_on (instances_of s) (instances_in rest)

-- one statement more of a list, of which these are remaining
pub record RemainingStatements (table : BlockTable) (first next : ℕ) (all remaining : StatementTerms) (before now : List InstanceTerm) : Type 0 where
  pub stand : StandAt table next (entities_in remaining)
  pub count : next + count_blocks (entities_in remaining) ≡ first + count_blocks (entities_in all)
  pub found : now ++ evaluated_instances remaining ≡ before ++ evaluated_instances all

pub remaining_more : (table : BlockTable) (first next then : ℕ) (all remaining : StatementTerms) (before now later : List InstanceTerm)
    (s : StatementTerm) (rest : StatementTerms) → RemainingStatements table first next all remaining before now → remaining ≡ and_statement s rest
    → then ≡ next + count_blocks (entities_of s) → later ≡ now ++ filter is_switched_on (instances_of s)
    → RemainingStatements table first then all rest before later
remaining_more table first next then all remaining before now later s rest l e c f =
    let stand = subst (λ (ss : StatementTerms). StandAt table next (entities_in ss)) e l.stand in
    record {
      stand = subst (λ k. StandAt table k (entities_in rest)) (sym c) (stand_behind table next (entities_of s) (entities_in rest) stand);
      count = omega (
        arith,
        c,
        count_joined (entities_of s) (entities_in rest),
        ap (λ (ss : StatementTerms). next + count_blocks (entities_in ss)) (sym e) ∙ l.count,
      );
      found = ap (λ (is : List InstanceTerm). is ++ evaluated_instances rest) f
          ∙ append_assoc now (filter is_switched_on (instances_of s)) (evaluated_instances rest)
          ∙ ap (λ (is : List InstanceTerm). now ++ is) (sym (evaluated_first s rest))
          ∙ ap (λ (ss : StatementTerms). now ++ evaluated_instances ss) (sym e) ∙ l.found;
    }

pub remaining_first : (table : BlockTable) (first next : ℕ) (all remaining : StatementTerms) (before now : List InstanceTerm)
    (s : StatementTerm) (rest : StatementTerms) → RemainingStatements table first next all remaining before now → remaining ≡ and_statement s rest
    → StandAt table next (entities_of s)
remaining_first table first next all remaining before now s rest l e =
    stand_front table next (entities_of s) (entities_in rest) (subst (λ (ss : StatementTerms). StandAt table next (entities_in ss)) e l.stand)

pub remaining_none : (table : BlockTable) (first next : ℕ) (all remaining : StatementTerms) (before now : List InstanceTerm)
    → RemainingStatements table first next all remaining before now → remaining ≡ no_statements
    → (next ≡ first + count_blocks (entities_in all)) × (now ≡ before ++ evaluated_instances all)
remaining_none table first next all remaining before now l e = (
  omega (arith, ap (λ (ss : StatementTerms). next + count_blocks (entities_in ss)) (sym e) ∙ l.count),
  sym (append-nil now) ∙ ap (λ (ss : StatementTerms). now ++ evaluated_instances ss) (sym e) ∙ l.found,
)

-- the next statement of a list in memory stands where it is looked for
pub here_stands : (table : BlockTable) (first next : ℕ) (all : StatementTerms) (before now : List InstanceTerm) (ss : List Statement) (i : ℕ)
    (s : Statement) → i < length ss → s ≡ get_or ss i s
    → RemainingStatements table first next all (statements_from (map statement_of (drop i ss))) before now → StandAt table next (entities_of (statement_of s))
here_stands table first next all before now ss i s h e l =
    remaining_first table first next all _ before now (statement_of s) (statements_from (map statement_of (drop (i + 1) ss))) l
    (statements_here ss i s h e)

-- how deep bare blocks stand in one another
abbrev mutual
  pub nesting_in : StatementTerms → ℕ
  nesting_in no_statements = 0
  nesting_in (and_statement s rest) = max (nesting_of s) (nesting_in rest)

  pub nesting_of : StatementTerm → ℕ
  nesting_of (EmptyStatement at) = 0
  nesting_of (BlockStatement at statements) = suc (nesting_in statements)
  nesting_of (AssignmentTerm at name value) = 0
  nesting_of (SpecialAssignmentTerm at name value) = 0
  nesting_of (ModuleTerm at name name_at params body) = 0
  nesting_of (FunctionTerm at name name_at params value) = 0
  nesting_of (InstanceStatement instance) = 0

nested : (ss : List Statement) (i : ℕ) (s : Statement) → i < length ss → s ≡ get_or ss i s
    → nesting_of (statement_of s) ≤ nesting_in (statements_from (map statement_of ss))
nested [] i s h e = absurd (omega (arith, h))
nested (x ∷ ss) zero s h e = omega (arith, ap (λ (y : Statement). nesting_of (statement_of y)) e)
nested (x ∷ ss) (suc i) s h e = omega (arith, nested ss i s (omega (arith, h)) e)

pub nesting_here : (ss : Statements) (i : ℕ) (s : Statement) → i < length ss.items.items → s ≡ get_or ss.items.items i s
    → nesting_of (statement_of s) ≤ nesting_in (statements_from (statements_of ss))
nesting_here ss i s h e = subst (λ (xs : List StatementTerm). nesting_of (statement_of s) ≤ nesting_in (statements_from xs))
    (sym (statements_listed ss)) (nested ss.items.items i s h e)
