-- The instances of blocks, listed once: which are children, and one block more.
use Rattle.std.proofs.Common.{◌≡◌, ℕ, suc, ◌+◌, ◌<◌, ◌≤◌, Bool, true, false, not, ◌&&◌, ◌||◌, cond, List, [], ◌∷◌, ◌++◌, length, map, get_or, Some, None, is_some, refl, sym, ap, subst, ◌∙◌, arith, codes, bytes_eq, ⊎_elim, eq-or-lt_of_le}
use Rattle.std.specs.List.{filter, All}
use Rattle.std.specs.declared.alloc.Global.{Global}
use Rattle.std.specs.declared.boxed.Box.{Box}
use Rattle.std.proofs.lemmas.List.{get_or_append_left, get_or_push, get_or_past, length_push}
use Rattle.std.proofs.lemmas.List.Elements.{All-filter, filter_agree}
use Rattle.std.proofs.lemmas.Slice.Eq.{bytes_eq-Decides}
use Rattle.scad_ast.specs.Terms.{StatementTerms, no_statements, InstanceTerm, AnInstance, CoreTerm, IfTerm, IfElseTerm, ForTerm, IntersectionForTerm, ModuleCallTerm}
use Rattle.scad_definitions.specs.Blocks.{BlockTable, SourceBlock, nothing_there}
use Rattle.scad_func.specs.Meaning.{Env, visible_module}
use Rattle.scad_func.specs.Definitions.{statements_at}
use Rattle.scad_meaning.specs.Bodies.{has_no_geometry, is_child, evaluated_instances, children_in}
use Rattle.scad_instance_rules.specs.declared.numbered.NumberedInstance.{NumberedInstance}
use Rattle.scad_instance_rules.specs.declared.table.BlockInstances.{BlockInstances}
use Rattle.scad_instance_rules.specs.declared.table.ChildLists.{ChildLists}
use Rattle.scad_instance_rules.specs.declared.table.InstanceTable.{InstanceTable}
use Rattle.scad_instance_rules.specs.Positions.{term_of_numbered, HasBlocks, HaveBodyBlocks}
use Rattle.scad_instance_rules.specs.Listing.{is_call_of_either, is_child_where, is_numbered_child, AreChildLists, ListsInstances, AreInstancesOf}
use Rattle.scad_instance_rules.proofs.KeptChildren.{map_filtered}

-- where calls of neither are left out, all instances are children
core_of_neither : (core : CoreTerm) → not (is_call_of_either false false core) ≡ true
core_of_neither (IfTerm at test body) = refl
core_of_neither (IfElseTerm at test body other) = refl
core_of_neither (ForTerm at binders body) = refl
core_of_neither (IntersectionForTerm at binders body) = refl
core_of_neither (ModuleCallTerm at name args body) = refl

child_of_neither : (i : InstanceTerm) → is_child_where false false i ≡ true
child_of_neither (AnInstance at modifiers core) = core_of_neither core

-- where calls of one are left out, what is a child where both are is one
fewer : (e a x y : Bool) → not ((true && x) || (true && y)) ≡ true → not ((e && x) || (a && y)) ≡ true
fewer true true x y h = h
fewer true false true y h = h
fewer true false false y h = refl
fewer false true true true h = h
fewer false true false true h = h
fewer false true x false h = refl
fewer false false x y h = refl

core_of_fewer : (e a : Bool) (core : CoreTerm) → not (is_call_of_either true true core) ≡ true → not (is_call_of_either e a core) ≡ true
core_of_fewer e a (IfTerm at test body) h = refl
core_of_fewer e a (IfElseTerm at test body other) h = refl
core_of_fewer e a (ForTerm at binders body) h = refl
core_of_fewer e a (IntersectionForTerm at binders body) h = refl
core_of_fewer e a (ModuleCallTerm at name args body) h = fewer e a (bytes_eq name (codes "echo")) (bytes_eq name (codes "assert")) h

child_of_fewer : (e a : Bool) (i : InstanceTerm) → is_child_where true true i ≡ true → is_child_where e a i ≡ true
child_of_fewer e a (AnInstance at modifiers core) h = core_of_fewer e a core h

-- what each item passes leaves out none
all_pass : {A : Type 0} (q : A → Bool) → ((x : A) → q x ≡ true) → (xs : List A) → xs ≡ filter q xs
all_pass q pass [] = refl
all_pass q pass (x ∷ xs) = ap (λ ys. x ∷ ys) (all_pass q pass xs) ∙ ap (λ b. cond b (x ∷ filter q xs) (filter q xs)) (sym (pass x))

kept_length : {A : Type 0} (p : A → Bool) (xs : List A) → length (filter p xs) ≤ length xs
kept_length p [] = omega arith
kept_length p (x ∷ xs) = by_test (p x) (kept_length p xs)
  where
    by_test : (b : Bool) → length (filter p xs) ≤ length xs → length (cond b (x ∷ filter p xs) (filter p xs)) ≤ suc (length xs)
    by_test true h = omega (arith, h)
    by_test false h = omega (arith, h)

-- where as many are kept as there are, a weaker test leaves out none
none_left_out : {A : Type 0} (p q : A → Bool) → ((x : A) → p x ≡ true → q x ≡ true) → (xs : List A)
    → length (filter p xs) ≡ length xs → xs ≡ filter q xs
none_left_out p q more [] h = refl
none_left_out p q more (x ∷ xs) h = by_test (none_left_out p q more xs) (p x) refl
  where
    by_test : (length (filter p xs) ≡ length xs → xs ≡ filter q xs) → (b : Bool) → p x ≡ b → x ∷ xs ≡ filter q (x ∷ xs)
    by_test behind true e =
        let rest : length (filter p xs) ≡ length xs = omega (arith, ap (λ b. length (cond b (x ∷ filter p xs) (filter p xs))) (sym e) ∙ h) in
        ap (λ ys. x ∷ ys) (behind rest) ∙ ap (λ b. cond b (x ∷ filter q xs) (filter q xs)) (sym (more x e))
    by_test behind false e =
        absurd (omega (arith, ap (λ b. length (cond b (x ∷ filter p xs) (filter p xs))) (sym e) ∙ h, kept_length p xs))

-- where no instance is a call of `echo` or of `assert`, no lists are needed
pub no_lists : (all without_either : List NumberedInstance) → without_either ≡ filter (is_numbered_child true true) all
    → length without_either ≡ length all → AreChildLists all None
no_lists all without_either is same = λ e a.
    none_left_out (is_numbered_child true true) (is_numbered_child e a) (λ numbered. child_of_fewer e a (term_of_numbered numbered)) all
    (ap length (sym is) ∙ same)

-- the three lists
pub three_lists : (all : List NumberedInstance) (kept : Box ChildLists Global) (lists : ChildLists) → kept.value ≡ lists
    → lists.without_echo.items ≡ filter (is_numbered_child true false) all → lists.without_assert.items ≡ filter (is_numbered_child false true) all
    → lists.without_either.items ≡ filter (is_numbered_child true true) all → AreChildLists all (Some kept)
three_lists all kept lists is echo assert either true true = ap (λ (x : ChildLists). x.without_either.items) is ∙ either
three_lists all kept lists is echo assert either true false = ap (λ (x : ChildLists). x.without_echo.items) is ∙ echo
three_lists all kept lists is echo assert either false true = ap (λ (x : ChildLists). x.without_assert.items) is ∙ assert
three_lists all kept lists is echo assert either false false =
    all_pass (is_numbered_child false false) (λ numbered. child_of_neither (term_of_numbered numbered)) all

-- children with the blocks of their bodies
pub children_blocks : (table : BlockTable) (body : StatementTerms) (e a : Bool) (all found : List NumberedInstance)
    → HaveBodyBlocks table (evaluated_instances body) all → found ≡ filter (is_numbered_child e a) all
    → HaveBodyBlocks table (filter (is_child_where e a) (evaluated_instances body)) found
children_blocks table body e a all found have is = record {
  found = ap (map term_of_numbered) is ∙ map_filtered term_of_numbered (is_child_where e a) all ∙ ap (filter (is_child_where e a)) have.found;
  blocks = subst (All (HasBlocks table)) (sym is) (All-filter (is_numbered_child e a) (HasBlocks table) all have.blocks);
}

-- a block that isn't there has no instances
pub none_there : (table : BlockTable) (instances : InstanceTable) (block : ℕ) → AreInstancesOf table instances → length instances.blocks.items ≤ block
    → statements_at table block ≡ no_statements
none_there table instances block listed past =
    ap (λ (entry : SourceBlock). entry.statements) (get_or_past table.entries block nothing_there (omega (arith, listed.count, past)))

-- the lists of one block more
pub listed_more : (table : BlockTable) (xs ys : List BlockInstances) (x : BlockInstances) → ys ≡ xs ++ x ∷ []
    → ((n : ℕ) (d : BlockInstances) → n < length xs → ListsInstances table (statements_at table n) (get_or xs n d))
    → ListsInstances table (statements_at table (length xs)) x
    → (n : ℕ) (d : BlockInstances) → n < length ys → ListsInstances table (statements_at table n) (get_or ys n d)
listed_more table xs ys x is each new n d h =
    subst (λ l. ListsInstances table (statements_at table n) (get_or l n d)) (sym is)
    (⊎_elim here before (eq-or-lt_of_le (omega (arith, ap length is, length_push xs x))))
  where
    here : n ≡ length xs → ListsInstances table (statements_at table n) (get_or (xs ++ x ∷ []) n d)
    here e = subst (ListsInstances table (statements_at table n)) (sym (get_or_push xs x d n (sym e)))
        (subst (λ m. ListsInstances table (statements_at table m) x) (sym e) new)

    before : n < length xs → ListsInstances table (statements_at table n) (get_or (xs ++ x ∷ []) n d)
    before k = subst (ListsInstances table (statements_at table n)) (sym (get_or_append_left xs (x ∷ []) d n k)) (each n d k)

-- which calls are none is told by the modules that are seen
silent : (env : Env) (name : List ℕ) → (b c : Bool) → bytes_eq name (codes "echo") ≡ b → bytes_eq name (codes "assert") ≡ c
    → ((not (is_some (visible_module env (codes "echo"))) && b) || (not (is_some (visible_module env (codes "assert"))) && c))
    ≡ ((b || c) && not (is_some (visible_module env name)))
silent env name true c be bc =
    let name_is : name ≡ codes "echo" = (bytes_eq-Decides name (codes "echo")).0 be in
    let other : c ≡ false = sym bc ∙ ap (λ (l : List ℕ). bytes_eq l (codes "assert")) name_is in
    ap (λ c. (not (is_some (visible_module env (codes "echo"))) && true) || (not (is_some (visible_module env (codes "assert"))) && c)) other
    ∙ first (not (is_some (visible_module env (codes "echo")))) (not (is_some (visible_module env (codes "assert"))))
    ∙ ap (λ (l : List ℕ). not (is_some (visible_module env l))) (sym name_is)
  where
    first : (e a : Bool) → ((e && true) || (a && false)) ≡ e
    first true true = refl
    first true false = refl
    first false true = refl
    first false false = refl
silent env name false true be bc =
    let name_is : name ≡ codes "assert" = (bytes_eq-Decides name (codes "assert")).0 bc in
    second (not (is_some (visible_module env (codes "echo")))) (not (is_some (visible_module env (codes "assert"))))
    ∙ ap (λ (l : List ℕ). not (is_some (visible_module env l))) (sym name_is)
  where
    second : (e a : Bool) → ((e && false) || (a && true)) ≡ a
    second true true = refl
    second true false = refl
    second false true = refl
    second false false = refl
silent env name false false be bc = neither (not (is_some (visible_module env (codes "echo")))) (not (is_some (visible_module env (codes "assert"))))
  where
    neither : (e a : Bool) → ((e && false) || (a && false)) ≡ false
    neither true true = refl
    neither true false = refl
    neither false true = refl
    neither false false = refl

abbrev echo_hidden : Env → Bool
echo_hidden env = not (is_some (visible_module env (codes "echo")))

abbrev assert_hidden : Env → Bool
assert_hidden env = not (is_some (visible_module env (codes "assert")))

core_seen : (env : Env) (core : CoreTerm) → not (is_call_of_either (echo_hidden env) (assert_hidden env) core) ≡ not (has_no_geometry env core)
core_seen env (IfTerm at test body) = refl
core_seen env (IfElseTerm at test body other) = refl
core_seen env (ForTerm at binders body) = refl
core_seen env (IntersectionForTerm at binders body) = refl
core_seen env (ModuleCallTerm at name args body) = ap not (silent env name _ _ refl refl)

child_seen : (env : Env) (i : InstanceTerm) → is_child_where (echo_hidden env) (assert_hidden env) i ≡ is_child env i
child_seen env (AnInstance at modifiers core) = core_seen env core

pub children_seen : (env : Env) (e a : Bool) (table : BlockTable) (body : StatementTerms) (found : List NumberedInstance)
    → e ≡ echo_hidden env → a ≡ assert_hidden env
    → HaveBodyBlocks table (filter (is_child_where e a) (evaluated_instances body)) found → HaveBodyBlocks table (children_in env body) found
children_seen env e a table body found echo assert have =
    subst (λ l. HaveBodyBlocks table l found)
    (ap (λ e. filter (is_child_where e a) (evaluated_instances body)) echo
    ∙ ap (λ a. filter (is_child_where (echo_hidden env) a) (evaluated_instances body)) assert
    ∙ filter_agree (is_child_where (echo_hidden env) (assert_hidden env)) (is_child env) (child_seen env) (evaluated_instances body)) have
