-- What is evaluated of statements is no larger than they are: their assignments, each name once, and their instances.
use Rattle.std.proofs.Common.{◌≡◌, ◌≤◌, ◌<◌, ◌*◌, ℕ, zero, suc, ◌+◌, Bool, true, false, cond, List, [], ◌∷◌, ◌++◌, length, take, drop, ℤ, pos, negsuc, ◌+ℤ◌, ◌<ℤ◌, if◌then◌else◌, arith}
use Rattle.std.specs.Prelude.{filter}
use Rattle.std.proofs.lemmas.Int.{ints}
use Rattle.scad_ast.specs.Terms.{StatementTerm, EmptyStatement, BlockStatement, AssignmentTerm, SpecialAssignmentTerm, ModuleTerm, FunctionTerm, InstanceStatement, StatementTerms, no_statements, and_statement, InstanceTerm}
use Rattle.scad_definitions.specs.Blocks.{SourceAssignment, same_assigned_name, with_assigned, assignments_with_all, assignments_in, assignments_by, assignments_of}
use Rattle.scad_func.specs.Meaning.{Env}
use Rattle.scad_modules.specs.Effects.{ChosenCall, all_children, numbered_children, ranged_children}
use Rattle.scad_meaning.specs.Bodies.{instances_in, instances_of, is_switched_on, evaluated_instances, is_child, children_in}
use Rattle.scad_meaning.specs.Loops.{count_of_range, numbers_by, numbers_of_range, nth_item, item_numbered, items_numbered}
use Rattle.scad_meaning.specs.Meaning.{candidates_of}
use Rattle.source_laws.specs.Sizes.{size_of_term, size_of_statement, size_of_statements, size_of_instance}

abbrev pub size_of_instances : List InstanceTerm → ℕ
size_of_instances [] = 0
size_of_instances (instance ∷ instances) = size_of_instance instance + size_of_instances instances

abbrev pub size_of_assignments : List SourceAssignment → ℕ
size_of_assignments [] = 0
size_of_assignments (assignment ∷ assignments) = suc (size_of_term assignment.value) + size_of_assignments assignments

joined_instances : (xs ys : List InstanceTerm) → size_of_instances (xs ++ ys) ≡ size_of_instances xs + size_of_instances ys
joined_instances [] ys = omega arith
joined_instances (x ∷ xs) ys = let rest = joined_instances xs ys in omega arith

joined_assignments : (xs ys : List SourceAssignment) → size_of_assignments
    (xs ++ ys) ≡ size_of_assignments xs + size_of_assignments ys
joined_assignments [] ys = omega arith
joined_assignments (x ∷ xs) ys = let rest = joined_assignments xs ys in omega arith

-- a block's assignments and instances stand in it
mutual
  block_size : (ss : StatementTerms) → size_of_assignments (assignments_in ss) + size_of_instances
      (instances_in ss) ≤ size_of_statements ss
  block_size no_statements = omega arith
  block_size (and_statement s rest) =
      let first = statement_size s in
      let others = block_size rest in
      let a = joined_assignments (assignments_by s) (assignments_in rest) in
      let b = joined_instances (instances_of s) (instances_in rest) in omega arith

  statement_size : (s : StatementTerm) → size_of_assignments (assignments_by s) + size_of_instances
      (instances_of s) ≤ size_of_statement s
  statement_size (EmptyStatement at) = omega arith
  statement_size (BlockStatement at inner) = block_size inner
  statement_size (AssignmentTerm at name value) = omega arith
  statement_size (SpecialAssignmentTerm at name value) = omega arith
  statement_size (ModuleTerm at name name_at params body) = omega arith
  statement_size (FunctionTerm at name name_at params value) = omega arith
  statement_size (InstanceStatement instance) = omega arith

-- each name once
with_size : (before : List SourceAssignment) (a : SourceAssignment)
    → size_of_assignments (with_assigned before a) ≤ size_of_assignments before + suc (size_of_term a.value)
with_size [] a = omega arith
with_size (known ∷ others) a = by (same_assigned_name known a) (with_size others a)
  where
    by : (b : Bool) → size_of_assignments (with_assigned others a) ≤ size_of_assignments others + suc (size_of_term a.value)
        → size_of_assignments (if b then record known { value = a.value } ∷ others else known ∷ with_assigned others a)
        ≤ size_of_assignments (known ∷ others) + suc (size_of_term a.value)
    by true rest = omega arith
    by false rest = omega arith

all_size : (before rest : List SourceAssignment) → size_of_assignments
    (assignments_with_all before rest) ≤ size_of_assignments before + size_of_assignments rest
all_size before [] = omega arith
all_size before (a ∷ rest) =
    let first = with_size before a in let others = all_size (with_assigned before a) rest in omega arith

pub scope_size : (ss : StatementTerms) → size_of_assignments (assignments_of ss) + size_of_instances
    (instances_in ss) ≤ size_of_statements ss
scope_size ss = let all = all_size [] (assignments_in ss) in let block = block_size ss in omega arith

-- those that pass a test
filtered_size : (test : InstanceTerm → Bool) (xs : List InstanceTerm) → size_of_instances (filter test xs) ≤ size_of_instances xs
filtered_size test [] = omega arith
filtered_size test (x ∷ xs) = by (test x) (filtered_size test xs)
  where
    by : (b : Bool) → size_of_instances (filter test xs) ≤ size_of_instances xs
        → size_of_instances (cond b (x ∷ filter test xs) (filter test xs)) ≤ size_of_instance x + size_of_instances xs
    by true rest = omega arith
    by false rest = omega arith

pub evaluated_size : (ss : StatementTerms) → size_of_instances (evaluated_instances ss) ≤ size_of_instances (instances_in ss)
evaluated_size ss = filtered_size is_switched_on (instances_in ss)

pub children_size : (env : Env) (ss : StatementTerms) → size_of_instances (children_in env ss) ≤ size_of_instances (instances_in ss)
children_size env ss =
    let some = filtered_size (is_child env) (evaluated_instances ss) in let on = evaluated_size ss in omega arith

pub candidates_size : (env : Env) (chosen : ChosenCall) (ss : StatementTerms)
    → size_of_instances (candidates_of env chosen ss) ≤ size_of_instances (instances_in ss)
candidates_size env all_children ss = evaluated_size ss
candidates_size env (numbered_children numbers) ss = children_size env ss
candidates_size env (ranged_children from step upto) ss = children_size env ss

-- those of a number
nth_size : (xs : List InstanceTerm) (n : ℕ) → size_of_instances (nth_item xs n) ≤ size_of_instances xs
nth_size [] n = omega arith
nth_size (x ∷ xs) zero = omega arith
nth_size (x ∷ xs) (suc n) = let rest = nth_size xs n in omega arith

item_size : (xs : List InstanceTerm) (z : ℤ) → size_of_instances (item_numbered xs z) ≤ size_of_instances xs
item_size xs (pos n) = nth_size xs n
item_size xs (negsuc n) = omega arith

pub items_size : (xs : List InstanceTerm) (ns : List ℤ) → size_of_instances
    (items_numbered xs ns) ≤ size_of_instances xs * length ns
items_size xs [] = omega arith
items_size xs (n ∷ ns) =
    let one = item_size xs n in
    let rest = items_size xs ns in
    let all = joined_instances (item_numbered xs n) (items_numbered xs ns) in omega arith

-- those of a range, upwards: each number stands behind the one before it
dropped_size : (xs : List InstanceTerm) (m : ℕ) → size_of_instances (drop m xs) ≤ size_of_instances xs
dropped_size xs zero = omega arith
dropped_size [] (suc m) = omega arith
dropped_size (x ∷ xs) (suc m) = let rest = dropped_size xs m in omega arith

nth_before : (xs : List InstanceTerm) (n m : ℕ) → n < m → size_of_instances (nth_item xs n) + size_of_instances
    (drop m xs) ≤ size_of_instances (drop n xs)
nth_before [] zero zero h = omega arith
nth_before [] zero (suc m) h = omega arith
nth_before [] (suc n) zero h = omega arith
nth_before [] (suc n) (suc m) h = omega arith
nth_before (x ∷ xs) zero zero h = absurd (omega arith)
nth_before (x ∷ xs) zero (suc m) h = let rest = dropped_size xs m in omega arith
nth_before (x ∷ xs) (suc n) zero h = absurd (omega arith)
nth_before (x ∷ xs) (suc n) (suc m) h = nth_before xs n m (omega arith)

abbrev behind : List InstanceTerm → ℤ → List InstanceTerm
behind xs (pos n) = drop n xs
behind xs (negsuc n) = xs

behind_size : (xs : List InstanceTerm) (z : ℤ) → size_of_instances (behind xs z) ≤ size_of_instances xs
behind_size xs (pos n) = dropped_size xs n
behind_size xs (negsuc n) = omega arith

later_behind : (xs : List InstanceTerm) (z w : ℤ) → z <ℤ w → size_of_instances (item_numbered xs z) + size_of_instances
    (behind xs w) ≤ size_of_instances (behind xs z)
later_behind xs (pos n) (pos m) h = nth_before xs n m (omega (arith, ints))
later_behind xs (pos n) (negsuc m) h = absurd (omega (arith, ints))
later_behind xs (negsuc n) w h = let all = behind_size xs w in omega arith

rising_size : (xs : List InstanceTerm) (count s : ℕ) (z : ℤ)
    → size_of_instances (items_numbered xs (numbers_by count z (pos (suc s)))) ≤ size_of_instances (behind xs z)
rising_size xs zero s z = omega arith
rising_size xs (suc count) s z =
    let rest = rising_size xs count s (z +ℤ pos (suc s)) in
    let first = later_behind xs z (z +ℤ pos (suc s)) (omega (arith, ints)) in
    let all = joined_instances (item_numbered xs z) (items_numbered xs (numbers_by count (z +ℤ pos (suc s)) (pos (suc s)))) in
    omega arith

-- downwards: each number stands before it
taken_size : (xs : List InstanceTerm) (n : ℕ) → size_of_instances (take n xs) ≤ size_of_instances xs
taken_size xs zero = omega arith
taken_size [] (suc n) = omega arith
taken_size (x ∷ xs) (suc n) = let rest = taken_size xs n in omega arith

nth_in_front : (xs : List InstanceTerm) (n : ℕ) → size_of_instances (nth_item xs n) ≤ size_of_instances (take (suc n) xs)
nth_in_front [] n = omega arith
nth_in_front (x ∷ xs) zero = omega arith
nth_in_front (x ∷ xs) (suc n) = let rest = nth_in_front xs n in omega arith

nth_last : (xs : List InstanceTerm) (n m : ℕ) → m < n → size_of_instances (nth_item xs n) + size_of_instances
    (take (suc m) xs) ≤ size_of_instances (take (suc n) xs)
nth_last [] n m h = omega arith
nth_last (x ∷ xs) zero m h = absurd (omega arith)
nth_last (x ∷ xs) (suc n) zero h = let rest = nth_in_front xs n in omega arith
nth_last (x ∷ xs) (suc n) (suc m) h = let rest = nth_last xs n m (omega arith) in omega arith

abbrev up_to : List InstanceTerm → ℤ → List InstanceTerm
up_to xs (pos n) = take (suc n) xs
up_to xs (negsuc n) = []

earlier_up_to : (xs : List InstanceTerm) (z w : ℤ) → w <ℤ z → size_of_instances (item_numbered xs z) + size_of_instances
    (up_to xs w) ≤ size_of_instances (up_to xs z)
earlier_up_to xs (pos n) (pos m) h = nth_last xs n m (omega (arith, ints))
earlier_up_to xs (pos n) (negsuc m) h = let one = nth_in_front xs n in omega arith
earlier_up_to xs (negsuc n) (pos m) h = absurd (omega (arith, ints))
earlier_up_to xs (negsuc n) (negsuc m) h = omega arith

falling_size : (xs : List InstanceTerm) (count s : ℕ) (z : ℤ)
    → size_of_instances (items_numbered xs (numbers_by count z (negsuc s))) ≤ size_of_instances (up_to xs z)
falling_size xs zero s z = omega arith
falling_size xs (suc count) s z =
    let rest = falling_size xs count s (z +ℤ negsuc s) in
    let first = earlier_up_to xs z (z +ℤ negsuc s) (omega (arith, ints)) in
    let all = joined_instances (item_numbered xs z) (items_numbered xs (numbers_by count (z +ℤ negsuc s) (negsuc s))) in omega arith

up_to_size : (xs : List InstanceTerm) (z : ℤ) → size_of_instances (up_to xs z) ≤ size_of_instances xs
up_to_size xs (pos n) = taken_size xs (suc n)
up_to_size xs (negsuc n) = omega arith

pub ranged_size : (xs : List InstanceTerm) (from step upto : ℤ)
    → size_of_instances (items_numbered xs (numbers_of_range from step upto)) ≤ size_of_instances xs
ranged_size xs from (pos zero) upto = omega arith
ranged_size xs from (pos (suc s)) upto =
    let all = rising_size xs (count_of_range from (pos (suc s)) upto) s from in let some = behind_size xs from in omega arith
ranged_size xs from (negsuc s) upto =
    let all = falling_size xs (count_of_range from (negsuc s) upto) s from in let some = up_to_size xs from in omega arith
