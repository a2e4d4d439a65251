-- Lists of values and the plain values that they stand for.
use Rattle.std.proofs.Common.{◌≡◌, ℕ, zero, suc, ◌+◌, ◌<◌, ◌≤◌, Bool, true, false, not, ◌&&◌, cond, List, [], ◌∷◌, length, refl, sym, ap, subst, ◌∙◌, arith, eqb, drop, get_or, add-one, drop-cons, append_assoc, append-nil, rules, ◌++◌, Ok, Err}
use Rattle.std.proofs.lemmas.List.{map-append}
use Rattle.std.proofs.Common.{ℤ}
use Rattle.std.specs.Prelude.{IsTrue}
use Rattle.std.proofs.lemmas.Bool.{eq-eqb, ne_eqb, and_parts}
use Rattle.scad_value.specs.declared.stop.ValueStop.{ValueStop}
use Rattle.scad_value.specs.declared.stop.ValueStop.TheVariants.{Kind, NoMemory}
use Rattle.scad_value.specs.declared.value.Value.{Value}
use Rattle.scad_value.specs.declared.value.Values.{Values}
use Rattle.scad_value.specs.declared.value.Value.TheFolds.{fold_out-Values}
use Rattle.scad_value.specs.Values.{Val, NumberVal, TruthVal, TextVal, ListVal, RangeVal, UndefVal, Vals, no_vals, and_val, vals_from, count_of, element_count_in, element_count, truth_of, are_same, all_same, has_small_numbers, have_small_numbers}
use Rattle.text_place.specs.declared.fault.FaultKind.TheVariants.{TypeMismatch}
use Rattle.scad_value.specs.Operators.{AnswerOrFault, values_in_front, if_equal, by_elements, pairs_by_elements, each_element, each_of_elements, and_then, dot_of, product_at, plus_answer, dot_row, number_answer, number_or_too_large, item_at, byte_at}
use Rattle.scad_value.specs.View.{val_of, vals_of, vals_in, value_step, values_step, MeetsAnswer, MeetsAnswers}

-- what a list in memory stands for
pub vals_out : (vs : Values) → vals_of vs ≡ vals_in vs.items.items
vals_out vs = fold_out-Values Val (List Val) value_step values_step vs

pub count_in : (vs : List Value) → count_of (vals_from (vals_in vs)) ≡ length vs
count_in [] = refl
count_in (v ∷ vs) = ap suc (count_in vs)

pub count_out : (vs : Values) → count_of (vals_from (vals_of vs)) ≡ length vs.items.items
count_out vs = ap (λ xs. count_of (vals_from xs)) (vals_out vs) ∙ count_in vs.items.items

truth_in : (vs : List Value) (n : ℕ) → n ≡ length vs → not (eqb n 0)
    ≡ truth_of (ListVal (vals_from (vals_in vs)))
truth_in [] n h = ap (λ n. not (eqb n 0)) h
truth_in (v ∷ vs) n h = ap (λ n. not (eqb n 0)) h ∙ is_some (length vs)
  where
    is_some : (n : ℕ) → not (eqb (suc n) 0) ≡ true
    is_some n = search rules

pub truth_out : (vs : Values) (n : ℕ) → n ≡ length vs.items.items → not (eqb n 0)
    ≡ truth_of (ListVal (vals_from (vals_of vs)))
truth_out vs n h = truth_in vs.items.items n h
    ∙ ap (λ xs. truth_of (ListVal (vals_from xs))) (sym (vals_out vs))

and_false : (b : Bool) → (b && false) ≡ false
and_false true = refl
and_false false = refl

-- lists of other lengths differ
apart : (vs ws : List Value) → (length vs ≡ length ws → ⊥)
    → all_same (vals_from (vals_in vs)) (vals_from (vals_in ws)) ≡ false
apart [] [] h = absurd (h refl)
apart [] (w ∷ ws) h = refl
apart (v ∷ vs) [] h = refl
apart (v ∷ vs) (w ∷ ws) h =
    ap (λ b. are_same (val_of v) (val_of w) && b) (apart vs ws (λ e. h (ap suc e)))
    ∙ and_false (are_same (val_of v) (val_of w))

pub apart_out : (vs ws : Values) → (length vs.items.items ≡ length ws.items.items → ⊥) → false
    ≡ all_same (vals_from (vals_of vs)) (vals_from (vals_of ws))
apart_out vs ws h = sym (ap (λ xs. all_same (vals_from xs) (vals_from (vals_of ws))) (vals_out vs)
    ∙ ap (λ xs. all_same (vals_from (vals_in vs.items.items)) (vals_from xs)) (vals_out ws)
    ∙ apart vs.items.items ws.items.items h)

-- the values from one on
pub from_here : (vs : List Value) (i : ℕ) (v : Value) → i < length vs → v ≡ get_or vs i v
    → vals_from (vals_in (drop i vs)) ≡ and_val (val_of v) (vals_from (vals_in (drop (i + 1) vs)))
from_here vs i v h e = ap (λ (l : List Value). vals_from (vals_in l)) (rest vs i v h e)
  where
    rest : (vs : List Value) (i : ℕ) (v : Value) → i < length vs → v ≡ get_or vs i v → drop i vs
        ≡ v ∷ drop (i + 1) vs
    rest vs i v h e = rw (add-one, drop-cons vs i v h, ← e) refl

pub from_end : (vs : List Value) (i : ℕ) → length vs ≤ i → vals_from (vals_in (drop i vs)) ≡ no_vals
from_end [] zero h = refl
from_end [] (suc i) h = refl
from_end (v ∷ vs) zero h = absurd (omega arith)
from_end (v ∷ vs) (suc i) h = from_end vs i (omega arith)

front_of_front : (xs : List Val) (y : Val) (answer : AnswerOrFault (List Val))
    → values_in_front xs (values_in_front (y ∷ []) answer) ≡ values_in_front (xs ++ y ∷ []) answer
front_of_front xs y (Ok ys) = ap (λ l. Ok l) (sym (append_assoc xs (y ∷ []) ys))
front_of_front xs y (Err kind) = refl

-- one more pair
pub pairs_more : (row : _) (vs ws items : List Value) (i : ℕ) (v w x : Value) → i < length vs
    → i < length ws → v ≡ get_or vs i v → w ≡ get_or ws i w
    → by_elements row (val_of v) (val_of w) ≡ Ok (val_of x)
    → values_in_front (vals_in items) (pairs_by_elements row (vals_from (vals_in (drop i vs))) (vals_from (vals_in
    (drop i ws))))
    ≡ values_in_front (vals_in (items ++ x ∷ [])) (pairs_by_elements row (vals_from (vals_in (drop (i + 1) vs)))
    (vals_from (vals_in (drop (i + 1) ws))))
pairs_more row vs ws items i v w x h k e f g =
    let tail = pairs_by_elements row (vals_from (vals_in (drop (i + 1) vs))) (vals_from (vals_in (drop
    (i + 1) ws))) in
    ap (λ (l : Vals). values_in_front (vals_in items) (pairs_by_elements row l (vals_from (vals_in (drop i ws)))))
    (from_here vs i v h e)
    ∙ ap (λ (l : Vals). values_in_front (vals_in items) (pairs_by_elements row (and_val (val_of v) (vals_from
    (vals_in (drop (i + 1) vs)))) l)) (from_here ws i w k f)
    ∙ ap (λ (a : AnswerOrFault Val). values_in_front (vals_in items) (and_then a (λ y. values_in_front (y ∷ []) tail))) g
    ∙ front_of_front (vals_in items) (val_of x) tail
    ∙ ap (λ l. values_in_front l tail) (sym (map-append val_of items (x ∷ [])))

pub pairs_end : (row : _) (vs items : List Value) (ws : Vals) (i : ℕ) → length vs ≤ i
    → values_in_front (vals_in items) (pairs_by_elements row (vals_from (vals_in (drop i vs))) ws)
    ≡ Ok (vals_in items)
pairs_end row vs items ws i h =
    ap (λ (l : Vals). values_in_front (vals_in items) (pairs_by_elements row l ws)) (from_end vs i h)
    ∙ ap (λ l. Ok l) (append-nil (vals_in items))

-- each part of a list: at the start, one more, a fault, and at the end
none_in_front : (answer : AnswerOrFault (List Val)) → answer ≡ values_in_front [] answer
none_in_front (Ok vs) = refl
none_in_front (Err kind) = refl

pub parts_begin : (row : _) (of : Values) (items : List Value) → items ≡ []
    → each_of_elements row (vals_from (vals_of of))
    ≡ values_in_front (vals_in items) (each_of_elements row (vals_from (vals_in of.items.items)))
parts_begin row of items e =
    ap (λ xs. each_of_elements row (vals_from xs)) (vals_out of)
    ∙ none_in_front (each_of_elements row (vals_from (vals_in of.items.items)))
    ∙ ap (λ (l : List Value). values_in_front (vals_in l) (each_of_elements row (vals_from (vals_in of.items.items)))) (sym e)

part_here : (row : _) (vs items : List Value) (i : ℕ) (v : Value) (answer : AnswerOrFault Val) → i < length vs
    → v ≡ get_or vs i v → each_element row (val_of v) ≡ answer
    → values_in_front (vals_in items) (each_of_elements row (vals_from (vals_in (drop i vs))))
    ≡ values_in_front (vals_in items) (and_then answer (λ x. values_in_front (x ∷ []) (each_of_elements row (vals_from (vals_in
    (drop (i + 1) vs))))))
part_here row vs items i v answer h e g =
    ap (λ (l : Vals). values_in_front (vals_in items) (each_of_elements row l)) (from_here vs i v h e)
    ∙ ap (λ (a : AnswerOrFault Val). values_in_front (vals_in items) (and_then a (λ x. values_in_front (x ∷ []) (each_of_elements row
    (vals_from (vals_in (drop (i + 1) vs))))))) g

pub parts_more : (row : _) (vs items : List Value) (i : ℕ) (v x : Value) → i < length vs
    → v ≡ get_or vs i v → each_element row (val_of v) ≡ Ok (val_of x)
    → values_in_front (vals_in items) (each_of_elements row (vals_from (vals_in (drop i vs))))
    ≡ values_in_front (vals_in (items ++ x ∷ [])) (each_of_elements row (vals_from (vals_in (drop (i + 1) vs))))
parts_more row vs items i v x h e g =
    let tail = each_of_elements row (vals_from (vals_in (drop (i + 1) vs))) in
    part_here row vs items i v (Ok (val_of x)) h e g
    ∙ front_of_front (vals_in items) (val_of x) tail
    ∙ ap (λ l. values_in_front l tail) (sym (map-append val_of items (x ∷ [])))

pub parts_stop : (row : _) (of : Values) (items : List Value) (i : ℕ) (v : Value) (stop : ValueStop)
    → i < length of.items.items → v ≡ get_or of.items.items i v → MeetsAnswer (Err stop) (each_element row (val_of v))
    → each_of_elements row (vals_from (vals_of of))
    ≡ values_in_front (vals_in items) (each_of_elements row (vals_from (vals_in (drop i of.items.items))))
    → MeetsAnswers (Err stop) (each_of_elements row (vals_from (vals_of of)))
parts_stop row of items i v (Kind kind) h e g told = told ∙ part_here row of.items.items items i v (Err kind) h e g
parts_stop row of items i v NoMemory h e g told = tt

pub parts_end : (row : _) (vs items : List Value) (i : ℕ) → length vs ≤ i
    → values_in_front (vals_in items) (each_of_elements row (vals_from (vals_in (drop i vs)))) ≡ Ok (vals_in items)
parts_end row vs items i h =
    ap (λ (l : Vals). values_in_front (vals_in items) (each_of_elements row l)) (from_end vs i h)
    ∙ ap (λ l. Ok l) (append-nil (vals_in items))

-- lists of one length, and of two
pub equal_counts : {A : Type 0} (vs ws : Values) (answer : AnswerOrFault A) → length vs.items.items
    ≡ length ws.items.items
    → if_equal (count_of (vals_from (vals_of vs))) (count_of (vals_from (vals_of ws))) answer ≡ answer
equal_counts vs ws answer h = ap (λ b. cond b answer (Err TypeMismatch)) (eq-eqb _ _ (count_out vs ∙ h
    ∙ sym (count_out ws)))

pub unequal_counts : {A : Type 0} (vs ws : Values) (answer : AnswerOrFault A) → (length vs.items.items
    ≡ length ws.items.items → ⊥)
    → if_equal (count_of (vals_from (vals_of vs))) (count_of (vals_from (vals_of ws))) answer
    ≡ Err TypeMismatch
unequal_counts vs ws answer h =
    ap (λ b. cond b answer (Err TypeMismatch)) (ne_eqb _ _ (λ e. h (sym (count_out vs) ∙ e ∙ count_out ws)))

-- one more product
pub dot_more : (vs ws : List Value) (i : ℕ) (v w : Value) (n : ℤ) → i < length vs → i < length ws → v
    ≡ get_or vs i v → w ≡ get_or ws i w
    → Ok n ≡ product_at (val_of v) (val_of w)
    → dot_of (vals_from (vals_in (drop i vs))) (vals_from (vals_in (drop i ws)))
    ≡ plus_answer n (dot_of (vals_from (vals_in (drop (i + 1) vs))) (vals_from (vals_in (drop (i + 1) ws))))
dot_more vs ws i v w n h k e f g =
    let tail = dot_of (vals_from (vals_in (drop (i + 1) vs))) (vals_from (vals_in (drop (i + 1) ws))) in
    ap (λ (l : Vals). dot_of l (vals_from (vals_in (drop i ws)))) (from_here vs i v h e)
    ∙ ap (λ (l : Vals). dot_of (and_val (val_of v) (vals_from (vals_in (drop (i + 1) vs)))) l)
    (from_here ws i w k f)
    ∙ ap (λ (a : AnswerOrFault ℤ). and_then a (λ n. plus_answer n tail)) (sym g)

pub length-le_parts : (vs : List Value) → length vs ≤ element_count_in (vals_from (vals_in vs))
length-le_parts [] = omega arith
length-le_parts (v ∷ vs) = omega (arith, length-le_parts vs, some_part (val_of v))
  where
    some_part : (v : Val) → 1 ≤ element_count v
    some_part (NumberVal n) = omega arith
    some_part (TruthVal b) = omega arith
    some_part (TextVal bytes) = omega arith
    some_part (ListVal items) = omega arith
    some_part (RangeVal from step to) = omega arith
    some_part UndefVal = omega arith

pub small_here : (vs : List Value) (i : ℕ) (v : Value) → i < length vs → v ≡ get_or vs i v
    → IsTrue (have_small_numbers (vals_from (vals_in (drop i vs))))
    → IsTrue (have_small_numbers (vals_from (vals_in (drop (i + 1) vs))))
small_here vs i v h e small =
    let both : IsTrue (has_small_numbers (val_of v) && have_small_numbers (vals_from (vals_in (drop
    (i + 1) vs)))) = subst (λ (l : Vals). IsTrue (have_small_numbers l)) (from_here vs i v h e) small in
    (and_parts _ _ both).1

-- two lists of numbers of one length above 0
pub dot_row_is : (vs ws : Values) → (length vs.items.items ≡ 0 → ⊥) → length vs.items.items
    ≡ length ws.items.items
    → dot_row (vals_from (vals_of vs)) (vals_from (vals_of ws))
    ≡ number_answer (and_then (dot_of (vals_from (vals_of vs)) (vals_from (vals_of ws))) number_or_too_large)
dot_row_is vs ws n e = filled (vals_from (vals_of vs)) (λ z. n (sym (count_out vs) ∙ z))
    ∙ equal_counts vs ws _ e
  where
    filled : (l : Vals) → (count_of l ≡ 0 → ⊥) → dot_row l (vals_from (vals_of ws))
        ≡ if_equal (count_of l) (count_of (vals_from (vals_of ws))) (number_answer (and_then (dot_of l (vals_from
        (vals_of ws))) number_or_too_large))
    filled no_vals h = absurd (h refl)
    filled (and_val v l) h = refl

pub dot_row_apart : (vs ws : Values) → (length vs.items.items ≡ length ws.items.items → ⊥)
    → dot_row (vals_from (vals_of vs)) (vals_from (vals_of ws)) ≡ Err TypeMismatch
dot_row_apart vs ws n = by_count (vals_from (vals_of vs)) (λ e. n (sym (count_out vs) ∙ e ∙ count_out ws))
  where
    by_count : (l : Vals) → (count_of l ≡ count_of (vals_from (vals_of ws)) → ⊥)
        → dot_row l (vals_from (vals_of ws)) ≡ Err TypeMismatch
    by_count no_vals h = refl
    by_count (and_val v l) h =
        ap (λ b. cond b (number_answer (and_then (dot_of (and_val v l) (vals_from (vals_of ws))) number_or_too_large))
        (Err TypeMismatch)) (ne_eqb _ _ h)

-- the item at a place
pub item_here : (vs : List Value) (n : ℕ) (v : Value) → n < length vs → v ≡ get_or vs n v
    → item_at (vals_from (vals_in vs)) n ≡ val_of v
item_here [] n v h e = absurd (omega arith)
item_here (w ∷ vs) zero v h e = ap val_of (sym e)
item_here (w ∷ vs) (suc n) v h e = item_here vs n v (omega arith) e

pub item_past : (vs : List Value) (n : ℕ) → length vs ≤ n → item_at (vals_from (vals_in vs)) n ≡ UndefVal
item_past [] n h = refl
item_past (w ∷ vs) zero h = absurd (omega arith)
item_past (w ∷ vs) (suc n) h = item_past vs n (omega arith)

pub byte_here : (bytes : List ℕ) (n : ℕ) → n < length bytes → byte_at bytes n
    ≡ TextVal (get_or bytes n 0 ∷ [])
byte_here [] n h = absurd (omega arith)
byte_here (x ∷ bytes) zero h = refl
byte_here (x ∷ bytes) (suc n) h = byte_here bytes n (omega arith)

pub byte_past : (bytes : List ℕ) (n : ℕ) → length bytes ≤ n → byte_at bytes n ≡ UndefVal
byte_past [] n h = refl
byte_past (x ∷ bytes) zero h = absurd (omega arith)
byte_past (x ∷ bytes) (suc n) h = byte_past bytes n (omega arith)
