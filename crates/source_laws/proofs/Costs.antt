-- What evaluations cost: each turn pays for as many evaluations as there are in the largest body, and what a text says once is
-- paid for by its size. What one step leaves over, the next may use.
use Rattle.std.proofs.Common.{◌≡◌, ◌≤◌, ◌*◌, refl, ℕ, zero, suc, ◌+◌, Bool, true, false, nat_lt, List, [], ◌∷◌, Option, Some, None, Ok, Err, if◌then◌else◌, arith, ltb-true, ltb-false, slice_set}
use Rattle.std.specs.Prelude.{IfSome}
use Rattle.plain_text.specs.declared.place.Place.{Place}
use Rattle.text_place.specs.declared.fault.FaultKind.{FaultKind}
use Rattle.text_place.specs.declared.fault.FaultKind.TheVariants.{TooManyTurns}
use Rattle.scad_value.specs.Values.{Val, NumberVal, TruthVal, TextVal, ListVal, RangeVal, UndefVal, element_count}
use Rattle.scad_value.specs.Operators.{AnswerOrFault}
use Rattle.scad_func.specs.Limits.{most_turns}
use Rattle.scad_func.specs.Meaning.{Outcome, Gives, Faults, then_with, or_fault, outcome_of_answer, turn, one_call_fewer, count_elements, count_elements_if}
use Rattle.source_laws.specs.EvaluationCosts.{Cost, and_later, no_cost, one_evaluation, so_many_counted, cost_then, cost_where, cost_of_turn, cost_in_call}
use Rattle.source_laws.specs.CostsOfExpressions.{elements_counted}

-- nothing is left over
abbrev pub nothing : {A : Type 0} → A → ℕ
nothing x = 0

-- the elements of a list, with itself
abbrev pub elements : Val → ℕ
elements (NumberVal n) = 0
elements (TruthVal truth) = 0
elements (TextVal bytes) = 0
elements (ListVal items) = element_count (ListVal items)
elements (RangeVal from step upto) = 0
elements UndefVal = 0

-- by the truth of a test
pub by_test : {A : Type 0} (P : A → Type 0) (b : Bool) (x y : A) → (b ≡ true → P x) → (b ≡ false → P y) → P (if b then x else y)
by_test P true x y f g = f refl
by_test P false x y f g = g refl

pub within_turns : (turns more : ℕ) → nat_lt most_turns (turns + more) ≡ false → turns + more ≤ most_turns
within_turns turns more h = ltb-false most_turns (turns + more) h

pub turn_within : (turns : ℕ) → nat_lt turns most_turns ≡ true → turns + 1 ≤ most_turns
turn_within turns h = let below = ltb-true turns most_turns h in omega arith

-- the size of the largest body, and what the given number of turns have paid
pub record Rate : Type 0 where
  pub largest : ℕ
  pub paid : ℕ → ℕ
  pub pays : (turns more : ℕ) → paid turns + largest * more ≤ paid (turns + more)
  pub grows : (turns all : ℕ) → turns ≤ all → paid turns ≤ paid all

module _ (rate : Rate) where
  -- an expression's evaluations cost what a text of this size and the turns meanwhile pay, and of what is given so much is left
  -- over
  abbrev pub Costs : {A : Type 0} → (A → ℕ) → ℕ → ℕ → Cost → Outcome A → Type 0
  Costs left turns size taken (Gives after x) =
      (turns ≤ after) × (after ≤ most_turns) × (taken.evaluations + rate.paid turns + left x ≤ size + rate.paid after)
      × (after ≡ turns + taken.counted)
  Costs left turns size taken (Faults kind at) =
      (turns + taken.counted ≤ most_turns) × ((all : ℕ) → turns + taken.counted ≤ all
      → taken.evaluations + rate.paid turns ≤ size + rate.paid all)

  pub larger : {A : Type 0} (left : A → ℕ) (turns size more : ℕ) (taken : Cost) (out : Outcome A) → size ≤ more
      → Costs left turns size taken out
      → Costs left turns more taken out
  larger left turns size more taken (Gives after x) k h = (h.0, h.1, let cost = h.2 in omega arith, h.3)
  larger left turns size more taken (Faults kind at) k h = (h.0, λ all e. let cost = h.1 all e in omega arith)

  -- what is left over may be let go
  pub let_go : {A : Type 0} (left : A → ℕ) (turns size : ℕ) (taken : Cost) (out : Outcome A) → Costs left turns size taken out
      → Costs nothing turns size taken out
  let_go left turns size taken (Gives after x) h = (h.0, h.1, let cost = h.2 in omega arith, h.3)
  let_go left turns size taken (Faults kind at) h = h

  -- an evaluation more
  pub one_more : {A : Type 0} (left : A → ℕ) (turns size : ℕ) (taken : Cost) (out : Outcome A) → Costs left turns size taken out
      → Costs left turns (suc size) (and_later one_evaluation taken) out
  one_more left turns size taken (Gives after x) h = (h.0, h.1, let cost = h.2 in omega arith, let same = h.3 in omega arith)
  one_more left turns size taken (Faults kind at) h = (
    let within = h.0 in
        omega arith,
    λ all e. let cost = h.1 all (omega arith) in omega arith,
  )

  joined : {A : Type 0} (left : A → ℕ) (turns after s t over : ℕ) (c d : Cost) (out : Outcome A) → turns ≤ after
      → after ≡ turns + c.counted
      → c.evaluations + rate.paid turns + over ≤ s + rate.paid after → Costs left after (t + over) d out
      → Costs left turns (s + t) (and_later c d) out
  joined left turns after s t over c d (Gives later x) k e h g =
      (let first = g.0 in omega arith, g.1, let cost = g.2 in omega arith, let same = g.3 in omega arith)
  joined left turns after s t over c d (Faults kind at) k e h g =
      (let within = g.0 in omega arith, λ all l. let cost = g.1 all (omega arith) in omega arith)

  -- one thing, and what follows from its value, which may use what was left over
  pub then_costs : {A B : Type 0} (left : A → ℕ) (kept : B → ℕ) (turns s t : ℕ) (c : Cost) (out : Outcome A)
      (counted : ℕ → A → Cost) (go : ℕ → A → Outcome B)
      → Costs left turns s c out
      → ((after : ℕ) (x : A) → after ≤ most_turns → Costs kept after (t + left x) (counted after x) (go after x))
      → Costs kept turns (s + t) (cost_then c out counted) (then_with out go)
  then_costs left kept turns s t c (Gives after x) counted go h g =
      joined kept turns after s t (left x) c (counted after x) (go after x) h.0 h.3 h.2 (g after x h.1)
  then_costs left kept turns s t c (Faults kind at) counted go h g =
      (let within = h.0 in omega arith, λ all l. let cost = h.1 all (omega arith) in omega arith)

  pub skip_costs : {A B : Type 0} (kept : B → ℕ) (turns s t : ℕ) (c : Cost) (out : Outcome A) (counted : ℕ → A → Cost)
      (go : ℕ → A → Outcome B)
      → Costs nothing turns s c out
      → ((after : ℕ) (x : A) → after ≤ most_turns → Costs kept after t (counted after x) (go after x))
      → Costs kept turns (s + t) (cost_then c out counted) (then_with out go)
  skip_costs kept turns s t c out counted go h g =
      then_costs nothing kept turns s t c out counted go h (λ after x k.
      larger kept after t (t + 0) (counted after x) (go after x) (omega arith) (g after x k))

  -- one thing, and what follows from its value without evaluations
  ended : {A : Type 0} (kept : A → ℕ) (turns after s : ℕ) (c : Cost) (out : Outcome A) → turns ≤ after → after ≡ turns + c.counted
      → c.evaluations + rate.paid turns ≤ s + rate.paid after → Costs kept after 0 no_cost out → Costs kept turns s c out
  ended kept turns after s c (Gives later x) k e h g =
      (let first = g.0 in omega arith, g.1, let cost = g.2 in omega arith, let same = g.3 in omega arith)
  ended kept turns after s c (Faults kind at) k e h g =
      (let within = g.0 in omega arith, λ all l. let cost = g.1 all (omega arith) in omega arith)

  pub end_costs : {A B : Type 0} (kept : B → ℕ) (turns s : ℕ) (c : Cost) (out : Outcome A) (go : ℕ → A → Outcome B)
      → Costs nothing turns s c out
      → ((after : ℕ) (x : A) → after ≤ most_turns → Costs kept after 0 no_cost (go after x))
      → Costs kept turns s c (then_with out go)
  end_costs kept turns s c (Gives after x) go h g = ended kept turns after s c (go after x) h.0 h.3 (let cost = h.2 in omega arith)
      (g after x h.1)
  end_costs kept turns s c (Faults kind at) go h g = h

  -- a fault that costs nothing
  pub free_fault : (turns size : ℕ) → turns ≤ most_turns
      → (turns + 0 ≤ most_turns) × ((all : ℕ) → turns + 0 ≤ all → 0 + rate.paid turns ≤ size + rate.paid all)
  free_fault turns size k = (omega arith, λ all l. let more = rate.grows turns all (omega arith) in omega arith)

  pub free_value : (turns size : ℕ) → turns ≤ most_turns
      → (turns ≤ turns) × (turns ≤ most_turns) × (0 + rate.paid turns + 0 ≤ size + rate.paid turns) × (turns ≡ turns + 0)
  free_value turns size k = (omega arith, k, omega arith, omega arith)

  pub answered : (answer : AnswerOrFault Val) (at : Place) (turns : ℕ) → turns ≤ most_turns
      → Costs nothing turns 0 no_cost (outcome_of_answer answer at turns)
  answered (Ok v) at turns k = free_value turns 0 k
  answered (Err kind) at turns k = free_fault turns 0 k

  -- what is there or not
  pub some_costs : {A B : Type 0} (P : A → Type 0) (left : B → ℕ) (turns size : ℕ) (o : Option A) (kind : FaultKind) (at : Place)
      (counted : A → Cost) (go : A → Outcome B)
      → turns ≤ most_turns → IfSome o P → ((x : A) → P x → Costs left turns size (counted x) (go x))
      → Costs left turns size (cost_where o counted) (or_fault o kind at go)
  some_costs P left turns size None kind at counted go k h g = free_fault turns size k
  some_costs P left turns size (Some x) kind at counted go k h g = g x h

  abbrev Whatever : {A : Type 0} → A → Type 0
  Whatever x = Unit {0}

  whatever : {A : Type 0} (o : Option A) → IfSome o Whatever
  whatever None = tt
  whatever (Some x) = tt

  pub option_costs : {A B : Type 0} (left : B → ℕ) (turns size : ℕ) (o : Option A) (kind : FaultKind) (at : Place)
      (counted : A → Cost) (go : A → Outcome B)
      → turns ≤ most_turns → ((x : A) → Costs left turns size (counted x) (go x))
      → Costs left turns size (cost_where o counted) (or_fault o kind at go)
  option_costs left turns size o kind at counted go k g = some_costs Whatever left turns size o kind at counted go k (whatever o)
      (λ x h. g x)

  -- by a test
  pub test_costs : {A : Type 0} (left : A → ℕ) (turns size : ℕ) (b : Bool) (c d : Cost) (one other : Outcome A)
      → Costs left turns size c one → Costs left turns size d other
      → Costs left turns size (if b then c else d) (if b then one else other)
  test_costs left turns size true c d one other h g = h
  test_costs left turns size false c d one other h g = g

  -- a turn pays for a body
  later : {A : Type 0} (left : A → ℕ) (turns size : ℕ) (taken : Cost) (out : Outcome A)
      → Costs left (turns + 1) (size + rate.largest) taken out → Costs left turns size (and_later (so_many_counted 1) taken) out
  later left turns size taken (Gives after x) h =
      let step = rate.pays turns 1 in let first = h.0 in let cost = h.2 in let same = h.3 in
      (omega arith, h.1, omega arith, omega arith)
  later left turns size taken (Faults kind at) h =
      let step = rate.pays turns 1 in (let within = h.0 in omega arith, λ all l. let cost = h.1 all (omega arith) in omega arith)

  turn_by : {A : Type 0} (left : A → ℕ) (turns size : ℕ) (b : Bool) (at : Place) (counted : Cost) (go : Outcome A)
      → turns ≤ most_turns → (b ≡ true → Costs left turns size (and_later (so_many_counted 1) counted) go)
      → Costs left turns size (if b then and_later (so_many_counted 1) counted else no_cost)
      (if b then go else Faults TooManyTurns at)
  turn_by left turns size true at counted go k g = g refl
  turn_by left turns size false at counted go k g = free_fault turns size k

  pub turn_costs : {A : Type 0} (left : A → ℕ) (turns size : ℕ) (at : Place) (counted : ℕ → Cost) (go : ℕ → Outcome A)
      → turns ≤ most_turns → (turns + 1 ≤ most_turns → Costs left (turns + 1) (size + rate.largest) (counted (turns + 1))
      (go (turns + 1)))
      → Costs left turns size (cost_of_turn turns counted) (turn at turns go)
  turn_costs left turns size at counted go k g =
      turn_by left turns size (nat_lt turns most_turns) at (counted (turns + 1)) (go (turns + 1)) k (λ b.
      later left turns size (counted (turns + 1)) (go (turns + 1)) (g (turn_within turns b)))

  -- one call deeper
  pub call_costs : {A : Type 0} (left : A → ℕ) (turns size calls : ℕ) (at : Place) (counted : ℕ → Cost) (go : ℕ → Outcome A)
      → turns ≤ most_turns → ((n : ℕ) → calls ≡ suc n → Costs left turns size (counted n) (go n))
      → Costs left turns size (cost_in_call calls counted) (one_call_fewer calls at go)
  call_costs left turns size zero at counted go k g = free_fault turns size k
  call_costs left turns size (suc calls) at counted go k g = g calls refl

  -- a value, and the turns of its elements, which are left over
  abbrev pub listed : Bool → Val → ℕ
  listed true v = rate.largest * elements v
  listed false v = 0

  elements_by : (turns after size : ℕ) (taken : Cost) (b : Bool) (at : Place) (v : Val)
      → nat_lt most_turns (after + elements v) ≡ b
      → Costs nothing turns size taken (Gives after v)
      → Costs (listed true) turns size (and_later taken (if b then no_cost else so_many_counted (elements v)))
      (if b then Faults TooManyTurns at else Gives (after + elements v) v)
  elements_by turns after size taken true at v e h = (
    let same = h.3 in let below = h.1 in omega arith,
    λ all l.
        let same = h.3 in let cost = h.2 in let more = rate.grows after all (omega arith) in omega arith,
  )
  elements_by turns after size taken false at v e h =
      let step = rate.pays after (elements v) in (
        let first = h.0 in omega arith,
        within_turns after (elements v) e,
        let cost = h.2 in omega arith,
        let same = h.3 in
            omega arith,
      )

  unlisted : (turns after size : ℕ) (taken : Cost) (v : Val) → Costs nothing turns size taken (Gives after v)
      → (turns ≤ after) × (after ≤ most_turns) × ((and_later taken no_cost).evaluations + rate.paid
      turns + rate.largest * 0 ≤ size + rate.paid after)
      × (after ≡ turns + (and_later taken no_cost).counted)
  unlisted turns after size taken v h = (h.0, h.1, let cost = h.2 in omega arith, let same = h.3 in omega arith)

  no_elements : (turns size : ℕ) (taken : Cost) → ((turns + taken.counted ≤ most_turns) × ((all : ℕ) → turns + taken.counted ≤ all
      → taken.evaluations + rate.paid turns ≤ size + rate.paid all))
      → (turns + (taken.counted + 0) ≤ most_turns) × ((all : ℕ) → turns + (taken.counted + 0) ≤ all
      → (taken.evaluations + 0) + rate.paid turns ≤ size + rate.paid all)
  no_elements turns size taken h = (let within = h.0 in omega arith, λ all l. let cost = h.1 all (omega arith) in omega arith)

  counted_elements : (at : Place) (turns size : ℕ) (taken : Cost) (out : Outcome Val) → Costs nothing turns size taken out
      → Costs (listed true) turns size (and_later taken (elements_counted true out)) (count_elements at out)
  counted_elements at turns size taken (Gives after (NumberVal n)) h = unlisted turns after size taken (NumberVal n) h
  counted_elements at turns size taken (Gives after (TruthVal truth)) h = unlisted turns after size taken (TruthVal truth) h
  counted_elements at turns size taken (Gives after (TextVal bytes)) h = unlisted turns after size taken (TextVal bytes) h
  counted_elements at turns size taken (Gives after (ListVal items)) h =
      elements_by turns after size taken (nat_lt most_turns (after + elements (ListVal items))) at (ListVal items) refl h
  counted_elements at turns size taken (Gives after (RangeVal from step upto)) h = unlisted turns after size taken
      (RangeVal from step upto) h
  counted_elements at turns size taken (Gives after UndefVal) h = unlisted turns after size taken UndefVal h
  counted_elements at turns size taken (Faults kind place) h = no_elements turns size taken h

  pub elements_cost : (counts : Bool) (at : Place) (turns size : ℕ) (taken : Cost) (out : Outcome Val)
      → Costs nothing turns size taken out
      → Costs (listed counts) turns size (and_later taken (elements_counted counts out)) (count_elements_if counts at out)
  elements_cost true at turns size taken out h = counted_elements at turns size taken out h
  elements_cost false at turns size taken (Gives after v) h = (
    h.0,
    h.1,
    let cost = h.2 in omega arith,
    let same = h.3 in
        omega arith,
  )
  elements_cost false at turns size taken (Faults kind place) h = no_elements turns size taken h

  -- what the lists among the arguments of a call have left over
  abbrev pub left_of : Option Val → ℕ
  left_of None = 0
  left_of (Some v) = listed true v

  abbrev pub left_of_bound : List (Option Val) → ℕ
  left_of_bound [] = 0
  left_of_bound (o ∷ os) = left_of o + left_of_bound os

  pub bound_more : (os : List (Option Val)) (number : ℕ) (v : Val)
      → left_of_bound (slice_set os number (Some v)) ≤ left_of_bound os + listed true v
  bound_more [] number v = omega arith
  bound_more (o ∷ os) zero v = omega arith
  bound_more (o ∷ os) (suc number) v = let rest = bound_more os number v in omega arith
