-- What the evaluations of instances cost: what their texts and the turns and leaves meanwhile pay.
use Rattle.std.proofs.Common.{◌≡◌, ◌≤◌, refl, sym, subst, ℕ, zero, suc, ◌+◌, ◌-◌, Bool, true, false, ◌&&◌, nat_lt, nat_eq, Option, Some, None, Ok, Err, if◌then◌else◌, arith, eqb-true}
use Rattle.std.proofs.lemmas.Bool.{eqb-false}
use Rattle.std.specs.Prelude.{IfOk}
use Rattle.plain_text.specs.declared.place.Place.{Place}
use Rattle.text_place.specs.declared.fault.FaultKind.{FaultKind}
use Rattle.text_place.specs.declared.fault.FaultKind.TheVariants.{TooManyTurns}
use Rattle.scad_value.specs.Operators.{AnswerOrFault}
use Rattle.scad_func.specs.Limits.{most_turns}
use Rattle.scad_func.specs.Meaning.{Outcome, Gives, Faults, then_with, or_fault, turn, one_call_fewer}
use Rattle.scad_meaning.specs.Verdicts.{Verdict}
use Rattle.scad_meaning.specs.Meaning.{most_leaves, InstanceDesign, MemberDesigns, unless_refused, answered_with, turn_after_call, counted_call}
use Rattle.source_laws.specs.EvaluationCosts.{Cost, and_later, no_cost, one_evaluation, so_many_counted, cost_then, cost_where, cost_of_turn, cost_in_call}
use Rattle.source_laws.specs.CostsOfInstances.{cost_answered, cost_unless_refused}
use Rattle.source_laws.proofs.Costs.{nothing, Costs, turn_within}
use Rattle.source_laws.proofs.Payments.{paid, paid_deeper, paid_by, paid_up_to, product_up_to, rate_with}

-- what holds of what is given
abbrev pub Given : {A : Type 0} → (A → Type 0) → Outcome A → Type 0
Given P (Gives turns x) = P x
Given P (Faults kind at) = Unit {0}

abbrev pub design_leaves : InstanceDesign → ℕ
design_leaves result = result.leaves

abbrev pub member_leaves : MemberDesigns → ℕ
member_leaves members = members.leaves

-- so much is left over, whatever is given
abbrev pub always : {A : Type 0} → ℕ → A → ℕ
always k x = k

both : (a b c d : ℕ) → (nat_eq a b && nat_eq c d) ≡ true → (a ≡ b) × (c ≡ d)
both a b c d h = by (nat_eq a b) (nat_eq c d) refl refl h
  where
    by : (x y : Bool) → nat_eq a b ≡ x → nat_eq c d ≡ y → (x && y) ≡ true → (a ≡ b) × (c ≡ d)
    by true true p q h = (eqb-true a b p, eqb-true c d q)
    by true false p q h = absurd cc
    by false y p q h = absurd cc

not_both : (a b c d : ℕ) → (nat_eq a b && nat_eq c d) ≡ false → b ≤ a → d ≤ c → b + d + 1 ≤ a + c
not_both a b c d h k l = by (nat_eq a b) (nat_eq c d) refl refl h
  where
    by : (x y : Bool) → nat_eq a b ≡ x → nat_eq c d ≡ y → (x && y) ≡ false → b + d + 1 ≤ a + c
    by true true p q h = absurd cc
    by true false p q h = let n = eqb-false c d q in omega arith
    by false y p q h = let n = eqb-false a b p in omega arith

module _ (largest : ℕ) where
  abbrev pub Runs : {A : Type 0} → (A → ℕ) → (A → ℕ) → ℕ → ℕ → ℕ → ℕ → Cost → Outcome A → Type 0
  Runs leaves_of left calls turns leaves size taken (Gives after x) =
      (turns ≤ after) × (after ≤ most_turns) × (leaves ≤ leaves_of x) × (leaves_of x ≤ most_leaves)
      × (taken.evaluations + paid largest calls (turns + leaves) + left x ≤ size + paid largest calls (after + leaves_of x))
      × (after + leaves_of x ≡ turns + leaves + taken.counted)
  Runs leaves_of left calls turns leaves size taken (Faults kind at) =
      (turns + leaves + taken.counted ≤ most_turns + most_leaves)
      × ((all : ℕ) → turns + leaves + taken.counted + 1 ≤ all
      → taken.evaluations + paid largest calls (turns + leaves) ≤ size + paid largest calls all)

  pub run_larger : {A : Type 0} (of left : A → ℕ) (calls turns leaves size more : ℕ) (taken : Cost) (out : Outcome A) → size ≤ more
      → Runs of left calls turns leaves size taken out → Runs of left calls turns leaves more taken out
  run_larger of left calls turns leaves size more taken (Gives after x) k h = (
    h.0,
    h.1,
    h.2,
    h.3,
    let cost = h.4 in
        omega arith,
    h.5,
  )
  run_larger of left calls turns leaves size more taken (Faults kind at) k h = (h.0, λ all e. let cost = h.1 all e in omega arith)

  pub run_one_more : {A : Type 0} (of left : A → ℕ) (calls turns leaves size : ℕ) (taken : Cost) (out : Outcome A)
      → Runs of left calls turns leaves size taken out → Runs of left calls turns leaves (suc size)
      (and_later one_evaluation taken) out
  run_one_more of left calls turns leaves size taken (Gives after x) h = (
    h.0,
    h.1,
    h.2,
    h.3,
    let cost = h.4 in
        omega arith,
    let same = h.5 in omega arith,
  )
  run_one_more of left calls turns leaves size taken (Faults kind at) h =
      (let within = h.0 in omega arith, λ all e. let cost = h.1 all (omega arith) in omega arith)

  -- what is left over may be let go, or held as that much
  pub run_let_go : {A : Type 0} (of left kept : A → ℕ) (calls turns leaves size : ℕ) (taken : Cost) (out : Outcome A)
      → ((x : A) → kept x ≤ left x)
      → Runs of left calls turns leaves size taken out → Runs of kept calls turns leaves size taken out
  run_let_go of left kept calls turns leaves size taken (Gives after x) k h = (
    h.0,
    h.1,
    h.2,
    h.3,
    let less = k x in
        let cost = h.4 in omega arith,
    h.5,
  )
  run_let_go of left kept calls turns leaves size taken (Faults kind at) k h = h

  pub run_shift : {A : Type 0} (of : A → ℕ) (calls turns leaves size more : ℕ) (taken : Cost) (out : Outcome A) → size ≤ more
      → Runs of (always size) calls turns leaves size taken out → Runs of (always more) calls turns leaves more taken out
  run_shift of calls turns leaves size more taken (Gives after x) k h = (h.0, h.1, h.2, h.3, let cost = h.4 in omega arith, h.5)
  run_shift of calls turns leaves size more taken (Faults kind at) k h = (h.0, λ all e. let cost = h.1 all e in omega arith)

  run_joined : {B : Type 0} (of kept : B → ℕ) (calls turns leaves after stand s t over : ℕ) (c d : Cost) (out : Outcome B)
      → turns ≤ after → leaves ≤ stand → after + stand ≡ turns + leaves + c.counted
      → c.evaluations + paid largest calls (turns + leaves) + over ≤ s + paid largest calls (after + stand)
      → Runs of kept calls after stand (t + over) d out → Runs of kept calls turns leaves (s + t) (and_later c d) out
  run_joined of kept calls turns leaves after stand s t over c d (Gives later y) k l e h g = (
    let first = g.0 in omega arith,
    g.1,
    let second = g.2 in omega arith,
    g.3,
    let cost = g.4 in omega arith,
    let same = g.5 in
        omega arith,
  )
  run_joined of kept calls turns leaves after stand s t over c d (Faults kind at) k l e h g =
      (let within = g.0 in omega arith, λ all m. let cost = g.1 all (omega arith) in omega arith)

  pub run_then : {A B : Type 0} (from left : A → ℕ) (of kept : B → ℕ) (calls turns leaves s t : ℕ) (c : Cost) (out : Outcome A)
      (counted : ℕ → A → Cost) (go : ℕ → A → Outcome B)
      → Runs from left calls turns leaves s c out
      → ((after : ℕ) (x : A) → after ≤ most_turns → from x ≤ most_leaves
      → Runs of kept calls after (from x) (t + left x) (counted after x) (go after x))
      → Runs of kept calls turns leaves (s + t) (cost_then c out counted) (then_with out go)
  run_then from left of kept calls turns leaves s t c (Gives after x) counted go h g =
      run_joined of kept calls turns leaves after (from x) s t (left x) c (counted after x) (go after x) h.0 h.2 h.5 h.4
      (g after x h.1 h.3)
  run_then from left of kept calls turns leaves s t c (Faults kind at) counted go h g =
      (let within = h.0 in omega arith, λ all m. let cost = h.1 all (omega arith) in omega arith)

  pub run_skip : {A B : Type 0} (from : A → ℕ) (of kept : B → ℕ) (calls turns leaves s t : ℕ) (c : Cost) (out : Outcome A)
      (counted : ℕ → A → Cost) (go : ℕ → A → Outcome B)
      → Runs from nothing calls turns leaves s c out
      → ((after : ℕ) (x : A) → after ≤ most_turns → from x ≤ most_leaves
      → Runs of kept calls after (from x) t (counted after x) (go after x))
      → Runs of kept calls turns leaves (s + t) (cost_then c out counted) (then_with out go)
  run_skip from of kept calls turns leaves s t c out counted go h g =
      run_then from nothing of kept calls turns leaves s t c out counted go h (λ after x k l.
      run_larger of kept calls after (from x) t (t + 0) (counted after x) (go after x) (omega arith) (g after x k l))

  -- what is made of a result without evaluations
  pub run_map : {A B : Type 0} (from left : A → ℕ) (of kept : B → ℕ) (calls turns leaves s : ℕ) (c : Cost) (out : Outcome A)
      (f : A → B)
      → ((x : A) → (of (f x) ≡ from x) × (kept (f x) ≤ left x))
      → Runs from left calls turns leaves s c out
      → Runs of kept calls turns leaves s c (then_with out (λ turns x. Gives turns (f x)))
  run_map from left of kept calls turns leaves s c (Gives after x) f e h =
      subst (λ n. (turns ≤ after) × (after ≤ most_turns) × (leaves ≤ n) × (n ≤ most_leaves)
      × (c.evaluations + paid largest calls (turns + leaves) + kept (f x) ≤ s + paid largest calls (after + n))
      × (after + n ≡ turns + leaves + c.counted)) (sym (e x).0)
      (h.0, h.1, h.2, h.3, let less = (e x).1 in let cost = h.4 in omega arith, h.5)
  run_map from left of kept calls turns leaves s c (Faults kind at) f e h = h

  -- an expression, and what follows from its value
  pub value_then : {A B : Type 0} (P : A → Type 0) (left : A → ℕ) (of kept : B → ℕ) (calls turns leaves s t : ℕ) (c : Cost)
      (l : leaves ≤ most_leaves)
      (out : Outcome A) (counted : ℕ → A → Cost) (go : ℕ → A → Outcome B)
      → Costs (rate_with largest calls leaves) left turns s c out → Given P out
      → ((after : ℕ) (x : A) → after ≤ most_turns → P x → Runs of kept calls after leaves (t + left x) (counted after x)
      (go after x))
      → Runs of kept calls turns leaves (s + t) (cost_then c out counted) (then_with out go)
  value_then P left of kept calls turns leaves s t c l (Gives after x) counted go h p g =
      run_joined of kept calls turns leaves after leaves s t (left x) c (counted after x) (go after x) h.0 (omega arith)
      (let same = h.3 in omega arith) h.2 (g after x h.1 p)
  value_then P left of kept calls turns leaves s t c l (Faults kind at) counted go h p g = (
    let within = h.0 in omega arith,
    λ all m.
        let cost = h.1 (all - leaves) (omega arith) in
        let more = paid_up_to largest calls ((all - leaves) + leaves) all (omega arith) in omega arith,
  )

  abbrev Whatever : {A : Type 0} → A → Type 0
  Whatever x = Unit {0}

  whatever : {A : Type 0} (out : Outcome A) → Given Whatever out
  whatever (Gives turns x) = tt
  whatever (Faults kind at) = tt

  pub value_left : {A B : Type 0} (left : A → ℕ) (of kept : B → ℕ) (calls turns leaves s t : ℕ) (c : Cost)
      (l : leaves ≤ most_leaves)
      (out : Outcome A) (counted : ℕ → A → Cost) (go : ℕ → A → Outcome B)
      → Costs (rate_with largest calls leaves) left turns s c out
      → ((after : ℕ) (x : A) → after ≤ most_turns → Runs of kept calls after leaves (t + left x) (counted after x) (go after x))
      → Runs of kept calls turns leaves (s + t) (cost_then c out counted) (then_with out go)
  value_left left of kept calls turns leaves s t c l out counted go h g =
      value_then Whatever left of kept calls turns leaves s t c l out counted go h (whatever out) (λ after x k p. g after x k)

  pub value_skip : {A B : Type 0} (of kept : B → ℕ) (calls turns leaves s t : ℕ) (c : Cost) (l : leaves ≤ most_leaves)
      (out : Outcome A) (counted : ℕ → A → Cost) (go : ℕ → A → Outcome B)
      → Costs (rate_with largest calls leaves) nothing turns s c out
      → ((after : ℕ) (x : A) → after ≤ most_turns → Runs of kept calls after leaves t (counted after x) (go after x))
      → Runs of kept calls turns leaves (s + t) (cost_then c out counted) (then_with out go)
  value_skip of kept calls turns leaves s t c l out counted go h g =
      value_left nothing of kept calls turns leaves s t c l out counted go h (λ after x k.
      run_larger of kept calls after leaves t (t + 0) (counted after x) (go after x) (omega arith) (g after x k))

  -- nothing evaluated
  pub run_fault : (calls turns leaves size : ℕ) → turns ≤ most_turns → leaves ≤ most_leaves
      → (turns + leaves + 0 ≤ most_turns + most_leaves)
      × ((all : ℕ) → turns + leaves + 0 + 1 ≤ all → 0 + paid largest calls (turns + leaves) ≤ size + paid largest calls all)
  run_fault calls turns leaves size k l = (
    omega arith,
    λ all e. let more = paid_up_to largest calls (turns + leaves) all
        (omega arith) in omega arith,
  )

  pub run_nothing : (calls turns leaves size : ℕ) → turns ≤ most_turns → leaves ≤ most_leaves
      → (turns ≤ turns) × (turns ≤ most_turns) × (leaves ≤ leaves) × (leaves ≤ most_leaves)
      × (0 + paid largest calls (turns + leaves) + 0 ≤ size + paid largest calls (turns + leaves))
      × (turns + leaves ≡ turns + leaves + 0)
  run_nothing calls turns leaves size k l = (omega arith, k, omega arith, l, omega arith, omega arith)

  pub run_option : {A B : Type 0} (of left : B → ℕ) (calls turns leaves size : ℕ) (o : Option A) (kind : FaultKind) (at : Place)
      (counted : A → Cost) (go : A → Outcome B)
      → turns ≤ most_turns → leaves ≤ most_leaves → ((x : A) → Runs of left calls turns leaves size (counted x) (go x))
      → Runs of left calls turns leaves size (cost_where o counted) (or_fault o kind at go)
  run_option of left calls turns leaves size None kind at counted go k l g = run_fault calls turns leaves size k l
  run_option of left calls turns leaves size (Some x) kind at counted go k l g = g x

  pub run_answered : {A B : Type 0} (R : A → Type 0) (of left : B → ℕ) (calls turns leaves size : ℕ) (answer : AnswerOrFault A)
      (at : Place) (counted : A → Cost) (go : A → Outcome B)
      → turns ≤ most_turns → leaves ≤ most_leaves → IfOk answer R
      → ((x : A) → R x → Runs of left calls turns leaves size (counted x) (go x))
      → Runs of left calls turns leaves size (cost_answered answer counted) (answered_with answer at go)
  run_answered R of left calls turns leaves size (Ok x) at counted go k l r g = g x r
  run_answered R of left calls turns leaves size (Err kind) at counted go k l r g = run_fault calls turns leaves size k l

  pub run_checked : {A : Type 0} (of left : A → ℕ) (calls turns leaves size : ℕ) (taken : Cost) (v : Verdict) (at : Place)
      (out : Outcome A)
      → turns ≤ most_turns → leaves ≤ most_leaves → Runs of left calls turns leaves size taken out
      → Runs of left calls turns leaves size (cost_unless_refused v taken) (unless_refused v at out)
  run_checked of left calls turns leaves size taken None at out k l h = h
  run_checked of left calls turns leaves size taken (Some kind) at out k l h = run_fault calls turns leaves size k l

  pub run_test : {A : Type 0} (of left : A → ℕ) (calls turns leaves size : ℕ) (b : Bool) (c d : Cost) (one other : Outcome A)
      → Runs of left calls turns leaves size c one → Runs of left calls turns leaves size d other
      → Runs of left calls turns leaves size (if b then c else d) (if b then one else other)
  run_test of left calls turns leaves size true c d one other h g = h
  run_test of left calls turns leaves size false c d one other h g = g

  -- a turn
  turn_by : {A : Type 0} (of left : A → ℕ) (calls turns leaves size : ℕ) (b : Bool) (at : Place) (counted : Cost) (go : Outcome A)
      → turns ≤ most_turns → leaves ≤ most_leaves → (b ≡ true
      → Runs of left calls turns leaves size (and_later (so_many_counted 1) counted) go)
      → Runs of left calls turns leaves size (if b then and_later (so_many_counted 1) counted else no_cost)
      (if b then go else Faults TooManyTurns at)
  turn_by of left calls turns leaves size true at counted go k l g = g refl
  turn_by of left calls turns leaves size false at counted go k l g = run_fault calls turns leaves size k l

  pub run_turn : {A : Type 0} (of left : A → ℕ) (calls turns leaves size : ℕ) (at : Place) (counted : ℕ → Cost)
      (go : ℕ → Outcome A)
      → turns ≤ most_turns → leaves ≤ most_leaves
      → (turns + 1 ≤ most_turns → Runs of left calls turns leaves size (and_later (so_many_counted 1) (counted (turns + 1)))
      (go (turns + 1)))
      → Runs of left calls turns leaves size (cost_of_turn turns counted) (turn at turns go)
  run_turn of left calls turns leaves size at counted go k l g =
      turn_by of left calls turns leaves size (nat_lt turns most_turns) at (counted (turns + 1)) (go (turns + 1)) k l
      (λ b. g (turn_within turns b))

  -- a turn leaves over what a body costs
  pub run_later : {A : Type 0} (of : A → ℕ) (calls turns leaves size : ℕ) (taken : Cost) (out : Outcome A)
      → Runs of nothing calls (turns + 1) leaves size taken out
      → Runs of (always largest) calls turns leaves size (and_later (so_many_counted 1) taken) out
  run_later of calls turns leaves size taken (Gives after x) h =
      let step = paid_by largest calls (turns + leaves) 1 ((turns + 1) + leaves) (omega arith) in
      (let first = h.0 in omega arith, h.1, h.2, h.3, let cost = h.4 in omega arith, let same = h.5 in omega arith)
  run_later of calls turns leaves size taken (Faults kind at) h =
      let step = paid_by largest calls (turns + leaves) 1 ((turns + 1) + leaves) (omega arith) in
      (let within = h.0 in omega arith, λ all e. let cost = h.1 all (omega arith) in omega arith)

  -- one call deeper
  pub run_call : {A : Type 0} (of left : A → ℕ) (calls turns leaves size there : ℕ) (at : Place) (counted : ℕ → Cost)
      (go : ℕ → Outcome A)
      → there ≡ calls → turns ≤ most_turns → leaves ≤ most_leaves
      → ((n : ℕ) → calls ≡ suc n → Runs of left calls turns leaves size (counted n) (go n))
      → Runs of left calls turns leaves size (cost_in_call there counted) (one_call_fewer there at go)
  run_call of left calls turns leaves size zero at counted go e k l g = run_fault calls turns leaves size k l
  run_call of left calls turns leaves size (suc n) at counted go e k l g = g n (sym e)

  -- a call that counts a turn when it begins pays for its body
  pub run_deeper : {A : Type 0} (of : A → ℕ) (n calls turns leaves size : ℕ) (taken : Cost) (out : Outcome A) → calls ≡ suc n
      → turns ≤ most_turns → leaves ≤ most_leaves
      → Runs of nothing n (turns + 1) leaves (size + largest) taken out
      → Runs of nothing calls turns leaves size (and_later (so_many_counted 1) taken) out
  run_deeper of n calls turns leaves size taken (Gives after x) e k l h =
      let step = paid_by largest n (turns + leaves) 1 ((turns + 1) + leaves) (omega arith) in
      let first = h.0 in let second = h.2 in let cost = h.4 in let same = h.5 in
      let before = paid_deeper largest n calls (turns + leaves) e in
      let later = paid_deeper largest n calls (after + of x) e in
      let more = product_up_to largest (turns + leaves) (after + of x) (omega arith) in
      (omega arith, h.1, h.2, h.3, omega arith, omega arith)
  run_deeper of n calls turns leaves size taken (Faults kind at) e k l h = (
    let within = h.0 in omega arith,
    λ all m.
        let step = paid_by largest n (turns + leaves) 1 ((turns + 1) + leaves) (omega arith) in
        let before = paid_deeper largest n calls (turns + leaves) e in
        let later = paid_deeper largest n calls all e in
        let cost = h.1 all (omega arith) in
        let more = product_up_to largest (turns + leaves) all (omega arith) in omega arith,
  )

  -- a call that counts when it ends, where nothing was counted in it: what it costs is paid for by that, or by what was counted
  grown : (n calls count all cost over : ℕ) → calls ≡ suc n → count + 1 ≤ all
      → cost + paid largest n count ≤ (over + largest) + paid largest n all
      → cost + paid largest calls count ≤ over + paid largest calls all
  grown n calls count all cost over e h k =
      let before = paid_deeper largest n calls count e in
      let later = paid_deeper largest n calls all e in
      let more = product_up_to largest (count + 1) all h in omega arith

  idle_turn : (calls turns leaves size : ℕ) (taken : Cost) (b : Bool) (at : Place) (result : InstanceDesign)
      → nat_lt turns most_turns ≡ b
      → turns ≤ most_turns → leaves ≤ most_leaves → leaves ≡ result.leaves → taken.counted ≡ 0 → taken.evaluations ≤ size + largest
      → Runs design_leaves nothing calls turns leaves size (and_later taken
      (if b then and_later (so_many_counted 1) no_cost else no_cost))
      (if b then Gives (turns + 1) result else Faults TooManyTurns at)
  idle_turn calls turns leaves size taken true at result b k l same none h =
      let step = paid_by largest calls (turns + leaves) 1 ((turns + 1) + result.leaves) (omega arith) in
      (omega arith, turn_within turns b, omega arith, omega arith, omega arith, omega arith)
  idle_turn calls turns leaves size taken false at result b k l same none h = (
    omega arith,
    λ all m.
        let step = paid_by largest calls (turns + leaves) 1 ((turns + leaves) + 1) (omega arith) in
        let more = paid_up_to largest calls ((turns + leaves) + 1) all (omega arith) in omega arith,
  )

  abbrev counted_end : Bool → ℕ → Cost
  counted_end idle after = if idle then cost_of_turn after (λ turns. no_cost) else no_cost

  call_by : (n calls turns leaves after size : ℕ) (taken : Cost) (b : Bool) (at : Place) (result : InstanceDesign) → calls ≡ suc n
      → (nat_eq after turns && nat_eq result.leaves leaves) ≡ b → turns ≤ most_turns → leaves ≤ most_leaves
      → Runs design_leaves nothing n turns leaves (size + largest) taken (Gives after result)
      → Runs design_leaves nothing calls turns leaves size (and_later taken (counted_end b after))
      (turn_after_call at b after result)
  call_by n calls turns leaves after size taken true at result e b k l h =
      let same = both after turns result.leaves leaves b in
      let cost = h.4 in
      let first = same.0 in let second = same.1 in let counted = h.5 in
      let paid_here : paid largest n (after + result.leaves) ≤ paid largest n (turns + leaves) = paid_up_to largest n
      (after + result.leaves) (turns + leaves) (omega arith) in
      subst (λ t. Runs design_leaves nothing calls turns leaves size (and_later taken (counted_end true t))
      (if nat_lt t most_turns then Gives (t + 1) result else Faults TooManyTurns at)) (sym same.0)
      (idle_turn calls turns leaves size taken (nat_lt turns most_turns) at result refl k l (sym same.1) (omega arith)
      (omega arith))
  call_by n calls turns leaves after size taken false at result e b k l h =
      let first = h.0 in let second = h.2 in let cost = h.4 in
      let more = not_both after turns result.leaves leaves b first second in
      let all = grown n calls (turns + leaves) (after + result.leaves) taken.evaluations size e more (omega arith) in
      (h.0, h.1, h.2, h.3, omega arith, let same = h.5 in omega arith)

  pub run_counted : (n calls turns leaves size : ℕ) (taken : Cost) (at : Place) (out : Outcome InstanceDesign) → calls ≡ suc n
      → turns ≤ most_turns → leaves ≤ most_leaves
      → Runs design_leaves nothing n turns leaves (size + largest) taken out
      → Runs design_leaves nothing calls turns leaves size
      (cost_then taken out (λ after result. if nat_eq after turns && nat_eq result.leaves leaves then cost_of_turn after
      (λ turns. no_cost) else no_cost))
      (counted_call at turns leaves out)
  run_counted n calls turns leaves size taken at (Gives after result) e k l h =
      call_by n calls turns leaves after size taken (nat_eq after turns && nat_eq result.leaves leaves) at result e refl k l h
  run_counted n calls turns leaves size taken at (Faults kind place) e k l h = (
    let within = h.0 in omega arith,
    λ all m.
        let cost = grown n calls (turns + leaves) all taken.evaluations size e (omega arith) (h.1 all (omega arith)) in omega arith,
  )
