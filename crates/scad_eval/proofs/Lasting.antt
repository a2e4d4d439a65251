-- A loop ends: each of its steps leaves less to do, where a variable's step counts for more than all that is behind it.
use Rattle.std.proofs.Common.{◌≡◌, ℕ, zero, suc, ◌+◌, ◌*◌, ◌<◌, ◌≤◌, List, [], ◌∷◌, ◌++◌, length, sum_by, Ok, refl, ap, subst, arith}
use Rattle.std.proofs.lemmas.List.Sums.{sum_by_push}
use Rattle.std.proofs.lemmas.List.{length-map}
use Rattle.std.proofs.Math.Nat.{suc-mul, mul-le-mul}
use Rattle.plain_text.specs.declared.place.Place.{Place}
use Rattle.scad_ast.specs.declared.statement.Binder.{Binder}
use Rattle.scad_ast.specs.Terms.{BodyTerm}
use Rattle.scad_ast.specs.StatementView.{binder_of}
use Rattle.scad_value.specs.Values.{Val, Vals, no_vals, and_val, count_of}
use Rattle.scad_instance_rules.specs.declared.items.Items.{Items}
use Rattle.scad_instance_rules.specs.Items.{remaining_in}
use Rattle.scad_instance_rules.specs.declared.position.Position.{Position}
use Rattle.scad_eval.specs.declared.evaluator.InstanceEvaluator.{InstanceEvaluator}
use Rattle.scad_eval.specs.declared.open_variable.OpenVariable.{OpenVariable}
use Rattle.scad_eval.specs.declared.open_variable.Inside.{Inside}
use Rattle.scad_eval.specs.declared.open_variable.Inside.TheVariants.{Variable, Members}
use Rattle.scad_eval.specs.Variables.{most_values, IsNext, IsSameVariable, TakesStep, no_step, a_step, no_memory}

-- what the steps of the given number of variables in one another count for at most
unfoldable pub weight : ℕ → ℕ
weight zero = 1
weight (suc count) = (2 * most_values + 2) * weight count

some_weight : (count : ℕ) → 0 < weight count
unfolding weight
some_weight zero = omega arith
some_weight (suc count) = omega (arith, some_weight count)

more_weight : (count : ℕ) → weight (suc count) ≡ (2 * most_values + 2) * weight count
unfolding weight
more_weight count = refl

-- what steps with these values count for, by what is behind them
abbrev pub steps_work : Vals → ℕ → ℕ
steps_work no_vals behind = 0
steps_work (and_val value values) behind = (behind + behind) + steps_work values behind

steps_count : (values : Vals) (behind : ℕ) → steps_work values behind ≡ count_of values * (behind + behind)
steps_count no_vals behind = omega arith
steps_count (and_val value values) behind = omega (arith, steps_count values behind, suc-mul (count_of values) (behind + behind))

few_steps : (values : Vals) (behind : ℕ) → count_of values ≤ most_values → steps_work values behind ≤ most_values * (behind + behind)
few_steps values behind few =
    let all : count_of values * (behind + behind) ≤ most_values * (behind + behind) = mul-le-mul few (omega arith) in
    omega (arith, steps_count values behind, all)

abbrev behind : OpenVariable → ℕ
behind variable = weight (length variable.rest.now)

-- what is left of a variable where a step of it is under way, and of a loop inside
abbrev pub entered_work : OpenVariable → ℕ
entered_work variable = steps_work (remaining_in variable.items.remaining) (behind variable) + (behind variable + behind variable)

abbrev pub inside_work : Inside → ℕ
inside_work (Variable variable) = steps_work (remaining_in variable.items.remaining) (behind variable) + behind variable
inside_work (Members members) = 0

-- what is left of a loop
abbrev pub loop_work : List OpenVariable → Inside → ℕ
loop_work outer inside = sum_by entered_work outer + inside_work inside

next_less : (count : ℕ) (inside : Inside) → IsNext count inside → inside_work inside < weight count
next_less count (Variable variable) next =
    let n = length variable.rest.now in
    let same : suc n ≡ count = omega (arith, next.0) in
    omega (arith, few_steps (remaining_in variable.items.remaining) (weight n) next.1, some_weight n, more_weight n, ap weight same)
next_less count (Members members) next = some_weight count

-- a step that is taken
value_less : (outer after : List OpenVariable) (variable : OpenVariable) (items : Items) (value : Val) (inside : Inside)
    → remaining_in variable.items.remaining ≡ and_val value (remaining_in items.remaining) → after ≡ outer ++ (record variable { items = items } ∷ [])
    → IsNext (length variable.rest.now) inside → loop_work after inside < loop_work outer (Variable variable)
value_less outer after variable items value inside remaining waits next =
    omega (
      arith,
      ap (sum_by entered_work) waits,
      sum_by_push entered_work outer (record variable { items = items }),
      ap (λ values. steps_work values (behind variable)) remaining,
      next_less (length variable.rest.now) inside next,
    )

no_value_less : (outer after : List OpenVariable) (variable : OpenVariable) (inside : Inside) → after ≡ outer → inside ≡ Members variable.members
    → loop_work after inside < loop_work outer (Variable variable)
no_value_less outer after variable inside same is =
    omega (arith, ap (sum_by entered_work) same, ap inside_work is, some_weight (length variable.rest.now))

pub taken_less : {outer after : List OpenVariable} {old new : InstanceEvaluator} {position : Position} {place : Place} {body : BodyTerm} (variable : OpenVariable) (inside : Inside)
    → TakesStep old new position place body variable outer after (Ok inside) → loop_work after inside < loop_work outer (Variable variable)
taken_less {outer = outer} {after = after} variable inside (no_step remaining is same here) =
    let given : inside ≡ Members variable.members = cc in
    no_value_less outer after variable inside same given
taken_less {outer = outer} {after = after} variable inside (a_step b) =
    value_less outer after variable b.items b.value inside b.remaining b.waits
    (subst (λ n. IsNext n inside) (length-map variable.rest.now binder_of) b.goes.next)
taken_less variable inside (no_memory is) = absurd (cc)

-- a step has ended
pub ended_less : (outer front : List OpenVariable) (inside : Inside) (old new : OpenVariable) → outer ≡ front ++ (old ∷ []) → IsSameVariable old new
    → loop_work front (Variable new) < loop_work outer inside
ended_less outer front inside old new split same =
    let n = length old.rest.now in
    omega (
      arith,
      ap (sum_by entered_work) split,
      sum_by_push entered_work front old,
      ap (λ (items : Items). steps_work (remaining_in items.remaining) (behind new)) same.items,
      ap (λ (rest : List Binder). steps_work (remaining_in old.items.remaining) (weight (length rest))) same.rest,
      ap (λ (rest : List Binder). weight (length rest)) same.rest,
      some_weight n,
    )
