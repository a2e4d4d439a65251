-- What a run costs, up to its end or its first fault: how many evaluations it takes, and how many turns and leaves it counts.
use Rattle.std.specs.Prelude.{◌≤◌, ℕ, zero, suc, ◌+◌, ◌*◌, Option, Some, None, nat_lt, if◌then◌else◌}
use Rattle.scad_func.specs.Limits.{most_calls, most_turns}
use Rattle.scad_func.specs.Meaning.{Outcome, Gives, Faults}

-- evaluations, and the turns and leaves meanwhile
pub record Cost : Type 0 where
  pub evaluations : ℕ
  pub counted : ℕ

-- one after the other
abbrev pub and_later : Cost → Cost → Cost
and_later first later = record {
  evaluations = first.evaluations + later.evaluations;
  counted = first.counted + later.counted;
}

-- no evaluation, and nothing counted
abbrev pub no_cost : Cost
no_cost = record { evaluations = 0; counted = 0 }

-- one evaluation
abbrev pub one_evaluation : Cost
one_evaluation = record { evaluations = 1; counted = 0 }

-- the given number of turns or leaves
abbrev pub so_many_counted : ℕ → Cost
so_many_counted n = record { evaluations = 0; counted = n }

-- the cost of what comes behind a value; nothing comes behind a fault
abbrev pub cost_after : {A : Type 0} → Outcome A → (ℕ → A → Cost) → Cost
cost_after (Gives turns x) go = go turns x
cost_after (Faults kind at) go = no_cost

-- a cost, and that of what comes behind the value of its outcome
abbrev pub cost_then : {A : Type 0} → Cost → Outcome A → (ℕ → A → Cost) → Cost
cost_then first outcome go = and_later first (cost_after outcome go)

-- the cost of what is done with something, where it is there
abbrev pub cost_where : {A : Type 0} → Option A → (A → Cost) → Cost
cost_where None go = no_cost
cost_where (Some x) go = go x

-- the cost of a turn, and of what comes behind it
abbrev pub cost_of_turn : ℕ → (ℕ → Cost) → Cost
cost_of_turn turns go = if nat_lt turns most_turns then and_later (so_many_counted 1) (go (turns + 1)) else no_cost

-- the cost of what is done one call deeper, where one is left
abbrev pub cost_in_call : ℕ → (ℕ → Cost) → Cost
cost_in_call zero go = no_cost
cost_in_call (suc calls) go = go calls

-- Few evaluations for a text of this size: at most the size, times the calls that may stand in one another and two, times the
-- turns and leaves that are counted and one
abbrev pub HasFewEvaluations : ℕ → Cost → Type 0
HasFewEvaluations size taken = taken.evaluations ≤ size * ((most_calls + 2) * (taken.counted + 1))
