use Rattle.std.specs.Prelude.{◌≡◌, ℕ, ◌+◌, ◌-◌, ◌^◌, ◌≤◌, List, Contains, min, OnOk, OnErr, Result}

-- one more, up to the last value of a `u64`
abbrev pub next_count : ℕ → ℕ
next_count n = min (n + 1) (2 ^ 64 - 1)

-- the count is greater now than before, or stands at the last value of a `u64`
abbrev pub CountRose : ℕ → ℕ → Type 0
CountRose before now = next_count before ≤ now

-- the count of faults did not fall; where the call failed it rose, and else it is as before
pub record HasCause {T E : Type 0} (before now : ℕ) (result : Result T E) : Type 0 where
  pub later : before ≤ now
  pub failed : OnErr result (CountRose before now)
  pub quiet : OnOk result (now ≡ before)

-- the next call's number, counted from 1, is among those that are to fail
abbrev pub IsNextFailing : List ℕ → ℕ → Type 0
IsNextFailing failing calls = Contains failing (next_count calls)
