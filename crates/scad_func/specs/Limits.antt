-- The limits of an evaluation.
use Rattle.std.specs.Prelude.{ℕ}

-- the most calls in one another
abbrev pub most_calls : ℕ
most_calls = 64

-- the most evaluations in one another
abbrev pub most_evaluations : ℕ
most_evaluations = 512

-- the most turns that the evaluation of one source counts
abbrev pub most_turns : ℕ
most_turns = 100000
