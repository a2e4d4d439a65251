use Rattle.std.specs.Prelude.{ℕ, ◌-◌, ◌≤◌, ◌⊎◌, List, length, min}
use Rattle.outside_io.specs.Counts.{IsNextFailing}

-- a sink in memory: the bytes held, the numbers of the calls that fail, the most bytes of a call and of all,
-- and the calls and faults so far
pub record MemoryOutput : Type 0 where
  pub held : List ℕ
  pub failing : List ℕ
  pub piece : ℕ
  pub room : ℕ
  pub calls : ℕ
  pub faults : ℕ

-- no more bytes go in
abbrev pub IsFull : MemoryOutput → Type 0
IsFull output = output.room ≤ length output.held

-- the next call fails: its number is among those that are to fail, or no more bytes go in
abbrev pub IsRefusing : MemoryOutput → Type 0
IsRefusing output = IsNextFailing output.failing output.calls ⊎ IsFull output

-- how many of `given` bytes a write takes
abbrev pub write_count : MemoryOutput → ℕ → ℕ
write_count output given = min output.piece (min given (output.room - length output.held))
