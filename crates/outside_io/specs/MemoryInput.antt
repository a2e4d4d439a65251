use Rattle.std.specs.Prelude.{◌≡◌, ℕ, List, ◌++◌, length, min, take, drop}
use Rattle.outside_io.specs.Counts.{next_count}

-- a source in memory: the bytes left, the numbers of the calls that fail, the most bytes of a call, and the calls and
-- faults so far
pub record MemoryInput : Type 0 where
  pub left : List ℕ
  pub failing : List ℕ
  pub piece : ℕ
  pub calls : ℕ
  pub faults : ℕ

-- how many bytes a read gives into a buffer of `room` bytes
abbrev pub read_count : MemoryInput → ℕ → ℕ
read_count input room = min input.piece (min room (length input.left))

-- a read that gives n bytes: as many as a piece, the buffer and what is left allow. They stand in the front of the buffer,
-- whose rest stays, and are no longer left
pub record GivesBytes (before now : MemoryInput) (buffer filled : List ℕ) (n : ℕ) : Type 0 where
  pub count : n ≡ read_count before (length buffer)
  pub front : filled ≡ take n before.left ++ drop n buffer
  pub rest : now ≡ record before { left = drop n before.left; calls = next_count before.calls }

-- what a read that fails makes of them: it counts the call and the fault, and nothing else
pub record CountsFault (before now : MemoryInput) (buffer filled : List ℕ) : Type 0 where
  pub counts : now ≡ record before { calls = next_count before.calls; faults = next_count before.faults }
  pub buffer_stays : filled ≡ buffer
