-- How much is read of a source.
use Rattle.std.proofs.Common.{◌≡◌, ℕ, ◌+◌, ◌≤◌, List, [], ◌++◌, length, refl, arith}
use Rattle.std.specs.Prelude.{Option, Some, None}
use Rattle.std.specs.Io.KnownBytes.{Consumes}
use Rattle.outside_io.specs.declared.whole.ReadEnd.{ReadEnd}
use Rattle.outside_io.specs.declared.whole.ReadEnd.TheVariants.{Failed, TooLarge, NoMemory}
use Rattle.outside_io.specs.Moves.{ConsumesAtMost, EndsEarly}

-- nothing was read
pub none_read : (left : Option (List ℕ)) → Consumes left left []
none_read None = tt
none_read (Some bytes) = refl

-- nothing is within any limit
pub none_in_limit : (left : Option (List ℕ)) (most : ℕ) → ConsumesAtMost left left most
none_in_limit left most = ([], omega (arith), none_read left)

-- all bytes were read, which were few
pub all_in_limit : (old new : Option (List ℕ)) (bytes : List ℕ) (most piece : ℕ) → length bytes ≤ most → Consumes old new bytes → ConsumesAtMost old new (most + piece)
all_in_limit old new bytes most piece few read = (bytes, omega (arith, few), read)

-- a limit that is farther
wider : (old new : Option (List ℕ)) (most piece : ℕ) → ConsumesAtMost old new most → ConsumesAtMost old new (most + piece)
wider old new most piece h = let few = h.1 in (h.0, omega (arith, few), h.2)

-- reading ended early
pub early_in_limit : (old new : Option (List ℕ)) (before now most piece : ℕ) (end : ReadEnd) → EndsEarly old new before now most piece end → ConsumesAtMost old new (most + piece)
early_in_limit old new before now most piece Failed h = wider old new most piece h.1
early_in_limit old new before now most piece TooLarge h = (h.0, h.2, h.3)
early_in_limit old new before now most piece NoMemory h = wider old new most piece h
