-- Which children are chosen, and how far outside a list a range begins.
use Rattle.std.specs.Prelude.{ℕ, zero, suc, ◌-◌, ℤ, pos, negsuc, Option, Some, None, option_map}
use Rattle.std.specs.Borrow.{Bor}
use Rattle.scad_modules.specs.declared.effects.Chosen.{Chosen}
use Rattle.scad_modules.specs.Bounds.{IsSafeChoice}
use Rattle.scad_modules.specs.Effects.{ChosenCall}
use Rattle.scad_modules.specs.View.{chosen_of}

-- which children are chosen, where some are
abbrev pub chosen_seen : Option (Bor Chosen) → Option ChosenCall
chosen_seen = option_map (λ chosen. chosen_of chosen.now)

-- the numbers by which children are chosen are at most 2^53 - 1 in size
abbrev pub IsSafeChosen : Option (Bor Chosen) → Type 0
IsSafeChosen None = Unit {0}
IsSafeChosen (Some chosen) = IsSafeChoice (chosen_of chosen.now)

-- how far the first number of a range lies before a list of a length, seen along its step: before the place 0 where it
-- rises, behind the last place where it falls
abbrev pub distance_before : ℤ → ℤ → ℕ → ℕ
distance_before (pos n) (pos step) len = zero
distance_before (negsuc n) (pos step) len = suc n
distance_before (pos n) (negsuc step) len = suc n - len
distance_before (negsuc n) (negsuc step) len = zero
