-- Values that a scope may hold.
use Rattle.std.specs.Prelude.{Bool, true, ◌&&◌}
use Rattle.scad_value.specs.Values.{Vals, no_vals, and_val, is_bounded}

-- each value is bounded
abbrev pub all_bounded : Vals → Bool
all_bounded no_vals = true
all_bounded (and_val value values) = is_bounded value && all_bounded values
