-- Ordinary and special names, each by themselves.
use Rattle.std.specs.Prelude.{ℕ, Bool, if◌then◌else◌}
use Rattle.scad_definitions.specs.Newest.{Pairs}

-- of ordinary and special names those of a kind
abbrev pub of_kind : Pairs ℕ → Pairs ℕ → Bool → Pairs ℕ
of_kind ordinary special kind = if kind then special else ordinary
