-- The kinds of limits.
use Rattle.export_limits.specs.declared.passed.PassedLimit.{PassedLimit}
use Rattle.export_limits.specs.declared.passed.PassedLimit.TheVariants as limit

-- a limit of size: of one solid, or of all together
abbrev pub IsSizeLimit : PassedLimit → Type 0
IsSizeLimit (limit.Solid number) = Unit {0}
IsSizeLimit (limit.Sum number) = Unit {0}
IsSizeLimit _ = ⊥
