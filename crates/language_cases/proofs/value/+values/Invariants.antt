use Rattle.std.proofs.Common.{◌+◌, ◌*◌}
use Rattle.language_cases.proofs.value.+values.Given as goal

abbrev pub decreases-put_value : goal.decreases-put_value
decreases-put_value l = 2 * l.depth

abbrev pub decreases-put_values : goal.decreases-put_values
decreases-put_values l = 2 * l.depth + 1
