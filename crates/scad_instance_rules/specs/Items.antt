-- What is left of what a loop goes through.
use Rattle.std.specs.Prelude.{◌-◌, ℤ, pos, ◌+ℤ◌, ◌*ℤ◌, List}
use Rattle.std.specs.Vec.Iter.{into_iter_items}
use Rattle.scad_value.specs.Values.{Vals, vals_from}
use Rattle.scad_value.specs.View.{vals_in}
use Rattle.scad_meaning.specs.Loops.{numbers_by, number_vals}
use Rattle.scad_instance_rules.specs.declared.items.Numbers.{Numbers}
use Rattle.scad_instance_rules.specs.declared.items.Remaining.{Remaining}
use Rattle.scad_instance_rules.specs.declared.items.Remaining.TheVariants.{Listed, Counted}

-- the numbers of a range from a place on
abbrev pub numbers_left : Numbers → List ℤ
numbers_left numbers = numbers_by (numbers.count - numbers.place) (numbers.from +ℤ (pos numbers.place *ℤ numbers.by)) numbers.by

-- the values that are left
abbrev pub remaining_in : Remaining → Vals
remaining_in (Listed values) = vals_from (vals_in (into_iter_items values))
remaining_in (Counted numbers) = number_vals (numbers_left numbers)
