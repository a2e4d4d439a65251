use Rattle.std.proofs.Common.{◌≡◌, length}
use Rattle.plane_table.specs.Tables.{HasNoTwoAlike}
use Rattle.plane_table.specs.Joins.{AreFirstNumbersOf, KeepsNumbers}
use Rattle.plane_table.proofs.numbering.numbers_of.Given as goal

abbrev pub invariant-loop-plane : goal.invariant-loop-plane
invariant-loop-plane l = record {
  apart : HasNoTwoAlike l.planes.items;
  keeps : KeepsNumbers l.fn.known.items l.planes.items;
  count : length l.numbers.items ≡ l.plane-index;
  first : AreFirstNumbersOf l.planes.items l.numbers.items l.from;
}
