use Rattle.scad_meaning.proofs.Assignments.{last_counts, own_names, all_named}
use Rattle.scad_meaning.proofs.laws.last_assignments_count.Goals as goal

pub returns-clause-counts : goal.returns-clause-counts
returns-clause-counts c = last_counts

pub returns-clause-once : goal.returns-clause-once
returns-clause-once c = own_names

pub returns-clause-all : goal.returns-clause-all
returns-clause-all c = all_named
