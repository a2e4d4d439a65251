use Rattle.script_server.proofs.OneSource.{OneText, one_tree, not_both, one_fault}
use Rattle.script_server.proofs.meaning.one_meaning.Goals as goal

pub returns-clause-trees : goal.returns-clause-trees
returns-clause-trees c =
    let text : OneText = record {
      outcomes = c.one_outcome.ensures;
      programs = c.one_program_each.ensures;
      no_fault = c.no_program_has_a_fault.ensures;
      faults = c.one_fault_each.ensures;
    } in
    one_tree text c.one_meaning.ensures

pub returns-clause-faults : goal.returns-clause-faults
returns-clause-faults c =
    let text : OneText = record {
      outcomes = c.one_outcome.ensures;
      programs = c.one_program_each.ensures;
      no_fault = c.no_program_has_a_fault.ensures;
      faults = c.one_fault_each.ensures;
    } in
    one_fault text c.one_meaning.ensures

pub returns-clause-either : goal.returns-clause-either
returns-clause-either c =
    let text : OneText = record {
      outcomes = c.one_outcome.ensures;
      programs = c.one_program_each.ensures;
      no_fault = c.no_program_has_a_fault.ensures;
      faults = c.one_fault_each.ensures;
    } in
    not_both text c.one_meaning.ensures
