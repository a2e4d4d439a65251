use Rattle.big_input.proofs.HasNoFault.{demo_is_script}
use Rattle.big_input.proofs.demo_scripts_have_no_fault.Goals as goal

pub returns : goal.returns
returns c = demo_is_script
