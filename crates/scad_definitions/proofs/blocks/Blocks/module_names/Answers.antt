use Rattle.scad_definitions.specs.Arguments.{parameter_names}
use Rattle.scad_definitions.specs.ArgumentsView.{names_of_params}
use Rattle.scad_definitions.specs.Blocks.{SourceModule}
use Rattle.scad_definitions.specs.TextView.{module_of}
use Rattle.scad_definitions.proofs.Named.{said_at_number}
use Rattle.scad_definitions.proofs.blocks.Blocks.module_names.Goals as goal

pub returns : goal.returns
returns c = λ other.
    let blocks = c.args.self.now in
    said_at_number names_of_params module_of (λ (m : SourceModule). parameter_names m.params) blocks.module_names.items blocks.modules.items
    c.args.number c.index.result.now other blocks.modules_named c.requires c.index.ensures
