use Rattle.scad_definitions.specs.Arguments.{parameter_names}
use Rattle.scad_definitions.specs.ArgumentsView.{names_of_params}
use Rattle.scad_definitions.specs.Blocks.{SourceFunction}
use Rattle.scad_definitions.specs.TextView.{function_of}
use Rattle.scad_definitions.proofs.Named.{said_at_number}
use Rattle.scad_definitions.proofs.blocks.Blocks.function_names.Goals as goal

pub returns : goal.returns
returns c = λ other.
    let blocks = c.args.self.now in
    said_at_number names_of_params function_of (λ (f : SourceFunction). parameter_names f.params) blocks.function_names.items blocks.functions.items
    c.args.number c.index.result.now other blocks.functions_named c.requires c.index.ensures
