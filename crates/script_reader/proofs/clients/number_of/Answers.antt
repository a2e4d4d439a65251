use Rattle.std.proofs.Common.{ℕ, ◌∙◌, Vec, Global}
use Rattle.std.specs.Str.{bytes_eq}
use Rattle.script_reader.specs.declared.script.ClientScript.{ClientScript}
use Rattle.script_reader.proofs.Places.{same_position}
use Rattle.script_reader.proofs.clients.number_of.Goals as goal

pub returns : goal.returns
returns c =
    c.get_index_of.ensures.index
    ∙ same_position (bytes_eq c.args.name.now) (λ (k : Vec ℕ Global). k.items) (λ (c : ClientScript). c.name) c.args.clients.now.numbers.keys c.args.clients.now.scripts.items c.requires
