use Rattle.std.proofs.Common.{[], ◌∷◌, map, ap, ◌∙◌, sym, rules}
use Rattle.script_reader.specs.declared.script.ClientScript.{ClientScript}
use Rattle.script_reader.proofs.Places.{added_names}
use Rattle.script_reader.proofs.clients.push_client.Goals as goal

pub returns-clause-known : goal.returns-clause-known
returns-clause-known c =
    added_names c.args.clients.now.numbers.keys c.insert.new.self.keys c.in_ok-from_slice.field-0 c.args.clients.now.scripts.items c.args.name.now (c.args.command ∷ [])
    c.requires.known c.requires.fresh c.in_ok-from_slice.ensures.items c.in_ok-insert.ensures.keys
    ∙ sym (ap (map (λ (c : ClientScript). c.name)) (search rules))
