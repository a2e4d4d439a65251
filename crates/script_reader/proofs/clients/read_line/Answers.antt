use Rattle.std.proofs.Common.{map, sym, ap, ◌∙◌, arith, length}
use Rattle.script_reader.specs.declared.script.ClientScript.{ClientScript}
use Rattle.script_reader.proofs.LineRead.{too_many_commands, adds_known, adds_new, kept_names}
use Rattle.script_reader.proofs.clients.read_line.Goals as goal

pub returns-then-items-ge-COMMANDS-clause-err : goal.returns-then-items-ge-COMMANDS-clause-err
returns-then-items-ge-COMMANDS-clause-err c =
    too_many_commands c.args.clients.now.scripts.items c.args.line.now c.in-Some.name.now c.in-Some.tail.now c.args.number c.in-Some-number_of.client c.index.result.now
    c.if-line-gt-LINE_BYTES.false c.in-Some.ensures.found (sym c.in-Some-number_of.ensures) c.index.ensures (omega (arith, ap length c.items.ensures))

pub returns-in_ok-push_command-in-Some-number_of-clause-known : goal.returns-in_ok-push_command-in-Some-number_of-clause-known
returns-in_ok-push_command-in-Some-number_of-clause-known c =
    let h = c.in_ok-push_command-in-Some-number_of.ensures in
    c.requires
    ∙ sym (ap (map (λ (c : ClientScript). c.name)) h.2 ∙ kept_names c.args.clients.now.scripts.items c.in-Some-number_of.client h.0 c.in_ok-command-in-Some-number_of.command h.1)

pub returns-in_ok-push_command-in-Some-number_of-clause-ok : goal.returns-in_ok-push_command-in-Some-number_of-clause-ok
returns-in_ok-push_command-in-Some-number_of-clause-ok c =
    adds_known c.args.clients.now.scripts.items c.push_command.new.scripts.items c.args.line.now c.in-Some.name.now c.in-Some.tail.now c.in_ok-command-in-Some-number_of.command c.in-Some-number_of.client c.index.result.now
    c.if-line-gt-LINE_BYTES.false c.in-Some.ensures.found c.in_ok-command-in-Some-number_of.ensures (sym c.in-Some-number_of.ensures) c.index.ensures (omega (arith, ap length c.items.ensures))
    c.in_ok-push_command-in-Some-number_of.ensures

pub returns-in_ok-push_client-in-None-clause-ok : goal.returns-in_ok-push_client-in-None-clause-ok
returns-in_ok-push_client-in-None-clause-ok c =
    adds_new c.args.clients.now.scripts.items c.push_client.new.clients.scripts.items c.args.line.now c.in-Some.name.now c.in-Some.tail.now c.in_ok-command-in-None.command
    c.if-line-gt-LINE_BYTES.false c.in-Some.ensures.found c.in_ok-command-in-None.ensures (sym c.in-None.ensures) (omega arith)
    c.in_ok-push_client-in-None.ensures.last
