use Rattle.std.proofs.Common.{◌≡◌, ◌+◌, ◌≤◌, ℕ, map, length, Vec, Global}
use Rattle.script_reader.specs.declared.script.ClientScript.{ClientScript}
use Rattle.script_reader.specs.Limits.{AreClientsWithin}
use Rattle.script_reader.proofs.Told.{Told}
use Rattle.script_reader.proofs.reader.read_lines.Given as goal

abbrev pub invariant-loop-rest : goal.invariant-loop-rest
invariant-loop-rest l = record {
  known : map (λ (k : Vec ℕ Global). k.items) l.clients.numbers.keys ≡ map (λ (c : ClientScript). c.name) l.clients.scripts.items;
  counted : l.number + length l.rest ≤ length l.fn.bytes;
  within : AreClientsWithin l.clients.scripts.items;
  told : Told l.fn.bytes l.number l.rest l.clients.scripts.items;
}

abbrev pub decreases-loop-rest : goal.decreases-loop-rest
decreases-loop-rest l = length l.rest
