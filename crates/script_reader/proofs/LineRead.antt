-- What reading one line does to the clients.
use Rattle.std.proofs.Common.{◌≡◌, inl, inr, ℕ, suc, zero, ◌<◌, ◌≤◌, List, [], ◌∷◌, ◌++◌, map, length, get_or, set, refl, sym, ap, ◌∙◌, arith, Some, None}
use Rattle.std.specs.List.{position}
use Rattle.std.specs.Str.{bytes_eq}
use Rattle.script_reader.specs.declared.script.Command.{Command}
use Rattle.script_reader.specs.declared.script.ClientScript.{ClientScript}
use Rattle.script_reader.specs.declared.script.ScriptFault.TheVariants.{TooManyCommands}
use Rattle.script_reader.specs.Spelling.{BeginsWithName, IsCommand}
use Rattle.script_reader.specs.Scripts.{ClientLine}
use Rattle.script_reader.specs.Reading.{with_command, place_in, commands_in, AddsCommandAtPlace, AddsLine, IsFaultAfter}
use Rattle.script_reader.proofs.Places.{known_entry, new_entry, known_commands, no_commands, position_found, position_none}

commands_are : (clients : List ClientScript) (name : List ℕ) (i : ℕ) (client : ClientScript) → position (λ (c : ClientScript). bytes_eq name c.name) clients ≡ Some i →
    client ≡ get_or clients i client → commands_in name clients ≡ client.commands
commands_are clients name i client e read =
    let at = position_found name clients i e in
    known_commands clients name client at.1 ∙ ap (λ (n : ℕ). (get_or clients n client).commands) at.0 ∙ ap (λ (c : ClientScript). c.commands) (sym read)

pub too_many_commands : (clients : List ClientScript) (line name tail : List ℕ) (number i : ℕ) (client : ClientScript) → length line ≤ 1024 → BeginsWithName line name tail →
    position (λ (c : ClientScript). bytes_eq name c.name) clients ≡ Some i → client ≡ get_or clients i client → 8192 ≤ length client.commands →
    IsFaultAfter clients line number (TooManyCommands number)
too_many_commands clients line name tail number i client short named e read many =
    (refl, short, name, tail, named, omega (arith, ap length (commands_are clients name i client e read)))

pub adds_known : (old new : List ClientScript) (line name tail : List ℕ) (command : Command) (i : ℕ) (client : ClientScript) → length line ≤ 1024 → BeginsWithName line name tail → IsCommand tail command →
    position (λ (c : ClientScript). bytes_eq name c.name) old ≡ Some i → client ≡ get_or old i client → length client.commands < 8192 → AddsCommandAtPlace old i command new → AddsLine old line new
adds_known old new line name tail command i client short named spelled e read few h =
    let at = position_found name old i e in
    let entry : ClientLine = record { name = name; command = command } in (
      entry,
      short,
      (tail, named, spelled),
      record { place = inl at.1; count = omega (arith, ap length (commands_are old name i client e read)) },
      h.2 ∙ sym (known_entry old entry h.0 at.1 ∙ ap (λ (n : ℕ). set old n (with_command (get_or old n h.0) command)) at.0 ∙ ap (λ (c : ClientScript). set old i (with_command c command)) (sym h.1)),
    )

pub adds_new : (old new : List ClientScript) (line name tail : List ℕ) (command : Command) → length line ≤ 1024 → BeginsWithName line name tail → IsCommand tail command →
    position (λ (c : ClientScript). bytes_eq name c.name) old ≡ None → length old < 16 → new ≡ old ++ record { name = name; commands = command ∷ [] } ∷ [] → AddsLine old line new
adds_new old new line name tail command short named spelled e few h =
    let past : length old ≤ place_in name old = position_none (λ (c : ClientScript). bytes_eq name c.name) old e in
    let entry : ClientLine = record { name = name; command = command } in (
      entry,
      short,
      (tail, named, spelled),
      record { place = inr few; count = omega (arith, ap length (no_commands old name past)) },
      h ∙ sym (new_entry old entry past),
    )

pub kept_names : (cs : List ClientScript) (i : ℕ) (client : ClientScript) (command : Command) → client ≡ get_or cs i client →
    map (λ (c : ClientScript). c.name) (set cs i (with_command client command)) ≡ map (λ (c : ClientScript). c.name) cs
kept_names [] i client command e = refl
kept_names (c ∷ cs) zero client command e = ap (λ (x : ClientScript). x.name ∷ map (λ (c : ClientScript). c.name) cs) e
kept_names (c ∷ cs) (suc i) client command e = ap (λ (l : List (List ℕ)). c.name ∷ l) (kept_names cs i client command e)
