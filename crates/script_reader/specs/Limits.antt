-- The limits within which each script is.
use Rattle.std.specs.Prelude.{◌≢◌, ℕ, ◌≤◌, List, length, All}
use Rattle.script_reader.specs.declared.script.Command.{Command}
use Rattle.script_reader.specs.declared.script.Command.TheVariants.{Put, Set}
use Rattle.script_reader.specs.declared.script.ClientScript.{ClientScript}

-- at most 1,024 bytes and no newline
pub record IsText (text : List ℕ) : Type 0 where
  pub short : length text ≤ 1024
  pub plain : All (λ b. b ≢ 10) text

-- the text of a command, where it has one, is such a text
abbrev pub HasText : Command → Type 0
HasText (Put line text) = IsText text
HasText (Set line text) = IsText text
HasText _ = Unit {0}

pub record IsClientWithin (client : ClientScript) : Type 0 where
  pub few : length client.commands ≤ 8192
  pub texts : All HasText client.commands

-- at most 16 clients with at most 8,192 commands each
pub record AreClientsWithin (clients : List ClientScript) : Type 0 where
  pub few : length clients ≤ 16
  pub each : All IsClientWithin clients
