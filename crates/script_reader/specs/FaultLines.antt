-- How a script's fault is told.
use Rattle.std.specs.Prelude.{ℕ, List, [], ◌++◌, codes}
use Rattle.plain_text.specs.Decimals.{numeral}
use Rattle.script_reader.specs.declared.script.ScriptFault.{ScriptFault}
use Rattle.script_reader.specs.declared.script.ScriptFault.TheVariants.{TooLarge, TooLong, NoName, TooManyClients, TooManyCommands, NoMemory}
use Rattle.plain_text.specs.Separators.{newline}
use Rattle.plain_text.specs.Separators.{space}

-- the word of a script's fault
abbrev pub script_fault_word : ScriptFault → List ℕ
script_fault_word TooLarge = codes "TooLarge"
script_fault_word (TooLong line) = codes "TooLong"
script_fault_word (NoName line) = codes "NoName"
script_fault_word (TooManyClients line) = codes "TooManyClients"
script_fault_word (TooManyCommands line) = codes "TooManyCommands"
script_fault_word NoMemory = codes "NoMemory"

-- the number of the line that has the fault and a space, where it is a line's
abbrev pub script_fault_number : ScriptFault → List ℕ
script_fault_number (TooLong line) = numeral line ++ space
script_fault_number (NoName line) = numeral line ++ space
script_fault_number (TooManyClients line) = numeral line ++ space
script_fault_number (TooManyCommands line) = numeral line ++ space
script_fault_number _ = []

-- the line that tells the fault: `script L WORD`, or `script WORD` where it is no line's
abbrev pub script_fault_line : ScriptFault → List ℕ
script_fault_line fault = codes "script " ++ script_fault_number fault ++ script_fault_word fault ++ newline
