-- The numbers with which the program ends.
use Rattle.std.specs.Prelude.{ℕ}
use Rattle.script_service.specs.declared.status.Status.{Status}
use Rattle.script_service.specs.declared.status.Status.TheVariants.{Done, BadWords, BadScript, ReadFault, WriteFault, NoMemory}

-- the number with which the program ends
abbrev pub status_number : Status → ℕ
status_number Done = 0
status_number BadWords = 2
status_number BadScript = 3
status_number ReadFault = 4
status_number WriteFault = 5
status_number NoMemory = 6
