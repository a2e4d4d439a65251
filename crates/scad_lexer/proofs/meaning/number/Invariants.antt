use Rattle.std.proofs.Common.{◌≡◌, ◌^◌, ◌<◌, drop}
use Rattle.scad_lexer.specs.Tokens.{decimal_from}
use Rattle.scad_lexer.proofs.meaning.number.Given as goal

abbrev pub invariant-loop-digit : goal.invariant-loop-digit
invariant-loop-digit l = record { told : decimal_from 0 l.digits ≡ decimal_from l.number (drop l.digit-index l.digits); small : l.number < 2 ^ 53 }
