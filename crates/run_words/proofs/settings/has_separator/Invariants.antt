use Rattle.std.proofs.Common.{◌≡◌, drop, map, string_bytes}
use Rattle.run_words.specs.Reading.{has_separator}
use Rattle.run_words.proofs.settings.has_separator.Given as goal

abbrev pub invariant-loop-word : goal.invariant-loop-word
invariant-loop-word l = has_separator (map string_bytes (drop l.word-index l.words)) ≡ has_separator (map string_bytes l.words)
