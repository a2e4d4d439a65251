-- The parts of a reply's text.
use Rattle.std.specs.Prelude.{◌≡◌, ℕ, List, [], ◌++◌, flat_map, length, codes}
use Rattle.text_place.specs.declared.fault.Fault.{Fault}
use Rattle.plain_text.specs.Decimals.{numeral}
use Rattle.text_place.specs.Words.{word_of}
use Rattle.reply_text.specs.declared.reply.Reply.{Reply}
use Rattle.reply_text.specs.declared.reply.Reply.TheVariants as reply
use Rattle.reply_text.specs.Texts.{refusal_word, limit_words, line_count}
use Rattle.plain_text.specs.Separators.{space, newline}

-- how a fault is told: its line, its column and its word
abbrev pub source_fault_words : Fault → List ℕ
source_fault_words f = codes " fault " ++ numeral f.place.line ++ codes ":" ++ numeral f.place.column ++ space ++ word_of f.kind

-- the first line behind the number, without its newline
abbrev pub first_words : Reply → List ℕ
first_words (reply.Lines n) = codes " ok " ++ numeral n
first_words (reply.Refused why) = codes " refused " ++ refusal_word why
first_words (reply.Faulted f) = source_fault_words f
first_words (reply.PassedLimit c) = codes " complex " ++ limit_words c
first_words reply.NoMem = codes " nomem"
first_words (reply.Text lines) = codes " text " ++ numeral (length lines)
first_words (reply.Solid bytes) = codes " solid " ++ numeral (line_count bytes)

-- the lines behind the first one
abbrev pub further_lines : Reply → List ℕ
further_lines (reply.Text lines) = flat_map (λ line. line ++ newline) lines
further_lines (reply.Solid bytes) = bytes
further_lines _ = []

-- new is old with something behind it
abbrev pub Grows : List ℕ → List ℕ → Type 0
Grows old new = (more : List ℕ) × (new ≡ old ++ more)
