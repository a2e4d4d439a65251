-- The text of replies, and the output of a script.
use Rattle.std.specs.Prelude.{ℕ, suc, ◌==◌, List, [], ◌∷◌, ◌++◌, flat_map, length, count_by, codes}
use Rattle.plain_text.specs.Decimals.{numeral}
use Rattle.text_place.specs.Words.{word_of}
use Rattle.script_reader.specs.declared.script.ClientScript.{ClientScript}
use Rattle.edit_session.specs.declared.fault.SessionFault.{SessionFault}
use Rattle.edit_session.specs.declared.fault.SessionFault.TheVariants.{NoSuchLine, TooManyLines, TooManyShows, TooManyExports, BadCommand, NoMemory}
use Rattle.export_limits.specs.declared.passed.PassedLimit.{PassedLimit}
use Rattle.export_limits.specs.declared.passed.PassedLimit.TheVariants as limit
use Rattle.reply_text.specs.declared.reply.Reply.{Reply}
use Rattle.reply_text.specs.declared.reply.Reply.TheVariants as reply
use Rattle.plain_text.specs.Separators.{space, newline}

-- the word of a refusal
abbrev pub refusal_word : SessionFault → List ℕ
refusal_word NoSuchLine = codes "NoSuchLine"
refusal_word TooManyLines = codes "TooManyLines"
refusal_word TooManyShows = codes "TooManyShows"
refusal_word TooManyExports = codes "TooManyExports"
refusal_word BadCommand = codes "BadCommand"
refusal_word NoMemory = codes "NoMemory"

-- how a limit that was passed is told
abbrev pub limit_words : PassedLimit → List ℕ
limit_words (limit.Solid n) = codes "solid " ++ numeral n
limit_words (limit.Sum n) = codes "sum " ++ numeral n
limit_words limit.Facets = codes "facets"
limit_words limit.Corners = codes "corners"
limit_words limit.Vertices = codes "vertices"

-- how many lines a text has, each ended by a newline
abbrev pub line_count : List ℕ → ℕ
line_count bytes = count_by (λ b. b == 10) bytes

-- what stands behind a reply's number
abbrev pub reply_body : Reply → List ℕ
reply_body (reply.Lines n) = codes " ok " ++ numeral n ++ newline
reply_body (reply.Refused why) = codes " refused " ++ refusal_word why ++ newline
reply_body (reply.Faulted f) =
    codes " fault " ++ numeral f.place.line ++ codes ":" ++ numeral f.place.column ++ space ++ word_of f.kind ++ newline
reply_body (reply.PassedLimit c) = codes " complex " ++ limit_words c ++ newline
reply_body reply.NoMem = codes " nomem" ++ newline
reply_body (reply.Text lines) =
    codes " text " ++ numeral (length lines) ++ newline ++ flat_map (λ line. line ++ newline) lines
reply_body (reply.Solid bytes) = codes " solid " ++ numeral (line_count bytes) ++ newline ++ bytes

-- replies in order, the first with this number
abbrev pub replies_text : ℕ → List Reply → List ℕ
replies_text number [] = []
replies_text number (r ∷ rs) = numeral number ++ reply_body r ++ replies_text (suc number) rs

-- a client's part of the output: its name, and its replies numbered from 1
abbrev pub client_text : List ℕ → List Reply → List ℕ
client_text name replies = codes "== " ++ name ++ newline ++ replies_text 1 replies

-- the output of a script whose clients are given these replies, in the clients' order
abbrev pub output : List ClientScript → List (List Reply) → List ℕ
output (client ∷ clients) (replies ∷ more) = client_text client.name replies ++ output clients more
output _ _ = []
