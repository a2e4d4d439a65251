-- What the demonstration writes: one line for each client.
use Rattle.std.specs.Prelude.{ℕ, ◌==◌, Bool, true, false, if◌then◌else◌, List, [], ◌∷◌, ◌++◌, codes}
use Rattle.sha2.specs.Sha256.{sha256}
use Rattle.hex.specs.Hex.{encode_lower}
use Rattle.script_reader.specs.declared.script.ClientScript.{ClientScript}
use Rattle.plain_text.specs.Separators.{newline}
use Rattle.reply_text.specs.declared.reply.Reply.{Reply}
use Rattle.reply_text.specs.declared.reply.Reply.TheVariants as reply
use Rattle.reply_text.specs.Parts.{first_words}

-- the bytes before the first one that is this
abbrev pub bytes_before : ℕ → List ℕ → List ℕ
bytes_before at [] = []
bytes_before at (b ∷ bs) = if b == at then [] else b ∷ bytes_before at bs

-- the bytes behind the first one that is this
abbrev pub bytes_after : ℕ → List ℕ → List ℕ
bytes_after at [] = []
bytes_after at (b ∷ bs) = if b == at then bs else bytes_after at bs

-- how many vertices a 4OFF text says that it has: its second line begins with that number, a space, the number of faces and a
-- space
abbrev pub vertex_count : List ℕ → List ℕ
vertex_count text = bytes_before 32 (bytes_after 10 text)

-- how many faces it says that it has
abbrev pub face_count : List ℕ → List ℕ
face_count text = bytes_before 32 (bytes_after 32 (bytes_after 10 text))

-- the counts of a text and its digest
abbrev pub solid_words : List ℕ → List ℕ
solid_words text =
    codes " facets " ++ face_count text ++ codes " vertices " ++ vertex_count text ++ codes " sha256 " ++ encode_lower (sha256 text)

-- the report on an export: for a solid its counts and the digest of its text, and else its first line
abbrev pub export_words : Reply → List ℕ
export_words (reply.Solid text) = solid_words text
export_words r = first_words r

-- whether memory ran out at a command
abbrev pub wants_memory : List Reply → Bool
wants_memory [] = false
wants_memory (reply.NoMem ∷ rs) = true
wants_memory (r ∷ rs) = wants_memory rs

-- the report on the last reply, which is that of the export
abbrev pub last_words : List Reply → List ℕ
last_words [] = []
last_words (r ∷ []) = export_words r
last_words (r ∷ (q ∷ rs)) = last_words (q ∷ rs)

-- the line of a client of the demonstration
abbrev pub demo_line : List ℕ → List Reply → List ℕ
demo_line name replies = name ++ (if wants_memory replies then codes " nomem" else last_words replies) ++ newline

-- the lines of all its clients
abbrev pub demo_text : List ClientScript → List (List Reply) → List ℕ
demo_text (client ∷ clients) (replies ∷ more) = demo_line client.name replies ++ demo_text clients more
demo_text _ _ = []
