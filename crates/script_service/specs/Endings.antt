-- The lines behind the replies of a run: what the memo counts in all, and what each client's entries weigh.
use Rattle.std.specs.Prelude.{ℕ, Bool, nat_lt, if◌then◌else◌, List, [], ◌∷◌, ◌++◌, codes}
use Rattle.plain_text.specs.Decimals.{numeral}
use Rattle.subtree_memo.specs.declared.tally.Tally.{Tally}
use Rattle.script_reader.specs.declared.script.ClientScript.{ClientScript}
use Rattle.plain_text.specs.Separators.{newline}

-- the numbers of probes of a tally
abbrev pub probe_words : Tally → List ℕ
probe_words counts =
    codes " probes " ++ numeral counts.probes
    ++ codes " hits " ++ numeral counts.hits
    ++ codes " misses " ++ numeral counts.misses

-- the numbers of fills
abbrev pub fill_words : Tally → List ℕ
fill_words counts =
    codes " offered " ++ numeral counts.offered
    ++ codes " kept " ++ numeral counts.kept
    ++ codes " heavy " ++ numeral counts.heavy
    ++ codes " dropped " ++ numeral counts.dropped
    ++ codes " evicted " ++ numeral counts.evicted

-- the eight numbers of a tally
abbrev pub tally_line : Tally → List ℕ
tally_line counts = codes "tally" ++ probe_words counts ++ fill_words counts ++ newline

-- what a client's entries weigh
abbrev pub share_line : List ℕ → ℕ → List ℕ
share_line name owned = codes "share " ++ name ++ codes " " ++ numeral owned ++ newline

-- the same for each client, with its own weight, in order
abbrev pub share_lines : List ClientScript → List ℕ → List ℕ
share_lines (client ∷ clients) (owned ∷ weights) = share_line client.name owned ++ share_lines clients weights
share_lines _ _ = []

-- behind the replies, with the tally and this share: the tally's line, and with a share above 0 the clients'
abbrev pub ending : Bool → ℕ → List ClientScript → Tally → List ℕ → List ℕ
ending tally share clients counts owned =
    if tally then tally_line counts ++ (if nat_lt 0 share then share_lines clients owned else []) else []
