-- Exporters that count their exports.
use Rattle.std.proofs.Common.{◌≡◌, ℕ, ◌+◌, List, [], ◌∷◌, inl, inr, refl, codes}
use Rattle.script_reader.specs.declared.script.Command.{Command}
use Rattle.script_reader.specs.declared.script.Command.TheVariants.{Put, Show, Export, Bad}
use Rattle.script_reader.specs.declared.script.ClientScript.{ClientScript}
use Rattle.edit_session.specs.declared.fault.SessionFault.TheVariants.{NoSuchLine, TooManyExports, BadCommand}
use Rattle.edit_session.specs.Sessions.{State, start_state}
use Rattle.export_limits.specs.declared.passed.PassedLimit.TheVariants as limit
use Rattle.reply_text.specs.declared.reply.Reply.{Reply}
use Rattle.reply_text.specs.declared.reply.Reply.TheVariants as reply
use Rattle.script_run.specs.Asking.{MayExport}
use Rattle.script_run.specs.Moves.{MovesAlong, AllMove}

abbrev IsCounted : List ℕ → Reply → ℕ → ℕ → Type 0
IsCounted source r old new = new ≡ old + 1

abbrev commands : List Command
commands = Put 2 (codes "x") ∷ Put 1 (codes "x") ∷ Export ∷ Show ∷ Bad ∷ Export ∷ []

abbrev replies : List Reply
replies = reply.Refused NoSuchLine ∷ reply.Lines 1 ∷ reply.Solid [] ∷ reply.Text (codes "x" ∷ []) ∷ reply.Refused BadCommand ∷ reply.PassedLimit limit.Facets ∷ []

-- exports move it, and nothing else does
two_exports : MovesAlong IsCounted start_state commands replies 5 7
two_exports = (5, refl, (5, refl, (6, inl refl, (6, refl, (6, refl, (7, inl refl, refl))))))

abbrev nearly_exported : State
nearly_exported = record { lines = []; shows = 0; exports = 15 }

-- nor does an export that the session refuses
one_is_refused : MovesAlong IsCounted nearly_exported (Export ∷ Export ∷ []) (reply.Solid [] ∷ reply.Refused TooManyExports ∷ []) 0 1
one_is_refused = (1, inl refl, (1, refl, refl))

-- where memory runs out, the exporter was asked before that or not
want_is_asked_or_not : MovesAlong IsCounted start_state (Export ∷ Export ∷ []) (reply.NoMem ∷ reply.NoMem ∷ []) 3 4
want_is_asked_or_not = (3, inr (refl, refl), (4, inl refl, refl))

abbrev client : ClientScript
client = record { name = codes "a"; commands = commands }

-- an exporter without a client stays as it is
all_move : AllMove IsCounted (client ∷ client ∷ []) (replies ∷ replies ∷ []) (0 ∷ 1 ∷ 9 ∷ []) (2 ∷ 3 ∷ 9 ∷ [])
all_move = (
  (0, refl, (0, refl, (1, inl refl, (1, refl, (1, refl, (2, inl refl, refl)))))),
  ((1, refl, (1, refl, (2, inl refl, (2, refl, (2, refl, (3, inl refl, refl)))))), refl),
)

-- what is exported are the lines behind the edits before
exports_its_line : MayExport start_state (Put 1 (codes "x") ∷ Export ∷ []) (codes "x\n")
exports_its_line = inr (inr (inl (refl, refl, refl)))

-- or those without an edit for which memory ran out
exports_without_it : MayExport start_state (Put 1 (codes "x") ∷ Export ∷ []) []
exports_without_it = inr (inl (refl, inl (refl, refl, refl)))

-- a refused edit changes nothing
exports_nothing_of_it : MayExport start_state (Put 2 (codes "x") ∷ Export ∷ []) []
exports_nothing_of_it = inr (inr (inl (refl, refl, refl)))
