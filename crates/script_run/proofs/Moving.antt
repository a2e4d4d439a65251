-- Commands in front of others.
use Rattle.std.proofs.Common.{◌≡◌, ℕ, List, ◌∷◌, inl, inr, subst}
use Rattle.script_reader.specs.declared.script.Command.{Command}
use Rattle.edit_session.specs.Sessions.{State}
use Rattle.reply_text.specs.declared.reply.Reply.{Reply}
use Rattle.reply_text.specs.Answers.{Fits, state_after}
use Rattle.script_run.specs.Asking.{MayExport, MayServe}
use Rattle.script_run.specs.Steps.{StepsSession}
use Rattle.script_run.specs.Moves.{MovesAt, MovesAlong}

-- a reply that fits in front of others that fit
pub fits_on : (Exports : List ℕ → Reply → Type 0) (s t : State) (c : Command) (r : Reply) (cs : List Command) (rs : List Reply) → StepsSession Exports s c t r →
    Fits Exports t cs rs → Fits Exports s (c ∷ cs) (r ∷ rs)
fits_on Exports s t c r cs rs (inl (e, may, same)) fit = inl (e, may, subst (λ u. Fits Exports u cs rs) same fit)
fits_on Exports s t c r cs rs (inr (answered, same)) fit = inr (answered, subst (λ u. Fits Exports u cs rs) same fit)

-- a command in front of others moves the exporter first
pub moves_on : {E : Type 0} (Moves : List ℕ → Reply → E → E → Type 0) (s t : State) (c : Command) (r : Reply) (cs : List Command) (rs : List Reply) (x y z : E) → MovesAt Moves s c r x y → t ≡ state_after s c r →
    MovesAlong Moves t cs rs y z → MovesAlong Moves s (c ∷ cs) (r ∷ rs) x z
moves_on Moves s t c r cs rs x y z here same more = (y, here, subst (λ u. MovesAlong Moves u cs rs y z) same more)

-- what commands may export behind another one, the two of them may
exported_on : (s t : State) (c : Command) (r : Reply) (cs : List Command) (source : List ℕ) (Exports : List ℕ → Reply → Type 0) → StepsSession Exports s c t r →
    MayExport t cs source → MayExport s (c ∷ cs) source
exported_on s t c r cs source Exports (inl (e, may, same)) more = inr (inl (may, subst (λ u. MayExport u cs source) same more))
exported_on s t c r cs source Exports (inr (answered, same)) more = inr (inr (subst (λ u. MayExport u cs source) same more))

-- an exporter that keeps what it can export may go on to serve the commands behind the first
pub served_on : {E : Type 0} (Exports : List ℕ → Reply → Type 0) (Can : List ℕ → E → Type 0) (new old : E) → ((source : List ℕ) → Can source old → Can source new) →
    (s t : State) (c : Command) (r : Reply) (cs : List Command) → StepsSession Exports s c t r →
    MayServe (λ source. Can source old) s (c ∷ cs) → MayServe (λ source. Can source new) t cs
served_on Exports Can new old keeps s t c r cs steps may = record {
  each = λ source more. keeps source (may.each source (exported_on s t c r cs source Exports steps more));
}
