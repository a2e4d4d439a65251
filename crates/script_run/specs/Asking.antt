-- What the commands of clients may ask of their exporters.
use Rattle.std.specs.Prelude.{◌≡◌, ℕ, List, [], ◌∷◌, ◌⊎◌, None}
use Rattle.script_reader.specs.declared.script.Command.{Command}
use Rattle.script_reader.specs.declared.script.Command.TheVariants.{Export}
use Rattle.script_reader.specs.declared.script.ClientScript.{ClientScript}
use Rattle.edit_session.specs.Sessions.{State, start_state, source_of, refusal, state_after_command}
use Rattle.edit_session.specs.Asking.{MayWantMemory}

-- a command in a state exports a source: the session does not refuse it, and its lines are the source
abbrev pub ExportsSource : State → Command → List ℕ → Type 0
ExportsSource s c source = (c ≡ Export) × (refusal s c ≡ None) × (source ≡ source_of s)

-- One of these commands may export a source: it does in the state after those before it, where memory ran out for some of them
-- at which it may, which count as not given.
abbrev pub MayExport : State → List Command → List ℕ → Type 0
MayExport s [] source = ⊥
MayExport s (c ∷ cs) source =
    ExportsSource s c source
    ⊎ (MayWantMemory s c × MayExport s cs source) ⊎ MayExport (state_after_command s c) cs source

-- each source that these commands may export behind a state can be exported
pub record MayServe (can_export : List ℕ → Type 0) (s : State) (commands : List Command) : Type 0 where
  pub each : (source : List ℕ) → MayExport s commands source → can_export source

-- each client has an exporter that was asked for nothing, and can export what the client's own commands may export
abbrev pub AreFresh : {E : Type 0} → (E → ℕ) → (List ℕ → E → Type 0) → List ClientScript → List E → Type 0
AreFresh asked can_export [] exporters = Unit {0}
AreFresh asked can_export (client ∷ clients) (e ∷ exporters) =
    (asked e ≡ 0) × MayServe (λ source. can_export source e) start_state client.commands × AreFresh asked can_export clients exporters
AreFresh asked can_export (client ∷ clients) [] = ⊥
