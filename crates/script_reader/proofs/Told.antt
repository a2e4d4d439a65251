-- What is known of a script whose first lines were read.
use Rattle.std.proofs.Common.{◌≡◌, ◌⊎◌, inl, inr, ⊎_elim, ℕ, suc, ◌+◌, List, [], ◌∷◌, ◌++◌, length, refl, sym, ap, ◌∙◌, subst, arith}
use Rattle.script_reader.specs.declared.script.ClientScript.{ClientScript}
use Rattle.script_reader.specs.declared.script.Script.{Script}
use Rattle.script_reader.specs.declared.script.ScriptFault.{ScriptFault}
use Rattle.script_reader.specs.declared.script.ScriptFault.TheVariants.{TooLarge, TooLong, NoName, TooManyClients, TooManyCommands, NoMemory}
use Rattle.script_reader.specs.Lines.{IsFirstLine}
use Rattle.script_reader.specs.Scripts.{ClientLine, clients_of, IsSoundLine, IsLineFault, EndsScript, HasFirstLineFault}
use Rattle.script_reader.specs.Reading.{AddsLine, IsFaultAfter}
use Rattle.script_reader.proofs.Grouping.{clients_more, commands_among, is_among, is_not_among}

-- the lines read so far gave these clients, and what the rest of the bytes gives behind them is what all bytes give
pub record Told (bytes : List ℕ) (number : ℕ) (rest : List ℕ) (clients : List ClientScript) : Type 0 where
  pub before : List ClientLine
  pub known : clients ≡ clients_of before
  pub script : (s : Script) → EndsScript before rest s → EndsScript [] bytes s
  pub fault : (f : ScriptFault) → HasFirstLineFault before number rest f → HasFirstLineFault [] 0 bytes f

pub told_none : (bytes : List ℕ) → Told bytes 0 bytes []
told_none bytes = record { before = []; known = refl; script = λ s h. h; fault = λ f h. h }

-- a line that adds to the clients is sound behind the lines before
sound : (before : List ClientLine) (line : List ℕ) (new : List ClientScript) (h : AddsLine (clients_of before) line new) → IsSoundLine before line h.0
sound before line new h = record {
  short = h.1;
  entry = h.2;
  clients = ⊎_elim (λ a. inl (is_among h.0.name (clients_of before) a)) (λ a. inr a) h.3.place;
  commands = omega (arith, h.3.count, ap length (commands_among h.0.name before));
}

same_number : (number n : ℕ) → number + 1 + n + 1 ≡ number + suc n + 1
same_number number n = omega arith

fault_before : (before : List ClientLine) (e : ClientLine) (number : ℕ) (rest line more : List ℕ) (f : ScriptFault) → IsFirstLine rest line more → IsSoundLine before line e →
    HasFirstLineFault (before ++ e ∷ []) (number + 1) more f → HasFirstLineFault before number rest f
fault_before before e number rest line more f first good h = (
  line ∷ h.0,
  h.1,
  h.2,
  h.3,
  h.4,
  (more, first, h.5),
  (e, good, h.6),
  h.7,
  subst (λ (n : ℕ). IsLineFault h.1 h.2 n f) (same_number number (length h.0)) h.8,
)

pub told_more : (bytes : List ℕ) (number : ℕ) (rest line more : List ℕ) (clients new : List ClientScript) → Told bytes number rest clients → IsFirstLine rest line more → AddsLine clients line new →
    Told bytes (number + 1) more new
told_more bytes number rest line more clients new told first adds =
    let added : AddsLine (clients_of told.before) line new = subst (λ (l : List ClientScript). AddsLine l line new) told.known adds in
    let good = sound told.before line new added in
    record {
      before = told.before ++ added.0 ∷ [];
      known = added.4 ∙ sym (clients_more told.before added.0);
      script = λ s h. told.script s (line ∷ h.0, h.1, (more, first, h.2), (added.0, good, h.3), h.4);
      fault = λ f h. told.fault f (fault_before told.before added.0 number rest line more f first good h);
    }

pub told_all : (bytes : List ℕ) (number : ℕ) (rest : List ℕ) (clients : List ClientScript) → Told bytes number rest clients → rest ≡ [] → EndsScript [] bytes (record { clients = clients })
told_all bytes number rest clients told e = told.script (record { clients = clients }) ([], told.before, e, refl, ap (λ (l : List ClientScript). let s : Script = record { clients = l } in s) told.known)

fault_behind : (before : List ClientLine) (line : List ℕ) (number : ℕ) (f : ScriptFault) → IsFaultAfter (clients_of before) line number f → (f ≡ NoMemory) ⊎ IsLineFault before line number f
fault_behind before line number TooLarge h = absurd h
fault_behind before line number (TooLong at) h = inr h
fault_behind before line number (NoName at) h = inr h
fault_behind before line number (TooManyClients at) h = inr (h.0, h.1, h.2, h.3, h.4, is_not_among h.2 (clients_of before) h.5, h.6)
fault_behind before line number (TooManyCommands at) h = inr (h.0, h.1, h.2, h.3, h.4, omega (arith, h.5, ap length (commands_among h.2 before)))
fault_behind before line number NoMemory h = inl refl

pub told_fault : (bytes : List ℕ) (number : ℕ) (rest line more : List ℕ) (clients : List ClientScript) (f : ScriptFault) → Told bytes number rest clients → IsFirstLine rest line more →
    IsFaultAfter clients line (number + 1) f → (f ≡ NoMemory) ⊎ HasFirstLineFault [] 0 bytes f
told_fault bytes number rest line more clients f told first h =
    ⊎_elim
    (λ e. inl e)
    (λ g. inr (told.fault f ([], told.before, line, rest, more, refl, refl, first, subst (λ (n : ℕ). IsLineFault told.before line n f) (let same : number + 1 ≡ number + 0 + 1 = omega arith in same) g)))
    (fault_behind told.before line (number + 1) f (subst (λ (l : List ClientScript). IsFaultAfter l line (number + 1) f) told.known h))
