-- A source and a sink, before and after a call.
use Rattle.std.specs.Prelude.{◌≡◌, ℕ, List, Option}

-- a source or a sink before and after a call: the bytes that it has, where it tells them, its count of faults, and that it
-- is as it was
pub record StreamChange : Type 1 where
  pub old : Option (List ℕ)
  pub new : Option (List ℕ)
  pub before : ℕ
  pub now : ℕ
  pub same : Type 0

-- of a type that tells its bytes and its faults so
abbrev pub stream_change : {T : Type 0} → (T → Option (List ℕ)) → (T → ℕ) → T → T → StreamChange
stream_change bytes faults old new =
    record { old = bytes old; new = bytes new; before = faults old; now = faults new; same = new ≡ old }

-- a source and a sink before and after a call
pub record StreamChanges : Type 1 where
  pub source : StreamChange
  pub sink : StreamChange

-- of types that tell their bytes and their faults so
abbrev pub stream_changes : {S K : Type 0} → (S → Option (List ℕ)) → (S → ℕ) → (K → Option (List ℕ)) → (K → ℕ)
    → S → S → K → K → StreamChanges
stream_changes left read_faults held write_faults source source' sink sink' =
    record { source = stream_change left read_faults source source'; sink = stream_change held write_faults sink sink' }
