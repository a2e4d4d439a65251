-- What the calls that make shapes answer.
use Rattle.std.specs.Prelude.{◌≡◌, ℤ, List, Some, None, Result, Ok, Err}
use Rattle.text_place.specs.declared.fault.FaultKind.TheVariants.{TooLarge}
use Rattle.primitives.specs.declared.stop.ShapeStop.{ShapeStop}
use Rattle.primitives.specs.declared.stop.ShapeStop.TheVariants.{Kind, NoMemory}
use Rattle.primitives.specs.Shapes.{Mesh}
use Rattle.scad_meaning.specs.Verdicts.{Verdict}

-- the shape, where nothing is wrong with it, or the check that it fails, unless memory ran out
abbrev pub MeetsShape : Result Mesh ShapeStop → Verdict → Mesh → Type 0
MeetsShape (Ok shape) verdict mesh = (verdict ≡ None) × (shape ≡ mesh)
MeetsShape (Err (Kind kind)) verdict mesh = verdict ≡ Some kind
MeetsShape (Err NoMemory) verdict mesh = Unit {0}

-- the outline, where nothing is wrong with it, or the check that it fails, unless memory ran out
abbrev pub MeetsFlat : Result (List (List ℤ)) ShapeStop → Verdict → List (List ℤ) → Type 0
MeetsFlat (Ok flat) verdict outline = (verdict ≡ None) × (flat ≡ outline)
MeetsFlat (Err (Kind kind)) verdict outline = verdict ≡ Some kind
MeetsFlat (Err NoMemory) verdict outline = Unit {0}

-- TooLarge comes where a leaf doesn't keep within 2^53 - 1; and memory may run out
abbrev pub IsPastRange : Type 0 → ShapeStop → Type 0
IsPastRange safe (Kind TooLarge) = safe → ⊥
IsPastRange safe (Kind kind) = ⊥
IsPastRange safe NoMemory = Unit {0}
