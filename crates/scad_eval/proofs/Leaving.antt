-- Shapes and hulls whose checks hold, as leaves.
use Rattle.std.proofs.Common.{◌≡◌, ℕ, Bool, false, [], ◌∷◌, Option, Some, None, sym, ap, ◌∙◌, if◌then◌else◌}
use Rattle.text_place.specs.declared.fault.Stop.{Stop}
use Rattle.text_place.specs.declared.fault.Stop.TheVariants.{NoMemory}
use Rattle.text_place.specs.declared.fault.FaultKind.{FaultKind}
use Rattle.plane_predicate.specs.declared.unit.Unit.{Unit as LengthUnit}
use Rattle.primitives.specs.Sizes.{IsSizeStop}
use Rattle.primitives.specs.declared.stop.ShapeStop.{ShapeStop}
use Rattle.primitives.specs.declared.stop.ShapeStop.TheVariants as shapes
use Rattle.scad_meaning.specs.declared.extrusion.Extrusion.{Extrusion}
use Rattle.plain_text.specs.declared.place.Place.{Place}
use Rattle.primitives.specs.Shapes.{Mesh}
use Rattle.scad_meaning.specs.Verdicts.{Verdict}
use Rattle.scad_func.specs.Meaning.{Outcome, Gives, then_with}
use Rattle.scad_meaning.specs.Hulls.{is_nothing, hull_mesh}
use Rattle.scad_meaning.specs.Meaning.{InstanceDesign, unless_refused, leaf_design, with_leaf_of, hull_design}
use Rattle.scad_instance_rules.specs.Seen.{IsStopAt}
use Rattle.scad_eval.specs.Keeping.{IsCheckedExtrusion}
use Rattle.scad_meaning.proofs.lemmas.Verdicts.{one_height_verdict}

pub shape_checked : (v : Verdict) (at : Place) (mesh shape : Mesh) (turns leaves : ℕ) → v ≡ None → shape ≡ mesh
    → unless_refused v at (leaf_design at mesh turns leaves) ≡ leaf_design at shape turns leaves
shape_checked v at mesh shape turns leaves none same =
    ap (λ (x : Verdict). unless_refused x at (leaf_design at mesh turns leaves)) none
    ∙ ap (λ (m : Mesh). leaf_design at m turns leaves) (sym same)

-- nothing is wrong with a height that was checked, so only memory can run out
pub height_stops : (unit : LengthUnit) (through : Extrusion) (at : Place) (stop : ShapeStop) (result : Stop) → IsCheckedExtrusion unit through
    → IsSizeStop unit through.center (through.height ∷ []) stop → IsStopAt stop at result → result ≡ NoMemory
height_stops unit through at (shapes.Kind kind) result known fault is =
    let same = one_height_verdict unit through.center through.height None (Some kind) known.sizes fault in absurd (differ kind same)
  where
    differ : (kind : FaultKind) → ◌≡◌ {A = Option FaultKind} None (Some kind) → ⊥
    differ kind e = cc
height_stops unit through at shapes.NoMemory result known fault is = is

-- a hull with nothing wrong is a leaf, where there is something
abbrev hull_or_not : Verdict → Place → InstanceDesign → ℕ → Bool → Outcome InstanceDesign
hull_or_not v at m turns nothing =
    if nothing then Gives turns m
    else unless_refused v at (then_with (leaf_design at (hull_mesh m.design) turns m.leaves) (λ turns leaf. Gives turns (with_leaf_of m leaf)))

pub hull_checked : (v : Verdict) (at : Place) (m : InstanceDesign) (shape : Mesh) (turns : ℕ) (b : Bool) → b ≡ is_nothing m.design → b ≡ false → v ≡ None → shape ≡ hull_mesh m.design
    → hull_design v at m turns ≡ then_with (leaf_design at shape turns m.leaves) (λ turns leaf. Gives turns (with_leaf_of m leaf))
hull_checked v at m shape turns b is e none same =
    ap (hull_or_not v at m turns) (sym is ∙ e)
    ∙ ap (λ (x : Verdict). unless_refused x at (then_with (leaf_design at (hull_mesh m.design) turns m.leaves) (λ turns leaf. Gives turns (with_leaf_of m leaf)))) none
    ∙ ap (λ (mesh : Mesh). then_with (leaf_design at mesh turns m.leaves) (λ turns leaf. Gives turns (with_leaf_of m leaf))) (sym same)
