-- A program has a meaning: its design has a placing, and whatever is right about shapes says the same.
use Rattle.std.proofs.Common.{◌≡◌, List, [], refl, subst}
use Rattle.std.proofs.Math.Path.{fun_ext}
use Rattle.plain_text.specs.declared.place.Place.{Place}
use Rattle.plane_predicate.specs.declared.unit.Unit.{Unit as LengthUnit}
use Rattle.plane_predicate.specs.Space.{Coefficients}
use Rattle.primitives.specs.Shapes.{IsShape}
use Rattle.scad_ast.specs.Terms.{StatementTerm, statements_from}
use Rattle.scad_scope.specs.Names.{first_bindings}
use Rattle.scad_func.specs.Meaning.{Outcome, Gives, Faults}
use Rattle.scad_design.specs.Designs.{DesignTree, empty, a_leaf, joined_designs}
use Rattle.scad_design.specs.Placing.{PlacingOutcome, placing_tree, placing_fault, PlacesDesign}
use Rattle.scad_design.specs.Trees.{IsSoundDesign}
use Rattle.scad_meaning.specs.Verdicts.{Judge, IsRightJudge}
use Rattle.scad_meaning.specs.Meaning.{design_of}
use Rattle.scad_meaning.specs.Sources.{Meaning, a_tree, a_fault, IsMeaning, IsMeaningOf, IsMeaningOfDesign}
use Rattle.scad_meaning.proofs.lemmas.HeldPlaces.{Keeps}
use Rattle.scad_meaning.proofs.lemmas.InstancePlaces.{DesignHeld}
use Rattle.scad_meaning.proofs.lemmas.ProgramPlaces.{program_keeps}
use Rattle.scad_meaning.proofs.lemmas.Verdicts.{one_solid_verdict, one_flat_verdict, one_height_verdict, one_hull_verdict}

-- two judges that are always right are one
same_judge : (j k : Judge) → IsRightJudge j → IsRightJudge k → j ≡ k
same_judge j k right also =
    let solid : j.solid ≡ k.solid = fun_ext (λ unit. fun_ext (λ call. one_solid_verdict unit call (j.solid unit call) (k.solid unit call) (right.solid unit call) (also.solid unit call))) in
    let flat : j.flat ≡ k.flat = fun_ext (λ unit. fun_ext (λ call. one_flat_verdict unit call (j.flat unit call) (k.flat unit call) (right.flat unit call) (also.flat unit call))) in
    let height : j.height ≡ k.height = fun_ext (λ unit. fun_ext (λ center. fun_ext (λ height.
    one_height_verdict unit center height (j.height unit center height) (k.height unit center height) (right.height unit center height) (also.height unit center height)))) in
    let hull : j.hull ≡ k.hull = fun_ext (λ design. one_hull_verdict design (j.hull design) (k.hull design) (right.hull design) (also.hull design)) in
    λ i. record { solid = solid i; flat = flat i; height = height i; hull = hull i }

abbrev pub SomePlacing : Type 0
SomePlacing = (design : DesignTree) (known : List Coefficients) → IsSoundDesign design → (out : PlacingOutcome) × PlacesDesign design known out

pub sound : (P : Place → Type 0) (design : DesignTree) → DesignHeld P IsShape design → IsSoundDesign design
sound P empty h = tt
sound P (a_leaf part) h = h.1
sound P (joined_designs op left right) h = (sound P left h.0, sound P right h.1)

some_of_placed : (out : PlacingOutcome) → (meaning : Meaning) × IsMeaningOf out meaning
some_of_placed (placing_tree tree known) = (a_tree tree, refl)
some_of_placed (placing_fault kind at) = (a_fault kind at, refl)

some_of_design : SomePlacing → (P : Place → Type 0) (design : Outcome DesignTree) → Keeps P (DesignHeld P IsShape) design → (meaning : Meaning) × IsMeaningOfDesign design meaning
some_of_design some P (Faults kind at) h = (a_fault kind at, refl)
some_of_design some P (Gives turns design) h =
    let out = some design [] (sound P design h) in
    let meaning = some_of_placed out.0 in
    (meaning.0, (out.0, out.1, meaning.1))

pub some_meaning : (judge : Judge) → IsRightJudge judge → SomePlacing → (unit : LengthUnit) (program : List StatementTerm) → (meaning : Meaning) × IsMeaning unit program meaning
some_meaning judge right some unit program =
    let statements = statements_from program in
    let meaning = some_of_design some _ (design_of unit judge first_bindings statements) (program_keeps unit judge right program) in
    (meaning.0, λ other also. subst (λ (j : Judge). IsMeaningOfDesign (design_of unit j first_bindings statements) meaning.0) (same_judge judge other right also) meaning.1)
