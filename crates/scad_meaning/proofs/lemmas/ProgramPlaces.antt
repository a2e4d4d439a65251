-- A program's fault stands at a place that the program holds, whether it is one of evaluation or of placing.
use Rattle.std.proofs.Common.{List, [], Result, Ok, Err, sym, subst}
use Rattle.std.specs.Prelude.{IfErr}
use Rattle.std.proofs.lemmas.List.Elements.{recursion_from_All, All-contains_itself}
use Rattle.plain_text.specs.declared.place.Place.{Place}
use Rattle.text_place.specs.declared.fault.FaultKind.{FaultKind}
use Rattle.text_place.specs.declared.fault.Stop.{Stop}
use Rattle.text_place.specs.declared.fault.Stop.TheVariants.{Fault, NoMemory}
use Rattle.plane_predicate.specs.declared.unit.Unit.{Unit as LengthUnit}
use Rattle.plane_predicate.specs.Space.{Coefficients}
use Rattle.csg_tree.specs.declared.op.Op.{Op}
use Rattle.csg_tree.specs.declared.tree.CsgTree.{CsgTree}
use Rattle.csg_tree.specs.HalfSpaceTrees.{Tree}
use Rattle.scad_ast.specs.Terms.{StatementTerm, statements_from}
use Rattle.scad_ast.specs.Places.{places_of_program, HoldsPlace}
use Rattle.scad_scope.specs.Names.{first_bindings}
use Rattle.scad_func.specs.Meaning.{Outcome, Gives, Faults}
use Rattle.scad_design.specs.Designs.{DesignTree, empty, a_leaf, joined_designs}
use Rattle.scad_design.specs.Placing.{PlacingOutcome, placing_tree, placing_fault, placing_of_join, PlacesRight, PlacesDesign}
use Rattle.scad_meaning.specs.Verdicts.{Judge, IsRightJudge}
use Rattle.scad_meaning.specs.Meaning.{design_of}
use Rattle.scad_meaning.specs.Sources.{Meaning, a_tree, a_fault, IsMeaningOf, IsMeaningOfDesign, IsMeaning, IsMeaningStop, HoldsFault}
use Rattle.scad_meaning.proofs.lemmas.Judges.{some_judge}
use Rattle.scad_meaning.proofs.lemmas.HeldPlaces.{Keeps}
use Rattle.primitives.specs.Shapes.{Mesh, IsShape}
use Rattle.scad_meaning.proofs.lemmas.InstancePlaces.{LetsThrough, shapes_alone, DesignHeld, design_keeps}

module _ (P : Place → Type 0) where
  -- placing
  abbrev PlacedHeld : PlacingOutcome → Type 0
  PlacedHeld (placing_tree tree known) = Unit {0}
  PlacedHeld (placing_fault kind at) = P at

  joined_held : (op : Op) (tree : Tree) (next : PlacingOutcome) → PlacedHeld next → PlacedHeld (placing_of_join op tree next)
  joined_held op tree (placing_tree right known) h = tt
  joined_held op tree (placing_fault kind at) h = h

  right_held : (right : List Coefficients → PlacingOutcome → Type 0) → ((known : List Coefficients) (out : PlacingOutcome) → right known out → PlacedHeld out)
      → (op : Op) (first out : PlacingOutcome) → PlacedHeld first → PlacesRight right op first out → PlacedHeld out
  right_held right g op (placing_fault kind at) out h r = subst PlacedHeld (sym r) h
  right_held right g op (placing_tree tree known) out h r = subst PlacedHeld (sym r.2) (joined_held op tree r.0 (g known r.0 r.1))

  places_held : (Q : Mesh → Type 0) (design : DesignTree) (known : List Coefficients) (out : PlacingOutcome) → DesignHeld P Q design → PlacesDesign design known out → PlacedHeld out
  places_held Q empty known out d h = subst PlacedHeld (sym h) tt
  places_held Q (a_leaf part) known (placing_tree tree now) d h = tt
  places_held Q (a_leaf part) known (placing_fault kind at) d h = subst P (sym h.1) d.0
  places_held Q (joined_designs op left right) known out d h =
      right_held (PlacesDesign right) (λ known out r. places_held Q right known out d.1 r) op h.0 out (places_held Q left known h.0 d.0 h.1) h.2

  -- meanings
  abbrev MeaningHeld : Meaning → Type 0
  MeaningHeld (a_tree tree) = Unit {0}
  MeaningHeld (a_fault kind at) = P at

  placed_means : (out : PlacingOutcome) (meaning : Meaning) → PlacedHeld out → IsMeaningOf out meaning → MeaningHeld meaning
  placed_means (placing_tree tree known) meaning p h = subst MeaningHeld (sym h) tt
  placed_means (placing_fault kind at) meaning p h = subst MeaningHeld (sym h) p

  design_means : (out : Outcome DesignTree) (meaning : Meaning) → Keeps P (DesignHeld P IsShape) out → IsMeaningOfDesign out meaning → MeaningHeld meaning
  design_means (Faults kind at) meaning k h = subst MeaningHeld (sym h) k
  design_means (Gives turns design) meaning k h = placed_means h.0 meaning (places_held IsShape design [] h.0 k h.1) h.2

-- the parts and the fault of a program's design stand at places of the program, and what holds of each shape that is let
-- through holds of its shapes
pub shapes_keep : (unit : LengthUnit) (Q : Mesh → Type 0) (judge : Judge) → LetsThrough unit Q judge → (program : List StatementTerm)
    → let P : Place → Type 0 = λ at. HoldsPlace program at in Keeps P (DesignHeld P Q) (design_of unit judge first_bindings (statements_from program))
shapes_keep unit Q judge lets program =
    design_keeps (λ at. HoldsPlace program at) Q unit judge lets first_bindings (statements_from program)
    (recursion_from_All (λ at. HoldsPlace program at) (places_of_program program) (All-contains_itself (places_of_program program)))

-- so the design is sound where the judge is right
pub program_keeps : (unit : LengthUnit) (judge : Judge) → IsRightJudge judge → (program : List StatementTerm)
    → let P : Place → Type 0 = λ at. HoldsPlace program at in Keeps P (DesignHeld P IsShape) (design_of unit judge first_bindings (statements_from program))
program_keeps unit judge right program = shapes_keep unit IsShape judge (shapes_alone unit judge right) program

pub fault_held : (unit : LengthUnit) (program : List StatementTerm) (kind : FaultKind) (at : Place)
    → IsMeaning unit program (a_fault kind at) → HoldsPlace program at
fault_held unit program kind at h =
    let judge = some_judge in
    design_means (λ at. HoldsPlace program at) (design_of unit judge.0 first_bindings (statements_from program)) (a_fault kind at)
    (program_keeps unit judge.0 judge.1 program) (h judge.0 judge.1)

pub stop_held : (unit : LengthUnit) (program : List StatementTerm) (stop : Stop) → IsMeaningStop unit program stop → HoldsFault program stop
stop_held unit program (Fault fault) h = fault_held unit program fault.kind fault.place h
stop_held unit program NoMemory h = tt

pub result_held : (unit : LengthUnit) (program : List StatementTerm) (r : Result CsgTree Stop) → IfErr r (IsMeaningStop unit program)
    → IfErr r (HoldsFault program)
result_held unit program (Ok tree) h = tt
result_held unit program (Err stop) h = stop_held unit program stop h
