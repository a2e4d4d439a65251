-- What a program means: the tree of its design in world position, or its first fault.
use Rattle.std.specs.Prelude.{◌≡◌, List, []}
use Rattle.plain_text.specs.declared.place.Place.{Place}
use Rattle.text_place.specs.declared.fault.FaultKind.{FaultKind}
use Rattle.plane_predicate.specs.declared.unit.Unit.{Unit as LengthUnit}
use Rattle.csg_tree.specs.HalfSpaceTrees.{Tree}
use Rattle.scad_ast.specs.Terms.{StatementTerm, statements_from}
use Rattle.scad_ast.specs.Places.{HoldsPlace}
use Rattle.text_place.specs.declared.fault.Stop.{Stop}
use Rattle.text_place.specs.declared.fault.Stop.TheVariants.{Fault, NoMemory}
use Rattle.scad_scope.specs.Names.{first_bindings}
use Rattle.scad_func.specs.Meaning.{Outcome, Gives, Faults}
use Rattle.scad_design.specs.Designs.{DesignTree}
use Rattle.scad_meaning.specs.Verdicts.{Judge, IsRightJudge}
use Rattle.scad_meaning.specs.Meaning.{design_of}
use Rattle.scad_design.specs.Placing.{PlacingOutcome, placing_tree, placing_fault, PlacesDesign}

-- a program means a tree, or has a first fault
pub data Meaning : Type 0 where
  a_tree : (tree : Tree) → Meaning
  a_fault : (kind : FaultKind) → (at : Place) → Meaning

-- this is what the placing of a design means
abbrev pub IsMeaningOf : PlacingOutcome → Meaning → Type 0
IsMeaningOf (placing_tree tree known) meaning = meaning ≡ a_tree tree
IsMeaningOf (placing_fault kind at) meaning = meaning ≡ a_fault kind at

-- a fault of evaluation comes before those of placing
abbrev pub IsMeaningOfDesign : Outcome DesignTree → Meaning → Type 0
IsMeaningOfDesign (Faults kind at) meaning = meaning ≡ a_fault kind at
IsMeaningOfDesign (Gives turns design) meaning = (out : PlacingOutcome) × PlacesDesign design [] out × IsMeaningOf out meaning

-- the meaning of a program in units, by whatever is right about shapes
abbrev pub IsMeaning : LengthUnit → List StatementTerm → Meaning → Type 0
IsMeaning unit program meaning =
    (judge : Judge) → IsRightJudge judge → IsMeaningOfDesign (design_of unit judge first_bindings (statements_from program)) meaning

-- a stop of evaluation: the program's first fault, or that memory ran out
abbrev pub IsMeaningStop : LengthUnit → List StatementTerm → Stop → Type 0
IsMeaningStop unit program (Fault fault) = IsMeaning unit program (a_fault fault.kind fault.place)
IsMeaningStop unit program NoMemory = Unit {0}

-- a fault stands at one of the program's places
abbrev pub HoldsFault : List StatementTerm → Stop → Type 0
HoldsFault program (Fault fault) = HoldsPlace program fault.place
HoldsFault program NoMemory = Unit {0}
