-- A program has one meaning: some judge is right, and a design has one placing.
use Rattle.std.proofs.Common.{◌≡◌, List, [], sym, subst, ◌∙◌}
use Rattle.plane_predicate.specs.declared.unit.Unit.{Unit as LengthUnit}
use Rattle.plane_predicate.specs.Space.{Coefficients}
use Rattle.scad_ast.specs.Terms.{StatementTerm, statements_from}
use Rattle.scad_scope.specs.Names.{first_bindings}
use Rattle.scad_func.specs.Meaning.{Outcome, Gives, Faults}
use Rattle.scad_design.specs.Designs.{DesignTree}
use Rattle.scad_design.specs.Placing.{PlacingOutcome, placing_tree, placing_fault, PlacesDesign}
use Rattle.scad_meaning.specs.Verdicts.{Judge, IsRightJudge}
use Rattle.scad_meaning.specs.Meaning.{design_of}
use Rattle.scad_meaning.specs.Sources.{Meaning, IsMeaning, IsMeaningOf, IsMeaningOfDesign}

abbrev pub OnePlacing : Type 0
OnePlacing = (design : DesignTree) (known : List Coefficients) (out other : PlacingOutcome) → PlacesDesign design known out → PlacesDesign design known other → out ≡ other

one_of_placed : (out : PlacingOutcome) (m n : Meaning) → IsMeaningOf out m → IsMeaningOf out n → m ≡ n
one_of_placed (placing_tree tree known) m n h g = h ∙ sym g
one_of_placed (placing_fault kind at) m n h g = h ∙ sym g

one_of_design : OnePlacing → (design : Outcome DesignTree) (m n : Meaning) → IsMeaningOfDesign design m → IsMeaningOfDesign design n → m ≡ n
one_of_design one (Faults kind at) m n h g = h ∙ sym g
one_of_design one (Gives turns design) m n h g =
    let same = one design [] g.0 h.0 g.1 h.1 in
    one_of_placed h.0 m n h.2 (subst (λ (out : PlacingOutcome). IsMeaningOf out n) same g.2)

pub one_meaning : (judge : Judge) → IsRightJudge judge → OnePlacing →
    (unit : LengthUnit) (program : List StatementTerm) (m n : Meaning) → IsMeaning unit program m → IsMeaning unit program n → m ≡ n
one_meaning judge right one unit program m n h g =
    one_of_design one (design_of unit judge first_bindings (statements_from program)) m n (h judge right) (g judge right)
