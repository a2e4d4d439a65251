-- The meaning of a program, from its design and the design's placing.
use Rattle.std.proofs.Common.{◌≡◌, ℕ, List, [], Ok, refl, sym, subst}
use Rattle.text_place.specs.declared.fault.Stop.{Stop}
use Rattle.text_place.specs.declared.fault.Stop.TheVariants.{Fault, NoMemory}
use Rattle.plane_predicate.specs.declared.unit.Unit.{Unit as LengthUnit}
use Rattle.csg_tree.specs.HalfSpaceTrees.{Tree}
use Rattle.scad_ast.specs.Terms.{StatementTerm, statements_from}
use Rattle.scad_scope.specs.Names.{first_bindings}
use Rattle.scad_func.specs.Meaning.{Outcome, Gives}
use Rattle.scad_design.specs.declared.design.Design.{Design}
use Rattle.scad_design.specs.Designs.{DesignTree}
use Rattle.scad_design.specs.View.{plain_of}
use Rattle.scad_design.specs.Placing.{placing_tree, placing_fault}
use Rattle.scad_design.specs.Trees.{IsPlacedAs, IsStopOf}
use Rattle.scad_meaning.specs.Meaning.{design_of}
use Rattle.scad_meaning.specs.Sources.{a_tree, a_fault, IsMeaningOfDesign, IsMeaning, IsMeaningStop}
use Rattle.scad_eval.specs.Programs.{MeetsDesign}

placed_meaning : (out : Outcome DesignTree) (turns : ℕ) (design : DesignTree) (tree : Tree) → out ≡ Gives turns design
    → IsPlacedAs design tree → IsMeaningOfDesign out (a_tree tree)
placed_meaning out turns design tree e p = subst (λ o. IsMeaningOfDesign o (a_tree tree)) (sym e) (placing_tree tree p.0, p.1, refl)

pub tree_meant : (unit : LengthUnit) (program : List StatementTerm) (design : Design) (tree : Tree)
    → MeetsDesign unit program (Ok design) → IsPlacedAs (plain_of design) tree → IsMeaning unit program (a_tree tree)
tree_meant unit program design tree told p = λ judge right. let t = told judge right in
    placed_meaning (design_of unit judge first_bindings (statements_from program)) t.0 (plain_of design) tree t.1.is p

pub placing_stops : (unit : LengthUnit) (program : List StatementTerm) (design : Design) (stop : Stop)
    → MeetsDesign unit program (Ok design) → IsStopOf (plain_of design) [] stop → IsMeaningStop unit program stop
placing_stops unit program design (Fault fault) told p = λ judge right. let t = told judge right in
    subst (λ o. IsMeaningOfDesign o (a_fault fault.kind fault.place)) (sym t.1.is) (placing_fault fault.kind fault.place, p, refl)
placing_stops unit program design NoMemory told p = tt
