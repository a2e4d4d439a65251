-- The tree that a program means holds only within reach.
use Rattle.std.proofs.Common.{◌≡◌, ℕ, List, [], refl, sym, subst}
use Rattle.plane_predicate.specs.declared.unit.Unit.{Unit as LengthUnit}
use Rattle.csg_tree.specs.HalfSpaceTrees.{Tree}
use Rattle.csg_tree.specs.Reach.{KeepsWithinReach, LeavesKeepWithinReach}
use Rattle.scad_ast.specs.Terms.{StatementTerm, statements_from}
use Rattle.scad_scope.specs.Names.{first_bindings}
use Rattle.scad_func.specs.Meaning.{Outcome, Gives, Faults}
use Rattle.scad_design.specs.Designs.{DesignTree}
use Rattle.scad_design.specs.Placing.{PlacingOutcome, placing_tree, placing_fault, PlacesDesign}
use Rattle.scad_design.specs.Trees.{IsPlacedAs}
use Rattle.scad_meaning.specs.Verdicts.{Judge, IsRightJudge}
use Rattle.scad_meaning.specs.Meaning.{design_of}
use Rattle.scad_meaning.specs.Sources.{a_tree, IsMeaning, IsMeaningOf, IsMeaningOfDesign}
use Rattle.source_laws.specs.SourceHulls.{AreHullShapes}

same_tree : (f g : Tree) → a_tree f ≡ a_tree g → f ≡ g
same_tree f g e = cc

module _ (of_hulls : (unit : LengthUnit) (program : List StatementTerm) (judge : Judge) (turns : ℕ) (design : DesignTree) → IsRightJudge judge →
    design_of unit judge first_bindings (statements_from program) ≡ Gives turns design → AreHullShapes design)
    (placed_keep : (design : DesignTree) (tree : Tree) → AreHullShapes design → IsPlacedAs design tree → LeavesKeepWithinReach tree)
    (joins_keep : (f : Tree) → LeavesKeepWithinReach f → KeepsWithinReach f) where
  tree_kept : (tree : Tree) (design : DesignTree) (out : PlacingOutcome) → AreHullShapes design → PlacesDesign design [] out → IsMeaningOf out (a_tree tree) → KeepsWithinReach tree
  tree_kept tree design (placing_tree other known) hulls places e =
      subst KeepsWithinReach (sym (same_tree tree other e)) (joins_keep other (placed_keep design other hulls (known, places)))
  tree_kept tree design (placing_fault kind at) hulls places e = absurd (cc e)

  outcome_kept : (tree : Tree) (out : Outcome DesignTree) → ((turns : ℕ) (design : DesignTree) → out ≡ Gives turns design → AreHullShapes design) →
      IsMeaningOfDesign out (a_tree tree) → KeepsWithinReach tree
  outcome_kept tree (Faults kind at) hulls h = absurd (cc h)
  outcome_kept tree (Gives turns design) hulls h = tree_kept tree design h.0 (hulls turns design refl) h.1 h.2

  pub program_kept : (judge : Judge) → IsRightJudge judge → (unit : LengthUnit) (program : List StatementTerm) (tree : Tree) → IsMeaning unit program (a_tree tree) → KeepsWithinReach tree
  program_kept judge right unit program tree means =
      outcome_kept tree (design_of unit judge first_bindings (statements_from program))
      (λ turns design gives. of_hulls unit program judge turns design right gives) (means judge right)
