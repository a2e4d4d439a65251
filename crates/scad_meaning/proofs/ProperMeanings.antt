-- The tree that a program means is proper: its design is one of shapes, with few enough parts and no empty sides.
use Rattle.std.proofs.Common.{◌≡◌, ℕ, ◌+◌, ◌*◌, ◌≤◌, ◌<◌, ◌^◌, List, [], refl, sym, subst}
use Rattle.std.specs.Prelude.{All}
use Rattle.std.specs.List.{sum_by}
use Rattle.plain_text.specs.declared.place.Place.{Place}
use Rattle.plane_predicate.specs.declared.unit.Unit.{Unit as LengthUnit}
use Rattle.int_transform.specs.declared.affine.Affine.{Affine}
use Rattle.primitives.specs.Shapes.{IsShape}
use Rattle.csg_tree.specs.declared.op.Op.{Op}
use Rattle.csg_tree.specs.HalfSpaceTrees.{Tree}
use Rattle.csg_tree.specs.ProperTrees.{IsProper}
use Rattle.scad_ast.specs.Terms.{StatementTerm, statements_from}
use Rattle.scad_scope.specs.Names.{first_bindings}
use Rattle.scad_func.specs.Meaning.{Outcome, Gives, Faults}
use Rattle.scad_design.specs.Designs.{DesignTree, join_children, moved_design_tree}
use Rattle.scad_design.specs.Placing.{PlacingOutcome, placing_tree, placing_fault, PlacesDesign}
use Rattle.scad_design.specs.Trees.{leaf_count, tree_size, IsPlacedAs, IsSoundDesign, IsTrim}
use Rattle.scad_meaning.specs.Verdicts.{Judge, IsRightJudge}
use Rattle.scad_meaning.specs.Meaning.{design_of}
use Rattle.scad_meaning.specs.Sources.{a_tree, IsMeaning, IsMeaningOf, IsMeaningOfDesign}
use Rattle.scad_meaning.proofs.lemmas.HeldPlaces.{Keeps}
use Rattle.scad_meaning.proofs.lemmas.InstancePlaces.{DesignHeld}
use Rattle.scad_meaning.proofs.Parts.{design_small}
use Rattle.scad_meaning.proofs.lemmas.ProgramPlaces.{program_keeps}
use Rattle.scad_meaning.proofs.SomeMeaning.{sound}

same_tree : (f g : Tree) → a_tree f ≡ a_tree g → f ≡ g
same_tree f g e = cc

module _ (grouped_trim : (op : Op) (designs : List DesignTree) → All IsTrim designs → IsTrim (join_children op designs))
    (grouped_parts : (op : Op) (designs : List DesignTree) → leaf_count (join_children op designs) ≤ sum_by leaf_count designs)
    (moved_trim : (steps : List Affine) (design : DesignTree) → IsTrim design → IsTrim (moved_design_tree steps design))
    (moved_parts : (steps : List Affine) (design : DesignTree) → leaf_count (moved_design_tree steps design) ≡ leaf_count design)
    (pieces : (design : DesignTree) → IsTrim design → tree_size design ≤ 1 + 2 * leaf_count design)
    (proper : (design : DesignTree) (tree : Tree) → IsSoundDesign design → tree_size design < 2 ^ 32 → IsPlacedAs design tree → IsProper tree) where
  proper_placed : (tree : Tree) (design : DesignTree) (out : PlacingOutcome) → IsSoundDesign design → tree_size design < 2 ^ 32 → PlacesDesign design [] out → IsMeaningOf out (a_tree tree) → IsProper tree
  proper_placed tree design (placing_tree other known) is few places e = subst IsProper (sym (same_tree tree other e)) (proper design other is few (known, places))
  proper_placed tree design (placing_fault kind at) is few places e = absurd (cc e)

  proper_design : (P : Place → Type 0) (tree : Tree) (out : Outcome DesignTree) → Keeps P (DesignHeld P IsShape) out
      → ((turns : ℕ) (design : DesignTree) → out ≡ Gives turns design → tree_size design < 2 ^ 32) → IsMeaningOfDesign out (a_tree tree) → IsProper tree
  proper_design P tree (Faults kind at) held few h = absurd (cc h)
  proper_design P tree (Gives turns design) held few h = proper_placed tree design h.0 (sound P design held) (few turns design refl) h.1 h.2

  pub proper_meaning : (judge : Judge) → IsRightJudge judge → (unit : LengthUnit) (program : List StatementTerm) (tree : Tree) → IsMeaning unit program (a_tree tree) → IsProper tree
  proper_meaning judge right unit program tree means =
      proper_design _ tree (design_of unit judge first_bindings (statements_from program)) (program_keeps unit judge right program)
      (design_small grouped_trim grouped_parts moved_trim moved_parts pieces unit judge first_bindings (statements_from program)) (means judge right)
