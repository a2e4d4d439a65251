-- What a source means: the tree of the one program that it writes, or its first fault.
use Rattle.std.specs.Prelude.{ℕ, List, Result, Ok, Err, ◌⊎◌}
use Rattle.text_place.specs.declared.fault.Stop.{Stop}
use Rattle.text_place.specs.declared.fault.Stop.TheVariants as stop
use Rattle.text_place.specs.declared.fault.Fault.{Fault}
use Rattle.plane_predicate.specs.declared.unit.Unit.{Unit as LengthUnit}
use Rattle.csg_tree.specs.declared.tree.CsgTree.{CsgTree}
use Rattle.csg_tree.specs.HalfSpaceTrees.{Tree}
use Rattle.csg_tree.specs.ProperTrees.{IsProper}
use Rattle.csg_tree.specs.Trees.{plain_tree_of}
use Rattle.scad_ast.specs.Terms.{StatementTerm}
use Rattle.scad_parser.specs.Sources.{WritesProgram, HasTextFault}
use Rattle.scad_meaning.specs.Sources.{a_tree, a_fault, IsMeaning, IsMeaningStop}

-- the source means this tree, with its lengths in a unit
abbrev pub Means : LengthUnit → List ℕ → Tree → Type 0
Means unit source tree = (program : List StatementTerm) × WritesProgram source program × IsMeaning unit program (a_tree tree)

-- the first fault of the source: of its text, or else of the program that it writes
abbrev pub HasSourceFault : LengthUnit → List ℕ → Fault → Type 0
HasSourceFault unit source fault =
    HasTextFault source fault
    ⊎ ((program : List StatementTerm) × WritesProgram source program × IsMeaning unit program (a_fault fault.kind fault.place))

-- the source has no tree: it is refused with its first fault, unless memory ran out
abbrev pub RefusesSource : LengthUnit → List ℕ → Stop → Type 0
RefusesSource unit source (stop.Fault fault) = HasSourceFault unit source fault
RefusesSource unit source stop.NoMemory = Unit {0}

-- what a program gives: the proper tree that it means, or its first fault, unless memory ran out
abbrev pub GivesTree : LengthUnit → List StatementTerm → Result CsgTree Stop → Type 0
GivesTree unit program (Ok tree) = IsMeaning unit program (a_tree (plain_tree_of tree)) × IsProper (plain_tree_of tree)
GivesTree unit program (Err why) = IsMeaningStop unit program why
