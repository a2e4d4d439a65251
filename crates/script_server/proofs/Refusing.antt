-- A source means what its program means, and is refused with the fault of its text or of its program.
use Rattle.std.proofs.Common.{◌≡◌, inl, inr, List, ℕ, Result, Ok, Err, IfOk, IfErr, sym, subst}
use Rattle.text_place.specs.declared.fault.Stop.{Stop}
use Rattle.text_place.specs.declared.fault.Stop.TheVariants.{Fault, NoMemory}
use Rattle.scad_ast.specs.declared.program.Program.{Program}
use Rattle.scad_ast.specs.ProgramView.{program_of}
use Rattle.scad_ast.specs.Terms.{StatementTerm}
use Rattle.scad_parser.specs.Sources.{WritesProgram, RefusesText}
use Rattle.plane_predicate.specs.declared.unit.Unit.{Unit as LengthUnit}
use Rattle.csg_tree.specs.declared.tree.CsgTree.{CsgTree}
use Rattle.csg_tree.specs.ProperTrees.{IsProper}
use Rattle.csg_tree.specs.Trees.{plain_tree_of}
use Rattle.script_server.specs.Meaning.Sources.{Means, RefusesSource, GivesTree}

-- what a source's tree is, or why it has none
pub record GivesTreeOf (unit : LengthUnit) (source : List ℕ) (r : Result CsgTree Stop) : Type 0 where
  pub tree : IfOk r (λ tree. Means unit source (plain_tree_of tree))
  pub proper : IfOk r (λ tree. IsProper (plain_tree_of tree))
  pub fault : IfErr r (RefusesSource unit source)

program_gives : (unit : LengthUnit) (source : List ℕ) (program : List StatementTerm) (r : Result CsgTree Stop) → WritesProgram source program
    → GivesTree unit program r → GivesTreeOf unit source r
program_gives unit source program (Ok tree) w h = record { tree = (program, w, h.0); proper = h.1; fault = tt }
program_gives unit source program (Err (Fault fault)) w h = record { tree = tt; proper = tt; fault = inr (program, w, h) }
program_gives unit source program (Err NoMemory) w h = record { tree = tt; proper = tt; fault = tt }

text_refused : (unit : LengthUnit) (source : List ℕ) (why : Stop) → RefusesText source why → GivesTreeOf unit source (Err why)
text_refused unit source (Fault fault) h = record { tree = tt; proper = tt; fault = inl h }
text_refused unit source NoMemory h = record { tree = tt; proper = tt; fault = tt }

pub source_gives : (unit : LengthUnit) (source : List ℕ) (program lent : Program) (r : Result CsgTree Stop) → WritesProgram source (program_of program)
    → lent ≡ program → GivesTree unit (program_of lent) r → GivesTreeOf unit source r
source_gives unit source program lent r writes same gives =
    program_gives unit source (program_of program) r writes (subst (λ (p : Program). GivesTree unit (program_of p) r) same gives)

pub source_refused : (unit : LengthUnit) (source : List ℕ) (why : Stop) (r : Result CsgTree Stop) → RefusesText source why → r ≡ Err why → GivesTreeOf unit source r
source_refused unit source why r refuses is = subst (GivesTreeOf unit source) (sym is) (text_refused unit source why refuses)
