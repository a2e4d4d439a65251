-- The blocks in which the bodies of instances stand, by number.
use Rattle.std.specs.Prelude.{◌≡◌, ℕ, ◌+◌, ◌++◌, Bool, true, false, List, map, All, slice_index_or, Result, IfOk, OnOk}
use Rattle.scad_ast.specs.StatementView.{instance_of}
use Rattle.scad_ast.specs.Terms.{InstanceTerm, CoreTerm, IfTerm, IfElseTerm, ForTerm, IntersectionForTerm, ModuleCallTerm}
use Rattle.scad_definitions.specs.Blocks.{Entity, BlockTable, StandAt, entities_of_instance, count_blocks, nothing_there}
use Rattle.scad_func.specs.Definitions.{IsBlockOf}
use Rattle.scad_meaning.specs.Meaning.{core_of_instance}
use Rattle.scad_instance_rules.specs.declared.numbered.NumberedInstance.{NumberedInstance}

-- an instance without the numbers of its blocks
abbrev pub term_of_numbered : NumberedInstance → InstanceTerm
term_of_numbered numbered = instance_of numbered.instance.now

-- the bodies of a core stand in these blocks; the second one counts behind an `else` alone
abbrev pub CoreHasBlocks : BlockTable → CoreTerm → ℕ → ℕ → Type 0
CoreHasBlocks table (IfTerm at test body) block other = IsBlockOf table block body
CoreHasBlocks table (IfElseTerm at test body else_) block other = IsBlockOf table block body × IsBlockOf table other else_
CoreHasBlocks table (ForTerm at binders body) block other = IsBlockOf table block body
CoreHasBlocks table (IntersectionForTerm at binders body) block other = IsBlockOf table block body
CoreHasBlocks table (ModuleCallTerm at name args body) block other = IsBlockOf table block body

-- the bodies of an instance stand in its blocks
abbrev pub HasBlocks : BlockTable → NumberedInstance → Type 0
HasBlocks table numbered = CoreHasBlocks table (core_of_instance (term_of_numbered numbered)) numbered.block numbered.other

-- whether a core is a choice with an `else`
abbrev pub has_else : CoreTerm → Bool
has_else (IfTerm at test body) = false
has_else (IfElseTerm at test body else_) = true
has_else (ForTerm at binders body) = false
has_else (IntersectionForTerm at binders body) = false
has_else (ModuleCallTerm at name args body) = false

-- an instance whose blocks begin at its first number, and whose other number is that behind the first block
pub record BlocksBegin (table : BlockTable) (numbered : NumberedInstance) : Type 0 where
  pub stand : StandAt table numbered.block (entities_of_instance (term_of_numbered numbered))
  pub other : numbered.other ≡ (slice_index_or table.entries numbered.block nothing_there).block_end

-- these instances in order, each with the blocks of its bodies
pub record HaveBodyBlocks (table : BlockTable) (instances : List InstanceTerm) (numbered : List NumberedInstance) : Type 0 where
  pub found : map term_of_numbered numbered ≡ instances
  pub blocks : All (HasBlocks table) numbered

-- What adding instances does to those that were found, unless memory runs out: these stand behind them, and where those had
-- the blocks of their bodies, all have.
pub record AddsInstances {A E : Type 0} (table : BlockTable) (added : List InstanceTerm) (old new : List NumberedInstance)
    (result : Result A E) : Type 0 where
  pub instances : OnOk result (map term_of_numbered new ≡ map term_of_numbered old ++ added)
  pub blocks : All (HasBlocks table) old → OnOk result (All (HasBlocks table) new)

-- What passing over a part of a text does whose blocks begin at a number: it adds these instances, and answers the number
-- behind all of the part's blocks, unless memory runs out.
pub record PassesOver {E : Type 0} (table : BlockTable) (first : ℕ) (entities : List Entity) (added : List InstanceTerm)
    (old new : List NumberedInstance) (result : Result ℕ E) : Type 0 where
  pub block_end : IfOk result (λ next. next ≡ first + count_blocks entities)
  pub adds : AddsInstances table added old new result
