-- The instances of the blocks of a source, listed once.
use Rattle.std.specs.Prelude.{◌≡◌, ℕ, ◌<◌, ◌≤◌, Bool, true, false, not, ◌&&◌, ◌||◌, List, length, filter, slice_index_or, Option, Some, None, codes}
use Rattle.std.specs.Str.{bytes_eq}
use Rattle.std.specs.declared.alloc.Global.{Global}
use Rattle.std.specs.declared.boxed.Box.{Box}
use Rattle.scad_ast.specs.Terms.{StatementTerms, InstanceTerm, AnInstance, CoreTerm, ModuleCallTerm}
use Rattle.scad_definitions.specs.Blocks.{BlockTable}
use Rattle.scad_func.specs.Definitions.{statements_at}
use Rattle.scad_meaning.specs.Bodies.{evaluated_instances}
use Rattle.scad_instance_rules.specs.declared.numbered.NumberedInstance.{NumberedInstance}
use Rattle.scad_instance_rules.specs.declared.table.BlockInstances.{BlockInstances}
use Rattle.scad_instance_rules.specs.declared.table.ChildLists.{ChildLists}
use Rattle.scad_instance_rules.specs.declared.table.InstanceTable.{InstanceTable}
use Rattle.scad_instance_rules.specs.Positions.{term_of_numbered, HaveBodyBlocks}

-- whether a core is a call of `echo`, where that counts, or of `assert`, where that does
abbrev pub is_call_of_either : Bool → Bool → CoreTerm → Bool
is_call_of_either echo assert (ModuleCallTerm at name args body) =
    (echo && bytes_eq name (codes "echo")) || (assert && bytes_eq name (codes "assert"))
is_call_of_either echo assert core = false

-- whether an instance is a child, where calls of `echo` are none, or those of `assert`
abbrev pub is_child_where : Bool → Bool → InstanceTerm → Bool
is_child_where echo assert (AnInstance at modifiers core) = not (is_call_of_either echo assert core)

-- the same of an instance with the numbers of its blocks
abbrev pub is_numbered_child : Bool → Bool → NumberedInstance → Bool
is_numbered_child echo assert numbered = is_child_where echo assert (term_of_numbered numbered)

-- the children that are listed, where calls of `echo` are none, or those of `assert`
abbrev pub children_listed : Bool → Bool → List NumberedInstance → Option (Box ChildLists Global) → List NumberedInstance
children_listed echo assert all None = all
children_listed true true all (Some lists) = lists.value.without_either.items
children_listed true false all (Some lists) = lists.value.without_echo.items
children_listed false true all (Some lists) = lists.value.without_assert.items
children_listed false false all (Some lists) = all

-- the lists of children among instances
abbrev pub AreChildLists : List NumberedInstance → Option (Box ChildLists Global) → Type 0
AreChildLists all lists = (echo assert : Bool) → children_listed echo assert all lists ≡ filter (is_numbered_child echo assert) all

-- the lists of a block with these statements
pub record ListsInstances (table : BlockTable) (statements : StatementTerms) (lists : BlockInstances) : Type 0 where
  pub all : HaveBodyBlocks table (evaluated_instances statements) lists.all.items
  pub children : AreChildLists lists.all.items lists.children

-- the instances of each block that is there
pub record AreInstancesOf (table : BlockTable) (instances : InstanceTable) : Type 0 where
  pub count : length table.entries ≤ length instances.blocks.items
  pub each : (block : ℕ) (lists : BlockInstances) → block < length instances.blocks.items
      → ListsInstances table (statements_at table block) (slice_index_or instances.blocks.items block lists)
