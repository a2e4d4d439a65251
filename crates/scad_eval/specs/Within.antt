-- Bodies with the numbers of their blocks, and calls of modules.
use Rattle.std.specs.Prelude.{ℕ, ◌<◌}
use Rattle.scad_ast.specs.StatementView.{body_of}
use Rattle.scad_ast.specs.Terms.{BodyTerm}
use Rattle.scad_definitions.specs.Blocks.{BlockTable}
use Rattle.scad_definitions.specs.declared.text.Module.{Module}
use Rattle.scad_func.specs.Definitions.{IsBlockOf, IsWholeTable}
use Rattle.scad_func.specs.Evaluations.{scopes_there}
use Rattle.scad_func.specs.View.{table_in}
use Rattle.scad_instance_rules.specs.declared.numbered.NumberedInstance.{NumberedInstance}
use Rattle.scad_instance_rules.specs.declared.position.NumberedBody.{NumberedBody}
use Rattle.scad_instance_rules.specs.declared.position.Position.{Position}
use Rattle.scad_instance_rules.specs.declared.table.InstanceTable.{InstanceTable}
use Rattle.scad_instance_rules.specs.Listing.{AreInstancesOf}
use Rattle.scad_instance_rules.specs.Positions.{HasBlocks}
use Rattle.scad_eval.specs.declared.evaluator.InstanceEvaluator.{InstanceEvaluator}
use Rattle.scad_eval.specs.Keeping.{IsCheckedInside, IsPosition}

-- a body without the number of its block
abbrev pub body_seen : NumberedBody → BodyTerm
body_seen body = body_of body.body.now

-- the body stands in its block
abbrev pub IsInBlock : BlockTable → NumberedBody → Type 0
IsInBlock table body = IsBlockOf table body.block (body_seen body)

-- a position, and an instance that is evaluated there and whose bodies stand in its blocks
pub record IsInstanceAt (evaluator : InstanceEvaluator) (stand : Position) (instance : NumberedInstance) : Type 0 where
  pub position : IsPosition evaluator stand
  pub blocks : HasBlocks (table_in evaluator.evaluation.source.now) instance

-- a position, and a body that is evaluated there and stands in its block
pub record IsBodyAt (evaluator : InstanceEvaluator) (stand : Position) (body : NumberedBody) : Type 0 where
  pub position : IsPosition evaluator stand
  pub block : IsInBlock (table_in evaluator.evaluation.source.now) body

-- a call of a module in a whole source with its instances: its body stands in its block, and the module's in its own, and the
-- scope of the module is there
pub record IsModuleCall (evaluator : InstanceEvaluator) (instances : InstanceTable) (defined : Module) (defining_scope : ℕ) (body : NumberedBody) : Type 0 where
  pub whole : IsWholeTable (table_in evaluator.evaluation.source.now)
  pub listed : AreInstancesOf (table_in evaluator.evaluation.source.now) instances
  pub block : IsInBlock (table_in evaluator.evaluation.source.now) body
  pub its_block : IsBlockOf (table_in evaluator.evaluation.source.now) defined.block (body_of defined.body.now)
  pub there : defining_scope < scopes_there evaluator.evaluation

-- a position, and a call of a module there
pub record IsCallAt (evaluator : InstanceEvaluator) (stand : Position) (defined : Module) (defining_scope : ℕ) (body : NumberedBody) : Type 0 where
  pub inside : IsCheckedInside evaluator.unit stand.inside
  pub called : IsModuleCall evaluator stand.instances.now defined defining_scope body
