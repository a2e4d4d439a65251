-- Bodies and calls that are still there after a step, and blocks in which names were assigned.
use Rattle.std.proofs.Common.{◌≡◌, ℕ, ◌+◌, ◌<◌, List, All, length, take, refl, sym, ap, subst, ◌∙◌}
use Rattle.scad_ast.specs.StatementView.{body_of}
use Rattle.scad_scope.specs.Names.{oldest_pairs}
use Rattle.scad_scope.specs.Table.{rows_of, bindings_of}
use Rattle.scad_definitions.specs.declared.text.Module.{Module}
use Rattle.scad_func.specs.View.{table_in}
use Rattle.scad_func.specs.Definitions.{IsBlockOf, IsWholeTable}
use Rattle.scad_func.specs.Evaluations.{KeepsAllButScopes, OneScopeMore}
use Rattle.scad_func.specs.declared.source.Source.{Source}
use Rattle.scad_instance_rules.specs.declared.numbered.NumberedInstance.{NumberedInstance}
use Rattle.scad_instance_rules.specs.declared.position.NumberedBody.{NumberedBody}
use Rattle.scad_instance_rules.specs.declared.position.Position.{Position}
use Rattle.scad_instance_rules.specs.Listing.{AreInstancesOf}
use Rattle.scad_instance_rules.specs.Positions.{HasBlocks}
use Rattle.scad_eval.specs.declared.evaluator.InstanceEvaluator.{InstanceEvaluator}
use Rattle.scad_eval.specs.Keeping.{IsPosition, Stays, Binds, Assigns}
use Rattle.scad_eval.specs.Within.{IsInBlock, IsInstanceAt, IsBodyAt, IsCallAt}
use Rattle.scad_scope.proofs.lemmas.Chain.{oldest_part}
use Rattle.scad_eval.proofs.Contexts.{checked_still}

-- where unit and source stay
module _ (old new : InstanceEvaluator) (unit : new.unit ≡ old.unit) (source : new.evaluation.source.now ≡ old.evaluation.source.now) where
  pub position_still : {position : Position} → IsPosition old position → IsPosition new position
  position_still {position = position} h = record {
    whole = subst (λ (x : Source). IsWholeTable (table_in x)) (sym source) h.whole;
    listed = subst (λ (x : Source). AreInstancesOf (table_in x) position.instances.now) (sym source) h.listed;
    inside = checked_still old.unit new.unit position.inside unit h.inside;
  }

  pub instance_still : {position : Position} {instance : NumberedInstance} → IsInstanceAt old position instance → IsInstanceAt new position instance
  instance_still {instance = instance} h = record {
    position = position_still h.position;
    blocks = subst (λ (x : Source). HasBlocks (table_in x) instance) (sym source) h.blocks;
  }

  pub body_still : {position : Position} {body : NumberedBody} → IsBodyAt old position body → IsBodyAt new position body
  body_still {body = body} h = record {
    position = position_still h.position;
    block = subst (λ (x : Source). IsInBlock (table_in x) body) (sym source) h.block;
  }

  -- where the scopes stay too
  pub call_still : rows_of new.evaluation.scopes.now ≡ rows_of old.evaluation.scopes.now
      → {position : Position} {defined : Module} {defining_scope : ℕ} {body : NumberedBody} → IsCallAt old position defined defining_scope body → IsCallAt new position defined defining_scope body
  call_still rows {position = position} {defined = defined} {defining_scope = defining_scope} {body = body} h = record {
    inside = checked_still old.unit new.unit position.inside unit h.inside;
    called = record {
      whole = subst (λ (x : Source). IsWholeTable (table_in x)) (sym source) h.called.whole;
      listed = subst (λ (x : Source). AreInstancesOf (table_in x) position.instances.now) (sym source) h.called.listed;
      block = subst (λ (x : Source). IsInBlock (table_in x) body) (sym source) h.called.block;
      its_block = subst (λ (x : Source). IsBlockOf (table_in x) defined.block (body_of defined.body.now)) (sym source) h.called.its_block;
      there = subst (λ l. defining_scope < length l) (sym rows) h.called.there;
    };
  }

-- instances that are chosen where all is well
pub instances_stand : (evaluator : InstanceEvaluator) (position : Position) (instances : List NumberedInstance) → IsPosition evaluator position
    → All (HasBlocks (table_in evaluator.evaluation.source.now)) instances → All (IsInstanceAt evaluator position) instances
instances_stand evaluator position instances stands blocks = λ i d h. record { position = stands; blocks = blocks i d h }

-- a scope that was entered, with more variables
pub scope_bound : (old : InstanceEvaluator) {before : ℕ} {mid new : InstanceEvaluator} → Binds mid new
    → OneScopeMore old.evaluation mid.evaluation before → OneScopeMore old.evaluation new.evaluation before
scope_bound old {mid = mid} {new = new} b e =
    let same = b.older.same in
    record {
      source = same.source ∙ e.source;
      lent = same.lent ∙ e.lent;
      from = e.from;
      front = ap (λ n. take n (rows_of new.evaluation.scopes.now)) same.stands ∙ b.older.front ∙ e.front;
      number = same.stands ∙ e.number;
      there = b.older.there ∙ e.there ∙ ap (λ n. n + 1) (sym same.stands);
      bindings = b.bindings ∙ e.bindings;
      calls = same.calls ∙ e.calls;
      depth = same.depth ∙ e.depth;
    }

-- a block in which names were assigned, once its special names are taken from the dynamic bindings
pub block_bound : (old mid after new : InstanceEvaluator) → Assigns old mid → Stays mid after → new.unit ≡ after.unit
    → KeepsAllButScopes after.evaluation new.evaluation → rows_of new.evaluation.scopes.now ≡ rows_of after.evaluation.scopes.now
    → bindings_of new.evaluation.scopes.now ≡ oldest_pairs (length (bindings_of old.evaluation.scopes.now)) (bindings_of after.evaluation.scopes.now)
    → Binds old new
block_bound old mid after new a k unit same rows bindings =
    let kept = k.evaluation in
    let first = a.older.same in
    record {
      older = record {
        unit = unit ∙ k.unit ∙ a.older.unit;
        same = record {
          source = same.source ∙ kept.source ∙ first.source;
          lent = same.lent ∙ kept.lent ∙ first.lent;
          stands = same.stands ∙ kept.stands ∙ first.stands;
          calls = same.calls ∙ kept.calls ∙ first.calls;
          depth = same.depth ∙ kept.depth ∙ first.depth;
        };
        front = ap (take old.evaluation.scope) (rows ∙ kept.rows) ∙ a.older.front;
        there = ap length (rows ∙ kept.rows) ∙ a.older.there;
      };
      bindings = bindings ∙ ap (oldest_pairs (length (bindings_of old.evaluation.scopes.now))) (kept.bindings ∙ a.bindings)
          ∙ oldest_part (length (bindings_of old.evaluation.scopes.now)) a.newer (bindings_of old.evaluation.scopes.now) refl;
    }
