-- Evaluations, calls and special arguments that begin, and what stays until they end.
use Rattle.std.proofs.Common.{◌≡◌, ℕ, ◌+◌, ◌-◌, ◌≤◌, ◌++◌, length, ap, ◌∙◌, length-append, arith}
use Rattle.scad_value.specs.Values.{Val}
use Rattle.scad_scope.specs.Names.{Pairs}
use Rattle.scad_scope.specs.Table.{bindings_of}
use Rattle.scad_func.specs.Limits.{most_calls}
use Rattle.scad_func.specs.Evaluations.{KeepsEvaluation, OneCallDeeper, OneEvaluationDeeper, MoreBindings}
use Rattle.scad_func.specs.declared.evaluation.Evaluation.{Evaluation}
use Rattle.scad_instance_rules.specs.declared.position.Position.{Position}
use Rattle.scad_eval.specs.declared.evaluator.InstanceEvaluator.{InstanceEvaluator}
use Rattle.scad_meaning.specs.Meaning.{with_calls_left, with_bindings}
use Rattle.scad_eval.specs.Keeping.{context_at}
use Rattle.scad_eval.proofs.Contexts.{context_from}

-- one evaluation deeper
pub deeper_context : (old new : InstanceEvaluator) (position : Position) → OneEvaluationDeeper old.evaluation new.evaluation
    → context_at new position ≡ context_at old position
deeper_context old new position b =
    context_from old new position (most_calls - old.evaluation.calls) (bindings_of old.evaluation.scopes.now) b.source b.rows b.stands (ap (λ n. most_calls - n) b.calls) b.bindings

pub evaluation_kept : {first old new : Evaluation} → OneEvaluationDeeper first old → KeepsEvaluation old new → OneEvaluationDeeper first new
evaluation_kept b k = record {
  source = k.source ∙ b.source;
  lent = k.lent ∙ b.lent;
  stands = k.stands ∙ b.stands;
  rows = k.rows ∙ b.rows;
  bindings = k.bindings ∙ b.bindings;
  calls = k.calls ∙ b.calls;
  depth = k.depth ∙ b.depth;
  within = b.within;
}

-- one call deeper
pub call_context : (old new : InstanceEvaluator) (position : Position) → OneCallDeeper old.evaluation new.evaluation
    → context_at new position ≡ with_calls_left (context_at old position) (most_calls - (old.evaluation.calls + 1))
call_context old new position b =
    context_from old new position (most_calls - (old.evaluation.calls + 1)) (bindings_of old.evaluation.scopes.now) b.source b.rows b.stands (ap (λ n. most_calls - n) b.calls) b.bindings

pub call_kept : {first old new : Evaluation} → OneCallDeeper first old → KeepsEvaluation old new → OneCallDeeper first new
call_kept b k = record {
  source = k.source ∙ b.source;
  lent = k.lent ∙ b.lent;
  stands = k.stands ∙ b.stands;
  rows = k.rows ∙ b.rows;
  bindings = k.bindings ∙ b.bindings;
  calls = k.calls ∙ b.calls;
  depth = k.depth ∙ b.depth;
  within = b.within;
}

-- special arguments among the dynamic bindings
pub specials_context : (old new : InstanceEvaluator) (position : Position) (count : ℕ) (dynamic : Pairs Val) → MoreBindings old.evaluation new.evaluation count
    → bindings_of new.evaluation.scopes.now ≡ dynamic ++ bindings_of old.evaluation.scopes.now
    → context_at new position ≡ with_bindings (context_at old position) (dynamic ++ bindings_of old.evaluation.scopes.now)
specials_context old new position count dynamic b bindings =
    context_from old new position (most_calls - old.evaluation.calls) (dynamic ++ bindings_of old.evaluation.scopes.now) b.source b.rows b.stands (ap (λ n. most_calls - n) b.calls) bindings

-- they are there to be taken from it
pub specials_there : (count : ℕ) (dynamic : Pairs Val) {first old new : Evaluation} → KeepsEvaluation old new → MoreBindings first old count
    → bindings_of old.scopes.now ≡ dynamic ++ bindings_of first.scopes.now → count ≤ length (bindings_of new.scopes.now)
specials_there count dynamic {first = first} k b bindings =
    omega (arith, b.number, ap length (k.bindings ∙ bindings), length-append dynamic (bindings_of first.scopes.now))
