-- The current scope stays the newest.
use Rattle.std.proofs.Common.{◌≡◌, ℕ, ◌+◌, ◌++◌, length, Option, Result, Ok, sym, ap, ◌∙◌}
use Rattle.std.proofs.lemmas.Result.{IfOk-at_ok}
use Rattle.std.specs.declared.vec.Vec.{Vec}
use Rattle.std.specs.declared.alloc.Global.{Global}
use Rattle.scad_value.specs.Values.{Val}
use Rattle.scad_value.specs.declared.bounded_value.BoundedValue.{BoundedValue}
use Rattle.scad_scope.specs.Names.{Pairs}
use Rattle.scad_scope.specs.Table.{bindings_of}
use Rattle.scad_func.specs.View.{bound_arguments_in}
use Rattle.scad_func.specs.Transitions.{PushesBindings}
use Rattle.scad_func.specs.Evaluations.{MoreBindings, scopes_there}
use Rattle.scad_func.specs.declared.evaluation.Evaluation.{Evaluation}
use Rattle.scad_eval.specs.declared.evaluator.InstanceEvaluator.{InstanceEvaluator}

-- where it stays, and as many scopes are there
pub still_newest : (old new : Evaluation) → new.scope ≡ old.scope → scopes_there new ≡ scopes_there old
    → old.scope + 1 ≡ scopes_there old → new.scope + 1 ≡ scopes_there new
still_newest old new stands there newest = ap (λ n. n + 1) stands ∙ newest ∙ sym there

-- an evaluator with special arguments on its chain
abbrev pub with_more_bindings : (old : InstanceEvaluator) (new : Evaluation) (count : ℕ) → MoreBindings old.evaluation new count → InstanceEvaluator
with_more_bindings old new count begun = record {
  evaluation = new;
  unit = old.unit;
  leaves = old.leaves;
  few_leaves = old.few_leaves;
  newest = still_newest old.evaluation new begun.stands (ap length begun.rows) old.newest;
}

-- special arguments that were put among the dynamic bindings
pub specials_began : {E : Type 0} {old new : Evaluation} {r : Result ℕ E} {newer : Pairs Val} {count : ℕ} → PushesBindings old new r newer → r ≡ Ok count
    → MoreBindings old new count × (bindings_of new.scopes.now ≡ newer ++ bindings_of old.scopes.now)
specials_began {old = old} {new = new} {newer = newer} begins is =
    (IfOk-at_ok (λ (n : ℕ). MoreBindings old new n) is begins.begun, IfOk-at_ok (λ (n : ℕ). bindings_of new.scopes.now ≡ newer ++ bindings_of old.scopes.now) is begins.bindings)

-- slots that were lent to what may fail
pub slots_lent : {given lent : Vec (Option BoundedValue) Global} → lent ≡ given → bound_arguments_in given.items ≡ bound_arguments_in lent.items
slots_lent same = ap (λ (v : Vec (Option BoundedValue) Global). bound_arguments_in v.items) (sym same)
