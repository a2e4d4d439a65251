-- How many children a call has.
use Rattle.std.specs.Prelude.{◌≡◌, pos, length, Result, IfOk}
use Rattle.scad_ast.specs.Terms.{StatementTerms}
use Rattle.scad_value.specs.declared.bounded_value.BoundedValue.{BoundedValue}
use Rattle.scad_value.specs.Values.{NumberVal}
use Rattle.scad_value.specs.BoundedView.{bounded_val}
use Rattle.scad_func.specs.Meaning.{entered_scope, no_activation}
use Rattle.scad_func.specs.Evaluations.{KeepsEvaluation, env_here}
use Rattle.scad_func.specs.declared.evaluation.Evaluation.{Evaluation}
use Rattle.scad_meaning.specs.Bodies.{children_in}

-- What counting the children of a call with such a body does: it gives how many there are in a scope of the body inside the
-- one in which is evaluated, unless memory runs out, and all is as before.
pub record CountsChildren {E : Type 0} (body : StatementTerms) (old new : Evaluation) (result : Result BoundedValue E) : Type 0 where
  pub count : IfOk result (λ count. bounded_val count ≡ NumberVal (pos (length (children_in (entered_scope body no_activation (env_here old)) body))))
  pub kept : KeepsEvaluation old new
  pub turns : new.turns ≡ old.turns
