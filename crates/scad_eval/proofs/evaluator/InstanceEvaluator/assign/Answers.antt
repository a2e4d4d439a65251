use Rattle.std.proofs.Common.{ℕ, List, [], ◌∷◌, length, take, refl, ap, rules, ◌∙◌}
use Rattle.scad_value.specs.Values.{Val}
use Rattle.scad_value.specs.BoundedView.{bounded_val}
use Rattle.scad_eval.proofs.Beginning.{evaluation_kept}
use Rattle.scad_eval.proofs.evaluator.InstanceEvaluator.assign.Goals as goal

pub returns-in_ok-bind_special : goal.returns-in_ok-bind_special
returns-in_ok-bind_special c = λ position.
    let k = c.end_evaluation.ensures.back c.args.self.now.evaluation (evaluation_kept c.in_ok-begin_evaluation.ensures.begun c.in_ok-value.ensures.kept) in
    let b = c.in_ok-bind_special.ensures.begun in
    let pair : List ℕ × Val = (c.args.assignment.now.name.now, bounded_val c.in_ok-value.value) in
    record {
      equation = search rules;
      kept = record {
        older = record {
          unit = refl;
          same = record {
            source = b.source ∙ k.source;
            lent = b.lent ∙ k.lent;
            stands = b.stands ∙ k.stands;
            calls = b.calls ∙ k.calls;
            depth = b.depth ∙ k.depth;
          };
          front = ap (take c.args.self.now.evaluation.scope) (b.rows ∙ k.rows);
          there = ap length (b.rows ∙ k.rows);
        };
        leaves = refl;
        newer = pair ∷ [];
        bindings = c.in_ok-bind_special.ensures.bindings ∙ ap (λ l. pair ∷ l) k.bindings;
      };
    }
