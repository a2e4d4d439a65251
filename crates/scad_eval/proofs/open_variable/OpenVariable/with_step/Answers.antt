use Rattle.std.proofs.Common.{◌≡◌, ℕ, ◌+◌, ◌<◌, true, false, List, [], ◌∷◌, map, length, nat_eq, refl, sym, ap, subst, ◌∙◌, arith}
use Rattle.std.proofs.lemmas.Bool.Decides.{nat_tests}
use Rattle.plain_text.specs.declared.place.Place.{Place}
use Rattle.scad_design.specs.declared.design.Design.{Design}
use Rattle.scad_design.specs.View.{plain_of}
use Rattle.scad_func.specs.Limits.{most_turns}
use Rattle.scad_func.specs.Meaning.{Gives}
use Rattle.scad_func.specs.Evaluations.{KeepsEvaluation}
use Rattle.scad_func.specs.declared.evaluation.Evaluation.{Evaluation}
use Rattle.scad_instance_rules.specs.Seen.{member_designs_of, members_in_front}
use Rattle.scad_meaning.specs.Meaning.{MemberDesigns, counted_step, turn_after_step}
use Rattle.scad_func.proofs.lemmas.Kept.{keeps_same, keeps_trans}
use Rattle.scad_eval.proofs.Counting.{turn_counted}
use Rattle.scad_eval.proofs.open_variable.OpenVariable.with_step.Goals.{then-is_empty+in_ok-turn, else-is_empty}
use Rattle.scad_eval.proofs.open_variable.OpenVariable.with_step.Goals as goal

-- a step that gave nothing counts a turn
nothing_counts : (at : Place) (designs : List Design) (count start turns : ℕ) (ms : MemberDesigns) → true ≡ nat_eq count 0 → count ≡ length designs → start < most_turns → turns ≡ start + 1
    → turn_after_step at (map plain_of designs) start (λ turns. Gives turns ms) ≡ Gives turns ms
nothing_counts at [] count start turns ms empty same few counted = turn_counted at start (λ turns. Gives turns ms) few ∙ ap (λ (n : ℕ). Gives n ms) (sym counted)
nothing_counts at (design ∷ designs) count start turns ms empty same few counted = absurd (grind (arith, nat_tests))

-- another one doesn't
something_counts : (at : Place) (designs : List Design) (count start turns : ℕ) (ms : MemberDesigns) → false ≡ nat_eq count 0 → count ≡ length designs → turns ≡ start
    → turn_after_step at (map plain_of designs) start (λ turns. Gives turns ms) ≡ Gives turns ms
something_counts at [] count start turns ms empty length_is same = absurd (grind (arith, nat_tests))
something_counts at (design ∷ designs) count start turns ms empty length_is same = ap (λ (n : ℕ). Gives n ms) (sym same)

pub returns : goal.returns
returns c =
    let old = c.args.evaluation.now in
    let left = c.leave.new.self in
    let new = c.if-is_empty.evaluation in
    let designs = c.args.members.designs.items in
    let kept : KeepsEvaluation left new = elim c.if-is_empty.branch [
      | then-is_empty+in_ok-turn w ↦ subst (λ (x : Evaluation). KeepsEvaluation left x) (sym w.evaluation-is) w.turn.ensures.kept
      | else-is_empty w ↦ subst (λ (x : Evaluation). KeepsEvaluation left x) (sym w.evaluation-is) (keeps_same left)
    ] in
    let counted : (leaves : ℕ) → counted_step c.args.place (Gives old.turns (member_designs_of leaves c.args.members)) ≡ Gives new.turns (member_designs_of leaves c.args.members) =
    λ leaves. elim c.if-is_empty.branch [
      | then-is_empty+in_ok-turn w ↦
          let count_elements = w.in_ok-turn.ensures.counted in
          nothing_counts c.args.place designs c.args.members.designs.len old.turns new.turns (member_designs_of leaves c.args.members) w.if-is_empty.ensures (omega arith)
          (omega (arith, count_elements.0, c.leave.ensures.turns))
          (omega (arith, count_elements.1, c.leave.ensures.turns, ap (λ (x : Evaluation). x.turns) w.evaluation-is))
      | else-is_empty w ↦ something_counts c.args.place designs c.args.members.designs.len old.turns new.turns (member_designs_of leaves c.args.members) w.if-is_empty.ensures (omega arith)
          (ap (λ (x : Evaluation). x.turns) w.evaluation-is ∙ c.leave.ensures.turns)
    ] in
    record {
      back = λ first more. keeps_trans (c.leave.ensures.back first more) kept;
      value = λ start leaves. ap (members_in_front (member_designs_of start c.args.self.members)) (counted leaves)
          ∙ ap (λ (ms : MemberDesigns). Gives new.turns ms) (sym (c.in_ok-with_members.ensures start leaves));
      same = record { binder = refl; rest = refl; items = refl; outside = refl };
    }
