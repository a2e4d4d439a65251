-- One assignment behind another.
use Rattle.std.proofs.Common.{◌≡◌, ℕ, ◌+◌, ◌<◌, List, ◌∷◌, map, drop, length, get_or, Ok, Err, refl, sym, ap, ◌∙◌}
use Rattle.std.proofs.lemmas.List.{at_drop_more}
use Rattle.text_place.specs.declared.fault.Stop.{Stop}
use Rattle.scad_value.specs.Values.{Val}
use Rattle.scad_definitions.specs.Blocks.{SourceAssignment}
use Rattle.scad_definitions.specs.declared.text.Assignment.{Assignment}
use Rattle.scad_definitions.specs.TextView.{source_assignment_of}
use Rattle.scad_func.specs.Meaning.{Outcome, Gives, Faults, then_with}
use Rattle.scad_meaning.specs.Meaning.{Context, assigned_value, with_assignment, each_assignment}
use Rattle.scad_instance_rules.specs.Seen.{HasOutcome}
use Rattle.scad_eval.proofs.Outcomes.{along, stop_outcome}

-- one assignment behind another
assigned_then : (evaluations : ℕ) (here : Context) (a : SourceAssignment) (as_ : List SourceAssignment) (out : Outcome Val)
    → then_with out (λ turns v. each_assignment evaluations (with_assignment a v here) as_ turns)
    ≡ then_with (then_with out (λ turns v. Gives turns (with_assignment a v here))) (λ turns there. each_assignment evaluations there as_ turns)
assigned_then evaluations here a as_ (Gives turns v) = refl
assigned_then evaluations here a as_ (Faults kind at) = refl

module _ (start : Outcome Context) (evaluations evaluations_here : ℕ) (here : Context) (xs : List Assignment) (i : ℕ) (x : Assignment) (turns : ℕ)
    (s : start ≡ each_assignment evaluations here (map source_assignment_of (drop i xs)) turns) (same : evaluations_here ≡ evaluations) (h : i < length xs) (is : x ≡ get_or xs i x) where
  next : start ≡ then_with (then_with (assigned_value evaluations_here here (source_assignment_of x) turns) (λ turns v. Gives turns (with_assignment (source_assignment_of x) v here)))
      (λ turns there. each_assignment evaluations there (map source_assignment_of (drop (i + 1) xs)) turns)
  next = s ∙ ap (λ l. each_assignment evaluations here l turns)
      (at_drop_more (map source_assignment_of) xs i x h ∙ ap (λ (y : Assignment). source_assignment_of y ∷ map source_assignment_of (drop (i + 1) xs)) (sym is))
      ∙ assigned_then evaluations here (source_assignment_of x) (map source_assignment_of (drop (i + 1) xs)) (assigned_value evaluations here (source_assignment_of x) turns)
      ∙ ap (λ n. then_with (then_with (assigned_value n here (source_assignment_of x) turns) (λ turns v. Gives turns (with_assignment (source_assignment_of x) v here)))
      (λ turns there. each_assignment evaluations there (map source_assignment_of (drop (i + 1) xs)) turns)) (sym same)

  pub assigned_next : {A : Type 0} {see : ℕ → A → Context} {r : A} (n l : ℕ)
      → HasOutcome see (Ok r) n l (then_with (assigned_value evaluations_here here (source_assignment_of x) turns) (λ turns v. Gives turns (with_assignment (source_assignment_of x) v here)))
      → start ≡ each_assignment evaluations (see l r) (map source_assignment_of (drop (i + 1) xs)) n
  assigned_next n l t = next ∙ ap (λ o. then_with o (λ turns there. each_assignment evaluations there (map source_assignment_of (drop (i + 1) xs)) turns)) t.is

  pub assigned_stops : {A B : Type 0} {see : ℕ → A → Context} {after : ℕ → B → Context} {stop : Stop} (m l n k : ℕ)
      → HasOutcome see (Err stop) m l (then_with (assigned_value evaluations_here here (source_assignment_of x) turns) (λ turns v. Gives turns (with_assignment (source_assignment_of x) v here)))
      → HasOutcome after (Err stop) n k start
  assigned_stops m l n k t = along next (stop_outcome (λ turns there. each_assignment evaluations there (map source_assignment_of (drop (i + 1) xs)) turns) t)
