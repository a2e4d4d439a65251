-- One member more.
use Rattle.std.proofs.Common.{◌≡◌, ℕ, ◌+◌, ◌<◌, Bool, true, false, not, List, ◌∷◌, map, drop, length, get_or, Result, Ok, Err, refl, sym, ap, ◌∙◌, if◌then◌else◌}
use Rattle.std.proofs.lemmas.List.{at_drop_more}
use Rattle.text_place.specs.declared.fault.Stop.{Stop}
use Rattle.text_place.specs.declared.fault.Stop.TheVariants.{Fault, NoMemory}
use Rattle.scad_ast.specs.Terms.{InstanceTerm, AnInstance}
use Rattle.scad_func.specs.Meaning.{Outcome, Gives, Faults, Env, then_with}
use Rattle.scad_instance_rules.specs.declared.position.InstanceResult.{InstanceResult}
use Rattle.scad_instance_rules.specs.declared.numbered.NumberedInstance.{NumberedInstance}
use Rattle.scad_meaning.specs.Bodies.{has_no_geometry, is_child}
use Rattle.scad_meaning.specs.Meaning.{InstanceDesign, MemberDesigns, as_member, and_members, core_of_instance}
use Rattle.scad_instance_rules.specs.Positions.{term_of_numbered}
use Rattle.scad_func.specs.View.{MeetsOutcome}
use Rattle.scad_instance_rules.specs.Seen.{HasOutcome, instance_design_of, one_member_of, members_in_front}

flipped : (b : Bool) → (if b then false else true) ≡ not b
flipped true = refl
flipped false = refl

-- what is a child is a member
pub child_is_member : (env : Env) (i : InstanceTerm) → (if has_no_geometry env (core_of_instance i) then false else true) ≡ is_child env i
child_is_member env (AnInstance at modifiers core) = flipped (has_no_geometry env core)

-- an instance's design, as a member
as_member_agrees : (b : Bool) (r : Result InstanceResult Stop) (m l : ℕ) (out : Outcome InstanceDesign) → MeetsOutcome (instance_design_of l) r m out
    → MeetsOutcome (one_member_of b l) r m (then_with out (λ turns x. Gives turns (as_member b x)))
as_member_agrees b (Ok made) m l out h = ap (λ o. then_with o (λ turns x. Gives turns (as_member b x))) h
as_member_agrees b (Err (Fault fault)) m l out h = ap (λ o. then_with o (λ turns x. Gives turns (as_member b x))) h
as_member_agrees b (Err NoMemory) m l out h = tt

pub as_member_outcome : (b : Bool) {r : Result InstanceResult Stop} {m l : ℕ} {out : Outcome InstanceDesign} → HasOutcome instance_design_of r m l out
    → HasOutcome (one_member_of b) r m l (then_with out (λ turns x. Gives turns (as_member b x)))
as_member_outcome b {r = r} {m = m} {l = l} {out = out} h = record { is = as_member_agrees b r m l out h.is }

pub member_step : (b : Bool) (out : Outcome InstanceDesign) (go : ℕ → ℕ → Outcome MemberDesigns)
    → then_with out (λ turns m. then_with (go turns m.leaves) (λ turns ms. Gives turns (and_members (as_member b m) ms)))
    ≡ then_with (then_with out (λ turns m. Gives turns (as_member b m))) (λ turns ms. members_in_front ms (go turns ms.leaves))
member_step b (Gives turns m) go = refl
member_step b (Faults kind at) go = refl

-- the next of some instances, and the end of them
pub instances_here : (xs : List NumberedInstance) (i : ℕ) (x : NumberedInstance) → i < length xs → x ≡ get_or xs i x
    → map term_of_numbered (drop i xs) ≡ term_of_numbered x ∷ map term_of_numbered (drop (i + 1) xs)
instances_here xs i x h is =
    at_drop_more (map term_of_numbered) xs i x h ∙ ap (λ (y : NumberedInstance). term_of_numbered y ∷ map term_of_numbered (drop (i + 1) xs)) (sym is)
