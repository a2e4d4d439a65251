-- Laws of what steps tell, one after another.
use Rattle.std.proofs.Common.{◌≡◌, ℕ, List, ◌++◌, Option, Some, None, Result, Ok, Err, refl, sym, ap, subst, ◌∙◌, append_assoc}
use Rattle.text_place.specs.declared.fault.Stop.{Stop}
use Rattle.text_place.specs.declared.fault.Stop.TheVariants.{Fault, NoMemory}
use Rattle.scad_design.specs.Designs.{DesignTree}
use Rattle.scad_func.specs.Meaning.{Outcome, Gives, Faults, then_with}
use Rattle.scad_func.specs.View.{MeetsOutcome, IsNoMemory}
use Rattle.scad_instance_rules.specs.declared.position.MemberResults.{MemberResults}
use Rattle.scad_meaning.specs.Meaning.{MemberDesigns, no_members, and_members, first_root}
use Rattle.scad_instance_rules.specs.Seen.{HasOutcome, member_designs_of, IsLengthened, members_in_front}

-- what was said about an outcome holds for an equal one
pub along : {A B : Type 0} {see : ℕ → A → B} {r : Result A Stop} {turns leaves : ℕ} {a b : Outcome B}
    → a ≡ b → HasOutcome see r turns leaves b → HasOutcome see r turns leaves a
along {see = see} {r = r} {turns = turns} {leaves = leaves} e h = subst (λ o. HasOutcome see r turns leaves o) (sym e) h

-- a step that gives something, and what is told behind it
pub then_outcome : {A B C D : Type 0} {see : ℕ → A → B} {after : ℕ → C → D} {x : A} {r : Result C Stop} {m l n k : ℕ}
    {out : Outcome B} (go : ℕ → B → Outcome D)
    → HasOutcome see (Ok x) m l out → HasOutcome after r n k (go m (see l x)) → HasOutcome after r n k (then_with out go)
then_outcome {see = see} {x = x} {m = m} {l = l} go h g = along (ap (λ o. then_with o go) h.is) g

-- a step that stops, and what would be behind it
stops : {A B C D : Type 0} (see : ℕ → A → B) (after : ℕ → C → D) (stop : Stop) (m l n k : ℕ) (out : Outcome B)
    (go : ℕ → B → Outcome D) → MeetsOutcome (see l) (Err stop) m out → MeetsOutcome (after k) (Err stop) n (then_with out go)
stops see after (Fault fault) m l n k out go h = ap (λ o. then_with o go) h
stops see after NoMemory m l n k out go h = tt

pub stop_outcome : {A B C D : Type 0} {see : ℕ → A → B} {after : ℕ → C → D} {stop : Stop} {m l n k : ℕ} {out : Outcome B}
    (go : ℕ → B → Outcome D) → HasOutcome see (Err stop) m l out → HasOutcome after (Err stop) n k (then_with out go)
stop_outcome {see = see} {after = after} {stop = stop} {m = m} {l = l} {n = n} {k = k} {out = out} go h =
    record { is = stops see after stop m l n k out go h.is }

-- running out of memory says nothing
pub no_memory : {A B : Type 0} {see : ℕ → A → B} {stop : Stop} {m l : ℕ} {out : Outcome B}
    → stop ≡ NoMemory → HasOutcome see (Err stop) m l out
no_memory {see = see} {m = m} {l = l} {out = out} e = subst (λ (s : Stop). HasOutcome see (Err s) m l out) (sym e) (record { is = tt })

pub only_no_memory : {A B : Type 0} {see : ℕ → A → B} {m l : ℕ} {out : Outcome B} (stop : Stop) → IsNoMemory stop → HasOutcome see (Err stop) m l out
only_no_memory (Fault fault) h = absurd h
only_no_memory NoMemory h = record { is = tt }

-- what an evaluation tells, whatever leaves there are
pub told_outcome : {A B : Type 0} (see : A → B) (r : Result A Stop) (turns leaves : ℕ) (out : Outcome B) → MeetsOutcome see r turns out
    → HasOutcome (λ leaves. see) r turns leaves out
told_outcome see r turns leaves out h = record { is = h }

-- members
first_of_three : (a b c : Option DesignTree) → first_root (first_root a b) c ≡ first_root a (first_root b c)
first_of_three None b c = refl
first_of_three (Some d) b c = refl

and_three : (a b c : MemberDesigns) → and_members (and_members a b) c ≡ and_members a (and_members b c)
and_three a b c =
    ap (λ (ds : List DesignTree). record { leaves = c.leaves; designs = ds; root = first_root (first_root a.root b.root) c.root })
    (append_assoc a.designs b.designs c.designs)
    ∙ ap (λ (m : Option DesignTree). record { leaves = c.leaves; designs = a.designs ++ (b.designs ++ c.designs); root = m })
    (first_of_three a.root b.root c.root)

pub front_of_none : (leaves : ℕ) (out : Outcome MemberDesigns) → members_in_front (no_members leaves) out ≡ out
front_of_none leaves (Gives turns ms) = refl
front_of_none leaves (Faults kind at) = refl

pub front_twice : (before more : MemberDesigns) (out : Outcome MemberDesigns) → members_in_front before (members_in_front more out) ≡ members_in_front (and_members before more) out
front_twice before more (Gives turns ms) = ap (Gives turns) (sym (and_three before more ms))
front_twice before more (Faults kind at) = refl

-- a loop that lengthens members: one step more
module _ {A : Type 0} (see : ℕ → A → MemberDesigns) (counts : (leaves : ℕ) (x : A) → (see leaves x).leaves ≡ leaves)
    (start : Outcome MemberDesigns) (before : MemberResults) (first : ℕ) (now step : Outcome MemberDesigns) (go : ℕ → ℕ → Outcome MemberDesigns)
    (s : start ≡ members_in_front (member_designs_of first before) now) (h : now ≡ then_with step (λ turns ms. members_in_front ms (go turns ms.leaves))) where
  gone : (turns leaves : ℕ) (x : A) (out : Outcome MemberDesigns) → out ≡ Gives turns (see leaves x)
      → then_with out (λ turns ms. members_in_front ms (go turns ms.leaves)) ≡ members_in_front (see leaves x) (go turns leaves)
  gone turns leaves x out e = ap (λ o. then_with o (λ turns ms. members_in_front ms (go turns ms.leaves))) e
      ∙ ap (λ n. members_in_front (see leaves x) (go turns n)) (counts leaves x)

  pub lengthened : (r : Result A Stop) (after : MemberResults) (turns leaves : ℕ) → IsLengthened see before r (Ok after)
      → HasOutcome see r turns leaves step → start ≡ members_in_front (member_designs_of leaves after) (go turns leaves)
  lengthened (Ok x) after turns leaves l t =
      s ∙ ap (members_in_front (member_designs_of first before)) (h ∙ gone turns leaves x step t.is)
      ∙ front_twice (member_designs_of first before) (see leaves x) (go turns leaves)
      ∙ ap (λ ms. members_in_front ms (go turns leaves)) (sym (l first leaves))
  lengthened (Err stop) after turns leaves l t = absurd l

  stopped : (f : Stop) (m l n k : ℕ) → MeetsOutcome (see l) (Err f) m step → MeetsOutcome (member_designs_of k) (Err f) n start
  stopped (Fault fault) m l n k t =
      s ∙ ap (members_in_front (member_designs_of first before)) (h ∙ ap (λ o. then_with o (λ turns ms. members_in_front ms (go turns ms.leaves))) t)
  stopped NoMemory m l n k t = tt

  pub lengthening_stops : (r : Result A Stop) (stop : Stop) (m l n k : ℕ) → IsLengthened see before r (Err stop)
      → HasOutcome see r m l step → HasOutcome member_designs_of (Err stop) n k start
  lengthening_stops (Ok x) stop m l n k e t = no_memory e
  lengthening_stops (Err f) stop m l n k e t =
      subst (λ (x : Stop). HasOutcome member_designs_of (Err x) n k start) (sym e) (record { is = stopped f m l n k t.is })

-- the same told with equal numbers of turns and leaves
pub outcome_with : {A B : Type 0} {see : ℕ → A → B} {r : Result A Stop} {m n k l : ℕ} {out : Outcome B}
    → m ≡ n → k ≡ l → HasOutcome see r n l out → HasOutcome see r m k out
outcome_with {see = see} {r = r} {m = m} {l = l} {out = out} e f h =
    subst (λ k. HasOutcome see r m k out) (sym f) (subst (λ n. HasOutcome see r n l out) (sym e) h)
