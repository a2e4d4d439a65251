-- What one builder does in its lane, node by node.
use Rattle.std.proofs.Common.{◌≡◌, ℕ, zero, suc, ◌+◌, ◌≤◌, ◌<◌, List, [], ◌∷◌, ◌++◌, length, take, ap, sym, subst, ◌∙◌, arith, length-append}
use Rattle.std.proofs.lemmas.List.Sums.{sum_by-cons}
use Rattle.csg_tree.specs.HalfSpaceTrees.{Tree}
use Rattle.bsp_boolean.specs.TreeSolids.{one_if_join}
use Rattle.subtree_memo.specs.declared.ledgers.MemoLedger.{Ghosts}
use Rattle.parallel_eval.specs.declared.growth.NodeOutcome.{NodeOutcome}
use Rattle.parallel_eval.specs.declared.lane.Lane.{Lane}
use Rattle.parallel_eval.specs.Joins.{AreAsked}
use Rattle.parallel_eval.specs.Runs.{joins_to, IsNodeOutcome, IsMade, AreMade, AreNodeOutcomes, IsComplete, IsLaneAt, IsLaneDone}
use Rattle.parallel_eval.proofs.Books.{asked_behind, asked_up_to}
use Rattle.parallel_eval.proofs.Steps.{outcomes_more, made_but_last}

pub more_joins : (trees : List Tree) (m n : ℕ) → m ≤ n → joins_to trees m ≤ joins_to trees n
more_joins trees zero n h = omega arith
more_joins [] (suc m) zero h = omega arith
more_joins [] (suc m) (suc n) h = omega arith
more_joins (tree ∷ trees) (suc m) zero h = absurd (omega arith)
more_joins (tree ∷ trees) (suc m) (suc n) h =
    let fewer = sum_by-cons one_if_join tree (take m trees) in
    let more = sum_by-cons one_if_join tree (take n trees) in
    let rest : joins_to trees m ≤ joins_to trees n = more_joins trees m n (omega arith) in
    omega (arith, fewer, more, rest)

module _ {B S T H M K E : Type 0} {g : Ghosts H} (trees : List Tree) where
  pub lane_steps : (k l m n : ℕ) (first old new : Lane B S T H M K E g) (outcome : NodeOutcome) (done : Type 0) → IsLaneAt trees k first old l m →
      new.before ≡ old.before → new.last ≡ old.last → new.made.items ≡ old.made.items ++ outcome ∷ [] → IsNodeOutcome trees (k + 1) outcome →
      (IsMade outcome → done) → AreAsked done (joins_to trees k) (joins_to trees (k + 1)) old.share.share new.share.share m n →
      IsLaneAt trees (k + 1) first new l n
  lane_steps k l m n first old new outcome done at before last items came told asked =
      let many = at.many in record {
        before = before ∙ at.before;
        last = last ∙ at.last;
        outcomes = subst (AreNodeOutcomes trees first.before) (sym items) (outcomes_more trees first.before (k + 1) old.made.items outcome at.outcomes (omega (arith, many)) came);
        many = let more : length new.made.items ≡ length (old.made.items ++ outcome ∷ []) = ap length items in omega (arith, many, more, length-append old.made.items (outcome ∷ []));
        asked = asked_behind (AreMade old.made.items) done (AreMade new.made.items) (joins_to trees first.before) (joins_to trees k) (joins_to trees (k + 1)) l m n first.share.share old.share.share new.share.share
            (λ all. (made_but_last old.made.items outcome (subst AreMade items all)).0)
            (λ all. told (made_but_last old.made.items outcome (subst AreMade items all)).1)
            at.asked asked;
      }

  pub lane_breaks : (k l m n : ℕ) (first old new : Lane B S T H M K E g) (done : Type 0) → IsLaneAt trees k first old l m → k < first.last →
      new.before ≡ old.before → new.last ≡ old.last → new.made.items ≡ old.made.items →
      AreAsked done (joins_to trees k) (joins_to trees (k + 1)) old.share.share new.share.share m n → IsLaneDone trees first new l n
  lane_breaks k l m n first old new done at room before last items asked =
      let many : first.before + length new.made.items ≡ k = ap (λ x. first.before + length x) items ∙ at.many in
      let whole = asked_behind (AreMade old.made.items) done ⊥ (joins_to trees first.before) (joins_to trees k) (joins_to trees (k + 1)) l m n first.share.share old.share.share new.share.share
      (λ x. absurd x) (λ x. absurd x) at.asked asked in record {
        before = before ∙ at.before;
        last = last ∙ at.last;
        outcomes = subst (AreNodeOutcomes trees first.before) (sym items) at.outcomes;
        asked = asked_up_to ⊥ (IsComplete first.before first.last new.made.items) (joins_to trees first.before) (joins_to trees (k + 1)) (joins_to trees first.last) l n first.share.share new.share.share
            (λ all. let full = all.0 in omega arith) whole (more_joins trees (k + 1) first.last (omega arith));
      }

  -- a lane of which all nodes have an outcome is done
  pub lane_ends : (k l n : ℕ) (first new : Lane B S T H M K E g) → IsLaneAt trees k first new l n → k ≡ first.last → IsLaneDone trees first new l n
  lane_ends k l n first new at end = record {
    before = at.before;
    last = at.last;
    outcomes = at.outcomes;
    asked = subst (λ x. AreAsked (IsComplete first.before first.last new.made.items) (joins_to trees first.before) (joins_to trees x) first.share.share new.share.share l n) end
        (record { caller = at.asked.caller; parts = at.asked.parts; begun = at.asked.begun; answered = λ all. at.asked.answered all.1 });
  }
