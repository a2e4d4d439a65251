-- One element more at the end, of lists that a loop makes.
use Rattle.std.proofs.Common.{◌≡◌, ℕ, ◌+◌, ◌-◌, ◌≤◌, ◌<◌, List, [], ◌∷◌, ◌++◌, length, take, drop, get_or, refl, ap, sym, subst, ◌∙◌, arith}
use Rattle.std.proofs.lemmas.List.{take_rest}
use Rattle.csg_tree.specs.HalfSpaceTrees.{Tree}
use Rattle.subtree_memo.specs.Shares.{ShareView, fresh_share, joined_share}
use Rattle.subtree_memo.specs.declared.ledgers.MemoLedger.{Ghosts}
use Rattle.parallel_eval.specs.declared.growth.NodeOutcome.{NodeOutcome}
use Rattle.parallel_eval.specs.declared.lane.Lane.{Lane}
use Rattle.parallel_eval.specs.Runs.{IsNodeOutcome, IsMade, AreMade, AreNodeOutcomes, AreLanes, AreFreshLanes, AreOfCaller, with_lanes}

pub outcomes_more : (trees : List Tree) (before number : ℕ) (outcomes : List NodeOutcome) (outcome : NodeOutcome) → AreNodeOutcomes trees before outcomes →
    number ≡ before + length outcomes + 1 → IsNodeOutcome trees number outcome → AreNodeOutcomes trees before (outcomes ++ outcome ∷ [])
outcomes_more trees before number [] outcome all e one = (subst (λ n. IsNodeOutcome trees n outcome) (omega arith) one, tt)
outcomes_more trees before number (first ∷ outcomes) outcome all e one =
    (all.0, outcomes_more trees (before + 1) number outcomes outcome all.1 (omega arith) one)

pub made_but_last : (outcomes : List NodeOutcome) (outcome : NodeOutcome) → AreMade (outcomes ++ outcome ∷ []) → AreMade outcomes × IsMade outcome
made_but_last [] outcome all = (tt, all.0)
made_but_last (first ∷ outcomes) outcome all = let h = made_but_last outcomes outcome all.1 in ((all.0, h.0), h.1)

module _ {B S T H M K E : Type 0} {g : Ghosts H} where
  pub fresh_more : (caller before next last : ℕ) (lanes : List (Lane B S T H M K E g)) (lane : Lane B S T H M K E g) → AreFreshLanes caller before next lanes →
      lane.share.share ≡ fresh_share caller 1 → lane.before ≡ next → next ≤ lane.last → lane.made.items ≡ [] → lane.last ≡ last →
      AreFreshLanes caller before last (lanes ++ lane ∷ [])
  fresh_more caller before next last [] lane e share first order empty end =
      (share, first ∙ sym e, omega arith, empty, end)
  fresh_more caller before next last (l ∷ lanes) lane e share first order empty end =
      (e.0, e.1, e.2, e.3, fresh_more caller l.last next last lanes lane e.4 share first order empty end)

  pub with_more : (share : ShareView) (lanes : List (Lane B S T H M K E g)) (lane : Lane B S T H M K E g) → with_lanes share (lanes ++ lane ∷ []) ≡ with_lanes (joined_share share lane.share.share) lanes
  with_more share [] lane = refl
  with_more share (l ∷ lanes) lane = ap (λ s. joined_share s l.share.share) (with_more share lanes lane)

  pub caller_but_last : (caller : ℕ) (lanes : List (Lane B S T H M K E g)) (lane : Lane B S T H M K E g) → AreOfCaller caller (lanes ++ lane ∷ []) → AreOfCaller caller lanes × (lane.share.share.caller ≡ caller)
  caller_but_last caller [] lane all = (tt, all.0)
  caller_but_last caller (l ∷ lanes) lane all = let h = caller_but_last caller lanes lane all.1 in ((all.0, h.0), h.1)

module _ {B S T H M K E : Type 0} {g : Ghosts H} where
  pub lanes_first : (trees : List Tree) (before last : ℕ) (lanes : List (Lane B S T H M K E g)) (lane : Lane B S T H M K E g) → 0 < length lanes → lane ≡ get_or lanes 0 lane →
      AreLanes trees before last lanes → (lane.before ≡ before)
      × AreNodeOutcomes trees before lane.made.items × AreLanes trees lane.last last (take (length lanes - 1) (drop 1 lanes))
  lanes_first trees before last [] lane some e all = absurd (omega arith)
  lanes_first trees before last (l ∷ lanes) lane some e all =
      subst (λ x. (x.before ≡ before) × AreNodeOutcomes trees before x.made.items
      × AreLanes trees x.last last (take (length (l ∷ lanes) - 1) (drop 1 (l ∷ lanes)))) (sym e)
      (all.0, all.1, subst (AreLanes trees l.last last) (sym (take_rest (l ∷ lanes) 1)) all.2)

  -- the lanes end where they say
  pub lanes_end : (trees : List Tree) (before last : ℕ) (lanes : List (Lane B S T H M K E g)) → AreLanes trees before last lanes → before ≤ last
  lanes_end trees before last [] all = omega arith
  lanes_end trees before last (l ∷ lanes) all = let rest = lanes_end trees l.last last lanes all.2 in let here = all.0 in omega (arith, rest, l.order)

  pub with_caller : (share : ShareView) (lanes : List (Lane B S T H M K E g)) → (with_lanes share lanes).caller ≡ share.caller
  with_caller share [] = refl
  with_caller share (lane ∷ lanes) = with_caller share lanes
