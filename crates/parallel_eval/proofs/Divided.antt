-- A run that was divided among the first builders, and done by them.
use Rattle.std.proofs.Common.{◌≡◌, ℕ, ◌+◌, ◌-◌, ◌^◌, ◌≤◌, ◌<◌, List, [], ◌∷◌, ◌++◌, length, take, drop, All, sum_by, ap, sym, subst, ◌∙◌, arith}
use Rattle.std.proofs.lemmas.List.{take_all, drop_all, append-nil}
use Rattle.std.proofs.lemmas.List.Elements.{All-append, All-weaker, All-nil, All-cons, All-head, All-tail}
use Rattle.std.proofs.lemmas.List.Sums.{sum_by-append}
use Rattle.csg_tree.specs.HalfSpaceTrees.{Tree}
use Rattle.parallel_zip.specs.Pairs.{EachWorked}
use Rattle.subtree_memo.specs.Shares.{ShareView, dropped_max}
use Rattle.subtree_memo.specs.declared.ledgers.MemoLedger.{Ghosts}
use Rattle.parallel_eval.specs.declared.lane.Lane.{Lane}
use Rattle.parallel_eval.specs.Joins.{AreAnswered, AreBegun, AreAsked}
use Rattle.parallel_eval.specs.Runs.{joins_to, AreAtMost, IsLaneDone, AreFreshLanes, AreLanes, AreComplete, AreOfCaller, with_lanes}
use Rattle.parallel_eval.proofs.Dealt.{begun_beside, answered_beside, begun_with_parts, answered_with_parts}
use Rattle.parallel_eval.proofs.Worked.{lanes_begun, lanes_answered, lanes_parts, lanes_order, lanes_at_most, lanes_of, lanes_caller, same_lengths}

module _ {D B S T H M K E : Type 0} {g : Ghosts H} (count : D → ℕ) (trees : List Tree) (start last : ℕ) (share v : ShareView) (bs idle cs : List D) (ls ms : List (Lane B S T H M K E g)) where
  -- what is known of them
  pub record IsDivided : Type 0 where
    pub rest : v ≡ record share { parts = share.parts - length ls }
    pub fresh : AreFreshLanes share.caller start last ls
    pub worked : EachWorked (λ (b : D) (l : Lane B S T H M K E g) (c : D) (m : Lane B S T H M K E g). IsLaneDone trees l m (count b) (count c)) bs ls cs ms
    pub dropped : share.dropped ≤ 2 ^ 46 + joins_to trees start
    pub few : joins_to trees last ≤ 2 ^ 32

  room : IsDivided → v.dropped + joins_to trees last ≤ dropped_max + joins_to trees start
  room h =
      let same : v.dropped ≡ share.dropped = ap (λ (s : ShareView). s.dropped) h.rest in
      let dropped = h.dropped in
      let few = h.few in
      omega arith

  pub divided_begun : IsDivided → AreBegun (joins_to trees start) (joins_to trees last) share (with_lanes v ms) (sum_by count (bs ++ idle)) (sum_by count (cs ++ idle))
  divided_begun h =
      let m = sum_by count bs in
      let n = sum_by count cs in
      let a = joins_to trees start in
      let b = joins_to trees last in
      let here = lanes_begun count trees start last share.caller v bs ls cs ms h.fresh h.worked (room h) in
      let whole = begun_with_parts a b m n (share.parts - length ls) share (with_lanes v ms)
      (subst (λ (x : ShareView). AreBegun a b x (with_lanes v ms) m n) h.rest here) in
      begun_beside a b m n (sum_by count idle) (sum_by count (bs ++ idle)) (sum_by count (cs ++ idle)) share (with_lanes v ms) whole
      (sum_by-append count bs idle) (sum_by-append count cs idle)

  pub divided_answered : IsDivided → AreComplete ms → AreAnswered (joins_to trees start) (joins_to trees last) share (with_lanes v ms) (sum_by count (bs ++ idle)) (sum_by count (cs ++ idle))
  divided_answered h all =
      let m = sum_by count bs in
      let n = sum_by count cs in
      let a = joins_to trees start in
      let b = joins_to trees last in
      let here = lanes_answered count trees start last share.caller v bs ls cs ms h.fresh h.worked (room h) all in
      let whole = answered_with_parts a b m n (share.parts - length ls) share (with_lanes v ms)
      (subst (λ (x : ShareView). AreAnswered a b x (with_lanes v ms) m n) h.rest here) in
      answered_beside a b m n (sum_by count idle) (sum_by count (bs ++ idle)) (sum_by count (cs ++ idle)) share (with_lanes v ms) whole
      (sum_by-append count bs idle) (sum_by-append count cs idle)

  pub divided_parts : IsDivided → length ls ≤ share.parts → (with_lanes v ms).parts ≡ share.parts
  divided_parts h enough =
      let all : (with_lanes v ms).parts ≡ v.parts + length ls = lanes_parts count trees start last share.caller v bs ls cs ms h.fresh h.worked in
      let rest : v.parts ≡ share.parts - length ls = ap (λ (s : ShareView). s.parts) h.rest in
      omega arith

  pub divided_counts : IsDivided → AreAtMost count (2 ^ 46 + joins_to trees start) bs → AreAtMost count (2 ^ 46 + joins_to trees start) idle →
      AreAtMost count (2 ^ 46 + joins_to trees last) (cs ++ idle)
  divided_counts h busy others =
      let order : joins_to trees start ≤ joins_to trees last = lanes_order count trees start last share.caller bs ls cs ms h.fresh h.worked in
      All-append (λ b. count b ≤ 2 ^ 46 + joins_to trees last) cs idle
      (lanes_at_most count trees start last share.caller (2 ^ 46 + joins_to trees start) (2 ^ 46 + joins_to trees last) bs ls cs ms h.fresh h.worked busy (omega arith))
      (All-weaker (λ b. count b ≤ 2 ^ 46 + joins_to trees start) (λ b. count b ≤ 2 ^ 46 + joins_to trees last) (λ b few. omega arith) idle others)

  pub divided_lanes : IsDivided → AreLanes trees start last ms
  divided_lanes h = lanes_of count trees start last share.caller bs ls cs ms h.fresh h.worked

  pub divided_caller : IsDivided → AreOfCaller v.caller ms
  divided_caller h = subst (λ n. AreOfCaller n ms) (sym (ap (λ (s : ShareView). s.caller) h.rest)) (lanes_caller count trees start last share.caller bs ls cs ms h.fresh h.worked)

  pub divided_asked : IsDivided → length ls ≤ share.parts → (with_lanes v ms).caller ≡ v.caller →
      AreAsked (AreComplete ms) (joins_to trees start) (joins_to trees last) share (with_lanes v ms) (sum_by count (bs ++ idle)) (sum_by count (cs ++ idle))
  divided_asked h enough caller = record {
    caller = caller ∙ ap (λ (s : ShareView). s.caller) h.rest;
    parts = divided_parts h enough;
    begun = divided_begun h;
    answered = divided_answered h;
  }

  pub divided_many : IsDivided → length ms ≡ length ls
  divided_many h = (same_lengths count trees bs ls cs ms h.worked).1

module _ {D B S T H M K E : Type 0} {g : Ghosts H} (count : D → ℕ) (trees : List Tree) (start last : ℕ) (share v : ShareView) (bs idle cs : List D) (items ls ms : List (Lane B S T H M K E g)) where
  pub divided_of : v ≡ record share { parts = share.parts - length items } → AreFreshLanes share.caller start last items → ls ≡ items →
      EachWorked (λ (b : D) (l : Lane B S T H M K E g) (c : D) (m : Lane B S T H M K E g). IsLaneDone trees l m (count b) (count c)) bs ls cs ms →
      share.dropped ≤ 2 ^ 46 + joins_to trees start → joins_to trees last ≤ length trees → length trees < 2 ^ 32 →
      IsDivided count trees start last share v bs idle cs ls ms
  divided_of rest fresh same worked dropped some few = record {
    rest = rest ∙ ap (λ (l : List (Lane B S T H M K E g)). record share { parts = share.parts - length l }) (sym same);
    fresh = subst (AreFreshLanes share.caller start last) (sym same) fresh;
    worked = worked;
    dropped = dropped;
    few = omega arith;
  }

-- elements that were all written over
pub written : {A : Type 0} (n : ℕ) (new old : List A) → length new ≡ length old → length old ≡ n → take n (new ++ drop (length new) old) ≡ new
written n new old same many =
    ap (λ rest. take n (new ++ rest)) (drop_all (length new) old (omega arith))
    ∙ ap (take n) (append-nil new)
    ∙ take_all n new (omega arith)

pub all_front : {A : Type 0} (P : A → Type 0) (xs ys : List A) → All P (xs ++ ys) → All P xs
all_front P [] ys all = All-nil P
all_front P (x ∷ xs) ys all = All-cons P x xs (All-head P x (xs ++ ys) all) (all_front P xs ys (All-tail P x (xs ++ ys) all))

pub all_behind : {A : Type 0} (P : A → Type 0) (xs ys : List A) → All P (xs ++ ys) → All P ys
all_behind P [] ys all = all
all_behind P (x ∷ xs) ys all = all_behind P xs ys (All-tail P x (xs ++ ys) all)
