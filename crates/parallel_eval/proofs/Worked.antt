-- Lanes that builders worked on, put together.
use Rattle.std.proofs.Common.{◌≡◌, ℕ, ◌+◌, ◌≤◌, List, [], ◌∷◌, length, sum_by, refl, ap, sym, subst, ◌∙◌, arith}
use Rattle.std.proofs.lemmas.List.Elements.{All-nil, All-cons, All-head, All-tail}
use Rattle.std.proofs.lemmas.List.Sums.{sum_by-cons}
use Rattle.csg_tree.specs.HalfSpaceTrees.{Tree}
use Rattle.parallel_zip.specs.Pairs.{EachWorked}
use Rattle.subtree_memo.specs.Shares.{ShareView, fresh_share, joined_share, dropped_max}
use Rattle.subtree_memo.specs.declared.ledgers.MemoLedger.{Ghosts}
use Rattle.parallel_eval.specs.declared.lane.Lane.{Lane}
use Rattle.parallel_eval.specs.Joins.{AreAnswered, AreBegun}
use Rattle.parallel_eval.specs.Runs.{joins_to, AreAtMost, AreNodeOutcomes, IsComplete, IsLaneDone, AreFreshLanes, AreLanes, AreComplete, AreOfCaller, with_lanes}
use Rattle.parallel_eval.proofs.Books.{none_begun, none_answered, few_dropped, few_builds}

-- what was counted on a fresh share counts the same on one that it is put to
joined_begun : (a b caller m n : ℕ) (v w : ShareView) → AreBegun a b (fresh_share caller 1) w m n → v.dropped + b ≤ dropped_max + a → AreBegun a b v (joined_share v w) m n
joined_begun a b caller m n v w h room =
    let more = few_dropped a b m n (fresh_share caller 1) w h in
    let few : w.dropped + a ≤ b = omega (arith, more) in record {
      order = h.order;
      hits = omega arith;
      misses = omega arith;
      kept = omega arith;
      heavy = omega arith;
      dropped = omega arith;
      probes = omega (arith, h.probes);
      builds = omega (arith, h.builds);
      offered = omega (arith, h.offered);
    }

joined_answered : (a b caller m n : ℕ) (v w : ShareView) → AreBegun a b (fresh_share caller 1) w m n → AreAnswered a b (fresh_share caller 1) w m n → v.dropped + b ≤ dropped_max + a → AreAnswered a b v (joined_share v w) m n
joined_answered a b caller m n v w h k room =
    let more = few_dropped a b m n (fresh_share caller 1) w h in
    let few : w.dropped + a ≤ b = omega (arith, more) in record {
      probes = omega (arith, k.probes);
      builds = omega (arith, k.builds);
      offered = omega (arith, k.offered);
    }

-- the counts of two parts together
both_begun : (a b c l l' m m' : ℕ) (s t u : ShareView) → AreBegun b c s t m m' → AreBegun a b t u l l' → AreBegun a c s u (l + m) (l' + m')
both_begun a b c l l' m m' s t u h k = record {
  order = omega (arith, h.order, k.order);
  hits = omega (arith, h.hits, k.hits);
  misses = omega (arith, h.misses, k.misses);
  kept = omega (arith, h.kept, k.kept);
  heavy = omega (arith, h.heavy, k.heavy);
  dropped = omega (arith, h.dropped, k.dropped);
  probes = omega (arith, h.probes, k.probes);
  builds = omega (arith, h.builds, k.builds);
  offered = omega (arith, h.offered, k.offered);
}

both_answered : (a b c l l' m m' : ℕ) (s t u : ShareView) → AreAnswered b c s t m m' → AreAnswered a b t u l l' → AreAnswered a c s u (l + m) (l' + m')
both_answered a b c l l' m m' s t u h k = record {
  probes = omega (arith, h.probes, k.probes);
  builds = omega (arith, h.builds, k.builds);
  offered = omega (arith, h.offered, k.offered);
}

module _ {D B S T H M K E : Type 0} {g : Ghosts H} (count : D → ℕ) (trees : List Tree) where
  abbrev pub Done : D → Lane B S T H M K E g → D → Lane B S T H M K E g → Type 0
  Done b l c m = IsLaneDone trees l m (count b) (count c)

  -- a lane's own numbers, at the number where the lanes begin
  one_begun : (before caller : ℕ) (b c : D) (l m : Lane B S T H M K E g) → l.share.share ≡ fresh_share caller 1 → l.before ≡ before → Done b l c m →
      AreBegun (joins_to trees before) (joins_to trees l.last) (fresh_share caller 1) m.share.share (count b) (count c)
  one_begun before caller b c l m s e h =
      subst (λ x. AreBegun (joins_to trees x) (joins_to trees l.last) (fresh_share caller 1) m.share.share (count b) (count c)) e
      (subst (λ x. AreBegun (joins_to trees l.before) (joins_to trees l.last) x m.share.share (count b) (count c)) s h.asked.begun)

  one_answered : (before caller : ℕ) (b c : D) (l m : Lane B S T H M K E g) → l.share.share ≡ fresh_share caller 1 → l.before ≡ before → Done b l c m →
      IsComplete m.before m.last m.made.items → AreAnswered (joins_to trees before) (joins_to trees l.last) (fresh_share caller 1) m.share.share (count b) (count c)
  one_answered before caller b c l m s e h all =
      subst (λ x. AreAnswered (joins_to trees x) (joins_to trees l.last) (fresh_share caller 1) m.share.share (count b) (count c)) e
      (subst (λ x. AreAnswered (joins_to trees l.before) (joins_to trees l.last) x m.share.share (count b) (count c)) s
      (h.asked.answered (subst (λ x. IsComplete x l.last m.made.items) h.before (subst (λ x. IsComplete m.before x m.made.items) h.last all))))

  pub lanes_begun : (before last caller : ℕ) (v : ShareView) (bs : List D) (ls : List (Lane B S T H M K E g)) (cs : List D) (ms : List (Lane B S T H M K E g)) →
      AreFreshLanes caller before last ls → EachWorked Done bs ls cs ms → v.dropped + joins_to trees last ≤ dropped_max + joins_to trees before →
      AreBegun (joins_to trees before) (joins_to trees last) v (with_lanes v ms) (sum_by count bs) (sum_by count cs)
  lanes_begun before last caller v [] [] [] [] e h room =
      subst (λ x. AreBegun (joins_to trees before) (joins_to trees x) v v 0 0) e (none_begun (joins_to trees before) (joins_to trees before) 0 v (omega arith))
  lanes_begun before last caller v (b ∷ bs) (l ∷ ls) (c ∷ cs) (m ∷ ms) e h room =
      let one = one_begun before caller b c l m e.0 e.1 h.0 in
      let order : joins_to trees before ≤ joins_to trees l.last = one.order in
      let others = lanes_begun l.last last caller v bs ls cs ms e.4 h.1 (omega arith) in
      let few : (with_lanes v ms).dropped + joins_to trees l.last ≤ v.dropped + joins_to trees last = few_dropped (joins_to trees l.last) (joins_to trees last) (sum_by count bs) (sum_by count cs) v (with_lanes v ms) others in
      let here = joined_begun (joins_to trees before) (joins_to trees l.last) caller (count b) (count c) (with_lanes v ms) m.share.share one (omega arith) in
      subst (λ x. AreBegun (joins_to trees before) (joins_to trees last) v (with_lanes v (m ∷ ms)) x (sum_by count (c ∷ cs))) (sym (sum_by-cons count b bs))
      (subst (λ x. AreBegun (joins_to trees before) (joins_to trees last) v (with_lanes v (m ∷ ms)) (count b + sum_by count bs) x) (sym (sum_by-cons count c cs))
      (both_begun (joins_to trees before) (joins_to trees l.last) (joins_to trees last) (count b) (count c) (sum_by count bs) (sum_by count cs) v (with_lanes v ms) (joined_share (with_lanes v ms) m.share.share) others here))
  lanes_begun before last caller v bs ls cs ms e h room = absurd h

  pub lanes_answered : (before last caller : ℕ) (v : ShareView) (bs : List D) (ls : List (Lane B S T H M K E g)) (cs : List D) (ms : List (Lane B S T H M K E g)) →
      AreFreshLanes caller before last ls → EachWorked Done bs ls cs ms → v.dropped + joins_to trees last ≤ dropped_max + joins_to trees before → AreComplete ms →
      AreAnswered (joins_to trees before) (joins_to trees last) v (with_lanes v ms) (sum_by count bs) (sum_by count cs)
  lanes_answered before last caller v [] [] [] [] e h room all =
      subst (λ x. AreAnswered (joins_to trees before) (joins_to trees x) v v 0 0) e (none_answered (joins_to trees before) (joins_to trees before) 0 v refl)
  lanes_answered before last caller v (b ∷ bs) (l ∷ ls) (c ∷ cs) (m ∷ ms) e h room all =
      let one = one_begun before caller b c l m e.0 e.1 h.0 in
      let order : joins_to trees before ≤ joins_to trees l.last = one.order in
      let others = lanes_begun l.last last caller v bs ls cs ms e.4 h.1 (omega arith) in
      let few : (with_lanes v ms).dropped + joins_to trees l.last ≤ v.dropped + joins_to trees last = few_dropped (joins_to trees l.last) (joins_to trees last) (sum_by count bs) (sum_by count cs) v (with_lanes v ms) others in
      let here = joined_answered (joins_to trees before) (joins_to trees l.last) caller (count b) (count c) (with_lanes v ms) m.share.share one
      (one_answered before caller b c l m e.0 e.1 h.0 all.0) (omega arith) in
      subst (λ x. AreAnswered (joins_to trees before) (joins_to trees last) v (with_lanes v (m ∷ ms)) x (sum_by count (c ∷ cs))) (sym (sum_by-cons count b bs))
      (subst (λ x. AreAnswered (joins_to trees before) (joins_to trees last) v (with_lanes v (m ∷ ms)) (count b + sum_by count bs) x) (sym (sum_by-cons count c cs))
      (both_answered (joins_to trees before) (joins_to trees l.last) (joins_to trees last) (count b) (count c) (sum_by count bs) (sum_by count cs) v (with_lanes v ms) (joined_share (with_lanes v ms) m.share.share)
      (lanes_answered l.last last caller v bs ls cs ms e.4 h.1 (omega arith) all.1) here))
  lanes_answered before last caller v bs ls cs ms e h room all = absurd h

  -- the lanes say what came of all nodes in order
  pub lanes_of : (before last caller : ℕ) (bs : List D) (ls : List (Lane B S T H M K E g)) (cs : List D) (ms : List (Lane B S T H M K E g)) →
      AreFreshLanes caller before last ls → EachWorked Done bs ls cs ms → AreLanes trees before last ms
  lanes_of before last caller [] [] [] [] e h = e
  lanes_of before last caller (b ∷ bs) (l ∷ ls) (c ∷ cs) (m ∷ ms) e h = (
    h.0.before ∙ e.1,
    subst (λ x. AreNodeOutcomes trees x m.made.items) e.1 h.0.outcomes,
    subst (λ x. AreLanes trees x last ms) (sym h.0.last) (lanes_of l.last last caller bs ls cs ms e.4 h.1),
  )
  lanes_of before last caller bs ls cs ms e h = absurd h

  pub lanes_caller : (before last caller : ℕ) (bs : List D) (ls : List (Lane B S T H M K E g)) (cs : List D) (ms : List (Lane B S T H M K E g)) →
      AreFreshLanes caller before last ls → EachWorked Done bs ls cs ms → AreOfCaller caller ms
  lanes_caller before last caller [] [] [] [] e h = tt
  lanes_caller before last caller (b ∷ bs) (l ∷ ls) (c ∷ cs) (m ∷ ms) e h =
      (h.0.asked.caller ∙ ap (λ s. s.caller) e.0, lanes_caller l.last last caller bs ls cs ms e.4 h.1)
  lanes_caller before last caller bs ls cs ms e h = absurd h

  pub lanes_parts : (before last caller : ℕ) (v : ShareView) (bs : List D) (ls : List (Lane B S T H M K E g)) (cs : List D) (ms : List (Lane B S T H M K E g)) →
      AreFreshLanes caller before last ls → EachWorked Done bs ls cs ms → (with_lanes v ms).parts ≡ v.parts + length ls
  lanes_parts before last caller v [] [] [] [] e h = omega arith
  lanes_parts before last caller v (b ∷ bs) (l ∷ ls) (c ∷ cs) (m ∷ ms) e h =
      let one : m.share.share.parts ≡ 1 = h.0.asked.parts ∙ ap (λ s. s.parts) e.0 in
      let others = lanes_parts l.last last caller v bs ls cs ms e.4 h.1 in
      omega (arith, others)
  lanes_parts before last caller v bs ls cs ms e h = absurd h

  pub lanes_order : (before last caller : ℕ) (bs : List D) (ls : List (Lane B S T H M K E g)) (cs : List D) (ms : List (Lane B S T H M K E g)) →
      AreFreshLanes caller before last ls → EachWorked Done bs ls cs ms → joins_to trees before ≤ joins_to trees last
  lanes_order before last caller [] [] [] [] e h = subst (λ x. joins_to trees before ≤ joins_to trees x) e (omega arith)
  lanes_order before last caller (b ∷ bs) (l ∷ ls) (c ∷ cs) (m ∷ ms) e h =
      let one = one_begun before caller b c l m e.0 e.1 h.0 in
      let order : joins_to trees before ≤ joins_to trees l.last = one.order in
      let others : joins_to trees l.last ≤ joins_to trees last = lanes_order l.last last caller bs ls cs ms e.4 h.1 in
      omega arith
  lanes_order before last caller bs ls cs ms e h = absurd h

  pub lanes_at_most : (before last caller most most' : ℕ) (bs : List D) (ls : List (Lane B S T H M K E g)) (cs : List D) (ms : List (Lane B S T H M K E g)) →
      AreFreshLanes caller before last ls → EachWorked Done bs ls cs ms → AreAtMost count most bs → most + joins_to trees last ≤ most' + joins_to trees before → AreAtMost count most' cs
  lanes_at_most before last caller most most' [] [] [] [] e h all room = All-nil (λ x. count x ≤ most')
  lanes_at_most before last caller most most' (b ∷ bs) (l ∷ ls) (c ∷ cs) (m ∷ ms) e h all room =
      let one = one_begun before caller b c l m e.0 e.1 h.0 in
      let few : count c + joins_to trees before ≤ count b + joins_to trees l.last = few_builds (joins_to trees before) (joins_to trees l.last) (count b) (count c) (fresh_share caller 1) m.share.share one in
      let first : count b ≤ most = All-head (λ x. count x ≤ most) b bs all in
      let order : joins_to trees before ≤ joins_to trees l.last = one.order in
      let behind : joins_to trees l.last ≤ joins_to trees last = lanes_order l.last last caller bs ls cs ms e.4 h.1 in
      All-cons (λ x. count x ≤ most') c cs (omega arith)
      (lanes_at_most l.last last caller most most' bs ls cs ms e.4 h.1 (All-tail (λ x. count x ≤ most) b bs all) (omega arith))
  lanes_at_most before last caller most most' bs ls cs ms e h all room = absurd h

  pub same_lengths : (bs : List D) (ls : List (Lane B S T H M K E g)) (cs : List D) (ms : List (Lane B S T H M K E g)) → EachWorked Done bs ls cs ms →
      (length cs ≡ length bs) × (length ms ≡ length ls)
  same_lengths [] [] [] [] h = (refl, refl)
  same_lengths (b ∷ bs) (l ∷ ls) (c ∷ cs) (m ∷ ms) h = let s = same_lengths bs ls cs ms h.1 in (omega (arith, s.0), omega (arith, s.1))
  same_lengths bs ls cs ms h = absurd h
