-- What is counted for joins, put together.
use Rattle.std.proofs.Common.{◌≡◌, ℕ, ◌+◌, ◌≤◌, refl, ◌∙◌, arith}
use Rattle.subtree_memo.specs.Shares.{ShareView}
use Rattle.parallel_eval.specs.Joins.{AreAnswered, AreBegun, AreAsked}

pub none_begun : (a b n : ℕ) (s : ShareView) → a ≤ b → AreBegun a b s s n n
none_begun a b n s h = record {
  order = h;
  hits = omega arith;
  misses = omega arith;
  kept = omega arith;
  heavy = omega arith;
  dropped = omega arith;
  probes = omega arith;
  builds = omega arith;
  offered = omega arith;
}

pub none_answered : (a b n : ℕ) (s : ShareView) → a ≡ b → AreAnswered a b s s n n
none_answered a b n s h = record {
  probes = omega arith;
  builds = omega arith;
  offered = omega arith;
}

pub begun_behind : (a b c l m n : ℕ) (s t u : ShareView) → AreBegun a b s t l m → AreBegun b c t u m n → AreBegun a c s u l n
begun_behind a b c l m n s t u h k = record {
  order = omega (arith, h.order, k.order);
  hits = omega (arith, h.hits, k.hits);
  misses = omega (arith, h.misses, k.misses);
  kept = omega (arith, h.kept, k.kept);
  heavy = omega (arith, h.heavy, k.heavy);
  dropped = omega (arith, h.dropped, k.dropped);
  probes = omega (arith, h.probes, k.probes);
  builds = omega (arith, h.builds, k.builds);
  offered = omega (arith, h.offered, k.offered);
}

pub answered_behind : (a b c l m n : ℕ) (s t u : ShareView) → AreAnswered a b s t l m → AreAnswered b c t u m n → AreAnswered a c s u l n
answered_behind a b c l m n s t u h k = record {
  probes = omega (arith, h.probes, k.probes);
  builds = omega (arith, h.builds, k.builds);
  offered = omega (arith, h.offered, k.offered);
}

pub begun_up_to : (a b c m n : ℕ) (s t : ShareView) → AreBegun a b s t m n → b ≤ c → AreBegun a c s t m n
begun_up_to a b c m n s t h le = record {
  order = omega (arith, h.order);
  hits = h.hits;
  misses = h.misses;
  kept = h.kept;
  heavy = h.heavy;
  dropped = h.dropped;
  probes = omega (arith, h.probes);
  builds = h.builds;
  offered = h.offered;
}

pub begun_at : (a b m n : ℕ) (s t : ShareView) → b ≡ a + 1 → AreBegun 0 1 s t m n → AreBegun a b s t m n
begun_at a b m n s t e h = record {
  order = omega arith;
  hits = h.hits;
  misses = h.misses;
  kept = h.kept;
  heavy = h.heavy;
  dropped = h.dropped;
  probes = omega (arith, h.probes);
  builds = h.builds;
  offered = h.offered;
}

pub answered_at : (a b m n : ℕ) (s t : ShareView) → b ≡ a + 1 → AreAnswered 0 1 s t m n → AreAnswered a b s t m n
answered_at a b m n s t e h = record {
  probes = omega (arith, h.probes);
  builds = h.builds;
  offered = h.offered;
}

-- a number of joins drops at most that number of fills, and makes a count greater by at most that number
pub few_dropped : (a b m n : ℕ) (s t : ShareView) → AreBegun a b s t m n → t.dropped + a ≤ s.dropped + b
few_dropped a b m n s t h = omega (arith, h.hits, h.kept, h.heavy, h.probes, h.offered)

pub few_builds : (a b m n : ℕ) (s t : ShareView) → AreBegun a b s t m n → n + a ≤ m + b
few_builds a b m n s t h = omega (arith, h.hits, h.probes, h.builds)

-- nothing was asked
pub none_asked : (done : Type 0) (a b n : ℕ) (s : ShareView) → a ≤ b → (done → a ≡ b) → AreAsked done a b s s n n
none_asked done a b n s h e = record {
  caller = refl;
  parts = refl;
  begun = none_begun a b n s h;
  answered = λ all. none_answered a b n s (e all);
}

-- one join, at the number at which it stands
pub asked_at : (done : Type 0) (a b m n : ℕ) (s t : ShareView) → b ≡ a + 1 → AreAsked done 0 1 s t m n → AreAsked done a b s t m n
asked_at done a b m n s t e h = record {
  caller = h.caller;
  parts = h.parts;
  begun = begun_at a b m n s t e h.begun;
  answered = λ all. answered_at a b m n s t e (h.answered all);
}

-- some joins and others behind them
pub asked_behind : (first second both : Type 0) (a b c l m n : ℕ) (s t u : ShareView) → (both → first) → (both → second) →
    AreAsked first a b s t l m → AreAsked second b c t u m n → AreAsked both a c s u l n
asked_behind first second both a b c l m n s t u p q h k = record {
  caller = k.caller ∙ h.caller;
  parts = k.parts ∙ h.parts;
  begun = begun_behind a b c l m n s t u h.begun k.begun;
  answered = λ all. answered_behind a b c l m n s t u (h.answered (p all)) (k.answered (q all));
}

-- joins that were not all done, as some of more
pub asked_up_to : (some all : Type 0) (a b c m n : ℕ) (s t : ShareView) → (all → ⊥) → AreAsked some a b s t m n → b ≤ c → AreAsked all a c s t m n
asked_up_to some all a b c m n s t never h le = record {
  caller = h.caller;
  parts = h.parts;
  begun = begun_up_to a b c m n s t h.begun le;
  answered = λ done. absurd (never done);
}
