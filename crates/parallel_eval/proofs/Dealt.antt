-- Fresh lanes and the builders that get them, and the builders that get none.
use Rattle.std.proofs.Common.{◌≡◌, ℕ, suc, ◌+◌, ◌-◌, ◌*◌, ◌^◌, ◌≤◌, ◌<◌, List, [], ◌∷◌, ◌++◌, All, length, ap, sym, subst, ◌∙◌, arith}
use Rattle.std.proofs.Math.Nat.{suc-mul}
use Rattle.std.proofs.lemmas.List.Elements.{All-head, All-tail, All-push}
use Rattle.parallel_zip.specs.Pairs.{EachReady}
use Rattle.subtree_memo.specs.Shares.{ShareView, fresh_share}
use Rattle.subtree_memo.specs.declared.ledgers.MemoLedger.{Ghosts}
use Rattle.parallel_eval.specs.declared.lane.Lane.{Lane}
use Rattle.parallel_eval.specs.Joins.{AreAnswered, AreBegun}
use Rattle.parallel_eval.specs.Runs.{AreAtMost, IsLaneReady, AreFreshLanes}

module _ {B S T H M K E : Type 0} {g : Ghosts H} where
  -- fresh lanes end where they say
  pub fresh_end : (caller before last : ℕ) (lanes : List (Lane B S T H M K E g)) → AreFreshLanes caller before last lanes → before ≤ last
  fresh_end caller before last [] e = omega (arith, e)
  fresh_end caller before last (lane ∷ lanes) e =
      let here : before ≤ lane.last = e.2 in
      let rest : lane.last ≤ last = fresh_end caller lane.last last lanes e.4 in
      omega arith

module _ {D B S T H M K E : Type 0} {g : Ghosts H} (count : D → ℕ) where
  -- fresh lanes may be worked on, by builders with few builds and for a caller who may ask
  pub each_ready : (W : Type 0) → W → (Allowed : ℕ → Type 0) (start many before last caller most : ℕ) (bs : List D) (ls : List (Lane B S T H M K E g)) →
      AreFreshLanes caller before last ls → start ≤ before → last ≤ start + many → AreAtMost count most bs → most ≤ 2 ^ 47 → length bs ≡ length ls →
      Allowed caller → EachReady (λ (b : D) (l : Lane B S T H M K E g). W × IsLaneReady start many (count b) l × Allowed l.share.share.caller) bs ls
  each_ready W w Allowed start many before last caller most [] [] e low high few enough same allowed = tt
  each_ready W w Allowed start many before last caller most [] (l ∷ ls) e low high few enough same allowed = absurd (omega arith)
  each_ready W w Allowed start many before last caller most (b ∷ bs) [] e low high few enough same allowed = absurd (omega arith)
  each_ready W w Allowed start many before last caller most (b ∷ bs) (l ∷ ls) e low high few enough same allowed =
      let share : l.share.share ≡ fresh_share caller 1 = e.0 in
      let parts : l.share.share.parts ≡ 1 = ap (λ s. s.parts) share in
      let none : l.share.share.dropped ≡ 0 = ap (λ s. s.dropped) share in
      let first : l.before ≡ before = e.1 in
      let order : before ≤ l.last = e.2 in
      let end : l.last ≤ last = fresh_end caller l.last last ls e.4 in
      let some : count b ≤ most = All-head (λ x. count x ≤ most) b bs few in
      let one : IsLaneReady start many (count b) l =
      record {
        parts = omega arith;
        dropped = omega arith;
        few = omega arith;
        empty = e.3;
        first = omega arith;
        last = omega arith;
      } in (
        (w, one, subst Allowed (sym (ap (λ s. s.caller) share)) allowed),
        each_ready W w Allowed start many l.last last caller most bs ls e.4 (omega arith) high (All-tail (λ x. count x ≤ most) b bs few) enough (omega arith) allowed,
      )

-- builds that stay as they were change nothing
pub begun_beside : (a b m n more m' n' : ℕ) (s t : ShareView) → AreBegun a b s t m n → m' ≡ m + more → n' ≡ n + more → AreBegun a b s t m' n'
begun_beside a b m n more m' n' s t h e f = record {
  order = h.order;
  hits = h.hits;
  misses = h.misses;
  kept = h.kept;
  heavy = h.heavy;
  dropped = h.dropped;
  probes = h.probes;
  builds = omega (arith, h.builds);
  offered = h.offered;
}

pub answered_beside : (a b m n more m' n' : ℕ) (s t : ShareView) → AreAnswered a b s t m n → m' ≡ m + more → n' ≡ n + more → AreAnswered a b s t m' n'
answered_beside a b m n more m' n' s t h e f = record {
  probes = h.probes;
  builds = omega (arith, h.builds);
  offered = h.offered;
}

-- where parts of a share were split off, as much was counted on the whole
pub begun_with_parts : (a b m n k : ℕ) (s t : ShareView) → AreBegun a b (record s { parts = k }) t m n → AreBegun a b s t m n
begun_with_parts a b m n k s t h = record {
  order = h.order;
  hits = h.hits;
  misses = h.misses;
  kept = h.kept;
  heavy = h.heavy;
  dropped = h.dropped;
  probes = h.probes;
  builds = h.builds;
  offered = h.offered;
}

pub answered_with_parts : (a b m n k : ℕ) (s t : ShareView) → AreAnswered a b (record s { parts = k }) t m n → AreAnswered a b s t m n
answered_with_parts a b m n k s t h = record {
  probes = h.probes;
  builds = h.builds;
  offered = h.offered;
}

left_of : (next a b least more x y last : ℕ) → a ≡ b + least → more + y ≡ x → next + a + x ≡ last → next + least + more + b + y ≡ last
left_of next a b least more x y last e f all = omega arith

-- what is left of some nodes behind a lane that has the given number, or one more
pub left_for : (next count index least longer more last : ℕ) → index < count → more + (longer - (index + 1)) ≡ longer - index →
    next + (count - index) * least + (longer - index) ≡ last → next + least + more + (count - (index + 1)) * least + (longer - (index + 1)) ≡ last
left_for next count index least longer more last room one all =
    let here : count - index ≡ suc (count - (index + 1)) = omega arith in
    let times : (count - index) * least ≡ (count - (index + 1)) * least + least =
    ap (λ n. n * least) here ∙ suc-mul (count - (index + 1)) least in
    left_of next ((count - index) * least) ((count - (index + 1)) * least) least more (longer - index) (longer - (index + 1)) last times one all

module _ {B S T H M K E : Type 0} {g : Ghosts H} where
  -- a lane more that has the given number of nodes, or one more
  pub even_more : (least : ℕ) (lanes new : List (Lane B S T H M K E g)) (lane : Lane B S T H M K E g) (next more : ℕ) → new ≡ lanes ++ lane ∷ [] →
      All (λ l. (l.before + least ≤ l.last) × (l.last ≤ l.before + least + 1)) lanes → lane.before ≡ next → lane.last ≡ next + least + more → more ≤ 1 →
      All (λ l. (l.before + least ≤ l.last) × (l.last ≤ l.before + least + 1)) new
  even_more least lanes new lane next more items all first end one =
      let P : Lane B S T H M K E g → Type 0 = λ l. (l.before + least ≤ l.last) × (l.last ≤ l.before + least + 1) in
      let here : P lane = (omega (arith, first, end, one), omega (arith, first, end, one)) in
      subst (All P) (sym items) (All-push P lanes lane all here)
