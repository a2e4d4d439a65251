-- The tally of a run adds up.
use Rattle.std.proofs.Common.{◌≡◌, ◌≢◌, ℕ, zero, suc, ◌+◌, ◌*◌, ◌^◌, ◌<◌, ◌≤◌, min, if◌then◌else◌, List, [], ◌∷◌, map, length, All, Option, Some, None, ◌⊎◌, ⊎_elim, inl, inr, refl, sym, ap, subst, ◌∙◌, arith}
use Rattle.std.specs.Prelude.{◌==◌, is_some, sum_by, MatchOption}
use Rattle.std.proofs.Math.Nat.{min-le_left}
use Rattle.std.proofs.lemmas.List.Sums.{sum_by-cons, sum_by_push}
use Rattle.std.proofs.lemmas.List.Elements.{All-head, All-tail}
use Rattle.plane_predicate.specs.declared.unit.Unit.{Unit as LengthUnit}
use Rattle.memo_core.specs.Memo.{JournalRecord, count_in, hit_count_of, miss_count_of, kept_count_of, not_kept_count_of}
use Rattle.subtree_memo.specs.declared.tally.Tally.{Tally}
use Rattle.subtree_memo.specs.Tallies.{tally_of, AreSums}
use Rattle.subtree_memo.specs.Shares.{ShareView, fresh_share, opened_shares, parts_each, dropped_max, probes_of, offers_of}
use Rattle.script_reader.specs.declared.script.Command.{Command}
use Rattle.script_reader.specs.declared.script.Command.TheVariants.{Put, Set, Cut, Show, Export, Bad}
use Rattle.script_reader.specs.declared.script.ClientScript.{ClientScript}
use Rattle.edit_session.specs.declared.fault.SessionFault.{SessionFault}
use Rattle.edit_session.specs.declared.fault.SessionFault.TheVariants.{TooManyExports}
use Rattle.edit_session.specs.Sessions.{State, start_state, source_of, refusal, state_after_accepted, state_after_command}
use Rattle.export_limits.specs.declared.passed.PassedLimit.{PassedLimit}
use Rattle.export_limits.specs.declared.passed.PassedLimit.TheVariants as limit
use Rattle.reply_text.specs.declared.reply.Reply.{Reply}
use Rattle.reply_text.specs.declared.reply.Reply.TheVariants as reply
use Rattle.reply_text.specs.Answers.{state_after}
use Rattle.export_limits.specs.Limits.{IsSizeLimit}
use Rattle.reply_text.specs.Sums.{IsSolvedReply, AreSolvedReplies, AllAreSolved, ComesTo, SumTo, AllSumTo}
use Rattle.script_run.specs.Moves.{MovesAlong, AllMove}
use Rattle.script_server.specs.Books.{HasJoins, HasJoinsAsked, HasJoinsSolved, TallyAddsUp}
use Rattle.script_server.specs.Clients.{ClientBooks, Probes}

-- an export that lacks no solid is followed by the state that its command gives
next_state : (s : State) (r : Reply) → IsSolvedReply r → state_after s Export r ≡ state_after_command s Export
next_state s (reply.Lines count) has = refl
next_state s (reply.Refused why) has = refl
next_state s (reply.Faulted at) has = refl
next_state s (reply.PassedLimit passed) has = refl
next_state s reply.NoMem has = absurd has
next_state s (reply.Text lines) has = refl
next_state s (reply.Solid bytes) has = refl

-- each export is followed by the same state or by that of its command
same_or_next : (s : State) (r : Reply) → (state_after s Export r ≡ s) ⊎ (state_after s Export r ≡ state_after_command s Export)
same_or_next s (reply.Lines count) = inr refl
same_or_next s (reply.Refused why) = inr refl
same_or_next s (reply.Faulted at) = inr refl
same_or_next s (reply.PassedLimit passed) = inr refl
same_or_next s reply.NoMem = inl refl
same_or_next s (reply.Text lines) = inr refl
same_or_next s (reply.Solid bytes) = inr refl

-- a limit of size is one or not
of_size : (passed : PassedLimit) → (IsSizeLimit passed → ⊥) ⊎ ((IsSizeLimit passed → ⊥) → ⊥)
of_size (limit.Solid number) = inr (λ no. no tt)
of_size (limit.Sum number) = inr (λ no. no tt)
of_size limit.Facets = inl (λ no. no)
of_size limit.Corners = inl (λ no. no)
of_size limit.Vertices = inl (λ no. no)

-- an export lacks its solid or not
lacks_or_not : (r : Reply) → IsSolvedReply r ⊎ (IsSolvedReply r → ⊥)
lacks_or_not (reply.Lines count) = inl tt
lacks_or_not (reply.Refused why) = inl tt
lacks_or_not (reply.Faulted at) = inl tt
lacks_or_not (reply.PassedLimit passed) = of_size passed
lacks_or_not reply.NoMem = inr (λ no. no)
lacks_or_not (reply.Text lines) = inl tt
lacks_or_not (reply.Solid bytes) = inl tt

below_or_at : (n m : ℕ) → n ≤ m → (n < m) ⊎ (n ≡ m)
below_or_at zero zero h = inr refl
below_or_at zero (suc m) h = inl (omega arith)
below_or_at (suc n) zero h = absurd (omega (arith, h))
below_or_at (suc n) (suc m) h = ⊎_elim (λ (a : n < m). inl (omega (arith, a))) (λ (e : n ≡ m). inr (omega (arith, e))) (below_or_at n m (omega (arith, h)))

-- a session that may export has exports left
may_export : (n : ℕ) → n ≤ 16 → (if n == 16 then Some TooManyExports else None) ≡ None → n < 16
may_export n most none = ⊎_elim (λ a. a) (λ (e : n ≡ 16). absurd (full (subst (λ k. (if k == 16 then Some TooManyExports else None) ≡ None) e none))) (below_or_at n 16 most)
  where
    full : Some TooManyExports ≡ None → ⊥
    full e = cc e

kept_if : (found : Option SessionFault) (s t : State) → t.exports ≡ s.exports → (if is_some found then s else t).exports ≡ s.exports
kept_if None s t e = e
kept_if (Some why) s t e = refl

next_kept : (s : State) (c : Command) → c ≢ Export → (state_after_command s c).exports ≡ s.exports
next_kept s (Put line text) other = kept_if (refusal s (Put line text)) s (state_after_accepted s (Put line text)) refl
next_kept s (Set line text) other = kept_if (refusal s (Set line text)) s (state_after_accepted s (Set line text)) refl
next_kept s (Cut from upto) other = kept_if (refusal s (Cut from upto)) s (state_after_accepted s (Cut from upto)) refl
next_kept s Show other = kept_if (refusal s Show) s (state_after_accepted s Show) refl
next_kept s Export other = absurd (other refl)
next_kept s Bad other = refl

-- no other command than an export is counted as one
exports_kept : (s : State) (c : Command) (r : Reply) → c ≢ Export → (state_after s c r).exports ≡ s.exports
exports_kept s c (reply.Lines count) other = next_kept s c other
exports_kept s c (reply.Refused why) other = next_kept s c other
exports_kept s c (reply.Faulted at) other = next_kept s c other
exports_kept s c (reply.PassedLimit passed) other = next_kept s c other
exports_kept s c reply.NoMem other = refl
exports_kept s c (reply.Text lines) other = next_kept s c other
exports_kept s c (reply.Solid bytes) other = next_kept s c other

-- What was probed and offered on one share: at least and at most the given number of probes, where the exports that lack no
-- solid have at most 2^32 each. Where none lacks its solid, both numbers are one, and as many fills were offered as there were
-- misses.
record IsAdded (solved : Type 0) (least most before : ℕ) (old new : ShareView) : Type 0 where
  pub low : probes_of old + least ≤ probes_of new
  pub high : probes_of new ≤ probes_of old + most
  pub few : least + before * 2 ^ 32 ≤ 16 * 2 ^ 32
  pub one : solved → least ≡ most
  pub offered : solved → offers_of new + old.misses ≡ offers_of old + new.misses

-- `every` source has a number of joins
module _ {X : Type 0} (books : X → ClientBooks) (unit : LengthUnit) (every : (source : List ℕ) → (n : ℕ) × HasJoins unit source n) where
  abbrev pub MovesBooks : List ℕ → Reply → X → X → Type 0
  MovesBooks source r x y = Probes unit source r (books x) (books y)

  abbrev HasSum : State → List Command → List Reply → X → X → Type 0
  HasSum s cs rs x y =
      (least : ℕ) × (most : ℕ) × SumTo (HasJoinsSolved unit) s cs rs least × SumTo (HasJoinsAsked unit) s cs rs most
      × IsAdded (AreSolvedReplies cs rs) least most s.exports (books x).share (books y).share

  -- a command that asks for nothing
  quiet : (s t : State) (c : Command) (r : Reply) (cs : List Command) (rs : List Reply) (x z y : X) → ComesTo (HasJoinsSolved unit) s c r 0 → ComesTo (HasJoinsAsked unit) s c r 0 →
      z ≡ x → state_after s c r ≡ t → t.exports ≡ s.exports → (AreSolvedReplies (c ∷ cs) (r ∷ rs) → AreSolvedReplies cs rs) → HasSum t cs rs z y → HasSum s (c ∷ cs) (r ∷ rs) x y
  quiet s t c r cs rs x z y none_solved none_asked same after exports rest (least, most, solved, asked, added) = (
    least,
    most,
    (0, least, none_solved, subst (λ u. SumTo (HasJoinsSolved unit) u cs rs least) (sym after) solved, omega arith),
    (0, most, none_asked, subst (λ u. SumTo (HasJoinsAsked unit) u cs rs most) (sym after) asked, omega arith),
    record {
      low = subst (λ w. probes_of (books w).share + least ≤ probes_of (books y).share) same added.low;
      high = subst (λ w. probes_of (books y).share ≤ probes_of (books w).share + most) same added.high;
      few = let few = added.few in omega (arith, exports, few);
      one = λ all. added.one (rest all);
      offered = λ all. subst (λ w. offers_of (books y).share + (books w).share.misses ≡ offers_of (books w).share + (books y).share.misses) same (added.offered (rest all));
    },
  )

  -- an export that the session doesn't refuse, and that lacks no solid
  solved_sum : (s : State) (r : Reply) (cs : List Command) (rs : List Reply) (x z y : X) → refusal s Export ≡ None → IsSolvedReply r →
      Probes unit (source_of s) r (books x) (books z) → HasSum (state_after_accepted s Export) cs rs z y → HasSum s (Export ∷ cs) (r ∷ rs) x y
  solved_sum s r cs rs x z y allowed has (n, joins, probed) (least, most, solved, asked, added) =
      let own = probed.all has in
      let after : state_after s Export r ≡ state_after_accepted s Export = next_state s r has ∙ rw allowed refl in
      let probes = own.probes in let few = own.few in
      let low = added.low in let high = added.high in let left = added.few in (
        n + least,
        n + most,
        (
          n,
          least,
          subst (λ found. MatchOption found (HasJoinsSolved unit (source_of s) r n) (λ why. n ≡ 0)) (sym allowed) (inl (has, joins)),
          subst (λ u. SumTo (HasJoinsSolved unit) u cs rs least) (sym after) solved,
          refl,
        ),
        (
          n,
          most,
          subst (λ found. MatchOption found (HasJoinsAsked unit (source_of s) r n) (λ why. n ≡ 0)) (sym allowed) joins,
          subst (λ u. SumTo (HasJoinsAsked unit) u cs rs most) (sym after) asked,
          refl,
        ),
        record {
          low = omega (arith, probes, low);
          high = omega (arith, probes, high);
          few = omega (arith, few, left);
          one = λ all. (let one = added.one all.1 in omega (arith, one));
          offered = λ all. (let offered = own.offered in let then_offered = added.offered all.1 in omega (arith, offered, then_offered));
        },
      )

  -- an export that the session doesn't refuse, and that lacks its solid
  lacking_sum : (s t : State) (r : Reply) (cs : List Command) (rs : List Reply) (x z y : X) → refusal s Export ≡ None → (IsSolvedReply r → ⊥) → state_after s Export r ≡ t → s.exports ≤ t.exports →
      Probes unit (source_of s) r (books x) (books z) → HasSum t cs rs z y → HasSum s (Export ∷ cs) (r ∷ rs) x y
  lacking_sum s t r cs rs x z y allowed lacks after later (n, joins, probed) (least, most, solved, asked, added) =
      let from_low = probed.least in let from_high = probed.most in
      let low = added.low in let high = added.high in let left = added.few in (
        least,
        n + most,
        (
          0,
          least,
          subst (λ found. MatchOption found (HasJoinsSolved unit (source_of s) r zero) (λ why. zero ≡ zero)) (sym allowed) (inr (lacks, refl)),
          subst (λ u. SumTo (HasJoinsSolved unit) u cs rs least) (sym after) solved,
          omega arith,
        ),
        (
          n,
          most,
          subst (λ found. MatchOption found (HasJoinsAsked unit (source_of s) r n) (λ why. n ≡ 0)) (sym allowed) joins,
          subst (λ u. SumTo (HasJoinsAsked unit) u cs rs most) (sym after) asked,
          refl,
        ),
        record {
          low = omega (arith, from_low, low);
          high = omega (arith, from_high, high);
          few = omega (arith, later, left);
          one = λ all. absurd (lacks all.0);
          offered = λ all. absurd (lacks all.0);
        },
      )

  -- an export for which memory ran out before the exporter was asked
  probes_none : (source : List ℕ) (r : Reply) (x z : X) → r ≡ reply.NoMem → z ≡ x → Probes unit source r (books x) (books z)
  probes_none source r x z e same =
      let (n, joins) = every source in
      let still : probes_of (books z).share ≡ probes_of (books x).share = rw same refl in
      (n, joins, record { caller = ap (λ w. (books w).share.caller) same; least = omega (arith, still); most = omega (arith, still); all = λ has. absurd (subst IsSolvedReply e has) })

  -- where the session is, once an export was answered that it doesn't refuse
  after_export : (s : State) (r : Reply) → refusal s Export ≡ None → s.exports < 16 →
      (s.exports ≤ (state_after s Export r).exports) × ((state_after s Export r).exports ≤ 16)
  after_export s r allowed left =
      ⊎_elim
      (λ (e : state_after s Export r ≡ s). (let same : (state_after s Export r).exports ≡ s.exports = ap (λ (t : State). t.exports) e in (omega (arith, same), omega (arith, same, left))))
      (λ (e : state_after s Export r ≡ state_after_command s Export). (let grown : state_after s Export r ≡ state_after_accepted s Export = e ∙ rw allowed refl in
      let more : (state_after s Export r).exports ≡ s.exports + 1 = ap (λ (t : State). t.exports) grown in (omega (arith, more), omega (arith, more, left))))
      (same_or_next s r)

  -- an export, where what follows has a sum
  allowed_sum : (s : State) (r : Reply) (cs : List Command) (rs : List Reply) (x z y : X) → refusal s Export ≡ None → s.exports ≤ 16 →
      Probes unit (source_of s) r (books x) (books z) → ((t : State) → state_after s Export r ≡ t → t.exports ≤ 16 → HasSum t cs rs z y) → HasSum s (Export ∷ cs) (r ∷ rs) x y
  allowed_sum s r cs rs x z y allowed most probed later =
      let left = may_export s.exports most allowed in
      ⊎_elim
      (λ (has : IsSolvedReply r). solved_sum s r cs rs x z y allowed has probed (later (state_after_accepted s Export) (next_state s r has ∙ rw allowed refl) (omega (arith, left))))
      (λ (lacks : IsSolvedReply r → ⊥). (let grown = after_export s r allowed left in
      lacking_sum s (state_after s Export r) r cs rs x z y allowed lacks refl grown.0 probed (later (state_after s Export r) refl grown.1)))
      (lacks_or_not r)

  -- a refused export leaves the session as it was
  refused_after : (s : State) (r : Reply) (why : SessionFault) → refusal s Export ≡ Some why → state_after s Export r ≡ s
  refused_after s r why refused = ⊎_elim (λ e. e) (λ e. e ∙ rw refused refl) (same_or_next s r)

  export_sum : (s : State) (r : Reply) (cs : List Command) (rs : List Reply) (x z y : X) (found : Option SessionFault) → found ≡ refusal s Export → s.exports ≤ 16 →
      MatchOption found (Probes unit (source_of s) r (books x) (books z) ⊎ ((r ≡ reply.NoMem) × (z ≡ x))) (λ why. z ≡ x) →
      ((t : State) → state_after s Export r ≡ t → t.exports ≤ 16 → HasSum t cs rs z y) → HasSum s (Export ∷ cs) (r ∷ rs) x y
  export_sum s r cs rs x z y None found most (inl probed) later = allowed_sum s r cs rs x z y (sym found) most probed later
  export_sum s r cs rs x z y None found most (inr (e, same)) later = allowed_sum s r cs rs x z y (sym found) most (probes_none (source_of s) r x z e same) later
  export_sum s r cs rs x z y (Some why) found most same later =
      let after = refused_after s r why (sym found) in
      quiet s s Export r cs rs x z y
      (subst (λ e. MatchOption e (HasJoinsSolved unit (source_of s) r zero) (λ why. zero ≡ zero)) found refl)
      (subst (λ e. MatchOption e (HasJoinsAsked unit (source_of s) r zero) (λ why. zero ≡ zero)) found refl)
      same after refl (λ all. all.1) (later s after most)

  -- the commands of one client
  client_sum : (s : State) (cs : List Command) (rs : List Reply) (x y : X) → s.exports ≤ 16 → MovesAlong MovesBooks s cs rs x y → HasSum s cs rs x y
  client_sum s [] [] x y most same = (
    0,
    0,
    refl,
    refl,
    (let still : probes_of (books y).share ≡ probes_of (books x).share = ap (λ w. probes_of (books w).share) same in record {
      low = omega (arith, still);
      high = omega (arith, still);
      few = omega (arith, most);
      one = λ all. refl;
      offered = λ all. rw same refl;
    }),
  )
  client_sum s [] (r ∷ rs) x y most moved = absurd moved
  client_sum s (c ∷ cs) [] x y most moved = absurd moved
  client_sum s (Export ∷ cs) (r ∷ rs) x y most (z, here, more) =
      export_sum s r cs rs x z y (refusal s Export) refl most here (λ t after few. client_sum t cs rs z y few (subst (λ u. MovesAlong MovesBooks u cs rs z y) after more))
  client_sum s (Put line text ∷ cs) (r ∷ rs) x y most (z, here, more) =
      let exports = exports_kept s (Put line text) r (λ e. cc e) in
      quiet s (state_after s (Put line text) r) (Put line text) r cs rs x z y refl refl here refl exports (λ all. all)
      (client_sum (state_after s (Put line text) r) cs rs z y (omega (arith, most, exports)) more)
  client_sum s (Set line text ∷ cs) (r ∷ rs) x y most (z, here, more) =
      let exports = exports_kept s (Set line text) r (λ e. cc e) in
      quiet s (state_after s (Set line text) r) (Set line text) r cs rs x z y refl refl here refl exports (λ all. all)
      (client_sum (state_after s (Set line text) r) cs rs z y (omega (arith, most, exports)) more)
  client_sum s (Cut from upto ∷ cs) (r ∷ rs) x y most (z, here, more) =
      let exports = exports_kept s (Cut from upto) r (λ e. cc e) in
      quiet s (state_after s (Cut from upto) r) (Cut from upto) r cs rs x z y refl refl here refl exports (λ all. all)
      (client_sum (state_after s (Cut from upto) r) cs rs z y (omega (arith, most, exports)) more)
  client_sum s (Show ∷ cs) (r ∷ rs) x y most (z, here, more) =
      let exports = exports_kept s Show r (λ e. cc e) in
      quiet s (state_after s Show r) Show r cs rs x z y refl refl here refl exports (λ all. all)
      (client_sum (state_after s Show r) cs rs z y (omega (arith, most, exports)) more)
  client_sum s (Bad ∷ cs) (r ∷ rs) x y most (z, here, more) =
      let exports = exports_kept s Bad r (λ e. cc e) in
      quiet s (state_after s Bad r) Bad r cs rs x z y refl refl here refl exports (λ all. all)
      (client_sum (state_after s Bad r) cs rs z y (omega (arith, most, exports)) more)

  -- what was probed and offered on the shares of all clients
  abbrev pub shares_of : List X → List ShareView
  shares_of xs = map (λ x. (books x).share) xs

  pub record AreAdded (solved : Type 0) (least most clients : ℕ) (olds news : List ShareView) : Type 0 where
    pub low : sum_by probes_of olds + least ≤ sum_by probes_of news
    pub high : sum_by probes_of news ≤ sum_by probes_of olds + most
    pub few : least ≤ clients * (16 * 2 ^ 32)
    pub one : solved → least ≡ most
    pub offered : solved → sum_by offers_of news + sum_by (λ v. v.misses) olds ≡ sum_by offers_of olds + sum_by (λ v. v.misses) news

  abbrev pub HaveSums : List ClientScript → List (List Reply) → List X → List X → Type 0
  HaveSums clients replies xs ys =
      (least : ℕ) × (most : ℕ) × AllSumTo (HasJoinsSolved unit) clients replies least × AllSumTo (HasJoinsAsked unit) clients replies most
      × AreAdded (AllAreSolved clients replies) least most (length clients) (shares_of xs) (shares_of ys)

  pub all_sum : (clients : List ClientScript) (replies : List (List Reply)) (xs ys : List X) → AllMove MovesBooks clients replies xs ys → HaveSums clients replies xs ys
  all_sum [] [] xs ys same = (
    0,
    0,
    refl,
    refl,
    (let still : sum_by probes_of (shares_of ys) ≡ sum_by probes_of (shares_of xs) = ap (λ w. sum_by probes_of (shares_of w)) same in record {
      low = omega (arith, still);
      high = omega (arith, still);
      few = omega arith;
      one = λ all. refl;
      offered = λ all. rw same refl;
    }),
  )
  all_sum (client ∷ clients) (rs ∷ more) (x ∷ xs) (y ∷ ys) (moved, rest) =
      let (least, most, solved, asked, added) = client_sum start_state client.commands rs x y (omega arith) moved in
      let (others_least, others_most, all_solved, all_asked, addeds) = all_sum clients more xs ys rest in
      let share = (books x).share in
      let share' = (books y).share in
      let one_low = added.low in let all_low = addeds.low in
      let one_high = added.high in let all_high = addeds.high in
      let one_few = added.few in let all_few = addeds.few in
      let olds = sum_by-cons probes_of share (shares_of xs) in
      let news = sum_by-cons probes_of share' (shares_of ys) in (
        least + others_least,
        most + others_most,
        (least, others_least, solved, all_solved, refl),
        (most, others_most, asked, all_asked, refl),
        record {
          low = omega (arith, one_low, all_low, olds, news);
          high = omega (arith, one_high, all_high, olds, news);
          few = omega (arith, one_few, all_few);
          one = λ all. (let here = added.one all.0 in let there = addeds.one all.1 in omega (arith, here, there));
          offered = λ all. (let here = added.offered all.0 in let there = addeds.offered all.1 in omega (
            arith,
            here,
            there,
            sum_by-cons offers_of share (shares_of xs),
            sum_by-cons offers_of share' (shares_of ys),
            sum_by-cons (λ (v : ShareView). v.misses) share (shares_of xs),
            sum_by-cons (λ (v : ShareView). v.misses) share' (shares_of ys),
          ));
        },
      )
  all_sum [] (rs ∷ more) xs ys moved = absurd moved
  all_sum (client ∷ clients) [] xs ys moved = absurd moved
  all_sum (client ∷ clients) (rs ∷ more) [] ys moved = absurd moved
  all_sum (client ∷ clients) (rs ∷ more) (x ∷ xs) [] moved = absurd moved

-- ---- the sums of shares
-- nothing was booked at first
none_probed : (n : ℕ) → sum_by probes_of (opened_shares n) ≡ 0
none_probed zero = refl
none_probed (suc n) = sum_by_push probes_of (opened_shares n) (fresh_share n parts_each) ∙ omega (arith, none_probed n)

none_offered : (n : ℕ) → sum_by offers_of (opened_shares n) ≡ 0
none_offered zero = refl
none_offered (suc n) = sum_by_push offers_of (opened_shares n) (fresh_share n parts_each) ∙ omega (arith, none_offered n)

none_missed : (n : ℕ) → sum_by (λ v. v.misses) (opened_shares n) ≡ 0
none_missed zero = refl
none_missed (suc n) = sum_by_push (λ (v : ShareView). v.misses) (opened_shares n) (fresh_share n parts_each) ∙ omega (arith, none_missed n)

probes_in_all : (shares : List ShareView) → sum_by probes_of shares ≡ sum_by (λ v. v.hits) shares + sum_by (λ v. v.misses) shares
probes_in_all [] = refl
probes_in_all (v ∷ vs) =
    let rest = probes_in_all vs in
    omega (arith, rest, sum_by-cons probes_of v vs, sum_by-cons (λ (w : ShareView). w.hits) v vs, sum_by-cons (λ (w : ShareView). w.misses) v vs)

offered_in_all : (shares : List ShareView) → sum_by offers_of shares ≡ sum_by (λ v. v.kept) shares + sum_by (λ v. v.heavy) shares + sum_by (λ v. v.dropped) shares
offered_in_all [] = refl
offered_in_all (v ∷ vs) =
    let rest = offered_in_all vs in
    omega (arith, rest, sum_by-cons offers_of v vs, sum_by-cons (λ (w : ShareView). w.kept) v vs, sum_by-cons (λ (w : ShareView). w.heavy) v vs, sum_by-cons (λ (w : ShareView). w.dropped) v vs)

-- a tally is the sums of these shares
pub record IsTallyOf (shares : List ShareView) (tally : Tally) : Type 0 where
  pub probes : tally.probes ≡ tally.hits + tally.misses
  pub offered : tally.offered ≡ tally.kept + tally.heavy + tally.dropped
  pub hits : tally.hits ≡ sum_by (λ v. v.hits) shares
  pub misses : tally.misses ≡ sum_by (λ v. v.misses) shares
  pub kept : tally.kept ≡ sum_by (λ v. v.kept) shares
  pub heavy : tally.heavy ≡ sum_by (λ v. v.heavy) shares
  pub dropped : tally.dropped ≡ min (sum_by (λ v. v.dropped) shares) dropped_max

-- what a memo tells when it is closed
module _ {K : Type 0} (items : List (JournalRecord K)) (shares news : List ShareView) (tally : Tally) where
  pub tally_of_shares : shares ≡ news → tally ≡ tally_of items tally.dropped → AreSums shares tally → IsTallyOf news tally
  tally_of_shares same e sums =
      let probes_are : tally.probes ≡ count_in hit_count_of items + count_in miss_count_of items = ap (λ (t : Tally). t.probes) e in
      let hits_are : tally.hits ≡ count_in hit_count_of items = ap (λ (t : Tally). t.hits) e in
      let misses_are : tally.misses ≡ count_in miss_count_of items = ap (λ (t : Tally). t.misses) e in
      let offered_are : tally.offered ≡ count_in kept_count_of items + count_in not_kept_count_of items + tally.dropped = ap (λ (t : Tally). t.offered) e in
      let kept_are : tally.kept ≡ count_in kept_count_of items = ap (λ (t : Tally). t.kept) e in
      let heavy_are : tally.heavy ≡ count_in not_kept_count_of items = ap (λ (t : Tally). t.heavy) e in record {
        probes = omega (arith, probes_are, hits_are, misses_are);
        offered = omega (arith, offered_are, kept_are, heavy_are);
        hits = sums.hits ∙ ap (sum_by (λ (s : ShareView). s.hits)) same;
        misses = sums.misses ∙ ap (sum_by (λ (s : ShareView). s.misses)) same;
        kept = sums.kept ∙ ap (sum_by (λ (s : ShareView). s.kept)) same;
        heavy = sums.heavy ∙ ap (sum_by (λ (s : ShareView). s.heavy)) same;
        dropped = sums.dropped ∙ ap (λ ss. min (sum_by (λ (s : ShareView). s.dropped) ss) dropped_max) same;
      }

-- where no share has more offered fills than misses, the tally has not
misses_most : (shares : List ShareView) → All (λ s. offers_of s ≤ s.misses) shares → sum_by offers_of shares ≤ sum_by (λ s. s.misses) shares
misses_most [] all = omega arith
misses_most (s ∷ ss) all =
    let own : offers_of s ≤ s.misses = All-head (λ x. offers_of x ≤ x.misses) s ss all in
    let rest = misses_most ss (All-tail (λ x. offers_of x ≤ x.misses) s ss all) in
    omega (arith, sum_by-cons offers_of s ss, sum_by-cons (λ (v : ShareView). v.misses) s ss, own, rest)

pub offered_most : {K : Type 0} (shares : List ShareView) (tally : Tally) (items : List (JournalRecord K)) → tally ≡ tally_of items tally.dropped → AreSums shares tally →
    All (λ s. offers_of s ≤ s.misses) shares → tally.offered ≤ tally.misses
offered_most shares tally items e sums all =
    let offered_are : tally.offered ≡ count_in kept_count_of items + count_in not_kept_count_of items + tally.dropped = ap (λ (t : Tally). t.offered) e in
    let kept_are : tally.kept ≡ count_in kept_count_of items = ap (λ (t : Tally). t.kept) e in
    let heavy_are : tally.heavy ≡ count_in not_kept_count_of items = ap (λ (t : Tally). t.heavy) e in
    let most = misses_most shares all in
    let parted = offered_in_all shares in
    let m = sums.misses in let k = sums.kept in let h = sums.heavy in let d = sums.dropped in
    omega (arith, offered_are, kept_are, heavy_are, most, parted, m, k, h, d, min-le_left (sum_by (λ (v : ShareView). v.dropped) shares) dropped_max)

pub adds_up : {X : Type 0} (books : X → ClientBooks) (unit : LengthUnit) → ((source : List ℕ) → (n : ℕ) × HasJoins unit source n) →
    (clients : List ClientScript) (replies : List (List Reply)) (xs ys : List X) (callers : ℕ) (tally : Tally) →
    length clients ≤ 16 → map (λ x. (books x).share) xs ≡ opened_shares callers → AllMove (λ source r x y. Probes unit source r (books x) (books y)) clients replies xs ys →
    IsTallyOf (map (λ x. (books x).share) ys) tally → TallyAddsUp unit clients replies tally
adds_up books unit every clients replies xs ys callers tally few fresh moved is =
    let (least, most, solved, asked, added) = all_sum books unit every clients replies xs ys moved in
    let news = map (λ x. (books x).share) ys in
    let first_probes = ap (sum_by probes_of) fresh ∙ none_probed callers in
    let first_offered = ap (sum_by offers_of) fresh ∙ none_offered callers in
    let first_missed = ap (sum_by (λ (v : ShareView). v.misses)) fresh ∙ none_missed callers in
    let low = added.low in let high = added.high in let all_few = added.few in
    let all_probes = probes_in_all news in let all_offered = offered_in_all news in
    let p = is.probes in let o = is.offered in let h = is.hits in let m = is.misses in let k = is.kept in let e = is.heavy in let d = is.dropped in
    let told : tally.probes ≡ sum_by probes_of news = omega (arith, all_probes, p, h, m) in record {
      least = (least, solved, omega (arith, told, first_probes, low));
      most = (most, asked, omega (arith, told, first_probes, high));
      whole = λ all.
          let one = added.one all in
          let offered = added.offered all in
          let total : tally.probes ≡ most = omega (arith, told, first_probes, low, high, one) in
          let within : sum_by (λ v. v.dropped) news ≤ dropped_max =
          omega (arith, few, first_probes, first_offered, first_missed, low, high, one, offered, all_few, all_probes, all_offered) in
          (subst (AllSumTo (HasJoinsAsked unit) clients replies) (sym total) asked, omega (arith, first_offered, first_missed, offered, all_offered, o, m, k, e, d, within));
    }
