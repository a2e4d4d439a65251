-- Clients that wait for an exporter each, and clients that were served.
use Rattle.std.proofs.Common.{◌≡◌, ℕ, zero, suc, ◌≤◌, List, [], ◌∷◌, ◌++◌, take, drop, length, All, ap, refl, sym, subst, ◌∙◌, arith}
use Rattle.std.proofs.Math.Seq.{take-append_seam}
use Rattle.std.proofs.lemmas.List.Elements.{All-head, All-tail, All-nil, All-cons}
use Rattle.script_reader.specs.declared.script.ClientScript.{ClientScript}
use Rattle.script_reader.specs.Limits.{IsClientWithin}
use Rattle.reply_text.specs.declared.reply.Reply.{Reply}
use Rattle.reply_text.specs.Answers.{Fits, AllFit}
use Rattle.edit_session.specs.Sessions.{start_state}
use Rattle.parallel_zip.specs.Pairs.{EachReady, EachWorked}
use Rattle.script_run.specs.declared.served.ServedClient.{ServedClient}
use Rattle.script_run.specs.Asking.{MayServe, AreFresh}
use Rattle.script_run.specs.Moves.{MovesAlong, AllMove}
use Rattle.script_run.specs.Serving.{HasRoomForReplies, IsServed, AreWaiting, replies_of}

-- as many wait as there are clients
pub waiting_many : (clients : List ClientScript) (all : List ServedClient) → AreWaiting clients all → length all ≡ length clients
waiting_many [] [] w = refl
waiting_many (client ∷ clients) (served ∷ all) w = omega (arith, waiting_many clients all w.3)
waiting_many [] (served ∷ all) w = absurd w
waiting_many (client ∷ clients) [] w = absurd w

module _ {E : Type 0} (asked : E → ℕ) (Can : List ℕ → E → Type 0) where
  -- each of them may be served by such an exporter
  pub waiting_ready : (clients : List ClientScript) (all : List ServedClient) (es : List E) → AreWaiting clients all → All IsClientWithin clients →
      AreFresh asked Can clients es → length es ≡ length all →
      EachReady (λ (s : ServedClient) (e : E). HasRoomForReplies s × (asked e ≡ 0) × MayServe (λ source. Can source e) start_state s.commands.now) all es
  waiting_ready [] [] [] w within fresh same = tt
  waiting_ready (client ∷ clients) (served ∷ all) (e ∷ es) w within fresh same =
      let limits = All-head IsClientWithin client clients within in
      let own = w.0 in
      let few = limits.few in
      let room = w.2 in
      let ready : HasRoomForReplies served = record {
        empty = w.1;
        room = omega (arith, ap length own, room);
        few = omega (arith, ap length own, few);
        texts = rw own limits.texts;
      } in (
        (ready, fresh.0, subst (λ cs. MayServe (λ source. Can source e) start_state cs) (sym own) fresh.1),
        waiting_ready clients all es w.3 (All-tail IsClientWithin client clients within) fresh.2 (omega (arith, same)),
      )
  waiting_ready [] [] (e ∷ es) w within fresh same = absurd (omega (arith, same))
  waiting_ready (client ∷ clients) (served ∷ all) [] w within fresh same = absurd (omega (arith, same))
  waiting_ready [] (served ∷ all) es w within fresh same = absurd w
  waiting_ready (client ∷ clients) [] es w within fresh same = absurd w

  -- the first exporters, one for each client
  pub fresh_front : (clients : List ClientScript) (es : List E) (n : ℕ) → n ≡ length clients → AreFresh asked Can clients es → AreFresh asked Can clients (take n es)
  fresh_front [] es n same fresh = tt
  fresh_front (client ∷ clients) es zero same fresh = absurd (omega (arith, same))
  fresh_front (client ∷ clients) [] (suc n) same fresh = absurd fresh
  fresh_front (client ∷ clients) (e ∷ es) (suc n) same fresh = (fresh.0, fresh.1, fresh_front clients es n (omega (arith, same)) fresh.2)

-- the replies of clients that were all written over
pub replies_left : (n : ℕ) (new old : List ServedClient) → n ≡ length new → replies_of (take n (new ++ drop (length new) old)) ≡ replies_of new
replies_left n new old same =
    ap (λ k. replies_of (take k (new ++ drop (length new) old))) same ∙ ap replies_of (take-append_seam new (drop (length new) old))

module _ {E : Type 0} (Exports : List ℕ → Reply → Type 0) (Moves : List ℕ → Reply → E → E → Type 0) where
  abbrev Done : ServedClient → E → ServedClient → E → Type 0
  Done old before new after = IsServed Exports Moves old before new after

  pub served_fit : (clients : List ClientScript) (all : List ServedClient) (es : List E) (all' : List ServedClient) (es' : List E) → AreWaiting clients all →
      EachWorked Done all es all' es' → AllFit Exports clients (replies_of all')
  served_fit [] [] [] [] [] w h = tt
  served_fit (client ∷ clients) [] [] [] [] w h = absurd w
  served_fit (client ∷ clients) (served ∷ all) (e ∷ es) (served' ∷ all') (e' ∷ es') w h =
      (subst (λ cs. Fits Exports start_state cs served'.replies.items) w.0 h.0.fits, served_fit clients all es all' es' w.3 h.1)
  served_fit [] (served ∷ all) (e ∷ es) (served' ∷ all') (e' ∷ es') w h = absurd w
  served_fit clients all es all' es' w h = absurd h

  -- the exporters of the clients are what their commands make of them, and those behind stay as they are
  pub served_move : (clients : List ClientScript) (all : List ServedClient) (es idle : List E) (all' : List ServedClient) (es' : List E) → AreWaiting clients all →
      EachWorked Done all es all' es' → AllMove Moves clients (replies_of all') (es ++ idle) (es' ++ idle)
  served_move [] [] [] idle [] [] w h = refl
  served_move (client ∷ clients) [] [] idle [] [] w h = absurd w
  served_move (client ∷ clients) (served ∷ all) (e ∷ es) idle (served' ∷ all') (e' ∷ es') w h =
      (subst (λ cs. MovesAlong Moves start_state cs served'.replies.items e e') w.0 h.0.moved, served_move clients all es idle all' es' w.3 h.1)
  served_move [] (served ∷ all) (e ∷ es) idle (served' ∷ all') (e' ∷ es') w h = absurd w
  served_move clients all es idle all' es' w h = absurd h

  pub served_few : (clients : List ClientScript) (all : List ServedClient) (es : List E) (all' : List ServedClient) (es' : List E) → AreWaiting clients all →
      All IsClientWithin clients → EachWorked Done all es all' es' → All (λ rs. length rs ≤ 8192) (replies_of all')
  served_few [] [] [] [] [] w within h = All-nil (λ rs. length rs ≤ 8192)
  served_few (client ∷ clients) [] [] [] [] w within h = absurd w
  served_few (client ∷ clients) (served ∷ all) (e ∷ es) (served' ∷ all') (e' ∷ es') w within h =
      let own = w.0 in
      let count = h.0.count in
      let limits = All-head IsClientWithin client clients within in
      let few = limits.few in
      All-cons (λ rs. length rs ≤ 8192) served'.replies.items (replies_of all') (omega (arith, ap length own, count, few))
      (served_few clients all es all' es' w.3 (All-tail IsClientWithin client clients within) h.1)
  served_few [] (served ∷ all) (e ∷ es) (served' ∷ all') (e' ∷ es') w within h = absurd w
  served_few clients all es all' es' w within h = absurd h

  pub exporters_many : (all : List ServedClient) (es : List E) (all' : List ServedClient) (es' : List E) → EachWorked Done all es all' es' → length es' ≡ length es
  exporters_many [] [] [] [] h = refl
  exporters_many (served ∷ all) (e ∷ es) (served' ∷ all') (e' ∷ es') h = omega (arith, exporters_many all es all' es' h.1)
  exporters_many all es all' es' h = absurd h

  pub served_many : (all : List ServedClient) (es : List E) (all' : List ServedClient) (es' : List E) → EachWorked Done all es all' es' → length all' ≡ length all
  served_many [] [] [] [] h = refl
  served_many (served ∷ all) (e ∷ es) (served' ∷ all') (e' ∷ es') h = omega (arith, served_many all es all' es' h.1)
  served_many all es all' es' h = absurd h

  -- what the contract says about clients that were all served, with the replies that were taken of them
  pub record AllServed (clients : List ClientScript) (taken : List (List Reply)) (es idle es' : List E) : Type 0 where
    pub fits : AllFit Exports clients taken
    pub few : All (λ rs. length rs ≤ 8192) taken
    pub moved : AllMove Moves clients taken (es ++ idle) (es' ++ idle)

  pub all_served : (clients : List ClientScript) (items all : List ServedClient) (es idle : List E) (all' : List ServedClient) (es' : List E) (n : ℕ) (taken : List (List Reply)) →
      AreWaiting clients items → All IsClientWithin clients → all ≡ items → n ≡ length items → EachWorked Done all es all' es' →
      taken ≡ replies_of (take n (all' ++ drop (length all') items)) → AllServed clients taken es idle es'
  all_served clients items all es idle all' es' n taken waits within same long worked told =
      let waiting = subst (AreWaiting clients) (sym same) waits in
      let many = served_many all es all' es' worked in
      let after : taken ≡ replies_of all' = told ∙ replies_left n all' items (omega (arith, many, ap length same, long)) in record {
        fits = subst (AllFit Exports clients) (sym after) (served_fit clients all es all' es' waiting worked);
        few = subst (All (λ (rs : List Reply). length rs ≤ 8192)) (sym after) (served_few clients all es all' es' waiting within worked);
        moved = subst (λ rs. AllMove Moves clients rs (es ++ idle) (es' ++ idle)) (sym after) (served_move clients all es idle all' es' waiting worked);
      }
