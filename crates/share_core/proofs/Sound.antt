-- What each act keeps of a client's part.
use Rattle.std.proofs.Common.{◌≡◌, ℕ, ◌+◌, ◌<◌, true, false, ◌&&◌, List, [], ◌∷◌, ◌++◌, length, refl, ap, subst, ◌∙◌, arith, Some, None, option_map, replicate, set}
use Rattle.std.specs.Prelude.{Option, IfSome, slice_get}
use Rattle.std.proofs.lemmas.Option.{none-some, same_Some, slice_get_within}
use Rattle.std.specs.Option.{option_map_or}
use Rattle.std.proofs.lemmas.List.{length-append, length-set, length-replicate}
use Rattle.share_core.specs.Views.{NodeProgress, Unasked, Missed, Built, There, ClientProgress, ClientTasks, MoreThere}
use Rattle.share_core.specs.Fields.{value_of, values_of, IsSoundNode, AreSoundNodes, IsSoundPart, AreRepliesFrom}
use Rattle.share_core.specs.Steps.{all_there, key_at, node_at, with_node, part_at_command, part_after_reply, can_do, is_at, is_unasked, is_missed}
use Rattle.share_core.specs.declared.event.Act.TheVariants.{Probe, Build, Reply}
use Rattle.share_core.proofs.Nodes.{never, both, unasked_at, missed_at, sound_at, more_set, node_stays, nodes_stay, sound_set, unasked_sound}

-- one reply more
pub replies_more : {R : Type 0} (f : ℕ → R) (n : ℕ) (rs : List R) (r : R) → AreRepliesFrom f n rs → r ≡ f (n + length rs) → AreRepliesFrom f n (rs ++ r ∷ [])
replies_more f n [] r a e = let k : n + 0 ≡ n = omega arith in (e ∙ ap f k, tt)
replies_more f n (x ∷ xs) r a e = let k : n + length (x ∷ xs) ≡ n + 1 + length xs = omega arith in (a.0, replies_more f (n + 1) xs r a.1 (e ∙ ap f k))

module _ {V R : Type 0} where
  -- a node that is at a place is within the nodes
  pub node_within : (part : ClientProgress V R) (n : ℕ) (x : NodeProgress V) → node_at n part ≡ Some (Some x) → IfSome part.nodes (λ xs. n < length xs)
  node_within part n x = go part.nodes where
    go : (o : Option (List (NodeProgress V))) → option_map (λ xs. slice_get xs n) o ≡ Some (Some x) → IfSome o (λ xs. n < length xs)
    go None e = tt
    go (Some xs) e = slice_get_within xs n x (same_Some _ _ e)

module _ {K V R : Type 0} (fits : K → V → Type 0) (weighs : V → ℕ) (tasks : ClientTasks K V R) (client : ℕ) (part : ClientProgress V R) (s : IsSoundPart fits weighs tasks client part) where
  -- the nodes of the command that a client is at
  pub nodes_in : (xs : List (NodeProgress V)) → part.nodes ≡ Some xs → AreSoundNodes fits weighs tasks client (length part.replies) (values_of xs) 0 xs
  nodes_in xs e = subst (λ o. IfSome o (λ ys. AreSoundNodes fits weighs tasks client (length part.replies) (values_of ys) 0 ys)) e s.sound

  -- a node of the command that a client is at
  pub node_in : (n : ℕ) (x : NodeProgress V) → node_at n part ≡ Some (Some x) → (xs : List (NodeProgress V)) × IsSoundNode fits weighs tasks client (length part.replies) (values_of xs) n x
  node_in n x = go part.nodes s.sound where
    go : (o : Option (List (NodeProgress V))) → IfSome o (λ ys. AreSoundNodes fits weighs tasks client (length part.replies) (values_of ys) 0 ys) → option_map (λ xs. slice_get xs n) o ≡ Some (Some x) → (xs : List (NodeProgress V)) × IsSoundNode fits weighs tasks client (length part.replies) (values_of xs) n x
    go None t e = absurd (none-some _ e)
    go (Some xs) t e = (xs, sound_at fits weighs tasks client (length part.replies) (values_of xs) n xs x t (same_Some _ _ e))

  -- what was built fits its key, and weighs its weight
  pub built_fits : (n : ℕ) (v : V) (w : ℕ) → node_at n part ≡ Some (Some (Built v w)) → fits (key_at tasks client n part) v × (w ≡ weighs v)
  built_fits n v w e = (node_in n (Built v w) e).1

  -- a client that comes to its next command
  pub begun_sound : length part.replies < tasks.commands client → IsSoundPart fits weighs tasks client (part_at_command tasks client part)
  begun_sound lt = record {
    answered = s.answered;
    within = s.within;
    command = lt;
    count = length-replicate (tasks.nodes client (length part.replies)) Unasked;
    sound = unasked_sound fits weighs tasks client (length part.replies) (values_of (replicate (tasks.nodes client (length part.replies)) Unasked)) (tasks.nodes client (length part.replies)) 0;
  }

  -- a client that answers its command
  pub replied_sound : length part.replies < tasks.commands client → IsSoundPart fits weighs tasks client (part_after_reply tasks client part)
  replied_sound lt = record {
    answered = replies_more (tasks.reply client) 0 part.replies (tasks.reply client (length part.replies)) s.answered (let e : length part.replies ≡ 0 + length part.replies = omega arith in ap (tasks.reply client) e);
    within = let l = length-append part.replies (tasks.reply client (length part.replies) ∷ []) in omega (arith, l, lt);
    command = tt;
    count = tt;
    sound = tt;
  }

  module _ (stays : (command node : ℕ) (old new : List (Option V)) → MoreThere old new → tasks.ready client command node old ≡ true → tasks.ready client command node new ≡ true) where
    -- another state at a node that was not there
    pub with_node_sound : (n : ℕ) (y x : NodeProgress V) → node_at n part ≡ Some (Some y) → value_of y ≡ None
        → ((xs : List (NodeProgress V)) → part.nodes ≡ Some xs → IsSoundNode fits weighs tasks client (length part.replies) (values_of xs) n x)
        → IsSoundPart fits weighs tasks client (with_node n x part)
    with_node_sound n y x at none sx = record {
      answered = s.answered;
      within = s.within;
      command = keep _ part.nodes s.command;
      count = keep_count _ part.nodes s.count;
      sound = keep_sound part.nodes refl s.sound at;
    } where
      keep : (A : Type 0) (o : Option (List (NodeProgress V))) → IfSome o (λ _. A) → IfSome (option_map (λ xs. set xs n x) o) (λ _. A)
      keep A None t = tt
      keep A (Some xs) t = t

      keep_count : (k : ℕ) (o : Option (List (NodeProgress V))) → IfSome o (λ xs. length xs ≡ k) → IfSome (option_map (λ xs. set xs n x) o) (λ xs. length xs ≡ k)
      keep_count k None t = tt
      keep_count k (Some xs) t = length-set xs n x ∙ t

      keep_sound : (o : Option (List (NodeProgress V))) → part.nodes ≡ o → IfSome o (λ ys. AreSoundNodes fits weighs tasks client (length part.replies) (values_of ys) 0 ys) → option_map (λ xs. slice_get xs n) o ≡ Some (Some y)
          → IfSome (option_map (λ xs. set xs n x) o) (λ ys. AreSoundNodes fits weighs tasks client (length part.replies) (values_of ys) 0 ys)
      keep_sound None e t a = tt
      keep_sound (Some xs) e t a =
          let m = more_set xs n y x (same_Some _ _ a) none in
          let k : n ≡ 0 + n = omega arith in
          sound_set fits weighs tasks client (length part.replies) (values_of (set xs n x)) 0 n xs x
          (nodes_stay fits weighs tasks client stays (length part.replies) (values_of xs) (values_of (set xs n x)) 0 xs m t)
          (subst (λ i. IsSoundNode fits weighs tasks client (length part.replies) (values_of (set xs n x)) i x) k (node_stays fits weighs tasks client stays (length part.replies) (values_of xs) (values_of (set xs n x)) n x m (sx xs e)))

    -- a node that was probed
    pub probed_sound : (n : ℕ) (o : Option V) → can_do tasks client (Probe n) part ≡ true → IfSome o (fits (key_at tasks client n part)) → IsSoundPart fits weighs tasks client (with_node n (option_map_or There o Missed) part)
    probed_sound n o can f = with_node_sound n Unasked (option_map_or There o Missed) (at part.nodes can) refl (λ xs e. held o f xs (ready xs e)) where
      at : (q : Option (List (NodeProgress V))) → option_map_or (λ xs. is_at is_unasked xs n && tasks.ready client (length part.replies) n (values_of xs)) q false ≡ true → option_map (λ xs. slice_get xs n) q ≡ Some (Some Unasked)
      at None h = absurd (never h)
      at (Some xs) h = ap Some (unasked_at xs n (both (is_at is_unasked xs n) (tasks.ready client (length part.replies) n (values_of xs)) h).0)

      ready : (xs : List (NodeProgress V)) → part.nodes ≡ Some xs → tasks.ready client (length part.replies) n (values_of xs) ≡ true
      ready xs e =
          (both (is_at is_unasked xs n) (tasks.ready client (length part.replies) n (values_of xs))
          (subst (λ q. option_map_or (λ ys. is_at is_unasked ys n && tasks.ready client (length part.replies) n (values_of ys)) q false ≡ true) e can)).1

      held : (q : Option V) → IfSome q (fits (key_at tasks client n part)) → (xs : List (NodeProgress V)) → tasks.ready client (length part.replies) n (values_of xs) ≡ true → IsSoundNode fits weighs tasks client (length part.replies) (values_of xs) n (option_map_or There q Missed)
      held None h xs r = r
      held (Some v) h xs r = h

    -- a node that was built
    pub built_sound : (n : ℕ) (v : V) (w : ℕ) → can_do tasks client (Build n) part ≡ true → fits (key_at tasks client n part) v → w ≡ weighs v → IsSoundPart fits weighs tasks client (with_node n (Built v w) part)
    built_sound n v w can f g = with_node_sound n Missed (Built v w) (at part.nodes can) refl (λ xs e. (f, g)) where
      at : (q : Option (List (NodeProgress V))) → option_map_or (λ xs. is_at is_missed xs n) q false ≡ true → option_map (λ xs. slice_get xs n) q ≡ Some (Some Missed)
      at None h = absurd (never h)
      at (Some xs) h = ap Some (missed_at xs n h)

    -- a node that was offered
    pub filled_sound : (n : ℕ) (v : V) (w : ℕ) → node_at n part ≡ Some (Some (Built v w)) → IsSoundPart fits weighs tasks client (with_node n (There v) part)
    filled_sound n v w e = with_node_sound n (Built v w) (There v) e refl (λ xs h. (built_fits n v w e).0)

  -- a client that can answer is at a command that it has
  pub answering : can_do tasks client Reply part ≡ true → length part.replies < tasks.commands client
  answering = go part.nodes s.command where
    go : (q : Option (List (NodeProgress V))) → IfSome q (λ _. length part.replies < tasks.commands client) → option_map_or all_there q false ≡ true → length part.replies < tasks.commands client
    go None c h = absurd (never h)
    go (Some xs) c h = c
