-- Nodes whose values are kept in a list of their own.
use Rattle.std.proofs.Common.{◌≡◌, ℕ, zero, suc, ◌<◌, Bool, true, false, ◌&&◌, List, [], ◌∷◌, length, refl, ap, sym, ◌∙◌, arith, Some, None, set, map, option_map, replicate}
use Rattle.std.specs.Prelude.{Option, slice_get, is_some, is_none}
use Rattle.std.proofs.lemmas.Option.{slice_get-map}
use Rattle.std.proofs.lemmas.List.{length-map}
use Rattle.share_core.proofs.Lists.{map_set}
use Rattle.share_core.proofs.Nodes.{never}
use Rattle.share_core.specs.Views.{NodeProgress, Unasked, There}
use Rattle.share_core.specs.Fields.{value_of, values_of}
use Rattle.std.specs.Option.{option_map_or}
use Rattle.share_core.specs.Steps.{all_there, is_there, is_at}
use Rattle.share_core.specs.KeptNodes.{state_of, client_node, client_nodes, are_values, is_waiting}
use Rattle.share_core.specs.declared.kept_nodes.NodeState.{NodeState}
use Rattle.share_core.specs.declared.kept_nodes.NodeState.TheVariants as state

module _ {V : Type 0} where
  value_is : (s : NodeState V) (o : Option V) → value_of (client_node s o) ≡ o
  value_is s (Some v) = refl
  value_is state.Unasked None = refl
  value_is state.Missed None = refl
  value_is (state.Built value weight) None = refl

  there_is : (s : NodeState V) (o : Option V) → is_there (client_node s o) ≡ is_some o
  there_is s (Some v) = refl
  there_is state.Unasked None = refl
  there_is state.Missed None = refl
  there_is (state.Built value weight) None = refl

  -- the list of values is that of the nodes
  pub have_is : (ss : List (NodeState V)) (vs : List (Option V)) → length vs ≡ length ss → values_of (client_nodes ss vs) ≡ vs
  have_is [] [] e = refl
  have_is [] (v ∷ vs) e = absurd (omega (arith, e))
  have_is (s ∷ ss) [] e = absurd (omega (arith, e))
  have_is (s ∷ ss) (v ∷ vs) e =
      let l : length vs ≡ length ss = omega (arith, e) in
      ap (λ x. x ∷ values_of (client_nodes ss vs)) (value_is s v) ∙ ap (λ xs. v ∷ xs) (have_is ss vs l)

  -- all nodes are there where all values are
  pub all_there_is : (ss : List (NodeState V)) (vs : List (Option V)) → length vs ≡ length ss → all_there (client_nodes ss vs) ≡ are_values vs
  all_there_is [] [] e = refl
  all_there_is [] (v ∷ vs) e = absurd (omega (arith, e))
  all_there_is (s ∷ ss) [] e = absurd (omega (arith, e))
  all_there_is (s ∷ ss) (v ∷ vs) e =
      let l : length vs ≡ length ss = omega (arith, e) in
      ap (λ b. b && all_there (client_nodes ss vs)) (there_is s v) ∙ ap (λ b. is_some v && b) (all_there_is ss vs l)

  -- the node at a place, by what both lists have there
  abbrev pub node_by : Option (NodeState V) → Option (Option V) → Option (NodeProgress V)
  node_by None o = None
  node_by (Some s) None = None
  node_by (Some s) (Some v) = Some (client_node s v)

  pub node_at_is : (ss : List (NodeState V)) (vs : List (Option V)) (n : ℕ) → slice_get (client_nodes ss vs) n ≡ node_by (slice_get ss n) (slice_get vs n)
  node_at_is [] vs n = refl
  node_at_is (s ∷ ss) [] zero = refl
  node_at_is (s ∷ ss) [] (suc n) = by_none (slice_get ss n) where
    by_none : (o : Option (NodeState V)) → None ≡ node_by o None
    by_none None = refl
    by_none (Some s) = refl
  node_at_is (s ∷ ss) (v ∷ vs) zero = refl
  node_at_is (s ∷ ss) (v ∷ vs) (suc n) = node_at_is ss vs n

  -- another state and value at a place
  pub nodes_set : (ss : List (NodeState V)) (vs : List (Option V)) (n : ℕ) (s : NodeState V) (v : Option V) → client_nodes (set ss n s) (set vs n v) ≡ set (client_nodes ss vs) n (client_node s v)
  nodes_set [] vs n s v = refl
  nodes_set (x ∷ xs) [] zero s v = refl
  nodes_set (x ∷ xs) [] (suc n) s v = refl
  nodes_set (x ∷ xs) (y ∷ ys) zero s v = refl
  nodes_set (x ∷ xs) (y ∷ ys) (suc n) s v = ap (λ zs. client_node x y ∷ zs) (nodes_set xs ys n s v)

  -- there are as many nodes as states
  pub nodes_length : (ss : List (NodeState V)) (vs : List (Option V)) → length vs ≡ length ss → length (client_nodes ss vs) ≡ length ss
  nodes_length [] [] e = refl
  nodes_length [] (y ∷ ys) e = absurd (omega (arith, e))
  nodes_length (x ∷ xs) [] e = absurd (omega (arith, e))
  nodes_length (x ∷ xs) (y ∷ ys) e =
      let l : length ys ≡ length xs = omega (arith, e) in
      let r = nodes_length xs ys l in omega (arith, r)

  -- a test that no node passes that is there: the state passes, and there is no value
  pub at_is : (test : NodeProgress V → Bool) → ((v : V) → test (There v) ≡ false) → (ss : List (NodeState V)) (vs : List (Option V)) (n : ℕ) → (is_waiting vs n && is_at test (map state_of ss) n) ≡ is_at test (client_nodes ss vs) n
  at_is test there ss vs n =
      ap (λ o. is_waiting vs n && option_map_or test o false) (slice_get-map state_of ss n)
      ∙ go (slice_get ss n) (slice_get vs n) ∙ ap (λ o. option_map_or test o false) (sym (node_at_is ss vs n)) where
        go : (o : Option (NodeState V)) (p : Option (Option V)) → (option_map_or is_none p false && option_map_or test (option_map state_of o) false) ≡ option_map_or test (node_by o p) false
        go None None = refl
        go (Some s) None = refl
        go None (Some None) = refl
        go (Some s) (Some None) = refl
        go None (Some (Some v)) = refl
        go (Some s) (Some (Some v)) = sym (there v)

  -- a place without a value has the node of its state
  pub waiting_is : (ss : List (NodeState V)) (vs : List (Option V)) (n : ℕ) → is_waiting vs n ≡ true → slice_get (client_nodes ss vs) n ≡ slice_get (map state_of ss) n
  waiting_is ss vs n w = node_at_is ss vs n ∙ go (slice_get ss n) (slice_get vs n) w ∙ sym (slice_get-map state_of ss n) where
    go : (o : Option (NodeState V)) (p : Option (Option V)) → option_map_or is_none p false ≡ true → node_by o p ≡ option_map state_of o
    go o None h = absurd (never h)
    go None (Some None) h = refl
    go (Some s) (Some None) h = refl
    go o (Some (Some v)) h = absurd (never h)

  -- the same, where a place has no value
  pub says : (test : NodeProgress V → Bool) → ((v : V) → test (There v) ≡ false) → (ss : List (NodeState V)) (vs : List (Option V)) (n : ℕ) (b : Bool) → is_waiting vs n ≡ true → b ≡ is_at test (map state_of ss) n → b ≡ is_at test (client_nodes ss vs) n
  says test there ss vs n b w e = e ∙ ap (λ c. c && is_at test (map state_of ss) n) (sym w) ∙ at_is test there ss vs n

  -- and where it has one, or is not there
  pub says_not : (test : NodeProgress V → Bool) → ((v : V) → test (There v) ≡ false) → (ss : List (NodeState V)) (vs : List (Option V)) (n : ℕ) → is_waiting vs n ≡ false → false ≡ is_at test (client_nodes ss vs) n
  says_not test there ss vs n w = ap (λ c. c && is_at test (map state_of ss) n) (sym w) ∙ at_is test there ss vs n

  -- a place with a node is one of both lists
  pub place_within : {A : Type 0} (f : A → Option V) (ss : List (NodeState V)) (ws : List A) (now : List (NodeProgress V)) (n : ℕ) → client_nodes ss (map f ws) ≡ now → length ws ≡ length ss → n < length now → (n < length ss) × (n < length ws)
  place_within f ss ws now n is l lt =
      let m = length-map ws f in
      let k : length (map f ws) ≡ length ss = omega (arith, m, l) in
      let h = nodes_length ss (map f ws) k in
      let i = ap length is in
      (omega (arith, h, i, lt), omega (arith, h, i, lt, l))

  -- another state and value at a place
  pub nodes_put : {A : Type 0} (f : A → Option V) (ss : List (NodeState V)) (ws : List A) (n : ℕ) (s : NodeState V) (w : A) → client_nodes (set ss n s) (map f (set ws n w)) ≡ set (client_nodes ss (map f ws)) n (client_node s (f w))
  nodes_put f ss ws n s w = ap (client_nodes (set ss n s)) (map_set f ws n w) ∙ nodes_set ss (map f ws) n s (f w)

  -- at first no node is probed
  pub unasked_nodes : {A : Type 0} (f : A → Option V) (none : A) → f none ≡ None → (n : ℕ) → client_nodes (replicate n state.Unasked) (map f (replicate n none)) ≡ replicate n Unasked
  unasked_nodes f none e zero = refl
  unasked_nodes f none e (suc n) = ap (λ o. client_node state.Unasked o ∷ client_nodes (replicate n state.Unasked) (map f (replicate n none))) e ∙ ap (λ xs. Unasked ∷ xs) (unasked_nodes f none e n)
