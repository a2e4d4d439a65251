-- The pure machine: what the clients do, how far each of them is, and the one memo.
use Rattle.std.specs.Prelude.{◌≡◌, ℕ, ◌+◌, List, [], ◌∷◌, Option, Some, None, Bool}
use Rattle.memo_core.specs.Views.{MemoView}

-- What the clients do: how many commands a client has, how many nodes a command has, each node's key,
-- whether a node is ready where these values are there, and the reply that fitting values give.
pub record ClientTasks (K V R : Type 0) : Type 0 where
  pub commands : ℕ → ℕ
  pub nodes : ℕ → ℕ → ℕ
  pub key : ℕ → ℕ → ℕ → K
  pub ready : ℕ → ℕ → ℕ → List (Option V) → Bool
  pub reply : ℕ → ℕ → R

-- how far a node is: not probed, missed, built with a weight, or there
pub data NodeProgress (V : Type 0) : Type 0 where
  Unasked : NodeProgress V
  Missed : NodeProgress V
  Built : V → ℕ → NodeProgress V
  There : V → NodeProgress V

-- One client's progress: the nodes of the command that it is at, or none between commands, and its replies.
-- The command that it is at, or else its next one, has the number of its replies.
pub record ClientProgress (V R : Type 0) : Type 0 where
  pub nodes : Option (List (NodeProgress V))
  pub replies : List R

-- the memo, without the room of its journal, and each client's part
pub record Machine (K V R : Type 0) : Type 0 where
  pub memo : MemoView K V
  pub parts : List (ClientProgress V R)

module _ {K V : Type 0} where
  -- A memo without the room of its journal and without what it has dropped, which are no part of the
  -- state.
  abbrev pub settled_memo : MemoView K V → MemoView K V
  settled_memo core = record {
    entries = core.entries;
    dropped = [];
    budget = core.budget;
    share = core.share;
    journal = core.journal;
    spare = 0;
  }

module _ {K V : Type 0} where
  -- each value that is there fits its node's key
  abbrev pub HaveFits : (K → V → Type 0) → (ℕ → K) → ℕ → List (Option V) → Type 0
  HaveFits fits key n [] = Unit {0}
  HaveFits fits key n (None ∷ vs) = HaveFits fits key (n + 1) vs
  HaveFits fits key n (Some v ∷ vs) = fits (key n) v × HaveFits fits key (n + 1) vs

module _ {V : Type 0} where
  -- every value is there
  abbrev pub AllThere : List (Option V) → Type 0
  AllThere [] = Unit {0}
  AllThere (None ∷ vs) = ⊥
  AllThere (Some v ∷ vs) = AllThere vs

  -- the values that are there stay, and more may come
  abbrev pub MoreThere : List (Option V) → List (Option V) → Type 0
  MoreThere [] [] = Unit {0}
  MoreThere [] (w ∷ ws) = ⊥
  MoreThere (v ∷ vs) [] = ⊥
  MoreThere (None ∷ vs) (w ∷ ws) = MoreThere vs ws
  MoreThere (Some v ∷ vs) (w ∷ ws) = (w ≡ Some v) × MoreThere vs ws
