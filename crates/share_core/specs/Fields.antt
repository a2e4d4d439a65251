-- How the fields of a world stand for what contracts see, and what each part keeps.
use Rattle.std.specs.Prelude.{◌≡◌, ℕ, ◌+◌, ◌<◌, ◌≤◌, true, List, [], ◌∷◌, map, length, Option, Some, None, IfSome}
use Rattle.memo_core.specs.Views.{MemoView}
use Rattle.share_core.specs.Views.{NodeProgress, Unasked, Missed, Built, There, ClientProgress, ClientTasks, Machine, settled_memo}
use Rattle.share_core.specs.declared.parts.ClientPart.{ClientPart}

module _ {V : Type 0} where
  -- the value of a node that is there
  abbrev pub value_of : NodeProgress V → Option V
  value_of Unasked = None
  value_of Missed = None
  value_of (Built value weight) = None
  value_of (There value) = Some value

  -- the values that are there
  abbrev pub values_of : List (NodeProgress V) → List (Option V)
  values_of nodes = map value_of nodes

  -- nobody's part
  abbrev pub no_client_part : {R : Type 0} → ClientProgress V R
  no_client_part = record { nodes = None; replies = [] }

module _ {V R : Type 0} where
  -- a client's part as contracts see it
  abbrev pub part_of : ClientPart V R → ClientProgress V R
  part_of p = record { nodes = p.nodes; replies = p.replies.items }

module _ {R : Type 0} where
  -- the replies are those of the commands from the n-th on
  abbrev pub AreRepliesFrom : (ℕ → R) → ℕ → List R → Type 0
  AreRepliesFrom reply n [] = Unit {0}
  AreRepliesFrom reply n (r ∷ rs) = (r ≡ reply n) × AreRepliesFrom reply (n + 1) rs

module _ {K V R : Type 0} (fits : K → V → Type 0) (weighs : V → ℕ) (tasks : ClientTasks K V R) (client : ℕ) where
  -- a missed node is ready; a value fits its node's key, and weighs its weight
  abbrev pub IsSoundNode : ℕ → List (Option V) → ℕ → NodeProgress V → Type 0
  IsSoundNode command values n Unasked = Unit {0}
  IsSoundNode command values n Missed = tasks.ready client command n values ≡ true
  IsSoundNode command values n (Built v w) = fits (tasks.key client command n) v × (w ≡ weighs v)
  IsSoundNode command values n (There v) = fits (tasks.key client command n) v

  -- so is each node from the n-th on
  abbrev pub AreSoundNodes : ℕ → List (Option V) → ℕ → List (NodeProgress V) → Type 0
  AreSoundNodes command values n [] = Unit {0}
  AreSoundNodes command values n (x ∷ xs) = IsSoundNode command values n x × AreSoundNodes command values (n + 1) xs

  -- what each client's part keeps
  pub record IsSoundPart (part : ClientProgress V R) : Type 0 where
    pub answered : AreRepliesFrom (tasks.reply client) 0 part.replies
    pub within : length part.replies ≤ tasks.commands client
    pub command : IfSome part.nodes (λ _. length part.replies < tasks.commands client)
    pub count : IfSome part.nodes (λ xs. length xs ≡ tasks.nodes client (length part.replies))
    pub sound : IfSome part.nodes (λ xs. AreSoundNodes (length part.replies) (values_of xs) 0 xs)

module _ {K V R : Type 0} (fits : K → V → Type 0) (weighs : V → ℕ) (tasks : ClientTasks K V R) where
  -- what the parts of the clients from the n-th on keep
  abbrev pub AreSoundParts : ℕ → List (ClientProgress V R) → Type 0
  AreSoundParts n [] = Unit {0}
  AreSoundParts n (p ∷ ps) = IsSoundPart fits weighs tasks n p × AreSoundParts (n + 1) ps

module _ {K V R : Type 0} where
  -- the machine that a memo and the clients' parts stand for
  abbrev pub machine_of : MemoView K V → List (ClientPart V R) → Machine K V R
  machine_of memo parts = record { memo = settled_memo memo; parts = map part_of parts }
