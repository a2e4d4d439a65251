-- What each event does, and when it is possible.
use Rattle.std.specs.Prelude.{◌≡◌, ℕ, Bool, true, false, ◌&&◌, nat_lt, List, [], ◌∷◌, ◌++◌, length, replicate, slice_get, slice_set, Option, Some, None, is_none, option_map}
use Rattle.std.specs.Option.{option_map_or}
use Rattle.memo_core.specs.Memo.{first_with, has_key}
use Rattle.memo_core.specs.Views.{MemoView, header_in, after_probe, after_fill}
use Rattle.share_core.specs.Views.{NodeProgress, Unasked, Missed, Built, There, ClientProgress, ClientTasks, Machine}
use Rattle.share_core.specs.Fields.{values_of, no_client_part}
use Rattle.share_core.specs.declared.event.Act.{Act}
use Rattle.share_core.specs.declared.event.Act.TheVariants.{Command, Probe, Build, Fill, Reply}
use Rattle.share_core.specs.declared.event.Event.{Event}
use Rattle.share_core.specs.declared.event.Stepped.{Stepped}
use Rattle.share_core.specs.declared.event.Stepped.TheVariants.{Taken, NotReady}

module _ {V : Type 0} where
  abbrev pub is_unasked : NodeProgress V → Bool
  is_unasked Unasked = true
  is_unasked Missed = false
  is_unasked (Built v w) = false
  is_unasked (There v) = false

  abbrev pub is_missed : NodeProgress V → Bool
  is_missed Unasked = false
  is_missed Missed = true
  is_missed (Built v w) = false
  is_missed (There v) = false

  abbrev pub is_built : NodeProgress V → Bool
  is_built Unasked = false
  is_built Missed = false
  is_built (Built v w) = true
  is_built (There v) = false

  abbrev pub is_there : NodeProgress V → Bool
  is_there Unasked = false
  is_there Missed = false
  is_there (Built v w) = false
  is_there (There v) = true

  -- whether there is such a node, and it passes
  abbrev pub is_at : (NodeProgress V → Bool) → List (NodeProgress V) → ℕ → Bool
  is_at test nodes n = option_map_or test (slice_get nodes n) false

  -- whether all nodes are there
  abbrev pub all_there : List (NodeProgress V) → Bool
  all_there [] = true
  all_there (x ∷ xs) = is_there x && all_there xs

module _ {V R : Type 0} where
  -- the part with this state at a node
  abbrev pub with_node : ℕ → NodeProgress V → ClientProgress V R → ClientProgress V R
  with_node n node part = record { nodes = option_map (λ xs. slice_set xs n node) part.nodes; replies = part.replies }

module _ {K V R : Type 0} (tasks : ClientTasks K V R) (client : ℕ) where
  -- Whether a client can do this. Command: it is between commands and has one left. Probe: the node is ready and not yet
  -- probed. Build: it was missed. Fill: it was built. Reply: all nodes are there.
  abbrev pub can_do : Act → ClientProgress V R → Bool
  can_do Command part = is_none part.nodes && nat_lt (length part.replies) (tasks.commands client)
  can_do (Probe n) part =
      option_map_or (λ xs. is_at is_unasked xs n && tasks.ready client (length part.replies) n (values_of xs)) part.nodes false
  can_do (Build n) part = option_map_or (λ xs. is_at is_missed xs n) part.nodes false
  can_do (Fill n) part = option_map_or (λ xs. is_at is_built xs n) part.nodes false
  can_do Reply part = option_map_or all_there part.nodes false

  -- the key of a node of the command that a client is at
  abbrev pub key_at : ℕ → ClientProgress V R → K
  key_at n part = tasks.key client (length part.replies) n

module _ {K V : Type 0} (same : K → K → Bool) where
  -- a node that was probed: there with the value that is held for this key, or missed
  abbrev pub node_after_probe : K → MemoView K V → NodeProgress V
  node_after_probe key memo = option_map_or (λ e. There e.value) (first_with (has_key same header_in key) memo.entries) Missed

module _ {K V R : Type 0} (tasks : ClientTasks K V R) (client : ℕ) where
  -- the part of a client that came to its next command: no node is probed yet
  abbrev pub part_at_command : ClientProgress V R → ClientProgress V R
  part_at_command part = record {
    nodes = Some (replicate (tasks.nodes client (length part.replies)) Unasked);
    replies = part.replies;
  }

  -- the part of a client that answered the command that it was at
  abbrev pub part_after_reply : ClientProgress V R → ClientProgress V R
  part_after_reply part = record { nodes = None; replies = part.replies ++ tasks.reply client (length part.replies) ∷ [] }

module _ {V R : Type 0} where
  -- the node of the command that a client is at
  abbrev pub node_at : ℕ → ClientProgress V R → Option (Option (NodeProgress V))
  node_at n part = option_map (λ xs. slice_get xs n) part.nodes

module _ {K V R : Type 0} (same : K → K → Bool) (name_of : K → List ℕ) (fits : K → V → Type 0) (weighs : V → ℕ)
    (tasks : ClientTasks K V R) (client : ℕ) where
  -- What an act changes. Probe and Fill are the steps of the memo. Build gives some value that fits the key, and what it
  -- weighs. Fill makes its node there, whether the fill was kept or not.
  abbrev pub Changes : Act → MemoView K V → ClientProgress V R → MemoView K V → ClientProgress V R → Type 0
  Changes Command memo part memo' part' = (memo' ≡ memo) × (part' ≡ part_at_command tasks client part)
  Changes (Probe n) memo part memo' part' =
      (memo' ≡ after_probe same client (key_at tasks client n part) memo)
      × (part' ≡ with_node n (node_after_probe same (key_at tasks client n part) memo) part)
  Changes (Build n) memo part memo' part' =
      (v : V) × (w : ℕ) × fits (key_at tasks client n part) v × (w ≡ weighs v)
      × (memo' ≡ memo) × (part' ≡ with_node n (Built v w) part)
  Changes (Fill n) memo part memo' part' =
      (v : V) × (w : ℕ) × (node_at n part ≡ Some (Some (Built v w)))
      × (memo' ≡ after_fill same name_of client (key_at tasks client n part) v w memo) × (part' ≡ with_node n (There v) part)
  Changes Reply memo part memo' part' = (memo' ≡ memo) × (part' ≡ part_after_reply tasks client part)

-- What became of an event: taken exactly where it is possible, and then this changed; not ready exactly
-- where it is not, and then this stayed.
abbrev pub TellsIfTaken : Bool → Type 0 → Type 0 → Stepped → Type 0
TellsIfTaken possible Changed Same Taken = (possible ≡ true) × Changed
TellsIfTaken possible Changed Same NotReady = (possible ≡ false) × Same

module _ {K V R : Type 0} (tasks : ClientTasks K V R) where
  -- whether an event is possible: there is such a client, and it can do this
  abbrev pub is_possible : Machine K V R → Event → Bool
  is_possible machine event = option_map_or (can_do tasks event.client event.act) (slice_get machine.parts event.client) false

module _ {K V R : Type 0} (same : K → K → Bool) (name_of : K → List ℕ) (fits : K → V → Type 0) (weighs : V → ℕ)
    (tasks : ClientTasks K V R) where
  -- one machine is the other after this event: the memo and the client's own part change as its act says,
  -- and nothing else
  abbrev pub StepsMachine : Machine K V R → Event → Machine K V R → Type 0
  StepsMachine machine event machine' =
      (part : ClientProgress V R) × (part' : ClientProgress V R) × (slice_get machine.parts event.client ≡ Some part)
      × Changes same name_of fits weighs tasks event.client event.act machine.memo part machine'.memo part'
      × (machine'.parts ≡ slice_set machine.parts event.client part')

module _ {K V R : Type 0} where
  -- the first machine: no entries and an empty journal, and every client is between commands, with no
  -- replies
  abbrev pub first_machine : ℕ → ℕ → ℕ → Machine K V R
  first_machine clients budget share = record {
    memo = record { entries = []; dropped = []; budget = budget; share = share; journal = []; spare = 0 };
    parts = replicate clients no_client_part;
  }
