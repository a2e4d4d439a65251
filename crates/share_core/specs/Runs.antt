-- Whole runs: every list of events.
use Rattle.std.specs.Prelude.{◌≡◌, ℕ, ◌+◌, ◌<◌, ◌≤◌, take, Bool, true, false, List, [], ◌∷◌, ◌++◌, map, length, ◌⊎◌, nat_eq, if◌then◌else◌, slice_get, Some}
use Rattle.memo_core.specs.Memo.{JournalRecord, Answer, ProbeAnswer, FillAnswer}
use Rattle.share_core.specs.Views.{ClientTasks, Machine, ClientProgress}
use Rattle.share_core.specs.Fields.{AreRepliesFrom}
use Rattle.share_core.specs.Steps.{is_possible, StepsMachine}
use Rattle.share_core.specs.declared.event.Act.{Act}
use Rattle.share_core.specs.declared.event.Act.TheVariants.{Command, Probe, Build, Fill, Reply}
use Rattle.share_core.specs.declared.event.Event.{Event}

module _ {K V R : Type 0} (same : K → K → Bool) (name_of : K → List ℕ) (fits : K → V → Type 0) (weighs : V → ℕ)
    (tasks : ClientTasks K V R) where
  -- One machine is the other after a list of events, of which these were taken, in their order; an event
  -- that is not possible changes nothing, and the next one follows.
  abbrev pub Runs : Machine K V R → List Event → List Event → Machine K V R → Type 0
  Runs machine [] taken machine' = (taken ≡ []) × (machine' ≡ machine)
  Runs machine (e ∷ es) taken machine' =
      ((is_possible tasks machine e ≡ false) × Runs machine es taken machine')
      ⊎ ((is_possible tasks machine e ≡ true)
      × ((next : Machine K V R) × (rest : List Event) × StepsMachine same name_of fits weighs tasks machine e next
      × (taken ≡ e ∷ rest) × Runs next es rest machine'))

-- how many replies an act gives
abbrev pub reply_count_of : Act → ℕ
reply_count_of Command = 0
reply_count_of (Probe n) = 0
reply_count_of (Build n) = 0
reply_count_of (Fill n) = 0
reply_count_of Reply = 1

-- how many replies of a client are among these events
abbrev pub replies_in : ℕ → List Event → ℕ
replies_in client [] = 0
replies_in client (e ∷ es) = (if nat_eq e.client client then reply_count_of e.act else 0) + replies_in client es

-- a call on the memo: whose it was, of which key, and whether it was a fill
pub record MemoCall (K : Type 0) : Type 0 where
  pub caller : ℕ
  pub key : K
  pub is_fill : Bool

abbrev pub is_fill_answer : Answer → Bool
is_fill_answer (ProbeAnswer hit) = false
is_fill_answer (FillAnswer weight kept evicted) = true

module _ {K : Type 0} where
  -- the call of an item of a journal
  abbrev pub memo_call_of : JournalRecord K → MemoCall K
  memo_call_of i = record { caller = i.caller; key = i.key; is_fill = is_fill_answer i.answer }

  abbrev pub memo_calls_of : List (JournalRecord K) → List (MemoCall K)
  memo_calls_of items = map memo_call_of items

module _ {K V R : Type 0} (tasks : ClientTasks K V R) where
  -- the call that an act makes, if it makes one, of a client that has answered the given number of commands
  abbrev pub call_by : ℕ → ℕ → Act → List (MemoCall K)
  call_by client command Command = []
  call_by client command (Probe n) = record { caller = client; key = tasks.key client command n; is_fill = false } ∷ []
  call_by client command (Build n) = []
  call_by client command (Fill n) = record { caller = client; key = tasks.key client command n; is_fill = true } ∷ []
  call_by client command Reply = []

  -- the calls of these events, after those that were taken before: one for each Probe and each Fill
  abbrev pub calls_after : List Event → List Event → List (MemoCall K)
  calls_after before [] = []
  calls_after before (e ∷ es) = call_by e.client (replies_in e.client before) e.act ++ calls_after (before ++ e ∷ []) es

  -- What a whole run leaves: in the journal the call of each Probe and each Fill that was taken, in their order; and for
  -- each client the replies of its first commands, one for each Reply that was taken.
  pub record RunLeaves (taken : List Event) (machine : Machine K V R) : Type 0 where
    pub calls : memo_calls_of machine.memo.journal ≡ calls_after [] taken
    pub count : (client : ℕ) (part : ClientProgress V R) → slice_get machine.parts client ≡ Some part →
        length part.replies ≡ replies_in client taken
    pub answered : (client : ℕ) (part : ClientProgress V R) → slice_get machine.parts client ≡ Some part →
        AreRepliesFrom (tasks.reply client) 0 part.replies

module _ {K V R : Type 0} where
  -- two sets of tasks agree on a client's commands where each command that both have has the same reply; that its
  -- nodes and keys are the same ones is not even asked
  abbrev pub AgreeOn : ClientTasks K V R → ClientTasks K V R → ℕ → Type 0
  AgreeOn tasks others client =
      (command : ℕ) → command < tasks.commands client → command < others.commands client →
      tasks.reply client command ≡ others.reply client command

  -- a client has the same replies in both, for as many commands as it answered in both
  abbrev pub SameReplies : Machine K V R → Machine K V R → ℕ → Type 0
  SameReplies machine other client =
      (part part' : ClientProgress V R) → slice_get machine.parts client ≡ Some part → slice_get other.parts client ≡ Some part'
      → (n : ℕ) → n ≤ length part.replies → n ≤ length part'.replies → take n part.replies ≡ take n part'.replies
