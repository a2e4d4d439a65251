-- What the tally says about a memo at the end of a run.
use Rattle.std.specs.Prelude.{◌≡◌, ℕ, ◌≤◌, zero, suc, List, [], ◌∷◌, ◌++◌, ◌⊎◌, length, All, Some, slice_get}
use Rattle.std.specs.List.{AllByRecursion}
use Rattle.text_place.specs.declared.fault.Fault.{Fault}
use Rattle.plane_predicate.specs.declared.unit.Unit.{Unit as LengthUnit}
use Rattle.csg_tree.specs.HalfSpaceTrees.{Tree}
use Rattle.csg_tree.specs.Numberings.{is_same_tree, nodes_of}
use Rattle.csg_tree.specs.TreeKeys.{name_of}
use Rattle.bsp_tree.specs.Shapes.{SolidParts}
use Rattle.bsp_tree.specs.Trees.{size}
use Rattle.bsp_tree.specs.Shapes.{tree_of}
use Rattle.bsp_boolean.specs.Solids.{solid_of}
use Rattle.bsp_boolean.specs.TreeSolids.{join_count}
use Rattle.memo_core.specs.Memo.{JournalRecord, EntryHeader, Answer, ProbeAnswer, FillAnswer, header_itself, owner_weight, replay, IsLegal}
use Rattle.memo_core.specs.Views.{MemoView, IsSound}
use Rattle.subtree_memo.specs.Allowed.{AreAllowed}
use Rattle.parallel_eval.specs.Joins.{IsJoinAmong}
use Rattle.edit_session.specs.Sessions.{start_state}
use Rattle.script_run.specs.Asking.{MayExport}
use Rattle.flight_memo.specs.Claims.{ClaimsView, AreClosedClaims}
use Rattle.subtree_memo.specs.declared.tally.Tally.{Tally}
use Rattle.subtree_memo.specs.Tallies.{tally_of}
use Rattle.script_reader.specs.declared.script.ClientScript.{ClientScript}
use Rattle.reply_text.specs.declared.reply.Reply.{Reply}
use Rattle.reply_text.specs.Answers.{AllFit}
use Rattle.reply_text.specs.Sums.{AllAreSolved, CountsWhereSolved, AllSumTo}
use Rattle.script_server.specs.Meaning.Sources.{Means, HasSourceFault}
use Rattle.script_server.specs.Meaning.Exports.{AnswersExport}

-- A memo of solids by trees: each entry holds the solid of its tree with its size as its weight, and the journal is one that
-- the sequential memo keeps, and replays to the entries.
abbrev pub IsSolidMemo : (Tree → List ℕ) → MemoView Tree SolidParts → Type 0
IsSolidMemo names core =
    IsSound is_same_tree names (λ tree solid. tree_of solid ≡ solid_of tree) (λ solid. size (tree_of solid)) core

-- what a call says of a tree: a fill offers the size of its solid, whether it is kept or not
abbrev pub OffersSize : Tree → Answer → Type 0
OffersSize tree (ProbeAnswer hit) = Unit {0}
OffersSize tree (FillAnswer weight kept evicted) = weight ≡ size (solid_of tree)

-- each fill of a journal offers the size of the solid of its tree
abbrev pub OfferSizes : List (JournalRecord Tree) → Type 0
OfferSizes items = AllByRecursion (λ i. OffersSize i.key i.answer) items

-- what the entries of the first n callers weigh
abbrev pub weights_of : ℕ → List (EntryHeader Tree) → List ℕ
weights_of zero marks = []
weights_of (suc n) marks = weights_of n marks ++ owner_weight header_itself n marks ∷ []

-- how many joins an export of a source has: those among the distinct subtrees of its tree, and none where it has a fault
abbrev pub HasJoins : LengthUnit → List ℕ → ℕ → Type 0
HasJoins unit source n =
    ((fault : Fault) × HasSourceFault unit source fault × (n ≡ 0))
    ⊎ ((tree : Tree) × Means unit source tree × (n ≡ join_count (nodes_of tree)))

-- the same, whatever the export was answered
abbrev pub HasJoinsAsked : LengthUnit → List ℕ → Reply → ℕ → Type 0
HasJoinsAsked unit source r n = HasJoins unit source n

-- the same where the export lacks no solid, and else none
abbrev pub HasJoinsSolved : LengthUnit → List ℕ → Reply → ℕ → Type 0
HasJoinsSolved unit = CountsWhereSolved (HasJoins unit)

-- A tally's probes are at least the joins of the exports that lack no solid, and at most those of all exports. Where all lack
-- none, they are these, with as many fills offered as misses.
pub record TallyAddsUp (unit : LengthUnit) (clients : List ClientScript) (replies : List (List Reply)) (tally : Tally) : Type 0 where
  pub least : (n : ℕ) × AllSumTo (HasJoinsSolved unit) clients replies n × (n ≤ tally.probes)
  pub most : (n : ℕ) × AllSumTo (HasJoinsAsked unit) clients replies n × (tally.probes ≤ n)
  pub whole : AllAreSolved clients replies
      → AllSumTo (HasJoinsAsked unit) clients replies tally.probes × (tally.offered ≡ tally.misses)

-- A caller, who is a client by its number from 0, may ask for a key: a join of the tree of a source that the client's own
-- commands may export. Only the places at which memory ran out are open.
abbrev pub IsAskedBy : LengthUnit → List ClientScript → ℕ → Tree → Type 0
IsAskedBy unit clients caller key =
    (client : ClientScript) × (source : List ℕ) × (tree : Tree)
    × (slice_get clients caller ≡ Some client) × MayExport start_state client.commands source
    × Means unit source tree × IsJoinAmong (nodes_of tree) key

-- each record of a journal is of a client who may ask for its key
abbrev pub AreAskedBy : LengthUnit → List ClientScript → List (JournalRecord Tree) → Type 0
AreAskedBy unit clients items = ∥ AreAllowed (IsAskedBy unit clients) items ∥₁

-- The tally and the weights are those of a journal of the clients that is legal for the sequential memo, with digests of trees
-- as names and sizes of solids as weights, in which each client asks for its own keys; and they add up.
abbrev pub HaveLegalJournal : LengthUnit → List ClientScript → List (List Reply) → ℕ → ℕ → Tally → List ℕ → Type 0
HaveLegalJournal unit clients replies budget share tally weights =
    (items : List (JournalRecord Tree)) × IsLegal is_same_tree name_of budget share [] items
    × (tally ≡ tally_of items tally.dropped)
    × (weights ≡ weights_of (length weights) (replay is_same_tree name_of budget share [] items))
    × TallyAddsUp unit clients replies tally
    × AreAskedBy unit clients items × (tally.offered ≤ tally.misses) × OfferSizes items

-- What came of a run of clients over a memo of this budget and share, whose names are these: the replies, the tally, the memo
-- and its claims at the end.
pub record IsRunOf (unit : LengthUnit) (clients : List ClientScript) (budget share : ℕ) (names : Tree → List ℕ)
    (replies : List (List Reply)) (tally : Tally) (core : MemoView Tree SolidParts) (closed : ClaimsView Tree) : Type 0 where
  -- each client's replies are those that its own commands define, whatever the others do at the same time
  pub fits : AllFit (AnswersExport unit) clients replies
  pub few : All (λ rs. length rs ≤ 8192) replies
  -- the tally is that of the memo's journal, which is one of the sequential memo of the budget and share
  pub counted : tally ≡ tally_of core.journal tally.dropped
  -- its probes are between the joins of the exports that lack no solid and those of all exports
  pub sums : TallyAddsUp unit clients replies tally
  -- whatever the exports lacked, no more fills were offered than there were misses
  pub offered : tally.offered ≤ tally.misses
  pub sound : IsSolidMemo names core
  -- the callers of the journal are the clients, each of which asked for joins of what its own commands may export
  pub keys : AreAskedBy unit clients core.journal
  -- no key ever had two live claims; as many began as there were misses, and all of them ended
  pub claims : AreClosedClaims tally.misses closed
  pub limits : (core.budget ≡ budget) × (core.share ≡ share)
