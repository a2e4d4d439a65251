-- How the fields of a memo stand for what contracts see.
use Rattle.std.specs.Prelude.{ℕ, suc, ◌^◌, ◌-◌, Bool, true, false, List, [], ◌∷◌, nat_eq, map, Option, Some, None, option_map, is_some, if◌then◌else◌}
use Rattle.std.specs.Arc.{arc_value}
use Rattle.std.specs.Map.{lookup}
use Rattle.memo_core.specs.Memo.{Entry, JournalRecord, Answer, ProbeAnswer, FillAnswer, same_name}
use Rattle.memo_core.specs.declared.slots.Slot.{Slot}
use Rattle.memo_core.specs.declared.owners.OwnerWeight.{OwnerWeight}
use Rattle.memo_core.specs.declared.journal.JournalItem.{JournalItem}
use Rattle.memo_core.specs.declared.journal.Did.{Did}
use Rattle.memo_core.specs.declared.journal.Did.TheVariants.{Probed, Filled}
use Rattle.memo_core.specs.declared.memo.Probe.{Probe}
use Rattle.memo_core.specs.declared.memo.Probe.TheVariants.{Hit, Miss}

-- what an item of the journal says
abbrev pub answer_of : Did → Answer
answer_of (Probed hit) = ProbeAnswer hit
answer_of (Filled weight kept evicted) = FillAnswer weight kept evicted

-- what the rows say that an owner's entries weigh: the first row counts
abbrev pub weight_at : ℕ → List OwnerWeight → ℕ
weight_at owner [] = 0
weight_at owner (r ∷ rs) = if nat_eq r.owner owner then r.weight else weight_at owner rs

-- the place of that row
abbrev pub place_at : ℕ → List OwnerWeight → Option ℕ
place_at owner [] = None
place_at owner (r ∷ rs) = if nat_eq r.owner owner then Some 0 else option_map (λ n. suc n) (place_at owner rs)

-- the capacity of a cache that drops nothing by itself
abbrev pub no_bound : ℕ
no_bound = 2 ^ 64 - 1

module _ {K V : Type 0} where
  -- the entry that a slot of the cache stands for
  abbrev pub entry_of_slot : List ℕ × Slot K V → Entry K V
  entry_of_slot e = record {
    header = record { name = e.0; key = arc_value e.1.key; weight = e.1.weight; owner = e.1.owner };
    value = arc_value e.1.value;
  }

  -- the entries that the cache stands for
  abbrev pub entries_of : List (List ℕ × Slot K V) → List (Entry K V)
  entries_of es = map entry_of_slot es

module _ {K : Type 0} where
  -- the item of the journal as contracts see it
  abbrev pub record_of_item : JournalItem K → JournalRecord K
  record_of_item i = record { caller = i.caller; key = arc_value i.key; answer = answer_of i.did }

  -- the journal as contracts see it
  abbrev pub records_of : List (JournalItem K) → List (JournalRecord K)
  records_of is = map record_of_item is

module _ {K V : Type 0} (same : K → K → Bool) where
  -- the value of a slot, where its key is this one
  abbrev pub value_with_key : K → Option (Slot K V) → Option V
  value_with_key key None = None
  value_with_key key (Some slot) = if same (arc_value slot.key) key then Some (arc_value slot.value) else None

  -- whether the slot of this name has this key
  abbrev pub has_at : List ℕ → K → List (List ℕ × Slot K V) → Bool
  has_at name key es = is_some (value_with_key key (lookup (same_name name) es))

module _ {V : Type 0} where
  -- the value of a hit
  abbrev pub value_in : Probe V → Option V
  value_in (Hit value) = Some (arc_value value)
  value_in Miss = None

  -- whether a probe was a hit
  abbrev pub is_hit : Probe V → Bool
  is_hit (Hit value) = true
  is_hit Miss = false
