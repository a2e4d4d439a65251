-- What a new slot pushes out of a cache, and what is kept beside the cache.
use Rattle.std.specs.Prelude.{◌≡◌, ℕ, ◌+◌, ◌-◌, ◌≤◌, ◌<◌, List, [], ◌∷◌, ◌++◌, length, nat_eq, if◌then◌else◌, sum_by, Bool, ◌||◌, nat_lt, false, Option, Some, None, is_some, option_map, IfSome, IfNone}
use Rattle.std.specs.List.{AllByRecursion, IsDistinct}
use Rattle.std.specs.Map.{remove_entry, keys_of}
use Rattle.memo_core.specs.Memo.{EntryHeader, same_name, owner_weight, others_left_beside, entries_after_push, entries_to_place_where, DropsFrom, most_entries, evicted_count}
use Rattle.memo_core.specs.Views.{MemoView, IsSound}
use Rattle.memo_core.specs.Fields.{entry_of_slot, no_bound, weight_at}
use Rattle.memo_core.specs.declared.plan.Plan.{Plan}
use Rattle.memo_core.specs.declared.slots.Slot.{Slot}
use Rattle.memo_core.specs.declared.slots.Shelf.{Shelf}

module _ {X : Type 0} where
  -- the pairs that are left after these names went
  abbrev pub pairs_without : List (List ℕ) → List (List ℕ × X) → List (List ℕ × X)
  pairs_without [] es = es
  pairs_without (n ∷ ns) es = pairs_without ns (remove_entry (same_name n) es)

  -- the pair of a name, if there is one
  abbrev pub pair_if_there : List ℕ → Option X → List (List ℕ × X)
  pair_if_there name None = []
  pair_if_there name (Some x) = (name, x) ∷ []

-- A slot may be put into a cache of this capacity: it drops nothing by itself, it has no more slots than it may, and there is
-- room for one more among those that are gone.
pub record HasPlace {X : Type 0} (cap : ℕ) (entries : List X) (gone room : ℕ) : Type 0 where
  pub unbounded : cap ≡ no_bound
  pub few : length entries ≤ most_entries
  pub room_left : gone < room

-- all of these names are other ones
abbrev pub AreOthers : List ℕ → List (List ℕ) → Type 0
AreOthers name names = AllByRecursion (λ n. same_name n name ≡ false) names

-- whether a plan's numbers say that an owner's slots are free to a caller
abbrev pub frees_by : (caller share owner : ℕ) → Plan → Bool
frees_by caller share owner plan = nat_eq owner caller || (nat_eq share 0 || nat_lt share (weight_at owner plan.owners.items))

-- one plan is another without a slot of this name, owner and weight
pub record IsWithout (name : List ℕ) (owner weight : ℕ) (plan plan' : Plan) : Type 0 where
  pub names : plan'.names.items ≡ plan.names.items ++ name ∷ []
  pub total : plan'.total + weight ≡ plan.total
  pub count : plan'.count + 1 ≡ plan.count
  pub owned : (other : ℕ) →
      weight_at other plan'.owners.items + (if nat_eq owner other then weight else 0) ≡ weight_at other plan.owners.items

module _ {K V : Type 0} where
  -- the header of the entry that a slot stands for
  abbrev pub slot_header : List ℕ × Slot K V → EntryHeader K
  slot_header e = (entry_of_slot e).header

  -- what slots weigh together
  abbrev pub weight_of_slots : List (List ℕ × Slot K V) → ℕ
  weight_of_slots es = sum_by (λ e. (slot_header e).weight) es

  -- what the numbers beside the cache have to do with its slots
  pub record IsShelf (budget : ℕ) (shelf : Shelf K V) : Type 0 where
    pub unbounded : shelf.cache.cap ≡ no_bound
    pub kept_weight : shelf.weight ≡ weight_of_slots shelf.cache.entries
    pub owned_weights : (owner : ℕ) → weight_at owner shelf.owners.items ≡ owner_weight slot_header owner shelf.cache.entries
    pub within : shelf.weight ≤ budget
    pub few : length shelf.cache.entries ≤ most_entries

  -- What an offer to a shelf did where memory was found: how many slots it dropped, which are then among those that are gone;
  -- or none where it is not kept, and then the shelf stays.
  pub record IsOfferTaken (held : Bool) (slots_if_kept : Option (List (List ℕ × Slot K V))) (new : List ℕ × Slot K V)
      (shelf : Shelf K V) (gone : List (List ℕ × Slot K V)) (answer : Option ℕ)
      (shelf' : Shelf K V) (gone' : List (List ℕ × Slot K V)) : Type 0 where
    pub slots : slots_if_kept ≡ option_map (λ _. shelf'.cache.entries) answer
    pub evicted : IfSome answer (λ n. n ≡ if held then 0 else length shelf.cache.entries + 1 - length shelf'.cache.entries)
    pub dropped : DropsFrom (entries_to_place_where held (is_some answer) new shelf.cache.entries) gone gone' shelf'.cache.entries
    pub refused : IfNone answer (shelf' ≡ shelf)
    pub distinct : IsDistinct same_name (keys_of shelf'.cache.entries)

  -- what the numbers of a plan have to do with the slots that are left beside a new one of this weight
  pub record IsPlan (weight : ℕ) (left : List (List ℕ × Slot K V)) (plan : Plan) : Type 0 where
    pub total : plan.total ≡ weight + weight_of_slots left
    pub count : plan.count ≡ 1 + length left
    pub owned_weights : (owner : ℕ) → weight_at owner plan.owners.items ≡ owner_weight slot_header owner left

  module _ (budget share : ℕ) (name : List ℕ) (slot : Slot K V) (es : List (List ℕ × Slot K V)) where
    -- the slots that are left after a plan's names went, and the one of the new slot's name
    abbrev pub slots_left_by : Plan → List (List ℕ × Slot K V)
    slots_left_by plan = pairs_without plan.names.items (remove_entry (same_name name) es)

    -- a plan that makes room for a new slot
    pub record MakesRoom (plan : Plan) : Type 0 where
      pub room : others_left_beside slot_header budget share (name, slot) (remove_entry (same_name name) es) ≡ Some (slots_left_by plan)
      pub plan_is : IsPlan slot.weight (slots_left_by plan) plan
      pub within : plan.total ≤ budget
      pub few : plan.count ≤ most_entries
      pub others : AreOthers name plan.names.items

    -- a plan by which a new slot is pushed
    pub record IsPlanFor (plan : Plan) : Type 0 where
      pub pushes : entries_after_push slot_header budget share (name, slot) es ≡ Some ((name, slot) ∷ slots_left_by plan)
      pub weighs : plan.total ≡ weight_of_slots ((name, slot) ∷ slots_left_by plan)
      pub within : plan.total ≤ budget
      pub few : length ((name, slot) ∷ slots_left_by plan) ≤ most_entries
      pub owned_weights : (owner : ℕ) →
          weight_at owner plan.owners.items ≡ owner_weight slot_header owner ((name, slot) ∷ slots_left_by plan)
      pub others : AreOthers name plan.names.items

module _ {K V : Type 0} where
  -- what the shelf and the counter of evictions have to do with the entries and the journal
  pub record ShelfMatchesJournal (same : K → K → Bool) (name_of : K → List ℕ) (fits : K → V → Type 0) (weighs : V → ℕ)
      (shelf : Shelf K V) (evicted : ℕ) (core : MemoView K V) : Type 0 where
    pub shelved : IsShelf core.budget shelf
    pub counted : evicted ≡ evicted_count core.journal
    pub filled_before : evicted + length core.entries ≤ length core.journal
    pub sound : IsSound same name_of fits weighs core
