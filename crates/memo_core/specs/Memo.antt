-- The sequential memo: a list of entries, most recent first, a budget, a share and a journal. It knows
-- of no cache: the list is searched from its front.
use Rattle.std.specs.Prelude.{◌≡◌, ◌≢◌, ℕ, zero, suc, ◌+◌, ◌-◌, ◌≤◌, Bool, true, false, ◌&&◌, ◌||◌, not, if◌then◌else◌, nat_le, nat_eq, nat_lt, List, [], ◌∷◌, ◌++◌, length, sum_by, IsPermutation, Option, Some, None, is_some, option_map, Contains}
use Rattle.std.specs.Option.{option_map_or}
use Rattle.std.specs.List.{AllByRecursion}
use Rattle.std.specs.Cmp.Lexicographic.{pointwise}

-- Lists of anything, by a test

module _ {E : Type 0} (test : E → Bool) where
  -- the first that passes, if one does
  abbrev pub first_with : List E → Option E
  first_with [] = None
  first_with (e ∷ es) = if test e then Some e else first_with es

  -- all but the first that passes
  abbrev pub without_first : List E → List E
  without_first [] = []
  without_first (e ∷ es) = if test e then es else e ∷ without_first es

  -- all but the last that passes
  abbrev pub without_last : List E → List E
  without_last [] = []
  without_last (e ∷ es) = if is_some (first_with es) then e ∷ without_last es else if test e then es else e ∷ es

  -- the first that passes stands in front, and the others keep their order
  abbrev pub brought_to_front : List E → List E
  brought_to_front es = option_map_or (λ e. e ∷ without_first es) (first_with es) es

module _ {E : Type 0} where
  -- What is to be placed is, in some order, what now stands and what came to those that are gone.
  abbrev pub DropsFrom : (placed gone gone' standing : List E) → Type 0
  DropsFrom placed gone gone' standing = (dropped : List E) × (gone' ≡ gone ++ dropped) × IsPermutation placed (dropped ++ standing)

  -- What a fill has to place: the entries that were there and, where it is kept and its key is not held,
  -- the new one.
  abbrev pub entries_to_place_where : (held kept : Bool) → E → List E → List E
  entries_to_place_where held kept new es = if kept && not held then new ∷ es else es

-- how many entries there may be
abbrev pub most_entries : ℕ
most_entries = 4096

-- an entry without its value: its name, its key, its weight and its owner, the caller who brought it
pub record EntryHeader (K : Type 0) : Type 0 where
  pub name : List ℕ
  pub key : K
  pub weight : ℕ
  pub owner : ℕ

-- an entry: what it is, and its value
pub record Entry (K V : Type 0) : Type 0 where
  pub header : EntryHeader K
  pub value : V

-- what one call said: a probe, whether it was a hit; a fill, the weight that was offered, whether it
-- was kept, and how many entries were dropped
pub data Answer : Type 0 where
  ProbeAnswer : (hit : Bool) → Answer
  FillAnswer : (weight : ℕ) → (kept : Bool) → (evicted : ℕ) → Answer

-- an item of a journal: whose call it was, of which key, and what it said
pub record JournalRecord (K : Type 0) : Type 0 where
  pub caller : ℕ
  pub key : K
  pub answer : Answer

-- an item by its parts
abbrev pub journal_record : {K : Type 0} → ℕ → K → Answer → JournalRecord K
journal_record caller key answer = record { caller = caller; key = key; answer = answer }

-- whether two names are equal, byte by byte
abbrev pub same_name : List ℕ → List ℕ → Bool
same_name a b = pointwise nat_eq a b

-- over any entries that have a header
module _ {K E : Type 0} (same : K → K → Bool) (header : E → EntryHeader K) where
  -- whether an entry has this very key
  abbrev pub has_key : K → E → Bool
  has_key key e = same (header e).key key

  -- whether some entry has this very key
  abbrev pub has_entry_with : K → List E → Bool
  has_entry_with key es = is_some (first_with (has_key key) es)

module _ {K E : Type 0} (header : E → EntryHeader K) where
  -- whether an entry has this name
  abbrev pub has_name : List ℕ → E → Bool
  has_name name e = same_name name (header e).name

  -- what the entries of an owner weigh together
  abbrev pub owner_weight : ℕ → List E → ℕ
  owner_weight owner es = sum_by (λ e. if nat_eq (header e).owner owner then (header e).weight else 0) es

  -- Whether one of these entries is free to a caller: it is the caller's own, or nothing is reserved, or
  -- its owner's entries weigh more than the share together.
  abbrev pub is_free : ℕ → ℕ → List E → E → Bool
  is_free share caller es e = nat_eq (header e).owner caller || (nat_eq share 0 || nat_lt share (owner_weight (header e).owner es))

  -- each entry of this owner stands in the other list too
  abbrev pub StandIn : ℕ → List E → List E → Type 0
  StandIn owner es fs = AllByRecursion (λ e. (header e).owner ≡ owner → Contains fs e) es

  -- the weights sum to at most the budget, and there are not too many
  abbrev pub fits_in : ℕ → List E → Bool
  fits_in budget es = nat_le (sum_by (λ e. (header e).weight) es) budget && nat_le (length es) most_entries

module _ {K E : Type 0} (header : E → EntryHeader K) (budget share : ℕ) where
  -- The others that are left beside a new entry, where fewer than n of them are dropped: while it doesn't fit, the last one
  -- that is free to its owner goes. None where no other is free.
  abbrev pub others_left_within : ℕ → E → List E → Option (List E)
  others_left_within zero new es = None
  others_left_within (suc n) new es =
      if fits_in header budget (new ∷ es) then Some es
      else if is_some (first_with (is_free header share (header new).owner es) es) then
      others_left_within n new (without_last (is_free header share (header new).owner es) es)
      else None

  -- the same, where all of them may be dropped
  abbrev pub others_left_beside : E → List E → Option (List E)
  others_left_beside new es = others_left_within (suc (length es)) new es

  -- The entries after a fill of a key that is not held, or none where it is not kept: a free entry of the same name goes, and
  -- the new one stands in front of those that are left.
  abbrev pub entries_after_push : E → List E → Option (List E)
  entries_after_push new es =
      if option_map_or (λ e. not (is_free header share (header new).owner es e))
      (first_with (has_name header (header new).name) es) false then None
      else option_map (λ rest. new ∷ rest) (others_left_beside new (without_first (has_name header (header new).name) es))

  -- The entries after a fill, or none where it is not kept: one above the budget is not; where the key is
  -- held, they are those with its entry in front; and another key is pushed.
  abbrev pub entries_after_offer_where : (held : Bool) → (in_front : List E) → E → List E → Option (List E)
  entries_after_offer_where held in_front new es =
      if nat_lt budget (header new).weight then None
      else if held then Some in_front
      else entries_after_push new es

module _ {K E : Type 0} (same : K → K → Bool) (header : E → EntryHeader K) (budget share : ℕ) where
  -- the entries after a fill, or none where it is not kept: a held key comes to the front as it is
  abbrev pub entries_after_offer : E → List E → Option (List E)
  entries_after_offer new es =
      entries_after_offer_where header budget share (has_entry_with same header (header new).key es)
      (brought_to_front (has_key same header (header new).key) es) new es

  -- the entries after a fill: one that is not kept changes nothing
  abbrev pub entries_after_fill : E → List E → List E
  entries_after_fill new es = option_map_or (λ kept. kept) (entries_after_offer new es) es

  -- what a fill says: each entry that a kept fill drops counts as evicted
  abbrev pub fill_answer : E → List E → Answer
  fill_answer new es =
      option_map_or
      (λ kept. FillAnswer (header new).weight true
      (if has_entry_with same header (header new).key es then 0 else length es + 1 - length kept))
      (entries_after_offer new es)
      (FillAnswer (header new).weight false 0)

  -- the entries that a fill has to place
  abbrev pub entries_to_place : E → List E → List E
  entries_to_place new es = entries_to_place_where (has_entry_with same header (header new).key es) (is_some (entries_after_offer new es)) new es

-- a header is the header of itself
abbrev pub header_itself : {K : Type 0} → EntryHeader K → EntryHeader K
header_itself m = m

-- the header of the entry that a fill offers
abbrev pub header_of_fill : {K : Type 0} → (K → List ℕ) → ℕ → K → ℕ → EntryHeader K
header_of_fill name_of caller key weight = record { name = name_of key; key = key; weight = weight; owner = caller }

module _ {K : Type 0} (same : K → K → Bool) (name_of : K → List ℕ) (budget share : ℕ) where
  -- the entries after a call
  abbrev pub entries_after_call : ℕ → K → Answer → List (EntryHeader K) → List (EntryHeader K)
  entries_after_call caller key (ProbeAnswer hit) es = brought_to_front (has_key same header_itself key) es
  entries_after_call caller key (FillAnswer weight kept evicted) es =
      entries_after_fill same header_itself budget share (header_of_fill name_of caller key weight) es

  -- what the sequential memo says at a call
  abbrev pub memo_answer : ℕ → K → Answer → List (EntryHeader K) → Answer
  memo_answer caller key (ProbeAnswer hit) es = ProbeAnswer (has_entry_with same header_itself key es)
  memo_answer caller key (FillAnswer weight kept evicted) es =
      fill_answer same header_itself budget share (header_of_fill name_of caller key weight) es

  -- the entries after these items
  abbrev pub replay : List (EntryHeader K) → List (JournalRecord K) → List (EntryHeader K)
  replay es [] = es
  replay es (i ∷ is) = replay (entries_after_call i.caller i.key i.answer es) is

  -- each item says what the sequential memo says there
  abbrev pub IsLegal : List (EntryHeader K) → List (JournalRecord K) → Type 0
  IsLegal es [] = Unit {0}
  IsLegal es (i ∷ is) =
      (i.answer ≡ memo_answer i.caller i.key i.answer es)
      × IsLegal (entries_after_call i.caller i.key i.answer es) is

  -- at each item, where the entries of another caller weigh at most the share before it, all of them stand
  -- after it
  abbrev pub KeepsShares : List (EntryHeader K) → List (JournalRecord K) → Type 0
  KeepsShares es [] = Unit {0}
  KeepsShares es (i ∷ is) =
      ((owner : ℕ) → owner ≢ i.caller → owner_weight header_itself owner es ≤ share →
      StandIn header_itself owner es (entries_after_call i.caller i.key i.answer es))
      × KeepsShares (entries_after_call i.caller i.key i.answer es) is

-- What the items of a journal count, all together, where each counts by what it said. Every count over a
-- journal is this one: hits, misses, fills that were kept or not, and entries that were dropped.
abbrev pub count_in : {K : Type 0} → (Answer → ℕ) → List (JournalRecord K) → ℕ
count_in by items = sum_by (λ i. by i.answer) items

-- a probe that was a hit counts 1
abbrev pub hit_count_of : Answer → ℕ
hit_count_of (ProbeAnswer hit) = if hit then 1 else 0
hit_count_of (FillAnswer weight kept evicted) = 0

-- a probe that was a miss counts 1
abbrev pub miss_count_of : Answer → ℕ
miss_count_of (ProbeAnswer hit) = if hit then 0 else 1
miss_count_of (FillAnswer weight kept evicted) = 0

-- a fill that was kept counts 1
abbrev pub kept_count_of : Answer → ℕ
kept_count_of (ProbeAnswer hit) = 0
kept_count_of (FillAnswer weight kept evicted) = if kept then 1 else 0

-- a fill that was not kept counts 1: its value was too heavy, or there was no room for it
abbrev pub not_kept_count_of : Answer → ℕ
not_kept_count_of (ProbeAnswer hit) = 0
not_kept_count_of (FillAnswer weight kept evicted) = if kept then 0 else 1

-- a call counts the entries that it dropped
abbrev pub evicted_count_of : Answer → ℕ
evicted_count_of (ProbeAnswer hit) = 0
evicted_count_of (FillAnswer weight kept evicted) = evicted

-- how many entries the calls of a journal dropped
abbrev pub evicted_count : {K : Type 0} → List (JournalRecord K) → ℕ
evicted_count items = count_in evicted_count_of items
