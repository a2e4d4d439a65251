-- Calls of a memo that are written out, with what the journal says of each.
use Rattle.std.proofs.Common.{◌≡◌, ℕ, Bool, true, false, List, [], ◌∷◌, replicate, take, refl, nat_eq}
use Rattle.memo_core.specs.Memo.{EntryHeader, JournalRecord, ProbeAnswer, FillAnswer, journal_record, header_itself, entries_after_fill, fill_answer, replay, IsLegal, count_in, hit_count_of, miss_count_of, kept_count_of, not_kept_count_of, evicted_count}

-- each key has a name of its own
abbrev own : ℕ → List ℕ
own key = key ∷ []

-- all keys have one name
abbrev alike : ℕ → List ℕ
alike key = 0 ∷ []

abbrev mark : ℕ → ℕ → EntryHeader ℕ
mark key weight = record { name = own key; key = key; weight = weight; owner = 0 }

abbrev mark_alike : ℕ → ℕ → EntryHeader ℕ
mark_alike key weight = record { name = alike key; key = key; weight = weight; owner = 0 }

abbrev probe : ℕ → Bool → JournalRecord ℕ
probe key hit = journal_record 0 key (ProbeAnswer hit)

abbrev fill : ℕ → ℕ → Bool → ℕ → JournalRecord ℕ
fill key weight kept evicted = journal_record 0 key (FillAnswer weight kept evicted)

-- ---- two solids of size 60 and 70, each wanted twice
abbrev both_fit : List (JournalRecord ℕ)
both_fit = probe 1 false ∷ fill 1 60 true 0 ∷ probe 2 false ∷ fill 2 70 true 0 ∷ probe 1 true ∷ probe 2 true
    ∷ []

both_fit_is_legal : IsLegal nat_eq own 500000 0 [] both_fit
both_fit_is_legal = (refl, (refl, (refl, (refl, (refl, (refl, tt))))))

both_fit_leaves : replay nat_eq own 500000 0 [] both_fit ≡ mark 2 70 ∷ mark 1 60 ∷ []
both_fit_leaves = refl

-- each of them drops the other
abbrev one_fits : List (JournalRecord ℕ)
one_fits =
    probe 1 false ∷ fill 1 60 true 0 ∷ probe 2 false ∷ fill 2 70 true 1
    ∷ probe 1 false ∷ fill 1 60 true 1 ∷ probe 2 false ∷ fill 2 70 true 1 ∷ []

one_fits_is_legal : IsLegal nat_eq own 100 0 [] one_fits
one_fits_is_legal = (refl, (refl, (refl, (refl, (refl, (refl, (refl, (refl, tt))))))))

one_fits_leaves : replay nat_eq own 100 0 [] one_fits ≡ mark 2 70 ∷ []
one_fits_leaves = refl

three_are_dropped : evicted_count one_fits ≡ 3
three_are_dropped = refl

-- hits, misses, fills that were kept, and fills that were not
abbrev counts : List (JournalRecord ℕ) → List ℕ
counts items = count_in hit_count_of items ∷ count_in miss_count_of items ∷ count_in kept_count_of items ∷ count_in not_kept_count_of items ∷ []

both_fit_counts : counts both_fit ≡ 2 ∷ 2 ∷ 2 ∷ 0 ∷ []
both_fit_counts = refl

one_fits_counts : counts one_fits ≡ 0 ∷ 4 ∷ 4 ∷ 0 ∷ []
one_fits_counts = refl

-- the same with room for both, where they have one name
one_name_is_legal : IsLegal nat_eq alike 500000 0 [] one_fits
one_name_is_legal = (refl, (refl, (refl, (refl, (refl, (refl, (refl, (refl, tt))))))))

one_name_leaves : replay nat_eq alike 500000 0 [] one_fits ≡ mark_alike 2 70 ∷ []
one_name_leaves = refl

-- none fits
abbrev none_fits : List (JournalRecord ℕ)
none_fits =
    probe 1 false ∷ fill 1 60 false 0 ∷ probe 2 false ∷ fill 2 70 false 0
    ∷ probe 1 false ∷ fill 1 60 false 0 ∷ probe 2 false ∷ fill 2 70 false 0 ∷ []

none_fits_is_legal : IsLegal nat_eq own 0 0 [] none_fits
none_fits_is_legal = (refl, (refl, (refl, (refl, (refl, (refl, (refl, (refl, tt))))))))

-- ---- budgets
-- what weighs nothing is kept with no budget
nothing_is_kept : IsLegal nat_eq own 0 0 [] (fill 1 0 true 0 ∷ probe 1 true ∷ [])
nothing_is_kept = (refl, (refl, tt))

-- a weight at the budget is kept and drops all others; one more is too heavy and drops none
at_the_budget : IsLegal nat_eq own 10 0 []
    (fill 1 4 true 0 ∷ fill 2 6 true 0 ∷ fill 3 11 false 0 ∷ probe 1 true ∷ fill 3 10 true 2 ∷ [])
at_the_budget = (refl, (refl, (refl, (refl, (refl, tt)))))

-- ---- order
-- a hit brings its entry to the front, so the other one is dropped
hit_stays : replay nat_eq own 10 0 [] (fill 1 5 true 0 ∷ fill 2 5 true 0 ∷ probe 1 true ∷ fill 3 1 true 1 ∷ [])
    ≡ mark 3 1 ∷ mark 1 5 ∷ []
hit_stays = refl

-- a held key is kept, comes to the front and keeps its weight, also under another weight
held_stays : replay nat_eq own 10 0 [] (fill 1 5 true 0 ∷ fill 2 5 true 0 ∷ fill 1 9 true 0 ∷ [])
    ≡ mark 1 5 ∷ mark 2 5 ∷ []
held_stays = refl

held_is_kept : fill_answer nat_eq header_itself 10 0 (mark 1 9) (mark 2 5 ∷ mark 1 5 ∷ []) ≡ FillAnswer 9 true 0
held_is_kept = refl

-- an entry of the same name and another key goes before the ends are looked at
same_name_goes_first : fill_answer nat_eq header_itself 10 0 (mark_alike 3 6) (mark 4 4 ∷ mark_alike 2 6 ∷ [])
    ≡ FillAnswer 6 true 1
same_name_goes_first = refl

same_name_leaves : entries_after_fill nat_eq header_itself 10 0 (mark_alike 3 6) (mark 4 4 ∷ mark_alike 2 6 ∷ [])
    ≡ mark_alike 3 6 ∷ mark 4 4 ∷ []
same_name_leaves = refl

-- ---- the number of entries
one_is_too_many : fill_answer nat_eq header_itself 10 0 (mark 1 0) (replicate 4096 (mark 0 0)) ≡ FillAnswer 0 true 1
one_is_too_many = refl

last_one_fits : fill_answer nat_eq header_itself 10 0 (mark 1 0) (replicate 4095 (mark 0 0)) ≡ FillAnswer 0 true 0
last_one_fits = refl

-- ---- shares
-- an entry, and a fill, of a caller
abbrev owned_mark : ℕ → ℕ → ℕ → EntryHeader ℕ
owned_mark owner key weight = record { name = own key; key = key; weight = weight; owner = owner }

abbrev fill_by : ℕ → ℕ → ℕ → Bool → ℕ → JournalRecord ℕ
fill_by caller key weight kept evicted = journal_record caller key (FillAnswer weight kept evicted)

-- the keys A to F are 1 to 6
abbrev shared : List (JournalRecord ℕ)
shared =
    fill_by 0 1 40 true 0 ∷ fill_by 1 2 30 true 0 ∷ fill_by 1 3 30 true 0 ∷ fill_by 2 4 30 true 1
    ∷ fill_by 2 5 40 false 0 ∷ fill_by 0 6 10 true 1 ∷ []

shared_is_legal : IsLegal nat_eq own 100 40 [] shared
shared_is_legal = (refl, (refl, (refl, (refl, (refl, (refl, tt))))))

shared_leaves : replay nat_eq own 100 40 [] shared ≡ owned_mark 0 6 10 ∷ owned_mark 2 4 30 ∷ owned_mark 1 3 30 ∷ []
shared_leaves = refl

third_leaves : replay nat_eq own 100 40 [] (take 3 shared) ≡ owned_mark 1 3 30 ∷ owned_mark 1 2 30 ∷ owned_mark 0 1 40 ∷ []
third_leaves = refl

fourth_leaves : replay nat_eq own 100 40 [] (take 4 shared) ≡ owned_mark 2 4 30 ∷ owned_mark 1 3 30 ∷ owned_mark 0 1 40 ∷ []
fourth_leaves = refl

fifth_leaves : replay nat_eq own 100 40 [] (take 5 shared) ≡ owned_mark 2 4 30 ∷ owned_mark 1 3 30 ∷ owned_mark 0 1 40 ∷ []
fifth_leaves = refl

-- without a share the last entries go, regardless of their owner
unshared_leaves : replay nat_eq own 100 0 [] (take 4 shared) ≡ owned_mark 2 4 30 ∷ owned_mark 1 3 30 ∷ owned_mark 1 2 30 ∷ []
unshared_leaves = refl

-- an owner's entries are dropped from the end until they weigh the share, and no further
down_to_the_share : fill_answer nat_eq header_itself 100 40 (owned_mark 2 9 50) (owned_mark 1 3 30 ∷ owned_mark 1 2 10 ∷ owned_mark 1 1 60 ∷ []) ≡ FillAnswer 50 true 1
down_to_the_share = refl

-- one more has nothing free to take
nothing_is_free : fill_answer nat_eq header_itself 100 40 (owned_mark 2 9 61) (owned_mark 1 3 30 ∷ owned_mark 1 2 10 ∷ owned_mark 1 1 60 ∷ []) ≡ FillAnswer 61 false 0
nothing_is_free = refl

-- an entry of the same name goes only where it is free
reserved_name_stays : fill_answer nat_eq header_itself 100 40 (record { name = own 1; key = 2; weight = 5; owner = 2 }) (owned_mark 1 1 40 ∷ []) ≡ FillAnswer 5 false 0
reserved_name_stays = refl

own_name_goes : fill_answer nat_eq header_itself 100 40 (record { name = own 1; key = 2; weight = 5; owner = 1 }) (owned_mark 1 1 40 ∷ []) ≡ FillAnswer 5 true 1
own_name_goes = refl

heavy_name_goes : fill_answer nat_eq header_itself 100 40 (record { name = own 1; key = 2; weight = 5; owner = 2 }) (owned_mark 1 1 30 ∷ owned_mark 1 3 30 ∷ []) ≡ FillAnswer 5 true 1
heavy_name_goes = refl

-- a held key that another caller brings keeps its owner
owner_stays : entries_after_fill nat_eq header_itself 100 40 (owned_mark 2 1 7) (owned_mark 1 3 30 ∷ owned_mark 0 1 40 ∷ []) ≡ owned_mark 0 1 40 ∷ owned_mark 1 3 30 ∷ []
owner_stays = refl
