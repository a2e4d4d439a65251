-- A fill of the fields is a fill of what they stand for.
use Rattle.std.proofs.Common.{◌≡◌, ℕ, ◌+◌, ◌-◌, ◌≤◌, Bool, true, false, List, [], ◌∷◌, ◌++◌, map, refl, ap, sym, subst, ◌∙◌, cond, length, arith, Some, None, option_map}
use Rattle.std.specs.Prelude.{Option, sum_by, is_some, IfNone, IfSome}
use Rattle.std.specs.Option.{option_map_or, unwrap_or}
use Rattle.std.specs.List.{IsDistinct}
use Rattle.std.specs.Map.{keys_of}
use Rattle.std.proofs.lemmas.List.{length-map, map-append, length-append}
use Rattle.memo_core.specs.Memo.{evicted_count_of, evicted_count, brought_to_front, same_name, has_key, has_entry_with, header_itself, Entry, EntryHeader, JournalRecord, Answer, FillAnswer, journal_record, entries_after_offer_where, entries_after_offer, entries_to_place_where, entries_to_place, DropsFrom, entries_after_fill, fill_answer, entries_after_call, memo_answer, replay, most_entries}
use Rattle.memo_core.specs.Views.{MemoView, IsSound, MaySay, header_in, headers_in, new_entry, after_fill}
use Rattle.memo_core.specs.Fields.{entry_of_slot, entries_of, record_of_item, records_of}
use Rattle.memo_core.specs.Plans.{ShelfMatchesJournal, IsShelf, slot_header}
use Rattle.memo_core.specs.declared.slots.Slot.{Slot}
use Rattle.memo_core.specs.declared.slots.Shelf.{Shelf}
use Rattle.memo_core.specs.declared.journal.JournalItem.{JournalItem}
use Rattle.memo_core.proofs.Lists.{brought_map}
use Rattle.memo_core.proofs.Maps.{where_map, sum_by_map}
use Rattle.memo_core.proofs.Journals.{evicted_more, replay_more, legal_more, all_more}
use Rattle.memo_core.proofs.Drops.{drops_map, placed_map}
use Rattle.memo_core.proofs.Kept.{core_is, holds_marks, names_are}
use Rattle.memo_core.proofs.Shares.{all_filled, filled_shorter}

module _ {K V : Type 0} (same : K → K → Bool) (budget share : ℕ) (new : Entry K V) (es : List (Entry K V)) where
  abbrev test : Entry K V → Bool
  test = has_key same header_in new.header.key

  offered_marks : entries_after_offer same header_itself budget share new.header (headers_in es) ≡ option_map headers_in (entries_after_offer same header_in budget share new es)
  offered_marks =
      ap (λ b. entries_after_offer_where header_itself budget share b (brought_to_front (has_key same header_itself new.header.key) (headers_in es)) new.header (headers_in es)) (holds_marks same new.header.key es)
      ∙ ap (λ x. entries_after_offer_where header_itself budget share (has_entry_with same header_in new.header.key es) x new.header (headers_in es)) (brought_map header_in (has_key same header_itself new.header.key) es)
      ∙ where_map header_in header_itself budget share (has_entry_with same header_in new.header.key es) (brought_to_front test es) new es

  pub filled_marks : entries_after_fill same header_itself budget share new.header (headers_in es) ≡ headers_in (entries_after_fill same header_in budget share new es)
  filled_marks = ap (λ o. option_map_or (λ kept. kept) o (headers_in es)) offered_marks ∙ go (entries_after_offer same header_in budget share new es) where
    go : (o : Option (List (Entry K V))) → option_map_or (λ kept. kept) (option_map headers_in o) (headers_in es) ≡ headers_in (option_map_or (λ kept. kept) o es)
    go None = refl
    go (Some x) = refl

  abbrev said : Bool → ℕ → ℕ → Answer
  said held before after = FillAnswer new.header.weight true (cond held 0 (before + 1 - after))

  pub said_marks : fill_answer same header_itself budget share new.header (headers_in es) ≡ fill_answer same header_in budget share new es
  said_marks =
      ap (λ b. option_map_or (λ kept. said b (length (headers_in es)) (length kept)) (entries_after_offer same header_itself budget share new.header (headers_in es)) (FillAnswer new.header.weight false 0)) (holds_marks same new.header.key es)
      ∙ ap (λ o. option_map_or (λ kept. said (has_entry_with same header_in new.header.key es) (length (headers_in es)) (length kept)) o (FillAnswer new.header.weight false 0)) offered_marks
      ∙ go (entries_after_offer same header_in budget share new es) where
        go : (o : Option (List (Entry K V)))
            → option_map_or (λ kept. said (has_entry_with same header_in new.header.key es) (length (headers_in es)) (length kept)) (option_map headers_in o) (FillAnswer new.header.weight false 0)
            ≡ option_map_or (λ kept. said (has_entry_with same header_in new.header.key es) (length es) (length kept)) o (FillAnswer new.header.weight false 0)
        go None = refl
        go (Some x) =
            ap (λ n. said (has_entry_with same header_in new.header.key es) n (length (headers_in x))) (length-map es header_in)
            ∙ ap (λ n. said (has_entry_with same header_in new.header.key es) (length es) n) (length-map x header_in)

  -- the entries that a fill drops were there, or are the new one
  pub filled_counted : evicted_count_of (fill_answer same header_in budget share new es) + length (entries_after_fill same header_in budget share new es) ≤ length es + 1
  filled_counted = go (entries_after_offer same header_in budget share new es) (has_entry_with same header_in new.header.key es) (filled_shorter same header_in budget share new es) where
    go : (o : Option (List (Entry K V))) (b : Bool) → length (option_map_or (λ kept. kept) o es) ≤ length es + 1
        → evicted_count_of (option_map_or (λ kept. said b (length es) (length kept)) o (FillAnswer new.header.weight false 0)) + length (option_map_or (λ kept. kept) o es) ≤ length es + 1
    go None b l = omega (arith, l)
    go (Some x) true l = omega (arith, l)
    go (Some x) false l = omega (arith, l)

module _ {K V : Type 0} (same : K → K → Bool) (name_of : K → List ℕ) (budget share caller : ℕ) (key : K) (value : V) (weight : ℕ) (es : List (Entry K V)) (ms : List (EntryHeader K)) where
  abbrev new : Entry K V
  new = new_entry name_of caller key value weight

  after_case : entries_after_call same name_of budget share caller key (fill_answer same header_in budget share new es) ms ≡ entries_after_fill same header_itself budget share new.header ms
  after_case = go (entries_after_offer same header_in budget share new es) where
    go : (o : Option (List (Entry K V)))
        → entries_after_call same name_of budget share caller key (option_map_or (λ kept. FillAnswer weight true (cond (has_entry_with same header_in key es) 0 (length es + 1 - length kept))) o (FillAnswer weight false 0)) ms ≡ entries_after_fill same header_itself budget share new.header ms
    go None = refl
    go (Some x) = refl

  says_case : memo_answer same name_of budget share caller key (fill_answer same header_in budget share new es) ms ≡ fill_answer same header_itself budget share new.header ms
  says_case = go (entries_after_offer same header_in budget share new es) where
    go : (o : Option (List (Entry K V)))
        → memo_answer same name_of budget share caller key (option_map_or (λ kept. FillAnswer weight true (cond (has_entry_with same header_in key es) 0 (length es + 1 - length kept))) o (FillAnswer weight false 0)) ms ≡ fill_answer same header_itself budget share new.header ms
    go None = refl
    go (Some x) = refl

-- what a fill says of a key, where the value that it offers fits the key
may_say : {K V : Type 0} (same : K → K → Bool) (name_of : K → List ℕ) (fits : K → V → Type 0) (weighs : V → ℕ) (budget share caller : ℕ) (key : K) (value : V) (weight : ℕ) (es : List (Entry K V))
    → fits key value → weight ≡ weighs value → MaySay fits weighs key (fill_answer same header_in budget share (new_entry name_of caller key value weight) es)
may_say {K} {V} same name_of fits weighs budget share caller key value weight es f w = go (entries_after_offer same header_in budget share (new_entry name_of caller key value weight) es) where
  go : (o : Option (List (Entry K V)))
      → MaySay {K = K} {V = V} fits weighs key (option_map_or (λ kept. FillAnswer weight true (cond (has_entry_with same header_in key es) 0 (length es + 1 - length kept))) o (FillAnswer weight false 0))
  go None = (value, f, w)
  go (Some kept) = (value, f, w)

module _ {K V : Type 0} (same : K → K → Bool) (name_of : K → List ℕ) where
  pub after_fill_sound : (fits : K → V → Type 0) (weighs : V → ℕ) (g : List (Entry K V)) (caller : ℕ) (key : K) (value : V) (weight : ℕ) (core : MemoView K V)
      → IsSound same name_of fits weighs core → fits key value → weight ≡ weighs value
      → IsDistinct same_name (map (λ e. e.header.name) (after_fill same name_of caller key value weight core).entries)
      → sum_by (λ e. e.header.weight) (after_fill same name_of caller key value weight core).entries ≤ core.budget
      → length (after_fill same name_of caller key value weight core).entries ≤ most_entries
      → IsSound same name_of fits weighs (record (after_fill same name_of caller key value weight core) { dropped = g })
  after_fill_sound fits weighs g caller key value weight core s f w d within few =
      let new : Entry K V = new_entry name_of caller key value weight in
      let before : List (EntryHeader K) = replay same name_of core.budget core.share [] core.journal in
      let i : JournalRecord K = journal_record caller key (fill_answer same header_in core.budget core.share new core.entries) in
      record {
        fit = all_filled same header_in core.budget core.share new core.entries (λ e. fits e.header.key e.value) f s.fit;
        weighed = all_filled same header_in core.budget core.share new core.entries (λ e. e.header.weight ≡ weighs e.value) w s.weighed;
        named = all_filled same header_in core.budget core.share new core.entries (λ e. e.header.name ≡ name_of e.header.key) refl s.named;
        distinct = d;
        within = within;
        few = few;
        legal = legal_more same name_of core.budget core.share [] core.journal i s.legal
            (sym (says_case same name_of core.budget core.share caller key value weight core.entries before
            ∙ ap (fill_answer same header_itself core.budget core.share new.header) (sym s.replayed) ∙ said_marks same core.budget core.share new core.entries));
        replayed =
            sym (filled_marks same core.budget core.share new core.entries) ∙ ap (entries_after_fill same header_itself core.budget core.share new.header) s.replayed
            ∙ sym (after_case same name_of core.budget core.share caller key value weight core.entries before)
            ∙ sym (replay_more same name_of core.budget core.share [] core.journal i);
        offers = all_more (λ j. MaySay fits weighs j.key j.answer) core.journal i s.offers
            (may_say same name_of fits weighs core.budget core.share caller key value weight core.entries f w);
      }

module _ {K V : Type 0} (same : K → K → Bool) (name_of : K → List ℕ) (caller : ℕ) (key : K) (value : V) (weight : ℕ) (b h s t : ℕ) (g g' : List (Entry K V)) (shelf shelf' : Shelf K V) where
  abbrev es : List (Entry K V)
  es = entries_of shelf.cache.entries

  abbrev fs : List (Entry K V)
  fs = entries_of shelf'.cache.entries

  abbrev made : Entry K V
  made = new_entry name_of caller key value weight

  abbrev old : List (JournalItem K) → MemoView K V
  old js = record { entries = es; dropped = g; budget = b; share = h; journal = records_of js; spare = s }

  same_where : (held : Bool) (x y : List (Entry K V)) → (held ≡ true → x ≡ y) → entries_after_offer_where header_in b h held x made es ≡ entries_after_offer_where header_in b h held y made es
  same_where true x y e = ap (λ z. entries_after_offer_where header_in b h true z made es) (e refl)
  same_where false x y e = refl

  -- what an offer to the shelf is of the entries
  pub offer_is : (held : Bool) (front : List (List ℕ × Slot K V)) (offer : List ℕ × Slot K V) (r : Option ℕ)
      → entries_after_offer_where slot_header b h held front offer shelf.cache.entries ≡ option_map (λ _. shelf'.cache.entries) r
      → entry_of_slot offer ≡ made → held ≡ has_entry_with same header_in key es → (held ≡ true → entries_of front ≡ brought_to_front (has_key same header_in key) es)
      → entries_after_offer same header_in b h made es ≡ option_map (λ _. fs) r
  offer_is held front offer r o n k f =
      ap (λ x. entries_after_offer_where header_in b h x (brought_to_front (has_key same header_in key) es) made es) (sym k)
      ∙ sym (same_where held (entries_of front) (brought_to_front (has_key same header_in key) es) f)
      ∙ ap (λ e. entries_after_offer_where header_in b h held (entries_of front) e es) (sym n)
      ∙ where_map entry_of_slot header_in b h held front offer shelf.cache.entries
      ∙ ap (option_map entries_of) o ∙ go r where
        go : (x : Option ℕ) → option_map entries_of (option_map (λ _. shelf'.cache.entries) x) ≡ option_map (λ _. fs) x
        go None = refl
        go (Some n) = refl

  module _ (held : Bool) (r : Option ℕ) (o : entries_after_offer same header_in b h made es ≡ option_map (λ _. fs) r) (k : held ≡ has_entry_with same header_in key es) (stays : IfNone r (shelf' ≡ shelf))
      (counts : IfSome r (λ n. n ≡ cond held 0 (length shelf.cache.entries + 1 - length shelf'.cache.entries))) where
    pub entries_are : fs ≡ entries_after_fill same header_in b h made es
    entries_are = go r stays ∙ ap (λ x. option_map_or (λ kept. kept) x es) (sym o) where
      go : (x : Option ℕ) → IfNone x (shelf' ≡ shelf) → fs ≡ option_map_or (λ kept. kept) (option_map (λ _. fs) x) es
      go None p = ap (λ (z : Shelf K V). entries_of z.cache.entries) p
      go (Some n) p = refl

    pub said_is : FillAnswer weight (is_some r) (unwrap_or r 0) ≡ fill_answer same header_in b h made es
    said_is = go r counts ∙ ap (λ x. option_map_or (λ kept. FillAnswer weight true (cond (has_entry_with same header_in key es) 0 (length es + 1 - length kept))) x (FillAnswer weight false 0)) (sym o) where
      go : (x : Option ℕ) → IfSome x (λ n. n ≡ cond held 0 (length shelf.cache.entries + 1 - length shelf'.cache.entries))
          → FillAnswer weight (is_some x) (unwrap_or x 0) ≡ option_map_or (λ kept. FillAnswer weight true (cond (has_entry_with same header_in key es) 0 (length es + 1 - length kept))) (option_map (λ _. fs) x) (FillAnswer weight false 0)
      go None c = refl
      go (Some n) c =
          ap (FillAnswer weight true) (c ∙ ap (λ x. cond x 0 (length shelf.cache.entries + 1 - length shelf'.cache.entries)) k
          ∙ ap (λ x. cond (has_entry_with same header_in key es) 0 (x + 1 - length shelf'.cache.entries)) (sym (length-map shelf.cache.entries entry_of_slot))
          ∙ ap (λ x. cond (has_entry_with same header_in key es) 0 (length es + 1 - x)) (sym (length-map shelf'.cache.entries entry_of_slot)))

    pub keeps_is : is_some r ≡ is_some (entries_after_offer same header_in b h made es)
    keeps_is = go r ∙ ap is_some (sym o) where
      go : (x : Option ℕ) → is_some x ≡ is_some (option_map (λ _. fs) x)
      go None = refl
      go (Some n) = refl

    -- what comes to the slots that are gone comes to the entries that are dropped
    pub drops_is : (new : List ℕ × Slot K V) (gone gone' : List (List ℕ × Slot K V)) → entry_of_slot new ≡ made → DropsFrom (entries_to_place_where held (is_some r) new shelf.cache.entries) gone gone' shelf'.cache.entries
        → DropsFrom (entries_to_place same header_in b h made es) (entries_of gone) (entries_of gone') fs
    drops_is new gone gone' n d =
        subst (λ l. DropsFrom l (entries_of gone) (entries_of gone') fs)
        (placed_map entry_of_slot held (is_some r) new shelf.cache.entries
        ∙ ap (λ x. entries_to_place_where x (is_some r) (entry_of_slot new) es) k
        ∙ ap (λ x. entries_to_place_where (has_entry_with same header_in key es) x (entry_of_slot new) es) keeps_is
        ∙ ap (λ x. entries_to_place_where (has_entry_with same header_in key es) (is_some (entries_after_offer same header_in b h made es)) x es) n)
        (drops_map entry_of_slot (entries_to_place_where held (is_some r) new shelf.cache.entries) gone gone' shelf'.cache.entries d)

    pub filled_is : (js ks : List (JournalItem K)) (j : JournalItem K) → ks ≡ js ++ j ∷ [] → record_of_item j ≡ journal_record caller key (FillAnswer weight (is_some r) (unwrap_or r 0)) → t ≡ s - 1
        → ◌≡◌ {A = MemoView K V} (record { entries = fs; dropped = g'; budget = b; share = h; journal = records_of ks; spare = t }) (record (after_fill same name_of caller key value weight (old js)) { dropped = g' })
    filled_is js ks j k i r = core_is entries_are (ap records_of k ∙ map-append record_of_item js (j ∷ []) ∙ ap (λ x. records_of js ++ x ∷ []) (i ∙ ap (journal_record caller key) said_is)) r

  pub fill_kept : (fits : K → V → Type 0) (weighs : V → ℕ) (d d' : ℕ) (js ks : List (JournalItem K))
      → ShelfMatchesJournal same name_of fits weighs shelf d (old js) → fits key value → weight ≡ weighs value → IsShelf b shelf' → IsDistinct same_name (keys_of shelf'.cache.entries)
      → d' ≡ d + evicted_count_of (fill_answer same header_in b h made es)
      → ◌≡◌ {A = MemoView K V} (record { entries = fs; dropped = g'; budget = b; share = h; journal = records_of ks; spare = t }) (record (after_fill same name_of caller key value weight (old js)) { dropped = g' })
      → ShelfMatchesJournal same name_of fits weighs shelf' d' (record { entries = fs; dropped = g'; budget = b; share = h; journal = records_of ks; spare = t })
  fill_kept fits weighs n n' js ks kept f g shelved d count is =
      let e : fs ≡ (after_fill same name_of caller key value weight (old js)).entries = ap (λ (x : MemoView K V). x.entries) is in
      let i : JournalRecord K = journal_record caller key (fill_answer same header_in b h made es) in record {
        shelved = shelved;
        counted =
            let more = evicted_more (records_of js) i in
            omega (arith, count, kept.counted, more) ∙ ap (λ (x : MemoView K V). evicted_count x.journal) (sym is);
        filled_before =
            let longer = ap (λ (x : MemoView K V). length x.journal) is in
            let more = length-append (records_of js) (i ∷ []) in
            let rest = ap length e in
            omega (arith, count, kept.filled_before, longer, more, rest, filled_counted same b h made es);
        sound =
            subst (λ (x : MemoView K V). IsSound same name_of fits weighs x) (sym is)
            (after_fill_sound same name_of fits weighs g' caller key value weight (old js) kept.sound f g
            (subst (IsDistinct same_name) (sym (names_are shelf'.cache.entries) ∙ ap (map (λ x. x.header.name)) e) d)
            (subst (λ xs. sum_by (λ x. x.header.weight) xs ≤ b) e (let w = sum_by_map entry_of_slot (λ x. x.header.weight) shelf'.cache.entries in omega (arith, w, shelved.kept_weight, shelved.within)))
            (subst (λ xs. length xs ≤ most_entries) e (omega (arith, shelved.few, length-map shelf'.cache.entries entry_of_slot))));
      }

pub entry_is : {K V : Type 0} (m n : List ℕ) (j k : K) (w o : ℕ) (v : V) → m ≡ n → j ≡ k
    → ◌≡◌ {A = Entry K V} (record { header = record { name = m; key = j; weight = w; owner = o }; value = v }) (record { header = record { name = n; key = k; weight = w; owner = o }; value = v })
entry_is {K} {V} m n j k w o v p q =
    ap (λ (x : List ℕ). record { header = record { name = x; key = j; weight = w; owner = o }; value = v }) p
    ∙ ap (λ (x : K). record { header = record { name = n; key = x; weight = w; owner = o }; value = v }) q
