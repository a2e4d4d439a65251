-- A probe of the fields is a probe of what they stand for.
use Rattle.std.proofs.Common.{◌≡◌, ℕ, ◌-◌, arith, length, Bool, true, false, List, [], ◌∷◌, ◌++◌, map, refl, ap, sym, subst, ◌∙◌, cond, Some, None, option_map}
use Rattle.std.specs.Prelude.{Option, is_some, IfSome}
use Rattle.std.specs.List.{AllByRecursion, IsDistinct}
use Rattle.std.specs.Map.{lookup, keys_of}
use Rattle.std.proofs.lemmas.List.{map-append, length-append}
use Rattle.lru.specs.LruCache.{promoted}
use Rattle.memo_core.specs.Memo.{evicted_count, first_with, brought_to_front, same_name, has_key, has_entry_with, Entry, JournalRecord, ProbeAnswer, journal_record}
use Rattle.memo_core.specs.Views.{MemoView, IsSound, header_in, after_probe}
use Rattle.memo_core.specs.Fields.{entries_of, value_with_key, record_of_item, records_of}
use Rattle.memo_core.specs.Plans.{ShelfMatchesJournal, IsShelf}
use Rattle.memo_core.specs.declared.slots.Shelf.{Shelf}
use Rattle.memo_core.specs.declared.slots.Slot.{Slot}
use Rattle.memo_core.specs.declared.journal.JournalItem.{JournalItem}
use Rattle.memo_core.proofs.Lists.{brought_none, length_brought}
use Rattle.memo_core.proofs.Journals.{evicted_more}
use Rattle.memo_core.proofs.Hits.{Named, value_is, agree}
use Rattle.memo_core.proofs.Kept.{promoted_entries, core_is, after_probe_sound, names_are}

never : true ≡ false → ⊥
never p = subst (λ (b : Bool). cond b (Unit {0}) ⊥) p tt

none_from_map : {A B : Type 0} (f : A → B) (o : Option A) → option_map f o ≡ None → o ≡ None
none_from_map f None h = refl
none_from_map f (Some x) h = absurd (never (ap is_some h))

pub is_some_map : {A B : Type 0} (f : A → B) (o : Option A) → is_some (option_map f o) ≡ is_some o
is_some_map f None = refl
is_some_map f (Some x) = refl

pub some_first : {A : Type 0} {B : Type 0} (P : B → Type 0) (f : A → B) (o : Option A) (q : Option B) → q ≡ option_map f o → IfSome o (λ a. P (f a)) → IfSome q P
some_first P f None q e h = subst (λ x. IfSome x P) (sym e) tt
some_first P f (Some a) q e h = subst (λ x. IfSome x P) (sym e) h

pub some_mapped : {A B : Type 0} (P : B → Type 0) (f : A → B) (o : Option A) → IfSome (option_map f o) P → IfSome o (λ a. P (f a))
some_mapped P f None h = tt
some_mapped P f (Some a) h = h

pub none_mapped : {A B : Type 0} (f : A → B) (o : Option A) → is_some o ≡ false → None ≡ option_map f o
none_mapped f None h = refl
none_mapped f (Some a) h = absurd (never h)

pub some_always : {A : Type 0} {P : Type 0} (o : Option A) → P → IfSome o (λ a. P)
some_always None p = tt
some_always (Some a) p = p

module _ {K V : Type 0} (same : K → K → Bool) (name_of : K → List ℕ) (same_is : (a b : K) → same a b ≡ true → a ≡ b) (key : K) where
  pub touched : (es fs : List (List ℕ × Slot K V)) (found : Option V) (hit : Bool) → Named same name_of same_is key es → IsDistinct same_name (keys_of es)
      → found ≡ value_with_key same key (lookup (same_name (name_of key)) es) → hit ≡ is_some found → fs ≡ cond hit (promoted (same_name (name_of key)) es) es
      → (entries_of fs ≡ brought_to_front (has_key same header_in key) (entries_of es)) × (hit ≡ has_entry_with same header_in key (entries_of es))
  touched es fs None hit n d f h e =
      let none : first_with (has_key same header_in key) (entries_of es) ≡ None = none_from_map (λ x. x.value) _ (sym (f ∙ value_is same name_of same_is key es n d)) in (
        ap entries_of (e ∙ ap (λ b. cond b (promoted (same_name (name_of key)) es) es) h) ∙ sym (brought_none (has_key same header_in key) (entries_of es) none),
        h ∙ sym (ap is_some none),
      )
  touched es fs (Some v) hit n d f h e = (
    ap entries_of (e ∙ ap (λ b. cond b (promoted (same_name (name_of key)) es) es) h)
        ∙ promoted_entries same (name_of key) key es (agree same name_of same_is key es v n d (sym f)),
    h ∙ ap is_some (f ∙ value_is same name_of same_is key es n d) ∙ is_some_map (λ x. x.value) (first_with (has_key same header_in key) (entries_of es)),
  )

  pub probed_is : (caller b h s t : ℕ) (g : List (Entry K V)) (es fs : List (List ℕ × Slot K V)) (js ks : List (JournalItem K)) (j : JournalItem K) (hit : Bool)
      → entries_of fs ≡ brought_to_front (has_key same header_in key) (entries_of es) → hit ≡ has_entry_with same header_in key (entries_of es)
      → ks ≡ js ++ j ∷ [] → record_of_item j ≡ journal_record caller key (ProbeAnswer hit) → t ≡ s - 1
      → ◌≡◌ {A = MemoView K V} (record { entries = entries_of fs; dropped = g; budget = b; share = h; journal = records_of ks; spare = t }) (after_probe same caller key (record { entries = entries_of es; dropped = g; budget = b; share = h; journal = records_of js; spare = s }))
  probed_is caller b h s t g es fs js ks j hit e f k i r =
      core_is e (ap records_of k ∙ map-append record_of_item js (j ∷ []) ∙ ap (λ x. records_of js ++ x ∷ []) (i ∙ ap (λ x. journal_record caller key (ProbeAnswer x)) f)) r

  pub probed_kept : (fits : K → V → Type 0) (weighs : V → ℕ) (caller h s t d : ℕ) (g : List (Entry K V)) (shelf shelf' : Shelf K V) (js : List (JournalRecord K)) (ks : List (JournalRecord K)) (b : ℕ)
      → ShelfMatchesJournal same name_of fits weighs shelf d (record { entries = entries_of shelf.cache.entries; dropped = g; budget = b; share = h; journal = js; spare = s })
      → entries_of shelf'.cache.entries ≡ brought_to_front (has_key same header_in key) (entries_of shelf.cache.entries) → IsDistinct same_name (keys_of shelf'.cache.entries) → IsShelf b shelf'
      → ◌≡◌ {A = MemoView K V} (record { entries = entries_of shelf'.cache.entries; dropped = g; budget = b; share = h; journal = ks; spare = t }) (after_probe same caller key (record { entries = entries_of shelf.cache.entries; dropped = g; budget = b; share = h; journal = js; spare = s }))
      → ShelfMatchesJournal same name_of fits weighs shelf' d (record { entries = entries_of shelf'.cache.entries; dropped = g; budget = b; share = h; journal = ks; spare = t })
  probed_kept fits weighs caller h s t n g shelf shelf' js ks b kept e d shelved is =
      let es = shelf.cache.entries in
      let fs = shelf'.cache.entries in record {
        shelved = shelved;
        counted =
            kept.counted ∙ omega (arith, evicted_more js (journal_record caller key (ProbeAnswer (has_entry_with same header_in key (entries_of es)))))
            ∙ ap (λ (x : MemoView K V). evicted_count x.journal) (sym is);
        filled_before =
            let longer = ap (λ (x : MemoView K V). length x.journal) is in
            let more = length-append js (journal_record caller key (ProbeAnswer (has_entry_with same header_in key (entries_of es))) ∷ []) in
            let same_length = ap length e in
            omega (arith, kept.filled_before, longer, more, same_length, length_brought (has_key same header_in key) (entries_of es));
        sound =
            subst (λ (x : MemoView K V). IsSound same name_of fits weighs x) (sym is)
            (after_probe_sound same name_of fits weighs caller key (record { entries = entries_of es; dropped = g; budget = b; share = h; journal = js; spare = s }) kept.sound
            (subst (IsDistinct same_name) (sym (names_are fs) ∙ ap (map (λ x. x.header.name)) e) d));
      }

  -- what is found by this key fits it
  pub first_fits : (fits : K → V → Type 0) (es : List (Entry K V)) → AllByRecursion (λ e. fits e.header.key e.value) es → IfSome (first_with (has_key same header_in key) es) (λ e. fits key e.value)
  first_fits fits [] a = tt
  first_fits fits (e ∷ es) a = go (same e.header.key key) refl (first_fits fits es a.1) where
    go : (b : Bool) → same e.header.key key ≡ b → IfSome (first_with (has_key same header_in key) es) (λ x. fits key x.value) → IfSome (cond b (Some e) (first_with (has_key same header_in key) es)) (λ x. fits key x.value)
    go true is r = subst (λ (k : K). fits k e.value) (same_is e.header.key key is) a.0
    go false is r = r
