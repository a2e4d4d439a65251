-- What a probe keeps.
use Rattle.std.proofs.Common.{◌≡◌, ℕ, Bool, List, [], ◌∷◌, map, refl, ap, sym, ◌∙◌, Some, None, option_map}
use Rattle.std.specs.Prelude.{Option, is_some}
use Rattle.std.specs.List.{AllByRecursion, IsDistinct}
use Rattle.std.specs.Map.{keys_of}
use Rattle.lru.specs.LruCache.{promoted}
use Rattle.memo_core.specs.Memo.{first_with, brought_to_front, same_name, has_key, has_entry_with, header_itself, Entry, JournalRecord, ProbeAnswer, journal_record, replay}
use Rattle.memo_core.specs.Views.{MemoView, IsSound, MaySay, header_in, headers_in, after_probe}
use Rattle.memo_core.specs.Fields.{entry_of_slot, entries_of}
use Rattle.memo_core.specs.declared.slots.Slot.{Slot}
use Rattle.memo_core.proofs.Lists.{first_map, brought_map, brought_agree, all_brought, sum_brought, length_brought}
use Rattle.memo_core.proofs.Shelves.{promoted_brought}
use Rattle.memo_core.proofs.Journals.{replay_more, legal_more, all_more}

module _ {K V : Type 0} where
  pub core_is : {e f g : List (Entry K V)} {b h : ℕ} {j k : List (JournalRecord K)} {s t : ℕ} → e ≡ f → j ≡ k → s ≡ t → ◌≡◌ {A = MemoView K V} (record { entries = e; dropped = g; budget = b; share = h; journal = j; spare = s }) (record { entries = f; dropped = g; budget = b; share = h; journal = k; spare = t })
  core_is {e} {f} {g} {b} {h} {j} {k} {s} {t} p q r =
      ap (λ (x : List (Entry K V)). record { entries = x; dropped = g; budget = b; share = h; journal = j; spare = s }) p
      ∙ ap (λ (x : List (JournalRecord K)). record { entries = f; dropped = g; budget = b; share = h; journal = x; spare = s }) q
      ∙ ap (λ (x : ℕ). record { entries = f; dropped = g; budget = b; share = h; journal = k; spare = x }) r

  module _ (same : K → K → Bool) where
    pub holds_marks : (key : K) (es : List (Entry K V)) → has_entry_with same header_itself key (headers_in es) ≡ has_entry_with same header_in key es
    holds_marks key es = ap is_some (first_map header_in (has_key same header_itself key) es) ∙ some_map (first_with (has_key same header_in key) es) where
      some_map : (o : Option (Entry K V)) → is_some (option_map header_in o) ≡ is_some o
      some_map None = refl
      some_map (Some x) = refl

    pub after_probe_sound : (name_of : K → List ℕ) (fits : K → V → Type 0) (weighs : V → ℕ) (caller : ℕ) (key : K) (core : MemoView K V)
        → IsSound same name_of fits weighs core
        → IsDistinct same_name (map (λ e. e.header.name) (brought_to_front (has_key same header_in key) core.entries))
        → IsSound same name_of fits weighs (after_probe same caller key core)
    after_probe_sound name_of fits weighs caller key core s d =
        let S : Entry K V → Bool = has_key same header_in key in
        let now : has_entry_with same header_itself key (replay same name_of core.budget core.share [] core.journal) ≡ has_entry_with same header_in key core.entries = ap (has_entry_with same header_itself key) (sym s.replayed) ∙ holds_marks key core.entries in
        record {
          fit = all_brought S (λ e. fits e.header.key e.value) core.entries s.fit;
          weighed = all_brought S (λ e. e.header.weight ≡ weighs e.value) core.entries s.weighed;
          named = all_brought S (λ e. e.header.name ≡ name_of e.header.key) core.entries s.named;
          distinct = d;
          within = rw (sum_brought S (λ e. e.header.weight) core.entries) s.within;
          few = rw (length_brought S core.entries) s.few;
          legal = legal_more same name_of core.budget core.share [] core.journal (journal_record caller key (ProbeAnswer (has_entry_with same header_in key core.entries))) s.legal (ap ProbeAnswer (sym now));
          replayed =
              sym (brought_map header_in (has_key same header_itself key) core.entries)
              ∙ ap (brought_to_front (has_key same header_itself key)) s.replayed
              ∙ sym (replay_more same name_of core.budget core.share [] core.journal (journal_record caller key (ProbeAnswer (has_entry_with same header_in key core.entries))));
          offers = all_more (λ i. MaySay fits weighs i.key i.answer) core.journal (journal_record caller key (ProbeAnswer (has_entry_with same header_in key core.entries))) s.offers tt;
        }

    -- the entries after the cache's promotion of a name at which the key was found
    pub promoted_entries : (name : List ℕ) (key : K) (es : List (List ℕ × Slot K V)) → AllByRecursion (λ e. has_key same header_in key (entry_of_slot e) ≡ same_name name e.0) es → entries_of (promoted (same_name name) es) ≡ brought_to_front (has_key same header_in key) (entries_of es)
    promoted_entries name key es a =
        ap entries_of (promoted_brought (same_name name) es ∙ sym (brought_agree (λ e. has_key same header_in key (entry_of_slot e)) (λ e. same_name name e.0) es a))
        ∙ sym (brought_map entry_of_slot (has_key same header_in key) es)

  pub names_are : (es : List (List ℕ × Slot K V)) → map (λ e. e.header.name) (entries_of es) ≡ keys_of es
  names_are [] = refl
  names_are (e ∷ es) = ap (λ r. e.0 ∷ r) (names_are es)
