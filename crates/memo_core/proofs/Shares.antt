-- What a fill keeps of all entries, and of another owner's.
use Rattle.std.proofs.Common.{◌≡◌, ◌≢◌, ℕ, suc, ◌+◌, ◌<◌, ◌≤◌, Bool, true, false, not, List, [], ◌∷◌, refl, ap, sym, subst, ◌∙◌, cond, length, arith, Some, None, option_map, nat_eq, IfSome, Contains}
use Rattle.std.specs.Prelude.{Option, nat_lt}
use Rattle.std.specs.Option.{option_map_or}
use Rattle.std.specs.List.{AllByRecursion}
use Rattle.std.proofs.lemmas.Bool.Decides.{nat_tests}
use Rattle.memo_core.specs.Memo.{EntryHeader, JournalRecord, Answer, ProbeAnswer, FillAnswer, header_itself, header_of_fill, entries_after_call, KeepsShares, first_with, without_first, brought_to_front, owner_weight, is_free, StandIn, others_left_beside, entries_after_push, entries_after_fill, has_name, has_key, has_entry_with}
use Rattle.memo_core.proofs.Lists.{all_brought, all_without, sum_without, length_without, length_brought}
use Rattle.memo_core.proofs.Hits.{never}
use Rattle.memo_core.proofs.Rooms.{all_in, all_room, contains_behind, contains_head, map_all, of_all, room_shorter, stand_brought, stand_front, stand_room, unfree}

module _ {E : Type 0} (t : E → Bool) (P : E → Type 0) where
  -- all of these but the first that passes stay where that one goes
  but_first : (es : List E) → ((e : E) → first_with t es ≡ Some e → P e → ⊥) → AllByRecursion (λ x. P x → Contains (without_first t es) x) es
  but_first [] none = tt
  but_first (e ∷ es) none = step (t e) refl none (but_first es) where
    step : (c : Bool) → t e ≡ c → ((x : E) → cond c (Some e) (first_with t es) ≡ Some x → P x → ⊥)
        → (((x : E) → first_with t es ≡ Some x → P x → ⊥) → AllByRecursion (λ x. P x → Contains (without_first t es) x) es)
        → AllByRecursion (λ x. P x → Contains (cond c es (e ∷ without_first t es)) x) (e ∷ es)
    step true i none ih = (λ p. absurd (none e refl p), map_all (λ x k p. k) es (all_in es))
    step false i none ih = (λ p. contains_head e (without_first t es), map_all (λ x k p. contains_behind e (without_first t es) x (k p)) es (ih none))

module _ {K E : Type 0} (mark : E → EntryHeader K) (budget share : ℕ) (new : E) (es : List E) where
  abbrev N : E → Bool
  N = has_name mark (mark new).name

  abbrev stays : Option E → Bool
  stays o = option_map_or (λ e. not (is_free mark share (mark new).owner es e)) o false

  pub all_pushed : (P : E → Type 0) → P new → AllByRecursion P es → IfSome (entries_after_push mark budget share new es) (AllByRecursion P)
  all_pushed P p a =
      go (stays (first_with N es)) (others_left_beside mark budget share new (without_first N es)) (all_room mark budget share new P (suc (length (without_first N es))) (without_first N es) (all_without N P es a)) where
        go : (b : Bool) (r : Option (List E)) → IfSome r (AllByRecursion P) → IfSome (cond b None (option_map (λ rest. new ∷ rest) r)) (AllByRecursion P)
        go true r s = tt
        go false None s = tt
        go false (Some x) s = (p, s)

  pub pushed_shorter : IfSome (entries_after_push mark budget share new es) (λ kept. length kept ≤ length es + 1)
  pushed_shorter =
      go (stays (first_with N es)) (others_left_beside mark budget share new (without_first N es))
      (room_shorter mark budget share new (length es) (suc (length (without_first N es))) (without_first N es) (let h = length_without N es in omega (arith, h))) where
        go : (b : Bool) (r : Option (List E)) → IfSome r (λ x. length x ≤ length es) → IfSome (cond b None (option_map (λ rest. new ∷ rest) r)) (λ kept. length kept ≤ length es + 1)
        go true r s = tt
        go false None s = tt
        go false (Some x) s = omega (arith, s)

  module _ (o : ℕ) (other : nat_eq o (mark new).owner ≡ false) (some : nat_eq share 0 ≡ false) (l : owner_weight mark o es ≤ share) where
    mine : (e : E) → (mark e).owner ≡ o → is_free mark share (mark new).owner es e ≡ false
    mine e i = unfree mark share (mark new).owner es e (ap (λ x. nat_eq x (mark new).owner) i ∙ other) some (subst (λ x. owner_weight mark x es ≤ share) (sym i) l)

    pub stand_pushed : IfSome (entries_after_push mark budget share new es) (StandIn mark o es)
    stand_pushed =
        go (stays (first_with N es)) refl (others_left_beside mark budget share new (without_first N es))
        (stand_room mark budget share new o other some (suc (length (without_first N es))) (without_first N es) (let h = sum_without N (λ x. cond (nat_eq (mark x).owner o) (mark x).weight 0) es in omega (arith, h, l))) where
          go : (b : Bool) → stays (first_with N es) ≡ b → (r : Option (List E)) → IfSome r (StandIn mark o (without_first N es)) → IfSome (cond b None (option_map (λ rest. new ∷ rest) r)) (StandIn mark o es)
          go true i r s = tt
          go false i None s = tt
          go false i (Some rest) s =
              map_all (λ x k m. contains_behind new rest x (of_all (λ e. (mark e).owner ≡ o → Contains rest e) (without_first N es) x s (k m) m)) es
              (but_first N (λ x. (mark x).owner ≡ o) es (λ e f m. never (sym i ∙ ap stays f ∙ ap not (mine e m))))

module _ {K E : Type 0} (same : K → K → Bool) (mark : E → EntryHeader K) (budget share : ℕ) (new : E) (es : List E) where
  abbrev front : List E
  front = brought_to_front (has_key same mark (mark new).key) es

  pub all_filled : (P : E → Type 0) → P new → AllByRecursion P es → AllByRecursion P (entries_after_fill same mark budget share new es)
  all_filled P p a =
      go (nat_lt budget (mark new).weight) (has_entry_with same mark (mark new).key es) (entries_after_push mark budget share new es) (all_pushed mark budget share new es P p a) where
        go : (b c : Bool) (r : Option (List E)) → IfSome r (AllByRecursion P) → AllByRecursion P (option_map_or (λ kept. kept) (cond b None (cond c (Some front) r)) es)
        go true c r s = a
        go false true r s = all_brought (has_key same mark (mark new).key) P es a
        go false false None s = a
        go false false (Some x) s = s

  pub filled_shorter : length (entries_after_fill same mark budget share new es) ≤ length es + 1
  filled_shorter =
      go (nat_lt budget (mark new).weight) (has_entry_with same mark (mark new).key es) (entries_after_push mark budget share new es) (pushed_shorter mark budget share new es) where
        go : (b c : Bool) (r : Option (List E)) → IfSome r (λ kept. length kept ≤ length es + 1) → length (option_map_or (λ kept. kept) (cond b None (cond c (Some front) r)) es) ≤ length es + 1
        go true c r s = omega arith
        go false true r s = omega (arith, length_brought (has_key same mark (mark new).key) es)
        go false false None s = omega arith
        go false false (Some x) s = s

  -- another owner's entries that weigh at most the share all stand
  pub stand_filled : 0 < share → (o : ℕ) → o ≢ (mark new).owner → owner_weight mark o es ≤ share → StandIn mark o es (entries_after_fill same mark budget share new es)
  stand_filled some o other l =
      go (nat_lt budget (mark new).weight) (has_entry_with same mark (mark new).key es) (entries_after_push mark budget share new es)
      (stand_pushed mark budget share new es o (grind (arith, nat_tests, other)) (grind (arith, nat_tests, some)) l) where
        go : (b c : Bool) (r : Option (List E)) → IfSome r (StandIn mark o es) → StandIn mark o es (option_map_or (λ kept. kept) (cond b None (cond c (Some front) r)) es)
        go true c r s = map_all (λ x k m. k) es (all_in es)
        go false true r s = map_all (λ x k m. k) es (stand_brought (has_key same mark (mark new).key) es)
        go false false None s = map_all (λ x k m. k) es (all_in es)
        go false false (Some x) s = s

module _ {K : Type 0} (same : K → K → Bool) (name_of : K → List ℕ) (budget share : ℕ) where
  stand_said : 0 < share → (caller : ℕ) (key : K) (said : Answer) (es : List (EntryHeader K)) (owner : ℕ) → owner ≢ caller → owner_weight header_itself owner es ≤ share → StandIn header_itself owner es (entries_after_call same name_of budget share caller key said es)
  stand_said some caller key (ProbeAnswer hit) es owner other l = stand_front header_itself (has_key same header_itself key) owner es _ refl
  stand_said some caller key (FillAnswer weight kept evicted) es owner other l = stand_filled same header_itself budget share (header_of_fill name_of caller key weight) es some owner other l

  -- at each item of a journal
  pub keeps_shares : 0 < share → (es : List (EntryHeader K)) (is : List (JournalRecord K)) → KeepsShares same name_of budget share es is
  keeps_shares some es [] = tt
  keeps_shares some es (i ∷ is) = (stand_said some i.caller i.key i.answer es, keeps_shares some (entries_after_call same name_of budget share i.caller i.key i.answer es) is)
