-- What whole runs leave.
use Rattle.std.proofs.Common.{◌≡◌, ℕ, zero, suc, ◌+◌, ◌-◌, ◌<◌, ◌≤◌, take, Bool, true, false, cond, inl, inr, List, [], ◌∷◌, ◌++◌, length, refl, ap, sym, subst, ◌∙◌, arith, Some, None, replicate, set, nat_eq}
use Rattle.std.specs.Prelude.{Option, slice_get, if◌then◌else◌}
use Rattle.std.specs.Option.{option_map_or}
use Rattle.std.proofs.lemmas.Option.{none-some, same_Some}
use Rattle.std.proofs.lemmas.List.{map-append, append-nil, append_assoc, length-append}
use Rattle.std.proofs.lemmas.Bool.Decides.{nat_tests}
use Rattle.memo_core.specs.Memo.{FillAnswer, Entry, has_entry_with, entries_after_offer, fill_answer}
use Rattle.memo_core.specs.Views.{MemoView, header_in, new_entry}
use Rattle.share_core.specs.Views.{ClientProgress, ClientTasks, Machine}
use Rattle.share_core.specs.Fields.{AreRepliesFrom, no_client_part}
use Rattle.share_core.specs.Steps.{TellsIfTaken, StepsMachine, Changes, is_possible, key_at, first_machine}
use Rattle.share_core.specs.Runs.{Runs, RunLeaves, memo_call_of, memo_calls_of, call_by, calls_after, replies_in, reply_count_of, is_fill_answer}
use Rattle.share_core.specs.declared.event.Act.{Act}
use Rattle.share_core.specs.declared.event.Act.TheVariants.{Command, Probe, Build, Fill, Reply}
use Rattle.share_core.specs.declared.event.Event.{Event}
use Rattle.share_core.specs.declared.event.Stepped.{Stepped}
use Rattle.share_core.specs.declared.event.Stepped.TheVariants.{Taken, NotReady}
use Rattle.share_core.proofs.Sound.{replies_more}
use Rattle.share_core.proofs.Clients.{get_set_same, get_set_other}

-- one event more
pub replies_in_more : (client : ℕ) (ts : List Event) (e : Event) → replies_in client (ts ++ e ∷ []) ≡ replies_in client ts + (if nat_eq e.client client then reply_count_of e.act else 0)
replies_in_more client [] e = omega arith
replies_in_more client (t ∷ ts) e = let h = replies_in_more client ts e in omega (arith, h)

module _ {K V R : Type 0} (tasks : ClientTasks K V R) where
  pub calls_more : (before ts : List Event) (e : Event) → calls_after tasks before (ts ++ e ∷ []) ≡ calls_after tasks before ts ++ call_by tasks e.client (replies_in e.client (before ++ ts)) e.act
  calls_more before [] e = append-nil _ ∙ ap (λ xs. call_by tasks e.client (replies_in e.client xs) e.act) (sym (append-nil before))
  calls_more before (t ∷ ts) e =
      ap (λ xs. call_by tasks t.client (replies_in t.client before) t.act ++ xs)
      (calls_more (before ++ t ∷ []) ts e ∙ ap (λ xs. calls_after tasks (before ++ t ∷ []) ts ++ call_by tasks e.client (replies_in e.client xs) e.act) (append_assoc before (t ∷ []) ts))
      ∙ sym (append_assoc (call_by tasks t.client (replies_in t.client before) t.act) (calls_after tasks (before ++ t ∷ []) ts) _)

-- a fill's item is a fill
fill_fills : {K V : Type 0} (same : K → K → Bool) (budget share : ℕ) (new : Entry K V) (es : List (Entry K V)) → is_fill_answer (fill_answer same header_in budget share new es) ≡ true
fill_fills {K} {V} same budget share new es = go (entries_after_offer same header_in budget share new es) where
  go : (o : Option (List (Entry K V)))
      → is_fill_answer (option_map_or (λ kept. FillAnswer new.header.weight true (cond (has_entry_with same header_in new.header.key es) 0 (length es + 1 - length kept))) o (FillAnswer new.header.weight false 0)) ≡ true
  go None = refl
  go (Some kept) = refl

module _ {K V R : Type 0} (same : K → K → Bool) (name_of : K → List ℕ) (fits : K → V → Type 0) (weighs : V → ℕ) (tasks : ClientTasks K V R) where
  -- the calls that an act makes
  pub act_calls : (client : ℕ) (act : Act) (m : MemoView K V) (p : ClientProgress V R) (n : MemoView K V) (q : ClientProgress V R) → Changes same name_of fits weighs tasks client act m p n q
      → memo_calls_of n.journal ≡ memo_calls_of m.journal ++ call_by tasks client (length p.replies) act
  act_calls client Command m p n q c = ap (λ x. memo_calls_of x.journal) c.0 ∙ sym (append-nil _)
  act_calls client (Probe k) m p n q c = ap (λ x. memo_calls_of x.journal) c.0 ∙ map-append memo_call_of m.journal _
  act_calls client (Build k) m p n q c = ap (λ x. memo_calls_of x.journal) c.4 ∙ sym (append-nil _)
  act_calls client (Fill k) m p n q c =
      let new : Entry K V = new_entry name_of client (key_at tasks client k p) c.0 c.1 in
      ap (λ x. memo_calls_of x.journal) c.3 ∙ map-append memo_call_of m.journal _
      ∙ ap (λ (b : Bool). memo_calls_of m.journal ++ record { caller = client; key = key_at tasks client k p; is_fill = b } ∷ []) (fill_fills same m.budget m.share new m.entries)
  act_calls client Reply m p n q c = ap (λ x. memo_calls_of x.journal) c.0 ∙ sym (append-nil _)

  -- the replies that an act gives
  pub act_replies : (client : ℕ) (act : Act) (m : MemoView K V) (p : ClientProgress V R) (n : MemoView K V) (q : ClientProgress V R) → Changes same name_of fits weighs tasks client act m p n q
      → (length q.replies ≡ length p.replies + reply_count_of act) × (AreRepliesFrom (tasks.reply client) 0 p.replies → AreRepliesFrom (tasks.reply client) 0 q.replies)
  act_replies client Command m p n q c = stayed (ap (λ x. x.replies) c.1) where
    stayed : q.replies ≡ p.replies → (length q.replies ≡ length p.replies + 0) × (AreRepliesFrom (tasks.reply client) 0 p.replies → AreRepliesFrom (tasks.reply client) 0 q.replies)
    stayed e = let l = ap length e in (omega (arith, l), λ a. subst (AreRepliesFrom (tasks.reply client) 0) (sym e) a)
  act_replies client (Probe k) m p n q c = stayed (ap (λ x. x.replies) c.1) where
    stayed : q.replies ≡ p.replies → (length q.replies ≡ length p.replies + 0) × (AreRepliesFrom (tasks.reply client) 0 p.replies → AreRepliesFrom (tasks.reply client) 0 q.replies)
    stayed e = let l = ap length e in (omega (arith, l), λ a. subst (AreRepliesFrom (tasks.reply client) 0) (sym e) a)
  act_replies client (Build k) m p n q c = stayed (ap (λ x. x.replies) c.5) where
    stayed : q.replies ≡ p.replies → (length q.replies ≡ length p.replies + 0) × (AreRepliesFrom (tasks.reply client) 0 p.replies → AreRepliesFrom (tasks.reply client) 0 q.replies)
    stayed e = let l = ap length e in (omega (arith, l), λ a. subst (AreRepliesFrom (tasks.reply client) 0) (sym e) a)
  act_replies client (Fill k) m p n q c = stayed (ap (λ x. x.replies) c.4) where
    stayed : q.replies ≡ p.replies → (length q.replies ≡ length p.replies + 0) × (AreRepliesFrom (tasks.reply client) 0 p.replies → AreRepliesFrom (tasks.reply client) 0 q.replies)
    stayed e = let l = ap length e in (omega (arith, l), λ a. subst (AreRepliesFrom (tasks.reply client) 0) (sym e) a)
  act_replies client Reply m p n q c =
      let e = ap (λ x. x.replies) c.1 in
      let l = ap length e in
      let more = length-append p.replies (tasks.reply client (length p.replies) ∷ []) in (
        omega (arith, l, more),
        λ a. subst (AreRepliesFrom (tasks.reply client) 0) (sym e) (replies_more (tasks.reply client) 0 p.replies (tasks.reply client (length p.replies)) a (let k : length p.replies ≡ 0 + length p.replies = omega arith in ap (tasks.reply client) k)),
      )

  -- one event more that was taken
  pub taken_more : (m : Machine K V R) (es ts : List Event) (n : Machine K V R) (e : Event) (n' : Machine K V R) → Runs same name_of fits weighs tasks m es ts n → is_possible tasks n e ≡ true → StepsMachine same name_of fits weighs tasks n e n'
      → Runs same name_of fits weighs tasks m (es ++ e ∷ []) (ts ++ e ∷ []) n'
  taken_more m [] ts n e n' r p s =
      inr (ap (λ x. is_possible tasks x e) (sym r.1) ∙ p, (n', [], subst (λ x. StepsMachine same name_of fits weighs tasks x e n') r.1 s, ap (λ xs. xs ++ e ∷ []) r.0, (refl, refl)))
  taken_more m (x ∷ xs) ts n e n' (inl r) p s = inl (r.0, taken_more m xs ts n e n' r.1 p s)
  taken_more m (x ∷ xs) ts n e n' (inr r) p s = inr (r.0, (r.1.0, r.1.1 ++ e ∷ [], r.1.2, ap (λ ys. ys ++ e ∷ []) r.1.3, taken_more r.1.0 xs r.1.1 n e n' r.1.4 p s))

  -- one event more that was passed over
  pub passed_more : (m : Machine K V R) (es ts : List Event) (n : Machine K V R) (e : Event) (n' : Machine K V R) → Runs same name_of fits weighs tasks m es ts n → is_possible tasks n e ≡ false → n' ≡ n
      → Runs same name_of fits weighs tasks m (es ++ e ∷ []) ts n'
  passed_more m [] ts n e n' r p s = inl (ap (λ x. is_possible tasks x e) (sym r.1) ∙ p, (r.0, s ∙ r.1))
  passed_more m (x ∷ xs) ts n e n' (inl r) p s = inl (r.0, passed_more m xs ts n e n' r.1 p s)
  passed_more m (x ∷ xs) ts n e n' (inr r) p s = inr (r.0, (r.1.0, r.1.1, r.1.2, r.1.3, passed_more r.1.0 xs r.1.1 n e n' r.1.4 p s))

  -- no act changes the budget or the share
  pub act_limits : (client : ℕ) (act : Act) (m : MemoView K V) (p : ClientProgress V R) (n : MemoView K V) (q : ClientProgress V R) → Changes same name_of fits weighs tasks client act m p n q
      → (n.budget ≡ m.budget) × (n.share ≡ m.share)
  act_limits client Command m p n q c = (ap (λ x. x.budget) c.0, ap (λ x. x.share) c.0)
  act_limits client (Probe k) m p n q c = (ap (λ x. x.budget) c.0, ap (λ x. x.share) c.0)
  act_limits client (Build k) m p n q c = (ap (λ x. x.budget) c.4, ap (λ x. x.share) c.4)
  act_limits client (Fill k) m p n q c = (ap (λ x. x.budget) c.3, ap (λ x. x.share) c.3)
  act_limits client Reply m p n q c = (ap (λ x. x.budget) c.0, ap (λ x. x.share) c.0)

  -- nor does a run
  pub run_limits : (m : Machine K V R) (es ts : List Event) (n : Machine K V R) → Runs same name_of fits weighs tasks m es ts n → (n.memo.budget ≡ m.memo.budget) × (n.memo.share ≡ m.memo.share)
  run_limits m [] ts n r = (ap (λ x. x.memo.budget) r.1, ap (λ x. x.memo.share) r.1)
  run_limits m (x ∷ xs) ts n (inl r) = run_limits m xs ts n r.1
  run_limits m (x ∷ xs) ts n (inr r) =
      let s = r.1.2 in
      let rest = run_limits r.1.0 xs r.1.1 n r.1.4 in
      let here = act_limits x.client x.act m.memo s.0 r.1.0.memo s.1 s.3 in
      (rest.0 ∙ here.0, rest.1 ∙ here.1)

  -- at first nothing has happened
  pub first_leaves : (clients budget share : ℕ) → RunLeaves tasks [] (first_machine clients budget share)
  first_leaves clients budget share = record {
    calls = refl;
    count = λ client part e. ap (λ x. length x.replies) (of_nobody clients client part e);
    answered = λ client part e. subst (λ x. AreRepliesFrom (tasks.reply client) 0 x.replies) (sym (of_nobody clients client part e)) tt;
  } where
    of_nobody : (n i : ℕ) (part : ClientProgress V R) → slice_get (replicate n no_client_part) i ≡ Some part → part ≡ no_client_part
    of_nobody zero i part e = absurd (none-some _ e)
    of_nobody (suc n) zero part e = sym (same_Some _ _ e)
    of_nobody (suc n) (suc i) part e = of_nobody n i part e

  -- an event that was taken leaves what it should
  pub step_leaves : (ts : List Event) (m : Machine K V R) (e : Event) (n : Machine K V R) → RunLeaves tasks ts m → StepsMachine same name_of fits weighs tasks m e n → RunLeaves tasks (ts ++ e ∷ []) n
  step_leaves ts m e n l s =
      let p : ClientProgress V R = s.0 in
      let q : ClientProgress V R = s.1 in
      let counted = l.count e.client p s.2 in
      let given = act_replies e.client e.act m.memo p n.memo q s.3 in record {
        calls =
            act_calls e.client e.act m.memo p n.memo q s.3
            ∙ ap (λ xs. xs ++ call_by tasks e.client (length p.replies) e.act) l.calls
            ∙ ap (λ k. calls_after tasks [] ts ++ call_by tasks e.client k e.act) counted
            ∙ sym (calls_more tasks [] ts e);
        count = λ client part h. counts client part (nat_eq e.client client) refl h;
        answered = λ client part h. answers client part (nat_eq e.client client) refl h;
      } where
        here : (client : ℕ) (part : ClientProgress V R) → e.client ≡ client → slice_get n.parts client ≡ Some part → part ≡ s.1
        here client part k h =
            same_Some _ _ (sym h ∙ ap (λ ps. slice_get ps client) s.4 ∙ ap (λ i. slice_get (set m.parts e.client s.1) i) (sym k) ∙ get_set_same m.parts e.client s.1 s.0 s.2)

        there : (client : ℕ) (part : ClientProgress V R) → (client ≡ e.client → ⊥) → slice_get n.parts client ≡ Some part → slice_get m.parts client ≡ Some part
        there client part k h = sym (get_set_other m.parts e.client s.1 client k) ∙ ap (λ ps. slice_get ps client) (sym s.4) ∙ h

        other : (client : ℕ) → nat_eq e.client client ≡ false → client ≡ e.client → ⊥
        other client f k = grind (arith, nat_tests)

        counts : (client : ℕ) (part : ClientProgress V R) (b : Bool) → nat_eq e.client client ≡ b → slice_get n.parts client ≡ Some part → length part.replies ≡ replies_in client (ts ++ e ∷ [])
        counts client part true b h =
            let k : e.client ≡ client = grind (arith, nat_tests) in
            ap (λ x. length x.replies) (here client part k h) ∙ (act_replies e.client e.act m.memo s.0 n.memo s.1 s.3).0
            ∙ ap (λ j. j + reply_count_of e.act) (l.count e.client s.0 s.2 ∙ ap (λ i. replies_in i ts) k)
            ∙ sym (replies_in_more client ts e ∙ ap (λ t. replies_in client ts + (if t then reply_count_of e.act else 0)) b)
        counts client part false b h =
            let more = replies_in_more client ts e ∙ ap (λ t. replies_in client ts + (if t then reply_count_of e.act else 0)) b in
            let old = l.count client part (there client part (other client b) h) in
            omega (arith, more, old)

        answers : (client : ℕ) (part : ClientProgress V R) (b : Bool) → nat_eq e.client client ≡ b → slice_get n.parts client ≡ Some part → AreRepliesFrom (tasks.reply client) 0 part.replies
        answers client part true b h =
            let k : e.client ≡ client = grind (arith, nat_tests) in
            subst (λ x. AreRepliesFrom (tasks.reply client) 0 x.replies) (sym (here client part k h))
            (subst (λ i. AreRepliesFrom (tasks.reply i) 0 s.1.replies) k
            ((act_replies e.client e.act m.memo s.0 n.memo s.1 s.3).1 (l.answered e.client s.0 s.2)))
        answers client part false b h = l.answered client part (there client part (other client b) h)

  -- one event more of a run
  pub run_more : (m : Machine K V R) (es : List Event) (n : Machine K V R) (e : Event) (n' : Machine K V R) (s : Stepped)
      → TellsIfTaken (is_possible tasks n e) (StepsMachine same name_of fits weighs tasks n e n') (n' ≡ n) s
      → (ts : List Event) × Runs same name_of fits weighs tasks m es ts n × RunLeaves tasks ts n
      → (ts : List Event) × Runs same name_of fits weighs tasks m (es ++ e ∷ []) ts n' × RunLeaves tasks ts n'
  run_more m es n e n' Taken a r = (r.0 ++ e ∷ [], taken_more m es r.0 n e n' r.1 a.0 a.1, step_leaves r.0 n e n' r.2 a.1)
  run_more m es n e n' NotReady a r = (r.0, passed_more m es r.0 n e n' r.1 a.0 a.1, subst (RunLeaves tasks r.0) (sym a.1) r.2)

-- replies of commands that agree are equal
pub same_from : {R : Type 0} (f g : ℕ → R) (n : ℕ) (rs ss : List R) (k : ℕ) → AreRepliesFrom f n rs → AreRepliesFrom g n ss
    → ((i : ℕ) → i < n + length rs → i < n + length ss → f i ≡ g i) → k ≤ length rs → k ≤ length ss → take k rs ≡ take k ss
same_from f g n rs ss zero a b h l m = refl
same_from f g n [] ss (suc k) a b h l m = absurd (omega arith)
same_from f g n (r ∷ rs) [] (suc k) a b h l m = absurd (omega arith)
same_from f g n (r ∷ rs) (s ∷ ss) (suc k) a b h l m =
    ap (λ x. x ∷ take k rs) (a.0 ∙ h n (omega arith) (omega arith) ∙ sym b.0)
    ∙ ap (λ xs. s ∷ xs) (same_from f g (n + 1) rs ss k a.1 b.1 (λ i x y. h i (omega arith) (omega arith)) (omega arith) (omega arith))
