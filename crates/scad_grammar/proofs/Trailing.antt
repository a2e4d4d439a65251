-- Items behind separators, and maybe a separator behind the last.
use Rattle.std.proofs.Common.{◌≡◌, ℕ, zero, suc, ◌≤◌, List, [], ◌∷◌, ◌++◌, length, Bool, true, false, cond, Ok, Err, ◌⊎◌, inl, inr, refl, sym, ap, ◌∙◌, subst, arith, append_assoc, length-append, append-nil}
use Rattle.scad_grammar.specs.declared.SyntaxFault.{SyntaxFault}
use Rattle.scad_grammar.specs.Reading.{Read, Reader, then_read, next_is, with_front, trailing_times, trailing_items}
use Rattle.scad_grammar.proofs.lemmas.Readers.{SameHead, Told, IsReader, SingleToken, Opens, seen, same_behind, same_start}

abbrev pub Trailing : {T A : Type 0} → (T → Bool) → (A → List T → Type 0) → List A → List T → Type 0
Trailing {T} mark L [] s = (s ≡ []) ⊎ ((t : T) × SingleToken mark t s)
Trailing {T} mark L (x ∷ xs) s = (t : T) × (p : List T) × (q : List T) × (mark t ≡ true) × L x p × Trailing mark L xs q × (s ≡ t ∷ (p ++ q))

module _ {T A : Type 0} (mark go : T → Bool) (r : Reader T SyntaxFault A) (L W : A → List T → Type 0) (more : A → T → Bool) (wide : T → Bool) (ir : IsReader r L W more)
    (first : Opens L go)
    (apart : (x : A) (rest : List T) → next_is mark rest ≡ true → next_is (more x) rest ≡ false)
    (no_more : (x : A) (rest : List T) → next_is wide rest ≡ false → next_is (more x) rest ≡ false)
    (no_mark : (rest : List T) → next_is wide rest ≡ false → next_is mark rest ≡ false)
    (no_go : (rest : List T) → next_is wide rest ≡ false → next_is go rest ≡ false) where
  shrinks : (ts : List T) (q : Read T SyntaxFault A) → Told r L W ts q → (p : A × List T) → q ≡ Ok p → length p.1 ≤ length ts
  shrinks ts (Ok q) t p e =
      let same : q.1 ≡ p.1 = ap (λ (p : A × List T). p.1) (let f : q ≡ p = cc in f) in
      omega (arith, ap length t.1, length-append t.0 q.1, ap length same)
  shrinks ts (Err x) t p e = absurd (cc)

  enough_after : (n m : ℕ) → ((k : ℕ) (us : List T) → length us ≤ n → length us ≤ k → trailing_times n mark go r us ≡ trailing_times k mark go r us)
      → (ts : List T) → length ts ≤ n → length ts ≤ m → (q : Read T SyntaxFault A) → r ts ≡ q → then_read q (λ x us. with_front x (trailing_times n mark go r us)) ≡ then_read q (λ x us. with_front x (trailing_times m mark go r us))
  enough_after n m same ts a b (Ok p) e =
      let less : length p.1 ≤ length ts = shrinks ts (r ts) (ir.told ts) p e in
      ap (with_front p.0) (same m p.1 (omega arith) (omega arith))
  enough_after n m same ts a b (Err x) e = refl

  enough : (n m : ℕ) (ts : List T) → length ts ≤ n → length ts ≤ m → trailing_times n mark go r ts ≡ trailing_times m mark go r ts
  unfolding trailing_times
  enough zero zero ts a b = refl
  enough zero (suc m) [] a b = refl
  enough zero (suc m) (t ∷ ts) a b = absurd (omega arith)
  enough (suc n) zero [] a b = refl
  enough (suc n) zero (t ∷ ts) a b = absurd (omega arith)
  enough (suc n) (suc m) [] a b = refl
  enough (suc n) (suc m) (t ∷ ts) a b = ap (λ q. cond (mark t) (cond (next_is go ts) q (Ok ([], ts))) (Ok ([], t ∷ ts))) (enough_after n m (enough n) ts (omega arith) (omega arith) (r ts) refl)

  step_after : (n : ℕ) (ts : List T) → length ts ≤ n → (q : Read T SyntaxFault A) → r ts ≡ q → then_read q (λ x us. with_front x (trailing_times n mark go r us)) ≡ then_read q (λ x us. with_front x (trailing_items mark go r us))
  unfolding trailing_items
  step_after n ts a (Ok p) e =
      let less : length p.1 ≤ length ts = shrinks ts (r ts) (ir.told ts) p e in
      ap (with_front p.0) (enough n (length p.1) p.1 (omega arith) (omega arith))
  step_after n ts a (Err x) e = refl

  pub trailing_step : (t : T) (ts : List T) → trailing_items mark go r (t ∷ ts) ≡ cond (mark t) (cond (next_is go ts) (then_read (r ts) (λ x us. with_front x (trailing_items mark go r us))) (Ok ([], ts))) (Ok ([], t ∷ ts))
  unfolding trailing_items trailing_times
  trailing_step t ts = ap (λ q. cond (mark t) (cond (next_is go ts) q (Ok ([], ts))) (Ok ([], t ∷ ts))) (step_after (length ts) ts (omega arith) (r ts) refl)

  pub trailing_none : (ts : List T) → next_is mark ts ≡ false → trailing_items mark go r ts ≡ Ok ([], ts)
  unfolding trailing_items trailing_times
  trailing_none [] e = refl
  trailing_none (t ∷ ts) e = trailing_step t ts ∙ ap (λ b. cond b (cond (next_is go ts) (then_read (r ts) (λ x us. with_front x (trailing_items mark go r us))) (Ok ([], ts))) (Ok ([], t ∷ ts))) e

  pub trailing_end : (t : T) (ts : List T) → mark t ≡ true → next_is go ts ≡ false → trailing_items mark go r (t ∷ ts) ≡ Ok ([], ts)
  trailing_end t ts e g =
      trailing_step t ts ∙ ap (λ b. cond b (cond (next_is go ts) (then_read (r ts) (λ x us. with_front x (trailing_items mark go r us))) (Ok ([], ts))) (Ok ([], t ∷ ts))) e
      ∙ ap (λ b. cond b (then_read (r ts) (λ x us. with_front x (trailing_items mark go r us))) (Ok ([], ts))) g

  taken : (t : T) (ts : List T) → mark t ≡ true → next_is go ts ≡ true → trailing_items mark go r (t ∷ ts) ≡ then_read (r ts) (λ x us. with_front x (trailing_items mark go r us))
  taken t ts e g =
      trailing_step t ts ∙ ap (λ b. cond b (cond (next_is go ts) (then_read (r ts) (λ x us. with_front x (trailing_items mark go r us))) (Ok ([], ts))) (Ok ([], t ∷ ts))) e
      ∙ ap (λ b. cond b (then_read (r ts) (λ x us. with_front x (trailing_items mark go r us))) (Ok ([], ts))) g

  pub trailing_more : (t : T) (ts : List T) (x : A) (us : List T) → mark t ≡ true → next_is go ts ≡ true → r ts ≡ Ok (x, us) → trailing_items mark go r (t ∷ ts) ≡ with_front x (trailing_items mark go r us)
  trailing_more t ts x us e g h = taken t ts e g ∙ ap (λ q. then_read q (λ x us. with_front x (trailing_items mark go r us))) h

  pub trailing_fault : (t : T) (ts : List T) (x : SyntaxFault × List T) → mark t ≡ true → next_is go ts ≡ true → r ts ≡ Err x → trailing_items mark go r (t ∷ ts) ≡ Err x
  trailing_fault t ts x e g h = taken t ts e g ∙ ap (λ q. then_read q (λ x us. with_front x (trailing_items mark go r us))) h

  start_of : (s a b : List T) → SameHead a b → next_is go (s ++ a) ≡ true → next_is go (s ++ b) ≡ true
  start_of s a b h e = same_start go (s ++ a) (s ++ b) (same_behind s a b h) ∙ e

  told_rest : (t : T) (ts : List T) (x : A) (us : List T) → mark t ≡ true → next_is go ts ≡ true → Told r L W ts (Ok (x, us)) → (q : Read T SyntaxFault (List A)) → Told (trailing_items mark go r) (Trailing mark L) (Trailing mark W) us q
      → Told (trailing_items mark go r) (Trailing mark L) (Trailing mark W) (t ∷ ts) (with_front x q)
  told_rest t ts x us m g k (Ok p) u = (
    t ∷ (k.0 ++ u.0),
    ap (λ l. t ∷ l) (k.1 ∙ ap (λ l. k.0 ++ l) u.1 ∙ sym (append_assoc k.0 u.0 p.1)),
    (t, k.0, u.0, m, k.2, u.2, refl),
    λ rest h.
        let behind = subst (λ l. SameHead l (u.0 ++ rest)) (sym u.1) (same_behind u.0 p.1 rest h) in
        ap (λ l. trailing_items mark go r (t ∷ l)) (append_assoc k.0 u.0 rest)
        ∙ trailing_more t (k.0 ++ (u.0 ++ rest)) x (u.0 ++ rest) m (start_of k.0 us (u.0 ++ rest) behind (ap (next_is go) (sym k.1) ∙ g)) (k.3 (u.0 ++ rest) behind)
        ∙ ap (with_front x) (u.3 rest h),
  )
  told_rest t ts x us m g k (Err p) u = (
    t ∷ (k.0 ++ u.0),
    ap (λ l. t ∷ l) (k.1 ∙ ap (λ l. k.0 ++ l) u.1 ∙ sym (append_assoc k.0 u.0 p.1)),
    (u.2.0, x ∷ u.2.1, (t, k.0, (u.0 ++ seen p.0 p.1) ++ u.2.0, m, ir.wide x k.0 k.2, u.2.2, ap (λ l. t ∷ l) (ap (λ l. l ++ u.2.0) (append_assoc k.0 u.0 (seen p.0 p.1)) ∙ append_assoc k.0 (u.0 ++ seen p.0 p.1) u.2.0))),
    λ rest h.
        let behind = subst (λ l. SameHead l (u.0 ++ rest)) (sym u.1) (same_behind u.0 p.1 rest h) in
        ap (λ l. trailing_items mark go r (t ∷ l)) (append_assoc k.0 u.0 rest)
        ∙ trailing_more t (k.0 ++ (u.0 ++ rest)) x (u.0 ++ rest) m (start_of k.0 us (u.0 ++ rest) behind (ap (next_is go) (sym k.1) ∙ g)) (k.3 (u.0 ++ rest) behind)
        ∙ ap (with_front x) (u.3 rest h),
  )

  told_item : (n : ℕ) → ((us : List T) → length us ≤ n → Told (trailing_items mark go r) (Trailing mark L) (Trailing mark W) us (trailing_items mark go r us)) → (t : T) (ts : List T) → length ts ≤ n → mark t ≡ true → next_is go ts ≡ true
      → (q : Read T SyntaxFault A) → r ts ≡ q → Told r L W ts q → Told (trailing_items mark go r) (Trailing mark L) (Trailing mark W) (t ∷ ts) (then_read q (λ x us. with_front x (trailing_items mark go r us)))
  told_item n ih t ts a m g (Ok p) f k =
      let less : length p.1 ≤ length ts = shrinks ts (r ts) (ir.told ts) p f in
      told_rest t ts p.0 p.1 m g k (trailing_items mark go r p.1) (ih p.1 (omega arith))
  told_item n ih t ts a m g (Err p) f k = (
    t ∷ k.0,
    ap (λ l. t ∷ l) k.1,
    (k.2.0, k.2.1 ∷ [], (t, (k.0 ++ seen p.0 p.1) ++ k.2.0, [], m, k.2.2, inl refl, ap (λ l. t ∷ l) (sym (append-nil ((k.0 ++ seen p.0 p.1) ++ k.2.0))))),
    λ rest h.
        trailing_fault t (k.0 ++ rest) (p.0, rest) m (start_of k.0 p.1 rest h (ap (next_is go) (sym k.1) ∙ g)) (k.3 rest h),
  )

  told_go : (n : ℕ) → ((us : List T) → length us ≤ n → Told (trailing_items mark go r) (Trailing mark L) (Trailing mark W) us (trailing_items mark go r us)) → (t : T) (ts : List T) → length ts ≤ n → mark t ≡ true
      → (c : Bool) → next_is go ts ≡ c → Told (trailing_items mark go r) (Trailing mark L) (Trailing mark W) (t ∷ ts) (cond c (then_read (r ts) (λ x us. with_front x (trailing_items mark go r us))) (Ok ([], ts)))
  told_go n ih t ts a m true g = told_item n ih t ts a m g (r ts) refl (ir.told ts)
  told_go n ih t ts a m false g = (t ∷ [], refl, inr (t, (m, refl)), λ rest h. trailing_end t rest m (same_start go ts rest h ∙ g))

  told_mark : (n : ℕ) → ((us : List T) → length us ≤ n → Told (trailing_items mark go r) (Trailing mark L) (Trailing mark W) us (trailing_items mark go r us)) → (t : T) (ts : List T) → length ts ≤ n
      → (b : Bool) → mark t ≡ b → Told (trailing_items mark go r) (Trailing mark L) (Trailing mark W) (t ∷ ts) (cond b (cond (next_is go ts) (then_read (r ts) (λ x us. with_front x (trailing_items mark go r us))) (Ok ([], ts))) (Ok ([], t ∷ ts)))
  told_mark n ih t ts a true m = told_go n ih t ts a m (next_is go ts) refl
  told_mark n ih t ts a false m = ([], refl, inl refl, λ rest h. trailing_none rest (same_start mark (t ∷ ts) rest h ∙ m))

  told_all : (n : ℕ) (ts : List T) → length ts ≤ n → Told (trailing_items mark go r) (Trailing mark L) (Trailing mark W) ts (trailing_items mark go r ts)
  told_all n [] a = subst (Told (trailing_items mark go r) (Trailing mark L) (Trailing mark W) []) (sym (trailing_none [] refl)) ([], refl, inl refl, λ rest h. trailing_none rest (same_start mark [] rest h))
  told_all zero (t ∷ ts) a = absurd (omega arith)
  told_all (suc n) (t ∷ ts) a = subst (Told (trailing_items mark go r) (Trailing mark L) (Trailing mark W) (t ∷ ts)) (sym (trailing_step t ts)) (told_mark n (told_all n) t ts (omega arith) (mark t) refl)

  item_ends : (y : A) (xs : List A) (s rest : List T) → Trailing mark L xs s → next_is wide rest ≡ false → next_is (more y) (s ++ rest) ≡ false
  item_ends y [] s rest (inl h) e = ap (λ l. next_is (more y) (l ++ rest)) h ∙ no_more y rest e
  item_ends y [] s rest (inr h) e = ap (λ l. next_is (more y) (l ++ rest)) h.1.1 ∙ apart y (h.0 ∷ rest) h.1.0
  item_ends y (x ∷ xs) s rest h e = ap (λ l. next_is (more y) (l ++ rest)) h.6 ∙ apart y (h.0 ∷ ((h.1 ++ h.2) ++ rest)) h.3

  complete_all : (xs : List A) (s rest : List T) → Trailing mark L xs s → next_is wide rest ≡ false → trailing_items mark go r (s ++ rest) ≡ Ok (xs, rest)
  complete_all [] s rest (inl h) e = ap (λ l. trailing_items mark go r (l ++ rest)) h ∙ trailing_none rest (no_mark rest e)
  complete_all [] s rest (inr h) e = ap (λ l. trailing_items mark go r (l ++ rest)) h.1.1 ∙ trailing_end h.0 rest h.1.0 (no_go rest e)
  complete_all (x ∷ xs) s rest h e =
      ap (λ l. trailing_items mark go r (l ++ rest)) h.6 ∙ ap (λ l. trailing_items mark go r (h.0 ∷ l)) (append_assoc h.1 h.2 rest)
      ∙ trailing_more h.0 (h.1 ++ (h.2 ++ rest)) x (h.2 ++ rest) h.3 (first x h.1 (h.2 ++ rest) h.4) (ir.complete x h.1 (h.2 ++ rest) h.4 (item_ends x xs h.2 rest h.5 e))
      ∙ ap (with_front x) (complete_all xs h.2 rest h.5 e)

  wide_all : (xs : List A) (s : List T) → Trailing mark L xs s → Trailing mark W xs s
  wide_all [] s h = h
  wide_all (x ∷ xs) s h = (h.0, h.1, h.2, h.3, ir.wide x h.1 h.4, wide_all xs h.2 h.5, h.6)

  pub trailing_reads : IsReader (trailing_items mark go r) (Trailing mark L) (Trailing mark W) (λ xs. wide)
  trailing_reads = record { told = λ ts. told_all (length ts) ts (omega arith); wide = wide_all; complete = complete_all }
