-- The longest front of a text that is a word.
use Rattle.std.proofs.Common.{◌≡◌, ℕ, zero, suc, ◌+◌, ◌<◌, ◌≤◌, List, [], ◌∷◌, length, take, drop, get_or, Bool, true, false, cond, Option, Some, None, refl, sym, ap, ◌∙◌, subst, arith, drop-cons, add-one}
use Rattle.scad_lexer.specs.declared.word.Word.{Word}
use Rattle.scad_lexer.proofs.Matched.{is_read}
use Rattle.scad_lexer.specs.Words.{run_of, word_of_bytes, IsLongest, HasNoWord}
use Rattle.scad_lexer.specs.Scanning.{all_bytes, word_where, where_last, with_bytes, more_bytes, one_longer, longest_front, word_from}

-- what the longest word is
pub record IsBest (f : List ℕ → Option Word) (t : List ℕ) (w : Word) (n : ℕ) : Type 0 where
  pub within : n ≤ length t
  pub found : f (take n t) ≡ Some w
  pub most : (m : ℕ) (o : Word) → m ≤ length t → f (take m t) ≡ Some o → m ≤ n

abbrev pub Best : (List ℕ → Option Word) → List ℕ → Option (Word × ℕ) → Type 0
Best f t None = (m : ℕ) (o : Word) → m ≤ length t → f (take m t) ≡ Some o → ⊥
Best f t (Some p) = IsBest f t p.0 p.1

best_end : (f : List ℕ → Option Word) (x : Option Word) → f [] ≡ x → Best f [] (with_bytes 0 x)
best_end f None e = none
  where
    none : (m : ℕ) (o : Word) → m ≤ 0 → f (take m []) ≡ Some o → ⊥
    none zero o l h = cc
    none (suc m) o l h = absurd (omega arith)
best_end f (Some w) e = record { within = omega arith; found = e; most = λ m o l h. l }

best_step : (f : List ℕ → Option Word) (b : ℕ) (t : List ℕ) (r : Option (Word × ℕ)) → Best (λ w. f (b ∷ w)) t r → (x : Option Word) → f [] ≡ x → Best f (b ∷ t) (one_longer r (with_bytes 0 x))
best_step f b t None h None e = none
  where
    none : (m : ℕ) (o : Word) → m ≤ length (b ∷ t) → f (take m (b ∷ t)) ≡ Some o → ⊥
    none zero o l g = cc
    none (suc m) o l g = h m o (omega arith) g
best_step f b t None h (Some w) e = record { within = omega arith; found = e; most = most }
  where
    most : (m : ℕ) (o : Word) → m ≤ length (b ∷ t) → f (take m (b ∷ t)) ≡ Some o → m ≤ 0
    most zero o l g = omega arith
    most (suc m) o l g = absurd (h m o (omega arith) g)
best_step f b t (Some p) h x e = record { within = omega (arith, h.within); found = h.found; most = most }
  where
    most : (m : ℕ) (o : Word) → m ≤ length (b ∷ t) → f (take m (b ∷ t)) ≡ Some o → m ≤ suc p.1
    most zero o l g = omega arith
    most (suc m) o l g = omega (arith, h.most m o (omega arith) g)

pub best : (f : List ℕ → Option Word) (t : List ℕ) → Best f t (longest_front f t)
unfolding longest_front
best f [] = best_end f (f []) refl
best f (b ∷ t) = best_step f b t (longest_front (λ w. f (b ∷ w)) t) (best (λ w. f (b ∷ w)) t) (f []) refl

-- functions with the same values have the same longest words
pub longest_same : (f g : List ℕ → Option Word) → ((w : List ℕ) → f w ≡ g w) → (t : List ℕ) → longest_front f t ≡ longest_front g t
unfolding longest_front
longest_same f g h [] = ap (with_bytes 0) (h [])
longest_same f g h (b ∷ t) = ap (λ r. one_longer r (with_bytes 0 (f []))) (longest_same (λ w. f (b ∷ w)) (λ w. g (b ∷ w)) (λ w. h (b ∷ w)) t) ∙ ap (λ x. one_longer (longest_front (λ w. g (b ∷ w)) t) (with_bytes 0 x)) (h [])

pub longest_end : (f : List ℕ → Option Word) → longest_front f [] ≡ with_bytes 0 (f [])
unfolding longest_front
longest_end f = refl

-- one byte taken
pub longest_step : (f g : List ℕ → Option Word) (b : ℕ) → ((w : List ℕ) → f (b ∷ w) ≡ g w) → (t : List ℕ) → longest_front f (b ∷ t) ≡ one_longer (longest_front g t) (with_bytes 0 (f []))
unfolding longest_front
longest_step f g b h t = ap (λ r. one_longer r (with_bytes 0 (f []))) (longest_same (λ w. f (b ∷ w)) g h t)

pub longest_taken : (f g : List ℕ → Option Word) (b : ℕ) → ((w : List ℕ) → f (b ∷ w) ≡ g w) → (t : List ℕ) (x : Word) (n : ℕ) → longest_front g t ≡ Some (x, n) → longest_front f (b ∷ t) ≡ Some (x, suc n)
longest_taken f g b h t x n e = longest_step f g b h t ∙ ap (λ r. one_longer r (with_bytes 0 (f []))) e

pub longest_never : (t : List ℕ) → longest_front (λ w. None) t ≡ None
unfolding longest_front
longest_never [] = refl
longest_never (b ∷ t) = ap (λ r. one_longer r None) (longest_never t)

-- no word goes on with this byte
pub longest_stop : (f : List ℕ → Option Word) (b : ℕ) → ((w : List ℕ) → f (b ∷ w) ≡ None) → (t : List ℕ) → longest_front f (b ∷ t) ≡ with_bytes 0 (f [])
longest_stop f b h t = longest_step f (λ w. None) b h t ∙ ap (λ r. one_longer r (with_bytes 0 (f []))) (longest_never t)

pub longest_alone : (x : Word) (t : List ℕ) → longest_front (where_last x) t ≡ Some (x, 0)
longest_alone x [] = longest_end (where_last x)
longest_alone x (b ∷ t) = longest_stop (where_last x) b (λ w. refl) t

-- where nothing need follow, something is found
pub longest_some : (f : List ℕ → Option Word) (x : Word) → f [] ≡ Some x → (t : List ℕ) → (p : Word × ℕ) × (longest_front f t ≡ Some p)
unfolding longest_front
longest_some f x e [] = ((x, 0), ap (with_bytes 0) e)
longest_some f x e (b ∷ t) = go (longest_front (λ w. f (b ∷ w)) t)
  where
    go : (r : Option (Word × ℕ)) → (p : Word × ℕ) × (one_longer r (with_bytes 0 (f [])) ≡ Some p)
    go None = ((x, 0), ap (with_bytes 0) e)
    go (Some p) = ((p.0, suc p.1), refl)

more_none : (r : Option (Word × ℕ)) → r ≡ more_bytes 0 r
more_none None = refl
more_none (Some p) = let same : p.1 ≡ 0 + p.1 = omega arith in ap (λ n. Some (p.0, n)) same

-- a run of bytes after which the same may follow
pub longest_run : (p : ℕ → Bool) (f : List ℕ → Option Word) (x : Word) → f [] ≡ Some x → ((b : ℕ) (w : List ℕ) → p b ≡ true → f (b ∷ w) ≡ f w) → (t : List ℕ) → longest_front f t ≡ more_bytes (run_of p t) (longest_front f (drop (run_of p t) t))
longest_run p f x e h [] = more_none (longest_front f [])
longest_run p f x e h (b ∷ t) = go (p b) refl (longest_run p f x e h t)
  where
    go : (c : Bool) → p b ≡ c → longest_front f t ≡ more_bytes (run_of p t) (longest_front f (drop (run_of p t) t)) → longest_front f (b ∷ t) ≡ more_bytes (cond c (suc (run_of p t)) 0) (longest_front f (drop (cond c (suc (run_of p t)) 0) (b ∷ t)))
    go true g ih =
        let s = longest_some f x e (drop (run_of p t) t) in
        let below : longest_front f t ≡ Some (s.0.0, run_of p t + s.0.1) = ih ∙ ap (more_bytes (run_of p t)) s.1 in
        let here : suc (run_of p t + s.0.1) ≡ suc (run_of p t) + s.0.1 = omega arith in
        longest_taken f f b (λ w. h b w g) t s.0.0 (run_of p t + s.0.1) below
        ∙ ap (λ n. Some (s.0.0, n)) here
        ∙ ap (more_bytes (suc (run_of p t))) (sym s.1)
    go false g ih = more_none (longest_front f (b ∷ t))

-- the same with what was found behind the run
pub run_then : (p : ℕ → Bool) (f : List ℕ → Option Word) (x : Word) → f [] ≡ Some x → ((b : ℕ) (w : List ℕ) → p b ≡ true → f (b ∷ w) ≡ f w) → (t : List ℕ) (n : ℕ) → n ≡ run_of p t → (y : Word) (m : ℕ) → longest_front f (drop n t) ≡ Some (y, m) → longest_front f t ≡ Some (y, n + m)
run_then p f x e h t n same y m g = longest_run p f x e h t ∙ ap (λ n. more_bytes n (longest_front f (drop n t))) (sym same) ∙ ap (more_bytes n) g

every_step : (p : ℕ → Bool) (b : ℕ) (c : Bool) (x : Word) (w : List ℕ) → p b ≡ c → word_where (all_bytes p (b ∷ w)) x ≡ word_where (cond c (all_bytes p w) false) x
every_step p b c x w e = ap (λ c. word_where (cond c (all_bytes p w) false) x) e

pub longest_every : (p : ℕ → Bool) (x : Word) (t : List ℕ) → longest_front (λ w. word_where (all_bytes p w) x) t ≡ Some (x, run_of p t)
longest_every p x [] = longest_end (λ w. word_where (all_bytes p w) x)
longest_every p x (b ∷ t) = go (p b) refl (longest_every p x t)
  where
    go : (c : Bool) → p b ≡ c → longest_front (λ w. word_where (all_bytes p w) x) t ≡ Some (x, run_of p t) → longest_front (λ w. word_where (all_bytes p w) x) (b ∷ t) ≡ Some (x, cond c (suc (run_of p t)) 0)
    go true e ih = longest_taken (λ w. word_where (all_bytes p w) x) (λ w. word_where (all_bytes p w) x) b (λ w. every_step p b true x w e) t x (run_of p t) ih
    go false e ih = longest_stop (λ w. word_where (all_bytes p w) x) b (λ w. every_step p b false x w e) t

-- the first byte that isn't of a run
pub drop_more : (t : List ℕ) (n : ℕ) → n < length t → drop n t ≡ get_or t n 0 ∷ drop (n + 1) t
drop_more t n h = rw add-one (drop-cons t n 0 h)

pub run_more : (p : ℕ → Bool) (t : List ℕ) (n : ℕ) → n < length t → p (get_or t n 0) ≡ true → run_of p (drop n t) ≡ suc (run_of p (drop (n + 1) t))
run_more p t n h e = ap (run_of p) (drop_more t n h) ∙ ap (λ b. cond b (suc (run_of p (drop (n + 1) t))) 0) e

pub run_stop : (p : ℕ → Bool) (t : List ℕ) (n : ℕ) → n < length t → p (get_or t n 0) ≡ false → run_of p (drop n t) ≡ 0
run_stop p t n h e = ap (run_of p) (drop_more t n h) ∙ ap (λ b. cond b (suc (run_of p (drop (n + 1) t))) 0) e

pub run_end : (p : ℕ → Bool) (t : List ℕ) (n : ℕ) → length t ≤ n → run_of p (drop n t) ≡ 0
run_end p [] zero h = refl
run_end p [] (suc n) h = refl
run_end p (b ∷ t) zero h = absurd (omega arith)
run_end p (b ∷ t) (suc n) h = run_end p t n (omega arith)

-- behind a run stands nothing of it
pub behind_run : (p : ℕ → Bool) (t : List ℕ) (b : ℕ) (w : List ℕ) → drop (run_of p t) t ≡ b ∷ w → p b ≡ false
behind_run p [] b w e = absurd (cc)
behind_run p (c ∷ t) b w e = go (p c) refl e (behind_run p t b w)
  where
    go : (d : Bool) → p c ≡ d → drop (cond d (suc (run_of p t)) 0) (c ∷ t) ≡ b ∷ w → (drop (run_of p t) t ≡ b ∷ w → p b ≡ false) → p b ≡ false
    go true f e ih = ih e
    go false f e ih = let same : c ≡ b = cc in ap p (sym same) ∙ f

-- no bytes are no word
pub no_empty_word : (o : Word) → None ≡ Some o → ⊥
no_empty_word o h = cc

-- the words that a text begins with
pub longest_is : (b : ℕ) (t : List ℕ) (w : Word) (n : ℕ) → longest_front (word_from b) t ≡ Some (w, n) → IsLongest (b ∷ t) (1 + n) w
longest_is b t w n e =
    let h : IsBest (word_from b) t w n = subst (Best (word_from b) t) e (best (word_from b) t) in
    let one : suc n ≡ 1 + n = omega arith in
    subst (λ n. IsLongest (b ∷ t) n w) one (record { within = omega (arith, h.within); found = is_read (b ∷ take n t) ∙ h.found; most = most h })
  where
    most : IsBest (word_from b) t w n → (m : ℕ) (o : Word) → m ≤ length (b ∷ t) → word_of_bytes (take m (b ∷ t)) ≡ Some o → m ≤ suc n
    most h zero o l g = omega arith
    most h (suc m) o l g = omega (arith, h.most m o (omega arith) (sym (is_read (b ∷ take m t)) ∙ g))

pub longest_isnt : (b : ℕ) (t : List ℕ) → longest_front (word_from b) t ≡ None → HasNoWord (b ∷ t)
longest_isnt b t e = none (subst (Best (word_from b) t) e (best (word_from b) t))
  where
    none : Best (word_from b) t None → HasNoWord (b ∷ t)
    none h zero o l g = absurd (no_empty_word o (sym (is_read []) ∙ g))
    none h (suc m) o l g = h m o (omega arith) (sym (is_read (b ∷ take m t)) ∙ g)
