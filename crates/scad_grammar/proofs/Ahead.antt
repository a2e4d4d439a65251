-- A choice by the next two tokens.
use Rattle.std.proofs.Common.{◌≡◌, List, [], ◌∷◌, ◌++◌, Bool, true, false, cond, Ok, Err, ◌⊎◌, inl, inr, refl, sym, ap, ◌∙◌, subst, ◌&&◌}
use Rattle.scad_grammar.specs.declared.SyntaxFault.{SyntaxFault}
use Rattle.scad_grammar.specs.Reading.{Read, Reader, then_read, next_is, two_ahead}
use Rattle.scad_grammar.proofs.lemmas.Readers.{SameHead, Told, IsReader, seen}

abbrev pub two : {T : Type 0} → (T → Bool) → (T → Bool) → List T → Bool
two a b [] = false
two a b (t ∷ []) = false
two a b (t ∷ u ∷ ts) = a t && b u

abbrev pub Two : {T A C : Type 0} → (T → T → A → C) → (T → Bool) → (T → Bool) → (A → List T → Type 0) → C → List T → Type 0
Two {T} {A} f a b L c s = (t : T) × (u : T) × (x : A) × (p : List T) × (a t ≡ true) × (b u ≡ true) × L x p × (c ≡ f t u x) × (s ≡ t ∷ u ∷ p)

abbrev pub Ahead : {T A C : Type 0} → (T → T → A → C) → (T → Bool) → (T → Bool) → (A → List T → Type 0) → (C → List T → Type 0) → C → List T → Type 0
Ahead f a b L M c s = Two f a b L c s ⊎ M c s

-- what follows what was read, or the tokens from a fault on
abbrev pub rest_of : {T A : Type 0} → Read T SyntaxFault A → List T
rest_of (Ok p) = p.1
rest_of (Err e) = e.1

pub both_true : (b c : Bool) → (b && c) ≡ true → (b ≡ true) × (c ≡ true)
both_true true c e = (refl, e)
both_true false c e = absurd (cc)

module _ {T A C : Type 0} (f : T → T → A → C) (a b : T → Bool) (r : Reader T SyntaxFault A) (q : Reader T SyntaxFault C) (L W : A → List T → Type 0) (M V : C → List T → Type 0) (ma : A → T → Bool) (more : C → T → Bool)
    (ir : IsReader r L W ma) (iq : IsReader q M V more) (down : (t u : T) (x : A) (rest : List T) → next_is (more (f t u x)) rest ≡ false → next_is (ma x) rest ≡ false)
    (moves : (t : T) → a t ≡ true → rest_of (q (t ∷ [])) ≡ [])
    (unlike : (c : C) (s rest : List T) → M c s → next_is (more c) rest ≡ false → two a b (s ++ rest) ≡ false) where
  -- the second reader, where the first two tokens are no such two
  ahead_second : (ts : List T) → two a b ts ≡ false → two_ahead f a b r q ts ≡ q ts
  ahead_second [] e = refl
  ahead_second (t ∷ []) e = refl
  ahead_second (t ∷ u ∷ ts) e = ap (λ c. cond c (then_read (r ts) (λ x us. Ok (f t u x, us))) (q (t ∷ u ∷ ts))) e

  ahead_first : (t u : T) (ts : List T) → (a t && b u) ≡ true → two_ahead f a b r q (t ∷ u ∷ ts) ≡ then_read (r ts) (λ x us. Ok (f t u x, us))
  ahead_first t u ts e = ap (λ c. cond c (then_read (r ts) (λ x us. Ok (f t u x, us))) (q (t ∷ u ∷ ts))) e

  told_first : (t u : T) (ts : List T) → (a t && b u) ≡ true → (x : Read T SyntaxFault A) → Told r L W ts x → Told (two_ahead f a b r q) (Ahead f a b L M) (Ahead f a b W V) (t ∷ u ∷ ts) (then_read x (λ x us. Ok (f t u x, us)))
  told_first t u ts e (Ok p) k =
      (t ∷ u ∷ k.0, ap (λ l. t ∷ u ∷ l) k.1, inl (t, u, p.0, k.0, (both_true (a t) (b u) e).0, (both_true (a t) (b u) e).1, k.2, refl, refl), λ rest h. ahead_first t u (k.0 ++ rest) e ∙ ap (λ x. then_read x (λ x us. Ok (f t u x, us))) (k.3 rest h))
  told_first t u ts e (Err p) k =
      (t ∷ u ∷ k.0, ap (λ l. t ∷ u ∷ l) k.1, (k.2.0, f t u k.2.1, inl (t, u, k.2.1, (k.0 ++ seen p.0 p.1) ++ k.2.0, (both_true (a t) (b u) e).0, (both_true (a t) (b u) e).1, k.2.2, refl, refl)), λ rest h. ahead_first t u (k.0 ++ rest) e ∙ ap (λ x. then_read x (λ x us. Ok (f t u x, us))) (k.3 rest h))

  -- with other tokens behind the next one there are no such two either, once a token was taken
  two_same : (s at rest : List T) → SameHead at rest → two a b (s ++ at) ≡ false → (s ≡ [] → next_is a at ≡ false) → two a b (s ++ rest) ≡ false
  two_same [] [] [] h e n = refl
  two_same [] [] (u ∷ us) h e n = elim h [ ]
  two_same [] (t ∷ at) [] h e n = refl
  two_same [] (t ∷ at) (u ∷ []) h e n = refl
  two_same [] (t ∷ at) (u ∷ v ∷ us) h e n = ap (λ x. x && b v) (ap a (sym h) ∙ n refl)
  two_same (t ∷ []) [] [] h e n = refl
  two_same (t ∷ []) [] (u ∷ us) h e n = elim h [ ]
  two_same (t ∷ []) (v ∷ at) [] h e n = refl
  two_same (t ∷ []) (v ∷ at) (u ∷ us) h e n = ap (λ x. a t && b x) (sym h) ∙ e
  two_same (t ∷ u ∷ s) at rest h e n = e

  -- a token that may begin such two is taken
  taken_at : (s at : List T) (x : Read T SyntaxFault C) → rest_of x ≡ at → s ≡ [] → ((rest : List T) → SameHead at rest → rest_of (q (s ++ rest)) ≡ rest) → next_is a at ≡ false
  taken_at s [] x w z k = refl
  taken_at s (t ∷ at) x w z k = go (a t) refl
    where
      go : (v : Bool) → a t ≡ v → v ≡ false
      go false e = refl
      go true e =
          let list : t ∷ [] ≡ [] = sym (subst (λ s. rest_of (q (s ++ t ∷ [])) ≡ t ∷ []) z (k (t ∷ []) refl)) ∙ moves t e in
          absurd (cc)

  told_second : (ts : List T) → two a b ts ≡ false → (x : Read T SyntaxFault C) → Told q M V ts x → Told (two_ahead f a b r q) (Ahead f a b L M) (Ahead f a b W V) ts x
  told_second ts e (Ok p) k =
      (k.0, k.1, inr k.2, λ rest h. ahead_second (k.0 ++ rest) (two_same k.0 p.1 rest h (ap (two a b) (sym k.1) ∙ e) (λ z. taken_at k.0 p.1 (Ok p) refl z (λ rest h. ap rest_of (k.3 rest h)))) ∙ k.3 rest h)
  told_second ts e (Err p) k =
      (k.0, k.1, (k.2.0, k.2.1, inr k.2.2), λ rest h. ahead_second (k.0 ++ rest) (two_same k.0 p.1 rest h (ap (two a b) (sym k.1) ∙ e) (λ z. taken_at k.0 p.1 (Err p) refl z (λ rest h. ap rest_of (k.3 rest h)))) ∙ k.3 rest h)

  told_at : (ts : List T) (v : Bool) → two a b ts ≡ v → Told (two_ahead f a b r q) (Ahead f a b L M) (Ahead f a b W V) ts (two_ahead f a b r q ts)
  told_at ts false e = subst (Told (two_ahead f a b r q) (Ahead f a b L M) (Ahead f a b W V) ts) (sym (ahead_second ts e)) (told_second ts e (q ts) (iq.told ts))
  told_at [] true e = absurd (cc)
  told_at (t ∷ []) true e = absurd (cc)
  told_at (t ∷ u ∷ ts) true e = subst (Told (two_ahead f a b r q) (Ahead f a b L M) (Ahead f a b W V) (t ∷ u ∷ ts)) (sym (ahead_first t u ts e)) (told_first t u ts e (r ts) (ir.told ts))

  two_yes : (t u : T) → a t ≡ true → b u ≡ true → (a t && b u) ≡ true
  two_yes t u e g = ap (λ x. x && b u) e ∙ g

  complete : (c : C) (s rest : List T) → Ahead f a b L M c s → next_is (more c) rest ≡ false → two_ahead f a b r q (s ++ rest) ≡ Ok (c, rest)
  complete c s rest (inl h) e =
      ap (λ l. two_ahead f a b r q (l ++ rest)) h.8 ∙ ahead_first h.0 h.1 (h.3 ++ rest) (two_yes h.0 h.1 h.4 h.5)
      ∙ ap (λ x. then_read x (λ x us. Ok (f h.0 h.1 x, us))) (ir.complete h.2 h.3 rest h.6 (down h.0 h.1 h.2 rest (ap (λ c. next_is (more c) rest) (sym h.7) ∙ e))) ∙ ap (λ c. Ok (c, rest)) (sym h.7)
  complete c s rest (inr h) e = ahead_second (s ++ rest) (unlike c s rest h e) ∙ iq.complete c s rest h e

  wider : (c : C) (s : List T) → Ahead f a b L M c s → Ahead f a b W V c s
  wider c s (inl h) = inl (h.0, h.1, h.2, h.3, h.4, h.5, ir.wide h.2 h.3 h.6, h.7, h.8)
  wider c s (inr h) = inr (iq.wide c s h)

  pub ahead_reads : IsReader (two_ahead f a b r q) (Ahead f a b L M) (Ahead f a b W V) more
  ahead_reads = record { told = λ ts. told_at ts (two a b ts) refl; wide = wider; complete = complete }
