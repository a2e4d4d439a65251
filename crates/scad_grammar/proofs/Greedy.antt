-- Two parts that are read one after the other only where they go together, as an `if` and its `else`.
use Rattle.std.proofs.Common.{◌≡◌, List, [], ◌∷◌, ◌++◌, Bool, true, false, cond, Ok, Err, Option, Some, None, inl, inr, refl, sym, ap, ◌∙◌, subst, append_assoc}
use Rattle.scad_grammar.specs.declared.SyntaxFault.{SyntaxFault}
use Rattle.scad_grammar.specs.declared.SyntaxFault.TheVariants.{Expected, Nested, NotInProfile}
use Rattle.scad_grammar.specs.Reading.{Read, Reader, then_read, next_is, image_read, empty_read, sequence_read, alternative_read, optional_read}
use Rattle.scad_grammar.proofs.lemmas.Readers.{SameHead, IsPrefixIn, Told, IsReader, seen, same_behind, EitherOf, ImageOf, EmptySequence, Opens, mapped_opens, same_reads, choice_reads, mapped_reads, nothing_reads}

-- what was read says which tokens don't follow it
abbrev pub Stops : {T A : Type 0} → Reader T SyntaxFault A → (A → T → Bool) → Type 0
Stops {T} {A} r last = (ts : List T) (x : A) (rest : List T) → r ts ≡ Ok (x, rest) → next_is (last x) rest ≡ false

-- one after the other, where they go together
abbrev pub BothIf : {T A B C : Type 0} → (A → B → C) → (A → B → Type 0) → (A → List T → Type 0) → (B → List T → Type 0) → C → List T → Type 0
BothIf {T} {A} {B} f Fit La Lb c s = (a : A) × (b : B) × (p : List T) × (q : List T) × La a p × Lb b q × Fit a b × (c ≡ f a b) × (s ≡ p ++ q)

start_seen : {T : Type 0} (test : T → Bool) (u : List T) (k : SyntaxFault) (at : List T) → next_is test (u ++ at) ≡ false → next_is test (u ++ seen k at) ≡ false
start_seen test (x ∷ u) k at e = e
start_seen test [] Nested [] e = refl
start_seen test [] Nested (t ∷ at) e = e
start_seen test [] Expected at e = refl
start_seen test [] NotInProfile at e = refl

module _ {T A B C : Type 0} (f : A → B → C) (Fit : A → B → Type 0) (ra : Reader T SyntaxFault A) (rb : Reader T SyntaxFault B) (La Wa : A → List T → Type 0) (Lb Wb : B → List T → Type 0)
    (ma la : A → T → Bool) (mb : B → T → Bool) (mc : C → T → Bool) (ia : IsReader ra La Wa ma) (sa : Stops ra la) (ib : IsReader rb Lb Wb mb)
    (some : (a : A) → (w : List T) × (y : B) × Wb y w × Fit a y)
    (follows : (a : A) (b : B) (q rest : List T) → Lb b q → Fit a b → next_is (mc (f a b)) rest ≡ false → next_is (ma a) (q ++ rest) ≡ false)
    (down : (a : A) (b : B) (rest : List T) → next_is (mc (f a b)) rest ≡ false → next_is (mb b) rest ≡ false)
    (fits : (a : A) (b : B) (q rest : List T) → Wb b q → next_is (la a) (q ++ rest) ≡ false → Fit a b) where
  -- what a fault in the second part begins
  begun : (a : A) (p v : List T) → Wa a p → next_is (la a) v ≡ false → IsPrefixIn Wb v → IsPrefixIn (BothIf f Fit Wa Wb) (p ++ v)
  begun a p [] wa e b =
      let s = some a in
      (s.0, f a s.1, (a, s.1, p, s.0, wa, s.2, s.3, refl, append_assoc p [] s.0))
  begun a p (x ∷ v) wa e b = (b.0, f a b.1, (a, b.1, p, (x ∷ v) ++ b.0, wa, b.2, fits a b.1 ((x ∷ v) ++ b.0) [] b.2 e, refl, append_assoc p (x ∷ v) b.0))

  second : (ts : List T) (a : A) (us : List T) → ra ts ≡ Ok (a, us) → Told ra La Wa ts (Ok (a, us)) → (q : Read T SyntaxFault B) → Told rb Lb Wb us q
      → Told (sequence_read f ra rb) (BothIf f Fit La Lb) (BothIf f Fit Wa Wb) ts (then_read q (λ b ts. Ok (f a b, ts)))
  second ts a us e t (Ok q) u =
      let stop : next_is (la a) (u.0 ++ q.1) ≡ false = ap (next_is (la a)) (sym u.1) ∙ sa ts a us e in (
        t.0 ++ u.0,
        t.1 ∙ ap (λ l. t.0 ++ l) u.1 ∙ sym (append_assoc t.0 u.0 q.1),
        (a, q.0, t.0, u.0, t.2, u.2, fits a q.0 u.0 q.1 (ib.wide q.0 u.0 u.2) stop, refl, refl),
        λ rest h.
            ap (sequence_read f ra rb) (append_assoc t.0 u.0 rest)
            ∙ ap (λ r. then_read r (λ a ts. then_read (rb ts) (λ b ts. Ok (f a b, ts)))) (t.3 (u.0 ++ rest) (subst (λ l. SameHead l (u.0 ++ rest)) (sym u.1) (same_behind u.0 q.1 rest h)))
            ∙ ap (λ r. then_read r (λ b ts. Ok (f a b, ts))) (u.3 rest h),
      )
  second ts a us e t (Err x) u =
      let stop : next_is (la a) (u.0 ++ x.1) ≡ false = ap (next_is (la a)) (sym u.1) ∙ sa ts a us e in
      let b = begun a t.0 (u.0 ++ seen x.0 x.1) (ia.wide a t.0 t.2) (start_seen (la a) u.0 x.0 x.1 stop) u.2 in (
        t.0 ++ u.0,
        t.1 ∙ ap (λ l. t.0 ++ l) u.1 ∙ sym (append_assoc t.0 u.0 x.1),
        subst (IsPrefixIn (BothIf f Fit Wa Wb)) (sym (append_assoc t.0 u.0 (seen x.0 x.1))) b,
        λ rest h.
            ap (sequence_read f ra rb) (append_assoc t.0 u.0 rest)
            ∙ ap (λ r. then_read r (λ a ts. then_read (rb ts) (λ b ts. Ok (f a b, ts)))) (t.3 (u.0 ++ rest) (subst (λ l. SameHead l (u.0 ++ rest)) (sym u.1) (same_behind u.0 x.1 rest h)))
            ∙ ap (λ r. then_read r (λ b ts. Ok (f a b, ts))) (u.3 rest h),
      )

  first : (ts : List T) (r : Read T SyntaxFault A) → ra ts ≡ r → Told ra La Wa ts r → Told (sequence_read f ra rb) (BothIf f Fit La Lb) (BothIf f Fit Wa Wb) ts (then_read r (λ a ts. then_read (rb ts) (λ b ts. Ok (f a b, ts))))
  first ts (Ok p) e t = second ts p.0 p.1 e t (rb p.1) (ib.told p.1)
  first ts (Err x) e t =
      let s = some t.2.1 in (
        t.0,
        t.1,
        (t.2.0 ++ s.0, f t.2.1 s.1, (t.2.1, s.1, (t.0 ++ seen x.0 x.1) ++ t.2.0, s.0, t.2.2, s.2, s.3, refl, sym (append_assoc (t.0 ++ seen x.0 x.1) t.2.0 s.0))),
        λ rest h. ap (λ r. then_read r (λ a ts. then_read (rb ts) (λ b ts. Ok (f a b, ts)))) (t.3 rest h),
      )

  complete : (c : C) (s rest : List T) → BothIf f Fit La Lb c s → next_is (mc c) rest ≡ false → sequence_read f ra rb (s ++ rest) ≡ Ok (c, rest)
  complete c s rest h e =
      let end : next_is (mc (f h.0 h.1)) rest ≡ false = ap (λ c. next_is (mc c) rest) (sym h.7) ∙ e in
      ap (λ l. sequence_read f ra rb (l ++ rest)) h.8 ∙ ap (sequence_read f ra rb) (append_assoc h.2 h.3 rest)
      ∙ ap (λ r. then_read r (λ a ts. then_read (rb ts) (λ b ts. Ok (f a b, ts)))) (ia.complete h.0 h.2 (h.3 ++ rest) h.4 (follows h.0 h.1 h.3 rest h.5 h.6 end))
      ∙ ap (λ r. then_read r (λ b ts. Ok (f h.0 b, ts))) (ib.complete h.1 h.3 rest h.5 (down h.0 h.1 rest end))
      ∙ ap (λ c. Ok (c, rest)) (sym h.7)

  pub both_if_reads : IsReader (sequence_read f ra rb) (BothIf f Fit La Lb) (BothIf f Fit Wa Wb) mc
  both_if_reads = record {
    told = λ ts. first ts (ra ts) refl (ia.told ts);
    wide = λ c s h. (h.0, h.1, h.2, h.3, ia.wide h.0 h.2 h.4, ib.wide h.1 h.3 h.5, h.6, h.7, h.8);
    complete = complete;
  }

-- what stops behind the second part of two
module _ {T A B C : Type 0} (f : A → B → C) (ra : Reader T SyntaxFault A) (rb : Reader T SyntaxFault B) (lb : B → T → Bool) (lc : C → T → Bool) (sb : Stops rb lb)
    (up : (a : A) (b : B) (rest : List T) → next_is (lb b) rest ≡ false → next_is (lc (f a b)) rest ≡ false) where
  stops_second : (a : A) (us : List T) (q : Read T SyntaxFault B) → rb us ≡ q → (c : C) (rest : List T) → then_read q (λ b ts. Ok (f a b, ts)) ≡ Ok (c, rest) → next_is (lc c) rest ≡ false
  stops_second a us (Ok q) e c rest g =
      let pair : ◌≡◌ {A = C × List T} (f a q.0, q.1) (c, rest) = cc in
      subst (λ (p : C × List T). next_is (lc p.0) p.1 ≡ false) pair (up a q.0 q.1 (sb us q.0 q.1 e))
  stops_second a us (Err x) e c rest g = absurd (cc)

  stops_first : (r : Read T SyntaxFault A) → (c : C) (rest : List T) → then_read r (λ a ts. then_read (rb ts) (λ b ts. Ok (f a b, ts))) ≡ Ok (c, rest) → next_is (lc c) rest ≡ false
  stops_first (Ok p) c rest g = stops_second p.0 p.1 (rb p.1) refl c rest g
  stops_first (Err x) c rest g = absurd (cc)

  pub both_stops : Stops (sequence_read f ra rb) lc
  both_stops ts c rest g = stops_first (ra ts) c rest g

-- what stops behind something that stands for another thing
module _ {T A B : Type 0} (f : A → B) (r : Reader T SyntaxFault A) (l : A → T → Bool) (k : B → T → Bool) (s : Stops r l)
    (up : (a : A) (rest : List T) → next_is (l a) rest ≡ false → next_is (k (f a)) rest ≡ false) where
  mapped_at : (ts : List T) (q : Read T SyntaxFault A) → r ts ≡ q → (b : B) (rest : List T) → then_read q (λ a ts. Ok (f a, ts)) ≡ Ok (b, rest) → next_is (k b) rest ≡ false
  mapped_at ts (Ok p) e b rest g =
      let pair : ◌≡◌ {A = B × List T} (f p.0, p.1) (b, rest) = cc in
      subst (λ (p : B × List T). next_is (k p.0) p.1 ≡ false) pair (up p.0 p.1 (s ts p.0 p.1 e))
  mapped_at ts (Err x) e b rest g = absurd (cc)

  pub mapped_stops : Stops (image_read f r) k
  mapped_stops ts b rest g = mapped_at ts (r ts) refl b rest g

pub choice_stops : {T A : Type 0} (test : T → Bool) (ra rb : Reader T SyntaxFault A) (l : A → T → Bool) → Stops ra l → Stops rb l → Stops (alternative_read test ra rb) l
choice_stops {T} {A} test ra rb l sa sb ts x rest g = go (next_is test ts) g
  where
    go : (b : Bool) → cond b (ra ts) (rb ts) ≡ Ok (x, rest) → next_is (l x) rest ≡ false
    go true e = sa ts x rest e
    go false e = sb ts x rest e

-- it, or nothing: nothing is read only where its first tokens don't stand
abbrev pub OptionalSequence : {T A : Type 0} → (A → List T → Type 0) → Option A → List T → Type 0
OptionalSequence L None s = s ≡ []
OptionalSequence L (Some x) s = L x s

-- what may go on it: what may go on what was read, or what may begin it
abbrev pub or_first : {T A : Type 0} → (T → Bool) → (A → T → Bool) → Option A → T → Bool
or_first test more None = test
or_first test more (Some x) = more x

pub maybe_ends : {T A : Type 0} (test : T → Bool) (more : A → T → Bool) (x : Option A) (rest : List T) → next_is test rest ≡ false → ((x : A) → next_is (more x) rest ≡ false) → next_is (or_first test more x) rest ≡ false
maybe_ends test more None rest e h = e
maybe_ends test more (Some x) rest e h = h x

pub maybe_stops : {T A : Type 0} (test : T → Bool) (r : Reader T SyntaxFault A) (l : A → T → Bool) → Stops r l → Stops (optional_read test r) (or_first test l)
maybe_stops {T} {A} test r l sr ts x rest g = go (next_is test ts) refl g
  where
    go : (b : Bool) → next_is test ts ≡ b → cond b (image_read Some r ts) (empty_read None ts) ≡ Ok (x, rest) → next_is (or_first test l x) rest ≡ false
    go true e g = mapped_stops Some r l (or_first test l) sr (λ a rest h. h) ts x rest g
    go false e g =
        let pair : ◌≡◌ {A = Option A × List T} (None, ts) (x, rest) = cc in
        subst (λ (p : Option A × List T). next_is (or_first test l p.0) p.1 ≡ false) pair e

module _ {T A : Type 0} (test : T → Bool) (r : Reader T SyntaxFault A) (L W : A → List T → Type 0) (more : A → T → Bool) (ir : IsReader r L W more) (opens : Opens L test) where
  to_maybe : (M : A → List T → Type 0) (x : Option A) (s : List T) → EitherOf (ImageOf Some M) (EmptySequence None) x s → OptionalSequence M x s
  to_maybe M x s (inl h) = subst (λ x. OptionalSequence M x s) (sym h.2) h.1
  to_maybe M x s (inr h) = subst (λ x. OptionalSequence M x s) (sym h.0) h.1

  from_maybe : (x : Option A) (s : List T) → OptionalSequence L x s → EitherOf (ImageOf Some L) (EmptySequence None) x s
  from_maybe None s h = inr (refl, h)
  from_maybe (Some x) s h = inl (x, h, refl)

  nothing_stands : (x : Option A) (s rest : List T) → EmptySequence None x s → next_is (or_first test more x) rest ≡ false → next_is test (s ++ rest) ≡ false
  nothing_stands x s rest h e = ap (λ l. next_is test (l ++ rest)) h.1 ∙ (ap (λ x. next_is (or_first test more x) rest) (sym h.0) ∙ e)

  pub maybe_reads : IsReader (optional_read test r) (OptionalSequence L) (OptionalSequence W) (or_first test more)
  maybe_reads =
      same_reads (optional_read test r) (EitherOf (ImageOf Some L) (EmptySequence None)) (EitherOf (ImageOf Some W) (EmptySequence None)) (OptionalSequence L) (OptionalSequence W) (or_first test more)
      (choice_reads test (image_read Some r) (empty_read None) (ImageOf Some L) (ImageOf Some W) (EmptySequence None) (EmptySequence None) (or_first test more)
      (mapped_reads Some r L W more (or_first test more) ir (λ x rest e. e)) (nothing_reads None (or_first test more))
      (mapped_opens Some L test opens) nothing_stands)
      (to_maybe L) from_maybe (to_maybe W)
