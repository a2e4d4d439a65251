-- Laws of readers: what they read is in their language, and they look no further than one token.
use Rattle.std.proofs.Common.{◌≡◌, ℕ, zero, suc, ◌<◌, ◌≤◌, List, [], ◌∷◌, ◌++◌, length, Bool, true, false, cond, Ok, Err, Option, Some, None, ◌⊎◌, inl, inr, refl, sym, ap, ◌∙◌, subst, arith, append_assoc, length-append, append-nil}
use Rattle.scad_grammar.specs.declared.SyntaxFault.{SyntaxFault}
use Rattle.scad_grammar.specs.declared.SyntaxFault.TheVariants.{Expected, Nested, NotInProfile}
use Rattle.scad_grammar.specs.Reading.{Read, Reader, then_read, next_is, token_or_fault_read, image_read, empty_read, sequence_read, alternative_read, with_front, in_front, repeated_times, repeated_read}

abbrev pub SameHead : {T : Type 0} → List T → List T → Type 0
SameHead [] [] = Unit {0}
SameHead [] (u ∷ us) = ⊥
SameHead (t ∷ ts) [] = ⊥
SameHead (t ∷ ts) (u ∷ us) = t ≡ u

-- these tokens begin something of the language
abbrev pub IsPrefixIn : {T A : Type 0} → (A → List T → Type 0) → List T → Type 0
IsPrefixIn {T} {A} L s = (w : List T) × (x : A) × L x (s ++ w)

-- what of the rest a fault speaks of: a token that is too deep is one that a deeper thing has
abbrev pub seen : {T : Type 0} → SyntaxFault → List T → List T
seen Nested [] = []
seen Nested (t ∷ ts) = t ∷ []
seen Expected ts = []
seen NotInProfile ts = []

abbrev pub IsPlain : SyntaxFault → Type 0
IsPlain Nested = ⊥
IsPlain Expected = Unit {0}
IsPlain NotInProfile = Unit {0}

pub plain_seen : {T : Type 0} (k : SyntaxFault) (ts : List T) → IsPlain k → seen k ts ≡ []
plain_seen Nested ts h = elim h [ ]
plain_seen Expected ts h = refl
plain_seen NotInProfile ts h = refl

-- What was read is in the language, or it begins something of it. With other tokens behind the next one the reading is the
-- same.
abbrev pub Told : {T A : Type 0} → Reader T SyntaxFault A → (A → List T → Type 0) → (A → List T → Type 0) → List T → Read T SyntaxFault A → Type 0
Told {T} r L W ts (Ok p) = (s : List T) × (ts ≡ s ++ p.1) × L p.0 s × ((rest : List T) → SameHead p.1 rest → r (s ++ rest) ≡ Ok (p.0, rest))
Told {T} r L W ts (Err e) = (s : List T) × (ts ≡ s ++ e.1) × IsPrefixIn W (s ++ seen e.0 e.1) × ((rest : List T) → SameHead e.1 rest → r (s ++ rest) ≡ Err (e.0, rest))

-- W is the language without a limit on depth
pub record IsReader {T A : Type 0} (r : Reader T SyntaxFault A) (L W : A → List T → Type 0) (more : A → T → Bool) : Type 0 where
  pub told : (ts : List T) → Told r L W ts (r ts)
  pub wide : (x : A) (s : List T) → L x s → W x s
  pub complete : (x : A) (s rest : List T) → L x s → next_is (more x) rest ≡ false → r (s ++ rest) ≡ Ok (x, rest)

pub same_behind : {T : Type 0} (s a b : List T) → SameHead a b → SameHead (s ++ a) (s ++ b)
same_behind [] a b h = h
same_behind (t ∷ s) a b h = refl

pub same_start : {T : Type 0} (test : T → Bool) (a b : List T) → SameHead a b → next_is test b ≡ next_is test a
same_start test [] [] h = refl
same_start test [] (u ∷ us) h = elim h [ ]
same_start test (t ∷ ts) [] h = elim h [ ]
same_start test (t ∷ ts) (u ∷ us) h = ap test (sym h)

abbrev pub SingleToken : {T : Type 0} → (T → Bool) → T → List T → Type 0
SingleToken test t s = (test t ≡ true) × (s ≡ t ∷ [])

one_told : {T : Type 0} (test : T → Bool) (fault : Option T → SyntaxFault) (plain : (o : Option T) → IsPlain (fault o)) (some : (t : T) × (test t ≡ true)) (t : T) (ts : List T) (b : Bool) → test t ≡ b → Told (token_or_fault_read test fault) (SingleToken test) (SingleToken test) (t ∷ ts) (cond b (Ok (t, ts)) (Err (fault (Some t), t ∷ ts)))
one_told test fault plain some t ts true e = (t ∷ [], refl, (e, refl), λ rest h. rw e refl)
one_told test fault plain some t ts false e = ([], refl, (some.0 ∷ [], some.0, (some.1, ap (λ l. l ++ some.0 ∷ []) (plain_seen (fault (Some t)) (t ∷ ts) (plain (Some t))))), at)
  where
    at : (rest : List _) → SameHead (t ∷ ts) rest → token_or_fault_read test fault rest ≡ Err (fault (Some t), rest)
    at [] h = elim h [ ]
    at (u ∷ us) h = let n : test u ≡ false = ap test (sym h) ∙ e in rw n (ap (λ v. Err (fault (Some v), u ∷ us)) (sym h))

pub one_reads : {T : Type 0} (test : T → Bool) (fault : Option T → SyntaxFault) (plain : (o : Option T) → IsPlain (fault o)) (some : (t : T) × (test t ≡ true)) → IsReader (token_or_fault_read test fault) (SingleToken test) (SingleToken test) (λ x t. false)
one_reads {T} test fault plain some = record { told = told; wide = λ x s h. h; complete = λ x s rest h e. subst (λ (s : List T). token_or_fault_read test fault (s ++ rest) ≡ Ok (x, rest)) (sym h.1) (rw h.0 refl) }
  where
    told : (ts : List T) → Told (token_or_fault_read test fault) (SingleToken test) (SingleToken test) ts (token_or_fault_read test fault ts)
    told [] = ([], refl, (some.0 ∷ [], some.0, (some.1, ap (λ l. l ++ some.0 ∷ []) (plain_seen {T = T} (fault None) [] (plain None)))), at)
      where
        at : (rest : List T) → SameHead {T = T} [] rest → token_or_fault_read test fault rest ≡ Err (fault None, rest)
        at [] h = refl
        at (u ∷ us) h = elim h [ ]
    told (t ∷ ts) = one_told test fault plain some t ts (test t) refl

-- one after the other
abbrev pub Concatenation : {T A B C : Type 0} → (A → B → C) → (A → List T → Type 0) → (B → List T → Type 0) → C → List T → Type 0
Concatenation {T} {A} {B} {C} f La Lb c s = (a : A) × (b : B) × (p : List T) × (q : List T) × La a p × Lb b q × (c ≡ f a b) × (s ≡ p ++ q)

module _ {T A B C : Type 0} (f : A → B → C) (ra : Reader T SyntaxFault A) (rb : Reader T SyntaxFault B) (La Wa : A → List T → Type 0) (Lb Wb : B → List T → Type 0) (ma : A → T → Bool) (mb : B → T → Bool) (mc : C → T → Bool)
    (ia : IsReader ra La Wa ma) (ib : IsReader rb Lb Wb mb) (some : (w : List T) × (y : B) × Wb y w)
    (follows : (x : A) (y : B) (s rest : List T) → Lb y s → next_is (mc (f x y)) rest ≡ false → next_is (ma x) (s ++ rest) ≡ false)
    (down : (x : A) (y : B) (rest : List T) → next_is (mc (f x y)) rest ≡ false → next_is (mb y) rest ≡ false) where
  both_second : (ts : List T) (a : A) (ts' : List T) → Told ra La Wa ts (Ok (a, ts')) → (r : Read T SyntaxFault B) → rb ts' ≡ r → Told rb Lb Wb ts' r
      → Told (sequence_read f ra rb) (Concatenation f La Lb) (Concatenation f Wa Wb) ts (then_read r (λ b ts. Ok (f a b, ts)))
  both_second ts a ts' t (Ok q) e u = (
    t.0 ++ u.0,
    t.1 ∙ ap (λ l. t.0 ++ l) u.1 ∙ sym (append_assoc t.0 u.0 q.1),
    (a, q.0, t.0, u.0, t.2, u.2, refl, refl),
    λ rest h.
        ap (sequence_read f ra rb) (append_assoc t.0 u.0 rest)
        ∙ ap (λ r. then_read r (λ a ts. then_read (rb ts) (λ b ts. Ok (f a b, ts)))) (t.3 (u.0 ++ rest) (subst (λ l. SameHead l (u.0 ++ rest)) (sym u.1) (same_behind u.0 q.1 rest h)))
        ∙ ap (λ r. then_read r (λ b ts. Ok (f a b, ts))) (u.3 rest h),
  )
  both_second ts a ts' t (Err x) e u = (
    t.0 ++ u.0,
    t.1 ∙ ap (λ l. t.0 ++ l) u.1 ∙ sym (append_assoc t.0 u.0 x.1),
    (u.2.0, f a u.2.1, (a, u.2.1, t.0, (u.0 ++ seen x.0 x.1) ++ u.2.0, ia.wide a t.0 t.2, u.2.2, refl, ap (λ l. l ++ u.2.0) (append_assoc t.0 u.0 (seen x.0 x.1)) ∙ append_assoc t.0 (u.0 ++ seen x.0 x.1) u.2.0)),
    λ rest h.
        ap (sequence_read f ra rb) (append_assoc t.0 u.0 rest)
        ∙ ap (λ r. then_read r (λ a ts. then_read (rb ts) (λ b ts. Ok (f a b, ts)))) (t.3 (u.0 ++ rest) (subst (λ l. SameHead l (u.0 ++ rest)) (sym u.1) (same_behind u.0 x.1 rest h)))
        ∙ ap (λ r. then_read r (λ b ts. Ok (f a b, ts))) (u.3 rest h),
  )

  both_first : (ts : List T) (r : Read T SyntaxFault A) → Told ra La Wa ts r → Told (sequence_read f ra rb) (Concatenation f La Lb) (Concatenation f Wa Wb) ts (then_read r (λ a ts. then_read (rb ts) (λ b ts. Ok (f a b, ts))))
  both_first ts (Ok p) t = both_second ts p.0 p.1 t (rb p.1) refl (ib.told p.1)
  both_first ts (Err x) t = (
    t.0,
    t.1,
    (t.2.0 ++ some.0, f t.2.1 some.1, (t.2.1, some.1, (t.0 ++ seen x.0 x.1) ++ t.2.0, some.0, t.2.2, some.2, refl, sym (append_assoc (t.0 ++ seen x.0 x.1) t.2.0 some.0))),
    λ rest h. ap (λ r. then_read r (λ a ts. then_read (rb ts) (λ b ts. Ok (f a b, ts)))) (t.3 rest h),
  )

  both_complete : (c : C) (s rest : List T) → Concatenation f La Lb c s → next_is (mc c) rest ≡ false → sequence_read f ra rb (s ++ rest) ≡ Ok (c, rest)
  both_complete c s rest h e =
      let end : next_is (mc (f h.0 h.1)) rest ≡ false = ap (λ c. next_is (mc c) rest) (sym h.6) ∙ e in
      ap (λ l. sequence_read f ra rb (l ++ rest)) h.7 ∙ ap (sequence_read f ra rb) (append_assoc h.2 h.3 rest)
      ∙ ap (λ r. then_read r (λ a ts. then_read (rb ts) (λ b ts. Ok (f a b, ts)))) (ia.complete h.0 h.2 (h.3 ++ rest) h.4 (follows h.0 h.1 h.3 rest h.5 end))
      ∙ ap (λ r. then_read r (λ b ts. Ok (f h.0 b, ts))) (ib.complete h.1 h.3 rest h.5 (down h.0 h.1 rest end))
      ∙ ap (λ c. Ok (c, rest)) (sym h.6)

  pub both_reads : IsReader (sequence_read f ra rb) (Concatenation f La Lb) (Concatenation f Wa Wb) mc
  both_reads = record { told = λ ts. both_first ts (ra ts) (ia.told ts); wide = λ c s h. (h.0, h.1, h.2, h.3, ia.wide h.0 h.2 h.4, ib.wide h.1 h.3 h.5, h.6, h.7); complete = both_complete }

-- the one or the other
abbrev pub EitherOf : {T A : Type 0} → (A → List T → Type 0) → (A → List T → Type 0) → A → List T → Type 0
EitherOf La Lb x s = La x s ⊎ Lb x s

module _ {T A : Type 0} (test : T → Bool) (ra rb : Reader T SyntaxFault A) (La Wa Lb Wb : A → List T → Type 0) (more : A → T → Bool)
    (ia : IsReader ra La Wa more) (ib : IsReader rb Lb Wb more)
    (first : (x : A) (s rest : List T) → La x s → next_is test (s ++ rest) ≡ true)
    (other : (x : A) (s rest : List T) → Lb x s → next_is (more x) rest ≡ false → next_is test (s ++ rest) ≡ false) where
  choice_of : (ts : List T) (b : Bool) → next_is test ts ≡ b → (r q : Read T SyntaxFault A) → Told ra La Wa ts r → Told rb Lb Wb ts q → Told (alternative_read test ra rb) (EitherOf La Lb) (EitherOf Wa Wb) ts (cond b r q)
  choice_of ts true e (Ok p) q t u = (
    t.0,
    t.1,
    inl t.2,
    λ rest h.
        ap (λ b. cond b (ra (t.0 ++ rest)) (rb (t.0 ++ rest))) (same_start test (t.0 ++ p.1) (t.0 ++ rest) (same_behind t.0 p.1 rest h) ∙ ap (next_is test) (sym t.1) ∙ e) ∙ t.3 rest h,
  )
  choice_of ts true e (Err p) q t u = (
    t.0,
    t.1,
    (t.2.0, t.2.1, inl t.2.2),
    λ rest h.
        ap (λ b. cond b (ra (t.0 ++ rest)) (rb (t.0 ++ rest))) (same_start test (t.0 ++ p.1) (t.0 ++ rest) (same_behind t.0 p.1 rest h) ∙ ap (next_is test) (sym t.1) ∙ e) ∙ t.3 rest h,
  )
  choice_of ts false e r (Ok p) t u = (
    u.0,
    u.1,
    inr u.2,
    λ rest h.
        ap (λ b. cond b (ra (u.0 ++ rest)) (rb (u.0 ++ rest))) (same_start test (u.0 ++ p.1) (u.0 ++ rest) (same_behind u.0 p.1 rest h) ∙ ap (next_is test) (sym u.1) ∙ e) ∙ u.3 rest h,
  )
  choice_of ts false e r (Err p) t u = (
    u.0,
    u.1,
    (u.2.0, u.2.1, inr u.2.2),
    λ rest h.
        ap (λ b. cond b (ra (u.0 ++ rest)) (rb (u.0 ++ rest))) (same_start test (u.0 ++ p.1) (u.0 ++ rest) (same_behind u.0 p.1 rest h) ∙ ap (next_is test) (sym u.1) ∙ e) ∙ u.3 rest h,
  )

  choice_complete : (x : A) (s rest : List T) → EitherOf La Lb x s → next_is (more x) rest ≡ false → alternative_read test ra rb (s ++ rest) ≡ Ok (x, rest)
  choice_complete x s rest (inl h) e = ap (λ b. cond b (ra (s ++ rest)) (rb (s ++ rest))) (first x s rest h) ∙ ia.complete x s rest h e
  choice_complete x s rest (inr h) e = ap (λ b. cond b (ra (s ++ rest)) (rb (s ++ rest))) (other x s rest h e) ∙ ib.complete x s rest h e

  pub choice_reads : IsReader (alternative_read test ra rb) (EitherOf La Lb) (EitherOf Wa Wb) more
  choice_reads = record { told = λ ts. choice_of ts (next_is test ts) refl (ra ts) (rb ts) (ia.told ts) (ib.told ts); wide = wider; complete = choice_complete }
    where
      wider : (x : A) (s : List T) → EitherOf La Lb x s → EitherOf Wa Wb x s
      wider x s (inl h) = inl (ia.wide x s h)
      wider x s (inr h) = inr (ib.wide x s h)

-- nothing is read
abbrev pub EmptySequence : {T A : Type 0} → A → A → List T → Type 0
EmptySequence a x s = (x ≡ a) × (s ≡ [])

pub nothing_reads : {T A : Type 0} (a : A) (more : A → T → Bool) → IsReader (empty_read a) (EmptySequence a) (EmptySequence a) more
nothing_reads a more = record {
  told = λ ts. ([], refl, (refl, refl), λ rest h. refl);
  wide = λ x s h. h;
  complete = λ x s rest h e. ap (λ l. Ok (a, l ++ rest)) h.1 ∙ ap (λ x. Ok (x, rest)) (sym h.0);
}

-- the same language in other words
pub same_reads : {T A : Type 0} (r : Reader T SyntaxFault A) (L W M V : A → List T → Type 0) (more : A → T → Bool) → IsReader r L W more
    → ((x : A) (s : List T) → L x s → M x s) → ((x : A) (s : List T) → M x s → L x s) → ((x : A) (s : List T) → W x s → V x s) → IsReader r M V more
same_reads {T} {A} r L W M V more ir to from wide = record { told = λ ts. told ts (r ts) (ir.told ts); wide = λ x s h. wide x s (ir.wide x s (from x s h)); complete = λ x s rest h e. ir.complete x s rest (from x s h) e }
  where
    told : (ts : List T) (q : Read T SyntaxFault A) → Told r L W ts q → Told r M V ts q
    told ts (Ok p) t = (t.0, t.1, to p.0 t.0 t.2, t.3)
    told ts (Err e) t = (t.0, t.1, (t.2.0, t.2.1, wide t.2.1 ((t.0 ++ seen e.0 e.1) ++ t.2.0) t.2.2), t.3)

-- with more tokens that may go on
pub more_reads : {T A : Type 0} (r : Reader T SyntaxFault A) (L W : A → List T → Type 0) (more much : A → T → Bool) → IsReader r L W more
    → ((x : A) (rest : List T) → next_is (much x) rest ≡ false → next_is (more x) rest ≡ false) → IsReader r L W much
more_reads r L W more much ir h = record { told = ir.told; wide = ir.wide; complete = λ x s rest l e. ir.complete x s rest l (h x rest e) }

abbrev pub Repetition : {T A : Type 0} → (A → List T → Type 0) → List A → List T → Type 0
Repetition L [] s = s ≡ []
Repetition {T} L (x ∷ xs) s = (p : List T) × (q : List T) × L x p × Repetition L xs q × (s ≡ p ++ q)

module _ {T A : Type 0} (test : T → Bool) (r : Reader T SyntaxFault A) (L W : A → List T → Type 0) (more : A → T → Bool) (wide : T → Bool) (ir : IsReader r L W more)
    (first : (x : A) (s rest : List T) → L x s → next_is test (s ++ rest) ≡ true)
    (apart : (x : A) (rest : List T) → next_is test rest ≡ true → next_is (more x) rest ≡ false)
    (no_more : (x : A) (rest : List T) → next_is wide rest ≡ false → next_is (more x) rest ≡ false)
    (no_test : (rest : List T) → next_is wide rest ≡ false → next_is test rest ≡ false) where
  some_read : (x : A) (s : List T) → L x s → 0 < length s
  some_read x [] h = absurd (let e = first x [] [] h in cc)
  some_read x (t ∷ s) h = omega arith

  shrinks : (ts : List T) (q : Read T SyntaxFault A) → Told r L W ts q → (p : A × List T) → q ≡ Ok p → length p.1 < length ts
  shrinks ts (Ok q) t p e =
      let same : q.1 ≡ p.1 = ap (λ (p : A × List T). p.1) (let f : q ≡ p = cc in f) in
      omega (arith, ap length t.1, length-append t.0 q.1, some_read q.0 t.0 t.2, ap length same)
  shrinks ts (Err x) t p e = absurd (cc)

  enough_after : (n m : ℕ) → ((k : ℕ) (us : List T) → length us ≤ n → length us ≤ k → repeated_times n test r us ≡ repeated_times k test r us)
      → (ts : List T) → length ts ≤ suc n → length ts ≤ suc m → (q : Read T SyntaxFault A) → r ts ≡ q → then_read q (λ x us. with_front x (repeated_times n test r us)) ≡ then_read q (λ x us. with_front x (repeated_times m test r us))
  enough_after n m same ts a b (Ok p) e =
      let less : length p.1 < length ts = shrinks ts (r ts) (ir.told ts) p e in
      ap (with_front p.0) (same m p.1 (omega arith) (omega arith))
  enough_after n m same ts a b (Err x) e = refl

  enough : (n m : ℕ) (ts : List T) → length ts ≤ n → length ts ≤ m → repeated_times n test r ts ≡ repeated_times m test r ts
  unfolding repeated_times
  enough zero zero ts a b = refl
  enough zero (suc m) [] a b = refl
  enough zero (suc m) (t ∷ ts) a b = absurd (omega arith)
  enough (suc n) zero [] a b = refl
  enough (suc n) zero (t ∷ ts) a b = absurd (omega arith)
  enough (suc n) (suc m) ts a b = ap (λ q. cond (next_is test ts) q (Ok ([], ts))) (enough_after n m (enough n) ts a b (r ts) refl)

  step_after : (n : ℕ) (ts : List T) → length ts ≤ suc n → (q : Read T SyntaxFault A) → r ts ≡ q → then_read q (λ x us. with_front x (repeated_times n test r us)) ≡ then_read q (λ x us. with_front x (repeated_read test r us))
  unfolding repeated_read
  step_after n ts a (Ok p) e =
      let less : length p.1 < length ts = shrinks ts (r ts) (ir.told ts) p e in
      ap (with_front p.0) (enough n (length p.1) p.1 (omega arith) (omega arith))
  step_after n ts a (Err x) e = refl

  -- one more, or none
  pub many_step : (ts : List T) → repeated_read test r ts ≡ cond (next_is test ts) (then_read (r ts) (λ x us. with_front x (repeated_read test r us))) (Ok ([], ts))
  unfolding repeated_read repeated_times
  many_step [] = refl
  many_step (t ∷ ts) = ap (λ q. cond (test t) q (Ok ([], t ∷ ts))) (step_after (length ts) (t ∷ ts) (omega arith) (r (t ∷ ts)) refl)

  pub many_front : (ts : List T) (x : A) (us : List T) → next_is test ts ≡ true → r ts ≡ Ok (x, us) → repeated_read test r ts ≡ with_front x (repeated_read test r us)
  many_front ts x us a b = many_step ts ∙ ap (λ c. cond c (then_read (r ts) (λ x us. with_front x (repeated_read test r us))) (Ok ([], ts))) a ∙ ap (λ q. then_read q (λ x us. with_front x (repeated_read test r us))) b

  pub many_none : (ts : List T) → next_is test ts ≡ false → repeated_read test r ts ≡ Ok ([], ts)
  many_none ts a = many_step ts ∙ ap (λ c. cond c (then_read (r ts) (λ x us. with_front x (repeated_read test r us))) (Ok ([], ts))) a

  pub many_fault : (ts : List T) (e : SyntaxFault × List T) → next_is test ts ≡ true → r ts ≡ Err e → repeated_read test r ts ≡ Err e
  many_fault ts e a b = many_step ts ∙ ap (λ c. cond c (then_read (r ts) (λ x us. with_front x (repeated_read test r us))) (Ok ([], ts))) a ∙ ap (λ q. then_read q (λ x us. with_front x (repeated_read test r us))) b

  start_of : (s a b : List T) → SameHead a b → next_is test (s ++ a) ≡ true → next_is test (s ++ b) ≡ true
  start_of s a b h e = same_start test (s ++ a) (s ++ b) (same_behind s a b h) ∙ e

  told_rest : (ts : List T) (x : A) (us : List T) → next_is test ts ≡ true → Told r L W ts (Ok (x, us)) → (q : Read T SyntaxFault (List A)) → Told (repeated_read test r) (Repetition L) (Repetition W) us q → Told (repeated_read test r) (Repetition L) (Repetition W) ts (with_front x q)
  told_rest ts x us e t (Ok p) u = (
    t.0 ++ u.0,
    t.1 ∙ ap (λ l. t.0 ++ l) u.1 ∙ sym (append_assoc t.0 u.0 p.1),
    (t.0, u.0, t.2, u.2, refl),
    λ rest h.
        let behind = subst (λ l. SameHead l (u.0 ++ rest)) (sym u.1) (same_behind u.0 p.1 rest h) in
        ap (repeated_read test r) (append_assoc t.0 u.0 rest)
        ∙ many_front (t.0 ++ (u.0 ++ rest)) x (u.0 ++ rest) (start_of t.0 us (u.0 ++ rest) behind (ap (next_is test) (sym t.1) ∙ e)) (t.3 (u.0 ++ rest) behind)
        ∙ ap (with_front x) (u.3 rest h),
  )
  told_rest ts x us e t (Err p) u = (
    t.0 ++ u.0,
    t.1 ∙ ap (λ l. t.0 ++ l) u.1 ∙ sym (append_assoc t.0 u.0 p.1),
    (u.2.0, x ∷ u.2.1, (t.0, (u.0 ++ seen p.0 p.1) ++ u.2.0, ir.wide x t.0 t.2, u.2.2, ap (λ l. l ++ u.2.0) (append_assoc t.0 u.0 (seen p.0 p.1)) ∙ append_assoc t.0 (u.0 ++ seen p.0 p.1) u.2.0)),
    λ rest h.
        let behind = subst (λ l. SameHead l (u.0 ++ rest)) (sym u.1) (same_behind u.0 p.1 rest h) in
        ap (repeated_read test r) (append_assoc t.0 u.0 rest)
        ∙ many_front (t.0 ++ (u.0 ++ rest)) x (u.0 ++ rest) (start_of t.0 us (u.0 ++ rest) behind (ap (next_is test) (sym t.1) ∙ e)) (t.3 (u.0 ++ rest) behind)
        ∙ ap (with_front x) (u.3 rest h),
  )

  told_step : (n : ℕ) → ((us : List T) → length us ≤ n → Told (repeated_read test r) (Repetition L) (Repetition W) us (repeated_read test r us)) → (ts : List T) → length ts ≤ suc n → (b : Bool) → next_is test ts ≡ b
      → (q : Read T SyntaxFault A) → r ts ≡ q → Told r L W ts q → Told (repeated_read test r) (Repetition L) (Repetition W) ts (cond b (then_read q (λ x us. with_front x (repeated_read test r us))) (Ok ([], ts)))
  told_step n ih ts a true e (Ok p) f t =
      let less : length p.1 < length ts = shrinks ts (r ts) (ir.told ts) p f in
      told_rest ts p.0 p.1 e t (repeated_read test r p.1) (ih p.1 (omega arith))
  told_step n ih ts a true e (Err p) f t = (
    t.0,
    t.1,
    (t.2.0, t.2.1 ∷ [], ((t.0 ++ seen p.0 p.1) ++ t.2.0, [], t.2.2, refl, sym (append-nil ((t.0 ++ seen p.0 p.1) ++ t.2.0)))),
    λ rest h.
        many_fault (t.0 ++ rest) (p.0, rest) (start_of t.0 p.1 rest h (ap (next_is test) (sym t.1) ∙ e)) (t.3 rest h),
  )
  told_step n ih ts a false e q f t = ([], refl, refl, λ rest h. many_none rest (same_start test ts rest h ∙ e))

  told_many : (n : ℕ) (ts : List T) → length ts ≤ n → Told (repeated_read test r) (Repetition L) (Repetition W) ts (repeated_read test r ts)
  told_many zero [] a = subst (Told (repeated_read test r) (Repetition L) (Repetition W) []) (sym (many_none [] refl)) ([], refl, refl, λ rest h. many_none rest (same_start test [] rest h))
  told_many zero (t ∷ ts) a = absurd (omega arith)
  told_many (suc n) ts a = subst (Told (repeated_read test r) (Repetition L) (Repetition W) ts) (sym (many_step ts)) (told_step n (told_many n) ts a (next_is test ts) refl (r ts) refl (ir.told ts))

  -- what follows an item doesn't go on with it
  item_ends : (y : A) (xs : List A) (s rest : List T) → Repetition L xs s → next_is wide rest ≡ false → next_is (more y) (s ++ rest) ≡ false
  item_ends y [] s rest h e = ap (λ l. next_is (more y) (l ++ rest)) h ∙ no_more y rest e
  item_ends y (x ∷ xs) s rest h e = ap (λ l. next_is (more y) (l ++ rest)) h.4 ∙ ap (next_is (more y)) (append_assoc h.0 h.1 rest) ∙ apart y (h.0 ++ (h.1 ++ rest)) (first x h.0 (h.1 ++ rest) h.2)

  complete_many : (xs : List A) (s rest : List T) → Repetition L xs s → next_is wide rest ≡ false → repeated_read test r (s ++ rest) ≡ Ok (xs, rest)
  complete_many [] s rest h e = ap (λ l. repeated_read test r (l ++ rest)) h ∙ many_none rest (no_test rest e)
  complete_many (x ∷ xs) s rest h e =
      ap (λ l. repeated_read test r (l ++ rest)) h.4 ∙ ap (repeated_read test r) (append_assoc h.0 h.1 rest)
      ∙ many_front (h.0 ++ (h.1 ++ rest)) x (h.1 ++ rest) (first x h.0 (h.1 ++ rest) h.2) (ir.complete x h.0 (h.1 ++ rest) h.2 (item_ends x xs h.1 rest h.3 e))
      ∙ ap (with_front x) (complete_many xs h.1 rest h.3 e)

  wide_many : (xs : List A) (s : List T) → Repetition L xs s → Repetition W xs s
  wide_many [] s h = h
  wide_many (x ∷ xs) s h = (h.0, h.1, ir.wide x h.0 h.2, wide_many xs h.1 h.3, h.4)

  pub many_reads : IsReader (repeated_read test r) (Repetition L) (Repetition W) (λ xs. wide)
  many_reads = record { told = λ ts. told_many (length ts) ts (omega arith); wide = wide_many; complete = complete_many }

abbrev pub ImageOf : {T A B : Type 0} → (A → B) → (A → List T → Type 0) → B → List T → Type 0
ImageOf {T} {A} f L b s = (a : A) × L a s × (b ≡ f a)

pub mapped_reads : {T A B : Type 0} (f : A → B) (r : Reader T SyntaxFault A) (L W : A → List T → Type 0) (more : A → T → Bool) (next : B → T → Bool) → IsReader r L W more → ((x : A) (rest : List T) → next_is (next (f x)) rest ≡ false → next_is (more x) rest ≡ false) → IsReader (image_read f r) (ImageOf f L) (ImageOf f W) next
mapped_reads {T} {A} {B} f r L W more next ir down = record {
  told = λ ts. told ts (r ts) (ir.told ts);
  wide = λ b s h. (h.0, ir.wide h.0 s h.1, h.2);
  complete = λ b s rest h e. ap (λ q. then_read q (λ a ts. Ok (f a, ts))) (ir.complete h.0 s rest h.1 (down h.0 rest (ap (λ b. next_is (next b) rest) (sym h.2) ∙ e))) ∙ ap (λ b. Ok (b, rest)) (sym h.2);
}
  where
    told : (ts : List T) (q : Read T SyntaxFault A) → Told r L W ts q → Told (image_read f r) (ImageOf f L) (ImageOf f W) ts (then_read q (λ a ts. Ok (f a, ts)))
    told ts (Ok p) t = (t.0, t.1, (p.0, t.2, refl), λ rest h. ap (λ q. then_read q (λ a ts. Ok (f a, ts))) (t.3 rest h))
    told ts (Err e) t = (t.0, t.1, (t.2.0, f t.2.1, (t.2.1, t.2.2, refl)), λ rest h. ap (λ q. then_read q (λ a ts. Ok (f a, ts))) (t.3 rest h))

-- each thing of the language begins with one of these
abbrev pub Opens : {T A : Type 0} → (A → List T → Type 0) → (T → Bool) → Type 0
Opens {T} {A} L test = (x : A) (s rest : List T) → L x s → next_is test (s ++ rest) ≡ true

pub one_opens : {T : Type 0} (test : T → Bool) → Opens (SingleToken test) test
one_opens test t s rest h = ap (λ l. next_is test (l ++ rest)) h.1 ∙ h.0

pub both_opens : {T A B C : Type 0} (f : A → B → C) (La : A → List T → Type 0) (Lb : B → List T → Type 0) (test : T → Bool) → Opens La test → Opens (Concatenation f La Lb) test
both_opens f La Lb test o c s rest h = ap (λ l. next_is test (l ++ rest)) h.7 ∙ ap (next_is test) (append_assoc h.2 h.3 rest) ∙ o h.0 h.2 (h.3 ++ rest) h.4

pub mapped_opens : {T A B : Type 0} (f : A → B) (L : A → List T → Type 0) (test : T → Bool) → Opens L test → Opens (ImageOf f L) test
mapped_opens f L test o b s rest h = o h.0 s rest h.1

pub either_opens : {T A : Type 0} (La Lb : A → List T → Type 0) (test : T → Bool) → Opens La test → Opens Lb test → Opens (EitherOf La Lb) test
either_opens La Lb test o p x s rest (inl h) = o x s rest h
either_opens La Lb test o p x s rest (inr h) = p x s rest h

-- a test that holds of less
pub starts_of : {T : Type 0} (a b : T → Bool) → ((t : T) → a t ≡ true → b t ≡ true) → (l : List T) → next_is a l ≡ true → next_is b l ≡ true
starts_of a b h [] e = absurd (cc)
starts_of a b h (t ∷ l) e = h t e

pub starts_not : {T : Type 0} (a b : T → Bool) → ((t : T) → a t ≡ true → b t ≡ false) → (l : List T) → next_is a l ≡ true → next_is b l ≡ false
starts_not a b h [] e = absurd (cc)
starts_not a b h (t ∷ l) e = h t e

pub starts_less : {T : Type 0} (a b : T → Bool) → ((t : T) → a t ≡ false → b t ≡ false) → (l : List T) → next_is a l ≡ false → next_is b l ≡ false
starts_less a b h [] e = refl
starts_less a b h (t ∷ l) e = h t e

pub never_starts : {T : Type 0} (l : List T) → next_is (λ t. false) l ≡ false
never_starts [] = refl
never_starts (t ∷ l) = refl

-- what follows a repetition
pub many_follows : {T A : Type 0} (L : A → List T → Type 0) (test more wide : T → Bool) → Opens L test → ((l : List T) → next_is test l ≡ true → next_is more l ≡ false) → ((l : List T) → next_is wide l ≡ false → next_is more l ≡ false)
    → (xs : List A) (s rest : List T) → Repetition L xs s → next_is wide rest ≡ false → next_is more (s ++ rest) ≡ false
many_follows L test more wide o a w [] s rest h e = ap (λ l. next_is more (l ++ rest)) h ∙ w rest e
many_follows L test more wide o a w (x ∷ xs) s rest h e = ap (λ l. next_is more (l ++ rest)) h.4 ∙ ap (next_is more) (append_assoc h.0 h.1 rest) ∙ a (h.0 ++ (h.1 ++ rest)) (o x h.0 (h.1 ++ rest) h.2)

-- a loop's step: what was read so far goes on
pub in_front_more : {T A : Type 0} (xs : List A) (x : A) (q : Read T SyntaxFault (List A)) → in_front xs (with_front x q) ≡ in_front (xs ++ x ∷ []) q
in_front_more xs x (Ok p) = ap (λ l. Ok (l, p.1)) (sym (append_assoc xs (x ∷ []) p.0))
in_front_more xs x (Err e) = refl

pub loop_more : {T A : Type 0} (whole q next : Read T SyntaxFault (List A)) (xs : List A) (x : A) → whole ≡ in_front xs q → q ≡ with_front x next → whole ≡ in_front (xs ++ x ∷ []) next
loop_more whole q next xs x e f = e ∙ ap (in_front xs) f ∙ in_front_more xs x next

pub loop_end : {T A : Type 0} (whole q : Read T SyntaxFault (List A)) (xs : List A) (ts : List T) → whole ≡ in_front xs q → q ≡ Ok ([], ts) → whole ≡ Ok (xs, ts)
loop_end whole q xs ts e f = e ∙ ap (in_front xs) f ∙ ap (λ l. Ok (l, ts)) (append-nil xs)

pub loop_fault : {T A : Type 0} (whole q : Read T SyntaxFault (List A)) (xs : List A) (x : SyntaxFault × List T) → whole ≡ in_front xs q → q ≡ Err x → whole ≡ Err x
loop_fault whole q xs x e f = e ∙ ap (in_front xs) f
