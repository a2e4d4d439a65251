-- A fault of the reading is the first one, and what is read is a program.
use Rattle.std.proofs.Common.{◌≡◌, ◌≢◌, ℕ, zero, suc, ◌+◌, ◌≤◌, List, [], ◌∷◌, ◌++◌, length, Bool, true, false, cond, Ok, Err, Some, ◌⊎◌, inl, inr, refl, sym, ap, ◌∙◌, subst, arith, append_assoc, append-nil, length-append}
use Rattle.std.proofs.lemmas.List.{append_cancel_right}
use Rattle.scad_lexer.specs.declared.token.Token.{Token}
use Rattle.scad_lexer.specs.Tokens.{ends_once}
use Rattle.scad_ast.specs.Terms.{StatementTerm}
use Rattle.scad_grammar.specs.declared.SyntaxFault.{SyntaxFault}
use Rattle.scad_grammar.specs.declared.SyntaxFault.TheVariants.{Expected, Nested, NotInProfile}
use Rattle.scad_grammar.specs.Classes.{numeral_class, end_class, has_class_in, has_class, token_class}
use Rattle.scad_grammar.specs.Languages.{Language, first_of}
use Rattle.scad_grammar.specs.Reading.{Read, then_read, repeated_read}
use Rattle.scad_grammar.specs.Faults.{TokenReader, token_read, fault_of, left_out_classes, left_out_of_expressions}
use Rattle.scad_grammar.specs.Grammar.{WholeProgram, ProgramWithGaps}
use Rattle.scad_grammar.specs.StatementReads.{firsts_of_statement, statement_read, program_read}
use Rattle.scad_grammar.specs.FirstFault.{IsProgramPrefix, IsShallowProgramPrefix, IsFault, IsFirstFault}
use Rattle.scad_grammar.proofs.lemmas.Readers.{IsPrefixIn, Told, IsReader, SameHead, seen}
use Rattle.scad_grammar.proofs.Tests.{classes_apart, classes_within, either_listed}
use Rattle.scad_grammar.proofs.lemmas.Expressions.{zero_token}
use Rattle.scad_grammar.proofs.lemmas.Shrinks.{left}
use Rattle.scad_grammar.proofs.Alike.{words, Past}
use Rattle.scad_grammar.proofs.Deeper.{program_agrees}
use Rattle.scad_grammar.proofs.Regular.{EndsOnce, ends_once_is, OfKind, Fair, many_fair, regular_statements}
use Rattle.scad_grammar.proofs.Lockstep.{Locked, before, earlier, everywhere, of_expressions, beyond, lock_program}
use Rattle.scad_grammar.proofs.Outlines.{outline_read, outline_reads}
use Rattle.scad_grammar.proofs.Gaps.{Cut, equal, refused, gapped, program_cut}
use Rattle.scad_grammar.proofs.lemmas.Statements.{program_reads}
use Rattle.scad_grammar.proofs.lemmas.Wider.{lift, is_outline}

abbrev ReadProgram : Type 0
ReadProgram = Read Token SyntaxFault (List StatementTerm)

-- two of the same reading
same_error : (k l : SyntaxFault) (at bt : List Token) (q : ReadProgram) → q ≡ Err (k, at) → q ≡ Err (l, bt) → ◌≡◌ {A = SyntaxFault × List Token} (k, at) (l, bt)
same_error k l at bt q e f = let g : ◌≡◌ {A = ReadProgram} (Err (k, at)) (Err (l, bt)) = sym e ∙ f in cc

same_kind : (k l : SyntaxFault) (at bt : List Token) (q : ReadProgram) → q ≡ Err (k, at) → q ≡ Err (l, bt) → k ≡ l
same_kind k l at bt q e f = ap (λ (p : SyntaxFault × List Token). p.0) (same_error k l at bt q e f)

same_place : (k l : SyntaxFault) (at bt : List Token) (q : ReadProgram) → q ≡ Err (k, at) → q ≡ Err (l, bt) → at ≡ bt
same_place k l at bt q e f = ap (λ (p : SyntaxFault × List Token). p.1) (same_error k l at bt q e f)

no_both : (x : List StatementTerm) (rest : List Token) (k : SyntaxFault) (at : List Token) (q : ReadProgram) → q ≡ Ok (x, rest) → q ≡ Err (k, at) → ⊥
no_both x rest k at q e f = absurd (let g : ◌≡◌ {A = ReadProgram} (Ok (x, rest)) (Err (k, at)) = sym e ∙ f in cc)

-- of two fronts of one list, the one whose rest is no longer has the other as its front
front_of : (u v s r : List Token) → u ++ v ≡ s ++ r → length r ≤ length v → (w : List Token) × (s ≡ u ++ w)
front_of [] v s r e l = (s, refl)
front_of (t ∷ u) v [] r e l = absurd (omega (arith, ap length e, length-append u v))
front_of (t ∷ u) v (y ∷ s) r e l =
    let pair : ◌≡◌ {A = Token × List Token} (t, u ++ v) (y, s ++ r) = cc in
    same_head (ap (λ (p : Token × List Token). p.0) pair) (front_of u v s r (ap (λ (p : Token × List Token). p.1) pair) l)
  where
    same_head : t ≡ y → (w : List Token) × (s ≡ u ++ w) → (w : List Token) × (y ∷ s ≡ t ∷ (u ++ w))
    same_head e k = (k.0, ap (λ h. h ∷ s) (sym e) ∙ ap (λ l. t ∷ l) k.1)

-- what a reader has gone beyond begins something
module _ (r : TokenReader (List StatementTerm)) (L W : Language (List StatementTerm)) (i : IsReader r L W (λ x t. false)) where
  reaches : (ts u v : List Token) → ts ≡ u ++ v → left (r ts) ≤ length v → IsPrefixIn W u
  reaches ts u v e l = go (r ts) l (i.told ts)
    where
      go : (q : ReadProgram) → left q ≤ length v → Told r L W ts q → IsPrefixIn W u
      go (Ok p) l t = let k = front_of u v t.0 p.1 (sym e ∙ t.1) l in (k.0, p.0, subst (W p.0) k.1 (i.wide p.0 t.0 t.2))
      go (Err x) l t =
          let k = front_of u v t.0 x.1 (sym e ∙ t.1) l in
          (k.0 ++ (seen x.0 x.1 ++ t.2.0), t.2.1, subst (W t.2.1) (append_assoc t.0 (seen x.0 x.1) t.2.0 ∙ ap (λ s. s ++ (seen x.0 x.1 ++ t.2.0)) k.1 ∙ append_assoc u k.0 (seen x.0 x.1 ++ t.2.0)) t.2.2)

  -- with the token of a fault nothing goes on
  dead : (ts : List Token) (fault : SyntaxFault) (t : Token) (more s : List Token) → r ts ≡ Err (fault, t ∷ more) → ts ≡ s ++ t ∷ more → (x : List StatementTerm) (w : List Token) → L x ((s ++ t ∷ []) ++ w) → ⊥
  dead ts fault t more s e has_class x w h = go (r ts) e (i.told ts)
    where
      go : (q : ReadProgram) → q ≡ Err (fault, t ∷ more) → Told r L W ts q → ⊥
      go (Ok p) f told = no_both p.0 p.1 fault (t ∷ more) (Ok p) refl f
      go (Err y) f told =
          let tail : y.1 ≡ t ∷ more = same_place y.0 fault y.1 (t ∷ more) (Err y) refl f in
          let same : told.0 ≡ s = append_cancel_right told.0 s (t ∷ more) (ap (λ l. told.0 ++ l) (sym tail) ∙ sym told.1 ∙ has_class) in
          let here : SameHead y.1 (t ∷ w) = subst (λ l. SameHead l (t ∷ w)) (sym tail) refl in
          let fine : r (s ++ t ∷ w) ≡ Ok (x, []) = ap r (sym (append_assoc s (t ∷ []) w)) ∙ ap r (sym (append-nil ((s ++ t ∷ []) ++ w))) ∙ i.complete x ((s ++ t ∷ []) ++ w) [] h refl in
          no_both x [] y.0 (t ∷ w) (r (s ++ t ∷ w)) fine (ap (λ l. r (l ++ t ∷ w)) (sym same) ∙ told.3 (t ∷ w) here)

-- a fault at one depth is one at each greater depth, if it isn't want of depth
one_deeper : (d : ℕ) (ts : List Token) (fault : SyntaxFault) (at : List Token) → fault ≢ Nested → program_read d ts ≡ Err (fault, at) → program_read (suc d) ts ≡ Err (fault, at)
one_deeper d ts fault at n e = elim ((program_agrees d).at ts) [ inl h ↦ sym h ∙ e | inr h ↦ absurd (n (same_kind fault Nested at h.0 (program_read d ts) e h.1)) ]

fault_deeper : (k d : ℕ) (ts : List Token) (fault : SyntaxFault) (at : List Token) → fault ≢ Nested → program_read d ts ≡ Err (fault, at) → program_read (k + d) ts ≡ Err (fault, at)
fault_deeper zero d ts fault at n e = let z : 0 + d ≡ d = omega arith in rw z e
fault_deeper (suc k) d ts fault at n e = let z : suc k + d ≡ suc (k + d) = omega arith in rw z (one_deeper (k + d) ts fault at n (fault_deeper k d ts fault at n e))

-- so no program at all goes on with its token
dead_some : (d : ℕ) (ts : List Token) (fault : SyntaxFault) (t : Token) (more s : List Token) → fault ≢ Nested → program_read d ts ≡ Err (fault, t ∷ more) → ts ≡ s ++ t ∷ more → IsProgramPrefix (s ++ t ∷ []) → ⊥
dead_some d ts fault t more s n e has_class b =
    let swap : d + b.0 ≡ b.0 + d = omega arith in
    dead (program_read (b.0 + d)) (WholeProgram (b.0 + d)) (WholeProgram (suc (suc (b.0 + d)))) (program_reads (b.0 + d)) ts fault t more s (fault_deeper b.0 d ts fault (t ∷ more) n e) has_class b.1 b.2
    (subst (λ n. WholeProgram n b.1 ((s ++ t ∷ []) ++ b.2)) swap (lift d b.0 b.1 ((s ++ t ∷ []) ++ b.2) b.3))

-- what the reading of tokens with one end gives
abbrev Ends : ReadProgram → Type 0
Ends (Ok p) = p.1 ≡ []
Ends (Err e) = OfKind e × EndsOnce e.1

last_read : (xs : List StatementTerm) (us : List Token) → EndsOnce us → Ends (then_read (token_read (has_class end_class) us) (λ b vs. Ok (first_of xs b, vs)))
last_read xs [] n = elim n [ ]
last_read xs (t ∷ us) n = go (has_class end_class t) refl us n
  where
    go : (b : Bool) → has_class end_class t ≡ b → (us : List Token) → EndsOnce (t ∷ us) → Ends (then_read (cond b (Ok (t, us)) (Err (fault_of left_out_classes (Some t), t ∷ us))) (λ b vs. Ok (first_of xs b, vs)))
    go true e [] n = refl
    go true e (u ∷ us) n = absurd (let f : true ≡ false = sym e ∙ n.0 in cc)
    go false e us n = (inr (inl refl), n)

reading_ends : (d : ℕ) (ts : List Token) → EndsOnce ts → Ends (program_read d ts)
reading_ends d ts n = go (repeated_read (has_class_in firsts_of_statement) (statement_read d) ts) ((many_fair (has_class_in firsts_of_statement) (statement_read d) (regular_statements d).0).at ts)
  where
    go : (q : ReadProgram) → Fair ts q → Ends (then_read q (λ xs us. then_read (token_read (has_class end_class) us) (λ b vs. Ok (first_of xs b, vs))))
    go (Ok p) f = last_read p.0 p.1 (f n)
    go (Err e) f = (f.0, f.1 n)

-- all before a fault begins a program that is not too deep
outline_begins : (d : ℕ) (ts s at : List Token) (fault : SyntaxFault) → program_read d ts ≡ Err (fault, at) → ts ≡ s ++ at → (x : List StatementTerm) × (w : List Token) × ProgramWithGaps d x (s ++ w)
outline_begins d ts s at fault e has_class =
    let b = reaches (outline_read d) (ProgramWithGaps d) (ProgramWithGaps d) (outline_reads d) ts s at has_class (go (program_read d ts) (outline_read d ts) e ((program_cut d).at ts)) in
    (b.1, b.0, b.2)
  where
    go : (q p : ReadProgram) → q ≡ Err (fault, at) → Cut q p → left p ≤ length at
    go q p f (equal g) = subst (λ q. left q ≤ length at) (sym (sym g ∙ f)) (omega arith)
    go q p f (refused k l bt a b) = subst (λ q. left q ≤ length at) (sym b) (subst (λ l. length l ≤ length at) (same_place fault k at bt q f a) (omega arith))
    go q p f (gapped bt a b) = subst (λ l. left p ≤ length l) (sym (same_place fault NotInProfile at bt q f a)) b

-- with a token that is too deep only deeper programs go on
too_deep : (d : ℕ) (ts s : List Token) (t : Token) (more : List Token) → program_read d ts ≡ Err (Nested, t ∷ more) → ts ≡ s ++ t ∷ more → IsShallowProgramPrefix d (s ++ t ∷ []) → ⊥
too_deep d ts s t more e has_class b = go (program_read d ts) (outline_read d ts) refl e ((program_cut d).at ts)
  where
    open_dead : (l : SyntaxFault) (p : ReadProgram) → outline_read d ts ≡ p → p ≡ Err (l, t ∷ more) → ⊥
    open_dead l p f g = dead (outline_read d) (ProgramWithGaps d) (ProgramWithGaps d) (outline_reads d) ts l t more s (f ∙ g) has_class b.1 b.2 b.3

    go : (q p : ReadProgram) → outline_read d ts ≡ p → q ≡ Err (Nested, t ∷ more) → Cut q p → ⊥
    go q p h f (equal g) = open_dead Nested p h (sym g ∙ f)
    go q p h f (refused k l bt a b) = open_dead l p h (b ∙ ap (λ l'. Err (l, l')) (sym (same_place Nested k (t ∷ more) bt q f a)))
    go q p h f (gapped bt a b) = absurd (let k = same_kind Nested NotInProfile (t ∷ more) bt q f a in cc)

-- a numeral that a reader goes beyond, or that is too deep, begins some program
numeral_goes_on : (d : ℕ) (s : List Token) (n : Token) (more : List Token) → Past n more (program_read d (s ++ n ∷ more)) → IsProgramPrefix (s ++ n ∷ [])
numeral_goes_on d s n more (inl l) =
    let b = reaches (program_read d) (WholeProgram d) (WholeProgram (suc (suc d))) (program_reads d) (s ++ n ∷ more) (s ++ n ∷ []) more (sym (append_assoc s (n ∷ []) more)) l in
    (suc (suc d), b.1, b.0, b.2)
numeral_goes_on d s n more (inr e) = go (program_read d (s ++ n ∷ more)) e ((program_reads d).told (s ++ n ∷ more))
  where
    go : (q : ReadProgram) → q ≡ Err (Nested, n ∷ more) → Told (program_read d) (WholeProgram d) (WholeProgram (suc (suc d))) (s ++ n ∷ more) q → IsProgramPrefix (s ++ n ∷ [])
    go (Ok p) f t = elim (no_both p.0 p.1 Nested (n ∷ more) (Ok p) refl f) [ ]
    go (Err x) f t =
        let pair = same_error x.0 Nested x.1 (n ∷ more) (Err x) refl f in
        let tail : x.1 ≡ n ∷ more = ap (λ (p : SyntaxFault × List Token). p.1) pair in
        let same : t.0 ≡ s = append_cancel_right t.0 s (n ∷ more) (ap (λ l. t.0 ++ l) (sym tail) ∙ sym t.1) in
        let begun : IsPrefixIn (WholeProgram (suc (suc d))) (s ++ n ∷ []) = subst (λ u. IsPrefixIn (WholeProgram (suc (suc d))) (u ++ n ∷ [])) same (subst (λ (p : SyntaxFault × List Token). IsPrefixIn (WholeProgram (suc (suc d))) (t.0 ++ seen p.0 p.1)) pair t.2) in
        (suc (suc d), begun.1, begun.0, begun.2)

-- a word of a statement that is refused
module _ (d : ℕ) (s : List Token) (t : Token) (more : List Token) (fault : SyntaxFault) (e : program_read d (s ++ t ∷ more) ≡ Err (fault, t ∷ more)) (not_deep : fault ≢ Nested) (w : has_class_in words t ≡ true) where
  abbrev Either : Token → Type 0
  Either n = ((fault ≡ Expected) × (IsProgramPrefix (s ++ n ∷ []) → ⊥)) ⊎ ((fault ≡ NotInProfile) × IsProgramPrefix (s ++ n ∷ []))

  longer : (h : Token) (u : List Token) → h ∷ (u ++ t ∷ more) ≡ t ∷ more → ⊥
  longer h u e = absurd (omega (arith, ap length e, length-append u (t ∷ more)))

  word_fault : fault_of left_out_classes (Some t) ≡ Expected
  word_fault = ap (λ b. cond b NotInProfile Expected) (classes_apart words left_out_classes refl (token_class t.kind) w)

  word_left_out : fault_of left_out_of_expressions (Some t) ≡ NotInProfile
  word_left_out = ap (λ b. cond b NotInProfile Expected) (classes_within words left_out_of_expressions refl (token_class t.kind) w)

  by_numeral : (n : Token) → has_class numeral_class n ≡ true → Either n
  by_numeral n g = go (program_read d (s ++ t ∷ more)) e ((lock_program t n more w g d).at s)
    where
      go : (q : ReadProgram) → q ≡ Err (fault, t ∷ more) → Locked t n more q (program_read d (s ++ n ∷ more)) → Either n
      go q f (before u x a b) = elim (no_both x (u ++ t ∷ more) fault (t ∷ more) q a f) [ ]
      go q f (earlier k h u a b) = elim (longer h u (same_place k fault (h ∷ (u ++ t ∷ more)) (t ∷ more) q a f)) [ ]
      go q f (everywhere a b) = inl (same_kind fault (fault_of left_out_classes (Some t)) (t ∷ more) (t ∷ more) q f a ∙ word_fault, dead_some d (s ++ n ∷ more) Expected n more s (λ h. cc) b refl)
      go q f (of_expressions a b) = inr (same_kind fault (fault_of left_out_of_expressions (Some t)) (t ∷ more) (t ∷ more) q f a ∙ word_left_out, numeral_goes_on d s n more b)
      go q f (beyond (inl l)) = absurd (let less = subst (λ q. left q ≤ length more) f l in omega (arith, less))
      go q f (beyond (inr a)) = absurd (not_deep (same_kind fault Nested (t ∷ more) (t ∷ more) q f a))

-- of what kind it is
module _ (d : ℕ) (ts s : List Token) (t : Token) (more : List Token) (is_at : ts ≡ s ++ t ∷ more) where
  listed_out : (b : Bool) → has_class_in left_out_of_expressions t ≡ b → has_class_in left_out_classes t ≡ false → (k : SyntaxFault) → (k ≡ fault_of left_out_classes (Some t)) ⊎ (k ≡ fault_of left_out_of_expressions (Some t)) → program_read d ts ≡ Err (k, t ∷ more) → k ≢ Nested → IsFault d k s t
  listed_out false b a k h e n = plain k h e
    where
      expected : (k : SyntaxFault) → (k ≡ fault_of left_out_classes (Some t)) ⊎ (k ≡ fault_of left_out_of_expressions (Some t)) → k ≡ Expected
      expected k (inl h) = h ∙ ap (λ b. cond b NotInProfile Expected) a
      expected k (inr h) = h ∙ ap (λ b. cond b NotInProfile Expected) b

      plain : (k : SyntaxFault) → (k ≡ fault_of left_out_classes (Some t)) ⊎ (k ≡ fault_of left_out_of_expressions (Some t)) → program_read d ts ≡ Err (k, t ∷ more) → IsFault d k s t
      plain k h e =
          let is_expected = expected k h in
          subst (λ k. IsFault d k s t) (sym is_expected)
          (dead_some d ts Expected t more s (λ h. cc) (e ∙ ap (λ k. Err (k, t ∷ more)) is_expected) is_at, λ l. elim l [ inl x ↦ absurd (let f : true ≡ false = sym x ∙ a in cc) | inr x ↦ absurd (let f : true ≡ false = sym x.0 ∙ b in cc) ])
  listed_out true b a k h e n = go (either_listed words left_out_classes (token_class t.kind) b)
    where
      go : (has_class_in words t ≡ true) ⊎ (has_class_in left_out_classes t ≡ true) → IsFault d k s t
      go (inr x) = absurd (let f : true ≡ false = sym x ∙ a in cc)
      go (inl w) = kinds k h e n (by_numeral d s t more k (ap (program_read d) (sym is_at) ∙ e) n w)
        where
          kinds : (k : SyntaxFault) → (k ≡ fault_of left_out_classes (Some t)) ⊎ (k ≡ fault_of left_out_of_expressions (Some t)) → program_read d ts ≡ Err (k, t ∷ more) → k ≢ Nested → ((m : Token) → has_class numeral_class m ≡ true → ((k ≡ Expected) × (IsProgramPrefix (s ++ m ∷ []) → ⊥)) ⊎ ((k ≡ NotInProfile) × IsProgramPrefix (s ++ m ∷ []))) → IsFault d k s t
          kinds Nested h e n f = absurd (n refl)
          kinds Expected h e n f =
              (dead_some d ts Expected t more s n e is_at, λ l. elim l [ inl x ↦ absurd (let f : true ≡ false = sym x ∙ a in cc) | inr x ↦ elim (f x.1.0 x.1.1) [ inl y ↦ y.1 x.1.2 | inr y ↦ absurd (let z = y.0 in cc) ] ])
          kinds NotInProfile h e n f =
              (dead_some d ts NotInProfile t more s n e is_at, elim (f zero_token refl) [ inl y ↦ absurd (let z = y.0 in cc) | inr y ↦ inr (b, (zero_token, refl, y.1)) ])

  always_out : has_class_in left_out_classes t ≡ true → (k : SyntaxFault) → (k ≡ fault_of left_out_classes (Some t)) ⊎ (k ≡ fault_of left_out_of_expressions (Some t)) → program_read d ts ≡ Err (k, t ∷ more) → IsFault d k s t
  always_out a k h e =
      let is_out = out h in
      subst (λ k. IsFault d k s t) (sym is_out) (dead_some d ts NotInProfile t more s (λ h. cc) (e ∙ ap (λ k. Err (k, t ∷ more)) is_out) is_at, inl a)
    where
      out : (k ≡ fault_of left_out_classes (Some t)) ⊎ (k ≡ fault_of left_out_of_expressions (Some t)) → k ≡ NotInProfile
      out (inl h) = h ∙ ap (λ b. cond b NotInProfile Expected) a
      out (inr h) = h ∙ ap (λ b. cond b NotInProfile Expected) (classes_within left_out_classes left_out_of_expressions refl (token_class t.kind) a)

  -- where the rest of the tokens begins something deeper, as readers tell
  is_fault : (k : SyntaxFault) → program_read d ts ≡ Err (k, t ∷ more) → OfKind (k, t ∷ more) → IsPrefixIn (WholeProgram (suc (suc d))) (s ++ seen k (t ∷ more)) → IsFault d k s t
  is_fault Nested e h b = ((suc (suc d), b.1, b.0, b.2), too_deep d ts s t more e is_at)
  is_fault Expected e (inl h) b = absurd (cc)
  is_fault Expected e (inr h) b = by_list (has_class_in left_out_classes t) refl
    where
      by_list : (a : Bool) → has_class_in left_out_classes t ≡ a → IsFault d Expected s t
      by_list true a = always_out a Expected h e
      by_list false a = listed_out (has_class_in left_out_of_expressions t) refl a Expected h e (λ x. cc)
  is_fault NotInProfile e (inl h) b = absurd (cc)
  is_fault NotInProfile e (inr h) b = by_list (has_class_in left_out_classes t) refl
    where
      by_list : (a : Bool) → has_class_in left_out_classes t ≡ a → IsFault d NotInProfile s t
      by_list true a = always_out a NotInProfile h e
      by_list false a = listed_out (has_class_in left_out_of_expressions t) refl a NotInProfile h e (λ x. cc)

-- what the reading of tokens with one end gives: their first fault,
pub first_fault : (d : ℕ) (ts : List Token) (fault : SyntaxFault) (at : List Token) → ends_once ts ≡ true → program_read d ts ≡ Err (fault, at) → IsFirstFault d ts fault at
first_fault d ts fault at n e = go (program_read d ts) refl e (reading_ends d ts (ends_once_is ts n)) ((program_reads d).told ts)
  where
    here : (at : List Token) → EndsOnce at → OfKind (fault, at) → program_read d ts ≡ Err (fault, at) → (s : List Token) → ts ≡ s ++ at → IsPrefixIn (WholeProgram (suc (suc d))) (s ++ seen fault at) → IsFirstFault d ts fault at
    here [] x k e s i b = elim x [ ]
    here (t ∷ more) x k e s i b =
        let some : IsProgramPrefix s = (suc (suc d), b.1, seen fault (t ∷ more) ++ b.0, subst (WholeProgram (suc (suc d)) b.1) (append_assoc s (seen fault (t ∷ more)) b.0) b.2) in
        let o = outline_begins d ts s (t ∷ more) fault e i in
        (s, t, more, i, refl, (some, o.0, o.1, o.2), is_fault d ts s t more i fault e k b)

    go : (q : ReadProgram) → program_read d ts ≡ q → q ≡ Err (fault, at) → Ends q → Told (program_read d) (WholeProgram d) (WholeProgram (suc (suc d))) ts q → IsFirstFault d ts fault at
    go (Ok p) f e x t = elim (no_both p.0 p.1 fault at (Ok p) refl e) [ ]
    go (Err y) f e x t =
        let pair = same_error y.0 fault y.1 at (Err y) refl e in
        let kind = subst (λ (p : SyntaxFault × List Token). OfKind p × EndsOnce p.1) pair x in
        let tail : y.1 ≡ at = ap (λ (p : SyntaxFault × List Token). p.1) pair in
        here at kind.1 kind.0 (f ∙ e) t.0 (t.1 ∙ ap (λ l. t.0 ++ l) tail) (subst (λ (p : SyntaxFault × List Token). IsPrefixIn (WholeProgram (suc (suc d))) (t.0 ++ seen p.0 p.1)) pair t.2)

-- or the program that they are
pub is_found : (d : ℕ) (ts : List Token) (x : List StatementTerm) (rest : List Token) → ends_once ts ≡ true → program_read d ts ≡ Ok (x, rest) → (rest ≡ []) × WholeProgram d x ts
is_found d ts x rest n e = go (program_read d ts) e (reading_ends d ts (ends_once_is ts n)) ((program_reads d).told ts)
  where
    go : (q : ReadProgram) → q ≡ Ok (x, rest) → Ends q → Told (program_read d) (WholeProgram d) (WholeProgram (suc (suc d))) ts q → (rest ≡ []) × WholeProgram d x ts
    go (Ok p) e f t =
        let g : ◌≡◌ {A = ReadProgram} (Ok p) (Ok (x, rest)) = e in
        let pair : ◌≡◌ {A = List StatementTerm × List Token} p (x, rest) = cc in
        let all : ts ≡ t.0 = t.1 ∙ ap (λ l. t.0 ++ l) f ∙ append-nil t.0 in
        (sym (ap (λ (p : List StatementTerm × List Token). p.1) pair) ∙ f, subst (λ s. WholeProgram d x s) (sym all) (subst (λ x. WholeProgram d x t.0) (ap (λ (p : List StatementTerm × List Token). p.0) pair) t.2))
    go (Err y) e f t = elim (no_both x rest y.0 y.1 (Err y) e refl) [ ]

-- two divisions of one list at a token: the one is before the other, or they are the same
divided : (s r : List Token) (t u : Token) (more rest : List Token) → s ++ t ∷ more ≡ r ++ u ∷ rest → ((v : List Token) × (r ≡ s ++ t ∷ v)) ⊎ (((v : List Token) × (s ≡ r ++ u ∷ v)) ⊎ ((s ≡ r) × (t ≡ u) × (more ≡ rest)))
divided [] [] t u more rest e =
    let pair : ◌≡◌ {A = Token × List Token} (t, more) (u, rest) = cc in
    inr (inr (refl, ap (λ (p : Token × List Token). p.0) pair, ap (λ (p : Token × List Token). p.1) pair))
divided [] (y ∷ r) t u more rest e =
    let pair : ◌≡◌ {A = Token × List Token} (t, more) (y, r ++ u ∷ rest) = cc in
    inl (r, ap (λ h. h ∷ r) (sym (ap (λ (p : Token × List Token). p.0) pair)))
divided (x ∷ s) [] t u more rest e =
    let pair : ◌≡◌ {A = Token × List Token} (x, s ++ t ∷ more) (u, rest) = cc in
    inr (inl (s, ap (λ h. h ∷ s) (ap (λ (p : Token × List Token). p.0) pair)))
divided (x ∷ s) (y ∷ r) t u more rest e =
    let pair : ◌≡◌ {A = Token × List Token} (x, s ++ t ∷ more) (y, r ++ u ∷ rest) = cc in
    let first : x ≡ y = ap (λ (p : Token × List Token). p.0) pair in
    elim (divided s r t u more rest (ap (λ (p : Token × List Token). p.1) pair)) [
      | inl k ↦ inl (k.0, ap (λ h. h ∷ r) (sym first) ∙ ap (λ l. x ∷ l) k.1)
      | inr k ↦ elim k [
        | inl k ↦ inr (inl (k.0, ap (λ h. h ∷ s) first ∙ ap (λ l. y ∷ l) k.1))
        | inr k ↦ inr (inr (ap (λ h. h ∷ s) first ∙ ap (λ l. y ∷ l) k.0, k.1, k.2))
      ]
    ]

-- with the token of a fault no program goes on in which it isn't too deep
not_alive : (d : ℕ) (k : SyntaxFault) (s : List Token) (t : Token) → IsFault d k s t → IsShallowProgramPrefix d (s ++ t ∷ []) → ⊥
not_alive d Expected s t f b = f.0 b.0
not_alive d NotInProfile s t f b = f.0 b.0
not_alive d Nested s t f b = f.1 b

-- so no first fault stands behind it
not_behind : (d : ℕ) (k : SyntaxFault) (s : List Token) (t : Token) (v r : List Token) → IsFault d k s t → r ≡ s ++ t ∷ v → IsShallowProgramPrefix d r → ⊥
not_behind d k s t v r f e b =
    let apart : s ++ t ∷ v ≡ (s ++ t ∷ []) ++ v = sym (append_assoc s (t ∷ []) v) in
    not_alive d k s t f (
      (b.0.0, b.0.1, v ++ b.0.2, subst (WholeProgram b.0.0 b.0.1) (ap (λ l. l ++ b.0.2) (e ∙ apart) ∙ append_assoc (s ++ t ∷ []) v b.0.2) b.0.3),
      b.1,
      v ++ b.2,
      subst (ProgramWithGaps d b.1) (ap (λ l. l ++ b.2) (e ∙ apart) ∙ append_assoc (s ++ t ∷ []) v b.2) b.3,
    )

one_kind : (d : ℕ) (k l : SyntaxFault) (s : List Token) (t : Token) → IsFault d k s t → IsFault d l s t → k ≡ l
one_kind d Expected Expected s t f g = refl
one_kind d NotInProfile NotInProfile s t f g = refl
one_kind d Nested Nested s t f g = refl
one_kind d Expected NotInProfile s t f g = absurd (f.1 g.1)
one_kind d NotInProfile Expected s t f g = absurd (g.1 f.1)
one_kind d Nested Expected s t f g = absurd (g.0 f.0)
one_kind d Nested NotInProfile s t f g = absurd (g.0 f.0)
one_kind d Expected Nested s t f g = absurd (f.0 g.0)
one_kind d NotInProfile Nested s t f g = absurd (f.0 g.0)

-- tokens have one first fault
pub one_fault : (d : ℕ) (ts : List Token) (k l : SyntaxFault) (at bt : List Token) → IsFirstFault d ts k at → IsFirstFault d ts l bt → (k ≡ l) × (at ≡ bt)
one_fault d ts k l at bt f g =
    let s = f.0 in
    let t = f.1 in
    let r = g.0 in
    let u = g.1 in
    let whole : s ++ t ∷ f.2 ≡ r ++ u ∷ g.2 = ap (λ l. s ++ l) (sym f.4) ∙ sym f.3 ∙ g.3 ∙ ap (λ l. r ++ l) g.4 in
    elim (divided s r t u f.2 g.2 whole) [
      | inl e ↦ absurd (not_behind d k s t e.0 r f.6 e.1 g.5)
      | inr e ↦ elim e [
        | inl e ↦ absurd (not_behind d l r u e.0 s g.6 e.1 f.5)
        | inr e ↦ (one_kind d k l r u (subst (λ t. IsFault d k r t) e.1 (subst (λ s. IsFault d k s t) e.0 f.6)) g.6, f.4 ∙ ap (λ t. t ∷ f.2) e.1 ∙ ap (λ l. u ∷ l) e.2 ∙ sym g.4)
      ]
    ]

-- a program has no fault
pub no_fault : (d : ℕ) (ts : List Token) (x : List StatementTerm) (k : SyntaxFault) (at : List Token) → WholeProgram d x ts → IsFirstFault d ts k at → ⊥
no_fault d ts x k at h f =
    let s = f.0 in
    let t = f.1 in
    let whole : ts ≡ (s ++ t ∷ []) ++ f.2 = f.3 ∙ ap (λ l. s ++ l) f.4 ∙ sym (append_assoc s (t ∷ []) f.2) in
    let has_class : WholeProgram d x ((s ++ t ∷ []) ++ f.2) = subst (WholeProgram d x) whole h in
    not_alive d k s t f.6 ((d, x, f.2, has_class), x, f.2, is_outline d x ((s ++ t ∷ []) ++ f.2) has_class)

-- and a first fault is what the reading gives
pub only_fault : (d : ℕ) (ts : List Token) (fault : SyntaxFault) (at : List Token) → ends_once ts ≡ true → IsFirstFault d ts fault at → program_read d ts ≡ Err (fault, at)
only_fault d ts fault at n f = go (program_read d ts) refl
  where
    go : (q : ReadProgram) → program_read d ts ≡ q → program_read d ts ≡ Err (fault, at)
    go (Ok p) e = elim (no_fault d ts p.0 fault at (is_found d ts p.0 p.1 n e).1 f) [ ]
    go (Err x) e = let k = one_fault d ts x.0 fault x.1 at (first_fault d ts x.0 x.1 n e) f in e ∙ ap (λ k. Err (k, x.1)) k.0 ∙ ap (λ l. Err (fault, l)) k.1

-- tokens with one end are a program, or have a fault
pub program_or_fault : (d : ℕ) (ts : List Token) → ends_once ts ≡ true → ((x : List StatementTerm) × WholeProgram d x ts) ⊎ ((k : SyntaxFault) × (at : List Token) × IsFirstFault d ts k at)
program_or_fault d ts n = go (program_read d ts) refl
  where
    go : (q : ReadProgram) → program_read d ts ≡ q → ((x : List StatementTerm) × WholeProgram d x ts) ⊎ ((k : SyntaxFault) × (at : List Token) × IsFirstFault d ts k at)
    go (Ok p) e = inl (p.0, (is_found d ts p.0 p.1 n e).1)
    go (Err x) e = inr (x.0, x.1, first_fault d ts x.0 x.1 n e)
