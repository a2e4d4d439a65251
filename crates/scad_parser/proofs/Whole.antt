-- Reading a program and its end with nothing behind it: the program that the tokens write, or their first fault.
use Rattle.std.proofs.Common.{◌≡◌, ℕ, suc, ◌+◌, List, [], ◌∷◌, ◌++◌, Bool, true, false, not, ◌&&◌, cond, Ok, Err, Some, ◌⊎◌, inl, inr, refl, sym, ap, ◌∙◌, subst, arith, append_assoc, append-nil}
use Rattle.std.proofs.lemmas.List.{append_cancel_right}
use Rattle.scad_lexer.specs.declared.token.Token.{Token}
use Rattle.scad_lexer.specs.declared.token.TokenKind.TheVariants.{End}
use Rattle.scad_lexer.specs.Tokens.{is_end, ends_once}
use Rattle.scad_ast.specs.Terms.{StatementTerm}
use Rattle.scad_grammar.specs.declared.SyntaxFault.{SyntaxFault}
use Rattle.scad_grammar.specs.declared.SyntaxFault.TheVariants.{Expected, NotInProfile}
use Rattle.scad_grammar.specs.Classes.{has_class_in}
use Rattle.scad_grammar.specs.Faults.{fault_of, left_out_classes}
use Rattle.scad_grammar.specs.FirstFault.{IsProgramPrefix, IsFault, IsFirstFault}
use Rattle.scad_grammar.specs.Grammar.{WholeProgram}
use Rattle.scad_grammar.specs.Reading.{Read, then_read, next_is}
use Rattle.scad_grammar.specs.StatementReads.{program_read}
use Rattle.scad_grammar.proofs.lemmas.FirstFaults.{only_fault, one_fault, no_fault, program_or_fault}
use Rattle.scad_grammar.proofs.lemmas.Programs.{complete_at}
use Rattle.scad_grammar.proofs.lemmas.Readers.{Told, SameHead}
use Rattle.scad_grammar.proofs.lemmas.Statements.{program_reads}
use Rattle.scad_grammar.proofs.lemmas.Wider.{lift, is_outline}
use Rattle.scad_parser.specs.Parsing.{ends_with_end, nothing_after, whole_read}

abbrev pub ReadProgram : Type 0
ReadProgram = Read Token SyntaxFault (List StatementTerm)

-- tokens with one end end
pub once_ends : (ts : List Token) → ends_once ts ≡ true → ends_with_end ts ≡ true
once_ends [] e = absurd (cc)
once_ends (t ∷ []) e = e
once_ends (t ∷ u ∷ us) e = once_ends (u ∷ us) (later (is_end t.kind) (ends_once (u ∷ us)) e)
  where
    later : (b c : Bool) → (not b && c) ≡ true → c ≡ true
    later true c e = absurd (cc)
    later false c e = e

-- tokens, cut behind their first end
abbrev Cut : List Token → Type 0
Cut ts = (s : List Token) × (r : List Token) × (ts ≡ s ++ r) × (ends_once s ≡ true)

once_more : (t : Token) (s : List Token) → is_end t.kind ≡ false → ends_once s ≡ true → ends_once (t ∷ s) ≡ true
once_more t [] k e = absurd (cc)
once_more t (u ∷ us) k e = rw k e

cut_behind : (t u : Token) (us : List Token) (b : Bool) → is_end t.kind ≡ b → Cut (u ∷ us) → Cut (t ∷ u ∷ us)
cut_behind t u us true k c = (t ∷ [], u ∷ us, refl, k)
cut_behind t u us false k c = (t ∷ c.0, c.1, ap (λ l. t ∷ l) c.2, once_more t c.0 k c.3)

cut : (ts : List Token) → ends_with_end ts ≡ true → Cut ts
cut [] e = absurd (cc)
cut (t ∷ []) e = (t ∷ [], [], refl, e)
cut (t ∷ u ∷ us) e = cut_behind t u us (is_end t.kind) refl (cut (u ∷ us) e)

-- a program is read whatever stands behind it
never : (r : List Token) → next_is (λ t. false) r ≡ false
never [] = refl
never (t ∷ r) = refl

complete_over : (d : ℕ) (x : List StatementTerm) (s r : List Token) → WholeProgram d x s → program_read d (s ++ r) ≡ Ok (x, r)
complete_over d x s r h = (program_reads d).complete x s r h (never r)

-- so no program goes on behind one
dead : (d : ℕ) (x : List StatementTerm) (s : List Token) (t : Token) → WholeProgram d x s → IsProgramPrefix (s ++ t ∷ []) → ⊥
dead d x s t h b =
    let w = b.2 in
    let e : d + b.0 ≡ b.0 + d = omega arith in
    let g : WholeProgram b.0 b.1 (s ++ t ∷ w) = subst (WholeProgram b.0 b.1) (append_assoc s (t ∷ []) w) b.3 in
    let one = complete_over (b.0 + d) x s (t ∷ w) (lift b.0 d x s h) in
    let other = complete_at (b.0 + d) b.1 (s ++ t ∷ w) (rw (sym e) (lift d b.0 b.1 (s ++ t ∷ w) g)) in
    let both : ◌≡◌ {A = ReadProgram} (Ok (x, t ∷ w)) (Ok (b.1, [])) = sym one ∙ other in
    let pair : ◌≡◌ {A = List StatementTerm × List Token} (x, t ∷ w) (b.1, []) = cc in
    let none : t ∷ w ≡ [] = ap (λ (p : List StatementTerm × List Token). p.1) pair in
    absurd (cc)

-- and the next token is the first fault
fault_behind : (d : ℕ) (x : List StatementTerm) (s : List Token) (t : Token) → WholeProgram d x s
    → (b : Bool) → has_class_in left_out_classes t ≡ b → IsFault d (cond b NotInProfile Expected) s t
fault_behind d x s t h true e = (dead d x s t h, inl e)
fault_behind d x s t h false e =
    (dead d x s t h, λ l. elim l [ inl a ↦ absurd (let f : true ≡ false = sym a ∙ e in cc) | inr a ↦ dead d x s a.1.0 h a.1.2 ])

behind : (d : ℕ) (x : List StatementTerm) (s : List Token) (t : Token) (more : List Token) → WholeProgram d x s
    → IsFirstFault d (s ++ t ∷ more) (fault_of left_out_classes (Some t)) (t ∷ more)
behind d x s t more h =
    let all : WholeProgram d x (s ++ []) = subst (WholeProgram d x) (sym (append-nil s)) h in
    (s, t, more, refl, refl, ((d, x, [], all), x, [], is_outline d x (s ++ []) all), fault_behind d x s t h (has_class_in left_out_classes t) refl)

-- a fault before the first end is the same whatever stands behind that end
same_front : (at r : List Token) (t : Token) (more : List Token) → at ≡ t ∷ more → SameHead at (at ++ r)
same_front [] r t more e = absurd (cc)
same_front (u ∷ us) r t more e = refl

fault_over : (d : ℕ) (s r : List Token) (k : SyntaxFault) (at : List Token) → ends_once s ≡ true → IsFirstFault d s k at
    → program_read d (s ++ r) ≡ Err (k, at ++ r)
fault_over d s r k at n f =
    let told = subst (Told (program_read d) (WholeProgram d) (WholeProgram (suc (suc d))) s) (only_fault d s k at n f) ((program_reads d).told s) in
    ap (λ l. program_read d (l ++ r)) told.1 ∙ ap (program_read d) (append_assoc told.0 at r)
    ∙ told.3 (at ++ r) (same_front at r f.1 f.2 f.4)

first_over : (d : ℕ) (s r : List Token) (k : SyntaxFault) (at : List Token) → IsFirstFault d s k at → IsFirstFault d (s ++ r) k (at ++ r)
first_over d s r k at f =
    (f.0, f.1, f.2 ++ r, ap (λ l. l ++ r) f.3 ∙ append_assoc f.0 at r, ap (λ l. l ++ r) f.4, f.5, f.6)

-- what is read of tokens is their program, or their first fault
abbrev Verdict : ℕ → List Token → Type 0
Verdict d ts =
    ((x : List StatementTerm) × WholeProgram d x ts × (whole_read d ts ≡ Ok (x, [])))
    ⊎ ((k : SyntaxFault) × (at : List Token) × IsFirstFault d ts k at × (whole_read d ts ≡ Err (k, at)))

of_program : (d : ℕ) (x : List StatementTerm) (s r : List Token) → WholeProgram d x s → Verdict d (s ++ r)
of_program d x s [] h =
    inl (x, subst (WholeProgram d x) (sym (append-nil s)) h, ap (λ (q : ReadProgram). then_read q nothing_after) (complete_over d x s [] h))
of_program d x s (t ∷ more) h =
    inr (
      fault_of left_out_classes (Some t),
      t ∷ more,
      behind d x s t more h,
      ap (λ (q : ReadProgram). then_read q nothing_after) (complete_over d x s (t ∷ more) h),
    )

verdict_over : (d : ℕ) (s r : List Token) → ends_once s ≡ true → Verdict d (s ++ r)
verdict_over d s r n = elim (program_or_fault d s n) [
  | inl p ↦ of_program d p.0 s r p.1
  | inr f ↦ inr (
    f.0,
    f.1 ++ r,
    first_over d s r f.0 f.1 f.2,
    ap (λ (q : ReadProgram). then_read q nothing_after) (fault_over d s r f.0 f.1 n f.2),
  )
]

pub verdict : (d : ℕ) (ts : List Token) → ends_with_end ts ≡ true → Verdict d ts
verdict d ts e = let c = cut ts e in subst (Verdict d) (sym c.2) (verdict_over d c.0 c.1 c.3)

-- what was read is a program that the tokens write
pub whole_found : (d : ℕ) (ts : List Token) (x : List StatementTerm) (rest : List Token) → whole_read d ts ≡ Ok (x, rest) → WholeProgram d x ts
whole_found d ts x rest e = go (program_read d ts) e ((program_reads d).told ts)
  where
    go : (q : ReadProgram) → then_read q nothing_after ≡ Ok (x, rest) → Told (program_read d) (WholeProgram d) (WholeProgram (suc (suc d))) ts q → WholeProgram d x ts
    go (Ok (y, [])) e t =
        let g : ◌≡◌ {A = ReadProgram} (Ok (y, [])) (Ok (x, rest)) = e in
        let pair : ◌≡◌ {A = List StatementTerm × List Token} (y, []) (x, rest) = cc in
        subst (λ s. WholeProgram d x s) (sym (t.1 ∙ append-nil t.0)) (subst (λ x. WholeProgram d x t.0) (ap (λ (p : List StatementTerm × List Token). p.0) pair) t.2)
    go (Ok (y, u ∷ us)) e t = absurd (cc)
    go (Err y) e t = absurd (cc)

-- a reading that stops at a token stops there whatever stands behind it
looks_ahead : (d : ℕ) (k : SyntaxFault) (s : List Token) (t : Token) (us vs : List Token) → whole_read d (s ++ t ∷ us) ≡ Err (k, t ∷ us)
    → whole_read d (s ++ t ∷ vs) ≡ Err (k, t ∷ vs)
looks_ahead d k s t us vs e = go (program_read d (s ++ t ∷ us)) e ((program_reads d).told (s ++ t ∷ us))
  where
    front : (s1 at : List Token) → s ++ t ∷ us ≡ s1 ++ at → at ≡ t ∷ us → s1 ≡ s
    front s1 at e f = append_cancel_right s1 s (t ∷ us) (ap (λ l. s1 ++ l) (sym f) ∙ sym e)

    same : (at : List Token) → at ≡ t ∷ us → SameHead at (t ∷ vs)
    same [] e = absurd (cc)
    same (u ∷ ws) e = let pair : ◌≡◌ {A = Token × List Token} (u, ws) (t, us) = cc in ap (λ (p : Token × List Token). p.0) pair

    go : (q : ReadProgram) → then_read q nothing_after ≡ Err (k, t ∷ us) → Told (program_read d) (WholeProgram d) (WholeProgram (suc (suc d))) (s ++ t ∷ us) q
        → whole_read d (s ++ t ∷ vs) ≡ Err (k, t ∷ vs)
    go (Ok (y, [])) e h = absurd (cc)
    go (Ok (y, u ∷ ws)) e h =
        let g : ◌≡◌ {A = ReadProgram} (Err (fault_of left_out_classes (Some u), u ∷ ws)) (Err (k, t ∷ us)) = e in
        let pair : ◌≡◌ {A = SyntaxFault × List Token} (fault_of left_out_classes (Some u), u ∷ ws) (k, t ∷ us) = cc in
        let tail : u ∷ ws ≡ t ∷ us = ap (λ (p : SyntaxFault × List Token). p.1) pair in
        let head = same (u ∷ ws) tail in
        ap (λ l. whole_read d (l ++ t ∷ vs)) (sym (front h.0 (u ∷ ws) h.1 tail))
        ∙ ap (λ (q : ReadProgram). then_read q nothing_after) (h.3 (t ∷ vs) head)
        ∙ ap (λ k. Err (k, t ∷ vs)) (ap (λ u. fault_of left_out_classes (Some u)) (sym head) ∙ ap (λ (p : SyntaxFault × List Token). p.0) pair)
    go (Err y) e h =
        let g : ◌≡◌ {A = ReadProgram} (Err y) (Err (k, t ∷ us)) = e in
        let pair : ◌≡◌ {A = SyntaxFault × List Token} y (k, t ∷ us) = cc in
        let tail : y.1 ≡ t ∷ us = ap (λ (p : SyntaxFault × List Token). p.1) pair in
        ap (λ l. whole_read d (l ++ t ∷ vs)) (sym (front h.0 y.1 h.1 tail))
        ∙ ap (λ (q : ReadProgram). then_read q nothing_after) (h.3 (t ∷ vs) (same y.1 tail))
        ∙ ap (λ k. Err (k, t ∷ vs)) (ap (λ (p : SyntaxFault × List Token). p.0) pair)

-- an end behind a token ends
abbrev stops : Token → Token
stops t = record { kind = End; place = t.place }

stopped_ends : (s : List Token) (t : Token) → ends_with_end (s ++ t ∷ stops t ∷ []) ≡ true
stopped_ends [] t = refl
stopped_ends (x ∷ []) t = refl
stopped_ends (x ∷ y ∷ s) t = stopped_ends (y ∷ s) t

-- a first fault is what is read
pub only_whole : (d : ℕ) (ts : List Token) (k : SyntaxFault) (at : List Token) → IsFirstFault d ts k at → whole_read d ts ≡ Err (k, at)
only_whole d ts k at f =
    let s = f.0 in
    let t = f.1 in
    let us = stops t ∷ [] in
    let g : IsFirstFault d (s ++ t ∷ us) k (t ∷ us) = (s, t, us, refl, refl, f.5, f.6) in
    let read : whole_read d (s ++ t ∷ us) ≡ Err (k, t ∷ us) = elim (verdict d (s ++ t ∷ us) (stopped_ends s t)) [
      | inl p ↦ elim (no_fault d (s ++ t ∷ us) p.0 k (t ∷ us) p.1 g) [ ]
      | inr p ↦ let one = one_fault d (s ++ t ∷ us) p.0 k p.1 (t ∷ us) p.2 g in p.3 ∙ ap (λ k. Err (k, p.1)) one.0 ∙ ap (λ l. Err (k, l)) one.1
    ] in
    ap (whole_read d) (f.3 ∙ ap (λ l. s ++ l) f.4) ∙ looks_ahead d k s t us f.2 read ∙ ap (λ l. Err (k, l)) (sym f.4)
