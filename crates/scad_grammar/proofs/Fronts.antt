-- Tokens with their depths beside those of an outline.
use Rattle.std.proofs.Common.{◌≡◌, ℕ, suc, ◌<◌, List, [], ◌∷◌, ◌++◌, length, map, take, Bool, true, false, not, ◌&&◌, refl, sym, ap, ◌∙◌, subst, arith, length-append}
use Rattle.scad_lexer.specs.declared.token.Token.{Token}
use Rattle.scad_grammar.specs.Classes.{caret_sign, has_class}
use Rattle.scad_grammar.specs.Depths.{AllBelow}

and_both : (a b : Bool) → (a && b) ≡ true → (a ≡ true) × (b ≡ true)
and_both true b e = (refl, e)
and_both false b e = absurd (cc)

pub both_true : (a b : Bool) → a ≡ true → b ≡ true → (a && b) ≡ true
both_true true b e f = f
both_true false b e f = absurd (cc)

-- no gap is among them
abbrev pub no_gap : List Token → Bool
no_gap [] = true
no_gap (t ∷ s) = not (has_class caret_sign t) && no_gap s

not_false : (b : Bool) → not b ≡ true → b ≡ false
not_false true e = absurd (cc)
not_false false e = refl

pub no_gap_joined : (p q : List Token) → no_gap p ≡ true → no_gap q ≡ true → no_gap (p ++ q) ≡ true
no_gap_joined [] q h k = k
no_gap_joined (t ∷ p) q h k = let b = and_both (not (has_class caret_sign t)) (no_gap p) h in both_true (not (has_class caret_sign t)) (no_gap (p ++ q)) b.0 (no_gap_joined p q b.1 k)

pub no_gap_front : (p q : List Token) → no_gap (p ++ q) ≡ true → no_gap p ≡ true
no_gap_front [] q h = refl
no_gap_front (t ∷ p) q h = let b = and_both (not (has_class caret_sign t)) (no_gap (p ++ q)) h in both_true (not (has_class caret_sign t)) (no_gap p) b.0 (no_gap_front p q b.1)

pub below_parts : (d : ℕ) (ms ns : List ℕ) → AllBelow d (ms ++ ns) → AllBelow d ms × AllBelow d ns
below_parts d [] ns h = (tt, h)
below_parts d (m ∷ ms) ns h = let parts = below_parts d ms ns h.1 in ((h.0, parts.0), parts.1)

pub below_less : (d : ℕ) (ns : List ℕ) → AllBelow (suc d) (map suc ns) → AllBelow d ns
below_less d [] h = h
below_less d (n ∷ ns) h = (omega (arith, h.0), below_less d ns h.1)

pub joined_length : (p q s : List Token) (ms ns : List ℕ) → length ms ≡ length p → length ns ≡ length q → s ≡ p ++ q → length (ms ++ ns) ≡ length s
joined_length p q s ms ns a b e = omega (arith, length-append ms ns, length-append p q, a, b, ap length e)

-- An outline has all that stands before the first token which is as deep as so much; where there is none it has
-- nothing else.
abbrev pub Front : ℕ → List Token → List ℕ → List Token → Type 0
Front d [] [] os = os ≡ []
Front d [] (n ∷ ns) os = ⊥
Front d (t ∷ s) [] os = ⊥
Front d (t ∷ s) (n ∷ ns) os = n < d → (us : List Token) × (os ≡ t ∷ us) × Front d s ns us

pub front_joined : (d : ℕ) (p : List Token) (ms : List ℕ) (os q : List Token) (ns : List ℕ) (us : List Token) → Front d p ms os → Front d q ns us → Front d (p ++ q) (ms ++ ns) (os ++ us)
front_joined d [] [] os q ns us h k = subst (λ o. Front d q ns (o ++ us)) (sym h) k
front_joined d [] (m ∷ ms) os q ns us h k = elim h [ ]
front_joined d (t ∷ p) [] os q ns us h k = elim h [ ]
front_joined d (t ∷ p) (m ∷ ms) os q ns us h k = λ l. let r = h l in (r.0 ++ us, ap (λ o. o ++ us) r.1, front_joined d p ms r.0 q ns us r.2 k)

pub front_deeper : (d : ℕ) (s : List Token) (ns : List ℕ) (os : List Token) → Front d s ns os → Front (suc d) s (map suc ns) os
front_deeper d [] [] os h = h
front_deeper d [] (n ∷ ns) os h = elim h [ ]
front_deeper d (t ∷ s) [] os h = elim h [ ]
front_deeper d (t ∷ s) (n ∷ ns) os h = λ l. let r = h (omega (arith, l)) in (r.0, r.1, front_deeper d s ns r.0 r.2)

-- so an outline begins with all tokens that are less deep
pub front_shown : (d : ℕ) (s w : List Token) (ns : List ℕ) (os : List Token) → Front d (s ++ w) ns os → AllBelow d (take (length s) ns) → (v : List Token) × (os ≡ s ++ v)
front_shown d [] w ns os h b = (os, refl)
front_shown d (t ∷ s) w [] os h b = elim h [ ]
front_shown d (t ∷ s) w (n ∷ ns) os h b =
    let r = h b.0 in
    let v = front_shown d s w ns r.0 r.2 b.1 in
    (v.0, r.1 ∙ ap (λ l. t ∷ l) v.1)

-- where nothing may stand, nothing stands, or what stands is too deep
pub front_zero : (s : List Token) (ns : List ℕ) (os : List Token) → length ns ≡ length s → (s ≡ [] → os ≡ []) → Front 0 s ns os
front_zero [] [] os e h = h refl
front_zero [] (n ∷ ns) os e h = absurd (omega (arith, e))
front_zero (t ∷ s) [] os e h = absurd (omega (arith, e))
front_zero (t ∷ s) (n ∷ ns) os e h = λ l. absurd (omega (arith, l))

pub none_below_zero : (s : List Token) (ns : List ℕ) → length ns ≡ length s → AllBelow 0 ns → s ≡ []
none_below_zero [] ns e h = refl
none_below_zero (t ∷ s) [] e h = absurd (omega (arith, e))
none_below_zero (t ∷ s) (n ∷ ns) e h = absurd (omega (arith, h.0))

-- Tokens in whose place an outline may have a gap: before it they are the same, and less deep.
abbrev pub Filled : ℕ → List Token → List Token → List ℕ → Type 0
Filled d [] s ns = (s ≡ []) × (ns ≡ [])
Filled d (o ∷ os) s ns =
    has_class caret_sign o ≡ false → (us : List Token) × (ms : List ℕ) × (m : ℕ) × (s ≡ o ∷ us) × (ns ≡ m ∷ ms) × (m < d) × Filled d os us ms

pub filled_joined : (d : ℕ) (os p : List Token) (ms : List ℕ) (us q : List Token) (ns : List ℕ) → Filled d os p ms → Filled d us q ns → Filled d (os ++ us) (p ++ q) (ms ++ ns)
filled_joined d [] p ms us q ns h k = subst (λ p. Filled d us (p ++ q) (ms ++ ns)) (sym h.0) (subst (λ ms. Filled d us q (ms ++ ns)) (sym h.1) k)
filled_joined d (o ∷ os) p ms us q ns h k =
    λ c. let r = h c in (r.0 ++ q, r.1 ++ ns, r.2, ap (λ p. p ++ q) r.3, ap (λ ms. ms ++ ns) r.4, r.5, filled_joined d os r.0 r.1 us q ns r.6 k)

pub filled_deeper : (d : ℕ) (os s : List Token) (ns : List ℕ) → Filled d os s ns → Filled (suc d) os s (map suc ns)
filled_deeper d [] s ns h = (h.0, ap (map suc) h.1)
filled_deeper d (o ∷ os) s ns h = λ c. let r = h c in (r.0, map suc r.1, suc r.2, r.3, ap (map suc) r.4, omega (arith, r.5), filled_deeper d os r.0 r.1 r.6)

-- so tokens of an outline that has no gap among them are those, and less deep
pub filled_shown : (d : ℕ) (s w us : List Token) (ns : List ℕ) → no_gap s ≡ true → Filled d (s ++ w) us ns → (v : List Token) × (us ≡ s ++ v) × AllBelow d (take (length s) ns)
filled_shown d [] w us ns g h = (us, refl, tt)
filled_shown d (t ∷ s) w us ns g h =
    let c = and_both (not (has_class caret_sign t)) (no_gap s) g in
    let r = h (not_false (has_class caret_sign t) c.0) in
    let v = filled_shown d s w r.0 r.1 c.1 r.6 in
    (v.0, r.3 ∙ ap (λ l. t ∷ l) v.1, subst (λ ns. AllBelow d (take (suc (length s)) ns)) (sym r.4) (r.5, v.2))

pub filled_all : (d : ℕ) (s us : List Token) (ns : List ℕ) → no_gap s ≡ true → Filled d s us ns → (us ≡ s) × AllBelow d ns
filled_all d [] us ns g h = (h.0, subst (AllBelow d) (sym h.1) tt)
filled_all d (t ∷ s) us ns g h =
    let c = and_both (not (has_class caret_sign t)) (no_gap s) g in
    let r = h (not_false (has_class caret_sign t) c.0) in
    let v = filled_all d s r.0 r.1 c.1 r.6 in
    (r.3 ∙ ap (λ l. t ∷ l) v.0, subst (AllBelow d) (sym r.4) (r.5, v.1))
