-- Sets of ways.
use Rattle.std.proofs.Common.{◌≡◌, ℕ, ◌+◌, ◌<◌, Bool, true, false, not, cond, List, [], ◌∷◌, length, get_or, refl, sym, ap, ◌∙◌, subst, arith, IsTrue, ◌↔◌, BTreeSet, true≢false, All, ℤ, ◌⊎◌, inl, inr, ap₂}
use Rattle.std.proofs.lemmas.Bool.{cases_lt}
use Rattle.std.proofs.lemmas.List.{get_or_default}
use Rattle.std.proofs.lemmas.Int.{ints}
use Rattle.primitives.specs.contracts.ways.DirectedEdgeOrd.TheImpl.{cmp-value}
use Rattle.std.specs.BTreeSet.{contains}
use Rattle.std.specs.BTreeMap.{is_at}
use Rattle.std.specs.Ordering.{is_eq, int_cmp, ordering_then}
use Rattle.std.specs.Cmp.Lexicographic.{slice_cmp}
use Rattle.std.specs.declared.cmp.Ordering.{Ordering}
use Rattle.std.specs.declared.cmp.Ordering.TheVariants.{Equal, Less, Greater}
use Rattle.std.proofs.lemmas.Map.Lookups.{exact_signed}
use Rattle.primitives.specs.declared.ways.DirectedEdge.{DirectedEdge}
use Rattle.primitives.specs.DirectedEdges.{missing_edge, reversed_edge, AreDifferentBelow, AreDifferent, AreMetBothWays, IsMet, IsMetBelow, IsMetOnce}

-- an order that tells ways apart
pub record TellsApart (R : DirectedEdge → DirectedEdge → Ordering) : Type 0 where
  pub exact : (x y : DirectedEdge) → R x y ≡ Equal → x ≡ y
  pub itself : (x : DirectedEdge) → R x x ≡ Equal

tells_equal : (o : Ordering) → is_eq o ≡ true → o ≡ Equal
tells_equal Equal h = refl
tells_equal Less h = cc
tells_equal Greater h = cc

-- the set has exactly the first n of some ways
pub record HasFirst (R : DirectedEdge → DirectedEdge → Ordering) (s : BTreeSet DirectedEdge) (ways : List DirectedEdge) (n : ℕ) : Type 0 where
  pub found : (w : DirectedEdge) → IsTrue (contains R s w) ↔ IsMetBelow ways n w
  pub different : AreDifferentBelow ways n

-- one more way, which is new
next_found : (R : DirectedEdge → DirectedEdge → Ordering) (s n : BTreeSet DirectedEdge) (ways : List DirectedEdge) (i : ℕ) (k w : DirectedEdge) → TellsApart R → get_or ways i missing_edge ≡ k → HasFirst R s ways i → (b : Bool) → is_at (R k) w ≡ b → contains R n w ≡ cond b true (contains R s w) → IsTrue (contains R n w) → IsMetBelow ways (i + 1) w
next_found R s n ways i k w tells e h true same u t = record { at = i; at_in = omega arith; is = e ∙ tells.exact k w (tells_equal (R k w) same) }
next_found R s n ways i k w tells e h false same u t =
    let m : IsMetBelow ways i w = (h.found w).0 (sym u ∙ t) in
    record { at = m.at; at_in = omega (arith, m.at_in); is = m.is }

itself_at : (R : DirectedEdge → DirectedEdge → Ordering) (k : DirectedEdge) → TellsApart R → is_at (R k) k ≡ true
itself_at R k tells = ap is_eq (tells.itself k)

cond_here : (b c : Bool) → b ≡ true → cond b true c ≡ true
cond_here true c h = refl
cond_here false c h = absurd (true≢false (sym h))

cond_there : (b c : Bool) → c ≡ true → cond b true c ≡ true
cond_there true c h = refl
cond_there false c h = h

last_or_before : (R : DirectedEdge → DirectedEdge → Ordering) (s n : BTreeSet DirectedEdge) (ways : List DirectedEdge) (i : ℕ) (k w : DirectedEdge) → TellsApart R → get_or ways i missing_edge ≡ k → HasFirst R s ways i → contains R n w ≡ cond (is_at (R k) w) true (contains R s w) → (m : IsMetBelow ways (i + 1) w) → (m.at ≡ i) ⊎ (m.at < i) → IsTrue (contains R n w)
last_or_before R s n ways i k w tells e h u m (inl here) =
    let same : k ≡ w = sym e ∙ ap (λ (j : ℕ). get_or ways j missing_edge) (sym here) ∙ m.is in
    u ∙ cond_here (is_at (R k) w) (contains R s w) (subst (λ (v : DirectedEdge). is_at (R k) v ≡ true) same (itself_at R k tells))
last_or_before R s n ways i k w tells e h u m (inr before) =
    u ∙ cond_there (is_at (R k) w) (contains R s w) ((h.found w).1 (record { at = m.at; at_in = before; is = m.is }))

at_or_below : (a i : ℕ) → a < i + 1 → (a ≡ i) ⊎ (a < i)
at_or_below a i h = elim (cases_lt a i) [ inl l ↦ inr l | inr g ↦ inl (omega (arith, h, g)) ]

-- no two of them are the same, since the new one is not among those before it
next_different : (R : DirectedEdge → DirectedEdge → Ordering) (s : BTreeSet DirectedEdge) (ways : List DirectedEdge) (i : ℕ) → HasFirst R s ways i → contains R s (get_or ways i missing_edge) ≡ false → AreDifferentBelow ways (i + 1)
next_different R s ways i h new =
    let not_before : (a : ℕ) → a < i → get_or ways a missing_edge ≡ get_or ways i missing_edge → ⊥ = λ a lt e. true≢false (sym ((h.found (get_or ways i missing_edge)).1 (record { at = a; at_in = lt; is = e })) ∙ new) in
    record {
      same = λ a b la lb e. elim (at_or_below a i la) [
        | inl here ↦ elim (at_or_below b i lb) [
          | inl there ↦ here ∙ sym there
          | inr before ↦ absurd (not_before b before (sym e ∙ ap (λ (j : ℕ). get_or ways j missing_edge) here))
        ]
        | inr before ↦ elim (at_or_below b i lb) [
          | inl there ↦ absurd (not_before a before (e ∙ ap (λ (j : ℕ). get_or ways j missing_edge) there))
          | inr both ↦ h.different.same a b before both e
        ]
      ];
    }

pub has_next : (R : DirectedEdge → DirectedEdge → Ordering) (s n : BTreeSet DirectedEdge) (ways : List DirectedEdge) (i : ℕ) (k : DirectedEdge) → TellsApart R → get_or ways i missing_edge ≡ k → HasFirst R s ways i → contains R s k ≡ false → ((w : DirectedEdge) → contains R n w ≡ cond (is_at (R k) w) true (contains R s w)) → HasFirst R n ways (i + 1)
has_next R s n ways i k tells e h new updates = record {
  found = λ w. (next_found R s n ways i k w tells e h (is_at (R k) w) refl (updates w), λ m. last_or_before R s n ways i k w tells e h (updates w) m (at_or_below m.at i m.at_in));
  different = next_different R s ways i h (subst (λ (v : DirectedEdge). contains R s v ≡ false) (sym e) new);
}

pub has_none : (R : DirectedEdge → DirectedEdge → Ordering) (s : BTreeSet DirectedEdge) (ways : List DirectedEdge) → ((w : DirectedEdge) → contains R s w ≡ false) → HasFirst R s ways 0
has_none R s ways h = record {
  found = λ w. (λ t. absurd (true≢false (sym t ∙ h w)), λ m. absurd (omega (arith, m.at_in)));
  different = record { same = λ a b la lb e. absurd (omega (arith, la)) };
}

-- a way that is met again
pub met_again : (R : DirectedEdge → DirectedEdge → Ordering) (s : BTreeSet DirectedEdge) (ways : List DirectedEdge) (i : ℕ) → i < length ways → HasFirst R s ways i → IsTrue (contains R s (get_or ways i missing_edge)) → AreDifferent ways → ⊥
met_again R s ways i lt h there d =
    let m = (h.found (get_or ways i missing_edge)).0 there in
    let e : m.at ≡ i = d.same m.at i (omega (arith, m.at_in, lt)) lt m.is in
    omega (arith, e, m.at_in)

-- what a test says whose negation was told
pub was_false : (b t : Bool) → t ≡ not b → t ≡ true → b ≡ false
was_false true t e h = absurd (true≢false (sym h ∙ e))
was_false false t e h = refl

pub was_true : (b t : Bool) → t ≡ not b → t ≡ false → b ≡ true
was_true true t e h = refl
was_true false t e h = absurd (true≢false (sym e ∙ h))

-- ---- the order of ways
then_equal : (o p : Ordering) → ordering_then o p ≡ Equal → (o ≡ Equal) × (p ≡ Equal)
then_equal Equal p h = (refl, h)
then_equal Less p h = cc
then_equal Greater p h = cc

number_itself : (x : ℤ) → int_cmp x x ≡ Equal
number_itself x = grind (arith, ints)

same_way : (x y : DirectedEdge) → x.from ≡ y.from → x.to ≡ y.to → x ≡ y
same_way x y e f = λ i. record { from = e i; to = f i }

exact_list : (xs ys : List ℤ) → slice_cmp int_cmp xs ys ≡ Equal → xs ≡ ys
exact_list [] [] e = refl
exact_list [] (y ∷ ys) e = cc
exact_list (x ∷ xs) [] e = cc
exact_list (x ∷ xs) (y ∷ ys) e =
    let h = then_equal (int_cmp x y) (slice_cmp int_cmp xs ys) e in
    ap₂ ◌∷◌ (exact_signed x y h.0) (exact_list xs ys h.1)

list_itself : (xs : List ℤ) → slice_cmp int_cmp xs xs ≡ Equal
list_itself [] = refl
list_itself (x ∷ xs) = rw (number_itself x) (list_itself xs)

exact_way : (x y : DirectedEdge) → cmp-value.it x y ≡ Equal → x ≡ y
exact_way x y e =
    let h = then_equal (slice_cmp int_cmp x.from y.from) (slice_cmp int_cmp x.to y.to) e in
    same_way x y (exact_list x.from y.from h.0) (exact_list x.to y.to h.1)

way_itself : (x : DirectedEdge) → cmp-value.it x x ≡ Equal
way_itself x = rw (list_itself x.from) (list_itself x.to)

pub ways_apart : TellsApart cmp-value.it
ways_apart = record { exact = exact_way; itself = way_itself }

-- ---- ways that are met both ways
pub met_both_ways : (R : DirectedEdge → DirectedEdge → Ordering) (s : BTreeSet DirectedEdge) (ways : List DirectedEdge) → ((w : DirectedEdge) → IsTrue (contains R s w) ↔ IsMet ways w) → AreDifferent ways → All (λ (w : DirectedEdge). IsTrue (contains R s (reversed_edge w))) ways → AreMetBothWays ways
met_both_ways R s ways found d h =
    let once : (w : DirectedEdge) → IsMet ways w → IsMetOnce ways w = λ w m. record { at = m.at; at_in = m.at_in; is = m.is; only = λ k lt e. d.same k m.at lt m.at_in (e ∙ sym m.is) } in
    λ k e lt. (once (get_or ways k e) (record { at = k; at_in = lt; is = get_or_default ways k missing_edge e lt }), once (reversed_edge (get_or ways k e)) ((found (reversed_edge (get_or ways k e))).0 (h k e lt)))

pub all_met_back : (R : DirectedEdge → DirectedEdge → Ordering) (s : BTreeSet DirectedEdge) (ways : List DirectedEdge) → ((w : DirectedEdge) → IsTrue (contains R s w) ↔ IsMet ways w) → AreMetBothWays ways → All (λ (w : DirectedEdge). IsTrue (contains R s (reversed_edge w))) ways
all_met_back R s ways found h = λ k e lt.
    let m = (h k e lt).1 in
    (found (reversed_edge (get_or ways k e))).1 (record { at = m.at; at_in = m.at_in; is = m.is })

pub are_different : (ways : List DirectedEdge) → AreMetBothWays ways → AreDifferent ways
are_different ways h = record {
  same = λ i j li lj e.
      let m = (h i missing_edge li).0 in
      m.only i li refl ∙ sym (m.only j lj (sym e));
}
