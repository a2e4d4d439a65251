-- The places of a block's assignments by name.
use Rattle.std.proofs.Common.{◌≡◌, ℕ, zero, suc, ◌<◌, List, [], ◌∷◌, ◌++◌, length, map, get_or, set, Bool, true, false, cond, Option, Some, None, refl, sym, ap, ◌∙◌, arith}
use Rattle.std.specs.Prelude.{◌&&◌, IfSome}
use Rattle.std.specs.Bool.{beq}
use Rattle.std.specs.Str.{bytes_eq}
use Rattle.std.specs.Cmp.Lexicographic.{bytes_decides}
use Rattle.scad_definitions.specs.Newest.{one_further}
use Rattle.scad_definitions.specs.Blocks.{SourceAssignment, same_assigned_name, place_of_assignment}
use Rattle.scad_definitions.specs.Newest.{Pairs, find_in}
use Rattle.scad_definitions.specs.TextView.{source_assignment_of}
use Rattle.scad_definitions.specs.declared.text.Assignment.{Assignment}

false_true : false ≡ true → ⊥
false_true e = cc

some_none : {A : Type 0} (x : A) → Some x ≡ None → ⊥
some_none x e = cc

-- two kinds and names that are the same
alike : (s t : Bool) (m n : List ℕ) → (beq s t && bytes_eq m n) ≡ true → (s ≡ t) × (m ≡ n)
alike true true m n h = (refl, (bytes_decides m n).0 h)
alike true false m n h = absurd (false_true h)
alike false true m n h = absurd (false_true h)
alike false false m n h = (refl, (bytes_decides m n).0 h)

itself : (s : Bool) (m : List ℕ) → (beq s s && bytes_eq m m) ≡ true
itself true m = (bytes_decides m m).1 refl
itself false m = (bytes_decides m m).1 refl

-- what has the name of a third one has each other's
met : (b a q : SourceAssignment) → same_assigned_name b q ≡ true → same_assigned_name a q ≡ true → same_assigned_name b a ≡ true
met b a q x y =
    let u = alike b.special q.special b.name q.name x in
    let v = alike a.special q.special a.name q.name y in
    ap (λ t. beq b.special t && bytes_eq b.name a.name) (v.0 ∙ sym u.0)
    ∙ ap (λ n. beq b.special b.special && bytes_eq b.name n) (v.1 ∙ sym u.1)
    ∙ itself b.special b.name

-- the place of a name with one more behind, which wasn't there
pub place_behind : (bs : List SourceAssignment) (a q : SourceAssignment) → place_of_assignment bs a ≡ None
    → place_of_assignment (bs ++ a ∷ []) q ≡ cond (same_assigned_name a q) (Some (length bs)) (place_of_assignment bs q)
place_behind [] a q e = refl
place_behind (b ∷ bs) a q e = by_first (same_assigned_name b a) (place_of_assignment bs a) refl (place_behind bs a q) e
  where
    by_tests : (bq aq : Bool) → (bq ≡ true → aq ≡ true → ⊥)
        → cond bq (Some zero) (one_further (cond aq (Some (length bs)) (place_of_assignment bs q)))
        ≡ cond aq (Some (suc (length bs))) (cond bq (Some zero) (one_further (place_of_assignment bs q)))
    by_tests true true apart = absurd (apart refl refl)
    by_tests true false apart = refl
    by_tests false true apart = refl
    by_tests false false apart = refl

    by_first : (t : Bool) (o : Option ℕ) → t ≡ same_assigned_name b a
        → (o ≡ None → place_of_assignment (bs ++ a ∷ []) q ≡ cond (same_assigned_name a q) (Some (length bs)) (place_of_assignment bs q))
        → cond t (Some zero) (one_further o) ≡ None
        → place_of_assignment ((b ∷ bs) ++ a ∷ []) q ≡ cond (same_assigned_name a q) (Some (suc (length bs))) (place_of_assignment (b ∷ bs) q)
    by_first true o s go e = absurd (some_none zero e)
    by_first false (Some k) s go e = absurd (some_none (suc k) e)
    by_first false None s go e =
        ap (λ r. cond (same_assigned_name b q) (Some zero) (one_further r)) (go refl)
        ∙ by_tests (same_assigned_name b q) (same_assigned_name a q) (λ x y. false_true (s ∙ met b a q x y))

-- the places with one more
pub placed_more : (old new : Bool → Pairs ℕ) (bs : List SourceAssignment) (a : SourceAssignment) (name : List ℕ) (place : ℕ)
    → ((kind : Bool) → new kind ≡ cond (beq a.special kind) ((name, place) ∷ old kind) (old kind))
    → name ≡ a.name → place ≡ length bs
    → ((q : SourceAssignment) → find_in (old q.special) q.name ≡ place_of_assignment bs q) → place_of_assignment bs a ≡ None
    → (q : SourceAssignment) → find_in (new q.special) q.name ≡ place_of_assignment (bs ++ a ∷ []) q
placed_more old new bs a name place put n p all none q =
    ap (λ ps. find_in ps q.name) (put q.special)
    ∙ by_kind (beq a.special q.special)
    ∙ ap (λ m. cond (beq a.special q.special && bytes_eq m q.name) (Some place) (find_in (old q.special) q.name)) n
    ∙ ap (λ k. cond (same_assigned_name a q) (Some k) (find_in (old q.special) q.name)) p
    ∙ ap (λ o. cond (same_assigned_name a q) (Some (length bs)) o) (all q)
    ∙ sym (place_behind bs a q none)
  where
    by_kind : (t : Bool) → find_in (cond t ((name, place) ∷ old q.special) (old q.special)) q.name
        ≡ cond (t && bytes_eq name q.name) (Some place) (find_in (old q.special) q.name)
    by_kind true = refl
    by_kind false = refl

-- another expression moves no place
pub placed_alike : (bs : List Assignment) (i : ℕ) (x y : Assignment) (q : SourceAssignment) → i < length bs → x ≡ get_or bs i x
    → same_assigned_name (source_assignment_of y) q ≡ same_assigned_name (source_assignment_of x) q
    → place_of_assignment (map source_assignment_of (set bs i y)) q ≡ place_of_assignment (map source_assignment_of bs) q
placed_alike [] i x y q h e s = absurd (omega arith)
placed_alike (b ∷ bs) zero x y q h e s =
    ap (λ t. cond t (Some zero) (one_further (place_of_assignment (map source_assignment_of bs) q))) (s ∙ ap (λ (u : Assignment). same_assigned_name (source_assignment_of u) q) e)
placed_alike (b ∷ bs) (suc i) x y q h e s =
    ap (λ o. cond (same_assigned_name (source_assignment_of b) q) (Some zero) (one_further o)) (placed_alike bs i x y q (omega arith) e s)

-- a place is one of the assignments
pub place_there : (bs : List Assignment) (a : SourceAssignment) (o : Option ℕ) → o ≡ place_of_assignment (map source_assignment_of bs) a → IfSome o (λ k. k < length bs)
place_there bs a None e = tt
place_there bs a (Some k) e = within bs k (sym e)
  where
    within : (bs : List Assignment) (k : ℕ) → place_of_assignment (map source_assignment_of bs) a ≡ Some k → k < length bs
    within [] k e = absurd (some_none k (sym e))
    within (b ∷ bs) k e = by_test (same_assigned_name (source_assignment_of b) a) (place_of_assignment (map source_assignment_of bs) a) k (λ j. within bs j) e
      where
        by_test : (t : Bool) (o : Option ℕ) (k : ℕ) → ((j : ℕ) → o ≡ Some j → j < length bs)
            → cond t (Some zero) (one_further o) ≡ Some k → k < suc (length bs)
        by_test true o k go e = let z : zero ≡ k = cc in omega (arith, z)
        by_test false (Some j) k go e = let z : suc j ≡ k = cc in omega (arith, z, go j refl)
        by_test false None k go e = absurd (some_none k (sym e))
