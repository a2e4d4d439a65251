-- Planes that are new among known ones, up to orientation.
use Rattle.std.proofs.Common.{◌≡◌, ℕ, ◌+◌, ◌<◌, Bool, true, false, true≢false, ◌||◌, if◌then◌else◌, List, [], ◌∷◌, ◌++◌, length, get_or, drop, refl, sym, ap, ap₂, ◌∙◌, arith, ℤ, neg_ℤ, drop-cons, add-one}
use Rattle.std.specs.List.{list_any}
use Rattle.std.specs.Ordering.{int_eq}
use Rattle.std.proofs.lemmas.Int.{ints}
use Rattle.plane_predicate.specs.Space.{Coefficients, is_same, opposite_of}
use Rattle.scad_design.specs.Placing.{with_new_planes, with_plane_unless_known, is_same_or_opposite}

turned_int : (x y : ℤ) → int_eq x (neg_ℤ y) ≡ int_eq (neg_ℤ x) y
turned_int x y = grind (arith, ints)

-- a plane is the opposite of another one where its own opposite is the other one
quarter_turns_about : (m n : Coefficients) → is_same m (opposite_of n) ≡ is_same (opposite_of m) n
quarter_turns_about m n = rw (turned_int m.a n.a, turned_int m.b n.b, turned_int m.c n.c, turned_int m.d n.d) refl

either_step : (a b c d : Bool) → ((a || b) || (c || d)) ≡ ((a || c) || (b || d))
either_step true b c d = refl
either_step false true true d = refl
either_step false true false d = refl
either_step false false c d = refl

-- among planes there is one with the same points where there is the plane or its opposite
pub either : (m : Coefficients) (known : List Coefficients) → list_any (is_same_or_opposite m) known ≡ (list_any (is_same m) known || list_any (is_same (opposite_of m)) known)
either m [] = refl
either m (n ∷ known) =
    ap₂ (λ (a b : Bool). (is_same m n || a) || b) (quarter_turns_about m n) (either m known)
    ∙ either_step (is_same m n) (is_same (opposite_of m) n) (list_any (is_same m) known) (list_any (is_same (opposite_of m)) known)

left_none : (a b : Bool) → (a || b) ≡ false → a ≡ false
left_none false b h = refl
left_none true b h = absurd (true≢false h)

-- a plane that is new is added as a key that is new
pub added_new : (m : Coefficients) (known : List Coefficients) → list_any (is_same_or_opposite m) known ≡ false →
    (if list_any (is_same m) known then known else known ++ m ∷ []) ≡ with_plane_unless_known (list_any (is_same_or_opposite m) known) known m
added_new m known none =
    let apart : list_any (is_same m) known ≡ false = left_none (list_any (is_same m) known) (list_any (is_same (opposite_of m)) known) (sym (either m known) ∙ none) in
    rw (none, apart) refl

module _ (known new planes : List Coefficients) (i : ℕ) (m : Coefficients) (h : i < length planes) (is : m ≡ get_or planes i m) (grows : new ≡ with_plane_unless_known (list_any (is_same_or_opposite m) known) known m) where
  next_left : drop i planes ≡ m ∷ drop (i + 1) planes
  next_left = drop-cons planes i m h ∙ ap₂ (λ (n : Coefficients) (l : List Coefficients). n ∷ l) (sym is) (ap (λ (n : ℕ). drop n planes) (sym (add-one i)))

  -- a plane more is added
  pub plane_added : (whole : List Coefficients) → with_new_planes known (drop i planes) ≡ whole → with_new_planes new (drop (i + 1) planes) ≡ whole
  plane_added whole e = ap (λ (ks : List Coefficients). with_new_planes ks (drop (i + 1) planes)) grows ∙ ap (with_new_planes known) (sym next_left) ∙ e
