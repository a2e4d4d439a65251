-- Of equal planes the first stays.
use Rattle.std.proofs.Common.{◌≡◌, ◌<◌, true≢false, cond, append-nil, Bool, true, false, not, ◌&&◌, ◌||◌, List, [], ◌∷◌, ◌++◌, filter, length, refl, sym, ap, ◌∙◌, subst, All, arith, ℤ}
use Rattle.std.specs.List.{list_any}
use Rattle.std.specs.Ordering.{int_eq}
use Rattle.std.proofs.lemmas.Int.{ints}
use Rattle.std.proofs.lemmas.List.Elements.{All-cons, All-filter, All-head, All-nil, All-tail, filter-append}
use Rattle.plane_predicate.specs.Space.{Coefficients}
use Rattle.primitives.specs.Placing.{is_same_plane, distinct_planes}

and_true : (x y : Bool) → (x && y) ≡ true → (x ≡ true) × (y ≡ true)
and_true true y h = (refl, h)
and_true false y h = absurd (true≢false (sym h))

same_int : (x y : ℤ) → int_eq x y ≡ true → x ≡ y
same_int x y h = grind (arith, ints)

int_itself : (x : ℤ) → int_eq x x ≡ true
int_itself x = grind (arith, ints)

pub same_itself : (m : Coefficients) → is_same_plane m m ≡ true
same_itself m = rw (int_itself m.a, int_itself m.b, int_itself m.c, int_itself m.d) refl

four_same : (m n : Coefficients) → m.a ≡ n.a → m.b ≡ n.b → m.c ≡ n.c → m.d ≡ n.d → m ≡ n
four_same m n ha hb hc hd = λ i. record { a = ha i; b = hb i; c = hc i; d = hd i }

pub same_equal : (m n : Coefficients) → is_same_plane m n ≡ true → m ≡ n
same_equal m n h =
    let x = and_true (int_eq m.a n.a && int_eq m.b n.b && int_eq m.c n.c) (int_eq m.d n.d) h in
    let y = and_true (int_eq m.a n.a && int_eq m.b n.b) (int_eq m.c n.c) x.0 in
    let z = and_true (int_eq m.a n.a) (int_eq m.b n.b) y.0 in
    four_same m n (same_int m.a n.a z.0) (same_int m.b n.b z.1) (same_int m.c n.c y.1) (same_int m.d n.d x.1)

-- whether a plane is among some planes
abbrev pub among : Coefficients → List Coefficients → Bool
among m planes = list_any (λ n. is_same_plane n m) planes

abbrev others : Coefficients → List Coefficients → List Coefficients
others m planes = filter (λ n. not (is_same_plane m n)) planes

-- leaving another plane's copies out changes nothing for a plane
among_step : (x m y : Coefficients) (rest planes : List Coefficients) → is_same_plane x m ≡ false → among m rest ≡ among m planes → (b : Bool) → is_same_plane x y ≡ b → among m (cond (not b) (y ∷ rest) rest) ≡ (is_same_plane y m || among m planes)
among_step x m y rest planes h r true e =
    let f : is_same_plane y m ≡ false = subst (λ (k : Coefficients). is_same_plane k m ≡ false) (same_equal x y e) h in
    rw f r
among_step x m y rest planes h r false e = ap (λ (b : Bool). is_same_plane y m || b) r

among_others : (x m : Coefficients) → is_same_plane x m ≡ false → (planes : List Coefficients) → among m (others x planes) ≡ among m planes
among_others x m h [] = refl
among_others x m h (y ∷ planes) = among_step x m y (others x planes) planes h (among_others x m h planes) (is_same_plane x y) refl

others_alone : (x m : Coefficients) (b : Bool) → is_same_plane x m ≡ b → others x (m ∷ []) ≡ cond (not b) (m ∷ []) []
others_alone x m b e = ap (λ (c : Bool). cond (not c) (m ∷ []) []) e

-- one more plane, after those that are there
pub record AddsPlane (m : Coefficients) (planes : List Coefficients) (more : List Coefficients) : Type 0 where
  pub there : among m planes ≡ true → more ≡ planes
  pub new : among m planes ≡ false → more ≡ planes ++ m ∷ []

first_plane : (m : Coefficients) → AddsPlane m [] (distinct_planes (m ∷ []))
first_plane m = record { there = λ h. absurd (true≢false (sym h)); new = λ h. refl }

-- others of a list with one more plane, which is x itself
kept_out : (x m : Coefficients) (planes more : List Coefficients) → is_same_plane x m ≡ true → AddsPlane m planes more → (b : Bool) → among m planes ≡ b → others x more ≡ others x planes
kept_out x m planes more e h true t = ap (others x) (h.there t)
kept_out x m planes more e h false f =
    ap (others x) (h.new f)
    ∙ filter-append (λ (n : Coefficients). not (is_same_plane x n)) planes (m ∷ [])
    ∙ ap (λ (ns : List Coefficients). others x planes ++ ns) (others_alone x m true e)
    ∙ append-nil (others x planes)

adds_step : (x m : Coefficients) (planes more : List Coefficients) → AddsPlane m planes more → (b : Bool) → is_same_plane x m ≡ b → AddsPlane m (x ∷ others x planes) (x ∷ others x more)
adds_step x m planes more h true e = record {
  there = λ _. ap (λ (ns : List Coefficients). x ∷ ns) (kept_out x m planes more e h (among m planes) refl);
  new = λ f. absurd (true≢false (sym (ap (λ (b : Bool). b || among m (others x planes)) e) ∙ f));
}
adds_step x m planes more h false e =
    let start : (is_same_plane x m || among m (others x planes)) ≡ among m planes = ap (λ (b : Bool). b || among m (others x planes)) e ∙ among_others x m e planes in
    record {
      there = λ t. ap (λ (ns : List Coefficients). x ∷ others x ns) (h.there (sym start ∙ t));
      new = λ f. ap (λ (ns : List Coefficients). x ∷ others x ns) (h.new (sym start ∙ f))
          ∙ ap (λ (ns : List Coefficients). x ∷ ns) (filter-append (λ (n : Coefficients). not (is_same_plane x n)) planes (m ∷ []) ∙ ap (λ (ns : List Coefficients). others x planes ++ ns) (others_alone x m false e));
    }

pub distinct_planes-push : (planes : List Coefficients) (m : Coefficients) → AddsPlane m (distinct_planes planes) (distinct_planes (planes ++ m ∷ []))
distinct_planes-push [] m = first_plane m
distinct_planes-push (x ∷ planes) m = adds_step x m (distinct_planes planes) (distinct_planes (planes ++ m ∷ [])) (distinct_planes-push planes m) (is_same_plane x m) refl

pub all_of_distinct : (P : Coefficients → Type 0) (planes : List Coefficients) → All P planes → All P (distinct_planes planes)
all_of_distinct P [] h = h
all_of_distinct P (x ∷ planes) h = All-cons P x _ (All-head P x planes h) (All-filter (λ (n : Coefficients). not (is_same_plane x n)) P (distinct_planes planes) (all_of_distinct P planes (All-tail P x planes h)))

others_step : (P : Coefficients → Type 0) (x y : Coefficients) (rest planes : List Coefficients) → P x → (All P rest → All P planes) → (b : Bool) → is_same_plane x y ≡ b → All P (cond (not b) (y ∷ rest) rest) → All P (y ∷ planes)
others_step P x y rest planes px f true e h = All-cons P y planes (subst P (same_equal x y e) px) (f h)
others_step P x y rest planes px f false e h = All-cons P y planes (All-head P y rest h) (f (All-tail P y rest h))

others_all : (P : Coefficients → Type 0) (x : Coefficients) → P x → (planes : List Coefficients) → All P (others x planes) → All P planes
others_all P x px [] h = All-nil P
others_all P x px (y ∷ planes) h = others_step P x y (others x planes) planes px (others_all P x px planes) (is_same_plane x y) refl h

pub all_from_distinct : (P : Coefficients → Type 0) (planes : List Coefficients) → All P (distinct_planes planes) → All P planes
all_from_distinct P [] h = All-nil P
all_from_distinct P (x ∷ planes) h =
    let px = All-head P x (others x (distinct_planes planes)) h in
    All-cons P x planes px (all_from_distinct P planes (others_all P x px (distinct_planes planes) (All-tail P x (others x (distinct_planes planes)) h)))

pub some_distinct : (planes : List Coefficients) → 0 < length planes → 0 < length (distinct_planes planes)
some_distinct [] h = h
some_distinct (x ∷ planes) h = omega arith
