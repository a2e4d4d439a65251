-- Each name of a body counts once, with its last expression at the place of its first.
use Rattle.std.proofs.Common.{◌≡◌, ◌⊎◌, inl, inr, ⊎_elim, ℕ, Bool, true, false, cond, ◌||◌, ◌&&◌, List, [], ◌∷◌, ◌++◌, Option, Some, None, refl, sym, ap, subst, ◌∙◌, append_assoc, append-nil}
use Rattle.std.specs.Prelude.{option_map}
use Rattle.std.specs.Bool.{beq}
use Rattle.std.specs.List.{AllByRecursion}
use Rattle.std.specs.Str.{bytes_eq}
use Rattle.std.proofs.lemmas.Slice.Eq.{bytes_eq-Decides}
use Rattle.std.proofs.lemmas.Bool.{false≢true}
use Rattle.scad_ast.specs.Terms.{StatementTerms}
use Rattle.scad_definitions.specs.Blocks.{SourceAssignment, same_assigned_name, with_assigned, assignments_with_all, assignments_in, assignments_of}
use Rattle.scad_meaning.specs.Bodies.{is_named_in, first_of_its_name, or_later, last_of, StandsForAll, HaveDistinctNames}

either : (b : Bool) → (b ≡ true) ⊎ (b ≡ false)
either true = inl refl
either false = inr refl

-- the same name is an equivalence
same_truth : (s t : Bool) → beq s t ≡ true → s ≡ t
same_truth true true h = refl
same_truth true false h = sym h
same_truth false true h = h
same_truth false false h = refl

truth_itself : (s : Bool) → beq s s ≡ true
truth_itself true = refl
truth_itself false = refl

left_true : (a b : Bool) → (a && b) ≡ true → a ≡ true
left_true true b h = refl
left_true false b h = h

right_true : (a b : Bool) → (a && b) ≡ true → b ≡ true
right_true true b h = h
right_true false b h = absurd (false≢true h)

both_true : (a b : Bool) → a ≡ true → b ≡ true → (a && b) ≡ true
both_true a b h k = ap (λ (t : Bool). t && b) h ∙ k

itself : (a : SourceAssignment) → same_assigned_name a a ≡ true
itself a = both_true (beq a.special a.special) (bytes_eq a.name a.name) (truth_itself a.special) ((bytes_eq-Decides a.name a.name).1 refl)

same_test : (a b : SourceAssignment) → same_assigned_name a b ≡ true → (c : SourceAssignment) → same_assigned_name a c ≡ same_assigned_name b c
same_test a b h c =
    ap (λ (s : Bool). beq s c.special && bytes_eq a.name c.name) (same_truth a.special b.special (left_true (beq a.special b.special) (bytes_eq a.name b.name) h))
    ∙ ap (λ (n : List ℕ). beq b.special c.special && bytes_eq n c.name) ((bytes_eq-Decides a.name b.name).0 (right_true (beq a.special b.special) (bytes_eq a.name b.name) h))

quarter_turns_about : (a b : SourceAssignment) → same_assigned_name a b ≡ true → same_assigned_name b a ≡ true
quarter_turns_about a b h = sym (same_test a b h a) ∙ itself a

not_turned : (a b : SourceAssignment) → same_assigned_name a b ≡ false → same_assigned_name b a ≡ false
not_turned a b h = ⊎_elim (λ k. absurd (false≢true (sym h ∙ quarter_turns_about b a k))) (λ k. k) (either (same_assigned_name b a))

same_named : (a b : SourceAssignment) → same_assigned_name a b ≡ true → (xs : List SourceAssignment) → is_named_in xs a ≡ is_named_in xs b
same_named a b h [] = refl
same_named a b h (x ∷ xs) =
    ap (λ (t : Bool). t || is_named_in xs a) (same_test a b h x) ∙ ap (λ (t : Bool). same_assigned_name b x || t) (same_named a b h xs)

or_left : (a b : Bool) → (a || b) ≡ false → a ≡ false
or_left true b h = h
or_left false b h = refl

or_right : (a b : Bool) → (a || b) ≡ false → b ≡ false
or_right true b h = absurd (false≢true (sym h))
or_right false b h = h

or_false : (a b : Bool) → a ≡ false → b ≡ false → (a || b) ≡ false
or_false a b h k = ap (λ (t : Bool). t || b) h ∙ k

nothing_before : (o : Option SourceAssignment) → or_later o None ≡ or_later None o
nothing_before None = refl
nothing_before (Some b) = refl

later_joined : (o p q : Option SourceAssignment) → or_later (or_later o p) q ≡ or_later o (or_later p q)
later_joined o p None = refl
later_joined o p (Some b) = refl

nothing_is_none : (c : SourceAssignment) → None ≡ Some c → ⊥
nothing_is_none c h = cc h

kept_by : (a : SourceAssignment) (t : Bool) (x : SourceAssignment) (xs : List SourceAssignment) (b c : SourceAssignment) → cond t (Some x) (first_of_its_name a xs) ≡ Some c →
    (first_of_its_name a xs ≡ Some c → first_of_its_name a (xs ++ b ∷ []) ≡ Some c) → cond t (Some x) (first_of_its_name a (xs ++ b ∷ [])) ≡ Some c
kept_by a true x xs b c h next = h
kept_by a false x xs b c h next = next h

some_is_some : (x : SourceAssignment) → Some x ≡ None → ⊥
some_is_some x h = cc h

new_by : (a : SourceAssignment) (t : Bool) (x : SourceAssignment) (xs : List SourceAssignment) → cond t (Some x) (first_of_its_name a xs) ≡ None →
    (first_of_its_name a xs ≡ None → first_of_its_name a (xs ++ a ∷ []) ≡ Some a) → cond t (Some x) (first_of_its_name a (xs ++ a ∷ [])) ≡ Some a
new_by a true x xs h next = absurd (some_is_some x h)
new_by a false x xs h next = next h

-- the first and the last of a name, with one assignment more at the end
last_with : (a : SourceAssignment) (before : List SourceAssignment) (b : SourceAssignment) → last_of a (before ++ b ∷ []) ≡ or_later (last_of a before) (cond (same_assigned_name a b) (Some b) None)
last_with a [] b = nothing_before (cond (same_assigned_name a b) (Some b) None)
last_with a (x ∷ xs) b =
    ap (or_later (cond (same_assigned_name a x) (Some x) None)) (last_with a xs b)
    ∙ sym (later_joined (cond (same_assigned_name a x) (Some x) None) (last_of a xs) (cond (same_assigned_name a b) (Some b) None))

first_with : (a : SourceAssignment) (before : List SourceAssignment) (b : SourceAssignment) → same_assigned_name a b ≡ false → first_of_its_name a (before ++ b ∷ []) ≡ first_of_its_name a before
first_with a [] b h = ap (λ (t : Bool). cond t (Some b) None) h
first_with a (x ∷ xs) b h = ap (λ (o : Option SourceAssignment). cond (same_assigned_name a x) (Some x) o) (first_with a xs b h)

first_kept : (a : SourceAssignment) (before : List SourceAssignment) (b c : SourceAssignment) → first_of_its_name a before ≡ Some c → first_of_its_name a (before ++ b ∷ []) ≡ Some c
first_kept a [] b c h = absurd (nothing_is_none c h)
first_kept a (x ∷ xs) b c h = kept_by a (same_assigned_name a x) x xs b c h (first_kept a xs b c)

first_new : (a : SourceAssignment) (before : List SourceAssignment) → first_of_its_name a before ≡ None → first_of_its_name a (before ++ a ∷ []) ≡ Some a
first_new a [] h = ap (λ (t : Bool). cond t (Some a) None) (itself a)
first_new a (x ∷ xs) h = new_by a (same_assigned_name a x) x xs h (first_new a xs)

-- what some assignments come to: each stands for all of its name, the names are different, and each name is among them
record Settled (all found : List SourceAssignment) : Type 0 where
  stand : AllByRecursion (StandsForAll all) found
  local : HaveDistinctNames found
  named : AllByRecursion (λ b. is_named_in found b ≡ true) all

mapped : {P Q : SourceAssignment → Type 0} → ((a : SourceAssignment) → P a → Q a) → (xs : List SourceAssignment) → AllByRecursion P xs → AllByRecursion Q xs
mapped f [] h = tt
mapped f (x ∷ xs) h = (f x h.0, mapped f xs h.1)

-- with one assignment more of another name
other_stands : (all : List SourceAssignment) (a b : SourceAssignment) → same_assigned_name b a ≡ false → StandsForAll all b → StandsForAll (all ++ a ∷ []) b
other_stands all a b h s = record {
  last = ap (option_map (λ (c : SourceAssignment). c.value)) (last_with b all a ∙ ap (λ (t : Bool). or_later (last_of b all) (cond t (Some a) None)) h) ∙ s.last;
  first = ap (option_map (λ (c : SourceAssignment). c.at)) (first_with b all a h) ∙ s.first;
}

-- of the same name: the place stays, and the value is that of the new one
abbrev renewed : SourceAssignment → SourceAssignment → SourceAssignment
renewed b a = record b { value = a.value }

no_place : (b : SourceAssignment) → option_map (λ (c : SourceAssignment). c.at) None ≡ Some b.at → ⊥
no_place b h = cc h

same_place : (b : SourceAssignment) (all : List SourceAssignment) (a : SourceAssignment) (o : Option SourceAssignment) → first_of_its_name b all ≡ o → option_map (λ (c : SourceAssignment). c.at) o ≡ Some b.at →
    option_map (λ (c : SourceAssignment). c.at) (first_of_its_name b (all ++ a ∷ [])) ≡ Some b.at
same_place b all a None e h = absurd (no_place b h)
same_place b all a (Some c) e h = ap (option_map (λ (c : SourceAssignment). c.at)) (first_kept b all a c e) ∙ h

renewed_first : (b a : SourceAssignment) (xs : List SourceAssignment) → first_of_its_name (renewed b a) xs ≡ first_of_its_name b xs
renewed_first b a [] = refl
renewed_first b a (x ∷ xs) = ap (λ (o : Option SourceAssignment). cond (same_assigned_name b x) (Some x) o) (renewed_first b a xs)

renewed_stands : (all : List SourceAssignment) (a b : SourceAssignment) → same_assigned_name b a ≡ true → StandsForAll all b → StandsForAll (all ++ a ∷ []) (renewed b a)
renewed_stands all a b h s = record {
  last = ap (option_map (λ (c : SourceAssignment). c.value)) (last_with (renewed b a) all a ∙ ap (λ (t : Bool). or_later (last_of (renewed b a) all) (cond t (Some a) None)) h);
  first = ap (option_map (λ (c : SourceAssignment). c.at)) (renewed_first b a (all ++ a ∷ [])) ∙ same_place b all a (first_of_its_name b all) refl s.first;
}

new_stands : (all : List SourceAssignment) (a : SourceAssignment) → first_of_its_name a all ≡ None → StandsForAll (all ++ a ∷ []) a
new_stands all a h = record {
  last = ap (option_map (λ (c : SourceAssignment). c.value)) (last_with a all a ∙ ap (λ (t : Bool). or_later (last_of a all) (cond t (Some a) None)) (itself a));
  first = ap (option_map (λ (c : SourceAssignment). c.at)) (first_new a all h);
}

or_end : (t : Bool) → (t || false) ≡ (false || t)
or_end true = refl
or_end false = refl

other_side : (c b a : SourceAssignment) → same_assigned_name b a ≡ true → same_assigned_name c b ≡ same_assigned_name c a
other_side c b a h = ⊎_elim (λ k. k ∙ sym (same_test c b k a ∙ h)) (λ k. k ∙ sym (not_turned a c (sym (same_test b a h c) ∙ not_turned c b k))) (either (same_assigned_name c b))

or_same : (s t : Bool) → s ≡ t → s ≡ (s || t)
or_same true t h = refl
or_same false t h = h

or_moved : (a b c : Bool) → (a || (b || c)) ≡ ((a || b) || c)
or_moved true b c = refl
or_moved false b c = refl

or_again : (x y z : Bool) → x ≡ z → (x || y) ≡ ((x || y) || z)
or_again true y z h = refl
or_again false true z h = refl
or_again false false z h = h

-- the names of what is found, with one assignment more
named_by : (t : Bool) (b : SourceAssignment) (bs : List SourceAssignment) (a c : SourceAssignment) → same_assigned_name b a ≡ t → is_named_in (with_assigned bs a) c ≡ (is_named_in bs c || same_assigned_name c a) →
    is_named_in (cond t (renewed b a ∷ bs) (b ∷ with_assigned bs a)) c ≡ (is_named_in (b ∷ bs) c || same_assigned_name c a)
named_by true b bs a c h next = or_again (same_assigned_name c b) (is_named_in bs c) (same_assigned_name c a) (other_side c b a h)
named_by false b bs a c h next = ap (λ (t : Bool). same_assigned_name c b || t) next ∙ or_moved (same_assigned_name c b) (is_named_in bs c) (same_assigned_name c a)

named_with : (found : List SourceAssignment) (a c : SourceAssignment) → is_named_in (with_assigned found a) c ≡ (is_named_in found c || same_assigned_name c a)
named_with [] a c = or_end (same_assigned_name c a)
named_with (b ∷ bs) a c = named_by (same_assigned_name b a) b bs a c refl (named_with bs a c)

-- each of some, where none of them has a name
each_other : (a : SourceAssignment) (xs : List SourceAssignment) → is_named_in xs a ≡ false → AllByRecursion (λ x. same_assigned_name x a ≡ false) xs
each_other a [] h = tt
each_other a (x ∷ xs) h = (not_turned a x (or_left (same_assigned_name a x) (is_named_in xs a) h), each_other a xs (or_right (same_assigned_name a x) (is_named_in xs a) h))

all_other : (all : List SourceAssignment) (a : SourceAssignment) (xs : List SourceAssignment) → AllByRecursion (λ x. same_assigned_name x a ≡ false) xs → AllByRecursion (StandsForAll all) xs → AllByRecursion (StandsForAll (all ++ a ∷ [])) xs
all_other all a [] h s = tt
all_other all a (x ∷ xs) h s = (other_stands all a x h.0 s.0, all_other all a xs h.1 s.1)

-- a name that is not found was never assigned
not_assigned : (found all : List SourceAssignment) (a : SourceAssignment) → is_named_in found a ≡ false → AllByRecursion (λ b. is_named_in found b ≡ true) all → first_of_its_name a all ≡ None
not_assigned found [] a h named = refl
not_assigned found (x ∷ xs) a h named =
    ⊎_elim (λ k. absurd (false≢true (sym h ∙ same_named a x k found ∙ named.0)))
    (λ k. ap (λ (t : Bool). cond t (Some x) (first_of_its_name a xs)) k ∙ not_assigned found xs a h named.1) (either (same_assigned_name a x))

still_new : (a b : SourceAssignment) (bs : List SourceAssignment) (P : Type 0) → ((same_assigned_name a b || is_named_in bs a) ≡ false → P) → same_assigned_name b a ≡ false → is_named_in bs a ≡ false → P
still_new a b bs P new h k = new (or_false (same_assigned_name a b) (is_named_in bs a) (not_turned b a h) k)

stands_with : (all : List SourceAssignment) (a : SourceAssignment) (found : List SourceAssignment) → HaveDistinctNames found → AllByRecursion (StandsForAll all) found →
    (is_named_in found a ≡ false → first_of_its_name a all ≡ None) → AllByRecursion (StandsForAll (all ++ a ∷ [])) (with_assigned found a)
stands_with all a [] local s new = (new_stands all a (new refl), tt)
stands_with all a (b ∷ bs) local s new =
    ⊎_elim
    (λ h. subst (λ (t : Bool). AllByRecursion (StandsForAll (all ++ a ∷ [])) (cond t (renewed b a ∷ bs) (b ∷ with_assigned bs a))) (sym h)
    (renewed_stands all a b h s.0, all_other all a bs (each_other a bs (sym (same_named b a h bs) ∙ local.0)) s.1))
    (λ h. subst (λ (t : Bool). AllByRecursion (StandsForAll (all ++ a ∷ [])) (cond t (renewed b a ∷ bs) (b ∷ with_assigned bs a))) (sym h)
    (other_stands all a b h s.0, stands_with all a bs local.1 s.1 (still_new a b bs (first_of_its_name a all ≡ None) new h)))
    (either (same_assigned_name b a))

locals_by : (t : Bool) (b a : SourceAssignment) (bs : List SourceAssignment) → same_assigned_name b a ≡ t → HaveDistinctNames (b ∷ bs) → HaveDistinctNames (with_assigned bs a) → HaveDistinctNames (cond t (renewed b a ∷ bs) (b ∷ with_assigned bs a))
locals_by true b a bs h local next = local
locals_by false b a bs h local next = (named_with bs a b ∙ or_false (is_named_in bs b) (same_assigned_name b a) local.0 h, next)

locals_with : (found : List SourceAssignment) (a : SourceAssignment) → HaveDistinctNames found → HaveDistinctNames (with_assigned found a)
locals_with [] a local = (refl, tt)
locals_with (b ∷ bs) a local = locals_by (same_assigned_name b a) b a bs refl local (locals_with bs a local.1)

or_true_left : (a b : Bool) → a ≡ true → (a || b) ≡ true
or_true_left a b h = ap (λ (t : Bool). t || b) h

or_true_right : (a b : Bool) → b ≡ true → (a || b) ≡ true
or_true_right true b h = refl
or_true_right false b h = h

named_all : (found : List SourceAssignment) (a : SourceAssignment) (all : List SourceAssignment) → AllByRecursion (λ b. is_named_in found b ≡ true) all → AllByRecursion (λ b. is_named_in (with_assigned found a) b ≡ true) (all ++ a ∷ [])
named_all found a [] h = (named_with found a a ∙ or_true_right (is_named_in found a) (same_assigned_name a a) (itself a), tt)
named_all found a (x ∷ xs) h = (named_with found a x ∙ or_true_left (is_named_in found x) (same_assigned_name x a) h.0, named_all found a xs h.1)

one_more : (all found : List SourceAssignment) (a : SourceAssignment) → Settled all found → Settled (all ++ a ∷ []) (with_assigned found a)
one_more all found a s = record {
  stand = stands_with all a found s.local s.stand (λ h. not_assigned found all a h s.named);
  local = locals_with found a s.local;
  named = named_all found a all s.named;
}

all_more : (done found rest : List SourceAssignment) → Settled done found → Settled (done ++ rest) (assignments_with_all found rest)
all_more done found [] s = subst (λ (l : List SourceAssignment). Settled l found) (sym (append-nil done)) s
all_more done found (a ∷ as_) s =
    subst (λ (l : List SourceAssignment). Settled l (assignments_with_all (with_assigned found a) as_)) (append_assoc done (a ∷ []) as_)
    (all_more (done ++ a ∷ []) (with_assigned found a) as_ (one_more done found a s))

count_where_whole : (statements : StatementTerms) → Settled (assignments_in statements) (assignments_of statements)
count_where_whole statements = all_more [] [] (assignments_in statements) (record { stand = tt; local = tt; named = tt })

pub last_counts : (statements : StatementTerms) → AllByRecursion (StandsForAll (assignments_in statements)) (assignments_of statements)
last_counts statements = (count_where_whole statements).stand

pub own_names : (statements : StatementTerms) → HaveDistinctNames (assignments_of statements)
own_names statements = (count_where_whole statements).local

pub all_named : (statements : StatementTerms) → AllByRecursion (λ b. is_named_in (assignments_of statements) b ≡ true) (assignments_in statements)
all_named statements = (count_where_whole statements).named
