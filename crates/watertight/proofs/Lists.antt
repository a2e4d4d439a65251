-- What holds of corners holds of the ends of edges.
use Rattle.std.proofs.Common.{◌≡◌, ℕ, List, [], ◌∷◌, ◌++◌, flat_map, take, drop, zip, Bool, true, false, ◌||◌, refl, sym, ap₂, ◌∙◌, count_by, ◌+◌, cond, All}
use Rattle.std.specs.List.{list_any}
use Rattle.plane_predicate.specs.Space.{Coordinates}
use Rattle.closed_surface.specs.Closed.{Edge, edges_of}
use Rattle.std.proofs.lemmas.Bool.{or_parts}
use Rattle.std.proofs.lemmas.List.Folds.{list_any-append}
use Rattle.std.proofs.lemmas.List.Sums.{sum_by-append}
use Rattle.closed_surface.proofs.lemmas.Each.{Each, each_append, each_both, each_from_all, each_weaker}

-- both ends of an edge have it
abbrev pub HaveBoth : (Coordinates → Type 0) → Edge → Type 0
HaveBoth R e = R e.0 × R e.1

zip_have : (R : Coordinates → Type 0) (ps qs : List Coordinates) → Each R ps → Each R qs → Each (HaveBoth R) (zip ps qs)
zip_have R [] qs hp hq = tt
zip_have R (p ∷ ps) [] hp hq = tt
zip_have R (p ∷ ps) (q ∷ qs) hp hq = ((hp.0, hq.0), zip_have R ps qs hp.1 hq.1)

rest_have : (R : Coordinates → Type 0) (ps : List Coordinates) → Each R ps → Each R (drop 1 ps ++ take 1 ps)
rest_have R [] h = tt
rest_have R (p ∷ ps) h = each_append R ps (p ∷ []) h.1 (h.0, tt)

pub edges_have : (R : Coordinates → Type 0) (faces : List (List Coordinates)) → Each (λ corners. Each R corners) faces → Each (HaveBoth R) (flat_map edges_of faces)
edges_have R [] h = tt
edges_have R (corners ∷ faces) h =
    each_append (HaveBoth R) (edges_of corners) (flat_map edges_of faces)
    (zip_have R corners (drop 1 corners ++ take 1 corners) h.0 (rest_have R corners h.0))
    (edges_have R faces h.1)

-- ---- tests of all corners
any_of : (f : Coordinates → Bool) (corners : List Coordinates) → list_any f corners ≡ false → Each (λ p. f p ≡ false) corners
any_of f [] h = tt
any_of f (p ∷ corners) h = let k = or_parts (f p) (list_any f corners) h in (k.0, any_of f corners k.1)

pub none_has : (f : Coordinates → Bool) (faces : List (List Coordinates)) → list_any f (flat_map (λ corners. corners) faces) ≡ false →
    Each (λ corners. Each (λ p. f p ≡ false) corners) faces
none_has f [] h = tt
none_has f (corners ∷ faces) h =
    let k = or_parts (list_any f corners) (list_any f (flat_map (λ c. c) faces)) (sym (list_any-append f corners (flat_map (λ c. c) faces)) ∙ h) in
    (any_of f corners k.0, none_has f faces k.1)

-- each corner of each face
pub all_corners : (R : Coordinates → Type 0) (faces : List (List Coordinates)) → Each (λ corners. Each R corners) faces → Each R (flat_map (λ corners. corners) faces)
all_corners R [] h = tt
all_corners R (corners ∷ faces) h = each_append R corners (flat_map (λ c. c) faces) h.0 (all_corners R faces h.1)

pub each_face : (R : Coordinates → Type 0) (faces : List (List Coordinates)) → All (λ corners. All R corners) faces → Each (λ corners. Each R corners) faces
each_face R faces h = each_weaker (λ corners. All R corners) (λ corners. Each R corners) (λ corners k. each_from_all R corners k) faces (each_from_all (λ corners. All R corners) faces h)

pub both_faces : (R S : Coordinates → Type 0) (faces : List (List Coordinates)) → Each (λ corners. Each R corners) faces → Each (λ corners. Each S corners) faces →
    Each (λ corners. Each (λ p. R p × S p) corners) faces
both_faces R S [] h k = tt
both_faces R S (corners ∷ faces) h k = (each_both R S corners h.0 k.0, both_faces R S faces h.1 k.1)

-- ---- counts
count_append : (f : Edge → Bool) (xs ys : List Edge) → count_by f (xs ++ ys) ≡ count_by f xs + count_by f ys
count_append f xs ys = sum_by-append (λ e. cond (f e) 1 0) xs ys

pub same_count : (f g : Edge → Bool) (edges : List Edge) → Each (λ e. f e ≡ g e) edges → count_by f edges ≡ count_by g edges
same_count f g [] h = refl
same_count f g (e ∷ edges) h =
    count_append f (e ∷ []) edges
    ∙ ap₂ (λ (b : Bool) (n : ℕ). 0 + cond b 1 0 + n) h.0 (same_count f g edges h.1)
    ∙ sym (count_append g (e ∷ []) edges)

pub none_count : (f : Edge → Bool) (edges : List Edge) → Each (λ e. f e ≡ false) edges → count_by f edges ≡ 0
none_count f [] h = refl
none_count f (e ∷ edges) h = rw h.0 (none_count f edges h.1)
