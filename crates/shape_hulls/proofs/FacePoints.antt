-- The points of faces: what holds of all of them holds at each corner of each face, and the other way round.
use Rattle.std.proofs.Common.{◌≡◌, ℕ, zero, ◌+◌, ◌<◌, List, [], ◌∷◌, ◌++◌, length, get_or, map, take, flat_map, refl, sym, ap, ◌∙◌, subst, arith, ℤ, pos, All}
use Rattle.std.specs.List.{AllByRecursion}
use Rattle.std.proofs.lemmas.List.{get_or-map, length-map}
use Rattle.std.proofs.lemmas.List.Concat.{get_or-flat_map}
use Rattle.std.proofs.lemmas.List.Elements.{recursion_from_All, All-from_recursion}
use Rattle.std.proofs.lemmas.List.Folds.{length-flat_map-take}
use Rattle.primitives.specs.Shapes.{Mesh}
use Rattle.scad_hull.proofs.lemmas.Members.{all_flat, all_map, all_weaker}
use Rattle.shape_hulls.specs.OwnHulls.{corner_points}

-- the corners of a face, as points
abbrev pub corners_of : List (List ℤ) → List ℕ → List (List ℤ)
corners_of points face = map (λ i. get_or points i []) face

-- a property of the points at all corners of all faces
abbrev pub AtCorners : Mesh → (List ℤ → Type 0) → Type 0
AtCorners mesh P = All (λ f. All (λ i. P (get_or mesh.points i [])) f) mesh.faces

pub each_point : (mesh : Mesh) (P : List ℤ → Type 0) → AtCorners mesh P → AllByRecursion P (corner_points mesh)
each_point mesh P h =
    all_flat P (corners_of mesh.points) mesh.faces
    (all_weaker (λ f. All (λ i. P (get_or mesh.points i [])) f) (λ f. AllByRecursion P (corners_of mesh.points f))
    (λ f k. all_map P (λ i. get_or mesh.points i []) f (recursion_from_All (λ i. P (get_or mesh.points i [])) f k)) mesh.faces
    (recursion_from_All (λ f. All (λ i. P (get_or mesh.points i [])) f) mesh.faces h))

first_of : {A : Type 0} (P : A → Type 0) (xs ys : List A) → AllByRecursion P (xs ++ ys) → AllByRecursion P xs
first_of P [] ys h = tt
first_of P (x ∷ xs) ys h = (h.0, first_of P xs ys h.1)

second_of : {A : Type 0} (P : A → Type 0) (xs ys : List A) → AllByRecursion P (xs ++ ys) → AllByRecursion P ys
second_of P [] ys h = h
second_of P (x ∷ xs) ys h = second_of P xs ys h.1

parts_of : {X A : Type 0} (P : A → Type 0) (f : X → List A) (xs : List X) → AllByRecursion P (flat_map f xs) → AllByRecursion (λ x. AllByRecursion P (f x)) xs
parts_of P f [] h = tt
parts_of P f (x ∷ xs) h = (first_of P (f x) (flat_map f xs) h, parts_of P f xs (second_of P (f x) (flat_map f xs) h))

images_of : {X A : Type 0} (P : A → Type 0) (f : X → A) (xs : List X) → AllByRecursion P (map f xs) → AllByRecursion (λ x. P (f x)) xs
images_of P f [] h = tt
images_of P f (x ∷ xs) h = (h.0, images_of P f xs h.1)

pub at_corners : (mesh : Mesh) (P : List ℤ → Type 0) → AllByRecursion P (corner_points mesh) → AtCorners mesh P
at_corners mesh P h =
    All-from_recursion (λ f. All (λ i. P (get_or mesh.points i [])) f) mesh.faces
    (all_weaker (λ f. AllByRecursion P (corners_of mesh.points f)) (λ f. All (λ i. P (get_or mesh.points i [])) f)
    (λ f k. All-from_recursion (λ i. P (get_or mesh.points i [])) f (images_of P (λ i. get_or mesh.points i []) f k)) mesh.faces
    (parts_of P (corners_of mesh.points) mesh.faces h))

-- the place of a corner among the points of all faces
abbrev pub place_of : Mesh → ℕ → ℕ → ℕ
place_of mesh f i = length (flat_map (corners_of mesh.points) (take f mesh.faces)) + i

pub place_in : (mesh : Mesh) (f i : ℕ) → f < length mesh.faces → i < length (get_or mesh.faces f []) → place_of mesh f i < length (corner_points mesh)
place_in mesh f i hf hi = omega (arith, hi, length-flat_map-take (corners_of mesh.points) mesh.faces f [] hf, length-map (get_or mesh.faces f []) (λ (j : ℕ). get_or mesh.points j []))

pub place_is : (mesh : Mesh) (f i : ℕ) → f < length mesh.faces → i < length (get_or mesh.faces f []) → get_or (corner_points mesh) (place_of mesh f i) [] ≡ get_or mesh.points (get_or (get_or mesh.faces f []) i 0) []
place_is mesh f i hf hi =
    get_or-flat_map (corners_of mesh.points) mesh.faces f i [] [] hf (omega (arith, hi, length-map (get_or mesh.faces f []) (λ (j : ℕ). get_or mesh.points j [])))
    ∙ get_or-map (λ j. get_or mesh.points j []) (get_or mesh.faces f []) i 0 [] hi

-- what holds of each item from some number on holds of all from some number on
pub bounded : {X : Type 0} (P : ℕ → X → Type 0) (xs : List X) → AllByRecursion (λ x. (b : ℕ) × ((k : ℕ) → b < k → P k x)) xs → (b : ℕ) × ((k : ℕ) → b < k → AllByRecursion (P k) xs)
bounded P [] h = (0, λ k lt. tt)
bounded P (x ∷ xs) h =
    let rest = bounded P xs h.1 in
    (h.0.0 + rest.0, λ k lt. (h.0.1 k (omega (arith, lt)), rest.1 k (omega (arith, lt))))
