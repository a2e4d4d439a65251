-- Upright boxes.
use Rattle.std.specs.Prelude.{ℕ, ℤ, pos, Bool, List, [], ◌∷◌, get_or}
use Rattle.plane_predicate.specs.declared.unit.Unit.{Unit as LengthUnit}
use Rattle.primitives.specs.Shapes.{Mesh}
use Rattle.primitives.specs.Sizes.{low_end, high_end}

-- the faces of a box by the corners round them: low x, high x, low y, high y, low z, high z
abbrev pub box_faces : List (List ℕ)
box_faces =
    (0 ∷ 2 ∷ 6 ∷ 4 ∷ [])
    ∷ (1 ∷ 3 ∷ 7 ∷ 5 ∷ [])
    ∷ (0 ∷ 4 ∷ 5 ∷ 1 ∷ [])
    ∷ (2 ∷ 6 ∷ 7 ∷ 3 ∷ [])
    ∷ (0 ∷ 1 ∷ 3 ∷ 2 ∷ [])
    ∷ (4 ∷ 5 ∷ 7 ∷ 6 ∷ [])
    ∷ []

-- the corners of the box from a to b in x, from c to d in y and from e to f in z: x changes first, then y, then z
abbrev pub box_points : ℤ → ℤ → ℤ → ℤ → ℤ → ℤ → List (List ℤ)
box_points a b c d e f =
    (a ∷ c ∷ e ∷ [])
    ∷ (b ∷ c ∷ e ∷ [])
    ∷ (a ∷ d ∷ e ∷ [])
    ∷ (b ∷ d ∷ e ∷ [])
    ∷ (a ∷ c ∷ f ∷ [])
    ∷ (b ∷ c ∷ f ∷ [])
    ∷ (a ∷ d ∷ f ∷ [])
    ∷ (b ∷ d ∷ f ∷ [])
    ∷ []

-- the box of these ends, as points and faces
abbrev pub box_of : ℤ → ℤ → ℤ → ℤ → ℤ → ℤ → Mesh
box_of a b c d e f = record { points = box_points a b c d e f; faces = box_faces }

-- the box with these three sides (User Manual, cube)
abbrev pub cube_of : LengthUnit → Bool → List ℤ → Mesh
cube_of unit center size =
    let x = get_or size 0 (pos 0) in let y = get_or size 1 (pos 0) in let z = get_or size 2 (pos 0) in
    box_of (low_end unit center x) (high_end unit center x) (low_end unit center y) (high_end unit center y) (low_end unit center z) (high_end unit center z)
