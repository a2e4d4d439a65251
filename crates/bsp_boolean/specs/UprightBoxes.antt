-- Leaves that are upright boxes within the world box.
use Rattle.std.specs.Prelude.{◌≡◌, ℕ, ◌+◌, List, [], ◌∷◌, length, get_or, ℤ, pos, ◌+ℤ◌, ◌<ℤ◌}
use Rattle.plane_predicate.specs.Space.{Coefficients, IsPlane}
use Rattle.plane_polygon.specs.Polygons.{missing_plane}
use Rattle.plane_polygon.specs.Parallels.{HasSameDirection}
use Rattle.plane_polygon.specs.Boxes.{high_x, low_x, high_y, low_y, high_z, low_z}
use Rattle.plane_table.specs.declared.faces.Face.{Face}

-- the planes of the world box in the order of a box's own
abbrev pub world_walls : List Coefficients
world_walls = low_x ∷ high_x ∷ low_y ∷ high_y ∷ low_z ∷ high_z ∷ []

-- plane i of a list
abbrev pub wall : List Coefficients → ℕ → Coefficients
wall planes i = get_or planes i missing_plane

-- the offsets of two planes that face away from each other: there is room between them, and both lie within the world
-- box
pub record HasRoomBetween (low high : ℤ) : Type 0 where
  pub low_within : low <ℤ pos 4096
  pub high_within : high <ℤ pos 4096
  pub between : pos 0 <ℤ (low +ℤ high)

-- two planes that face away from each other as two of the world box do
pub record IsPair (low high low_world high_world : Coefficients) : Type 0 where
  pub low_plane : IsPlane low
  pub high_plane : IsPlane high
  pub low_along : HasSameDirection low low_world
  pub high_along : HasSameDirection high high_world
  pub room : HasRoomBetween low.d high.d

-- planes i and i + 1 are such a pair
abbrev pub IsPairAt : List Coefficients → List Coefficients → ℕ → Type 0
IsPairAt planes world i = IsPair (wall planes i) (wall planes (i + 1)) (wall world i) (wall world (i + 1))

-- six planes of an upright box within the world box: low x, high x, low y, high y, low z and high z
pub record IsBox (planes : List Coefficients) : Type 0 where
  pub six : length planes ≡ 6
  pub x : IsPairAt planes world_walls 0
  pub y : IsPairAt planes world_walls 2
  pub z : IsPairAt planes world_walls 4

-- the planes that a box's faces name, in ascending order
abbrev pub table_of : List Coefficients → List Coefficients
table_of planes = low_z ∷ wall planes 4 ∷ wall planes 5 ∷ high_z ∷ low_y ∷ wall planes 2 ∷ wall planes 3 ∷ high_y
    ∷ wall planes 0 ∷ wall planes 1 ∷ []

-- the faces of a box over that list, in the order of its planes. Each is cut by those before it, the nearest first
abbrev pub upright_box_faces : List Face
upright_box_faces =
    record { plane = 16; edges = 8 ∷ 6 ∷ 14 ∷ 0 ∷ [] }
    ∷ record { plane = 18; edges = 8 ∷ 0 ∷ 14 ∷ 6 ∷ [] }
    ∷ record { plane = 10; edges = 0 ∷ 18 ∷ 6 ∷ 16 ∷ [] }
    ∷ record { plane = 12; edges = 6 ∷ 18 ∷ 0 ∷ 16 ∷ [] }
    ∷ record { plane = 2; edges = 12 ∷ 18 ∷ 10 ∷ 16 ∷ [] }
    ∷ record { plane = 4; edges = 10 ∷ 18 ∷ 12 ∷ 16 ∷ [] }
    ∷ []
