-- A worked triangle and a worked square that it cuts, in general position with one another.
use Rattle.std.specs.Prelude.{List, [], ◌∷◌, pos, negsuc}
use Rattle.plane_predicate.specs.Space.{Coordinates}
use Rattle.closed_faces.specs.Crossings.{Face}

-- the triangle with the corners (1, 2, 1), (7, 3, 2) and (2, 9, 3), on the plane 41 z - 5 x - 11 y = 14
abbrev pub worked_triangle : Face
worked_triangle = record {
  plane = record { a = negsuc 4; b = negsuc 10; c = pos 41; d = pos 14 };
  corners =
      record { x = pos 1; y = pos 2; z = pos 1; w = pos 1 }
      ∷ record { x = pos 7; y = pos 3; z = pos 2; w = pos 1 }
      ∷ record { x = pos 2; y = pos 9; z = pos 3; w = pos 1 } ∷ [];
}

-- the square with the corners (4, 0, 0), (4, 4, 0), (4, 4, 4) and (4, 0, 4), on the plane x = 4
abbrev pub worked_square : Face
worked_square = record {
  plane = record { a = pos 1; b = pos 0; c = pos 0; d = pos 4 };
  corners =
      record { x = pos 4; y = pos 0; z = pos 0; w = pos 1 }
      ∷ record { x = pos 4; y = pos 4; z = pos 0; w = pos 1 }
      ∷ record { x = pos 4; y = pos 4; z = pos 4; w = pos 1 }
      ∷ record { x = pos 4; y = pos 0; z = pos 4; w = pos 1 } ∷ [];
}
