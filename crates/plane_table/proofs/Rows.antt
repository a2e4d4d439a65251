-- A face of a cube over a list of planes.
use Rattle.std.proofs.Common.{◌≡◌, List, [], ◌∷◌, pos, negsuc, refl}
use Rattle.plane_predicate.specs.Space.{Coefficients}
use Rattle.plane_polygon.specs.Parts.{class_of, part_behind, part_ahead}
use Rattle.plane_polygon.specs.declared.classes.Class.TheVariants.{Across, Behind, On}
use Rattle.plane_table.specs.declared.faces.Face.{Face}
use Rattle.plane_table.specs.Tables.{plane_named, opposite_number, oriented_by_number}
use Rattle.plane_table.specs.Faces.{outline_of}

-- z = 1, y = 0, y = 1, x = 0 and x = 1, and the plane on which x and y are the same
abbrev planes : List Coefficients
planes =
    record { a = pos 0; b = pos 0; c = pos 1; d = pos 1 }
    ∷ record { a = pos 0; b = pos 1; c = pos 0; d = pos 0 }
    ∷ record { a = pos 0; b = pos 1; c = pos 0; d = pos 1 }
    ∷ record { a = pos 1; b = pos 0; c = pos 0; d = pos 0 }
    ∷ record { a = pos 1; b = pos 0; c = pos 0; d = pos 1 }
    ∷ record { a = pos 1; b = negsuc 0; c = pos 0; d = pos 0 }
    ∷ []

-- the top of the cube from (0, 0, 0) to (1, 1, 1)
abbrev top : Face
top = record { plane = 0; edges = 7 ∷ 3 ∷ 8 ∷ 4 ∷ [] }

-- its edges look away from its middle: -x = 0, -y = 0, x = 1 and y = 1
top_outline : outline_of planes top ≡ record {
  plane = record { a = pos 0; b = pos 0; c = pos 1; d = pos 1 };
  edges = record { a = negsuc 0; b = pos 0; c = pos 0; d = pos 0 }
      ∷ record { a = pos 0; b = negsuc 0; c = pos 0; d = pos 0 }
      ∷ record { a = pos 1; b = pos 0; c = pos 0; d = pos 1 }
      ∷ record { a = pos 0; b = pos 1; c = pos 0; d = pos 1 }
      ∷ [];
}
unfolding oriented_by_number
top_outline = refl

-- it lies behind x = 1 and on z = 1, and the plane on which x and y are the same goes across it
behind_side : class_of (outline_of planes top) (plane_named planes 8) ≡ Behind
unfolding oriented_by_number
behind_side = refl

on_top : class_of (outline_of planes top) (plane_named planes 1) ≡ On
unfolding oriented_by_number
on_top = refl

across : class_of (outline_of planes top) (plane_named planes 10) ≡ Across
unfolding oriented_by_number
across = refl

-- behind that plane x is less than y, ahead of it greater: each part is bounded by two sides of the top and by the plane
behind_edges : part_behind (outline_of planes top) (plane_named planes 10) ≡ outline_of planes (record { plane = 0; edges = 7 ∷ 10 ∷ 4 ∷ [] })
unfolding oriented_by_number
behind_edges = refl

ahead_edges : part_ahead (outline_of planes top) (plane_named planes 10) ≡ outline_of planes (record { plane = 0; edges = 3 ∷ 8 ∷ 11 ∷ [] })
unfolding oriented_by_number
ahead_edges = refl

-- the numbers of a plane's two sides
even_side : opposite_number 6 ≡ 7
unfolding opposite_number
even_side = refl

odd_side : opposite_number 7 ≡ 6
unfolding opposite_number
odd_side = refl
