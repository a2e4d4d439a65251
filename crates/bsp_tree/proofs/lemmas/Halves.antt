-- Polygons of a cell, by their class against a plane, are polygons of its halves.
use Rattle.std.proofs.Common.{◌≡◌, List, ◌∷◌}
use Rattle.plane_predicate.specs.Space.{Coefficients, opposite_of}
use Rattle.plane_polygon.specs.Polygons.{Outline}
use Rattle.plane_polygon.specs.Parts.{class_of, part_behind, part_ahead}
use Rattle.plane_polygon.specs.declared.classes.Class.TheVariants.{Behind, Ahead, Across}
use Rattle.plane_polygon.proofs.lemmas.CornerSides.{across_opposite}
use Rattle.bsp_tree.specs.Cells.{IsPolygonOfCell}
use Rattle.bsp_tree.proofs.lemmas.PolygonsOfCells.{across_part, across_behind}
use Rattle.bsp_tree.proofs.lemmas.Sides.{LiesBehind, lies_behind, lies_ahead}

-- a polygon that lies behind a plane
pub lying : (cell : List Coefficients) (s : Outline) (q : Coefficients) → IsPolygonOfCell cell s → LiesBehind s q →
    IsPolygonOfCell (q ∷ cell) s
lying cell s q h l = across_behind cell s q h l.some.index l.some.index_below l.some.strict l.all

pub behind_half : (cell : List Coefficients) (s : Outline) (m : Coefficients) → IsPolygonOfCell cell s →
    class_of s m ≡ Behind → IsPolygonOfCell (m ∷ cell) s
behind_half cell s m h e = lying cell s m h (lies_behind s m e)

pub ahead_half : (cell : List Coefficients) (s : Outline) (m : Coefficients) → IsPolygonOfCell cell s →
    class_of s m ≡ Ahead → IsPolygonOfCell (opposite_of m ∷ cell) s
ahead_half cell s m h e = lying cell s (opposite_of m) h (lies_ahead s m e)

-- the parts of a polygon that a plane is across
pub low_half : (cell : List Coefficients) (s : Outline) (m : Coefficients) → IsPolygonOfCell cell s →
    class_of s m ≡ Across → IsPolygonOfCell (m ∷ cell) (part_behind s m)
low_half cell s m h e = across_part cell s m h e

pub high_half : (cell : List Coefficients) (s : Outline) (m : Coefficients) → IsPolygonOfCell cell s →
    class_of s m ≡ Across → IsPolygonOfCell (opposite_of m ∷ cell) (part_ahead s m)
high_half cell s m h e = across_part cell s (opposite_of m) h (across_opposite s m e)
