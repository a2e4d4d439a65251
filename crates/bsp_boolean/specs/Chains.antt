-- What lies behind the planes of all of some polygons, and solids of faces one behind another.
use Rattle.std.specs.Prelude.{◌≡◌, List, [], ◌∷◌, map, All, Option, None, Some, Vec}
use Rattle.plane_predicate.specs.Space.{Coefficients}
use Rattle.plane_polygon.specs.Polygons.{Outline}
use Rattle.plane_table.specs.declared.faces.Face.{Face}
use Rattle.plane_table.specs.Faces.{outline_of, IsFaceOver}
use Rattle.bsp_tree.specs.Trees.{BspTree, inside, outside, node_or_leaf}
use Rattle.bsp_tree.specs.Partitions.{divide}
use Rattle.bsp_boolean.specs.declared.chains.Step.{Step}
use Rattle.bsp_boolean.specs.declared.chains.Step.TheVariants.{On, Whole, Nothing}

-- what lies behind the planes of all of some polygons: behind the first one's plane, the part there of what lies behind
-- the others
abbrev pub part_behind_all : List Outline → BspTree
part_behind_all [] = inside
part_behind_all (s ∷ others) = node_or_leaf s (divide (part_behind_all others) s).0 outside

-- a solid behind some faces, one behind another, with nothing ahead of any
abbrev pub chain_of : List Outline → BspTree → BspTree
chain_of [] t = t
chain_of (s ∷ others) t = node_or_leaf s (chain_of others t) outside

-- the outlines of faces
abbrev pub outlines_of : List Coefficients → List Face → List Outline
outlines_of planes faces = map (λ (face : Face). outline_of planes face) faces

-- a solid behind a face, if there is one
abbrev pub solid_behind_face : List Coefficients → Option Face → BspTree → BspTree
solid_behind_face planes None t = t
solid_behind_face planes (Some face) t = node_or_leaf (outline_of planes face) t outside

-- a face as a list, if there is one
abbrev pub kept_items : Option Face → List Face
kept_items None = []
kept_items (Some face) = face ∷ []

-- the part of a solid behind a face's plane, if there is a face
abbrev pub part_behind_face : List Coefficients → Option Face → BspTree → BspTree
part_behind_face planes None t = t
part_behind_face planes (Some face) t = (divide t (outline_of planes face)).0

-- what a step gives, with a solid t behind the face
abbrev pub solid_after_step : List Coefficients → Step → BspTree → BspTree
solid_after_step planes (On kept by) t = solid_behind_face planes kept (part_behind_face planes (Some by) t)
solid_after_step planes (Whole kept) t = solid_behind_face planes kept t
solid_after_step planes Nothing t = outside

-- a face over the planes, if there is one
abbrev pub IsKeptOver : List Coefficients → Option Face → Type 0
IsKeptOver planes None = Unit {0}
IsKeptOver planes (Some face) = IsFaceOver planes face

-- the faces of a step are faces over the planes
abbrev pub IsStepOver : List Coefficients → Step → Type 0
IsStepOver planes (On kept by) = IsKeptOver planes kept × IsFaceOver planes by
IsStepOver planes (Whole kept) = IsKeptOver planes kept
IsStepOver planes Nothing = Unit {0}

-- a solid as faces one behind another, or nothing
abbrev pub IsChainOf : {Z : Type 0} → List Coefficients → BspTree → Option (Vec Face Z) → Type 0
IsChainOf planes t None = t ≡ outside
IsChainOf planes t (Some chain) = (t ≡ chain_of (outlines_of planes chain.items) inside) × All (IsFaceOver planes) chain.items
