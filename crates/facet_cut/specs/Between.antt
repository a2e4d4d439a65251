-- The solids and the faces between which facets are cut.
use Rattle.link_forest.specs.declared.link.Link.{Link}
use Rattle.plane_table.specs.declared.faces.Face.{Face}
use Rattle.plane_table.specs.declared.cutting.Crossing.{Crossing}
use Rattle.plane_table.specs.declared.cutting.Half.{Half}
use Rattle.plane_table.specs.Tables.{plane_named}
use Rattle.plane_table.specs.Cuts.{part_in}
use Rattle.plane_table.specs.Faces.{outline_of}
use Rattle.plane_polygon.specs.Polygons.{Outline}
use Rattle.bsp_tree.specs.Trees.{BspTree}
use Rattle.bsp_tree.specs.Shapes.{tree_at_link}
use Rattle.facet_cut.specs.declared.walls.Walls.{Walls}

-- the solid at a link
abbrev pub solid_at : Walls → Link → BspTree
solid_at walls link = tree_at_link walls.table.now walls.forest.now.nodes link

-- the outline of a face
abbrev pub outline_at : Walls → Face → Outline
outline_at walls face = outline_of walls.table.now face

-- the part in a half space of a face that is across a plane
abbrev pub half_at : Walls → Half → Crossing → Outline
half_at walls half crossing = part_in half (outline_at walls crossing.face.now) (plane_named walls.table.now crossing.number)
