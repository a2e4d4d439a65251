-- The parts of a tree, as they stand on a sheet of nodes.
use Rattle.link_forest.specs.declared.link.Link.{Link}
use Rattle.link_forest.specs.Forests.{IsLinkOf}
use Rattle.plane_polygon.specs.Polygons.{Outline}
use Rattle.plane_polygon.specs.Parts.{class_of, part_ahead, part_behind}
use Rattle.bsp_tree.specs.Trees.{BspTree}
use Rattle.bsp_tree.specs.Growths.{Sheet, tree_on, HasTree, ExtendsSheet}
use Rattle.plane_table.specs.declared.faces.Face.{Face}
use Rattle.plane_table.specs.declared.cutting.Crossing.{Crossing}
use Rattle.plane_table.specs.declared.cutting.Half.{Half}
use Rattle.plane_table.specs.Tables.{plane_named}
use Rattle.plane_table.specs.Cuts.{part_in}
use Rattle.plane_table.specs.Faces.{outline_of, IsFaceOver}
use Rattle.bsp_partition.specs.declared.fork.Fork.{Fork}
use Rattle.bsp_tree.specs.Partitions.{divide, parts_by_class}

-- the parts of a node with the polygon t and the solids b and a, on another plane than s
abbrev pub parts_off_plane : Outline → Outline → BspTree → BspTree → BspTree × BspTree
parts_off_plane s t b a =
    parts_by_class (class_of s t.plane) (class_of t s.plane) s t b a
    (divide b s) (divide a s) (divide b (part_behind s t.plane)) (divide a (part_ahead s t.plane))

-- the outline of a face over a sheet's planes
abbrev pub outline_on : Sheet → Face → Outline
outline_on sheet face = outline_of sheet.planes face

-- the part in a half space of a face that is across a plane of a sheet
abbrev pub half_on : Sheet → Half → Crossing → Outline
half_on sheet half crossing = part_in half (outline_on sheet crossing.face.now) (plane_named sheet.planes crossing.number)

-- the parts of what lies behind a node's plane, and of what lies ahead of it, by the parts of another face there
abbrev pub low_division : Sheet → Fork → Face → BspTree × BspTree
low_division sheet node by = divide (tree_on sheet node.behind) (part_behind (outline_on sheet by) (plane_named sheet.planes node.face.plane))

abbrev pub high_division : Sheet → Fork → Face → BspTree × BspTree
high_division sheet node by = divide (tree_on sheet node.ahead) (part_ahead (outline_on sheet by) (plane_named sheet.planes node.face.plane))

-- nodes were added, and two trees stand at two links
pub record HasParts (old new : Sheet) (links : Link × Link) (parts : BspTree × BspTree) : Type 0 where
  pub longer : ExtendsSheet old new
  pub low : HasTree new links.0 parts.0
  pub high : HasTree new links.1 parts.1

-- nodes were added, and a tree stands at a link
pub record HasAddedTree (old new : Sheet) (link : Link) (tree : BspTree) : Type 0 where
  pub longer : ExtendsSheet old new
  pub stands : HasTree new link tree

-- nodes were added, and the parts of the solids behind and ahead of a node's plane stand at links
pub record HasSideParts (old new : Sheet) (links : (Link × Link) × (Link × Link)) (low high : BspTree × BspTree) : Type 0 where
  pub longer : ExtendsSheet old new
  pub low_behind : HasTree new links.0.0 low.0
  pub low_ahead : HasTree new links.0.1 low.1
  pub high_behind : HasTree new links.1.0 high.0
  pub high_ahead : HasTree new links.1.1 high.1

-- links of a sheet, at which the parts of two solids begin
pub record AreLinksOf (sheet : Sheet) (links : (Link × Link) × (Link × Link)) : Type 0 where
  pub low_behind : IsLinkOf sheet.nodes links.0.0
  pub low_ahead : IsLinkOf sheet.nodes links.0.1
  pub high_behind : IsLinkOf sheet.nodes links.1.0
  pub high_ahead : IsLinkOf sheet.nodes links.1.1

-- the trees at two links
abbrev pub trees_on : Sheet → Link × Link → BspTree × BspTree
trees_on sheet links = (tree_on sheet links.0, tree_on sheet links.1)

-- a node by itself has a face over the sheet's planes, and links of the sheet
pub record IsForkOn (sheet : Sheet) (node : Fork) : Type 0 where
  pub own : IsFaceOver sheet.planes node.face
  pub behind : IsLinkOf sheet.nodes node.behind
  pub ahead : IsLinkOf sheet.nodes node.ahead
