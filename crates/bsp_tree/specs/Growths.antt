-- Nodes over a table of planes, and solids in the making.
use Rattle.std.specs.Prelude.{◌≡◌, ℕ, ◌+◌, ◌<◌, Bool, true, false, List, length, Result, Ok, Err}
use Rattle.plane_predicate.specs.Space.{Coefficients}
use Rattle.link_forest.specs.declared.link.Link.{Link}
use Rattle.link_forest.specs.declared.forest.Entry.{Entry}
use Rattle.link_forest.specs.Forests.{Extends, IsLinkOf, AreReached, AreReachedFrom}
use Rattle.plane_table.specs.declared.faces.Face.{Face}
use Rattle.bsp_tree.specs.Trees.{BspTree, complement, size}
use Rattle.bsp_tree.specs.Shapes.{tree_at_link}
use Rattle.bsp_tree.specs.declared.growing.GrowStop.{GrowStop}
use Rattle.bsp_tree.specs.declared.growing.GrowStop.TheVariants.{TooBig, NoMemory}

-- nodes over a table of planes
pub record Sheet : Type 0 where
  pub planes : List Coefficients
  pub nodes : List (Entry Face)

-- the tree at a link of a sheet
abbrev pub tree_on : Sheet → Link → BspTree
tree_on sheet link = tree_at_link sheet.planes sheet.nodes link

-- a link of a sheet, at which a tree begins
pub record HasTree (sheet : Sheet) (link : Link) (tree : BspTree) : Type 0 where
  pub there : IsLinkOf sheet.nodes link
  pub same : tree_on sheet link ≡ tree

-- the second sheet has the nodes of the first, and maybe more behind them
pub record ExtendsSheet (old new : Sheet) : Type 0 where
  pub planes : new.planes ≡ old.planes
  pub extends : Extends old.nodes new.nodes

-- a tree, or its complement
abbrev pub with_sides_exchanged : Bool → BspTree → BspTree
with_sides_exchanged true tree = complement tree
with_sides_exchanged false tree = tree

-- a solid in the making: nodes over a table, a size, which grows with each tree that is added, and the most that it may be
pub record SolidGrowth : Type 0 where
  pub sheet : Sheet
  pub size : ℕ
  pub most : ℕ

-- nodes were added, and a tree stands at the link, from which each of them is reached
pub record HasGrown (old new : SolidGrowth) (link : Link) (tree : BspTree) : Type 0 where
  pub longer : ExtendsSheet old.sheet new.sheet
  pub stands : HasTree new.sheet link tree
  pub reached : AreReachedFrom (length old.sheet.nodes) new.sheet.nodes link
  pub size : new.size ≡ old.size + size tree
  pub most : new.most ≡ old.most

-- nodes were added, and the tree stands at the link, or with it the size would be above the limit
abbrev pub GrowsBy : SolidGrowth → SolidGrowth → BspTree → Result Link GrowStop → Type 0
GrowsBy old new tree (Ok link) = HasGrown old new link tree
GrowsBy old new tree (Err TooBig) = old.most < old.size + size tree
GrowsBy old new tree (Err NoMemory) = Unit {0}

-- a whole solid has grown from nothing on the sheet: its tree stands at the link, from which each node is reached, and
-- this is its size
pub record HasGrownWhole (sheet : Sheet) (root : Link) (kept : ℕ) : Type 0 where
  pub there : IsLinkOf sheet.nodes root
  pub reached : AreReached sheet.nodes root
  pub size_is : kept ≡ size (tree_on sheet root)
