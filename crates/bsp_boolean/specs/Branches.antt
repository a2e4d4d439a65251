-- The merge of two trees over one table.
use Rattle.std.specs.Prelude.{◌≡◌, Bool, true, false}
use Rattle.csg_tree.specs.declared.op.Op.{Op}
use Rattle.csg_tree.specs.declared.op.Op.TheVariants.{Union, Intersection, Difference}
use Rattle.bsp_tree.specs.Growths.{Sheet, SolidGrowth}
use Rattle.bsp_tree.specs.Moves.{MovedSheet}

-- whether the leaf inside decides, and else the leaf outside
abbrev pub inside_decides : Op → Bool
inside_decides Union = true
inside_decides Intersection = false
inside_decides Difference = false

-- whether the right tree's inside and outside are exchanged
abbrev pub exchanges_right_sides : Op → Bool
exchanges_right_sides Union = false
exchanges_right_sides Intersection = false
exchanges_right_sides Difference = true

-- the left tree, the right one and what grows stand over one table
pub record AreOverOne (left : MovedSheet) (right : Sheet) (growth : SolidGrowth) : Type 0 where
  pub right_planes : right.planes ≡ left.planes
  pub growing_planes : growth.sheet.planes ≡ left.planes
