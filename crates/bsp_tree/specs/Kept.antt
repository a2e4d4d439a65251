-- What a solid keeps beside its parts.
use Rattle.std.specs.Prelude.{◌≡◌, ℕ, ◌-◌, ◌^◌, min}
use Rattle.bsp_tree.specs.Trees.{size}
use Rattle.bsp_tree.specs.Shapes.{SolidParts, tree_of, IsWholeSolid}

-- the parts are a solid's, and its size, which stops at the greatest number, is kept with them
pub record KeepsItsSize (solid : SolidParts) (kept : ℕ) : Type 0 where
  pub whole : IsWholeSolid solid
  pub size_is : kept ≡ min (size (tree_of solid)) (2 ^ 64 - 1)
