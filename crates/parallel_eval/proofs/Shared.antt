-- Solids that are shared, one by one.
use Rattle.std.proofs.Common.{◌≡◌, ℕ, zero, suc, ◌<◌, List, [], ◌∷◌, length, get_or, refl, arith}
use Rattle.std.specs.Arc.{arc_value}
use Rattle.std.specs.declared.sync.Arc.{Arc}
use Rattle.bsp_tree.specs.Shapes.{SolidParts, tree_of}
use Rattle.bsp_tree.specs.Trees.{outside}
use Rattle.parallel_eval.specs.Known.{shared_solids}

module _ {Z : Type 0} where
  pub get_or-read : (solids : List (Arc SolidParts Z)) (k : ℕ) (d : Arc SolidParts Z) → k < length solids → tree_of (arc_value (get_or solids k d)) ≡ get_or (shared_solids solids) k outside
  get_or-read [] k d h = absurd (omega arith)
  get_or-read (s ∷ solids) zero d h = refl
  get_or-read (s ∷ solids) (suc k) d h = get_or-read solids k d (omega arith)
