-- Two solids as one (Bernstein and Fussell).
use Rattle.std.specs.Prelude.{Bool, if◌then◌else◌}
use Rattle.bsp_tree.specs.Trees.{BspTree, inside, outside, node, node_or_leaf}
use Rattle.bsp_tree.specs.Partitions.{divide}

-- two solids as one. The leaf that decides, inside in a union and outside in an intersection, gives itself, and the other leaf
-- the other side. Else the left node divides the right solid, and each side is combined
abbrev pub combination : Bool → BspTree → BspTree → BspTree
combination in_decides inside right = if in_decides then inside else right
combination in_decides outside right = if in_decides then right else outside
combination in_decides (node s b a) inside = if in_decides then inside else node s b a
combination in_decides (node s b a) outside = if in_decides then node s b a else outside
combination in_decides (node s b a) (node t c d) =
    let parts = divide (node t c d) s in
    node_or_leaf s (combination in_decides b parts.0) (combination in_decides a parts.1)
