use Rattle.std.proofs.Common.{◌≡◌, [], ◌∷◌, All}
use Rattle.plane_table.specs.Faces.{outline_of, IsFaceOver}
use Rattle.bsp_tree.specs.Trees.{inside}
use Rattle.bsp_tree.specs.Partitions.{divide}
use Rattle.bsp_boolean.specs.Chains.{chain_of, outlines_of, part_behind_face, IsKeptOver}
use Rattle.bsp_boolean.proofs.chains.behind_first.Given as goal

abbrev pub invariant-loop-face : goal.invariant-loop-face
invariant-loop-face l = record {
  whole : chain_of (outline_of l.table l.fn.first ∷ []) (divide (chain_of (outlines_of l.table l.fn.chain.items) inside) (outline_of l.table l.fn.first)).0
      ≡ chain_of (outlines_of l.table l.low.items) (part_behind_face l.table l.by (chain_of (outlines_of l.table l.face-iterator.rest.items) inside));
  low : All (IsFaceOver l.table) l.low.items;
  rest : All (IsFaceOver l.table) l.face-iterator.rest.items;
  by : IsKeptOver l.table l.by;
}
