use Rattle.std.proofs.Common.{List, map, sym, subst}
use Rattle.plane_predicate.specs.Space.{Coefficients}
use Rattle.plane_table.specs.Faces.{outline_of}
use Rattle.bsp_boolean.specs.Chains.{part_behind_all, IsChainOf}
use Rattle.bsp_boolean.proofs.chains.grow_behind.Goals as goal

pub grow_chain-requires : goal.grow_chain-requires
grow_chain-requires c =
    let tree = part_behind_all (map (outline_of c.args.table.now) c.args.faces.now) in
    (tree, subst (λ (planes : List Coefficients). IsChainOf planes tree c.in_ok-chain.chain) (sym c.requires.table) c.in_ok-chain.ensures)

pub returns : goal.returns
returns c =
    let tree = part_behind_all (map (outline_of c.args.table.now) c.args.faces.now) in
    c.grow_chain.ensures tree (subst (λ (planes : List Coefficients). IsChainOf planes tree c.in_ok-chain.chain) (sym c.requires.table) c.in_ok-chain.ensures)
