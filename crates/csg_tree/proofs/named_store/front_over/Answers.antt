use Rattle.std.proofs.Common.{sym, subst, arith, ◌∷◌, ◌++◌, Option}
use Rattle.std.specs.Option.{IfSome}
use Rattle.sha2.specs.declared.Sha256.{Sha256}
use Rattle.sha2.specs.Hashers.{Holds256}
use Rattle.csg_tree.specs.Fronts.{front_of_second, HoldsFront}
use Rattle.csg_tree.specs.HalfSpaceTrees.{Tree}
use Rattle.csg_tree.specs.Keys.{tree_bytes, op_byte}
use Rattle.csg_tree.specs.Numberings.{tree_numbered}
use Rattle.csg_tree.proofs.named_store.front_over.Goals as goal

pub returns-in-Some-kept : goal.returns-in-Some-kept
returns-in-Some-kept c =
    let join = c.in-Join.ensures.node in
    let first = tree_numbered c.args.store.now c.in-Join.left in
    let right = tree_numbered c.args.store.now c.in-Join.right in
    let found = c.requires.numbers.same c.in-Join.left (join.0, omega (arith, join.1, c.requires.number.1, c.requires.numbers.many)) in
    let front = c.in_ok-kept-in-Join.ensures first right found (c.second_front_in-second_front.ensures c.args.earlier.now c.requires.numbers) in
    subst (λ (t : Tree). HoldsFront t c.in-Some-kept.hasher) (sym join.4)
    (subst (λ (o : Option Sha256). IfSome o (λ hasher. Holds256 hasher (op_byte c.in-Join.op ∷ tree_bytes first ++ front_of_second c.in-Join.op right))) c.in-Some-kept.is front)
