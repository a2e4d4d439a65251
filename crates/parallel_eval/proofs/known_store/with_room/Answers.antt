use Rattle.std.proofs.Common.{◌≡◌, ◌≤◌, ap, arith}
use Rattle.bsp_tree.specs.Shapes.{tree_of}
use Rattle.bsp_tree.specs.Trees.{size}
use Rattle.parallel_eval.proofs.Knowing.{in_room}
use Rattle.parallel_eval.proofs.known_store.with_room.Goals as goal

pub returns-clause-room : goal.returns-clause-room
returns-clause-room c =
    let counted = c.count-size.ensures in
    let small : c.count-size.result ≤ c.args.room.now = omega (arith, c.if-size-room.false) in
    let exact = in_room (size (tree_of c.deref.result.now)) c.args.room.now (omega (arith, counted, small)) c.requires in
    omega (arith, counted, exact, small, ap (λ s. size (tree_of s)) c.deref.ensures)
