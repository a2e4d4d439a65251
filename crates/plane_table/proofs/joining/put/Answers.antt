use Rattle.std.proofs.Common.{◌≡◌, length, arith}
use Rattle.plane_table.proofs.Joins.{put_first}
use Rattle.plane_table.proofs.joining.put.Goals as goal

pub returns-clause-first : goal.returns-clause-first
returns-clause-first c =
    let numbers = c.args.numbers.now.items in
    let e : c.len.result ≡ length numbers = omega (arith, c.len.ensures, c.args.numbers.now.ok.0) in
    put_first c.args.planes.now.items c.add.new.planes.items numbers c.push.new.self.items c.args.from.now c.index-from-len.result c.in_ok-number.number
    c.requires.first c.requires.next (rw e at c.index-from-len.is) c.in_ok-number.ensures.items c.in_ok-number.ensures.number c.in_ok-push.ensures.items
