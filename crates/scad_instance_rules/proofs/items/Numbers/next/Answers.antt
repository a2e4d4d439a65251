use Rattle.std.proofs.Common.{◌≡◌, pos, ◌+ℤ◌, ◌*ℤ◌, arith, rules}
use Rattle.std.proofs.lemmas.Int.{to_z-of_z}
use mir.Syntax.{w64}
use mir.Val.{SFits}
use Rattle.scad_instance_rules.proofs.BoundedItems.{next_of}
use Rattle.scad_instance_rules.proofs.items.Numbers.next.Goals as goal

pub returns : goal.returns
returns c =
    let s = c.args.self.now in
    let f : SFits w64 s.from = search rules in
    let b : SFits w64 s.by = search rules in
    let start = to_z-of_z w64 s.from f in
    let step = to_z-of_z w64 s.by b in
    let number : c.number_at-number.result ≡ s.from +ℤ (pos s.place *ℤ s.by) = cc (c.number_at-number.ensures, start, step) in
    next_of s.count s.place s.from s.by c.number_at-number.result (omega arith) c.requires number
