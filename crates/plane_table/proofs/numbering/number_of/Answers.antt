use Rattle.std.proofs.Common.{◌≡◌, ◌*◌, ◌++◌, [], ◌∷◌, length, ℕ}
use Rattle.plane_table.specs.Joins.{HasNumberOver}
use Rattle.plane_table.proofs.Joins.{both_ok, numbered_new}
use Rattle.plane_table.proofs.numbering.number_of.Goals as goal

pub returns-in-None : goal.returns-in-None
returns-in-None c =
    let plane = c.args.plane.now in
    let old = c.args.planes.now.items in
    let new = c.add.new.planes.items in
    both_ok c.add.result (λ (n : ℕ). new ≡ old ++ plane ∷ []) (λ (n : ℕ). n ≡ 2 * length old) (λ (n : ℕ). HasNumberOver plane old new n)
    (λ n e h. numbered_new plane old new n c.requires (rw c.deref.ensures.value at c.in-None.ensures.none) e h)
    c.add.ensures.items c.add.ensures.number
