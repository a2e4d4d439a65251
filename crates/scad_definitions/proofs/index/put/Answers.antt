use Rattle.std.proofs.Common.{ℕ, List, Some, subst}
use Rattle.std.specs.BTreeMap.{UpdatesBy}
use Rattle.std.specs.Cmp.Lexicographic.{slice_cmp}
use Rattle.std.specs.Ordering.{nat_cmp}
use Rattle.scad_definitions.proofs.Updates.{updated}
use Rattle.scad_definitions.proofs.index.put.Goals as goal

pub returns-clause-put : goal.returns-clause-put
returns-clause-put c = updated c.args.name.now c.args.index.now c.insert.new.self (Some c.args.place)
    (subst (λ (bs : List ℕ). UpdatesBy (λ x y. slice_cmp nat_cmp x.items y.items) (λ key. slice_cmp nat_cmp bs key.items) c.args.index.now c.insert.new.self (Some c.args.place))
    c.in_ok-name.ensures.items c.in_ok-insert.ensures.updates)
