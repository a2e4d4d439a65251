use Rattle.std.proofs.Common.{rules, ◌≡◌, ◌∙◌, ◌∷◌, ◌++◌, [], ap, sym, List, ℕ}
use Rattle.scad_hull.proofs.Found.{from_push}
use Rattle.scad_hull.proofs.faces.numbers.Goals as goal

pub loop-number-preserved : goal.loop-number-preserved
loop-number-preserved c =
    let e : c.push.new.self.items ≡ c.loop-number.all.items ++ c.loop-number.number ∷ [] = search rules in
    e ∙ ap (λ (xs : List ℕ). xs ++ c.loop-number.number ∷ []) c.loop-number.invariant ∙ sym (from_push c.loop-number.number)
