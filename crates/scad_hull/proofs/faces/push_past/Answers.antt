use Rattle.std.proofs.Common.{rules, ◌≡◌, ◌∙◌, ◌∷◌, ◌+◌, [], ap, sym, subst, true, List, ℕ, map, length, arith}
use Rattle.scad_hull.specs.Hulls.{numbers_between}
use Rattle.scad_hull.specs.Steps.{with_triple, with_triples}
use Rattle.scad_hull.proofs.Found.{listed, triple_next}
use Rattle.scad_hull.proofs.PlaneRows.{listed_still}
use Rattle.scad_hull.proofs.faces.push_past.Goals as goal

pub loop-third-preserved : goal.loop-third-preserved
loop-third-preserved c =
    let points = c.args.points.now in
    let n = length points in
    let i = c.args.first in
    let j = c.args.second in
    let k = c.loop-third.third in
    let few = c.requires.numbered.few in
    let e : c.push_triple.new.found.faces.items ≡ with_triple points c.loop-third.found.faces.items (i ∷ j ∷ k ∷ []) = search rules in (
      ap (λ (fs : List (List ℕ)). with_triples points fs (map (λ (l : ℕ). i ∷ j ∷ l ∷ []) (numbers_between (k + 1) n))) e ∙ sym (triple_next points c.loop-third.found.faces.items n i j k (omega arith)) ∙ c.loop-third.invariant.0,
      c.in_ok-push_triple.ensures.found,
      λ l on. subst (λ (fs : List (List ℕ)). listed points fs (i ∷ j ∷ l ∷ []) ≡ true) (sym e)
          (listed_still points c.loop-third.found.faces.items (i ∷ j ∷ k ∷ []) (i ∷ j ∷ l ∷ []) (c.loop-third.invariant.2 l on)),
    )
