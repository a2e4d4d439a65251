use Rattle.std.proofs.Common.{◌∙◌, ◌+◌, ap, sym, List, ℕ, flat_map, length, arith}
use Rattle.scad_hull.specs.Hulls.{numbers_between, triples_from}
use Rattle.scad_hull.specs.Steps.{with_triples}
use Rattle.scad_hull.proofs.Found.{all_faces_are, first_next, from_done}
use Rattle.scad_hull.proofs.faces.hull_faces.Goals as goal

pub loop-first-preserved : goal.loop-first-preserved
loop-first-preserved c =
    let points = c.args.points.now in
    let n = length points in
    let i = c.loop-first.first in (
      ap (λ (fs : List (List ℕ)). with_triples points fs (flat_map (triples_from n) (numbers_between (i + 1) n))) c.in_ok-push_from.ensures.faces ∙ sym (first_next points c.loop-first.found.faces.items n i (omega arith)) ∙ c.loop-first.invariant.0,
      c.in_ok-push_from.ensures.found,
    )

pub returns : goal.returns
returns c =
    let points = c.args.points.now in
    let n = length points in
    ap (λ (ks : List ℕ). with_triples points c.loop-first.found.faces.items (flat_map (triples_from n) ks)) (sym (from_done c.loop-first.first n (omega arith))) ∙ c.loop-first.invariant.0 ∙ all_faces_are points
