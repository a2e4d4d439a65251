use Rattle.std.proofs.Common.{rules, ◌≡◌, arith, List, [], ℤ, pos, sym, ◌∙◌, ap, to_z, to_z-of_z, FitsSigned, w64}
use Rattle.primitives.proofs.lemmas.Lists.{all_done, all_next}
use Rattle.primitives.specs.Polygons.{orientation}
use Rattle.primitives.proofs.convex.bends.Goals as goal

pub loop-third-preserved : goal.loop-third-preserved
loop-third-preserved c =
    let f : FitsSigned w64 c.orientation_of.result = search rules in
    let e = c.orientation_of.ensures in
    let none : c.orientation_of.result ≡ pos 0 = sym (to_z-of_z f) ∙ ap (to_z w64) c.if-orientation_of-ne0.false in
    all_next (λ (r : List ℤ). orientation c.args.first c.args.second r ≡ pos 0) c.args.points.now c.loop-third.third-index [] (omega arith) c.loop-third.invariant (sym e ∙ none)

pub returns-clause-no : goal.returns-clause-no
returns-clause-no c = all_done (λ (r : List ℤ). orientation c.args.first c.args.second r ≡ pos 0) c.args.points.now c.loop-third.third-index (omega arith) c.loop-third.invariant
