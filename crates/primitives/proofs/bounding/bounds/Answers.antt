use Rattle.std.proofs.Common.{ℕ, List, pos, ◌≤ℤ◌, All, subst}
use Rattle.plane_predicate.specs.Space.{Coefficients}
use Rattle.primitives.specs.Shapes.{value_at_point}
use Rattle.primitives.proofs.Searches.{some_above}
use Rattle.primitives.proofs.bounding.bounds.Goals as goal

pub returns-then-has_ahead-clause-past : goal.returns-then-has_ahead-clause-past
returns-then-has_ahead-clause-past c =
    λ b. some_above (value_at_point c.args.points.now c.args.plane.now) c.args.faces.now c.if-has_ahead.ensures.some b.none_ahead

pub returns-then-not-has_ahead-clause-past : goal.returns-then-not-has_ahead-clause-past
returns-then-not-has_ahead-clause-past c =
    let P : Coefficients → Type 0 = λ m. All (λ (g : List ℕ). All (λ (i : ℕ). value_at_point c.args.points.now m i ≤ℤ pos 0) g) c.args.faces.now in
    λ b. some_above _ c.args.faces.now b.some_behind (subst P c.requires.opposite_is c.if-not-has_ahead.ensures.none)
