use Rattle.std.proofs.lemmas.Int.{ints}
use Rattle.std.proofs.Common.{rules, w64, FitsSigned, neg_ℤ, arith, to_z-of_z, ◌∙◌, sym}
use Rattle.plane_predicate.specs.Space.{Coordinates}
use Rattle.plane_predicate.proofs.Meetings.{signed_negative}
use Rattle.plane_predicate.proofs.lemmas.Opposites.{negated, same_point}
use Rattle.plane_predicate.proofs.line.spot_of.Goals as goal

pub returns-then-w-lt0 : goal.returns-then-w-lt0
returns-then-w-lt0 c =
    let m : Coordinates = record { x = c.args.x; y = c.args.y; z = c.args.z; w = c.args.w } in
    let f : FitsSigned w64 c.args.w = search rules in
    same_point _ _ _ _ (neg_ℤ m.x) (neg_ℤ m.y) (neg_ℤ m.z) (neg_ℤ m.w) (negated w64 m.x (omega (arith, c.requires.x_size))) (negated w64 m.y (omega (arith, c.requires.y_size))) (negated w64 m.z (omega (arith, c.requires.z_size))) (negated w64 m.w (omega (arith, c.requires.w_size)))
    ∙ sym (signed_negative m.w m (omega (arith, ints, simp to_z-of_z at c.if-w-lt0.true)))
