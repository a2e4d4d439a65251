use Rattle.std.proofs.Common.{refl, [], ◌∷◌, pos, arith}
use Rattle.std.proofs.lemmas.Int.{ints}
use Rattle.std.specs.Prelude.{◌<ℤ◌}
use Rattle.std.proofs.lemmas.List.Elements.{All-nil, All-cons}
use Rattle.shape_hulls.proofs.laws.a_point_between_two_is_a_combination.Goals as goal

pub returns : goal.returns
returns c = record {
  weights = pos 2 ∷ pos 1 ∷ [];
  one_each = refl;
  above = All-cons (λ m. pos 0 <ℤ m) (pos 2) (pos 1 ∷ []) (omega (arith, ints))
      (All-cons (λ m. pos 0 <ℤ m) (pos 1) [] (omega (arith, ints)) (All-nil (λ m. pos 0 <ℤ m)));
  x = refl;
  y = refl;
  z = refl;
}
