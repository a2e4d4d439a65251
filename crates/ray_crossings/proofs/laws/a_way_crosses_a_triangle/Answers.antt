use Rattle.std.proofs.Common.{refl}
use Rattle.ray_crossings.proofs.laws.a_way_crosses_a_triangle.Goals as goal

pub returns-clause-out : goal.returns-clause-out
returns-clause-out c = refl

pub returns-clause-back : goal.returns-clause-back
returns-clause-back c = refl

pub returns-clause-edges : goal.returns-clause-edges
returns-clause-edges c = record { out = λ behind ahead. refl; back = λ behind ahead. refl }
