use Rattle.watertight.proofs.lemmas.Vertices.{boxed_watertight}
use Rattle.watertight.proofs.laws.texts_are_watertight.Goals as goal

pub returns-clause-everywhere : goal.returns-clause-everywhere
returns-clause-everywhere c = λ unit bytes f text inside. (boxed_watertight unit bytes f text inside).everywhere

pub returns-clause-edges : goal.returns-clause-edges
returns-clause-edges c = λ unit bytes f text inside. (boxed_watertight unit bytes f text inside).edges
