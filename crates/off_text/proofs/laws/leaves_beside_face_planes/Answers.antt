use Rattle.off_text.proofs.lemmas.BesideFaces.{beside_leaves}
use Rattle.off_text.proofs.laws.leaves_beside_face_planes.Goals as goal

pub returns-clause-behind : goal.returns-clause-behind
returns-clause-behind c = λ f n p proper on. (beside_leaves f proper.leaves n p on).2

pub returns-clause-ahead : goal.returns-clause-ahead
returns-clause-ahead c = λ f n p proper on. (beside_leaves f proper.leaves n p on).3
