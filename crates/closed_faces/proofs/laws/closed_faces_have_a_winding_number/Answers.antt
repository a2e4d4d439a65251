use Rattle.closed_faces.proofs.Borders.{winding_number}
use Rattle.closed_faces.proofs.laws.closed_faces_have_a_winding_number.Goals as goal

pub returns : goal.returns
returns c = λ faces polygon convex closed also general. winding_number faces polygon convex closed also general
