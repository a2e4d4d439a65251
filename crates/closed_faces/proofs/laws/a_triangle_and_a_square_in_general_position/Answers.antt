use Rattle.std.proofs.Common.{refl, arith}
use Rattle.closed_faces.proofs.Rows.{triangle_general}
use Rattle.closed_faces.proofs.laws.a_triangle_and_a_square_in_general_position.Goals as goal

pub returns-clause-two : goal.returns-clause-two
returns-clause-two c = triangle_general

pub returns-clause-one : goal.returns-clause-one
returns-clause-one c = λ general. general.sides_off 0 (omega arith) refl
