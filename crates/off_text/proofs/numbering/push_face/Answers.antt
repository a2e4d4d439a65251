use Rattle.std.proofs.Common.{◌∙◌, ap, List, ◌++◌}
use Rattle.plane_predicate.specs.Space.{Coordinates}
use Rattle.off_text.specs.Numbering.{with_points}
use Rattle.off_text.specs.FaceNumbers.{vertex_numbers}
use Rattle.off_text.proofs.Numbers.{face_grows, face_numbers, round_parts}
use Rattle.off_text.proofs.numbering.push_face.Goals as goal

pub returns-clause-vertices : goal.returns-clause-vertices
returns-clause-vertices c =
    face_grows c.args.vertices.now.keys c.push_numbers.new.vertices.keys c.push_numbers-2.new.vertices.keys c.split_at.result.1.now c.split_at.result.0.now
    c.in_ok-push_numbers.ensures.vertices c.in_ok-push_numbers-2.ensures.vertices
    ∙ ap (with_points c.args.vertices.now.keys) (round_parts c.args.corners.now c.args.start c.split_at.result.0.now c.split_at.result.1.now c.split_at.ensures.front c.split_at.ensures.back)

pub returns-clause-numbers : goal.returns-clause-numbers
returns-clause-numbers c =
    face_numbers c.args.vertices.now.keys c.push_numbers.new.vertices.keys c.push_numbers-2.new.vertices.keys c.split_at.result.1.now c.split_at.result.0.now
    c.args.faces.now.numbers.items c.push_numbers.new.numbers.items c.push_numbers-2.new.numbers.items
    c.in_ok-push_numbers.ensures.vertices c.in_ok-push_numbers-2.ensures.vertices c.in_ok-push_numbers.ensures.numbers c.in_ok-push_numbers-2.ensures.numbers
    ∙ ap (λ (ps : List Coordinates). c.args.faces.now.numbers.items ++ vertex_numbers c.push_numbers-2.new.vertices.keys ps)
    (round_parts c.args.corners.now c.args.start c.split_at.result.0.now c.split_at.result.1.now c.split_at.ensures.front c.split_at.ensures.back)
