-- The sides of corners by the places of their edges on a line.
use Rattle.std.proofs.Common.{◌≡◌, ℕ, ◌<◌, List, length, get_or, sym, ap, ◌∙◌}
use Rattle.plane_predicate.specs.Space.{Coefficients, Coordinates, meeting_by_cramers_rule, value}
use Rattle.plane_predicate.specs.Sides.{side_of}
use Rattle.plane_predicate.specs.declared.sides.Side.{Side}
use Rattle.plane_predicate.specs.declared.place.Place.{Place}
use Rattle.plane_predicate.specs.Lines.{Axis, IsAxisOf, IsLinePlaceOf}
use Rattle.plane_predicate.specs.Indices.{index_after}
use Rattle.plane_table.specs.declared.faces.Face.{Face}
use Rattle.plane_table.specs.Tables.{plane_named}
use Rattle.plane_table.specs.Faces.{IsSideAt}
use Rattle.plane_table.proofs.lemmas.Corners.{after_in, corner_is}

-- the side that two places say, as side_between ensures it
abbrev pub SaysSide : Place → Place → Side → Type 0
SaysSide ends begins side =
    (p m q r : Coefficients) (line : Axis) → IsAxisOf p m line → IsLinePlaceOf q line ends → IsLinePlaceOf r line begins → side ≡ side_of (value m (meeting_by_cramers_rule p q r))

pub side_along : (planes : List Coefficients) (face : Face) (m : Coefficients) (i : ℕ) (line : Axis) (ends begins : Place) (side : Side) → i < length face.edges →
    IsAxisOf (plane_named planes face.plane) m line → IsLinePlaceOf (plane_named planes (get_or face.edges i 0)) line ends →
    IsLinePlaceOf (plane_named planes (get_or face.edges (index_after (length face.edges) i) 0)) line begins → SaysSide ends begins side →
    IsSideAt planes face m i side
side_along planes face m i line ends begins side l axis one other says =
    let next = index_after (length face.edges) i in
    says (plane_named planes face.plane) m (plane_named planes (get_or face.edges i 0)) (plane_named planes (get_or face.edges next 0)) line axis one other
    ∙ ap (λ (p : Coordinates). side_of (value m p)) (sym (corner_is planes face i l (after_in (length face.edges) i l)))
