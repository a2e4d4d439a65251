-- Faces as they are printed: in units, their corners by numbers of their own, each round begun at some corner.
use Rattle.std.specs.Prelude.{◌≡◌, List, [], ◌∷◌, ◌++◌}
use Rattle.plane_predicate.specs.declared.unit.Unit.{Unit as LengthUnit}
use Rattle.plane_predicate.specs.Space.{Coordinates, IsPointTimes}
use Rattle.plane_predicate.specs.InUnits.{in_units}

-- the second points are the first ones in units, in order
abbrev pub AreInUnits : LengthUnit → List Coordinates → List Coordinates → Type 0
AreInUnits unit [] [] = Unit {0}
AreInUnits unit (p ∷ ps) (q ∷ qs) = IsPointTimes (in_units unit p) q × AreInUnits unit ps qs
AreInUnits unit [] (q ∷ qs) = ⊥
AreInUnits unit (p ∷ ps) [] = ⊥

-- the printed corners are the corners in units, from some corner on
pub record IsRoundOf (unit : LengthUnit) (corners printed : List Coordinates) : Type 0 where
  pub front : List Coordinates
  pub back : List Coordinates
  pub places : AreInUnits unit corners (front ++ back)
  pub order : printed ≡ back ++ front

-- face by face
abbrev pub AreRoundsOf : LengthUnit → List (List Coordinates) → List (List Coordinates) → Type 0
AreRoundsOf unit [] [] = Unit {0}
AreRoundsOf unit (corners ∷ faces) (printed ∷ rest) = IsRoundOf unit corners printed × AreRoundsOf unit faces rest
AreRoundsOf unit [] (printed ∷ rest) = ⊥
AreRoundsOf unit (corners ∷ faces) [] = ⊥
