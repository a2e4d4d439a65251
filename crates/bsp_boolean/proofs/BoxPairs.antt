-- Pairs of planes that face away from each other.
use Rattle.plane_predicate.specs.Space.{Coefficients, IsPlane}
use Rattle.plane_polygon.specs.Parallels.{HasSameDirection}
use Rattle.bsp_boolean.specs.UprightBoxes.{HasRoomBetween, IsPair}

pub pair_of : (low high low_world high_world : Coefficients) → IsPlane low → IsPlane high → HasSameDirection low low_world → HasSameDirection high high_world →
    HasRoomBetween low.d high.d → IsPair low high low_world high_world
pair_of low high low_world high_world p q a b h = record { low_plane = p; high_plane = q; low_along = a; high_along = b; room = h }
