use Rattle.std.proofs.Common.{ap, ◌∙◌}
use Rattle.plane_predicate.specs.Space.{value}
use Rattle.plane_predicate.specs.Sides.{is_side_behind}
use Rattle.plane_polygon.proofs.lemmas.CornerSides.{side_behind}
use Rattle.bsp_tree.proofs.walking.lies_behind.Goals as goal

pub returns : goal.returns
returns c =
    c.is_behind.ensures ∙ ap is_side_behind c.point_side.ensures ∙ side_behind (value c.args.plane.now c.args.point.now)
