use Rattle.std.proofs.Common.{refl}
use Rattle.scad_hull.proofs.lemmas.Loops.{all_below, flat_by_lines, on_false, solid_by_plane}
use Rattle.scad_hull.proofs.plane.are_on_one_plane.Goals as goal

pub find_triangle-requires-clause-there : goal.find_triangle-requires-clause-there
find_triangle-requires-clause-there c = all_below c.args.points.now c.args.all.now c.requires

pub bounds-points-all : goal.bounds-points-all
bounds-points-all c = all_below c.args.points.now c.args.all.now c.requires c.in-Some.at.first 0 c.in-Some.ensures.some.first_in

pub bounds-points-all-in-Some : goal.bounds-points-all-in-Some
bounds-points-all-in-Some c = all_below c.args.points.now c.args.all.now c.requires c.in-Some.at.second 0 c.in-Some.ensures.some.second_in

pub bounds-points-all-in-Some-2 : goal.bounds-points-all-in-Some-2
bounds-points-all-in-Some-2 c = all_below c.args.points.now c.args.all.now c.requires c.in-Some.at.third 0 c.in-Some.ensures.some.third_in

pub returns-in-None-clause-flat : goal.returns-in-None-clause-flat
returns-in-None-clause-flat c = flat_by_lines c.args.points.now c.args.all.now c.requires (c.in-None.ensures.none refl)

pub returns-in-Some-clause-solid : goal.returns-in-Some-clause-solid
returns-in-Some-clause-solid c =
    on_false c.holds_all.result (solid_by_plane c.args.points.now c.args.all.now c.requires c.in-Some.at c.in-Some.ensures.some c.plane_through.result c.plane_through.ensures) c.holds_all.ensures.past
