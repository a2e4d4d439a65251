use Rattle.std.proofs.Common.{◌+◌, List, Bool, length, sym, subst}
use Rattle.scad_hull.specs.Hulls.{numbers_between}
use Rattle.scad_hull.specs.Steps.{IsCommonRow}
use Rattle.scad_hull.proofs.PlaneRows.{listed_by, none_added, none_listed}
use Rattle.scad_hull.proofs.faces.push_by.Goals as goal

pub returns-then-is_surrounded-clause-faces : goal.returns-then-is_surrounded-clause-faces
returns-then-is_surrounded-clause-faces c =
    sym (none_added c.args.points.now c.args.found.now.faces.items c.args.first c.args.second c.if-is_surrounded.ensures.none (numbers_between (c.args.second + 1) (length c.args.points.now)))

pub push_past-requires-clause-listed : goal.push_past-requires-clause-listed
push_past-requires-clause-listed c =
    listed_by c.args.points.now c.args.found.now c.args.first c.args.second c.in-Some.row c.requires.found
    (subst (λ (rows : List (List Bool)). IsCommonRow rows c.args.first c.args.second c.in-Some.row) c.deref.ensures.value c.in-Some.ensures)

pub push_past-requires-in-None-clause-listed : goal.push_past-requires-in-None-clause-listed
push_past-requires-in-None-clause-listed c =
    none_listed c.args.points.now c.args.found.now.faces.items c.args.first c.args.second 128
