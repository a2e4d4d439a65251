use Rattle.std.proofs.Common.{◌≡◌, ◌++◌, ◌∷◌, [], false, if◌then◌else◌, ap, ◌∙◌, rules}
use Rattle.std.specs.List.{list_any}
use Rattle.plane_predicate.specs.Space.{Coefficients, is_same}
use Rattle.scad_design.specs.Placing.{is_same_or_opposite}
use Rattle.scad_design.proofs.KnownPlanes.{added_new}
use Rattle.scad_design.proofs.known.add_plane.Goals as goal

pub returns-in_ok-insert-clause-added : goal.returns-in_ok-insert-clause-added
returns-in_ok-insert-clause-added c =
    let m = c.args.plane.now in
    let known = c.args.known.now.keys in
    let none : list_any (is_same_or_opposite m) known ≡ false = search rules in
    c.in_ok-insert.ensures.keys
    ∙ ap (λ (k : Coefficients). if list_any (is_same k) known then known else known ++ k ∷ []) c.of-key.ensures.key
    ∙ added_new m known none
