use Rattle.std.proofs.Common.{◌≡◌, ◌||◌, false, Bool, sym, ap, ◌∙◌, rules}
use Rattle.std.specs.List.{list_any}
use Rattle.plane_predicate.specs.Space.{Coefficients, is_same, opposite_of}
use Rattle.scad_design.proofs.KnownPlanes.{either}
use Rattle.scad_design.proofs.known.is_known.Goals as goal

pub returns-else-contains : goal.returns-else-contains
returns-else-contains c =
    let m = c.args.plane.now in
    let known = c.args.known.now.keys in
    let apart : list_any (is_same m) known ≡ false = search rules in
    let key : c.of-else-contains.result ≡ opposite_of m = search rules in
    c.contains-else-contains.ensures
    ∙ ap (λ (k : Coefficients). list_any (is_same k) known) key
    ∙ ap (λ (b : Bool). b || list_any (is_same (opposite_of m)) known) (sym apart)
    ∙ sym (either m known)
