use Rattle.std.proofs.Common.{◌≡◌, ℕ, List, [], map, length, sym, subst, arith}
use Rattle.std.proofs.lemmas.Simd.{map-map}
use Rattle.plane_predicate.specs.Space.{Coordinates}
use Rattle.plane_predicate.specs.InUnits.{in_units}
use Rattle.plane_polygon.specs.Polygons.{Outline, corner, AreReducedFrom}
use Rattle.plane_predicate.specs.Indices.{indices_below}
use Rattle.plane_polygon.proofs.lemmas.CornerSides.{reduced_step}
use Rattle.off_text.proofs.corners.push_meetings.Goals as goal

pub loop-i-init : goal.loop-i-init
loop-i-init c = subst (λ (l : List Coordinates). AreReducedFrom [] l) (sym c.requires.none) tt

pub loop-i-preserved : goal.loop-i-preserved
loop-i-preserved c =
    let s : Outline = record { plane = c.args.plane.now; edges = c.args.edges.now } in
    rw c.in_ok-push.ensures.items
    (reduced_step (λ j. in_units c.args.unit (corner s j)) c.loop-i.i c.loop-i.corners.items c.corner_at.result c.loop-i.invariant c.corner_at.ensures.times c.corner_at.ensures.reduced)

pub returns : goal.returns
returns c =
    let s : Outline = record { plane = c.args.plane.now; edges = c.args.edges.now } in
    let all : c.loop-i.i ≡ length c.args.edges.now = omega arith in
    subst (λ (ps : List Coordinates). AreReducedFrom ps c.loop-i.corners.items) (sym (map-map (in_units c.args.unit) (corner s) (indices_below (length s.edges))))
    (subst (λ (n : ℕ). AreReducedFrom (map (λ j. in_units c.args.unit (corner s j)) (indices_below n)) c.loop-i.corners.items) all c.loop-i.invariant)
