-- What is wrong with a hull can be decided.
use Rattle.std.proofs.Common.{◌≡◌, ◌⊎◌, inl, inr, ⊎_elim, ℕ, pos, Bool, true, false, ℤ, List, length, get_or, refl}
use Rattle.text_place.specs.declared.fault.FaultKind.{FaultKind}
use Rattle.text_place.specs.declared.fault.FaultKind.TheVariants.{NotInProfile, TooLarge, OutOfRange, LongList, FewPoints}
use Rattle.plane_predicate.specs.Space.{point_at, value}
use Rattle.primitives.specs.Shapes.{HasTriangle, IsPointInRange}
use Rattle.primitives.specs.Spanning.{IsTriangle}
use Rattle.primitives.specs.declared.spanning.Triangle.{Triangle}
use Rattle.scad_hull.specs.Hulls.{points_in_order, numbers_between, AreOnOnePlane}
use Rattle.scad_hull.specs.Steps.{AreNumberedPoints}
use Rattle.scad_hull.proofs.lemmas.Lines.{plane}
use Rattle.scad_hull.proofs.lemmas.Loops.{flat_by_lines, flat_by_plane, numbered_by, solid_by_plane}
use Rattle.scad_design.specs.Designs.{DesignTree, empty, a_leaf, joined_designs}
use Rattle.scad_design.proofs.lemmas.Deciding.{Decided, decided_all, decided_both, decided_same_ℤ, at_most_or_more}
use Rattle.scad_design.proofs.lemmas.SomePlacing.{decided_safe}
use Rattle.scad_meaning.specs.Hulls.{is_union, points_of, StaySafe, HasHull, IsHullFault}
use Rattle.scad_meaning.proofs.Triangles.{decided_point_range, decided_triangle}

-- points on one plane: all of them, where there is no triangle, or else those on the plane of one
abbrev triangle_of : (points : List (List ℤ)) (all : List ℕ) → HasTriangle points all → Triangle
triangle_of points all t = record { first = t.first; second = t.second; third = t.third }

is_triangle : (points : List (List ℤ)) (all : List ℕ) (t : HasTriangle points all) → IsTriangle points all (triangle_of points all t)
is_triangle points all t = record { first_in = t.first_in; second_in = t.second_in; third_in = t.third_in; apart = t.apart }

decided_by_triangle : (points : List (List ℤ)) (all : List ℕ) → AreNumberedPoints points all → HasTriangle points all → Decided (AreOnOnePlane points)
decided_by_triangle points all h t =
    let m = plane points (get_or all t.first 0) (get_or all t.second 0) (get_or all t.third 0) in
    ⊎_elim (λ on. inl (flat_by_plane points all (triangle_of points all t) (is_triangle points all t) m refl on))
    (λ off. inr (solid_by_plane points all h (triangle_of points all t) (is_triangle points all t) m refl off))
    (decided_all (λ p. value m (point_at p) ≡ pos 0) (λ p. decided_same_ℤ (value m (point_at p)) (pos 0)) points)

decided_one_plane : (points : List (List ℤ)) (all : List ℕ) → AreNumberedPoints points all → Decided (AreOnOnePlane points)
decided_one_plane points all h =
    ⊎_elim (λ t. decided_by_triangle points all h t) (λ none. inl (flat_by_lines points all h none)) (decided_triangle points all)

-- parts that stay safe, and joins by union
decided_stay_safe : (design : DesignTree) → Decided (StaySafe design)
decided_stay_safe empty = inl tt
decided_stay_safe (a_leaf part) = decided_safe part
decided_stay_safe (joined_designs op left right) = decided_both (decided_stay_safe left) (decided_stay_safe right)

true_or_false : (b : Bool) → (b ≡ true) ⊎ (b ≡ false)
true_or_false true = inl refl
true_or_false false = inr refl

abbrev pub HullVerdict : DesignTree → Type 0
HullVerdict design = HasHull design ⊎ ((kind : FaultKind) × IsHullFault design kind)

points_verdict : (design : DesignTree) → is_union design ≡ true → StaySafe design → HullVerdict design
points_verdict design union safe =
    let given = points_of design in
    ⊎_elim (λ range.
    ⊎_elim (λ few.
    ⊎_elim (λ flat. inr (FewPoints, (union, safe, (range, few, flat))))
    (λ solid. inl (record { union = union; safe = safe; points = record { range = range; few = few; solid = solid } }))
    (decided_one_plane (points_in_order given) (numbers_between 0 (length (points_in_order given))) (numbered_by given (points_in_order given) (numbers_between 0 (length (points_in_order given))) refl range few refl)))
    (λ many. inr (LongList, (union, safe, (range, many))))
    (at_most_or_more (length (points_in_order given)) 128))
    (λ past. inr (OutOfRange, (union, safe, past)))
    (decided_all (λ p. IsPointInRange (point_at p)) (λ p. decided_point_range (point_at p)) given)

pub hull_verdict : (design : DesignTree) → HullVerdict design
hull_verdict design =
    ⊎_elim (λ union.
    ⊎_elim (λ safe. points_verdict design union safe) (λ past. inr (TooLarge, (union, past))) (decided_stay_safe design))
    (λ other. inr (NotInProfile, other))
    (true_or_false (is_union design))
