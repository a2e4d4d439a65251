-- Each shape, height and hull has at most one verdict: of checks in an order, one at most is the first to fail.
use Rattle.std.proofs.Common.{◌≡◌, ℕ, zero, suc, ◌<◌, ◌≤◌, ◌%◌, ℤ, pos, ◌<ℤ◌, ◌≤ℤ◌, unsigned_abs, Bool, true, false, List, [], ◌∷◌, length, get_or, All, Any, Some, None, refl, sym, ap, subst, ◌∙◌, arith}
use Rattle.std.specs.Prelude.{⊤}
use Rattle.std.specs.Int.Signed.{clash_ℤ}
use Rattle.std.proofs.lemmas.Bool.{false≢true, true≢false}
use Rattle.text_place.specs.declared.fault.FaultKind.{FaultKind}
use Rattle.text_place.specs.declared.fault.FaultKind.TheVariants.{BadSize, NotOnGrid, TooLarge, OutOfRange, LongList, FewPoints, NotConvex, NotInProfile}
use Rattle.plane_predicate.specs.declared.unit.Unit.{Unit as LengthUnit}
use Rattle.primitives.specs.Sizes.{AreSizes, IsSizeFault, IsAtLeastOne, IsEven, IsSafe, AreOnGrid, length_in_grid_steps}
use Rattle.primitives.specs.Polygons.{polygon_of, IsPolygonFault, IsFlatPointInRange, IsConvexPolygon}
use Rattle.round_four.specs.Circles.{IsCircleFault}
use Rattle.round_four.specs.Cylinders.{IsCylinderFault, HasBody, IsOnGrid as IsCentredOnGrid, IsCylinderInRange}
use Rattle.primitives.specs.Polyhedra.{IsPolyhedron, IsFaultOf, IsFirstToFail, polyhedron_checks, polyhedron_faults}
use Rattle.scad_modules.specs.Effects.{SolidCall, cube_call, polyhedron_call, cylinder_call, FlatCall, square_call, polygon_call, circle_call}
use Rattle.scad_hull.specs.Hulls.{points_in_order, AreOnOnePlane}
use Rattle.scad_hull.specs.Refusals.{ArePointsInRange}
use Rattle.scad_design.specs.Designs.{DesignTree}
use Rattle.scad_meaning.specs.Hulls.{is_union, points_of, StaySafe, IsHullFault}
use Rattle.scad_meaning.specs.Verdicts.{Verdict, IsSolidVerdict, IsFlatVerdict, IsHeightVerdict, IsHullVerdict}

-- all of some checks hold
abbrev AllHold : List (Type 0) → Type 0
AllHold [] = ⊤
AllHold (check ∷ more) = check × AllHold more

-- one check at most is the first to fail, and none where all hold
one_fails : (list : List (Type 0)) (m n : ℕ) → IsFirstToFail list m → IsFirstToFail list n → m ≡ n
one_fails [] m n h k = absurd h
one_fails (check ∷ more) zero zero h k = refl
one_fails (check ∷ more) zero (suc n) h k = absurd (h k.0)
one_fails (check ∷ more) (suc m) zero h k = absurd (k h.0)
one_fails (check ∷ more) (suc m) (suc n) h k = ap (λ (i : ℕ). suc i) (one_fails more m n h.1 k.1)

none_fails : (list : List (Type 0)) (n : ℕ) → AllHold list → IsFirstToFail list n → ⊥
none_fails [] n h k = k
none_fails (check ∷ more) zero h k = k h.0
none_fails (check ∷ more) (suc n) h k = none_fails more n h.1 k.1

-- what is known of checks: all hold, or one is the first to fail
abbrev IsVerdictOf : List (Type 0) → List FaultKind → Verdict → Type 0
IsVerdictOf list names None = AllHold list
IsVerdictOf list names (Some kind) = IsFaultOf list names kind

one_verdict : (list : List (Type 0)) (names : List FaultKind) (v w : Verdict) → IsVerdictOf list names v → IsVerdictOf list names w → v ≡ w
one_verdict list names None None h k = refl
one_verdict list names None (Some kind) h k = absurd (none_fails list k.number h k.fails)
one_verdict list names (Some kind) None h k = absurd (none_fails list h.number k h.fails)
one_verdict list names (Some kind) (Some other) h k =
    ap (λ (x : FaultKind). Some x) (h.is ∙ ap (λ (n : ℕ). get_or names n NotConvex) (one_fails list h.number k.number h.fails k.fails) ∙ sym k.is)

-- some and all can't disagree
disagree : {A : Type 0} → (P Q : A → Type 0) → ((x : A) → P x → Q x → ⊥) → (xs : List A) → Any P xs → All Q xs → ⊥
disagree P Q apart xs some all = apart some.1 some.4 (subst Q some.3 (all some.0 some.1 some.2))

below_one : (n : ℤ) → n <ℤ pos 1 → pos 1 ≤ℤ n → ⊥
below_one n h k = clash_ℤ h k

-- sides and heights
abbrev size_checks : LengthUnit → Bool → List ℤ → List (Type 0)
size_checks unit center sides = All IsAtLeastOne sides ∷ AreOnGrid unit center sides ∷ All (λ s. IsSafe (length_in_grid_steps unit s)) sides ∷ []

abbrev size_faults : List FaultKind
size_faults = BadSize ∷ NotOnGrid ∷ TooLarge ∷ []

odd_grid : (unit : LengthUnit) (center : Bool) (sides : List ℤ) → center ≡ true → Any (λ s. unsigned_abs (length_in_grid_steps unit s) % 2 ≡ 1) sides → AreOnGrid unit center sides → ⊥
odd_grid unit true sides e some all = disagree (λ s. unsigned_abs (length_in_grid_steps unit s) % 2 ≡ 1) (IsEven unit) (λ s h k. omega (arith, h, k)) sides some all
odd_grid unit false sides e some all = absurd (false≢true e)

size_fault : (unit : LengthUnit) (center : Bool) (sides : List ℤ) (kind : FaultKind) → IsSizeFault unit center sides kind → IsFaultOf (size_checks unit center sides) size_faults kind
size_fault unit center sides BadSize h = record { number = 0; is = refl; fails = λ all. disagree (λ s. s <ℤ pos 1) IsAtLeastOne below_one sides h all }
size_fault unit center sides NotOnGrid h = record { number = 1; is = refl; fails = (h.0, odd_grid unit center sides h.1 h.2) }
size_fault unit center sides TooLarge h = record { number = 2; is = refl; fails = (h.0, (h.1, λ all. disagree (λ s. IsSafe (length_in_grid_steps unit s) → ⊥) (λ s. IsSafe (length_in_grid_steps unit s)) (λ s a b. a b) sides h.2 all)) }
size_fault unit center sides kind h = absurd h

size_verdict : (unit : LengthUnit) (center : Bool) (sides : List ℤ) → AreSizes unit center sides → AllHold (size_checks unit center sides)
size_verdict unit center sides h = (h.long, (h.on_grid, (h.safe, tt)))

height_verdict : (unit : LengthUnit) (center : Bool) (height : ℤ) (v : Verdict) → IsHeightVerdict unit center height v → IsVerdictOf (size_checks unit center (height ∷ [])) size_faults v
height_verdict unit center height None h = size_verdict unit center (height ∷ []) h
height_verdict unit center height (Some kind) h = size_fault unit center (height ∷ []) kind h

-- written points of a polygon
abbrev polygon_checks : LengthUnit → List (List ℤ) → List (Type 0)
polygon_checks unit points = (length points ≤ 64) ∷ (3 ≤ length points) ∷ All IsFlatPointInRange points ∷ IsConvexPolygon (polygon_of unit points) ∷ []

abbrev polygon_faults : List FaultKind
polygon_faults = LongList ∷ FewPoints ∷ OutOfRange ∷ NotConvex ∷ []

few_are_no_many : (n : ℕ) → n < 3 → n ≤ 64
few_are_no_many n h = omega (arith, h)

more_than : (n m : ℕ) → n < m → m ≤ n → ⊥
more_than n m h k = omega (arith, h, k)

polygon_fault : (unit : LengthUnit) (points : List (List ℤ)) (kind : FaultKind) → IsPolygonFault unit points kind → IsFaultOf (polygon_checks unit points) polygon_faults kind
polygon_fault unit points LongList h = record { number = 0; is = refl; fails = more_than 64 (length points) h }
polygon_fault unit points FewPoints h = record { number = 1; is = refl; fails = (few_are_no_many (length points) h, more_than (length points) 3 h) }
polygon_fault unit points OutOfRange h = record { number = 2; is = refl; fails = (h.0, (h.1, disagree (λ p. IsFlatPointInRange p → ⊥) IsFlatPointInRange (λ p a b. a b) points h.2)) }
polygon_fault unit points NotConvex h = record { number = 3; is = refl; fails = (h.0, (h.1, (h.2, h.3))) }
polygon_fault unit points kind h = absurd h

-- the radius of a circle
abbrev circle_checks : LengthUnit → ℤ → List (Type 0)
circle_checks unit radius = (pos 1 ≤ℤ radius) ∷ (unsigned_abs (length_in_grid_steps unit radius) ≤ 65535) ∷ []

abbrev circle_faults : List FaultKind
circle_faults = BadSize ∷ OutOfRange ∷ []

circle_fault : (unit : LengthUnit) (radius : ℤ) (kind : FaultKind) → IsCircleFault unit radius kind → IsFaultOf (circle_checks unit radius) circle_faults kind
circle_fault unit radius BadSize h = record { number = 0; is = refl; fails = below_one radius h }
circle_fault unit radius OutOfRange h = record { number = 1; is = refl; fails = (h.0, h.1) }
circle_fault unit radius kind h = absurd h

-- the sizes of a cylinder
abbrev cylinder_checks : LengthUnit → Bool → ℤ → ℤ → ℤ → List (Type 0)
cylinder_checks unit center height low high = HasBody height low high ∷ IsCentredOnGrid unit center height ∷ IsCylinderInRange unit center height low high ∷ []

abbrev cylinder_faults : List FaultKind
cylinder_faults = BadSize ∷ NotOnGrid ∷ OutOfRange ∷ []

odd_height : (unit : LengthUnit) (center : Bool) (height : ℤ) → center ≡ true → unsigned_abs (length_in_grid_steps unit height) % 2 ≡ 1 → IsCentredOnGrid unit center height → ⊥
odd_height unit true height e h k = omega (arith, h, k)
odd_height unit false height e h k = absurd (false≢true e)

cylinder_fault : (unit : LengthUnit) (center : Bool) (height low high : ℤ) (kind : FaultKind) → IsCylinderFault unit center height low high kind → IsFaultOf (cylinder_checks unit center height low high) cylinder_faults kind
cylinder_fault unit center height low high BadSize h = record { number = 0; is = refl; fails = h }
cylinder_fault unit center height low high NotOnGrid h = record { number = 1; is = refl; fails = (h.0, odd_height unit center height h.1 h.2) }
cylinder_fault unit center height low high OutOfRange h = record { number = 2; is = refl; fails = (h.0, (h.1, h.2)) }
cylinder_fault unit center height low high kind h = absurd h

-- points and faces
polyhedron_holds : (unit : LengthUnit) (points : List (List ℤ)) (faces : List (List ℕ)) → IsPolyhedron unit points faces → AllHold (polyhedron_checks unit points faces)
polyhedron_holds unit points faces h =
    (h.written.limits, (h.written.corners, (h.written.there, (h.written.range, (h.surface.flat, (h.surface.closed, (h.surface.convex, tt)))))))

-- each call by its checks
abbrev solid_checks : LengthUnit → SolidCall → List (Type 0)
solid_checks unit (cube_call center size) = size_checks unit center size
solid_checks unit (polyhedron_call points faces) = polyhedron_checks unit points faces
solid_checks unit (cylinder_call center height low high) = cylinder_checks unit center height low high

abbrev solid_faults : SolidCall → List FaultKind
solid_faults (cube_call center size) = size_faults
solid_faults (polyhedron_call points faces) = polyhedron_faults
solid_faults (cylinder_call center height low high) = cylinder_faults

solid_verdict : (unit : LengthUnit) (call : SolidCall) (v : Verdict) → IsSolidVerdict unit call v → IsVerdictOf (solid_checks unit call) (solid_faults call) v
solid_verdict unit (cube_call center size) None h = size_verdict unit center size h
solid_verdict unit (cube_call center size) (Some kind) h = size_fault unit center size kind h
solid_verdict unit (polyhedron_call points faces) None h = polyhedron_holds unit points faces h
solid_verdict unit (polyhedron_call points faces) (Some kind) h = h
solid_verdict unit (cylinder_call center height low high) None h = (h.body, (h.on_grid, (h.range, tt)))
solid_verdict unit (cylinder_call center height low high) (Some kind) h = cylinder_fault unit center height low high kind h

abbrev flat_checks : LengthUnit → FlatCall → List (Type 0)
flat_checks unit (square_call center size) = size_checks unit center size
flat_checks unit (polygon_call points) = polygon_checks unit points
flat_checks unit (circle_call radius) = circle_checks unit radius

abbrev flat_faults : FlatCall → List FaultKind
flat_faults (square_call center size) = size_faults
flat_faults (polygon_call points) = polygon_faults
flat_faults (circle_call radius) = circle_faults

flat_verdict : (unit : LengthUnit) (call : FlatCall) (v : Verdict) → IsFlatVerdict unit call v → IsVerdictOf (flat_checks unit call) (flat_faults call) v
flat_verdict unit (square_call center size) None h = size_verdict unit center size h
flat_verdict unit (square_call center size) (Some kind) h = size_fault unit center size kind h
flat_verdict unit (polygon_call points) None h = (h.most, (h.least, (h.range, (h.convex, tt))))
flat_verdict unit (polygon_call points) (Some kind) h = polygon_fault unit points kind h
flat_verdict unit (circle_call radius) None h = (h.long, (h.range, tt))
flat_verdict unit (circle_call radius) (Some kind) h = circle_fault unit radius kind h

pub one_solid_verdict : (unit : LengthUnit) (call : SolidCall) (v w : Verdict) → IsSolidVerdict unit call v → IsSolidVerdict unit call w → v ≡ w
one_solid_verdict unit call v w h k =
    one_verdict (solid_checks unit call) (solid_faults call) v w (solid_verdict unit call v h) (solid_verdict unit call w k)

pub one_flat_verdict : (unit : LengthUnit) (call : FlatCall) (v w : Verdict) → IsFlatVerdict unit call v → IsFlatVerdict unit call w → v ≡ w
one_flat_verdict unit call v w h k =
    one_verdict (flat_checks unit call) (flat_faults call) v w (flat_verdict unit call v h) (flat_verdict unit call w k)

pub one_height_verdict : (unit : LengthUnit) (center : Bool) (height : ℤ) (v w : Verdict) → IsHeightVerdict unit center height v → IsHeightVerdict unit center height w → v ≡ w
one_height_verdict unit center height v w h k =
    one_verdict (size_checks unit center (height ∷ [])) size_faults v w (height_verdict unit center height v h) (height_verdict unit center height w k)

-- the design and the points of a hull
abbrev hull_checks : DesignTree → List (Type 0)
hull_checks design =
    (is_union design ≡ true) ∷ StaySafe design ∷ ArePointsInRange (points_of design) ∷ (length (points_in_order (points_of design)) ≤ 128)
    ∷ (AreOnOnePlane (points_in_order (points_of design)) → ⊥) ∷ []

abbrev hull_faults : List FaultKind
hull_faults = NotInProfile ∷ TooLarge ∷ OutOfRange ∷ LongList ∷ FewPoints ∷ []

hull_fault : (design : DesignTree) (kind : FaultKind) → IsHullFault design kind → IsFaultOf (hull_checks design) hull_faults kind
hull_fault design NotInProfile h = record { number = 0; is = refl; fails = λ e. true≢false (sym e ∙ h) }
hull_fault design TooLarge h = record { number = 1; is = refl; fails = (h.0, h.1) }
hull_fault design OutOfRange h = record { number = 2; is = refl; fails = (h.0, (h.1, h.2)) }
hull_fault design LongList h = record { number = 3; is = refl; fails = (h.0, (h.1, (h.2.0, more_than 128 (length (points_in_order (points_of design))) h.2.1))) }
hull_fault design FewPoints h = record { number = 4; is = refl; fails = (h.0, (h.1, (h.2.0, (h.2.1, λ solid. solid h.2.2)))) }
hull_fault design kind h = absurd h.2

hull_verdict : (design : DesignTree) (v : Verdict) → IsHullVerdict design v → IsVerdictOf (hull_checks design) hull_faults v
hull_verdict design None h = (h.union, (h.safe, (h.points.range, (h.points.few, (h.points.solid, tt)))))
hull_verdict design (Some kind) h = hull_fault design kind h

pub one_hull_verdict : (design : DesignTree) (v w : Verdict) → IsHullVerdict design v → IsHullVerdict design w → v ≡ w
one_hull_verdict design v w h k = one_verdict (hull_checks design) hull_faults v w (hull_verdict design v h) (hull_verdict design w k)
