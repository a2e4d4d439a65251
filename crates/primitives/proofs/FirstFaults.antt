-- The first of some checks that fails.
use Rattle.std.proofs.Common.{◌≡◌, ◌⊎◌, inl, inr, ℕ, zero, suc, ℤ, List, [], ◌∷◌, length, Result, Err, refl, sym, ap, ◌∙◌, subst, arith, ◌<◌, get_or}
use Rattle.text_place.specs.declared.fault.FaultKind.{FaultKind}
use Rattle.plane_predicate.specs.declared.unit.Unit.{Unit as LengthUnit}
use Rattle.primitives.specs.declared.stop.ShapeStop.{ShapeStop}
use Rattle.primitives.specs.declared.stop.ShapeStop.TheVariants.{Kind, NoMemory}
use Rattle.text_place.specs.declared.fault.FaultKind.TheVariants.{LongList, FewPoints, BadPoint, OutOfRange, NotFlat, NotClosed, NotConvex}
use Rattle.primitives.specs.Polyhedra.{polyhedron_checks, polyhedron_faults, polyhedron_of, written_checks, AnswersFirstFault, IsAnsweredWhere, IsFaultOf, IsFirstPolyhedronFault, IsFirstToFail, IsSurfaceFault, PassesWrittenChecks, IsWrittenFault}

-- no two checks are the first to fail
one_first : (list : List (Type 0)) (m n : ℕ) → IsFirstToFail list m → IsFirstToFail list n → m ≡ n
one_first [] m n h g = absurd h
one_first (check ∷ more) zero zero h g = refl
one_first (check ∷ more) zero (suc n) h g = absurd (h g.0)
one_first (check ∷ more) (suc m) zero h g = absurd (g h.0)
one_first (check ∷ more) (suc m) (suc n) h g = ap suc (one_first more m n h.1 g.1)

-- none is the first to fail where all pass
abbrev pub AllPass : List (Type 0) → Type 0
AllPass [] = Unit {0}
AllPass (check ∷ more) = check × AllPass more

none_first : (list : List (Type 0)) (n : ℕ) → AllPass list → IsFirstToFail list n → ⊥
none_first [] n a h = h
none_first (check ∷ more) zero a h = h a.0
none_first (check ∷ more) (suc n) a h = none_first more n a.1 h.1

-- ---- the faults of the two parts
first_written : (unit : LengthUnit) (points : List (List ℤ)) (faces : List (List ℕ)) (n : ℕ) → IsFirstToFail (written_checks points faces []) n → IsFirstToFail (polyhedron_checks unit points faces) n
first_written unit points faces zero g = g
first_written unit points faces (suc zero) g = g
first_written unit points faces (suc (suc zero)) g = g
first_written unit points faces (suc (suc (suc zero))) g = g
first_written unit points faces (suc (suc (suc (suc n)))) g = absurd g.1.1.1.1

pub written_fault : (unit : LengthUnit) (points : List (List ℤ)) (faces : List (List ℕ)) (stop : ShapeStop) → IsWrittenFault points faces stop → IsFirstPolyhedronFault unit points faces stop
written_fault unit points faces (Kind kind) h = record { number = h.number; is = h.is; fails = first_written unit points faces h.number h.fails }
written_fault unit points faces NoMemory h = absurd h

pub surface_fault : (unit : LengthUnit) (points : List (List ℤ)) (faces : List (List ℕ)) (stop : ShapeStop) → PassesWrittenChecks points faces → IsSurfaceFault (polyhedron_of unit points faces) stop → IsFirstPolyhedronFault unit points faces stop
surface_fault unit points faces (Kind kind) w h = record { number = suc (suc (suc (suc h.number))); is = h.is; fails = (w.limits, (w.corners, (w.there, (w.range, h.fails)))) }
surface_fault unit points faces NoMemory w h = h

-- ---- both directions of each fault
use_number : (list : List (Type 0)) (n : ℕ) → IsFirstToFail list n → n < length list
use_number [] n h = absurd h
use_number (check ∷ more) zero h = omega arith
use_number (check ∷ more) (suc n) h = omega (arith, use_number more n h.1)

-- the place of a fault among them
abbrev place_of : FaultKind → ℕ
place_of LongList = 0
place_of FewPoints = 1
place_of BadPoint = 2
place_of OutOfRange = 3
place_of NotFlat = 4
place_of NotClosed = 5
place_of NotConvex = 6
place_of _ = 7

place_at : (n : ℕ) → n < 7 → place_of (get_or polyhedron_faults n NotConvex) ≡ n
place_at zero h = refl
place_at (suc zero) h = refl
place_at (suc (suc zero)) h = refl
place_at (suc (suc (suc zero))) h = refl
place_at (suc (suc (suc (suc zero)))) h = refl
place_at (suc (suc (suc (suc (suc zero))))) h = refl
place_at (suc (suc (suc (suc (suc (suc zero)))))) h = refl
place_at (suc (suc (suc (suc (suc (suc (suc n))))))) h = absurd (omega (arith, h))

fails_at : (unit : LengthUnit) (points : List (List ℤ)) (faces : List (List ℕ)) (kind : FaultKind) → IsFaultOf (polyhedron_checks unit points faces) polyhedron_faults kind → IsFirstToFail (polyhedron_checks unit points faces) (place_of kind)
fails_at unit points faces kind h =
    subst (IsFirstToFail (polyhedron_checks unit points faces)) (sym (ap place_of h.is ∙ place_at h.number (use_number (polyhedron_checks unit points faces) h.number h.fails))) h.fails

same_kind : {A : Type 0} (j k : FaultKind) → (let r : Result A ShapeStop = Err (Kind j) in r ≡ Err (Kind k)) → j ≡ k
same_kind j k e = cc

only_at : {A : Type 0} (unit : LengthUnit) (points : List (List ℤ)) (faces : List (List ℕ)) (stop : ShapeStop) → IsFirstPolyhedronFault unit points faces stop → (kind : FaultKind) → (let r : Result A ShapeStop = Err stop in r ≡ Err (Kind kind)) → IsFirstToFail (polyhedron_checks unit points faces) (place_of kind)
only_at unit points faces (Kind j) h kind e = fails_at unit points faces kind (subst (IsFaultOf (polyhedron_checks unit points faces) polyhedron_faults) (same_kind j kind e) h)
only_at unit points faces NoMemory h kind e = cc

always_at : {A : Type 0} (unit : LengthUnit) (points : List (List ℤ)) (faces : List (List ℕ)) (stop : ShapeStop) → IsFirstPolyhedronFault unit points faces stop → (n : ℕ) → IsFirstToFail (polyhedron_checks unit points faces) n →
    (let r : Result A ShapeStop = Err stop in (r ≡ Err (Kind (get_or polyhedron_faults n NotConvex))) ⊎ (r ≡ Err NoMemory))
always_at unit points faces (Kind j) h n g =
    inl (ap (λ (k : FaultKind). Err (Kind k)) (h.is ∙ ap (λ (m : ℕ). get_or polyhedron_faults m NotConvex) (one_first (polyhedron_checks unit points faces) h.number n h.fails g)))
always_at unit points faces NoMemory h n g = inr refl

-- one fault, by the number of its check
answered : {A : Type 0} (unit : LengthUnit) (points : List (List ℤ)) (faces : List (List ℕ)) (stop : ShapeStop) → IsFirstPolyhedronFault unit points faces stop → (r : Result A ShapeStop) → r ≡ Err stop → (kind : FaultKind) (n : ℕ) (P : Type 0) → place_of kind ≡ n → get_or polyhedron_faults n NotConvex ≡ kind →
    (IsFirstToFail (polyhedron_checks unit points faces) n → P) → (P → IsFirstToFail (polyhedron_checks unit points faces) n) → IsAnsweredWhere r kind P
answered unit points faces stop h r e kind n P at named to from = record {
  only = λ f. to (subst (IsFirstToFail (polyhedron_checks unit points faces)) at (only_at unit points faces stop h kind (sym e ∙ f)));
  always = λ p. elim (always_at unit points faces stop h n (from p)) [
    | inl f ↦ inl (e ∙ f ∙ ap (λ (k : FaultKind). Err (Kind k)) named)
    | inr f ↦ inr (e ∙ f)
  ];
}

-- a stop that is the first fault
pub answers_stop : {A : Type 0} (unit : LengthUnit) (points : List (List ℤ)) (faces : List (List ℕ)) (stop : ShapeStop) → IsFirstPolyhedronFault unit points faces stop → (r : Result A ShapeStop) → r ≡ Err stop → AnswersFirstFault unit points faces r
answers_stop unit points faces stop h r e = record {
  long_list = answered unit points faces stop h r e LongList 0 _ refl refl (λ g. g) (λ g. g);
  few_points = answered unit points faces stop h r e FewPoints 1 _ refl refl (λ g. g) (λ g. g);
  bad_point = answered unit points faces stop h r e BadPoint 2 _ refl refl (λ g. (g.0, g.1.0, g.1.1)) (λ p. (p.0, (p.1, p.2)));
  out_of_range = answered unit points faces stop h r e OutOfRange 3 _ refl refl (λ g. (g.0, g.1.0, g.1.1.0, g.1.1.1)) (λ p. (p.0, (p.1, (p.2, p.3))));
  not_flat = answered unit points faces stop h r e NotFlat 4 _ refl refl
      (λ g. (record { limits = g.0; corners = g.1.0; there = g.1.1.0; range = g.1.1.1.0 }, g.1.1.1.1)) (λ p. (p.0.limits, (p.0.corners, (p.0.there, (p.0.range, p.1)))));
  not_closed = answered unit points faces stop h r e NotClosed 5 _ refl refl
      (λ g. (record { limits = g.0; corners = g.1.0; there = g.1.1.0; range = g.1.1.1.0 }, g.1.1.1.1.0, g.1.1.1.1.1)) (λ p. (p.0.limits, (p.0.corners, (p.0.there, (p.0.range, (p.1, p.2))))));
  not_convex = answered unit points faces stop h r e NotConvex 6 _ refl refl
      (λ g. (record { limits = g.0; corners = g.1.0; there = g.1.1.0; range = g.1.1.1.0 }, g.1.1.1.1.0, g.1.1.1.1.1.0, g.1.1.1.1.1.1)) (λ p. (p.0.limits, (p.0.corners, (p.0.there, (p.0.range, (p.1, (p.2, p.3)))))));
}
