-- The corners of a polygon as they are printed: reduced, and from the least one on.
use Rattle.std.proofs.Common.{◌≡◌, ⊎_elim, ℕ, zero, suc, ◌-◌, ◌<◌, ◌≤◌, Bool, true, false, List, [], ◌∷◌, ◌++◌, map, length, get_or, take, drop, refl, sym, ap, ◌∙◌, subst, arith, length-append, All, ℤ, pos, ◌<ℤ◌}
use Rattle.std.proofs.lemmas.List.{map-append, take-append-drop, get_or_append_left, get_or-append_right, get_or-drop, get_or-take, length-drop, length-take-le}
use Rattle.std.proofs.lemmas.Simd.{map-map}
use Rattle.std.proofs.lemmas.List.Elements.{All-from_get_or, All-append, All-take, All-drop}
use Rattle.plane_predicate.specs.declared.unit.Unit.{Unit as LengthUnit}
use Rattle.plane_predicate.specs.Space.{Coordinates, IsPointTimes, HasNoCommonFactor, origin}
use Rattle.plane_predicate.specs.InUnits.{in_units}
use Rattle.plane_predicate.specs.Units.{grid_steps_per_unit}
use Rattle.plane_predicate.proofs.lemmas.InUnits.{steps_above}
use Rattle.plane_predicate.proofs.lemmas.Signs.{pos_cancel, pos_pos}
use Rattle.plane_polygon.specs.Polygons.{Outline, edge_count, corner, IsPolygon, AreReducedFrom}
use Rattle.plane_polygon.specs.Parts.{corners}
use Rattle.plane_polygon.proofs.lemmas.Rounds.{step, step_is, step_below, at_most}
use Rattle.closed_surface.specs.Printing.{AreInUnits, IsRoundOf}
use Rattle.off_text.specs.Reading.{IsPrintedVertex}
use Rattle.off_text.specs.Texts.{comes_before, corners_in_units, place_of_least, from_least}
use Rattle.off_text.proofs.Least.{IsLeastOf, least_first, least_new, least_kept, least_found}
use Rattle.plane_predicate.specs.Indices.{indices_below}

map-indices_below-length : (f : ℕ → Coordinates) (n : ℕ) → length (map f (indices_below n)) ≡ n
map-indices_below-length f zero = refl
map-indices_below-length f (suc n) =
    ap length (map-append f (indices_below n) (n ∷ [])) ∙ length-append (map f (indices_below n)) (f n ∷ []) ∙ omega (arith, map-indices_below-length f n)

map-indices_below : (f : ℕ → Coordinates) (n i : ℕ) → i < n → get_or (map f (indices_below n)) i origin ≡ f i
map-indices_below f zero i h = absurd (omega arith)
map-indices_below f (suc n) i h =
    ap (λ (l : List Coordinates). get_or l i origin) (map-append f (indices_below n) (n ∷ []))
    ∙ ⊎_elim
    (λ e. get_or-append_right (map f (indices_below n)) (f n ∷ []) n i origin (map-indices_below-length f n) (omega arith)
    ∙ (let z : i - n ≡ 0 = omega arith in ap (λ (j : ℕ). get_or (f n ∷ []) j origin) z) ∙ ap f (sym e))
    (λ b. get_or_append_left (map f (indices_below n)) (f n ∷ []) origin i (omega (arith, map-indices_below-length f n)) ∙ map-indices_below f n i b)
    (at_most i n (omega arith))

reduced-length : (ps qs : List Coordinates) → AreReducedFrom ps qs → length qs ≡ length ps
reduced-length [] [] h = refl
reduced-length [] (q ∷ qs) h = absurd h
reduced-length (p ∷ ps) [] h = absurd h
reduced-length (p ∷ ps) (q ∷ qs) h = ap suc (reduced-length ps qs h.2)

reduced-at : (ps qs : List Coordinates) → AreReducedFrom ps qs → (i : ℕ) → i < length ps → IsPointTimes (get_or ps i origin) (get_or qs i origin) × HasNoCommonFactor (get_or qs i origin)
reduced-at [] [] h i l = absurd (omega arith)
reduced-at [] (q ∷ qs) h i l = absurd h
reduced-at (p ∷ ps) [] h i l = absurd h
reduced-at (p ∷ ps) (q ∷ qs) h zero l = (h.0, h.1)
reduced-at (p ∷ ps) (q ∷ qs) h (suc i) l = reduced-at ps qs h.2 i (omega arith)

-- ---- the reduced corners of a polygon, in units
module _ (unit : LengthUnit) (s : Outline) (found : List Coordinates) (h : AreReducedFrom (corners_in_units unit s) found) where
  abbrev point : ℕ → Coordinates
  point i = in_units unit (corner s i)

  each : AreReducedFrom (map point (indices_below (edge_count s))) found
  each = subst (λ (ps : List Coordinates). AreReducedFrom ps found) (map-map (in_units unit) (corner s) (indices_below (edge_count s))) h

  pub found-length : length found ≡ edge_count s
  found-length = reduced-length (map point (indices_below (edge_count s))) found each ∙ map-indices_below-length point (edge_count s)

  found-at : (i : ℕ) → i < edge_count s → IsPointTimes (in_units unit (corner s i)) (get_or found i origin) × HasNoCommonFactor (get_or found i origin)
  found-at i l =
      subst (λ (p : Coordinates). IsPointTimes p (get_or found i origin) × HasNoCommonFactor (get_or found i origin)) (map-indices_below point (edge_count s) i l)
      (reduced-at (map point (indices_below (edge_count s))) found each i (omega (arith, map-indices_below-length point (edge_count s))))

  pub found_are_vertices : IsPolygon s → All IsPrintedVertex found
  found_are_vertices polygon =
      All-from_get_or IsPrintedVertex found origin (λ i l.
      let b : i < edge_count s = omega (arith, found-length) in
      let at = found-at i b in
      let weight = pos_pos (grid_steps_per_unit unit) (corner s i).w (steps_above unit) (polygon.turns_left i b) in
      record {
        weight = pos_cancel at.0.by (get_or found i origin).w at.0.above (subst (λ (w : ℤ). pos 0 <ℤ w) at.0.w weight);
        reduced = at.1.reduced;
      })

-- ---- the least corner
next_least : (corners : List Coordinates) (i least : ℕ) → IsLeastOf corners i least → i < length corners → (b : Bool) → comes_before (get_or corners i origin) (get_or corners least origin) ≡ b →
    (next : ℕ) × IsLeastOf corners (suc i) next
next_least corners i least h l true e = (i, least_new corners i least h l e)
next_least corners i least h l false e = (least, least_kept corners i least h e)

least_of : (corners : List Coordinates) (i : ℕ) → suc i ≤ length corners → (least : ℕ) × IsLeastOf corners (suc i) least
least_of corners zero l = (0, least_first corners)
least_of corners (suc i) l =
    let before = least_of corners i (omega arith) in
    next_least corners (suc i) before.0 before.1 (omega arith) _ refl

pub least_within : (corners : List Coordinates) → 0 < length corners → place_of_least corners < length corners
least_within [] h = absurd (omega arith)
least_within (p ∷ corners) h =
    let l = least_of (p ∷ corners) (length corners) (omega arith) in
    subst (λ (n : ℕ). n < length (p ∷ corners)) (least_found (p ∷ corners) (suc (length corners)) l.0 l.1 (omega arith)) (l.1.within (omega arith))

-- ---- from another corner on
turned-length : (points : List Coordinates) (a : ℕ) → a ≤ length points → length (drop a points ++ take a points) ≡ length points
turned-length points a h = length-append (drop a points) (take a points) ∙ omega (arith, length-drop a points, length-take-le a points h)

turned-at : (points : List Coordinates) (a i : ℕ) → a < length points → i < length points →
    get_or (drop a points ++ take a points) i origin ≡ get_or points (step (length points) a i) origin
turned-at points a i h l =
    ⊎_elim
    (λ p. get_or_append_left (drop a points) (take a points) origin i (omega (arith, length-drop a points, p.1))
    ∙ get_or-drop a points i origin ∙ ap (λ (n : ℕ). get_or points n origin) (sym p.0))
    (λ p. get_or-append_right (drop a points) (take a points) (length points - a) i origin (length-drop a points) (omega (arith, p))
    ∙ get_or-take a points (i - (length points - a)) origin (omega (arith, p, l))
    ∙ (let e : i - (length points - a) ≡ step (length points) a i = omega (arith, p, h) in ap (λ (n : ℕ). get_or points n origin) e))
    (step_is (length points) a i h l)

-- points that are a polygon's corners in units, from one of them on
pub record ArePrinted (unit : LengthUnit) (s : Outline) (points : List Coordinates) : Type 0 where
  pub count : length points ≡ edge_count s
  pub round : IsRoundOf unit (corners s) points
  pub start : ℕ
  pub starts : start < edge_count s
  pub at : (i : ℕ) → i < edge_count s → IsPointTimes (in_units unit (corner s (step (edge_count s) start i))) (get_or points i origin)

reduced_units : (unit : LengthUnit) (ps qs : List Coordinates) → AreReducedFrom (map (in_units unit) ps) qs → AreInUnits unit ps qs
reduced_units unit [] [] h = tt
reduced_units unit [] (q ∷ qs) h = absurd h
reduced_units unit (p ∷ ps) [] h = absurd h
reduced_units unit (p ∷ ps) (q ∷ qs) h = (h.0, reduced_units unit ps qs h.2)

turned_round : (unit : LengthUnit) (ps qs : List Coordinates) (a : ℕ) → AreInUnits unit ps qs → IsRoundOf unit ps (drop a qs ++ take a qs)
turned_round unit ps qs a h = record { front = take a qs; back = drop a qs; places = subst (AreInUnits unit ps) (sym (take-append-drop a qs)) h; order = refl }

pub printed : (unit : LengthUnit) (s : Outline) (found : List Coordinates) → IsPolygon s → AreReducedFrom (corners_in_units unit s) found → ArePrinted unit s (from_least found)
printed unit s found polygon h =
    let count = found-length unit s found h in
    let some : 0 < length found = omega (arith, count, polygon.three) in
    let least = least_within found some in
    let starts : place_of_least found < edge_count s = omega (arith, count, least) in
    record {
      count = turned-length found (place_of_least found) (omega (arith, least)) ∙ count;
      round = turned_round unit (corners s) found (place_of_least found) (reduced_units unit (corners s) found h);
      start = place_of_least found;
      starts = starts;
      at = λ i l. subst (λ (q : Coordinates). IsPointTimes (in_units unit (corner s (step (edge_count s) (place_of_least found) i))) q)
          (sym (turned-at found (place_of_least found) i least (omega (arith, count, l)) ∙ ap (λ (k : ℕ). get_or found (step k (place_of_least found) i) origin) count))
          (found-at unit s found h (step (edge_count s) (place_of_least found) i) (step_below (edge_count s) (place_of_least found) i starts)).0;
    }

-- what holds of all points holds of them from another one on
pub All-from_least : (P : Coordinates → Type 0) (found : List Coordinates) → All P found → All P (from_least found)
All-from_least P found h =
    All-append P (drop (place_of_least found) found) (take (place_of_least found) found) (All-drop P (place_of_least found) found h) (All-take P (place_of_least found) found h)
