-- Points as they are seen from a point that a plane has ahead: in the central projection onto a parallel plane, the three turns
-- of a triangle sum to one number whose sign tells the side of the triangle's plane.
use Rattle.std.proofs.Common.{◌≡◌, [], ◌∷◌, ◌+◌, ◌<◌, refl, sym, ap, ◌∙◌, arith, ℤ, pos, ◌+ℤ◌, ◌-ℤ◌, ◌*ℤ◌, ◌<ℤ◌, ◌≤ℤ◌, unsigned_abs}
use Rattle.plane_predicate.specs.Space.{Coefficients, Coordinates, determinant, inner_product, plane_of_points, value}
use Rattle.plane_predicate.proofs.lemmas.IntegerRing.{sums}
use Rattle.plane_predicate.proofs.lemmas.Polynomials.{Poly, var, num, plus, times, minus, ring}
use Rattle.plane_predicate.proofs.lemmas.SamePlanes.{directed_above}
use Rattle.plane_predicate.proofs.lemmas.Signs.{least_cancel, most_most, neg_pos}
use Rattle.plane_predicate.proofs.lemmas.Vectors.{Form, Place, determinantP, form, innerP, of_plane, of_point, place, valueP}
use Rattle.primitives.proofs.lemmas.Moves.{throughP, whole, wholeP}
use Rattle.primitives.proofs.lemmas.OnePlane.{in_proportion, GoesThrough}

-- how far a point is behind the plane's parallel through q, counted by q's weight
abbrev pub depth : Coefficients → Coordinates → Coordinates → ℤ
depth m q u = value m q -ℤ q.w *ℤ value m u

-- the turn from one point to another, as seen from q along the plane's direction
abbrev pub swing : Coefficients → Coordinates → Coordinates → Coordinates → ℤ
swing m q u v = determinant m.a m.b m.c (q.w *ℤ u.x -ℤ q.x) (q.w *ℤ u.y -ℤ q.y) (q.w *ℤ u.z -ℤ q.z) (q.w *ℤ v.x -ℤ q.x) (q.w *ℤ v.y -ℤ q.y) (q.w *ℤ v.z -ℤ q.z)

pub swing_back : (m : Coefficients) (q u v : Coordinates) → swing m q v u ≡ pos 0 -ℤ swing m q u v
swing_back m q u v =
    let u1 = q.w *ℤ u.x -ℤ q.x in let u2 = q.w *ℤ u.y -ℤ q.y in let u3 = q.w *ℤ u.z -ℤ q.z in let v1 = q.w *ℤ v.x -ℤ q.x in let v2 = q.w *ℤ v.y -ℤ q.y in let v3 = q.w *ℤ v.z -ℤ q.z in
    ring (m.a ∷ m.b ∷ m.c ∷ u1 ∷ u2 ∷ u3 ∷ v1 ∷ v2 ∷ v3 ∷ [])
    (determinantP (var 0) (var 1) (var 2) (var 6) (var 7) (var 8) (var 3) (var 4) (var 5))
    (minus (num (pos 0)) (determinantP (var 0) (var 1) (var 2) (var 3) (var 4) (var 5) (var 6) (var 7) (var 8))) refl

-- the product of a direction with a vector
abbrev dot : ℤ → ℤ → ℤ → ℤ → ℤ → ℤ → ℤ
dot a b c x y z = a *ℤ x +ℤ b *ℤ y +ℤ c *ℤ z

abbrev dotP : Poly → Poly → Poly → Poly → Poly → Poly → Poly
dotP a b c x y z = plus (plus (times a x) (times b y)) (times c z)

-- four vectors of space are dependent
four_vectors : (a b c d e f g h i j k l : ℤ) →
    dot a b c j k l *ℤ determinant a b c d e f g h i +ℤ dot a b c d e f *ℤ determinant a b c g h i j k l +ℤ dot a b c g h i *ℤ determinant a b c j k l d e f ≡ dot a b c a b c *ℤ determinant d e f g h i j k l
four_vectors a b c d e f g h i j k l =
    let A = var 0 in let B = var 1 in let C = var 2 in let D = var 3 in let E = var 4 in let F = var 5 in let G = var 6 in let H = var 7 in let I = var 8 in let J = var 9 in let K = var 10 in let L = var 11 in
    ring (a ∷ b ∷ c ∷ d ∷ e ∷ f ∷ g ∷ h ∷ i ∷ j ∷ k ∷ l ∷ [])
    (plus (plus (times (dotP A B C J K L) (determinantP A B C D E F G H I)) (times (dotP A B C D E F) (determinantP A B C G H I J K L))) (times (dotP A B C G H I) (determinantP A B C J K L D E F)))
    (times (dotP A B C A B C) (determinantP D E F G H I J K L)) refl

depth_seen : (m : Coefficients) (q : Coordinates) (x y z : ℤ) → depth m q (whole x y z) ≡ pos 0 -ℤ dot m.a m.b m.c (q.w *ℤ x -ℤ q.x) (q.w *ℤ y -ℤ q.y) (q.w *ℤ z -ℤ q.z)
depth_seen m q x y z =
    let Q = place 4 in let U = wholeP 8 in
    ring (of_plane m (of_point q (x ∷ y ∷ z ∷ [])))
    (minus (valueP (form 0) Q) (times Q.w (valueP (form 0) U)))
    (minus (num (pos 0)) (dotP (var 0) (var 1) (var 2) (minus (times Q.w U.x) Q.x) (minus (times Q.w U.y) Q.y) (minus (times Q.w U.z) Q.z))) refl

-- the volume that a triangle spans with q
volume_seen : (q : Coordinates) (a b c d e f g h i : ℤ) →
    determinant (q.w *ℤ a -ℤ q.x) (q.w *ℤ b -ℤ q.y) (q.w *ℤ c -ℤ q.z) (q.w *ℤ d -ℤ q.x) (q.w *ℤ e -ℤ q.y) (q.w *ℤ f -ℤ q.z) (q.w *ℤ g -ℤ q.x) (q.w *ℤ h -ℤ q.y) (q.w *ℤ i -ℤ q.z)
    ≡ pos 0 -ℤ (q.w *ℤ q.w) *ℤ value (plane_of_points (whole a b c) (whole d e f) (whole g h i)) q
volume_seen q a b c d e f g h i =
    let Q = place 0 in let U = wholeP 4 in let V = wholeP 7 in let X = wholeP 10 in
    let part = λ (s t : Poly). minus (times Q.w s) t in
    ring (of_point q (a ∷ b ∷ c ∷ d ∷ e ∷ f ∷ g ∷ h ∷ i ∷ []))
    (determinantP (part U.x Q.x) (part U.y Q.y) (part U.z Q.z) (part V.x Q.x) (part V.y Q.y) (part V.z Q.z) (part X.x Q.x) (part X.y Q.y) (part X.z Q.z))
    (minus (num (pos 0)) (times (times Q.w Q.w) (valueP (throughP U V X) Q))) refl

turned_signs : (gu gv gx s t r n w v d : ℤ) → gx *ℤ s +ℤ gu *ℤ t +ℤ gv *ℤ r ≡ n *ℤ d → d ≡ pos 0 -ℤ w *ℤ v → (pos 0 -ℤ gx) *ℤ s +ℤ (pos 0 -ℤ gu) *ℤ t +ℤ (pos 0 -ℤ gv) *ℤ r ≡ n *ℤ (w *ℤ v)
turned_signs gu gv gx s t r n w v d e f =
    let first = ring (gu ∷ gv ∷ gx ∷ s ∷ t ∷ r ∷ []) (plus (plus (times (minus (num (pos 0)) (var 2)) (var 3)) (times (minus (num (pos 0)) (var 0)) (var 4))) (times (minus (num (pos 0)) (var 1)) (var 5)))
    (minus (num (pos 0)) (plus (plus (times (var 2) (var 3)) (times (var 0) (var 4))) (times (var 1) (var 5)))) refl in
    let second = ring (n ∷ w ∷ v ∷ []) (minus (num (pos 0)) (times (var 0) (minus (num (pos 0)) (times (var 1) (var 2))))) (times (var 0) (times (var 1) (var 2))) refl in
    first ∙ ap (λ (z : ℤ). pos 0 -ℤ z) (e ∙ ap (λ (z : ℤ). n *ℤ z) f) ∙ second

-- the turns of a triangle, each times the depth of the third point
pub triangle_seen : (m : Coefficients) (q : Coordinates) (a b c d e f g h i : ℤ) →
    let U = whole a b c in let V = whole d e f in let X = whole g h i in
    depth m q X *ℤ swing m q U V +ℤ depth m q U *ℤ swing m q V X +ℤ depth m q V *ℤ swing m q X U ≡ inner_product m m *ℤ ((q.w *ℤ q.w) *ℤ value (plane_of_points U V X) q)
triangle_seen m q a b c d e f g h i =
    let u1 = q.w *ℤ a -ℤ q.x in let u2 = q.w *ℤ b -ℤ q.y in let u3 = q.w *ℤ c -ℤ q.z in
    let v1 = q.w *ℤ d -ℤ q.x in let v2 = q.w *ℤ e -ℤ q.y in let v3 = q.w *ℤ f -ℤ q.z in
    let x1 = q.w *ℤ g -ℤ q.x in let x2 = q.w *ℤ h -ℤ q.y in let x3 = q.w *ℤ i -ℤ q.z in
    let U = whole a b c in let V = whole d e f in let X = whole g h i in
    let s = swing m q U V in let t = swing m q V X in let r = swing m q X U in
    let now : depth m q X *ℤ s +ℤ depth m q U *ℤ t +ℤ depth m q V *ℤ r ≡ (pos 0 -ℤ dot m.a m.b m.c x1 x2 x3) *ℤ s +ℤ (pos 0 -ℤ dot m.a m.b m.c u1 u2 u3) *ℤ t +ℤ (pos 0 -ℤ dot m.a m.b m.c v1 v2 v3) *ℤ r =
    λ n. depth_seen m q g h i n *ℤ s +ℤ depth_seen m q a b c n *ℤ t +ℤ depth_seen m q d e f n *ℤ r in
    now ∙ turned_signs (dot m.a m.b m.c u1 u2 u3) (dot m.a m.b m.c v1 v2 v3) (dot m.a m.b m.c x1 x2 x3) s t r (inner_product m m) (q.w *ℤ q.w) (value (plane_of_points U V X) q) (determinant u1 u2 u3 v1 v2 v3 x1 x2 x3)
    (four_vectors m.a m.b m.c u1 u2 u3 v1 v2 v3 x1 x2 x3) (volume_seen q a b c d e f g h i)

-- each point is moved along its ray to one depth: the turns of a triangle sum to one number
pub scaled_triangle : (k su sv sx hu hv hx s t r : ℤ) → su *ℤ hu ≡ k → sv *ℤ hv ≡ k → sx *ℤ hx ≡ k → k *ℤ (su *ℤ sv *ℤ s +ℤ (sv *ℤ sx *ℤ t +ℤ sx *ℤ su *ℤ r)) ≡ (su *ℤ sv *ℤ sx) *ℤ (hx *ℤ s +ℤ hu *ℤ t +ℤ hv *ℤ r)
scaled_triangle k su sv sx hu hv hx s t r eu ev ex =
    let one : k *ℤ (su *ℤ sv *ℤ s) ≡ (su *ℤ sv *ℤ sx) *ℤ (hx *ℤ s) = ap (λ (z : ℤ). z *ℤ (su *ℤ sv *ℤ s)) (sym ex) ∙ ring (su ∷ sv ∷ sx ∷ hx ∷ s ∷ []) (times (times (var 2) (var 3)) (times (times (var 0) (var 1)) (var 4))) (times (times (times (var 0) (var 1)) (var 2)) (times (var 3) (var 4))) refl in
    let two : k *ℤ (sv *ℤ sx *ℤ t) ≡ (su *ℤ sv *ℤ sx) *ℤ (hu *ℤ t) = ap (λ (z : ℤ). z *ℤ (sv *ℤ sx *ℤ t)) (sym eu) ∙ ring (su ∷ sv ∷ sx ∷ hu ∷ t ∷ []) (times (times (var 0) (var 3)) (times (times (var 1) (var 2)) (var 4))) (times (times (times (var 0) (var 1)) (var 2)) (times (var 3) (var 4))) refl in
    let three : k *ℤ (sx *ℤ su *ℤ r) ≡ (su *ℤ sv *ℤ sx) *ℤ (hv *ℤ r) = ap (λ (z : ℤ). z *ℤ (sx *ℤ su *ℤ r)) (sym ev) ∙ ring (su ∷ sv ∷ sx ∷ hv ∷ r ∷ []) (times (times (var 1) (var 3)) (times (times (var 2) (var 0)) (var 4))) (times (times (times (var 0) (var 1)) (var 2)) (times (var 3) (var 4))) refl in
    let left = ring (k ∷ (su *ℤ sv *ℤ s) ∷ (sv *ℤ sx *ℤ t) ∷ (sx *ℤ su *ℤ r) ∷ []) (times (var 0) (plus (var 1) (plus (var 2) (var 3)))) (plus (times (var 0) (var 1)) (plus (times (var 0) (var 2)) (times (var 0) (var 3)))) refl in
    let right = ring ((su *ℤ sv *ℤ sx) ∷ (hx *ℤ s) ∷ (hu *ℤ t) ∷ (hv *ℤ r) ∷ []) (times (var 0) (plus (plus (var 1) (var 2)) (var 3))) (plus (plus (times (var 0) (var 1)) (times (var 0) (var 2))) (times (var 0) (var 3))) refl in
    omega (arith, sums, one, two, three, left, right)

-- ---- the side of a triangle's plane
-- the plane's direction, as a point without a weight
abbrev beyond : Coefficients → Coordinates
beyond n = record { x = n.a; y = n.b; z = n.c; w = pos 0 }

value_beyond : (n t : Coefficients) → value t (beyond n) ≡ inner_product n t
value_beyond n t = ring (of_plane n (of_plane t [])) (valueP (form 4) (record { x = var 0; y = var 1; z = var 2; w = num (pos 0) })) (innerP (form 0) (form 4)) refl

not_behind : (k x y z : ℤ) → k *ℤ x ≡ y *ℤ z → pos 0 <ℤ k → y <ℤ pos 0 → z ≤ℤ pos 0 → pos 0 ≤ℤ x
not_behind k x y z e hk hy hz = least_cancel k x hk (omega (arith, sums, e, most_most y z (omega (arith, sums, hy)) hz))

-- a point behind a plane isn't behind the plane of a triangle in it that goes round clockwise
pub clockwise_side : (n : Coefficients) (a b c d e g h i j : ℤ) → let A = whole a b c in let B = whole d e g in let C = whole h i j in
    GoesThrough n A B C → 0 < unsigned_abs n.a + unsigned_abs n.b + unsigned_abs n.c → inner_product n (plane_of_points A B C) ≤ℤ pos 0 → (q : Coordinates) → value n q <ℤ pos 0 → pos 0 ≤ℤ value (plane_of_points A B C) q
clockwise_side n a b c d e g h i j t directed clockwise q behind =
    let T = plane_of_points (whole a b c) (whole d e g) (whole h i j) in
    let same : inner_product n n *ℤ value T q ≡ value n q *ℤ inner_product n T =
    sym (ap (λ (z : ℤ). z *ℤ value T q) (value_beyond n n)) ∙ in_proportion n a b c d e g h i j t (beyond n) q ∙ ap (λ (z : ℤ). value n q *ℤ z) (value_beyond n T) in
    not_behind (inner_product n n) (value T q) (value n q) (inner_product n T) same (directed_above n directed) behind clockwise
