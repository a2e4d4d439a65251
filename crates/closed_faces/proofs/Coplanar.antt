-- Turns of points on one plane, and determinants of four points.
use Rattle.std.proofs.Common.{◌≡◌, List, [], ◌∷◌, ◌+◌, ◌<◌, refl, sym, ap, ap₂, ◌∙◌, arith, ℤ, pos, ◌+ℤ◌, ◌-ℤ◌, ◌*ℤ◌, ◌<ℤ◌, ◌≤ℤ◌, unsigned_abs}
use Rattle.plane_predicate.specs.Space.{Coefficients, Coordinates, inner_product, orientation_seen_from, value}
use Rattle.plane_predicate.proofs.lemmas.IntegerRing.{sums, zero_mul}
use Rattle.plane_predicate.proofs.lemmas.Polynomials.{Poly, var, num, plus, times, minus, ring}
use Rattle.plane_predicate.proofs.lemmas.SamePlanes.{directed_above}
use Rattle.plane_predicate.proofs.lemmas.Signs.{zero_cancel}
use Rattle.plane_predicate.proofs.lemmas.Vectors.{Form, Place, determinantP, form, innerP, of_plane, of_point, place, turnP, valueP}
use Rattle.closed_faces.specs.Crossings.{meeting_point, volume}

abbrev volumeP : Place → Place → Place → Place → Poly
volumeP p q r s =
    minus (plus (minus (times p.x (determinantP q.y q.z q.w r.y r.z r.w s.y s.z s.w)) (times p.y (determinantP q.x q.z q.w r.x r.z r.w s.x s.z s.w))) (times p.z (determinantP q.x q.y q.w r.x r.y r.w s.x s.y s.w))) (times p.w (determinantP q.x q.y q.z r.x r.y r.z s.x s.y s.z))

pub no_times : (k x : ℤ) → k ≡ pos 0 → k *ℤ x ≡ pos 0
no_times k x e = ap (λ (t : ℤ). t *ℤ x) e ∙ zero_mul x

-- ---- turns
pub turn_round : (n : Coefficients) (p q r : Coordinates) → orientation_seen_from n q r p ≡ orientation_seen_from n p q r
turn_round n p q r = ring (of_plane n (of_point p (of_point q (of_point r [])))) (turnP (form 0) (place 8) (place 12) (place 4)) (turnP (form 0) (place 4) (place 8) (place 12)) refl

pub turn_back : (n : Coefficients) (p q r : Coordinates) → orientation_seen_from n q p r ≡ pos 0 -ℤ orientation_seen_from n p q r
turn_back n p q r = ring (of_plane n (of_point p (of_point q (of_point r [])))) (turnP (form 0) (place 8) (place 4) (place 12)) (minus (num (pos 0)) (turnP (form 0) (place 4) (place 8) (place 12))) refl

no_half : (t : ℤ) → t ≡ pos 0 -ℤ t → t ≡ pos 0
no_half t e = omega (arith, sums, e)

pub turn_none : (n : Coefficients) (p r : Coordinates) → orientation_seen_from n p p r ≡ pos 0
turn_none n p r = no_half (orientation_seen_from n p p r) (turn_back n p p r)

-- ---- five points
-- four points and the direction of a plane are dependent
five_points : (e n : Coefficients) (p q r s : Coordinates) → value e p *ℤ orientation_seen_from n q r s -ℤ value e q *ℤ orientation_seen_from n p r s +ℤ value e r *ℤ orientation_seen_from n p q s -ℤ value e s *ℤ orientation_seen_from n p q r ≡ inner_product e n *ℤ volume p q r s
five_points e n p q r s =
    let E = form 0 in let N = form 4 in let P = place 8 in let Q = place 12 in let R = place 16 in let S = place 20 in
    ring (of_plane e (of_plane n (of_point p (of_point q (of_point r (of_point s []))))))
    (minus (plus (minus (times (valueP E P) (turnP N Q R S)) (times (valueP E Q) (turnP N P R S))) (times (valueP E R) (turnP N P Q S))) (times (valueP E S) (turnP N P Q R)))
    (times (innerP E N) (volumeP P Q R S)) refl

four_none : (x y z t u v w s : ℤ) → x ≡ pos 0 → y ≡ pos 0 → z ≡ pos 0 → t ≡ pos 0 → x *ℤ u -ℤ y *ℤ v +ℤ z *ℤ w -ℤ t *ℤ s ≡ pos 0
four_none x y z t u v w s ex ey ez et = omega (arith, sums, no_times x u ex, no_times y v ey, no_times z w ez, no_times t s et)

-- a plane with a direction
abbrev pub HasDirection : Coefficients → Type 0
HasDirection n = 0 < unsigned_abs n.a + unsigned_abs n.b + unsigned_abs n.c

abbrev IsOn : Coefficients → Coordinates → Type 0
IsOn n p = value n p ≡ pos 0

no_volume : (n : Coefficients) (p q r s : Coordinates) → HasDirection n → IsOn n p → IsOn n q → IsOn n r → IsOn n s → volume p q r s ≡ pos 0
no_volume n p q r s d hp hq hr hs =
    zero_cancel (inner_product n n) (volume p q r s) (directed_above n d) (sym (five_points n n p q r s) ∙ four_none (value n p) (value n q) (value n r) (value n s) (orientation_seen_from n q r s) (orientation_seen_from n p r s) (orientation_seen_from n p q s) (orientation_seen_from n p q r) hp hq hr hs)

times_none : (k x : ℤ) → x ≡ pos 0 → k *ℤ x ≡ pos 0
times_none k x e = ap (λ (t : ℤ). k *ℤ t) e ∙ ring (k ∷ []) (times (var 0) (num (pos 0))) (num (pos 0)) refl

-- four points on one plane: any other plane's values at them, each times the orientation_seen_from of the others, sum to 0 by
-- turns
pub four_points : (e n : Coefficients) (p q r s : Coordinates) → HasDirection n → IsOn n p → IsOn n q → IsOn n r → IsOn n s → value e p *ℤ orientation_seen_from n q r s -ℤ value e q *ℤ orientation_seen_from n p r s +ℤ value e r *ℤ orientation_seen_from n p q s -ℤ value e s *ℤ orientation_seen_from n p q r ≡ pos 0
four_points e n p q r s d hp hq hr hs = five_points e n p q r s ∙ times_none (inner_product e n) (volume p q r s) (no_volume n p q r s d hp hq hr hs)

-- ---- a point x on the line in which h meets the plane, and two edges u, v and d, e that cross h
between_parts : (eu ev ed ee ex hu hv hd he dex uvx vdx udx vex uex uvd uve : ℤ) → eu *ℤ vdx -ℤ ev *ℤ udx +ℤ ed *ℤ uvx -ℤ ex *ℤ uvd ≡ pos 0 → eu *ℤ vex -ℤ ev *ℤ uex +ℤ ee *ℤ uvx -ℤ ex *ℤ uve ≡ pos 0 → hv *ℤ dex -ℤ hd *ℤ vex +ℤ he *ℤ vdx ≡ pos 0 → hu *ℤ dex -ℤ hd *ℤ uex +ℤ he *ℤ udx ≡ pos 0 →
    (hd *ℤ uve -ℤ he *ℤ uvd) *ℤ ex ≡ dex *ℤ (hv *ℤ eu -ℤ hu *ℤ ev) +ℤ uvx *ℤ (hd *ℤ ee -ℤ he *ℤ ed)
between_parts eu ev ed ee ex hu hv hd he dex uvx vdx udx vex uex uvd uve first second third fourth =
    let one = eu *ℤ vdx -ℤ ev *ℤ udx +ℤ ed *ℤ uvx -ℤ ex *ℤ uvd in
    let two = eu *ℤ vex -ℤ ev *ℤ uex +ℤ ee *ℤ uvx -ℤ ex *ℤ uve in
    let three = hv *ℤ dex -ℤ hd *ℤ vex +ℤ he *ℤ vdx in
    let four = hu *ℤ dex -ℤ hd *ℤ uex +ℤ he *ℤ udx in
    let EU = var 0 in let EV = var 1 in let ED = var 2 in let EE = var 3 in let EX = var 4 in let HU = var 5 in let HV = var 6 in let HD = var 7 in let HE = var 8 in
    let DEX = var 9 in let UVX = var 10 in let VDX = var 11 in let UDX = var 12 in let VEX = var 13 in let UEX = var 14 in let UVD = var 15 in let UVE = var 16 in
    let same = ring (eu ∷ ev ∷ ed ∷ ee ∷ ex ∷ hu ∷ hv ∷ hd ∷ he ∷ dex ∷ uvx ∷ vdx ∷ udx ∷ vex ∷ uex ∷ uvd ∷ uve ∷ [])
    (minus (times (minus (times HD UVE) (times HE UVD)) EX) (plus (times DEX (minus (times HV EU) (times HU EV))) (times UVX (minus (times HD EE) (times HE ED)))))
    (plus (minus (minus
    (times (minus (plus (minus (times EU VDX) (times EV UDX)) (times ED UVX)) (times EX UVD)) HE)
    (times (minus (plus (minus (times EU VEX) (times EV UEX)) (times EE UVX)) (times EX UVE)) HD))
    (times (plus (minus (times HV DEX) (times HD VEX)) (times HE VDX)) EU))
    (times (plus (minus (times HU DEX) (times HD UEX)) (times HE UDX)) EV)) refl in
    omega (arith, sums, same, no_times one he first, no_times two hd second, no_times three eu third, no_times four ev fourth)

less_none : (x y z t s : ℤ) → x -ℤ y +ℤ z -ℤ t ≡ pos 0 → t ≡ pos 0 → x -ℤ y +ℤ z ≡ pos 0
less_none x y z t s e f = omega (arith, sums, e, f)

pub between : (m h n : Coefficients) (u v d e x : Coordinates) → HasDirection n → IsOn n u → IsOn n v → IsOn n d → IsOn n e → IsOn n x → IsOn h x →
    (value h d *ℤ orientation_seen_from n u v e -ℤ value h e *ℤ orientation_seen_from n u v d) *ℤ value m x ≡ orientation_seen_from n d e x *ℤ (value h v *ℤ value m u -ℤ value h u *ℤ value m v) +ℤ orientation_seen_from n u v x *ℤ (value h d *ℤ value m e -ℤ value h e *ℤ value m d)
between m h n u v d e x dir hu hv hd he hx on =
    between_parts (value m u) (value m v) (value m d) (value m e) (value m x) (value h u) (value h v) (value h d) (value h e) (orientation_seen_from n d e x) (orientation_seen_from n u v x) (orientation_seen_from n v d x) (orientation_seen_from n u d x) (orientation_seen_from n v e x) (orientation_seen_from n u e x) (orientation_seen_from n u v d) (orientation_seen_from n u v e)
    (four_points m n u v d x dir hu hv hd hx) (four_points m n u v e x dir hu hv he hx)
    (less_none (value h v *ℤ orientation_seen_from n d e x) (value h d *ℤ orientation_seen_from n v e x) (value h e *ℤ orientation_seen_from n v d x) (value h x *ℤ orientation_seen_from n v d e) (pos 0) (four_points h n v d e x dir hv hd he hx) (no_times (value h x) (orientation_seen_from n v d e) on))
    (less_none (value h u *ℤ orientation_seen_from n d e x) (value h d *ℤ orientation_seen_from n u e x) (value h e *ℤ orientation_seen_from n u d x) (value h x *ℤ orientation_seen_from n u d e) (pos 0) (four_points h n u d e x dir hu hd he hx) (no_times (value h x) (orientation_seen_from n u d e) on))

-- ---- planes that see a point as a number
-- the weight
abbrev pub weight_plane : Coefficients
weight_plane = record { a = pos 0; b = pos 0; c = pos 0; d = pos 0 -ℤ pos 1 }

pub weight_seen : (p : Coordinates) → value weight_plane p ≡ p.w
weight_seen p = ring (of_point p []) (valueP (record { a = num (pos 0); b = num (pos 0); c = num (pos 0); d = minus (num (pos 0)) (num (pos 1)) }) (place 0)) (var 3) refl

-- the orientation_seen_from of an edge and a point: the plane through the edge along the direction of n
abbrev pub side_plane : Coefficients → Coordinates → Coordinates → Coefficients
side_plane n p q = record {
  a = p.w *ℤ (n.b *ℤ q.z -ℤ n.c *ℤ q.y) +ℤ q.w *ℤ (n.c *ℤ p.y -ℤ n.b *ℤ p.z);
  b = p.w *ℤ (n.c *ℤ q.x -ℤ n.a *ℤ q.z) +ℤ q.w *ℤ (n.a *ℤ p.z -ℤ n.c *ℤ p.x);
  c = p.w *ℤ (n.a *ℤ q.y -ℤ n.b *ℤ q.x) +ℤ q.w *ℤ (n.b *ℤ p.x -ℤ n.a *ℤ p.y);
  d = pos 0 -ℤ (n.a *ℤ (p.y *ℤ q.z -ℤ p.z *ℤ q.y) +ℤ n.b *ℤ (p.z *ℤ q.x -ℤ p.x *ℤ q.z) +ℤ n.c *ℤ (p.x *ℤ q.y -ℤ p.y *ℤ q.x));
}

pub side_seen : (n : Coefficients) (p q x : Coordinates) → value (side_plane n p q) x ≡ orientation_seen_from n p q x
side_seen n p q x =
    let N = form 0 in let P = place 4 in let Q = place 8 in let X = place 12 in
    ring (of_plane n (of_point p (of_point q (of_point x []))))
    (valueP (record {
      a = plus (times P.w (minus (times N.b Q.z) (times N.c Q.y))) (times Q.w (minus (times N.c P.y) (times N.b P.z)));
      b = plus (times P.w (minus (times N.c Q.x) (times N.a Q.z))) (times Q.w (minus (times N.a P.z) (times N.c P.x)));
      c = plus (times P.w (minus (times N.a Q.y) (times N.b Q.x))) (times Q.w (minus (times N.b P.x) (times N.a P.y)));
      d = minus (num (pos 0)) (plus (plus (times N.a (minus (times P.y Q.z) (times P.z Q.y))) (times N.b (minus (times P.z Q.x) (times P.x Q.z)))) (times N.c (minus (times P.x Q.y) (times P.y Q.x))));
    }) X)
    (turnP N P Q X) refl

-- ---- where a way meets a plane
pub value_meeting : (m n : Coefficients) (a b : Coordinates) → value m (meeting_point n a b) ≡ value n b *ℤ value m a -ℤ value n a *ℤ value m b
value_meeting m n a b =
    let M = form 0 in let N = form 4 in let A = place 8 in let B = place 12 in
    let u = valueP N B in let v = valueP N A in
    ring (of_plane m (of_plane n (of_point a (of_point b []))))
    (valueP M (record { x = minus (times u A.x) (times v B.x); y = minus (times u A.y) (times v B.y); z = minus (times u A.z) (times v B.z); w = minus (times u A.w) (times v B.w) }))
    (minus (times u (valueP M A)) (times v (valueP M B))) refl

swapped_sum : (u v s t k l z g : ℤ) → v *ℤ s -ℤ u *ℤ t +ℤ k -ℤ l ≡ g → k ≡ pos 0 → l ≡ pos 0 → z ≡ u *ℤ t -ℤ v *ℤ s → z ≡ pos 0 -ℤ g
swapped_sum u v s t k l z g e hk hl hz = omega (arith, sums, e, hk, hl, hz)

-- the orientation_seen_from of an edge of the plane and the point in which a way meets it
pub turn_meeting : (n : Coefficients) (a b p q : Coordinates) → IsOn n p → IsOn n q → orientation_seen_from n p q (meeting_point n a b) ≡ pos 0 -ℤ inner_product n n *ℤ volume a b p q
turn_meeting n a b p q hp hq =
    let side = side_plane n p q in
    let seen : orientation_seen_from n p q (meeting_point n a b) ≡ value n b *ℤ orientation_seen_from n a p q -ℤ value n a *ℤ orientation_seen_from n b p q =
    sym (side_seen n p q (meeting_point n a b)) ∙ value_meeting side n a b ∙ ap₂ (λ (x y : ℤ). value n b *ℤ x -ℤ value n a *ℤ y) (side_seen n p q a ∙ turn_round n a p q) (side_seen n p q b ∙ turn_round n b p q) in
    swapped_sum (value n b) (value n a) (orientation_seen_from n b p q) (orientation_seen_from n a p q) (value n p *ℤ orientation_seen_from n a b q) (value n q *ℤ orientation_seen_from n a b p) (orientation_seen_from n p q (meeting_point n a b)) (inner_product n n *ℤ volume a b p q)
    (five_points n n a b p q) (no_times (value n p) (orientation_seen_from n a b q) hp) (no_times (value n q) (orientation_seen_from n a b p) hq) seen

-- ---- four points in other orders
pub volume_pairs : (p q r s : Coordinates) → volume r s p q ≡ volume p q r s
volume_pairs p q r s = ring (of_point p (of_point q (of_point r (of_point s [])))) (volumeP (place 8) (place 12) (place 0) (place 4)) (volumeP (place 0) (place 4) (place 8) (place 12)) refl

pub volume_back : (p q r s : Coordinates) → volume p q s r ≡ pos 0 -ℤ volume p q r s
volume_back p q r s = ring (of_point p (of_point q (of_point r (of_point s [])))) (volumeP (place 0) (place 4) (place 12) (place 8)) (minus (num (pos 0)) (volumeP (place 0) (place 4) (place 8) (place 12))) refl
