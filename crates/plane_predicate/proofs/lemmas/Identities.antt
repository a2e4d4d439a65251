-- Equations between values and turns.
use Rattle.std.proofs.Common.{◌≡◌, [], ◌∷◌, refl, ◌∙◌, arith, ℤ, pos, ◌+ℤ◌, ◌-ℤ◌, ◌*ℤ◌, neg_ℤ}
use Rattle.plane_predicate.specs.Space.{Coefficients, Coordinates, value, orientation_seen_from, inner_product, meeting_by_cramers_rule, product_with}
use Rattle.plane_predicate.proofs.lemmas.IntegerRing.{sums}
use Rattle.plane_predicate.proofs.lemmas.Polynomials.{var, num, plus, times, minus, ring}
use Rattle.plane_predicate.proofs.lemmas.Vectors.{form, place, of_plane, of_point, valueP, determinantP, turnP, innerP, combineP, cramerP}

-- u p + v q
abbrev pub combine : ℤ → Coordinates → ℤ → Coordinates → Coordinates
combine u p v q = record { x = u *ℤ p.x +ℤ v *ℤ q.x; y = u *ℤ p.y +ℤ v *ℤ q.y; z = u *ℤ p.z +ℤ v *ℤ q.z; w = u *ℤ p.w +ℤ v *ℤ q.w }

-- the value is linear
pub value_combine : (m : Coefficients) (u : ℤ) (p : Coordinates) (v : ℤ) (q : Coordinates) → value m (combine u p v q) ≡ u *ℤ value m p +ℤ v *ℤ value m q
value_combine m u p v q =
    ring (of_plane m (of_point p (of_point q (u ∷ v ∷ []))))
    (valueP (form 0) (combineP (var 12) (place 4) (var 13) (place 8)))
    (plus (times (var 12) (valueP (form 0) (place 4))) (times (var 13) (valueP (form 0) (place 8)))) refl

-- Cramer's point is on its three planes
pub cramer_on_first : (p q r : Coefficients) → value p (meeting_by_cramers_rule p q r) ≡ pos 0
cramer_on_first p q r = ring (of_plane p (of_plane q (of_plane r []))) (valueP (form 0) (cramerP (form 0) (form 4) (form 8))) (num (pos 0)) refl

pub cramer_on_second : (p q r : Coefficients) → value q (meeting_by_cramers_rule p q r) ≡ pos 0
cramer_on_second p q r = ring (of_plane p (of_plane q (of_plane r []))) (valueP (form 4) (cramerP (form 0) (form 4) (form 8))) (num (pos 0)) refl

pub cramer_on_third : (p q r : Coefficients) → value r (meeting_by_cramers_rule p q r) ≡ pos 0
cramer_on_third p q r = ring (of_plane p (of_plane q (of_plane r []))) (valueP (form 8) (cramerP (form 0) (form 4) (form 8))) (num (pos 0)) refl

-- the volume of four points: 0 exactly where they lie on one plane
abbrev pub volume : Coordinates → Coordinates → Coordinates → Coordinates → ℤ
volume a b p q = a.w *ℤ product_with (record { a = b.x; b = b.y; c = b.z; d = pos 0 }) p q -ℤ b.w *ℤ product_with (record { a = a.x; b = a.y; c = a.z; d = pos 0 }) p q +ℤ p.w *ℤ product_with (record { a = a.x; b = a.y; c = a.z; d = pos 0 }) b q -ℤ q.w *ℤ product_with (record { a = a.x; b = a.y; c = a.z; d = pos 0 }) b p

-- any four points and the direction of n are dependent, as m sees them
pub dependent : (m n : Coefficients) (a b p q : Coordinates) →
    orientation_seen_from n b p q *ℤ value m a -ℤ orientation_seen_from n a p q *ℤ value m b +ℤ orientation_seen_from n a b q *ℤ value m p -ℤ orientation_seen_from n a b p *ℤ value m q ≡ pos 0 -ℤ volume a b p q *ℤ inner_product m n
dependent m n a b p q =
    let A = place 8 in let B = place 12 in let P = place 16 in let Q = place 20 in
    ring (of_plane m (of_plane n (of_point a (of_point b (of_point p (of_point q []))))))
    (minus (plus (minus (times (turnP (form 4) B P Q) (valueP (form 0) A)) (times (turnP (form 4) A P Q) (valueP (form 0) B))) (times (turnP (form 4) A B Q) (valueP (form 0) P))) (times (turnP (form 4) A B P) (valueP (form 0) Q)))
    (minus (num (pos 0)) (times (minus (plus (minus (times A.w (determinantP B.x B.y B.z P.x P.y P.z Q.x Q.y Q.z)) (times B.w (determinantP A.x A.y A.z P.x P.y P.z Q.x Q.y Q.z))) (times P.w (determinantP A.x A.y A.z B.x B.y B.z Q.x Q.y Q.z))) (times Q.w (determinantP A.x A.y A.z B.x B.y B.z P.x P.y P.z))) (innerP (form 0) (form 4)))) refl

-- the way along edge f, from its meeting with e to its meeting with g: left of it is behind f
pub turn_at_edge : (n e f g : Coefficients) (q : Coordinates) →
    orientation_seen_from n (meeting_by_cramers_rule n e f) (meeting_by_cramers_rule n f g) q ≡ value g (meeting_by_cramers_rule n e f) *ℤ (inner_product n n *ℤ value f q -ℤ value n q *ℤ inner_product f n)
turn_at_edge n e f g q =
    let N = form 0 in let E = form 4 in let F = form 8 in let G = form 12 in let Q = place 16 in
    ring (of_plane n (of_plane e (of_plane f (of_plane g (of_point q [])))))
    (turnP N (cramerP N E F) (cramerP N F G) Q)
    (times (valueP G (cramerP N E F)) (minus (times (innerP N N) (valueP F Q)) (times (valueP N Q) (innerP F N)))) refl

zero_minus : (x : ℤ) → pos 0 -ℤ x ≡ neg_ℤ x
zero_minus x = omega (arith, sums)

-- an orientation from another of its three points
pub turn_round : (n : Coefficients) (p q r : Coordinates) → orientation_seen_from n q r p ≡ orientation_seen_from n p q r
turn_round n p q r =
    ring (of_plane n (of_point p (of_point q (of_point r [])))) (turnP (form 0) (place 8) (place 12) (place 4)) (turnP (form 0) (place 4) (place 8) (place 12)) refl

-- the other way round
pub turn_back : (n : Coefficients) (p q r : Coordinates) → orientation_seen_from n q p r ≡ neg_ℤ (orientation_seen_from n p q r)
turn_back n p q r =
    ring (of_plane n (of_point p (of_point q (of_point r [])))) (turnP (form 0) (place 8) (place 4) (place 12)) (minus (num (pos 0)) (turnP (form 0) (place 4) (place 8) (place 12))) refl
    ∙ zero_minus (orientation_seen_from n p q r)

-- a point on p, q and r lies as their meeting does
pub as_cramer : (p q r m : Coefficients) (v : Coordinates) →
    (meeting_by_cramers_rule p q r).w *ℤ value m v -ℤ v.w *ℤ value m (meeting_by_cramers_rule p q r) ≡ value p v *ℤ (meeting_by_cramers_rule m q r).w +ℤ value q v *ℤ (meeting_by_cramers_rule p m r).w +ℤ value r v *ℤ (meeting_by_cramers_rule p q m).w
as_cramer p q r m v =
    let P = form 0 in let Q = form 4 in let R = form 8 in let M = form 12 in let V = place 16 in
    ring (of_plane p (of_plane q (of_plane r (of_plane m (of_point v [])))))
    (minus (times (determinantP P.a P.b P.c Q.a Q.b Q.c R.a R.b R.c) (valueP M V)) (times V.w (valueP M (cramerP P Q R))))
    (plus (plus (times (valueP P V) (determinantP M.a M.b M.c Q.a Q.b Q.c R.a R.b R.c)) (times (valueP Q V) (determinantP P.a P.b P.c M.a M.b M.c R.a R.b R.c))) (times (valueP R V) (determinantP P.a P.b P.c Q.a Q.b Q.c M.a M.b M.c))) refl

-- how much the value of m grows from p to q
abbrev pub growth : Coefficients → Coordinates → Coordinates → ℤ
growth m p q = p.w *ℤ value m q -ℤ q.w *ℤ value m p

-- four directions are dependent
pub growths : (n e f r : Coefficients) (p q : Coordinates) →
    (meeting_by_cramers_rule n e f).w *ℤ growth r p q -ℤ (meeting_by_cramers_rule n e r).w *ℤ growth f p q ≡ (meeting_by_cramers_rule e f r).w *ℤ growth n p q -ℤ (meeting_by_cramers_rule n f r).w *ℤ growth e p q
growths n e f r p q =
    let N = form 0 in let E = form 4 in let F = form 8 in let R = form 12 in let P = place 16 in let Q = place 20 in
    ring (of_plane n (of_plane e (of_plane f (of_plane r (of_point p (of_point q []))))))
    (minus (times (determinantP N.a N.b N.c E.a E.b E.c F.a F.b F.c) (minus (times P.w (valueP R Q)) (times Q.w (valueP R P)))) (times (determinantP N.a N.b N.c E.a E.b E.c R.a R.b R.c) (minus (times P.w (valueP F Q)) (times Q.w (valueP F P)))))
    (minus (times (determinantP E.a E.b E.c F.a F.b F.c R.a R.b R.c) (minus (times P.w (valueP N Q)) (times Q.w (valueP N P)))) (times (determinantP N.a N.b N.c F.a F.b F.c R.a R.b R.c) (minus (times P.w (valueP E Q)) (times Q.w (valueP E P))))) refl

-- Cramer's point with its last two planes exchanged has all signs changed
pub value_swapped : (m n e r : Coefficients) → value m (meeting_by_cramers_rule n r e) ≡ neg_ℤ (value m (meeting_by_cramers_rule n e r))
value_swapped m n e r =
    ring (of_plane m (of_plane n (of_plane e (of_plane r [])))) (valueP (form 0) (cramerP (form 4) (form 12) (form 8))) (minus (num (pos 0)) (valueP (form 0) (cramerP (form 4) (form 8) (form 12)))) refl
    ∙ zero_minus (value m (meeting_by_cramers_rule n e r))

pub weight_swapped : (n e r : Coefficients) → (meeting_by_cramers_rule n r e).w ≡ neg_ℤ (meeting_by_cramers_rule n e r).w
weight_swapped n e r =
    ring (of_plane n (of_plane e (of_plane r []))) (determinantP (var 0) (var 1) (var 2) (var 8) (var 9) (var 10) (var 4) (var 5) (var 6)) (minus (num (pos 0)) (determinantP (var 0) (var 1) (var 2) (var 4) (var 5) (var 6) (var 8) (var 9) (var 10))) refl
    ∙ zero_minus (meeting_by_cramers_rule n e r).w

-- the point p moved a little against the direction of n, p taken k times
abbrev pub moved : ℤ → Coordinates → Coefficients → Coordinates
moved k p n = record { x = k *ℤ p.x -ℤ n.a; y = k *ℤ p.y -ℤ n.b; z = k *ℤ p.z -ℤ n.c; w = k *ℤ p.w }

pub value_moved : (m n : Coefficients) (k : ℤ) (p : Coordinates) → value m (moved k p n) ≡ k *ℤ value m p -ℤ inner_product m n
value_moved m n k p =
    ring (of_plane m (of_plane n (of_point p (k ∷ []))))
    (valueP (form 0) (record { x = minus (times (var 12) (var 8)) (var 4); y = minus (times (var 12) (var 9)) (var 5); z = minus (times (var 12) (var 10)) (var 6); w = times (var 12) (var 11) }))
    (minus (times (var 12) (valueP (form 0) (place 8))) (innerP (form 0) (form 4))) refl
