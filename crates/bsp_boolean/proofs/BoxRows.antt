-- The faces of a box one behind another, each cut by those before it.
use Rattle.std.proofs.Common.{◌≡◌, false, if◌then◌else◌, [], ◌∷◌, refl, ap, ap₂, ◌∙◌}
use Rattle.plane_predicate.specs.Space.{Coefficients, opposite_of, is_same}
use Rattle.plane_predicate.specs.declared.sides.Side.TheVariants as lying
use Rattle.plane_polygon.specs.declared.classes.Class.TheVariants.{Behind}
use Rattle.plane_polygon.specs.Parallels.{HasAllOn}
use Rattle.plane_polygon.specs.Polygons.{Outline, IsPolygon}
use Rattle.plane_polygon.specs.Parts.{class_of, part_behind}
use Rattle.plane_polygon.proofs.lemmas.BoxStarts.{four}
use Rattle.bsp_tree.specs.Trees.{BspTree, inside, outside, node, node_or_leaf}
use Rattle.bsp_tree.specs.Partitions.{divide, parts_by_class}
use Rattle.bsp_boolean.specs.Chains.{part_behind_all}
use Rattle.bsp_boolean.proofs.Rectangles.{CutsTo, cut_first, cut_second, cut_third, cut_fourth, lies_behind}

-- neither the same nor opposite numbers
pub record IsApart (t s : Coefficients) : Type 0 where
  pub same : is_same t s ≡ false
  pub opposite : is_same t (opposite_of s) ≡ false

-- ---- the first face of a chain, behind the plane of one more face
across : (t s u v : Outline) (b c : BspTree) → IsApart t.plane s.plane → CutsTo s t.plane v → CutsTo t s.plane u → (divide b v).0 ≡ c →
    (divide (node t b outside) s).0 ≡ node_or_leaf u c outside
across t s u v b c k p q e =
    let row : (divide (node t b outside) s).0 ≡ node_or_leaf (part_behind t s.plane) (divide b (part_behind s t.plane)).0 outside =
    λ i. (if k.same i then (b, outside) else (if k.opposite i then (outside, b) else
    parts_by_class (p.across i) (q.across i) s t b outside (divide b s) (outside, outside) (divide b (part_behind s t.plane)) (outside, outside))).0 in
    row ∙ ap₂ (λ (r : Outline) (w : BspTree). node_or_leaf r w outside) q.part (ap (λ (r : Outline). (divide b r).0) p.part ∙ e)

passes : (t s : Outline) (b c : BspTree) → IsApart t.plane s.plane → class_of s t.plane ≡ Behind → class_of t s.plane ≡ Behind → (divide b s).0 ≡ c →
    (divide (node t b outside) s).0 ≡ node_or_leaf t c outside
passes t s b c k p q e =
    let row : (divide (node t b outside) s).0 ≡ node_or_leaf t (divide b s).0 outside =
    λ i. (if k.same i then (b, outside) else (if k.opposite i then (outside, b) else
    parts_by_class (p i) (q i) s t b outside (divide b s) (outside, outside) (divide b (part_behind s t.plane)) (outside, outside))).0 in
    row ∙ ap (λ (w : BspTree). node_or_leaf t w outside) e

-- one face more
before : (s : Outline) (b c d : BspTree) → b ≡ c → (divide c s).0 ≡ d → node_or_leaf s (divide b s).0 outside ≡ node_or_leaf s d outside
before s b c d e k = ap (λ (w : BspTree). node_or_leaf s w outside) (ap (λ (w : BspTree). (divide w s).0) e ∙ k)

-- ---- four parallel planes: of the world box, the low and the high one of a box, and of the world box. The low ones face
-- one way, and the high ones the other
pub record Axis (l m n h : Coefficients) : Type 0 where
  pub l_m : HasAllOn l m lying.Ahead
  pub n_m : HasAllOn n m lying.Behind
  pub h_m : HasAllOn h m lying.Behind
  pub l_n : HasAllOn l n lying.Behind
  pub m_n : HasAllOn m n lying.Behind
  pub h_n : HasAllOn h n lying.Ahead
  pub m_l : HasAllOn m l lying.Behind
  pub m_h : HasAllOn m h lying.Behind
  pub n_l : HasAllOn n l lying.Behind
  pub n_h : HasAllOn n h lying.Behind

-- the planes of two pairs are apart
pub record AreApartPairs (m n u v : Coefficients) : Type 0 where
  pub m_u : IsApart m u
  pub m_v : IsApart m v
  pub n_u : IsApart n u
  pub n_v : IsApart n v

-- ---- the faces along z, behind those along y
record BehindY (lx hx ly yl yh hy lz zl zh hz : Coefficients) : Type 0 where
  pub tree : part_behind_all (four yl lx lz hx hz ∷ four yh lx hz hx lz ∷ four zl lx hy hx ly ∷ four zh lx ly hx hy ∷ [])
      ≡ node (four yl lx lz hx hz) (node (four yh lx hz hx lz) (node (four zl lx yh hx yl) (node (four zh lx yl hx yh) inside outside) outside) outside) outside
  pub low : IsPolygon (four zl lx yh hx yl)
  pub high : IsPolygon (four zh lx yl hx yh)

behind_y : (lx hx ly yl yh hy lz zl zh hz : Coefficients) → Axis ly yl yh hy → Axis lz zl zh hz →
    IsApart yh yl → IsApart zh zl → AreApartPairs zl zh yl yh →
    IsPolygon (four yl lx lz hx hz) → IsPolygon (four yh lx hz hx lz) → IsPolygon (four zl lx hy hx ly) → IsPolygon (four zh lx ly hx hy) →
    BehindY lx hx ly yl yh hy lz zl zh hz
behind_y lx hx ly yl yh hy lz zl zh hz y z ay az k p3 p4 p5 p6 =
    let s3 : Outline = four yl lx lz hx hz in
    let s4 : Outline = four yh lx hz hx lz in
    let s5 : Outline = four zl lx hy hx ly in
    let s6 : Outline = four zh lx ly hx hy in
    -- the low face along z before the high one
    let five = before s5 (part_behind_all (s6 ∷ [])) (node s6 inside outside) (node s6 inside outside) refl
    (passes s6 s5 inside inside az (lies_behind zl lx hy hx ly zh p5 z.m_n) (lies_behind zh lx ly hx hy zl p6 z.n_m) refl) in
    -- the high face along y
    let c4 = cut_fourth yh lx hz hx lz zl p4 z.h_m z.l_m in
    let d4 = cut_second yh lx hz hx zl zh c4.polygon z.h_n z.m_n in
    let c5 = cut_second zl lx hy hx ly yh p5 y.h_n y.l_n in
    let c6 = cut_fourth zh lx ly hx hy yh p6 y.l_n y.h_n in
    let s5b : Outline = four zl lx yh hx ly in
    let s6b : Outline = four zh lx ly hx yh in
    let four_six = across s6 (four yh lx hz hx zl) s6b (four yh lx zh hx zl) inside inside k.n_v d4 c6 refl in
    let four_five = across s5 s4 s5b (four yh lx hz hx zl) (node s6 inside outside) (node s6b inside outside) k.m_v c4 c5 four_six in
    let four_all = before s4 (part_behind_all (s5 ∷ s6 ∷ [])) (node s5 (node s6 inside outside) outside) (node s5b (node s6b inside outside) outside) five four_five in
    -- the low face along y
    let c3 = cut_second yl lx lz hx hz zl p3 z.l_m z.h_m in
    let d3 = cut_fourth yl lx zl hx hz zh c3.polygon z.m_n z.h_n in
    let e5 = cut_fourth zl lx yh hx ly yl c5.polygon y.n_m y.l_m in
    let e6 = cut_second zh lx ly hx yh yl c6.polygon y.l_m y.n_m in
    let s5c : Outline = four zl lx yh hx yl in
    let s6c : Outline = four zh lx yl hx yh in
    let three_six = across s6b (four yl lx zl hx hz) s6c (four yl lx zl hx zh) inside inside k.n_u d3 e6 refl in
    let three_five = across s5b s3 s5c (four yl lx zl hx hz) (node s6b inside outside) (node s6c inside outside) k.m_u c3 e5 three_six in
    let three_four = passes s4 s3 (node s5b (node s6b inside outside) outside) (node s5c (node s6c inside outside) outside) ay
    (lies_behind yl lx lz hx hz yh p3 y.m_n) (lies_behind yh lx hz hx lz yl p4 y.n_m) three_five in
    record {
      tree = before s3 (part_behind_all (s4 ∷ s5 ∷ s6 ∷ [])) (node s4 (node s5b (node s6b inside outside) outside) outside)
          (node s4 (node s5c (node s6c inside outside) outside) outside) four_all three_four;
      low = e5.polygon;
      high = e6.polygon;
    }

-- ---- and all of them behind those along x
pub record IsBoxed (lx xl xh hx ly yl yh hy lz zl zh hz : Coefficients) : Type 0 where
  pub tree : part_behind_all (four xl ly hz hy lz ∷ four xh ly lz hy hz ∷ four yl lx lz hx hz ∷ four yh lx hz hx lz ∷ four zl lx hy hx ly ∷ four zh lx ly hx hy ∷ [])
      ≡ node (four xl ly hz hy lz) (node (four xh ly lz hy hz) (node (four yl lz xh hz xl) (node (four yh hz xh lz xl)
      (node (four zl yh xh yl xl) (node (four zh yl xh yh xl) inside outside) outside) outside) outside) outside) outside
  pub y_low : IsPolygon (four yl lz xh hz xl)
  pub y_high : IsPolygon (four yh hz xh lz xl)
  pub z_low : IsPolygon (four zl yh xh yl xl)
  pub z_high : IsPolygon (four zh yl xh yh xl)

pub boxed : (lx xl xh hx ly yl yh hy lz zl zh hz : Coefficients) → Axis lx xl xh hx → Axis ly yl yh hy → Axis lz zl zh hz →
    IsApart xh xl → IsApart yh yl → IsApart zh zl → AreApartPairs yl yh xl xh → AreApartPairs zl zh xl xh → AreApartPairs zl zh yl yh →
    IsPolygon (four xl ly hz hy lz) → IsPolygon (four xh ly lz hy hz) → IsPolygon (four yl lx lz hx hz) → IsPolygon (four yh lx hz hx lz) →
    IsPolygon (four zl lx hy hx ly) → IsPolygon (four zh lx ly hx hy) → IsBoxed lx xl xh hx ly yl yh hy lz zl zh hz
boxed lx xl xh hx ly yl yh hy lz zl zh hz x y z ax ay az kyx kzx kzy p1 p2 p3 p4 p5 p6 =
    let s1 : Outline = four xl ly hz hy lz in
    let s2 : Outline = four xh ly lz hy hz in
    let s3 : Outline = four yl lx lz hx hz in
    let s4 : Outline = four yh lx hz hx lz in
    let t5 : Outline = four zl lx yh hx yl in
    let t6 : Outline = four zh lx yl hx yh in
    let rest = behind_y lx hx ly yl yh hy lz zl zh hz y z ay az kzy p3 p4 p5 p6 in
    -- the high face along x
    let c2 = cut_first xh ly lz hy hz yl p2 y.l_m y.h_m in
    let d2 = cut_second xh lz hy hz yl yh c2.polygon y.h_n y.m_n in
    let e2 = cut_first xh lz yh hz yl zl d2.polygon z.l_m z.h_m in
    let f2 = cut_second xh yh hz yl zl zh e2.polygon z.h_n z.m_n in
    let c3 = cut_third yl lx lz hx hz xh p3 x.l_n x.h_n in
    let c4 = cut_third yh lx hz hx lz xh p4 x.l_n x.h_n in
    let c5 = cut_third zl lx yh hx yl xh rest.low x.l_n x.h_n in
    let c6 = cut_third zh lx yl hx yh xh rest.high x.l_n x.h_n in
    let s3b : Outline = four yl lx lz xh hz in
    let s4b : Outline = four yh lx hz xh lz in
    let s5b : Outline = four zl lx yh xh yl in
    let s6b : Outline = four zh lx yl xh yh in
    let b6 : BspTree = node s6b inside outside in
    let b5 : BspTree = node s5b b6 outside in
    let b4 : BspTree = node s4b b5 outside in
    let two_six = across t6 (four xh yh hz yl zl) s6b (four xh yh zh yl zl) inside inside kzx.n_v f2 c6 refl in
    let two_five = across t5 (four xh lz yh hz yl) s5b (four xh yh hz yl zl) (node t6 inside outside) b6 kzx.m_v e2 c5 two_six in
    let two_four = across s4 (four xh lz hy hz yl) s4b (four xh lz yh hz yl) (node t5 (node t6 inside outside) outside) b5 kyx.n_v d2 c4 two_five in
    let two_three = across s3 s2 s3b (four xh lz hy hz yl) (node s4 (node t5 (node t6 inside outside) outside) outside) b4 kyx.m_v c2 c3 two_four in
    let two_all = before s2 (part_behind_all (s3 ∷ s4 ∷ four zl lx hy hx ly ∷ four zh lx ly hx hy ∷ [])) (node s3 (node s4 (node t5 (node t6 inside outside) outside) outside) outside)
    (node s3b b4 outside) rest.tree two_three in
    -- the low face along x
    let c1 = cut_first xl ly hz hy lz yl p1 y.l_m y.h_m in
    let d1 = cut_second xl hz hy lz yl yh c1.polygon y.h_n y.m_n in
    let e1 = cut_third xl hz yh lz yl zl d1.polygon z.h_m z.l_m in
    let f1 = cut_first xl hz yh zl yl zh e1.polygon z.h_n z.m_n in
    let e3 = cut_first yl lx lz xh hz xl c3.polygon x.l_m x.n_m in
    let e4 = cut_first yh lx hz xh lz xl c4.polygon x.l_m x.n_m in
    let e5 = cut_first zl lx yh xh yl xl c5.polygon x.l_m x.n_m in
    let e6 = cut_first zh lx yl xh yh xl c6.polygon x.l_m x.n_m in
    let a6 : BspTree = node (four zh yl xh yh xl) inside outside in
    let a5 : BspTree = node (four zl yh xh yl xl) a6 outside in
    let a4 : BspTree = node (four yh hz xh lz xl) a5 outside in
    let a3 : BspTree = node (four yl lz xh hz xl) a4 outside in
    let one_six = across s6b (four xl hz yh zl yl) (four zh yl xh yh xl) (four xl yh zl yl zh) inside inside kzx.n_u f1 e6 refl in
    let one_five = across s5b (four xl hz yh lz yl) (four zl yh xh yl xl) (four xl hz yh zl yl) b6 a6 kzx.m_u e1 e5 one_six in
    let one_four = across s4b (four xl hz hy lz yl) (four yh hz xh lz xl) (four xl hz yh lz yl) b5 a5 kyx.n_u d1 e4 one_five in
    let one_three = across s3b s1 (four yl lz xh hz xl) (four xl hz hy lz yl) b4 a4 kyx.m_u c1 e3 one_four in
    let one_two = passes s2 s1 (node s3b b4 outside) a3 ax (lies_behind xl ly hz hy lz xh p1 x.m_n) (lies_behind xh ly lz hy hz xl p2 x.n_m) one_three in
    record {
      tree = before s1 (part_behind_all (s2 ∷ s3 ∷ s4 ∷ four zl lx hy hx ly ∷ four zh lx ly hx hy ∷ [])) (node s2 (node s3b b4 outside) outside) (node s2 a3 outside) two_all one_two;
      y_low = e3.polygon;
      y_high = e4.polygon;
      z_low = e5.polygon;
      z_high = e6.polygon;
    }
